-- The start of a run is sound.
use Rattle.std.proofs.Common.{◌≡◌, ◌≢◌, ◌⊎◌, inl, inr, ℕ, ◌+◌, ◌-◌, ◌*◌, ◌/◌, ◌<◌, ◌≤◌, Bool, true, false, cond, ◌&&◌, eqb, ltb, min, List, [], ◌∷◌, ◌++◌, length, get_or, map, replicate, Option, Some, None, refl, sym, ap, subst, ◌∙◌, arith, zero, suc}
use Rattle.std.specs.Prelude.{slice_get, slice_index, nat_lt}
use Rattle.std.proofs.lemmas.Bool.Decides.{nat_tests}
use Rattle.std.proofs.lemmas.Bool.{eqb-true, eqb-false, eq-eqb, ne_eqb}
use Rattle.std.proofs.lemmas.List.{length-replicate, length_push, get_or-replicate}
use Rattle.std.proofs.lemmas.Nat.{div_below, le-div}
use Rattle.std.proofs.lemmas.Option.{none-some, slice_get_within, get_or_from_slice_get, slice_get-get_or}
use Rattle.std.proofs.Math.Nat.{mul_comm}
use Rattle.adfs_base.specs.Shape.{Extents, IsShape, limit_of, pool_of}
use Rattle.match_context.specs.Bags.{total}
use Rattle.match_context.specs.Tree.{Tree}
use Rattle.match_context.specs.declared.message.Message.{Message}
use Rattle.match_context.proofs.Totals.{total-push}
use Rattle.fabric.specs.Shared.{Shared, IsShared, IsUnit, start, place, inbox_place, inbox_at}
use Rattle.fabric.proofs.Starts.{start-shared, alike}
use Rattle.dfs_worker.specs.Census.{Census, count, of_slot, one, credits_of, flying_of, buffers_of}
use Rattle.dfs_worker.specs.Sound.{IsWorker, WithinRoots}
use Rattle.dfs_worker.specs.State.{State, fresh, no_slots}
use Rattle.world_core.specs.Sound.{Sound, AreMarks, IsPlaced, enrolled_of, queued, homes_in}
use Rattle.world_core.specs.World.{World, world_of, Fits, roots_of, fresh_workers, start_world}
use Rattle.world_core.proofs.Marks.{none-marked}
use Rattle.world_core.proofs.Words.{place-within}

-- ---- lists
at-end : {A : Type 0} (xs : List A) (y u : A) (j : ℕ) → slice_get (xs ++ y ∷ []) j ≡ Some u → ((j ≡ length xs) × (u ≡ y)) ⊎ (slice_get xs j ≡ Some u)
at-end [] y u zero e = inl (refl, cc)
at-end [] y u (suc j) e = inr e
at-end (x ∷ xs) y u zero e = inr e
at-end (x ∷ xs) y u (suc j) e = elim (at-end xs y u j e) [ inl p ↦ inl (ap suc p.0, p.1) | inr q ↦ inr q ]

pub total-alike : {A : Type 0} (f : A → ℕ) (x : A) (n : ℕ) → f x ≡ 0 → total f (replicate n x) ≡ 0
total-alike f x zero e = refl
total-alike f x (suc n) e = let rest = total-alike f x n e in omega (arith, e, rest)

-- ---- roots
pub roots-length : (tree : Tree) (n : ℕ) → length (roots_of tree n) ≡ n
roots-length tree zero = refl
roots-length tree (suc n) = length_push (roots_of tree n) (tree.roots n) ∙ (let e = roots-length tree n in omega arith)

pub roots-at : (tree : Tree) (n m : ℕ) → m < n → slice_get (roots_of tree n) m ≡ Some (tree.roots m)
roots-at tree zero m h = absurd (omega arith)
roots-at tree (suc n) m h =
    let size = roots-length tree n in
    let more = length_push (roots_of tree n) (tree.roots n) in
    let found = slice_get-get_or (roots_of tree n ++ tree.roots n ∷ []) m 0 (omega arith) in
    elim (at-end (roots_of tree n) (tree.roots n) (get_or (roots_of tree n ++ tree.roots n ∷ []) m 0) m found) [
      | inl p ↦ found ∙ ap Some (p.1 ∙ ap tree.roots (sym (p.0 ∙ size)))
      | inr q ↦ found ∙ sym q ∙ roots-at tree n m (let low = slice_get_within (roots_of tree n) m _ q in omega arith)
    ]

-- ---- workers
pub workers-length : (shape : Extents) (n : ℕ) → length (fresh_workers shape n) ≡ n
workers-length shape zero = refl
workers-length shape (suc n) = length_push (fresh_workers shape n) (fresh shape n (n / shape.workers)) ∙ (let e = workers-length shape n in omega arith)

workers-at : (shape : Extents) (n i : ℕ) (v : State) → slice_get (fresh_workers shape n) i ≡ Some v → v ≡ fresh shape i (i / shape.workers)
workers-at shape zero i v e = absurd (none-some v e)
workers-at shape (suc n) i v e = elim (at-end (fresh_workers shape n) (fresh shape n (n / shape.workers)) v i e) [
  | inl p ↦ p.1 ∙ ap (λ j. fresh shape j (j / shape.workers)) (sym (p.0 ∙ workers-length shape n))
  | inr q ↦ workers-at shape n i v q
]

-- a fresh worker holds nothing
fresh-count : (census : Census) (shape : Extents) (i m : ℕ) → count census (fresh shape i m) ≡ 0
fresh-count census shape i m = let none = total-alike (of_slot census.opened) None (shape.stages * shape.machines) refl in omega arith

workers-count : (census : Census) (shape : Extents) (n : ℕ) → total (count census) (fresh_workers shape n) ≡ 0
workers-count census shape zero = refl
workers-count census shape (suc n) =
    let one_more = fresh-count census shape n (n / shape.workers) in
    let sum = total-push (count census) (fresh_workers shape n) (fresh shape n (n / shape.workers)) in
    let rest = workers-count census shape n in
    omega arith

-- the workers of a machine: those from m * W up to m * W + W
row : (m W : ℕ) → (m + 1) * W ≡ m * W + W
row m W = grind arith

is-of : (n m W : ℕ) → 0 < W → ((eqb (n / W) m ≡ true) × (m * W ≤ n) × (n < m * W + W)) ⊎ ((eqb (n / W) m ≡ false) × ((n < m * W) ⊎ (m * W + W ≤ n)))
is-of n m W some = first (nat_lt n (m * W)) refl
  where
    here : (b : Bool) → nat_lt n (m * W) ≡ false → nat_lt n (m * W + W) ≡ b → ((eqb (n / W) m ≡ true) × (m * W ≤ n) × (n < m * W + W)) ⊎ ((eqb (n / W) m ≡ false) × ((n < m * W) ⊎ (m * W + W ≤ n)))
    here true low high =
        let l : m * W ≤ n = grind (arith, nat_tests, low) in
        let h : n < m * W + W = grind (arith, nat_tests, high) in
        let least = le-div m n W some l in
        let r = row m W in
        let most = div_below n W (m + 1) some (omega arith) in
        inl (eq-eqb (n / W) m (omega arith), l, h)
    here false low high =
        let h : m * W + W ≤ n = grind (arith, nat_tests, high) in
        let r = row m W in
        let least = le-div (m + 1) n W some (omega arith) in
        inr (ne_eqb (n / W) m (λ same. omega arith), inr h)

    first : (b : Bool) → nat_lt n (m * W) ≡ b → ((eqb (n / W) m ≡ true) × (m * W ≤ n) × (n < m * W + W)) ⊎ ((eqb (n / W) m ≡ false) × ((n < m * W) ⊎ (m * W + W ≤ n)))
    first false low = here (nat_lt n (m * W + W)) low refl
    first true low =
        let l : n < m * W = grind (arith, nat_tests, low) in
        let most = div_below n W m some l in
        inr (ne_eqb (n / W) m (λ same. omega arith), inl l)

enrolled-more : (shape : Extents) (m n : ℕ) →
    total (enrolled_of m) (fresh_workers shape n) ≡ min n (m * shape.workers + shape.workers) - min n (m * shape.workers) →
    ((eqb (n / shape.workers) m ≡ true) × (m * shape.workers ≤ n) × (n < m * shape.workers + shape.workers)) ⊎ ((eqb (n / shape.workers) m ≡ false) × ((n < m * shape.workers) ⊎ (m * shape.workers + shape.workers ≤ n))) →
    total (enrolled_of m) (fresh_workers shape (suc n)) ≡ min (suc n) (m * shape.workers + shape.workers) - min (suc n) (m * shape.workers)
enrolled-more shape m n rest (inl y) =
    let sum = total-push (enrolled_of m) (fresh_workers shape n) (fresh shape n (n / shape.workers)) in
    let me : enrolled_of m (fresh shape n (n / shape.workers)) ≡ one true = ap one y.0 in
    let low = y.1 in
    let high = y.2 in
    omega arith
enrolled-more shape m n rest (inr z) =
    let sum = total-push (enrolled_of m) (fresh_workers shape n) (fresh shape n (n / shape.workers)) in
    let me : enrolled_of m (fresh shape n (n / shape.workers)) ≡ one false = ap one z.0 in
    elim z.1 [ inl low ↦ omega arith | inr high ↦ omega arith ]

enrolled-count : (shape : Extents) (m n : ℕ) → 0 < shape.workers →
    total (enrolled_of m) (fresh_workers shape n) ≡ min n (m * shape.workers + shape.workers) - min n (m * shape.workers)
enrolled-count shape m zero some = omega arith
enrolled-count shape m (suc n) some = enrolled-more shape m n (enrolled-count shape m n some) (is-of n m shape.workers some)

-- ---- the world
fresh-worker : (shape : Extents) (i : ℕ) → IsShape shape → i < shape.machines * shape.workers → IsWorker (fresh shape i (i / shape.workers))
fresh-worker shape i is within =
    let some = is.some_worker in
    record {
      shape = is;
      machine = div_below i shape.workers shape.machines some within;
      stack = tt;
      slots = record {
        stages = refl;
        machines = refl;
        places = length-replicate (shape.stages * shape.machines) None;
        each_open = λ at message e. absurd (none-at (shape.stages * shape.machines) at message e);
      };
      hand = tt;
      mark_stages = refl;
      mark_machines = refl;
    }
  where
    none-at : (n at : ℕ) (message : Message) → get_or (replicate n None) at None ≡ Some message → ⊥
    none-at zero at message e = none-some message e
    none-at (suc n) zero message e = none-some message e
    none-at (suc n) (suc at) message e = none-at n at message e

pub zero-at : (n i : ℕ) → get_or {A = ℕ} (replicate n 0) i 0 ≡ zero
zero-at zero i = refl
zero-at (suc n) zero = refl
zero-at (suc n) (suc i) = zero-at n i

-- an inbox at the start is empty
empty-inbox : (shape : Extents) (place i : ℕ) (messages : List Message) (message : Message) → slice_get (replicate (shape.machines * shape.stages) []) place ≡ Some messages → slice_get messages i ≡ Some message → ⊥
empty-inbox shape place i messages message there at =
    let none = alike (shape.machines * shape.stages) [] place messages there in
    none-some message (sym (ap (λ ms. slice_get ms i) none) ∙ at)

pub start-sound : (shape : Extents) (tree : Tree) → IsShape shape → Sound (start_world shape tree)
start-sound shape tree is =
    record {
      tables = start-shared shape (roots_of tree shape.machines) is (roots-length tree shape.machines);
      number_of_workers = workers-length shape (shape.machines * shape.workers);
      placed = λ i v at. let same = workers-at shape (shape.machines * shape.workers) i v at in
          record { number = ap (λ u. u.number) same; machine = ap (λ u. u.machine) same; shape = ap (λ u. u.shape) same };
      used = λ m k n unit.
          let u = zero-at (shape.machines * shape.stages * shape.machines) ((m * shape.stages + k) * shape.machines + n) in
          let c = workers-count (credits_of m k n) shape (shape.machines * shape.workers) in
          rw (u, c) refl;
      flying = λ m k n unit.
          let u = zero-at (shape.machines * shape.stages * shape.machines) ((m * shape.stages + k) * shape.machines + n) in
          let q = total-alike (queued m k n) [] (shape.machines * shape.stages) refl in
          let c = workers-count (flying_of m k n) shape (shape.machines * shape.workers) in
          rw (u, q, c) refl;
      limits = λ m k n unit.
          let u = zero-at (shape.machines * shape.stages * shape.machines) ((m * shape.stages + k) * shape.machines + n) in
          omega arith;
      own = λ i v at.
          let same = workers-at shape (shape.machines * shape.workers) i v at in
          let within = slice_get_within (fresh_workers shape (shape.machines * shape.workers)) i v at in
          let size = workers-length shape (shape.machines * shape.workers) in
          subst IsWorker (sym same) (fresh-worker shape i is (omega arith));
      pools = λ home low.
          let p = get_or-replicate shape.machines home (pool_of shape) 0 low in
          let q = total-alike (homes_in home) [] (shape.machines * shape.stages) refl in
          let c = workers-count (buffers_of home) shape (shape.machines * shape.workers) in
          rw (p, q, c) (omega arith);
      enrolled = λ m low.
          let e = get_or-replicate shape.machines m shape.workers 0 low in
          let c = enrolled-count shape m (shape.machines * shape.workers) is.some_worker in
          let last = last-row m shape.machines shape.workers low in
          omega arith;
      retired = λ i v at left. absurd (let e = ap (λ u. u.enrolled) (workers-at shape (shape.machines * shape.workers) i v at) in cc);
      messages = λ machine stage i messages message low inside at. absurd (empty-inbox shape (machine * shape.stages + stage) i messages message inside at);
      cursors = λ m low. let z = zero-at shape.machines m in omega arith;
      closed = record { enrolled = λ some. absurd (omega arith); used = λ m k n unit low. absurd (omega arith) };
      marks = λ i v at. subst (λ (u : State). AreMarks (start shape (roots_of tree shape.machines)) u.marks) (sym (workers-at shape (shape.machines * shape.workers) i v at))
          (none-marked (start shape (roots_of tree shape.machines)) shape.machines shape.stages);
      claimed = λ i v at. subst (λ (u : State). WithinRoots (get_or (replicate shape.machines 0) u.machine 0) u.stack) (sym (workers-at shape (shape.machines * shape.workers) i v at)) tt;
    }
  where
    last-row : (m M W : ℕ) → m < M → m * W + W ≤ M * W
    last-row m M W h = grind arith

pub start-fits : (shape : Extents) (tree : Tree) → shape.stages ≡ tree.stages → shape.machines ≡ tree.machines → Fits tree (start_world shape tree).shared
start-fits shape tree stages machines =
    record {
      stages = stages;
      machines = machines;
      same_roots = λ m low. get_or_from_slice_get (roots_of tree shape.machines) m (tree.roots m) 0 (roots-at tree shape.machines m low);
    }

-- the parts of a new world
pub new-is : (shape : Extents) (tree : Tree) (found roots : List ℕ) (workers : List State) (s : Shared) → workers ≡ fresh_workers shape (shape.machines * shape.workers) → s ≡ start shape found → found ≡ roots →
    roots ≡ roots_of tree tree.machines → shape.machines ≡ tree.machines → world_of workers s ≡ start_world shape tree
new-is shape tree found roots workers s fresh_ones started same are machines =
    ap (λ ws. world_of ws s) fresh_ones
    ∙ ap (λ h. world_of (fresh_workers shape (shape.machines * shape.workers)) h) (started ∙ ap (start shape) (same ∙ are ∙ ap (roots_of tree) (sym machines)))
