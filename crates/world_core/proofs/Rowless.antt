-- The rows of all workers, taken out one worker after the other.
use Rattle.std.proofs.Common.{◌≡◌, ℕ, ◌+◌, ◌<◌, false, List, [], ◌∷◌, ◌++◌, length, get_or, append_assoc, Some, refl, sym, ap, subst, ◌∙◌, arith, zero, suc}
use Rattle.std.specs.Prelude.{slice_get, slice_set}
use Rattle.std.proofs.lemmas.Nat.{mul-le}
use Rattle.std.proofs.lemmas.Option.{none-some}
use Rattle.match_context.specs.Bags.{total}
use Rattle.match_context.specs.declared.context.Context.{Context}
use Rattle.fabric.specs.Shared.{Shared, cursor_at, roots_at}
use Rattle.dfs_worker.specs.declared.hand.Hand.{Hand}
use Rattle.dfs_worker.specs.declared.hand.Hand.TheVariants.{Free, Charged, Posted, Popped, Emptied}
use Rattle.dfs_worker.specs.Census.{count, credits_of, flying_of, buffers_of}
use Rattle.dfs_worker.specs.Sound.{IsHand, IsWorker, WithinRoots}
use Rattle.dfs_worker.specs.State.{State}
use Rattle.world_core.specs.Rows.{all_rows, rows_at, without_rows_at}
use Rattle.world_core.specs.Sound.{Sound, IsPlaced, AreMarks, enrolled_of}
use Rattle.world_core.specs.World.{World, world_of}

-- ---- one worker gives its rows
abbrev pub rowless : State → State
rowless v = record v { rows = [] }

pub rows-read : (vs : List State) (i : ℕ) (d : State) → i < length vs → rows_at vs i ≡ (get_or vs i d).rows
rows-read [] i d low = absurd (omega arith)
rows-read (v ∷ vs) zero d low = refl
rows-read (v ∷ vs) (suc i) d low = rows-read vs i d (omega arith)

pub rowless-set : (vs : List State) (i : ℕ) (d : State) → i < length vs → slice_set vs i (rowless (get_or vs i d)) ≡ without_rows_at vs i
rowless-set [] i d low = absurd (omega arith)
rowless-set (v ∷ vs) zero d low = refl
rowless-set (v ∷ vs) (suc i) d low = ap (λ us. v ∷ us) (rowless-set vs i d (omega arith))

-- ---- so many workers have given theirs
abbrev pub first_rowless : ℕ → List State → List State
first_rowless zero vs = vs
first_rowless (suc n) [] = []
first_rowless (suc n) (v ∷ vs) = rowless v ∷ first_rowless n vs

abbrev pub first_rows : ℕ → List State → List Context
first_rows zero vs = []
first_rows (suc n) [] = []
first_rows (suc n) (v ∷ vs) = v.rows ++ first_rows n vs

pub first-more : (n : ℕ) (vs : List State) → n < length vs → first_rows (suc n) vs ≡ first_rows n vs ++ rows_at (first_rowless n vs) n
first-more zero [] low = absurd (omega arith)
first-more zero (v ∷ vs) low = none v.rows
  where
    none : (xs : List Context) → xs ++ [] ≡ xs
    none [] = refl
    none (x ∷ xs) = ap (λ ys. x ∷ ys) (none xs)
first-more (suc n) [] low = absurd (omega arith)
first-more (suc n) (v ∷ vs) low = ap (λ xs. v.rows ++ xs) (first-more n vs (omega arith)) ∙ sym (append_assoc v.rows (first_rows n vs) (rows_at (first_rowless n vs) n))

pub first-next : (n : ℕ) (vs : List State) → n < length vs → without_rows_at (first_rowless n vs) n ≡ first_rowless (suc n) vs
first-next zero [] low = absurd (omega arith)
first-next zero (v ∷ vs) low = refl
first-next (suc n) [] low = absurd (omega arith)
first-next (suc n) (v ∷ vs) low = ap (λ us. rowless v ∷ us) (first-next n vs (omega arith))

pub first-all : (vs : List State) → first_rows (length vs) vs ≡ all_rows vs
first-all [] = refl
first-all (v ∷ vs) = ap (λ xs. v.rows ++ xs) (first-all vs)

pub first-length : (n : ℕ) (vs : List State) → length (first_rowless n vs) ≡ length vs
first-length zero vs = refl
first-length (suc n) [] = refl
first-length (suc n) (v ∷ vs) = ap suc (first-length n vs)

-- ---- a world is as sound without them
get-rowless : (vs : List State) (j i : ℕ) (u : State) → slice_get (without_rows_at vs j) i ≡ Some u → (v : State) × ((slice_get vs i ≡ Some v) × ((rows : List Context) × (u ≡ record v { rows = rows })))
get-rowless [] j i u e = absurd (none-some u e)
get-rowless (v ∷ vs) zero zero u e = (v, (refl, ([], cc)))
get-rowless (v ∷ vs) zero (suc i) u e = (u, (e, (u.rows, refl)))
get-rowless (v ∷ vs) (suc j) zero u e = (v, (refl, (v.rows, cc)))
get-rowless (v ∷ vs) (suc j) (suc i) u e = get-rowless vs j i u e

total-rowless : (f : State → ℕ) → ((v : State) → f (rowless v) ≡ f v) → (vs : List State) (j : ℕ) → total f (without_rows_at vs j) ≡ total f vs
total-rowless f same [] j = refl
total-rowless f same (v ∷ vs) zero = let a = same v in omega arith
total-rowless f same (v ∷ vs) (suc j) = let b = total-rowless f same vs j in omega arith

length-rowless : (vs : List State) (j : ℕ) → length (without_rows_at vs j) ≡ length vs
length-rowless [] j = refl
length-rowless (v ∷ vs) zero = refl
length-rowless (v ∷ vs) (suc j) = ap suc (length-rowless vs j)

abbrev with_rows : State → List Context → State
with_rows v rows = record v { rows = rows }

hand-rowless : (v : State) (rows : List Context) (hand : Hand) → IsHand v hand → IsHand (with_rows v rows) hand
hand-rowless v rows Free is = is
hand-rowless v rows (Charged k n) is = is
hand-rowless v rows (Posted b) is = is
hand-rowless v rows (Popped b) is = is
hand-rowless v rows (Emptied m k) is = is

worker-rowless : (v : State) (rows : List Context) → IsWorker v → IsWorker (with_rows v rows)
worker-rowless v rows is =
    record {
      shape = is.shape;
      machine = is.machine;
      stack = is.stack;
      slots = is.slots;
      hand = hand-rowless v rows v.hand is.hand;
      mark_stages = is.mark_stages;
      mark_machines = is.mark_machines;
    }

rowless-sound : (vs : List State) (j : ℕ) (s : Shared) → Sound (world_of vs s) → Sound (world_of (without_rows_at vs j) s)
rowless-sound vs j s sound =
    record {
      tables = sound.tables;
      number_of_workers = length-rowless vs j ∙ sound.number_of_workers;
      placed = λ i u e. let x = get-rowless vs j i u e in
          let p = sound.placed i x.0 x.1.0 in
          subst (λ y. IsPlaced s i y) (sym x.1.1.1) (record { number = p.number; machine = p.machine; shape = p.shape });
      used = λ m k n unit. let a = sound.used m k n unit in let b = total-rowless (count (credits_of m k n)) (λ v. refl) vs j in omega arith;
      flying = λ m k n unit. let a = sound.flying m k n unit in let b = total-rowless (count (flying_of m k n)) (λ v. refl) vs j in omega arith;
      limits = sound.limits;
      own = λ i u e. let x = get-rowless vs j i u e in subst IsWorker (sym x.1.1.1) (worker-rowless x.0 x.1.1.0 (sound.own i x.0 x.1.0));
      pools = λ home low. let a = sound.pools home low in let b = total-rowless (count (buffers_of home)) (λ v. refl) vs j in omega arith;
      enrolled = λ m low. let a = sound.enrolled m low in let b = total-rowless (enrolled_of m) (λ v. refl) vs j in omega arith;
      retired = λ i u e. let x = get-rowless vs j i u e in
          subst (λ (y : State). y.enrolled ≡ false → cursor_at s y.machine ≡ roots_at s y.machine) (sym x.1.1.1) (λ left. sound.retired i x.0 x.1.0 left);
      messages = sound.messages;
      cursors = sound.cursors;
      claimed = λ i u e. let x = get-rowless vs j i u e in
          subst (λ (y : State). WithinRoots (cursor_at s y.machine) y.stack) (sym x.1.1.1) (sound.claimed i x.0 x.1.0);
      closed = sound.closed;
      marks = λ i u e. let x = get-rowless vs j i u e in subst (λ (y : State). AreMarks s y.marks) (sym x.1.1.1) (sound.marks i x.0 x.1.0);
    }

-- the workers of a world, one of which has given its rows
pub given-is : (vs : List State) (i : ℕ) (v d u : State) → i < length vs → v ≡ get_or vs i d → u ≡ rowless v → slice_set vs i u ≡ without_rows_at vs i
given-is vs i v d u low read none = ap (λ y. slice_set vs i y) (none ∙ ap rowless read) ∙ rowless-set vs i d low

pub given-sound : (vs : List State) (i : ℕ) (v d u : State) (s : Shared) → Sound (world_of vs s) → i < length vs → v ≡ get_or vs i d → u ≡ rowless v → Sound (world_of (slice_set vs i u) s)
given-sound vs i v d u s sound low read none =
    subst (λ ws. Sound (world_of ws s)) (sym (given-is vs i v d u low read none)) (rowless-sound vs i s sound)

-- ---- the workers give their rows one after the other
pub some-worker : (w : World) → Sound w → 0 < length w.workers
some-worker w sound =
    let machines = sound.tables.shape.some_machine in
    let workers = sound.tables.shape.some_worker in
    let size = sound.number_of_workers in
    let product = mul-le 1 1 w.shared.shape.machines w.shared.shape.workers machines workers in
    omega arith

pub taken-next : (first now next : World) (i : ℕ) → i < length first.workers → now ≡ world_of (first_rowless i first.workers) first.shared →
    next ≡ world_of (without_rows_at now.workers i) now.shared → next ≡ world_of (first_rowless (i + 1) first.workers) first.shared
taken-next first now next i low is taken =
    let more : suc i ≡ i + 1 = omega arith in
    taken ∙ ap (λ (w : World). world_of (without_rows_at w.workers i) w.shared) is
    ∙ ap (λ vs. world_of vs first.shared) (first-next i first.workers low ∙ ap (λ n. first_rowless n first.workers) more)

pub taken-rows : (first now : World) (i : ℕ) (rows own : List Context) → i < length first.workers → now ≡ world_of (first_rowless i first.workers) first.shared →
    rows ≡ first_rows i first.workers → own ≡ rows_at now.workers i → rows ++ own ≡ first_rows (i + 1) first.workers
taken-rows first now i rows own low is so_far taken =
    let more : suc i ≡ i + 1 = omega arith in
    ap (λ xs. xs ++ own) so_far ∙ ap (λ xs. first_rows i first.workers ++ xs) (taken ∙ ap (λ (w : World). rows_at w.workers i) is)
    ∙ sym (first-more i first.workers low) ∙ ap (λ n. first_rows n first.workers) more
