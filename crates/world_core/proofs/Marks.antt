-- The marks of a worker, and the words that they are of.
use Rattle.std.proofs.Common.{◌≡◌, ◌≢◌, ◌⊎◌, inl, inr, ℕ, ◌+◌, ◌*◌, ◌<◌, ◌≤◌, Bool, true, false, cond, not, ◌&&◌, eqb, ltb, List, [], ◌∷◌, length, get_or, replicate, refl, sym, ap, subst, ◌∙◌, arith, zero, suc}
use Rattle.std.specs.Prelude.{slice_set, slice_index_or, nat_lt, nat_eq}
use Rattle.std.specs.List.{list_all}
use Rattle.std.proofs.lemmas.Bool.{eqb-true, eqb-false, eq-eqb, ne_eqb, cases_eq}
use Rattle.std.proofs.lemmas.Bool.Decides.{nat_tests}
use Rattle.std.proofs.lemmas.List.{length-set, length-replicate, get_or-set_same, get_or-set_other}
use Rattle.std.proofs.lemmas.Nat.{same_from_place, mul-add-lt}
use Rattle.adfs_base.specs.Shape.{Extents}
use Rattle.adfs_base.specs.declared.step_answers.Word.{Word}
use Rattle.adfs_base.specs.declared.step_answers.Word.TheVariants.{Enrolled, Used}
use Rattle.stage_termination.specs.Marks.{Marks, words_of, place_of, is_word, unmarked, with_mark, is_marked, moved_to, is_ready}
use Rattle.fabric.specs.Shared.{Shared, IsUnit, IsWordOf, used_at, enrolled_at, word_at}
use Rattle.dfs_worker.specs.Own.{event_word}
use Rattle.dfs_worker.specs.Sound.{IsWorker}
use Rattle.dfs_worker.specs.State.{State}
use Rattle.world_core.specs.Sound.{AreMarks}
use Rattle.world_core.specs.Step.{is_event_word, has_mark, can_mark, has_all_marks}

pub and-true : (a b : Bool) → (a && b) ≡ true → (a ≡ true) × (b ≡ true)
and-true true b e = (refl, e)
and-true false b e = cc

not-true : (b : Bool) → not b ≡ true → b ≡ false
not-true true e = cc
not-true false e = refl

-- a word of the marks' stage is one of the world's
pub word-of : (s : Shared) (marks : Marks) (word : Word) → marks.machines ≡ s.shape.machines → marks.stages ≡ s.shape.stages → is_word marks word ≡ true → IsWordOf s marks.stage word
word-of s marks (Enrolled m) machines stages e =
    let a = and-true (nat_eq marks.stage 0) (nat_lt 0 marks.stages && nat_lt m marks.machines) e in
    let b = and-true (nat_lt 0 marks.stages) (nat_lt m marks.machines) a.1 in
    let low : nat_lt m marks.machines ≡ true = b.1 in
    let within : m < marks.machines = grind (arith, nat_tests, low) in
    (eqb-true marks.stage 0 a.0, omega arith)
word-of s marks (Used m k n) machines stages e =
    let a = and-true (nat_lt 0 k) (nat_eq k marks.stage && (nat_lt k marks.stages && (nat_lt m marks.machines && nat_lt n marks.machines))) e in
    let b = and-true (nat_eq k marks.stage) (nat_lt k marks.stages && (nat_lt m marks.machines && nat_lt n marks.machines)) a.1 in
    let c = and-true (nat_lt k marks.stages) (nat_lt m marks.machines && nat_lt n marks.machines) b.1 in
    let d = and-true (nat_lt m marks.machines) (nat_lt n marks.machines) c.1 in
    let some : nat_lt 0 k ≡ true = a.0 in
    let low : nat_lt k marks.stages ≡ true = c.0 in
    let from : nat_lt m marks.machines ≡ true = d.0 in
    let to : nat_lt n marks.machines ≡ true = d.1 in
    let some' : 0 < k = grind (arith, nat_tests, some) in
    let low' : k < marks.stages = grind (arith, nat_tests, low) in
    let from' : m < marks.machines = grind (arith, nat_tests, from) in
    let to' : n < marks.machines = grind (arith, nat_tests, to) in
    (sym (eqb-true k marks.stage b.0), (omega arith, some', omega arith, omega arith))

-- and the other way round
pub is-word : (s : Shared) (marks : Marks) (word : Word) → marks.machines ≡ s.shape.machines → marks.stages ≡ s.shape.stages → marks.stage < s.shape.stages → IsWordOf s marks.stage word → is_word marks word ≡ true
is-word s marks (Enrolled m) machines stages low is =
    let k = is.0 in
    let n = is.1 in
    let a : nat_eq marks.stage 0 ≡ true = eq-eqb marks.stage 0 k in
    let b : nat_lt 0 marks.stages ≡ true = grind (arith, nat_tests) in
    let c : nat_lt m marks.machines ≡ true = grind (arith, nat_tests) in
    rw (a, b, c) refl
is-word s marks (Used m k n) machines stages low is =
    let same = is.0 in
    let unit = is.1 in
    let some = unit.1 in
    let from = unit.0 in
    let to = unit.3 in
    let here = unit.2 in
    let a : nat_lt 0 k ≡ true = grind (arith, nat_tests) in
    let b : nat_eq k marks.stage ≡ true = eq-eqb k marks.stage (sym same) in
    let c : nat_lt k marks.stages ≡ true = grind (arith, nat_tests) in
    let d : nat_lt m marks.machines ≡ true = grind (arith, nat_tests) in
    let e : nat_lt n marks.machines ≡ true = grind (arith, nat_tests) in
    rw (a, b, c, d, e) refl

-- a word has a place among those of its stage
pub place-in : (s : Shared) (marks : Marks) (word : Word) → marks.machines ≡ s.shape.machines → marks.stages ≡ s.shape.stages → marks.stage < s.shape.stages → IsWordOf s marks.stage word →
    place_of marks.machines word < words_of marks.machines marks.stages marks.stage
place-in s marks (Enrolled m) machines stages low is =
    let k = is.0 in
    let n = is.1 in
    let a : nat_lt marks.stage marks.stages ≡ true = grind (arith, nat_tests) in
    let b : nat_eq marks.stage 0 ≡ true = eq-eqb marks.stage 0 k in
    rw (a, b) (omega arith)
place-in s marks (Used m k n) machines stages low is =
    let same = is.0 in
    let unit = is.1 in
    let some = unit.1 in
    let from = unit.0 in
    let to = unit.3 in
    let a : nat_lt marks.stage marks.stages ≡ true = grind (arith, nat_tests) in
    let b : nat_eq marks.stage 0 ≡ false = ne_eqb marks.stage 0 (λ e. omega arith) in
    rw (a, b) (mul-add-lt m marks.machines n marks.machines (omega arith) (omega arith))

-- words of a stage that have the same place are the same
pub same-word : (s : Shared) (k : ℕ) (a b : Word) → IsWordOf s k a → IsWordOf s k b → place_of s.shape.machines a ≡ place_of s.shape.machines b → a ≡ b
same-word s k (Enrolled m) (Enrolled n) ia ib e = ap Enrolled e
same-word s k (Enrolled m) (Used n j q) ia ib e = let x = ia.0 in let y = ib.0 in let z = ib.1.1 in absurd (omega arith)
same-word s k (Used m j q) (Enrolled n) ia ib e = let x = ib.0 in let y = ia.0 in let z = ia.1.1 in absurd (omega arith)
same-word s k (Used m j q) (Used a l b) ia ib e =
    let same = same_from_place m q a b s.shape.machines ia.1.3 ib.1.3 e in
    let stage : j ≡ l = sym ia.0 ∙ ib.0 in
    ap (λ x. Used x j q) same.0 ∙ ap (λ x. Used a x q) stage ∙ ap (λ x. Used a l x) same.1

-- where all words are marked each one is
all-at : (xs : List Bool) (i : ℕ) → list_all (λ m. m) xs ≡ true → i < length xs → get_or xs i false ≡ true
all-at [] i e lt = absurd (omega arith)
all-at (x ∷ xs) zero e lt = (and-true x (list_all (λ m. m) xs) e).0
all-at (x ∷ xs) (suc i) e lt = all-at xs i (and-true x (list_all (λ m. m) xs) e).1 (omega arith)

pub ready-marked : (s : Shared) (marks : Marks) (word : Word) → marks.machines ≡ s.shape.machines → marks.stages ≡ s.shape.stages → marks.stage < s.shape.stages →
    length marks.marked ≡ words_of marks.machines marks.stages marks.stage → list_all (λ m. m) marks.marked ≡ true → IsWordOf s marks.stage word → is_marked marks word ≡ true
ready-marked s marks word machines stages low places all is =
    let a = is-word s marks word machines stages low is in
    let within = place-in s marks word machines stages low is in
    let b : get_or marks.marked (place_of marks.machines word) false ≡ true = all-at marks.marked (place_of marks.machines word) all (omega arith) in
    rw (a, b) refl

-- ---- marks stay
pub marks-stay : (s h : Shared) (u : State) → u.shape ≡ s.shape → IsWorker u → s.closed ≤ h.closed →
    (h.closed ≡ s.closed → (word : Word) → IsWordOf s s.closed word → word_at s word ≡ 0 → word_at h word ≡ 0) → AreMarks s u.marks → AreMarks h u.marks
marks-stay s h u shape own closes zeros marks =
    let low = marks.stage in
    record {
      places = marks.places;
      stage = omega arith;
      seen = λ e word is.
          let same : u.marks.stage ≡ s.closed = omega arith in
          let closed : h.closed ≡ s.closed = sym e ∙ same in
          let of = word-of s u.marks word (own.mark_machines ∙ ap (λ x. x.machines) shape) (own.mark_stages ∙ ap (λ x. x.stages) shape)
          (and-true (is_word u.marks word) (slice_index_or u.marks.marked (place_of u.marks.machines word) false) is).0 in
          zeros closed word (subst (λ k. IsWordOf s k word) same of) (marks.seen same word is);
    }

-- what becomes of the words, number by number
pub zeros-from : (s h : Shared) → ((m : ℕ) → m < s.shape.machines → enrolled_at s m ≡ 0 → enrolled_at h m ≡ 0) →
    ((m k n : ℕ) → IsUnit s m k n → k ≡ s.closed → used_at s m k n ≡ 0 → used_at h m k n ≡ 0) →
    (word : Word) → IsWordOf s s.closed word → word_at s word ≡ 0 → word_at h word ≡ 0
zeros-from s h enrolled used (Enrolled m) is z = enrolled m is.1 z
zeros-from s h enrolled used (Used m k n) is z = used m k n is.1 (sym is.0) z

-- ---- a word is marked
-- the word that an event names
pub event-word : (s : Shared) (a b : ℕ) → is_event_word s a b ≡ true → (s.closed < s.shape.stages) × IsWordOf s s.closed (event_word s.closed a b)
event-word s a b e =
    let p = and-true (nat_lt s.closed s.shape.stages) (nat_lt a s.shape.machines && cond (nat_eq s.closed 0) (nat_eq b 0) (nat_lt b s.shape.machines)) e in
    let q = and-true (nat_lt a s.shape.machines) (cond (nat_eq s.closed 0) (nat_eq b 0) (nat_lt b s.shape.machines)) p.1 in
    let low : nat_lt s.closed s.shape.stages ≡ true = p.0 in
    let from : nat_lt a s.shape.machines ≡ true = q.0 in
    let low' : s.closed < s.shape.stages = grind (arith, nat_tests, low) in
    let from' : a < s.shape.machines = grind (arith, nat_tests, from) in
    (low', go low' from' (nat_eq s.closed 0) refl q.1)
  where
    go : s.closed < s.shape.stages → a < s.shape.machines → (t : Bool) → nat_eq s.closed 0 ≡ t → cond (nat_eq s.closed 0) (nat_eq b 0) (nat_lt b s.shape.machines) ≡ true → IsWordOf s s.closed (event_word s.closed a b)
    go low from true t second = rw t (eqb-true s.closed 0 t, from)
    go low from false t second =
        let other = eqb-false s.closed 0 t in
        let to : nat_lt b s.shape.machines ≡ true = sym (ap (λ x. cond x (nat_eq b 0) (nat_lt b s.shape.machines)) t) ∙ second in
        let to' : b < s.shape.machines = grind (arith, nat_tests, to) in
        let some : 0 < s.closed = omega arith in
        rw t (refl, (from, some, low, to'))

pub false-at : (n i : ℕ) → get_or (replicate n false) i false ≡ false
false-at zero i = refl
false-at (suc n) zero = refl
false-at (suc n) (suc i) = false-at n i

-- marks that are moved to a stage are those of before, or none
pub moved-is : (marks : Marks) (closed : ℕ) → ((nat_eq marks.stage closed ≡ true) × (moved_to marks closed ≡ marks)) ⊎ ((nat_eq marks.stage closed ≡ false) × (moved_to marks closed ≡ unmarked marks.machines marks.stages closed))
moved-is marks closed = go (nat_eq marks.stage closed) refl
  where
    go : (t : Bool) → nat_eq marks.stage closed ≡ t → ((nat_eq marks.stage closed ≡ true) × (moved_to marks closed ≡ marks)) ⊎ ((nat_eq marks.stage closed ≡ false) × (moved_to marks closed ≡ unmarked marks.machines marks.stages closed))
    go true e = inl (e, ap (λ t. cond t marks (unmarked marks.machines marks.stages closed)) e)
    go false e = inr (e, ap (λ t. cond t marks (unmarked marks.machines marks.stages closed)) e)

pub record AreMoved (s : Shared) (marks moved : Marks) : Type 0 where
  pub machines : moved.machines ≡ marks.machines
  pub stages : moved.stages ≡ marks.stages
  pub stage : moved.stage ≡ s.closed
  pub marks_of : AreMarks s moved

-- where no word is marked the marks are true
pub none-marked : (s : Shared) (machines stages : ℕ) → AreMarks s (unmarked machines stages s.closed)
none-marked s machines stages =
    record {
      places = length-replicate (words_of machines stages s.closed) false;
      stage = omega arith;
      seen = λ e word is. absurd (clash word (and-true (is_word (unmarked machines stages s.closed) word) (get_or (replicate (words_of machines stages s.closed) false) (place_of machines word) false) is).1);
    }
  where
    clash : (word : Word) → get_or (replicate (words_of machines stages s.closed) false) (place_of machines word) false ≡ true → ⊥
    clash word e = let f = false-at (words_of machines stages s.closed) (place_of machines word) in cc

pub are-moved : (s : Shared) (marks : Marks) → AreMarks s marks → AreMoved s marks (moved_to marks s.closed)
are-moved s marks are = elim (moved-is marks s.closed) [
  | inl y ↦ subst (λ m. AreMoved s marks m) (sym y.1) (record { machines = refl; stages = refl; stage = eqb-true marks.stage s.closed y.0; marks_of = are })
  | inr z ↦ subst (λ m. AreMoved s marks m) (sym z.1) (record { machines = refl; stages = refl; stage = refl; marks_of = none-marked s marks.machines marks.stages })
]

word-alike : (marks : Marks) (marked : List Bool) (word : Word) → is_word (record marks { marked = marked }) word ≡ is_word marks word
word-alike marks marked (Enrolled m) = refl
word-alike marks marked (Used m k n) = refl

-- one word more
pub mark-made : (s : Shared) (marks : Marks) (word : Word) → marks.machines ≡ s.shape.machines → marks.stages ≡ s.shape.stages → marks.stage ≡ s.closed →
    AreMarks s marks → IsWordOf s s.closed word → word_at s word ≡ 0 → AreMarks s (with_mark marks word)
mark-made s marks word machines stages stage are of none =
    record {
      places = length-set marks.marked (place_of marks.machines word) true ∙ are.places;
      stage = are.stage;
      seen = λ e other is.
          let p = and-true (is_word (with_mark marks word) other) (get_or (slice_set marks.marked (place_of marks.machines word) true) (place_of marks.machines other) false) is in
          let its : is_word marks other ≡ true = sym (word-alike marks (slice_set marks.marked (place_of marks.machines word) true) other) ∙ p.0 in
          by-place other its p.1 (cases_eq (place_of marks.machines word) (place_of marks.machines other));
    }
  where
    by-place : (other : Word) → is_word marks other ≡ true → get_or (slice_set marks.marked (place_of marks.machines word) true) (place_of marks.machines other) false ≡ true →
        (place_of marks.machines word ≡ place_of marks.machines other) ⊎ (place_of marks.machines word ≢ place_of marks.machines other) → word_at s other ≡ 0
    by-place other its at (inl same) =
        let there = subst (λ k. IsWordOf s k other) stage (word-of s marks other machines stages its) in
        subst (λ x. word_at s x ≡ 0) (same-word s s.closed word other of there (subst (λ m. place_of m word ≡ place_of m other) machines same)) none
    by-place other its at (inr apart) =
        let before : get_or marks.marked (place_of marks.machines other) false ≡ true = sym (get_or-set_other marks.marked (place_of marks.machines word) (place_of marks.machines other) true false (λ q. apart (sym q))) ∙ at in
        are.seen stage other (rw (its, before) refl)

pub can-mark : (s : Shared) (marks : Marks) (a b : ℕ) → can_mark s marks a b ≡ true →
    (is_event_word s a b ≡ true) × (word_at s (event_word s.closed a b) ≡ 0) × (has_mark marks s.closed (event_word s.closed a b) ≡ false)
can-mark s marks a b e =
    let word = event_word s.closed a b in
    let p = and-true (is_event_word s a b) (nat_eq (word_at s word) 0 && not (has_mark marks s.closed word)) e in
    let q = and-true (nat_eq (word_at s word) 0) (not (has_mark marks s.closed word)) p.1 in
    (p.0, eqb-true (word_at s word) 0 q.0, not-true (has_mark marks s.closed word) q.1)

pub marked-marks : (s : Shared) (v : State) (a b : ℕ) → v.shape ≡ s.shape → IsWorker v → AreMarks s v.marks → can_mark s v.marks a b ≡ true →
    AreMarks s (with_mark (moved_to v.marks s.closed) (event_word s.closed a b))
marked-marks s v a b shape own are can =
    let c = can-mark s v.marks a b can in
    let w = event-word s a b c.0 in
    let m = are-moved s v.marks are in
    mark-made s (moved_to v.marks s.closed) (event_word s.closed a b) (m.machines ∙ own.mark_machines ∙ ap (λ x. x.machines) shape) (m.stages ∙ own.mark_stages ∙ ap (λ x. x.stages) shape)
    m.stage m.marks_of w.1 c.1
