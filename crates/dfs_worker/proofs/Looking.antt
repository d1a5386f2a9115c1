-- The steps of a turn that mark the words of a stage and close it.
use Rattle.std.proofs.Common.{◌≡◌, ℕ, ◌+◌, ◌*◌, ◌<◌, ◌≤◌, Bool, true, false, cond, ◌&&◌, ◌||◌, List, [], ◌∷◌, length, get_or, replicate, Some, None, refl, sym, ap, ◌∙◌, subst, arith, zero, suc, inl, inr}
use Rattle.std.specs.Prelude.{nat_lt, nat_eq, slice_set}
use Rattle.std.specs.List.{list_all}
use Rattle.std.proofs.lemmas.Bool.Decides.{nat_tests}
use Rattle.std.proofs.lemmas.Grind.{get_or-set_at}
use Rattle.std.proofs.lemmas.List.{get_or-set_other}
use Rattle.std.proofs.lemmas.Nat.{mul-add-lt, same_from_place}
use Rattle.adfs_base.specs.Shape.{Extents}
use Rattle.adfs_base.specs.declared.step_answers.Word.{Word}
use Rattle.adfs_base.specs.declared.step_answers.Word.TheVariants.{Enrolled, Used}
use Rattle.fabric.specs.Account.{Holding, Call, ToMark, ToClose, ToLook, Given, Nothing, Seen, Allows, IsStageWord, holds_after, unlooked, seen_closed, is_same_word}
use Rattle.fabric.specs.Fabric.{MayCall, SameExtent, Ready, Missed}
use Rattle.match_context.specs.Tree.{Tree}
use Rattle.stage_termination.specs.Marks.{Marks, words_of, place_of, is_word, IsWordOf, unmarked, with_mark, is_marked, moved_to, next_word_of, is_ready}
use Rattle.dfs_worker.specs.declared.event.Event.{Event}
use Rattle.dfs_worker.specs.declared.event.Event.TheVariants as event
use Rattle.dfs_worker.specs.declared.turn.Turn.TheVariants.{Did, Idle}
use Rattle.dfs_worker.specs.Own.{marked, moved}
use Rattle.dfs_worker.specs.State.{State}
use Rattle.dfs_worker.specs.Turn.{NextMark, NextClose, mark_event, MissedMark, MissedClose, Holds, Fits, Tried}
use Rattle.dfs_worker.proofs.Holdings.{SameHolding-refl, unlooked-holds, fits-with, may-call}
use Rattle.dfs_worker.proofs.Keeps.{moved-keeps, marked-keeps}

-- ---- tests and what they say
both : (a b : Bool) → (a && b) ≡ true → (a ≡ true) × (b ≡ true)
both true b e = (refl, e)
both false b e = cc

and-false : (a b : Bool) → b ≡ false → (a && b) ≡ false
and-false true b e = e
and-false false b e = refl

lt-of : (a b : ℕ) → nat_lt a b ≡ true → a < b
lt-of a b e = grind (arith, nat_tests)

lt-is : (a b : ℕ) → a < b → nat_lt a b ≡ true
lt-is a b h = grind (arith, nat_tests)

eq-of : (a b : ℕ) → nat_eq a b ≡ true → a ≡ b
eq-of a b e = grind (arith, nat_tests)

eq-is : (a b : ℕ) → a ≡ b → nat_eq a b ≡ true
eq-is a b h = grind (arith, nat_tests)

ne-of : (a b : ℕ) → nat_eq a b ≡ false → a ≡ b → ⊥
ne-of a b e h = let t = eq-is a b h in cc

-- ---- words of a stage
enrolled-word : (m : Marks) (a : ℕ) → IsWordOf m (Enrolled a) → (m.stage ≡ 0) × (0 < m.stages) × (a < m.machines)
enrolled-word m a h =
    let x = both (nat_eq m.stage 0) (nat_lt 0 m.stages && nat_lt a m.machines) h in
    let y = both (nat_lt 0 m.stages) (nat_lt a m.machines) x.1 in
    (eq-of m.stage 0 x.0, lt-of 0 m.stages y.0, lt-of a m.machines y.1)

pub record IsUsedWord (m : Marks) (from stage to : ℕ) : Type 0 where
  pub later : 0 < stage
  pub here : stage ≡ m.stage
  pub within : stage < m.stages
  pub from_in : from < m.machines
  pub to_in : to < m.machines

used-word : (m : Marks) (from stage to : ℕ) → IsWordOf m (Used from stage to) → IsUsedWord m from stage to
used-word m from stage to h =
    let a = both (nat_lt 0 stage) (nat_eq stage m.stage && (nat_lt stage m.stages && (nat_lt from m.machines && nat_lt to m.machines))) h in
    let b = both (nat_eq stage m.stage) (nat_lt stage m.stages && (nat_lt from m.machines && nat_lt to m.machines)) a.1 in
    let c = both (nat_lt stage m.stages) (nat_lt from m.machines && nat_lt to m.machines) b.1 in
    let d = both (nat_lt from m.machines) (nat_lt to m.machines) c.1 in
    record {
      later = lt-of 0 stage a.0;
      here = eq-of stage m.stage b.0;
      within = lt-of stage m.stages c.0;
      from_in = lt-of from m.machines d.0;
      to_in = lt-of to m.machines d.1;
    }

stage-word : (shape : Extents) (m : Marks) (word : Word) → m.stages ≡ shape.stages → m.machines ≡ shape.machines → IsWordOf m word → IsStageWord shape m.stage word
stage-word shape m (Enrolled a) stages machines h = let is = enrolled-word m a h in let low = is.2 in (is.0, omega arith)
stage-word shape m (Used from stage to) stages machines h =
    let is = used-word m from stage to h in
    let a = is.within in
    let b = is.from_in in
    let c = is.to_in in
    (sym is.here, (is.later, omega arith), omega arith, omega arith)

word-stage : (shape : Extents) (m : Marks) (word : Word) → m.stages ≡ shape.stages → m.machines ≡ shape.machines → m.stage < m.stages → IsStageWord shape m.stage word → IsWordOf m word
word-stage shape m (Enrolled a) stages machines low h =
    let b = h.1 in
    rw (eq-is m.stage 0 h.0, lt-is 0 m.stages (omega arith), lt-is a m.machines (omega arith)) refl
word-stage shape m (Used from stage to) stages machines low h =
    let z = h.0 in
    let a = h.1.0 in
    let b = h.2 in
    let c = h.3 in
    rw (lt-is 0 stage a, eq-is stage m.stage (sym z), lt-is stage m.stages (omega arith), lt-is from m.machines (omega arith), lt-is to m.machines (omega arith)) refl

words-first : (machines stages : ℕ) (stage : ℕ) → stage ≡ 0 → stage < stages → words_of machines stages stage ≡ machines
words-first machines stages stage first low = rw (lt-is stage stages low, eq-is stage 0 first) refl

words-later : (machines stages stage : ℕ) → 0 < stage → stage < stages → words_of machines stages stage ≡ machines * machines
words-later machines stages stage later low = let t : nat_eq stage 0 ≡ false = grind (arith, nat_tests) in rw (lt-is stage stages low, t) refl

place-within : (m : Marks) (word : Word) → IsWordOf m word → place_of m.machines word < words_of m.machines m.stages m.stage
place-within m (Enrolled a) h =
    let is = enrolled-word m a h in
    let first = is.0 in
    let some = is.1 in
    let low = is.2 in
    let e = words-first m.machines m.stages m.stage first (omega arith) in
    omega arith
place-within m (Used from stage to) h =
    let is = used-word m from stage to h in
    let later = is.later in
    let here = is.here in
    let within = is.within in
    let e = words-later m.machines m.stages m.stage (omega arith) (omega arith) in
    let low = mul-add-lt from m.machines to m.machines is.from_in is.to_in in
    omega arith

-- ---- marks
all-true : (xs : List Bool) (i : ℕ) → list_all (λ x. x) xs ≡ true → i < length xs → get_or xs i false ≡ true
all-true [] i all low = absurd (omega arith)
all-true (x ∷ xs) zero all low = (both x (list_all (λ y. y) xs) all).0
all-true (x ∷ xs) (suc i) all low = all-true xs i (both x (list_all (λ y. y) xs) all).1 (omega arith)

ready-marked : (m : Marks) (word : Word) → is_ready m ≡ true → length m.marked ≡ words_of m.machines m.stages m.stage → IsWordOf m word → is_marked m word ≡ true
ready-marked m word ready whole h =
    let all = (both (nat_lt m.stage m.stages) (list_all (λ x. x) m.marked) ready).1 in
    let low = place-within m word h in
    rw (h, all-true m.marked (place_of m.machines word) all (omega arith)) refl

marked-by : (xs : List Bool) (p q : ℕ) (within same : Bool) → p < length xs → (same ≡ true → (q ≡ p) × (within ≡ true)) → (same ≡ false → within ≡ true → q ≡ p → ⊥) →
    (within && get_or (slice_set xs p true) q false) ≡ (same || (within && get_or xs q false))
marked-by xs p q false false low here there = refl
marked-by xs p q false true low here there = let e = (here refl).1 in cc
marked-by xs p q true false low here there = get_or-set_other xs p q true false (there refl refl)
marked-by xs p q true true low here there = get_or-set_at xs p q true false (here refl).0 low

mark-marked : (m : Marks) (word other : Word) → length m.marked ≡ words_of m.machines m.stages m.stage → IsWordOf m word →
    is_marked (with_mark m word) other ≡ (is_same_word word other || is_marked m other)
mark-marked m (Enrolled a) (Enrolled b) whole h =
    let low = place-within m (Enrolled a) h in
    marked-by m.marked a b (is_word m (Enrolled b)) (nat_eq a b) (omega arith)
    (λ e. (sym (eq-of a b e), subst (λ n. is_word m (Enrolled n) ≡ true) (eq-of a b e) h)) (λ e within same. ne-of a b e (sym same))
mark-marked m (Enrolled a) (Used i k j) whole h =
    let low = place-within m (Enrolled a) h in
    let first = (enrolled-word m a h).0 in
    marked-by m.marked a (i * m.machines + j) (is_word m (Used i k j)) false (omega arith) (λ e. let z : false ≡ true = e in cc)
    (λ e within same. let is = used-word m i k j within in let later = is.later in let here = is.here in absurd (omega arith))
mark-marked m (Used i k j) (Enrolled b) whole h =
    let low = place-within m (Used i k j) h in
    let is = used-word m i k j h in
    let later = is.later in
    let here = is.here in
    marked-by m.marked (i * m.machines + j) b (is_word m (Enrolled b)) false (omega arith) (λ e. let z : false ≡ true = e in cc)
    (λ e within same. let first = (enrolled-word m b within).0 in absurd (omega arith))
mark-marked m (Used i k j) (Used i' k' j') whole h =
    let low = place-within m (Used i k j) h in
    let is = used-word m i k j h in
    marked-by m.marked (i * m.machines + j) (i' * m.machines + j') (is_word m (Used i' k' j')) (nat_eq i i' && (nat_eq k k' && nat_eq j j')) (omega arith)
    (λ e.
    let a = both (nat_eq i i') (nat_eq k k' && nat_eq j j') e in
    let b = both (nat_eq k k') (nat_eq j j') a.1 in
    let same_i = eq-of i i' a.0 in
    let same_k = eq-of k k' b.0 in
    let same_j = eq-of j j' b.1 in
    (rw (same_i, same_j) refl, subst (λ n. is_word m (Used n k' j') ≡ true) same_i (subst (λ n. is_word m (Used i n j') ≡ true) same_k (subst (λ n. is_word m (Used i k n) ≡ true) same_j h))))
    (λ e within same.
    let other = used-word m i' k' j' within in
    let at = same_from_place i' j' i j m.machines other.to_in is.to_in same in
    let t : (nat_eq i i' && (nat_eq k k' && nat_eq j j')) ≡ true = rw (eq-is i i' (sym at.0), eq-is k k' (is.here ∙ sym other.here), eq-is j j' (sym at.1)) refl in
    cc)

none-true : (n i : ℕ) → get_or (replicate n false) i false ≡ false
none-true zero i = refl
none-true (suc n) zero = refl
none-true (suc n) (suc i) = none-true n i

pub unmarked-none : (machines stages stage : ℕ) (word : Word) → is_marked (unmarked machines stages stage) word ≡ false
unmarked-none machines stages stage word =
    and-false (is_word (unmarked machines stages stage) word) _ (none-true (words_of machines stages stage) (place_of machines word))

-- ---- what the worker holds once it looked
moved-by : (m : Marks) (closed : ℕ) (same : Bool) → nat_eq m.stage closed ≡ same → (cond same m (unmarked m.machines m.stages closed)).stage ≡ closed
moved-by m closed true e = eq-of m.stage closed e
moved-by m closed false e = refl

moved-stage : (m : Marks) (closed : ℕ) → (moved_to m closed).stage ≡ closed
moved-stage m closed = moved-by m closed (nat_eq m.stage closed) refl

look-marked : (v : State) (x : Holding) (closed : ℕ) (word : Word) (a b : Bool) → Holds v x → x.closed ≤ closed → nat_eq x.closed closed ≡ a → nat_eq v.marks.stage closed ≡ b →
    (cond a x.marked (λ other. false)) word ≡ is_marked (cond b v.marks (unmarked v.marks.machines v.marks.stages closed)) word
look-marked v x closed word true true h low ea eb = h.marked (eq-of v.marks.stage closed eb ∙ sym (eq-of x.closed closed ea)) word
look-marked v x closed word true false h low ea eb =
    let seen = h.seen in
    let same = eq-of x.closed closed ea in
    let other = ne-of v.marks.stage closed eb in
    h.unmarked (omega arith) word ∙ sym (unmarked-none v.marks.machines v.marks.stages closed word)
look-marked v x closed word false true h low ea eb =
    let seen = h.seen in
    let same = eq-of v.marks.stage closed eb in
    let other = ne-of x.closed closed ea in
    absurd (omega arith)
look-marked v x closed word false false h low ea eb = sym (unmarked-none v.marks.machines v.marks.stages closed word)

look-holds : (v : State) (x : Holding) (closed : ℕ) → Holds v x → x.closed ≤ closed → Holds (moved closed v) (seen_closed closed x)
look-holds v x closed h low =
    let at = moved-stage v.marks closed in
    record {
      enrolled = h.enrolled;
      opens = h.opens;
      works = h.works;
      buffers = h.buffers;
      seen = omega arith;
      marked = λ e word. look-marked v x closed word (nat_eq x.closed closed) (nat_eq v.marks.stage closed) h low refl refl;
      unmarked = λ lt word. absurd (omega arith);
    }

-- the worker looked at this many closed stages
pub record Looks {F : Type 0} (agrees : F → ℕ → Holding → Type 0) (done : F → ℕ → Call → Given → F → Type 0) (shape : F → Extents) (roots : F → ℕ → ℕ) (tree : Tree) (v : State) (f g : F)
    (closed : ℕ) : Type 0 where
  pub fits : Fits agrees shape roots tree v f
  pub made : done f v.number ToLook (Seen closed) g
  pub same : SameExtent shape roots f g
  pub holds : Holds (moved closed v) (seen_closed closed fits.holding)
  pub agreed : agrees g v.number (seen_closed closed fits.holding)

pub looks-of : {F : Type 0} (agrees : F → ℕ → Holding → Type 0) (done : F → ℕ → Call → Given → F → Type 0) (shape : F → Extents) (roots : F → ℕ → ℕ) (tree : Tree) (v : State) (f g : F)
    (w closed : ℕ) →
    Fits agrees shape roots tree v f → w ≡ v.number → Ready agrees done shape roots f w ToLook (Seen closed) g → ((x : Holding) → agrees f w x → x.closed ≤ closed) →
    Looks agrees done shape roots tree v f g closed
looks-of agrees done shape roots tree v f g w closed h same ready rises =
    let r = subst (λ n. Ready agrees done shape roots f n ToLook (Seen closed) g) same ready in
    let up = subst (λ n. (x : Holding) → agrees f n x → x.closed ≤ closed) same rises in
    let y = seen_closed closed h.holding in
    record {
      fits = h;
      made = r.made;
      same = r.same;
      holds = look-holds v h.holding closed h.holds (up h.holding h.agreed);
      agreed = r.holds h.holding y h.agreed tt (SameHolding-refl y);
    }

looks-fits : {F : Type 0} (agrees : F → ℕ → Holding → Type 0) (done : F → ℕ → Call → Given → F → Type 0) (shape : F → Extents) (roots : F → ℕ → ℕ) (tree : Tree) (v : State) (f g : F) (closed : ℕ) →
    Looks agrees done shape roots tree v f g closed → Fits agrees shape roots tree (moved closed v) g
looks-fits agrees done shape roots tree v f g closed at =
    fits-with agrees shape roots tree v (moved closed v) f g (seen_closed closed at.fits.holding) at.fits at.same (moved-keeps v closed at.fits.worker)
    (record { number = refl; machine = refl; shape = refl }) at.fits.within at.holds at.agreed

looks-shape : {F : Type 0} (agrees : F → ℕ → Holding → Type 0) (done : F → ℕ → Call → Given → F → Type 0) (shape : F → Extents) (roots : F → ℕ → ℕ) (tree : Tree) (v : State) (f g : F) (closed : ℕ) →
    Looks agrees done shape roots tree v f g closed → shape g ≡ v.shape
looks-shape agrees done shape roots tree v f g closed at = at.same.same_shape ∙ at.fits.same_shape

looks-missed : {F : Type 0} (agrees : F → ℕ → Holding → Type 0) (done : F → ℕ → Call → Given → F → Type 0) (excused : F → ℕ → Call → F → Type 0) (shape : F → Extents) (roots : F → ℕ → ℕ)
    (tree : Tree)
    (v : State) (f g f' : F) (closed : ℕ) (call : Call) → Looks agrees done shape roots tree v f g closed → Missed agrees excused shape roots unlooked g v.number call f' →
    Fits agrees shape roots tree (moved closed v) f'
looks-missed agrees done excused shape roots tree v f g f' closed call at m =
    let x = seen_closed closed at.fits.holding in
    let y = unlooked x in
    fits-with agrees shape roots tree v (moved closed v) f f' y at.fits
    (record { same_shape = m.same.same_shape ∙ at.same.same_shape; same_roots = λ k. m.same.same_roots k ∙ at.same.same_roots k }) (moved-keeps v closed at.fits.worker)
    (record { number = refl; machine = refl; shape = refl }) at.fits.within (unlooked-holds (moved closed v) x at.holds) (m.holds x y at.agreed (SameHolding-refl y))

pub may-look : {F : Type 0} (agrees : F → ℕ → Holding → Type 0) (shape : F → Extents) (roots : F → ℕ → ℕ) (tree : Tree) (v : State) (f : F) (w : ℕ) →
    Fits agrees shape roots tree v f → w ≡ v.number → MayCall agrees shape f w ToLook
may-look agrees shape roots tree v f w h same = rw same (may-call agrees shape roots tree v f ToLook h tt)

-- ---- mark
allows-mark : {F : Type 0} (agrees : F → ℕ → Holding → Type 0) (done : F → ℕ → Call → Given → F → Type 0) (shape : F → Extents) (roots : F → ℕ → ℕ) (tree : Tree) (v : State) (f g : F)
    (closed : ℕ) (word : Word) →
    (at : Looks agrees done shape roots tree v f g closed) → IsWordOf (moved closed v).marks word → Allows (shape g) (seen_closed closed at.fits.holding) (ToMark word)
allows-mark agrees done shape roots tree v f g closed word at h =
    let worker = moved-keeps v closed at.fits.worker in
    let is = stage-word v.shape (moved closed v).marks word worker.mark_stages worker.mark_machines h in
    (refl, subst (λ s. IsStageWord s closed word) (sym (looks-shape agrees done shape roots tree v f g closed at)) (subst (λ k. IsStageWord v.shape k word) (moved-stage v.marks closed) is))

pub may-mark : {F : Type 0} (agrees : F → ℕ → Holding → Type 0) (done : F → ℕ → Call → Given → F → Type 0) (shape : F → Extents) (roots : F → ℕ → ℕ) (tree : Tree) (v u : State) (f g : F)
    (w closed : ℕ) (word : Word) →
    Looks agrees done shape roots tree v f g closed → w ≡ v.number → u ≡ moved closed v → IsWordOf u.marks word → MayCall agrees shape g w (ToMark word)
may-mark agrees done shape roots tree v u f g w closed word at same is h =
    let h' = subst (λ s. IsWordOf s.marks word) is h in
    rw same (seen_closed closed at.fits.holding, (at.agreed, allows-mark agrees done shape roots tree v f g closed word at h'))

mark-holds : (v : State) (x : Holding) (closed : ℕ) (word : Word) → Holds (moved closed v) x → IsWordOf (moved closed v).marks word → x.closed ≡ closed →
    length (moved closed v).marks.marked ≡ words_of (moved closed v).marks.machines (moved closed v).marks.stages (moved closed v).marks.stage →
    Holds (marked closed word v) (holds_after (ToMark word) Nothing x)
mark-holds v x closed word h is at whole =
    let stage = moved-stage v.marks closed in
    record {
      enrolled = h.enrolled;
      opens = h.opens;
      works = h.works;
      buffers = h.buffers;
      seen = h.seen;
      marked = λ e other. ap (λ b. is_same_word word other || b) (h.marked e other) ∙ sym (mark-marked (moved closed v).marks word other whole is);
      unmarked = λ lt other. absurd (omega arith);
    }

pub mark-tried : {F : Type 0} (agrees : F → ℕ → Holding → Type 0) (done : F → ℕ → Call → Given → F → Type 0) (excused : F → ℕ → Call → F → Type 0) (shape : F → Extents) (roots : F → ℕ → ℕ)
    (tree : Tree)
    (v u v' : State) (f g f' : F) (w closed : ℕ) (word : Word) (made : Event) → Looks agrees done shape roots tree v f g closed → w ≡ v.number → u ≡ moved closed v →
    next_word_of u.marks ≡ Some word →
    IsWordOf u.marks word → length u.marks.marked ≡ words_of u.marks.machines u.marks.stages u.marks.stage → Ready agrees done shape roots g w (ToMark word) Nothing f' →
    v' ≡ record u { marks = with_mark u.marks word } → made ≡ mark_event w word → Tried agrees done excused shape roots tree v f (NextMark ∷ []) (Did made) v' f'
mark-tried agrees done excused shape roots tree v u v' f g f' w closed word made at same is next of_stage whole ready own event_is =
    let r = subst (λ n. Ready agrees done shape roots g n (ToMark word) Nothing f') same ready in
    let x = seen_closed closed at.fits.holding in
    let y = holds_after (ToMark word) Nothing x in
    let part : v' ≡ marked closed word v = own ∙ ap (λ (s : State). record s { marks = with_mark s.marks word }) is in
    let here = subst (λ s. IsWordOf s.marks word) is of_stage in
    let full = subst (λ s. length s.marks.marked ≡ words_of s.marks.machines s.marks.stages s.marks.stage) is whole in
    record {
      answered = inl (record {
        closed = closed;
        between = g;
        looked = at.made;
        word = word;
        next = subst (λ s. next_word_of s.marks ≡ Some word) is next;
        same = event_is ∙ ap (λ n. mark_event n word) same;
        own = part;
        shared = r.made;
      });
      fits = subst (λ s. Fits agrees shape roots tree s f') (sym part)
          (fits-with agrees shape roots tree v (marked closed word v) f f' y at.fits
          (record { same_shape = r.same.same_shape ∙ at.same.same_shape; same_roots = λ k. r.same.same_roots k ∙ at.same.same_roots k }) (marked-keeps v closed word at.fits.worker)
          (record { number = refl; machine = refl; shape = refl }) at.fits.within (mark-holds v x closed word at.holds here refl full)
          (r.holds x y at.agreed (allows-mark agrees done shape roots tree v f g closed word at here) (SameHolding-refl y)));
    }

pub mark-missed : {F : Type 0} (agrees : F → ℕ → Holding → Type 0) (done : F → ℕ → Call → Given → F → Type 0) (excused : F → ℕ → Call → F → Type 0) (shape : F → Extents) (roots : F → ℕ → ℕ)
    (tree : Tree)
    (v u : State) (f g f' : F) (w closed : ℕ) (word : Word) → Looks agrees done shape roots tree v f g closed → w ≡ v.number → u ≡ moved closed v → next_word_of u.marks ≡ Some word →
    Missed agrees excused shape roots unlooked g w (ToMark word) f' → Tried agrees done excused shape roots tree v f (NextMark ∷ []) Idle u f'
mark-missed agrees done excused shape roots tree v u f g f' w closed word at same is next missed =
    let m = subst (λ n. Missed agrees excused shape roots unlooked g n (ToMark word) f') same missed in
    let missed_next : MissedMark excused g v.number (next_word_of u.marks) f' = rw next m.allowed in
    record {
      answered = inr (u, (f', ((closed, (g, (at.made, is, missed_next))), (refl, refl, refl))));
      fits = subst (λ s. Fits agrees shape roots tree s f') (sym is) (looks-missed agrees done excused shape roots tree v f g f' closed (ToMark word) at m);
    }

pub mark-none : {F : Type 0} (agrees : F → ℕ → Holding → Type 0) (done : F → ℕ → Call → Given → F → Type 0) (excused : F → ℕ → Call → F → Type 0) (shape : F → Extents) (roots : F → ℕ → ℕ)
    (tree : Tree)
    (v u : State) (f g : F) (closed : ℕ) → Looks agrees done shape roots tree v f g closed → u ≡ moved closed v → next_word_of u.marks ≡ None →
    Tried agrees done excused shape roots tree v f (NextMark ∷ []) Idle u g
mark-none agrees done excused shape roots tree v u f g closed at is next =
    let none : MissedMark excused g v.number (next_word_of u.marks) g = rw next refl in
    record {
      answered = inr (u, (g, ((closed, (g, (at.made, is, none))), (refl, refl, refl))));
      fits = subst (λ s. Fits agrees shape roots tree s g) (sym is) (looks-fits agrees done shape roots tree v f g closed at);
    }

-- ---- close
all-marked : (shape : Extents) (m : Marks) (x : Holding) (v : State) → m.stages ≡ shape.stages → m.machines ≡ shape.machines → is_ready m ≡ true →
    length m.marked ≡ words_of m.machines m.stages m.stage →
    ((word : Word) → x.marked word ≡ is_marked m word) → (word : Word) → IsStageWord shape m.stage word → x.marked word ≡ true
all-marked shape m x v stages machines ready whole same word h =
    let low = lt-of m.stage m.stages (both (nat_lt m.stage m.stages) (list_all (λ b. b) m.marked) ready).0 in
    same word ∙ ready-marked m word ready whole (word-stage shape m word stages machines low h)

allows-close : {F : Type 0} (agrees : F → ℕ → Holding → Type 0) (done : F → ℕ → Call → Given → F → Type 0) (shape : F → Extents) (roots : F → ℕ → ℕ) (tree : Tree) (v : State) (f g : F) (closed : ℕ) →
    (at : Looks agrees done shape roots tree v f g closed) → is_ready (moved closed v).marks ≡ true →
    length (moved closed v).marks.marked ≡ words_of (moved closed v).marks.machines (moved closed v).marks.stages (moved closed v).marks.stage →
    Allows (shape g) (seen_closed closed at.fits.holding) ToClose
allows-close agrees done shape roots tree v f g closed at ready whole =
    let worker = moved-keeps v closed at.fits.worker in
    let m = (moved closed v).marks in
    let stage = moved-stage v.marks closed in
    let low = lt-of m.stage m.stages (both (nat_lt m.stage m.stages) (list_all (λ b. b) m.marked) ready).0 in
    let stages = worker.mark_stages in
    let x = seen_closed closed at.fits.holding in
    let all = all-marked v.shape m x v worker.mark_stages worker.mark_machines ready whole (λ word. at.holds.marked stage word) in
    subst (λ s. Allows s x ToClose) (sym (looks-shape agrees done shape roots tree v f g closed at))
    (refl, omega arith, λ word h. all word (subst (λ k. IsStageWord v.shape k word) (sym stage) h))

pub may-close : {F : Type 0} (agrees : F → ℕ → Holding → Type 0) (done : F → ℕ → Call → Given → F → Type 0) (shape : F → Extents) (roots : F → ℕ → ℕ) (tree : Tree) (v u : State) (f g : F)
    (w closed : ℕ) →
    Looks agrees done shape roots tree v f g closed → w ≡ v.number → u ≡ moved closed v → is_ready u.marks ≡ true →
    length u.marks.marked ≡ words_of u.marks.machines u.marks.stages u.marks.stage → MayCall agrees shape g w ToClose
may-close agrees done shape roots tree v u f g w closed at same is ready whole =
    let here = subst (λ s. is_ready s.marks ≡ true) is ready in
    let full = subst (λ s. length s.marks.marked ≡ words_of s.marks.machines s.marks.stages s.marks.stage) is whole in
    rw same (seen_closed closed at.fits.holding, (at.agreed, allows-close agrees done shape roots tree v f g closed at here full))

close-holds : (v : State) (x : Holding) (closed : ℕ) → Holds (moved closed v) x → x.closed ≡ closed → Holds (moved closed v) (holds_after ToClose Nothing x)
close-holds v x closed h at =
    let stage = moved-stage v.marks closed in
    record {
      enrolled = h.enrolled;
      opens = h.opens;
      works = h.works;
      buffers = h.buffers;
      seen = omega arith;
      marked = λ e word. absurd (omega arith);
      unmarked = λ lt word. refl;
    }

pub close-tried : {F : Type 0} (agrees : F → ℕ → Holding → Type 0) (done : F → ℕ → Call → Given → F → Type 0) (excused : F → ℕ → Call → F → Type 0) (shape : F → Extents) (roots : F → ℕ → ℕ)
    (tree : Tree)
    (v u : State) (f g f' : F) (w closed : ℕ) → Looks agrees done shape roots tree v f g closed → w ≡ v.number → u ≡ moved closed v → is_ready u.marks ≡ true →
    length u.marks.marked ≡ words_of u.marks.machines u.marks.stages u.marks.stage → Ready agrees done shape roots g w ToClose Nothing f' →
    Tried agrees done excused shape roots tree v f (NextClose ∷ []) (Did (event.Close w)) u f'
close-tried agrees done excused shape roots tree v u f g f' w closed at same is ready whole closing =
    let r = subst (λ n. Ready agrees done shape roots g n ToClose Nothing f') same closing in
    let x = seen_closed closed at.fits.holding in
    let y = holds_after ToClose Nothing x in
    let here = subst (λ s. is_ready s.marks ≡ true) is ready in
    let full = subst (λ s. length s.marks.marked ≡ words_of s.marks.machines s.marks.stages s.marks.stage) is whole in
    record {
      answered = inl (record { closed = closed; between = g; looked = at.made; ready = here; same = ap event.Close same; own = is; shared = r.made });
      fits = subst (λ s. Fits agrees shape roots tree s f') (sym is)
          (fits-with agrees shape roots tree v (moved closed v) f f' y at.fits
          (record { same_shape = r.same.same_shape ∙ at.same.same_shape; same_roots = λ k. r.same.same_roots k ∙ at.same.same_roots k }) (moved-keeps v closed at.fits.worker)
          (record { number = refl; machine = refl; shape = refl }) at.fits.within (close-holds v x closed at.holds refl)
          (r.holds x y at.agreed (allows-close agrees done shape roots tree v f g closed at here full) (SameHolding-refl y)));
    }

pub close-missed : {F : Type 0} (agrees : F → ℕ → Holding → Type 0) (done : F → ℕ → Call → Given → F → Type 0) (excused : F → ℕ → Call → F → Type 0) (shape : F → Extents)
    (roots : F → ℕ → ℕ) (tree : Tree)
    (v u : State) (f g f' : F) (w closed : ℕ) → Looks agrees done shape roots tree v f g closed → w ≡ v.number → u ≡ moved closed v → is_ready u.marks ≡ true →
    Missed agrees excused shape roots unlooked g w ToClose f' → Tried agrees done excused shape roots tree v f (NextClose ∷ []) Idle u f'
close-missed agrees done excused shape roots tree v u f g f' w closed at same is ready missed =
    let m = subst (λ n. Missed agrees excused shape roots unlooked g n ToClose f') same missed in
    let missed_close : MissedClose excused g v.number (is_ready u.marks) f' = rw ready m.allowed in
    record {
      answered = inr (u, (f', ((closed, (g, (at.made, is, missed_close))), (refl, refl, refl))));
      fits = subst (λ s. Fits agrees shape roots tree s f') (sym is) (looks-missed agrees done excused shape roots tree v f g f' closed ToClose at m);
    }

pub close-none : {F : Type 0} (agrees : F → ℕ → Holding → Type 0) (done : F → ℕ → Call → Given → F → Type 0) (excused : F → ℕ → Call → F → Type 0) (shape : F → Extents) (roots : F → ℕ → ℕ)
    (tree : Tree)
    (v u : State) (f g : F) (closed : ℕ) → Looks agrees done shape roots tree v f g closed → u ≡ moved closed v → is_ready u.marks ≡ false →
    Tried agrees done excused shape roots tree v f (NextClose ∷ []) Idle u g
close-none agrees done excused shape roots tree v u f g closed at is ready =
    let none : MissedClose excused g v.number (is_ready u.marks) g = rw ready refl in
    record {
      answered = inr (u, (g, ((closed, (g, (at.made, is, none))), (refl, refl, refl))));
      fits = subst (λ s. Fits agrees shape roots tree s g) (sym is) (looks-fits agrees done shape roots tree v f g closed at);
    }
