-- Over plain tables a turn is the first of its tries that is enabled.
use Rattle.std.proofs.Common.{◌≡◌, ℕ, ◌<◌, Bool, true, false, ◌&&◌, cond, List, [], ◌∷◌, Option, Some, None, is_some, refl, sym, ap, ◌∙◌, subst, arith, inl, inr}
use Rattle.std.specs.Prelude.{nat_eq}
use Rattle.std.proofs.lemmas.Bool.Decides.{nat_tests}
use Rattle.std.proofs.lemmas.Nat.{same_from_place}
use Rattle.adfs_base.specs.Shape.{Extents}
use Rattle.adfs_base.specs.declared.step_answers.Word.{Word}
use Rattle.fabric.specs.Account.{Call, ToMark, Given, Nothing, Seen}
use Rattle.fabric.specs.Plain.{outcome, if_ready, PlainDone, PlainExcused}
use Rattle.fabric.specs.Shared.{Shared, word_at}
use Rattle.match_context.specs.Tree.{Tree}
use Rattle.match_context.specs.declared.frame.Frame.{Frame}
use Rattle.match_context.specs.declared.frame.Rest.{Rest}
use Rattle.match_context.specs.declared.frame.Rest.TheVariants as rest
use Rattle.match_context.specs.declared.message.Message.{Message}
use Rattle.stage_termination.specs.Marks.{Marks, unmarked, moved_to, next_word_of, is_ready}
use Rattle.dfs_worker.specs.declared.event.Event.{Event}
use Rattle.dfs_worker.specs.declared.event.Event.TheVariants as event
use Rattle.dfs_worker.specs.declared.turn.Turn.{Turn}
use Rattle.dfs_worker.specs.declared.turn.Turn.TheVariants.{Did, Idle, NoMemory}
use Rattle.dfs_worker.specs.Guards.{own_guard}
use Rattle.dfs_worker.specs.Own.{moved}
use Rattle.dfs_worker.specs.Plainly.{IsCallReady, IsWordZero, IsPlacePostable, IsEnabled, TakesFirst, PlainTurnsTakeTheFirst}
use Rattle.dfs_worker.specs.Slots.{slot_of, open_at, is_open}
use Rattle.dfs_worker.specs.Sound.{IsWorker}
use Rattle.dfs_worker.specs.State.{State, waiting}
use Rattle.dfs_worker.specs.Turn.{Try, Step, PostOther, Start, NextMark, NextClose, call_of, restore_call, restore_rest, is_other, is_postable, left_by, Made, MissedCall, MissedMark, MissedClose, PassedTry, EndsTurn, IsTurn, IsMoved}
use Rattle.dfs_worker.proofs.Places.{open-facts}

-- ---- marks make no difference to guards and calls
abbrev with_marks : State → Marks → State
with_marks v m = record v { marks = m }

own-same : (e : Event) (v : State) (m : Marks) → own_guard e (with_marks v m) ≡ own_guard e v
own-same (event.Claim w) v m = refl
own-same e v m = refl

call-same : (e : Event) (v : State) (m : Marks) → call_of e (with_marks v m) ≡ call_of e v
call-same (event.Claim w) v m = refl
call-same e v m = refl

moved-twice : (m : Marks) (closed : ℕ) (same : Bool) → nat_eq m.stage closed ≡ same →
    moved_to (cond same m (unmarked m.machines m.stages closed)) closed ≡ cond same m (unmarked m.machines m.stages closed)
moved-twice m closed true e = rw e refl
moved-twice m closed false e = let t : nat_eq closed closed ≡ true = grind (arith, nat_tests) in rw t refl

-- the worker has changed in its marks at most, and they come to the same
record Near (s : Shared) (v u : State) : Type 0 where
  marks : Marks
  same : u ≡ with_marks v marks
  alike : moved_to marks s.closed ≡ moved_to v.marks s.closed

near-refl : (s : Shared) (v : State) → Near s v v
near-refl s v = record { marks = v.marks; same = refl; alike = refl }

near-moved : (s : Shared) (v u : State) → Near s v u → IsMoved v u
near-moved s v u near = near.same ∙ ap (with_marks v) (sym (ap (λ (w : State). w.marks) near.same))

near-look : (s : Shared) (v u t : State) → Near s v u → t ≡ moved s.closed u → Near s v t
near-look s v u t near is =
    let m = moved_to near.marks s.closed in
    record {
      marks = m;
      same = is ∙ ap (moved s.closed) near.same;
      alike = moved-twice near.marks s.closed (nat_eq near.marks.stage s.closed) refl ∙ near.alike;
    }

near-marks : (s : Shared) (v u : State) → Near s v u → (moved s.closed u).marks ≡ (moved s.closed v).marks
near-marks s v u near = ap (λ (w : State). (moved s.closed w).marks) near.same ∙ near.alike

-- ---- plain answers
missed-same : (s g : Shared) (w : ℕ) (call : Option Call) → MissedCall PlainExcused s w call g → g ≡ s
missed-same s g w None h = absurd h
missed-same s g w (Some call) h = h.1

missed-not : (s g : Shared) (w : ℕ) (call : Option Call) → MissedCall PlainExcused s w call g → IsCallReady s w call → ⊥
missed-not s g w None h ready = h
missed-not s g w (Some call) h ready = let a = h.0 in let b = ready.1 in cc

made-ready : (s g : Shared) (w : ℕ) (call : Option Call) (given : Given) → Made PlainDone s w call given g → IsCallReady s w call
made-ready s g w None given h = tt
made-ready s g w (Some call) given h = ((given, g), h)

restore-never : (s g : Shared) (w : ℕ) (stack : List Frame) → MissedCall PlainExcused s w (restore_call stack) g → ⊥
restore-never s g w [] h = h
restore-never s g w (frame ∷ frames) h = on frame.rest h
  where
    on : (r : Rest) → MissedCall PlainExcused s w (restore_rest r) g → ⊥
    on rest.None k = k
    on (rest.Roots next end) k = k
    on (rest.Items message next over) k = let e = k.0 in cc

-- a restore always finds its pool
left-same : (s g : Shared) (v : State) (e : Event) → MissedCall PlainExcused s v.number (call_of e v) g → left_by e v ≡ v
left-same s g v (event.Restore w) h = absurd (restore-never s g v.number v.stack h)
left-same s g v e h = refl

pair-of : (s g : Shared) (closed : ℕ) → ◌≡◌ {A = Option (Given × Shared)} (Some (Seen s.closed, s)) (Some (Seen closed, g)) → (closed ≡ s.closed) × (g ≡ s)
pair-of s g closed e = (sym (ap seen_in e), sym (ap (tables_in s) e))
  where
    seen_by : Given → ℕ
    seen_by (Seen n) = n
    seen_by other = 0

    seen_in : Option (Given × Shared) → ℕ
    seen_in None = 0
    seen_in (Some p) = seen_by p.0

    tables_in : Shared → Option (Given × Shared) → Shared
    tables_in d None = d
    tables_in d (Some p) = p.1

-- ---- words
zero-of : (s g : Shared) (test : Bool) (given : Given) (word : Word) → nat_eq (word_at s word) 0 ≡ test → if_ready test Nothing s ≡ Some (given, g) → word_at s word ≡ 0
zero-of s g true given word e h = grind (arith, nat_tests)
zero-of s g false given word e h = let z : ◌≡◌ {A = Option (Given × Shared)} None (Some (given, g)) = h in cc

busy-of : (s : Shared) (test : Bool) (word : Word) → nat_eq (word_at s word) 0 ≡ test → if_ready test Nothing s ≡ None → word_at s word ≡ 0 → ⊥
busy-of s true word e h zero = let z : ◌≡◌ {A = Option (Given × Shared)} (Some (Nothing, s)) None = h in cc
busy-of s false word e h zero = let t : nat_eq (word_at s word) 0 ≡ true = grind (arith, nat_tests) in cc

marks-not : (s g : Shared) (w : ℕ) (word : Option Word) → MissedMark PlainExcused s w word g → IsWordZero s word → ⊥
marks-not s g w None h zero = zero
marks-not s g w (Some word) h zero = busy-of s (nat_eq (word_at s word) 0) word refl h.0 zero

marks-same : (s g : Shared) (w : ℕ) (word : Option Word) → MissedMark PlainExcused s w word g → g ≡ s
marks-same s g w None h = h
marks-same s g w (Some word) h = h.1

close-not : (s g : Shared) (w : ℕ) (ready : Bool) → MissedClose PlainExcused s w ready g → ready ≡ true → ⊥
close-not s g w false h e = cc
close-not s g w true h e = let z = h.0 in cc

close-same : (s g : Shared) (w : ℕ) (ready : Bool) → MissedClose PlainExcused s w ready g → g ≡ s
close-same s g w false h = h
close-same s g w true h = h.1

-- ---- open buffers are of stages and machines that there are
and-parts : (a b : Bool) → (a && b) ≡ true → (a ≡ true) × (b ≡ true)
and-parts true b e = (refl, e)
and-parts false b e = cc

some-of : (o : Option Message) → is_some o ≡ true → (message : Message) × (o ≡ Some message)
some-of None e = cc
some-of (Some message) e = (message, refl)

place-of : (v : State) (stage to : ℕ) → IsWorker v → is_postable v stage to ≡ true → IsPlacePostable v stage to
place-of v stage to h e =
    let opened = (and-parts (is_other (waiting v.stack) stage to) (is_open v.slots stage to) e).1 in
    let found = some-of (open_at v.slots stage to) opened in
    let message = found.0 in
    let at = open-facts v.slots stage to message found.1 in
    let is = h.slots.each_open (slot_of v.slots.machines stage to) message at.here in
    let machines = h.slots.machines in
    let stages = h.slots.stages in
    let n = at.to_in in
    let k = at.stage_in in
    let to_in : to < v.shape.machines = omega arith in
    let same : (message.stage ≡ stage) × (message.to ≡ to) =
    same_from_place message.stage message.to stage to v.shape.machines is.whole.to to_in (is.place ∙ ap (λ q. slot_of q stage to) machines) in
    let s = is.whole.some_stage in
    let z = same.0 in
    record { some_stage = omega arith; stage_in = omega arith; to_in = to_in; postable = e }

postable-same : (v u : State) (s : Shared) (stage to : ℕ) → Near s v u → is_postable u stage to ≡ is_postable v stage to
postable-same v u s stage to near = ap (λ (w : State). is_postable w stage to) near.same

-- ---- one try
number-same : (s : Shared) (v u : State) → Near s v u → u.number ≡ v.number
number-same s v u near = ap (λ (w : State). w.number) near.same

guard-same : (s : Shared) (v u : State) (e : Event) → Near s v u → own_guard e u ≡ own_guard e v
guard-same s v u e near = ap (own_guard e) near.same ∙ own-same e v near.marks

event-same : (s : Shared) (v u : State) (e : Event) → Near s v u → call_of e u ≡ call_of e v
event-same s v u e near = ap (call_of e) near.same ∙ call-same e v near.marks

ready-same : (s : Shared) (v u : State) (e : Event) → Near s v u → IsCallReady s u.number (call_of e u) → IsCallReady s v.number (call_of e v)
ready-same s v u e near ready = subst (λ c. IsCallReady s v.number c) (event-same s v u e near) (subst (λ n. IsCallReady s n (call_of e u)) (number-same s v u near) ready)

ready-back : (s : Shared) (v u : State) (e : Event) → Near s v u → IsCallReady s v.number (call_of e v) → IsCallReady s u.number (call_of e u)
ready-back s v u e near ready = subst (λ c. IsCallReady s u.number c) (sym (event-same s v u e near)) (subst (λ n. IsCallReady s n (call_of e v)) (sym (number-same s v u near)) ready)

-- what was passed was not enabled, and changed nothing but marks
record Passed (s : Shared) (v u : State) (tried : Try) (g : Shared) : Type 0 where
  barred : IsEnabled v s tried → ⊥
  near : Near s v u
  same : g ≡ s

passed-is : (s g : Shared) (v u t : State) (tried : Try) → IsWorker v → Near s v u → PassedTry PlainDone PlainExcused u s tried t g → Passed s v t tried g
passed-is s g v u t (Step e) h near (inl barred) = record {
  barred = λ enabled. barred.0 (guard-same s v u e near ∙ enabled.0);
  near = subst (Near s v) (sym barred.1) near;
  same = barred.2;
}
passed-is s g v u t (Step e) h near (inr missed) = record {
  barred = λ enabled. missed-not s g u.number (call_of e u) missed.2 (ready-back s v u e near enabled.1);
  near = subst (Near s v) (sym (missed.1 ∙ left-same s g u e missed.2)) near;
  same = missed-same s g u.number (call_of e u) missed.2;
}
passed-is s g v u t PostOther h near none = record {
  barred = λ enabled.
      let place = enabled.1.1 in
      let shape = ap (λ (w : State). w.shape) near.same in
      let stages = ap (λ (x : Extents). x.stages) shape in
      let machines = ap (λ (x : Extents). x.machines) shape in
      let low = place.stage_in in
      let within = place.to_in in
      let a = none.0 enabled.0 enabled.1.0 place.some_stage (omega arith) (omega arith) in
      let b = postable-same v u s enabled.0 enabled.1.0 near in
      let c = place.postable in
      cc;
  near = subst (Near s v) (sym none.1) near;
  same = none.2;
}
passed-is s g v u t Start h near (inl barred, is) = record {
  barred = λ enabled. barred.0 (subst (λ n. own_guard (event.Claim n) u ≡ None) (sym (number-same s v u near)) (guard-same s v u (event.Claim v.number) near ∙ enabled));
  near = subst (Near s v) (sym is) near;
  same = barred.1;
}
passed-is s g v u t Start h near (inr missed, is) = absurd (let e = missed.2.0 in cc)
passed-is s g v u t NextMark h near at =
    let seen = pair-of s at.1.0 at.0 at.1.1.0 in
    let is : t ≡ moved s.closed u = at.1.1.1 ∙ ap (λ n. moved n u) seen.0 in
    let later = near-look s v u t near is in
    let missed = subst (λ f. MissedMark PlainExcused f u.number (next_word_of t.marks) g) seen.1 at.1.1.2 in
    let marks : t.marks ≡ (moved s.closed v).marks = ap (λ (w : State). w.marks) is ∙ near-marks s v u near in
    record {
      barred = λ enabled. marks-not s g u.number (next_word_of t.marks) missed (subst (λ m. IsWordZero s (next_word_of m)) (sym marks) enabled);
      near = later;
      same = marks-same s g u.number (next_word_of t.marks) missed;
    }
passed-is s g v u t NextClose h near at =
    let seen = pair-of s at.1.0 at.0 at.1.1.0 in
    let is : t ≡ moved s.closed u = at.1.1.1 ∙ ap (λ n. moved n u) seen.0 in
    let later = near-look s v u t near is in
    let missed = subst (λ f. MissedClose PlainExcused f u.number (is_ready t.marks) g) seen.1 at.1.1.2 in
    let marks : t.marks ≡ (moved s.closed v).marks = ap (λ (w : State). w.marks) is ∙ near-marks s v u near in
    record {
      barred = λ enabled. close-not s g u.number (is_ready t.marks) missed (ap is_ready marks ∙ enabled);
      near = later;
      same = close-same s g u.number (is_ready t.marks) missed;
    }

-- what ended the turn was enabled
did-enabled : (tree : Tree) (s s' : Shared) (v u v' : State) (tried : Try) (made : Event) → IsWorker v → Near s v u → EndsTurn PlainDone PlainExcused tree u s tried (Did made) v' s' →
    IsEnabled v s tried
did-enabled tree s s' v u v' (Step e) made h near did =
    (sym (guard-same s v u e near) ∙ did.enabled, ready-same s v u e near (made-ready s s' u.number (call_of e u) did.given did.shared))
did-enabled tree s s' v u v' PostOther made h near did =
    (did.0, (did.1.0, place-of v did.0 did.1.0 h (sym (postable-same v u s did.0 did.1.0 near) ∙ did.1.1.1.here)))
did-enabled tree s s' v u v' Start made h near did =
    sym (guard-same s v u (event.Claim v.number) near) ∙ subst (λ n. own_guard (event.Claim n) u ≡ None) (number-same s v u near) did.0
did-enabled tree s s' v u v' NextMark made h near did =
    let seen = pair-of s did.between did.closed did.looked in
    let marks : (moved did.closed u).marks ≡ (moved s.closed v).marks = ap (λ n. (moved n u).marks) seen.0 ∙ near-marks s v u near in
    let next = ap next_word_of (sym marks) ∙ did.next in
    let shared = subst (λ f. outcome f u.number (ToMark did.word) ≡ Some (Nothing, s')) seen.1 did.shared in
    rw next (zero-of s s' (nat_eq (word_at s did.word) 0) Nothing did.word refl shared)
did-enabled tree s s' v u v' NextClose made h near did =
    let seen = pair-of s did.between did.closed did.looked in
    let marks : (moved did.closed u).marks ≡ (moved s.closed v).marks = ap (λ n. (moved n u).marks) seen.0 ∙ near-marks s v u near in
    ap is_ready (sym marks) ∙ did.ready

ended-enabled : (tree : Tree) (s s' : Shared) (v u v' : State) (tried : Try) (turn : Turn) → IsWorker v → Near s v u → EndsTurn PlainDone PlainExcused tree u s tried turn v' s' → IsEnabled v s tried
ended-enabled tree s s' v u v' tried (Did made) h near ended = did-enabled tree s s' v u v' tried made h near ended
ended-enabled tree s s' v u v' tried Idle h near ended = absurd ended
ended-enabled tree s s' v u v' (Step e) NoMemory h near ended =
    (sym (guard-same s v u e near) ∙ ended.1, rw ended.0 tt)
ended-enabled tree s s' v u v' PostOther NoMemory h near ended = absurd ended
ended-enabled tree s s' v u v' Start NoMemory h near ended = absurd ended
ended-enabled tree s s' v u v' NextMark NoMemory h near ended = absurd ended
ended-enabled tree s s' v u v' NextClose NoMemory h near ended = absurd ended

-- ---- a turn
takes-from : (tree : Tree) (v u v' : State) (s s' : Shared) (tries : List Try) (turn : Turn) → IsWorker v → Near s v u →
    IsTurn PlainDone PlainExcused tree u s tries turn v' s' → TakesFirst tree v s tries turn v' s'
takes-from tree v u v' s s' [] turn h near is = (is.0, near-moved s v v' (subst (Near s v) (sym is.1) near), is.2)
takes-from tree v u v' s s' (tried ∷ tries) turn h near (inl ended) =
    inl (ended-enabled tree s s' v u v' tried turn h near ended, (u, (near-moved s v u near, ended)))
takes-from tree v u v' s s' (tried ∷ tries) turn h near (inr passed) =
    let t = passed.0 in
    let g = passed.1.0 in
    let at = passed-is s g v u t tried h near passed.1.1.0 in
    inr (at.barred, takes-from tree v t v' s s' tries turn h at.near (subst (λ f. IsTurn PlainDone PlainExcused tree t f tries turn v' s') at.same passed.1.1.1))

pub takes-first : PlainTurnsTakeTheFirst
takes-first tree v v' s s' tries turn h is = takes-from tree v v v' s s' tries turn h (near-refl s v) is
