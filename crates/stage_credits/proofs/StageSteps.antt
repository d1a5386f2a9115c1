-- The steps on cursors, numbers of enrolled workers and `closed` keep the rule, from any state that meets it.
use Rattle.std.proofs.Common.{◌≡◌, ◌≢◌, ℕ, Bool, true, false, List, [], ◌∷◌, ◌+◌, ◌-◌, ◌%◌, ◌^◌, ◌<◌, ◌≤◌, ◌==◌}
use Rattle.std.proofs.Common.{◌&&◌, nat_lt, nat_le, length, get_or, set, if◌then◌else◌, refl, sym, ap, arith, subst, ◌∙◌, ◌⊎◌, inl, inr, ⊎_elim, le_refl}
use Rattle.std.proofs.lemmas.Bool.Decides.{nat_tests}
use mathlib.Core.Logic.{dite}
use mathlib.Core.Option.{some, none}
use native.Mathlib.Decide.{ℕ_discrete, dec_le}
use lib.ListN.{get_elem?}
use prog.Atomic.{either}
use Rattle.atomic_table.specs.Table.{Me, step, Allows, keeps}
use Rattle.stage_credits.specs.declared.view.View.{View}
use Rattle.stage_credits.specs.declared.setup.Setup.{Setup}
use Rattle.stage_credits.specs.Layout.{closed_word, cursor_of, enrolled_of, roots_of}
use Rattle.stage_credits.specs.Lists.{one_if, times}
use Rattle.stage_credits.specs.Views.{machine_at, after_exchange, after_look, after_miss, after_seek, after_check, after_sight, after_end, after_claim}
use Rattle.stage_credits.specs.Views.{after_retire, after_mark, after_rise, after_close, SeeksAt, ChecksAt, SeesAt, ClaimsAt, RetiresAt, ClosesAt}
use Rattle.stage_credits.specs.Rule.{IsSound, IsWordOf, covers}
use Rattle.stage_credits.specs.Seats.{HasMarkedAll}
use Rattle.stage_credits.proofs.Decoding.{marked_words}
use Rattle.stage_credits.proofs.Sums.{same_test, sum_by-part, times-cons_same, times-cons_other}
use Rattle.stage_credits.proofs.Sound.{IsSound-saw, IsSound-claim, IsSound-retire, IsSound-close}
use Rattle.stage_credits.proofs.UnitSteps.{holds, down, looked, missed}

le_test : (x y : ℕ) → nat_le x y ≡ true → x ≤ y
le_test x y e = grind (arith, nat_tests)

-- what a list with one more item has
one_more : (x k : ℕ) (xs : List ℕ) → 0 < times k (x ∷ xs) → Dec (1 ≤ times k xs) → (k ≡ x) ⊎ (0 < times k xs)
one_more x k xs here (yes d) = inr (omega arith)
one_more x k xs here (no d) = dite (ℕ_discrete k x) (λ (e : k ≡ x). inl e) (λ (ne : k ≢ x). let o = times-cons_other k x xs ne in absurd (omega arith))

-- a cursor's machine
pub machine_at-cursor_of : (setup : Setup) (v : View) (machine : ℕ) → v.setup ≡ setup → machine_at v (cursor_of setup machine) ≡ machine
machine_at-cursor_of setup v machine same = rw same (omega arith)

-- a word that must be 0 stands before `closed`
pub IsWordOf-below : (setup : Setup) (stage word : ℕ) → IsWordOf setup stage word → word < closed_word setup
IsWordOf-below setup stage word is = go (dec_le 1 stage)
  where
    go : Dec (1 ≤ stage) → word < closed_word setup
    go (yes d) = let i = is.used d in omega (arith, i.2.below)
    go (no d) = let i = is.enrolled (omega arith) in omega (arith, i.1, i.2)

-- the view saw the end of a machine whose cursor was found there
sought : (setup : Setup) (words : List ℕ) (views : List View) (id machine : ℕ) (v : View) → get_elem? views id ≡ some v → 0 < length v.workers
    → machine < setup.shape.machines → IsSound setup words views
    → (b : Bool) → nat_le (roots_of setup machine) (get_or words (cursor_of setup machine) 0) ≡ b
    → (let x : ℕ = cursor_of setup machine in let n : ℕ = get_or words (cursor_of setup machine) 0 in
    IsSound setup (set words x n) (set views id (if b then after_end machine v x n else after_look v x n)))
sought setup words views id machine v at one machine_in kept true e =
    let x = cursor_of setup machine in
    let n = get_or words x 0 in
    let w = after_end machine v x n in
    let reached : roots_of setup machine ≤ n = le_test (roots_of setup machine) n e in
    let at_end : roots_of setup machine ≡ n = let k = kept.chunks_add_up.within machine machine_in in omega arith in
    let E : ℕ → Type 0 = λ j. get_or words (cursor_of setup j) 0 ≡ roots_of setup j in
    IsSound-saw setup words views id x v w at one refl refl refl (λ k. refl)
    (λ m b saw. ⊎_elim (λ (h : m ≡ machine). subst E (sym h) (sym at_end)) (λ (h : 0 < times m v.ended). kept.chunks_add_up.ended id v at m b h)
    (one_more machine m v.ended saw (dec_le 1 (times m v.ended))))
    (kept.marks_stay.saw id v at) (kept.marks_stay.zero_yet id v at) kept
sought setup words views id machine v at one machine_in kept false e = looked setup words views id (cursor_of setup machine) v at one kept

pub seek_allowed : (setup : Setup) (slots id machine : ℕ) (me : Me ℕ View) → 0 < length me.0.workers → me.0.setup ≡ setup → machine < setup.shape.machines
    → Allows (holds setup) slots id me (cursor_of setup machine) (λ n. n) (SeeksAt (step slots (cursor_of setup machine) 0 0 none) me)
seek_allowed setup slots id machine me one same_setup machine_in s kept homes at small =
    let x = cursor_of setup machine in
    let n = get_or s.words x 0 in
    let which = machine_at-cursor_of setup me.0 machine same_setup in
    let S : Setup → ℕ → Type 0 = λ p j. IsSound setup (set s.words x n) (set s.views id (if nat_le (roots_of p j) n then after_end j me.0 x n else after_look me.0 x n)) in
    let sound : S setup machine = sought setup s.words s.views id machine me.0 at one machine_in kept (nat_le (roots_of setup machine) n) refl in
    let R : Setup → ℕ → Type 0 = λ p j. n ≤ roots_of p j in (
      after_seek me.0 x n,
      keeps,
      tt,
      subst (λ (p : Setup). S p (machine_at me.0 x)) (sym same_setup) (subst (S setup) (sym which) sound),
      (refl, subst (λ (p : Setup). R p (machine_at me.0 x)) (sym same_setup) (subst (R setup) (sym which) (kept.chunks_add_up.within machine machine_in))),
    )

checked : (setup : Setup) (words : List ℕ) (views : List View) (id x : ℕ) (v : View) → get_elem? views id ≡ some v → 0 < length v.workers → IsWordOf setup v.closed x → IsSound setup words views
    → (b : Bool) → (get_or words x 0 == 0) ≡ b
    → (let n : ℕ = get_or words x 0 in
    IsSound setup (set words x n) (set views id (if b then after_mark v x n else after_look v x n)))
checked setup words views id x v at one is kept true e =
    let n = get_or words x 0 in
    let none_there : n ≡ 0 = same_test n 0 e in
    let w = after_mark v x n in
    let M : ℕ → Type 0 = λ j. IsWordOf setup v.closed j × (get_or words j 0 ≡ 0) in
    IsSound-saw setup words views id x v w at one refl refl refl (λ k. refl) (kept.chunks_add_up.ended id v at) (kept.marks_stay.saw id v at)
    (λ word marked. ⊎_elim (λ (h : word ≡ x). subst M (sym h) (is, none_there)) (λ (h : 0 < times word v.marks). kept.marks_stay.zero_yet id v at word h)
    (one_more x word v.marks marked (dec_le 1 (times word v.marks))))
    kept
checked setup words views id x v at one is kept false e = looked setup words views id x v at one kept

pub check_allowed : (setup : Setup) (slots id x : ℕ) (me : Me ℕ View) → 0 < length me.0.workers → IsWordOf setup me.0.closed x
    → Allows (holds setup) slots id me x (λ n. n) (ChecksAt (step slots x 0 0 none) me)
check_allowed setup slots id x me one is s kept homes at small =
    let n = get_or s.words x 0 in
    (after_check me.0 x n, keeps, tt, checked setup s.words s.views id x me.0 at one is kept (n == 0) refl, refl)

sighted : (setup : Setup) (words : List ℕ) (views : List View) (id : ℕ) (v : View) → get_elem? views id ≡ some v → 0 < length v.workers → IsSound setup words views
    → (b : Bool) → (let x : ℕ = closed_word setup in let n : ℕ = get_or words (closed_word setup) 0 in
    IsSound setup (set words x n) (set views id (if b then after_rise v x n else after_look v x n)))
sighted setup words views id v at one kept true =
    let x = closed_word setup in
    let n = get_or words x 0 in
    let w = after_rise v x n in
    IsSound-saw setup words views id x v w at one refl refl refl (λ k. refl) (kept.chunks_add_up.ended id v at) (le_refl n) (λ word marked. absurd (omega arith)) kept
sighted setup words views id v at one kept false = looked setup words views id (closed_word setup) v at one kept

pub see_allowed : (setup : Setup) (slots id : ℕ) (me : Me ℕ View) → 0 < length me.0.workers → me.0.setup ≡ setup
    → Allows (holds setup) slots id me (closed_word setup) (λ n. n) (SeesAt (step slots (closed_word setup) 0 0 none) me)
see_allowed setup slots id me one same_setup s kept homes at small =
    let n = get_or s.words (closed_word setup) 0 in
    let within = kept.stages_close.within in
    let stages = kept.shape.stages in (
      after_sight me.0 (closed_word setup) n,
      keeps,
      tt,
      sighted setup s.words s.views id me.0 at one kept (nat_lt me.0.closed n),
      (refl, kept.marks_stay.saw id me.0 at, subst (λ (p : Setup). n ≤ p.shape.stages) (sym same_setup) within, omega arith),
    )

claimed : (setup : Setup) (words : List ℕ) (views : List View) (id machine first end : ℕ) (v : View) → get_elem? views id ≡ some v → 0 < length v.workers
    → v.setup ≡ setup → machine < setup.shape.machines
    → first < end → end ≤ roots_of setup machine → IsSound setup words views → (b : Bool) → (get_or words (cursor_of setup machine) 0 == first) ≡ b
    → (let x : ℕ = cursor_of setup machine in let n : ℕ = get_or words (cursor_of setup machine) 0 in
    IsSound setup (set words x (either b end n)) (set views id (if b then after_claim (machine_at v x) end v x n else after_miss v x n)))
claimed setup words views id machine first end v at one same_setup machine_in up in_roots kept true e =
    let x = cursor_of setup machine in
    let n = get_or words x 0 in
    let same : n ≡ first = same_test n first e in
    let which = machine_at-cursor_of setup v machine same_setup in
    IsSound-claim setup words views id machine first end v (after_claim (machine_at v x) end v x n) at one machine_in refl refl refl refl refl (λ k. refl)
    (λ m place. let C : ℕ → ℕ → Type 0 = λ j from. one_if ((j == m) && (nat_le from place && nat_lt place end)) + covers m place v.chunks ≡ one_if
    ((machine == m) && (nat_le first place && nat_lt place end)) + covers m place v.chunks in
    subst (λ (j : ℕ). C j n) (sym which) (subst (λ (from : ℕ). C machine from) (sym same) refl))
    same up in_roots kept
claimed setup words views id machine first end v at one same_setup machine_in up in_roots kept false e = missed setup words views id (cursor_of setup machine) v at one kept

pub claim_allowed : (setup : Setup) (slots id machine first end : ℕ) (me : Me ℕ View) → 0 < length me.0.workers → me.0.setup ≡ setup → machine < setup.shape.machines
    → first < end → end ≤ roots_of setup machine
    → Allows (holds setup) slots id me (cursor_of setup machine) (λ n. either (n == first) end n) (ClaimsAt (step slots (cursor_of setup machine) first end none) me)
claim_allowed setup slots id machine first end me one same_setup machine_in up in_roots s kept homes at small =
    let x = cursor_of setup machine in
    let n = get_or s.words x 0 in (
      after_exchange (after_claim (machine_at me.0 x) end) me.0 x first n,
      keeps,
      tt,
      claimed setup s.words s.views id machine first end me.0 at one same_setup machine_in
          up in_roots kept (n == first) refl,
      refl,
    )

pub retire_allowed : (setup : Setup) (slots id machine : ℕ) (me : Me ℕ View) → 0 < length me.0.workers → machine < setup.shape.machines → me.0.enrolled ≡ machine ∷ [] → 0 < times machine me.0.ended
    → Allows (holds setup) slots id me (enrolled_of setup machine) (λ n. (n + (2 ^ 64 - 1)) % 2 ^ 64) (RetiresAt (step slots (enrolled_of setup machine) 1 0 none) me)
retire_allowed setup slots id machine me one machine_in enrolled saw s kept homes at small =
    let x = enrolled_of setup machine in
    let n = get_or s.words x 0 in
    let w = after_retire me.0 x n in
    let once : times machine me.0.enrolled ≡ 1 = ap (times machine) enrolled ∙ times-cons_same machine [] in
    let p = sum_by-part (λ u. times machine u.enrolled) s.views id me.0 at in
    let is = kept.workers_add_up.enrolled machine machine_in in
    let after : (n + (2 ^ 64 - 1)) % 2 ^ 64 ≡ n - 1 = down n (omega arith) small in
    let others : (k : ℕ) → k ≢ machine → 0 ≡ times k me.0.enrolled = λ k ne. sym (ap (times k) enrolled ∙ times-cons_other k machine [] ne) in
    let sound : IsSound setup (set s.words x (n - 1)) (set s.views id w) =
    IsSound-retire setup s.words s.views id machine (n - 1) me.0 w at one machine_in refl refl refl refl refl (λ k. refl) (omega arith) (omega arith) others saw kept in
    (w, keeps, tt, subst (λ (m : ℕ). IsSound setup (set s.words x m) (set s.views id w)) (sym after) sound, refl)

closed_up : (setup : Setup) (words : List ℕ) (views : List View) (id : ℕ) (v : View) → get_elem? views id ≡ some v → 0 < length v.workers → v.closed < setup.shape.stages
    → ((word : ℕ) → IsWordOf setup v.closed word → 0 < times word v.marks)
    → IsSound setup words views → (b : Bool) → (get_or words (closed_word setup) 0 == v.closed) ≡ b
    → (let x : ℕ = closed_word setup in let n : ℕ = get_or words (closed_word setup) 0 in
    IsSound setup (set words x (either b (v.closed + 1) n)) (set views id (if b then after_close v x n else after_miss v x n)))
closed_up setup words views id v at one not_last marked kept true e =
    let x = closed_word setup in
    let n = get_or words x 0 in
    let same : n ≡ v.closed = same_test n v.closed e in
    IsSound-close setup words views id v.closed v (after_close v x n) at one refl refl refl refl (omega arith) refl (λ k. refl) same not_last refl marked kept
closed_up setup words views id v at one not_last marked kept false e = missed setup words views id (closed_word setup) v at one kept

pub close_allowed : (setup : Setup) (slots id seen : ℕ) (me : Me ℕ View) → 0 < length me.0.workers → seen ≡ me.0.closed → me.0.closed < setup.shape.stages → HasMarkedAll setup me.0
    → Allows (holds setup) slots id me (closed_word setup) (λ n. either (n == seen) (seen + 1) n) (ClosesAt (step slots (closed_word setup) seen (seen + 1) none) me)
close_allowed setup slots id seen me one is_closed not_last marked =
    subst (λ (c : ℕ). Allows (holds setup) slots id me (closed_word setup) (λ n. either (n == c) (c + 1) n) (ClosesAt (step slots (closed_word setup) c (c + 1) none) me)) (sym is_closed)
    (λ s kept homes at small.
    let n = get_or s.words (closed_word setup) 0 in (
      after_exchange after_close me.0 (closed_word setup) me.0.closed n,
      keeps,
      tt,
      closed_up setup s.words s.views id me.0 at one not_last
          (marked_words setup me.0 kept.shape not_last marked) kept (n == me.0.closed) refl,
      (refl, kept.marks_stay.saw id me.0 at),
    ))
