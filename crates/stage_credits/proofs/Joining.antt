-- Two seats become one, and the one that has all workers knows all chunks.
use Rattle.std.proofs.Common.{◌≡◌, ℕ, zero, suc, List, [], ◌∷◌, ◌++◌, ◌+◌, ◌*◌, ◌<◌, ◌≤◌, length, get_or, set, refl, sym, ap, arith, subst, ◌∙◌}
use Rattle.std.specs.Prelude.{sum_by}
use mathlib.Core.Option.{some, some-ne-none, some-injective}
use native.Mathlib.Decide.{dec_le}
use lib.ListN.{get_elem?}
use Rattle.atomic_table.proofs.Lists.{set_else}
use Rattle.stage_credits.specs.declared.view.View.{View}
use Rattle.stage_credits.specs.declared.setup.Setup.{Setup}
use Rattle.stage_credits.specs.Layout.{IsUnit, closed_word}
use Rattle.stage_credits.specs.Lists.{times}
use Rattle.stage_credits.specs.Rule.{IsSound, units_held, HoldsUnits, IdleHasNothing, covers, SawEnds, MarksAreZero, Each}
use Rattle.stage_credits.specs.Start.{joined_view, spent_view}
use Rattle.stage_credits.proofs.Sums.{sum_by-put, sum_by-part}
use Rattle.std.proofs.lemmas.List.Sums.{sum_by-cons, sum_by-append}
use Rattle.std.specs.List.{All}
use Rattle.stage_credits.specs.Seats.{Seated, claims}
use Rattle.atomic_table.specs.Table.{Joins}
use Rattle.stage_credits.proofs.Frames.{Each-put}
use Rattle.stage_credits.specs.declared.view.Chunk.{Chunk}
use Rattle.stage_credits.proofs.Workers.{IdleHasNothing-some}
use Rattle.stage_credits.proofs.UnitSteps.{holds}

times-append : (x : ℕ) (xs ys : List ℕ) → times x (xs ++ ys) ≡ times x xs + times x ys
times-append x [] ys = omega arith
times-append x (y ∷ xs) ys = let r = times-append x xs ys in omega arith

pub covers-append : (m place : ℕ) (xs ys : List Chunk) → covers m place (xs ++ ys) ≡ covers m place xs + covers m place ys
covers-append m place [] ys = omega arith
covers-append m place (c ∷ xs) ys = let r = covers-append m place xs ys in omega arith

pub length-both : (xs ys : List ℕ) → length (xs ++ ys) ≡ length xs + length ys
length-both [] ys = omega arith
length-both (x ∷ xs) ys = let r = length-both xs ys in omega arith

HoldsUnits-joined_view : (setup : Setup) (v w : View) → HoldsUnits setup v → HoldsUnits setup w → HoldsUnits setup (joined_view v w)
HoldsUnits-joined_view setup v w of_v of_w i holds = go (dec_le 1 (units_held i v))
  where
    go : Dec (1 ≤ units_held i v) → IsUnit setup i
    go (yes d) = of_v i d
    go (no d) = of_w i (let x = times-append i v.open_units w.open_units in let y = times-append i v.work_units w.work_units in omega arith)

pub joins : (setup : Setup) (id other : ℕ) (v w : View) → 0 < length v.workers → Joins (holds setup) id v other w (joined_view v w) spent_view
joins setup id other v w one s kept at apart at' =
    let both = joined_view v w in
    let half = set s.views id both in
    let at_w : get_elem? s.views other ≡ some w = sym (set_else s.views id other both apart) ∙ at' in
    let twice : (f : View → ℕ) → f both ≡ f v + f w → f spent_view ≡ 0 → sum_by f (set half other spent_view) ≡ sum_by f s.views = λ f adds none.
    let a = sum_by-put f s.views id v both at in let b = sum_by-put f half other w spent_view at' in omega arith in
    let each : (Q : View → Type 0) → Q both → Q spent_view → Each Q s.views → Each Q (set half other spent_view) =
    λ Q b t old. Each-put Q half other spent_view t (Each-put Q s.views id both b old) in
    let some_one : 0 < length both.workers = let l = length-both v.workers w.workers in omega arith in record {
      shape = kept.shape;
      counted = kept.counted;
      units_add_up = record {
        balanced = λ i b.
            let c = twice (units_held i) (let x = times-append i v.open_units w.open_units in let y = times-append i v.work_units w.work_units in omega arith) refl in
            let k = kept.units_add_up.balanced i b in omega arith;
        limited = kept.units_add_up.limited;
        unused = kept.units_add_up.unused;
        exist = each (HoldsUnits setup) (HoldsUnits-joined_view setup v w (kept.units_add_up.exist id v at) (kept.units_add_up.exist other w at_w))
            (λ i holds. absurd (omega arith)) kept.units_add_up.exist;
      };
      workers_add_up = record {
        workers = twice (λ u. length u.workers) (length-both v.workers w.workers) refl ∙ kept.workers_add_up.workers;
        idle = each IdleHasNothing (IdleHasNothing-some both some_one) (λ e. record { chunks = refl; open_units = refl; work_units = refl; enrolled = refl; marks = refl }) kept.workers_add_up.idle;
        enrolled = λ m b. kept.workers_add_up.enrolled m b ∙ sym (twice (λ u. times m u.enrolled) (times-append m v.enrolled w.enrolled) refl);
      };
      chunks_add_up = record {
        below = λ m place b lt. twice (λ u. covers m place u.chunks) (covers-append m place v.chunks w.chunks) refl ∙ kept.chunks_add_up.below m place b lt;
        above = λ m place b le. twice (λ u. covers m place u.chunks) (covers-append m place v.chunks w.chunks) refl ∙ kept.chunks_add_up.above m place b le;
        within = kept.chunks_add_up.within;
        retired = kept.chunks_add_up.retired;
        ended = each (SawEnds setup s.words) (kept.chunks_add_up.ended id v at) (λ m b seen. absurd (omega arith)) kept.chunks_add_up.ended;
      };
      stages_close = record { within = kept.stages_close.within; enrolled = kept.stages_close.enrolled; used = kept.stages_close.used };
      marks_stay = record {
        saw = each (λ u. u.closed ≤ get_or s.words (closed_word setup) 0) (kept.marks_stay.saw id v at) (omega arith) kept.marks_stay.saw;
        zero_yet = each (MarksAreZero setup s.words) (λ word marked. absurd (omega arith)) (λ word marked. absurd (omega arith)) kept.marks_stay.zero_yet;
      };
    }

sum_by-none : (f g : View → ℕ) (xs : List View) → sum_by f xs ≡ 0 → ((j : ℕ) (y : View) → get_elem? xs j ≡ some y → f y ≡ 0 → g y ≡ 0) → sum_by g xs ≡ 0
sum_by-none f g [] all none = refl
sum_by-none f g (z ∷ zs) all none =
    let a = sum_by-cons f z zs in let b = sum_by-cons g z zs in
    let c = sum_by-none f g zs (omega arith) (λ j y e. none (suc j) y e) in
    let d = none zero z refl (omega arith) in omega arith

sum_by-alone : (f g : View → ℕ) (xs : List View) (i : ℕ) (x : View) → get_elem? xs i ≡ some x → sum_by f xs ≡ f x
    → ((j : ℕ) (y : View) → get_elem? xs j ≡ some y → f y ≡ 0 → g y ≡ 0) → sum_by g xs ≡ g x
sum_by-alone f g [] i x e all none = absurd (some-ne-none x (sym e))
sum_by-alone f g (z ∷ zs) zero x e all none =
    let a = sum_by-cons f z zs in let b = sum_by-cons g z zs in
    let same : f z ≡ f x = ap f (some-injective z x e) in let same' : g z ≡ g x = ap g (some-injective z x e) in
    let c = sum_by-none f g zs (omega arith) (λ j y h. none (suc j) y h) in omega arith
sum_by-alone f g (z ∷ zs) (suc i) x e all none =
    let a = sum_by-cons f z zs in let b = sum_by-cons g z zs in
    let p = sum_by-part f zs i x e in
    let d = none zero z refl (omega arith) in
    let c = sum_by-alone f g zs i x e (omega arith) (λ j y h. none (suc j) y h) in omega arith

no_worker : (xs : List ℕ) → length xs ≡ 0 → xs ≡ []
no_worker [] e = refl
no_worker (x ∷ xs) e = absurd (omega arith)

-- the view that workers for all workers has all chunks
pub all_chunks : (setup : Setup) (words : List ℕ) (views : List View) (id : ℕ) (v : View) (m place : ℕ) → get_elem? views id ≡ some v
    → length v.workers ≡ setup.shape.machines * setup.shape.workers → IsSound setup words views
    → sum_by (λ u. covers m place u.chunks) views ≡ covers m place v.chunks
all_chunks setup words views id v m place at all kept =
    sum_by-alone (λ u. length u.workers) (λ u. covers m place u.chunks) views id v at (kept.workers_add_up.workers ∙ sym all)
    (λ j u e none. ap (covers m place) (kept.workers_add_up.idle j u e (no_worker u.workers none)).chunks)

at_end : {X : Type 0} (xs : List X) (x d : X) → get_or (xs ++ x ∷ []) (length xs) d ≡ x
at_end [] x d = refl
at_end (y ∷ xs) x d = at_end xs x d

length-snoc : {X : Type 0} (xs : List X) (x : X) → length (xs ++ x ∷ []) ≡ length xs + 1
length-snoc [] x = refl
length-snoc (y ∷ xs) x = let r = length-snoc xs x in omega arith

pub last_of : {X : Type 0} (P : X → Type 0) (xs : List X) (x : X) → All P (xs ++ x ∷ []) → P x
last_of P xs x all = let n = length-snoc xs x in subst P (at_end xs x x) (all (length xs) x (omega arith))

-- what the seats that are left claim, and the one that was taken
pub claims-snoc : (m place : ℕ) (xs : List Seated) (x : Seated) → claims m place (xs ++ x ∷ []) ≡ claims m place xs + covers m place x.view.chunks
claims-snoc m place xs x =
    let a = sum_by-append (λ (s : Seated). covers m place s.view.chunks) xs (x ∷ []) in
    let b = sum_by-cons (λ (s : Seated). covers m place s.view.chunks) x [] in omega arith

pub found_at : (xs : List ℕ) (i x : ℕ) → get_elem? xs i ≡ some x → get_or xs i 0 ≡ x
found_at [] i x e = absurd (some-ne-none x (sym e))
found_at (y ∷ ys) zero x e = some-injective y x e
found_at (y ∷ ys) (suc i) x e = found_at ys i x e
