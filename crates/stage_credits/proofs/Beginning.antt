-- The rule at the start, and where a worker is cut off the fresh_view.
use Rattle.std.proofs.Common.{◌≡◌, ℕ, List, [], ◌∷◌, ◌++◌, ◌+◌, ◌*◌, ◌≤◌, length, get_or, set, refl, sym, ap, arith, subst, ◌∙◌, ⊎_elim, zero-mul}
use Rattle.std.specs.Prelude.{sum_by}
use mathlib.Core.Option.{some, some-ne-none}
use lib.ListN.{get_elem?}
use Rattle.atomic_table.proofs.Lists.{at_snoc}
use Rattle.adfs_base.specs.Shape.{IsShape}
use Rattle.stage_credits.specs.declared.view.View.{View}
use Rattle.stage_credits.specs.declared.setup.Setup.{Setup}
use Rattle.stage_credits.specs.Layout.{units, layer, stage_start, cursor_of, closed_word}
use Rattle.stage_credits.specs.Lists.{times}
use Rattle.stage_credits.specs.Rule.{IsSound, units_held, HoldsUnits, IdleHasNothing, covers, SawEnds, MarksAreZero, Each}
use Rattle.stage_credits.specs.Start.{machines_of_workers, fresh_view, first_view, view_left, view_handed, StartWords}
use Rattle.stage_credits.proofs.Sums.{sum_by-put}
use Rattle.std.proofs.lemmas.List.Sums.{sum_by-cons}
use Rattle.atomic_table.specs.Table.{Splits}
use Rattle.stage_credits.proofs.Frames.{Each-put}
use Rattle.stage_credits.proofs.WorkerLists.{length-machines_of_workers, times-machines_of_workers}
use Rattle.stage_credits.proofs.UnitSteps.{holds}

one_view : (f : View → ℕ) (v : View) → sum_by f (v ∷ []) ≡ f v
one_view f v = let a = sum_by-cons f v [] in omega arith

Each-snoc : (Q : View → Type 0) (views : List View) (w : View) → Q w → Each Q views → Each Q (views ++ w ∷ [])
Each-snoc Q views w here each j u at = ⊎_elim (λ (t : get_elem? views j ≡ some u). each j u t) (λ (t : w ≡ u). subst Q t here) (at_snoc views w u j at)

Each-one : (Q : View → Type 0) (w : View) → Q w → Each Q (w ∷ [])
Each-one Q w here = Each-snoc Q [] w here (λ j u at. absurd (some-ne-none u (sym at)))

sum_by-snoc : (f : View → ℕ) (xs : List View) (y : View) → sum_by f (xs ++ y ∷ []) ≡ sum_by f xs + f y
sum_by-snoc f [] y = let a = sum_by-cons f y [] in omega arith
sum_by-snoc f (z ∷ zs) y = let a = sum_by-cons f z zs in let b = sum_by-cons f z (zs ++ y ∷ []) in let c = sum_by-snoc f zs y in omega arith

sum_by-cut : (f : View → ℕ) (xs : List View) (i : ℕ) (x y z : View) → get_elem? xs i ≡ some x → f y + f z ≡ f x → sum_by f (set xs i y ++ z ∷ []) ≡ sum_by f xs
sum_by-cut f xs i x y z e cut = let a = sum_by-put f xs i x y e in let b = sum_by-snoc f (set xs i y) z in omega arith

-- a fresh view of nobody has nothing
nothing : {setup : Setup} {ms : List ℕ} → IdleHasNothing (fresh_view setup ms)
nothing none = record { chunks = refl; open_units = refl; work_units = refl; enrolled = none; marks = refl }

pub begins : (setup : Setup) (words : List ℕ) → IsShape setup.shape → StartWords setup words → IsSound setup words (first_view setup ∷ [])
begins setup words shape start =
    let v = first_view setup in
    let team = machines_of_workers setup.shape.workers 0 (setup.shape.machines * setup.shape.workers) in
    let none : stage_start setup (get_or words (closed_word setup) 0) ≡ 0 = ap (stage_start setup) start.closed ∙ zero-mul (layer setup) in record {
      shape = shape;
      counted = start.counted;
      units_add_up = record {
        balanced = λ i b. let x = start.before i (omega arith) in let y = start.before (units setup + i) (omega arith) in let s = one_view (units_held i) v in omega arith;
        limited = λ i b. let x = start.before i (omega arith) in omega arith;
        unused = λ i b gap. start.before i (omega arith);
        exist = Each-one (HoldsUnits setup) v (λ i holds. absurd (omega arith));
      };
      workers_add_up = record {
        workers = one_view (λ u. length u.workers) v ∙ length-machines_of_workers setup.shape.workers 0 (setup.shape.machines * setup.shape.workers);
        idle = Each-one IdleHasNothing v nothing;
        enrolled = λ m b. start.enrolled m b ∙ sym (one_view (λ u. times m u.enrolled) v ∙ times-machines_of_workers m setup.shape.workers setup.shape.machines b);
      };
      chunks_add_up = record {
        below = λ m place b lt. let x = start.before (cursor_of setup m) (omega arith) in absurd (omega arith);
        above = λ m place b le. one_view (λ u. covers m place u.chunks) v;
        within = λ m b. let x = start.before (cursor_of setup m) (omega arith) in omega arith;
        retired = λ m b lt. let x = start.enrolled m b in absurd (omega arith);
        ended = Each-one (SawEnds setup words) v (λ m b saw. absurd (omega arith));
      };
      stages_close = record {
        within = let c = start.closed in omega arith;
        enrolled = λ begun m b. let c = start.closed in absurd (omega arith);
        used = λ i b low. absurd (omega arith);
      };
      marks_stay = record {
        saw = Each-one (λ u. u.closed ≤ get_or words (closed_word setup) 0) v (omega arith);
        zero_yet = Each-one (MarksAreZero setup words) v (λ word marked. absurd (omega arith));
      };
    }

one_out_of : (setup : Setup) (id machine : ℕ) (ms : List ℕ) → Splits (holds setup) id (fresh_view setup (machine ∷ ms)) (fresh_view setup ms) (fresh_view setup (machine ∷ []))
one_out_of setup id machine ms s kept at =
    let v = fresh_view setup (machine ∷ ms) in
    let left = fresh_view setup ms in
    let right = fresh_view setup (machine ∷ []) in
    let cut : (f : View → ℕ) → f left + f right ≡ f v → sum_by f (set s.views id left ++ right ∷ []) ≡ sum_by f s.views = λ f e. sum_by-cut f s.views id v left right at e in
    let both : (Q : View → Type 0) → Q left → Q right → Each Q s.views → Each Q (set s.views id left ++ right ∷ []) =
    λ Q l r each. Each-snoc Q (set s.views id left) right r (Each-put Q s.views id left l each) in
    let saw = kept.marks_stay.saw id v at in record {
      shape = kept.shape;
      counted = kept.counted;
      units_add_up = record {
        balanced = λ i b. let c = cut (units_held i) (omega arith) in let k = kept.units_add_up.balanced i b in omega arith;
        limited = kept.units_add_up.limited;
        unused = kept.units_add_up.unused;
        exist = both (HoldsUnits setup) (λ i holds. absurd (omega arith)) (λ i holds. absurd (omega arith)) kept.units_add_up.exist;
      };
      workers_add_up = record {
        workers = cut (λ u. length u.workers) (omega arith) ∙ kept.workers_add_up.workers;
        idle = both IdleHasNothing nothing nothing kept.workers_add_up.idle;
        enrolled = λ m b. kept.workers_add_up.enrolled m b ∙ sym (cut (λ u. times m u.enrolled) (omega arith));
      };
      chunks_add_up = record {
        below = λ m place b lt. cut (λ u. covers m place u.chunks) refl ∙ kept.chunks_add_up.below m place b lt;
        above = λ m place b le. cut (λ u. covers m place u.chunks) refl ∙ kept.chunks_add_up.above m place b le;
        within = kept.chunks_add_up.within;
        retired = kept.chunks_add_up.retired;
        ended = both (SawEnds setup s.words) (λ m b seen. absurd (omega arith)) (λ m b seen. absurd (omega arith)) kept.chunks_add_up.ended;
      };
      stages_close = record { within = kept.stages_close.within; enrolled = kept.stages_close.enrolled; used = kept.stages_close.used };
      marks_stay = record {
        saw = both (λ u. u.closed ≤ get_or s.words (closed_word setup) 0) (omega arith) (omega arith) kept.marks_stay.saw;
        zero_yet = both (MarksAreZero setup s.words) (λ word marked. absurd (omega arith)) (λ word marked. absurd (omega arith)) kept.marks_stay.zero_yet;
      };
    }

pub one_out : (setup : Setup) (id machine : ℕ) (ms : List ℕ) (v : View) → v ≡ fresh_view setup (machine ∷ ms) → Splits (holds setup) id v (view_left v) (view_handed v)
one_out setup id machine ms v is = subst (λ (u : View). Splits (holds setup) id u (view_left u) (view_handed u)) (sym is) (one_out_of setup id machine ms)
