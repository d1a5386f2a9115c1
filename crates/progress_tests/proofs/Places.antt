-- What a fan answers at a place that has a child or nothing.
use Rattle.std.proofs.Common.{◌≡◌, ℕ, ◌+◌, ◌-◌, ◌%◌, ◌<◌, Bool, true, false, cond, [], ◌∷◌, refl, ap, ◌∙◌, arith, suc}
use Rattle.std.specs.Prelude.{nat_lt, ◌==◌}
use Rattle.std.proofs.lemmas.Bool.Decides.{nat_tests}
use Rattle.match_context.specs.declared.context.Context.{Context}
use Rattle.match_context.specs.Tree.{Below, Pass, answer}
use Rattle.progress_tests.specs.declared.tree.Fan.{Fan}
use Rattle.progress_tests.specs.Fans.{child_at, items_from, is_inner, is_last, ahead_by}

inner : (fan : Fan) (stage : ℕ) → stage < fan.stages - 1 → 0 < fan.machines → is_inner fan stage ≡ true
inner fan stage low some =
    let first : nat_lt 0 fan.machines ≡ true = grind (arith, nat_tests) in
    let second : nat_lt (stage + 1) fan.stages ≡ true = grind (arith, nat_tests) in
    rw (first, second) refl

pub place-answer : (fan : Fan) (stage place : ℕ) (context : Context) (child : Bool) → stage < fan.stages - 1 → 0 < fan.machines → place < fan.places → (place % (fan.skips + 1) == 0) ≡ child →
    answer (ahead_by (is_inner fan stage) (is_last fan stage) fan stage context place) ≡ answer (cond child (Below (child_at stage place context) (place % fan.machines)) Pass ∷ [])
place-answer fan stage place context child low some within test =
    let left : fan.places - place ≡ suc (fan.places - (place + 1)) = omega arith in
    ap (λ b. answer (ahead_by b (is_last fan stage) fan stage context place)) (inner fan stage low some)
    ∙ ap (λ n. answer (items_from fan stage n place context)) left
    ∙ ap (λ b. answer (cond b (Below (child_at stage place context) (place % fan.machines)) Pass ∷ items_from fan stage (fan.places - (place + 1)) (place + 1) context)) test
    ∙ front child
  where
    front : (b : Bool) → answer (cond b (Below (child_at stage place context) (place % fan.machines)) Pass ∷ items_from fan stage (fan.places - (place + 1)) (place + 1) context)
        ≡ answer (cond b (Below (child_at stage place context) (place % fan.machines)) Pass ∷ [])
    front true = refl
    front false = refl
