-- What a fan answers at a place that has a child or nothing.
use Rattle.std.proofs.Common.{◌≡◌, ℕ, ◌+◌, ◌-◌, ◌%◌, ◌<◌, Bool, true, false, cond, [], ◌∷◌, refl, ap, ◌∙◌, arith, suc}
use Rattle.std.specs.Prelude.{nat_lt, ◌==◌}
use Rattle.std.proofs.lemmas.Bool.Decides.{nat_tests}
use Rattle.match_context.specs.declared.context.Context.{Context}
use Rattle.match_context.specs.Tree.{Below, Pass, answer}
use Rattle.core_tests.specs.Fans.{Spread, items_from, is_inner, is_last, ahead_by}

inner : (fan : Spread) (stage : ℕ) → stage < fan.stages - 1 → 0 < fan.machines → is_inner fan stage ≡ true
inner fan stage low some =
    let first : nat_lt 0 fan.machines ≡ true = grind (arith, nat_tests) in
    let second : nat_lt (stage + 1) fan.stages ≡ true = grind (arith, nat_tests) in
    rw (first, second) refl

pub place-answer : (fan : Spread) (stage place : ℕ) (context : Context) (skip : Bool) → stage < fan.stages - 1 → 0 < fan.machines → place < fan.children → (place % 3 == 2) ≡ skip →
    answer (ahead_by (is_inner fan stage) (is_last fan stage) fan context place) ≡ answer (cond skip Pass (Below context (place % fan.machines)) ∷ [])
place-answer fan stage place context skip low some within test =
    let left : fan.children - place ≡ suc (fan.children - (place + 1)) = omega arith in
    ap (λ b. answer (ahead_by b (is_last fan stage) fan context place)) (inner fan stage low some)
    ∙ ap (λ n. answer (items_from fan.machines n place context)) left
    ∙ ap (λ b. answer (cond b Pass (Below context (place % fan.machines)) ∷ items_from fan.machines (fan.children - (place + 1)) (place + 1) context)) test
    ∙ front skip
  where
    front : (b : Bool) → answer (cond b Pass (Below context (place % fan.machines)) ∷ items_from fan.machines (fan.children - (place + 1)) (place + 1) context)
        ≡ answer (cond b Pass (Below context (place % fan.machines)) ∷ [])
    front true = refl
    front false = refl
