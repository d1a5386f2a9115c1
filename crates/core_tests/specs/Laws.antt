-- Fans are staged trees, whatever their numbers.
use Rattle.std.proofs.Common.{◌≡◌, ℕ, ◌+◌, ◌-◌, ◌%◌, ◌<◌, Bool, true, false, cond, ◌&&◌, refl, sym, ap, ◌∙◌, arith, zero, suc}
use Rattle.std.specs.Prelude.{nat_lt, ◌==◌}
use Rattle.std.proofs.Math.Nat.{mod-lt}
use Rattle.std.proofs.lemmas.Bool.{eqb-true}
use Rattle.std.proofs.lemmas.Bool.Decides.{nat_tests}
use Rattle.match_context.specs.declared.context.Context.{Context}
use Rattle.match_context.specs.Tree.{IsTree, IsItem, AreItems, Below, Pass, later}
use Rattle.core_tests.specs.Fans.{Spread, items_from, one_leaf, is_inner, is_last, ahead_by, place_if, place_by, fan_tree}

and-true : (a b : Bool) → (a && b) ≡ true → (a ≡ true) × (b ≡ true)
and-true true b e = (refl, e)
and-true false b e = cc

item-is : (fan : Spread) (stage place : ℕ) (context : Context) (skip : Bool) → stage + 1 < fan.stages → 0 < fan.machines → IsItem (fan_tree fan) stage (cond skip Pass (Below context (place % fan.machines)))
item-is fan stage place context true low some = tt
item-is fan stage place context false low some = (low, mod-lt place some)

items-are : (fan : Spread) (stage n place : ℕ) (context : Context) → stage + 1 < fan.stages → 0 < fan.machines → AreItems (fan_tree fan) stage (items_from fan.machines n place context)
items-are fan stage zero place context low some = tt
items-are fan stage (suc n) place context low some =
    (item-is fan stage place context (place % 3 == 2) low some, items-are fan stage n (place + 1) context low some)

leaf-is : (fan : Spread) (stage : ℕ) (context : Context) (first : Bool) → stage + 1 ≡ fan.stages → AreItems (fan_tree fan) stage (one_leaf first context)
leaf-is fan stage context true e = (e, tt)
leaf-is fan stage context false e = tt

ahead-is : (fan : Spread) (stage place : ℕ) (context : Context) (inner last : Bool) → is_inner fan stage ≡ inner → is_last fan stage ≡ last → AreItems (fan_tree fan) stage (ahead_by inner last fan context place)
ahead-is fan stage place context true last e d =
    let parts = and-true (nat_lt 0 fan.machines) (nat_lt (stage + 1) fan.stages) e in
    let some = parts.0 in
    let low = parts.1 in
    items-are fan stage (fan.children - place) place context (grind (arith, nat_tests, low)) (grind (arith, nat_tests, some))
ahead-is fan stage place context false true e d = leaf-is fan stage context (place == 0) (eqb-true (stage + 1) fan.stages d)
ahead-is fan stage place context false false e d = tt

items-rest : (fan : Spread) (place : ℕ) (context : Context) (more : Bool) → nat_lt place fan.children ≡ more →
    items_from fan.machines (fan.children - place_if more place) (place_if more place) context ≡ later (items_from fan.machines (fan.children - place) place context)
items-rest fan place context true e =
    let left : fan.children - place ≡ suc (fan.children - (place + 1)) = grind (arith, nat_tests, e) in
    sym (ap (λ n. later (items_from fan.machines n place context)) left)
items-rest fan place context false e =
    let none : fan.children - place ≡ 0 = grind (arith, nat_tests, e) in
    ap (λ n. items_from fan.machines n place context) none ∙ sym (ap (λ n. later (items_from fan.machines n place context)) none)

leaf-rest : (place : ℕ) (context : Context) (first : Bool) → (place == 0) ≡ first → one_leaf (place_if first place == 0) context ≡ later (one_leaf first context)
leaf-rest place context true e =
    let past : (place + 1 == 0) ≡ false = grind (arith, nat_tests) in
    ap (λ b. one_leaf b context) past
leaf-rest place context false e = ap (λ b. one_leaf b context) e

ahead-rest : (fan : Spread) (place : ℕ) (context : Context) (inner last : Bool) → ahead_by inner last fan context (place_by inner last fan place) ≡ later (ahead_by inner last fan context place)
ahead-rest fan place context true last = items-rest fan place context (nat_lt place fan.children) refl
ahead-rest fan place context false true = leaf-rest place context (place == 0) refl
ahead-rest fan place context false false = refl

pub fan_is_tree : (fan : Spread) → IsTree (fan_tree fan)
fan_is_tree fan = record {
  items = λ machine stage context place. ahead-is fan stage place context (is_inner fan stage) (is_last fan stage) refl refl;
  rest = λ machine stage context place. ahead-rest fan place context (is_inner fan stage) (is_last fan stage);
}
