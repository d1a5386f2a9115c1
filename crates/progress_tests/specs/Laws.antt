-- Fans are staged trees, whatever their numbers.
use Rattle.std.proofs.Common.{◌≡◌, ℕ, ◌+◌, ◌-◌, ◌%◌, ◌<◌, Bool, true, false, cond, ◌&&◌, refl, sym, ap, ◌∙◌, arith, zero, suc}
use Rattle.std.specs.Prelude.{nat_lt, ◌==◌}
use Rattle.std.proofs.Math.Nat.{mod-lt}
use Rattle.std.proofs.lemmas.Bool.{eqb-true}
use Rattle.std.proofs.lemmas.Bool.Decides.{nat_tests}
use Rattle.match_context.specs.declared.context.Context.{Context}
use Rattle.match_context.specs.Tree.{IsTree, IsItem, AreItems, Below, Pass, later}
use Rattle.progress_tests.specs.declared.tree.Fan.{Fan}
use Rattle.progress_tests.specs.Fans.{child_at, item_at, items_from, one_leaf, is_inner, is_last, ahead_by, place_if, place_by, fan_tree}

and-true : (a b : Bool) → (a && b) ≡ true → (a ≡ true) × (b ≡ true)
and-true true b e = (refl, e)
and-true false b e = cc

item-is : (fan : Fan) (stage place : ℕ) (context : Context) (child : Bool) → stage + 1 < fan.stages → 0 < fan.machines → IsItem (fan_tree fan) stage (cond child (Below (child_at stage place context) (place % fan.machines)) Pass)
item-is fan stage place context true low some = (low, mod-lt place some)
item-is fan stage place context false low some = tt

items-are : (fan : Fan) (stage n place : ℕ) (context : Context) → stage + 1 < fan.stages → 0 < fan.machines → AreItems (fan_tree fan) stage (items_from fan stage n place context)
items-are fan stage zero place context low some = tt
items-are fan stage (suc n) place context low some =
    (item-is fan stage place context (place % (fan.skips + 1) == 0) low some, items-are fan stage n (place + 1) context low some)

leaf-is : (fan : Fan) (stage : ℕ) (context : Context) (first : Bool) → stage + 1 ≡ fan.stages → AreItems (fan_tree fan) stage (one_leaf first context)
leaf-is fan stage context true e = (e, tt)
leaf-is fan stage context false e = tt

ahead-is : (fan : Fan) (stage place : ℕ) (context : Context) (inner last : Bool) → is_inner fan stage ≡ inner → is_last fan stage ≡ last → AreItems (fan_tree fan) stage (ahead_by inner last fan stage context place)
ahead-is fan stage place context true last e d =
    let parts = and-true (nat_lt 0 fan.machines) (nat_lt (stage + 1) fan.stages) e in
    let some = parts.0 in
    let low = parts.1 in
    items-are fan stage (fan.places - place) place context (grind (arith, nat_tests, low)) (grind (arith, nat_tests, some))
ahead-is fan stage place context false true e d = leaf-is fan stage context (place == 0) (eqb-true (stage + 1) fan.stages d)
ahead-is fan stage place context false false e d = tt

items-rest : (fan : Fan) (stage place : ℕ) (context : Context) (more : Bool) → nat_lt place fan.places ≡ more →
    items_from fan stage (fan.places - place_if more place) (place_if more place) context ≡ later (items_from fan stage (fan.places - place) place context)
items-rest fan stage place context true e =
    let left : fan.places - place ≡ suc (fan.places - (place + 1)) = grind (arith, nat_tests, e) in
    sym (ap (λ n. later (items_from fan stage n place context)) left)
items-rest fan stage place context false e =
    let none : fan.places - place ≡ 0 = grind (arith, nat_tests, e) in
    ap (λ n. items_from fan stage n place context) none ∙ sym (ap (λ n. later (items_from fan stage n place context)) none)

leaf-rest : (place : ℕ) (context : Context) (first : Bool) → (place == 0) ≡ first → one_leaf (place_if first place == 0) context ≡ later (one_leaf first context)
leaf-rest place context true e =
    let past : (place + 1 == 0) ≡ false = grind (arith, nat_tests) in
    ap (λ b. one_leaf b context) past
leaf-rest place context false e = ap (λ b. one_leaf b context) e

ahead-rest : (fan : Fan) (stage place : ℕ) (context : Context) (inner last : Bool) → ahead_by inner last fan stage context (place_by inner last fan place) ≡ later (ahead_by inner last fan stage context place)
ahead-rest fan stage place context true last = items-rest fan stage place context (nat_lt place fan.places) refl
ahead-rest fan stage place context false true = leaf-rest place context (place == 0) refl
ahead-rest fan stage place context false false = refl

pub fan_is_tree : (fan : Fan) → IsTree (fan_tree fan)
fan_is_tree fan = record {
  items = λ machine stage context place. ahead-is fan stage place context (is_inner fan stage) (is_last fan stage) refl refl;
  rest = λ machine stage context place. ahead-rest fan stage place context (is_inner fan stage) (is_last fan stage);
}
