-- Fans are staged trees.
use Rattle.std.proofs.Common.{◌≡◌, ℕ, ◌+◌, ◌-◌, ◌<◌, ◌≤◌, Bool, true, false, cond, List, [], ◌∷◌, ◌++◌, refl, sym, ap, ◌∙◌, arith, zero, suc}
use Rattle.std.specs.Prelude.{nat_lt, nat_eq}
use Rattle.std.proofs.Math.Nat.{mod-lt}
use Rattle.std.proofs.lemmas.Bool.Decides.{nat_tests}
use Rattle.match_context.specs.declared.context.Context.{Context}
use Rattle.match_context.specs.Tree.{IsTree, AreItems, Item, Pass, later}
use Rattle.turn_tests.specs.declared.fan.Fan.{Fan}
use Rattle.turn_tests.specs.Fans.{passes, children_from, child_count, one_leaf, fan_items, fan_ahead, fan_goes_on, fan_tree}

lt-of : (a b : ℕ) → nat_lt a b ≡ true → a < b
lt-of a b e = grind (arith, nat_tests)

le-of : (a b : ℕ) → nat_lt a b ≡ false → b ≤ a
le-of a b e = grind (arith, nat_tests)

eq-of : (a b : ℕ) → nat_eq a b ≡ true → a ≡ b
eq-of a b e = grind (arith, nat_tests)

lt-is : (a b : ℕ) → a < b → nat_lt a b ≡ true
lt-is a b h = grind (arith, nat_tests)

le-is : (a b : ℕ) → b ≤ a → nat_lt a b ≡ false
le-is a b h = grind (arith, nat_tests)

-- ---- what is ahead
passes-items : (fan : Fan) (stage n : ℕ) (items : List Item) → AreItems (fan_tree fan) stage items → AreItems (fan_tree fan) stage (passes n ++ items)
passes-items fan stage zero items h = h
passes-items fan stage (suc n) items h = (tt, passes-items fan stage n items h)

children-items : (fan : Fan) (stage n place : ℕ) (context : Context) → stage + 1 < fan.stages → 0 < fan.machines → AreItems (fan_tree fan) stage (children_from fan.machines n place context)
children-items fan stage zero place context low some = tt
children-items fan stage (suc n) place context low some = ((low, mod-lt place some), children-items fan stage n (place + 1) context low some)

fan-children : (fan : Fan) (stage place : ℕ) (context : Context) (none : Bool) → nat_eq fan.machines 0 ≡ none → stage + 1 < fan.stages →
    AreItems (fan_tree fan) stage (children_from fan.machines (cond none 0 fan.children - place) place context)
fan-children fan stage place context true e low = let z : 0 - place ≡ 0 = omega arith in rw z tt
fan-children fan stage place context false e low = children-items fan stage (fan.children - place) place context low (grind (arith, nat_tests))

leaf-items : (fan : Fan) (stage : ℕ) (context : Context) (first : Bool) → stage + 1 ≡ fan.stages → AreItems (fan_tree fan) stage (one_leaf first context)
leaf-items fan stage context true e = (e, tt)
leaf-items fan stage context false e = tt

items-by : (fan : Fan) (stage place : ℕ) (context : Context) (more last : Bool) → nat_lt (stage + 1) fan.stages ≡ more → nat_eq (stage + 1) fan.stages ≡ last →
    AreItems (fan_tree fan) stage (cond more (children_from fan.machines (child_count fan - place) place context) (cond last (one_leaf (nat_eq place 0) context) []))
items-by fan stage place context true last e e' = fan-children fan stage place context (nat_eq fan.machines 0) refl (lt-of (stage + 1) fan.stages e)
items-by fan stage place context false true e e' = leaf-items fan stage context (nat_eq place 0) (eq-of (stage + 1) fan.stages e')
items-by fan stage place context false false e e' = tt

-- ---- what is ahead after an answer
pub ahead-skip : (fan : Fan) (stage : ℕ) (context : Context) (place : ℕ) → place < fan.skips → fan_ahead fan stage context place ≡ Pass ∷ fan_ahead fan stage context (place + 1)
ahead-skip fan stage context place low =
    let a : fan.skips - place ≡ suc (fan.skips - (place + 1)) = omega arith in
    let b : place - fan.skips ≡ place + 1 - fan.skips = omega arith in
    rw (a, b) refl

pub ahead-on : (fan : Fan) (stage : ℕ) (context : Context) (place : ℕ) → fan.skips ≤ place → fan_ahead fan stage context place ≡ fan_items fan stage context (place - fan.skips)
ahead-on fan stage context place low = let a : fan.skips - place ≡ 0 = omega arith in rw a refl

children-later : (machines count place : ℕ) (context : Context) (more : Bool) → nat_lt place count ≡ more →
    children_from machines (count - cond more (place + 1) place) (cond more (place + 1) place) context ≡ later (children_from machines (count - place) place context)
children-later machines count place context true e =
    let low = lt-of place count e in
    let a : count - place ≡ suc (count - (place + 1)) = omega arith in
    rw a refl
children-later machines count place context false e =
    let high = le-of place count e in
    let a : count - place ≡ 0 = omega arith in
    rw a refl

leaf-later : (context : Context) (place : ℕ) (first : Bool) → nat_eq place 0 ≡ first → one_leaf (nat_eq (cond first (place + 1) place) 0) context ≡ later (one_leaf first context)
leaf-later context place true e = let t : nat_eq (place + 1) 0 ≡ false = grind (arith, nat_tests) in rw t refl
leaf-later context place false e = rw e refl

items-later : (fan : Fan) (stage place : ℕ) (context : Context) (more last : Bool) → nat_lt (stage + 1) fan.stages ≡ more → nat_eq (stage + 1) fan.stages ≡ last →
    fan_items fan stage context (cond (fan_goes_on fan stage place) (place + 1) place) ≡ later (fan_items fan stage context place)
items-later fan stage place context true last e e' = rw e (children-later fan.machines (child_count fan) place context (nat_lt place (child_count fan)) refl)
items-later fan stage place context false true e e' = rw (e, e') (leaf-later context place (nat_eq place 0) refl)
items-later fan stage place context false false e e' = rw (e, e') refl

rest-by : (fan : Fan) (stage : ℕ) (context : Context) (place : ℕ) (skip : Bool) → nat_lt place fan.skips ≡ skip →
    fan_ahead fan stage context (cond skip (place + 1) (cond (fan_goes_on fan stage (place - fan.skips)) (place + 1) place)) ≡ later (fan_ahead fan stage context place)
rest-by fan stage context place true e = ap later (sym (ahead-skip fan stage context place (lt-of place fan.skips e)))
rest-by fan stage context place false e = on (fan_goes_on fan stage (place - fan.skips)) refl
  where
    on : (goes : Bool) → fan_goes_on fan stage (place - fan.skips) ≡ goes → fan_ahead fan stage context (cond goes (place + 1) place) ≡ later (fan_ahead fan stage context place)
    on true g =
        let high = le-of place fan.skips e in
        let q : place + 1 - fan.skips ≡ place - fan.skips + 1 = omega arith in
        ahead-on fan stage context (place + 1) (omega arith)
        ∙ ap (fan_items fan stage context) q
        ∙ (let z = items-later fan stage (place - fan.skips) context (nat_lt (stage + 1) fan.stages) (nat_eq (stage + 1) fan.stages) refl refl in rw g at z)
        ∙ ap later (sym (ahead-on fan stage context place high))
    on false g =
        let high = le-of place fan.skips e in
        ahead-on fan stage context place high
        ∙ (let z = items-later fan stage (place - fan.skips) context (nat_lt (stage + 1) fan.stages) (nat_eq (stage + 1) fan.stages) refl refl in rw g at z)
        ∙ ap later (sym (ahead-on fan stage context place high))

pub fan-lawful : (fan : Fan) → IsTree (fan_tree fan)
fan-lawful fan = record {
  items = λ machine stage context place. passes-items fan stage (fan.skips - place) _ (items-by fan stage (place - fan.skips) context (nat_lt (stage + 1) fan.stages) (nat_eq (stage + 1) fan.stages) refl refl);
  rest = λ machine stage context place. rest-by fan stage context place (nat_lt place fan.skips) refl;
}
