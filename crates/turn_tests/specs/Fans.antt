-- A tree of fans, as the tests climb it.
use Rattle.std.specs.Prelude.{ℕ, ◌+◌, ◌-◌, ◌%◌, Bool, ◌&&◌, ◌==◌, nat_lt, if◌then◌else◌, List, [], ◌∷◌, ◌++◌, zero, suc}
use Rattle.match_context.specs.declared.context.Context.{Context}
use Rattle.match_context.specs.Tree.{Tree, Item, Below, Leaf, Pass}
use Rattle.turn_tests.specs.declared.fan.Fan.{Fan}

-- so many places of which nothing comes
abbrev pub passes : ℕ → List Item
passes zero = []
passes (suc left) = Pass ∷ passes left

-- so many children from a place on, dealt out over the machines in turn
abbrev pub children_from : ℕ → ℕ → ℕ → Context → List Item
children_from machines zero place context = []
children_from machines (suc left) place context = Below context (place % machines) ∷ children_from machines left (place + 1) context

abbrev pub has_children : Fan → ℕ → Bool
has_children fan stage = nat_lt (stage + 1) fan.stages

-- children where there is a machine for them
abbrev pub child_count : Fan → ℕ
child_count fan = if fan.machines == 0 then 0 else fan.children

abbrev pub is_last : Fan → ℕ → Bool
is_last fan stage = stage + 1 == fan.stages

abbrev pub one_leaf : Bool → Context → List Item
one_leaf first context = if first then Leaf context ∷ [] else []

-- what is ahead at a place after those of which nothing comes
abbrev pub fan_items : Fan → ℕ → Context → ℕ → List Item
fan_items fan stage context place =
    if has_children fan stage then children_from fan.machines (child_count fan - place) place context
    else (if is_last fan stage then one_leaf (place == 0) context else [])

abbrev pub fan_ahead : Fan → ℕ → Context → ℕ → List Item
fan_ahead fan stage context place = passes (fan.skips - place) ++ fan_items fan stage context (place - fan.skips)

-- where the context has a further place
abbrev pub fan_goes_on : Fan → ℕ → ℕ → Bool
fan_goes_on fan stage place = if has_children fan stage then nat_lt place (child_count fan) else (is_last fan stage && (place == 0))

abbrev pub fan_place : Fan → ℕ → ℕ → ℕ
fan_place fan stage place =
    if nat_lt place fan.skips then place + 1 else (if fan_goes_on fan stage (place - fan.skips) then place + 1 else place)

abbrev pub fan_tree : Fan → Tree
fan_tree fan =
    record {
      stages = fan.stages;
      machines = fan.machines;
      roots = λ machine. fan.roots;
      root = λ machine place. fan.root;
      ahead = λ machine stage context place. fan_ahead fan stage context place;
      context_after = λ machine stage context place. context;
      place_after = λ machine stage context place. fan_place fan stage place;
    }
