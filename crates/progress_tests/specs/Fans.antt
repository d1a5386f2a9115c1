-- A tree of fans, in which each context says how one comes to it.
use Rattle.std.specs.Prelude.{ℕ, ◌+◌, ◌-◌, ◌%◌, Bool, true, false, ◌&&◌, ◌==◌, nat_lt, if◌then◌else◌, List, [], ◌∷◌, slice_set, zero, suc}
use Rattle.match_context.specs.declared.context.Context.{Context}
use Rattle.match_context.specs.Tree.{Tree, Item, Below, Leaf, Pass}
use Rattle.progress_tests.specs.declared.tree.Fan.{Fan}

-- the context with a number in a word
abbrev pub with_word : Context → ℕ → ℕ → Context
with_word context at number = record { words = slice_set context.words at number }

-- the child of a stage and a place says the place in the word of its stage
abbrev pub child_at : ℕ → ℕ → Context → Context
child_at stage place context = with_word context (stage % 32 + 2) place

-- The first of each `skips + 1` places has a child, dealt out over the machines in turn, and the others nothing.
abbrev pub item_at : Fan → ℕ → ℕ → Context → Item
item_at fan stage place context = if place % (fan.skips + 1) == 0 then Below (child_at stage place context) (place % fan.machines) else Pass

-- so many items from a place on
abbrev pub items_from : Fan → ℕ → ℕ → ℕ → Context → List Item
items_from fan stage zero place context = []
items_from fan stage (suc left) place context = item_at fan stage place context ∷ items_from fan stage left (place + 1) context

abbrev pub one_leaf : Bool → Context → List Item
one_leaf first context = if first then Leaf context ∷ [] else []

-- whether a context of the stage has children, and whether it is a row
abbrev pub is_inner : Fan → ℕ → Bool
is_inner fan stage = nat_lt 0 fan.machines && nat_lt (stage + 1) fan.stages

abbrev pub is_last : Fan → ℕ → Bool
is_last fan stage = stage + 1 == fan.stages

abbrev pub ahead_by : Bool → Bool → Fan → ℕ → Context → ℕ → List Item
ahead_by true last fan stage context place = items_from fan stage (fan.places - place) place context
ahead_by false true fan stage context place = one_leaf (place == 0) context
ahead_by false false fan stage context place = []

-- the place after an answer, where there is one
abbrev pub place_if : Bool → ℕ → ℕ
place_if more place = if more then place + 1 else place

abbrev pub place_by : Bool → Bool → Fan → ℕ → ℕ
place_by true last fan place = place_if (nat_lt place fan.places) place
place_by false true fan place = place_if (place == 0) place
place_by false false fan place = place

-- machine 0 has roots of its own number
abbrev pub roots_on : Fan → ℕ → ℕ
roots_on fan machine = if machine == 0 then fan.first else fan.others

abbrev pub fan_tree : Fan → Tree
fan_tree fan =
    record {
      stages = fan.stages;
      machines = fan.machines;
      roots = λ machine. roots_on fan machine;
      root = λ machine place. with_word (with_word fan.base 0 machine) 1 place;
      ahead = λ machine stage context place. ahead_by (is_inner fan stage) (is_last fan stage) fan stage context place;
      context_after = λ machine stage context place. context;
      place_after = λ machine stage context place. place_by (is_inner fan stage) (is_last fan stage) fan place;
    }
