-- A tree of fans, as the tests climb it.
use Rattle.std.specs.Prelude.{ℕ, ◌+◌, ◌-◌, ◌%◌, Bool, true, false, ◌&&◌, ◌==◌, nat_lt, if◌then◌else◌, List, [], ◌∷◌, zero, suc}
use Rattle.match_context.specs.declared.context.Context.{Context}
use Rattle.match_context.specs.Tree.{Tree, Item, Below, Leaf, Pass}

-- the numbers of a fan, and its root
pub record Spread : Type 0 where
  pub stages : ℕ
  pub machines : ℕ
  -- of each machine
  pub roots : ℕ
  -- the places of a context
  pub children : ℕ
  pub root : Context

-- every third place gives nothing, and the others a child, dealt out over the machines in turn
abbrev pub item_at : ℕ → ℕ → Context → Item
item_at machines place context = if place % 3 == 2 then Pass else Below context (place % machines)

-- so many items from a place on
abbrev pub items_from : ℕ → ℕ → ℕ → Context → List Item
items_from machines zero place context = []
items_from machines (suc left) place context = item_at machines place context ∷ items_from machines left (place + 1) context

abbrev pub one_leaf : Bool → Context → List Item
one_leaf first context = if first then Leaf context ∷ [] else []

-- whether a context of the stage has children, and whether it is a row
abbrev pub is_inner : Spread → ℕ → Bool
is_inner fan stage = nat_lt 0 fan.machines && nat_lt (stage + 1) fan.stages

abbrev pub is_last : Spread → ℕ → Bool
is_last fan stage = stage + 1 == fan.stages

abbrev pub ahead_by : Bool → Bool → Spread → Context → ℕ → List Item
ahead_by true last fan context place = items_from fan.machines (fan.children - place) place context
ahead_by false true fan context place = one_leaf (place == 0) context
ahead_by false false fan context place = []

-- the place after, where there is one
abbrev pub place_if : Bool → ℕ → ℕ
place_if more place = if more then place + 1 else place

abbrev pub place_by : Bool → Bool → Spread → ℕ → ℕ
place_by true last fan place = place_if (nat_lt place fan.children) place
place_by false true fan place = place_if (place == 0) place
place_by false false fan place = place

abbrev pub fan_tree : Spread → Tree
fan_tree fan =
    record {
      stages = fan.stages;
      machines = fan.machines;
      roots = λ machine. fan.roots;
      root = λ machine place. fan.root;
      ahead = λ machine stage context place. ahead_by (is_inner fan stage) (is_last fan stage) fan context place;
      context_after = λ machine stage context place. context;
      place_after = λ machine stage context place. place_by (is_inner fan stage) (is_last fan stage) fan place;
    }
