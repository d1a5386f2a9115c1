-- The rows of a tree.
use Rattle.std.specs.Prelude.{ℕ, ◌+◌, ◌-◌, List, [], ◌∷◌, ◌++◌, zero, suc}
use Rattle.match_context.specs.declared.context.Context.{Context}
use Rattle.match_context.specs.Tree.{Tree, Item, Below, Leaf, Pass}

-- the rows among the answers and below them, where `below machine context` are those of a child
abbrev pub rows_of : (ℕ → Context → List Context) → List Item → List Context
rows_of below [] = []
rows_of below (Below context machine ∷ items) = below machine context ++ rows_of below items
rows_of below (Leaf context ∷ items) = context ∷ rows_of below items
rows_of below (Pass ∷ items) = rows_of below items

-- the leaves of a context, with so many stages from its own to the last
abbrev pub leaves_within : Tree → ℕ → ℕ → ℕ → Context → List Context
leaves_within tree zero stage machine context = []
leaves_within tree (suc left) stage machine context =
    rows_of (leaves_within tree left (stage + 1)) (tree.ahead machine stage context 0)

-- the leaves of a context of a stage on a machine: all rows that come of it
unfoldable pub leaves : Tree → ℕ → ℕ → Context → List Context
leaves tree stage machine context = leaves_within tree (tree.stages - stage) stage machine context

-- the leaves of so many roots of a machine, from one on
abbrev pub root_leaves : Tree → ℕ → ℕ → ℕ → List Context
root_leaves tree machine zero place = []
root_leaves tree machine (suc left) place =
    leaves tree 0 machine (tree.root machine place) ++ root_leaves tree machine left (place + 1)

-- the leaves of the first so many machines
abbrev pub machine_leaves : Tree → ℕ → List Context
machine_leaves tree zero = []
machine_leaves tree (suc machine) = machine_leaves tree machine ++ root_leaves tree machine (tree.roots machine) 0

-- all leaves
abbrev pub tree_leaves : Tree → List Context
tree_leaves tree = machine_leaves tree tree.machines
