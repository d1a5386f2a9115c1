-- What holds of all bags of contexts, and of all trees.
use Rattle.std.specs.Prelude.{◌≡◌, ℕ, ◌+◌, ◌<◌, List, ◌++◌, IsPermutation}
use Rattle.match_context.specs.declared.context.Context.{Context}
use Rattle.match_context.specs.Bags.{total, SameBag}
use Rattle.match_context.specs.Leaves.{leaves}
use Rattle.match_context.specs.Tree.{Tree, IsTree, answer}
use Rattle.match_context.specs.Weight.{Scale, weight, weight_from, weight_of, rows_scale}

-- Two lists are the same bag exactly where one is the other in another order.
abbrev pub BagsArePermutations : Type 0
BagsArePermutations =
    (xs ys : List Context) → (SameBag xs ys → IsPermutation xs ys) × (IsPermutation xs ys → SameBag xs ys)

-- A bag of two parts is the same whichever comes first, and sums are the sums of the parts.
abbrev pub SumsInAnyOrder : Type 0
SumsInAnyOrder =
    (xs ys : List Context) → SameBag (xs ++ ys) (ys ++ xs)
    × ((number : Context → ℕ) → total number (xs ++ ys) ≡ total number xs + total number ys)

-- An answer takes its weight out of the frame, and a context weighs what is ahead of it from place 0 on.
pub record WeightsFallByAnswers : Type 0 where
  pub next : (scale : Scale) (tree : Tree) (stage machine : ℕ) (context : Context) (place : ℕ) → IsTree tree →
      weight_from scale tree stage machine context place
      ≡ weight_of scale tree stage (answer (tree.ahead machine stage context place))
      + weight_from scale tree stage machine (tree.context_after machine stage context place) (tree.place_after machine stage context place)
  pub whole : (scale : Scale) (tree : Tree) (stage machine : ℕ) (context : Context) → stage < tree.stages →
      weight scale tree stage machine context ≡ weight_from scale tree stage machine context 0

-- Where rows alone weigh, a context weighs what its leaves do.
abbrev pub RowsWeighAsLeaves : Type 0
RowsWeighAsLeaves =
    (row : Context → ℕ) (tree : Tree) (stage machine : ℕ) (context : Context) →
    weight (rows_scale row) tree stage machine context ≡ total row (leaves tree stage machine context)
