-- What holds of the trees that mean something.
use Rattle.std.specs.Prelude.{◌≡◌, ◌<◌, ◌↔◌, ℕ, List, length, true}
use Rattle.pgql_syntax.specs.Places.{IsTree}
use Rattle.pgql_tree.specs.declared.ast.Ast.{Ast}
use Rattle.pgql_tree.specs.declared.ast.AstExpr.{AstExpr}
use Rattle.pgql_tree.specs.Same.{bare}
use Rattle.typed_expr.specs.Same.{same}

-- two expressions are the same exactly where they are equal with each place 0, as the parts of equal trees are
abbrev pub SameApartFromPlaces : Type 0
SameApartFromPlaces = (a b : AstExpr) → (same a b ≡ true) ↔ (bare a ≡ bare b)

-- the tree of a text has a path
abbrev pub TreesHavePaths : Type 0
TreesHavePaths = (most base : ℕ) (text : List ℕ) (query : Ast) → IsTree most base text query → 0 < length query.paths
