-- How an expression is written as the name of a column.
use Rattle.std.specs.Prelude.{ℕ, List}
use Rattle.pgql_tree.specs.declared.ast.AstExpr.{AstExpr}
use Rattle.pgql_tree.specs.declared.level.Level.TheVariants as level
use Rattle.pgql_print.specs.Printing.{spelled}

abbrev pub printed : AstExpr → List ℕ
printed expr = spelled expr level.Or
