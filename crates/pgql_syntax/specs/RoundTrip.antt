-- What is written of a tree is read as the same tree.
use Rattle.std.specs.Prelude.{ℕ, List}
use Rattle.pgql_tree.specs.declared.ast.Ast.{Ast}
use Rattle.pgql_tree.specs.Same.{AreSame}
use Rattle.pgql_print.specs.Printing.{query_text}
use Rattle.pgql_syntax.specs.Places.{IsTree}

-- The text written of a tree that a text has, within a bound on height, has a tree within that bound too,
-- and the two are equal apart from places. Each of the two texts may stand anywhere in its file.
abbrev pub IsReadBack : ℕ → Type 0
IsReadBack most = (base there : ℕ) (text : List ℕ) (q : Ast) → IsTree most base text q → (again : Ast) × IsTree most there (query_text q) again × AreSame q again
