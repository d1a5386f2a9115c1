-- The tree of a text has a path.
use Rattle.std.proofs.Common.{ℕ, ◌<◌, List, length, arith}
use Rattle.pgql_syntax.specs.Kinds.{Kind}
use Rattle.pgql_syntax.specs.Grammar.{IsPattern, IsQuery, Separated, alone, followed, pattern, query}
use Rattle.pgql_syntax.specs.Lexemes.{Lexeme}
use Rattle.pgql_syntax.specs.Places.{IsTree}
use Rattle.pgql_tree.specs.declared.ast.Ast.{Ast}
use Rattle.pgql_tree.specs.declared.ast.Path.{Path}

of_list : {A : Type 0} (IsPart : List Lexeme → A → Type 0) (mark : Kind) (ts : List Lexeme) (xs : List A) → Separated IsPart mark ts xs → 0 < length xs
of_list IsPart mark _ _ (alone part) = omega arith
of_list IsPart mark _ _ (followed a b t part is rest) = omega arith

of_pattern : (ts : List Lexeme) (paths : List Path) → IsPattern ts paths → 0 < length paths
of_pattern _ paths (pattern m ts is list) = of_list _ _ ts paths list

of_query : (most : ℕ) (ts : List Lexeme) (q : Ast) → IsQuery most ts q → 0 < length q.paths
of_query most _ _ (query a b c only items paths t selected matched tail) = of_pattern b paths matched

pub trees_have_paths : (most base : ℕ) (text : List ℕ) (q : Ast) → IsTree most base text q → 0 < length q.paths
trees_have_paths most base text q is = of_query most _ q is.2
