-- A token of each kind, to end a query with.
use Rattle.std.specs.Prelude.{ℕ, List, codes}
use Rattle.pgql_lexemes.specs.declared.kind.Kind.{Kind}
use Rattle.pgql_lexemes.specs.declared.kind.Kind.TheVariants as k
use Rattle.pgql_lexemes.specs.Lexemes.{Lexeme}

unfoldable pub spelling : Kind → List ℕ
spelling k.Select = codes "SELECT"
spelling k.Distinct = codes "DISTINCT"
spelling k.As = codes "AS"
spelling k.Match = codes "MATCH"
spelling k.Where = codes "WHERE"
spelling k.Order = codes "ORDER"
spelling k.By = codes "BY"
spelling k.Asc = codes "ASC"
spelling k.Desc = codes "DESC"
spelling k.Limit = codes "LIMIT"
spelling k.And = codes "AND"
spelling k.Or = codes "OR"
spelling k.Not = codes "NOT"
spelling k.Is = codes "IS"
spelling k.Null = codes "NULL"
spelling k.True = codes "TRUE"
spelling k.False = codes "FALSE"
spelling k.Date = codes "DATE"
spelling k.Name = codes "a"
spelling k.Number = codes "1"
spelling k.Text = codes "''"
spelling k.Open = codes "("
spelling k.Close = codes ")"
spelling k.OpenBracket = codes "["
spelling k.CloseBracket = codes "]"
spelling k.Comma = codes ","
spelling k.Colon = codes ":"
spelling k.Dot = codes "."
spelling k.Bar = codes "|"
spelling k.Plus = codes "+"
spelling k.Minus = codes "-"
spelling k.Star = codes "*"
spelling k.Slash = codes "/"
spelling k.Percent = codes "%"
spelling k.Equal = codes "="
spelling k.Unequal = codes "<>"
spelling k.Less = codes "<"
spelling k.LessEqual = codes "<="
spelling k.Greater = codes ">"
spelling k.GreaterEqual = codes ">="

abbrev pub sample : Kind → Lexeme
sample kind = record { kind = kind; bytes = spelling kind; at = 0 }
