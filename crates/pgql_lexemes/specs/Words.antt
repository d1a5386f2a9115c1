-- Which tokens are words.
use Rattle.std.specs.Prelude.{Bool, true, false}
use Rattle.pgql_lexemes.specs.declared.kind.Kind.{Kind}
use Rattle.pgql_lexemes.specs.declared.kind.Kind.TheVariants as k

-- a keyword, or a name
abbrev pub is_word : Kind → Bool
is_word k.Number = false
is_word k.Text = false
is_word k.Open = false
is_word k.Close = false
is_word k.OpenBracket = false
is_word k.CloseBracket = false
is_word k.Comma = false
is_word k.Colon = false
is_word k.Dot = false
is_word k.Bar = false
is_word k.Plus = false
is_word k.Minus = false
is_word k.Star = false
is_word k.Slash = false
is_word k.Percent = false
is_word k.Equal = false
is_word k.Unequal = false
is_word k.Less = false
is_word k.LessEqual = false
is_word k.Greater = false
is_word k.GreaterEqual = false
is_word kind = true
