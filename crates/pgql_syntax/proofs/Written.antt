-- A token of each kind is what is written of it.
use Rattle.std.proofs.Common.{◌≡◌, ℕ, zero, suc, ◌<◌, List, [], ◌∷◌, refl, sym, ap, subst, arith}
use Rattle.std.proofs.lemmas.List.{get_or_past}
use Rattle.std.proofs.lemmas.Str.{IsUtf8-from_ascii, utf8_valid_len-IsUtf8}
use Rattle.std.specs.Str.{IsAscii}
use Rattle.std.specs.Prelude.{nat_lt, if◌then◌else◌}
use Rattle.pgql_lexer.specs.declared.fronts.Front.TheVariants as front
use Rattle.std.specs.Prelude.{map}
use Rattle.std.specs.List.{AllByRecursion}
use Rattle.pgql_lexer.specs.declared.token.TokenKind.TheVariants as token
use Rattle.pgql_lexer.specs.Fronts.{front_of}
use Rattle.pgql_lexemes.specs.declared.kind.Kind.{Kind}
use Rattle.pgql_lexemes.specs.declared.kind.Kind.TheVariants as k
use Rattle.pgql_lexemes.specs.Seen.{word_kind, symbol_kind}
use Rattle.pgql_syntax.specs.Places.{IsWritten}
use Rattle.pgql_syntax.proofs.Samples.{spelling, sample}

quotes_ascii : IsAscii (39 ∷ 39 ∷ [])
quotes_ascii zero = omega arith
quotes_ascii (suc zero) = omega arith
quotes_ascii (suc (suc i)) =
    let P : ℕ → Type 0 = λ v. v < 128 in
    subst P (sym (get_or_past (39 ∷ 39 ∷ []) (suc (suc i)) 0 (omega arith))) (omega arith)

text_written : front_of (39 ∷ 39 ∷ []) ≡ front.Whole token.Text 2
unfolding front_of
text_written = ap (λ v. if nat_lt v 2 then front.BadCharacter v else front.Whole token.Text 2) (utf8_valid_len-IsUtf8 (39 ∷ 39 ∷ []) (IsUtf8-from_ascii (39 ∷ 39 ∷ []) quotes_ascii))

sample_written : (kind : Kind) → IsWritten (sample kind)
unfolding spelling front_of word_kind symbol_kind
sample_written k.Select = record { token_kind = token.Word; one_token = refl; kind_is = refl }
sample_written k.Distinct = record { token_kind = token.Word; one_token = refl; kind_is = refl }
sample_written k.As = record { token_kind = token.Word; one_token = refl; kind_is = refl }
sample_written k.Match = record { token_kind = token.Word; one_token = refl; kind_is = refl }
sample_written k.Where = record { token_kind = token.Word; one_token = refl; kind_is = refl }
sample_written k.Order = record { token_kind = token.Word; one_token = refl; kind_is = refl }
sample_written k.By = record { token_kind = token.Word; one_token = refl; kind_is = refl }
sample_written k.Asc = record { token_kind = token.Word; one_token = refl; kind_is = refl }
sample_written k.Desc = record { token_kind = token.Word; one_token = refl; kind_is = refl }
sample_written k.Limit = record { token_kind = token.Word; one_token = refl; kind_is = refl }
sample_written k.And = record { token_kind = token.Word; one_token = refl; kind_is = refl }
sample_written k.Or = record { token_kind = token.Word; one_token = refl; kind_is = refl }
sample_written k.Not = record { token_kind = token.Word; one_token = refl; kind_is = refl }
sample_written k.Is = record { token_kind = token.Word; one_token = refl; kind_is = refl }
sample_written k.Null = record { token_kind = token.Word; one_token = refl; kind_is = refl }
sample_written k.True = record { token_kind = token.Word; one_token = refl; kind_is = refl }
sample_written k.False = record { token_kind = token.Word; one_token = refl; kind_is = refl }
sample_written k.Date = record { token_kind = token.Word; one_token = refl; kind_is = refl }
sample_written k.Name = record { token_kind = token.Word; one_token = refl; kind_is = refl }
sample_written k.Number = record { token_kind = token.Number; one_token = refl; kind_is = refl }
sample_written k.Text = record { token_kind = token.Text; one_token = text_written; kind_is = refl }
sample_written k.Open = record { token_kind = token.Symbol; one_token = refl; kind_is = refl }
sample_written k.Close = record { token_kind = token.Symbol; one_token = refl; kind_is = refl }
sample_written k.OpenBracket = record { token_kind = token.Symbol; one_token = refl; kind_is = refl }
sample_written k.CloseBracket = record { token_kind = token.Symbol; one_token = refl; kind_is = refl }
sample_written k.Comma = record { token_kind = token.Symbol; one_token = refl; kind_is = refl }
sample_written k.Colon = record { token_kind = token.Symbol; one_token = refl; kind_is = refl }
sample_written k.Dot = record { token_kind = token.Symbol; one_token = refl; kind_is = refl }
sample_written k.Bar = record { token_kind = token.Symbol; one_token = refl; kind_is = refl }
sample_written k.Plus = record { token_kind = token.Symbol; one_token = refl; kind_is = refl }
sample_written k.Minus = record { token_kind = token.Symbol; one_token = refl; kind_is = refl }
sample_written k.Star = record { token_kind = token.Symbol; one_token = refl; kind_is = refl }
sample_written k.Slash = record { token_kind = token.Symbol; one_token = refl; kind_is = refl }
sample_written k.Percent = record { token_kind = token.Symbol; one_token = refl; kind_is = refl }
sample_written k.Equal = record { token_kind = token.Symbol; one_token = refl; kind_is = refl }
sample_written k.Unequal = record { token_kind = token.Symbol; one_token = refl; kind_is = refl }
sample_written k.Less = record { token_kind = token.Symbol; one_token = refl; kind_is = refl }
sample_written k.LessEqual = record { token_kind = token.Symbol; one_token = refl; kind_is = refl }
sample_written k.Greater = record { token_kind = token.Symbol; one_token = refl; kind_is = refl }
sample_written k.GreaterEqual = record { token_kind = token.Symbol; one_token = refl; kind_is = refl }

pub samples_written : (kinds : List Kind) → AllByRecursion IsWritten (map sample kinds)
samples_written [] = tt
samples_written (kind ∷ kinds) = (sample_written kind, samples_written kinds)
