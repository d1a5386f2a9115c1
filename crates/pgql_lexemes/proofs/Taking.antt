-- What is known of the next token is known of the token that is taken.
use Rattle.std.proofs.Common.{◌≡◌, List, [], ◌∷◌, Option, Some, None, Result, Ok, Err, IfOk, subst, sym, ap, ◌∙◌}
use Rattle.pgql_lexemes.specs.Lexemes.{Lexeme}
use Rattle.pgql_lexemes.specs.Parsers.{Outcome, first, take_token}
use Rattle.pgql_lexemes.specs.Reads.{Reads}
use Rattle.pgql_lexemes.specs.declared.input.Stop.{Stop}
use Rattle.pgql_lexemes.specs.declared.lexeme.Lexeme as code
use Rattle.pgql_lexemes.specs.Told.{told, ReadsToken}

abbrev taken_or : Lexeme → Outcome Lexeme → Lexeme
taken_or t (Ok p) = p.0
taken_or t (Err e) = t

abbrev first_or : Lexeme → Option Lexeme → Lexeme
first_or t (Some u) = u
first_or t None = t

took : (P : Lexeme → Type 0) (ts new : List Lexeme) (t : Lexeme) (r : Result Lexeme Stop) → first ts ≡ Some t → P t → Reads (take_token ts) r new → IfOk r P
took P [] new t r f p e = absurd cc
took P (u ∷ ts) new t (Ok x) f p e = let same : t ≡ x = sym (ap (first_or t) f) ∙ ap (taken_or t) e in subst P same p
took P (u ∷ ts) new t (Err x) f p e = tt

pub took_token : (P : Lexeme → Type 0) (ts new : List Lexeme) (t : code.Lexeme) (r : Result code.Lexeme Stop) → first ts ≡ Some (told t) → P (told t)
    → ReadsToken (take_token ts) r new → IfOk r (λ u. P (told u))
took_token P ts new t (Ok x) f p e = took P ts new (told t) (Ok (told x)) f p e
took_token P ts new t (Err x) f p e = tt
