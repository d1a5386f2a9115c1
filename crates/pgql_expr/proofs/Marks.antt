-- What a level reads where its mark comes next.
use Rattle.std.proofs.Common.{◌≡◌, ℕ, List, [], ◌∷◌, Option, Some, None, sym, ap, ◌∙◌}
use Rattle.pgql_lexemes.specs.declared.kind.Kind.TheVariants as k
use Rattle.pgql_tree.specs.declared.ast.AstExpr.TheVariants as e
use Rattle.pgql_expr.specs.declared.found.Found.{Found}
use Rattle.pgql_tree.specs.declared.level.Level.{Level}
use Rattle.pgql_tree.specs.declared.level.Level.TheVariants.{Not, Sum, Product, Sign}
use Rattle.pgql_lexemes.specs.Lexemes.{Lexeme}
use Rattle.pgql_expr.specs.Reading.{Parser, first, marked, sign_by, read_sign, not_by, chained, read_test, read_not, read_level}

abbrev first_or : Lexeme → Option Lexeme → Lexeme
first_or t (Some u) = u
first_or t None = t

pub read_minus : (m : ℕ) (inner : Level → Parser Found) (ts : List Lexeme) (t : Lexeme) → Some t ≡ first ts → t.kind ≡ k.Minus → read_level m inner Sign ts ≡ marked m inner Sign (λ x. e.Neg x t.at) ts
unfolding read_level read_sign
read_minus m inner [] t f p = cc
read_minus m inner (u ∷ us) t f p =
    let same : u ≡ t = ap (first_or u) (sym f) in
    ap (λ v. sign_by m inner v.kind v (u ∷ us)) same ∙ ap (λ kind. sign_by m inner kind t (u ∷ us)) p

pub read_not_word : (m : ℕ) (inner : Level → Parser Found) (ts : List Lexeme) (t : Lexeme) → Some t ≡ first ts → t.kind ≡ k.Not → read_level m inner Not ts ≡ marked m inner Not (λ x. e.Not x t.at) ts
unfolding read_level read_not
read_not_word m inner [] t f p = cc
read_not_word m inner (u ∷ us) t f p =
    let same : u ≡ t = ap (first_or u) (sym f) in
    let test = read_test m inner (chained m inner Sum (chained m inner Product (read_sign m inner))) in
    ap (λ v. not_by m inner test v.kind v (u ∷ us)) same ∙ ap (λ kind. not_by m inner test kind t (u ∷ us)) p
