-- What begins with an operand, as what is made of the operand.
use Rattle.std.proofs.Common.{◌≡◌, ℕ, ◌+◌, Bool, true, false, List, [], ◌∷◌, Ok, Err, refl, sym}
use Rattle.pgql_lexemes.specs.declared.kind.Kind.{Kind}
use Rattle.pgql_lexemes.specs.declared.kind.Kind.TheVariants as k
use Rattle.pgql_tree.specs.declared.ast.AstExpr.{AstExpr}
use Rattle.pgql_tree.specs.declared.ast.AstExpr.TheVariants as e
use Rattle.pgql_tree.specs.declared.ast.Op.{Op}
use Rattle.pgql_tree.specs.declared.level.Level.{Level}
use Rattle.pgql_tree.specs.declared.level.Level.TheVariants.{Or, Sum}
use Rattle.pgql_tree.specs.Levels.{tighter}
use Rattle.pgql_expr.specs.declared.found.Found.{Found}
use Rattle.pgql_lexemes.specs.Lexemes.{Lexeme}
use Rattle.pgql_expr.specs.Reading.{Outcome, Parser, and_then, ◌>>=◌, ◌>>◌, pure, take_token, expect, deeper, found, null_by, null_word, null_words_by, null_words}
use Rattle.pgql_expr.specs.Reading.{is_words, operand, joined, inside, marked, longer, compared, read_null}

then_assoc : {A B C : Type 0} (o : Outcome A) (f : A → Parser B) (g : B → Parser C) → and_then (and_then o f) g ≡ and_then o (λ x. f x >>= g)
then_assoc (Ok p) f g = refl
then_assoc (Err e) f g = refl

-- two parts before another
then_two : {A B C D : Type 0} (o : Outcome A) (p : Parser B) (q : Parser C) (f : C → Parser D)
    → and_then (and_then o (λ _. p >> q)) f ≡ and_then o (λ _. p >> (q >>= f))
then_two (Ok a) p q f = then_assoc (p a.1) (λ _. q) f
then_two (Err e) p q f = refl

abbrev null_of : ℕ → Found → Bool → Found
null_of at left negated = found (e.IsNull left.expr negated at) (left.height + 1)

null_by-is : (kind : Kind) (at : ℕ) (left : Found) (ts : List Lexeme) → null_by kind at left ts ≡ and_then (null_words_by kind ts) (λ negated. pure (null_of at left negated))
null_by-is k.Not at left ts = sym (then_two (take_token ts) (expect k.Null) (pure true) (λ negated. pure (null_of at left negated)))
null_by-is kind at left ts = sym (then_assoc (expect k.Null ts) (λ _. pure false) (λ negated. pure (null_of at left negated)))

null_word-is : (at : ℕ) (left : Found) (ts : List Lexeme) → null_word at left ts ≡ and_then (null_words ts) (λ negated. pure (null_of at left negated))
null_word-is at left [] = refl
null_word-is at left (t ∷ ts) = null_by-is t.kind at left (t ∷ ts)

module _ (m : ℕ) (inner : Level → Parser Found) where
  pub inside_is : (ts : List Lexeme) → inside m inner ts ≡ and_then (operand m inner 0 Or ts) (λ x. expect k.Close >> pure (found x.expr (x.height + 1)))
  unfolding inside
  inside_is ts = sym (then_two (deeper m 0 ts) take_token (inner Or) (λ x. expect k.Close >> pure (found x.expr (x.height + 1))))

  pub marked_is : (level : Level) (make : AstExpr → AstExpr) (ts : List Lexeme)
      → marked m inner level make ts ≡ and_then (operand m inner 0 level ts) (λ x. pure (found (make x.expr) (x.height + 1)))
  unfolding marked
  marked_is level make ts = sym (then_two (deeper m 0 ts) take_token (inner level) (λ x. pure (found (make x.expr) (x.height + 1))))

  pub longer_is : (level : Level) (at : ℕ) (left : Found) (op : Op) (ts : List Lexeme)
      → longer m inner level at left op ts ≡ and_then (operand m inner left.height (tighter level) ts) (λ right. pure (joined m inner op at left right))
  unfolding longer
  longer_is level at left op ts = sym (then_two (deeper m left.height ts) take_token (inner (tighter level)) (λ right. pure (joined m inner op at left right)))

  pub compared_is : (at : ℕ) (left : Found) (op : Op) (ts : List Lexeme)
      → compared m inner at left op ts ≡ and_then (operand m inner left.height Sum ts) (λ right. pure (joined m inner op at left right))
  unfolding compared
  compared_is at left op ts = sym (then_two (deeper m left.height ts) take_token (inner Sum) (λ right. pure (joined m inner op at left right)))

  pub read_null_is : (at : ℕ) (left : Found) (ts : List Lexeme)
      → read_null m inner at left ts ≡ and_then (is_words m left.height ts) (λ negated. pure (found (e.IsNull left.expr negated at) (left.height + 1)))
  unfolding read_null
  read_null_is at left ts = by_deeper (deeper m left.height ts)
    where
      by_take : (o : Outcome Lexeme) → and_then o (λ _. null_word at left) ≡ and_then (and_then o (λ _. null_words)) (λ negated. pure (null_of at left negated))
      by_take (Ok p) = null_word-is at left p.1
      by_take (Err e) = refl

      by_deeper : (o : Outcome (Unit {0})) → and_then o (λ _. take_token >> null_word at left)
          ≡ and_then (and_then o (λ _. take_token >> null_words)) (λ negated. pure (null_of at left negated))
      by_deeper (Ok p) = by_take (take_token p.1)
      by_deeper (Err e) = refl
