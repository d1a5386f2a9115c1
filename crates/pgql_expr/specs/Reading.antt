-- Reading expressions.
use Rattle.std.specs.Prelude.{ℕ, zero, suc, ◌+◌, pos, max, Bool, true, false, Option, Some, None}
use Rattle.pgql_lexemes.specs.declared.kind.Kind.{Kind}
use Rattle.pgql_lexemes.specs.declared.kind.Kind.TheVariants as k
use Rattle.pgql_tree.specs.declared.ast.Op.{Op}
use Rattle.pgql_tree.specs.declared.ast.Placed.{Placed}
use Rattle.pgql_tree.specs.declared.ast.AstExpr.{AstExpr}
use Rattle.pgql_tree.specs.declared.ast.AstExpr.TheVariants as e
use Rattle.pgql_tree.specs.declared.level.Level.{Level}
use Rattle.pgql_expr.specs.declared.found.Found.{Found}
use Rattle.pgql_tree.specs.declared.level.Level.TheVariants.{Or, And, Not, Test, Sum, Product, Sign, Primary}
use Rattle.pgql_expr.specs.declared.leaf.Function.{Function}
use Rattle.pgql_expr.specs.declared.leaf.Function.TheVariants.{Id, Label}
use Rattle.pgql_lexemes.specs.Lexemes.{Lexeme, value_of, content_of, is_id, is_label}
use Rattle.pgql_lexemes.specs.Operators.{operator, comparison}
use Rattle.pgql_tree.specs.Levels.{tighter}
pub use Rattle.pgql_lexemes.specs.Parsers.{Refusal, unexpected, deep, Outcome, Parser, and_then, ◌>>=◌, ◌>>◌, pure, here, refuse, first, by_first, by_next, take_token, expect_by, deeper_by}
unfoldable pub use Rattle.pgql_lexemes.specs.Parsers.{same_kind, expect, expect_word, deeper}
pub use Rattle.pgql_lexemes.specs.Lexemes.{placed}

abbrev pub found : AstExpr → ℕ → Found
found x h = record { expr = x; height = h }

-- what the call of a function stands for
abbrev pub call_of : Function → Placed → ℕ → AstExpr
call_of Id v at = e.Id v at
call_of Label v at = e.Label v at

-- a token that is an expression of its own
abbrev pub read_leaf : AstExpr → Parser Found
read_leaf x = take_token >> pure (found x 0)

abbrev pub chosen : {A : Type 0} → Bool → A → A → A
chosen true x y = x
chosen false x y = y

-- a name, and what the next token makes of it
unfoldable pub read_property : Lexeme → Parser Found
read_property t = do
  take_token
  p ← expect_word
  pure (found (e.Property t.at t.bytes p.bytes) 0)

unfoldable pub read_call : Lexeme → (Placed → ℕ → AstExpr) → Parser Found
read_call t make = do
  take_token
  v ← expect k.Name
  expect k.Close
  pure (found (make (record { name = v.bytes; at = v.at }) t.at) 0)

-- a name before an opening parenthesis
abbrev pub opened : Lexeme → Parser Found
opened t = chosen (is_id t) (read_call t (call_of Id)) (chosen (is_label t) (read_call t (call_of Label)) (pure (found (e.Name t.at t.bytes) 0)))

abbrev pub name_by : Kind → Lexeme → Parser Found
name_by k.Dot t = read_property t
name_by k.Open t = opened t
name_by kind t = pure (found (e.Name t.at t.bytes) 0)

unfoldable pub read_name : Lexeme → Parser Found
read_name t = do
  take_token
  by_next (pure (found (e.Name t.at t.bytes) 0)) (λ u. name_by u.kind t)

unfoldable pub read_date : Lexeme → Parser Found
read_date d = do
  take_token
  t ← expect k.Text
  pure (found (e.Date (content_of t) d.at) 0)

-- the operator of a chain of this level that comes next
abbrev pub next_operator : Level → Option Lexeme → Option Op
next_operator level None = None
next_operator level (Some t) = operator level t.kind

abbrev pub named : Lexeme → Parser Found
named t = by_next (pure (found (e.Name t.at t.bytes) 0)) (λ u. name_by u.kind t)

-- a primary without parentheses
abbrev pub leaf_by : Kind → Lexeme → Parser Found
leaf_by k.Number t = read_leaf (e.Int (pos (value_of t)) t.at)
leaf_by k.Text t = read_leaf (e.Text (content_of t) t.at)
leaf_by k.True t = read_leaf (e.Bool true t.at)
leaf_by k.False t = read_leaf (e.Bool false t.at)
leaf_by k.Date t = read_date t
leaf_by k.Name t = read_name t
leaf_by kind t = refuse unexpected

abbrev pub null_by : Kind → ℕ → Found → Parser Found
null_by k.Not at left = take_token >> (expect k.Null >> pure (found (e.IsNull left.expr true at) (left.height + 1)))
null_by kind at left = expect k.Null >> pure (found (e.IsNull left.expr false at) (left.height + 1))

-- NULL or NOT NULL
abbrev pub null_word : ℕ → Found → Parser Found
null_word at left = by_next (refuse unexpected) (λ t. null_by t.kind at left)

-- NULL or NOT NULL, and whether it is NOT NULL
abbrev pub null_words_by : Kind → Parser Bool
null_words_by k.Not = take_token >> (expect k.Null >> pure true)
null_words_by kind = expect k.Null >> pure false

abbrev pub null_words : Parser Bool
null_words = by_next (refuse unexpected) (λ t. null_words_by t.kind)

-- IS and those words, after what is this high
abbrev pub is_words : ℕ → ℕ → Parser Bool
is_words most height = deeper most height >> (take_token >> null_words)

module _ (most : ℕ) (inner : Level → Parser Found) where
  -- a token and an expression of that level, one level above what is this high
  abbrev pub operand : ℕ → Level → Parser Found
  operand height level = deeper most height >> (take_token >> inner level)

  unfoldable pub inside : Parser Found
  inside = do
    deeper most 0
    take_token
    x ← inner Or
    expect k.Close
    pure (found x.expr (x.height + 1))

  abbrev pub primary_by : Kind → Lexeme → Parser Found
  primary_by k.Open t = inside
  primary_by kind t = leaf_by kind t

  unfoldable pub read_primary : Parser Found
  read_primary = by_next (refuse unexpected) (λ t. primary_by t.kind t)

  -- a mark before what it makes one higher
  unfoldable pub marked : Level → (AstExpr → AstExpr) → Parser Found
  marked level make = do
    deeper most 0
    take_token
    x ← inner level
    pure (found (make x.expr) (x.height + 1))

  abbrev pub sign_by : Kind → Lexeme → Parser Found
  sign_by k.Minus t = marked Sign (λ x. e.Neg x t.at)
  sign_by kind t = read_primary

  unfoldable pub read_sign : Parser Found
  read_sign = by_next (refuse unexpected) (λ t. sign_by t.kind t)

  abbrev pub joined : Op → ℕ → Found → Found → Found
  joined op at left right = found (e.Binary op at left.expr right.expr) (max left.height right.height + 1)

  abbrev pub goes_by : Found → (Op → Parser Found) → Option Op → Parser Found
  goes_by left next None = pure left
  goes_by left next (Some op) = next op

  -- a chain with one more operator and operand
  unfoldable pub longer : Level → ℕ → Found → Op → Parser Found
  longer level at left op = do
    deeper most left.height
    take_token
    right ← inner (tighter level)
    pure (joined op at left right)

  unfoldable pub more : Level → ℕ → ℕ → Found → Parser Found
  more level at zero left = by_next (pure left) (λ t. goes_by left (λ op. refuse deep) (operator level t.kind))
  more level at (suc turns) left = by_next (pure left) (λ t. goes_by left (λ op. do
    deeper most left.height
    take_token
    right ← inner (tighter level)
    more level at turns (joined op at left right)) (operator level t.kind))

  -- the operands and operators of a chain
  unfoldable pub chained : Level → Parser Found → Parser Found
  chained level operand = do
    at ← here
    left ← operand
    more level at most left

  -- what a test goes on with after IS
  unfoldable pub read_null : ℕ → Found → Parser Found
  read_null at left = do
    deeper most left.height
    take_token
    null_word at left

  unfoldable pub compared : ℕ → Found → Op → Parser Found
  compared at left op = do
    deeper most left.height
    take_token
    right ← inner Sum
    pure (joined op at left right)

  abbrev pub test_by : Kind → ℕ → Found → Parser Found
  test_by k.Is at left = read_null at left
  test_by kind at left = goes_by left (compared at left) (comparison kind)

  -- a test, or the sum alone
  abbrev pub tested : ℕ → Found → Parser Found
  tested at left = by_next (pure left) (λ t. test_by t.kind at left)

  unfoldable pub read_test : Parser Found → Parser Found
  read_test operand = do
    at ← here
    left ← operand
    by_next (pure left) (λ t. test_by t.kind at left)

  abbrev pub not_by : Parser Found → Kind → Lexeme → Parser Found
  not_by operand k.Not t = marked Not (λ x. e.Not x t.at)
  not_by operand kind t = operand

  unfoldable pub read_not : Parser Found → Parser Found
  read_not operand = by_next (refuse unexpected) (λ t. not_by operand t.kind t)

  unfoldable pub read_level : Level → Parser Found
  read_level Primary = read_primary
  read_level Sign = read_sign
  read_level Product = chained Product read_sign
  read_level Sum = chained Sum (chained Product read_sign)
  read_level Test = read_test (chained Sum (chained Product read_sign))
  read_level Not = read_not (read_test (chained Sum (chained Product read_sign)))
  read_level And = chained And (read_not (read_test (chained Sum (chained Product read_sign))))
  read_level Or = chained Or (chained And (read_not (read_test (chained Sum (chained Product read_sign)))))

-- expressions that are less high than the number
unfoldable pub nested : ℕ → Level → Parser Found
nested zero = λ level. refuse deep
nested (suc most) = read_level most (nested most)

abbrev pub read_expr : ℕ → Level → Parser Found
read_expr most = nested (suc most)
