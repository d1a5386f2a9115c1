-- Reading is steady, also for a greater bound on height.
use Rattle.std.proofs.Common.{◌≡◌, ℕ, zero, suc, ◌+◌, ◌≤◌, ◌<◌, Bool, true, false, Option, Some, None, refl, arith}
use Rattle.std.specs.Prelude.{nat_lt}
use Rattle.std.proofs.lemmas.Bool.Decides.{nat_tests}
use Rattle.pgql_lexemes.specs.declared.kind.Kind.{Kind}
use Rattle.pgql_lexemes.specs.declared.kind.Kind.TheVariants as k
use Rattle.pgql_tree.specs.declared.ast.Op.{Op}
use Rattle.pgql_tree.specs.declared.ast.Placed.{Placed}
use Rattle.pgql_tree.specs.declared.ast.AstExpr.{AstExpr}
use Rattle.pgql_tree.specs.declared.ast.AstExpr.TheVariants as e
use Rattle.pgql_tree.specs.declared.level.Level.{Level}
use Rattle.pgql_expr.specs.declared.found.Found.{Found}
use Rattle.pgql_tree.specs.declared.level.Level.TheVariants.{Or, And, Not, Test, Sum, Product, Sign, Primary}
use Rattle.pgql_lexemes.specs.Lexemes.{Lexeme, is_word, content_of, is_id, is_label}
use Rattle.pgql_lexemes.specs.Operators.{operator}
use Rattle.pgql_tree.specs.Levels.{tighter}
use Rattle.pgql_expr.specs.Reading.{Refusal, unexpected, deep, Parser, found, chosen, ◌>>◌, expect_by, expect, expect_word, deeper_by, deeper, same_kind, inside}
use Rattle.pgql_expr.specs.Reading.{primary_by, read_primary, read_property, read_call, name_by, read_name, read_date, marked, sign_by, read_sign, joined, goes_by, more}
use Rattle.pgql_expr.specs.Reading.{chained, null_by, read_null, compared, test_by, read_test, not_by, read_not, read_level, nested, read_expr}
use Rattle.pgql_syntax.proofs.Steady.{Steady, Steady-then, Steady-pure, Steady-refuse, Steady-refuse_only, Steady-here, Steady-take, Steady-by_next}

lt_more : (h m m' : ℕ) → m ≤ m' → nat_lt h m ≡ true → nat_lt h m' ≡ true
lt_more h m m' le e = grind (arith, nat_tests)

lt_same : (h m m' : ℕ) → m ≡ m' → nat_lt h m ≡ false → nat_lt h m' ≡ false
lt_same h m m' e f = grind (arith, nat_tests)

lt_fact : (h m : ℕ) → nat_lt h m ≡ true → h < m
lt_fact h m e = grind (arith, nat_tests)

module _ (keeps : Refusal → Type 0) where
  expect_by_steady : (b : Bool) → Steady keeps (expect_by b) (expect_by b)
  expect_by_steady true = Steady-take keeps
  expect_by_steady false = Steady-refuse keeps unexpected

  pub Steady-expect : (kind : Kind) → Steady keeps (expect kind) (expect kind)
  unfolding expect
  Steady-expect kind = Steady-by_next keeps (Steady-refuse keeps unexpected) (λ t. expect_by_steady (same_kind t.kind kind))

  pub Steady-expect_word : Steady keeps expect_word expect_word
  unfolding expect_word
  Steady-expect_word = Steady-by_next keeps (Steady-refuse keeps unexpected) (λ t. expect_by_steady (is_word t.kind))

  guarded_by : {A : Type 0} (b b' : Bool) (p p' : Parser A) → (b ≡ true → b' ≡ true) → (b ≡ false → keeps deep → b' ≡ false) → (b ≡ true → Steady keeps p p')
      → Steady keeps (deeper_by b >> p) (deeper_by b' >> p')
  guarded_by true true p p' up down s = s refl
  guarded_by true false p p' up down s = let bad : false ≡ true = up refl in absurd cc
  guarded_by false false p p' up down s = Steady-refuse keeps deep
  guarded_by false true p p' up down s = Steady-refuse_only keeps deep _ (λ kept. let bad : true ≡ false = down refl kept in cc)

  -- parsers without a bound
  property_steady : (t : Lexeme) → Steady keeps (read_property t) (read_property t)
  unfolding read_property
  property_steady t = Steady-then keeps (Steady-take keeps) (λ _. Steady-then keeps Steady-expect_word (λ p. Steady-pure keeps (found (e.Property t.at t.bytes p.bytes) 0)))

  call_steady : (t : Lexeme) (make : Placed → ℕ → AstExpr) → Steady keeps (read_call t make) (read_call t make)
  unfolding read_call
  call_steady t make = Steady-then keeps (Steady-take keeps) (λ _. Steady-then keeps (Steady-expect k.Name) (λ v. Steady-then keeps (Steady-expect k.Close) (λ _. Steady-pure keeps (found (make (record { name = v.bytes; at = v.at }) t.at) 0))))

  chosen_steady : (b : Bool) (p q : Parser Found) → Steady keeps p p → Steady keeps q q → Steady keeps (chosen b p q) (chosen b p q)
  chosen_steady true p q x y = x
  chosen_steady false p q x y = y

  name_by_steady : (kind : Kind) (t : Lexeme) → Steady keeps (name_by kind t) (name_by kind t)
  name_by_steady k.Dot t = property_steady t
  name_by_steady k.Open t = chosen_steady (is_id t) _ _ (call_steady t e.Id) (chosen_steady (is_label t) _ _ (call_steady t e.Label) (Steady-pure keeps (found (e.Name t.at t.bytes) 0)))
  name_by_steady kind t = Steady-pure keeps (found (e.Name t.at t.bytes) 0)

  name_steady : (t : Lexeme) → Steady keeps (read_name t) (read_name t)
  unfolding read_name
  name_steady t = Steady-then keeps (Steady-take keeps) (λ _. Steady-by_next keeps (Steady-pure keeps (found (e.Name t.at t.bytes) 0)) (λ u. name_by_steady u.kind t))

  date_steady : (t : Lexeme) → Steady keeps (read_date t) (read_date t)
  unfolding read_date
  date_steady d = Steady-then keeps (Steady-take keeps) (λ _. Steady-then keeps (Steady-expect k.Text) (λ t. Steady-pure keeps (found (e.Date (content_of t) d.at) 0)))

  module _ (m m' : ℕ) (le : m ≤ m') (same : keeps deep → m ≡ m') (inner inner' : Level → Parser Found)
      (steady_inner : 0 < m → (level : Level) → Steady keeps (inner level) (inner' level)) where
    pub Steady-deeper : {A : Type 0} (h : ℕ) (p p' : Parser A) → (h < m → Steady keeps p p') → Steady keeps (deeper m h >> p) (deeper m' h >> p')
    unfolding deeper
    Steady-deeper h p p' s = guarded_by (nat_lt h m) (nat_lt h m') p p' (λ x. lt_more h m m' le x) (λ x kept. lt_same h m m' (same kept) x) (λ x. s (lt_fact h m x))

    inside_steady : Steady keeps (inside m inner) (inside m' inner')
    unfolding inside
    inside_steady = Steady-deeper 0 _ _ (λ lt. Steady-then keeps (Steady-take keeps) (λ _. Steady-then keeps (steady_inner lt Or) (λ x. Steady-then keeps (Steady-expect k.Close) (λ _. Steady-pure keeps (found x.expr (x.height + 1))))))

    primary_by_steady : (kind : Kind) (t : Lexeme) → Steady keeps (primary_by m inner kind t) (primary_by m' inner' kind t)
    primary_by_steady k.Number t = Steady-then keeps (Steady-take keeps) (λ _. Steady-pure keeps _)
    primary_by_steady k.Text t = Steady-then keeps (Steady-take keeps) (λ _. Steady-pure keeps _)
    primary_by_steady k.True t = Steady-then keeps (Steady-take keeps) (λ _. Steady-pure keeps _)
    primary_by_steady k.False t = Steady-then keeps (Steady-take keeps) (λ _. Steady-pure keeps _)
    primary_by_steady k.Date t = date_steady t
    primary_by_steady k.Name t = name_steady t
    primary_by_steady k.Open t = inside_steady
    primary_by_steady kind t = Steady-refuse keeps unexpected

    read_primary_steady : Steady keeps (read_primary m inner) (read_primary m' inner')
    unfolding read_primary
    read_primary_steady = Steady-by_next keeps (Steady-refuse keeps unexpected) (λ t. primary_by_steady t.kind t)

    marked_steady : (level : Level) (make : AstExpr → AstExpr) → Steady keeps (marked m inner level make) (marked m' inner' level make)
    unfolding marked
    marked_steady level make = Steady-deeper 0 _ _ (λ lt. Steady-then keeps (Steady-take keeps) (λ _. Steady-then keeps (steady_inner lt level) (λ x. Steady-pure keeps (found (make x.expr) (x.height + 1)))))

    sign_by_steady : (kind : Kind) (t : Lexeme) → Steady keeps (sign_by m inner kind t) (sign_by m' inner' kind t)
    sign_by_steady k.Minus t = marked_steady Sign (λ x. e.Neg x t.at)
    sign_by_steady kind t = read_primary_steady

    read_sign_steady : Steady keeps (read_sign m inner) (read_sign m' inner')
    unfolding read_sign
    read_sign_steady = Steady-by_next keeps (Steady-refuse keeps unexpected) (λ t. sign_by_steady t.kind t)

    goes_by_steady : (left : Found) (next next' : Op → Parser Found) (o : Option Op) → ((op : Op) → Steady keeps (next op) (next' op))
        → Steady keeps (goes_by m inner left next o) (goes_by m' inner' left next' o)
    goes_by_steady left next next' None s = Steady-pure keeps left
    goes_by_steady left next next' (Some op) s = s op

    more_steady : (level : Level) (at n n' : ℕ) (left : Found) → n ≤ n' → (keeps deep → n ≡ n') → Steady keeps (more m inner level at n left) (more m' inner' level at n' left)
    unfolding more
    more_steady level at zero zero left h x = Steady-by_next keeps (Steady-pure keeps left) (λ t. goes_by_steady left _ _ (operator level t.kind) (λ op. Steady-refuse keeps deep))
    more_steady level at zero (suc n') left h x = Steady-by_next keeps (Steady-pure keeps left) (λ t. goes_by_steady left _ _ (operator level t.kind) (λ op. Steady-refuse_only keeps deep _ (λ kept. let bad : 0 ≡ suc n' = x kept in omega arith)))
    more_steady level at (suc n) zero left h x = absurd (omega arith)
    more_steady level at (suc n) (suc n') left h x = Steady-by_next keeps (Steady-pure keeps left) (λ t. goes_by_steady left _ _ (operator level t.kind) (λ op.
        Steady-deeper left.height _ _ (λ lt. Steady-then keeps (Steady-take keeps) (λ _. Steady-then keeps (steady_inner (omega arith) (tighter level)) (λ right.
        more_steady level at n n' (joined m inner op at left right) (omega arith) (λ kept. let e' : suc n ≡ suc n' = x kept in omega arith))))))

    chained_steady : (level : Level) {operand operand' : Parser Found} → Steady keeps operand operand' → Steady keeps (chained m inner level operand) (chained m' inner' level operand')
    unfolding chained
    chained_steady level s = Steady-then keeps (Steady-here keeps) (λ at. Steady-then keeps s (λ left. more_steady level at m m' left le same))

    null_by_steady : (kind : Kind) (at : ℕ) (left : Found) → Steady keeps (null_by kind at left) (null_by kind at left)
    null_by_steady k.Not at left = Steady-then keeps (Steady-take keeps) (λ _. Steady-then keeps (Steady-expect k.Null) (λ _. Steady-pure keeps _))
    null_by_steady kind at left = Steady-then keeps (Steady-expect k.Null) (λ _. Steady-pure keeps _)

    null_steady : (at : ℕ) (left : Found) → Steady keeps (read_null m inner at left) (read_null m' inner' at left)
    unfolding read_null
    null_steady at left = Steady-deeper left.height _ _ (λ lt. Steady-then keeps (Steady-take keeps) (λ _. Steady-by_next keeps (Steady-refuse keeps unexpected) (λ t. null_by_steady t.kind at left)))

    compared_steady : (at : ℕ) (left : Found) (op : Op) → Steady keeps (compared m inner at left op) (compared m' inner' at left op)
    unfolding compared
    compared_steady at left op = Steady-deeper left.height _ _ (λ lt. Steady-then keeps (Steady-take keeps) (λ _. Steady-then keeps (steady_inner (omega arith) Sum) (λ right. Steady-pure keeps (joined m inner op at left right))))

    test_by_steady : (kind : Kind) (at : ℕ) (left : Found) → Steady keeps (test_by m inner kind at left) (test_by m' inner' kind at left)
    test_by_steady k.Is at left = null_steady at left
    test_by_steady k.Equal at left = compared_steady at left _
    test_by_steady k.Unequal at left = compared_steady at left _
    test_by_steady k.Less at left = compared_steady at left _
    test_by_steady k.LessEqual at left = compared_steady at left _
    test_by_steady k.Greater at left = compared_steady at left _
    test_by_steady k.GreaterEqual at left = compared_steady at left _
    test_by_steady kind at left = Steady-pure keeps left

    test_steady : {operand operand' : Parser Found} → Steady keeps operand operand' → Steady keeps (read_test m inner operand) (read_test m' inner' operand')
    unfolding read_test
    test_steady s = Steady-then keeps (Steady-here keeps) (λ at. Steady-then keeps s (λ left. Steady-by_next keeps (Steady-pure keeps left) (λ t. test_by_steady t.kind at left)))

    not_by_steady : {operand operand' : Parser Found} → Steady keeps operand operand' → (kind : Kind) (t : Lexeme) → Steady keeps (not_by m inner operand kind t) (not_by m' inner' operand' kind t)
    not_by_steady s k.Not t = marked_steady Not (λ x. e.Not x t.at)
    not_by_steady s kind t = s

    not_steady : {operand operand' : Parser Found} → Steady keeps operand operand' → Steady keeps (read_not m inner operand) (read_not m' inner' operand')
    unfolding read_not
    not_steady s = Steady-by_next keeps (Steady-refuse keeps unexpected) (λ t. not_by_steady s t.kind t)

    pub level_steady : (level : Level) → Steady keeps (read_level m inner level) (read_level m' inner' level)
    unfolding read_level
    level_steady Primary = read_primary_steady
    level_steady Sign = read_sign_steady
    level_steady Product = chained_steady Product read_sign_steady
    level_steady Sum = chained_steady Sum (chained_steady Product read_sign_steady)
    level_steady Test = test_steady (chained_steady Sum (chained_steady Product read_sign_steady))
    level_steady Not = not_steady (test_steady (chained_steady Sum (chained_steady Product read_sign_steady)))
    level_steady And = chained_steady And (not_steady (test_steady (chained_steady Sum (chained_steady Product read_sign_steady))))
    level_steady Or = chained_steady Or (chained_steady And (not_steady (test_steady (chained_steady Sum (chained_steady Product read_sign_steady)))))

  pub expr_steady : (m m' : ℕ) → m ≤ m' → (keeps deep → m ≡ m') → (level : Level) → Steady keeps (read_expr m level) (read_expr m' level)
  unfolding nested
  expr_steady zero zero le same level = level_steady zero zero le same _ _ (λ lt l. absurd (omega arith)) level
  expr_steady zero (suc m') le same level = level_steady zero (suc m') le same _ _ (λ lt l. absurd (omega arith)) level
  expr_steady (suc m) zero le same level = absurd (omega arith)
  expr_steady (suc m) (suc m') le same level = level_steady (suc m) (suc m') le same _ _ (λ lt l. expr_steady m m' (omega arith) (λ kept. let x : suc m ≡ suc m' = same kept in omega arith) l) level
