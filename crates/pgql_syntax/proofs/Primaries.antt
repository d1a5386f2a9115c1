-- Reading follows the grammar: primaries and tests.
use Rattle.std.proofs.Common.{◌≡◌, ℕ, zero, suc, ◌+◌, ◌<◌, Bool, true, false, List, [], ◌∷◌, ◌++◌, Some, Ok, refl, sym, ap, ◌∙◌, append_assoc, arith}
use Rattle.std.specs.Prelude.{pos}
use Rattle.pgql_lexemes.specs.declared.kind.Kind.{Kind}
use Rattle.pgql_lexemes.specs.declared.kind.Kind.TheVariants as k
use Rattle.pgql_tree.specs.declared.ast.Op.{Op}
use Rattle.pgql_tree.specs.declared.ast.Op.TheVariants as op
use Rattle.pgql_tree.specs.declared.ast.Placed.{Placed}
use Rattle.pgql_tree.specs.declared.ast.AstExpr.{AstExpr}
use Rattle.pgql_tree.specs.declared.ast.AstExpr.TheVariants as e
use Rattle.pgql_tree.specs.declared.level.Level.{Level}
use Rattle.pgql_expr.specs.declared.found.Found.{Found}
use Rattle.pgql_tree.specs.declared.level.Level.TheVariants.{Or, And, Not, Test, Sum, Product, Sign, Primary}
use Rattle.pgql_lexemes.specs.Lexemes.{Lexeme, value_of, content_of, is_id, is_label, place}
use Rattle.pgql_syntax.specs.Grammar.{IsExpr}
use Rattle.pgql_lexemes.specs.Operators.{comparison}
use Rattle.pgql_syntax.specs.Grammar as g
use Rattle.pgql_expr.specs.Reading.{unexpected, deep, Parser, found, chosen, ◌>>=◌, ◌>>◌, pure, refuse, by_next, take_token, expect, expect_word, inside, primary_by}
use Rattle.pgql_expr.specs.Reading.{read_primary, read_property, read_call, name_by, read_name, read_date, sign_by, read_sign, joined, chained, null_by, read_null}
use Rattle.pgql_expr.specs.Reading.{compared, test_by, read_test, not_by, read_not, read_level, nested, read_expr}
use Rattle.pgql_syntax.proofs.Samples.{sample}
use Rattle.pgql_syntax.proofs.Follows.{CanEnd, Says, Follows, ends_with, Follows-pure, Follows-unexpected, said-pure, said-unexpected, said-after, and_then_says}
use Rattle.pgql_syntax.proofs.Follows.{Follows-then, Follows-by_next, Follows-expect, Follows-expect_word, said-deeper, said-looser, Follows-looser}
use Rattle.pgql_syntax.proofs.Ends.{place_front, one, one_expr, found_one, one_is, Low, High, any_level, moved, up_one, compared_is, chained_follows, marked_says}

abbrev name_token : Lexeme
name_token = sample k.Name

abbrev close_token : Lexeme
close_token = sample k.Close

abbrev text_token : Lexeme
text_token = sample k.Text

abbrev null_token : Lexeme
null_token = sample k.Null

module _ (m : ℕ) (inner : Level → Parser Found)
    (inner_follows : 0 < m → (level : Level) → Follows (Low level m) (High level) [] (inner level)) where
  abbrev lo : Level → List Lexeme → Found → Type 0
  lo level = Low level (suc m)

  leaf_says : (t : Lexeme) (ts : List Lexeme) (x : AstExpr) → IsExpr Primary 0 (t ∷ []) x → Says (lo Primary) (High Primary) [] (t ∷ ts) ((take_token >> pure (found x 0)) (t ∷ ts))
  leaf_says t ts x d = said-after (lo Primary) (High Primary) [] t ts (Ok (found x 0, ts)) (said-pure (lo Primary) (High Primary) (t ∷ []) ts (found x 0) (d, omega arith))

  date_says : (d : Lexeme) (ts : List Lexeme) → d.kind ≡ k.Date → Says (lo Primary) (High Primary) [] (d ∷ ts) (read_date d (d ∷ ts))
  unfolding read_date
  date_says d ts is = said-after (lo Primary) (High Primary) [] d ts ((expect k.Text >>= λ t. pure (found (e.Date (content_of t) d.at) 0)) ts)
      ((Follows-expect (lo Primary) (High Primary) (d ∷ []) k.Text (λ t. pure (found (e.Date (content_of t) d.at) 0))
      (k.Text ∷ [], found (e.Date (content_of text_token) d.at) 0, (g.date d text_token is refl, omega arith))
      (λ t q. Follows-pure (lo Primary) (High Primary) (d ∷ t ∷ []) (found (e.Date (content_of t) d.at) 0) (g.date d t is q, omega arith))).says ts)

  property_says : (t u : Lexeme) (us : List Lexeme) → t.kind ≡ k.Name → u.kind ≡ k.Dot → Says (lo Primary) (High Primary) (t ∷ []) (u ∷ us) (read_property t (u ∷ us))
  unfolding read_property
  property_says t u us is dot = said-after (lo Primary) (High Primary) (t ∷ []) u us ((expect_word >>= λ p. pure (found (e.Property t.at t.bytes p.bytes) 0)) us)
      ((Follows-expect_word (lo Primary) (High Primary) (t ∷ u ∷ []) (λ p. pure (found (e.Property t.at t.bytes p.bytes) 0))
      (k.Name ∷ [], found (e.Property t.at t.bytes name_token.bytes) 0, (g.property t u name_token is dot refl, omega arith))
      (λ p q. Follows-pure (lo Primary) (High Primary) (t ∷ u ∷ p ∷ []) (found (e.Property t.at t.bytes p.bytes) 0) (g.property t u p is dot q, omega arith))).says us)

  call_says : (make : Placed → ℕ → AstExpr) (t u : Lexeme) (us : List Lexeme)
      → ((v c : Lexeme) → v.kind ≡ k.Name → c.kind ≡ k.Close → IsExpr Primary 0 (t ∷ u ∷ v ∷ c ∷ []) (make (record { name = v.bytes; at = v.at }) t.at))
      → Says (lo Primary) (High Primary) (t ∷ []) (u ∷ us) (read_call t make (u ∷ us))
  unfolding read_call
  call_says make t u us is = said-after (lo Primary) (High Primary) (t ∷ []) u us ((expect k.Name >>= λ v. expect k.Close >> pure (found (make (record { name = v.bytes; at = v.at }) t.at) 0)) us)
      ((Follows-expect (lo Primary) (High Primary) (t ∷ u ∷ []) k.Name (λ v. expect k.Close >> pure (found (make (record { name = v.bytes; at = v.at }) t.at) 0))
      (k.Name ∷ k.Close ∷ [], found (make (record { name = name_token.bytes; at = 0 }) t.at) 0, (is name_token close_token refl refl, omega arith))
      (λ v q. Follows-expect (lo Primary) (High Primary) (t ∷ u ∷ v ∷ []) k.Close (λ _. pure (found (make (record { name = v.bytes; at = v.at }) t.at) 0))
      (k.Close ∷ [], found (make (record { name = v.bytes; at = v.at }) t.at) 0, (is v close_token q refl, omega arith))
      (λ c r. Follows-pure (lo Primary) (High Primary) (t ∷ u ∷ v ∷ c ∷ []) (found (make (record { name = v.bytes; at = v.at }) t.at) 0) (is v c q r, omega arith)))).says us)

  name_says : (t : Lexeme) (ts : List Lexeme) → t.kind ≡ k.Name → Says (lo Primary) (High Primary) [] (t ∷ ts) (read_name t (t ∷ ts))
  unfolding read_name
  name_says t ts is = said-after (lo Primary) (High Primary) [] t ts (by_next (pure (found (e.Name t.at t.bytes) 0)) (λ u. name_by u.kind t) ts)
      ((Follows-by_next (lo Primary) (High Primary) (t ∷ []) (pure (found (e.Name t.at t.bytes) 0)) (λ u. name_by u.kind t)
      (Follows-pure (lo Primary) (High Primary) (t ∷ []) (found (e.Name t.at t.bytes) 0) plain) (λ u us. by_kind u us u.kind refl)).says ts)
    where
      plain : Low Primary (suc m) (t ∷ []) (found (e.Name t.at t.bytes) 0)
      plain = (g.name t is, omega arith)

      label_or_name : (u : Lexeme) (us : List Lexeme) → u.kind ≡ k.Open → (b : Bool) → is_label t ≡ b
          → Says (Low Primary (suc m)) (High Primary) (t ∷ []) (u ∷ us) (chosen b (read_call t e.Label) (pure (found (e.Name t.at t.bytes) 0)) (u ∷ us))
      label_or_name u us o true l = call_says e.Label t u us (λ v c q r. g.label t u v c is l o q r)
      label_or_name u us o false l = said-pure (Low Primary (suc m)) (High Primary) (t ∷ []) (u ∷ us) (found (e.Name t.at t.bytes) 0) plain

      id_or_other : (u : Lexeme) (us : List Lexeme) → u.kind ≡ k.Open → (b : Bool) → is_id t ≡ b
          → Says (Low Primary (suc m)) (High Primary) (t ∷ []) (u ∷ us) (chosen b (read_call t e.Id) (chosen (is_label t) (read_call t e.Label) (pure (found (e.Name t.at t.bytes) 0))) (u ∷ us))
      id_or_other u us o true l = call_says e.Id t u us (λ v c q r. g.id t u v c is l o q r)
      id_or_other u us o false l = label_or_name u us o (is_label t) refl

      by_kind : (u : Lexeme) (us : List Lexeme) (kind : Kind) → u.kind ≡ kind → Says (Low Primary (suc m)) (High Primary) (t ∷ []) (u ∷ us) (name_by kind t (u ∷ us))
      by_kind u us k.Dot dot = property_says t u us is dot
      by_kind u us k.Open o = id_or_other u us o (is_id t) refl
      by_kind u us kind x = said-pure (Low Primary (suc m)) (High Primary) (t ∷ []) (u ∷ us) (found (e.Name t.at t.bytes) 0) plain

  in_parentheses : (t u : Lexeme) (a : List Lexeme) (x : Found) → t.kind ≡ k.Open → u.kind ≡ k.Close → High Or a x → High Primary (t ∷ a ++ u ∷ []) (found x.expr (x.height + 1))
  in_parentheses t u a x o c d = up_one Primary x.height (t ∷ a ++ u ∷ []) x.expr (g.parentheses t u a o d c)

  inside_says : (t : Lexeme) (ts : List Lexeme) → t.kind ≡ k.Open → Says (lo Primary) (High Primary) [] (t ∷ ts) (inside m inner (t ∷ ts))
  unfolding inside
  inside_says t ts o =
      said-deeper (lo Primary) (High Primary) [] t ts m 0 (λ _. inner Or >>= λ x. expect k.Close >> pure (found x.expr (x.height + 1)))
      (any_level Primary m)
      (k.Number ∷ k.Close ∷ [], found one_expr 1, g.parentheses t close_token (one ∷ []) o (one_is Or 0) refl)
      (λ lt. Follows-then (Low Or m) (High Or) (lo Primary) (High Primary) (t ∷ []) (inner Or) (λ x. expect k.Close >> pure (found x.expr (x.height + 1))) (inner_follows lt Or) (
        (λ a x d. (k.Close ∷ [], found x.expr (x.height + 1), (in_parentheses t close_token a x o refl d.0, let below = d.1 in omega arith))),
        (λ a x d. (k.Close ∷ [], found x.expr (x.height + 1), in_parentheses t close_token a x o refl d)),
      )
      (λ a x d. Follows-expect (lo Primary) (High Primary) (t ∷ a) k.Close (λ _. pure (found x.expr (x.height + 1)))
      (k.Close ∷ [], found x.expr (x.height + 1), (in_parentheses t close_token a x o refl d.0, let below = d.1 in omega arith))
      (λ u q. Follows-pure (lo Primary) (High Primary) (t ∷ a ++ u ∷ []) (found x.expr (x.height + 1)) (in_parentheses t u a x o q d.0, let below = d.1 in omega arith))))

  primary_says : (t : Lexeme) (ts : List Lexeme) (kind : Kind) → t.kind ≡ kind → Says (lo Primary) (High Primary) [] (t ∷ ts) (primary_by m inner kind t (t ∷ ts))
  primary_says t ts k.Number is = leaf_says t ts (e.Int (pos (value_of t)) t.at) (g.number t is)
  primary_says t ts k.Text is = leaf_says t ts (e.Text (content_of t) t.at) (g.text t is)
  primary_says t ts k.True is = leaf_says t ts (e.Bool true t.at) (g.yes_word t is)
  primary_says t ts k.False is = leaf_says t ts (e.Bool false t.at) (g.no_word t is)
  primary_says t ts k.Date is = date_says t ts is
  primary_says t ts k.Name is = name_says t ts is
  primary_says t ts k.Open is = inside_says t ts is
  primary_says t ts kind is = said-unexpected (lo Primary) (High Primary) [] (t ∷ ts) (any_level Primary m)

  pub read_primary_follows : Follows (lo Primary) (High Primary) [] (read_primary m inner)
  unfolding read_primary
  read_primary_follows = Follows-by_next (lo Primary) (High Primary) [] (refuse unexpected) (λ t. primary_by m inner t.kind t)
      (Follows-unexpected (lo Primary) (High Primary) [] (any_level Primary m)) (λ t ts. primary_says t ts t.kind refl)

  primary_as_sign : (ts : List Lexeme) → Says (lo Sign) (High Sign) [] ts (read_primary m inner ts)
  primary_as_sign ts = said-looser (lo Primary) (High Primary) (lo Sign) (High Sign) (λ a v d. (g.primary d.0, d.1)) (λ a v d. g.primary d) [] ts (read_primary m inner ts) (read_primary_follows.says ts)

  sign_says : (t : Lexeme) (ts : List Lexeme) (kind : Kind) → t.kind ≡ kind → Says (lo Sign) (High Sign) [] (t ∷ ts) (sign_by m inner kind t (t ∷ ts))
  sign_says t ts k.Minus is = marked_says m inner inner_follows Sign Sign (λ x. e.Neg x t.at) t ts (λ h a x d. g.minus t a is d)
  sign_says t ts kind is = primary_as_sign (t ∷ ts)

  pub read_sign_follows : Follows (lo Sign) (High Sign) [] (read_sign m inner)
  unfolding read_sign
  read_sign_follows = Follows-by_next (lo Sign) (High Sign) [] (refuse unexpected) (λ t. sign_by m inner t.kind t)
      (Follows-unexpected (lo Sign) (High Sign) [] (any_level Sign m)) (λ t ts. sign_says t ts t.kind refl)

  -- a level that has all of a tighter one
  looser : (level own : Level) (p : Parser Found) → ((h : ℕ) (ts : List Lexeme) (x : AstExpr) → IsExpr own h ts x → IsExpr level h ts x) → Follows (lo own) (High own) [] p → Follows (lo level) (High level) [] p
  looser level own p up s = Follows-looser (lo own) (High own) (lo level) (High level) (λ a v d. (up v.height a v.expr d.0, d.1)) (λ a v d. up v.height a v.expr d) [] p s

  -- ---- tests

  null_is : (a : List Lexeme) (i n : Lexeme) (at : ℕ) (left : Found) → High Sum a left → at ≡ place a → i.kind ≡ k.Is → n.kind ≡ k.Null
      → High Test (a ++ i ∷ n ∷ []) (found (e.IsNull left.expr false at) (left.height + 1))
  null_is a i n at left l same p q = moved Test (left.height + 1) (a ++ i ∷ n ∷ []) (λ v. e.IsNull left.expr false v) (place (a ++ i ∷ n ∷ [])) at (place_front l (i ∷ n ∷ []) ∙ sym same)
      (up_one Test left.height (a ++ i ∷ n ∷ []) (e.IsNull left.expr false (place (a ++ i ∷ n ∷ []))) (g.is_null a i n l p q))

  not_null_is : (a : List Lexeme) (i non n : Lexeme) (at : ℕ) (left : Found) → High Sum a left → at ≡ place a → i.kind ≡ k.Is → non.kind ≡ k.Not → n.kind ≡ k.Null
      → High Test (a ++ i ∷ non ∷ n ∷ []) (found (e.IsNull left.expr true at) (left.height + 1))
  not_null_is a i non n at left l same p r q = moved Test (left.height + 1) (a ++ i ∷ non ∷ n ∷ []) (λ v. e.IsNull left.expr true v) (place (a ++ i ∷ non ∷ n ∷ [])) at (place_front l (i ∷ non ∷ n ∷ []) ∙ sym same)
      (up_one Test left.height (a ++ i ∷ non ∷ n ∷ []) (e.IsNull left.expr true (place (a ++ i ∷ non ∷ n ∷ []))) (g.is_not_null a i non n l p r q))

  module _ (a : List Lexeme) (at : ℕ) (left : Found) (l : Low Sum (suc m) a left) (same : at ≡ place a) where
    as_test : Low Test (suc m) a left
    as_test = (g.sum l.0, l.1)

    null_says : (i : Lexeme) (is : List Lexeme) → i.kind ≡ k.Is → Says (Low Test (suc m)) (High Test) a (i ∷ is) (read_null m inner at left (i ∷ is))
    unfolding read_null
    null_says i is p =
        said-deeper (Low Test (suc m)) (High Test) a i is m left.height (λ _. by_next (refuse unexpected) (λ t. null_by t.kind at left))
        (ends_with (Low Test (suc m)) (High Test) a left as_test)
        (k.Null ∷ [], found (e.IsNull left.expr false at) (left.height + 1), rw (append_assoc a (i ∷ []) (null_token ∷ [])) (null_is a i null_token at left l.0 same p refl))
        (λ lt. Follows-by_next (Low Test (suc m)) (High Test) (a ++ i ∷ []) (refuse unexpected) (λ t. null_by t.kind at left)
        (Follows-unexpected (Low Test (suc m)) (High Test) (a ++ i ∷ []) (can_null lt)) (λ t ts. by_kind lt t ts t.kind refl))
      where
        with_null : left.height < m → (n : Lexeme) → n.kind ≡ k.Null → Low Test (suc m) ((a ++ i ∷ []) ++ n ∷ []) (found (e.IsNull left.expr false at) (left.height + 1))
        with_null lt n q = (rw (append_assoc a (i ∷ []) (n ∷ [])) (null_is a i n at left l.0 same p q), omega arith)

        can_null : left.height < m → CanEnd (Low Test (suc m)) (a ++ i ∷ [])
        can_null lt = (k.Null ∷ [], found (e.IsNull left.expr false at) (left.height + 1), with_null lt null_token refl)

        with_not : left.height < m → (non n : Lexeme) → non.kind ≡ k.Not → n.kind ≡ k.Null → Low Test (suc m) (((a ++ i ∷ []) ++ non ∷ []) ++ n ∷ []) (found (e.IsNull left.expr true at) (left.height + 1))
        with_not lt non n r q = (simp append_assoc (not_null_is a i non n at left l.0 same p r q), omega arith)

        by_kind : left.height < m → (t : Lexeme) (ts : List Lexeme) (kind : Kind) → t.kind ≡ kind → Says (Low Test (suc m)) (High Test) (a ++ i ∷ []) (t ∷ ts) (null_by kind at left (t ∷ ts))
        by_kind lt t ts k.Not r = said-after (Low Test (suc m)) (High Test) (a ++ i ∷ []) t ts ((expect k.Null >> pure (found (e.IsNull left.expr true at) (left.height + 1))) ts)
            ((Follows-expect (Low Test (suc m)) (High Test) ((a ++ i ∷ []) ++ t ∷ []) k.Null (λ _. pure (found (e.IsNull left.expr true at) (left.height + 1)))
            (k.Null ∷ [], found (e.IsNull left.expr true at) (left.height + 1), with_not lt t null_token r refl)
            (λ n q. Follows-pure (Low Test (suc m)) (High Test) (((a ++ i ∷ []) ++ t ∷ []) ++ n ∷ []) (found (e.IsNull left.expr true at) (left.height + 1)) (with_not lt t n r q))).says ts)
        by_kind lt t ts kind r = (Follows-expect (Low Test (suc m)) (High Test) (a ++ i ∷ []) k.Null (λ _. pure (found (e.IsNull left.expr false at) (left.height + 1)))
            (can_null lt)
            (λ n q. Follows-pure (Low Test (suc m)) (High Test) ((a ++ i ∷ []) ++ n ∷ []) (found (e.IsNull left.expr false at) (left.height + 1)) (with_null lt n q))).says (t ∷ ts)

    compared_says : (t : Lexeme) (ts : List Lexeme) (op : Op) → comparison t.kind ≡ Some op → Says (Low Test (suc m)) (High Test) a (t ∷ ts) (compared m inner at left op (t ∷ ts))
    unfolding compared
    compared_says t ts op c =
        said-deeper (Low Test (suc m)) (High Test) a t ts m left.height (λ _. inner Sum >>= λ right. pure (joined m inner op at left right))
        (ends_with (Low Test (suc m)) (High Test) a left as_test)
        (k.Number ∷ [], joined m inner op at left found_one, both (one ∷ []) found_one (one_is Sum 0))
        (λ lt. Follows-then (Low Sum m) (High Sum) (Low Test (suc m)) (High Test) (a ++ t ∷ []) (inner Sum) (λ right. pure (joined m inner op at left right)) (inner_follows (omega arith) Sum) (
          (λ b right r. ends_with (Low Test (suc m)) (High Test) ((a ++ t ∷ []) ++ b) (joined m inner op at left right) (both b right r.0, let below = r.1 in omega arith)),
          (λ b right r. ends_with (High Test) (High Test) ((a ++ t ∷ []) ++ b) (joined m inner op at left right) (both b right r)),
        )
        (λ b right r. Follows-pure (Low Test (suc m)) (High Test) ((a ++ t ∷ []) ++ b) (joined m inner op at left right) (both b right r.0, let below = r.1 in omega arith)))
      where
        both : (b : List Lexeme) (right : Found) → High Sum b right → High Test ((a ++ t ∷ []) ++ b) (joined m inner op at left right)
        both b right r = rw (append_assoc a (t ∷ []) b) (compared_is m inner a b t op at left right l.0 c r same)

    test_by_says : (t : Lexeme) (ts : List Lexeme) (kind : Kind) → t.kind ≡ kind → Says (Low Test (suc m)) (High Test) a (t ∷ ts) (test_by m inner kind at left (t ∷ ts))
    test_by_says t ts k.Is p = null_says t ts p
    test_by_says t ts k.Equal p = compared_says t ts op.Equal (ap comparison p)
    test_by_says t ts k.Unequal p = compared_says t ts op.Unequal (ap comparison p)
    test_by_says t ts k.Less p = compared_says t ts op.Less (ap comparison p)
    test_by_says t ts k.LessEqual p = compared_says t ts op.LessEqual (ap comparison p)
    test_by_says t ts k.Greater p = compared_says t ts op.Greater (ap comparison p)
    test_by_says t ts k.GreaterEqual p = compared_says t ts op.GreaterEqual (ap comparison p)
    test_by_says t ts kind p = said-pure (Low Test (suc m)) (High Test) a (t ∷ ts) left as_test

    test_goes_on : Follows (Low Test (suc m)) (High Test) a (by_next (pure left) (λ t. test_by m inner t.kind at left))
    test_goes_on = Follows-by_next (Low Test (suc m)) (High Test) a (pure left) (λ t. test_by m inner t.kind at left)
        (Follows-pure (Low Test (suc m)) (High Test) a left as_test) (λ t ts. test_by_says t ts t.kind refl)

  test_follows : (operand : Parser Found) → Follows (lo Sum) (High Sum) [] operand → Follows (lo Test) (High Test) [] (read_test m inner operand)
  unfolding read_test
  test_follows operand s = record {
    says = λ ts.
        and_then_says (lo Sum) (High Sum) (lo Test) (High Test) [] ts (λ left. by_next (pure left) (λ t. test_by m inner t.kind (place ts) left)) (operand ts) (s.says ts)
        ((λ a x d. ends_with (lo Test) (High Test) a x (g.sum d.0, d.1)), (λ a x d. ends_with (High Test) (High Test) a x (g.sum d)))
        (λ a rest x same d. test_goes_on a (place ts) x d (ap place same ∙ place_front d.0 rest));
  }

  not_follows : (operand : Parser Found) → Follows (lo Test) (High Test) [] operand → Follows (lo Not) (High Not) [] (read_not m inner operand)
  unfolding read_not
  not_follows operand s = Follows-by_next (lo Not) (High Not) [] (refuse unexpected) (λ t. not_by m inner operand t.kind t)
      (Follows-unexpected (lo Not) (High Not) [] (any_level Not m)) (λ t ts. by_kind t ts t.kind refl)
    where
      by_kind : (t : Lexeme) (ts : List Lexeme) (kind : Kind) → t.kind ≡ kind → Says (Low Not (suc m)) (High Not) [] (t ∷ ts) (not_by m inner operand kind t (t ∷ ts))
      by_kind t ts k.Not is = marked_says m inner inner_follows Not Not (λ x. e.Not x t.at) t ts (λ h a x d. g.not t a is d)
      by_kind t ts kind is = (looser Not Test operand (λ h ts x d. g.test d) s).says (t ∷ ts)

  product_follows : Follows (lo Product) (High Product) [] (chained m inner Product (read_sign m inner))
  product_follows = chained_follows m inner inner_follows Product (read_sign m inner) (looser Product Sign (read_sign m inner) (λ h ts x d. g.sign d) read_sign_follows)

  sum_follows : Follows (lo Sum) (High Sum) [] (chained m inner Sum (chained m inner Product (read_sign m inner)))
  sum_follows = chained_follows m inner inner_follows Sum _ (looser Sum Product _ (λ h ts x d. g.product d) product_follows)

  and_follows : Follows (lo And) (High And) [] (chained m inner And (read_not m inner (read_test m inner (chained m inner Sum (chained m inner Product (read_sign m inner))))))
  and_follows = chained_follows m inner inner_follows And _ (looser And Not _ (λ h ts x d. g.negation d) (not_follows _ (test_follows _ sum_follows)))

  level_follows : (level : Level) → Follows (lo level) (High level) [] (read_level m inner level)
  unfolding read_level
  level_follows Primary = read_primary_follows
  level_follows Sign = read_sign_follows
  level_follows Product = product_follows
  level_follows Sum = sum_follows
  level_follows Test = test_follows _ sum_follows
  level_follows Not = not_follows _ (test_follows _ sum_follows)
  level_follows And = and_follows
  level_follows Or = chained_follows m inner inner_follows Or _ (looser Or And _ (λ h ts x d. g.conjunction d) and_follows)

pub expr_follows : (m : ℕ) (level : Level) → Follows (Low level (suc m)) (High level) [] (read_expr m level)
unfolding nested
expr_follows zero level = level_follows zero (λ l. refuse deep) (λ lt l. absurd (omega arith)) level
expr_follows (suc m) level = level_follows (suc m) (read_expr m) (λ lt l. expr_follows m l) level
