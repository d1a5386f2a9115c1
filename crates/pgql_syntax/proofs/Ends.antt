-- Reading follows the grammar.
use Rattle.std.proofs.Common.{◌≡◌, ℕ, zero, suc, ◌+◌, max, ◌≤◌, ◌<◌, List, [], ◌∷◌, ◌++◌, Option, Some, None, refl, sym, ap, ◌∙◌, subst, append_assoc, add-one, arith}
use Rattle.std.specs.Prelude.{pos}
use Rattle.pgql_lexemes.specs.declared.kind.Kind.TheVariants as k
use Rattle.pgql_tree.specs.declared.ast.Op.{Op}
use Rattle.pgql_tree.specs.declared.ast.AstExpr.{AstExpr}
use Rattle.pgql_tree.specs.declared.ast.AstExpr.TheVariants as e
use Rattle.pgql_tree.specs.declared.level.Level.{Level}
use Rattle.pgql_expr.specs.declared.found.Found.{Found}
use Rattle.pgql_tree.specs.declared.level.Level.TheVariants.{Or, And, Not, Test, Sum, Product, Sign, Primary}
use Rattle.pgql_lexemes.specs.Lexemes.{Lexeme, value_of, place}
use Rattle.pgql_syntax.specs.Grammar.{IsExpr}
use Rattle.pgql_lexemes.specs.Operators.{operator, comparison}
use Rattle.pgql_tree.specs.Levels.{tighter}
use Rattle.pgql_syntax.specs.Grammar as g
use Rattle.pgql_expr.specs.Reading.{deep, Parser, found, ◌>>=◌, ◌>>◌, pure, refuse, take_token, deeper, marked, joined, goes_by, more, chained}
use Rattle.pgql_syntax.proofs.Samples.{sample}
use Rattle.pgql_syntax.proofs.Follows.{CanEnd, Says, Follows, ends_with, Follows-pure, said-pure, said-deep, and_then_says, Follows-then, Follows-by_next, said-deeper}

-- a bound may be greater
pub higher : {level : Level} {h : ℕ} (h' : ℕ) {ts : List Lexeme} {x : AstExpr} → IsExpr level h ts x → h ≤ h' → IsExpr level h' ts x
higher h' (g.conjunction d) le = g.conjunction (higher h' d le)
higher h' (g.negation d) le = g.negation (higher h' d le)
higher h' (g.test d) le = g.test (higher h' d le)
higher h' (g.sum d) le = g.sum (higher h' d le)
higher h' (g.product d) le = g.product (higher h' d le)
higher h' (g.sign d) le = g.sign (higher h' d le)
higher h' (g.primary d) le = g.primary (higher h' d le)
higher zero (g.chain a b t op l o r) le = absurd (omega arith)
higher (suc h') (g.chain a b t op l o r) le = g.chain a b t op (higher h' l (omega arith)) o (higher h' r (omega arith))
higher zero (g.not t ts k d) le = absurd (omega arith)
higher (suc h') (g.not t ts k d) le = g.not t ts k (higher h' d (omega arith))
higher zero (g.comparing a b t op l o r) le = absurd (omega arith)
higher (suc h') (g.comparing a b t op l o r) le = g.comparing a b t op (higher h' l (omega arith)) o (higher h' r (omega arith))
higher zero (g.is_null a i n d p q) le = absurd (omega arith)
higher (suc h') (g.is_null a i n d p q) le = g.is_null a i n (higher h' d (omega arith)) p q
higher zero (g.is_not_null a i non n d p q r) le = absurd (omega arith)
higher (suc h') (g.is_not_null a i non n d p q r) le = g.is_not_null a i non n (higher h' d (omega arith)) p q r
higher zero (g.minus t ts k d) le = absurd (omega arith)
higher (suc h') (g.minus t ts k d) le = g.minus t ts k (higher h' d (omega arith))
higher h' (g.number t k) le = g.number t k
higher h' (g.text t k) le = g.text t k
higher h' (g.yes_word t k) le = g.yes_word t k
higher h' (g.no_word t k) le = g.no_word t k
higher h' (g.date d t k l) le = g.date d t k l
higher h' (g.name t k) le = g.name t k
higher h' (g.property t d p k l m) le = g.property t d p k l m
higher h' (g.id f o v c k l m n q) le = g.id f o v c k l m n q
higher h' (g.label f o v c k l m n q) le = g.label f o v c k l m n q
higher zero (g.parentheses o c ts p d q) le = absurd (omega arith)
higher (suc h') (g.parentheses o c ts p d q) le = g.parentheses o c ts p (higher h' d (omega arith)) q

-- an expression has a token
pub place_front : {level : Level} {h : ℕ} {ts : List Lexeme} {x : AstExpr} → IsExpr level h ts x → (r : List Lexeme) → place (ts ++ r) ≡ place ts
place_front (g.conjunction d) r = place_front d r
place_front (g.negation d) r = place_front d r
place_front (g.test d) r = place_front d r
place_front (g.sum d) r = place_front d r
place_front (g.product d) r = place_front d r
place_front (g.sign d) r = place_front d r
place_front (g.primary d) r = place_front d r
place_front (g.chain a b t op x o y) r = rw (append_assoc a (t ∷ b) r) (place_front x (t ∷ b ++ r) ∙ sym (place_front x (t ∷ b)))
place_front (g.not t ts k d) r = refl
place_front (g.comparing a b t op x o y) r = rw (append_assoc a (t ∷ b) r) (place_front x (t ∷ b ++ r) ∙ sym (place_front x (t ∷ b)))
place_front (g.is_null a i n d p q) r = rw (append_assoc a (i ∷ n ∷ []) r) (place_front d (i ∷ n ∷ r) ∙ sym (place_front d (i ∷ n ∷ [])))
place_front (g.is_not_null a i non n d p q s) r = rw (append_assoc a (i ∷ non ∷ n ∷ []) r) (place_front d (i ∷ non ∷ n ∷ r) ∙ sym (place_front d (i ∷ non ∷ n ∷ [])))
place_front (g.minus t ts k d) r = refl
place_front (g.number t k) r = refl
place_front (g.text t k) r = refl
place_front (g.yes_word t k) r = refl
place_front (g.no_word t k) r = refl
place_front (g.date d t k l) r = refl
place_front (g.name t k) r = refl
place_front (g.property t d p k l m) r = refl
place_front (g.id f o v c k l m n q) r = refl
place_front (g.label f o v c k l m n q) r = refl
place_front (g.parentheses o c ts p d q) r = refl

-- ---- what ends a front

abbrev pub one : Lexeme
one = sample k.Number

abbrev pub one_expr : AstExpr
one_expr = e.Int (pos (value_of one)) 0

abbrev pub found_one : Found
found_one = found one_expr 0

pub one_is : (level : Level) (h : ℕ) → IsExpr level h (one ∷ []) one_expr
one_is Primary h = g.number one refl
one_is Sign h = g.primary (g.number one refl)
one_is Product h = g.sign (g.primary (g.number one refl))
one_is Sum h = g.product (g.sign (g.primary (g.number one refl)))
one_is Test h = g.sum (g.product (g.sign (g.primary (g.number one refl))))
one_is Not h = g.test (g.sum (g.product (g.sign (g.primary (g.number one refl)))))
one_is And h = g.negation (g.test (g.sum (g.product (g.sign (g.primary (g.number one refl))))))
one_is Or h = g.conjunction (g.negation (g.test (g.sum (g.product (g.sign (g.primary (g.number one refl)))))))

abbrev pub Low : Level → ℕ → List Lexeme → Found → Type 0
Low level bound ts x = IsExpr level x.height ts x.expr × (x.height < bound)

abbrev pub High : Level → List Lexeme → Found → Type 0
High level ts x = IsExpr level x.height ts x.expr

pub any_level : (level : Level) (bound : ℕ) → CanEnd (Low level (suc bound)) []
any_level level bound = (k.Number ∷ [], found_one, (one_is level 0, omega arith))

-- a place that was noted before is that of the expression
pub moved : (level : Level) (h : ℕ) (ts : List Lexeme) (make : ℕ → AstExpr) (p at : ℕ) → p ≡ at → IsExpr level h ts (make p) → IsExpr level h ts (make at)
moved level h ts make p at same d = let P : ℕ → Type 0 = λ v. IsExpr level h ts (make v) in subst P same d

pub up_one : (level : Level) (h : ℕ) (ts : List Lexeme) (x : AstExpr) → IsExpr level (suc h) ts x → IsExpr level (h + 1) ts x
up_one level h ts x d = rw (add-one h) d

-- the two sides of an operator are one expression
joined_is : (m : ℕ) (inner : Level → Parser Found) (level : Level) (a b : List Lexeme) (t : Lexeme) (op : Op) (at : ℕ) (left right : Found)
    → High level a left → operator level t.kind ≡ Some op → High (tighter level) b right → at ≡ place a
    → High level (a ++ t ∷ b) (joined m inner op at left right)
joined_is m inner level a b t op at left right l o r same =
    let h = max left.height right.height in
    let l' : IsExpr level h a left.expr = higher h l (omega arith) in
    let r' : IsExpr (tighter level) h b right.expr = higher h r (omega arith) in
    moved level (h + 1) (a ++ t ∷ b) (λ p. e.Binary op p left.expr right.expr) (place (a ++ t ∷ b)) at (place_front l (t ∷ b) ∙ sym same)
    (up_one level h (a ++ t ∷ b) (e.Binary op (place (a ++ t ∷ b)) left.expr right.expr) (g.chain a b t op l' o r'))

pub compared_is : (m : ℕ) (inner : Level → Parser Found) (a b : List Lexeme) (t : Lexeme) (op : Op) (at : ℕ) (left right : Found)
    → High Sum a left → comparison t.kind ≡ Some op → High Sum b right → at ≡ place a
    → High Test (a ++ t ∷ b) (joined m inner op at left right)
compared_is m inner a b t op at left right l o r same =
    let h = max left.height right.height in
    let l' : IsExpr Sum h a left.expr = higher h l (omega arith) in
    let r' : IsExpr Sum h b right.expr = higher h r (omega arith) in
    moved Test (h + 1) (a ++ t ∷ b) (λ p. e.Binary op p left.expr right.expr) (place (a ++ t ∷ b)) at (place_front l (t ∷ b) ∙ sym same)
    (up_one Test h (a ++ t ∷ b) (e.Binary op (place (a ++ t ∷ b)) left.expr right.expr) (g.comparing a b t op l' o r'))

module _ (m : ℕ) (inner : Level → Parser Found)
    (inner_follows : 0 < m → (level : Level) → Follows (Low level m) (High level) [] (inner level)) where
  more_follows : (level : Level) (at n : ℕ) (before : List Lexeme) (left : Found) → at ≡ place before → Low level (suc m) before left
      → Follows (Low level (suc m)) (High level) before (more m inner level at n left)
  unfolding more
  more_follows level at zero before left x l = Follows-by_next (Low level (suc m)) (High level) before (pure left) (λ t. goes_by m inner left (λ op. refuse deep) (operator level t.kind))
      (Follows-pure (Low level (suc m)) (High level) before left l) (λ t ts. by_op t ts (operator level t.kind) refl)
    where
      by_op : (t : Lexeme) (ts : List Lexeme) (o : Option Op) → operator level t.kind ≡ o
          → Says (Low level (suc m)) (High level) before (t ∷ ts) (goes_by m inner left (λ op. refuse deep) o (t ∷ ts))
      by_op t ts None x' = said-pure (Low level (suc m)) (High level) before (t ∷ ts) left l
      by_op t ts (Some op) x' = said-deep (Low level (suc m)) (High level) before t ts (ends_with (Low level (suc m)) (High level) before left l) (
        k.Number ∷ [],
        joined m inner op at left found_one,
        rw (append_assoc before (t ∷ []) (one ∷ [])) (joined_is m inner level before (one ∷ []) t op at left found_one l.0 x' (one_is (tighter level) 0) x),
      )
  more_follows level at (suc n) before left x l = Follows-by_next (Low level (suc m)) (High level) before (pure left)
      (λ t. goes_by m inner left (λ op. deeper m left.height >> (take_token >> (inner (tighter level) >>= λ right. more m inner level at n (joined m inner op at left right)))) (operator level t.kind))
      (Follows-pure (Low level (suc m)) (High level) before left l) (λ t ts. by_op (λ b y x l. more_follows level at n b y x l) t ts (operator level t.kind) refl)
    where
      both : (t : Lexeme) (op : Op) (b : List Lexeme) (right : Found) → operator level t.kind ≡ Some op → High (tighter level) b right
          → High level ((before ++ t ∷ []) ++ b) (joined m inner op at left right)
      both t op b right x' r = rw (append_assoc before (t ∷ []) b) (joined_is m inner level before b t op at left right l.0 x' r x)

      both_low : (t : Lexeme) (op : Op) (b : List Lexeme) (right : Found) → operator level t.kind ≡ Some op → left.height < m → Low (tighter level) m b right
          → Low level (suc m) ((before ++ t ∷ []) ++ b) (joined m inner op at left right)
      both_low t op b right x' lt r = (both t op b right x' r.0, let below = r.1 in omega arith)

      by_op : ((b : List Lexeme) (y : Found) → at ≡ place b → Low level (suc m) b y → Follows (Low level (suc m)) (High level) b (more m inner level at n y)) → (t : Lexeme) (ts : List Lexeme) (o : Option Op) → operator level t.kind ≡ o
          → Says (Low level (suc m)) (High level) before (t ∷ ts)
          (goes_by m inner left (λ op. deeper m left.height >> (take_token >> (inner (tighter level) >>= λ right. more m inner level at n (joined m inner op at left right)))) o (t ∷ ts))
      by_op go t ts None x' = said-pure (Low level (suc m)) (High level) before (t ∷ ts) left l
      by_op go t ts (Some op) x' = said-deeper (Low level (suc m)) (High level) before t ts m left.height _ (ends_with (Low level (suc m)) (High level) before left l)
          (k.Number ∷ [], joined m inner op at left found_one, both t op (one ∷ []) found_one x' (one_is (tighter level) 0))
          (λ lt. Follows-then (Low (tighter level) m) (High (tighter level)) (Low level (suc m)) (High level) (before ++ t ∷ []) _ _ (inner_follows (omega arith) (tighter level)) (
            (λ b right r. ends_with (Low level (suc m)) (High level) ((before ++ t ∷ []) ++ b) (joined m inner op at left right) (both_low t op b right x' lt r)),
            (λ b right r. ends_with (High level) (High level) ((before ++ t ∷ []) ++ b) (joined m inner op at left right) (both t op b right x' r)),
          )
          (λ b right r. go ((before ++ t ∷ []) ++ b) (joined m inner op at left right)
          (rw (append_assoc before (t ∷ []) b) (x ∙ sym (place_front l.0 (t ∷ b)))) (both_low t op b right x' lt r)))

  pub chained_follows : (level : Level) (operand : Parser Found) → Follows (Low level (suc m)) (High level) [] operand → Follows (Low level (suc m)) (High level) [] (chained m inner level operand)
  unfolding chained
  chained_follows level operand s = record {
    says = λ ts.
        and_then_says (Low level (suc m)) (High level) (Low level (suc m)) (High level) [] ts (more m inner level (place ts) m) (operand ts) (s.says ts)
        ((λ a x d. ends_with (Low level (suc m)) (High level) a x d), (λ a x d. ends_with (High level) (High level) a x d))
        (λ a rest x same d. more_follows level (place ts) m a x (ap place same ∙ place_front d.0 rest) d);
  }

  -- a mark before an expression: NOT and the sign
  pub marked_says : (level inside_level : Level) (make : AstExpr → AstExpr) (t : Lexeme) (ts : List Lexeme)
      → ((h : ℕ) (a : List Lexeme) (x : AstExpr) → IsExpr inside_level h a x → IsExpr level (suc h) (t ∷ a) (make x))
      → Says (Low level (suc m)) (High level) [] (t ∷ ts) (marked m inner inside_level make (t ∷ ts))
  unfolding marked
  marked_says level inside_level make t ts is =
      said-deeper (Low level (suc m)) (High level) [] t ts m 0 (λ _. inner inside_level >>= λ x. pure (found (make x.expr) (x.height + 1)))
      (any_level level m)
      (k.Number ∷ [], found (make one_expr) 1, is 0 (one ∷ []) one_expr (one_is inside_level 0))
      (λ lt. Follows-then (Low inside_level m) (High inside_level) (Low level (suc m)) (High level) (t ∷ []) (inner inside_level) (λ x. pure (found (make x.expr) (x.height + 1))) (inner_follows lt inside_level) (
        (λ a x d. ends_with (Low level (suc m)) (High level) (t ∷ a) (found (make x.expr) (x.height + 1)) (up_one level x.height (t ∷ a) (make x.expr) (is x.height a x.expr d.0), let below = d.1 in omega arith)),
        (λ a x d. ends_with (High level) (High level) (t ∷ a) (found (make x.expr) (x.height + 1)) (up_one level x.height (t ∷ a) (make x.expr) (is x.height a x.expr d))),
      )
      (λ a x d. Follows-pure (Low level (suc m)) (High level) (t ∷ a) (found (make x.expr) (x.height + 1)) (up_one level x.height (t ∷ a) (make x.expr) (is x.height a x.expr d.0), let below = d.1 in omega arith)))
