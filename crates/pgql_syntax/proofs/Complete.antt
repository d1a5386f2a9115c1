-- What is of the grammar is read, up to the first token that does not go on with it.
use Rattle.std.proofs.Common.{◌≡◌, ℕ, zero, suc, ◌+◌, max, ◌≤◌, ◌<◌, Bool, true, false, List, [], ◌∷◌, ◌++◌, Some, None, Ok, refl, sym, ap, ◌∙◌, subst, append_assoc, arith}
use Rattle.std.specs.Prelude.{nat_lt, nat_eq, ◌&&◌}
use Rattle.std.proofs.lemmas.Bool.{eqb-true}
use Rattle.std.proofs.lemmas.Bool.Decides.{nat_tests}
use Rattle.pgql_lexemes.specs.declared.kind.Kind.{Kind}
use Rattle.pgql_lexemes.specs.declared.kind.Kind.TheVariants as k
use Rattle.pgql_tree.specs.declared.ast.Op.{Op}
use Rattle.pgql_tree.specs.declared.ast.Op.TheVariants as op
use Rattle.pgql_tree.specs.declared.ast.Placed.{Placed}
use Rattle.pgql_tree.specs.declared.ast.AstExpr.{AstExpr}
use Rattle.pgql_tree.specs.declared.ast.AstExpr.TheVariants as e
use Rattle.pgql_tree.specs.declared.level.Level.{Level}
use Rattle.pgql_expr.specs.declared.found.Found.{Found}
use Rattle.pgql_tree.specs.declared.level.Level.TheVariants.{Or, And, Not, Test, Sum, Product, Sign, Primary}
use Rattle.pgql_lexemes.specs.Lexemes.{Lexeme, is_word, content_of, is_id, is_label, place}
use Rattle.pgql_syntax.specs.Grammar.{IsExpr}
use Rattle.pgql_lexemes.specs.Operators.{operator, comparison}
use Rattle.pgql_tree.specs.Levels.{tighter}
use Rattle.pgql_syntax.specs.Grammar as g
use Rattle.pgql_expr.specs.Reading.{unexpected, Outcome, Parser, found, chosen, and_then, ◌>>=◌, ◌>>◌, pure, refuse, by_next, take_token, expect_by, expect, expect_word}
use Rattle.pgql_expr.specs.Reading.{deeper, same_kind, inside, primary_by, read_primary, read_property, read_call, name_by, read_name, read_date, marked, sign_by}
use Rattle.pgql_expr.specs.Reading.{read_sign, joined, more, chained, null_by, read_null, compared, test_by, read_test, not_by, read_not, read_level, nested, read_expr}
use Rattle.pgql_syntax.proofs.Ends.{place_front}
use Rattle.pgql_lexemes.proofs.SameKind.{same_itself}

-- how tightly a token binds an expression before it
abbrev pub binds : Kind → ℕ
binds k.Or = 1
binds k.And = 2
binds k.Equal = 4
binds k.Unequal = 4
binds k.Less = 4
binds k.LessEqual = 4
binds k.Greater = 4
binds k.GreaterEqual = 4
binds k.Is = 4
binds k.Plus = 5
binds k.Minus = 5
binds k.Star = 6
binds k.Slash = 6
binds k.Percent = 6
binds k.Dot = 8
binds k.Open = 8
binds kind = 0

abbrev pub rank : Level → ℕ
rank Or = 1
rank And = 2
rank Not = 3
rank Test = 4
rank Sum = 5
rank Product = 6
rank Sign = 7
rank Primary = 8

-- an expression of the level does not go on with the token
abbrev pub stops : Level → Kind → Bool
stops level kind = nat_lt (binds kind) (rank level)

abbrev pub Stops : Level → List Lexeme → Type 0
Stops level [] = Unit {0}
Stops level (t ∷ ts) = stops level t.kind ≡ true

lt_up : (b r r' : ℕ) → r ≤ r' → nat_lt b r ≡ true → nat_lt b r' ≡ true
lt_up b r r' le x = grind (arith, nat_tests)

Stops-up : (level level' : Level) → rank level ≤ rank level' → (rest : List Lexeme) → Stops level rest → Stops level' rest
Stops-up level level' le [] s = tt
Stops-up level level' le (t ∷ ts) s = lt_up (binds t.kind) (rank level) (rank level') le s

no_operator : (level : Level) (kind : Kind) → stops level kind ≡ true → operator level kind ≡ None
no_operator Or k.Or s = cc
no_operator Or kind s = refl
no_operator And k.And s = cc
no_operator And kind s = refl
no_operator Sum k.Plus s = cc
no_operator Sum k.Minus s = cc
no_operator Sum kind s = refl
no_operator Product k.Star s = cc
no_operator Product k.Slash s = cc
no_operator Product k.Percent s = cc
no_operator Product kind s = refl
no_operator level kind s = refl

operator_stops : (level : Level) (kind : Kind) (o : Op) → operator level kind ≡ Some o → stops (tighter level) kind ≡ true
operator_stops Or k.Or o x = refl
operator_stops And k.And o x = refl
operator_stops Sum k.Plus o x = refl
operator_stops Sum k.Minus o x = refl
operator_stops Product k.Star o x = refl
operator_stops Product k.Slash o x = refl
operator_stops Product k.Percent o x = refl
operator_stops level kind o x = absurd cc

comparison_stops : (kind : Kind) (o : Op) → comparison kind ≡ Some o → stops Sum kind ≡ true
comparison_stops k.Equal o x = refl
comparison_stops k.Unequal o x = refl
comparison_stops k.Less o x = refl
comparison_stops k.LessEqual o x = refl
comparison_stops k.Greater o x = refl
comparison_stops k.GreaterEqual o x = refl
comparison_stops kind o x = absurd cc

or_is : (m : ℕ) (ts : List Lexeme) → read_expr m Or ts ≡ and_then (read_expr m And ts) (more m (nested m) Or (place ts) m)
unfolding nested read_level chained
or_is m ts = refl

and_is : (m : ℕ) (ts : List Lexeme) → read_expr m And ts ≡ and_then (read_expr m Not ts) (more m (nested m) And (place ts) m)
unfolding nested read_level chained
and_is m ts = refl

sum_is : (m : ℕ) (ts : List Lexeme) → read_expr m Sum ts ≡ and_then (read_expr m Product ts) (more m (nested m) Sum (place ts) m)
unfolding nested read_level chained
sum_is m ts = refl

product_is : (m : ℕ) (ts : List Lexeme) → read_expr m Product ts ≡ and_then (read_expr m Sign ts) (more m (nested m) Product (place ts) m)
unfolding nested read_level chained
product_is m ts = refl

test_is : (m : ℕ) (ts : List Lexeme) → read_expr m Test ts ≡ and_then (read_expr m Sum ts) (λ left. by_next (pure left) (λ t. test_by m (nested m) t.kind (place ts) left))
unfolding nested read_level read_test
test_is m ts = refl

not_is : (m : ℕ) (ts : List Lexeme) → read_expr m Not ts ≡ by_next (refuse unexpected) (λ t. not_by m (nested m) (read_expr m Test) t.kind t) ts
unfolding nested read_level read_not
not_is m ts = refl

sign_is : (m : ℕ) (ts : List Lexeme) → read_expr m Sign ts ≡ by_next (refuse unexpected) (λ t. sign_by m (nested m) t.kind t) ts
unfolding nested read_level read_sign
sign_is m ts = refl

primary_is : (m : ℕ) (ts : List Lexeme) → read_expr m Primary ts ≡ by_next (refuse unexpected) (λ t. primary_by m (nested m) t.kind t) ts
unfolding nested read_level read_primary
primary_is m ts = refl

sign_else : (m : ℕ) (ts : List Lexeme) (t : Lexeme) → ((p : Parser Found) → sign_by m (nested m) t.kind t (t ∷ ts) ≡ read_primary m (nested m) (t ∷ ts)) → read_expr m Sign (t ∷ ts) ≡ read_expr m Primary (t ∷ ts)
unfolding nested read_level read_sign
sign_else m ts t x = x (refuse unexpected)

-- a chain is about to go on
abbrev Going : Level → ℕ → List Lexeme → AstExpr → ℕ → List Lexeme → Type 0
Going level m ts x j rest = (h : ℕ) × (n : ℕ) × (h ≤ j) × (m ≤ h + n) × (read_expr m level (ts ++ rest) ≡ more m (nested m) level (place (ts ++ rest)) n (found x h) rest)

abbrev pub Read : Level → ℕ → List Lexeme → AstExpr → ℕ → List Lexeme → Type 0
Read level m ts x j rest = (h : ℕ) × (h ≤ j) × (read_expr m level (ts ++ rest) ≡ Ok (found x h, rest))

abbrev Reached : Level → ℕ → List Lexeme → AstExpr → ℕ → List Lexeme → Type 0
Reached Or m ts x j rest = Going Or m ts x j rest
Reached And m ts x j rest = Going And m ts x j rest
Reached Sum m ts x j rest = Going Sum m ts x j rest
Reached Product m ts x j rest = Going Product m ts x j rest
Reached level m ts x j rest = Read level m ts x j rest

abbrev Ready : Level → List Lexeme → Type 0
Ready Or rest = Stops And rest
Ready And rest = Stops Not rest
Ready Sum rest = Stops Product rest
Ready Product rest = Stops Sign rest
Ready level rest = Stops level rest

more_stops : (m : ℕ) (level : Level) (at n : ℕ) (x : Found) (rest : List Lexeme) → Stops level rest → more m (nested m) level at n x rest ≡ Ok (x, rest)
unfolding more
more_stops m level at zero x [] s = refl
more_stops m level at (suc n) x [] s = refl
more_stops m level at zero x (t ∷ ts) s = let none : operator level t.kind ≡ None = no_operator level t.kind s in rw none refl
more_stops m level at (suc n) x (t ∷ ts) s = let none : operator level t.kind ≡ None = no_operator level t.kind s in rw none refl

going_stops : (level : Level) (m : ℕ) (ts : List Lexeme) (x : AstExpr) (j : ℕ) (rest : List Lexeme) → Going level m ts x j rest → Stops level rest → Read level m ts x j rest
going_stops level m ts x j rest w s = (w.0, w.2, w.4 ∙ more_stops m level (place (ts ++ rest)) w.1 (found x w.0) rest s)

finish : (level : Level) (m : ℕ) (ts : List Lexeme) (x : AstExpr) (j : ℕ) (rest : List Lexeme) → Reached level m ts x j rest → Stops level rest → Read level m ts x j rest
finish Or m ts x j rest w s = going_stops Or m ts x j rest w s
finish And m ts x j rest w s = going_stops And m ts x j rest w s
finish Sum m ts x j rest w s = going_stops Sum m ts x j rest w s
finish Product m ts x j rest w s = going_stops Product m ts x j rest w s
finish Not m ts x j rest w s = w
finish Test m ts x j rest w s = w
finish Sign m ts x j rest w s = w
finish Primary m ts x j rest w s = w

ready : (level : Level) (rest : List Lexeme) → Stops level rest → Ready level rest
ready Or rest s = Stops-up Or And (omega arith) rest s
ready And rest s = Stops-up And Not (omega arith) rest s
ready Sum rest s = Stops-up Sum Product (omega arith) rest s
ready Product rest s = Stops-up Product Sign (omega arith) rest s
ready Not rest s = s
ready Test rest s = s
ready Sign rest s = s
ready Primary rest s = s

-- a chain begins with an operand
begins : (level : Level) (m : ℕ) (ts : List Lexeme) (x : AstExpr) (j : ℕ) (rest : List Lexeme) (operand : Level)
    → read_expr m level (ts ++ rest) ≡ and_then (read_expr m operand (ts ++ rest)) (more m (nested m) level (place (ts ++ rest)) m)
    → Read operand m ts x j rest → Going level m ts x j rest
begins level m ts x j rest operand is w = (w.0, m, w.1, omega arith, is ∙ ap (λ o. and_then o (more m (nested m) level (place (ts ++ rest)) m)) w.2)

lt_true : (h m : ℕ) → h < m → nat_lt h m ≡ true
lt_true h m lt = grind (arith, nat_tests)

deeper_goes : (h m : ℕ) (p : Parser Found) (ts : List Lexeme) → h < m → (deeper m h >> p) ts ≡ p ts
unfolding deeper
deeper_goes h m p ts lt = rw (lt_true h m lt) refl

more_goes : (m : ℕ) (level : Level) (at n : ℕ) (x : Found) (t : Lexeme) (r : List Lexeme) (op : Op) (right : Found) (after : List Lexeme)
    → operator level t.kind ≡ Some op → x.height < suc m → read_expr m (tighter level) r ≡ Ok (right, after)
    → more (suc m) (read_expr m) level at (suc n) x (t ∷ r) ≡ more (suc m) (read_expr m) level at n (joined (suc m) (read_expr m) op at x right) after
unfolding more
more_goes m level at n x t r op right after o lt is =
    rw o (deeper_goes x.height (suc m) (take_token >> (read_expr m (tighter level) >>= λ right. more (suc m) (read_expr m) level at n (joined (suc m) (read_expr m) op at x right))) (t ∷ r) lt
    ∙ ap (λ o. and_then o (λ right. more (suc m) (read_expr m) level at n (joined (suc m) (read_expr m) op at x right))) is)

-- one more operand of a chain
joins : (level : Level) (m h j n hr : ℕ) (a b : List Lexeme) (t : Lexeme) (op : Op) (left right : AstExpr) (rest : List Lexeme) (got : Outcome Found)
    → operator level t.kind ≡ Some op → h ≤ j → j ≤ m → suc m ≤ h + n → hr ≤ j → place ((a ++ t ∷ b) ++ rest) ≡ place (a ++ t ∷ b)
    → got ≡ more (suc m) (read_expr m) level (place (a ++ (t ∷ b ++ rest))) n (found left h) (t ∷ b ++ rest)
    → read_expr m (tighter level) (b ++ rest) ≡ Ok (found right hr, rest)
    → (h' : ℕ) × (n' : ℕ) × (h' ≤ suc j) × (suc m ≤ h' + n')
    × (got ≡ more (suc m) (read_expr m) level (place ((a ++ t ∷ b) ++ rest)) n' (found (e.Binary op (place (a ++ t ∷ b)) left right) h') rest)
joins level m h j zero hr a b t op left right rest got o le jm fuel le' p x r = absurd (omega arith)
joins level m h j (suc n) hr a b t op left right rest got o le jm fuel le' p x r = (
  max h hr + 1,
  n,
  omega arith,
  omega arith,
  (let at = place (a ++ (t ∷ b ++ rest)) in
      let same : at ≡ place ((a ++ t ∷ b) ++ rest) = ap place (sym (append_assoc a (t ∷ b) rest)) in
      let goes = more_goes m level at n (found left h) t (b ++ rest) op (found right hr) rest o (omega arith) r in
      let P : ℕ → Type 0 = λ v. more (suc m) (read_expr m) level at n (joined (suc m) (read_expr m) op at (found left h) (found right hr)) rest
      ≡ more (suc m) (read_expr m) level v n (found (e.Binary op (place (a ++ t ∷ b)) left right) (max h hr + 1)) rest in
      let whole : P at = ap (λ v. more (suc m) (read_expr m) level at n (found (e.Binary op v left right) (max h hr + 1)) rest) (same ∙ p) in
      x ∙ goes ∙ subst P same whole),
)

pub expect_goes : {A : Type 0} (kind : Kind) (t : Lexeme) (ts : List Lexeme) (f : Lexeme → Parser A) → t.kind ≡ kind → (expect kind >>= f) (t ∷ ts) ≡ f t ts
unfolding expect
expect_goes kind t ts f x = ap (λ b. and_then (expect_by b (t ∷ ts)) f) (ap (λ x. same_kind x kind) x ∙ same_itself kind)

-- ---- marks before an expression

marked_goes : (m h : ℕ) (level : Level) (make : AstExpr → AstExpr) (t : Lexeme) (x : AstExpr) (ts rest : List Lexeme) → read_expr m level (ts ++ rest) ≡ Ok (found x h, rest)
    → marked (suc m) (read_expr m) level make (t ∷ ts ++ rest) ≡ Ok (found (make x) (h + 1), rest)
unfolding marked
marked_goes m h level make t x ts rest r =
    deeper_goes 0 (suc m) (take_token >> (read_expr m level >>= λ x. pure (found (make x.expr) (x.height + 1)))) (t ∷ ts ++ rest) (omega arith)
    ∙ ap (λ o. and_then o (λ x. pure (found (make x.expr) (x.height + 1)))) r

-- ---- tests

ends_test : (m : ℕ) (kind : Kind) (at : ℕ) (left : Found) (ts : List Lexeme) → stops Test kind ≡ true → test_by m (nested m) kind at left ts ≡ Ok (left, ts)
ends_test m k.Is at left ts s = cc
ends_test m k.Equal at left ts s = cc
ends_test m k.Unequal at left ts s = cc
ends_test m k.Less at left ts s = cc
ends_test m k.LessEqual at left ts s = cc
ends_test m k.Greater at left ts s = cc
ends_test m k.GreaterEqual at left ts s = cc
ends_test m kind at left ts s = refl

test_alone : (m at : ℕ) (left : Found) (rest : List Lexeme) → Stops Test rest → by_next (pure left) (λ t. test_by m (nested m) t.kind at left) rest ≡ Ok (left, rest)
test_alone m at left [] s = refl
test_alone m at left (t ∷ ts) s = ends_test m t.kind at left (t ∷ ts) s

test_compares : (m at : ℕ) (left : Found) (kind : Kind) (o : Op) (ts : List Lexeme) → comparison kind ≡ Some o → test_by m (nested m) kind at left ts ≡ compared m (nested m) at left o ts
test_compares m at left k.Equal op.Equal ts x = refl
test_compares m at left k.Unequal op.Unequal ts x = refl
test_compares m at left k.Less op.Less ts x = refl
test_compares m at left k.LessEqual op.LessEqual ts x = refl
test_compares m at left k.Greater op.Greater ts x = refl
test_compares m at left k.GreaterEqual op.GreaterEqual ts x = refl
test_compares m at left kind o ts x = absurd cc

compared_goes : (m at : ℕ) (left : Found) (op : Op) (right : Found) (t : Lexeme) (r after : List Lexeme) → left.height < suc m → read_expr m Sum r ≡ Ok (right, after)
    → compared (suc m) (read_expr m) at left op (t ∷ r) ≡ Ok (joined (suc m) (read_expr m) op at left right, after)
unfolding compared
compared_goes m at left op right t r after lt is =
    deeper_goes left.height (suc m) (take_token >> (read_expr m Sum >>= λ right. pure (joined (suc m) (read_expr m) op at left right))) (t ∷ r) lt
    ∙ ap (λ o. and_then o (λ right. pure (joined (suc m) (read_expr m) op at left right))) is

null_goes : (m at : ℕ) (left : Found) (i n : Lexeme) (rest : List Lexeme) → left.height < suc m → n.kind ≡ k.Null
    → read_null (suc m) (read_expr m) at left (i ∷ n ∷ rest) ≡ Ok (found (e.IsNull left.expr false at) (left.height + 1), rest)
unfolding read_null
null_goes m at left i n rest lt q =
    deeper_goes left.height (suc m) (take_token >> by_next (refuse unexpected) (λ t. null_by t.kind at left)) (i ∷ n ∷ rest) lt
    ∙ ap (λ kind. null_by kind at left (n ∷ rest)) q
    ∙ expect_goes k.Null n rest (λ _. pure (found (e.IsNull left.expr false at) (left.height + 1))) q

not_null_goes : (m at : ℕ) (left : Found) (i non n : Lexeme) (rest : List Lexeme) → left.height < suc m → non.kind ≡ k.Not → n.kind ≡ k.Null
    → read_null (suc m) (read_expr m) at left (i ∷ non ∷ n ∷ rest) ≡ Ok (found (e.IsNull left.expr true at) (left.height + 1), rest)
unfolding read_null
not_null_goes m at left i non n rest lt r q =
    deeper_goes left.height (suc m) (take_token >> by_next (refuse unexpected) (λ t. null_by t.kind at left)) (i ∷ non ∷ n ∷ rest) lt
    ∙ ap (λ kind. null_by kind at left (non ∷ n ∷ rest)) r
    ∙ expect_goes k.Null n rest (λ _. pure (found (e.IsNull left.expr true at) (left.height + 1))) q

-- ---- what an expression begins with

abbrev starts_ok : Level → Kind → Bool
starts_ok Test k.Not = false
starts_ok Sum k.Not = false
starts_ok Product k.Not = false
starts_ok Sign k.Not = false
starts_ok Primary k.Not = false
starts_ok Primary k.Minus = false
starts_ok level kind = true

abbrev StartsOk : Level → List Lexeme → Type 0
StartsOk level [] = ⊥
StartsOk level (t ∷ ts) = starts_ok level t.kind ≡ true

starts_front : (level : Level) (a r : List Lexeme) → StartsOk level a → StartsOk level (a ++ r)
starts_front level [] r s = absurd s
starts_front level (t ∷ a) r s = s

starts_as : (level : Level) (kind : Kind) (t : Lexeme) (ts : List Lexeme) → t.kind ≡ kind → starts_ok level kind ≡ true → StartsOk level (t ∷ ts)
starts_as level kind t ts p s = ap (starts_ok level) p ∙ s

starts_sign : (kind : Kind) → starts_ok Primary kind ≡ true → starts_ok Sign kind ≡ true
starts_sign k.Not s = cc
starts_sign kind s = refl

starts_primary_sign : (ts : List Lexeme) → StartsOk Primary ts → StartsOk Sign ts
starts_primary_sign [] s = s
starts_primary_sign (t ∷ ts) s = starts_sign t.kind s

starts_any : (ts : List Lexeme) (level : Level) → ((kind : Kind) → starts_ok level kind ≡ true) → 0 < Rattle.std.proofs.Common.length ts → StartsOk level ts
starts_any [] level all some = absurd (omega arith)
starts_any (t ∷ ts) level all some = all t.kind

pub some_token : {level : Level} {h : ℕ} {ts : List Lexeme} {x : AstExpr} → IsExpr level h ts x → 0 < Rattle.std.proofs.Common.length ts
some_token (g.conjunction d) = some_token d
some_token (g.negation d) = some_token d
some_token (g.test d) = some_token d
some_token (g.sum d) = some_token d
some_token (g.product d) = some_token d
some_token (g.sign d) = some_token d
some_token (g.primary d) = some_token d
some_token (g.chain a b t op l o r) = let le = some_token l in omega (arith, Rattle.std.proofs.Common.length-append a (t ∷ b))
some_token (g.not t ts k d) = omega arith
some_token (g.comparing a b t op l o r) = let le = some_token l in omega (arith, Rattle.std.proofs.Common.length-append a (t ∷ b))
some_token (g.is_null a i n d p q) = let le = some_token d in omega (arith, Rattle.std.proofs.Common.length-append a (i ∷ n ∷ []))
some_token (g.is_not_null a i non n d p q r) = let le = some_token d in omega (arith, Rattle.std.proofs.Common.length-append a (i ∷ non ∷ n ∷ []))
some_token (g.minus t ts k d) = omega arith
some_token (g.number t k) = omega arith
some_token (g.text t k) = omega arith
some_token (g.yes_word t k) = omega arith
some_token (g.no_word t k) = omega arith
some_token (g.date d t k l) = omega arith
some_token (g.name t k) = omega arith
some_token (g.property t d p k l m) = omega arith
some_token (g.id f o v c k l m n q) = omega arith
some_token (g.label f o v c k l m n q) = omega arith
some_token (g.parentheses o c ts p d q) = omega arith

starts : {level : Level} {h : ℕ} {ts : List Lexeme} {x : AstExpr} → IsExpr level h ts x → StartsOk level ts
starts (g.conjunction {ts = ts} d) = starts_any ts Or (λ kind. refl) (some_token d)
starts (g.negation {ts = ts} d) = starts_any ts And (λ kind. refl) (some_token d)
starts (g.test {ts = ts} d) = starts_any ts Not (λ kind. refl) (some_token d)
starts (g.sum {ts = []} d) = starts d
starts (g.sum {ts = t ∷ ts} d) = starts d
starts (g.product {ts = []} d) = starts d
starts (g.product {ts = t ∷ ts} d) = starts d
starts (g.sign {ts = []} d) = starts d
starts (g.sign {ts = t ∷ ts} d) = starts d
starts (g.primary {ts = ts} d) = starts_primary_sign ts (starts d)
starts (g.chain {level = level} a b t op l o r) = starts_front level a (t ∷ b) (starts l)
starts (g.not t ts p d) = refl
starts (g.comparing [] b t op l o r) = absurd (starts l)
starts (g.comparing (u ∷ a) b t op l o r) = starts l
starts (g.is_null [] i n d p q) = absurd (starts d)
starts (g.is_null (u ∷ a) i n d p q) = starts d
starts (g.is_not_null [] i non n d p q r) = absurd (starts d)
starts (g.is_not_null (u ∷ a) i non n d p q r) = starts d
starts (g.minus t ts p d) = starts_as Sign k.Minus t ts p refl
starts (g.number t p) = starts_as Primary k.Number t [] p refl
starts (g.text t p) = starts_as Primary k.Text t [] p refl
starts (g.yes_word t p) = starts_as Primary k.True t [] p refl
starts (g.no_word t p) = starts_as Primary k.False t [] p refl
starts (g.date d t p q) = starts_as Primary k.Date d (t ∷ []) p refl
starts (g.name t p) = starts_as Primary k.Name t [] p refl
starts (g.property t d u p q r) = starts_as Primary k.Name t (d ∷ u ∷ []) p refl
starts (g.id f o v c p l m n q) = starts_as Primary k.Name f (o ∷ v ∷ c ∷ []) p refl
starts (g.label f o v c p l m n q) = starts_as Primary k.Name f (o ∷ v ∷ c ∷ []) p refl
starts (g.parentheses o c ts p d q) = starts_as Primary k.Open o (ts ++ c ∷ []) p refl

-- ---- primaries

name_ends : (kind : Kind) (t : Lexeme) (ts : List Lexeme) → stops Primary kind ≡ true → name_by kind t ts ≡ Ok (found (e.Name t.at t.bytes) 0, ts)
name_ends k.Dot t ts s = cc
name_ends k.Open t ts s = cc
name_ends kind t ts s = refl

by_primary : (m : ℕ) (kind : Kind) (t : Lexeme) (ts : List Lexeme) → t.kind ≡ kind → read_expr m Primary (t ∷ ts) ≡ primary_by m (nested m) kind t (t ∷ ts)
by_primary m kind t ts p = primary_is m (t ∷ ts) ∙ ap (λ v. primary_by m (nested m) v t (t ∷ ts)) p

name_alone : (t : Lexeme) (rest : List Lexeme) → Stops Primary rest → read_name t (t ∷ rest) ≡ Ok (found (e.Name t.at t.bytes) 0, rest)
unfolding read_name
name_alone t [] s = refl
name_alone t (u ∷ us) s = name_ends u.kind t (u ∷ us) s

property_goes : (t dot p : Lexeme) (rest : List Lexeme) → dot.kind ≡ k.Dot → is_word p.kind ≡ true → read_name t (t ∷ dot ∷ p ∷ rest) ≡ Ok (found (e.Property t.at t.bytes p.bytes) 0, rest)
unfolding read_name read_property expect_word
property_goes t dot p rest d w = ap (λ v. name_by v t (dot ∷ p ∷ rest)) d ∙ ap (λ b. and_then (expect_by b (p ∷ rest)) (λ p. pure (found (e.Property t.at t.bytes p.bytes) 0))) w

call_goes : (make : Placed → ℕ → AstExpr) (t o v c : Lexeme) (rest : List Lexeme) → v.kind ≡ k.Name → c.kind ≡ k.Close
    → read_call t make (o ∷ v ∷ c ∷ rest) ≡ Ok (found (make (record { name = v.bytes; at = v.at }) t.at) 0, rest)
unfolding read_call
call_goes make t o v c rest p q =
    expect_goes k.Name v (c ∷ rest) (λ v. expect k.Close >> pure (found (make (record { name = v.bytes; at = v.at }) t.at) 0)) p
    ∙ expect_goes k.Close c rest (λ _. pure (found (make (record { name = v.bytes; at = v.at }) t.at) 0)) q

opened : (t o : Lexeme) (ts : List Lexeme) → o.kind ≡ k.Open → read_name t (t ∷ o ∷ ts) ≡ chosen (is_id t) (read_call t e.Id) (chosen (is_label t) (read_call t e.Label) (pure (found (e.Name t.at t.bytes) 0))) (o ∷ ts)
unfolding read_name
opened t o ts p = ap (λ v. name_by v t (o ∷ ts)) p

not_both : (b : Bool) → (b ≡ true → ⊥) → b ≡ false
not_both true f = absurd (f refl)
not_both false f = refl

head_true : (a b : Bool) → a && b ≡ true → a ≡ true
head_true true b x = refl
head_true false b x = x

apart : (x : ℕ) → x ≡ 105 → x ≡ 108 → ⊥
apart x p q = omega arith

label_not_id : (t : Lexeme) → is_label t ≡ true → is_id t ≡ false
label_not_id t l = not_both (is_id t) (λ i. clash (Rattle.std.specs.Str.str_to_ascii_lowercase t.bytes) i l)
  where
    clash : (v : List ℕ) → Rattle.std.specs.Str.bytes_eq v (105 ∷ 100 ∷ []) ≡ true → Rattle.std.specs.Str.bytes_eq v (108 ∷ 97 ∷ 98 ∷ 101 ∷ 108 ∷ []) ≡ true → ⊥
    clash [] i l = cc
    clash (x ∷ v) i l = apart x (eqb-true x 105 (head_true (nat_eq x 105) _ i)) (eqb-true x 108 (head_true (nat_eq x 108) _ l))

id_goes : (t o v c : Lexeme) (rest : List Lexeme) → is_id t ≡ true → o.kind ≡ k.Open → v.kind ≡ k.Name → c.kind ≡ k.Close
    → read_name t (t ∷ o ∷ v ∷ c ∷ rest) ≡ Ok (found (e.Id (record { name = v.bytes; at = v.at }) t.at) 0, rest)
id_goes t o v c rest i p q r = opened t o (v ∷ c ∷ rest) p
    ∙ ap (λ b. chosen b (read_call t e.Id) (chosen (is_label t) (read_call t e.Label) (pure (found (e.Name t.at t.bytes) 0))) (o ∷ v ∷ c ∷ rest)) i
    ∙ call_goes e.Id t o v c rest q r

label_goes : (t o v c : Lexeme) (rest : List Lexeme) → is_label t ≡ true → o.kind ≡ k.Open → v.kind ≡ k.Name → c.kind ≡ k.Close
    → read_name t (t ∷ o ∷ v ∷ c ∷ rest) ≡ Ok (found (e.Label (record { name = v.bytes; at = v.at }) t.at) 0, rest)
label_goes t o v c rest l p q r = opened t o (v ∷ c ∷ rest) p
    ∙ ap (λ b. chosen b (read_call t e.Id) (chosen (is_label t) (read_call t e.Label) (pure (found (e.Name t.at t.bytes) 0))) (o ∷ v ∷ c ∷ rest)) (label_not_id t l)
    ∙ ap (λ b. chosen b (read_call t e.Label) (pure (found (e.Name t.at t.bytes) 0)) (o ∷ v ∷ c ∷ rest)) l
    ∙ call_goes e.Label t o v c rest q r

date_goes : (d t : Lexeme) (rest : List Lexeme) → t.kind ≡ k.Text → read_date d (d ∷ t ∷ rest) ≡ Ok (found (e.Date (content_of t) d.at) 0, rest)
unfolding read_date
date_goes d t rest p = expect_goes k.Text t rest (λ t. pure (found (e.Date (content_of t) d.at) 0)) p

inside_goes : (m h : ℕ) (o c : Lexeme) (x : AstExpr) (ts rest : List Lexeme) → c.kind ≡ k.Close → read_expr m Or (ts ++ c ∷ rest) ≡ Ok (found x h, c ∷ rest)
    → inside (suc m) (read_expr m) (o ∷ ts ++ c ∷ rest) ≡ Ok (found x (h + 1), rest)
unfolding inside
inside_goes m h o c x ts rest q r =
    deeper_goes 0 (suc m) (take_token >> (read_expr m Or >>= λ x. expect k.Close >> pure (found x.expr (x.height + 1)))) (o ∷ ts ++ c ∷ rest) (omega arith)
    ∙ ap (λ o. and_then o (λ x. expect k.Close >> pure (found x.expr (x.height + 1)))) r
    ∙ expect_goes k.Close c rest (λ _. pure (found x (h + 1))) q

not_else : (m : ℕ) (ts rest : List Lexeme) → StartsOk Test ts → read_expr m Not (ts ++ rest) ≡ read_expr m Test (ts ++ rest)
not_else m [] rest s = absurd s
not_else m (t ∷ ts) rest s = not_is m (t ∷ ts ++ rest) ∙ by_kind t.kind s
  where
    by_kind : (kind : Kind) → starts_ok Test kind ≡ true → not_by m (nested m) (read_expr m Test) kind t (t ∷ ts ++ rest) ≡ read_expr m Test (t ∷ ts ++ rest)
    by_kind k.Not s = cc
    by_kind kind s = refl

sign_as_primary : (m : ℕ) (ts rest : List Lexeme) → StartsOk Primary ts → read_expr m Sign (ts ++ rest) ≡ read_expr m Primary (ts ++ rest)
unfolding read_primary
sign_as_primary m [] rest s = absurd s
sign_as_primary m (t ∷ ts) rest s = sign_is m (t ∷ ts ++ rest) ∙ by_kind t.kind s ∙ sym (primary_is m (t ∷ ts ++ rest))
  where
    by_kind : (kind : Kind) → starts_ok Primary kind ≡ true → sign_by m (nested m) kind t (t ∷ ts ++ rest) ≡ by_next (refuse unexpected) (λ t. primary_by m (nested m) t.kind t) (t ∷ ts ++ rest)
    by_kind k.Minus s = cc
    by_kind kind s = refl

-- ---- by induction on the grammar

test_reads : (m h : ℕ) (left : AstExpr) (a b : List Lexeme) (t : Lexeme) (rest : List Lexeme) → read_expr m Sum (a ++ (t ∷ b ++ rest)) ≡ Ok (found left h, t ∷ b ++ rest)
    → read_expr m Test ((a ++ t ∷ b) ++ rest) ≡ test_by m (nested m) t.kind (place (a ++ (t ∷ b ++ rest))) (found left h) (t ∷ b ++ rest)
test_reads m h left a b t rest r =
    ap (read_expr m Test) (append_assoc a (t ∷ b) rest) ∙ test_is m (a ++ (t ∷ b ++ rest))
    ∙ ap (λ o. and_then o (λ left. by_next (pure left) (λ u. test_by m (nested m) u.kind (place (a ++ (t ∷ b ++ rest))) left))) r

at_is : {level : Level} {h : ℕ} {x : AstExpr} (a b : List Lexeme) (t : Lexeme) (rest : List Lexeme) → IsExpr level h a x → place (a ++ (t ∷ b ++ rest)) ≡ place (a ++ t ∷ b)
at_is a b t rest d = place_front d (t ∷ b ++ rest) ∙ sym (place_front d (t ∷ b))

pub reaches : {level : Level} {j : ℕ} {ts : List Lexeme} {x : AstExpr} (m : ℕ) → IsExpr level j ts x → j ≤ m → (rest : List Lexeme) → Ready level rest → Reached level m ts x j rest
reaches m (g.conjunction {h = j} {ts = ts} {x = x} d) le rest s =
    begins Or m ts x j rest And (or_is m (ts ++ rest)) (finish And m ts x j rest (reaches m d le rest (ready And rest s)) s)
reaches m (g.negation {h = j} {ts = ts} {x = x} d) le rest s =
    begins And m ts x j rest Not (and_is m (ts ++ rest)) (reaches m d le rest s)
reaches m (g.test {h = j} {ts = ts} {x = x} d) le rest s =
    let w = reaches m d le rest (Stops-up Not Test (omega arith) rest s) in
    (w.0, w.1, not_else m ts rest (starts d) ∙ w.2)
reaches m (g.sum {h = j} {ts = ts} {x = x} d) le rest s =
    let t = Stops-up Test Sum (omega arith) rest s in
    let w = finish Sum m ts x j rest (reaches m d le rest (ready Sum rest t)) t in (
      w.0,
      w.1,
      test_is m (ts ++ rest) ∙ ap (λ o. and_then o (λ left. by_next (pure left) (λ u. test_by m (nested m) u.kind (place (ts ++ rest)) left))) w.2
          ∙ test_alone m (place (ts ++ rest)) (found x w.0) rest s,
    )
reaches m (g.product {h = j} {ts = ts} {x = x} d) le rest s =
    begins Sum m ts x j rest Product (sum_is m (ts ++ rest)) (finish Product m ts x j rest (reaches m d le rest (ready Product rest s)) s)
reaches m (g.sign {h = j} {ts = ts} {x = x} d) le rest s =
    begins Product m ts x j rest Sign (product_is m (ts ++ rest)) (reaches m d le rest s)
reaches m (g.primary {h = j} {ts = ts} {x = x} d) le rest s =
    let w = reaches m d le rest (Stops-up Sign Primary (omega arith) rest s) in
    (w.0, w.1, sign_as_primary m ts rest (starts d) ∙ w.2)
reaches zero (g.chain a b t op l o r) le rest s = absurd (omega arith)
reaches (suc m) (g.chain {level = Or} {h = j} a b t op {left = left} {right = right} l o r) le rest s =
    let w = reaches (suc m) l (omega arith) (t ∷ b ++ rest) (operator_stops Or t.kind op o) in
    let v = finish And m b right j rest (reaches m r (omega arith) rest (ready And rest s)) s in
    joins Or m w.0 j w.1 v.0 a b t op left right rest (read_expr (suc m) Or ((a ++ t ∷ b) ++ rest)) o w.2 (omega arith) w.3 v.1
    (place_front (g.chain a b t op l o r) rest) (ap (read_expr (suc m) Or) (append_assoc a (t ∷ b) rest) ∙ w.4) v.2
reaches (suc m) (g.chain {level = And} {h = j} a b t op {left = left} {right = right} l o r) le rest s =
    let w = reaches (suc m) l (omega arith) (t ∷ b ++ rest) (operator_stops And t.kind op o) in
    let v = reaches m r (omega arith) rest s in
    joins And m w.0 j w.1 v.0 a b t op left right rest (read_expr (suc m) And ((a ++ t ∷ b) ++ rest)) o w.2 (omega arith) w.3 v.1
    (place_front (g.chain a b t op l o r) rest) (ap (read_expr (suc m) And) (append_assoc a (t ∷ b) rest) ∙ w.4) v.2
reaches (suc m) (g.chain {level = Sum} {h = j} a b t op {left = left} {right = right} l o r) le rest s =
    let w = reaches (suc m) l (omega arith) (t ∷ b ++ rest) (operator_stops Sum t.kind op o) in
    let v = finish Product m b right j rest (reaches m r (omega arith) rest (ready Product rest s)) s in
    joins Sum m w.0 j w.1 v.0 a b t op left right rest (read_expr (suc m) Sum ((a ++ t ∷ b) ++ rest)) o w.2 (omega arith) w.3 v.1
    (place_front (g.chain a b t op l o r) rest) (ap (read_expr (suc m) Sum) (append_assoc a (t ∷ b) rest) ∙ w.4) v.2
reaches (suc m) (g.chain {level = Product} {h = j} a b t op {left = left} {right = right} l o r) le rest s =
    let w = reaches (suc m) l (omega arith) (t ∷ b ++ rest) (operator_stops Product t.kind op o) in
    let v = reaches m r (omega arith) rest s in
    joins Product m w.0 j w.1 v.0 a b t op left right rest (read_expr (suc m) Product ((a ++ t ∷ b) ++ rest)) o w.2 (omega arith) w.3 v.1
    (place_front (g.chain a b t op l o r) rest) (ap (read_expr (suc m) Product) (append_assoc a (t ∷ b) rest) ∙ w.4) v.2
reaches (suc m) (g.chain {level = Not} a b t op l o r) le rest s = absurd cc
reaches (suc m) (g.chain {level = Test} a b t op l o r) le rest s = absurd cc
reaches (suc m) (g.chain {level = Sign} a b t op l o r) le rest s = absurd cc
reaches (suc m) (g.chain {level = Primary} a b t op l o r) le rest s = absurd cc
reaches zero (g.not t ts p d) le rest s = absurd (omega arith)
reaches (suc m) (g.not {h = j} t ts {x = x} p d) le rest s =
    let w = reaches m d (omega arith) rest s in (
      w.0 + 1,
      omega arith,
      not_is (suc m) (t ∷ ts ++ rest) ∙ ap (λ kind. not_by (suc m) (read_expr m) (read_expr (suc m) Test) kind t (t ∷ ts ++ rest)) p
          ∙ marked_goes m w.0 Not (λ x. e.Not x t.at) t x ts rest w.2,
    )
reaches zero (g.comparing a b t op l o r) le rest s = absurd (omega arith)
reaches (suc m) (g.comparing {h = j} a b t op {left = left} {right = right} l o r) le rest s =
    let stop = comparison_stops t.kind op o in
    let w = finish Sum (suc m) a left j (t ∷ b ++ rest) (reaches (suc m) l (omega arith) (t ∷ b ++ rest) (ready Sum (t ∷ b ++ rest) stop)) stop in
    let after = Stops-up Test Sum (omega arith) rest s in
    let v = finish Sum m b right j rest (reaches m r (omega arith) rest (ready Sum rest after)) after in (
      max w.0 v.0 + 1,
      omega arith,
      test_reads (suc m) w.0 left a b t rest w.2
          ∙ test_compares (suc m) (place (a ++ (t ∷ b ++ rest))) (found left w.0) t.kind op (t ∷ b ++ rest) o
          ∙ compared_goes m (place (a ++ (t ∷ b ++ rest))) (found left w.0) op (found right v.0) t (b ++ rest) rest (omega arith) v.2
          ∙ ap (λ p. Ok (found (e.Binary op p left right) (max w.0 v.0 + 1), rest)) (at_is a b t rest l),
    )
reaches zero (g.is_null a i n d p q) le rest s = absurd (omega arith)
reaches (suc m) (g.is_null {h = j} a i n {x = x} d p q) le rest s =
    let stop : stops Sum i.kind ≡ true = ap (stops Sum) p in
    let w = finish Sum (suc m) a x j (i ∷ n ∷ rest) (reaches (suc m) d (omega arith) (i ∷ n ∷ rest) (ready Sum (i ∷ n ∷ rest) stop)) stop in (
      w.0 + 1,
      omega arith,
      test_reads (suc m) w.0 x a (n ∷ []) i rest w.2
          ∙ ap (λ kind. test_by (suc m) (read_expr m) kind (place (a ++ (i ∷ n ∷ rest))) (found x w.0) (i ∷ n ∷ rest)) p
          ∙ null_goes m (place (a ++ (i ∷ n ∷ rest))) (found x w.0) i n rest (omega arith) q
          ∙ ap (λ p. Ok (found (e.IsNull x false p) (w.0 + 1), rest)) (at_is a (n ∷ []) i rest d),
    )
reaches zero (g.is_not_null a i non n d p r q) le rest s = absurd (omega arith)
reaches (suc m) (g.is_not_null {h = j} a i non n {x = x} d p r q) le rest s =
    let stop : stops Sum i.kind ≡ true = ap (stops Sum) p in
    let w = finish Sum (suc m) a x j (i ∷ non ∷ n ∷ rest) (reaches (suc m) d (omega arith) (i ∷ non ∷ n ∷ rest) (ready Sum (i ∷ non ∷ n ∷ rest) stop)) stop in (
      w.0 + 1,
      omega arith,
      test_reads (suc m) w.0 x a (non ∷ n ∷ []) i rest w.2
          ∙ ap (λ kind. test_by (suc m) (read_expr m) kind (place (a ++ (i ∷ non ∷ n ∷ rest))) (found x w.0) (i ∷ non ∷ n ∷ rest)) p
          ∙ not_null_goes m (place (a ++ (i ∷ non ∷ n ∷ rest))) (found x w.0) i non n rest (omega arith) r q
          ∙ ap (λ p. Ok (found (e.IsNull x true p) (w.0 + 1), rest)) (at_is a (non ∷ n ∷ []) i rest d),
    )
reaches zero (g.minus t ts p d) le rest s = absurd (omega arith)
reaches (suc m) (g.minus {h = j} t ts {x = x} p d) le rest s =
    let w = reaches m d (omega arith) rest s in (
      w.0 + 1,
      omega arith,
      sign_is (suc m) (t ∷ ts ++ rest) ∙ ap (λ kind. sign_by (suc m) (read_expr m) kind t (t ∷ ts ++ rest)) p
          ∙ marked_goes m w.0 Sign (λ x. e.Neg x t.at) t x ts rest w.2,
    )
reaches m (g.number t p) le rest s = (0, omega arith, by_primary m k.Number t rest p)
reaches m (g.text t p) le rest s = (0, omega arith, by_primary m k.Text t rest p)
reaches m (g.yes_word t p) le rest s = (0, omega arith, by_primary m k.True t rest p)
reaches m (g.no_word t p) le rest s = (0, omega arith, by_primary m k.False t rest p)
reaches m (g.date d t p q) le rest s = (0, omega arith, by_primary m k.Date d (t ∷ rest) p ∙ date_goes d t rest q)
reaches m (g.name t p) le rest s = (0, omega arith, by_primary m k.Name t rest p ∙ name_alone t rest s)
reaches m (g.property t d u p q r) le rest s = (0, omega arith, by_primary m k.Name t (d ∷ u ∷ rest) p ∙ property_goes t d u rest q r)
reaches m (g.id f o v c p i q n r) le rest s = (0, omega arith, by_primary m k.Name f (o ∷ v ∷ c ∷ rest) p ∙ id_goes f o v c rest i q n r)
reaches m (g.label f o v c p i q n r) le rest s = (0, omega arith, by_primary m k.Name f (o ∷ v ∷ c ∷ rest) p ∙ label_goes f o v c rest i q n r)
reaches zero (g.parentheses o c ts p d q) le rest s = absurd (omega arith)
reaches (suc m) (g.parentheses {h = j} o c ts {x = x} p d q) le rest s =
    let stop : stops Or c.kind ≡ true = ap (stops Or) q in
    let w = finish Or m ts x j (c ∷ rest) (reaches m d (omega arith) (c ∷ rest) (ready Or (c ∷ rest) stop)) stop in (
      w.0 + 1,
      omega arith,
      ap (λ v. read_expr (suc m) Primary (o ∷ v)) (append_assoc ts (c ∷ []) rest)
          ∙ by_primary (suc m) k.Open o (ts ++ c ∷ rest) p ∙ inside_goes m w.0 o c x ts rest q w.2,
    )

pub reads : {level : Level} {j : ℕ} {ts : List Lexeme} {x : AstExpr} (m : ℕ) → IsExpr level j ts x → j ≤ m → (rest : List Lexeme) → Stops level rest → Read level m ts x j rest
reads {level} {j} {ts} {x} m d le rest s = finish level m ts x j rest (reaches m d le rest (ready level rest s)) s
