-- What is written of an expression that was read is read back as the same expression, no higher than it was.
use Rattle.std.proofs.Common.{◌≡◌, ℕ, suc, ◌-◌, ◌≤◌, ◌<◌, ◌^◌, Bool, true, false, List, [], ◌∷◌, ◌++◌, map, length, take, drop, Option, Some, None, refl, sym, ap, ◌∙◌, subst, codes, arith}
use Rattle.std.proofs.lemmas.Bool.Decides.{nat_tests}
use Rattle.std.proofs.lemmas.List.{append-nil}
use Rattle.std.specs.Prelude.{pos, nat_lt}
use Rattle.std.specs.Fmt.{decimal}
use Rattle.std.specs.List.{AllByRecursion}
use Rattle.std.specs.Str.{str_eq_ignore_ascii_case}
use Rattle.pgql_lexer.specs.Fronts.{value_after}
use Rattle.pgql_tree.specs.declared.ast.Op.{Op}
use Rattle.pgql_tree.specs.declared.ast.Op.TheVariants as op
use Rattle.pgql_tree.specs.declared.ast.Placed.{Placed}
use Rattle.pgql_tree.specs.declared.ast.AstExpr.{AstExpr}
use Rattle.pgql_tree.specs.declared.ast.AstExpr.TheVariants as e
use Rattle.pgql_tree.specs.declared.level.Level.{Level}
use Rattle.pgql_tree.specs.declared.level.Level.TheVariants.{Or, And, Not, Test, Sum, Product, Sign, Primary}
use Rattle.pgql_tree.specs.Levels.{tighter}
use Rattle.pgql_tree.specs.Same.{bare_name, bare}
use Rattle.pgql_tree.proofs.Bare.{bare-Int, bare-Text, bare-Date, bare-Bool, bare-Name, bare-Property, bare-Id, bare-Label, bare-Not, bare-Neg, bare-IsNull, bare-Binary}
use Rattle.pgql_print.specs.Printing.{rank, level_of, left_of, sign_of, is_looser, null_test, spelled, own_level}
use Rattle.pgql_print.proofs.Spelling.{own-Int, own-Text, own-Date, own-Bool, own-Name, own-Property, own-Id, own-Label, own-Not, own-Neg, own-IsNull, own-Binary}
use Rattle.pgql_print.proofs.Spelling.{alone-Int, alone-Text, alone-Date, alone-Bool, alone-Name, alone-Property, alone-Id, alone-Label, alone-Not, alone-Neg}
use Rattle.pgql_print.proofs.Spelling.{alone-IsNull, alone-Binary, with_parentheses, without_parentheses}
use Rattle.pgql_lexemes.specs.declared.kind.Kind.{Kind}
use Rattle.pgql_lexemes.specs.declared.kind.Kind.TheVariants as k
use Rattle.pgql_lexemes.specs.Lexemes.{Lexeme, is_word, value_of, undoubled, content_of, place}
use Rattle.pgql_lexemes.specs.Seen.{word_kind}
use Rattle.pgql_lexemes.specs.Operators.{operator, comparison}
use Rattle.pgql_syntax.specs.Grammar.{IsExpr}
use Rattle.pgql_syntax.specs.Grammar as g
use Rattle.pgql_syntax.proofs.Ends.{higher}
use Rattle.pgql_syntax.proofs.Spots.{front_all, back_all}
use Rattle.pgql_syntax.proofs.Lexing.{Mark, mark_of, parts_first, any_text, IsLexed, one_space, lexed_both, before_any, lexed_before, lexed_parted, lexed_as}
use Rattle.pgql_syntax.proofs.Standing.{IsWord, word_lexed, decimal_value, decimal_lexed, open_lexed, close_lexed, dot_lexed, plus_lexed, minus_lexed, star_lexed}
use Rattle.pgql_syntax.proofs.Standing.{percent_lexed, equal_lexed, unequal_lexed, less_equal_lexed, greater_equal_lexed, less_lexed, greater_lexed, slash_lexed}
use Rattle.pgql_syntax.proofs.Source.{IsSource}

-- The text is lexed as tokens, and tokens like these are a part that is the same.
pub record ReadsBack {A B : Type 0} (IsPart : List Lexeme → A → Type 0) (bared : A → B) (x : A) (text : List ℕ) : Type 0 where
  pub marks : List Mark
  pub lexed : IsLexed parts_first text marks
  pub reads : (us : List Lexeme) → map mark_of us ≡ marks → (y : A) × IsPart us y × (bared x ≡ bared y)

pub back_as : {A B : Type 0} {IsPart : List Lexeme → A → Type 0} {bared : A → B} {x : A} {v w : List ℕ} → v ≡ w → ReadsBack IsPart bared x v → ReadsBack IsPart bared x w
back_as {IsPart = IsPart} {bared = bared} {x = x} e b = let P : List ℕ → Type 0 = ReadsBack IsPart bared x in subst P e b

-- ---- tokens with given marks

pub split : (ts : List Lexeme) (xs ys : List Mark) → map mark_of ts ≡ xs ++ ys → (a : List Lexeme) × (b : List Lexeme) × (ts ≡ a ++ b) × (map mark_of a ≡ xs) × (map mark_of b ≡ ys)
split ts [] ys e = ([], ts, refl, refl, e)
split [] (x ∷ xs) ys e = cc
split (t ∷ ts) (x ∷ xs) ys e =
    let head : mark_of t ≡ x = cc in
    let rest : map mark_of ts ≡ xs ++ ys = cc in
    let w = split ts xs ys rest in
    (t ∷ w.0, w.1, ap (λ v. t ∷ v) w.2, ap (λ v. v ∷ map mark_of w.0) head ∙ ap (λ v. x ∷ v) w.3, w.4)

pub first_mark : (ts : List Lexeme) (kind : Kind) (bytes : List ℕ) (xs : List Mark) → map mark_of ts ≡ (kind, bytes) ∷ xs
    → (t : Lexeme) × (us : List Lexeme) × (ts ≡ t ∷ us) × (t.kind ≡ kind) × (t.bytes ≡ bytes) × (map mark_of us ≡ xs)
first_mark [] kind bytes xs e = cc
first_mark (t ∷ us) kind bytes xs e =
    let head : mark_of t ≡ (kind, bytes) = cc in
    (t, us, refl, ap (λ m. m.0) head, ap (λ m. m.1) head, cc)

pub no_mark : (ts : List Lexeme) → map mark_of ts ≡ [] → ts ≡ []
no_mark [] e = refl
no_mark (t ∷ ts) e = cc

pub one_mark : (ts : List Lexeme) (kind : Kind) (bytes : List ℕ) → map mark_of ts ≡ (kind, bytes) ∷ [] → (t : Lexeme) × (ts ≡ t ∷ []) × (t.kind ≡ kind) × (t.bytes ≡ bytes)
one_mark ts kind bytes e =
    let t = first_mark ts kind bytes [] e in
    (t.0, t.2 ∙ ap (λ us. t.0 ∷ us) (no_mark t.1 t.5), t.3, t.4)

-- the part that the tokens are
pub as_tokens : {A B : Type 0} (IsPart : List Lexeme → A → Type 0) (bared : A → B) (x : A) (us vs : List Lexeme) → us ≡ vs → (y : A) × IsPart vs y × (bared x ≡ bared y) → (y : A) × IsPart us y × (bared x ≡ bared y)
as_tokens IsPart bared x us vs e y = let P : List Lexeme → Type 0 = λ v. IsPart v y.0 in (y.0, subst P (sym e) y.1, y.2)

-- one token, whose text is that of the part
pub one_back : {A B : Type 0} (IsPart : List Lexeme → A → Type 0) (bared : A → B) (x : A) (text : List ℕ) (kind : Kind) → IsLexed parts_first text ((kind, text) ∷ [])
    → ((u : Lexeme) → u.kind ≡ kind → u.bytes ≡ text → (y : A) × IsPart (u ∷ []) y × (bared x ≡ bared y)) → ReadsBack IsPart bared x text
one_back IsPart bared x text kind lexed reads = record {
  marks = (kind, text) ∷ [];
  lexed = lexed;
  reads = λ us m. let u = one_mark us kind text m in as_tokens IsPart bared x us (u.0 ∷ []) u.1 (reads u.0 u.2 u.3);
}

-- ---- texts of one token

-- a token with a space on either side
pub spaced : {w : List ℕ} {ms : List Mark} → IsLexed parts_first w ms → IsLexed any_text (codes " " ++ (w ++ codes " ")) ms
spaced {w} {ms} a = lexed_as refl (append-nil ms) (lexed_before one_space (lexed_both a one_space (λ rest e. refl)))

-- a token with a space after it
pub space_after : {w : List ℕ} {ms : List Mark} → IsLexed parts_first w ms → IsLexed any_text (w ++ codes " ") ms
space_after {w} {ms} a = lexed_as refl (append-nil ms) (lexed_both a one_space (λ rest e. refl))

pub keyword : (w : List ℕ) (kind : Kind) → word_kind w ≡ kind → IsWord w → IsLexed parts_first w ((kind, w) ∷ [])
keyword w kind e is = lexed_as refl (ap (λ v. (v, w) ∷ []) e) (word_lexed w is)

-- a word of a text
pub source_word : (t : Lexeme) → IsSource t → is_word t.kind ≡ true → IsLexed parts_first t.bytes ((t.kind, t.bytes) ∷ [])
source_word t s is = let w = s.word is in keyword t.bytes t.kind w.1 w.0

pub source_name : (t : Lexeme) → IsSource t → t.kind ≡ k.Name → IsLexed parts_first t.bytes ((k.Name, t.bytes) ∷ [])
source_name t s is = lexed_as refl (ap (λ v. (v, t.bytes) ∷ []) is) (source_word t s (ap is_word is))

-- ---- operators

-- the token that is written for an operator
abbrev sign_kind : Op → Kind
sign_kind op.Or = k.Or
sign_kind op.And = k.And
sign_kind op.Equal = k.Equal
sign_kind op.Unequal = k.Unequal
sign_kind op.Less = k.Less
sign_kind op.LessEqual = k.LessEqual
sign_kind op.Greater = k.Greater
sign_kind op.GreaterEqual = k.GreaterEqual
sign_kind op.Add = k.Plus
sign_kind op.Subtract = k.Minus
sign_kind op.Multiply = k.Star
sign_kind op.Divide = k.Slash
sign_kind op.Remainder = k.Percent

abbrev sign_bytes : Op → List ℕ
sign_bytes op.Or = codes "OR"
sign_bytes op.And = codes "AND"
sign_bytes op.Equal = codes "="
sign_bytes op.Unequal = codes "<>"
sign_bytes op.Less = codes "<"
sign_bytes op.LessEqual = codes "<="
sign_bytes op.Greater = codes ">"
sign_bytes op.GreaterEqual = codes ">="
sign_bytes op.Add = codes "+"
sign_bytes op.Subtract = codes "-"
sign_bytes op.Multiply = codes "*"
sign_bytes op.Divide = codes "/"
sign_bytes op.Remainder = codes "%"

sign_lexed : (o : Op) → IsLexed any_text (sign_of o) ((sign_kind o, sign_bytes o) ∷ [])
unfolding word_kind
sign_lexed op.Or = spaced (keyword (codes "OR") k.Or refl (record { begins = refl; whole = refl }))
sign_lexed op.And = spaced (keyword (codes "AND") k.And refl (record { begins = refl; whole = refl }))
sign_lexed op.Equal = spaced (before_any equal_lexed)
sign_lexed op.Unequal = spaced (before_any unequal_lexed)
sign_lexed op.Less = spaced less_lexed
sign_lexed op.LessEqual = spaced (before_any less_equal_lexed)
sign_lexed op.Greater = spaced greater_lexed
sign_lexed op.GreaterEqual = spaced (before_any greater_equal_lexed)
sign_lexed op.Add = spaced (before_any plus_lexed)
sign_lexed op.Subtract = spaced (before_any minus_lexed)
sign_lexed op.Multiply = spaced (before_any star_lexed)
sign_lexed op.Divide = spaced slash_lexed
sign_lexed op.Remainder = spaced (before_any percent_lexed)

-- it begins with a space
sign_parts : (o : Op) (rest : List ℕ) → parts_first (sign_of o ++ rest) ≡ true
sign_parts op.Or rest = refl
sign_parts op.And rest = refl
sign_parts op.Equal rest = refl
sign_parts op.Unequal rest = refl
sign_parts op.Less rest = refl
sign_parts op.LessEqual rest = refl
sign_parts op.Greater rest = refl
sign_parts op.GreaterEqual rest = refl
sign_parts op.Add rest = refl
sign_parts op.Subtract rest = refl
sign_parts op.Multiply rest = refl
sign_parts op.Divide rest = refl
sign_parts op.Remainder rest = refl

abbrev Chains : Level → Option Op → Type 0
Chains level None = Unit {0}
Chains level (Some o) = (operator level (sign_kind o) ≡ Some o) × (level_of o ≡ level) × (left_of o ≡ level)

chains : (level : Level) (kind : Kind) → Chains level (operator level kind)
chains Or k.Or = (refl, refl, refl)
chains Or kind = tt
chains And k.And = (refl, refl, refl)
chains And kind = tt
chains Sum k.Plus = (refl, refl, refl)
chains Sum k.Minus = (refl, refl, refl)
chains Sum kind = tt
chains Product k.Star = (refl, refl, refl)
chains Product k.Slash = (refl, refl, refl)
chains Product k.Percent = (refl, refl, refl)
chains Product kind = tt
chains Not kind = tt
chains Test kind = tt
chains Sign kind = tt
chains Primary kind = tt

abbrev Compares : Option Op → Type 0
Compares None = Unit {0}
Compares (Some o) = (comparison (sign_kind o) ≡ Some o) × (level_of o ≡ Test) × (left_of o ≡ Sum)

compares : (kind : Kind) → Compares (comparison kind)
compares k.Equal = (refl, refl, refl)
compares k.Unequal = (refl, refl, refl)
compares k.Less = (refl, refl, refl)
compares k.LessEqual = (refl, refl, refl)
compares k.Greater = (refl, refl, refl)
compares k.GreaterEqual = (refl, refl, refl)
compares kind = tt

-- ---- levels

abbrev pub ExprReads : Level → ℕ → AstExpr → List ℕ → Type 0
ExprReads level h x text = ReadsBack (IsExpr level h) bare x text

-- without parentheses round it
abbrev pub ReadsAlone : ℕ → AstExpr → Type 0
ReadsAlone h x = ExprReads (own_level x) h x (spelled x (own_level x))

-- At a place that needs this level it is no higher than the number, also where it stands in parentheses there.
pub data Fits : Level → ℕ → AstExpr → Type 0 where
  plain : {level : Level} {h : ℕ} {x : AstExpr} → is_looser level (own_level x) ≡ false → ReadsAlone h x → Fits level h x
  inside : {level : Level} {h : ℕ} {x : AstExpr} → ReadsAlone h x → Fits level (suc h) x

alone_at : {h : ℕ} (level : Level) (x : AstExpr) (text : List ℕ) → own_level x ≡ level → spelled x (own_level x) ≡ text → ExprReads level h x text → ReadsAlone h x
alone_at {h} level x text own is r =
    let P : Level → Type 0 = λ l. ExprReads l h x text in
    let Q : List ℕ → Type 0 = λ t. ExprReads (own_level x) h x t in
    subst Q (sym is) (subst P (sym own) r)

not_below_itself : (n : ℕ) → nat_lt n n ≡ false
not_below_itself n = grind (arith, nat_tests)

-- an expression of this level stands without parentheses at a place that needs it
fits_at : {h : ℕ} (level : Level) (x : AstExpr) (text : List ℕ) → own_level x ≡ level → spelled x (own_level x) ≡ text → ExprReads level h x text → Fits level h x
fits_at level x text own is r = plain (ap (is_looser level) own ∙ not_below_itself (rank level)) (alone_at level x text own is r)

less_tight : (own level lower : ℕ) → lower ≤ level → nat_lt own level ≡ false → nat_lt own lower ≡ false
less_tight own level lower le e = grind (arith, nat_tests)

-- what fits a place fits one that needs less
looser_fits : (level lower : Level) {h : ℕ} {x : AstExpr} → rank lower ≤ rank level → Fits level h x → Fits lower h x
looser_fits level lower {x = x} le (plain tight r) = plain (less_tight (rank (own_level x)) (rank level) (rank lower) le tight) r
looser_fits level lower le (inside r) = inside r

-- an expression is also one of each level that binds less tightly
lifted : (level own : Level) {h : ℕ} {ts : List Lexeme} {x : AstExpr} → is_looser level own ≡ false → IsExpr own h ts x → IsExpr level h ts x
lifted level Primary f d = from_primary level d
  where
    from_primary : (level : Level) {h : ℕ} {ts : List Lexeme} {x : AstExpr} → IsExpr Primary h ts x → IsExpr level h ts x
    from_primary Primary d = d
    from_primary Sign d = g.primary d
    from_primary Product d = g.sign (g.primary d)
    from_primary Sum d = g.product (g.sign (g.primary d))
    from_primary Test d = g.sum (g.product (g.sign (g.primary d)))
    from_primary Not d = g.test (g.sum (g.product (g.sign (g.primary d))))
    from_primary And d = g.negation (g.test (g.sum (g.product (g.sign (g.primary d)))))
    from_primary Or d = g.conjunction (g.negation (g.test (g.sum (g.product (g.sign (g.primary d))))))
lifted Sign Sign f d = d
lifted Product Sign f d = g.sign d
lifted Sum Sign f d = g.product (g.sign d)
lifted Test Sign f d = g.sum (g.product (g.sign d))
lifted Not Sign f d = g.test (g.sum (g.product (g.sign d)))
lifted And Sign f d = g.negation (g.test (g.sum (g.product (g.sign d))))
lifted Or Sign f d = g.conjunction (g.negation (g.test (g.sum (g.product (g.sign d)))))
lifted Product Product f d = d
lifted Sum Product f d = g.product d
lifted Test Product f d = g.sum (g.product d)
lifted Not Product f d = g.test (g.sum (g.product d))
lifted And Product f d = g.negation (g.test (g.sum (g.product d)))
lifted Or Product f d = g.conjunction (g.negation (g.test (g.sum (g.product d))))
lifted Sum Sum f d = d
lifted Test Sum f d = g.sum d
lifted Not Sum f d = g.test (g.sum d)
lifted And Sum f d = g.negation (g.test (g.sum d))
lifted Or Sum f d = g.conjunction (g.negation (g.test (g.sum d)))
lifted Test Test f d = d
lifted Not Test f d = g.test d
lifted And Test f d = g.negation (g.test d)
lifted Or Test f d = g.conjunction (g.negation (g.test d))
lifted Not Not f d = d
lifted And Not f d = g.negation d
lifted Or Not f d = g.conjunction (g.negation d)
lifted And And f d = d
lifted Or And f d = g.conjunction d
lifted Or Or f d = d
lifted level own f d = absurd cc

-- what is said of the tokens may be said otherwise
pub back_through : {A B : Type 0} {P Q : List Lexeme → A → Type 0} {bared : A → B} {x : A} {text : List ℕ} → ((ts : List Lexeme) (y : A) → P ts y → Q ts y) → ReadsBack P bared x text → ReadsBack Q bared x text
back_through f b = record { marks = b.marks; lexed = b.lexed; reads = λ us m. let y = b.reads us m in (y.0, f us y.0 y.1, y.2) }

in_parentheses : {h : ℕ} {x : AstExpr} {text : List ℕ} → ExprReads Or h x text → ExprReads Primary (suc h) x (codes "(" ++ (text ++ codes ")"))
in_parentheses {h} {x} {text} b = record {
  marks = (k.Open, codes "(") ∷ b.marks ++ (k.Close, codes ")") ∷ [];
  lexed = lexed_before open_lexed (lexed_parted b.lexed refl (before_any close_lexed));
  reads = λ us m.
      let o = first_mark us k.Open (codes "(") (b.marks ++ (k.Close, codes ")") ∷ []) m in
      let s = split o.1 b.marks ((k.Close, codes ")") ∷ []) o.5 in
      let c = one_mark s.1 k.Close (codes ")") s.4 in
      let y = b.reads s.0 s.3 in
      let same : us ≡ o.0 ∷ s.0 ++ c.0 ∷ [] = o.2 ∙ ap (λ v. o.0 ∷ v) (s.2 ∙ ap (λ v. s.0 ++ v) c.1) in
      as_tokens (IsExpr Primary (suc h)) bare x us (o.0 ∷ s.0 ++ c.0 ∷ []) same (y.0, g.parentheses o.0 c.0 s.0 o.3 y.1 c.2, y.2);
}

-- at its place it is read with the height that it has there
pub at_place : {level : Level} {h : ℕ} {x : AstExpr} → Fits level h x → ExprReads level h x (spelled x level)
at_place {level} {x = x} (plain tight r) = back_as (sym (without_parentheses x level tight)) (back_through (λ ts y d. lifted level (own_level x) tight d) r)
at_place {level} {x = x} (inside {h = h} r) = by_test (is_looser level (own_level x)) refl
  where
    primary_lifts : (level : Level) → is_looser level Primary ≡ false
    primary_lifts Or = refl
    primary_lifts And = refl
    primary_lifts Not = refl
    primary_lifts Test = refl
    primary_lifts Sum = refl
    primary_lifts Product = refl
    primary_lifts Sign = refl
    primary_lifts Primary = refl

    none_looser : (own : Level) → is_looser Or own ≡ false
    none_looser Or = refl
    none_looser And = refl
    none_looser Not = refl
    none_looser Test = refl
    none_looser Sum = refl
    none_looser Product = refl
    none_looser Sign = refl
    none_looser Primary = refl

    by_test : (b : Bool) → is_looser level (own_level x) ≡ b → ExprReads level (suc h) x (spelled x level)
    by_test false tight = back_as (sym (without_parentheses x level tight)) (back_through (λ ts y d. higher (suc h) (lifted level (own_level x) tight d) (omega arith)) r)
    by_test true loose =
        back_as (sym (with_parentheses x level loose))
        (back_through (λ ts y d. lifted level Primary (primary_lifts level) d) (in_parentheses (back_through (λ ts y d. lifted Or (own_level x) (none_looser (own_level x)) d) r)))

-- ---- one node

-- an operator between two sides
binary_back : {h : ℕ} (level left_level right_level : Level) (o : Op) (l r : AstExpr) (at : ℕ)
    → ((a b : List Lexeme) (t : Lexeme) (l' r' : AstExpr) → t.kind ≡ sign_kind o → IsExpr left_level h a l' → IsExpr right_level h b r' → IsExpr level (suc h) (a ++ t ∷ b) (e.Binary o (place (a ++ t ∷ b)) l' r'))
    → ExprReads left_level h l (spelled l left_level) → ExprReads right_level h r (spelled r right_level)
    → ExprReads level (suc h) (e.Binary o at l r) (spelled l left_level ++ (sign_of o ++ spelled r right_level))
binary_back {h} level left_level right_level o l r at make x y = record {
  marks = x.marks ++ (sign_kind o, sign_bytes o) ∷ y.marks;
  lexed = lexed_parted x.lexed (sign_parts o (spelled r right_level)) (lexed_before (sign_lexed o) y.lexed);
  reads = λ us m.
      let s = split us x.marks ((sign_kind o, sign_bytes o) ∷ y.marks) m in
      let t = first_mark s.1 (sign_kind o) (sign_bytes o) y.marks s.4 in
      let v = x.reads s.0 s.3 in
      let w = y.reads t.1 t.5 in
      let same : us ≡ s.0 ++ t.0 ∷ t.1 = s.2 ∙ ap (λ q. s.0 ++ q) t.2 in
      let at' = place (s.0 ++ t.0 ∷ t.1) in
      as_tokens (IsExpr level (suc h)) bare (e.Binary o at l r) us (s.0 ++ t.0 ∷ t.1) same (
        e.Binary o at' v.0 w.0,
        make s.0 t.1 t.0 v.0 w.0 t.3 v.1 w.1,
        bare-Binary o l r at ∙ ap (λ q. e.Binary o 0 q (bare r)) v.2 ∙ ap (λ q. e.Binary o 0 (bare v.0) q) w.2 ∙ sym (bare-Binary o v.0 w.0 at'),
      );
}

binary_fits : {h : ℕ} (level left_level right_level : Level) (o : Op) (l r : AstExpr) (at : ℕ) → level_of o ≡ level → left_of o ≡ left_level → tighter level ≡ right_level
    → ((a b : List Lexeme) (t : Lexeme) (l' r' : AstExpr) → t.kind ≡ sign_kind o → IsExpr left_level h a l' → IsExpr right_level h b r' → IsExpr level (suc h) (a ++ t ∷ b) (e.Binary o (place (a ++ t ∷ b)) l' r'))
    → Fits left_level h l → Fits right_level h r → Fits level (suc h) (e.Binary o at l r)
binary_fits {h} level left_level right_level o l r at own left right make x y =
    fits_at level (e.Binary o at l r) (spelled l left_level ++ (sign_of o ++ spelled r right_level)) (own-Binary o l r at ∙ own)
    (alone-Binary o l r at ∙ ap (λ q. spelled l q ++ (sign_of o ++ spelled r (tighter (level_of o)))) left ∙ ap (λ q. spelled l left_level ++ (sign_of o ++ spelled r (tighter q))) own ∙ ap (λ q. spelled l left_level ++ (sign_of o ++ spelled r q)) right)
    (binary_back level left_level right_level o l r at make (at_place x) (at_place y))

-- a mark before one side
not_back : {h : ℕ} (x : AstExpr) (at : ℕ) → ExprReads Not h x (spelled x Not) → ExprReads Not (suc h) (e.Not x at) (codes "NOT " ++ spelled x Not)
unfolding word_kind
not_back {h} x at b = record {
  marks = (k.Not, codes "NOT") ∷ b.marks;
  lexed = lexed_before (space_after (keyword (codes "NOT") k.Not refl (record { begins = refl; whole = refl }))) b.lexed;
  reads = λ us m.
      let t = first_mark us k.Not (codes "NOT") b.marks m in
      let y = b.reads t.1 t.5 in
      as_tokens (IsExpr Not (suc h)) bare (e.Not x at) us (t.0 ∷ t.1) t.2 (e.Not y.0 t.0.at, g.not t.0 t.1 t.3 y.1, bare-Not x at ∙ ap (λ q. e.Not q 0) y.2 ∙ sym (bare-Not y.0 t.0.at));
}

minus_back : {h : ℕ} (x : AstExpr) (at : ℕ) → ExprReads Sign h x (spelled x Sign) → ExprReads Sign (suc h) (e.Neg x at) (codes "-" ++ spelled x Sign)
minus_back {h} x at b = record {
  marks = (k.Minus, codes "-") ∷ b.marks;
  lexed = lexed_before minus_lexed b.lexed;
  reads = λ us m.
      let t = first_mark us k.Minus (codes "-") b.marks m in
      let y = b.reads t.1 t.5 in
      as_tokens (IsExpr Sign (suc h)) bare (e.Neg x at) us (t.0 ∷ t.1) t.2 (e.Neg y.0 t.0.at, g.minus t.0 t.1 t.3 y.1, bare-Neg x at ∙ ap (λ q. e.Neg q 0) y.2 ∙ sym (bare-Neg y.0 t.0.at));
}

is_null_back : {h : ℕ} (x : AstExpr) (at : ℕ) → ExprReads Sum h x (spelled x Sum) → ExprReads Test (suc h) (e.IsNull x false at) (spelled x Sum ++ null_test false)
unfolding word_kind
is_null_back {h} x at b = record {
  marks = b.marks ++ (k.Is, codes "IS") ∷ (k.Null, codes "NULL") ∷ [];
  lexed = lexed_parted b.lexed refl
      (lexed_before (spaced (keyword (codes "IS") k.Is refl (record { begins = refl; whole = refl }))) (keyword (codes "NULL") k.Null refl (record { begins = refl; whole = refl })));
  reads = λ us m.
      let s = split us b.marks ((k.Is, codes "IS") ∷ (k.Null, codes "NULL") ∷ []) m in
      let i = first_mark s.1 k.Is (codes "IS") ((k.Null, codes "NULL") ∷ []) s.4 in
      let n = one_mark i.1 k.Null (codes "NULL") i.5 in
      let y = b.reads s.0 s.3 in
      let vs = s.0 ++ i.0 ∷ n.0 ∷ [] in
      let same : us ≡ vs = s.2 ∙ ap (λ q. s.0 ++ q) (i.2 ∙ ap (λ q. i.0 ∷ q) n.1) in
      as_tokens (IsExpr Test (suc h)) bare (e.IsNull x false at) us vs same
      (e.IsNull y.0 false (place vs), g.is_null s.0 i.0 n.0 y.1 i.3 n.2, bare-IsNull x false at ∙ ap (λ q. e.IsNull q false 0) y.2 ∙ sym (bare-IsNull y.0 false (place vs)));
}

is_not_null_back : {h : ℕ} (x : AstExpr) (at : ℕ) → ExprReads Sum h x (spelled x Sum) → ExprReads Test (suc h) (e.IsNull x true at) (spelled x Sum ++ null_test true)
unfolding word_kind
is_not_null_back {h} x at b = record {
  marks = b.marks ++ (k.Is, codes "IS") ∷ (k.Not, codes "NOT") ∷ (k.Null, codes "NULL") ∷ [];
  lexed = lexed_parted b.lexed refl
      (lexed_before (spaced (keyword (codes "IS") k.Is refl (record { begins = refl; whole = refl })))
      (lexed_before (space_after (keyword (codes "NOT") k.Not refl (record { begins = refl; whole = refl }))) (keyword (codes "NULL") k.Null refl (record { begins = refl; whole = refl }))));
  reads = λ us m.
      let s = split us b.marks ((k.Is, codes "IS") ∷ (k.Not, codes "NOT") ∷ (k.Null, codes "NULL") ∷ []) m in
      let i = first_mark s.1 k.Is (codes "IS") ((k.Not, codes "NOT") ∷ (k.Null, codes "NULL") ∷ []) s.4 in
      let o = first_mark i.1 k.Not (codes "NOT") ((k.Null, codes "NULL") ∷ []) i.5 in
      let n = one_mark o.1 k.Null (codes "NULL") o.5 in
      let y = b.reads s.0 s.3 in
      let vs = s.0 ++ i.0 ∷ o.0 ∷ n.0 ∷ [] in
      let same : us ≡ vs = s.2 ∙ ap (λ q. s.0 ++ q) (i.2 ∙ ap (λ q. i.0 ∷ q) (o.2 ∙ ap (λ q. o.0 ∷ q) n.1)) in
      as_tokens (IsExpr Test (suc h)) bare (e.IsNull x true at) us vs same
      (e.IsNull y.0 true (place vs), g.is_not_null s.0 i.0 o.0 n.0 y.1 i.3 o.3 n.2, bare-IsNull x true at ∙ ap (λ q. e.IsNull q true 0) y.2 ∙ sym (bare-IsNull y.0 true (place vs)));
}

-- ---- leaves

number_back : {h : ℕ} (n at : ℕ) → n < 2 ^ 63 → ExprReads Primary h (e.Int (pos n) at) (decimal n)
number_back {h} n at small = one_back (IsExpr Primary h) bare (e.Int (pos n) at) (decimal n) k.Number (decimal_lexed n small) (λ u kind bytes.
    let value : n ≡ value_of u = sym (ap (value_after 0) bytes ∙ decimal_value n small) in
    (e.Int (pos (value_of u)) u.at, g.number u kind, bare-Int (pos n) at ∙ ap (λ v. e.Int (pos v) 0) value ∙ sym (bare-Int (pos (value_of u)) u.at)))

-- what stands between the quotes
abbrev inner : List ℕ → List ℕ
inner bytes = undoubled false (take (length bytes - 2) (drop 1 bytes))

text_back : {h : ℕ} (t : Lexeme) (at : ℕ) → IsLexed parts_first t.bytes ((k.Text, t.bytes) ∷ []) → ExprReads Primary h (e.Text (content_of t) at) t.bytes
text_back {h} t at lexed = one_back (IsExpr Primary h) bare (e.Text (content_of t) at) t.bytes k.Text lexed (λ u kind bytes.
    let same : content_of t ≡ content_of u = sym (ap inner bytes) in
    (e.Text (content_of u) u.at, g.text u kind, bare-Text (content_of t) at ∙ ap (λ v. e.Text v 0) same ∙ sym (bare-Text (content_of u) u.at)))

date_back : {h : ℕ} (t : Lexeme) (at : ℕ) → IsLexed parts_first t.bytes ((k.Text, t.bytes) ∷ []) → ExprReads Primary h (e.Date (content_of t) at) (codes "DATE " ++ t.bytes)
unfolding word_kind
date_back {h} t at lexed = record {
  marks = (k.Date, codes "DATE") ∷ (k.Text, t.bytes) ∷ [];
  lexed = lexed_before (space_after (keyword (codes "DATE") k.Date refl (record { begins = refl; whole = refl }))) lexed;
  reads = λ us m.
      let d = first_mark us k.Date (codes "DATE") ((k.Text, t.bytes) ∷ []) m in
      let u = one_mark d.1 k.Text t.bytes d.5 in
      let same : content_of t ≡ content_of u.0 = sym (ap inner u.3) in
      as_tokens (IsExpr Primary h) bare (e.Date (content_of t) at) us (d.0 ∷ u.0 ∷ []) (d.2 ∙ ap (λ q. d.0 ∷ q) u.1)
      (e.Date (content_of u.0) d.0.at, g.date d.0 u.0 d.3 u.2, bare-Date (content_of t) at ∙ ap (λ v. e.Date v 0) same ∙ sym (bare-Date (content_of u.0) d.0.at));
}

true_back : {h : ℕ} (at : ℕ) → ExprReads Primary h (e.Bool true at) (codes "TRUE")
unfolding word_kind
true_back {h} at = one_back (IsExpr Primary h) bare (e.Bool true at) (codes "TRUE") k.True (keyword (codes "TRUE") k.True refl (record { begins = refl; whole = refl })) (λ u kind bytes.
    (e.Bool true u.at, g.yes_word u kind, bare-Bool true at ∙ sym (bare-Bool true u.at)))

false_back : {h : ℕ} (at : ℕ) → ExprReads Primary h (e.Bool false at) (codes "FALSE")
unfolding word_kind
false_back {h} at = one_back (IsExpr Primary h) bare (e.Bool false at) (codes "FALSE") k.False (keyword (codes "FALSE") k.False refl (record { begins = refl; whole = refl })) (λ u kind bytes.
    (e.Bool false u.at, g.no_word u kind, bare-Bool false at ∙ sym (bare-Bool false u.at)))

name_back : {h : ℕ} (n : List ℕ) (at : ℕ) → IsLexed parts_first n ((k.Name, n) ∷ []) → ExprReads Primary h (e.Name at n) n
name_back {h} n at lexed = one_back (IsExpr Primary h) bare (e.Name at n) n k.Name lexed (λ u kind bytes.
    (e.Name u.at u.bytes, g.name u kind, bare-Name n at ∙ ap (λ v. e.Name 0 v) (sym bytes) ∙ sym (bare-Name u.bytes u.at)))

property_back : {h : ℕ} (v : List ℕ) (p : Lexeme) (at : ℕ) → IsLexed parts_first v ((k.Name, v) ∷ []) → is_word p.kind ≡ true → IsLexed parts_first p.bytes ((p.kind, p.bytes) ∷ [])
    → ExprReads Primary h (e.Property at v p.bytes) (v ++ (codes "." ++ p.bytes))
property_back {h} v p at name is_word_p property = record {
  marks = (k.Name, v) ∷ (k.Dot, codes ".") ∷ (p.kind, p.bytes) ∷ [];
  lexed = lexed_parted name refl (lexed_before dot_lexed property);
  reads = λ us m.
      let t = first_mark us k.Name v ((k.Dot, codes ".") ∷ (p.kind, p.bytes) ∷ []) m in
      let d = first_mark t.1 k.Dot (codes ".") ((p.kind, p.bytes) ∷ []) t.5 in
      let q = one_mark d.1 p.kind p.bytes d.5 in
      as_tokens (IsExpr Primary h) bare (e.Property at v p.bytes) us (t.0 ∷ d.0 ∷ q.0 ∷ []) (t.2 ∙ ap (λ z. t.0 ∷ z) (d.2 ∙ ap (λ z. d.0 ∷ z) q.1)) (
        e.Property t.0.at t.0.bytes q.0.bytes,
        g.property t.0 d.0 q.0 t.3 d.3 (ap is_word q.2 ∙ is_word_p),
        bare-Property v p.bytes at ∙ ap (λ z. e.Property 0 z p.bytes) (sym t.4) ∙ ap (λ z. e.Property 0 t.0.bytes z) (sym q.3) ∙ sym (bare-Property t.0.bytes q.0.bytes t.0.at),
      );
}

abbrev named : List ℕ → ℕ → Placed
named bytes at = record { name = bytes; at = at }

-- the call of a function of one variable
call_back : {h : ℕ} (function : List ℕ) (v : Placed) (at : ℕ) (make : Placed → ℕ → AstExpr) → IsLexed parts_first function ((k.Name, function) ∷ []) → IsLexed parts_first v.name ((k.Name, v.name) ∷ [])
    → ((f o w c : Lexeme) → f.kind ≡ k.Name → f.bytes ≡ function → o.kind ≡ k.Open → w.kind ≡ k.Name → c.kind ≡ k.Close → IsExpr Primary h (f ∷ o ∷ w ∷ c ∷ []) (make (named w.bytes w.at) f.at))
    → ((w : Placed) (n : ℕ) → bare (make w n) ≡ make (bare_name w) 0)
    → ExprReads Primary h (make v at) (function ++ (codes "(" ++ (v.name ++ codes ")")))
call_back {h} function v at make f_lexed v_lexed is bares = record {
  marks = (k.Name, function) ∷ (k.Open, codes "(") ∷ (k.Name, v.name) ∷ (k.Close, codes ")") ∷ [];
  lexed = lexed_parted f_lexed refl (lexed_before open_lexed (lexed_parted v_lexed refl (before_any close_lexed)));
  reads = λ us m.
      let f = first_mark us k.Name function ((k.Open, codes "(") ∷ (k.Name, v.name) ∷ (k.Close, codes ")") ∷ []) m in
      let o = first_mark f.1 k.Open (codes "(") ((k.Name, v.name) ∷ (k.Close, codes ")") ∷ []) f.5 in
      let w = first_mark o.1 k.Name v.name ((k.Close, codes ")") ∷ []) o.5 in
      let c = one_mark w.1 k.Close (codes ")") w.5 in
      as_tokens (IsExpr Primary h) bare (make v at) us (f.0 ∷ o.0 ∷ w.0 ∷ c.0 ∷ []) (f.2 ∙ ap (λ z. f.0 ∷ z) (o.2 ∙ ap (λ z. o.0 ∷ z) (w.2 ∙ ap (λ z. w.0 ∷ z) c.1))) (
        make (named w.0.bytes w.0.at) f.0.at,
        is f.0 o.0 w.0 c.0 f.3 f.4 o.3 w.3 c.2,
        bares v at ∙ ap (λ z. make (named z 0) 0) (sym w.4) ∙ sym (bares (named w.0.bytes w.0.at) f.0.at),
      );
}

-- ---- expressions

some_chains : (level : Level) (kind : Kind) (o : Op) → operator level kind ≡ Some o → Chains level (Some o)
some_chains level kind o is = let P : Option Op → Type 0 = Chains level in subst P is (chains level kind)

some_compares : (kind : Kind) (o : Op) → comparison kind ≡ Some o → Compares (Some o)
some_compares kind o is = let P : Option Op → Type 0 = Compares in subst P is (compares kind)

raised : {h : ℕ} {x : AstExpr} → Fits Or h x → ReadsAlone h x
raised (plain tight r) = r
raised {x = x} (inside {h = h} r) = back_through (λ ts y d. higher (suc h) d (omega arith)) r

id_word : IsLexed parts_first (codes "id") ((k.Name, codes "id") ∷ [])
unfolding word_kind
id_word = keyword (codes "id") k.Name refl (record { begins = refl; whole = refl })

label_word : IsLexed parts_first (codes "label") ((k.Name, codes "label") ∷ [])
unfolding word_kind
label_word = keyword (codes "label") k.Name refl (record { begins = refl; whole = refl })

pub fits : {level : Level} {h : ℕ} {ts : List Lexeme} {x : AstExpr} → IsExpr level h ts x → AllByRecursion IsSource ts → Fits level h x
fits (g.conjunction d) all = looser_fits And Or (omega arith) (fits d all)
fits (g.negation d) all = looser_fits Not And (omega arith) (fits d all)
fits (g.test d) all = looser_fits Test Not (omega arith) (fits d all)
fits (g.sum d) all = looser_fits Sum Test (omega arith) (fits d all)
fits (g.product d) all = looser_fits Product Sum (omega arith) (fits d all)
fits (g.sign d) all = looser_fits Sign Product (omega arith) (fits d all)
fits (g.primary d) all = looser_fits Primary Sign (omega arith) (fits d all)
fits (g.chain {level = level} {h = h} a b t o {left = l} {right = r} x p y) all =
    let c = some_chains level t.kind o p in
    binary_fits level level (tighter level) o l r (place (a ++ t ∷ b)) c.1 c.2 refl (λ a' b' t' l' r' kind v w. g.chain a' b' t' o v (ap (operator level) kind ∙ c.0) w)
    (fits x (front_all IsSource a (t ∷ b) all)) (fits y (back_all IsSource a (t ∷ b) all).1)
fits (g.not t ts {x = x} p d) all = fits_at Not (e.Not x t.at) (codes "NOT " ++ spelled x Not) (own-Not x t.at) (alone-Not x t.at) (not_back x t.at (at_place (fits d all.1)))
fits (g.comparing {h = h} a b t o {left = l} {right = r} x p y) all =
    let c = some_compares t.kind o p in
    binary_fits Test Sum Sum o l r (place (a ++ t ∷ b)) c.1 c.2 refl (λ a' b' t' l' r' kind v w. g.comparing a' b' t' o v (ap comparison kind ∙ c.0) w)
    (fits x (front_all IsSource a (t ∷ b) all)) (fits y (back_all IsSource a (t ∷ b) all).1)
fits (g.is_null a i n {x = x} d p q) all =
    let at = place (a ++ i ∷ n ∷ []) in
    fits_at Test (e.IsNull x false at) (spelled x Sum ++ null_test false) (own-IsNull x false at) (alone-IsNull x false at) (is_null_back x at (at_place (fits d (front_all IsSource a (i ∷ n ∷ []) all))))
fits (g.is_not_null a i o n {x = x} d p q r) all =
    let at = place (a ++ i ∷ o ∷ n ∷ []) in
    fits_at Test (e.IsNull x true at) (spelled x Sum ++ null_test true) (own-IsNull x true at) (alone-IsNull x true at) (is_not_null_back x at (at_place (fits d (front_all IsSource a (i ∷ o ∷ n ∷ []) all))))
fits (g.minus t ts {x = x} p d) all = fits_at Sign (e.Neg x t.at) (codes "-" ++ spelled x Sign) (own-Neg x t.at) (alone-Neg x t.at) (minus_back x t.at (at_place (fits d all.1)))
fits (g.number t p) all = fits_at Primary (e.Int (pos (value_of t)) t.at) (decimal (value_of t)) (own-Int (pos (value_of t)) t.at) (alone-Int (pos (value_of t)) t.at) (number_back (value_of t) t.at (all.0.number p))
fits (g.text t p) all =
    let s = all.0.literal p in
    fits_at Primary (e.Text (content_of t) t.at) t.bytes (own-Text (content_of t) t.at) (alone-Text (content_of t) t.at ∙ s.0) (text_back t t.at s.1)
fits (g.yes_word t p) all = fits_at Primary (e.Bool true t.at) (codes "TRUE") (own-Bool true t.at) (alone-Bool true t.at) (true_back t.at)
fits (g.no_word t p) all = fits_at Primary (e.Bool false t.at) (codes "FALSE") (own-Bool false t.at) (alone-Bool false t.at) (false_back t.at)
fits (g.date d t p q) all =
    let s = all.1.0.literal q in
    fits_at Primary (e.Date (content_of t) d.at) (codes "DATE " ++ t.bytes) (own-Date (content_of t) d.at) (alone-Date (content_of t) d.at ∙ ap (λ z. codes "DATE " ++ z) s.0) (date_back t d.at s.1)
fits (g.name t p) all = fits_at Primary (e.Name t.at t.bytes) t.bytes (own-Name t.bytes t.at) (alone-Name t.bytes t.at) (name_back t.bytes t.at (source_name t all.0 p))
fits (g.property t dot p q r s) all =
    fits_at Primary (e.Property t.at t.bytes p.bytes) (t.bytes ++ (codes "." ++ p.bytes)) (own-Property t.bytes p.bytes t.at) (alone-Property t.bytes p.bytes t.at)
    (property_back t.bytes p t.at (source_name t all.0 q) s (source_word p all.1.1.0 s))
fits (g.id f o v c p i q n r) all =
    let w = named v.bytes v.at in
    fits_at Primary (e.Id w f.at) (codes "id(" ++ (v.bytes ++ codes ")")) (own-Id w f.at) (alone-Id w f.at)
    (call_back (codes "id") w f.at e.Id id_word (source_name v all.1.1.0 n) (λ f' o' v' c' a b d x y. g.id f' o' v' c' a (ap (λ z. str_eq_ignore_ascii_case z (codes "id")) b) d x y) bare-Id)
fits (g.label f o v c p i q n r) all =
    let w = named v.bytes v.at in
    fits_at Primary (e.Label w f.at) (codes "label(" ++ (v.bytes ++ codes ")")) (own-Label w f.at) (alone-Label w f.at)
    (call_back (codes "label") w f.at e.Label label_word (source_name v all.1.1.0 n) (λ f' o' v' c' a b d x y. g.label f' o' v' c' a (ap (λ z. str_eq_ignore_ascii_case z (codes "label")) b) d x y) bare-Label)
fits (g.parentheses o c ts {x = x} p d q) all = inside (raised (fits d (front_all IsSource ts (c ∷ []) all.1)))

-- at a place that needs this level
pub expr_back : {level : Level} {h : ℕ} {ts : List Lexeme} {x : AstExpr} → IsExpr level h ts x → AllByRecursion IsSource ts → ReadsBack (IsExpr level h) bare x (spelled x level)
expr_back d all = at_place (fits d all)
