-- What is written of each kind of expression.
use Rattle.std.proofs.Common.{◌≡◌, ℕ, Bool, true, false, List, ◌++◌, codes, refl, sym, ap, ◌∙◌, append_assoc, arith}
use Rattle.std.proofs.lemmas.Bool.Decides.{nat_tests}
use Rattle.std.specs.Prelude.{ℤ, nat_lt}
use Rattle.std.specs.Fmt.{signed_decimal}
use Rattle.pgql_tree.specs.declared.ast.Op.{Op}
use Rattle.pgql_tree.specs.declared.ast.Placed.{Placed}
use Rattle.pgql_tree.specs.declared.ast.AstExpr.{AstExpr, fold-roll-AstExpr}
use Rattle.pgql_tree.specs.declared.ast.AstExpr.TheVariants as e
use Rattle.pgql_tree.specs.declared.ast.AstExpr.TheOpen.{AstExpr-F}
use Rattle.pgql_tree.specs.declared.ast.AstExpr.TheFolds.{fold-AstExpr}
use Rattle.pgql_tree.specs.declared.level.Level.{Level}
use Rattle.pgql_tree.specs.declared.level.Level.TheVariants.{Or, And, Not, Test, Sum, Product, Sign, Primary}
use Rattle.pgql_tree.specs.Levels.{tighter}
use Rattle.pgql_print.specs.Printing.{level_of, left_of, sign_of, rank, is_looser, wrapped_by, wrapped, quoted, truth, null_test, spelled_step, spelled, own_by, own_level}
use Rattle.pgql_tree.proofs.Variants.{Is, is_Int, is_Text, is_Date, is_Bool, is_Name, is_Property, is_Id, is_Label, is_Not, is_Neg, is_IsNull, is_Binary, which}

pub spelled-Int : (n : ℤ) (at : ℕ) (p : Level) → spelled (e.Int n at) p ≡ signed_decimal n
unfolding spelled
spelled-Int n at p = ap (λ x. fold-AstExpr (Level → List ℕ) spelled_step x p) (sym (e.rolls-Int n at)) ∙ ap (λ f. f p) (fold-roll-AstExpr (Level → List ℕ) spelled_step (AstExpr-F.Int n at))

pub spelled-Text : (c : List ℕ) (at : ℕ) (p : Level) → spelled (e.Text c at) p ≡ quoted c
unfolding spelled
spelled-Text c at p = ap (λ x. fold-AstExpr (Level → List ℕ) spelled_step x p) (sym (e.rolls-Text c at)) ∙ ap (λ f. f p) (fold-roll-AstExpr (Level → List ℕ) spelled_step (AstExpr-F.Text c at))

pub spelled-Date : (c : List ℕ) (at : ℕ) (p : Level) → spelled (e.Date c at) p ≡ codes "DATE " ++ quoted c
unfolding spelled
spelled-Date c at p = ap (λ x. fold-AstExpr (Level → List ℕ) spelled_step x p) (sym (e.rolls-Date c at)) ∙ ap (λ f. f p) (fold-roll-AstExpr (Level → List ℕ) spelled_step (AstExpr-F.Date c at))

pub spelled-Bool : (w : Bool) (at : ℕ) (p : Level) → spelled (e.Bool w at) p ≡ truth w
unfolding spelled
spelled-Bool w at p = ap (λ x. fold-AstExpr (Level → List ℕ) spelled_step x p) (sym (e.rolls-Bool w at)) ∙ ap (λ f. f p) (fold-roll-AstExpr (Level → List ℕ) spelled_step (AstExpr-F.Bool w at))

pub spelled-Name : (n : List ℕ) (at : ℕ) (p : Level) → spelled (e.Name at n) p ≡ n
unfolding spelled
spelled-Name n at p = ap (λ x. fold-AstExpr (Level → List ℕ) spelled_step x p) (sym (e.rolls-Name at n)) ∙ ap (λ f. f p) (fold-roll-AstExpr (Level → List ℕ) spelled_step (AstExpr-F.Name at n))

pub spelled-Property : (v : List ℕ) (p : List ℕ) (at : ℕ) (q : Level) → spelled (e.Property at v p) q ≡ v ++ (codes "." ++ p)
unfolding spelled
spelled-Property v p at q = ap (λ x. fold-AstExpr (Level → List ℕ) spelled_step x q) (sym (e.rolls-Property at v p)) ∙ ap (λ f. f q) (fold-roll-AstExpr (Level → List ℕ) spelled_step (AstExpr-F.Property at v p))

pub spelled-Id : (v : Placed) (at : ℕ) (p : Level) → spelled (e.Id v at) p ≡ codes "id(" ++ (v.name ++ codes ")")
unfolding spelled
spelled-Id v at p = ap (λ x. fold-AstExpr (Level → List ℕ) spelled_step x p) (sym (e.rolls-Id v at)) ∙ ap (λ f. f p) (fold-roll-AstExpr (Level → List ℕ) spelled_step (AstExpr-F.Id v at))

pub spelled-Label : (v : Placed) (at : ℕ) (p : Level) → spelled (e.Label v at) p ≡ codes "label(" ++ (v.name ++ codes ")")
unfolding spelled
spelled-Label v at p = ap (λ x. fold-AstExpr (Level → List ℕ) spelled_step x p) (sym (e.rolls-Label v at)) ∙ ap (λ f. f p) (fold-roll-AstExpr (Level → List ℕ) spelled_step (AstExpr-F.Label v at))

pub spelled-Not : (x : AstExpr) (at : ℕ) (p : Level) → spelled (e.Not x at) p ≡ wrapped p Not (codes "NOT " ++ spelled x Not)
unfolding spelled
spelled-Not x at p = ap (λ x. fold-AstExpr (Level → List ℕ) spelled_step x p) (sym (e.rolls-Not x at)) ∙ ap (λ f. f p) (fold-roll-AstExpr (Level → List ℕ) spelled_step (AstExpr-F.Not x at))

pub spelled-Neg : (x : AstExpr) (at : ℕ) (p : Level) → spelled (e.Neg x at) p ≡ wrapped p Sign (codes "-" ++ spelled x Sign)
unfolding spelled
spelled-Neg x at p = ap (λ x. fold-AstExpr (Level → List ℕ) spelled_step x p) (sym (e.rolls-Neg x at)) ∙ ap (λ f. f p) (fold-roll-AstExpr (Level → List ℕ) spelled_step (AstExpr-F.Neg x at))

pub spelled-IsNull : (x : AstExpr) (w : Bool) (at : ℕ) (p : Level) → spelled (e.IsNull x w at) p ≡ wrapped p Test (spelled x Sum ++ null_test w)
unfolding spelled
spelled-IsNull x w at p = ap (λ x. fold-AstExpr (Level → List ℕ) spelled_step x p) (sym (e.rolls-IsNull x w at)) ∙ ap (λ f. f p) (fold-roll-AstExpr (Level → List ℕ) spelled_step (AstExpr-F.IsNull x w at))

pub spelled-Binary : (o : Op) (l : AstExpr) (r : AstExpr) (at : ℕ) (p : Level) → spelled (e.Binary o at l r) p ≡ wrapped p (level_of o) (spelled l (left_of o) ++ (sign_of o ++ spelled r (tighter (level_of o))))
unfolding spelled
spelled-Binary o l r at p = ap (λ x. fold-AstExpr (Level → List ℕ) spelled_step x p) (sym (e.rolls-Binary o at l r)) ∙ ap (λ f. f p) (fold-roll-AstExpr (Level → List ℕ) spelled_step (AstExpr-F.Binary o at l r))

pub own-Int : (n : ℤ) (at : ℕ) → own_level (e.Int n at) ≡ Primary
unfolding own_level
own-Int n at = ap own_by (e.outs-Int n at)

pub own-Text : (c : List ℕ) (at : ℕ) → own_level (e.Text c at) ≡ Primary
unfolding own_level
own-Text c at = ap own_by (e.outs-Text c at)

pub own-Date : (c : List ℕ) (at : ℕ) → own_level (e.Date c at) ≡ Primary
unfolding own_level
own-Date c at = ap own_by (e.outs-Date c at)

pub own-Bool : (w : Bool) (at : ℕ) → own_level (e.Bool w at) ≡ Primary
unfolding own_level
own-Bool w at = ap own_by (e.outs-Bool w at)

pub own-Name : (n : List ℕ) (at : ℕ) → own_level (e.Name at n) ≡ Primary
unfolding own_level
own-Name n at = ap own_by (e.outs-Name at n)

pub own-Property : (v : List ℕ) (p : List ℕ) (at : ℕ) → own_level (e.Property at v p) ≡ Primary
unfolding own_level
own-Property v p at = ap own_by (e.outs-Property at v p)

pub own-Id : (v : Placed) (at : ℕ) → own_level (e.Id v at) ≡ Primary
unfolding own_level
own-Id v at = ap own_by (e.outs-Id v at)

pub own-Label : (v : Placed) (at : ℕ) → own_level (e.Label v at) ≡ Primary
unfolding own_level
own-Label v at = ap own_by (e.outs-Label v at)

pub own-Not : (x : AstExpr) (at : ℕ) → own_level (e.Not x at) ≡ Not
unfolding own_level
own-Not x at = ap own_by (e.outs-Not x at)

pub own-Neg : (x : AstExpr) (at : ℕ) → own_level (e.Neg x at) ≡ Sign
unfolding own_level
own-Neg x at = ap own_by (e.outs-Neg x at)

pub own-IsNull : (x : AstExpr) (w : Bool) (at : ℕ) → own_level (e.IsNull x w at) ≡ Test
unfolding own_level
own-IsNull x w at = ap own_by (e.outs-IsNull x w at)

pub own-Binary : (o : Op) (l : AstExpr) (r : AstExpr) (at : ℕ) → own_level (e.Binary o at l r) ≡ level_of o
unfolding own_level
own-Binary o l r at = ap own_by (e.outs-Binary o at l r)

not_looser : (n : ℕ) → nat_lt n n ≡ false
not_looser n = grind (arith, nat_tests)

primary_lifts : (p : Level) → is_looser p Primary ≡ false
primary_lifts Or = refl
primary_lifts And = refl
primary_lifts Not = refl
primary_lifts Test = refl
primary_lifts Sum = refl
primary_lifts Product = refl
primary_lifts Sign = refl
primary_lifts Primary = refl

pub alone-Int : (n : ℤ) (at : ℕ) → spelled (e.Int n at) (own_level (e.Int n at)) ≡ signed_decimal n
alone-Int n at = spelled-Int n at (own_level (e.Int n at))

pub alone-Text : (c : List ℕ) (at : ℕ) → spelled (e.Text c at) (own_level (e.Text c at)) ≡ quoted c
alone-Text c at = spelled-Text c at (own_level (e.Text c at))

pub alone-Date : (c : List ℕ) (at : ℕ) → spelled (e.Date c at) (own_level (e.Date c at)) ≡ codes "DATE " ++ quoted c
alone-Date c at = spelled-Date c at (own_level (e.Date c at))

pub alone-Bool : (w : Bool) (at : ℕ) → spelled (e.Bool w at) (own_level (e.Bool w at)) ≡ truth w
alone-Bool w at = spelled-Bool w at (own_level (e.Bool w at))

pub alone-Name : (n : List ℕ) (at : ℕ) → spelled (e.Name at n) (own_level (e.Name at n)) ≡ n
alone-Name n at = spelled-Name n at (own_level (e.Name at n))

pub alone-Property : (v : List ℕ) (p : List ℕ) (at : ℕ) → spelled (e.Property at v p) (own_level (e.Property at v p)) ≡ v ++ (codes "." ++ p)
alone-Property v p at = spelled-Property v p at (own_level (e.Property at v p))

pub alone-Id : (v : Placed) (at : ℕ) → spelled (e.Id v at) (own_level (e.Id v at)) ≡ codes "id(" ++ (v.name ++ codes ")")
alone-Id v at = spelled-Id v at (own_level (e.Id v at))

pub alone-Label : (v : Placed) (at : ℕ) → spelled (e.Label v at) (own_level (e.Label v at)) ≡ codes "label(" ++ (v.name ++ codes ")")
alone-Label v at = spelled-Label v at (own_level (e.Label v at))

pub alone-Not : (x : AstExpr) (at : ℕ) → spelled (e.Not x at) (own_level (e.Not x at)) ≡ codes "NOT " ++ spelled x Not
alone-Not x at = ap (spelled (e.Not x at)) (own-Not x at) ∙ spelled-Not x at Not

pub alone-Neg : (x : AstExpr) (at : ℕ) → spelled (e.Neg x at) (own_level (e.Neg x at)) ≡ codes "-" ++ spelled x Sign
alone-Neg x at = ap (spelled (e.Neg x at)) (own-Neg x at) ∙ spelled-Neg x at Sign

pub alone-IsNull : (x : AstExpr) (w : Bool) (at : ℕ) → spelled (e.IsNull x w at) (own_level (e.IsNull x w at)) ≡ spelled x Sum ++ null_test w
alone-IsNull x w at = ap (spelled (e.IsNull x w at)) (own-IsNull x w at) ∙ spelled-IsNull x w at Test

pub alone-Binary : (o : Op) (l : AstExpr) (r : AstExpr) (at : ℕ) → spelled (e.Binary o at l r) (own_level (e.Binary o at l r)) ≡ spelled l (left_of o) ++ (sign_of o ++ spelled r (tighter (level_of o)))
alone-Binary o l r at = ap (spelled (e.Binary o at l r)) (own-Binary o l r at) ∙ spelled-Binary o l r at (level_of o)
    ∙ ap (λ b. wrapped_by b (spelled l (left_of o) ++ (sign_of o ++ spelled r (tighter (level_of o))))) (not_looser (rank (level_of o)))

leaf_is : (x : AstExpr) (p : Level) (text : List ℕ) → own_level x ≡ Primary → spelled x p ≡ text → spelled x (own_level x) ≡ text → spelled x p ≡ wrapped p (own_level x) (spelled x (own_level x))
leaf_is x p text own at_place alone = at_place ∙ sym alone ∙ sym (ap (λ v. wrapped p v (spelled x (own_level x))) own ∙ ap (λ b. wrapped_by b (spelled x (own_level x))) (primary_lifts p))

node_is : (x : AstExpr) (p level : Level) (text : List ℕ) → own_level x ≡ level → spelled x p ≡ wrapped p level text → spelled x (own_level x) ≡ text → spelled x p ≡ wrapped p (own_level x) (spelled x (own_level x))
node_is x p level text own at_place alone = at_place ∙ sym (ap (λ v. wrapped p v (spelled x (own_level x))) own ∙ ap (wrapped p level) alone)

spelled_is : (x : AstExpr) (p : Level) → spelled x p ≡ wrapped p (own_level x) (spelled x (own_level x))
spelled_is x p = by_which x (which x)
  where
    by_which : (x : AstExpr) → Is x → spelled x p ≡ wrapped p (own_level x) (spelled x (own_level x))
    by_which _ (is_Int n at) = leaf_is (e.Int n at) p (signed_decimal n) (own-Int n at) (spelled-Int n at p) (alone-Int n at)
    by_which _ (is_Text c at) = leaf_is (e.Text c at) p (quoted c) (own-Text c at) (spelled-Text c at p) (alone-Text c at)
    by_which _ (is_Date c at) = leaf_is (e.Date c at) p (codes "DATE " ++ quoted c) (own-Date c at) (spelled-Date c at p) (alone-Date c at)
    by_which _ (is_Bool w at) = leaf_is (e.Bool w at) p (truth w) (own-Bool w at) (spelled-Bool w at p) (alone-Bool w at)
    by_which _ (is_Name n at) = leaf_is (e.Name at n) p (n) (own-Name n at) (spelled-Name n at p) (alone-Name n at)
    by_which _ (is_Property v q at) = leaf_is (e.Property at v q) p (v ++ (codes "." ++ q)) (own-Property v q at) (spelled-Property v q at p) (alone-Property v q at)
    by_which _ (is_Id v at) = leaf_is (e.Id v at) p (codes "id(" ++ (v.name ++ codes ")")) (own-Id v at) (spelled-Id v at p) (alone-Id v at)
    by_which _ (is_Label v at) = leaf_is (e.Label v at) p (codes "label(" ++ (v.name ++ codes ")")) (own-Label v at) (spelled-Label v at p) (alone-Label v at)
    by_which _ (is_Not x at) = node_is (e.Not x at) p Not (codes "NOT " ++ spelled x Not) (own-Not x at) (spelled-Not x at p) (alone-Not x at)
    by_which _ (is_Neg x at) = node_is (e.Neg x at) p Sign (codes "-" ++ spelled x Sign) (own-Neg x at) (spelled-Neg x at p) (alone-Neg x at)
    by_which _ (is_IsNull x w at) = node_is (e.IsNull x w at) p Test (spelled x Sum ++ null_test w) (own-IsNull x w at) (spelled-IsNull x w at p) (alone-IsNull x w at)
    by_which _ (is_Binary o l r at) = node_is (e.Binary o at l r) p (level_of o) (spelled l (left_of o) ++ (sign_of o ++ spelled r (tighter (level_of o)))) (own-Binary o l r at) (spelled-Binary o l r at p) (alone-Binary o l r at)

pub with_parentheses : (x : AstExpr) (p : Level) → is_looser p (own_level x) ≡ true → spelled x p ≡ codes "(" ++ (spelled x (own_level x) ++ codes ")")
with_parentheses x p t = spelled_is x p ∙ ap (λ b. wrapped_by b (spelled x (own_level x))) t

pub without_parentheses : (x : AstExpr) (p : Level) → is_looser p (own_level x) ≡ false → spelled x p ≡ spelled x (own_level x)
without_parentheses x p t = spelled_is x p ∙ ap (λ b. wrapped_by b (spelled x (own_level x))) t

-- what one, two and three writes make
pub one_write : {A : Type 0} (old a xs whole : List A) → a ≡ old ++ xs → whole ≡ xs → a ≡ old ++ whole
one_write old a xs whole e w = e ∙ ap (λ v. old ++ v) (sym w)

pub two_writes : {A : Type 0} (old a b xs ys whole : List A) → a ≡ old ++ xs → b ≡ a ++ ys → whole ≡ xs ++ ys → b ≡ old ++ whole
two_writes old a b xs ys whole e f w = f ∙ ap (λ v. v ++ ys) e ∙ append_assoc old xs ys ∙ ap (λ v. old ++ v) (sym w)

pub three_writes : {A : Type 0} (old a b c xs ys zs whole : List A) → a ≡ old ++ xs → b ≡ a ++ ys → c ≡ b ++ zs → whole ≡ xs ++ (ys ++ zs) → c ≡ old ++ whole
three_writes old a b c xs ys zs whole e f g w = two_writes old a c xs (ys ++ zs) whole e (g ∙ ap (λ v. v ++ zs) f ∙ append_assoc a ys zs) w
