-- `same` answers true exactly where two expressions are equal apart from places.
use Rattle.std.proofs.Common.{◌≡◌, ◌∙◌, refl, sym, ap, ℕ, ℤ, Bool, true, false, ◌&&◌, List, [], ◌∷◌, get_or}
use Rattle.std.specs.Bool.{Decides}
use Rattle.std.proofs.lemmas.Bool.Decides.{Decides-and, Decides-at, Decides-eqb, Decides-int_eq, Decides-like}
use Rattle.std.specs.Ordering.{int_eq}
use Rattle.std.specs.Str.{bytes_eq}
use Rattle.std.proofs.lemmas.Slice.Eq.{bytes_eq-Decides}
use Rattle.pgql_tree.specs.declared.ast.AstExpr.{AstExpr, out-AstExpr, roll-AstExpr, roll-out-AstExpr}
use Rattle.pgql_tree.specs.declared.ast.AstExpr.TheOpen.{AstExpr-F}
use Rattle.pgql_tree.specs.declared.ast.AstExpr.TheVariants as ast
use Rattle.pgql_tree.specs.declared.ast.Op.{Op}
use Rattle.pgql_tree.specs.declared.ast.Op.TheVariants as op
use Rattle.pgql_tree.specs.declared.ast.Placed.{Placed}
use Rattle.pgql_tree.specs.Same.{bare}
use Rattle.pgql_tree.proofs.Bare as bare
use Rattle.typed_expr.specs.Same.{is_binary, is_bool, is_date, is_id, is_inside, is_int, is_label, is_name, is_null_test, is_property, is_text, neg_inside, not_inside, null_test_inside, op_number, same, same_op, same_truth, sides}
use Rattle.typed_expr.proofs.AstByParts.{by_parts}
use Rattle.typed_expr.proofs.Sames as test

-- the two are equal apart from places exactly where `same` says so
abbrev pub IsTold : AstExpr → AstExpr → Type 0
IsTold a b = Decides (same a b) (bare a ≡ bare b)

Decides-same_truth : (a b : Bool) → Decides (same_truth a b) (a ≡ b)
Decides-same_truth true true = ((λ e. refl), (λ e. refl))
Decides-same_truth true false = ((λ e. absurd cc), (λ e. absurd cc))
Decides-same_truth false true = ((λ e. absurd cc), (λ e. absurd cc))
Decides-same_truth false false = ((λ e. refl), (λ e. refl))

abbrev ops : List Op
ops = op.Or ∷ op.And ∷ op.Equal ∷ op.Unequal ∷ op.Less ∷ op.LessEqual ∷ op.Greater ∷ op.GreaterEqual ∷ op.Add ∷ op.Subtract ∷ op.Multiply ∷ op.Divide ∷ op.Remainder ∷ []

abbrev op_of : ℕ → Op
op_of number = get_or ops number op.Or

op_of-number : (o : Op) → op_of (op_number o) ≡ o
op_of-number op.Or = refl
op_of-number op.And = refl
op_of-number op.Equal = refl
op_of-number op.Unequal = refl
op_of-number op.Less = refl
op_of-number op.LessEqual = refl
op_of-number op.Greater = refl
op_of-number op.GreaterEqual = refl
op_of-number op.Add = refl
op_of-number op.Subtract = refl
op_of-number op.Multiply = refl
op_of-number op.Divide = refl
op_of-number op.Remainder = refl

Decides-same_op : (a b : Op) → Decides (same_op a b) (a ≡ b)
Decides-same_op a b = Decides-like (same_op a b) (λ e. sym (op_of-number a) ∙ ap op_of e ∙ op_of-number b) (ap op_number) (Decides-eqb (op_number a) (op_number b))

told : (a b : AstExpr) (r : Bool) (P : Type 0) → same a b ≡ r → Decides r P → (P → bare a ≡ bare b) → (bare a ≡ bare b → P) → IsTold a b
told a b r P is decides there back = Decides-at (same a b) r is (Decides-like r there back decides)

not_told : (a b : AstExpr) → same a b ≡ false → (bare a ≡ bare b → ⊥) → IsTold a b
not_told a b is never = ((λ e. absurd (let both : true ≡ false = sym e ∙ is in cc)), (λ e. absurd (never e)))

-- an expression with a layer
layered : (b : AstExpr) (f : AstExpr-F AstExpr) (whole : AstExpr) → out-AstExpr b ≡ f → roll-AstExpr f ≡ whole → b ≡ whole
layered b f whole is rolls = sym (roll-out-AstExpr b) ∙ ap roll-AstExpr is ∙ rolls

told-Int : (n : ℤ) (s : ℕ) → (b : AstExpr) → IsTold (ast.Int n s) b
told-Int n s b = by_layer (out-AstExpr b) refl
  where
    by_layer : (f : AstExpr-F AstExpr) → out-AstExpr b ≡ f → IsTold (ast.Int n s) b
    by_layer (AstExpr-F.Int m at) is =
        let both = bare.same-Int (ast.Int n s) b n m s at refl (layered b (AstExpr-F.Int m at) (ast.Int m at) is (ast.rolls-Int m at)) in
        told (ast.Int n s) b (int_eq n m) (n ≡ m)
        (test.same-Int (ast.Int n s) b n s refl ∙ ap (is_int n) is) (Decides-int_eq n m) both.0 both.1
    by_layer other is =
        not_told (ast.Int n s) b (test.same-Int (ast.Int n s) b n s refl ∙ ap (is_int n) is)
        (bare.other-Int (ast.Int n s) b n s refl (λ m at b_is. let f : ◌≡◌ {A = AstExpr-F AstExpr} other (AstExpr-F.Int m at) = sym is ∙ ap out-AstExpr b_is ∙ ast.outs-Int m at in cc))

told-Text : (c : List ℕ) (s : ℕ) → (b : AstExpr) → IsTold (ast.Text c s) b
told-Text c s b = by_layer (out-AstExpr b) refl
  where
    by_layer : (f : AstExpr-F AstExpr) → out-AstExpr b ≡ f → IsTold (ast.Text c s) b
    by_layer (AstExpr-F.Text d at) is =
        let both = bare.same-Text (ast.Text c s) b c d s at refl (layered b (AstExpr-F.Text d at) (ast.Text d at) is (ast.rolls-Text d at)) in
        told (ast.Text c s) b (bytes_eq c d) (c ≡ d)
        (test.same-Text (ast.Text c s) b c s refl ∙ ap (is_text c) is) (bytes_eq-Decides c d) both.0 both.1
    by_layer other is =
        not_told (ast.Text c s) b (test.same-Text (ast.Text c s) b c s refl ∙ ap (is_text c) is)
        (bare.other-Text (ast.Text c s) b c s refl (λ d at b_is. let f : ◌≡◌ {A = AstExpr-F AstExpr} other (AstExpr-F.Text d at) = sym is ∙ ap out-AstExpr b_is ∙ ast.outs-Text d at in cc))

told-Date : (c : List ℕ) (s : ℕ) → (b : AstExpr) → IsTold (ast.Date c s) b
told-Date c s b = by_layer (out-AstExpr b) refl
  where
    by_layer : (f : AstExpr-F AstExpr) → out-AstExpr b ≡ f → IsTold (ast.Date c s) b
    by_layer (AstExpr-F.Date d at) is =
        let both = bare.same-Date (ast.Date c s) b c d s at refl (layered b (AstExpr-F.Date d at) (ast.Date d at) is (ast.rolls-Date d at)) in
        told (ast.Date c s) b (bytes_eq c d) (c ≡ d)
        (test.same-Date (ast.Date c s) b c s refl ∙ ap (is_date c) is) (bytes_eq-Decides c d) both.0 both.1
    by_layer other is =
        not_told (ast.Date c s) b (test.same-Date (ast.Date c s) b c s refl ∙ ap (is_date c) is)
        (bare.other-Date (ast.Date c s) b c s refl (λ d at b_is. let f : ◌≡◌ {A = AstExpr-F AstExpr} other (AstExpr-F.Date d at) = sym is ∙ ap out-AstExpr b_is ∙ ast.outs-Date d at in cc))

told-Bool : (t : Bool) (s : ℕ) → (b : AstExpr) → IsTold (ast.Bool t s) b
told-Bool t s b = by_layer (out-AstExpr b) refl
  where
    by_layer : (f : AstExpr-F AstExpr) → out-AstExpr b ≡ f → IsTold (ast.Bool t s) b
    by_layer (AstExpr-F.Bool u at) is =
        let both = bare.same-Bool (ast.Bool t s) b t u s at refl (layered b (AstExpr-F.Bool u at) (ast.Bool u at) is (ast.rolls-Bool u at)) in
        told (ast.Bool t s) b (same_truth t u) (t ≡ u)
        (test.same-Bool (ast.Bool t s) b t s refl ∙ ap (is_bool t) is) (Decides-same_truth t u) both.0 both.1
    by_layer other is =
        not_told (ast.Bool t s) b (test.same-Bool (ast.Bool t s) b t s refl ∙ ap (is_bool t) is)
        (bare.other-Bool (ast.Bool t s) b t s refl (λ u at b_is. let f : ◌≡◌ {A = AstExpr-F AstExpr} other (AstExpr-F.Bool u at) = sym is ∙ ap out-AstExpr b_is ∙ ast.outs-Bool u at in cc))

told-Name : (c : List ℕ) (s : ℕ) → (b : AstExpr) → IsTold (ast.Name s c) b
told-Name c s b = by_layer (out-AstExpr b) refl
  where
    by_layer : (f : AstExpr-F AstExpr) → out-AstExpr b ≡ f → IsTold (ast.Name s c) b
    by_layer (AstExpr-F.Name at d) is =
        let both = bare.same-Name (ast.Name s c) b c d s at refl (layered b (AstExpr-F.Name at d) (ast.Name at d) is (ast.rolls-Name at d)) in
        told (ast.Name s c) b (bytes_eq c d) (c ≡ d)
        (test.same-Name (ast.Name s c) b c s refl ∙ ap (is_name c) is) (bytes_eq-Decides c d) both.0 both.1
    by_layer other is =
        not_told (ast.Name s c) b (test.same-Name (ast.Name s c) b c s refl ∙ ap (is_name c) is)
        (bare.other-Name (ast.Name s c) b c s refl (λ d at b_is. let f : ◌≡◌ {A = AstExpr-F AstExpr} other (AstExpr-F.Name at d) = sym is ∙ ap out-AstExpr b_is ∙ ast.outs-Name at d in cc))

told-Property : (v : List ℕ) (p : List ℕ) (s : ℕ) → (b : AstExpr) → IsTold (ast.Property s v p) b
told-Property v p s b = by_layer (out-AstExpr b) refl
  where
    by_layer : (f : AstExpr-F AstExpr) → out-AstExpr b ≡ f → IsTold (ast.Property s v p) b
    by_layer (AstExpr-F.Property at w q) is =
        let both = bare.same-Property (ast.Property s v p) b v p w q s at refl (layered b (AstExpr-F.Property at w q) (ast.Property at w q) is (ast.rolls-Property at w q)) in
        told (ast.Property s v p) b (bytes_eq v w && bytes_eq p q) ((v ≡ w) × (p ≡ q))
        (test.same-Property (ast.Property s v p) b v p s refl ∙ ap (is_property v p) is) (Decides-and (bytes_eq v w) (bytes_eq p q) (bytes_eq-Decides v w) (bytes_eq-Decides p q)) (λ e. both.0 e.0 e.1) both.1
    by_layer other is =
        not_told (ast.Property s v p) b (test.same-Property (ast.Property s v p) b v p s refl ∙ ap (is_property v p) is)
        (bare.other-Property (ast.Property s v p) b v p s refl (λ w q at b_is. let f : ◌≡◌ {A = AstExpr-F AstExpr} other (AstExpr-F.Property at w q) = sym is ∙ ap out-AstExpr b_is ∙ ast.outs-Property at w q in cc))

told-Id : (v : Placed) (s : ℕ) → (b : AstExpr) → IsTold (ast.Id v s) b
told-Id v s b = by_layer (out-AstExpr b) refl
  where
    by_layer : (f : AstExpr-F AstExpr) → out-AstExpr b ≡ f → IsTold (ast.Id v s) b
    by_layer (AstExpr-F.Id w at) is =
        let both = bare.same-Id (ast.Id v s) b v w s at refl (layered b (AstExpr-F.Id w at) (ast.Id w at) is (ast.rolls-Id w at)) in
        told (ast.Id v s) b (bytes_eq v.name w.name) (v.name ≡ w.name)
        (test.same-Id (ast.Id v s) b v s refl ∙ ap (is_id v.name) is) (bytes_eq-Decides v.name w.name) both.0 both.1
    by_layer other is =
        not_told (ast.Id v s) b (test.same-Id (ast.Id v s) b v s refl ∙ ap (is_id v.name) is)
        (bare.other-Id (ast.Id v s) b v s refl (λ w at b_is. let f : ◌≡◌ {A = AstExpr-F AstExpr} other (AstExpr-F.Id w at) = sym is ∙ ap out-AstExpr b_is ∙ ast.outs-Id w at in cc))

told-Label : (v : Placed) (s : ℕ) → (b : AstExpr) → IsTold (ast.Label v s) b
told-Label v s b = by_layer (out-AstExpr b) refl
  where
    by_layer : (f : AstExpr-F AstExpr) → out-AstExpr b ≡ f → IsTold (ast.Label v s) b
    by_layer (AstExpr-F.Label w at) is =
        let both = bare.same-Label (ast.Label v s) b v w s at refl (layered b (AstExpr-F.Label w at) (ast.Label w at) is (ast.rolls-Label w at)) in
        told (ast.Label v s) b (bytes_eq v.name w.name) (v.name ≡ w.name)
        (test.same-Label (ast.Label v s) b v s refl ∙ ap (is_label v.name) is) (bytes_eq-Decides v.name w.name) both.0 both.1
    by_layer other is =
        not_told (ast.Label v s) b (test.same-Label (ast.Label v s) b v s refl ∙ ap (is_label v.name) is)
        (bare.other-Label (ast.Label v s) b v s refl (λ w at b_is. let f : ◌≡◌ {A = AstExpr-F AstExpr} other (AstExpr-F.Label w at) = sym is ∙ ap out-AstExpr b_is ∙ ast.outs-Label w at in cc))

told-Not : (x : AstExpr) (s : ℕ) → ((y : AstExpr) → IsTold x y) → (b : AstExpr) → IsTold (ast.Not x s) b
told-Not x s inside b = by_layer (out-AstExpr b) refl
  where
    by_layer : (f : AstExpr-F AstExpr) → out-AstExpr b ≡ f → IsTold (ast.Not x s) b
    by_layer (AstExpr-F.Not y at) is =
        let both = bare.same-Not (ast.Not x s) b x y s at refl (layered b (AstExpr-F.Not y at) (ast.Not y at) is (ast.rolls-Not y at)) in
        told (ast.Not x s) b (same x y) (bare x ≡ bare y)
        (sym (test.same-Not (ast.Not x s) b x s (not_inside (out-AstExpr b)) refl refl) ∙ ap (λ f. is_inside (same x) (not_inside f)) is) (inside y) both.0 both.1
    by_layer other is =
        not_told (ast.Not x s) b (sym (test.same-Not (ast.Not x s) b x s (not_inside (out-AstExpr b)) refl refl) ∙ ap (λ f. is_inside (same x) (not_inside f)) is)
        (bare.other-Not (ast.Not x s) b x s refl (λ y at b_is. let f : ◌≡◌ {A = AstExpr-F AstExpr} other (AstExpr-F.Not y at) = sym is ∙ ap out-AstExpr b_is ∙ ast.outs-Not y at in cc))

told-Neg : (x : AstExpr) (s : ℕ) → ((y : AstExpr) → IsTold x y) → (b : AstExpr) → IsTold (ast.Neg x s) b
told-Neg x s inside b = by_layer (out-AstExpr b) refl
  where
    by_layer : (f : AstExpr-F AstExpr) → out-AstExpr b ≡ f → IsTold (ast.Neg x s) b
    by_layer (AstExpr-F.Neg y at) is =
        let both = bare.same-Neg (ast.Neg x s) b x y s at refl (layered b (AstExpr-F.Neg y at) (ast.Neg y at) is (ast.rolls-Neg y at)) in
        told (ast.Neg x s) b (same x y) (bare x ≡ bare y)
        (sym (test.same-Neg (ast.Neg x s) b x s (neg_inside (out-AstExpr b)) refl refl) ∙ ap (λ f. is_inside (same x) (neg_inside f)) is) (inside y) both.0 both.1
    by_layer other is =
        not_told (ast.Neg x s) b (sym (test.same-Neg (ast.Neg x s) b x s (neg_inside (out-AstExpr b)) refl refl) ∙ ap (λ f. is_inside (same x) (neg_inside f)) is)
        (bare.other-Neg (ast.Neg x s) b x s refl (λ y at b_is. let f : ◌≡◌ {A = AstExpr-F AstExpr} other (AstExpr-F.Neg y at) = sym is ∙ ap out-AstExpr b_is ∙ ast.outs-Neg y at in cc))

told-IsNull : (x : AstExpr) (t : Bool) (s : ℕ) → ((y : AstExpr) → IsTold x y) → (b : AstExpr) → IsTold (ast.IsNull x t s) b
told-IsNull x t s inside b = by_layer (out-AstExpr b) refl
  where
    by_layer : (f : AstExpr-F AstExpr) → out-AstExpr b ≡ f → IsTold (ast.IsNull x t s) b
    by_layer (AstExpr-F.IsNull y u at) is =
        let both = bare.same-IsNull (ast.IsNull x t s) b x t y u s at refl (layered b (AstExpr-F.IsNull y u at) (ast.IsNull y u at) is (ast.rolls-IsNull y u at)) in
        told (ast.IsNull x t s) b (same_truth t u && same x y) ((t ≡ u) × (bare x ≡ bare y))
        (sym (test.same-IsNull (ast.IsNull x t s) b x t s (null_test_inside (out-AstExpr b)) refl refl) ∙ ap (λ f. is_null_test (same x) t (null_test_inside f)) is) (Decides-and (same_truth t u) (same x y) (Decides-same_truth t u) (inside y)) (λ e. both.0 e.1 e.0) (λ e. let parts = both.1 e in (parts.1, parts.0))
    by_layer other is =
        not_told (ast.IsNull x t s) b (sym (test.same-IsNull (ast.IsNull x t s) b x t s (null_test_inside (out-AstExpr b)) refl refl) ∙ ap (λ f. is_null_test (same x) t (null_test_inside f)) is)
        (bare.other-IsNull (ast.IsNull x t s) b x t s refl (λ y u at b_is. let f : ◌≡◌ {A = AstExpr-F AstExpr} other (AstExpr-F.IsNull y u at) = sym is ∙ ap out-AstExpr b_is ∙ ast.outs-IsNull y u at in cc))

told-Binary : (o : Op) (l : AstExpr) (r : AstExpr) (s : ℕ) → ((y : AstExpr) → IsTold l y) → ((y : AstExpr) → IsTold r y) → (b : AstExpr) → IsTold (ast.Binary o s l r) b
told-Binary o l r s left right b = by_layer (out-AstExpr b) refl
  where
    by_layer : (f : AstExpr-F AstExpr) → out-AstExpr b ≡ f → IsTold (ast.Binary o s l r) b
    by_layer (AstExpr-F.Binary o' at l' r') is =
        let both = bare.same-Binary (ast.Binary o s l r) b o l r o' l' r' s at refl (layered b (AstExpr-F.Binary o' at l' r') (ast.Binary o' at l' r') is (ast.rolls-Binary o' at l' r')) in
        told (ast.Binary o s l r) b (same_op o o' && same l l' && same r r') (((o ≡ o') × (bare l ≡ bare l')) × (bare r ≡ bare r'))
        (sym (test.same-Binary (ast.Binary o s l r) b o l r s (sides (out-AstExpr b)) refl refl) ∙ ap (λ f. is_binary o (same l) (same r) (sides f)) is)
        (Decides-and (same_op o o' && same l l') (same r r') (Decides-and (same_op o o') (same l l') (Decides-same_op o o') (left l')) (right r'))
        (λ e. both.0 e.0.0 e.0.1 e.1) (λ e. let parts = both.1 e in ((parts.0, parts.1), parts.2))
    by_layer other is =
        not_told (ast.Binary o s l r) b (sym (test.same-Binary (ast.Binary o s l r) b o l r s (sides (out-AstExpr b)) refl refl) ∙ ap (λ f. is_binary o (same l) (same r) (sides f)) is)
        (bare.other-Binary (ast.Binary o s l r) b o l r s refl (λ o' l' r' at b_is. let f : ◌≡◌ {A = AstExpr-F AstExpr} other (AstExpr-F.Binary o' at l' r') = sym is ∙ ap out-AstExpr b_is ∙ ast.outs-Binary o' at l' r' in cc))

pub is_told : (a b : AstExpr) → IsTold a b
is_told = by_parts (λ a. (b : AstExpr) → IsTold a b) (record {
  int = told-Int;
  text = told-Text;
  date = told-Date;
  bool = told-Bool;
  name = told-Name;
  property = told-Property;
  id = told-Id;
  label = told-Label;
  not = told-Not;
  neg = told-Neg;
  is_null = told-IsNull;
  binary = told-Binary;
})
