-- Trees with each place 0, and what their equations tell.
use Rattle.std.proofs.Common.{◌≡◌, ℕ, Bool, List, refl, sym, ap, ◌∙◌}
use Rattle.std.specs.Prelude.{ℤ}
use Rattle.pgql_tree.specs.declared.ast.Op.{Op}
use Rattle.pgql_tree.specs.declared.ast.Placed.{Placed}
use Rattle.pgql_tree.specs.declared.ast.AstExpr.{AstExpr, out-AstExpr, fold-roll-AstExpr}
use Rattle.pgql_tree.specs.declared.ast.AstExpr.TheVariants as e
use Rattle.pgql_tree.specs.declared.ast.AstExpr.TheOpen.{AstExpr-F}
use Rattle.pgql_tree.specs.declared.ast.AstExpr.TheFolds.{fold-AstExpr}
use Rattle.pgql_tree.specs.Same.{bare_name, bare_step, bare}
use Rattle.pgql_tree.proofs.Variants.{Is, is_Int, is_Text, is_Date, is_Bool, is_Name, is_Property, is_Id, is_Label, is_Not, is_Neg, is_IsNull, is_Binary, which}

pub bare-Int : (n : ℤ) (at : ℕ) → bare (e.Int n at) ≡ e.Int n 0
unfolding bare
bare-Int n at = ap (fold-AstExpr AstExpr bare_step) (sym (e.rolls-Int n at)) ∙ fold-roll-AstExpr AstExpr bare_step (AstExpr-F.Int n at)

layer-Int : (a : AstExpr) (n : ℤ) (at : ℕ) → a ≡ e.Int n at → out-AstExpr (bare a) ≡ AstExpr-F.Int n 0
layer-Int a n at q = ap (λ x. out-AstExpr (bare x)) q ∙ ap out-AstExpr (bare-Int n at) ∙ e.outs-Int n 0

pub bare-Text : (c : List ℕ) (at : ℕ) → bare (e.Text c at) ≡ e.Text c 0
unfolding bare
bare-Text c at = ap (fold-AstExpr AstExpr bare_step) (sym (e.rolls-Text c at)) ∙ fold-roll-AstExpr AstExpr bare_step (AstExpr-F.Text c at)

layer-Text : (a : AstExpr) (c : List ℕ) (at : ℕ) → a ≡ e.Text c at → out-AstExpr (bare a) ≡ AstExpr-F.Text c 0
layer-Text a c at q = ap (λ x. out-AstExpr (bare x)) q ∙ ap out-AstExpr (bare-Text c at) ∙ e.outs-Text c 0

pub bare-Date : (c : List ℕ) (at : ℕ) → bare (e.Date c at) ≡ e.Date c 0
unfolding bare
bare-Date c at = ap (fold-AstExpr AstExpr bare_step) (sym (e.rolls-Date c at)) ∙ fold-roll-AstExpr AstExpr bare_step (AstExpr-F.Date c at)

layer-Date : (a : AstExpr) (c : List ℕ) (at : ℕ) → a ≡ e.Date c at → out-AstExpr (bare a) ≡ AstExpr-F.Date c 0
layer-Date a c at q = ap (λ x. out-AstExpr (bare x)) q ∙ ap out-AstExpr (bare-Date c at) ∙ e.outs-Date c 0

pub bare-Bool : (w : Bool) (at : ℕ) → bare (e.Bool w at) ≡ e.Bool w 0
unfolding bare
bare-Bool w at = ap (fold-AstExpr AstExpr bare_step) (sym (e.rolls-Bool w at)) ∙ fold-roll-AstExpr AstExpr bare_step (AstExpr-F.Bool w at)

layer-Bool : (a : AstExpr) (w : Bool) (at : ℕ) → a ≡ e.Bool w at → out-AstExpr (bare a) ≡ AstExpr-F.Bool w 0
layer-Bool a w at q = ap (λ x. out-AstExpr (bare x)) q ∙ ap out-AstExpr (bare-Bool w at) ∙ e.outs-Bool w 0

pub bare-Name : (n : List ℕ) (at : ℕ) → bare (e.Name at n) ≡ e.Name 0 n
unfolding bare
bare-Name n at = ap (fold-AstExpr AstExpr bare_step) (sym (e.rolls-Name at n)) ∙ fold-roll-AstExpr AstExpr bare_step (AstExpr-F.Name at n)

layer-Name : (a : AstExpr) (n : List ℕ) (at : ℕ) → a ≡ e.Name at n → out-AstExpr (bare a) ≡ AstExpr-F.Name 0 n
layer-Name a n at q = ap (λ x. out-AstExpr (bare x)) q ∙ ap out-AstExpr (bare-Name n at) ∙ e.outs-Name 0 n

pub bare-Property : (v : List ℕ) (p : List ℕ) (at : ℕ) → bare (e.Property at v p) ≡ e.Property 0 v p
unfolding bare
bare-Property v p at = ap (fold-AstExpr AstExpr bare_step) (sym (e.rolls-Property at v p)) ∙ fold-roll-AstExpr AstExpr bare_step (AstExpr-F.Property at v p)

layer-Property : (a : AstExpr) (v : List ℕ) (p : List ℕ) (at : ℕ) → a ≡ e.Property at v p → out-AstExpr (bare a) ≡ AstExpr-F.Property 0 v p
layer-Property a v p at q = ap (λ x. out-AstExpr (bare x)) q ∙ ap out-AstExpr (bare-Property v p at) ∙ e.outs-Property 0 v p

pub bare-Id : (v : Placed) (at : ℕ) → bare (e.Id v at) ≡ e.Id (bare_name v) 0
unfolding bare
bare-Id v at = ap (fold-AstExpr AstExpr bare_step) (sym (e.rolls-Id v at)) ∙ fold-roll-AstExpr AstExpr bare_step (AstExpr-F.Id v at)

layer-Id : (a : AstExpr) (v : Placed) (at : ℕ) → a ≡ e.Id v at → out-AstExpr (bare a) ≡ AstExpr-F.Id (bare_name v) 0
layer-Id a v at q = ap (λ x. out-AstExpr (bare x)) q ∙ ap out-AstExpr (bare-Id v at) ∙ e.outs-Id (bare_name v) 0

pub bare-Label : (v : Placed) (at : ℕ) → bare (e.Label v at) ≡ e.Label (bare_name v) 0
unfolding bare
bare-Label v at = ap (fold-AstExpr AstExpr bare_step) (sym (e.rolls-Label v at)) ∙ fold-roll-AstExpr AstExpr bare_step (AstExpr-F.Label v at)

layer-Label : (a : AstExpr) (v : Placed) (at : ℕ) → a ≡ e.Label v at → out-AstExpr (bare a) ≡ AstExpr-F.Label (bare_name v) 0
layer-Label a v at q = ap (λ x. out-AstExpr (bare x)) q ∙ ap out-AstExpr (bare-Label v at) ∙ e.outs-Label (bare_name v) 0

pub bare-Not : (x : AstExpr) (at : ℕ) → bare (e.Not x at) ≡ e.Not (bare x) 0
unfolding bare
bare-Not x at = ap (fold-AstExpr AstExpr bare_step) (sym (e.rolls-Not x at)) ∙ fold-roll-AstExpr AstExpr bare_step (AstExpr-F.Not x at)

layer-Not : (a : AstExpr) (x : AstExpr) (at : ℕ) → a ≡ e.Not x at → out-AstExpr (bare a) ≡ AstExpr-F.Not (bare x) 0
layer-Not a x at q = ap (λ x. out-AstExpr (bare x)) q ∙ ap out-AstExpr (bare-Not x at) ∙ e.outs-Not (bare x) 0

pub bare-Neg : (x : AstExpr) (at : ℕ) → bare (e.Neg x at) ≡ e.Neg (bare x) 0
unfolding bare
bare-Neg x at = ap (fold-AstExpr AstExpr bare_step) (sym (e.rolls-Neg x at)) ∙ fold-roll-AstExpr AstExpr bare_step (AstExpr-F.Neg x at)

layer-Neg : (a : AstExpr) (x : AstExpr) (at : ℕ) → a ≡ e.Neg x at → out-AstExpr (bare a) ≡ AstExpr-F.Neg (bare x) 0
layer-Neg a x at q = ap (λ x. out-AstExpr (bare x)) q ∙ ap out-AstExpr (bare-Neg x at) ∙ e.outs-Neg (bare x) 0

pub bare-IsNull : (x : AstExpr) (w : Bool) (at : ℕ) → bare (e.IsNull x w at) ≡ e.IsNull (bare x) w 0
unfolding bare
bare-IsNull x w at = ap (fold-AstExpr AstExpr bare_step) (sym (e.rolls-IsNull x w at)) ∙ fold-roll-AstExpr AstExpr bare_step (AstExpr-F.IsNull x w at)

layer-IsNull : (a : AstExpr) (x : AstExpr) (w : Bool) (at : ℕ) → a ≡ e.IsNull x w at → out-AstExpr (bare a) ≡ AstExpr-F.IsNull (bare x) w 0
layer-IsNull a x w at q = ap (λ x. out-AstExpr (bare x)) q ∙ ap out-AstExpr (bare-IsNull x w at) ∙ e.outs-IsNull (bare x) w 0

pub bare-Binary : (o : Op) (l : AstExpr) (r : AstExpr) (at : ℕ) → bare (e.Binary o at l r) ≡ e.Binary o 0 (bare l) (bare r)
unfolding bare
bare-Binary o l r at = ap (fold-AstExpr AstExpr bare_step) (sym (e.rolls-Binary o at l r)) ∙ fold-roll-AstExpr AstExpr bare_step (AstExpr-F.Binary o at l r)

layer-Binary : (a : AstExpr) (o : Op) (l : AstExpr) (r : AstExpr) (at : ℕ) → a ≡ e.Binary o at l r → out-AstExpr (bare a) ≡ AstExpr-F.Binary o 0 (bare l) (bare r)
layer-Binary a o l r at q = ap (λ x. out-AstExpr (bare x)) q ∙ ap out-AstExpr (bare-Binary o l r at) ∙ e.outs-Binary o 0 (bare l) (bare r)

pub same-Int : (a b : AstExpr) (n : ℤ) (n2 : ℤ) (s s2 : ℕ) → a ≡ e.Int n s → b ≡ e.Int n2 s2
    → (n ≡ n2 → bare a ≡ bare b) × (bare a ≡ bare b → n ≡ n2)
same-Int a b n n2 s s2 q q2 = (
  (λ h1. ap bare q ∙ bare-Int n s ∙ ap (λ z. e.Int z 0) h1 ∙ sym (ap bare q2 ∙ bare-Int n2 s2)),
  (λ same. let f : ◌≡◌ {A = AstExpr-F AstExpr} (AstExpr-F.Int n 0) (AstExpr-F.Int n2 0) = sym (layer-Int a n s q) ∙ ap out-AstExpr same ∙ layer-Int b n2 s2 q2 in cc),
)

pub same-Text : (a b : AstExpr) (c : List ℕ) (c2 : List ℕ) (s s2 : ℕ) → a ≡ e.Text c s → b ≡ e.Text c2 s2
    → (c ≡ c2 → bare a ≡ bare b) × (bare a ≡ bare b → c ≡ c2)
same-Text a b c c2 s s2 q q2 = (
  (λ h1. ap bare q ∙ bare-Text c s ∙ ap (λ z. e.Text z 0) h1 ∙ sym (ap bare q2 ∙ bare-Text c2 s2)),
  (λ same. let f : ◌≡◌ {A = AstExpr-F AstExpr} (AstExpr-F.Text c 0) (AstExpr-F.Text c2 0) = sym (layer-Text a c s q) ∙ ap out-AstExpr same ∙ layer-Text b c2 s2 q2 in cc),
)

pub same-Date : (a b : AstExpr) (c : List ℕ) (c2 : List ℕ) (s s2 : ℕ) → a ≡ e.Date c s → b ≡ e.Date c2 s2
    → (c ≡ c2 → bare a ≡ bare b) × (bare a ≡ bare b → c ≡ c2)
same-Date a b c c2 s s2 q q2 = (
  (λ h1. ap bare q ∙ bare-Date c s ∙ ap (λ z. e.Date z 0) h1 ∙ sym (ap bare q2 ∙ bare-Date c2 s2)),
  (λ same. let f : ◌≡◌ {A = AstExpr-F AstExpr} (AstExpr-F.Date c 0) (AstExpr-F.Date c2 0) = sym (layer-Date a c s q) ∙ ap out-AstExpr same ∙ layer-Date b c2 s2 q2 in cc),
)

pub same-Bool : (a b : AstExpr) (w : Bool) (w2 : Bool) (s s2 : ℕ) → a ≡ e.Bool w s → b ≡ e.Bool w2 s2
    → (w ≡ w2 → bare a ≡ bare b) × (bare a ≡ bare b → w ≡ w2)
same-Bool a b w w2 s s2 q q2 = (
  (λ h1. ap bare q ∙ bare-Bool w s ∙ ap (λ z. e.Bool z 0) h1 ∙ sym (ap bare q2 ∙ bare-Bool w2 s2)),
  (λ same. let f : ◌≡◌ {A = AstExpr-F AstExpr} (AstExpr-F.Bool w 0) (AstExpr-F.Bool w2 0) = sym (layer-Bool a w s q) ∙ ap out-AstExpr same ∙ layer-Bool b w2 s2 q2 in cc),
)

pub same-Name : (a b : AstExpr) (n : List ℕ) (n2 : List ℕ) (s s2 : ℕ) → a ≡ e.Name s n → b ≡ e.Name s2 n2
    → (n ≡ n2 → bare a ≡ bare b) × (bare a ≡ bare b → n ≡ n2)
same-Name a b n n2 s s2 q q2 = (
  (λ h1. ap bare q ∙ bare-Name n s ∙ ap (λ z. e.Name 0 z) h1 ∙ sym (ap bare q2 ∙ bare-Name n2 s2)),
  (λ same. let f : ◌≡◌ {A = AstExpr-F AstExpr} (AstExpr-F.Name 0 n) (AstExpr-F.Name 0 n2) = sym (layer-Name a n s q) ∙ ap out-AstExpr same ∙ layer-Name b n2 s2 q2 in cc),
)

pub same-Property : (a b : AstExpr) (v : List ℕ) (p : List ℕ) (v2 : List ℕ) (p2 : List ℕ) (s s2 : ℕ) → a ≡ e.Property s v p → b ≡ e.Property s2 v2 p2
    → (v ≡ v2 → p ≡ p2 → bare a ≡ bare b) × (bare a ≡ bare b → (v ≡ v2) × (p ≡ p2))
same-Property a b v p v2 p2 s s2 q q2 = (
  (λ h1 h2. ap bare q ∙ bare-Property v p s ∙ ap (λ z. e.Property 0 z p) h1 ∙ ap (λ z. e.Property 0 v2 z) h2 ∙ sym (ap bare q2 ∙ bare-Property v2 p2 s2)),
  (λ same. let f : ◌≡◌ {A = AstExpr-F AstExpr} (AstExpr-F.Property 0 v p) (AstExpr-F.Property 0 v2 p2) = sym (layer-Property a v p s q) ∙ ap out-AstExpr same ∙ layer-Property b v2 p2 s2 q2 in (cc, cc)),
)

pub same-Id : (a b : AstExpr) (v : Placed) (v2 : Placed) (s s2 : ℕ) → a ≡ e.Id v s → b ≡ e.Id v2 s2
    → (v.name ≡ v2.name → bare a ≡ bare b) × (bare a ≡ bare b → v.name ≡ v2.name)
same-Id a b v v2 s s2 q q2 = (
  (λ h1. ap bare q ∙ bare-Id v s ∙ ap (λ z. e.Id (record { name = z; at = 0 }) 0) h1 ∙ sym (ap bare q2 ∙ bare-Id v2 s2)),
  (λ same. let f : ◌≡◌ {A = AstExpr-F AstExpr} (AstExpr-F.Id (bare_name v) 0) (AstExpr-F.Id (bare_name v2) 0) = sym (layer-Id a v s q) ∙ ap out-AstExpr same ∙ layer-Id b v2 s2 q2 in (let g : bare_name v ≡ bare_name v2 = cc in ap (λ z. z.name) g)),
)

pub same-Label : (a b : AstExpr) (v : Placed) (v2 : Placed) (s s2 : ℕ) → a ≡ e.Label v s → b ≡ e.Label v2 s2
    → (v.name ≡ v2.name → bare a ≡ bare b) × (bare a ≡ bare b → v.name ≡ v2.name)
same-Label a b v v2 s s2 q q2 = (
  (λ h1. ap bare q ∙ bare-Label v s ∙ ap (λ z. e.Label (record { name = z; at = 0 }) 0) h1 ∙ sym (ap bare q2 ∙ bare-Label v2 s2)),
  (λ same. let f : ◌≡◌ {A = AstExpr-F AstExpr} (AstExpr-F.Label (bare_name v) 0) (AstExpr-F.Label (bare_name v2) 0) = sym (layer-Label a v s q) ∙ ap out-AstExpr same ∙ layer-Label b v2 s2 q2 in (let g : bare_name v ≡ bare_name v2 = cc in ap (λ z. z.name) g)),
)

pub same-Not : (a b : AstExpr) (x : AstExpr) (x2 : AstExpr) (s s2 : ℕ) → a ≡ e.Not x s → b ≡ e.Not x2 s2
    → (bare x ≡ bare x2 → bare a ≡ bare b) × (bare a ≡ bare b → bare x ≡ bare x2)
same-Not a b x x2 s s2 q q2 = (
  (λ h1. ap bare q ∙ bare-Not x s ∙ ap (λ z. e.Not z 0) h1 ∙ sym (ap bare q2 ∙ bare-Not x2 s2)),
  (λ same. let f : ◌≡◌ {A = AstExpr-F AstExpr} (AstExpr-F.Not (bare x) 0) (AstExpr-F.Not (bare x2) 0) = sym (layer-Not a x s q) ∙ ap out-AstExpr same ∙ layer-Not b x2 s2 q2 in cc),
)

pub same-Neg : (a b : AstExpr) (x : AstExpr) (x2 : AstExpr) (s s2 : ℕ) → a ≡ e.Neg x s → b ≡ e.Neg x2 s2
    → (bare x ≡ bare x2 → bare a ≡ bare b) × (bare a ≡ bare b → bare x ≡ bare x2)
same-Neg a b x x2 s s2 q q2 = (
  (λ h1. ap bare q ∙ bare-Neg x s ∙ ap (λ z. e.Neg z 0) h1 ∙ sym (ap bare q2 ∙ bare-Neg x2 s2)),
  (λ same. let f : ◌≡◌ {A = AstExpr-F AstExpr} (AstExpr-F.Neg (bare x) 0) (AstExpr-F.Neg (bare x2) 0) = sym (layer-Neg a x s q) ∙ ap out-AstExpr same ∙ layer-Neg b x2 s2 q2 in cc),
)

pub same-IsNull : (a b : AstExpr) (x : AstExpr) (w : Bool) (x2 : AstExpr) (w2 : Bool) (s s2 : ℕ) → a ≡ e.IsNull x w s → b ≡ e.IsNull x2 w2 s2
    → (bare x ≡ bare x2 → w ≡ w2 → bare a ≡ bare b) × (bare a ≡ bare b → (bare x ≡ bare x2) × (w ≡ w2))
same-IsNull a b x w x2 w2 s s2 q q2 = (
  (λ h1 h2. ap bare q ∙ bare-IsNull x w s ∙ ap (λ z. e.IsNull z w 0) h1 ∙ ap (λ z. e.IsNull (bare x2) z 0) h2 ∙ sym (ap bare q2 ∙ bare-IsNull x2 w2 s2)),
  (λ same. let f : ◌≡◌ {A = AstExpr-F AstExpr} (AstExpr-F.IsNull (bare x) w 0) (AstExpr-F.IsNull (bare x2) w2 0) = sym (layer-IsNull a x w s q) ∙ ap out-AstExpr same ∙ layer-IsNull b x2 w2 s2 q2 in (cc, cc)),
)

pub same-Binary : (a b : AstExpr) (o : Op) (l : AstExpr) (r : AstExpr) (o2 : Op) (l2 : AstExpr) (r2 : AstExpr) (s s2 : ℕ) → a ≡ e.Binary o s l r → b ≡ e.Binary o2 s2 l2 r2
    → (o ≡ o2 → bare l ≡ bare l2 → bare r ≡ bare r2 → bare a ≡ bare b) × (bare a ≡ bare b → (o ≡ o2) × (bare l ≡ bare l2) × (bare r ≡ bare r2))
same-Binary a b o l r o2 l2 r2 s s2 q q2 = (
  (λ h1 h2 h3. ap bare q ∙ bare-Binary o l r s ∙ ap (λ z. e.Binary z 0 (bare l) (bare r)) h1 ∙ ap (λ z. e.Binary o2 0 z (bare r)) h2 ∙ ap (λ z. e.Binary o2 0 (bare l2) z) h3 ∙ sym (ap bare q2 ∙ bare-Binary o2 l2 r2 s2)),
  (λ same. let f : ◌≡◌ {A = AstExpr-F AstExpr} (AstExpr-F.Binary o 0 (bare l) (bare r)) (AstExpr-F.Binary o2 0 (bare l2) (bare r2)) = sym (layer-Binary a o l r s q) ∙ ap out-AstExpr same ∙ layer-Binary b o2 l2 r2 s2 q2 in (cc, cc, cc)),
)

pub other-Int : (a b : AstExpr) (n : ℤ) (s : ℕ) → a ≡ e.Int n s → ((n2 : ℤ) (s2 : ℕ) → b ≡ e.Int n2 s2 → ⊥) → bare a ≡ bare b → ⊥
other-Int a b n s q never same = by_which b (which b) never (sym (layer-Int a n s q) ∙ ap out-AstExpr same)
  where
    by_which : (b : AstExpr) → Is b → ((n2 : ℤ) (s2 : ℕ) → b ≡ e.Int n2 s2 → ⊥) → ◌≡◌ {A = AstExpr-F AstExpr} (AstExpr-F.Int n 0) (out-AstExpr (bare b)) → ⊥
    by_which _ (is_Int n2 s2) never f = never n2 s2 refl
    by_which _ (is_Text c2 s2) never f = let g : ◌≡◌ {A = AstExpr-F AstExpr} (AstExpr-F.Int n 0) (AstExpr-F.Text c2 0) = f ∙ layer-Text (e.Text c2 s2) c2 s2 refl in cc
    by_which _ (is_Date c2 s2) never f = let g : ◌≡◌ {A = AstExpr-F AstExpr} (AstExpr-F.Int n 0) (AstExpr-F.Date c2 0) = f ∙ layer-Date (e.Date c2 s2) c2 s2 refl in cc
    by_which _ (is_Bool w2 s2) never f = let g : ◌≡◌ {A = AstExpr-F AstExpr} (AstExpr-F.Int n 0) (AstExpr-F.Bool w2 0) = f ∙ layer-Bool (e.Bool w2 s2) w2 s2 refl in cc
    by_which _ (is_Name n2 s2) never f = let g : ◌≡◌ {A = AstExpr-F AstExpr} (AstExpr-F.Int n 0) (AstExpr-F.Name 0 n2) = f ∙ layer-Name (e.Name s2 n2) n2 s2 refl in cc
    by_which _ (is_Property v2 p2 s2) never f = let g : ◌≡◌ {A = AstExpr-F AstExpr} (AstExpr-F.Int n 0) (AstExpr-F.Property 0 v2 p2) = f ∙ layer-Property (e.Property s2 v2 p2) v2 p2 s2 refl in cc
    by_which _ (is_Id v2 s2) never f = let g : ◌≡◌ {A = AstExpr-F AstExpr} (AstExpr-F.Int n 0) (AstExpr-F.Id (bare_name v2) 0) = f ∙ layer-Id (e.Id v2 s2) v2 s2 refl in cc
    by_which _ (is_Label v2 s2) never f = let g : ◌≡◌ {A = AstExpr-F AstExpr} (AstExpr-F.Int n 0) (AstExpr-F.Label (bare_name v2) 0) = f ∙ layer-Label (e.Label v2 s2) v2 s2 refl in cc
    by_which _ (is_Not x2 s2) never f = let g : ◌≡◌ {A = AstExpr-F AstExpr} (AstExpr-F.Int n 0) (AstExpr-F.Not (bare x2) 0) = f ∙ layer-Not (e.Not x2 s2) x2 s2 refl in cc
    by_which _ (is_Neg x2 s2) never f = let g : ◌≡◌ {A = AstExpr-F AstExpr} (AstExpr-F.Int n 0) (AstExpr-F.Neg (bare x2) 0) = f ∙ layer-Neg (e.Neg x2 s2) x2 s2 refl in cc
    by_which _ (is_IsNull x2 w2 s2) never f = let g : ◌≡◌ {A = AstExpr-F AstExpr} (AstExpr-F.Int n 0) (AstExpr-F.IsNull (bare x2) w2 0) = f ∙ layer-IsNull (e.IsNull x2 w2 s2) x2 w2 s2 refl in cc
    by_which _ (is_Binary o2 l2 r2 s2) never f = let g : ◌≡◌ {A = AstExpr-F AstExpr} (AstExpr-F.Int n 0) (AstExpr-F.Binary o2 0 (bare l2) (bare r2)) = f ∙ layer-Binary (e.Binary o2 s2 l2 r2) o2 l2 r2 s2 refl in cc

pub other-Text : (a b : AstExpr) (c : List ℕ) (s : ℕ) → a ≡ e.Text c s → ((c2 : List ℕ) (s2 : ℕ) → b ≡ e.Text c2 s2 → ⊥) → bare a ≡ bare b → ⊥
other-Text a b c s q never same = by_which b (which b) never (sym (layer-Text a c s q) ∙ ap out-AstExpr same)
  where
    by_which : (b : AstExpr) → Is b → ((c2 : List ℕ) (s2 : ℕ) → b ≡ e.Text c2 s2 → ⊥) → ◌≡◌ {A = AstExpr-F AstExpr} (AstExpr-F.Text c 0) (out-AstExpr (bare b)) → ⊥
    by_which _ (is_Int n2 s2) never f = let g : ◌≡◌ {A = AstExpr-F AstExpr} (AstExpr-F.Text c 0) (AstExpr-F.Int n2 0) = f ∙ layer-Int (e.Int n2 s2) n2 s2 refl in cc
    by_which _ (is_Text c2 s2) never f = never c2 s2 refl
    by_which _ (is_Date c2 s2) never f = let g : ◌≡◌ {A = AstExpr-F AstExpr} (AstExpr-F.Text c 0) (AstExpr-F.Date c2 0) = f ∙ layer-Date (e.Date c2 s2) c2 s2 refl in cc
    by_which _ (is_Bool w2 s2) never f = let g : ◌≡◌ {A = AstExpr-F AstExpr} (AstExpr-F.Text c 0) (AstExpr-F.Bool w2 0) = f ∙ layer-Bool (e.Bool w2 s2) w2 s2 refl in cc
    by_which _ (is_Name n2 s2) never f = let g : ◌≡◌ {A = AstExpr-F AstExpr} (AstExpr-F.Text c 0) (AstExpr-F.Name 0 n2) = f ∙ layer-Name (e.Name s2 n2) n2 s2 refl in cc
    by_which _ (is_Property v2 p2 s2) never f = let g : ◌≡◌ {A = AstExpr-F AstExpr} (AstExpr-F.Text c 0) (AstExpr-F.Property 0 v2 p2) = f ∙ layer-Property (e.Property s2 v2 p2) v2 p2 s2 refl in cc
    by_which _ (is_Id v2 s2) never f = let g : ◌≡◌ {A = AstExpr-F AstExpr} (AstExpr-F.Text c 0) (AstExpr-F.Id (bare_name v2) 0) = f ∙ layer-Id (e.Id v2 s2) v2 s2 refl in cc
    by_which _ (is_Label v2 s2) never f = let g : ◌≡◌ {A = AstExpr-F AstExpr} (AstExpr-F.Text c 0) (AstExpr-F.Label (bare_name v2) 0) = f ∙ layer-Label (e.Label v2 s2) v2 s2 refl in cc
    by_which _ (is_Not x2 s2) never f = let g : ◌≡◌ {A = AstExpr-F AstExpr} (AstExpr-F.Text c 0) (AstExpr-F.Not (bare x2) 0) = f ∙ layer-Not (e.Not x2 s2) x2 s2 refl in cc
    by_which _ (is_Neg x2 s2) never f = let g : ◌≡◌ {A = AstExpr-F AstExpr} (AstExpr-F.Text c 0) (AstExpr-F.Neg (bare x2) 0) = f ∙ layer-Neg (e.Neg x2 s2) x2 s2 refl in cc
    by_which _ (is_IsNull x2 w2 s2) never f = let g : ◌≡◌ {A = AstExpr-F AstExpr} (AstExpr-F.Text c 0) (AstExpr-F.IsNull (bare x2) w2 0) = f ∙ layer-IsNull (e.IsNull x2 w2 s2) x2 w2 s2 refl in cc
    by_which _ (is_Binary o2 l2 r2 s2) never f = let g : ◌≡◌ {A = AstExpr-F AstExpr} (AstExpr-F.Text c 0) (AstExpr-F.Binary o2 0 (bare l2) (bare r2)) = f ∙ layer-Binary (e.Binary o2 s2 l2 r2) o2 l2 r2 s2 refl in cc

pub other-Date : (a b : AstExpr) (c : List ℕ) (s : ℕ) → a ≡ e.Date c s → ((c2 : List ℕ) (s2 : ℕ) → b ≡ e.Date c2 s2 → ⊥) → bare a ≡ bare b → ⊥
other-Date a b c s q never same = by_which b (which b) never (sym (layer-Date a c s q) ∙ ap out-AstExpr same)
  where
    by_which : (b : AstExpr) → Is b → ((c2 : List ℕ) (s2 : ℕ) → b ≡ e.Date c2 s2 → ⊥) → ◌≡◌ {A = AstExpr-F AstExpr} (AstExpr-F.Date c 0) (out-AstExpr (bare b)) → ⊥
    by_which _ (is_Int n2 s2) never f = let g : ◌≡◌ {A = AstExpr-F AstExpr} (AstExpr-F.Date c 0) (AstExpr-F.Int n2 0) = f ∙ layer-Int (e.Int n2 s2) n2 s2 refl in cc
    by_which _ (is_Text c2 s2) never f = let g : ◌≡◌ {A = AstExpr-F AstExpr} (AstExpr-F.Date c 0) (AstExpr-F.Text c2 0) = f ∙ layer-Text (e.Text c2 s2) c2 s2 refl in cc
    by_which _ (is_Date c2 s2) never f = never c2 s2 refl
    by_which _ (is_Bool w2 s2) never f = let g : ◌≡◌ {A = AstExpr-F AstExpr} (AstExpr-F.Date c 0) (AstExpr-F.Bool w2 0) = f ∙ layer-Bool (e.Bool w2 s2) w2 s2 refl in cc
    by_which _ (is_Name n2 s2) never f = let g : ◌≡◌ {A = AstExpr-F AstExpr} (AstExpr-F.Date c 0) (AstExpr-F.Name 0 n2) = f ∙ layer-Name (e.Name s2 n2) n2 s2 refl in cc
    by_which _ (is_Property v2 p2 s2) never f = let g : ◌≡◌ {A = AstExpr-F AstExpr} (AstExpr-F.Date c 0) (AstExpr-F.Property 0 v2 p2) = f ∙ layer-Property (e.Property s2 v2 p2) v2 p2 s2 refl in cc
    by_which _ (is_Id v2 s2) never f = let g : ◌≡◌ {A = AstExpr-F AstExpr} (AstExpr-F.Date c 0) (AstExpr-F.Id (bare_name v2) 0) = f ∙ layer-Id (e.Id v2 s2) v2 s2 refl in cc
    by_which _ (is_Label v2 s2) never f = let g : ◌≡◌ {A = AstExpr-F AstExpr} (AstExpr-F.Date c 0) (AstExpr-F.Label (bare_name v2) 0) = f ∙ layer-Label (e.Label v2 s2) v2 s2 refl in cc
    by_which _ (is_Not x2 s2) never f = let g : ◌≡◌ {A = AstExpr-F AstExpr} (AstExpr-F.Date c 0) (AstExpr-F.Not (bare x2) 0) = f ∙ layer-Not (e.Not x2 s2) x2 s2 refl in cc
    by_which _ (is_Neg x2 s2) never f = let g : ◌≡◌ {A = AstExpr-F AstExpr} (AstExpr-F.Date c 0) (AstExpr-F.Neg (bare x2) 0) = f ∙ layer-Neg (e.Neg x2 s2) x2 s2 refl in cc
    by_which _ (is_IsNull x2 w2 s2) never f = let g : ◌≡◌ {A = AstExpr-F AstExpr} (AstExpr-F.Date c 0) (AstExpr-F.IsNull (bare x2) w2 0) = f ∙ layer-IsNull (e.IsNull x2 w2 s2) x2 w2 s2 refl in cc
    by_which _ (is_Binary o2 l2 r2 s2) never f = let g : ◌≡◌ {A = AstExpr-F AstExpr} (AstExpr-F.Date c 0) (AstExpr-F.Binary o2 0 (bare l2) (bare r2)) = f ∙ layer-Binary (e.Binary o2 s2 l2 r2) o2 l2 r2 s2 refl in cc

pub other-Bool : (a b : AstExpr) (w : Bool) (s : ℕ) → a ≡ e.Bool w s → ((w2 : Bool) (s2 : ℕ) → b ≡ e.Bool w2 s2 → ⊥) → bare a ≡ bare b → ⊥
other-Bool a b w s q never same = by_which b (which b) never (sym (layer-Bool a w s q) ∙ ap out-AstExpr same)
  where
    by_which : (b : AstExpr) → Is b → ((w2 : Bool) (s2 : ℕ) → b ≡ e.Bool w2 s2 → ⊥) → ◌≡◌ {A = AstExpr-F AstExpr} (AstExpr-F.Bool w 0) (out-AstExpr (bare b)) → ⊥
    by_which _ (is_Int n2 s2) never f = let g : ◌≡◌ {A = AstExpr-F AstExpr} (AstExpr-F.Bool w 0) (AstExpr-F.Int n2 0) = f ∙ layer-Int (e.Int n2 s2) n2 s2 refl in cc
    by_which _ (is_Text c2 s2) never f = let g : ◌≡◌ {A = AstExpr-F AstExpr} (AstExpr-F.Bool w 0) (AstExpr-F.Text c2 0) = f ∙ layer-Text (e.Text c2 s2) c2 s2 refl in cc
    by_which _ (is_Date c2 s2) never f = let g : ◌≡◌ {A = AstExpr-F AstExpr} (AstExpr-F.Bool w 0) (AstExpr-F.Date c2 0) = f ∙ layer-Date (e.Date c2 s2) c2 s2 refl in cc
    by_which _ (is_Bool w2 s2) never f = never w2 s2 refl
    by_which _ (is_Name n2 s2) never f = let g : ◌≡◌ {A = AstExpr-F AstExpr} (AstExpr-F.Bool w 0) (AstExpr-F.Name 0 n2) = f ∙ layer-Name (e.Name s2 n2) n2 s2 refl in cc
    by_which _ (is_Property v2 p2 s2) never f = let g : ◌≡◌ {A = AstExpr-F AstExpr} (AstExpr-F.Bool w 0) (AstExpr-F.Property 0 v2 p2) = f ∙ layer-Property (e.Property s2 v2 p2) v2 p2 s2 refl in cc
    by_which _ (is_Id v2 s2) never f = let g : ◌≡◌ {A = AstExpr-F AstExpr} (AstExpr-F.Bool w 0) (AstExpr-F.Id (bare_name v2) 0) = f ∙ layer-Id (e.Id v2 s2) v2 s2 refl in cc
    by_which _ (is_Label v2 s2) never f = let g : ◌≡◌ {A = AstExpr-F AstExpr} (AstExpr-F.Bool w 0) (AstExpr-F.Label (bare_name v2) 0) = f ∙ layer-Label (e.Label v2 s2) v2 s2 refl in cc
    by_which _ (is_Not x2 s2) never f = let g : ◌≡◌ {A = AstExpr-F AstExpr} (AstExpr-F.Bool w 0) (AstExpr-F.Not (bare x2) 0) = f ∙ layer-Not (e.Not x2 s2) x2 s2 refl in cc
    by_which _ (is_Neg x2 s2) never f = let g : ◌≡◌ {A = AstExpr-F AstExpr} (AstExpr-F.Bool w 0) (AstExpr-F.Neg (bare x2) 0) = f ∙ layer-Neg (e.Neg x2 s2) x2 s2 refl in cc
    by_which _ (is_IsNull x2 w2 s2) never f = let g : ◌≡◌ {A = AstExpr-F AstExpr} (AstExpr-F.Bool w 0) (AstExpr-F.IsNull (bare x2) w2 0) = f ∙ layer-IsNull (e.IsNull x2 w2 s2) x2 w2 s2 refl in cc
    by_which _ (is_Binary o2 l2 r2 s2) never f = let g : ◌≡◌ {A = AstExpr-F AstExpr} (AstExpr-F.Bool w 0) (AstExpr-F.Binary o2 0 (bare l2) (bare r2)) = f ∙ layer-Binary (e.Binary o2 s2 l2 r2) o2 l2 r2 s2 refl in cc

pub other-Name : (a b : AstExpr) (n : List ℕ) (s : ℕ) → a ≡ e.Name s n → ((n2 : List ℕ) (s2 : ℕ) → b ≡ e.Name s2 n2 → ⊥) → bare a ≡ bare b → ⊥
other-Name a b n s q never same = by_which b (which b) never (sym (layer-Name a n s q) ∙ ap out-AstExpr same)
  where
    by_which : (b : AstExpr) → Is b → ((n2 : List ℕ) (s2 : ℕ) → b ≡ e.Name s2 n2 → ⊥) → ◌≡◌ {A = AstExpr-F AstExpr} (AstExpr-F.Name 0 n) (out-AstExpr (bare b)) → ⊥
    by_which _ (is_Int n2 s2) never f = let g : ◌≡◌ {A = AstExpr-F AstExpr} (AstExpr-F.Name 0 n) (AstExpr-F.Int n2 0) = f ∙ layer-Int (e.Int n2 s2) n2 s2 refl in cc
    by_which _ (is_Text c2 s2) never f = let g : ◌≡◌ {A = AstExpr-F AstExpr} (AstExpr-F.Name 0 n) (AstExpr-F.Text c2 0) = f ∙ layer-Text (e.Text c2 s2) c2 s2 refl in cc
    by_which _ (is_Date c2 s2) never f = let g : ◌≡◌ {A = AstExpr-F AstExpr} (AstExpr-F.Name 0 n) (AstExpr-F.Date c2 0) = f ∙ layer-Date (e.Date c2 s2) c2 s2 refl in cc
    by_which _ (is_Bool w2 s2) never f = let g : ◌≡◌ {A = AstExpr-F AstExpr} (AstExpr-F.Name 0 n) (AstExpr-F.Bool w2 0) = f ∙ layer-Bool (e.Bool w2 s2) w2 s2 refl in cc
    by_which _ (is_Name n2 s2) never f = never n2 s2 refl
    by_which _ (is_Property v2 p2 s2) never f = let g : ◌≡◌ {A = AstExpr-F AstExpr} (AstExpr-F.Name 0 n) (AstExpr-F.Property 0 v2 p2) = f ∙ layer-Property (e.Property s2 v2 p2) v2 p2 s2 refl in cc
    by_which _ (is_Id v2 s2) never f = let g : ◌≡◌ {A = AstExpr-F AstExpr} (AstExpr-F.Name 0 n) (AstExpr-F.Id (bare_name v2) 0) = f ∙ layer-Id (e.Id v2 s2) v2 s2 refl in cc
    by_which _ (is_Label v2 s2) never f = let g : ◌≡◌ {A = AstExpr-F AstExpr} (AstExpr-F.Name 0 n) (AstExpr-F.Label (bare_name v2) 0) = f ∙ layer-Label (e.Label v2 s2) v2 s2 refl in cc
    by_which _ (is_Not x2 s2) never f = let g : ◌≡◌ {A = AstExpr-F AstExpr} (AstExpr-F.Name 0 n) (AstExpr-F.Not (bare x2) 0) = f ∙ layer-Not (e.Not x2 s2) x2 s2 refl in cc
    by_which _ (is_Neg x2 s2) never f = let g : ◌≡◌ {A = AstExpr-F AstExpr} (AstExpr-F.Name 0 n) (AstExpr-F.Neg (bare x2) 0) = f ∙ layer-Neg (e.Neg x2 s2) x2 s2 refl in cc
    by_which _ (is_IsNull x2 w2 s2) never f = let g : ◌≡◌ {A = AstExpr-F AstExpr} (AstExpr-F.Name 0 n) (AstExpr-F.IsNull (bare x2) w2 0) = f ∙ layer-IsNull (e.IsNull x2 w2 s2) x2 w2 s2 refl in cc
    by_which _ (is_Binary o2 l2 r2 s2) never f = let g : ◌≡◌ {A = AstExpr-F AstExpr} (AstExpr-F.Name 0 n) (AstExpr-F.Binary o2 0 (bare l2) (bare r2)) = f ∙ layer-Binary (e.Binary o2 s2 l2 r2) o2 l2 r2 s2 refl in cc

pub other-Property : (a b : AstExpr) (v : List ℕ) (p : List ℕ) (s : ℕ) → a ≡ e.Property s v p → ((v2 : List ℕ) (p2 : List ℕ) (s2 : ℕ) → b ≡ e.Property s2 v2 p2 → ⊥) → bare a ≡ bare b → ⊥
other-Property a b v p s q never same = by_which b (which b) never (sym (layer-Property a v p s q) ∙ ap out-AstExpr same)
  where
    by_which : (b : AstExpr) → Is b → ((v2 : List ℕ) (p2 : List ℕ) (s2 : ℕ) → b ≡ e.Property s2 v2 p2 → ⊥) → ◌≡◌ {A = AstExpr-F AstExpr} (AstExpr-F.Property 0 v p) (out-AstExpr (bare b)) → ⊥
    by_which _ (is_Int n2 s2) never f = let g : ◌≡◌ {A = AstExpr-F AstExpr} (AstExpr-F.Property 0 v p) (AstExpr-F.Int n2 0) = f ∙ layer-Int (e.Int n2 s2) n2 s2 refl in cc
    by_which _ (is_Text c2 s2) never f = let g : ◌≡◌ {A = AstExpr-F AstExpr} (AstExpr-F.Property 0 v p) (AstExpr-F.Text c2 0) = f ∙ layer-Text (e.Text c2 s2) c2 s2 refl in cc
    by_which _ (is_Date c2 s2) never f = let g : ◌≡◌ {A = AstExpr-F AstExpr} (AstExpr-F.Property 0 v p) (AstExpr-F.Date c2 0) = f ∙ layer-Date (e.Date c2 s2) c2 s2 refl in cc
    by_which _ (is_Bool w2 s2) never f = let g : ◌≡◌ {A = AstExpr-F AstExpr} (AstExpr-F.Property 0 v p) (AstExpr-F.Bool w2 0) = f ∙ layer-Bool (e.Bool w2 s2) w2 s2 refl in cc
    by_which _ (is_Name n2 s2) never f = let g : ◌≡◌ {A = AstExpr-F AstExpr} (AstExpr-F.Property 0 v p) (AstExpr-F.Name 0 n2) = f ∙ layer-Name (e.Name s2 n2) n2 s2 refl in cc
    by_which _ (is_Property v2 p2 s2) never f = never v2 p2 s2 refl
    by_which _ (is_Id v2 s2) never f = let g : ◌≡◌ {A = AstExpr-F AstExpr} (AstExpr-F.Property 0 v p) (AstExpr-F.Id (bare_name v2) 0) = f ∙ layer-Id (e.Id v2 s2) v2 s2 refl in cc
    by_which _ (is_Label v2 s2) never f = let g : ◌≡◌ {A = AstExpr-F AstExpr} (AstExpr-F.Property 0 v p) (AstExpr-F.Label (bare_name v2) 0) = f ∙ layer-Label (e.Label v2 s2) v2 s2 refl in cc
    by_which _ (is_Not x2 s2) never f = let g : ◌≡◌ {A = AstExpr-F AstExpr} (AstExpr-F.Property 0 v p) (AstExpr-F.Not (bare x2) 0) = f ∙ layer-Not (e.Not x2 s2) x2 s2 refl in cc
    by_which _ (is_Neg x2 s2) never f = let g : ◌≡◌ {A = AstExpr-F AstExpr} (AstExpr-F.Property 0 v p) (AstExpr-F.Neg (bare x2) 0) = f ∙ layer-Neg (e.Neg x2 s2) x2 s2 refl in cc
    by_which _ (is_IsNull x2 w2 s2) never f = let g : ◌≡◌ {A = AstExpr-F AstExpr} (AstExpr-F.Property 0 v p) (AstExpr-F.IsNull (bare x2) w2 0) = f ∙ layer-IsNull (e.IsNull x2 w2 s2) x2 w2 s2 refl in cc
    by_which _ (is_Binary o2 l2 r2 s2) never f = let g : ◌≡◌ {A = AstExpr-F AstExpr} (AstExpr-F.Property 0 v p) (AstExpr-F.Binary o2 0 (bare l2) (bare r2)) = f ∙ layer-Binary (e.Binary o2 s2 l2 r2) o2 l2 r2 s2 refl in cc

pub other-Id : (a b : AstExpr) (v : Placed) (s : ℕ) → a ≡ e.Id v s → ((v2 : Placed) (s2 : ℕ) → b ≡ e.Id v2 s2 → ⊥) → bare a ≡ bare b → ⊥
other-Id a b v s q never same = by_which b (which b) never (sym (layer-Id a v s q) ∙ ap out-AstExpr same)
  where
    by_which : (b : AstExpr) → Is b → ((v2 : Placed) (s2 : ℕ) → b ≡ e.Id v2 s2 → ⊥) → ◌≡◌ {A = AstExpr-F AstExpr} (AstExpr-F.Id (bare_name v) 0) (out-AstExpr (bare b)) → ⊥
    by_which _ (is_Int n2 s2) never f = let g : ◌≡◌ {A = AstExpr-F AstExpr} (AstExpr-F.Id (bare_name v) 0) (AstExpr-F.Int n2 0) = f ∙ layer-Int (e.Int n2 s2) n2 s2 refl in cc
    by_which _ (is_Text c2 s2) never f = let g : ◌≡◌ {A = AstExpr-F AstExpr} (AstExpr-F.Id (bare_name v) 0) (AstExpr-F.Text c2 0) = f ∙ layer-Text (e.Text c2 s2) c2 s2 refl in cc
    by_which _ (is_Date c2 s2) never f = let g : ◌≡◌ {A = AstExpr-F AstExpr} (AstExpr-F.Id (bare_name v) 0) (AstExpr-F.Date c2 0) = f ∙ layer-Date (e.Date c2 s2) c2 s2 refl in cc
    by_which _ (is_Bool w2 s2) never f = let g : ◌≡◌ {A = AstExpr-F AstExpr} (AstExpr-F.Id (bare_name v) 0) (AstExpr-F.Bool w2 0) = f ∙ layer-Bool (e.Bool w2 s2) w2 s2 refl in cc
    by_which _ (is_Name n2 s2) never f = let g : ◌≡◌ {A = AstExpr-F AstExpr} (AstExpr-F.Id (bare_name v) 0) (AstExpr-F.Name 0 n2) = f ∙ layer-Name (e.Name s2 n2) n2 s2 refl in cc
    by_which _ (is_Property v2 p2 s2) never f = let g : ◌≡◌ {A = AstExpr-F AstExpr} (AstExpr-F.Id (bare_name v) 0) (AstExpr-F.Property 0 v2 p2) = f ∙ layer-Property (e.Property s2 v2 p2) v2 p2 s2 refl in cc
    by_which _ (is_Id v2 s2) never f = never v2 s2 refl
    by_which _ (is_Label v2 s2) never f = let g : ◌≡◌ {A = AstExpr-F AstExpr} (AstExpr-F.Id (bare_name v) 0) (AstExpr-F.Label (bare_name v2) 0) = f ∙ layer-Label (e.Label v2 s2) v2 s2 refl in cc
    by_which _ (is_Not x2 s2) never f = let g : ◌≡◌ {A = AstExpr-F AstExpr} (AstExpr-F.Id (bare_name v) 0) (AstExpr-F.Not (bare x2) 0) = f ∙ layer-Not (e.Not x2 s2) x2 s2 refl in cc
    by_which _ (is_Neg x2 s2) never f = let g : ◌≡◌ {A = AstExpr-F AstExpr} (AstExpr-F.Id (bare_name v) 0) (AstExpr-F.Neg (bare x2) 0) = f ∙ layer-Neg (e.Neg x2 s2) x2 s2 refl in cc
    by_which _ (is_IsNull x2 w2 s2) never f = let g : ◌≡◌ {A = AstExpr-F AstExpr} (AstExpr-F.Id (bare_name v) 0) (AstExpr-F.IsNull (bare x2) w2 0) = f ∙ layer-IsNull (e.IsNull x2 w2 s2) x2 w2 s2 refl in cc
    by_which _ (is_Binary o2 l2 r2 s2) never f = let g : ◌≡◌ {A = AstExpr-F AstExpr} (AstExpr-F.Id (bare_name v) 0) (AstExpr-F.Binary o2 0 (bare l2) (bare r2)) = f ∙ layer-Binary (e.Binary o2 s2 l2 r2) o2 l2 r2 s2 refl in cc

pub other-Label : (a b : AstExpr) (v : Placed) (s : ℕ) → a ≡ e.Label v s → ((v2 : Placed) (s2 : ℕ) → b ≡ e.Label v2 s2 → ⊥) → bare a ≡ bare b → ⊥
other-Label a b v s q never same = by_which b (which b) never (sym (layer-Label a v s q) ∙ ap out-AstExpr same)
  where
    by_which : (b : AstExpr) → Is b → ((v2 : Placed) (s2 : ℕ) → b ≡ e.Label v2 s2 → ⊥) → ◌≡◌ {A = AstExpr-F AstExpr} (AstExpr-F.Label (bare_name v) 0) (out-AstExpr (bare b)) → ⊥
    by_which _ (is_Int n2 s2) never f = let g : ◌≡◌ {A = AstExpr-F AstExpr} (AstExpr-F.Label (bare_name v) 0) (AstExpr-F.Int n2 0) = f ∙ layer-Int (e.Int n2 s2) n2 s2 refl in cc
    by_which _ (is_Text c2 s2) never f = let g : ◌≡◌ {A = AstExpr-F AstExpr} (AstExpr-F.Label (bare_name v) 0) (AstExpr-F.Text c2 0) = f ∙ layer-Text (e.Text c2 s2) c2 s2 refl in cc
    by_which _ (is_Date c2 s2) never f = let g : ◌≡◌ {A = AstExpr-F AstExpr} (AstExpr-F.Label (bare_name v) 0) (AstExpr-F.Date c2 0) = f ∙ layer-Date (e.Date c2 s2) c2 s2 refl in cc
    by_which _ (is_Bool w2 s2) never f = let g : ◌≡◌ {A = AstExpr-F AstExpr} (AstExpr-F.Label (bare_name v) 0) (AstExpr-F.Bool w2 0) = f ∙ layer-Bool (e.Bool w2 s2) w2 s2 refl in cc
    by_which _ (is_Name n2 s2) never f = let g : ◌≡◌ {A = AstExpr-F AstExpr} (AstExpr-F.Label (bare_name v) 0) (AstExpr-F.Name 0 n2) = f ∙ layer-Name (e.Name s2 n2) n2 s2 refl in cc
    by_which _ (is_Property v2 p2 s2) never f = let g : ◌≡◌ {A = AstExpr-F AstExpr} (AstExpr-F.Label (bare_name v) 0) (AstExpr-F.Property 0 v2 p2) = f ∙ layer-Property (e.Property s2 v2 p2) v2 p2 s2 refl in cc
    by_which _ (is_Id v2 s2) never f = let g : ◌≡◌ {A = AstExpr-F AstExpr} (AstExpr-F.Label (bare_name v) 0) (AstExpr-F.Id (bare_name v2) 0) = f ∙ layer-Id (e.Id v2 s2) v2 s2 refl in cc
    by_which _ (is_Label v2 s2) never f = never v2 s2 refl
    by_which _ (is_Not x2 s2) never f = let g : ◌≡◌ {A = AstExpr-F AstExpr} (AstExpr-F.Label (bare_name v) 0) (AstExpr-F.Not (bare x2) 0) = f ∙ layer-Not (e.Not x2 s2) x2 s2 refl in cc
    by_which _ (is_Neg x2 s2) never f = let g : ◌≡◌ {A = AstExpr-F AstExpr} (AstExpr-F.Label (bare_name v) 0) (AstExpr-F.Neg (bare x2) 0) = f ∙ layer-Neg (e.Neg x2 s2) x2 s2 refl in cc
    by_which _ (is_IsNull x2 w2 s2) never f = let g : ◌≡◌ {A = AstExpr-F AstExpr} (AstExpr-F.Label (bare_name v) 0) (AstExpr-F.IsNull (bare x2) w2 0) = f ∙ layer-IsNull (e.IsNull x2 w2 s2) x2 w2 s2 refl in cc
    by_which _ (is_Binary o2 l2 r2 s2) never f = let g : ◌≡◌ {A = AstExpr-F AstExpr} (AstExpr-F.Label (bare_name v) 0) (AstExpr-F.Binary o2 0 (bare l2) (bare r2)) = f ∙ layer-Binary (e.Binary o2 s2 l2 r2) o2 l2 r2 s2 refl in cc

pub other-Not : (a b : AstExpr) (x : AstExpr) (s : ℕ) → a ≡ e.Not x s → ((x2 : AstExpr) (s2 : ℕ) → b ≡ e.Not x2 s2 → ⊥) → bare a ≡ bare b → ⊥
other-Not a b x s q never same = by_which b (which b) never (sym (layer-Not a x s q) ∙ ap out-AstExpr same)
  where
    by_which : (b : AstExpr) → Is b → ((x2 : AstExpr) (s2 : ℕ) → b ≡ e.Not x2 s2 → ⊥) → ◌≡◌ {A = AstExpr-F AstExpr} (AstExpr-F.Not (bare x) 0) (out-AstExpr (bare b)) → ⊥
    by_which _ (is_Int n2 s2) never f = let g : ◌≡◌ {A = AstExpr-F AstExpr} (AstExpr-F.Not (bare x) 0) (AstExpr-F.Int n2 0) = f ∙ layer-Int (e.Int n2 s2) n2 s2 refl in cc
    by_which _ (is_Text c2 s2) never f = let g : ◌≡◌ {A = AstExpr-F AstExpr} (AstExpr-F.Not (bare x) 0) (AstExpr-F.Text c2 0) = f ∙ layer-Text (e.Text c2 s2) c2 s2 refl in cc
    by_which _ (is_Date c2 s2) never f = let g : ◌≡◌ {A = AstExpr-F AstExpr} (AstExpr-F.Not (bare x) 0) (AstExpr-F.Date c2 0) = f ∙ layer-Date (e.Date c2 s2) c2 s2 refl in cc
    by_which _ (is_Bool w2 s2) never f = let g : ◌≡◌ {A = AstExpr-F AstExpr} (AstExpr-F.Not (bare x) 0) (AstExpr-F.Bool w2 0) = f ∙ layer-Bool (e.Bool w2 s2) w2 s2 refl in cc
    by_which _ (is_Name n2 s2) never f = let g : ◌≡◌ {A = AstExpr-F AstExpr} (AstExpr-F.Not (bare x) 0) (AstExpr-F.Name 0 n2) = f ∙ layer-Name (e.Name s2 n2) n2 s2 refl in cc
    by_which _ (is_Property v2 p2 s2) never f = let g : ◌≡◌ {A = AstExpr-F AstExpr} (AstExpr-F.Not (bare x) 0) (AstExpr-F.Property 0 v2 p2) = f ∙ layer-Property (e.Property s2 v2 p2) v2 p2 s2 refl in cc
    by_which _ (is_Id v2 s2) never f = let g : ◌≡◌ {A = AstExpr-F AstExpr} (AstExpr-F.Not (bare x) 0) (AstExpr-F.Id (bare_name v2) 0) = f ∙ layer-Id (e.Id v2 s2) v2 s2 refl in cc
    by_which _ (is_Label v2 s2) never f = let g : ◌≡◌ {A = AstExpr-F AstExpr} (AstExpr-F.Not (bare x) 0) (AstExpr-F.Label (bare_name v2) 0) = f ∙ layer-Label (e.Label v2 s2) v2 s2 refl in cc
    by_which _ (is_Not x2 s2) never f = never x2 s2 refl
    by_which _ (is_Neg x2 s2) never f = let g : ◌≡◌ {A = AstExpr-F AstExpr} (AstExpr-F.Not (bare x) 0) (AstExpr-F.Neg (bare x2) 0) = f ∙ layer-Neg (e.Neg x2 s2) x2 s2 refl in cc
    by_which _ (is_IsNull x2 w2 s2) never f = let g : ◌≡◌ {A = AstExpr-F AstExpr} (AstExpr-F.Not (bare x) 0) (AstExpr-F.IsNull (bare x2) w2 0) = f ∙ layer-IsNull (e.IsNull x2 w2 s2) x2 w2 s2 refl in cc
    by_which _ (is_Binary o2 l2 r2 s2) never f = let g : ◌≡◌ {A = AstExpr-F AstExpr} (AstExpr-F.Not (bare x) 0) (AstExpr-F.Binary o2 0 (bare l2) (bare r2)) = f ∙ layer-Binary (e.Binary o2 s2 l2 r2) o2 l2 r2 s2 refl in cc

pub other-Neg : (a b : AstExpr) (x : AstExpr) (s : ℕ) → a ≡ e.Neg x s → ((x2 : AstExpr) (s2 : ℕ) → b ≡ e.Neg x2 s2 → ⊥) → bare a ≡ bare b → ⊥
other-Neg a b x s q never same = by_which b (which b) never (sym (layer-Neg a x s q) ∙ ap out-AstExpr same)
  where
    by_which : (b : AstExpr) → Is b → ((x2 : AstExpr) (s2 : ℕ) → b ≡ e.Neg x2 s2 → ⊥) → ◌≡◌ {A = AstExpr-F AstExpr} (AstExpr-F.Neg (bare x) 0) (out-AstExpr (bare b)) → ⊥
    by_which _ (is_Int n2 s2) never f = let g : ◌≡◌ {A = AstExpr-F AstExpr} (AstExpr-F.Neg (bare x) 0) (AstExpr-F.Int n2 0) = f ∙ layer-Int (e.Int n2 s2) n2 s2 refl in cc
    by_which _ (is_Text c2 s2) never f = let g : ◌≡◌ {A = AstExpr-F AstExpr} (AstExpr-F.Neg (bare x) 0) (AstExpr-F.Text c2 0) = f ∙ layer-Text (e.Text c2 s2) c2 s2 refl in cc
    by_which _ (is_Date c2 s2) never f = let g : ◌≡◌ {A = AstExpr-F AstExpr} (AstExpr-F.Neg (bare x) 0) (AstExpr-F.Date c2 0) = f ∙ layer-Date (e.Date c2 s2) c2 s2 refl in cc
    by_which _ (is_Bool w2 s2) never f = let g : ◌≡◌ {A = AstExpr-F AstExpr} (AstExpr-F.Neg (bare x) 0) (AstExpr-F.Bool w2 0) = f ∙ layer-Bool (e.Bool w2 s2) w2 s2 refl in cc
    by_which _ (is_Name n2 s2) never f = let g : ◌≡◌ {A = AstExpr-F AstExpr} (AstExpr-F.Neg (bare x) 0) (AstExpr-F.Name 0 n2) = f ∙ layer-Name (e.Name s2 n2) n2 s2 refl in cc
    by_which _ (is_Property v2 p2 s2) never f = let g : ◌≡◌ {A = AstExpr-F AstExpr} (AstExpr-F.Neg (bare x) 0) (AstExpr-F.Property 0 v2 p2) = f ∙ layer-Property (e.Property s2 v2 p2) v2 p2 s2 refl in cc
    by_which _ (is_Id v2 s2) never f = let g : ◌≡◌ {A = AstExpr-F AstExpr} (AstExpr-F.Neg (bare x) 0) (AstExpr-F.Id (bare_name v2) 0) = f ∙ layer-Id (e.Id v2 s2) v2 s2 refl in cc
    by_which _ (is_Label v2 s2) never f = let g : ◌≡◌ {A = AstExpr-F AstExpr} (AstExpr-F.Neg (bare x) 0) (AstExpr-F.Label (bare_name v2) 0) = f ∙ layer-Label (e.Label v2 s2) v2 s2 refl in cc
    by_which _ (is_Not x2 s2) never f = let g : ◌≡◌ {A = AstExpr-F AstExpr} (AstExpr-F.Neg (bare x) 0) (AstExpr-F.Not (bare x2) 0) = f ∙ layer-Not (e.Not x2 s2) x2 s2 refl in cc
    by_which _ (is_Neg x2 s2) never f = never x2 s2 refl
    by_which _ (is_IsNull x2 w2 s2) never f = let g : ◌≡◌ {A = AstExpr-F AstExpr} (AstExpr-F.Neg (bare x) 0) (AstExpr-F.IsNull (bare x2) w2 0) = f ∙ layer-IsNull (e.IsNull x2 w2 s2) x2 w2 s2 refl in cc
    by_which _ (is_Binary o2 l2 r2 s2) never f = let g : ◌≡◌ {A = AstExpr-F AstExpr} (AstExpr-F.Neg (bare x) 0) (AstExpr-F.Binary o2 0 (bare l2) (bare r2)) = f ∙ layer-Binary (e.Binary o2 s2 l2 r2) o2 l2 r2 s2 refl in cc

pub other-IsNull : (a b : AstExpr) (x : AstExpr) (w : Bool) (s : ℕ) → a ≡ e.IsNull x w s → ((x2 : AstExpr) (w2 : Bool) (s2 : ℕ) → b ≡ e.IsNull x2 w2 s2 → ⊥) → bare a ≡ bare b → ⊥
other-IsNull a b x w s q never same = by_which b (which b) never (sym (layer-IsNull a x w s q) ∙ ap out-AstExpr same)
  where
    by_which : (b : AstExpr) → Is b → ((x2 : AstExpr) (w2 : Bool) (s2 : ℕ) → b ≡ e.IsNull x2 w2 s2 → ⊥) → ◌≡◌ {A = AstExpr-F AstExpr} (AstExpr-F.IsNull (bare x) w 0) (out-AstExpr (bare b)) → ⊥
    by_which _ (is_Int n2 s2) never f = let g : ◌≡◌ {A = AstExpr-F AstExpr} (AstExpr-F.IsNull (bare x) w 0) (AstExpr-F.Int n2 0) = f ∙ layer-Int (e.Int n2 s2) n2 s2 refl in cc
    by_which _ (is_Text c2 s2) never f = let g : ◌≡◌ {A = AstExpr-F AstExpr} (AstExpr-F.IsNull (bare x) w 0) (AstExpr-F.Text c2 0) = f ∙ layer-Text (e.Text c2 s2) c2 s2 refl in cc
    by_which _ (is_Date c2 s2) never f = let g : ◌≡◌ {A = AstExpr-F AstExpr} (AstExpr-F.IsNull (bare x) w 0) (AstExpr-F.Date c2 0) = f ∙ layer-Date (e.Date c2 s2) c2 s2 refl in cc
    by_which _ (is_Bool w2 s2) never f = let g : ◌≡◌ {A = AstExpr-F AstExpr} (AstExpr-F.IsNull (bare x) w 0) (AstExpr-F.Bool w2 0) = f ∙ layer-Bool (e.Bool w2 s2) w2 s2 refl in cc
    by_which _ (is_Name n2 s2) never f = let g : ◌≡◌ {A = AstExpr-F AstExpr} (AstExpr-F.IsNull (bare x) w 0) (AstExpr-F.Name 0 n2) = f ∙ layer-Name (e.Name s2 n2) n2 s2 refl in cc
    by_which _ (is_Property v2 p2 s2) never f = let g : ◌≡◌ {A = AstExpr-F AstExpr} (AstExpr-F.IsNull (bare x) w 0) (AstExpr-F.Property 0 v2 p2) = f ∙ layer-Property (e.Property s2 v2 p2) v2 p2 s2 refl in cc
    by_which _ (is_Id v2 s2) never f = let g : ◌≡◌ {A = AstExpr-F AstExpr} (AstExpr-F.IsNull (bare x) w 0) (AstExpr-F.Id (bare_name v2) 0) = f ∙ layer-Id (e.Id v2 s2) v2 s2 refl in cc
    by_which _ (is_Label v2 s2) never f = let g : ◌≡◌ {A = AstExpr-F AstExpr} (AstExpr-F.IsNull (bare x) w 0) (AstExpr-F.Label (bare_name v2) 0) = f ∙ layer-Label (e.Label v2 s2) v2 s2 refl in cc
    by_which _ (is_Not x2 s2) never f = let g : ◌≡◌ {A = AstExpr-F AstExpr} (AstExpr-F.IsNull (bare x) w 0) (AstExpr-F.Not (bare x2) 0) = f ∙ layer-Not (e.Not x2 s2) x2 s2 refl in cc
    by_which _ (is_Neg x2 s2) never f = let g : ◌≡◌ {A = AstExpr-F AstExpr} (AstExpr-F.IsNull (bare x) w 0) (AstExpr-F.Neg (bare x2) 0) = f ∙ layer-Neg (e.Neg x2 s2) x2 s2 refl in cc
    by_which _ (is_IsNull x2 w2 s2) never f = never x2 w2 s2 refl
    by_which _ (is_Binary o2 l2 r2 s2) never f = let g : ◌≡◌ {A = AstExpr-F AstExpr} (AstExpr-F.IsNull (bare x) w 0) (AstExpr-F.Binary o2 0 (bare l2) (bare r2)) = f ∙ layer-Binary (e.Binary o2 s2 l2 r2) o2 l2 r2 s2 refl in cc

pub other-Binary : (a b : AstExpr) (o : Op) (l : AstExpr) (r : AstExpr) (s : ℕ) → a ≡ e.Binary o s l r → ((o2 : Op) (l2 : AstExpr) (r2 : AstExpr) (s2 : ℕ) → b ≡ e.Binary o2 s2 l2 r2 → ⊥) → bare a ≡ bare b → ⊥
other-Binary a b o l r s q never same = by_which b (which b) never (sym (layer-Binary a o l r s q) ∙ ap out-AstExpr same)
  where
    by_which : (b : AstExpr) → Is b → ((o2 : Op) (l2 : AstExpr) (r2 : AstExpr) (s2 : ℕ) → b ≡ e.Binary o2 s2 l2 r2 → ⊥) → ◌≡◌ {A = AstExpr-F AstExpr} (AstExpr-F.Binary o 0 (bare l) (bare r)) (out-AstExpr (bare b)) → ⊥
    by_which _ (is_Int n2 s2) never f = let g : ◌≡◌ {A = AstExpr-F AstExpr} (AstExpr-F.Binary o 0 (bare l) (bare r)) (AstExpr-F.Int n2 0) = f ∙ layer-Int (e.Int n2 s2) n2 s2 refl in cc
    by_which _ (is_Text c2 s2) never f = let g : ◌≡◌ {A = AstExpr-F AstExpr} (AstExpr-F.Binary o 0 (bare l) (bare r)) (AstExpr-F.Text c2 0) = f ∙ layer-Text (e.Text c2 s2) c2 s2 refl in cc
    by_which _ (is_Date c2 s2) never f = let g : ◌≡◌ {A = AstExpr-F AstExpr} (AstExpr-F.Binary o 0 (bare l) (bare r)) (AstExpr-F.Date c2 0) = f ∙ layer-Date (e.Date c2 s2) c2 s2 refl in cc
    by_which _ (is_Bool w2 s2) never f = let g : ◌≡◌ {A = AstExpr-F AstExpr} (AstExpr-F.Binary o 0 (bare l) (bare r)) (AstExpr-F.Bool w2 0) = f ∙ layer-Bool (e.Bool w2 s2) w2 s2 refl in cc
    by_which _ (is_Name n2 s2) never f = let g : ◌≡◌ {A = AstExpr-F AstExpr} (AstExpr-F.Binary o 0 (bare l) (bare r)) (AstExpr-F.Name 0 n2) = f ∙ layer-Name (e.Name s2 n2) n2 s2 refl in cc
    by_which _ (is_Property v2 p2 s2) never f = let g : ◌≡◌ {A = AstExpr-F AstExpr} (AstExpr-F.Binary o 0 (bare l) (bare r)) (AstExpr-F.Property 0 v2 p2) = f ∙ layer-Property (e.Property s2 v2 p2) v2 p2 s2 refl in cc
    by_which _ (is_Id v2 s2) never f = let g : ◌≡◌ {A = AstExpr-F AstExpr} (AstExpr-F.Binary o 0 (bare l) (bare r)) (AstExpr-F.Id (bare_name v2) 0) = f ∙ layer-Id (e.Id v2 s2) v2 s2 refl in cc
    by_which _ (is_Label v2 s2) never f = let g : ◌≡◌ {A = AstExpr-F AstExpr} (AstExpr-F.Binary o 0 (bare l) (bare r)) (AstExpr-F.Label (bare_name v2) 0) = f ∙ layer-Label (e.Label v2 s2) v2 s2 refl in cc
    by_which _ (is_Not x2 s2) never f = let g : ◌≡◌ {A = AstExpr-F AstExpr} (AstExpr-F.Binary o 0 (bare l) (bare r)) (AstExpr-F.Not (bare x2) 0) = f ∙ layer-Not (e.Not x2 s2) x2 s2 refl in cc
    by_which _ (is_Neg x2 s2) never f = let g : ◌≡◌ {A = AstExpr-F AstExpr} (AstExpr-F.Binary o 0 (bare l) (bare r)) (AstExpr-F.Neg (bare x2) 0) = f ∙ layer-Neg (e.Neg x2 s2) x2 s2 refl in cc
    by_which _ (is_IsNull x2 w2 s2) never f = let g : ◌≡◌ {A = AstExpr-F AstExpr} (AstExpr-F.Binary o 0 (bare l) (bare r)) (AstExpr-F.IsNull (bare x2) w2 0) = f ∙ layer-IsNull (e.IsNull x2 w2 s2) x2 w2 s2 refl in cc
    by_which _ (is_Binary o2 l2 r2 s2) never f = never o2 l2 r2 s2 refl

-- what is told of one is told of whatever is the same
pub told_so : {T : Type 0} (x a b : AstExpr) → bare a ≡ bare b → (T → bare x ≡ bare a) × (bare x ≡ bare a → T) → (T → bare x ≡ bare b) × (bare x ≡ bare b → T)
told_so x a b same told = ((λ t. told.0 t ∙ same), (λ s. told.1 (s ∙ sym same)))
