-- A change of one word, and of one view.
use Rattle.std.proofs.Common.{◌≡◌, ◌≢◌, ℕ, List, ◌<◌, ◌≤◌, length, get_or, set, refl, sym, arith, subst, ⊎_elim, mul-le-mul_right}
use Rattle.std.proofs.lemmas.List.{get_or-set_same, get_or-set_other}
use Rattle.std.specs.Prelude.{sum_by}
use mathlib.Core.Option.{some}
use mathlib.Core.Logic.{dite}
use native.Mathlib.Decide.{ℕ_discrete}
use lib.ListN.{get_elem?}
use Rattle.atomic_table.proofs.Lists.{at_set}
use Rattle.stage_credits.specs.declared.view.View.{View}
use Rattle.stage_credits.specs.declared.setup.Setup.{Setup}
use Rattle.stage_credits.specs.Layout.{layer, stage_start}
use Rattle.stage_credits.specs.Rule.{Each}
use Rattle.stage_credits.proofs.Sums.{sum_by-put}

-- the words from lo to hi are as they were
abbrev pub StaysBetween : ℕ → ℕ → List ℕ → List ℕ → Type 0
StaysBetween lo hi words after = (k : ℕ) → lo ≤ k → k < hi → get_or after k 0 ≡ get_or words k 0

pub stay : (lo hi : ℕ) (words : List ℕ) → StaysBetween lo hi words words
stay lo hi words k from to = refl

pub stay_above : (lo hi i n : ℕ) (words : List ℕ) → i < lo → StaysBetween lo hi words (set words i n)
stay_above lo hi i n words low k from to = get_or-set_other words i k n 0 (omega arith)

pub stay_below : (lo hi i n : ℕ) (words : List ℕ) → hi ≤ i → StaysBetween lo hi words (set words i n)
stay_below lo hi i n words high k from to = get_or-set_other words i k n 0 (omega arith)

-- what a word holds after a change of one
pub get_or-put : (P : ℕ → ℕ → Type 0) (words : List ℕ) (i n k : ℕ) → i < length words → P i n → (k ≢ i → P k (get_or words k 0)) → P k (get_or (set words i n) k 0)
get_or-put P words i n k there here other =
    dite (ℕ_discrete k i)
    (λ (e : k ≡ i). subst (λ (j : ℕ). P j (get_or (set words i n) j 0)) (sym e) (subst (λ (m : ℕ). P i m) (sym (get_or-set_same words i n 0 there)) here))
    (λ (ne : k ≢ i). subst (λ (m : ℕ). P k m) (sym (get_or-set_other words i k n 0 ne)) (other ne))

pub Each-put : (Q : View → Type 0) (views : List View) (id : ℕ) (w : View) → Q w → Each Q views → Each Q (set views id w)
Each-put Q views id w here each j u at =
    ⊎_elim (λ (t : (j ≡ id) × (w ≡ u)). subst Q t.1 here) (λ (t : (j ≢ id) × (get_elem? views j ≡ some u)). each j u t.1) (at_set views id j w u at)

pub Each-map : (Q R : View → Type 0) (views : List View) → ((v : View) → Q v → R v) → Each Q views → Each R views
Each-map Q R views f each j u at = f u (each j u at)

pub sum_by-same : (f : View → ℕ) (views : List View) (id : ℕ) (v w : View) → get_elem? views id ≡ some v → f w ≡ f v → sum_by f (set views id w) ≡ sum_by f views
sum_by-same f views id v w at same = let s = sum_by-put f views id v w at in omega arith

pub stage_start-le : (setup : Setup) (c d : ℕ) → c ≤ d → stage_start setup c ≤ stage_start setup d
stage_start-le setup c d le = mul-le-mul_right (layer setup) le
