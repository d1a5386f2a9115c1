-- What the first edge that passes, and the others, have of the list.
use Rattle.std.proofs.Common.{◌≡◌, ℕ, suc, ◌+◌, Bool, true, false, ◌||◌, List, [], ◌∷◌, length, Option, Some, None, refl, sym, ap, ◌∙◌, subst, arith}
use Rattle.std.specs.List.{AllByRecursion, list_any}
use Rattle.match_context.specs.Bags.{total}
use Rattle.typed_expr.specs.declared.query.EdgeJoin.{EdgeJoin}
use Rattle.stage_plan.specs.Front.{first_or, pick}

-- no two edges are one
abbrev pub AreDistinct : List EdgeJoin → Type 0
AreDistinct [] = Unit {0}
AreDistinct (j ∷ js) = AllByRecursion (λ (k : EdgeJoin). k.edge ≡ j.edge → ⊥) js × AreDistinct js

pub record IsPicked (p : EdgeJoin → Bool) (left : List EdgeJoin) (j : EdgeJoin) (rest : List EdgeJoin) : Type 0 where
  pub passes : p j ≡ true
  pub shorter : length left ≡ suc (length rest)
  pub total_of : (t : EdgeJoin → ℕ) → total t left ≡ t j + total t rest
  pub any_of : (t : EdgeJoin → Bool) → list_any t left ≡ (t j || list_any t rest)
  pub apart : AreDistinct left → AllByRecursion (λ (k : EdgeJoin). k.edge ≡ j.edge → ⊥) rest × AreDistinct rest

or_left_comm : (x y z : Bool) → (x || (y || z)) ≡ (y || (x || z))
or_left_comm true true z = refl
or_left_comm true false z = refl
or_left_comm false true z = refl
or_left_comm false false z = refl

abbrev some_first : EdgeJoin → Option (EdgeJoin × List EdgeJoin) → EdgeJoin
some_first k None = k
some_first k (Some r) = r.0

abbrev some_rest : List EdgeJoin → Option (EdgeJoin × List EdgeJoin) → List EdgeJoin
some_rest ks None = ks
some_rest ks (Some r) = r.1

abbrev with_rest : List EdgeJoin → EdgeJoin → Option (EdgeJoin × List EdgeJoin)
with_rest rest j = Some (j, rest)

pub All-picked : (P : EdgeJoin → Type 0) (p : EdgeJoin → Bool) (left : List EdgeJoin) (j : EdgeJoin) (rest : List EdgeJoin)
    → pick p left ≡ Some (j, rest) → AllByRecursion P left → P j × AllByRecursion P rest
All-picked P p [] j rest is every = cc
All-picked P p (k ∷ ks) j rest is every =
    at_answer (p k) (pick p ks) refl is (λ r others. All-picked P p ks j r others every.1)
  where
    at_answer : (b : Bool) (o : Option (EdgeJoin × List EdgeJoin)) → pick p ks ≡ o
        → first_or b k ks o ≡ Some (j, rest)
        → ((r : List EdgeJoin) → pick p ks ≡ Some (j, r) → P j × AllByRecursion P r) → P j × AllByRecursion P rest
    at_answer true o found here later =
        let same_j : k ≡ j = ap (some_first k) here in let same_rest : ks ≡ rest = ap (some_rest ks) here in
        (subst P same_j every.0, subst (AllByRecursion P) same_rest every.1)
    at_answer false None found here later = cc
    at_answer false (Some r) found here later =
        let same_j : r.0 ≡ j = ap (some_first r.0) here in let same_rest : k ∷ r.1 ≡ rest = ap (some_rest (k ∷ r.1)) here in
        let tail : (P j × AllByRecursion P r.1) = later r.1 (found ∙ ap (with_rest r.1) same_j) in
        (tail.0, subst (AllByRecursion P) same_rest (every.0, tail.1))

pub picked : (p : EdgeJoin → Bool) (left : List EdgeJoin) (j : EdgeJoin) (rest : List EdgeJoin) → pick p left ≡ Some (j, rest) → IsPicked p left j rest
picked p [] j rest is = cc
picked p (k ∷ ks) j rest is = at_answer (p k) refl (pick p ks) refl is (λ r others. picked p ks j r others) where
  from_tail : (r : List EdgeJoin) → pick p ks ≡ Some (j, r) → IsPicked p ks j r → IsPicked p (k ∷ ks) j (k ∷ r)
  from_tail r found at_tail = record {
    passes = at_tail.passes;
    shorter = ap suc at_tail.shorter;
    total_of = λ t. let tail = at_tail.total_of t in omega arith;
    any_of = λ t. ap (λ b. t k || b) (at_tail.any_of t) ∙ or_left_comm (t k) (t j) (list_any t r);
    apart = λ distinct.
        let tail = at_tail.apart distinct.1 in
        let split = All-picked (λ (x : EdgeJoin). x.edge ≡ k.edge → ⊥) p ks j r found distinct.0 in
        ((λ same. split.0 (sym same), tail.0), (split.1, tail.1));
  }

  at_answer : (b : Bool) → p k ≡ b → (o : Option (EdgeJoin × List EdgeJoin)) → pick p ks ≡ o
      → first_or b k ks o ≡ Some (j, rest)
      → ((r : List EdgeJoin) → pick p ks ≡ Some (j, r) → IsPicked p ks j r) → IsPicked p (k ∷ ks) j rest
  at_answer true passes o found here later =
      let same_j : k ≡ j = ap (some_first k) here in let same_rest : ks ≡ rest = ap (some_rest ks) here in
      let whole : IsPicked p (k ∷ ks) k ks = record {
        passes = passes;
        shorter = refl;
        total_of = λ t. refl;
        any_of = λ t. refl;
        apart = λ distinct. distinct;
      } in
      subst (IsPicked p (k ∷ ks) j) same_rest (subst (λ x. IsPicked p (k ∷ ks) x ks) same_j whole)
  at_answer false passes None found here later = cc
  at_answer false passes (Some r) found here later =
      let same_j : r.0 ≡ j = ap (some_first r.0) here in let same_rest : k ∷ r.1 ≡ rest = ap (some_rest (k ∷ r.1)) here in
      let found_here : pick p ks ≡ Some (j, r.1) = found ∙ ap (with_rest r.1) same_j in
      subst (IsPicked p (k ∷ ks) j) same_rest (from_tail r.1 found_here (later r.1 found_here))

pub none_picked : (p : EdgeJoin → Bool) (left : List EdgeJoin) → pick p left ≡ None → AllByRecursion (λ (j : EdgeJoin). p j ≡ false) left
none_picked p [] is = tt
none_picked p (k ∷ ks) is = at_answer (p k) refl (pick p ks) refl is (λ later. none_picked p ks later) where
  at_answer : (b : Bool) → p k ≡ b → (o : Option (EdgeJoin × List EdgeJoin)) → pick p ks ≡ o
      → first_or b k ks o ≡ None
      → (pick p ks ≡ None → AllByRecursion (λ (j : EdgeJoin). p j ≡ false) ks) → AllByRecursion (λ (j : EdgeJoin). p j ≡ false) (k ∷ ks)
  at_answer true passes o found here later = cc
  at_answer false passes None found here later = (passes, later found)
  at_answer false passes (Some r) found here later = cc

pub unsplit : (P : EdgeJoin → Type 0) (p : EdgeJoin → Bool) (left : List EdgeJoin) (j : EdgeJoin) (rest : List EdgeJoin)
    → pick p left ≡ Some (j, rest) → P j → AllByRecursion P rest → AllByRecursion P left
unsplit P p [] j rest is here every = cc
unsplit P p (k ∷ ks) j rest is here every =
    at_answer (p k) (pick p ks) refl is (λ r others more. unsplit P p ks j r others here more)
  where
    at_answer : (b : Bool) (o : Option (EdgeJoin × List EdgeJoin)) → pick p ks ≡ o
        → first_or b k ks o ≡ Some (j, rest)
        → ((r : List EdgeJoin) → pick p ks ≡ Some (j, r) → AllByRecursion P r → AllByRecursion P ks) → P k × AllByRecursion P ks
    at_answer true o found at_first later =
        let same_j : k ≡ j = ap (some_first k) at_first in let same_rest : ks ≡ rest = ap (some_rest ks) at_first in
        (subst P (sym same_j) here, subst (AllByRecursion P) (sym same_rest) every)
    at_answer false None found at_first later = cc
    at_answer false (Some r) found at_first later =
        let same_j : r.0 ≡ j = ap (some_first r.0) at_first in let same_rest : k ∷ r.1 ≡ rest = ap (some_rest (k ∷ r.1)) at_first in
        let whole : AllByRecursion P (k ∷ r.1) = subst (AllByRecursion P) (sym same_rest) every in
        (whole.0, later r.1 (found ∙ ap (with_rest r.1) same_j) whole.1)
