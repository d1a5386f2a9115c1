-- What it means that links join two variables.
use Rattle.std.proofs.Common.{◌≡◌, ◌∙◌, refl, sym, ap, ℕ, ◌+◌, ◌<◌, Bool, true, false, ◌&&◌, List, [], ◌∷◌, ◌++◌, append_assoc, drop, get_or, length, map, inl, inr, arith}
use Rattle.std.specs.Prelude.{◌⊎◌, ◌==◌, ◌||◌, slice_index}
use Rattle.std.specs.List.{AllByRecursion}
use Rattle.std.proofs.lemmas.Bool.{eqb-true, ne_eqb}
use Rattle.std.proofs.lemmas.Cmp.{nat_eq_equiv}
use Rattle.std.proofs.lemmas.List.Elements.{All-from_recursion, recursion_from_All}
use Rattle.pattern_scope.specs.declared.fault.TypeFault.{TypeFault}
use Rattle.pattern_scope.specs.declared.fault.TypeFault.TheVariants as fault
use Rattle.pattern_scope.specs.Laws.{SetsApart}
use Rattle.pattern_scope.proofs.Lists.{drop-front}
use Rattle.pattern_scope.specs.Joined.{Agree, AreGroups, Respects, are_joined, disconnected}

or_cases : (a b : Bool) → (a || b) ≡ true → (a ≡ true) ⊎ (b ≡ true)
or_cases true b is = inl refl
or_cases false b is = inr is

and_cases : (a b : Bool) → (a && b) ≡ true → (a ≡ true) × (b ≡ true)
and_cases true b is = (refl, is)
and_cases false b is = absurd cc

-- a set that has of each link both ends or neither has both of two that are joined, or neither
module _ (set : ℕ → Bool) where
  pub same-joined : (links : List (ℕ × ℕ)) → AllByRecursion (λ link. set link.0 ≡ set link.1) links → (v w : ℕ) → are_joined links v w ≡ true → set v ≡ set w
  unfolding are_joined
  same-joined [] both v w is = ap set (eqb-true v w is)
  same-joined (link ∷ links) both v w is =
      by_way (or_cases (are_joined links v w || (are_joined links v link.0 && are_joined links link.1 w)) (are_joined links v link.1 && are_joined links link.0 w) is)
      (same-joined links both.1)
    where
      first_way : ((x y : ℕ) → are_joined links x y ≡ true → set x ≡ set y) → (are_joined links v w ≡ true) ⊎ ((are_joined links v link.0 && are_joined links link.1 w) ≡ true) → set v ≡ set w
      first_way same (inl without) = same v w without
      first_way same (inr by) =
          let ends = and_cases (are_joined links v link.0) (are_joined links link.1 w) by in
          same v link.0 ends.0 ∙ both.0 ∙ same link.1 w ends.1

      by_way : ((are_joined links v w || (are_joined links v link.0 && are_joined links link.1 w)) ≡ true) ⊎ ((are_joined links v link.1 && are_joined links link.0 w) ≡ true)
          → ((x y : ℕ) → are_joined links x y ≡ true → set x ≡ set y) → set v ≡ set w
      by_way (inl first) same = first_way same (or_cases (are_joined links v w) (are_joined links v link.0 && are_joined links link.1 w) first)
      by_way (inr by) same =
          let ends = and_cases (are_joined links v link.1) (are_joined links link.0 w) by in
          same v link.1 ends.0 ∙ sym both.0 ∙ same link.0 w ends.1

pub joined-itself : (links : List (ℕ × ℕ)) (v : ℕ) → are_joined links v v ≡ true
unfolding are_joined
joined-itself [] v = nat_eq_equiv.refl v
joined-itself (link ∷ links) v = rw (joined-itself links v) refl

-- what is joined with one end of the first link is joined with the other
both_ends : (a b x y : Bool) → ((a || (a && x)) || (b && true)) ≡ ((b || (a && true)) || (b && y))
both_ends true true x y = refl
both_ends true false x y = refl
both_ends false true x y = refl
both_ends false false x y = refl

all-map : {X : Type 0} {P Q : X → Type 0} (xs : List X) → ((x : X) → P x → Q x) → AllByRecursion P xs → AllByRecursion Q xs
all-map [] f all = tt
all-map (x ∷ xs) f all = (f x all.0, all-map xs f all.1)

-- and so of each link
pub joined-ends : (links : List (ℕ × ℕ)) → AllByRecursion (λ link. (v : ℕ) → are_joined links v link.0 ≡ are_joined links v link.1) links
unfolding are_joined
joined-ends [] = tt
joined-ends (link ∷ links) = (first, all-map links other (joined-ends links))
  where
    first : (v : ℕ) → are_joined (link ∷ links) v link.0 ≡ are_joined (link ∷ links) v link.1
    first v = rw (joined-itself links link.0, joined-itself links link.1) (both_ends (are_joined links v link.0) (are_joined links v link.1) (are_joined links link.1 link.0) (are_joined links link.0 link.1))

    other : (l : ℕ × ℕ) → ((v : ℕ) → are_joined links v l.0 ≡ are_joined links v l.1) → (v : ℕ) → are_joined (link ∷ links) v l.0 ≡ are_joined (link ∷ links) v l.1
    other l same v = rw (same v, same link.1, same link.0) refl

-- the set of all that are joined with the first variable has of each link both ends or neither
pub joined-set : (links : List (ℕ × ℕ)) → AllByRecursion (λ link. are_joined links 0 link.0 ≡ are_joined links 0 link.1) links
joined-set links = all-map links (λ l same. same 0) (joined-ends links)

-- where no vertex is told, each is joined with the first variable
pub all_joined : (links vertices : List (ℕ × ℕ)) → disconnected links vertices ≡ [] → AllByRecursion (λ number. are_joined links 0 number ≡ true) (map (λ vertex. vertex.0) vertices)
all_joined links [] none = tt
all_joined links (vertex ∷ vertices) none = by_test (are_joined links 0 vertex.0) refl (all_joined links vertices)
  where
    by_test : (t : Bool) → are_joined links 0 vertex.0 ≡ t
        → (disconnected links vertices ≡ [] → AllByRecursion (λ number. are_joined links 0 number ≡ true) (map (λ vertex. vertex.0) vertices))
        → AllByRecursion (λ number. are_joined links 0 number ≡ true) (map (λ vertex. vertex.0) (vertex ∷ vertices))
    by_test true is more = (is, more (rw is at none))
    by_test false is more = absurd (let told = rw is at none in cc)

-- whether a variable is in the group of the first one
abbrev is_with_first : List ℕ → ℕ → Bool
is_with_first groups i = slice_index groups i == slice_index groups 0

-- the group of a variable tells whether it is joined with the first one
pub grouped : (count : ℕ) (links : List (ℕ × ℕ)) (groups : List ℕ) (v : ℕ) → AreGroups count links groups → v < count → are_joined links 0 v ≡ (slice_index groups v == slice_index groups 0)
grouped count links groups v are inside = by_tests (are_joined links 0 v) (slice_index groups v == slice_index groups 0) refl refl
  where
    both : AllByRecursion (λ link. is_with_first groups link.0 ≡ is_with_first groups link.1) links
    both = all-map links (λ link same. ap (λ g. g == slice_index groups 0) same) (recursion_from_All (Agree groups) links are.agreed)

    joined : Respects (are_joined links 0) groups
    joined = are.respected (are_joined links 0) (All-from_recursion (λ link. are_joined links 0 link.0 ≡ are_joined links 0 link.1) links (joined-set links))

    by_tests : (t u : Bool) → are_joined links 0 v ≡ t → (slice_index groups v == slice_index groups 0) ≡ u → t ≡ u
    by_tests true true is same = refl
    by_tests false false is same = refl
    by_tests true false is same = sym (nat_eq_equiv.refl (slice_index groups 0)) ∙ same-joined (is_with_first groups) links both 0 v is ∙ same
    by_tests false true is same =
        sym (
        sym (joined-itself links 0)
        ∙ sym (joined.same 0 (omega (arith, are.as_many, inside)))
        ∙ ap (are_joined links 0) (sym (eqb-true (slice_index groups v) (slice_index groups 0) same))
        ∙ joined.same v (omega (arith, are.as_many, inside))
        ∙ is
        )

disconnected-cons : (links : List (ℕ × ℕ)) (vertex : ℕ × ℕ) (vertices : List (ℕ × ℕ)) → disconnected links (vertex ∷ vertices) ≡ disconnected links (vertex ∷ []) ++ disconnected links vertices
disconnected-cons links vertex vertices = by_test (are_joined links 0 vertex.0) refl
  where
    by_test : (t : Bool) → are_joined links 0 vertex.0 ≡ t → disconnected links (vertex ∷ vertices) ≡ disconnected links (vertex ∷ []) ++ disconnected links vertices
    by_test true is = rw is refl
    by_test false is = rw is refl

-- one vertex further
pub disconnected-step : (links vertices : List (ℕ × ℕ)) (i : ℕ) (d : ℕ × ℕ) (faults more whole : List TypeFault) → i < length vertices
    → faults ++ disconnected links (drop i vertices) ≡ whole → more ≡ faults ++ disconnected links (get_or vertices i d ∷ []) → more ++ disconnected links (drop (i + 1) vertices) ≡ whole
disconnected-step links vertices i d faults more whole below so_far is =
    ap (λ m. m ++ disconnected links (drop (i + 1) vertices)) is
    ∙ append_assoc faults (disconnected links (get_or vertices i d ∷ [])) (disconnected links (drop (i + 1) vertices))
    ∙ ap (λ rest. faults ++ rest) (sym (ap (disconnected links) (drop-front vertices i d below) ∙ disconnected-cons links (get_or vertices i d) (drop (i + 1) vertices)))
    ∙ so_far

pub apart-told : (links : List (ℕ × ℕ)) (groups : List ℕ) (number at : ℕ) → AreGroups (length groups) links groups → number < length groups
    → (slice_index groups number ≡ slice_index groups 0 → ⊥) → disconnected links ((number, at) ∷ []) ≡ fault.Disconnected at ∷ []
apart-told links groups number at are inside differ = rw (grouped (length groups) links groups number are inside, ne_eqb (slice_index groups number) (slice_index groups 0) differ) refl

pub together-told : (links : List (ℕ × ℕ)) (groups : List ℕ) (number at : ℕ) → AreGroups (length groups) links groups → number < length groups
    → slice_index groups number ≡ slice_index groups 0 → disconnected links ((number, at) ∷ []) ≡ []
together-told links groups number at are inside same = rw (grouped (length groups) links groups number are inside, same, nat_eq_equiv.refl (slice_index groups 0)) refl

-- the variables that are joined with the first one are a set that sets the others apart
pub apart_from : (links : List (ℕ × ℕ)) (number : ℕ) → are_joined links 0 number ≡ false → (set : ℕ → Bool) × SetsApart links number set
apart_from links number is =
    (are_joined links 0, record { has_first = joined-itself links 0; both_or_neither = All-from_recursion (λ link. are_joined links 0 link.0 ≡ are_joined links 0 link.1) links (joined-set links); lacks = is })

-- and what a set sets apart isn't joined
pub not_joined-apart : (links : List (ℕ × ℕ)) (number : ℕ) → (set : ℕ → Bool) × SetsApart links number set → are_joined links 0 number ≡ false
not_joined-apart links number (set, apart) = by_test (are_joined links 0 number) refl
  where
    by_test : (t : Bool) → are_joined links 0 number ≡ t → t ≡ false
    by_test true is =
        let same = same-joined set links (recursion_from_All (λ link. set link.0 ≡ set link.1) links apart.both_or_neither) 0 number is in
        sym apart.has_first ∙ same ∙ apart.lacks
    by_test false is = refl
