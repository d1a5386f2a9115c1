-- What stands for variables, as it is brought nearer.
use Rattle.std.proofs.Common.{◌≡◌, ◌∙◌, refl, sym, ap, subst, ℕ, ◌+◌, ◌<◌, ◌≤◌, Bool, true, false, List, ◌++◌, length, take, drop, get_or, arith}
use Rattle.std.specs.Prelude.{All, slice_index, slice_set, sum, ◌||◌}
use Rattle.std.specs.Bool.{OnFalse, OnTrue}
use Rattle.std.specs.List.{range_with_len}
use Rattle.std.proofs.lemmas.List.{set-get_or, take_at}
use Rattle.std.proofs.lemmas.List.Elements.{All-more}
use Rattle.std.proofs.lemmas.List.FromFn.{get_or-range_with_len, length-range_with_len}
use Rattle.pattern_scope.specs.Joined.{Agree, AreGroups, AreJoinedSoFar, HasBothOrNeither, IsFlat, IsForest, IsNearer, Respects}

pub nearer-itself : (parents : List ℕ) → IsForest parents → IsNearer parents parents
nearer-itself parents forest = record { as_many = refl; forest = forest; respected = λ set r. r; roots_stay = λ i root. root; no_more = omega arith }

pub nearer-further : (old mid new : List ℕ) → IsNearer old mid → IsNearer mid new → IsNearer old new
nearer-further old mid new first second = record {
  as_many = second.as_many ∙ first.as_many;
  forest = second.forest;
  respected = λ set r. second.respected set (first.respected set r);
  roots_stay = λ i root. second.roots_stay i (first.roots_stay i root);
  no_more = omega (arith, first.no_more, second.no_more);
}

-- how far the way from a variable to the one that stands for it has come
pub record IsReached (initial parents : List ℕ) (number at : ℕ) : Type 0 where
  pub nearer : IsNearer initial parents
  pub inside : at < length parents
  pub respected : (set : ℕ → Bool) → Respects set initial → set at ≡ set number
  pub flat : IsFlat initial → (parents ≡ initial) × (slice_index initial at ≡ slice_index initial number)

pub reached-start : (initial : List ℕ) (number : ℕ) → IsForest initial → number < length initial → IsReached initial initial number number
reached-start initial number forest inside = record { nearer = nearer-itself initial forest; inside = inside; respected = λ set r. refl; flat = λ flat. (refl, refl) }

pub reached-next : (initial parents new : List ℕ) (number at above : ℕ) → IsReached initial parents number at → IsNearer parents new → new ≡ slice_set parents at above
    → above ≡ slice_index parents (slice_index parents at) → above ≤ slice_index parents at → IsReached initial new number above
reached-next initial parents new number at above reached nearer changed next below =
    let falls = reached.nearer.forest.falls at reached.inside in
    let within : slice_index parents at < length parents = omega (arith, falls, reached.inside) in
    record {
      nearer = nearer-further initial parents new reached.nearer nearer;
      inside = omega (arith, nearer.as_many, below, within);
      respected = λ set r.
          let now = reached.nearer.respected set r in
          ap set next ∙ now.same (slice_index parents at) within ∙ now.same at reached.inside ∙ reached.respected set r;
      flat = λ flat.
          let so_far = reached.flat flat in
          let own : slice_index parents (slice_index parents at) ≡ slice_index parents at =
          subst (λ ps. slice_index ps (slice_index ps at) ≡ slice_index ps at) (sym so_far.0) (flat.stands at (subst (λ ps. at < length ps) so_far.0 reached.inside)) in
          let kept : new ≡ parents = changed ∙ ap (slice_set parents at) (next ∙ own) ∙ set-get_or parents at 0 in (
            kept ∙ so_far.0,
            ap (λ n. slice_index initial n) (next ∙ own ∙ ap (λ ps. slice_index ps at) so_far.0)
                ∙ flat.stands at (subst (λ ps. at < length ps) so_far.0 reached.inside)
                ∙ so_far.1,
          );
    }

-- variables that stand for themselves
from_zero : (i : ℕ) → 0 + i ≡ i
from_zero i = omega arith

itself : (count i : ℕ) → i < length (range_with_len 0 count) → slice_index (range_with_len 0 count) i ≡ i
itself count i inside = get_or-range_with_len 0 count i 0 (omega (arith, inside, length-range_with_len 0 count)) ∙ from_zero i

pub alone-joined : (count : ℕ) (links : List (ℕ × ℕ)) → AreJoinedSoFar count links (range_with_len 0 count)
alone-joined count links = record {
  as_many = length-range_with_len 0 count;
  forest = record { falls = λ i inside. omega (arith, itself count i inside) };
  flat = record { stands = λ i inside. ap (slice_index (range_with_len 0 count)) (itself count i inside) };
  respected = λ set both. record { same = λ i inside. ap set (itself count i inside) };
}

-- where something was united, now or before, the sum is less
pub less-further : (united further either : Bool) (old mid new : List ℕ) → either ≡ (united || further) → sum mid ≤ sum old → sum new ≤ sum mid
    → OnTrue united (sum mid < sum old) → OnTrue further (sum new < sum mid) → OnTrue either (sum new < sum old)
less-further united further either old mid new is before after first second = subst (λ b. OnTrue b (sum new < sum old)) (sym is) (by_cases united further first second)
  where
    by_cases : (a b : Bool) → OnTrue a (sum mid < sum old) → OnTrue b (sum new < sum mid) → OnTrue (a || b) (sum new < sum old)
    by_cases true b first second = omega (arith, first, after)
    by_cases false true first second = omega (arith, before, second)
    by_cases false false first second = tt

-- where nothing was united, what stands for variables is as before, and agrees on one link more
pub known-further : (united further either : Bool) (initial parents new : List ℕ) (links : List (ℕ × ℕ)) (i : ℕ) → either ≡ (united || further) → i < length links
    → OnFalse united (IsFlat initial → (parents ≡ initial) × All (Agree initial) (take i links))
    → OnFalse further (IsFlat parents → (new ≡ parents) × Agree parents (get_or links i (0, 0)))
    → OnFalse either (IsFlat initial → (new ≡ initial) × All (Agree initial) (take (i + 1) links))
known-further united further either initial parents new links i is inside so_far here =
    subst (λ b. OnFalse b (IsFlat initial → (new ≡ initial) × All (Agree initial) (take (i + 1) links))) (sym is) (by_cases united further so_far here)
  where
    by_cases : (a b : Bool) → OnFalse a (IsFlat initial → (parents ≡ initial) × All (Agree initial) (take i links))
        → OnFalse b (IsFlat parents → (new ≡ parents) × Agree parents (get_or links i (0, 0)))
        → OnFalse (a || b) (IsFlat initial → (new ≡ initial) × All (Agree initial) (take (i + 1) links))
    by_cases true b so_far here = tt
    by_cases false true so_far here = tt
    by_cases false false so_far here = λ flat.
        let before = so_far flat in
        let now = here (subst IsFlat (sym before.0) flat) in
        (now.0 ∙ before.0, All-more (Agree initial) links i (0, 0) inside before.1 (subst (λ ps. Agree ps (get_or links i (0, 0))) before.0 now.1))

-- where nothing was left to unite
pub joined-end : (count : ℕ) (links : List (ℕ × ℕ)) (old new : List ℕ) (united : Bool) → united ≡ false → AreJoinedSoFar count links old
    → OnFalse united (IsFlat old → (new ≡ old) × All (Agree old) links) → AreGroups count links new
joined-end count links old new true is joined known = absurd cc
joined-end count links old new false is joined known =
    let all = known joined.flat in
    subst (AreGroups count links) (sym all.0) (record { as_many = joined.as_many; respected = joined.respected; agreed = all.1 })

-- and another round, where something was
pub joined-further : (count : ℕ) (links : List (ℕ × ℕ)) (old mid new : List ℕ) → AreJoinedSoFar count links old → length mid ≡ length old
    → ((set : ℕ → Bool) → Respects set old → HasBothOrNeither set links → Respects set mid) → IsNearer mid new → IsFlat new → AreJoinedSoFar count links new
joined-further count links old mid new joined as_many respected nearer flat = record {
  as_many = nearer.as_many ∙ as_many ∙ joined.as_many;
  forest = nearer.forest;
  flat = flat;
  respected = λ set both. nearer.respected set (respected set (joined.respected set both) both);
}

-- what was written over a whole list takes its place
pub written-back : (new old : List ℕ) (count : ℕ) → count ≡ length old → length new ≡ length old → take count (new ++ drop (length new) old) ≡ new
written-back new old count is same = subst (λ n. take n (new ++ drop (length new) old) ≡ new) (same ∙ sym is) (take_at new (drop (length new) old) (length new) refl)
