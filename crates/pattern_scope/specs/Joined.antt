-- Which vertices edge patterns join.
use Rattle.std.specs.Prelude.{◌≡◌, ℕ, ◌<◌, ◌≤◌, ◌==◌, ◌&&◌, ◌||◌, Bool, not, List, [], ◌∷◌, length, map, filter, slice_index, sum, All}
use Rattle.pattern_scope.specs.declared.fault.TypeFault.{TypeFault}
use Rattle.pattern_scope.specs.declared.fault.TypeFault.TheVariants as fault

-- Links join two variables: the two are one, or are joined without the first link, or by way of it.
unfoldable pub are_joined : List (ℕ × ℕ) → ℕ → ℕ → Bool
are_joined [] v w = v == w
are_joined (link ∷ links) v w = are_joined links v w || (are_joined links v link.0 && are_joined links link.1 w) || (are_joined links v link.1 && are_joined links link.0 w)

-- the vertices that no links join with the first variable, each at its first pattern
abbrev pub disconnected : List (ℕ × ℕ) → List (ℕ × ℕ) → List TypeFault
disconnected links vertices = map (λ vertex. fault.Disconnected vertex.1) (filter (λ vertex. not (are_joined links 0 vertex.0)) vertices)

-- of each link the set has both ends or neither
abbrev pub HasBothOrNeither : (ℕ → Bool) → List (ℕ × ℕ) → Type 0
HasBothOrNeither set links = All (λ link. set link.0 ≡ set link.1) links

-- ---- variables that stand for others, by which the code finds what is joined

-- each variable's is itself or an earlier one
pub record IsForest (parents : List ℕ) : Type 0 where
  pub falls : (i : ℕ) → i < length parents → slice_index parents i ≤ i

-- each variable's stands for itself
pub record IsFlat (parents : List ℕ) : Type 0 where
  pub stands : (i : ℕ) → i < length parents → slice_index parents (slice_index parents i) ≡ slice_index parents i

-- the set has a variable exactly where it has the one that stands for it
pub record Respects (set : ℕ → Bool) (parents : List ℕ) : Type 0 where
  pub same : (i : ℕ) → i < length parents → set (slice_index parents i) ≡ set i

-- what stands for variables was brought nearer, and no set is told otherwise
pub record IsNearer (old new : List ℕ) : Type 0 where
  pub as_many : length new ≡ length old
  pub forest : IsForest new
  pub respected : (set : ℕ → Bool) → Respects set old → Respects set new
  pub roots_stay : (i : ℕ) → slice_index old i ≡ i → slice_index new i ≡ i
  pub no_more : sum new ≤ sum old

-- both ends of a link are among so many variables
abbrev pub IsWithin : ℕ → ℕ × ℕ → Type 0
IsWithin count link = (link.0 < count) × (link.1 < count)

-- what stands for the two ends is the same
abbrev pub Agree : List ℕ → ℕ × ℕ → Type 0
Agree parents link = slice_index parents link.0 ≡ slice_index parents link.1

-- what stands for variables tells which are joined
pub record AreGroups (count : ℕ) (links : List (ℕ × ℕ)) (parents : List ℕ) : Type 0 where
  pub as_many : length parents ≡ count
  pub respected : (set : ℕ → Bool) → HasBothOrNeither set links → Respects set parents
  pub agreed : All (Agree parents) links

-- what stands for variables is near, and tells no set otherwise that has of each link both ends or neither
pub record AreJoinedSoFar (count : ℕ) (links : List (ℕ × ℕ)) (parents : List ℕ) : Type 0 where
  pub as_many : length parents ≡ count
  pub forest : IsForest parents
  pub flat : IsFlat parents
  pub respected : (set : ℕ → Bool) → HasBothOrNeither set links → Respects set parents
