-- Bytes that begin with others.
use Rattle.std.proofs.Common.{◌≡◌, ℕ, List, [], ◌∷◌, ◌++◌, map, Result, Ok, Err, OnErr, refl, ap, sym, ◌∙◌, append-nil, append_assoc}
use Rattle.std.specs.List.{flat_map}
use Rattle.result_collect.specs.Replies.{Grows, parted}

pub grows_on : (old mid new : List ℕ) → Grows old mid → Grows mid new → Grows old new
grows_on old mid new first second = (first.0 ++ second.0, second.1 ∙ ap (λ xs. xs ++ second.0) first.1 ∙ append_assoc old first.0 second.0)

pub grows_same : (old new : List ℕ) → new ≡ old → Grows old new
grows_same old new same = ([], same ∙ sym (append-nil old))

-- what holds after an error
pub on_err : {A E : Type 0} (result : Result A E) (P : Type 0) → P → OnErr result P
on_err (Ok x) P holds = tt
on_err (Err e) P holds = holds

flat_map-map : {X Y Z : Type 0} (g : Y → List Z) (f : X → Y) (xs : List X) → flat_map g (map f xs) ≡ flat_map (λ x. g (f x)) xs
flat_map-map g f [] = refl
flat_map-map g f (x ∷ xs) = ap (λ rest. g (f x) ++ rest) (flat_map-map g f xs)

-- the first cell, and the others after it
pub parted-first : {X : Type 0} (f : X → List ℕ) (all others : List X) (first : X) (old mid : List ℕ) → all ≡ first ∷ others → mid ≡ old ++ f first
    → mid ++ flat_map (λ x. 44 ∷ f x) others ≡ old ++ parted (map f all)
parted-first f all others first old mid is is_mid =
    rw (is, is_mid) (append_assoc old (f first) (flat_map (λ x. 44 ∷ f x) others) ∙ ap (λ rest. old ++ (f first ++ rest)) (sym (flat_map-map (λ next. 44 ∷ next) f others)))
