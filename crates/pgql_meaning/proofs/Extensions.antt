-- The assignments that begin with some numbers, by the number that comes next.
use Rattle.std.proofs.Common.{◌≡◌, ℕ, ◌+◌, Bool, false, List, [], ◌∷◌, ◌++◌, map, refl, ap, arith, ◌∙◌, zero, suc, append_assoc, append-nil}
use Rattle.std.specs.List.{flat_map, range_with_len, filter}
use Rattle.std.proofs.lemmas.Grind.{common_steps, flat_map-append}
use Rattle.std.proofs.lemmas.List.Elements.{filter-append}
use Rattle.std.proofs.lemmas.List.{map-append}
use Rattle.pgql_meaning.specs.Assignments.{assignments, extensions}

map-flat_map : {A B C : Type 0} (k : B → C) (f : A → List B) (xs : List A) → map k (flat_map f xs) ≡ flat_map (λ x. map k (f x)) xs
map-flat_map k f [] = refl
map-flat_map k f (x ∷ xs) = map-append k (f x) (flat_map f xs) ∙ ap (λ r. map k (f x) ++ r) (map-flat_map k f xs)

filter-flat_map : {A B : Type 0} (p : B → Bool) (f : A → List B) (xs : List A) → filter p (flat_map f xs) ≡ flat_map (λ x. filter p (f x)) xs
filter-flat_map p f [] = refl
filter-flat_map p f (x ∷ xs) = filter-append p (f x) (flat_map f xs) ∙ ap (λ r. filter p (f x) ++ r) (filter-flat_map p f xs)

flat_map-same : {A B : Type 0} (f g : A → List B) → ((x : A) → f x ≡ g x) → (xs : List A) → flat_map f xs ≡ flat_map g xs
flat_map-same f g same [] = refl
flat_map-same f g same (x ∷ xs) = rw (same x, flat_map-same f g same xs) refl

front_more : (front : List ℕ) (i : ℕ) (rests : List (List ℕ)) → map (λ rest. front ++ rest) (map (λ a. i ∷ a) rests) ≡ map (λ rest. (front ++ i ∷ []) ++ rest) rests
front_more front i [] = refl
front_more front i (rest ∷ rests) = rw (append_assoc front (i ∷ []) rest, front_more front i rests) refl

extensions-by_number : (passes : List ℕ → Bool) (front : List ℕ) (n : ℕ) (ns : List ℕ)
    → extensions passes front (n ∷ ns) ≡ flat_map (λ i. extensions passes (front ++ i ∷ []) ns) (range_with_len 0 n)
extensions-by_number passes front n ns =
    rw (map-flat_map, filter-flat_map)
    (flat_map-same (λ i. filter passes (map (λ rest. front ++ rest) (map (λ a. i ∷ a) (assignments ns)))) (λ i. extensions passes (front ++ i ∷ []) ns)
    (λ i. rw (front_more front i (assignments ns)) refl) (range_with_len 0 n))

pub range_more : (a n : ℕ) → range_with_len a (n + 1) ≡ range_with_len a n ++ (a + n) ∷ []
range_more a zero = grind arith
range_more a (suc n) = grind (arith, range_more (a + 1) n)

-- what the numbers below n give
abbrev pub by_numbers : {X : Type 0} → (List ℕ → X) → (List ℕ → Bool) → List ℕ → List ℕ → ℕ → List X
by_numbers f passes front ns n = map f (flat_map (λ i. extensions passes (front ++ i ∷ []) ns) (range_with_len 0 n))

-- one number more
pub by_numbers-more : {X : Type 0} (f : List ℕ → X) (passes : List ℕ → Bool) (front ns : List ℕ) (n : ℕ)
    → by_numbers f passes front ns (n + 1) ≡ by_numbers f passes front ns n ++ map f (extensions passes (front ++ n ∷ []) ns)
by_numbers-more f passes front ns n = grind (arith, common_steps, range_more 0 n, flat_map-append, map-append)

-- all numbers of the next variable
pub by_numbers-all : {X : Type 0} (f : List ℕ → X) (passes : List ℕ → Bool) (front : List ℕ) (n : ℕ) (ns : List ℕ)
    → by_numbers f passes front ns n ≡ map f (extensions passes front (n ∷ ns))
by_numbers-all f passes front n ns = rw (extensions-by_number passes front n ns) refl

nothing_first : (lists : List (List ℕ)) → map (λ rest. [] ++ rest) lists ≡ lists
nothing_first [] = refl
nothing_first (x ∷ xs) = rw (nothing_first xs) refl

-- those that begin with nothing
pub extensions-of_nothing : (passes : List ℕ → Bool) (ranges : List ℕ) → extensions passes [] ranges ≡ filter passes (assignments ranges)
extensions-of_nothing passes ranges = rw (nothing_first (assignments ranges)) refl

filter-none : {A : Type 0} (p : A → Bool) (f : List ℕ → A) → ((x : List ℕ) → p (f x) ≡ false) → (xs : List (List ℕ)) → filter p (map f xs) ≡ []
filter-none p f none [] = refl
filter-none p f none (x ∷ xs) = rw (none x, filter-none p f none xs) refl

-- none where no rest passes
pub extensions-none : (passes : List ℕ → Bool) (front ranges : List ℕ) → ((rest : List ℕ) → passes (front ++ rest) ≡ false) → extensions passes front ranges ≡ []
extensions-none passes front ranges none = filter-none passes (λ rest. front ++ rest) none (assignments ranges)

-- an assignment alone
pub extensions-alone : (passes : List ℕ → Bool) (front : List ℕ) → extensions passes front [] ≡ filter passes (front ∷ [])
extensions-alone passes front = ap (λ a. filter passes (a ∷ [])) (append-nil front)
