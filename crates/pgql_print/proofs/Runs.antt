-- The content of a literal, run by run.
use Rattle.std.proofs.Common.{◌≡◌, ◌<◌, ℕ, zero, suc, ◌-◌, Bool, true, false, List, [], ◌∷◌, ◌++◌, take, drop, length, flat_map, refl, sym, ap, ◌∙◌, append_assoc, arith}
use Rattle.std.specs.Prelude.{◌==◌, slice_index, if◌then◌else◌}
use Rattle.pgql_print.specs.Printing.{doubled}

abbrev NoQuote : List ℕ → ℕ → Type 0
NoQuote z n = (k : ℕ) → k < n → (slice_index z k == 39) ≡ true → ⊥

not_true : (b : Bool) → (b ≡ true → ⊥) → b ≡ false
not_true true never = absurd (never refl)
not_true false never = refl

-- a byte that is no quote stands for itself
plain_written : (b : ℕ) (z : List ℕ) → (b == 39) ≡ false → flat_map doubled (b ∷ z) ≡ b ∷ flat_map doubled z
plain_written b z is = ap (λ q. (if q then 39 ∷ 39 ∷ [] else b ∷ []) ++ flat_map doubled z) is

quote_written : (b : ℕ) (z : List ℕ) → (b == 39) ≡ true → flat_map doubled (b ∷ z) ≡ 39 ∷ 39 ∷ flat_map doubled z
quote_written b z is = ap (λ q. (if q then 39 ∷ 39 ∷ [] else b ∷ []) ++ flat_map doubled z) is

behind : (b : ℕ) (z : List ℕ) (n m : ℕ) → m ≡ suc n → NoQuote (b ∷ z) m → NoQuote z n
behind b z n m same none k lt is = none (suc k) (omega arith) is

first_plain : (b : ℕ) (z : List ℕ) (n : ℕ) → 0 < n → NoQuote (b ∷ z) n → (b == 39) ≡ false
first_plain b z n some none = not_true (b == 39) (λ is. none 0 some is)

-- the bytes before the first quote, that quote twice, and what stands after it
pub run_written : (z : List ℕ) (n : ℕ) → n < length z → NoQuote z n → (slice_index z n == 39) ≡ true
    → flat_map doubled z ≡ take n z ++ 39 ∷ 39 ∷ flat_map doubled (drop 1 (drop n z))
run_written [] n lt none is = absurd (omega arith)
run_written (b ∷ z) zero lt none is = quote_written b z is
run_written (b ∷ z) (suc n) lt none is =
    plain_written b z (first_plain b z (suc n) (omega arith) none) ∙ ap (λ x. b ∷ x) (run_written z n (omega arith) (behind b z n (suc n) refl none) is)

-- bytes without a quote
pub all_written : (z : List ℕ) → NoQuote z (length z) → flat_map doubled z ≡ z
all_written [] none = refl
all_written (b ∷ z) none =
    plain_written b z (first_plain b z (length (b ∷ z)) (omega arith) none) ∙ ap (λ x. b ∷ x) (all_written z (behind b z (length z) (length (b ∷ z)) (omega arith) none))

take-all : (count : ℕ) (z : List ℕ) → length z ≡ count → take count z ≡ z
take-all zero [] same = refl
take-all (suc count) [] same = refl
take-all zero (b ∷ z) same = absurd (omega arith)
take-all (suc count) (b ∷ z) same = ap (λ rest. b ∷ rest) (take-all count z (omega arith))

drop-nil : (count : ℕ) → drop {A = ℕ} count [] ≡ []
drop-nil zero = refl
drop-nil (suc count) = refl

-- a slice from a place on is what is left there
pub slice_there : (z : List ℕ) (n : ℕ) → n < length z → take (length z - n) (drop n z) ≡ drop n z
slice_there [] n lt = absurd (omega arith)
slice_there (b ∷ z) zero lt = take-all (length (b ∷ z) - 0) (b ∷ z) (omega arith)
slice_there (b ∷ z) (suc n) lt = let same : length (b ∷ z) - suc n ≡ length z - n = omega arith in ap (λ k. take k (drop n z)) same ∙ slice_there z n (omega arith)

-- one run and its quote more
pub one_run : (whole found more all z rest quoted : List ℕ) (n : ℕ) → n < length z → NoQuote z n → (slice_index z n == 39) ≡ true → whole ≡ found ++ flat_map doubled z
    → quoted ≡ drop n z → rest ≡ drop 1 quoted → more ≡ found ++ take n z → all ≡ more ++ 39 ∷ 39 ∷ [] → whole ≡ all ++ flat_map doubled rest
one_run whole found more all z rest quoted n lt none is so_far there left added ended =
    so_far
    ∙ ap (λ x. found ++ x) (run_written z n lt none is ∙ ap (λ x. take n z ++ 39 ∷ 39 ∷ flat_map doubled x) (ap (drop 1) (sym there) ∙ sym left))
    ∙ sym (append_assoc found (take n z) (39 ∷ 39 ∷ flat_map doubled rest))
    ∙ ap (λ x. x ++ 39 ∷ 39 ∷ flat_map doubled rest) (sym added)
    ∙ sym (append_assoc more (39 ∷ 39 ∷ []) (flat_map doubled rest))
    ∙ ap (λ x. x ++ flat_map doubled rest) (sym ended)
