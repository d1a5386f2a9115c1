-- The content of a literal, run by run.
use Rattle.std.proofs.Common.{◌≡◌, ◌<◌, ℕ, zero, suc, Bool, true, false, List, [], ◌∷◌, ◌++◌, take, drop, length, refl, sym, ap, ◌∙◌, append_assoc, arith}
use Rattle.std.specs.Prelude.{◌&&◌, ◌==◌, slice_index}
use Rattle.std.proofs.lemmas.Bool.Decides.{nat_tests}
use Rattle.pgql_lexemes.specs.Lexemes.{undoubled}

abbrev NoQuote : List ℕ → ℕ → Type 0
NoQuote z n = (k : ℕ) → k < n → (slice_index z k == 39) ≡ true → ⊥

is_39 : (b : ℕ) → (b == 39) ≡ true → b ≡ 39
is_39 b e = grind (arith, nat_tests)

not_true : (b : Bool) → (b ≡ true → ⊥) → b ≡ false
not_true true never = absurd (never refl)
not_true false never = refl

-- a byte that is no quote is kept
plain_kept : (b : ℕ) (z : List ℕ) → (b == 39) ≡ false → undoubled false (b ∷ z) ≡ b ∷ undoubled false z
plain_kept b z is = ap (λ q. b ∷ undoubled (q && slice_index z 0 == 39) z) is

behind_first : (b : ℕ) (z : List ℕ) (n m : ℕ) → m ≡ suc n → NoQuote (b ∷ z) m → NoQuote z n
behind_first b z n m same none k lt is = none (suc k) (omega arith) is

first_plain : (b : ℕ) (z : List ℕ) (n : ℕ) → 0 < n → NoQuote (b ∷ z) n → (b == 39) ≡ false
first_plain b z n some none = not_true (b == 39) (λ is. none 0 some is)

-- the bytes before the first quote
pub run_kept : (z : List ℕ) (n : ℕ) → n < length z → NoQuote z n → undoubled false z ≡ take n z ++ undoubled false (drop n z)
run_kept z zero lt none = refl
run_kept [] (suc n) lt none = absurd (omega arith)
run_kept (b ∷ z) (suc n) lt none =
    plain_kept b z (first_plain b z (suc n) (omega arith) none) ∙ ap (λ x. b ∷ x) (run_kept z n (omega arith) (behind_first b z n (suc n) refl none))

pub quote_there : (z : List ℕ) (n : ℕ) → n < length z → (slice_index z n == 39) ≡ true → slice_index (drop n z) 0 ≡ 39
quote_there [] n lt is = absurd (omega arith)
quote_there (b ∷ z) zero lt is = is_39 b is
quote_there (b ∷ z) (suc n) lt is = quote_there z n (omega arith) is

-- bytes without a quote
pub all_kept : (z : List ℕ) → NoQuote z (length z) → undoubled false z ≡ z
all_kept [] none = refl
all_kept (b ∷ z) none =
    plain_kept b z (first_plain b z (length (b ∷ z)) (omega arith) none)
    ∙ ap (λ x. b ∷ x) (all_kept z (behind_first b z (length z) (length (b ∷ z)) (omega arith) none))

-- one run and its quote more
pub one_run : (whole found more all z quoted past : List ℕ) (n : ℕ) → n < length z → NoQuote z n → whole ≡ found ++ undoubled false z → quoted ≡ drop n z → undoubled false quoted ≡ 39 ∷ undoubled false past
    → more ≡ found ++ take n z → all ≡ more ++ 39 ∷ [] → whole ≡ all ++ undoubled false past
one_run whole found more all z quoted past n lt none so_far there kept added ended =
    so_far
    ∙ ap (λ x. found ++ x) (run_kept z n lt none ∙ ap (λ x. take n z ++ undoubled false x) (sym there) ∙ ap (λ x. take n z ++ x) kept)
    ∙ sym (append_assoc found (take n z) (39 ∷ undoubled false past))
    ∙ ap (λ x. x ++ 39 ∷ undoubled false past) (sym added)
    ∙ sym (append_assoc more (39 ∷ []) (undoubled false past))
    ∙ ap (λ x. x ++ undoubled false past) (sym ended)
