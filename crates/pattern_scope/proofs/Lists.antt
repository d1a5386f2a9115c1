-- Lists that are read from the front, and one more item each time.
use Rattle.std.proofs.Common.{◌≡◌, ◌<◌, ℕ, zero, suc, ◌+◌, ◌-◌, List, [], ◌∷◌, ◌++◌, drop, length, get_or, refl, sym, ap, ◌∙◌, append_assoc, arith}
use Rattle.std.specs.List.{range_with_len}

pub drop-front : {X : Type 0} (xs : List X) (i : ℕ) (d : X) → i < length xs → drop i xs ≡ get_or xs i d ∷ drop (i + 1) xs
drop-front [] i d below = absurd (omega arith)
drop-front (x ∷ xs) zero d below = refl
drop-front (x ∷ xs) (suc i) d below =
    drop-front xs i d (omega arith) ∙ ap (λ n. get_or xs i d ∷ drop n (x ∷ xs)) (let same : suc (i + 1) ≡ suc i + 1 = omega arith in same)

-- one number more of a range, and those that are left
pub range-push : (count number : ℕ) (made more : List ℕ) → number < count → made ++ range_with_len number (count - number) ≡ range_with_len 0 count → more ≡ made ++ number ∷ []
    → more ++ range_with_len (number + 1) (count - (number + 1)) ≡ range_with_len 0 count
range-push count number made more below so_far is =
    let left : count - number ≡ suc (count - (number + 1)) = omega arith in
    ap (λ m. m ++ range_with_len (number + 1) (count - (number + 1))) is
    ∙ append_assoc made (number ∷ []) (range_with_len (number + 1) (count - (number + 1)))
    ∙ ap (λ n. made ++ range_with_len number n) (sym left)
    ∙ so_far
