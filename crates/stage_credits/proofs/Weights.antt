-- Where each root below a cursor is in one chunk, the chunks weigh what the roots do.
use Rattle.std.proofs.Common.{◌≡◌, ℕ, Bool, true, false, zero, suc, List, [], ◌∷◌, ◌+◌, ◌-◌, ◌*◌, ◌<◌}
use Rattle.std.proofs.Common.{◌≤◌, ◌==◌, ◌&&◌, nat_lt, nat_le, min, if◌then◌else◌, get_or, refl, sym, ap, arith, ◌∙◌, zero-mul}
use Rattle.std.proofs.lemmas.Bool.Decides.{nat_tests}
use Rattle.std.proofs.lemmas.List.Sums.{sum_by-cons}
use Rattle.std.specs.List.{range_with_len}
use Rattle.std.specs.Prelude.{sum_by}
use native.Mathlib.Decide.{dec_le}
use Rattle.stage_credits.specs.declared.view.Chunk.{Chunk}
use Rattle.stage_credits.specs.Lists.{one_if}
use Rattle.stage_credits.specs.Rule.{covers}
use Rattle.stage_credits.specs.Seats.{Seated, claims, ClaimsMeet, weight_of, ChunksWeigh}

-- the numbers below n, each as often as f says
abbrev weighed : (ℕ → ℕ) → (ℕ → ℕ) → ℕ → ℕ
weighed h f n = sum_by (λ p. f p * h p) (range_with_len 0 n)

sum_by-range_with_len_more : (h : ℕ → ℕ) (a n : ℕ) → sum_by h (range_with_len a (suc n)) ≡ sum_by h (range_with_len a n) + h (a + n)
sum_by-range_with_len_more h a zero = let x = sum_by-cons h a [] in let y : h (a + 0) ≡ h a = ap h (omega arith) in omega (arith, x, y)
sum_by-range_with_len_more h a (suc n) =
    let x = sum_by-cons h a (range_with_len (a + 1) (suc n)) in
    let y = sum_by-cons h a (range_with_len (a + 1) n) in
    let z = sum_by-range_with_len_more h (a + 1) n in
    let e : h (a + 1 + n) ≡ h (a + suc n) = ap h (omega arith) in
    omega (arith, x, y, z, e)

range_sum-same : (h : ℕ → ℕ) (a m n : ℕ) → m ≡ n → sum_by h (range_with_len a m) ≡ sum_by h (range_with_len a n)
range_sum-same h a m n e = ap (λ (k : ℕ). sum_by h (range_with_len a k)) e

weighed-more : (h f : ℕ → ℕ) (n : ℕ) → weighed h f (suc n) ≡ weighed h f n + f n * h n
weighed-more h f n =
    let x = sum_by-range_with_len_more (λ p. f p * h p) 0 n in
    let e : f (0 + n) * h (0 + n) ≡ f n * h n = ap (λ (p : ℕ). f p * h p) (omega arith) in
    omega (arith, x, e)

weighed-none : (h f : ℕ → ℕ) (n : ℕ) → ((p : ℕ) → p < n → f p ≡ 0) → weighed h f n ≡ 0
weighed-none h f zero none = refl
weighed-none h f (suc n) none =
    let x = weighed-more h f n in
    let r = weighed-none h f n (λ p lt. none p (omega arith)) in
    let e : f n * h n ≡ 0 = ap (λ (k : ℕ). k * h n) (none n (omega arith)) ∙ zero-mul (h n) in
    omega (arith, x, r, e)

weighed-once : (h f : ℕ → ℕ) (n : ℕ) → ((p : ℕ) → p < n → f p ≡ 1) → weighed h f n ≡ sum_by h (range_with_len 0 n)
weighed-once h f zero one = refl
weighed-once h f (suc n) one =
    let x = weighed-more h f n in
    let r = weighed-once h f n (λ p lt. one p (omega arith)) in
    let e : f n * h n ≡ 1 * h n = ap (λ (k : ℕ). k * h n) (one n (omega arith)) in
    let y = sum_by-range_with_len_more h 0 n in
    let z : h (0 + n) ≡ h n = ap h (omega arith) in
    omega (arith, x, r, e, y, z)

weighed-same : (h f g : ℕ → ℕ) (n : ℕ) → ((p : ℕ) → f p ≡ g p) → weighed h f n ≡ weighed h g n
weighed-same h f g zero same = refl
weighed-same h f g (suc n) same =
    let x = weighed-more h f n in
    let y = weighed-more h g n in
    let r = weighed-same h f g n same in
    let e : f n * h n ≡ g n * h n = ap (λ (k : ℕ). k * h n) (same n) in
    omega (arith, x, y, r, e)

weighed-both : (h f g : ℕ → ℕ) (n : ℕ) → weighed h (λ p. f p + g p) n ≡ weighed h f n + weighed h g n
weighed-both h f g zero = refl
weighed-both h f g (suc n) =
    let x = weighed-more h (λ p. f p + g p) n in
    let y = weighed-more h f n in
    let z = weighed-more h g n in
    let r = weighed-both h f g n in
    omega (arith, x, y, z, r)

-- whether a chunk has that root
abbrev has : ℕ → ℕ → Chunk → ℕ
has machine place c = one_if ((c.machine == machine) && (nat_le c.first place && nat_lt place c.end))

-- whether a number is between two others
abbrev between : ℕ → ℕ → ℕ → ℕ
between first end place = one_if (nat_le first place && nat_lt place end)

between-yes : (first end place : ℕ) → first ≤ place → place < end → between first end place ≡ 1
between-yes first end place from to =
    let b : nat_le first place ≡ true = grind (arith, nat_tests) in
    let c : nat_lt place end ≡ true = grind (arith, nat_tests) in
    rw (b, c) refl

between-low : (first end place : ℕ) → place < first → between first end place ≡ 0
between-low first end place low = let b : nat_le first place ≡ false = grind (arith, nat_tests) in rw b refl

between-high : (first end place : ℕ) → end ≤ place → between first end place ≡ 0
between-high first end place high = let c : nat_lt place end ≡ false = grind (arith, nat_tests) in rw c (go (nat_le first place))
  where
    go : (b : Bool) → one_if (b && false) ≡ 0
    go true = refl
    go false = refl

-- the numbers of a range that are below n
weighed-between : (h : ℕ → ℕ) (first end n : ℕ) → weighed h (between first end) n ≡ sum_by h (range_with_len first (min end n - first))
weighed-between h first end zero =
    range_sum-same h first 0 (min end 0 - first) (omega arith)
weighed-between h first end (suc n) = go (weighed-between h first end n) (dec_le first n) (dec_le (n + 1) end)
  where
    go : weighed h (between first end) n ≡ sum_by h (range_with_len first (min end n - first)) → Dec (first ≤ n) → Dec (n + 1 ≤ end)
        → weighed h (between first end) (suc n) ≡ sum_by h (range_with_len first (min end (suc n) - first))
    go r (yes a) (yes b) =
        let x = weighed-more h (between first end) n in
        let here : between first end n * h n ≡ 1 * h n = ap (λ (k : ℕ). k * h n) (between-yes first end n a (omega arith)) in
        let y = sum_by-range_with_len_more h first (min end n - first) in
        let e = range_sum-same h first (min end (suc n) - first) (suc (min end n - first)) (omega arith) in
        let z : h (first + (min end n - first)) ≡ h n = ap h (omega arith) in
        omega (arith, r, x, here, y, e, z)
    go r (yes a) (no b) =
        let x = weighed-more h (between first end) n in
        let here : between first end n * h n ≡ 0 * h n = ap (λ (k : ℕ). k * h n) (between-high first end n (omega arith)) in
        let e = range_sum-same h first (min end (suc n) - first) (min end n - first) (omega arith) in
        omega (arith, r, x, here, e)
    go r (no a) b =
        let x = weighed-more h (between first end) n in
        let here : between first end n * h n ≡ 0 * h n = ap (λ (k : ℕ). k * h n) (between-low first end n (omega arith)) in
        let e = range_sum-same h first (min end (suc n) - first) (min end n - first) (omega arith) in
        omega (arith, r, x, here, e)

-- a chunk that has no root from n on
weighed-has : (h : ℕ → ℕ) (machine n : ℕ) (c : Chunk) → ((p : ℕ) → n ≤ p → has machine p c ≡ 0)
    → weighed h (λ p. has machine p c) n ≡ (if c.machine == machine then sum_by h (range_with_len c.first (c.end - c.first)) else 0)
weighed-has h machine n c none = go (c.machine == machine) none
  where
    go : (b : Bool) → ((p : ℕ) → n ≤ p → one_if (b && (nat_le c.first p && nat_lt p c.end)) ≡ 0)
        → weighed h (λ p. one_if (b && (nat_le c.first p && nat_lt p c.end))) n ≡ (if b then sum_by h (range_with_len c.first (c.end - c.first)) else 0)
    go false beyond = weighed-none h (λ p. 0) n (λ p lt. refl)
    go true beyond = weighed-between h c.first c.end n ∙ range_sum-same h c.first (min c.end n - c.first) (c.end - c.first) (within (dec_le c.end n) (dec_le (c.first + 1) c.end))
      where
        within : Dec (c.end ≤ n) → Dec (c.first + 1 ≤ c.end) → min c.end n - c.first ≡ c.end - c.first
        within (yes d) e = omega arith
        within (no d) (no e) = omega arith
        within (no d) (yes e) =
            let z = beyond (c.end - 1) (omega arith) in
            let o = between-yes c.first c.end (c.end - 1) (omega arith) (omega arith) in
            absurd (omega (arith, z, o))

weighed-covers : (h : ℕ → ℕ) (machine n : ℕ) (cs : List Chunk) → ((p : ℕ) → n ≤ p → covers machine p cs ≡ 0) → weighed h (λ p. covers machine p cs) n ≡ weight_of h machine cs
weighed-covers h machine n [] none = weighed-none h (λ p. 0) n (λ p lt. refl)
weighed-covers h machine n (c ∷ cs) none =
    let b = weighed-both h (λ p. has machine p c) (λ p. covers machine p cs) n in
    let x = weighed-has h machine n c (λ p le. let z = none p le in omega (arith, z)) in
    let r = weighed-covers h machine n cs (λ p le. let z = none p le in omega (arith, z)) in
    omega (arith, b, x, r)

weighed-claims : (h : ℕ → ℕ) (machine n : ℕ) (seats : List Seated) → ((p : ℕ) → n ≤ p → claims machine p seats ≡ 0)
    → weighed h (λ p. claims machine p seats) n ≡ sum_by (λ s. weight_of h machine s.view.chunks) seats
weighed-claims h machine n [] none = weighed-none h (λ p. 0) n (λ p lt. refl)
weighed-claims h machine n (s ∷ ss) none =
    let covered : ℕ → Seated → ℕ = λ p t. covers machine p t.view.chunks in
    let more : (p : ℕ) → claims machine p (s ∷ ss) ≡ covered p s + claims machine p ss = λ p. sum_by-cons (covered p) s ss in
    let f : weighed h (λ p. claims machine p (s ∷ ss)) n ≡ weighed h (λ p. covered p s + claims machine p ss) n =
    weighed-same h (λ p. claims machine p (s ∷ ss)) (λ p. covered p s + claims machine p ss) n more in
    let b = weighed-both h (λ p. covered p s) (λ p. claims machine p ss) n in
    let x = weighed-covers h machine n s.view.chunks (λ p le. let z = none p le in let m = more p in omega (arith, z, m)) in
    let r = weighed-claims h machine n ss (λ p le. let z = none p le in let m = more p in omega (arith, z, m)) in
    let y = sum_by-cons (λ t. weight_of h machine t.view.chunks) s ss in
    omega (arith, f, b, x, r, y)

pub ChunksWeigh-meet : (machines : ℕ) (cursors : List ℕ) (seats : List Seated) → ClaimsMeet machines cursors seats → ChunksWeigh machines cursors seats
ChunksWeigh-meet machines cursors seats meet h m below =
    let n = get_or cursors m 0 in
    sym (weighed-claims h m n seats (λ p le. (meet m p below).1 le)) ∙ weighed-once h (λ p. claims m p seats) n (λ p lt. (meet m p below).0 lt)
