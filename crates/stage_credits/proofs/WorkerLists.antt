-- How many workers of a machine there are in a list of workers.
use Rattle.std.proofs.Common.{◌≡◌, ◌≢◌, ◌-◌, ℕ, zero, suc, ◌∷◌, ◌+◌, ◌*◌, ◌/◌, ◌<◌, ◌≤◌, ◌==◌, length, refl, sym, ap, arith, ◌∙◌, eq-eqb, ne_eqb, suc-mul, zero-mul, subst}
use mathlib.Core.Logic.{dite}
use native.Mathlib.Decide.{ℕ_discrete}
use Rattle.std.proofs.lemmas.Nat.{div-mul-add}
use Rattle.stage_credits.specs.Lists.{one_if, times}
use Rattle.stage_credits.specs.Start.{machines_of_workers}

pub length-machines_of_workers : (each k n : ℕ) → length (machines_of_workers each k n) ≡ n
length-machines_of_workers each k zero = refl
length-machines_of_workers each k (suc n) = let r = length-machines_of_workers each (k + 1) n in omega arith

times-machines_of_workers-append : (x each k n m : ℕ) → times x (machines_of_workers each k (n + m)) ≡ times x (machines_of_workers each k n) + times x (machines_of_workers each (k + n) m)
times-machines_of_workers-append x each k zero m =
    let C : ℕ → ℕ → ℕ = λ j c. times x (machines_of_workers each j c) in
    let a : C k (0 + m) ≡ C k m = ap (C k) (omega arith) in
    let b : C (k + 0) m ≡ C k m = ap (λ (j : ℕ). C j m) (omega arith) in
    omega (arith, a, b)
times-machines_of_workers-append x each k (suc n) m =
    let C : ℕ → ℕ → ℕ = λ j c. times x (machines_of_workers each j c) in
    let e : suc n + m ≡ suc (n + m) = omega arith in
    let a : C k (suc n + m) ≡ C k (suc (n + m)) = ap (C k) e in
    let b : C (k + 1 + n) m ≡ C (k + suc n) m = ap (λ (j : ℕ). C j m) (omega arith) in
    let r = times-machines_of_workers-append x each (k + 1) n m in
    omega (arith, a, b, r)

-- within one machine
times-machines_of_workers-here : (each machine r n : ℕ) → r + n ≤ each → times machine (machines_of_workers each (machine * each + r) n) ≡ n
times-machines_of_workers-here each machine r zero fits = refl
times-machines_of_workers-here each machine r (suc n) fits =
    let C : ℕ → ℕ = λ j. times machine (machines_of_workers each j n) in
    let d : (machine * each + r) / each ≡ machine = div-mul-add machine each r (omega arith) in
    let one : one_if (machine == (machine * each + r) / each) ≡ 1 = ap one_if (eq-eqb machine ((machine * each + r) / each) (sym d)) in
    let b : C (machine * each + r + 1) ≡ C (machine * each + (r + 1)) = ap C (omega arith) in
    let i = times-machines_of_workers-here each machine (r + 1) n (omega arith) in
    omega (arith, one, b, i)

times-machines_of_workers-elsewhere : (x each machine r n : ℕ) → x ≢ machine → r + n ≤ each → times x (machines_of_workers each (machine * each + r) n) ≡ 0
times-machines_of_workers-elsewhere x each machine r zero ne fits = refl
times-machines_of_workers-elsewhere x each machine r (suc n) ne fits =
    let C : ℕ → ℕ = λ j. times x (machines_of_workers each j n) in
    let d : (machine * each + r) / each ≡ machine = div-mul-add machine each r (omega arith) in
    let none : one_if (x == (machine * each + r) / each) ≡ 0 = ap one_if (ne_eqb x ((machine * each + r) / each) (λ e. ne (e ∙ d))) in
    let b : C (machine * each + r + 1) ≡ C (machine * each + (r + 1)) = ap C (omega arith) in
    let i = times-machines_of_workers-elsewhere x each machine (r + 1) n ne (omega arith) in
    omega (arith, none, b, i)

one_machine_more : (x each machines : ℕ)
    → times x (machines_of_workers each 0 (suc machines * each)) ≡ times x (machines_of_workers each 0 (machines * each)) + times x (machines_of_workers each (machines * each + 0) each)
one_machine_more x each machines =
    let C : ℕ → ℕ → ℕ = λ j c. times x (machines_of_workers each j c) in
    let a : C 0 (suc machines * each) ≡ C 0 (machines * each + each) = ap (C 0) (suc-mul machines each) in
    let b : C (0 + machines * each) each ≡ C (machines * each + 0) each = ap (λ (j : ℕ). C j each) (omega arith) in
    let r = times-machines_of_workers-append x each 0 (machines * each) each in
    omega (arith, a, b, r)

times-machines_of_workers-none : (x each machines : ℕ) → machines ≤ x → times x (machines_of_workers each 0 (machines * each)) ≡ 0
times-machines_of_workers-none x each zero above = ap (λ (c : ℕ). times x (machines_of_workers each 0 c)) (zero-mul each)
times-machines_of_workers-none x each (suc machines) above =
    let m = one_machine_more x each machines in
    let r = times-machines_of_workers-none x each machines (omega arith) in
    let e = times-machines_of_workers-elsewhere x each machines 0 each (omega arith) (omega arith) in
    omega (arith, m, r, e)

pub times-machines_of_workers : (x each machines : ℕ) → x < machines → times x (machines_of_workers each 0 (machines * each)) ≡ each
times-machines_of_workers x each zero below = absurd (omega arith)
times-machines_of_workers x each (suc machines) below =
    let m = one_machine_more x each machines in
    dite (ℕ_discrete x machines)
    (λ (e : x ≡ machines).
    let r = times-machines_of_workers-none x each machines (omega arith) in
    let h : times x (machines_of_workers each (machines * each + 0) each) ≡ each =
    subst (λ (y : ℕ). times y (machines_of_workers each (machines * each + 0) each) ≡ each) (sym e) (times-machines_of_workers-here each machines 0 each (omega arith)) in
    omega (arith, m, r, h))
    (λ (ne : x ≢ machines).
    let r = times-machines_of_workers x each machines (omega arith) in
    let h = times-machines_of_workers-elsewhere x each machines 0 each ne (omega arith) in
    omega (arith, m, r, h))

pub machines_of_workers-next : (each k n : ℕ) → k < n → machines_of_workers each k (n - k) ≡ k / each ∷ machines_of_workers each (k + 1) (n - (k + 1))
machines_of_workers-next each k n below = let e : n - k ≡ suc (n - (k + 1)) = omega arith in ap (machines_of_workers each k) e
