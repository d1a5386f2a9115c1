-- The place of the first edge that passes, and the list without it, are what is picked.
use Rattle.std.proofs.Common.{◌≡◌, ℕ, zero, suc, ◌<◌, Bool, true, false, List, [], ◌∷◌, length, get_or, remove, Some, None, refl, ap, ap₂, arith}
use Rattle.typed_expr.specs.declared.query.EdgeJoin.{EdgeJoin}
use Rattle.stage_plan.specs.Front.{first_or, pick}

pub pick-none : (p : EdgeJoin → Bool) (left : List EdgeJoin) → ((k : ℕ) → k < length left → (d : EdgeJoin) → p (get_or left k d) ≡ false) → pick p left ≡ None
pick-none p [] none = refl
pick-none p (j ∷ js) none =
    ap₂ (λ b o. first_or b j js o) (none 0 (omega arith) j) (pick-none p js (λ k below d. none (suc k) (omega arith) d))

pub pick-found : (p : EdgeJoin → Bool) (left : List EdgeJoin) (at : ℕ) → at < length left
    → ((k : ℕ) → k < at → (d : EdgeJoin) → p (get_or left k d) ≡ false) → ((d : EdgeJoin) → p (get_or left at d) ≡ true)
    → (d : EdgeJoin) → pick p left ≡ Some (get_or left at d, remove left at)
pick-found p [] at below none found d = absurd (omega arith)
pick-found p (j ∷ js) zero below none found d = ap (λ b. first_or b j js (pick p js)) (found j)
pick-found p (j ∷ js) (suc at) below none found d =
    ap₂ (λ b o. first_or b j js o) (none 0 (omega arith) j)
    (pick-found p js at (omega arith) (λ k before d. none (suc k) (omega arith) d) found d)
