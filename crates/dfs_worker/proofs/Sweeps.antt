-- A turn over several tries, one after the other.
use Rattle.std.proofs.Common.{◌≡◌, ℕ, ◌+◌, ◌-◌, ◌<◌, ◌≤◌, List, [], ◌∷◌, ◌++◌, refl, subst, arith, suc, inl, inr}
use Rattle.adfs_base.specs.Shape.{Extents}
use Rattle.fabric.specs.Account.{Holding, Call, ToPost, Given, Nothing}
use Rattle.match_context.specs.Tree.{Tree}
use Rattle.dfs_worker.specs.declared.event.Event.{Event}
use Rattle.dfs_worker.specs.declared.event.Event.TheVariants as event
use Rattle.dfs_worker.specs.declared.turn.Turn.{Turn}
use Rattle.dfs_worker.specs.declared.turn.Turn.TheVariants.{Did, Idle, NoMemory}
use Rattle.dfs_worker.specs.State.{State}
use Rattle.dfs_worker.specs.Own.{posted}
use Rattle.dfs_worker.specs.Turn.{Try, Step, PostOther, EndsTurn, IsTurn, IsFirstOther, Fits, Tried, pops_from}

pub ended-idle : {F : Type 0} (done : F → ℕ → Call → Given → F → Type 0) (excused : F → ℕ → Call → F → Type 0) (tree : Tree) (v : State) (f : F) (t : Try) (turn : Turn) (v' : State) (f' : F) →
    turn ≡ Idle → EndsTurn done excused tree v f t turn v' f' → ⊥
ended-idle done excused tree v f t (Did made) v' f' e h = cc
ended-idle done excused tree v f t Idle v' f' e h = h
ended-idle done excused tree v f t NoMemory v' f' e h = cc

-- what came to nothing, and then the rest
pub turn-idle : {F : Type 0} (done : F → ℕ → Call → Given → F → Type 0) (excused : F → ℕ → Call → F → Type 0) (tree : Tree) (v u v' : State) (f g f' : F) (xs ys : List Try) (turn : Turn) →
    IsTurn done excused tree v f xs Idle u g → IsTurn done excused tree u g ys turn v' f' → IsTurn done excused tree v f (xs ++ ys) turn v' f'
turn-idle done excused tree v u v' f g f' [] ys turn a b = subst (λ s. IsTurn done excused tree s f ys turn v' f') a.1 (subst (λ h. IsTurn done excused tree u h ys turn v' f') a.2 b)
turn-idle done excused tree v u v' f g f' (x ∷ xs) ys turn (inl ended) b = absurd (ended-idle done excused tree v f x Idle u g refl ended)
turn-idle done excused tree v u v' f g f' (x ∷ xs) ys turn (inr passed) b =
    inr (passed.0, (passed.1.0, (passed.1.1.0, turn-idle done excused tree passed.0 u v' passed.1.0 g f' xs ys turn passed.1.1.1 b)))

-- what was made ends the whole
pub turn-made : {F : Type 0} (done : F → ℕ → Call → Given → F → Type 0) (excused : F → ℕ → Call → F → Type 0) (tree : Tree) (v v' : State) (f f' : F) (xs ys : List Try) (turn : Turn) →
    (turn ≡ Idle → ⊥) → IsTurn done excused tree v f xs turn v' f' → IsTurn done excused tree v f (xs ++ ys) turn v' f'
turn-made done excused tree v v' f f' [] ys turn not_idle a = absurd (not_idle a.0)
turn-made done excused tree v v' f f' (x ∷ xs) ys turn not_idle (inl ended) = inl ended
turn-made done excused tree v v' f f' (x ∷ xs) ys turn not_idle (inr passed) =
    inr (passed.0, (passed.1.0, (passed.1.1.0, turn-made done excused tree passed.0 v' passed.1.0 f' xs ys turn not_idle passed.1.1.1)))

-- the pops of one stage more
pub pops-step : (w lowest stage : ℕ) → lowest < stage → pops_from w lowest (stage - lowest) ≡ Step (event.Pop w (stage - 1)) ∷ pops_from w lowest (stage - 1 - lowest)
pops-step w lowest stage h =
    let e : stage - lowest ≡ suc (stage - 1 - lowest) = omega arith in
    let e' : lowest + (stage - 1 - lowest) ≡ stage - 1 = omega arith in
    rw e (rw e' refl)

pub pops-none : (w lowest stage : ℕ) → stage ≤ lowest → pops_from w lowest (stage - lowest) ≡ []
pops-none w lowest stage h = let e : stage - lowest ≡ 0 = omega arith in rw e refl

-- the pop of a stage came to nothing, and then those below; or it was made
pub pops-on : {F : Type 0} (done : F → ℕ → Call → Given → F → Type 0) (excused : F → ℕ → Call → F → Type 0) (tree : Tree) (v u v' : State) (f g f' : F) (w lowest stage : ℕ) (turn : Turn) →
    v.number ≡ w → lowest < stage → IsTurn done excused tree v f (Step (event.Pop v.number (stage - 1)) ∷ []) Idle u g →
    IsTurn done excused tree u g (pops_from w lowest (stage - 1 - lowest)) turn v' f' → IsTurn done excused tree v f (pops_from w lowest (stage - lowest)) turn v' f'
pops-on done excused tree v u v' f g f' w lowest stage turn same low passed later =
    rw (pops-step w lowest stage low)
    (turn-idle done excused tree v u v' f g f' (Step (event.Pop w (stage - 1)) ∷ []) (pops_from w lowest (stage - 1 - lowest)) turn
    (subst (λ n. IsTurn done excused tree v f (Step (event.Pop n (stage - 1)) ∷ []) Idle u g) same passed) later)

pub pops-made : {F : Type 0} (done : F → ℕ → Call → Given → F → Type 0) (excused : F → ℕ → Call → F → Type 0) (tree : Tree) (v v' : State) (f f' : F) (w lowest stage : ℕ) (turn : Turn) →
    v.number ≡ w → lowest < stage → (turn ≡ Idle → ⊥) → IsTurn done excused tree v f (Step (event.Pop v.number (stage - 1)) ∷ []) turn v' f' →
    IsTurn done excused tree v f (pops_from w lowest (stage - lowest)) turn v' f'
pops-made done excused tree v v' f f' w lowest stage turn same low not_idle made =
    rw (pops-step w lowest stage low)
    (turn-made done excused tree v v' f f' (Step (event.Pop w (stage - 1)) ∷ []) (pops_from w lowest (stage - 1 - lowest)) turn not_idle
    (subst (λ n. IsTurn done excused tree v f (Step (event.Pop n (stage - 1)) ∷ []) turn v' f') same made))

pub other-tried : {F : Type 0} (agrees : F → ℕ → Holding → Type 0) (done : F → ℕ → Call → Given → F → Type 0) (excused : F → ℕ → Call → F → Type 0) (shape : F → Extents) (roots : F → ℕ → ℕ)
    (tree : Tree)
    (v v' : State) (f f' : F) (stage to : ℕ) (made : Event) → IsFirstOther v stage to → made ≡ event.Post v.number stage to → v' ≡ posted stage to v →
    done f v.number (ToPost stage to) Nothing f' → Fits agrees shape roots tree v' f' → Tried agrees done excused shape roots tree v f (PostOther ∷ []) (Did made) v' f'
other-tried agrees done excused shape roots tree v v' f f' stage to made first same is shared fits =
    record { answered = inl (stage, (to, (same, first, is, shared))); fits = fits }
