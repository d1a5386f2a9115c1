-- Nothing of a closed stage is left.
use Rattle.std.proofs.Common.{◌≡◌, ◌⊎◌, inl, inr, ℕ, ◌+◌, ◌<◌, ◌≤◌, Bool, true, false, List, [], ◌∷◌, Option, Some, None, refl, sym, ap, subst, ◌∙◌, arith, zero, suc}
use Rattle.std.specs.Prelude.{slice_get}
use Rattle.std.proofs.lemmas.Bool.{cases_lt}
use Rattle.std.proofs.lemmas.Option.{none-some}
use Rattle.adfs_base.specs.Shape.{Extents}
use Rattle.match_context.specs.declared.context.Context.{Context}
use Rattle.match_context.specs.declared.frame.Frame.{Frame}
use Rattle.match_context.specs.declared.frame.Rest.{Rest}
use Rattle.match_context.specs.declared.frame.Rest.TheVariants as rest
use Rattle.match_context.specs.declared.message.Message.{Message}
use Rattle.fabric.specs.Shared.{Shared, IsUnit, used_at, flying_at, enrolled_at}
use Rattle.dfs_worker.specs.Census.{Census, count, credits_of, one, is_word, of_rest, of_stack}
use Rattle.dfs_worker.specs.Sound.{IsStack, StandsOn, IsMessageFrame}
use Rattle.dfs_worker.specs.State.{State, next_stage, waiting, waiting_by}
use Rattle.world_core.specs.May.{IsPart}
use Rattle.world_core.specs.Sound.{Sound, AreClosed}
use Rattle.world_core.specs.World.{World}
use Rattle.world_core.proofs.Bodies.{word-self}
use Rattle.world_core.proofs.Parts.{machine-in, sound-part}

-- no frame is of an earlier stage
abbrev pub AreLater : ℕ → List Frame → Type 0
AreLater closed [] = Unit {0}
AreLater closed (frame ∷ frames) = (closed ≤ frame.stage) × AreLater closed frames

-- who is enrolled has seen no stage closed
pub enrolled-first : (s : Shared) (v : State) → IsPart s v → AreClosed s → v.machine < s.shape.machines → v.enrolled ≡ true → s.closed ≡ 0
enrolled-first s v part past low e = go s.closed refl
  where
    go : (n : ℕ) → s.closed ≡ n → s.closed ≡ 0
    go zero same = same
    go (suc n) same = let some = part.enrolled e in let none = past.enrolled (omega arith) v.machine low in absurd (omega arith)

-- a frame stands on a later one, is of a message whose credit is taken, or has roots of an enrolled worker
stands-later : (s : Shared) (v : State) (k : ℕ) (frames : List Frame) (wait : Option (Context × ℕ)) (r : Rest) → v.shape ≡ s.shape → v.machine < s.shape.machines → AreClosed s →
    (v.enrolled ≡ true → s.closed ≡ 0) → AreLater s.closed frames →
    ((m j : ℕ) → IsUnit s m j v.machine → of_rest (credits_of m j v.machine).framed r ≤ used_at s m j v.machine) →
    StandsOn v.shape v.enrolled v.machine k (next_stage frames) frames wait r → s.closed ≤ k
stands-later s v k [] wait rest.None shape low past first later units stands = let a = stands.0 in let b = stands.1 in absurd (omega arith)
stands-later s v k (frame ∷ frames) wait rest.None shape low past first later units stands = let a = stands.0 in let b = later.0 in omega arith
stands-later s v k frames wait (rest.Roots next end) shape low past first later units stands = let a = first stands.2 in omega arith
stands-later s v k frames wait (rest.Items message next over) shape low past first later units stands =
    let machines = ap (λ x. x.machines) shape in
    let stages = ap (λ x. x.stages) shape in
    let from = stands.packet.from in
    let some = stands.packet.some_stage in
    let stage = stands.packet.stage in
    let same = stands.same_stage in
    let unit : IsUnit s message.from message.stage v.machine = (omega arith, some, omega arith, low) in
    let here = ap (λ n. one (is_word message.from message.stage v.machine message.from message.stage n)) stands.here ∙ ap one (word-self message.from message.stage v.machine) in
    let held : one (is_word message.from message.stage v.machine message.from message.stage message.to) ≤ used_at s message.from message.stage v.machine = units message.from message.stage unit in
    let none : message.stage < s.closed → used_at s message.from message.stage v.machine ≡ 0 = past.used message.from message.stage v.machine unit in
    elim (cases_lt message.stage s.closed) [ inl early ↦ absurd (let e = none early in omega arith) | inr late ↦ omega arith ]

stack-later : (s : Shared) (v : State) (frames : List Frame) → v.shape ≡ s.shape → v.machine < s.shape.machines → AreClosed s → (v.enrolled ≡ true → s.closed ≡ 0) →
    ((m j : ℕ) → IsUnit s m j v.machine → of_stack (credits_of m j v.machine).framed frames ≤ used_at s m j v.machine) → IsStack v.shape v.enrolled v.machine frames → AreLater s.closed frames
stack-later s v [] shape low past first units is = tt
stack-later s v (frame ∷ frames) shape low past first units is =
    let rest = stack-later s v frames shape low past first (λ m j unit. let a = units m j unit in omega arith) is.1 in
    (stands-later s v frame.stage frames frame.wait frame.rest shape low past first rest (λ m j unit. let a = units m j unit in omega arith) is.0.stands, rest)

-- no frame of a worker is of a closed stage
pub frames-later : (w : World) (i : ℕ) (v : State) → Sound w → slice_get w.workers i ≡ Some v → AreLater w.shared.closed v.stack
frames-later w i v sound at =
    let part = sound-part w i v sound at in
    let low = machine-in w i v sound at in
    stack-later w.shared v v.stack part.placed.shape low sound.closed (enrolled-first w.shared v part sound.closed low)
    (λ m j unit. let a = part.credits m j v.machine unit in omega arith) (sound.own i v at).stack

waits-later : (closed k n : ℕ) (frames : List Frame) → AreLater closed frames → waiting frames ≡ Some (k, n) → closed < k
waits-later closed k n [] later e = absurd (none-some (k, n) e)
waits-later closed k n (frame ∷ frames) later e = go frame.wait e
  where
    go : (wait : Option (Context × ℕ)) → waiting_by (frame.stage + 1) wait ≡ Some (k, n) → closed < k
    go None e = absurd (none-some (k, n) e)
    go (Some child) e =
        let same : ◌≡◌ {A = ℕ × ℕ} (frame.stage + 1, child.1) (k, n) = cc in
        let stage = ap (λ (p : ℕ × ℕ). p.0) same in
        let low = later.0 in
        omega arith

-- a waiting child is of a later stage than the one that closes next
pub child-later : (w : World) (i : ℕ) (v : State) (k n : ℕ) → Sound w → slice_get w.workers i ≡ Some v → waiting v.stack ≡ Some (k, n) → w.shared.closed < k
child-later w i v k n sound at e = waits-later w.shared.closed k n v.stack (frames-later w i v sound at) e
