-- What the code of the events needs of its worker.
use Rattle.std.proofs.Common.{◌≡◌, ◌⊎◌, inl, inr, ℕ, ◌+◌, ◌*◌, ◌<◌, ◌≤◌, Bool, true, false, cond, ◌&&◌, List, [], ◌∷◌, length, get_or, Option, Some, None, refl, sym, ap, subst, ◌∙◌, arith}
use Rattle.std.specs.Prelude.{slice_get, slice_index_or}
use Rattle.match_context.specs.Tree.{Tree}
use Rattle.match_context.specs.Bags.{total}
use Rattle.match_context.specs.declared.message.Message.{Message}
use Rattle.fabric.specs.Shared.{Shared, IsUnit, machine_of, used_at, flying_at, cursor_at, roots_at}
use Rattle.dfs_worker.specs.declared.event.Event.{Event}
use Rattle.dfs_worker.specs.declared.event.Event.TheVariants as event
use Rattle.dfs_worker.specs.Census.{count, credits_of, one, is_word, of_message, of_slot}
use Rattle.dfs_worker.specs.Slots.{slot_of, open_at}
use Rattle.dfs_worker.specs.Sound.{IsWorker, IsOpenAt, WithinRoots}
use Rattle.dfs_worker.specs.State.{State}
use Rattle.dfs_worker.proofs.Facts.{post-facts}
use Rattle.dfs_worker.proofs.Places.{OpenAt, open-facts, slot-within, total-set_or}
use Rattle.dfs_worker.proofs.Roots.{roots-more}
use Rattle.std.proofs.lemmas.Nat.{same_from_place}
use Rattle.world_core.specs.May.{IsPart, May}
use Rattle.world_core.specs.World.{Fits}
use Rattle.world_core.proofs.Words.{word-tells}

-- the message that is open for a stage and a machine
pub record OpenFor (s : Shared) (v : State) (stage to : ℕ) (message : Message) : Type 0 where
  pub at : open_at v.slots stage to ≡ Some message
  pub is : IsOpenAt v.shape v.machine (slot_of v.slots.machines stage to) message
  pub same_stage : message.stage ≡ stage
  pub same_to : message.to ≡ to

pub open-for : (s : Shared) (v : State) (stage to : ℕ) (message : Message) → IsWorker v → open_at v.slots stage to ≡ Some message → OpenFor s v stage to message
open-for s v stage to message worker e =
    let at = open-facts v.slots stage to message e in
    let is = worker.slots.each_open (slot_of v.slots.machines stage to) message at.here in
    let p = is.whole in
    let machines = worker.slots.machines in
    let low = at.to_in in
    let place : message.stage * v.shape.machines + message.to ≡ stage * v.shape.machines + to = is.place ∙ ap (λ n. stage * n + to) machines in
    let same = same_from_place message.stage message.to stage to v.shape.machines p.to (omega arith) place in
    record { at = e; is = is; same_stage = same.0; same_to = same.1 }

-- a word is itself
pub word-self : (m k n : ℕ) → is_word m k n m k n ≡ true
word-self m k n = elim (word-tells m k n m k n) [ inl y ↦ y.0 | inr z ↦ absurd (z.1 refl refl refl) ]

-- the machine of a part
pub part-machine : (s : Shared) (v : State) → IsPart s v → v.machine ≡ machine_of s v.number
part-machine s v part = part.placed.machine

-- an open buffer's credit is taken, and not for a message on its way
pub post-may : (s : Shared) (v : State) (stage to w : ℕ) → May (event.Post w stage to) s v →
    IsUnit s (machine_of s v.number) stage to × (flying_at s (machine_of s v.number) stage to < used_at s (machine_of s v.number) stage to)
post-may s v stage to w may =
    let f = post-facts v stage to may.own in
    let found_open = open-for s v stage to f.0 may.part.worker f.1.1 in
    let p = found_open.is.whole in
    let shape = may.part.placed.shape in
    let machine = part-machine s v may.part in
    let stages = ap (λ x. x.stages) shape in
    let machines = ap (λ x. x.machines) shape in
    let here = may.part.worker.machine in
    let some = p.some_stage in
    let low = p.stage in
    let near = p.to in
    let same_stage = found_open.same_stage in
    let same_to = found_open.same_to in
    let unit : IsUnit s (machine_of s v.number) stage to = (omega arith, omega arith, omega arith, omega arith) in
    let at = open-facts v.slots stage to f.0 f.1.1 in
    let within = slot-within v.shape v.machine v.slots stage to may.part.worker.slots at.stage_in at.to_in in
    let census = credits_of (machine_of s v.number) stage to in
    let none : of_slot census.opened None ≡ 0 = refl in
    let sum = total-set_or (of_slot census.opened) v.slots.messages (slot_of v.slots.machines stage to) None None within in
    let found = ap (of_slot census.opened) at.here in
    let is : one (is_word (machine_of s v.number) stage to f.0.from f.0.stage f.0.to) ≡ one true =
    ap one (ap (λ a. is_word (machine_of s v.number) stage to a f.0.stage f.0.to) (found_open.is.own ∙ machine)
    ∙ ap (λ a. is_word (machine_of s v.number) stage to (machine_of s v.number) a f.0.to) same_stage
    ∙ ap (λ a. is_word (machine_of s v.number) stage to (machine_of s v.number) stage a) same_to ∙ word-self (machine_of s v.number) stage to) in
    let held = may.part.credits (machine_of s v.number) stage to unit in
    (unit, omega arith)

-- the roots of a stack are the tree's
pub advance-roots : (tree : Tree) (s : Shared) (v : State) → IsPart s v → Fits tree s → WithinRoots (tree.roots v.machine) v.stack
advance-roots tree s v part fits =
    let low = part.cursors in
    let here = part.worker.machine in
    let machines = ap (λ x. x.machines) part.placed.shape in
    let same = fits.same_roots v.machine (omega arith) in
    roots-more (cursor_at s v.machine) (tree.roots v.machine) v.stack part.claimed (omega arith)
