-- Answers of a worker's top that are made in one go are steps, one after the other.
use Rattle.std.proofs.Common.{◌≡◌, ℕ, List, [], ◌∷◌, get_or, Some, None, Result, Ok, Err, refl, sym, ap, subst, ◌∙◌, arith, zero, suc}
use Rattle.std.specs.Prelude.{slice_get, slice_set, IfOk, OnErr}
use Rattle.std.proofs.lemmas.List.{set-set, set-get_or}
use Rattle.adfs_base.specs.declared.no_memory.NoMemory as base
use Rattle.match_context.specs.Tree.{Tree, IsTree}
use Rattle.dfs_worker.specs.declared.event.Event.TheVariants.{Advance}
use Rattle.dfs_worker.specs.Guards.{own_guard}
use Rattle.dfs_worker.specs.Own.{advanced}
use Rattle.dfs_worker.specs.Passing as passing
use Rattle.dfs_worker.specs.Sound.{IsWorker, WithinRoots}
use Rattle.dfs_worker.specs.State.{State}
use Rattle.world_core.specs.Advances.{AreMade}
use Rattle.world_core.specs.Sound.{Sound}
use Rattle.world_core.specs.Step.{Step, guard_at, guard_of, then_guard, shared_guard}
use Rattle.world_core.specs.World.{World, world_of, Fits}
use Rattle.world_core.proofs.Bodies.{advance-roots}
use Rattle.world_core.proofs.Made.{enabled-read}
use Rattle.world_core.proofs.Parts.{sound-part}
use Rattle.world_core.proofs.Steps.{happens-is, step-sound, tree-fits}
use Rattle.world_core.proofs.Weighs.{step-owes}
use Rattle.world_core.proofs.Works.{step-works}

-- the world in which one worker has changed
abbrev pub with_worker : World → ℕ → State → World
with_worker w i v = world_of (slice_set w.workers i v) w.shared

pub may-advance : (w : World) (i : ℕ) (v : State) → slice_get w.workers i ≡ Some v → own_guard (Advance 0) v ≡ None → guard_of w (Advance i) ≡ None
may-advance w i v at own = ap (λ o. guard_at (Advance i) o w.shared) at ∙ ap (λ o. then_guard o (shared_guard (Advance i) v w.shared)) own

advance-steps : (tree : Tree) (w : World) (i : ℕ) (v : State) → slice_get w.workers i ≡ Some v → own_guard (Advance 0) v ≡ None → Step tree w (Advance i) (with_worker w i (advanced tree v))
advance-steps tree w i v at own = record { enabled = may-advance w i v at own; change = sym (happens-is tree w (Advance i) v at) }

pub record Goes (tree : Tree) (w : World) (i passed : ℕ) (w' : World) : Type 0 where
  pub made : AreMade tree w i passed w'
  pub sound : Sound w'

one-advance : (tree : Tree) (w : World) (i : ℕ) (v : State) → IsTree tree → Fits tree w.shared → Sound w → slice_get w.workers i ≡ Some v → own_guard (Advance 0) v ≡ None →
    Goes tree w i 0 (with_worker w i (advanced tree v))
one-advance tree w i v law fits sound at own =
    let new = with_worker w i (advanced tree v) in
    let step = advance-steps tree w i v at own in
    let less = step-works tree w new (Advance i) law fits sound step in
    record {
      made = record { run = (new, (step, refl)); owes = λ row. step-owes row tree w new (Advance i) law fits sound step; work = omega arith; shared = refl };
      sound = step-sound tree w new (Advance i) law fits sound step;
    }

then-goes : (tree : Tree) (w mid new : World) (i passed : ℕ) → Step tree w (Advance i) mid → Goes tree w i 0 mid → Goes tree mid i passed new → Goes tree w i (suc passed) new
then-goes tree w mid new i passed step first later =
    let a = first.made.work in
    let b = later.made.work in
    record {
      made = record {
        run = (mid, (step, later.made.run));
        owes = λ row. first.made.owes row ∙ later.made.owes row;
        work = omega arith;
        shared = later.made.shared ∙ first.made.shared;
      };
      sound = later.sound;
    }

get-set : (vs : List State) (i : ℕ) (v u : State) → slice_get vs i ≡ Some v → slice_get (slice_set vs i u) i ≡ Some u
get-set [] i v u e = cc
get-set (x ∷ vs) zero v u e = refl
get-set (x ∷ vs) (suc i) v u e = get-set vs i v u e

pub advances-go : (tree : Tree) (passed : ℕ) (w : World) (i : ℕ) (v v' : State) → IsTree tree → Fits tree w.shared → Sound w → slice_get w.workers i ≡ Some v → passing.Advances tree passed v v' →
    Goes tree w i passed (with_worker w i v')
advances-go tree zero w i v v' law fits sound at h =
    subst (λ u. Goes tree w i 0 (with_worker w i u)) (sym h.1) (one-advance tree w i v law fits sound at h.0)
advances-go tree (suc passed) w i v v' law fits sound at h =
    let mid = with_worker w i (advanced tree v) in
    let first = one-advance tree w i v law fits sound at h.0 in
    let later = advances-go tree passed mid i (advanced tree v) v' law fits first.sound (get-set w.workers i v (advanced tree v) at) h.1 in
    then-goes tree w mid (with_worker w i v') i passed (advance-steps tree w i v at h.0) first
    (subst (λ vs. Goes tree mid i passed (world_of vs w.shared)) (set-set w.workers i (advanced tree v) v') later)

-- what the code of an advance reads of a world
pub record AdvanceReads (tree : Tree) (w : World) (i : ℕ) (v : State) : Type 0 where
  pub at : slice_get w.workers i ≡ Some v
  pub own : own_guard (Advance 0) v ≡ None
  pub worker : IsWorker v
  pub stages : v.shape.stages ≡ tree.stages
  pub machines : v.shape.machines ≡ tree.machines
  pub roots : WithinRoots (tree.roots v.machine) v.stack

pub advance-reads : (tree : Tree) (w : World) (i : ℕ) (v : State) → IsTree tree → Fits tree w.shared → Sound w → guard_of w (Advance i) ≡ None → v ≡ get_or w.workers i v → AdvanceReads tree w i v
advance-reads tree w i v law fits sound g read =
    let on = enabled-read w (Advance i) i v g refl read in
    let fit = tree-fits tree w i v law fits sound on.at in
    record {
      at = on.at;
      own = on.own;
      worker = sound.own i v on.at;
      stages = sym fit.same_stages;
      machines = sym fit.same_machines;
      roots = advance-roots tree w.shared v (sound-part w i v sound on.at) fits;
    }

-- ---- the same of the world that the code has taken apart
advance-inside : (tree : Tree) (now inside : World) (i : ℕ) (v : State) → inside ≡ now → IsTree tree → Fits tree now.shared → Sound inside → guard_of now (Advance i) ≡ None → v ≡ get_or inside.workers i v →
    Fits tree inside.shared × AdvanceReads tree inside i v
advance-inside tree now inside i v same law fits sound g read =
    let here = subst (λ (w : World). Fits tree w.shared) (sym same) fits in
    (here, advance-reads tree inside i v law here sound (subst (λ w. guard_of w (Advance i) ≡ None) (sym same) g) read)

pub inside-reads : (tree : Tree) (now inside : World) (i : ℕ) (v : State) → inside ≡ now → IsTree tree → Fits tree now.shared → Sound inside → guard_of now (Advance i) ≡ None → v ≡ get_or inside.workers i v →
    AdvanceReads tree inside i v
inside-reads tree now inside i v same law fits sound g read = (advance-inside tree now inside i v same law fits sound g read).1

pub inside-made : (tree : Tree) (now inside : World) (i : ℕ) (v v' : State) (r : Result ℕ base.NoMemory) → inside ≡ now → IsTree tree → Fits tree now.shared → Sound inside → guard_of now (Advance i) ≡ None → v ≡ get_or inside.workers i v →
    IfOk r (λ passed. passing.Advances tree passed v v') → IfOk r (λ passed. AreMade tree now i passed (with_worker inside i v'))
inside-made tree now inside i v v' (Ok passed) same law fits sound g read h =
    let here = advance-inside tree now inside i v same law fits sound g read in
    subst (λ w. AreMade tree w i passed (with_worker inside i v')) same (advances-go tree passed inside i v v' law here.0 sound here.1.at h).made
inside-made tree now inside i v v' (Err e) same law fits sound g read h = tt

pub inside-sound : (tree : Tree) (now inside : World) (i : ℕ) (v v' : State) (r : Result ℕ base.NoMemory) → inside ≡ now → IsTree tree → Fits tree now.shared → Sound inside → guard_of now (Advance i) ≡ None → v ≡ get_or inside.workers i v →
    IfOk r (λ passed. passing.Advances tree passed v v') → OnErr r (v' ≡ v) → Sound (with_worker inside i v')
inside-sound tree now inside i v v' (Ok passed) same law fits sound g read h e =
    let here = advance-inside tree now inside i v same law fits sound g read in
    (advances-go tree passed inside i v v' law here.0 sound here.1.at h).sound
inside-sound tree now inside i v v' (Err x) same law fits sound g read h e =
    let back : slice_set inside.workers i v' ≡ inside.workers = ap (λ y. slice_set inside.workers i y) (e ∙ read) ∙ set-get_or inside.workers i v in
    subst (λ vs. Sound (world_of vs inside.shared)) (sym back) sound
