-- What a sound world tells of one of its workers.
use Rattle.std.proofs.Common.{◌≡◌, ℕ, ◌+◌, ◌*◌, ◌<◌, ◌≤◌, Bool, true, false, cond, ◌&&◌, eqb, List, length, get_or, Option, Some, None, refl, sym, ap, subst, ◌∙◌, arith}
use Rattle.std.specs.Prelude.{slice_get, nat_lt}
use Rattle.std.proofs.lemmas.Bool.Decides.{nat_tests}
use Rattle.std.proofs.lemmas.Bool.{eq-eqb}
use Rattle.std.proofs.lemmas.Option.{slice_get_within, slice_get-get_or}
use Rattle.match_context.proofs.Totals.{total-at}
use Rattle.fabric.specs.Shared.{Shared, IsWorkerOf, IsUnit, used_at, flying_at, enrolled_at, pool_at}
use Rattle.dfs_worker.specs.declared.event.Event.{Event}
use Rattle.dfs_worker.specs.declared.guard.Guard.{Guard}
use Rattle.dfs_worker.specs.Census.{count, credits_of, buffers_of, one}
use Rattle.dfs_worker.specs.Guards.{own_guard}
use Rattle.dfs_worker.specs.State.{State}
use Rattle.world_core.specs.May.{IsPart, May}
use Rattle.world_core.specs.Sound.{Sound, IsPlaced, enrolled_of}
use Rattle.world_core.specs.Step.{worker_of, shared_guard, then_guard, guard_at, guard_of}
use Rattle.world_core.specs.World.{World}

pub machine-in : (w : World) (i : ℕ) (v : State) → Sound w → slice_get w.workers i ≡ Some v → v.machine < w.shared.shape.machines
machine-in w i v sound at =
    subst (λ shape. v.machine < shape.machines) (sound.placed i v at).shape (sound.own i v at).machine

pub sound-part : (w : World) (i : ℕ) (v : State) → Sound w → slice_get w.workers i ≡ Some v → IsPart w.shared v
sound-part w i v sound at =
    let placed = sound.placed i v at in
    let here = machine-in w i v sound at in
    let within = slice_get_within w.workers i v at in
    let number = placed.number in
    let size = sound.number_of_workers in
    record {
      tables = sound.tables;
      worker = sound.own i v at;
      placed = subst (λ j. IsPlaced w.shared j v) (sym number) placed;
      there = omega arith;
      claimed = sound.claimed i v at;
      cursors = sound.cursors v.machine here;
      credits = λ m k n unit. let all = sound.used m k n unit in let mine = total-at (count (credits_of m k n)) w.workers i v at in omega arith;
      buffers = λ home low. let all = sound.pools home low in let mine = total-at (count (buffers_of home)) w.workers i v at in omega arith;
      enrolled = λ e. let all = sound.enrolled v.machine here in
          let mine = total-at (enrolled_of v.machine) w.workers i v at in
          let me : enrolled_of v.machine v ≡ one true = ap one (ap (λ b. b && eqb v.machine v.machine) e ∙ eq-eqb v.machine v.machine refl) in
          omega arith;
    }

-- ---- what an enabled event tells
pub record Enabled (w : World) (e : Event) (v : State) : Type 0 where
  pub at : slice_get w.workers (worker_of e) ≡ Some v
  pub own : own_guard e v ≡ None
  pub shared : shared_guard e v w.shared ≡ None

both-none : (a b : Option Guard) → then_guard a b ≡ None → (a ≡ None) × (b ≡ None)
both-none None b h = (refl, h)
both-none (Some g) b h = cc

enabled-at : (w : World) (e : Event) (o : Option State) → slice_get w.workers (worker_of e) ≡ o → guard_at e o w.shared ≡ None → (v : State) × Enabled w e v
enabled-at w e None at g = cc
enabled-at w e (Some v) at g = let b = both-none (own_guard e v) (shared_guard e v w.shared) g in (v, record { at = at; own = b.0; shared = b.1 })

pub enabled-facts : (w : World) (e : Event) → guard_of w e ≡ None → (v : State) × Enabled w e v
enabled-facts w e g = enabled-at w e (slice_get w.workers (worker_of e)) refl g

pub may-make : (w : World) (e : Event) (v : State) → Sound w → Enabled w e v → May e w.shared v
may-make w e v sound on = record { part = sound-part w (worker_of e) v sound on.at; own = on.own; shared = on.shared }

-- ---- what the code reads
pub read-at : (workers : List State) (i j : ℕ) (v : State) → i ≡ j → true ≡ nat_lt i (length workers) → v ≡ get_or workers i v → slice_get workers j ≡ Some v
read-at workers i j v same within read =
    let low : nat_lt i (length workers) ≡ true = sym within in
    subst (λ k. slice_get workers k ≡ Some v) same (slice_get-get_or workers i v (grind (arith, nat_tests, low)) ∙ ap Some (sym read))

pub guard-own : (w : World) (e : Event) (v : State) (g : Guard) → slice_get w.workers (worker_of e) ≡ Some v → own_guard e v ≡ Some g → Some g ≡ guard_of w e
guard-own w e v g at own = sym (ap (λ o. guard_at e o w.shared) at ∙ ap (λ o. then_guard o (shared_guard e v w.shared)) own)

pub guard-shared : (w : World) (e : Event) (v : State) → slice_get w.workers (worker_of e) ≡ Some v → own_guard e v ≡ None → shared_guard e v w.shared ≡ guard_of w e
guard-shared w e v at own = sym (ap (λ o. guard_at e o w.shared) at ∙ ap (λ o. then_guard o (shared_guard e v w.shared)) own)
