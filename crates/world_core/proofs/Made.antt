-- What the code of a step leaves.
use Rattle.std.proofs.Common.{◌≡◌, ℕ, ◌<◌, ◌≤◌, List, get_or, Option, Some, None, Result, Ok, Err, refl, sym, ap, subst, ◌∙◌, set, arith}
use Rattle.std.specs.Prelude.{slice_get, slice_set, OnOk, OnErr}
use Rattle.std.proofs.lemmas.List.{set-get_or}
use Rattle.std.proofs.lemmas.Option.{get_or_from_slice_get}
use Rattle.adfs_base.specs.declared.no_memory.NoMemory as base
use Rattle.match_context.specs.Tree.{Tree, IsTree}
use Rattle.fabric.specs.Shared.{Shared}
use Rattle.dfs_worker.specs.declared.event.Event.{Event}
use Rattle.dfs_worker.specs.declared.event.Event.TheVariants as event
use Rattle.dfs_worker.specs.Own.{AddsRow}
use Rattle.dfs_worker.specs.State.{State}
use Rattle.world_core.specs.Sound.{Sound}
use Rattle.world_core.specs.Step.{Step, worker_of, guard_of, own_part, shared_part, happens}
use Rattle.world_core.specs.Stepped.{AddsARow, IsStepped, IfDone, stepped_of}
use Rattle.world_core.specs.World.{World, world_of, Fits}
use Rattle.world_core.proofs.Parts.{Enabled, enabled-facts}
use Rattle.match_context.specs.declared.context.Context.{Context}
use Rattle.world_core.specs.Owed.{owed}
use Rattle.world_core.proofs.Weighs.{step-owes}
use Rattle.world_core.specs.Work.{work_left}
use Rattle.world_core.proofs.Steps.{happens-is, step-sound, step-fits, step-closes}
use Rattle.world_core.proofs.Works.{step-works}

-- the worker that the code reads is the event's
pub enabled-read : (w : World) (e : Event) (i : ℕ) (v : State) → guard_of w e ≡ None → i ≡ worker_of e → v ≡ get_or w.workers i v → Enabled w e v
enabled-read w e i v g same read =
    let x = enabled-facts w e g in
    let found : v ≡ x.0 = read ∙ ap (λ j. get_or w.workers j v) same ∙ get_or_from_slice_get w.workers (worker_of e) x.0 v x.1.at in
    subst (λ u. Enabled w e u) (sym found) x.1

-- what the making of an event gives
pub record IsMade (tree : Tree) (w : World) (e : Event) (v : State) (r : Result (Unit {0}) base.NoMemory) (v' : State) (h : Shared) : Type 0 where
  pub own : OnOk r (v' ≡ own_part tree e w.shared v)
  pub shared : OnOk r (h ≡ shared_part e v w.shared)
  pub err : OnErr r ((v' ≡ v) × (h ≡ w.shared) × (e ≡ event.Advance v.number) × AddsRow tree v.machine v.stack)

made-steps : (tree : Tree) (w : World) (e : Event) (v v' : State) (h : Shared) (r : Result (Unit {0}) base.NoMemory) → guard_of w e ≡ None → Enabled w e v → IsMade tree w e v r v' h →
    IsStepped tree w e (stepped_of r) (world_of (slice_set w.workers (worker_of e) v') h)
made-steps tree w e v v' h (Ok u) g on made =
    record {
      enabled = g;
      change = ap (λ x. world_of (slice_set w.workers (worker_of e) x) h) made.own
          ∙ ap (λ x. world_of (slice_set w.workers (worker_of e) (own_part tree e w.shared v)) x) made.shared ∙ sym (happens-is tree w e v on.at);
    }
made-steps tree w e v v' h (Err x) g on made =
    let same : slice_set w.workers (worker_of e) v ≡ w.workers =
    ap (λ y. slice_set w.workers (worker_of e) y) (sym (get_or_from_slice_get w.workers (worker_of e) v v on.at)) ∙ set-get_or w.workers (worker_of e) v in (
      g,
      ap (λ y. world_of (slice_set w.workers (worker_of e) y) h) made.err.0 ∙ ap (λ y. world_of y h) same ∙ ap (λ y. world_of w.workers y) made.err.1,
      record { worker = v; at = on.at; advances = made.err.2; row = made.err.3 },
    )

pub stepped-sound : (tree : Tree) (w w' : World) (e : Event) (r : Result (Unit {0}) base.NoMemory) → IsTree tree → Fits tree w.shared → Sound w → IsStepped tree w e (stepped_of r) w' → Sound w'
stepped-sound tree w w' e (Ok u) law fits sound step = step-sound tree w w' e law fits sound step
stepped-sound tree w w' e (Err x) law fits sound step = subst Sound (sym step.1) sound

stepped-fits : (tree : Tree) (w w' : World) (e : Event) (r : Result (Unit {0}) base.NoMemory) → IsTree tree → Fits tree w.shared → Sound w → IsStepped tree w e (stepped_of r) w' → Fits tree w'.shared
stepped-fits tree w w' e (Ok u) law fits sound step = step-fits tree w w' e law fits sound step
stepped-fits tree w w' e (Err x) law fits sound step = subst (λ (u : World). Fits tree u.shared) (sym step.1) fits

-- all that is to be shown of a step whose guards hold
pub record Leaves (tree : Tree) (w w' : World) (e : Event) (r : Result (Unit {0}) base.NoMemory) : Type 0 where
  pub stepped : IsStepped tree w e (stepped_of r) w'
  pub sound : Sound w'
  pub fits : Fits tree w'.shared
  pub owes : (row : Context → ℕ) → owed row tree w ≡ owed row tree w'
  pub work : IfDone (stepped_of r) (work_left tree w' < work_left tree w)
  pub closes : w.shared.closed ≤ w'.shared.closed

stepped-owes : (row : Context → ℕ) (tree : Tree) (w w' : World) (e : Event) (r : Result (Unit {0}) base.NoMemory) → IsTree tree → Fits tree w.shared → Sound w → IsStepped tree w e (stepped_of r) w' → owed row tree w ≡ owed row tree w'
stepped-owes row tree w w' e (Ok u) law fits sound step = step-owes row tree w w' e law fits sound step
stepped-owes row tree w w' e (Err x) law fits sound step = ap (owed row tree) (sym step.1)

stepped-works : (tree : Tree) (w w' : World) (e : Event) (r : Result (Unit {0}) base.NoMemory) → IsTree tree → Fits tree w.shared → Sound w → IsStepped tree w e (stepped_of r) w' → IfDone (stepped_of r) (work_left tree w' < work_left tree w)
stepped-works tree w w' e (Ok u) law fits sound step = step-works tree w w' e law fits sound step
stepped-works tree w w' e (Err x) law fits sound step = tt

stepped-closes : (tree : Tree) (w w' : World) (e : Event) (r : Result (Unit {0}) base.NoMemory) → IsTree tree → Fits tree w.shared → Sound w → IsStepped tree w e (stepped_of r) w' → w.shared.closed ≤ w'.shared.closed
stepped-closes tree w w' e (Ok u) law fits sound step = step-closes tree w w' e law fits sound step
stepped-closes tree w w' e (Err x) law fits sound step = let same = ap (λ (y : World). y.shared.closed) step.1 in omega arith

pub leaves : (tree : Tree) (w : World) (e : Event) (i : ℕ) (v v' : State) (h : Shared) (r : Result (Unit {0}) base.NoMemory) → IsTree tree → Fits tree w.shared → Sound w →
    guard_of w e ≡ None → i ≡ worker_of e → v ≡ get_or w.workers i v → IsMade tree w e v r v' h → Leaves tree w (world_of (slice_set w.workers i v') h) e r
leaves tree w e i v v' h r law fits sound g same read made =
    let on = enabled-read w e i v g same read in
    let step = subst (λ j. IsStepped tree w e (stepped_of r) (world_of (slice_set w.workers j v') h)) (sym same) (made-steps tree w e v v' h r g on made) in
    record {
      stepped = step;
      sound = stepped-sound tree w (world_of (slice_set w.workers i v') h) e r law fits sound step;
      fits = stepped-fits tree w (world_of (slice_set w.workers i v') h) e r law fits sound step;
      owes = λ row. stepped-owes row tree w (world_of (slice_set w.workers i v') h) e r law fits sound step;
      work = stepped-works tree w (world_of (slice_set w.workers i v') h) e r law fits sound step;
      closes = stepped-closes tree w (world_of (slice_set w.workers i v') h) e r law fits sound step;
    }

pub done-ok : (P : Type 0) (r : Result (Unit {0}) base.NoMemory) → IfDone (stepped_of r) P → OnOk r P
done-ok P (Ok u) p = p
done-ok P (Err x) p = tt

pub ok-done : (P : Type 0) (r : Result (Unit {0}) base.NoMemory) → OnOk r P → IfDone (stepped_of r) P
ok-done P (Ok u) p = p
ok-done P (Err x) p = tt
