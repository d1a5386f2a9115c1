-- Every step leaves a sound world sound.
use Rattle.std.proofs.Common.{◌≡◌, ℕ, ◌<◌, ◌≤◌, List, Option, Some, None, refl, sym, ap, subst, ◌∙◌}
use Rattle.std.specs.Prelude.{slice_get, slice_set, slice_index}
use Rattle.match_context.specs.Tree.{Tree, IsTree}
use Rattle.dfs_worker.specs.declared.event.Event.{Event}
use Rattle.dfs_worker.specs.declared.event.Event.TheVariants.{Claim, Retire, Advance, Descend, Append, Charge, Fetch, Post, Push, Pop, Pick, Restore, Discharge, Mark, Close}
use Rattle.dfs_worker.specs.State.{State}
use Rattle.dfs_worker.specs.Sound.{TreeFits}
use Rattle.world_core.specs.Sound.{Sound}
use Rattle.world_core.specs.Step.{Step, worker_of, guard_of, own_part, shared_part, happens, happens_at}
use Rattle.world_core.specs.World.{World, Fits}
use Rattle.world_core.proofs.Happens.{After, advance-happens, descend-happens, append-happens, mark-happens, claim-happens, retire-happens, close-happens}
use Rattle.world_core.proofs.Inboxes.{push-happens, pop-happens, restore-happens}
use Rattle.world_core.proofs.Moves.{Moves, moved-sound}
use Rattle.world_core.proofs.Parts.{Enabled, enabled-facts}
use Rattle.world_core.proofs.Travels.{shape-of, charge-happens, fetch-happens, post-happens, discharge-happens, pick-happens}

pub tree-fits : (tree : Tree) (w : World) (i : ℕ) (v : State) → IsTree tree → Fits tree w.shared → Sound w → slice_get w.workers i ≡ Some v → TreeFits tree v.shape
tree-fits tree w i v law fits sound at =
    let shape = shape-of w i v sound at in
    record { law = law; same_stages = sym fits.stages ∙ ap (λ x. x.stages) (sym shape); same_machines = sym fits.machines ∙ ap (λ x. x.machines) (sym shape) }

pub event-moves : (tree : Tree) (w : World) (e : Event) (v : State) → IsTree tree → Fits tree w.shared → Sound w → Enabled w e v → After tree w e v
event-moves tree w (Claim i) v law fits sound on = claim-happens tree w i v sound on.at on.own
event-moves tree w (Retire i) v law fits sound on = retire-happens tree w i v sound on.at on.own on.shared
event-moves tree w (Advance i) v law fits sound on = advance-happens tree w i v (tree-fits tree w i v law fits sound on.at) sound on.at on.own
event-moves tree w (Descend i) v law fits sound on = descend-happens tree w i v sound on.at on.own
event-moves tree w (Append i) v law fits sound on = append-happens tree w i v sound on.at on.own
event-moves tree w (Charge i) v law fits sound on = charge-happens tree w i v sound on.at on.own on.shared
event-moves tree w (Fetch i) v law fits sound on = fetch-happens tree w i v sound on.at on.own on.shared
event-moves tree w (Post i k n) v law fits sound on = post-happens tree w i k n v sound on.at on.own
event-moves tree w (Push i) v law fits sound on = push-happens tree w i v sound on.at on.own on.shared
event-moves tree w (Pop i k) v law fits sound on = pop-happens tree w i k v sound on.at on.own on.shared
event-moves tree w (Pick i) v law fits sound on = pick-happens tree w i v sound on.at on.own on.shared
event-moves tree w (Restore i) v law fits sound on = restore-happens tree w i v sound on.at on.own
event-moves tree w (Discharge i) v law fits sound on = discharge-happens tree w i v sound on.at on.own
event-moves tree w (Mark i a b) v law fits sound on = mark-happens tree w i a b v sound on.at on.shared
event-moves tree w (Close i) v law fits sound on = close-happens tree w i v sound on.at on.shared

pub happens-is : (tree : Tree) (w : World) (e : Event) (v : State) → slice_get w.workers (worker_of e) ≡ Some v →
    happens tree w e ≡ record { workers = slice_set w.workers (worker_of e) (own_part tree e w.shared v); shared = shared_part e v w.shared }
happens-is tree w e v at = ap (happens_at tree w e) at

pub step-sound : (tree : Tree) (w w' : World) (e : Event) → IsTree tree → Fits tree w.shared → Sound w → Step tree w e w' → Sound w'
step-sound tree w w' e law fits sound step =
    let x = enabled-facts w e step.enabled in
    subst Sound (sym (step.change ∙ happens-is tree w e x.0 x.1.at)) (moved-sound w (worker_of e) x.0 _ _ sound x.1.at (event-moves tree w e x.0 law fits sound x.1))

pub step-fits : (tree : Tree) (w w' : World) (e : Event) → IsTree tree → Fits tree w.shared → Sound w → Step tree w e w' → Fits tree w'.shared
step-fits tree w w' e law fits sound step =
    let x = enabled-facts w e step.enabled in
    let moves = event-moves tree w e x.0 law fits sound x.1 in
    subst (λ (u : World). Fits tree u.shared) (sym (step.change ∙ happens-is tree w e x.0 x.1.at))
    (record {
      stages = ap (λ s. s.stages) moves.shape ∙ fits.stages;
      machines = ap (λ s. s.machines) moves.shape ∙ fits.machines;
      same_roots = λ m low. ap (λ xs. slice_index xs m) moves.roots ∙ fits.same_roots m (subst (λ x. m < x.machines) moves.shape low);
    })

pub step-closes : (tree : Tree) (w w' : World) (e : Event) → IsTree tree → Fits tree w.shared → Sound w → Step tree w e w' → w.shared.closed ≤ w'.shared.closed
step-closes tree w w' e law fits sound step =
    let x = enabled-facts w e step.enabled in
    subst (λ (u : World). w.shared.closed ≤ u.shared.closed) (sym (step.change ∙ happens-is tree w e x.0 x.1.at)) (event-moves tree w e x.0 law fits sound x.1).closes
