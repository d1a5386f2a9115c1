-- What one answer of the top keeps of its worker.
use Rattle.std.proofs.Common.{◌≡◌, ℕ, ◌+◌, ◌<◌, ◌≤◌, Bool, true, false, cond, List, [], ◌∷◌, length, get_or, Some, None, refl, sym, ap, ◌∙◌, arith}
use Rattle.std.specs.Prelude.{nat_lt}
use Rattle.std.proofs.lemmas.Bool.Decides.{nat_tests}
use Rattle.adfs_base.specs.Shape.{Extents}
use Rattle.match_context.specs.declared.context.Context.{Context}
use Rattle.match_context.specs.declared.expand.Next.{Next}
use Rattle.match_context.specs.declared.expand.Next.TheVariants.{Child, Row, Skip, End}
use Rattle.match_context.specs.declared.frame.Frame.{Frame}
use Rattle.match_context.specs.declared.frame.Rest.{Rest}
use Rattle.match_context.specs.declared.frame.Rest.TheVariants as rest
use Rattle.match_context.specs.Tree.{Tree, Item, Below, Leaf, Pass, AreItems, answer, after}
use Rattle.dfs_worker.specs.declared.event.Event.TheVariants as event
use Rattle.dfs_worker.specs.Guards.{own_guard}
use Rattle.dfs_worker.specs.Own.{ended, stepped, onto, answer_at, frames_after, advanced}
use Rattle.dfs_worker.specs.Sound.{StandsOn, IsStack, IsWorker, TreeFits}
use Rattle.dfs_worker.specs.State.{State, is_over, next_stage}
use Rattle.dfs_worker.proofs.Facts.{advance-facts}

child-ahead : (tree : Tree) (stage : ℕ) (items : List Item) (context : Context) (machine : ℕ) → AreItems tree stage items → answer items ≡ Child context machine →
    (stage + 1 < tree.stages) × (machine < tree.machines)
child-ahead tree stage [] context machine h e = cc
child-ahead tree stage (Below d m ∷ items) context machine h e =
    let same : m ≡ machine = cc in
    (h.0.0, rw same at h.0.1)
child-ahead tree stage (Leaf d ∷ items) context machine h e = cc
child-ahead tree stage (Pass ∷ items) context machine h e = cc

-- the top as `next` left it, with another child, rest and place
waiting-child : (shape : Extents) (enrolled : Bool) (machine stage from : ℕ) (frames : List Frame) (child : Context × ℕ) (r : Rest) → is_over r ≡ false →
    StandsOn shape enrolled machine stage from frames None r → StandsOn shape enrolled machine stage from frames (Some child) r
waiting-child shape enrolled machine stage from frames child rest.None o h = h
waiting-child shape enrolled machine stage from frames child (rest.Roots next end) o h = h
waiting-child shape enrolled machine stage from frames child (rest.Items message next over) o h = record {
  above = h.above;
  same_stage = h.same_stage;
  here = h.here;
  packet = h.packet;
  through = record { ahead = h.through.ahead; done = h.through.done; settled = λ done. absurd (let e : true ≡ false = sym done ∙ o in cc) };
}

-- the frame goes on, or is taken off
ended-stack : (shape : Extents) (enrolled : Bool) (machine : ℕ) (tree : Tree) (frame : Frame) (frames : List Frame) (r : Rest) → frame.stage < shape.stages →
    frame.wait ≡ None → is_over r ≡ false → StandsOn shape enrolled machine frame.stage (next_stage frames) frames None r → IsStack shape enrolled machine frames →
    IsStack shape enrolled machine (onto (ended tree machine frame r) frames)
ended-stack shape enrolled machine tree frame frames rest.None low w o h below = below
ended-stack shape enrolled machine tree frame frames (rest.Roots next end) low w o h below = go (nat_lt next end)
  where
    go : (b : Bool) → IsStack shape enrolled machine (onto (cond b (Some (record frame { context = tree.root machine next; place = 0; rest = rest.Roots (next + 1) end })) None) frames)
    go true = rw w (record { stage = low; wait = tt; stands = h }, below)
    go false = below
ended-stack shape enrolled machine tree frame frames (rest.Items message next over) low w o h below = go (nat_lt next (length message.items.items)) refl
  where
    go : (b : Bool) → nat_lt next (length message.items.items) ≡ b
        → IsStack shape enrolled machine (onto (cond b (Some (record frame { context = get_or message.items.items next frame.context; place = 0; rest = rest.Items message (next + 1) over })) (Some (record frame { rest = rest.Items message next true }))) frames)
    go true e =
        let lt : next < length message.items.items = grind (arith, nat_tests) in
        rw w (
          record {
            stage = low;
            wait = tt;
            stands = record {
              above = h.above;
              same_stage = h.same_stage;
              here = h.here;
              packet = h.packet;
              through = record { ahead = λ _. omega arith; done = λ done. absurd (let e : true ≡ false = sym done ∙ o in cc); settled = λ _. refl };
            };
          },
          below,
        )
    go false e =
        let le : length message.items.items ≤ next = grind (arith, nat_tests) in
        rw w (
          record {
            stage = low;
            wait = tt;
            stands = record {
              above = h.above;
              same_stage = h.same_stage;
              here = h.here;
              packet = h.packet;
              through = record { ahead = λ more. absurd (cc); done = λ _. le; settled = λ _. refl };
            };
          },
          below,
        )

stepped-stack : (tree : Tree) (shape : Extents) (enrolled : Bool) (machine : ℕ) (frame : Frame) (frames : List Frame) (next : Next) → TreeFits tree shape →
    answer_at tree machine frame ≡ next → frame.wait ≡ None → is_over frame.rest ≡ false → IsStack shape enrolled machine (frame ∷ frames) →
    IsStack shape enrolled machine (onto (stepped tree machine (after tree machine frame) next) frames)
stepped-stack tree shape enrolled machine frame frames (Child context to) fits e w o h =
    let ahead = child-ahead tree frame.stage (tree.ahead machine frame.stage frame.context frame.place) context to
    (fits.law.items machine frame.stage frame.context frame.place) e in
    let k = fits.same_stages in
    let n = fits.same_machines in
    let a = ahead.0 in
    let b = ahead.1 in (
      record {
        stage = h.0.stage;
        wait = (omega arith, omega arith);
        stands = waiting-child shape enrolled machine frame.stage (next_stage frames) frames (context, to) frame.rest o (rw w at h.0.stands);
      },
      h.1,
    )
stepped-stack tree shape enrolled machine frame frames (Row context) fits e w o h = (record { stage = h.0.stage; wait = h.0.wait; stands = h.0.stands }, h.1)
stepped-stack tree shape enrolled machine frame frames Skip fits e w o h = (record { stage = h.0.stage; wait = h.0.wait; stands = h.0.stands }, h.1)
stepped-stack tree shape enrolled machine frame frames End fits e w o h =
    ended-stack shape enrolled machine tree (after tree machine frame) frames frame.rest h.0.stage w o (rw w at h.0.stands) h.1

-- what advance does at a top
pub frames_after-is : (tree : Tree) (worker : State) (frame : Frame) (frames : List Frame) → worker.stack ≡ frame ∷ frames →
    frames_after tree worker.machine worker.stack
    ≡ onto (stepped tree worker.machine (after tree worker.machine frame) (answer_at tree worker.machine frame)) frames
frames_after-is tree worker frame frames e = ap (frames_after tree worker.machine) e

pub advanced-keeps : (tree : Tree) (worker : State) → TreeFits tree worker.shape → IsWorker worker → own_guard (event.Advance 0) worker ≡ None → IsWorker (advanced tree worker)
advanced-keeps tree worker fits h own =
    let at = advance-facts worker own in
    let frame = at.0 in
    let frames = at.1.0 in
    let works = at.1.1 in
    let s = rw works.stack at h.stack in
    record {
      shape = h.shape;
      machine = h.machine;
      stack = rw (frames_after-is tree worker frame frames works.stack)
          (stepped-stack tree worker.shape worker.enrolled worker.machine frame frames (answer_at tree worker.machine frame) fits refl works.wait works.over s);
      slots = h.slots;
      hand = rw works.hand tt;
      mark_stages = h.mark_stages;
      mark_machines = h.mark_machines;
    }
