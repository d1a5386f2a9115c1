-- The work that is left in a world: a number that each step lowers.
use Rattle.std.specs.Prelude.{ℕ, ◌+◌, ◌-◌, ◌<◌, Bool, ◌==◌, if◌then◌else◌, List}
use Rattle.match_context.specs.Bags.{total}
use Rattle.match_context.specs.Tree.{Tree}
use Rattle.match_context.specs.Weight.{Scale}
use Rattle.stage_termination.specs.Marks.{Marks, words_of}
use Rattle.fabric.specs.Shared.{Shared}
use Rattle.dfs_worker.specs.Census.{one}
use Rattle.dfs_worker.specs.State.{State}
use Rattle.world_core.specs.Owed.{total_below, weight_world}
use Rattle.world_core.specs.World.{World}

-- A child may wait, get a credit, go into a buffer, travel, and be looked at. Each of these leaves less, so the numbers
-- fall along its way. Rows count nothing, since they stay.
abbrev pub work_scale : Scale
work_scale =
    record {
      row = λ context. 0;
      ended = 1;
      item = 1;
      child = 12;
      waiting = 12;
      charged = 11;
      held = 1;
      opened = 8;
      posted = 7;
      sent = 6;
      popped = 5;
      framed = 4;
      emptied = 3;
    }

-- how many words of a stage are still to be marked
abbrev pub unmarked_in : List Bool → ℕ
unmarked_in marked = total (λ mark. if mark then 0 else 1) marked

abbrev pub unmarked_at : Marks → ℕ → ℕ
unmarked_at marks stage =
    if marks.stage == stage then unmarked_in marks.marked else words_of marks.machines marks.stages stage

-- how many stages are still to be closed
abbrev pub open_stages : Shared → ℕ
open_stages s = s.shape.stages - s.closed

-- what a worker has still to do for that: to retire, and to mark the words of each stage that is still to be closed
abbrev pub closing_work : Shared → State → ℕ
closing_work s worker = one worker.enrolled + total_below (open_stages s) (λ ahead. unmarked_at worker.marks (s.closed + ahead))

abbrev pub work_left : Tree → World → ℕ
work_left tree w = weight_world work_scale tree w + (open_stages w.shared + total (closing_work w.shared) w.workers)
