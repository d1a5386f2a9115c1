-- A worker as contracts see it.
use Rattle.std.specs.Prelude.{ℕ, ◌*◌, ◌+◌, Bool, true, false, List, [], ◌∷◌, replicate, Option, Some, None}
use Rattle.adfs_base.specs.Shape.{Extents}
use Rattle.match_context.specs.declared.context.Context.{Context}
use Rattle.match_context.specs.declared.frame.Frame.{Frame}
use Rattle.match_context.specs.declared.frame.Rest.{Rest}
use Rattle.match_context.specs.declared.frame.Rest.TheVariants as rest
use Rattle.stage_termination.specs.Marks.{Marks, unmarked}
use Rattle.dfs_worker.specs.declared.hand.Hand.{Hand}
use Rattle.dfs_worker.specs.declared.hand.Hand.TheVariants.{Free, Charged, Posted, Popped, Emptied}
use Rattle.dfs_worker.specs.Slots.{Slots}

pub record State : Type 0 where
  pub number : ℕ
  pub machine : ℕ
  pub shape : Extents
  -- the top stands first
  pub stack : List Frame
  pub hand : Hand
  pub slots : Slots
  pub rows : List Context
  pub enrolled : Bool
  pub marks : Marks
  -- the turns in a row that did nothing
  pub idle : ℕ

-- no buffer is open
abbrev pub no_slots : Extents → Slots
no_slots shape = record { stages = shape.stages; machines = shape.machines; messages = replicate (shape.stages * shape.machines) None }

-- a worker at the start, of this number and machine
abbrev pub fresh : Extents → ℕ → ℕ → State
fresh shape number machine =
    record {
      number = number;
      machine = machine;
      shape = shape;
      stack = [];
      hand = Free;
      slots = no_slots shape;
      rows = [];
      enrolled = true;
      marks = unmarked shape.machines shape.stages 0;
      idle = 0;
    }

-- the stage above the top
abbrev pub next_stage : List Frame → ℕ
next_stage [] = 0
next_stage (frame ∷ frames) = frame.stage + 1

-- the stage and the machine of the child that the top waits with
abbrev pub waiting_by : ℕ → Option (Context × ℕ) → Option (ℕ × ℕ)
waiting_by stage None = None
waiting_by stage (Some child) = Some (stage, child.1)

abbrev pub waiting : List Frame → Option (ℕ × ℕ)
waiting [] = None
waiting (frame ∷ frames) = waiting_by (frame.stage + 1) frame.wait

-- whether it is the rest of a message frame that is over
abbrev pub is_over : Rest → Bool
is_over rest.None = false
is_over (rest.Roots next end) = false
is_over (rest.Items message next over) = over

abbrev pub is_free : Hand → Bool
is_free Free = true
is_free (Charged stage to) = false
is_free (Posted message) = false
is_free (Popped message) = false
is_free (Emptied from stage) = false
