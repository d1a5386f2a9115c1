-- A stack as its callers see it.
use Rattle.std.specs.Prelude.{ℕ, List, [], ◌∷◌, Option, Some, None}
use Rattle.match_context.specs.declared.context.Context.{Context}
use Rattle.match_context.specs.declared.frame.Frame.{Frame}

-- how many frames it has room for, and those that it holds, the top first
pub record Tower : Type 0 where
  pub room : ℕ
  pub frames : List Frame

abbrev pub with_frames : Tower → List Frame → Tower
with_frames tower frames = record tower { frames = frames }

-- the top's waiting child, and the frames without it
abbrev pub child_of : List Frame → Option (Context × ℕ)
child_of [] = None
child_of (frame ∷ frames) = frame.wait

abbrev pub without_child : List Frame → List Frame
without_child [] = []
without_child (frame ∷ frames) = record frame { wait = None } ∷ frames

abbrev pub top_of : List Frame → Option Frame
top_of [] = None
top_of (frame ∷ frames) = Some frame
