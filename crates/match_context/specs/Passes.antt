-- Places that are taken in one go.
use Rattle.std.specs.Prelude.{◌≡◌, ℕ, Some, zero, suc}
use Rattle.match_context.specs.declared.frame.Frame.{Frame}
use Rattle.match_context.specs.declared.expand.Found.{Found}
use Rattle.match_context.specs.declared.expand.Found.TheVariants as found
use Rattle.match_context.specs.declared.expand.Next.{Next}
use Rattle.match_context.specs.declared.expand.Next.TheVariants.{Child, Row, Skip, End}
use Rattle.match_context.specs.Tree.{Tree, answer, after}

-- an answer without its context
abbrev pub found_of : Next → Found
found_of (Child context machine) = found.Child
found_of (Row context) = found.Row
found_of Skip = found.Skip
found_of End = found.End

-- the frame with the child of an answer
abbrev pub with_child : Next → Frame → Frame
with_child (Child context machine) frame = record frame { wait = Some (context, machine) }
with_child (Row context) frame = frame
with_child Skip frame = frame
with_child End frame = frame

-- Nothing came of so many places of a frame, and this of the next, which leaves the new frame.
abbrev pub Passes : Tree → ℕ → Frame → ℕ → Found → Frame → Type 0
Passes tree machine old zero found new =
    (found ≡ found_of (answer (tree.ahead machine old.stage old.context old.place)))
    × (new ≡ with_child (answer (tree.ahead machine old.stage old.context old.place)) (after tree machine old))
Passes tree machine old (suc passed) found new =
    (answer (tree.ahead machine old.stage old.context old.place) ≡ Skip) × Passes tree machine (after tree machine old) passed found new
