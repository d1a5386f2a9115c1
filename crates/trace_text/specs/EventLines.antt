-- The line of each event.
use Rattle.std.specs.Prelude.{ℕ, ◌<◌, ◌^◌, List, ◌∷◌, ◌++◌, codes}
use Rattle.std.specs.Fmt.{decimal}
use Rattle.dfs_worker.specs.declared.event.Event.{Event}
use Rattle.dfs_worker.specs.declared.event.Event.TheVariants.{Claim, Retire, Advance, Descend, Append, Charge, Fetch, Post, Push, Pop, Pick, Restore, Discharge, Mark, Close}

-- a space and a number
abbrev pub next_number : ℕ → List ℕ
next_number n = 32 ∷ decimal n

abbrev pub event_line : Event → List ℕ
event_line (Claim w) = codes "claim" ++ next_number w
event_line (Retire w) = codes "retire" ++ next_number w
event_line (Advance w) = codes "advance" ++ next_number w
event_line (Descend w) = codes "descend" ++ next_number w
event_line (Append w) = codes "append" ++ next_number w
event_line (Charge w) = codes "charge" ++ next_number w
event_line (Fetch w) = codes "fetch" ++ next_number w
event_line (Post w stage to) = codes "post" ++ (next_number w ++ (next_number stage ++ next_number to))
event_line (Push w) = codes "push" ++ next_number w
event_line (Pop w stage) = codes "pop" ++ (next_number w ++ next_number stage)
event_line (Pick w) = codes "pick" ++ next_number w
event_line (Restore w) = codes "restore" ++ next_number w
event_line (Discharge w) = codes "discharge" ++ next_number w
event_line (Mark w a b) = codes "mark" ++ (next_number w ++ (next_number a ++ next_number b))
event_line (Close w) = codes "close" ++ next_number w

-- its numbers are those of 32 bits
abbrev pub IsEvent : Event → Type 0
IsEvent (Claim w) = w < 2 ^ 32
IsEvent (Retire w) = w < 2 ^ 32
IsEvent (Advance w) = w < 2 ^ 32
IsEvent (Descend w) = w < 2 ^ 32
IsEvent (Append w) = w < 2 ^ 32
IsEvent (Charge w) = w < 2 ^ 32
IsEvent (Fetch w) = w < 2 ^ 32
IsEvent (Post w stage to) = (w < 2 ^ 32) × (stage < 2 ^ 32) × (to < 2 ^ 32)
IsEvent (Push w) = w < 2 ^ 32
IsEvent (Pop w stage) = (w < 2 ^ 32) × (stage < 2 ^ 32)
IsEvent (Pick w) = w < 2 ^ 32
IsEvent (Restore w) = w < 2 ^ 32
IsEvent (Discharge w) = w < 2 ^ 32
IsEvent (Mark w a b) = (w < 2 ^ 32) × (a < 2 ^ 32) × (b < 2 ^ 32)
IsEvent (Close w) = w < 2 ^ 32
