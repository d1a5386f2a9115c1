-- What a trace that is taken again gives.
use Rattle.std.specs.Prelude.{◌≡◌, ℕ, false, List, [], ◌∷◌, map, Result, Ok, Err, Vec}
use Rattle.std.specs.Global.{Global}
use Rattle.adfs_base.specs.declared.no_memory.NoMemory.{NoMemory as OutOfMemory}
use Rattle.query_replies.specs.declared.answers.Replies.{Replies}
use Rattle.run_status.specs.Faults.{status_of_replay}
use Rattle.run_status.specs.declared.status.Status.{Status}
use Rattle.run_status.specs.declared.status.Status.TheVariants.{NoMemory}
use Rattle.trace_text.specs.declared.fault.ReplayFault.{ReplayFault}
use Rattle.trace_text.specs.declared.fault.ReplayFault.TheVariants as fault
use Rattle.trace_text.specs.declared.header.Header.{Header}
use Rattle.run_replies.specs.Jobs.{Job}
use Rattle.run_replies.specs.Traces.{IsNotTaken, IsNotTold, IsTaken, IsToldOf}

abbrev pub TakenFails : Header → List ℕ → Job → ReplayFault → Type 0
TakenFails header bytes job fault.NoMemory = Unit {0}
TakenFails header bytes job why = IsNotTaken header bytes job job.places (status_of_replay why)

-- The replies tell what is told of it, or the fault is why it can't be taken; but memory may run out.
abbrev pub TakenGives : Header → List ℕ → Job → Result Replies ReplayFault → Type 0
TakenGives header bytes job (Ok replies) = IsTaken header bytes job job.places (map (λ text. text.items) replies.texts.items) replies.refused
TakenGives header bytes job (Err why) = TakenFails header bytes job why

-- The same for the text alone of a query that stands at a place.
abbrev pub QueryFails : Header → List ℕ → Job → ℕ × ℕ → ReplayFault → Type 0
QueryFails header bytes job place fault.NoMemory = Unit {0}
QueryFails header bytes job place why = IsNotTold header bytes job place (status_of_replay why)

abbrev pub QueryTaken : Header → List ℕ → Job → ℕ × ℕ → Result (Vec ℕ Global) ReplayFault → Type 0
QueryTaken header bytes job place (Ok text) = IsToldOf header bytes job place text.items
QueryTaken header bytes job place (Err why) = QueryFails header bytes job place why

-- The text alone is put, or the fault is handed on; but memory may run out.
abbrev pub IsToldAlone : Result (Vec ℕ Global) ReplayFault → Result Replies ReplayFault → Type 0
IsToldAlone (Ok text) (Ok replies) = (map (λ text. text.items) replies.texts.items ≡ text.items ∷ []) × (replies.refused ≡ false)
IsToldAlone (Ok text) (Err why) = why ≡ fault.NoMemory
IsToldAlone (Err why) result = result ≡ Err why

-- what was made, unless memory ran out
abbrev pub with_memory : Result Replies OutOfMemory → Result Replies Status
with_memory (Ok replies) = Ok replies
with_memory (Err e) = Err NoMemory
