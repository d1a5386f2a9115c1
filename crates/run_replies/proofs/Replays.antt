-- What a trace that is taken again comes to, as a status.
use Rattle.std.proofs.Common.{ℕ, List, refl, inl, inr, Option, Some, None, Result, Ok, Err, IfErr, IfSome}
use Rattle.query_replies.specs.declared.answers.Replies.{Replies}
use Rattle.run_status.specs.Faults.{status_of_replay, with_replay_status}
use Rattle.run_status.specs.Steps.{◌>>~◌}
use Rattle.run_status.specs.declared.status.Status.{Status}
use Rattle.trace_text.specs.Faults.{GivesFault}
use Rattle.trace_text.specs.declared.fault.ReplayFault.{ReplayFault}
use Rattle.trace_text.specs.declared.fault.ReplayFault.TheVariants as fault
use Rattle.trace_text.specs.declared.header.Header.{Header}
use Rattle.run_replies.specs.Jobs.{Job}
use Rattle.run_replies.specs.Outcome.{Taken, Work}
use Rattle.run_replies.specs.Parts.{IsOfBytes, RepliesGive}
use Rattle.run_replies.specs.Telling.{TakenGives}

pub fault_bytes : (why : ReplayFault) → IsOfBytes (status_of_replay why)
fault_bytes (fault.BadLine line) = tt
fault_bytes (fault.NotEnabled line guard) = tt
fault_bytes fault.NotFinished = tt
fault_bytes fault.NoMemory = tt

pub told_bytes : (told : Result Replies ReplayFault) → IfErr (with_replay_status told) IsOfBytes
told_bytes (Ok replies) = tt
told_bytes (Err why) = fault_bytes why

-- a trace on a job that was loaded
pub told_gives : (header : Header) (bytes : List ℕ) (job : Job) (told : Result Replies ReplayFault) → TakenGives header bytes job told
    → RepliesGive (with_replay_status told) (Ok (Taken header bytes job))
told_gives header bytes job (Ok replies) gives = (Taken header bytes job, refl, gives)
told_gives header bytes job (Err (fault.BadLine line)) gives = inr (Taken header bytes job, refl, gives)
told_gives header bytes job (Err (fault.NotEnabled line guard)) gives = inr (Taken header bytes job, refl, gives)
told_gives header bytes job (Err fault.NotFinished) gives = inr (Taken header bytes job, refl, gives)
told_gives header bytes job (Err fault.NoMemory) gives = tt

-- a header that isn't read
header_fails : (why : ReplayFault) (due : Result Header ReplayFault) (next : Header → Result Work Status) → GivesFault why due → RepliesGive (Err (status_of_replay why)) (with_replay_status due >>~ next)
header_fails (fault.BadLine line) due next gives = inl (rw gives refl)
header_fails (fault.NotEnabled line guard) due next gives = inl (rw gives refl)
header_fails fault.NotFinished due next gives = inl (rw gives refl)
header_fails fault.NoMemory due next gives = tt

pub header_fails_told : {F : Type 0} (files : Option F) (why : ReplayFault) (due : Result Header ReplayFault) (next : F → Header → Result Work Status) → GivesFault why due
    → IfSome files (λ told. RepliesGive (Err (status_of_replay why)) (with_replay_status due >>~ next told))
header_fails_told None why due next gives = tt
header_fails_told (Some told) why due next gives = header_fails why due (next told) gives
