-- What the parts of a run promise one another.
use Rattle.std.specs.Prelude.{◌≡◌, ◌⊎◌, map, Result, Ok, Err}
use Rattle.query_replies.specs.declared.answers.Replies.{Replies}
use Rattle.run_replies.specs.Outcome.{IsDoneBy, Taken, Work}
use Rattle.run_replies.specs.Traces.{IsNotTaken}
use Rattle.run_status.specs.declared.status.Status.{Status}
use Rattle.run_status.specs.declared.status.Status.TheVariants.{Done, SomeRefused, Usage, ReadFault, WriteFault, NoMemory, Limit, ReplayRefused, TableFault, OwnerFault, NotBuilt}

-- What a part of the run between the words and the writing gives, against its definition.
abbrev pub PartGives : {X Y : Type 0} → (X → Y) → Result X Status → Result Y Status → Type 0
PartGives view (Ok x) part = part ≡ Ok (view x)
PartGives view (Err (ReadFault file)) part = Unit {0}
PartGives view (Err NoMemory) part = Unit {0}
PartGives view (Err status) part = part ≡ Err status

-- A trace that was to be taken again was refused so: its header, or what follows it.
abbrev pub IsRefused : Work → Status → Type 0
IsRefused (Taken header bytes job) status = IsNotTaken header bytes job job.places status
IsRefused work status = ⊥

abbrev pub Refuses : Result Work Status → Status → Type 0
Refuses part status = (part ≡ Err status) ⊎ ((work : Work) × (part ≡ Ok work) × IsRefused work status)

-- What a part of the run that makes replies gives, against its definition.
abbrev pub RepliesGive : Result Replies Status → Result Work Status → Type 0
RepliesGive (Ok replies) part = (work : Work) × (part ≡ Ok work) × IsDoneBy work (map (λ text. text.items) replies.texts.items) replies.refused
RepliesGive (Err (ReadFault file)) part = Unit {0}
RepliesGive (Err NoMemory) part = Unit {0}
RepliesGive (Err (ReplayRefused line code guard)) part = Refuses part (ReplayRefused line code guard)
RepliesGive (Err status) part = part ≡ Err status

-- a status of the work on the words
abbrev pub IsOfWords : Status → Type 0
IsOfWords (Usage word) = Unit {0}
IsOfWords (NotBuilt what) = Unit {0}
IsOfWords NoMemory = Unit {0}
IsOfWords status = ⊥

-- a status of the work between the words and the writing
abbrev pub IsOfFiles : Status → Type 0
IsOfFiles Done = ⊥
IsOfFiles SomeRefused = ⊥
IsOfFiles WriteFault = ⊥
IsOfFiles (Usage word) = ⊥
IsOfFiles (NotBuilt what) = ⊥
IsOfFiles status = Unit {0}

-- a status of the work on bytes that were read or made: no store causes it
abbrev pub IsOfBytes : Status → Type 0
IsOfBytes NoMemory = Unit {0}
IsOfBytes (Limit quantity number) = Unit {0}
IsOfBytes (TableFault file row column code cell) = Unit {0}
IsOfBytes (OwnerFault e) = Unit {0}
IsOfBytes (ReplayRefused line code guard) = Unit {0}
IsOfBytes status = ⊥

-- a status of the work before the writing
abbrev pub IsBeforePuts : Status → Type 0
IsBeforePuts Done = ⊥
IsBeforePuts SomeRefused = ⊥
IsBeforePuts WriteFault = ⊥
IsBeforePuts status = Unit {0}
