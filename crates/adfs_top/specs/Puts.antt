-- What was put by then, and when each status comes.
use Rattle.std.specs.Prelude.{◌≡◌, ◌<◌, ℕ, Bool, true, false, List, [], ◌++◌, length, map, take, slice_index_or, Option, Result, Ok, Err}
use Rattle.std.specs.List.{AllByRecursion, flat_map}
use Rattle.std.specs.Option.{option_map}
use Rattle.adfs_base.specs.Bytes.{took, TookFront}
use Rattle.query_replies.specs.declared.answers.Replies.{Replies}
use Rattle.run_replies.specs.Outcome.{IsDoneBy, Work}
use Rattle.run_replies.specs.Parts.{Refuses}
use Rattle.run_status.specs.declared.status.Status.{Status}
use Rattle.run_status.specs.declared.status.Status.TheVariants.{Done, SomeRefused, ReadFault, ReplayRefused, WriteFault, NoMemory}

-- what a sink tells: its bytes, and the pieces that it took whole
abbrev pub Told : Type 0
Told = Option (List ℕ) × Option (List (List ℕ))

abbrev pub joined : List (List ℕ) → List ℕ
joined pieces = flat_map (λ piece. piece) pieces

-- what it tells after a put for each of these pieces, one after the other
abbrev pub after_puts : Told → List (List ℕ) → Told
after_puts old pieces = (took old.0 (joined pieces), option_map (λ before. before ++ pieces) old.1)

-- It took some first pieces whole, and a front of the next, which may be empty.
abbrev pub TookPart : Told → List (List ℕ) → Told → Type 0
TookPart old pieces new =
    (n : ℕ) × (n < length pieces) × TookFront (after_puts old (take n pieces)).0 (slice_index_or pieces n []) new.0 × (new.1 ≡ (after_puts old (take n pieces)).1)

-- None of the pieces is empty.
abbrev pub AreFull : List (List ℕ) → Type 0
AreFull pieces = AllByRecursion (λ piece. 0 < length piece) pieces

-- Each reply was put by a put of its own, one after the other; and whether one of them is a refusal.
abbrev pub PutsAll : Bool → Result Work Status → Told → Told → Type 0
PutsAll refused outcome old new = (work : Work) × (replies : List (List ℕ)) × (outcome ≡ Ok work) × IsDoneBy work replies refused × AreFull replies × (new ≡ after_puts old replies)

-- Some first replies were put so, and a front of the next.
abbrev pub PutsFront : Result Work Status → Told → Told → Type 0
PutsFront outcome old new = (work : Work) × (replies : List (List ℕ)) × (refused : Bool) × (outcome ≡ Ok work) × IsDoneBy work replies refused × AreFull replies × TookPart old replies new

-- What is put by a run that comes to this outcome. A read fault and out of memory may come whatever the outcome is.
abbrev pub Puts : Status → Result Work Status → Told → Told → Type 0
Puts Done outcome old new = PutsAll false outcome old new
Puts SomeRefused outcome old new = PutsAll true outcome old new
Puts WriteFault outcome old new = PutsFront outcome old new
Puts (ReadFault file) outcome old new = new ≡ old
Puts NoMemory outcome old new = new ≡ old
Puts (ReplayRefused line code guard) outcome old new = Refuses outcome (ReplayRefused line code guard) × (new ≡ old)
Puts status outcome old new = (outcome ≡ Err status) × (new ≡ old)

-- Nothing was put, unless the run came to its writing.
abbrev pub PutsNothing : Status → Told → Told → Type 0
PutsNothing Done old new = Unit {0}
PutsNothing SomeRefused old new = Unit {0}
PutsNothing WriteFault old new = Unit {0}
PutsNothing status old new = new ≡ old

-- how the putting of replies ends, and what it leaves
abbrev pub EndsPuts : Status → Replies → Told → Told → Type 0
EndsPuts Done replies old new = (replies.refused ≡ false) × (new ≡ after_puts old (map (λ text. text.items) replies.texts.items))
EndsPuts SomeRefused replies old new = (replies.refused ≡ true) × (new ≡ after_puts old (map (λ text. text.items) replies.texts.items))
EndsPuts WriteFault replies old new = TookPart old (map (λ text. text.items) replies.texts.items) new
EndsPuts status replies old new = ⊥
