-- What a call that may run out of memory gives, by what it is to give.
use Rattle.std.specs.Prelude.{◌≡◌, Result, Ok, Err}
use Rattle.trace_text.specs.declared.fault.ReplayFault.{ReplayFault}
use Rattle.trace_text.specs.declared.fault.ReplayFault.TheVariants.{BadLine, NotEnabled, NotFinished, NoMemory}

infixl 10 ◌>>=◌
abbrev pub ◌>>=◌ : {A B : Type 0} → Result A ReplayFault → (A → Result B ReplayFault) → Result B ReplayFault
(Ok x) >>= f = f x
(Err e) >>= f = Err e

-- The fault is the due one, but that memory may run out.
abbrev pub GivesFault : {B : Type 0} → ReplayFault → Result B ReplayFault → Type 0
GivesFault NoMemory due = Unit {0}
GivesFault (BadLine number) due = due ≡ Err (BadLine number)
GivesFault (NotEnabled number guard) due = due ≡ Err (NotEnabled number guard)
GivesFault NotFinished due = due ≡ Err NotFinished

-- The result is the due one, but that memory may run out.
abbrev pub Gives : {A B : Type 0} → (A → B) → Result A ReplayFault → Result B ReplayFault → Type 0
Gives seen (Ok a) due = due ≡ Ok (seen a)
Gives seen (Err why) due = GivesFault why due
