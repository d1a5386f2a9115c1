-- Steps that may end a run.
use Rattle.std.specs.Prelude.{Result, Ok, Err}
use Rattle.run_status.specs.declared.status.Status.{Status}

infixl 10 ◌>>~◌
abbrev pub ◌>>~◌ : {A B : Type 0} → Result A Status → (A → Result B Status) → Result B Status
(Ok x) >>~ f = f x
(Err status) >>~ f = Err status
