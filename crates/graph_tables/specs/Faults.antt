-- Faults with their places, and steps that may have one.
use Rattle.std.specs.Prelude.{◌≡◌, ℕ, ◌≤◌, Option, Result, Ok, Err, IfErr, MatchOption}
use Rattle.adfs_base.specs.Counts.{Rose}
use Rattle.graph_tables.specs.declared.faults.TableKind.{TableKind}
use Rattle.graph_tables.specs.declared.faults.TableKind.TheVariants as kind
use Rattle.graph_tables.specs.declared.faults.TableFault.{TableFault}
use Rattle.graph_tables.specs.declared.faults.Place.{Place}

-- a fault in a column of a record; column 0 stands for the whole record
abbrev pub fault_at : Place → ℕ → TableKind → TableFault
fault_at at column what = record { file = at.file; row = at.row; column = column; kind = what }

-- a fault of a whole file
abbrev pub fault_of : ℕ → TableKind → TableFault
fault_of file what = record { file = file; row = 0; column = 0; kind = what }

infixl 10 ◌>>=◌
abbrev pub ◌>>=◌ : {A B : Type 0} → Result A TableFault → (A → Result B TableFault) → Result B TableFault
(Ok x) >>= f = f x
(Err e) >>= f = Err e

-- The fault is the definition's. Running out of memory has no place, and the store's own faults don't come.
abbrev pub GivesFault : {X : Type 0} → TableFault → TableKind → Result X TableFault → Type 0
GivesFault e kind.NoMemory given = e ≡ fault_of 0 kind.NoMemory
GivesFault e kind.ReadFault given = ⊥
GivesFault e kind.Missing given = ⊥
GivesFault e kind.BadManifest given = given ≡ Err e
GivesFault e kind.BadHeader given = given ≡ Err e
GivesFault e (kind.BadCell f) given = given ≡ Err e
GivesFault e kind.DoubleKey given = given ≡ Err e
GivesFault e kind.NoSuchVertex given = given ≡ Err e
GivesFault e kind.TooLong given = given ≡ Err e
GivesFault e (kind.TooMany q) given = given ≡ Err e

-- What a step on bytes returned, as the view shows it, is what the definition gives, unless memory ran out.
abbrev pub Gives : {X Y : Type 0} → (Y → X) → Result Y TableFault → Result X TableFault → Type 0
Gives view (Ok y) given = given ≡ Ok (view y)
Gives view (Err e) given = GivesFault e e.kind given

-- The fault is the definition's. Running out of memory has no place, and a load that failed has its file alone.
abbrev pub LoadsFault : {X : Type 0} → TableFault → TableKind → Result X TableFault → Type 0
LoadsFault e kind.NoMemory given = e ≡ fault_of 0 kind.NoMemory
LoadsFault e kind.ReadFault given = e ≡ fault_of e.file kind.ReadFault
LoadsFault e kind.Missing given = given ≡ Err e
LoadsFault e kind.BadManifest given = given ≡ Err e
LoadsFault e kind.BadHeader given = given ≡ Err e
LoadsFault e (kind.BadCell f) given = given ≡ Err e
LoadsFault e kind.DoubleKey given = given ≡ Err e
LoadsFault e kind.NoSuchVertex given = given ≡ Err e
LoadsFault e kind.TooLong given = given ≡ Err e
LoadsFault e (kind.TooMany q) given = given ≡ Err e

-- What a step on files returned, as the view shows it, is what the definition gives, unless memory ran out or a load failed.
abbrev pub Loads : {X Y : Type 0} → (Y → X) → Result Y TableFault → Result X TableFault → Type 0
Loads view (Ok y) given = given ≡ Ok (view y)
Loads view (Err e) given = LoadsFault e e.kind given

-- Why a load ended so, by the counts of its store before and after.
pub record HasCause {X F : Type 0} (files : Option F) (faults faults_now misses misses_now : ℕ) (result : Result X TableFault) : Type 0 where
  pub faults_stay : faults ≤ faults_now
  pub misses_stay : misses ≤ misses_now
  pub failed : IfErr result (λ e. e.kind ≡ kind.ReadFault → Rose faults faults_now)
  pub missing : IfErr result (λ e. e.kind ≡ kind.Missing → MatchOption files (Rose misses misses_now) (λ _. Unit {0}))

-- The fault, if it is that of a load, is told of one of these files, as a whole.
abbrev pub FailsAt : ℕ → ℕ → TableFault → Type 0
FailsAt first last e = e.kind ≡ kind.ReadFault → (e ≡ fault_of e.file kind.ReadFault) × (first ≤ e.file) × (e.file ≤ last)
