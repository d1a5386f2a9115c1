-- Faults that are handed on.
use Rattle.std.proofs.Common.{◌≡◌, refl, arith, ℕ, ◌≤◌, Option, Some, None, MatchOption, Result, Ok, Err}
use Rattle.adfs_base.specs.Counts.{Rose}
use Rattle.graph_tables.specs.Faults.{◌>>=◌, FailsAt, GivesFault, HasCause, LoadsFault}
use Rattle.graph_tables.specs.declared.faults.TableFault.{TableFault}
use Rattle.graph_tables.specs.declared.faults.TableKind.{TableKind}
use Rattle.graph_tables.specs.declared.faults.TableKind.TheVariants as kind

-- a fault of one result is one of another that fails with it
pub carried : {X Y : Type 0} (e : TableFault) (k : TableKind) (given : Result X TableFault) (other : Result Y TableFault) → (given ≡ Err e → other ≡ Err e) → GivesFault e k given → GivesFault e k other
carried e kind.NoMemory given other f h = h
carried e kind.ReadFault given other f h = h
carried e kind.Missing given other f h = h
carried e kind.BadManifest given other f h = f h
carried e kind.BadHeader given other f h = f h
carried e (kind.BadCell c) given other f h = f h
carried e kind.DoubleKey given other f h = f h
carried e kind.NoSuchVertex given other f h = f h
carried e kind.TooLong given other f h = f h
carried e (kind.TooMany q) given other f h = f h

-- a fault of the first step is one of both
pub first_failed : {X Y : Type 0} (e : TableFault) (r : Result X TableFault) (f : X → Result Y TableFault) → GivesFault e e.kind r → GivesFault e e.kind (r >>= f)
first_failed e r f h = carried e e.kind r (r >>= f) (λ w. rw w refl) h

-- a fault after steps that went well
pub later_failed : {X Y : Type 0} (e : TableFault) (given : Result X TableFault) (other : Result Y TableFault) → GivesFault e e.kind given → (given ≡ Err e → other ≡ Err e) → GivesFault e e.kind other
later_failed e given other h f = carried e e.kind given other f h

-- the same for steps on files
load_carried : {X Y : Type 0} (e : TableFault) (k : TableKind) (given : Result X TableFault) (other : Result Y TableFault) → (given ≡ Err e → other ≡ Err e) → LoadsFault e k given → LoadsFault e k other
load_carried e kind.NoMemory given other f h = h
load_carried e kind.ReadFault given other f h = h
load_carried e kind.Missing given other f h = f h
load_carried e kind.BadManifest given other f h = f h
load_carried e kind.BadHeader given other f h = f h
load_carried e (kind.BadCell c) given other f h = f h
load_carried e kind.DoubleKey given other f h = f h
load_carried e kind.NoSuchVertex given other f h = f h
load_carried e kind.TooLong given other f h = f h
load_carried e (kind.TooMany q) given other f h = f h

pub load_failed : {X Y : Type 0} (e : TableFault) (given : Result X TableFault) (other : Result Y TableFault) → LoadsFault e e.kind given → (given ≡ Err e → other ≡ Err e) → LoadsFault e e.kind other
load_failed e given other h f = load_carried e e.kind given other f h

-- a step on bytes is one on files
lift : {X : Type 0} (e : TableFault) (k : TableKind) (given : Result X TableFault) → GivesFault e k given → LoadsFault e k given
lift e kind.NoMemory given h = h
lift e kind.ReadFault given h = absurd h
lift e kind.Missing given h = absurd h
lift e kind.BadManifest given h = h
lift e kind.BadHeader given h = h
lift e (kind.BadCell c) given h = h
lift e kind.DoubleKey given h = h
lift e kind.NoSuchVertex given h = h
lift e kind.TooLong given h = h
lift e (kind.TooMany q) given h = h

pub lifted : {X : Type 0} (e : TableFault) (given : Result X TableFault) → GivesFault e e.kind given → LoadsFault e e.kind given
lifted e given h = lift e e.kind given h

-- a fault of a step on bytes has no cause in the store
pub no_read_fault : {X : Type 0} (e : TableFault) (k : TableKind) (given : Result X TableFault) → GivesFault e k given → k ≡ kind.ReadFault → ⊥
no_read_fault e k given h is = rw is at h

pub no_missing : {X : Type 0} (e : TableFault) (k : TableKind) (given : Result X TableFault) → GivesFault e k given → k ≡ kind.Missing → ⊥
no_missing e k given h is = rw is at h

pub own_cause : {F X Y : Type 0} (files : Option F) (faults faults_now misses misses_now : ℕ) (e : TableFault) (given : Result Y TableFault) → faults ≤ faults_now → misses ≤ misses_now
    → GivesFault e e.kind given → HasCause {X = X} files faults faults_now misses misses_now (Err e)
own_cause files faults faults_now misses misses_now e given a b h = record {
  faults_stay = a;
  misses_stay = b;
  failed = λ is. absurd (no_read_fault e e.kind given h is);
  missing = λ is. absurd (no_missing e e.kind given h is);
}

pub own_place : {Y : Type 0} (first last : ℕ) (e : TableFault) (given : Result Y TableFault) → GivesFault e e.kind given → FailsAt first last e
own_place first last e given h = λ is. absurd (no_read_fault e e.kind given h is)

-- a file of these is one of more
pub place_among : (first last low high : ℕ) (e : TableFault) → low ≤ first → last ≤ high → FailsAt first last e → FailsAt low high e
place_among first last low high e a b h = λ is. ((h is).0, omega (arith, (h is).1), omega (arith, (h is).2))

pub no_cause : {F X : Type 0} (files : Option F) (faults faults_now misses misses_now : ℕ) (x : X) → faults ≤ faults_now → misses ≤ misses_now
    → HasCause files faults faults_now misses misses_now (Ok x)
no_cause files faults faults_now misses misses_now x a b = record { faults_stay = a; misses_stay = b; failed = tt; missing = tt }

-- a count that rose from some moment on has risen from an earlier one on
rose_since : (a b c : ℕ) → a ≤ b → Rose b c → Rose a c
rose_since a b c h rose = omega (arith, rose)

missing_since : {F : Type 0} (files : Option F) (a b c : ℕ) → a ≤ b → MatchOption files (Rose b c) (λ _. Unit {0}) → MatchOption files (Rose a c) (λ _. Unit {0})
missing_since None a b c h rose = rose_since a b c h rose
missing_since (Some f) a b c h rose = tt

pub cause_since : {F X Y : Type 0} (files : Option F) (f0 f1 f2 m0 m1 m2 : ℕ) (e : TableFault) → f0 ≤ f1 → m0 ≤ m1 → HasCause {X = X} files f1 f2 m1 m2 (Err e) → HasCause {X = Y} files f0 f2 m0 m2 (Err e)
cause_since files f0 f1 f2 m0 m1 m2 e a b h = record {
  faults_stay = omega (arith, h.faults_stay);
  misses_stay = omega (arith, h.misses_stay);
  failed = λ is. rose_since f0 f1 f2 a (h.failed is);
  missing = λ is. missing_since files m0 m1 m2 b (h.missing is);
}
