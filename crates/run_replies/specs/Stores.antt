-- What a step that reads files of a store does to it, and when it fails.
use Rattle.std.specs.Prelude.{◌≡◌, ◌≤◌, ℕ, Option, Result, IfErr}
use Rattle.adfs_base.specs.Files.{Files}
use Rattle.run_status.specs.declared.status.Status.{Status}
use Rattle.run_replies.specs.Causes.{FailsAt, StoreCause}
use Rattle.run_replies.specs.Parts.{IsOfFiles}

-- what a store tells: its files, and how many faults and how many misses it counts
abbrev pub Tells : Type 0
Tells = Option Files × ℕ × ℕ

-- The files stay, and neither count falls. The status is one of the work on files; the store has caused it where a store causes
-- such a status; and a file that can't be read, or is missing, is one that the step reaches, by the files that it began with.
pub record ReadsFiles {X : Type 0} (Reaches : Option Files → ℕ → Type 0) (old new : Tells) (result : Result X Status) : Type 0 where
  pub kept : new.0 ≡ old.0
  pub faults : old.1 ≤ new.1
  pub misses : old.2 ≤ new.2
  pub cause : IfErr result (λ status. StoreCause status old.0 old.1 new.1 old.2 new.2)
  pub status : IfErr result IsOfFiles
  pub place : IfErr result (FailsAt (Reaches old.0))
