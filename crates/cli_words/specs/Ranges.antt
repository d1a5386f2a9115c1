-- The numbers of machines, workers and buffers that a command line says are within the limits of a run.
use Rattle.std.specs.Prelude.{◌≤◌, ℕ}
use Rattle.adfs_base.specs.declared.limits.TheConstants.{BROAD_BUDGET, BUFFER_CONTEXTS, CREDITS, MACHINES, WORKERS}
use Rattle.cli_words.specs.declared.options.Options.{Options}

abbrev pub IsBetween : ℕ → ℕ → ℕ → Type 0
IsBetween least greatest n = (least ≤ n) × (n ≤ greatest)

pub record IsWithinLimits (options : Options) : Type 0 where
  pub machines : IsBetween 1 MACHINES options.machines
  pub workers : IsBetween 1 WORKERS options.workers
  pub credits : IsBetween 1 CREDITS options.credits
  pub broad : IsBetween 0 BROAD_BUDGET options.broad
  pub buffer : IsBetween 1 BUFFER_CONTEXTS options.buffer
