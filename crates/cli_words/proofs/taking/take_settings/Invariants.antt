use Rattle.std.proofs.Common.{◌≡◌, drop}
use Rattle.clap.specs.Words.{found_of, rows_of}
use Rattle.cli_words.specs.Taken.{with_settings_found}
use Rattle.cli_words.proofs.taking.take_settings.Given as goal

-- what was found for the options that are left gives, after those that were taken, what all of it gives
abbrev pub invariant-loop-setting : goal.invariant-loop-setting
invariant-loop-setting l = with_settings_found (drop l.setting-index l.settings) (rows_of (found_of l.matches)) l.options
    ≡ with_settings_found l.settings (rows_of (found_of l.matches)) l.fn.options
