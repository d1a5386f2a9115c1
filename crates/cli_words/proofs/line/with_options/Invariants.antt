use Rattle.std.proofs.Common.{◌≡◌, drop, map}
use Rattle.std.specs.List.{fold}
use Rattle.clap.specs.Words.{app_of, with_rule}
use Rattle.cli_words.specs.Line.{option_rule}
use Rattle.cli_words.proofs.line.with_options.Given as goal

-- the options that are left make of the line so far what all of them make of the line at first
abbrev pub invariant-loop-setting : goal.invariant-loop-setting
invariant-loop-setting l = fold with_rule (app_of l.line) (map option_rule (drop l.setting-index l.settings)) ≡ fold with_rule (app_of l.fn.line) (map option_rule l.settings)
