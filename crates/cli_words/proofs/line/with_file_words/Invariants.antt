use Rattle.std.proofs.Common.{◌≡◌, drop, map}
use Rattle.std.specs.List.{fold}
use Rattle.clap.specs.Words.{app_of, with_rule}
use Rattle.cli_words.specs.Line.{file_rule}
use Rattle.cli_words.proofs.line.with_file_words.Given as goal

-- the file words that are left make of the line so far what all of them make of the line at first
abbrev pub invariant-loop-file : goal.invariant-loop-file
invariant-loop-file l = fold with_rule (app_of l.line) (map file_rule (drop l.file-index l.files)) ≡ fold with_rule (app_of l.fn.line) (map file_rule l.files)
