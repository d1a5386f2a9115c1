use Rattle.std.specs.List.{fold}
use Rattle.std.proofs.Common.{map}
use Rattle.clap.specs.Words.{app_of, with_rule}
use Rattle.cli_words.specs.Line.{file_rule}
use Rattle.cli_words.specs.declared.file_word.FileWord.TheVariants as variant
use Rattle.cli_words.proofs.RulesAdded.{rule_added}
use Rattle.cli_words.proofs.line.with_file_words.Goals as goal

pub loop-file-preserved : goal.loop-file-preserved
loop-file-preserved c =
    rule_added file_rule c.args.files.now c.loop-file.file-index variant.Manifest (app_of c.loop-file.line) (app_of c.in_ok-line.line)
    (fold with_rule (app_of c.args.line) (map file_rule c.args.files.now)) c.loop-file-test.true c.loop-file.invariant c.in_ok-line.ensures
