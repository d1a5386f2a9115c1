use Rattle.std.specs.List.{fold}
use Rattle.std.proofs.Common.{map}
use Rattle.clap.specs.Words.{app_of, with_rule}
use Rattle.cli_words.specs.Line.{option_rule}
use Rattle.cli_words.specs.declared.setting.Setting.TheVariants as variant
use Rattle.cli_words.proofs.RulesAdded.{rule_added}
use Rattle.cli_words.proofs.line.with_options.Goals as goal

pub loop-setting-preserved : goal.loop-setting-preserved
loop-setting-preserved c =
    rule_added option_rule c.args.settings.now c.loop-setting.setting-index variant.Machines (app_of c.loop-setting.line) (app_of c.in_ok-line.line)
    (fold with_rule (app_of c.args.line) (map option_rule c.args.settings.now)) c.loop-setting-test.true c.loop-setting.invariant c.in_ok-line.ensures
