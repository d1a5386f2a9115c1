use Rattle.std.proofs.Common.{option_map, sym}
use Rattle.clap.specs.Words.{found_of, rows_of}
use Rattle.cli_words.specs.Taken.{with_settings_found}
use Rattle.cli_words.specs.declared.setting.Setting.TheVariants as setting
use Rattle.cli_words.proofs.TakingSteps.{value_goes_on}
use Rattle.cli_words.proofs.taking.take_settings.Goals as goal

pub take_value-requires : goal.take_value-requires
take_value-requires c =
    let rows = rows_of (found_of c.args.matches.now) in
    (value_goes_on c.args.settings.now c.loop-setting.setting-index setting.Machines rows c.loop-setting.options (with_settings_found c.args.settings.now rows c.args.options)
    c.loop-setting-test.true c.loop-setting.invariant c.requires (option_map (λ x. x.now) c.found_in.result)
    (sym c.found_in.ensures)).0

pub loop-setting-preserved : goal.loop-setting-preserved
loop-setting-preserved c =
    let rows = rows_of (found_of c.args.matches.now) in
    (value_goes_on c.args.settings.now c.loop-setting.setting-index setting.Machines rows c.loop-setting.options (with_settings_found c.args.settings.now rows c.args.options)
    c.loop-setting-test.true c.loop-setting.invariant c.requires (option_map (λ x. x.now) c.found_in.result)
    (sym c.found_in.ensures)).1 c.in_ok-options.options c.in_ok-options.ensures
