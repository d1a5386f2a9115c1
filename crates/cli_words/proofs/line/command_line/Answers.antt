use Rattle.std.proofs.Common.{◌≡◌, ◌∙◌, ap, ap₂, map, true}
use Rattle.std.proofs.lemmas.Result.{IfOk-weaker}
use Rattle.std.specs.List.{fold}
use Rattle.clap.specs.Simple.{app_of_fields, new_app}
use Rattle.clap.specs.Words.{App, app_of, with_rule}
use Rattle.clap.specs.declared.builder.command.Command.TheViews.{out-Command as fields_of}
use Rattle.cli_words.specs.Line.{file_rule, option_rule}
use Rattle.cli_words.specs.Rows.{command_name, settings_of}
use Rattle.cli_words.proofs.LineRules.{line-made, no_flags}
use Rattle.cli_words.proofs.line.command_line.Goals as goal

abbrev without_help : App → App
without_help a = record a { top = record a.top { disable_help_flag = true } }

abbrev without_version : App → App
without_version a = record a { top = record a.top { disable_version_flag = true } }

pub returns : goal.returns
returns c =
    let command = c.args.command in
    let new : app_of c.new.result ≡ new_app (command_name command) = c.new.ensures.app ∙ ap new_app c.name-name.ensures in
    let no_help : app_of c.disable_help_flag.result ≡ without_help (new_app (command_name command)) =
    ap app_of_fields {y = record (fields_of c.new.result) { disable_help_flag = true }} c.disable_help_flag.ensures ∙ ap without_help new in
    let start : app_of c.disable_version_flag-line.result ≡ no_flags (command_name command) =
    ap app_of_fields {y = record (fields_of c.disable_help_flag.result) { disable_version_flag = true }} c.disable_version_flag-line.ensures ∙ ap without_version no_help in
    let options : app_of c.in_ok-line.line ≡ fold with_rule (no_flags (command_name command)) (map option_rule (settings_of command)) =
    c.in_ok-line.ensures ∙ ap₂ (λ a settings. fold with_rule a (map option_rule settings)) start c.settings.ensures in
    IfOk-weaker c.with_file_words.result _ _
    (λ line h. h ∙ (ap₂ (λ a files. fold with_rule a (map file_rule files)) options c.file_words.ensures ∙ line-made command)) c.with_file_words.ensures
