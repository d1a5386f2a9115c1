use Rattle.std.proofs.Common.{◌∙◌, ap, map, subst}
use Rattle.std.proofs.lemmas.Result.{IfOk-weaker}
use Rattle.std.specs.Prelude.{IsOk}
use Rattle.std.specs.String.{string_bytes}
use Rattle.clap.specs.Words.{found_of, rows_of}
use Rattle.cli_words.specs.Form.{read_on}
use Rattle.cli_words.specs.Said.{at_first}
use Rattle.cli_words.proofs.Found.{all_found, all_taken, found_is_said, rest_of}
use Rattle.cli_words.proofs.taking.take_words.Goals as goal

pub find_words-requires : goal.find_words-requires
find_words-requires c =
    all_taken c.args.command (map string_bytes c.args.words.now)
    (subst (λ rest. IsOk (read_on rest 1 (at_first c.args.command))) (rest_of string_bytes c.args.words.now) c.requires)

pub take_options-requires : goal.take_options-requires
take_options-requires c =
    all_found c.args.command (map string_bytes c.args.words.now)
    (subst (λ rest. IsOk (read_on rest 1 (at_first c.args.command))) (rest_of string_bytes c.args.words.now) c.requires)
    (rows_of (found_of c.in_ok-matches.matches)) c.in_ok-matches.ensures

pub returns : goal.returns
returns c =
    IfOk-weaker c.take_options.result _ _
    (λ options found. ap (λ rest. read_on rest 1 (at_first c.args.command)) (rest_of string_bytes c.args.words.now)
    ∙ found_is_said c.args.command (map string_bytes c.args.words.now)
    (subst (λ rest. IsOk (read_on rest 1 (at_first c.args.command))) (rest_of string_bytes c.args.words.now) c.requires)
    (rows_of (found_of c.in_ok-matches.matches)) options c.in_ok-matches.ensures found)
    c.take_options.ensures
