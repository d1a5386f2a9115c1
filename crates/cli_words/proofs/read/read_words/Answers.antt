use Rattle.std.proofs.Common.{◌∙◌, ap, map, drop}
use Rattle.std.specs.String.{string_bytes}
use Rattle.cli_words.specs.FormOnly.{place_refused}
use Rattle.cli_words.specs.Form.{read_on}
use Rattle.cli_words.specs.Said.{at_first}
use Rattle.cli_words.proofs.FormReading.{accepted, refused_at}
use Rattle.cli_words.proofs.FilesNamed.{said_files}
use Rattle.cli_words.proofs.Ranges.{said_limits}
use Rattle.cli_words.proofs.WordsInTurn.{after_command, all_after_first}
use Rattle.cli_words.proofs.read.read_words.Goals as goal

pub returns-in-Some-refused_place-clause-gives : goal.returns-in-Some-refused_place-clause-gives
returns-in-Some-refused_place-clause-gives c =
    after_command string_bytes c.args.words.now c.first-item.result c.as_str.result.now c.in-Some.command c.in-len1-up.len_at_least c.first-item.is c.as_str.ensures.value c.in-Some.ensures
    ∙ refused_at (map string_bytes (drop 1 c.args.words.now)) c.in-Some-refused_place.place (at_first c.in-Some.command) c.in-Ok.reading c.in-Ok.ensures
    (c.in-Some-refused_place.ensures ∙ ap (λ rest. place_refused (read_on (map string_bytes rest) 1 c.in-Ok.reading)) (all_after_first c.args.words.now))

pub take_words-requires : goal.take_words-requires
take_words-requires c =
    accepted (map string_bytes (drop 1 c.args.words.now)) (at_first c.in-Some.command) c.in-Ok.reading c.in-Ok.ensures
    (c.in_default-refused_place.ensures ∙ ap (λ rest. place_refused (read_on (map string_bytes rest) 1 c.in-Ok.reading)) (all_after_first c.args.words.now))

pub returns-in-Ok-take_words-clause-files : goal.returns-in-Ok-take_words-clause-files
returns-in-Ok-take_words-clause-files c =
    said_files (map string_bytes (drop 1 c.args.words.now)) c.in-Some.command c.in-Ok-take_words.options c.in-Ok-take_words.ensures

pub returns-in-Ok-take_words-clause-limits : goal.returns-in-Ok-take_words-clause-limits
returns-in-Ok-take_words-clause-limits c =
    said_limits (map string_bytes (drop 1 c.args.words.now)) c.in-Some.command c.in-Ok-take_words.options c.in-Ok-take_words.ensures
