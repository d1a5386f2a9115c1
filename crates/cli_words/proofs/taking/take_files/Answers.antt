use Rattle.std.proofs.Common.{◌≡◌, ◌∙◌, ap, sym, Some, None, option_map}
use Rattle.std.specs.List.{slice_index_or}
use Rattle.clap.specs.Words.{first_of, found_of, rows_of}
use Rattle.cli_words.specs.Rows.{file_word_name}
use Rattle.cli_words.specs.Taken.{with_files_found}
use Rattle.cli_words.specs.declared.file_word.FileWord.TheVariants as file
use Rattle.cli_words.proofs.TakingSteps.{file_goes_on, file_is_there}
use Rattle.cli_words.proofs.taking.take_files.Goals as goal

pub unreachable-requires : goal.unreachable-requires
unreachable-requires c =
    let rows = rows_of (found_of c.args.matches.now) in
    let f = slice_index_or c.args.files.now c.loop-file.file-index file.Manifest in
    let first : first_of (file_word_name f) rows ≡ None =
    sym c.found_in.ensures ∙ ap (option_map (λ s. s.now)) c.in_default.is in
    file_is_there c.args.files.now c.loop-file.file-index file.Manifest rows c.loop-file.options (with_files_found c.args.files.now rows c.args.options)
    c.loop-file-test.true c.loop-file.invariant c.requires first

pub into_options-requires : goal.into_options-requires
into_options-requires c =
    let rows = rows_of (found_of c.args.matches.now) in
    let f = slice_index_or c.args.files.now c.loop-file.file-index file.Manifest in
    let first : first_of (file_word_name f) rows ≡ Some c.in-Some.word.now =
    sym c.found_in.ensures ∙ ap (option_map (λ s. s.now)) c.in-Some.is in
    (file_goes_on c.args.files.now c.loop-file.file-index file.Manifest rows c.loop-file.options (with_files_found c.args.files.now rows c.args.options)
    c.loop-file-test.true c.loop-file.invariant c.requires c.in-Some.word.now first).0

pub loop-file-preserved : goal.loop-file-preserved
loop-file-preserved c =
    let rows = rows_of (found_of c.args.matches.now) in
    let f = slice_index_or c.args.files.now c.loop-file.file-index file.Manifest in
    let first : first_of (file_word_name f) rows ≡ Some c.in-Some.word.now =
    sym c.found_in.ensures ∙ ap (option_map (λ s. s.now)) c.in-Some.is in
    (file_goes_on c.args.files.now c.loop-file.file-index file.Manifest rows c.loop-file.options (with_files_found c.args.files.now rows c.args.options)
    c.loop-file-test.true c.loop-file.invariant c.requires c.in-Some.word.now first).1 c.in_ok-options.options c.in_ok-options.ensures
