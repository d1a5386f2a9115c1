use Rattle.std.proofs.Common.{◌≡◌, drop}
use Rattle.clap.specs.Words.{found_of, rows_of}
use Rattle.cli_words.specs.Taken.{with_files_found}
use Rattle.cli_words.proofs.taking.take_files.Given as goal

-- what was found for the files that are left gives, after those that were taken, what all of it gives
abbrev pub invariant-loop-file : goal.invariant-loop-file
invariant-loop-file l = with_files_found (drop l.file-index l.files) (rows_of (found_of l.matches)) l.options
    ≡ with_files_found l.files (rows_of (found_of l.matches)) l.fn.options
