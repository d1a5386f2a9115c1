use Rattle.std.proofs.Common.{◌≡◌, ◌≤◌, ◌+◌, map, drop}
use Rattle.std.specs.String.{string_bytes}
use Rattle.cli_words.specs.FormOnly.{place_refused}
use Rattle.cli_words.specs.Form.{read_on}
use Rattle.cli_words.specs.Said.{to_come}
use Rattle.cli_words.proofs.read.refused_place.Given as goal

-- the words that are left are refused, after those that were read, where all of them are
abbrev pub invariant-loop-word : goal.invariant-loop-word
invariant-loop-word l = record {
  refuses : place_refused (read_on (map string_bytes (drop l.word-index l.words)) l.place l.reading) ≡ place_refused (read_on (map string_bytes l.words) 1 l.fn.first);
  few : l.place + to_come l.reading ≤ 21;
}
