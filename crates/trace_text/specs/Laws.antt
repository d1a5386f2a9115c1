-- What a header's lines say, once they are written.
use Rattle.std.specs.Prelude.{◌≡◌, ℕ, List, ◌++◌, Ok}
use Rattle.std.specs.Str.Lines.{lines}
use Rattle.trace_text.specs.declared.header.Header.{Header}
use Rattle.trace_text.specs.Headers.{IsHeader, header_lines, header_of, with_feeds}

-- The lines of a header are read as that header, whatever follows them.
abbrev pub HeadersAreReadAgain : Type 0
HeadersAreReadAgain = (header : Header) (rest : List ℕ) → IsHeader header → header_of (lines (with_feeds (header_lines header) ++ rest)) ≡ Ok header
