use Rattle.std.proofs.Common.{◌∙◌, ap, map}
use Rattle.std.specs.String.{string_bytes}
use Rattle.clap.specs.Words.{takes}
use Rattle.cli_words.proofs.taking.find_words.Goals as goal

-- it takes these words, so only memory was wanting
pub unreachable-requires : goal.unreachable-requires
unreachable-requires c =
    c.in_default.not-OutOfMemory (c.kind.ensures ∙ c.in-Err.ensures.passes (ap (λ line. takes line (map string_bytes c.args.words.now)) c.in_ok-line.ensures ∙ c.requires))
