use Rattle.std.proofs.Common.{map}
use Rattle.std.specs.String.{string_bytes}
use Rattle.run_replies.proofs.Sizes.{sizes_of}
use Rattle.run_replies.proofs.words.accepted.Goals as goal

pub returns-in-Ok-clause-sizes : goal.returns-in-Ok-clause-sizes
returns-in-Ok-clause-sizes c = sizes_of (map string_bytes c.args.words.now) c.in-Ok.options c.in-Ok.ensures.gives
