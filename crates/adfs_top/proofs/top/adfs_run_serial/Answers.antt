use Rattle.std.proofs.Common.{map}
use Rattle.std.specs.String.{string_bytes}
use Rattle.run_replies.specs.Outcome.{outcome_of}
use Rattle.adfs_top.proofs.Ends.{ends_place, puts_told}
use Rattle.adfs_top.proofs.top.adfs_run_serial.Goals as goal

pub returns-in-Ok-clause-puts : goal.returns-in-Ok-clause-puts
returns-in-Ok-clause-puts g c =
    puts_told (g.S.Store.files c.args.store.now) c.put_replies.result c.in-Ok.replies (outcome_of (map string_bytes c.args.words.now))
    (g.O.Sink.held c.args.out.now, g.O.Sink.pieces c.args.out.now) (g.O.Sink.held c.put_replies.new.out, g.O.Sink.pieces c.put_replies.new.out)
    c.in-Ok.ensures.gives c.put_replies.ensures.ends

pub returns-in-Ok-clause-place : goal.returns-in-Ok-clause-place
returns-in-Ok-clause-place g c = ends_place _ c.put_replies.result c.in-Ok.replies _ _ c.put_replies.ensures.ends
