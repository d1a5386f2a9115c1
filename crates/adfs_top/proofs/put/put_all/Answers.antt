use Rattle.std.proofs.Common.{◌≡◌, ◌<◌, length, rules}
use Rattle.adfs_base.specs.declared.sink.Put.TheVariants.{Failed}
use Rattle.adfs_top.proofs.Ends.{stops_at}
use Rattle.adfs_top.proofs.put.put_all.Goals as goal

pub returns-then-eq-clause-front : goal.returns-then-eq-clause-front
returns-then-eq-clause-front g c = λ fails.
    let inside : c.loop-text.text-index < length c.args.texts.now = search rules in
    let failed : c.put.result ≡ Failed = search rules in
    stops_at c.args.texts.now c.loop-text.text-index c.text-item.result c.deref.result.now _ _ (g.O.Sink.held c.put.new.self, g.O.Sink.pieces c.put.new.self)
    inside c.text-item.is c.deref.ensures.value c.loop-text.invariant.whole (c.put.ensures.front failed) (c.put.ensures.pieces failed)
