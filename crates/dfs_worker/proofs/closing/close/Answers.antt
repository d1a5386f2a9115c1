use Rattle.std.proofs.Common.{◌∙◌, sym}
use Rattle.dfs_worker.proofs.Looking.{looks-of, may-look, may-close, close-tried, close-missed, close-none}
use Rattle.dfs_worker.proofs.closing.close.Goals as goal

pub closed-closed-requires : goal.closed-closed-requires
closed-closed-requires g c =
    may-look g.F.Fabric.agrees g.F.Fabric.shape g.F.Fabric.roots (g.X.Expand.tree c.args._x.now) c.args.worker.now c.args.fabric.now c.number-w.result c.requires c.number-w.ensures

pub close-requires : goal.close-requires
close-requires g c =
    let at = looks-of g.F.Fabric.agrees g.F.Fabric.done g.F.Fabric.shape g.F.Fabric.roots (g.X.Expand.tree c.args._x.now) c.args.worker.now c.args.fabric.now c.closed-closed.new.self
    c.number-w.result c.closed-closed.result
    c.requires c.number-w.ensures c.closed-closed.ensures.seen c.closed-closed.ensures.rises in
    may-close g.F.Fabric.agrees g.F.Fabric.done g.F.Fabric.shape g.F.Fabric.roots (g.X.Expand.tree c.args._x.now) c.args.worker.now c.moved.new.self c.args.fabric.now
    c.closed-closed.new.self c.number-w.result c.closed-closed.result
    at c.number-w.ensures c.moved.ensures (rw c.closer.ensures at (sym c.ready.ensures.ready ∙ c.if-not-ready.false)) (rw c.closer.ensures at c.ready.ensures.whole)

pub returns-in-Closed : goal.returns-in-Closed
returns-in-Closed g c =
    let at = looks-of g.F.Fabric.agrees g.F.Fabric.done g.F.Fabric.shape g.F.Fabric.roots (g.X.Expand.tree c.args._x.now) c.args.worker.now c.args.fabric.now c.closed-closed.new.self
    c.number-w.result c.closed-closed.result
    c.requires c.number-w.ensures c.closed-closed.ensures.seen c.closed-closed.ensures.rises in
    close-tried g.F.Fabric.agrees g.F.Fabric.done g.F.Fabric.excused g.F.Fabric.shape g.F.Fabric.roots (g.X.Expand.tree c.args._x.now) c.args.worker.now c.moved.new.self c.args.fabric.now
    c.closed-closed.new.self c.close.new.self
    c.number-w.result c.closed-closed.result at c.number-w.ensures c.moved.ensures (rw c.closer.ensures at (sym c.ready.ensures.ready ∙ c.if-not-ready.false))
    (rw c.closer.ensures at c.ready.ensures.whole) c.in-Closed.ensures

pub returns-in-Moved : goal.returns-in-Moved
returns-in-Moved g c =
    let at = looks-of g.F.Fabric.agrees g.F.Fabric.done g.F.Fabric.shape g.F.Fabric.roots (g.X.Expand.tree c.args._x.now) c.args.worker.now c.args.fabric.now c.closed-closed.new.self
    c.number-w.result c.closed-closed.result
    c.requires c.number-w.ensures c.closed-closed.ensures.seen c.closed-closed.ensures.rises in
    close-missed g.F.Fabric.agrees g.F.Fabric.done g.F.Fabric.excused g.F.Fabric.shape g.F.Fabric.roots (g.X.Expand.tree c.args._x.now) c.args.worker.now c.moved.new.self c.args.fabric.now
    c.closed-closed.new.self c.close.new.self
    c.number-w.result c.closed-closed.result at c.number-w.ensures c.moved.ensures (rw c.closer.ensures at (sym c.ready.ensures.ready ∙ c.if-not-ready.false)) c.in-Moved.ensures

pub returns-then-not-ready : goal.returns-then-not-ready
returns-then-not-ready g c =
    let at = looks-of g.F.Fabric.agrees g.F.Fabric.done g.F.Fabric.shape g.F.Fabric.roots (g.X.Expand.tree c.args._x.now) c.args.worker.now c.args.fabric.now c.closed-closed.new.self
    c.number-w.result c.closed-closed.result
    c.requires c.number-w.ensures c.closed-closed.ensures.seen c.closed-closed.ensures.rises in
    close-none g.F.Fabric.agrees g.F.Fabric.done g.F.Fabric.excused g.F.Fabric.shape g.F.Fabric.roots (g.X.Expand.tree c.args._x.now) c.args.worker.now c.moved.new.self c.args.fabric.now
    c.closed-closed.new.self
    c.closed-closed.result at c.moved.ensures (rw c.closer.ensures at (sym c.ready.ensures.ready ∙ c.if-not-ready.true))
