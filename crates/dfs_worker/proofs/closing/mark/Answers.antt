use Rattle.std.proofs.Common.{◌∙◌, sym}
use Rattle.dfs_worker.proofs.Looking.{looks-of, may-look, may-mark, mark-tried, mark-missed, mark-none}
use Rattle.dfs_worker.proofs.closing.mark.Goals as goal

pub closed-closed-requires : goal.closed-closed-requires
closed-closed-requires g c =
    may-look g.F.Fabric.agrees g.F.Fabric.shape g.F.Fabric.roots (g.X.Expand.tree c.args._x.now) c.args.worker.now c.args.fabric.now c.number-w.result c.requires c.number-w.ensures

pub mark-requires : goal.mark-requires
mark-requires g c =
    let at = looks-of g.F.Fabric.agrees g.F.Fabric.done g.F.Fabric.shape g.F.Fabric.roots (g.X.Expand.tree c.args._x.now) c.args.worker.now c.args.fabric.now c.closed-closed.new.self
    c.number-w.result c.closed-closed.result
    c.requires c.number-w.ensures c.closed-closed.ensures.seen c.closed-closed.ensures.rises in
    may-mark g.F.Fabric.agrees g.F.Fabric.done g.F.Fabric.shape g.F.Fabric.roots (g.X.Expand.tree c.args._x.now) c.args.worker.now c.moved.new.self c.args.fabric.now
    c.closed-closed.new.self c.number-w.result c.closed-closed.result c.in-Some.word
    at c.number-w.ensures c.moved.ensures (rw c.closer.ensures at c.in-Some.ensures.of_stage)

pub returns-in-Zero : goal.returns-in-Zero
returns-in-Zero g c =
    let at = looks-of g.F.Fabric.agrees g.F.Fabric.done g.F.Fabric.shape g.F.Fabric.roots (g.X.Expand.tree c.args._x.now) c.args.worker.now c.args.fabric.now c.closed-closed.new.self
    c.number-w.result c.closed-closed.result
    c.requires c.number-w.ensures c.closed-closed.ensures.seen c.closed-closed.ensures.rises in
    mark-tried g.F.Fabric.agrees g.F.Fabric.done g.F.Fabric.excused g.F.Fabric.shape g.F.Fabric.roots (g.X.Expand.tree c.args._x.now) c.args.worker.now c.moved.new.self
    c.mark-in-Zero.new.self c.args.fabric.now c.closed-closed.new.self c.mark.new.self
    c.number-w.result c.closed-closed.result c.in-Some.word c.mark_event.result at c.number-w.ensures c.moved.ensures (sym (rw c.closer.ensures at c.in-Some.ensures.first))
    (rw c.closer.ensures at c.in-Some.ensures.of_stage)
    (rw c.closer.ensures at c.in-Some.ensures.whole) c.in-Zero.ensures c.mark-in-Zero.ensures c.mark_event.ensures

pub returns-in-Busy : goal.returns-in-Busy
returns-in-Busy g c =
    let at = looks-of g.F.Fabric.agrees g.F.Fabric.done g.F.Fabric.shape g.F.Fabric.roots (g.X.Expand.tree c.args._x.now) c.args.worker.now c.args.fabric.now c.closed-closed.new.self
    c.number-w.result c.closed-closed.result
    c.requires c.number-w.ensures c.closed-closed.ensures.seen c.closed-closed.ensures.rises in
    mark-missed g.F.Fabric.agrees g.F.Fabric.done g.F.Fabric.excused g.F.Fabric.shape g.F.Fabric.roots (g.X.Expand.tree c.args._x.now) c.args.worker.now c.moved.new.self c.args.fabric.now
    c.closed-closed.new.self c.mark.new.self
    c.number-w.result c.closed-closed.result c.in-Some.word at c.number-w.ensures c.moved.ensures (sym (rw c.closer.ensures at c.in-Some.ensures.first)) c.in-Busy.ensures

pub returns-in_default : goal.returns-in_default
returns-in_default g c =
    let at = looks-of g.F.Fabric.agrees g.F.Fabric.done g.F.Fabric.shape g.F.Fabric.roots (g.X.Expand.tree c.args._x.now) c.args.worker.now c.args.fabric.now c.closed-closed.new.self
    c.number-w.result c.closed-closed.result
    c.requires c.number-w.ensures c.closed-closed.ensures.seen c.closed-closed.ensures.rises in
    mark-none g.F.Fabric.agrees g.F.Fabric.done g.F.Fabric.excused g.F.Fabric.shape g.F.Fabric.roots (g.X.Expand.tree c.args._x.now) c.args.worker.now c.moved.new.self c.args.fabric.now
    c.closed-closed.new.self
    c.closed-closed.result at c.moved.ensures (sym (rw c.closer.ensures at c.next_word.ensures.first) ∙ c.in_default.is)
