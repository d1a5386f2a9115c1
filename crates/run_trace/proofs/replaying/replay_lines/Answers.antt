use Rattle.std.proofs.Common.{◌≡◌, ◌∙◌, ◌+◌, ap, sym, refl, subst, add-one, arith, length}
use Rattle.std.specs.Str.Lines.{lines}
use Rattle.world_core.specs.World.{Fits, World}
use Rattle.run_trace.specs.Replay.{replayed, with_event}
use Rattle.run_trace.specs.Runs.{begun}
use Rattle.run_trace.proofs.Replays.{left_event, left_fault, left_finished, left_over}
use Rattle.run_trace.proofs.Rowless.{counted-alike, left-alike, let_go-alike, let_go-rowless, made-within}
use Rattle.run_trace.proofs.replaying.replay_lines.Goals as goal

pub returns-then-says_finished : goal.returns-then-says_finished
returns-then-says_finished g c =
    record {
      exact = left_finished (g.X.Expand.tree c.args.x.now) c.in-Some.line.now c.lines.lines c.next.new.self c.lines.world c.lines.so_far _ c.finish.result
          c.lines.invariant.same c.in-Some.ensures.line c.if-says_finished.ensures c.finish.ensures;
    }

pub let_rows_go-requires : goal.let_rows_go-requires
let_rows_go-requires g c =
    made-within (g.X.Expand.tree c.args.x.now) c.lines.world c.take_event.new.world c.in-Some.line.now c.in-Ok.w c.in-Ok.ensures.worker

pub returns-in-Err : goal.returns-in-Err
returns-in-Err g c =
    record {
      exact = left_fault (g.X.Expand.tree c.args.x.now) c.in-Some.line.now c.lines.lines c.next.new.self c.lines.world c.lines.so_far _ _ c.in-Err.why
          c.lines.invariant.same c.in-Some.ensures.line c.if-says_finished.ensures refl c.in-Err.ensures.fault;
    }

pub lines-preserved : goal.lines-preserved
lines-preserved g c =
    let tree = g.X.Expand.tree c.args.x.now in
    let whole = replayed tree (lines c.args.text.now) c.args.world.now (begun c.args.world.now) in
    let size : length c.lines.lines ≡ length c.next.new.self + 1 = ap length c.in-Some.ensures.line ∙ sym (add-one (length c.next.new.self)) in
    let gauge = c.in-Ok.ensures.counted in
    let counted = c.with_event-so_far.ensures ∙ ap (with_event c.lines.so_far) gauge in
    let alike = let_go-alike c.take_event.new.world c.let_rows_go.new.world c.in-Ok.w c.let_rows_go.ensures in
    let made = left_event tree c.in-Some.line.now c.lines.lines c.next.new.self c.lines.world c.take_event.new.world c.lines.so_far c.with_event-so_far.result whole
    c.lines.invariant.same c.in-Some.ensures.line c.if-says_finished.ensures c.in-Ok.ensures.made counted in
    record {
      fits = subst (λ (w : World). Fits tree w.shared) (sym c.let_rows_go.ensures) c.take_event.ensures.fits;
      rowless = let_go-rowless tree c.lines.world c.take_event.new.world c.let_rows_go.new.world c.in-Some.line.now c.in-Ok.w
          c.lines.invariant.rowless c.in-Ok.ensures.worker c.let_rows_go.ensures;
      same = left-alike tree c.next.new.self c.take_event.new.world c.let_rows_go.new.world c.with_event-so_far.result whole alike made;
      counted = counted-alike _ c.take_event.new.world c.let_rows_go.new.world alike gauge;
      few = omega (arith, size, c.lines.invariant.few, ap (λ told. told.events) c.with_event-so_far.ensures);
    }

pub returns : goal.returns
returns g c =
    let tree = g.X.Expand.tree c.args.x.now in
    let whole = replayed tree (lines c.args.text.now) c.args.world.now (begun c.args.world.now) in
    record { exact = left_over tree c.lines.lines c.lines.world c.lines.so_far whole c.lines.invariant.same c.in_default.ensures.line }
