use Rattle.std.proofs.Common.{◌≡◌, ◌+◌, take}
use Rattle.match_context.specs.Bags.{total}
use Rattle.world_core.specs.Gauge.{in_frame, at_frame, one_buffer, its_contexts}
use Rattle.world_core.proofs.gauge.with_frames.Given as goal

abbrev pub invariant-loop-frame : goal.invariant-loop-frame
invariant-loop-frame l = record {
  buffers : l.gauge.buffers ≡ l.fn.gauge.buffers + total (in_frame one_buffer) (take l.frame-index l.frames);
  contexts : l.gauge.contexts ≡ l.fn.gauge.contexts + (total (in_frame its_contexts) (take l.frame-index l.frames) + total at_frame (take l.frame-index l.frames));
}
