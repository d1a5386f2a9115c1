use Rattle.std.proofs.Common.{◌≡◌, ◌≤◌, take, map}
use Rattle.adfs_top.specs.Puts.{after_puts}
use Rattle.adfs_top.proofs.put.put_all.Given as goal

abbrev pub invariant-loop-text : goal.invariant-loop-text
invariant-loop-text g l = record {
  whole : (g.O.Sink.held l.out, g.O.Sink.pieces l.out) ≡ after_puts (g.O.Sink.held l.initial.out, g.O.Sink.pieces l.initial.out) (map (λ text. text.items) (take l.text-index l.texts));
  faults : g.O.Sink.faults l.initial.out ≤ g.O.Sink.faults l.out;
}
