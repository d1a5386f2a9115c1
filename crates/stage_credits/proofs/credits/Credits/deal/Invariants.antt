use Rattle.std.proofs.Common.{◌≡◌, ◌-◌, ◌*◌, [], map}
use Rattle.std.specs.List.{range_with_len}
use Rattle.stage_credits.specs.Start.{fresh_view, machines_of_workers}
use Rattle.stage_credits.specs.Seats.{fresh_seat}
use Rattle.stage_credits.proofs.credits.Credits.deal.Given as goal

abbrev pub invariant-loop-worker : goal.invariant-loop-worker
invariant-loop-worker l = record {
  table : l.first.table_id ≡ l.self.table;
  me : l.first.me ≡ (fresh_view l.self.setup (machines_of_workers l.self.setup.shape.workers l.worker (l.self.setup.shape.machines * l.self.setup.shape.workers - l.worker)), []);
  seats : l.seats.items ≡ map (fresh_seat l.self) (range_with_len 0 l.worker);
}
