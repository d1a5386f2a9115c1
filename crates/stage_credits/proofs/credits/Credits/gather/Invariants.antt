use Rattle.std.proofs.Common.{◌≡◌, ℕ, ◌+◌, ◌<◌, length}
use Rattle.std.specs.List.{All}
use Rattle.stage_credits.specs.Rule.{covers}
use Rattle.stage_credits.specs.Seats.{Seated, claims}
use Rattle.stage_credits.proofs.credits.Credits.gather.Given as goal

abbrev pub invariant-loop-other : goal.invariant-loop-other
invariant-loop-other l = record {
  table : l.seat.table_id ≡ l.self.table;
  some_one : 0 < length l.seat.me.0.workers;
  count : length l.seat.me.0.workers + length l.seats.items ≡ length l.fn.seats.items;
  of : All (λ (s : Seated). s.table ≡ l.self.table) l.seats.items;
  chunks : (m place : ℕ) → covers m place l.seat.me.0.chunks + claims m place l.seats.items ≡ claims m place l.fn.seats.items;
}

abbrev pub decreases-loop-other : goal.decreases-loop-other
decreases-loop-other l = length l.seats.items
