use Rattle.std.proofs.Common.{◌≡◌, ◌≤◌, ℕ, ◌<◌, length, get_or}
use Rattle.std.specs.Slots.{slots_items}
use Rattle.stage_credits.specs.Layout.{cursor_of}
use Rattle.stage_credits.proofs.credits.Credits.read_out.Given as goal

abbrev pub invariant-loop-machine : goal.invariant-loop-machine
invariant-loop-machine l = record {
  room : length l.cursors ≡ 8;
  read : (m : ℕ) → m < l.machine → get_or l.cursors m 0 ≡ get_or (slots_items l.closed.words) (cursor_of l.setup m) 0;
  past : (m : ℕ) → l.machine ≤ m → get_or l.cursors m 0 ≡ 0;
}
