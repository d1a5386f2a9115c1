use Rattle.std.proofs.Common.{◌≡◌, ℕ, ◌<◌, length, get_or}
use Rattle.stage_credits.specs.Layout.{word_count, enrolled_of, closed_word}
use Rattle.stage_credits.proofs.opening.start_words.Given as goal

abbrev pub invariant-loop-machine : goal.invariant-loop-machine
invariant-loop-machine l = record {
  counted : length l.words.items ≡ word_count l.setup;
  workers : l.workers ≡ l.setup.shape.workers;
  before : (i : ℕ) → i < enrolled_of l.setup 0 → get_or l.words.items i 0 ≡ 0;
  enrolled : (m : ℕ) → m < l.machine → get_or l.words.items (enrolled_of l.setup m) 0 ≡ l.setup.shape.workers;
  closed : get_or l.words.items (closed_word l.setup) 0 ≡ 0;
}
