use Rattle.std.proofs.Common.{ℕ, List, subst, sym}
use Rattle.stage_credits.specs.Start.{StartWords}
use Rattle.stage_credits.proofs.Beginning.{begins}
use Rattle.stage_credits.proofs.credits.Credits.open.Goals as goal

pub of_words-requires : goal.of_words-requires
of_words-requires c =
    let setup = c.new-setup.result in
    begins setup c.as_slice.result.now c.new-setup.ensures.sound (subst (λ (ws : List ℕ). StartWords setup ws) (sym c.as_slice.ensures.value) c.in_ok-words.ensures)
