-- One draw after another.
use Rattle.std.proofs.Common.{◌≡◌, ◌∙◌, ap, sym, refl, ℕ, ◌+◌, add-one}
use Rattle.seeded_draws.specs.Draws.{draw, next_state, nth_draw, state_after}

-- one more draw moves the state on
pub state_after-more : (seed n : ℕ) → state_after seed (n + 1) ≡ next_state (state_after seed n)
state_after-more seed n = rw add-one refl

-- the nth draw is that of the state after n others
pub nth_draw-next : (seed n : ℕ) → nth_draw seed n ≡ draw (next_state (state_after seed n))
unfolding nth_draw
nth_draw-next seed n = refl

-- where n numbers have been drawn, the next is the nth
pub drawn-at : (seed n state drawn : ℕ) → state ≡ state_after seed n → drawn ≡ draw (next_state state) → drawn ≡ nth_draw seed n
drawn-at seed n state drawn at is_drawn = is_drawn ∙ ap (λ s. draw (next_state s)) at ∙ sym (nth_draw-next seed n)

-- and one more has been drawn then
pub moved-on : (seed n state after : ℕ) → state ≡ state_after seed n → after ≡ next_state state → after ≡ state_after seed (n + 1)
moved-on seed n state after at moves = moves ∙ ap next_state at ∙ sym (state_after-more seed n)
