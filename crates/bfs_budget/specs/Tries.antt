-- The attempts of a turn, in their order.
use Rattle.std.specs.Prelude.{ℕ, Bool, not, ◌&&◌, ◌==◌, if◌then◌else◌, List, [], ◌∷◌, ◌++◌, Option, Some, None}
use Rattle.bfs_budget.specs.declared.tries.Attempt.{Attempt}
use Rattle.bfs_budget.specs.declared.tries.Attempt.TheVariants as attempt
use Rattle.bfs_budget.specs.declared.tries.HandState.{HandState}

-- the attempt, where the condition holds
abbrev pub only_if : Bool → Attempt → List Attempt
only_if condition attempt = if condition then attempt ∷ [] else []

-- on an empty stack: what others sent comes before roots, and roots before closing
abbrev pub unoccupied_actions : Bool → List Attempt
unoccupied_actions enrolled =
    attempt.Pop ∷ attempt.PostOthers ∷ only_if enrolled attempt.Claim ++ only_if enrolled attempt.Retire
    ++ attempt.Mark ∷ attempt.Close ∷ []

-- on a top that waits with a child: its own buffer, then the child itself where it is of this machine, then others
abbrev pub waiting_actions : HandState → Bool → List Attempt
waiting_actions state local =
    only_if state.open_full attempt.PostOwn ++ only_if state.open_room attempt.Append
    ++ only_if (not state.open_full && not state.open_room) attempt.Charge
    ++ only_if local attempt.Descend
    ++ attempt.PostOthers ∷ attempt.Pop ∷ []

-- on a top that is not over
abbrev pub top_actions : HandState → Option (ℕ × Bool) → List Attempt
top_actions state None = attempt.Advance ∷ []
top_actions state (Some child) = waiting_actions state child.1

-- with a free hand
abbrev pub free_actions : HandState → Option ℕ → List Attempt
free_actions state None = unoccupied_actions state.enrolled
free_actions state (Some stage) = if state.over then attempt.Restore ∷ [] else top_actions state state.waiting

abbrev pub actions_of : HandState → List Attempt
actions_of state = if state.hand == 0 then free_actions state state.top else attempt.Hand ∷ []
