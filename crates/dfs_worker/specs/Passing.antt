-- Answers of a worker's top that are made in one go: some of which nothing comes, and one more.
use Rattle.std.specs.Prelude.{◌≡◌, ℕ, ◌+◌, ◌<◌, List, [], ◌∷◌, Option, None, zero, suc}
use Rattle.match_context.specs.declared.context.Context.{Context}
use Rattle.match_context.specs.declared.frame.Frame.{Frame}
use Rattle.match_context.specs.declared.expand.Next.TheVariants.{Skip}
use Rattle.match_context.specs.Tree.{Tree, after}
use Rattle.dfs_worker.specs.declared.event.Event.TheVariants as event
use Rattle.dfs_worker.specs.Guards.{own_guard}
use Rattle.dfs_worker.specs.Own.{stepped, answer_at, frames_after, rows_after, advanced}
use Rattle.dfs_worker.specs.State.{State}

-- Nothing came of so many answers of a frame, and one more leaves this of it.
abbrev pub Passed : Tree → ℕ → Frame → ℕ → Option Frame → Type 0
Passed tree machine frame zero kept = stepped tree machine (after tree machine frame) (answer_at tree machine frame) ≡ kept
Passed tree machine frame (suc passed) kept = (answer_at tree machine frame ≡ Skip) × Passed tree machine (after tree machine frame) passed kept

-- there is a top, of a stage before the last of so many
abbrev pub TopBelow : ℕ → List Frame → Type 0
TopBelow stages [] = ⊥
TopBelow stages (frame ∷ frames) = frame.stage + 1 < stages

-- Nothing came of so many answers of the top, and one more leaves these frames and rows.
abbrev pub TopPassed : Tree → ℕ → List Frame → List Context → ℕ → List Frame → List Context → Type 0
TopPassed tree machine [] rows passed frames' rows' = ⊥
TopPassed tree machine (frame ∷ frames) rows zero frames' rows' =
    (frames' ≡ frames_after tree machine (frame ∷ frames)) × (rows' ≡ rows_after tree machine rows (frame ∷ frames))
TopPassed tree machine (frame ∷ frames) rows (suc passed) frames' rows' =
    (answer_at tree machine frame ≡ Skip) × TopPassed tree machine (after tree machine frame ∷ frames) rows passed frames' rows'

-- So many advances and one more, each where its guards hold, lead from one state to the other.
abbrev pub Advances : Tree → ℕ → State → State → Type 0
Advances tree zero old new = (own_guard (event.Advance 0) old ≡ None) × (new ≡ advanced tree old)
Advances tree (suc passed) old new = (own_guard (event.Advance 0) old ≡ None) × Advances tree passed (advanced tree old) new
