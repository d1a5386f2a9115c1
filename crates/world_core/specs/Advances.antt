-- Answers of a worker's top that a world makes in one go.
use Rattle.std.specs.Prelude.{◌≡◌, ℕ, ◌+◌, ◌<◌, List, [], ◌∷◌, zero, suc}
use Rattle.match_context.specs.declared.context.Context.{Context}
use Rattle.match_context.specs.Tree.{Tree}
use Rattle.dfs_worker.specs.declared.event.Event.{Event}
use Rattle.dfs_worker.specs.declared.event.Event.TheVariants.{Advance}
use Rattle.world_core.specs.Owed.{owed}
use Rattle.world_core.specs.Step.{Run}
use Rattle.world_core.specs.Work.{work_left}
use Rattle.world_core.specs.World.{World}

-- so many advances of a worker, and one more
abbrev pub advances : ℕ → ℕ → List Event
advances zero w = Advance w ∷ []
advances (suc passed) w = Advance w ∷ advances passed w

-- They are a run. No row is lost by it, each leaves less work, and what is shared stays as it was.
pub record AreMade (tree : Tree) (old : World) (w passed : ℕ) (new : World) : Type 0 where
  pub run : Run tree old (advances passed w) new
  pub owes : (row : Context → ℕ) → owed row tree old ≡ owed row tree new
  pub work : work_left tree new + passed < work_left tree old
  pub shared : new.shared ≡ old.shared
