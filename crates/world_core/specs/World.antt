-- The whole state of a run.
use Rattle.std.specs.Prelude.{◌≡◌, ℕ, ◌*◌, ◌/◌, ◌<◌, List, [], ◌∷◌, ◌++◌, zero, suc, slice_index}
use Rattle.adfs_base.specs.Shape.{Extents}
use Rattle.match_context.specs.Tree.{Tree}
use Rattle.fabric.specs.Shared.{Shared, start}
use Rattle.dfs_worker.specs.State.{State, fresh}

-- the workers in the order of their numbers, and what they share
pub record World : Type 0 where
  pub workers : List State
  pub shared : Shared

abbrev pub world_of : List State → Shared → World
world_of workers shared = record { workers = workers; shared = shared }

-- The tree has the world's stages, machines and numbers of roots.
pub record Fits (tree : Tree) (s : Shared) : Type 0 where
  pub stages : s.shape.stages ≡ tree.stages
  pub machines : s.shape.machines ≡ tree.machines
  pub same_roots : (machine : ℕ) → machine < s.shape.machines → slice_index s.roots machine ≡ tree.roots machine

-- the numbers of roots of the first so many machines
abbrev pub roots_of : Tree → ℕ → List ℕ
roots_of tree zero = []
roots_of tree (suc machine) = roots_of tree machine ++ tree.roots machine ∷ []

-- the first so many workers at the start
abbrev pub fresh_workers : Extents → ℕ → List State
fresh_workers shape zero = []
fresh_workers shape (suc number) = fresh_workers shape number ++ fresh shape number (number / shape.workers) ∷ []

-- the start of a run: all workers are enrolled, all pools full, and all else is 0 or empty
abbrev pub start_world : Extents → Tree → World
start_world shape tree =
    record { workers = fresh_workers shape (shape.machines * shape.workers); shared = start shape (roots_of tree shape.machines) }
