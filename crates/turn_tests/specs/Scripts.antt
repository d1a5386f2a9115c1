-- A fabric that answers as it is told.
use Rattle.std.specs.Prelude.{◌≡◌, ℕ, ◌≤◌, true}
use Rattle.adfs_base.specs.Shape.{Extents}
use Rattle.fabric.specs.Account.{Holding, Call, Given}
use Rattle.fabric.specs.Fabric.{machine_in}
use Rattle.dfs_worker.specs.State.{State}
use Rattle.dfs_worker.specs.Turn.{Fits}
use Rattle.turn_tests.specs.Fans.{fan_tree}
use Rattle.turn_tests.specs.declared.fan.Fan.{Fan}

-- what contracts see of it
pub record Stand : Type 0 where
  pub shape : Extents
  pub machine : ℕ
  pub roots : ℕ
  pub closed : ℕ

pub record ScriptAgrees (s : Stand) (worker : ℕ) (x : Holding) : Type 0 where
  pub machine : machine_in s.shape worker ≡ s.machine
  pub seen : x.closed ≤ s.closed
  pub looked : x.looked ≡ true → x.closed ≡ s.closed

-- It may answer to any call what it likes.
abbrev pub ScriptDone : Stand → ℕ → Call → Given → Stand → Type 0
ScriptDone old worker call given new = Unit {0}

abbrev pub ScriptExcused : Stand → ℕ → Call → Stand → Type 0
ScriptExcused old worker call new = Unit {0}

abbrev pub script_shape : Stand → Extents
script_shape s = s.shape

abbrev pub script_roots : Stand → ℕ → ℕ
script_roots s machine = s.roots

-- the worker may take a turn
abbrev pub Plays : Fan → State → Stand → Type 0
Plays fan v s = Fits ScriptAgrees script_shape script_roots (fan_tree fan) v s
