-- A buffer as callers see it.
use Rattle.std.specs.Prelude.{ℕ, List}
use Rattle.match_context.specs.declared.context.Context.{Context}

-- the machine that it belongs to, how many contexts it has room for, and those that it holds
pub record Batch : Type 0 where
  pub home : ℕ
  pub size : ℕ
  pub items : List Context
