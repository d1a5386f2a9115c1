-- A function value that reads expressions that are less high than a number.
use Rattle.std.specs.Prelude.{ℕ, ◌<◌, List, Result, IfOk}
use Rattle.std.specs.declared.alloc.Global.{Global}
use denote.Ref.{MutBor}
use Rattle.pgql_lexemes.specs.Lexemes.{Lexeme}
use Rattle.pgql_expr.specs.declared.found.Found.{Found}
use Rattle.pgql_tree.specs.declared.level.Level.{Level}
use Rattle.pgql_lexemes.specs.declared.input.Stop.{Stop}
use Rattle.pgql_expr.specs.Reading.{nested}
use Rattle.pgql_lexemes.specs.Reads.{Reads}

pub record Nests (below : ℕ) (pre : Global → MutBor (List Lexeme) → ℕ → Level → Type 0)
    (post : Global → MutBor (List Lexeme) → ℕ → Level → Result Found Stop → MutBor (List Lexeme) → Type 0) : Type 0 where
  pub callable : (alloc : Global) (old : MutBor (List Lexeme)) (level : Level) → pre alloc old below level
  pub reads : (alloc : Global) (old new : MutBor (List Lexeme)) (level : Level) (r : Result Found Stop) → post alloc old below level r new
      → Reads (nested below level old.now) r new.now
  pub low : (alloc : Global) (old new : MutBor (List Lexeme)) (level : Level) (r : Result Found Stop) → post alloc old below level r new
      → IfOk r (λ x. x.height < below)
