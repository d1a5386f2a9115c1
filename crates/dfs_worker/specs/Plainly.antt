-- What a turn is over plain tables, which tell their state: the first of its tries that is enabled.
use Rattle.std.specs.Prelude.{◌≡◌, ℕ, ◌<◌, ◌⊎◌, true, List, [], ◌∷◌, Option, Some, None}
use Rattle.adfs_base.specs.declared.step_answers.Word.{Word}
use Rattle.fabric.specs.Account.{Call, Given}
use Rattle.fabric.specs.Plain.{outcome, PlainDone, PlainExcused}
use Rattle.fabric.specs.Shared.{Shared, word_at}
use Rattle.match_context.specs.Tree.{Tree}
use Rattle.stage_termination.specs.Marks.{next_word_of, is_ready}
use Rattle.dfs_worker.specs.declared.event.Event.TheVariants as event
use Rattle.dfs_worker.specs.declared.turn.Turn.{Turn}
use Rattle.dfs_worker.specs.declared.turn.Turn.TheVariants.{Idle}
use Rattle.dfs_worker.specs.Guards.{own_guard}
use Rattle.dfs_worker.specs.Own.{moved}
use Rattle.dfs_worker.specs.Sound.{IsWorker}
use Rattle.dfs_worker.specs.State.{State}
use Rattle.dfs_worker.specs.Turn.{Try, Step, PostOther, Start, NextMark, NextClose, call_of, is_postable, EndsTurn, IsTurn, IsMoved}

-- the call is ready, where there is one
abbrev pub IsCallReady : Shared → ℕ → Option Call → Type 0
IsCallReady s w None = Unit {0}
IsCallReady s w (Some call) = (answer : Given × Shared) × (outcome s w call ≡ Some answer)

abbrev pub IsWordZero : Shared → Option Word → Type 0
IsWordZero s None = ⊥
IsWordZero s (Some word) = word_at s word ≡ 0

pub record IsPlacePostable (v : State) (stage to : ℕ) : Type 0 where
  pub some_stage : 0 < stage
  pub stage_in : stage < v.shape.stages
  pub to_in : to < v.shape.machines
  pub postable : is_postable v stage to ≡ true

-- The worker's own guards hold, and what it calls for is there. A start is enabled by its own guards alone, since where no root
-- is left the worker may end its claims.
abbrev pub IsEnabled : State → Shared → Try → Type 0
IsEnabled v s (Step e) = (own_guard e v ≡ None) × IsCallReady s v.number (call_of e v)
IsEnabled v s PostOther = (stage : ℕ) × ((to : ℕ) × IsPlacePostable v stage to)
IsEnabled v s Start = own_guard (event.Claim v.number) v ≡ None
IsEnabled v s NextMark = IsWordZero s (next_word_of (moved s.closed v).marks)
IsEnabled v s NextClose = is_ready (moved s.closed v).marks ≡ true

-- The first enabled one ends the turn, on a worker that has changed in its marks at most; it is idle where none is enabled.
abbrev pub TakesFirst : Tree → State → Shared → List Try → Turn → State → Shared → Type 0
TakesFirst tree v s [] turn v' s' = (turn ≡ Idle) × IsMoved v v' × (s' ≡ s)
TakesFirst tree v s (tried ∷ tries) turn v' s' =
    (IsEnabled v s tried × ((u : State) × (IsMoved v u × EndsTurn PlainDone PlainExcused tree u s tried turn v' s')))
    ⊎ ((IsEnabled v s tried → ⊥) × TakesFirst tree v s tries turn v' s')

abbrev pub PlainTurnsTakeTheFirst : Type 0
PlainTurnsTakeTheFirst =
    (tree : Tree) (v v' : State) (s s' : Shared) (tries : List Try) (turn : Turn) → IsWorker v →
    IsTurn PlainDone PlainExcused tree v s tries turn v' s' → TakesFirst tree v s tries turn v' s'
