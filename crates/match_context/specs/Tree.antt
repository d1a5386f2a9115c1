-- The staged tree, as contracts see it.
use Rattle.std.specs.Prelude.{◌≡◌, ℕ, ◌+◌, ◌<◌, List, [], ◌∷◌}
use Rattle.match_context.specs.declared.context.Context.{Context}
use Rattle.match_context.specs.declared.frame.Frame.{Frame}
use Rattle.match_context.specs.declared.expand.Next.{Next}
use Rattle.match_context.specs.declared.expand.Next.TheVariants.{Child, Row, Skip, End}

-- an answer that is still ahead: a child and its machine, a row, or nothing
pub data Item : Type 0 where
  Below : (context : Context) → (machine : ℕ) → Item
  Leaf : (context : Context) → Item
  Pass : Item

pub record Tree : Type 0 where
  pub stages : ℕ
  pub machines : ℕ
  -- how many roots a machine has, and which
  pub roots : ℕ → ℕ
  pub root : ℕ → ℕ → Context
  -- by machine, stage, context and place: the answers that `next` has still to give, and the context and the
  -- place that it leaves
  pub ahead : ℕ → ℕ → Context → ℕ → List Item
  pub context_after : ℕ → ℕ → Context → ℕ → Context
  pub place_after : ℕ → ℕ → Context → ℕ → ℕ

-- what `next` answers when these are ahead, and what is ahead then
abbrev pub answer : List Item → Next
answer [] = End
answer (Below context machine ∷ items) = Child context machine
answer (Leaf context ∷ items) = Row context
answer (Pass ∷ items) = Skip

abbrev pub later : List Item → List Item
later [] = []
later (item ∷ items) = items

-- the frame that `next` leaves on a machine
abbrev pub after : Tree → ℕ → Frame → Frame
after tree machine frame =
    record frame {
      context = tree.context_after machine frame.stage frame.context frame.place;
      place = tree.place_after machine frame.stage frame.context frame.place;
    }

-- A child has the following stage and a machine that exists, and a row comes at the last stage alone.
abbrev pub IsItem : Tree → ℕ → Item → Type 0
IsItem tree stage (Below context machine) = (stage + 1 < tree.stages) × (machine < tree.machines)
IsItem tree stage (Leaf context) = stage + 1 ≡ tree.stages
IsItem tree stage Pass = Unit {0}

abbrev pub AreItems : Tree → ℕ → List Item → Type 0
AreItems tree stage [] = Unit {0}
AreItems tree stage (item ∷ items) = IsItem tree stage item × AreItems tree stage items

pub record IsTree (tree : Tree) : Type 0 where
  pub items : (machine stage : ℕ) (context : Context) (place : ℕ) → AreItems tree stage (tree.ahead machine stage context place)
  pub rest : (machine stage : ℕ) (context : Context) (place : ℕ) →
      tree.ahead machine stage (tree.context_after machine stage context place) (tree.place_after machine stage context place)
      ≡ later (tree.ahead machine stage context place)
