-- What a context weighs: all answers below it, each by a scale.
use Rattle.std.specs.Prelude.{ℕ, ◌+◌, ◌-◌, List, [], ◌∷◌, zero, suc}
use Rattle.match_context.specs.declared.context.Context.{Context}
use Rattle.match_context.specs.declared.expand.Next.{Next}
use Rattle.match_context.specs.declared.expand.Next.TheVariants.{Child, Row, Skip, End}
use Rattle.match_context.specs.Tree.{Tree, Item, Below, Leaf, Pass}

-- How much each thing counts. The rows that are owed and the work that is left are both weights: for the rows
-- every number is 0 but that of a row.
pub record Scale : Type 0 where
  pub row : Context → ℕ
  pub ended : ℕ  -- the End of a context
  pub item : ℕ  -- each answer
  pub child : ℕ  -- a child that is an answer still
  pub waiting : ℕ  -- a child that waits
  pub charged : ℕ  -- a child that waits, when a credit is held for it
  pub held : ℕ  -- a later root or item, and a context in a buffer
  pub opened : ℕ  -- a buffer by where it is: open
  pub posted : ℕ  -- in the hand of its sender
  pub sent : ℕ  -- in an inbox
  pub popped : ℕ  -- in the hand of its receiver
  pub framed : ℕ  -- under a message frame
  pub emptied : ℕ  -- back in its pool, its credit still held

-- what the answers weigh, where `below machine context` is what a child weighs
abbrev pub weigh : Scale → (ℕ → Context → ℕ) → List Item → ℕ
weigh scale below [] = scale.ended
weigh scale below (Below context machine ∷ items) = scale.item + scale.child + below machine context + weigh scale below items
weigh scale below (Leaf context ∷ items) = scale.item + scale.row context + weigh scale below items
weigh scale below (Pass ∷ items) = scale.item + weigh scale below items

-- what a context weighs from place 0 on, with so many stages from its own to the last
abbrev pub weight_within : Scale → Tree → ℕ → ℕ → ℕ → Context → ℕ
weight_within scale tree zero stage machine context = 0
weight_within scale tree (suc left) stage machine context =
    weigh scale (weight_within scale tree left (stage + 1)) (tree.ahead machine stage context 0)

-- what a context of a stage weighs on a machine
unfoldable pub weight : Scale → Tree → ℕ → ℕ → Context → ℕ
weight scale tree stage machine context = weight_within scale tree (tree.stages - stage) stage machine context

-- the same from a place on
unfoldable pub weight_from : Scale → Tree → ℕ → ℕ → Context → ℕ → ℕ
weight_from scale tree stage machine context place =
    weigh scale (weight scale tree (stage + 1)) (tree.ahead machine stage context place)

-- what an answer takes out of its frame
abbrev pub weight_of : Scale → Tree → ℕ → Next → ℕ
weight_of scale tree stage (Child context machine) = scale.item + scale.child + weight scale tree (stage + 1) machine context
weight_of scale tree stage (Row context) = scale.item + scale.row context
weight_of scale tree stage Skip = scale.item
weight_of scale tree stage End = 0

-- the scale that weighs rows alone
abbrev pub rows_scale : (Context → ℕ) → Scale
rows_scale row =
    record {
      row = row;
      ended = 0;
      item = 0;
      child = 0;
      waiting = 0;
      charged = 0;
      held = 0;
      opened = 0;
      posted = 0;
      sent = 0;
      popped = 0;
      framed = 0;
      emptied = 0;
    }
