-- What a world weighs, and the rows that it still owes.
use Rattle.std.specs.Prelude.{ℕ, ◌+◌, ◌-◌, zero, suc, List, ◌∷◌}
use Rattle.match_context.specs.declared.context.Context.{Context}
use Rattle.match_context.specs.declared.message.Message.{Message}
use Rattle.match_context.specs.Bags.{total}
use Rattle.match_context.specs.Tree.{Tree}
use Rattle.match_context.specs.Weight.{Scale, rows_scale}
use Rattle.fabric.specs.Shared.{Shared, cursor_at, roots_at}
use Rattle.dfs_worker.specs.Weight.{weight_message, weight_roots, weight_worker}
use Rattle.world_core.specs.World.{World}

abbrev pub weight_inbox : Scale → Tree → List Message → ℕ
weight_inbox scale tree messages = total (λ message. scale.sent + weight_message scale tree message) messages

-- the roots of a machine that aren't claimed
abbrev pub weight_unclaimed : Scale → Tree → Shared → ℕ → ℕ
weight_unclaimed scale tree s machine = weight_roots scale tree machine (roots_at s machine - cursor_at s machine) (cursor_at s machine)

abbrev pub total_below : ℕ → (ℕ → ℕ) → ℕ
total_below zero number = 0
total_below (suc n) number = total_below n number + number n

abbrev pub weight_world : Scale → Tree → World → ℕ
weight_world scale tree w =
    total (weight_worker scale tree) w.workers
    + (total (weight_inbox scale tree) w.shared.inboxes + total_below w.shared.shape.machines (weight_unclaimed scale tree w.shared))

-- The rows that a world owes, as a bag: a number of each, added up over all rows, and over the leaves still ahead of
-- every frame, child, open buffer, message and unclaimed root.
abbrev pub owed : (Context → ℕ) → Tree → World → ℕ
owed row tree w = weight_world (rows_scale row) tree w
