-- Places of a frame that are taken in one go.
use Rattle.std.specs.Prelude.{◌≡◌, ℕ, ◌+◌, ◌<◌, ◌≤◌, ◌==◌, ◌&&◌, Bool, false, true, List, drop, slice_get, slice_index, Option, Some, None, if◌then◌else◌}
use Rattle.match_context.specs.Passes.{found_of, with_child}
use Rattle.match_context.specs.Tree.{Item, answer}
use Rattle.match_context.specs.declared.expand.Found.{Found}
use Rattle.match_context.specs.declared.expand.Found.TheVariants as found
use Rattle.match_context.specs.declared.expand.Next.{Next}
use Rattle.match_context.specs.declared.expand.Next.TheVariants.{Child, Skip, End}
use Rattle.match_context.specs.declared.frame.Frame.{Frame}
use Rattle.partition.specs.Parts.{Entry, MachinePart}
use Rattle.pgql_meaning.specs.Fits.{has_labels}
use Rattle.typed_expr.specs.declared.query.Query.{Query}
use Rattle.stage_plan.specs.Walk.{captures_of}
use Rattle.stage_plan.specs.declared.stage.Gains.{Gains}
use Rattle.stage_plan.specs.declared.stage.Stage.{Stage}
use Rattle.plan_tree.specs.Answers.{all_hold, edge_in, entries_in, items_of, labels_of}
use Rattle.plan_tree.specs.Told.{with_number, written}
use Rattle.hop_kernels.specs.Entries.{after_answer}
use Rattle.hop_kernels.specs.Looks.{with_end}

-- the other end is the one that is bound, if one is
abbrev pub ends_at : Option ℕ → ℕ → Bool
ends_at None other = true
ends_at (Some end) other = other == end

-- a child comes of an entry: it ends where it must, and its edge fits
abbrev pub leads : List (List ℕ) → Query → Gains → ℕ → Option ℕ → List ℕ → Entry → Bool
leads texts query gains edge end words entry =
    ends_at end entry.other
    && (has_labels texts (labels_of query edge) (edge_in entry) && all_hold texts query (written query (edge_in entry) (captures_of query edge) words) gains.conjuncts)

-- the words of that child
abbrev pub child_words : Query → Gains → ℕ → Option ℕ → List ℕ → Entry → List ℕ
child_words query gains edge to words entry =
    written query (edge_in entry) gains.captures (with_end to entry.other (with_number edge entry.edge words))

-- what `next` answers at an entry, if there is one
abbrev pub answer_by : List (List ℕ) → Query → Gains → ℕ → Option ℕ → Option ℕ → List ℕ → Option Entry → Next
answer_by texts query gains edge to end words None = End
answer_by texts query gains edge to end words (Some entry) =
    if leads texts query gains edge end words entry then Child (record { words = child_words query gains edge to words entry }) entry.machine else Skip

-- Each place is an entry of the current vertex's list, and what comes of it is said by that entry.
abbrev pub GoesAlong : List (List ℕ) → Query → MachinePart → Stage → Bool → ℕ → Option ℕ → Option ℕ → List ℕ → Type 0
GoesAlong texts query part stage out edge to end words = (number : ℕ)
    → answer (drop number (items_of texts query part stage words))
    ≡ answer_by texts query stage.passage edge to end words (slice_get (entries_in out part (slice_index words (1 + stage.current))) number)

-- Nothing came of so many places of a frame whose context has these items, and this of the next, which leaves the new frame.
pub record IsSought (items : List Item) (old : Frame) (passed : ℕ) (what : Found) (new : Frame) : Type 0 where
  pub passed_over : (i : ℕ) → old.place ≤ i → i < old.place + passed → answer (drop i items) ≡ Skip
  pub found_is : what ≡ found_of (answer (drop (old.place + passed) items))
  pub leaves : new ≡ with_child (answer (drop (old.place + passed) items))
      (record old { place = after_answer (answer (drop (old.place + passed) items)) (old.place + passed) (old.place + passed + 1) })

abbrev pub is_end : Found → Bool
is_end found.Child = false
is_end found.Row = false
is_end found.Skip = false
is_end found.End = true

-- the context at the end, where nothing was passed over before it
abbrev pub kept_context : Frame → ℕ → Found → Frame → Frame
kept_context old passed what new = if passed == 0 && is_end what then record new { context = old.context } else new

-- The same of a frame at its first place, with the words with which its context arrives, if it does.
abbrev pub IsFirstSought : List (List ℕ) → Query → MachinePart → Stage → Frame → ℕ → Found → Frame → Option (List ℕ) → Type 0
IsFirstSought texts query part stage old passed what new None = (passed ≡ 0) × (what ≡ found.End) × (new ≡ old)
IsFirstSought texts query part stage old passed what new (Some words) = (left : Frame)
    × IsSought (items_of texts query part stage words) (record old { context = record { words = words } }) passed what left
    × (new ≡ kept_context old passed what left)
