-- What a context of a stage leads to on a machine.
use Rattle.std.specs.Prelude.{ℕ, ◌+◌, ◌==◌, ◌&&◌, not, Bool, false, List, [], ◌∷◌, drop, filter, length, map, nat_eq, nat_lt, position, slice_get, slice_index, Option, Some, None, if◌then◌else◌}
use Rattle.std.specs.List.{list_all}
use Rattle.std.specs.Option.{option_and_then, option_map_or}
use Rattle.element_store.specs.Elements.{Element}
use Rattle.match_context.specs.Tree.{Below, Item, Leaf, Pass}
use Rattle.partition.specs.Parts.{Entry, MachinePart, lists_of}
use Rattle.pgql_meaning.specs.Fits.{has_labels}
use Rattle.typed_expr.specs.Val.{passes, val}
use Rattle.typed_expr.specs.declared.query.Query.{Query}
use Rattle.stage_plan.specs.Walk.{conjunct_at}
use Rattle.stage_plan.specs.declared.hop.Hop.{Hop}
use Rattle.stage_plan.specs.declared.hop.Hop.TheVariants as hop
use Rattle.stage_plan.specs.declared.stage.Gains.{Gains}
use Rattle.stage_plan.specs.declared.stage.Stage.{Stage}
use Rattle.plan_tree.specs.Told.{all_told, values, with_number, written}

-- the place of a vertex of the graph among those of a part
abbrev pub place_in : MachinePart → ℕ → Option ℕ
place_in part number = if nat_lt number (length part.owners) then position (nat_eq number) part.numbers else None

-- the vertex of this number, if the part has it
abbrev pub vertex_in : MachinePart → ℕ → Option Element
vertex_in part number = option_and_then (slice_get part.vertices) (place_in part number)

-- the entries at that vertex, in one direction
abbrev pub entries_in : Bool → MachinePart → ℕ → List Entry
entries_in out part number = option_map_or (λ entries. entries) (option_and_then (slice_get (lists_of out part)) (place_in part number)) []

-- an entry's edge
abbrev pub edge_in : Entry → Element
edge_in entry = record { key = entry.key; label = entry.label; values = entry.values }

-- the label lists of a variable
abbrev pub labels_of : Query → ℕ → List (List (List ℕ))
labels_of query variable = option_map_or (λ found. found.labels) (slice_get query.variables variable) []

-- the conjunct of this number is true of what the words say
abbrev pub holds : List (List ℕ) → Query → List ℕ → ℕ → Bool
holds texts query words number = passes (val texts (values query words) (conjunct_at query number))

abbrev pub all_hold : List (List ℕ) → Query → List ℕ → List ℕ → Bool
all_hold texts query words numbers = list_all (holds texts query words) numbers

-- the words, where what is tested then holds of them
abbrev pub tested : List (List ℕ) → Query → Gains → List ℕ → Option (List ℕ)
tested texts query gains words =
    if all_told texts query words gains.reads && all_hold texts query words gains.conjuncts then Some words else None

abbrev pub arrived_at : List (List ℕ) → Query → Gains → ℕ → List ℕ → Option Element → Option (List ℕ)
arrived_at texts query gains variable words None = None
arrived_at texts query gains variable words (Some vertex) =
    if has_labels texts (labels_of query variable) vertex then tested texts query gains (written query vertex gains.captures words) else None

-- the words of a context that has arrived at a stage; none where its vertex doesn't fit
abbrev pub arrived_by : List (List ℕ) → Query → MachinePart → Gains → List ℕ → Option ℕ → Option (List ℕ)
arrived_by texts query part gains words None = tested texts query gains words
arrived_by texts query part gains words (Some variable) = arrived_at texts query gains variable words (vertex_in part (slice_index words (1 + variable)))

abbrev pub arrived : List (List ℕ) → Query → MachinePart → Stage → List ℕ → Option (List ℕ)
arrived texts query part stage words = arrived_by texts query part stage.arrival words stage.arriving

-- the words along an edge, where it fits
abbrev pub along : List (List ℕ) → Query → Gains → ℕ → Element → List ℕ → Option (List ℕ)
along texts query gains edge element words =
    if has_labels texts (labels_of query edge) element && all_hold texts query (written query element gains.captures words) gains.conjuncts
    then Some (written query element gains.captures words) else None

abbrev pub child_or_pass : Option (List ℕ) → ℕ → Item
child_or_pass None machine = Pass
child_or_pass (Some words) machine = Below (record { words = words }) machine

-- along an entry to a new vertex
abbrev pub to_neighbour : List (List ℕ) → Query → Gains → ℕ → ℕ → List ℕ → Entry → Item
to_neighbour texts query gains edge to words entry =
    child_or_pass (along texts query gains edge (edge_in entry) (with_number to entry.other (with_number edge entry.edge words))) entry.machine

-- along an entry that leads to a vertex which is bound
abbrev pub to_bound : List (List ℕ) → Query → Gains → ℕ → ℕ → List ℕ → Entry → Item
to_bound texts query gains edge to words entry =
    if entry.other == slice_index words (1 + to)
    then child_or_pass (along texts query gains edge (edge_in entry) (with_number edge entry.edge words)) entry.machine else Pass

-- the capture of this place is one of the variable
abbrev pub is_of : Query → ℕ → ℕ → Bool
is_of query variable place = option_map_or (λ capture. capture.variable == variable) (slice_get query.captures place) false

-- the captures that are read of the context and not of the edge
abbrev pub others : Query → ℕ → List ℕ → List ℕ
others query edge reads = filter (λ place. not (is_of query edge place)) reads

abbrev pub is_vertex : MachinePart → ℕ → Bool
is_vertex part number = nat_lt number (length part.owners)

-- what a hop leads to, once one has arrived
abbrev pub hop_items : List (List ℕ) → Query → MachinePart → Stage → List ℕ → Hop → List Item
hop_items texts query part stage words (hop.Root variable) = []
hop_items texts query part stage words (hop.Neighbour out edge to) =
    if all_told texts query words (others query edge stage.passage.reads)
    then map (to_neighbour texts query stage.passage edge to words) (entries_in out part (slice_index words (1 + stage.current))) else []
hop_items texts query part stage words (hop.Edge out edge to) =
    if is_vertex part (slice_index words (1 + to)) && all_told texts query words (others query edge stage.passage.reads)
    then map (to_bound texts query stage.passage edge to words) (entries_in out part (slice_index words (1 + stage.current))) else []
hop_items texts query part stage words (hop.Inspect variable) =
    if is_vertex part (slice_index words (1 + variable))
    then Below (record { words = words }) (slice_index part.owners (slice_index words (1 + variable))) ∷ [] else []
hop_items texts query part stage words hop.Output = Leaf (record { words = words }) ∷ []

abbrev pub items_of : List (List ℕ) → Query → MachinePart → Stage → List ℕ → List Item
items_of texts query part stage words = hop_items texts query part stage words stage.hop

abbrev pub items_after : (List ℕ → List Item) → Option (List ℕ) → List Item
items_after items None = []
items_after items (Some words) = items words

-- what is ahead of a context at a place: at place 0 it has still to arrive
abbrev pub ahead : List (List ℕ) → Query → MachinePart → Stage → List ℕ → ℕ → List Item
ahead texts query part stage words place =
    if place == 0 then items_after (items_of texts query part stage) (arrived texts query part stage words)
    else drop place (items_of texts query part stage words)

abbrev pub words_or : List ℕ → Option (List ℕ) → List ℕ
words_or words None = words
words_or words (Some others) = others

abbrev pub if_any : {X : Type 0} → List Item → X → X → X
if_any [] none some = none
if_any (item ∷ items) none some = some

-- the words that the answer at a place leaves, and the place
abbrev pub words_after : List (List ℕ) → Query → MachinePart → Stage → List ℕ → ℕ → List ℕ
words_after texts query part stage words place =
    if_any (ahead texts query part stage words place) words (if place == 0 then words_or words (arrived texts query part stage words) else words)

abbrev pub place_after : List (List ℕ) → Query → MachinePart → Stage → List ℕ → ℕ → ℕ
place_after texts query part stage words place = if_any (ahead texts query part stage words place) place (place + 1)
