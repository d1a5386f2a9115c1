-- Where elements stand in a part.
use Rattle.std.specs.Prelude.{◌≡◌, ℕ, pos, Bool, [], length, slice_get, Option, unwrap_or}
use Rattle.std.specs.List.{AllByRecursion}
use Rattle.std.specs.List.Sorted.{IsNonDecreasingBy}
use Rattle.std.specs.Option.{option_map}
use Rattle.element_store.specs.Elements.{Element}
use Rattle.partition.specs.Parts.{Entry, MachinePart, entry_at}
use Rattle.plan_tree.specs.Answers.{edge_in}
use Rattle.hop_kernels.specs.declared.spot.Spot.{Spot}
use Rattle.hop_kernels.specs.declared.spot.Spot.TheVariants as spot

-- the element of a spot
abbrev pub element_at : MachinePart → Spot → Option Element
element_at part (spot.Vertex place) = slice_get part.vertices place
element_at part (spot.Edge place out number) = option_map edge_in (entry_at out part place number)

-- an element and an entry that stand for none
abbrev pub no_element : Element
no_element = record { key = pos 0; label = 0; values = [] }

abbrev pub no_entry : Entry
no_entry = record { edge = 0; key = pos 0; other = 0; machine = 0; label = 0; values = [] }

-- the element of a spot that is there
abbrev pub element_in : MachinePart → Spot → Element
element_in part at = unwrap_or (element_at part at) no_element

-- the entry of a list that is there
abbrev pub entry_in : Bool → MachinePart → ℕ → ℕ → Entry
entry_in out part place number = unwrap_or (entry_at out part place number) no_entry

-- Each vertex of the part has its number.
abbrev pub AreNumbered : MachinePart → Type 0
AreNumbered part = length part.numbers ≡ length part.vertices

-- The entries of each of its lists stand in the order of their other ends.
abbrev pub AreRising : MachinePart → Type 0
AreRising part =
    AllByRecursion (IsNonDecreasingBy (λ (e : Entry). e.other)) part.outgoing
    × AllByRecursion (IsNonDecreasingBy (λ (e : Entry). e.other)) part.incoming
