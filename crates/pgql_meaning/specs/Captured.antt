-- What an assignment captures of a graph: the values that a query's expressions use.
use Rattle.std.specs.Prelude.{ℕ, List, map, Option, slice_get, if◌then◌else◌}
use Rattle.std.specs.Option.{option_map_or, option_and_then}
use Rattle.adfs_base.specs.declared.value.Value.{Value}
use Rattle.adfs_base.specs.declared.value.Value.TheVariants as value
use Rattle.element_store.specs.Columns.{value_of}
use Rattle.element_store.specs.Elements.{Element}
use Rattle.graph_tables.specs.Graph.{PropertyGraph, without_ends}
use Rattle.typed_query.specs.declared.query.Capture.{Capture}
use Rattle.typed_query.specs.declared.query.Query.{Query}
use Rattle.typed_query.specs.declared.query.Variable.{Variable}
use Rattle.typed_query.specs.declared.query.What.{What}
use Rattle.typed_query.specs.declared.query.What.TheVariants as what

-- the number of the element for which the variable of this number stands; none where the assignment ends before it
abbrev pub number_of : List ℕ → ℕ → Option ℕ
number_of assignment variable = slice_get assignment variable

-- the vertex or edge of this number
abbrev pub element_at : PropertyGraph → Variable → ℕ → Option Element
element_at graph variable number = if variable.edge then slice_get (without_ends graph.edges) number else slice_get graph.vertices number

-- the element for which the variable of this number stands
abbrev pub element_of : PropertyGraph → Query → List ℕ → ℕ → Option Element
element_of graph query assignment variable =
    option_and_then (λ x. option_and_then (element_at graph x) (number_of assignment variable)) (slice_get query.variables variable)

-- x.p, id(x) or label(x) of an element
abbrev pub use_of : What → Element → Value
use_of (what.Property property kind) element = value_of element.values property
use_of what.Id element = value.Int element.key
use_of what.Label element = value.Text element.label

abbrev pub captured_value : PropertyGraph → Query → List ℕ → Capture → Value
captured_value graph query assignment capture = option_map_or (use_of capture.what) (element_of graph query assignment capture.variable) value.Null

-- the values of all captures
abbrev pub captured : PropertyGraph → Query → List ℕ → List Value
captured graph query assignment = map (captured_value graph query assignment) query.captures
