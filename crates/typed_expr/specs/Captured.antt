-- What the captures of a query keep to.
use Rattle.std.specs.Prelude.{◌≡◌, Bool, true, false, List, Option, Some, None}
use Rattle.std.specs.List.{AllByRecursion, slice_get}
use Rattle.std.specs.Option.{option_map}
use Rattle.graph_tables.specs.Properties.{Property, SchemaLists}
use Rattle.typed_query.specs.declared.query.Capture.{Capture}
use Rattle.typed_query.specs.declared.query.Query.{Query}
use Rattle.typed_query.specs.declared.query.What.{What}
use Rattle.typed_query.specs.declared.query.What.TheVariants as what
use Rattle.typed_query.specs.WellFormed.{are_edges}

-- the properties of vertices or of edges
abbrev pub properties_for : SchemaLists → Bool → List Property
properties_for schema false = schema.vertex
properties_for schema true = schema.edge

-- a property that is captured of a vertex or an edge is one of the schema's, and of the kind that it has there
abbrev pub KeepsKind : SchemaLists → What → Option Bool → Type 0
KeepsKind schema (what.Property number kind) (Some edge) = option_map (λ p. p.type) (slice_get (properties_for schema edge) number) ≡ Some kind
KeepsKind schema what.Id (Some edge) = Unit {0}
KeepsKind schema what.Label (Some edge) = Unit {0}
KeepsKind schema used None = ⊥

-- where this tells of each variable whether it is an edge
abbrev pub HasItsKind : SchemaLists → List Bool → Capture → Type 0
HasItsKind schema edges capture = KeepsKind schema capture.what (slice_get edges capture.variable)

-- Each capture of the query names a variable, and a captured property has the schema's kind.
abbrev pub HaveKinds : SchemaLists → Query → Type 0
HaveKinds schema query = AllByRecursion (HasItsKind schema (are_edges query)) query.captures
