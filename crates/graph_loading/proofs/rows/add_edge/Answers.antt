use Rattle.std.proofs.Common.{◌∙◌, arith, rules, refl, w64}
use Rattle.std.specs.Int.RustNames.{FitsSigned}
use Rattle.std.proofs.lemmas.Int.{to_z-of_z}
use Rattle.element_store.proofs.ElementFacts.{length-named}
use Rattle.element_store.proofs.RowFacts.{kinds_length}
use Rattle.element_store.specs.Columns.{named}
use Rattle.element_store.specs.Elements.{Element}
use Rattle.graph_tables.specs.declared.element_kind.ElementKind.TheVariants as element
use Rattle.graph_loading.proofs.LongFacts.{new_long, values_long}
use Rattle.graph_loading.proofs.SoundFacts.{kept_length, named_long, named_valid, sound_edge}
use Rattle.std.proofs.lemmas.Result.{err_from_is_err_and}
use Rattle.graph_tables.specs.Loading.{graph_of}
use Rattle.graph_tables.proofs.TypeFacts.{named_typed}
use Rattle.graph_tables.proofs.GraphFacts.{edges_with-push, without_ends-edges_with}
use Rattle.graph_loading.proofs.RowLaws.{edge_added, edge_ends_failed, edge_key_failed, edge_values_failed}
use Rattle.graph_loading.proofs.rows.add_edge.Goals as goal

pub returns-in_err-key-clause-gives : goal.returns-in_err-key-clause-gives
returns-in_err-key-clause-gives c =
    let p = err_from_is_err_and c.from_residual.result c.from_residual.ensures.1 in
    let beside = without_ends-edges_with c.args.loading.now.edges.elements c.args.loading.now.ends.items c.requires.sound.ends_beside in
    rw (p.1, p.2) (edge_key_failed c.args.at c.args.loading.now.edges.label c.args.loading.now.edges.columns c.args.row.now (graph_of c.args.loading.now) c.in_err-key.field-0.0
    (rw beside (rw c.cell.ensures at c.in_err-key.ensures.key)))

pub returns-in_err-ends-clause-gives : goal.returns-in_err-ends-clause-gives
returns-in_err-ends-clause-gives c =
    let p = err_from_is_err_and c.from_residual-in_err-ends.result c.from_residual-in_err-ends.ensures.1 in
    let beside = without_ends-edges_with c.args.loading.now.edges.elements c.args.loading.now.ends.items c.requires.sound.ends_beside in
    rw (p.1, p.2) (edge_ends_failed c.args.at c.args.loading.now.edges.label c.args.loading.now.edges.columns c.args.row.now (graph_of c.args.loading.now) c.in_ok-key.key c.in_err-ends.field-0.0
    (rw beside (rw c.cell.ensures at c.in_ok-key.ensures.key)) c.in_err-ends.ensures.ends)

pub returns-in_err-read_values-clause-gives : goal.returns-in_err-read_values-clause-gives
returns-in_err-read_values-clause-gives c =
    let p = err_from_is_err_and c.from_residual-in_err-read_values.result c.from_residual-in_err-read_values.ensures.1 in
    let beside = without_ends-edges_with c.args.loading.now.edges.elements c.args.loading.now.ends.items c.requires.sound.ends_beside in
    rw (p.1, p.2) (edge_values_failed c.args.at c.args.loading.now.edges.label c.args.loading.now.edges.columns c.args.row.now (graph_of c.args.loading.now) c.in_ok-key.key _ c.in_err-read_values.field-0.0
    (rw beside (rw c.cell.ensures at c.in_ok-key.ensures.key)) c.in_ok-ends.ensures.ends (rw c.columns-columns.ensures at c.in_err-read_values.ensures.values))

pub push_edge-requires-clause-room : goal.push_edge-requires-clause-room
push_edge-requires-clause-room c =
    let kinds = rw c.columns-columns.ensures at c.in_ok-read_values.ensures.read.kinds in
    let size = kinds_length c.args.loading.now.edges.columns c.read_values.new.values.items kinds in
    let beside = without_ends-edges_with c.args.loading.now.edges.elements c.args.loading.now.ends.items c.requires.sound.ends_beside in
    let cells = rw beside at c.requires.cells in
    rw c.deref.ensures.value (omega (arith, size, cells))

pub returns-clause-gives : goal.returns-clause-gives
returns-clause-gives c =
    let fits : FitsSigned w64 c.in_ok-key.key = search rules in
    let key = to_z-of_z w64 c.in_ok-key.key fits in
    let es = c.args.loading.now.edges.elements in
    let ends = c.args.loading.now.ends.items in
    let beside = without_ends-edges_with es ends c.requires.sound.ends_beside in
    let e : Element = record { key = c.in_ok-key.key; label = c.args.loading.now.edges.label; values = named c.args.loading.now.edges.columns c.read_values.new.values.items } in
    let pushed = edges_with-push es ends e c.in_ok-ends.ends c.requires.sound.ends_beside in
    edge_added c.args.at c.args.loading.now.edges.label c.args.loading.now.edges.columns c.args.row.now (graph_of c.args.loading.now) c.in_ok-key.key (c.in_ok-ends.ends.source, c.in_ok-ends.ends.target)
    (c.read_values.new.values.items, c.read_values.new.texts) (rw beside (rw c.cell.ensures at c.in_ok-key.ensures.key)) c.in_ok-ends.ensures.ends (rw c.columns-columns.ensures at c.in_ok-read_values.ensures.values)
    ∙ rw (
      c.in_ok-push_edge.ensures.edges,
      c.in_ok-push_edge.ensures.ends,
      c.deref.ensures.value,
      key,
      pushed,
      c.in_ok-push_edge.ensures.vertices,
      c.in_ok-push_edge.ensures.texts,
      c.in_ok-push_edge.ensures.vertex_properties,
      c.in_ok-push_edge.ensures.edge_properties,
    ) refl

pub returns-clause-sound : goal.returns-clause-sound
returns-clause-sound c =
    let fits : FitsSigned w64 c.in_ok-key.key = search rules in
    let key = to_z-of_z w64 c.in_ok-key.key fits in
    let columns = c.args.loading.now.edges.columns in
    let values = c.read_values.new.values.items in
    let kinds = rw c.columns-columns.ensures at c.in_ok-read_values.ensures.read.kinds in
    let named_size = length-named columns values kinds in
    let size = kinds_length columns values kinds in
    let grown = kept_length c.args.loading.now.texts c.read_values.new.texts c.in_ok-read_values.ensures.read.kept in
    let few = rw c.columns-columns.ensures at c.in_ok-read_values.ensures.read.room in
    let label = c.requires.sound.edge_label c.requires.table in
    let long = new_long c.args.at c.args.loading.now.edges.elements c.cell.result.now c.in_ok-key.key c.in_ok-key.ensures.key in
    let longs = values_long element.Edge c.args.at columns c.args.row.now c.args.loading.now.texts (values, c.read_values.new.texts) (rw c.columns-columns.ensures at c.in_ok-read_values.ensures.values) in
    let texts = c.in_ok-push_edge.ensures.texts in
    let e : Element = record { key = c.in_ok-key.key; label = c.args.loading.now.edges.label; values = named columns values } in
    sound_edge c.args.loading.now c.push_edge.new.loading e c.in_ok-ends.ends c.requires.sound (rw (c.in_ok-push_edge.ensures.edges, c.deref.ensures.value, key) refl) c.in_ok-push_edge.ensures.ends
    (rw c.in_ok-push_edge.ensures.edges refl) (rw c.in_ok-push_edge.ensures.edges refl) c.in_ok-push_edge.ensures.vertices
    (rw c.in_ok-push_edge.ensures.edges refl) c.in_ok-push_edge.ensures.vertex_properties c.in_ok-push_edge.ensures.edge_properties
    (rw texts (omega (arith, label, grown), named_valid c.read_values.new.texts columns values c.in_ok-read_values.ensures.read.valid))
    (named_typed c.args.loading.now.edge_properties columns values c.requires.sound.edge_columns kinds) (long, named_long columns values longs) c.in_ok-ends.ensures.source c.in_ok-ends.ensures.target
    (rw texts grown) (rw texts (omega (arith, few, named_size, size))) c.requires.edges (omega (arith, c.requires.cells, named_size, size))
