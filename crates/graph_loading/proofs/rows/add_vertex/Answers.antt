use Rattle.std.proofs.Common.{◌∙◌, arith, rules, refl, w64}
use Rattle.std.specs.Int.RustNames.{FitsSigned}
use Rattle.std.proofs.lemmas.Int.{to_z-of_z}
use Rattle.std.proofs.lemmas.Result.{err_from_is_err_and}
use Rattle.element_store.proofs.ElementFacts.{length-named}
use Rattle.element_store.proofs.RowFacts.{kinds_length}
use Rattle.element_store.specs.Columns.{named}
use Rattle.element_store.specs.Elements.{Element}
use Rattle.graph_tables.specs.Loading.{graph_of}
use Rattle.graph_tables.proofs.TypeFacts.{named_typed}
use Rattle.graph_loading.proofs.RowLaws.{vertex_added, vertex_key_failed, vertex_values_failed}
use Rattle.graph_tables.specs.declared.element_kind.ElementKind.TheVariants as element
use Rattle.graph_loading.proofs.LongFacts.{new_long, values_long}
use Rattle.graph_loading.proofs.SoundFacts.{kept_length, named_long, named_valid, sound_vertex}
use Rattle.graph_loading.proofs.rows.add_vertex.Goals as goal

pub returns-in_err-key-clause-gives : goal.returns-in_err-key-clause-gives
returns-in_err-key-clause-gives c =
    let p = err_from_is_err_and c.from_residual.result c.from_residual.ensures.1 in
    rw (p.1, p.2) (vertex_key_failed c.args.at c.args.loading.now.vertices.label c.args.loading.now.vertices.columns c.args.row.now (graph_of c.args.loading.now) c.in_err-key.field-0.0
    (rw c.cell.ensures at c.in_err-key.ensures.key))

pub returns-in_err-read_values-clause-gives : goal.returns-in_err-read_values-clause-gives
returns-in_err-read_values-clause-gives c =
    let p = err_from_is_err_and c.from_residual-in_err-read_values.result c.from_residual-in_err-read_values.ensures.1 in
    rw (p.1, p.2) (vertex_values_failed c.args.at c.args.loading.now.vertices.label c.args.loading.now.vertices.columns c.args.row.now (graph_of c.args.loading.now) c.in_ok-key.key
    c.in_err-read_values.field-0.0 (rw c.cell.ensures at c.in_ok-key.ensures.key) (rw c.columns-columns.ensures at c.in_err-read_values.ensures.values))

pub returns-clause-gives : goal.returns-clause-gives
returns-clause-gives c =
    let fits : FitsSigned w64 c.in_ok-key.key = search rules in
    let key = to_z-of_z w64 c.in_ok-key.key fits in
    vertex_added c.args.at c.args.loading.now.vertices.label c.args.loading.now.vertices.columns c.args.row.now (graph_of c.args.loading.now) c.in_ok-key.key
    (c.read_values.new.values.items, c.read_values.new.texts) (rw c.cell.ensures at c.in_ok-key.ensures.key) (rw c.columns-columns.ensures at c.in_ok-read_values.ensures.values)
    ∙ rw (c.in_ok-add.ensures.ok, c.deref.ensures.value, key) refl

pub returns-clause-sound : goal.returns-clause-sound
returns-clause-sound c =
    let fits : FitsSigned w64 c.in_ok-key.key = search rules in
    let key = to_z-of_z w64 c.in_ok-key.key fits in
    let columns = c.args.loading.now.vertices.columns in
    let values = c.read_values.new.values.items in
    let kinds = rw c.columns-columns.ensures at c.in_ok-read_values.ensures.read.kinds in
    let named_size = length-named columns values kinds in
    let size = kinds_length columns values kinds in
    let grown = kept_length c.args.loading.now.texts c.read_values.new.texts c.in_ok-read_values.ensures.read.kept in
    let few = rw c.columns-columns.ensures at c.in_ok-read_values.ensures.read.room in
    let label = c.requires.sound.vertex_label c.requires.table in
    let long = new_long c.args.at c.args.loading.now.vertices.elements c.cell.result.now c.in_ok-key.key c.in_ok-key.ensures.key in
    let longs = values_long element.Vertex c.args.at columns c.args.row.now c.args.loading.now.texts (values, c.read_values.new.texts) (rw c.columns-columns.ensures at c.in_ok-read_values.ensures.values) in
    let v : Element = record { key = c.in_ok-key.key; label = c.args.loading.now.vertices.label; values = named columns values } in
    sound_vertex c.args.loading.now c.add.new.self c.read_values.new.texts v c.requires.sound (rw (c.in_ok-add.ensures.ok, c.deref.ensures.value, key) refl) (rw c.in_ok-add.ensures.ok refl) (rw c.in_ok-add.ensures.ok refl) (rw c.in_ok-add.ensures.ok refl)
    (omega (arith, label, grown), named_valid c.read_values.new.texts columns values c.in_ok-read_values.ensures.read.valid)
    (named_typed c.args.loading.now.vertex_properties columns values c.requires.sound.vertex_columns kinds) (long, named_long columns values longs) grown (omega (arith, few, named_size, size)) c.requires.vertices
    (omega (arith, c.requires.cells, named_size, size))
