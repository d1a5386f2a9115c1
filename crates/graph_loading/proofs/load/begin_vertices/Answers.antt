use Rattle.std.proofs.Common.{arith, refl}
use Rattle.csv.specs.Records.{fields_of}
use Rattle.graph_tables.proofs.TypeFacts.{heading_typed}
use Rattle.graph_tables.specs.declared.element_kind.ElementKind.TheVariants as element
use Rattle.graph_loading.proofs.SoundFacts.{kept_length, sound_vertex_table}
use Rattle.graph_loading.proofs.load.begin_vertices.Goals as goal

pub returns-clause-begun : goal.returns-clause-begun
returns-clause-begun c =
    let ok = c.in_ok-begin_table.ensures.ok in
    let typed = heading_typed element.Vertex c.args.at c.args.loading.now.vertex_properties (fields_of c.args.header.now) _ c.in_ok-columns.ensures.columns in
    record {
      sound = sound_vertex_table c.args.loading.now _ c.requires.sound (rw ok refl) (rw ok refl) (rw ok c.in_ok-number.ensures.within)
          refl refl (kept_length c.args.loading.now.texts c.add.new.self c.in_ok-number.ensures.kept) c.in_ok-number.ensures.room
          typed.grown (rw ok typed.columns) refl;
      label = rw ok c.in_ok-number.ensures.number;
      table = rw ok (omega arith);
      tables = rw ok (omega arith);
      properties = omega (arith, c.in_ok-columns.ensures.room);
    }
