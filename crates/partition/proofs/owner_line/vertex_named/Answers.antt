use Rattle.std.proofs.Common.{rules, sym, w64}
use Rattle.std.specs.Int.RustNames.{FitsSigned}
use Rattle.std.proofs.lemmas.Int.{to_z-of_z}
use Rattle.partition.proofs.OwnerFacts.{vertex_is, vertex_within}
use Rattle.partition.proofs.owner_line.vertex_named.Goals as goal

pub returns-in-Ok-clause-named : goal.returns-in-Ok-clause-named
returns-in-Ok-clause-named c =
    let fits : FitsSigned w64 c.in-Ok.key = search rules in
    let found = rw (to_z-of_z w64 c.in-Ok.key fits) at c.vertex_of.ensures in
    vertex_is c.args.graph.now.vertices c.args.text.now c.in-Ok.key c.vertex_of.result (sym c.if-not-is_key.ensures) c.in-Ok.ensures found

pub returns-in-Ok-clause-within : goal.returns-in-Ok-clause-within
returns-in-Ok-clause-within c = vertex_within c.args.graph.now.vertices _ c.vertex_of.result c.vertex_of.ensures
