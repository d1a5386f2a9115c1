use Rattle.std.proofs.Common.{◌∙◌, [], ap, length, map, subst, sym}
use Rattle.std.specs.List.{AllByRecursion, range_with_len}
use Rattle.graph_tables.specs.Graph.{PropertyGraph, without_ends}
use Rattle.partition.specs.Kept.{IsOwn}
use Rattle.partition.specs.Parts.{part_with}
use Rattle.partition.proofs.PartFacts.{met, parts_kept, parts_whole}
use Rattle.partition.proofs.splitting.put_together.Goals as goal

pub joined-requires : goal.joined-requires
joined-requires c =
    let graph : PropertyGraph = record { vertices = c.args.bare.vertices; edges = c.args.bare.edges; texts = []; vertex_properties = []; edge_properties = [] } in
    parts_kept c.args.machines graph (record { dealing = c.args.dealing; vertices = c.into_lists-vertices.result.0; edges = c.into_lists-vertices.result.1 })
    c.requires.dealt.an_owner_each c.into_lists-vertices.ensures.vertices c.into_lists-vertices.ensures.edges c.args.all.items c.requires.few c.requires.dealt c.requires.own

pub returns : goal.returns
returns c = λ graph vertices edges.
    let owners = c.args.dealing.owners.items in
    let own = subst (λ es. AllByRecursion (IsOwn owners es) c.args.all.items) (sym edges) c.requires.own in
    met c.joined.result (λ parts. parts.items) _ (map (λ machine. part_with owners c.args.machines graph machine) (range_with_len 0 c.args.machines))
    (parts_whole c.args.machines graph (record { dealing = c.args.dealing; vertices = c.into_lists-vertices.result.0; edges = c.into_lists-vertices.result.1 })
    (c.requires.dealt.an_owner_each ∙ ap length (sym vertices)) (c.into_lists-vertices.ensures.vertices ∙ sym vertices) (c.into_lists-vertices.ensures.edges ∙ ap without_ends (sym edges)) c.args.all.items (range_with_len 0 c.args.machines) own
    c.requires.machines)
    c.joined.ensures
