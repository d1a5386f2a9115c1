use Rattle.graph_tables.proofs.loading.bare_of.Goals as goal

pub new-requires : goal.new-requires
new-requires c = rw (c.in_ok-vertices.ensures.vertices, c.in_ok-vertices.ensures.edges) c.requires
