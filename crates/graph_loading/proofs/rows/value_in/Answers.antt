use Rattle.graph_loading.proofs.RowLaws.{cell_kind}
use Rattle.graph_loading.proofs.rows.value_in.Goals as goal

pub returns-in-Ok-clause-kind : goal.returns-in-Ok-clause-kind
returns-in-Ok-clause-kind c = cell_kind c.args.kind c.args.cell.now c.args.texts.now c.in-Ok.value _ c.in-Ok.ensures.value
