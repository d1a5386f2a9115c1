use Rattle.pgql_syntax.proofs.Items.{item_shrinks}
use Rattle.pgql_syntax.proofs.query.selection.Goals as goal

pub list-requires : goal.list-requires
list-requires c = item_shrinks 64
