use Rattle.pgql_syntax.proofs.Items.{key_shrinks}
use Rattle.pgql_syntax.proofs.query.keys.Goals as goal

pub list-requires : goal.list-requires
list-requires c = key_shrinks 64
