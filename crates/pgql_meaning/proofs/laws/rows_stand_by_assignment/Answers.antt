use Rattle.pgql_meaning.proofs.ByAssignment as by_assignment
use Rattle.pgql_meaning.proofs.laws.rows_stand_by_assignment.Goals as goal

pub returns : goal.returns
returns c = by_assignment.rows_stand_by_assignment
