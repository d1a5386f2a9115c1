use Rattle.typed_expr.proofs.Queries.{given-kinds, given-valid, given-well_formed}
use Rattle.typed_expr.proofs.typing.type_query.Goals as goal

pub returns-clause-well_formed : goal.returns-clause-well_formed
returns-clause-well_formed c = given-well_formed c.args.schema.now c.args.texts.now c.typed_by_paths.new.texts c.args.ast c.typed_by_paths.result c.typed_by_paths.ensures

pub returns-clause-valid : goal.returns-clause-valid
returns-clause-valid c = given-valid c.args.schema.now c.args.texts.now c.typed_by_paths.new.texts c.args.ast c.typed_by_paths.result c.typed_by_paths.ensures

pub returns-clause-kinds : goal.returns-clause-kinds
returns-clause-kinds c = given-kinds c.args.schema.now c.args.texts.now c.typed_by_paths.new.texts c.args.ast c.typed_by_paths.result c.typed_by_paths.ensures
