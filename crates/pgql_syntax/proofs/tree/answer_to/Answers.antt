use Rattle.pgql_lexer.specs.Tokens.{tokens}
use Rattle.pgql_lexemes.proofs.Cursor.{lexed_ok}
use Rattle.pgql_syntax.proofs.Tokened.{answer_lexed, answer_refused}
use Rattle.pgql_syntax.proofs.tree.answer_to.Goals as goal

pub tree_of-requires-clause-lexed : goal.tree_of-requires-clause-lexed
tree_of-requires-clause-lexed c = lexed_ok (tokens c.args.base c.args.text.now) c.in-Ok.ensures.0 c.in-Ok.ensures.1

pub returns-in-Ok : goal.returns-in-Ok
returns-in-Ok c = answer_lexed 64 c.args.base c.args.text.now c.in-Ok.ensures.0 c.in-Ok.ensures.1 c.tree_of.result c.tree_of.ensures

pub returns-in-Err : goal.returns-in-Err
returns-in-Err c = answer_refused 64 c.args.base c.args.text.now c.in-Err.e c.in-Err.ensures
