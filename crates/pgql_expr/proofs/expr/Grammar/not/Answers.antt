use Rattle.std.proofs.Common.{sym, subst}
use Rattle.pgql_expr.specs.Reading.{Outcome, nested}
use Rattle.pgql_lexemes.specs.Reads.{Reads}
use Rattle.pgql_expr.specs.declared.found.Found.{Found}
use Rattle.pgql_lexemes.specs.Told.{told}
use Rattle.pgql_expr.proofs.Marks.{read_not_word}
use Rattle.pgql_expr.proofs.expr.Grammar.not.Goals as goal

pub returns-in-Not-clause-reads : goal.returns-in-Not-clause-reads
returns-in-Not-clause-reads g c =
    let P : Outcome Found → Type 0 = λ o. Reads o c.denied.result c.denied.new.input in
    let same = read_not_word c.args.self.now.most (nested c.args.self.now.most) c.args.input.now (told c.in-Some.t) c.in-Some.ensures c.in-Not.is in
    subst P (sym same) c.denied.ensures.reads
