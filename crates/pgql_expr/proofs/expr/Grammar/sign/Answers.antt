use Rattle.std.proofs.Common.{sym, subst}
use Rattle.pgql_expr.specs.Reading.{Outcome, nested}
use Rattle.pgql_lexemes.specs.Reads.{Reads}
use Rattle.pgql_expr.specs.declared.found.Found.{Found}
use Rattle.pgql_lexemes.specs.Told.{told}
use Rattle.pgql_expr.proofs.Marks.{read_minus}
use Rattle.pgql_expr.proofs.expr.Grammar.sign.Goals as goal

pub returns-in-Minus-clause-reads : goal.returns-in-Minus-clause-reads
returns-in-Minus-clause-reads g c =
    let P : Outcome Found → Type 0 = λ o. Reads o c.minus.result c.minus.new.input in
    let same = read_minus c.args.self.now.most (nested c.args.self.now.most) c.args.input.now (told c.in-Some.t) c.in-Some.ensures c.in-Minus.is in
    subst P (sym same) c.minus.ensures.reads
