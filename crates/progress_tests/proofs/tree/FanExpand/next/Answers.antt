use Rattle.std.proofs.Common.{◌≡◌, ◌+◌, ◌%◌, true, false, sym, ap, subst, ◌∙◌, arith}
use Rattle.std.specs.Prelude.{◌==◌}
use Rattle.std.proofs.lemmas.Bool.Decides.{nat_tests}
use Rattle.match_context.specs.declared.expand.Next.TheVariants.{Child}
use Rattle.progress_tests.specs.Fans.{child_at}
use Rattle.progress_tests.proofs.Places.{place-answer}
use Rattle.progress_tests.proofs.tree.FanExpand.next.Goals as goal

pub returns-then-place-from-ne0-clause-answer : goal.returns-then-place-from-ne0-clause-answer
returns-then-place-from-ne0-clause-answer c =
    let read : (c.args.frame.now.place % (c.from.result + 1) == 0) ≡ false = grind (arith, nat_tests) in
    let test = subst (λ n. (c.args.frame.now.place % (n + 1) == 0) ≡ false) c.from.ensures read in
    sym (place-answer c.args.self.now c.args.frame.now.stage c.args.frame.now.place c.args.frame.now.context false (omega arith) (omega arith) (omega arith) test)

pub returns-else-place-from-ne0-clause-answer : goal.returns-else-place-from-ne0-clause-answer
returns-else-place-from-ne0-clause-answer c =
    let read : (c.args.frame.now.place % (c.from.result + 1) == 0) ≡ true = grind (arith, nat_tests) in
    let test = subst (λ n. (c.args.frame.now.place % (n + 1) == 0) ≡ true) c.from.ensures read in
    ap (λ m. Child (child_at c.args.frame.now.stage c.args.frame.now.place c.args.frame.now.context) (c.args.frame.now.place % m)) c.from-then-frame-self.ensures
    ∙ sym (place-answer c.args.self.now c.args.frame.now.stage c.args.frame.now.place c.args.frame.now.context true (omega arith) (omega arith) (omega arith) test)
