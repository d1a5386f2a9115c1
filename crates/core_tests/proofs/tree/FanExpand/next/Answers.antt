use Rattle.std.proofs.Common.{◌≡◌, ◌%◌, true, false, sym, ap, ◌∙◌, arith}
use Rattle.std.specs.Prelude.{◌==◌}
use Rattle.std.proofs.lemmas.Bool.Decides.{nat_tests}
use Rattle.match_context.specs.declared.expand.Next.TheVariants.{Child}
use Rattle.core_tests.specs.Fans.{Spread}
use Rattle.core_tests.specs.declared.tree.Fan.{Fan}
use Rattle.core_tests.proofs.Places.{place-answer}
use Rattle.core_tests.proofs.tree.FanExpand.next.Goals as goal

abbrev spread : Fan → Spread
spread fan = record { stages = fan.stages; machines = fan.machines; roots = fan.roots; children = fan.children; root = fan.root }

pub returns-then-place-eq2-clause-answer : goal.returns-then-place-eq2-clause-answer
returns-then-place-eq2-clause-answer c =
    let test : (c.args.frame.now.place % 3 == 2) ≡ true = grind (arith, nat_tests) in
    sym (place-answer (spread c.args.self.now) c.args.frame.now.stage c.args.frame.now.place c.args.frame.now.context true (omega arith) (omega arith) (omega arith) test)

pub returns-else-place-eq2-clause-answer : goal.returns-else-place-eq2-clause-answer
returns-else-place-eq2-clause-answer c =
    let test : (c.args.frame.now.place % 3 == 2) ≡ false = grind (arith, nat_tests) in
    ap (λ m. Child c.args.frame.now.context (c.args.frame.now.place % m)) c.from.ensures
    ∙ sym (place-answer (spread c.args.self.now) c.args.frame.now.stage c.args.frame.now.place c.args.frame.now.context false (omega arith) (omega arith) (omega arith) test)
