use Rattle.std.proofs.Common.{◌≡◌, refl, rules, true, false}
use Rattle.run_replies.proofs.WordFacts.{built_by}
use Rattle.run_replies.proofs.words.is_built.Goals as goal

pub returns-then-not-is_given : goal.returns-then-not-is_given
returns-then-not-is_given c =
    let no : c.is_given.result ≡ false = search rules in
    rw no at (built_by c.args.command c.args.words.now c.is_given.result c.is_given-then-not-is_given.result c.in-Run.is c.is_given.ensures c.is_given-then-not-is_given.ensures)

pub returns-else-not-is_given : goal.returns-else-not-is_given
returns-else-not-is_given c =
    let yes : c.is_given.result ≡ true = search rules in
    rw yes (rw yes at (built_by c.args.command c.args.words.now c.is_given.result _ c.in-Run.is c.is_given.ensures refl))
