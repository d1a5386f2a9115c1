use Rattle.std.proofs.Common.{rules, refl, ◌<◌, ◌≤◌, length}
use Rattle.run_replies.proofs.FileFacts.{file_found, file_long}
use Rattle.run_replies.proofs.load.load_file.Goals as goal

pub returns-in-Whole-clause-gives : goal.returns-in-Whole-clause-gives
returns-in-Whole-clause-gives g c =
    let long : 268435456 < length c.load.new.into.items = search rules in
    rw c.passed.ensures (file_long c.args.number (g.S.Store.files c.args.store.now) c.args.name.now c.load.new.into.items (c.in-Whole.ensures.whole refl) long)

pub returns-in-Whole-2-clause-gives : goal.returns-in-Whole-2-clause-gives
returns-in-Whole-2-clause-gives g c =
    let short : length c.load.new.into.items ≤ 268435456 = search rules in
    file_found c.args.number (g.S.Store.files c.args.store.now) c.args.name.now c.load.new.into.items (c.in-Whole-2.ensures.whole refl) short
