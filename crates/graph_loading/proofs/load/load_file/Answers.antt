use Rattle.graph_loading.proofs.StoreFacts.{file_given, load_answered, short_when_whole}
use Rattle.graph_loading.proofs.load.load_file.Goals as goal

pub returns-clause-gives : goal.returns-clause-gives
returns-clause-gives g c =
    let e = c.load-loaded.ensures in
    rw (c.answer.ensures, c.deref.ensures.value) (file_given (g.S.Store.files c.args.store.now) c.args.name.now c.load-loaded.new.into.items c.args.file (g.S.Store.misses c.args.store.now) (g.S.Store.misses c.load-loaded.new.self) c.load-loaded.result e.whole e.missing)

pub returns-clause-short : goal.returns-clause-short
returns-clause-short g c = rw (c.answer.ensures, c.deref.ensures.value) (short_when_whole c.args.file _ c.load-loaded.result)

pub returns-clause-store : goal.returns-clause-store
returns-clause-store g c =
    let e = c.load-loaded.ensures in
    rw c.answer.ensures (load_answered g.S.Store.files g.S.Store.faults g.S.Store.misses c.args.store.now c.load-loaded.new.self c.args.name.now c.args.file _ e.kept e.faults e.misses c.load-loaded.result e.missing e.failed)
