use Rattle.std.proofs.Common.{◌≡◌, ◌∙◌, sym, ap, refl, length}
use Rattle.hop_kernels.specs.PlanTrees.{over_of}
use Rattle.serial_run.specs.Engines.{Machines, machines_of}
use Rattle.serial_run.proofs.Asking.{job_of, length-parts, over_engine}
use Rattle.serial_run.proofs.engine.reply_over.Goals as goal

pub reply_by_core-reply-requires-clause-machines : goal.reply_by_core-reply-requires-clause-machines
reply_by_core-reply-requires-clause-machines c =
    let some = c.requires.asked in
    sym (ap (λ o. length o.parts) c.new-tree.ensures.over ∙ length-parts some.graph c.args.shape.now.machines c.args.parts.items some.asked.over.parts_of)

pub reply_by_core-reply-requires-clause-job : goal.reply_by_core-reply-requires-clause-job
reply_by_core-reply-requires-clause-job c =
    let some = c.requires.asked in
    let engine : Machines = machines_of c.args.parts.items c.args.shape.now in
    let over : over_of c.new-tree.result ≡ over_engine c.args.texts.now engine c.args.query = rw (c.new-tree.ensures.over, c.requires.plan) refl in
    record {
      schema = some.schema;
      graph = some.graph;
      job = job_of c.args.texts.now some.schema some.graph engine c.args.query (over_of c.new-tree.result) over
          some.asked c.requires.well c.requires.room c.requires.meaning c.requires.few;
    }

pub returns-clause-text : goal.returns-clause-text
returns-clause-text c = λ schema graph asked.
    let engine : Machines = machines_of c.args.parts.items c.args.shape.now in
    let over : over_of c.new-tree.result ≡ over_engine c.args.texts.now engine c.args.query = rw (c.new-tree.ensures.over, c.requires.plan) refl in
    let job = job_of c.args.texts.now schema graph engine c.args.query (over_of c.new-tree.result) over asked c.requires.well c.requires.room c.requires.meaning c.requires.few in
    let query : c.new-tree.result.query ≡ c.args.query = ap (λ o. o.query) over in
    rw query at (c.reply_by_core-reply.ensures schema graph job)
