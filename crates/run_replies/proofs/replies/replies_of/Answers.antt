use Rattle.std.proofs.Common.{IfSome, subst, sym}
use Rattle.cli_words.specs.declared.command.Command.TheVariants as command
use Rattle.run_replies.specs.Outcome.{work_of_command}
use Rattle.run_replies.specs.Parts.{RepliesGive}
use Rattle.run_replies.specs.Reaching.{CommandReaches}
use Rattle.run_replies.proofs.Places.{command_reads}
use Rattle.run_replies.proofs.Steps.{any_files, reads_nothing}
use Rattle.run_replies.proofs.replies.replies_of.Goals as goal

pub returns-in-Run-clause-gives : goal.returns-in-Run-clause-gives
returns-in-Run-clause-gives g c =
    subst (λ asking. IfSome (g.S.Store.files c.args.store.now) (λ told. RepliesGive c.answer_files.result (work_of_command asking told c.args.options))) (sym c.in-Run.is)
    (rw c.header_of.ensures.header at c.answer_files.ensures.gives)

pub returns-in-Run-clause-reads : goal.returns-in-Run-clause-reads
returns-in-Run-clause-reads g c = command_reads command.Run c.args.options _ _ c.answer_files.result c.in-Run.is (rw c.header_of.ensures.header at c.answer_files.ensures.reads)

pub returns-in-Plan-clause-gives : goal.returns-in-Plan-clause-gives
returns-in-Plan-clause-gives g c =
    subst (λ asking. IfSome (g.S.Store.files c.args.store.now) (λ told. RepliesGive c.answer_files-in-Plan.result (work_of_command asking told c.args.options))) (sym c.in-Plan.is)
    (rw c.header_of-in-Plan.ensures.header at c.answer_files-in-Plan.ensures.gives)

pub returns-in-Plan-clause-reads : goal.returns-in-Plan-clause-reads
returns-in-Plan-clause-reads g c = command_reads command.Plan c.args.options _ _ c.answer_files-in-Plan.result c.in-Plan.is (rw c.header_of-in-Plan.ensures.header at c.answer_files-in-Plan.ensures.reads)

pub returns-in-Trace-clause-gives : goal.returns-in-Trace-clause-gives
returns-in-Trace-clause-gives g c =
    subst (λ asking. IfSome (g.S.Store.files c.args.store.now) (λ told. RepliesGive c.trace_files.result (work_of_command asking told c.args.options))) (sym c.in-Trace.is)
    (rw c.header_of-in-Trace.ensures.header at c.trace_files.ensures.gives)

pub returns-in-Trace-clause-reads : goal.returns-in-Trace-clause-reads
returns-in-Trace-clause-reads g c = command_reads command.Trace c.args.options _ _ c.trace_files.result c.in-Trace.is (rw c.header_of-in-Trace.ensures.header at c.trace_files.ensures.reads)

pub returns-in-Replay-clause-gives : goal.returns-in-Replay-clause-gives
returns-in-Replay-clause-gives g c =
    subst (λ asking. IfSome (g.S.Store.files c.args.store.now) (λ told. RepliesGive c.take_trace.result (work_of_command asking told c.args.options))) (sym c.in-Replay.is)
    (rw c.trace_name.ensures at c.take_trace.ensures.gives)

pub returns-in-Replay-clause-reads : goal.returns-in-Replay-clause-reads
returns-in-Replay-clause-reads g c = command_reads command.Replay c.args.options _ _ c.take_trace.result c.in-Replay.is (rw c.trace_name.ensures at c.take_trace.ensures.reads)

pub returns-in-Gen-clause-gives : goal.returns-in-Gen-clause-gives
returns-in-Gen-clause-gives g c =
    subst (λ asking. IfSome (g.S.Store.files c.args.store.now) (λ told. RepliesGive c.generate.result (work_of_command asking told c.args.options))) (sym c.in-Gen.is)
    (any_files (g.S.Store.files c.args.store.now) c.generate.result _ c.generate.ensures.gives)

pub returns-in-Gen-clause-reads : goal.returns-in-Gen-clause-reads
returns-in-Gen-clause-reads g c = command_reads command.Gen c.args.options _ _ c.generate.result c.in-Gen.is (reads_nothing (CommandReaches command.Gen c.args.options) _ c.generate.result c.generate.ensures.status)

pub generate-requires-clause-sizes : goal.generate-requires-clause-sizes
generate-requires-clause-sizes g c = c.requires.sizes c.in-Gen.is

pub returns-in-Help-clause-gives : goal.returns-in-Help-clause-gives
returns-in-Help-clause-gives g c =
    subst (λ asking. IfSome (g.S.Store.files c.args.store.now) (λ told. RepliesGive c.help.result (work_of_command asking told c.args.options))) (sym c.in-Help.is)
    (any_files (g.S.Store.files c.args.store.now) c.help.result _ c.help.ensures.gives)

pub returns-in-Help-clause-reads : goal.returns-in-Help-clause-reads
returns-in-Help-clause-reads g c = command_reads command.Help c.args.options _ _ c.help.result c.in-Help.is (reads_nothing (CommandReaches command.Help c.args.options) _ c.help.result c.help.ensures.status)
