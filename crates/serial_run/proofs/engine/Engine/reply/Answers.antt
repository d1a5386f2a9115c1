use Rattle.std.proofs.Common.{◌≡◌, refl, subst, sym}
use Rattle.serial_run.specs.Engines.{IsAsked, machines_of, with_stages}
use Rattle.serial_run.proofs.Asking.{any_stages}
use Rattle.serial_run.proofs.engine.Engine.reply.Goals as goal

pub returns-clause-text : goal.returns-clause-text
returns-clause-text c = λ schema graph asked.
    let engine = c.args.self.now in
    let same : machines_of c.replace-parts.result.items c.with_stages-shape.result ≡ machines_of engine.parts (with_stages engine.shape c.stages.result)
    = rw (c.replace-parts.ensures.value, c.with_stages-shape.ensures, ← c.self.view_is) refl in
    c.reply_over-parts.ensures.text schema graph
    (subst (λ e. IsAsked c.args.texts.now schema graph e c.args.query) (sym same) (any_stages c.args.texts.now schema graph engine c.args.query c.stages.result asked))
