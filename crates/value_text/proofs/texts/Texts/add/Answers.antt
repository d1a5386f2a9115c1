use Rattle.std.proofs.Common.{refl}
use Rattle.value_text.proofs.Places.{adds, answers, there}
use Rattle.value_text.proofs.texts.Texts.add.Goals as goal

pub returns-in-Some : goal.returns-in-Some
returns-in-Some c =
    let t = there c.args.self.now c.args.text.now c.in-Some.number c.in-Some.ensures.place in
    let a = adds c.args.self.now c.args.self.now c.args.text.now c.in-Some.number t.0 t.1 in
    record { number = t.0; texts = t.1; within = a.within; kept = a.kept; err = tt; room = a.room }

pub returns-in-None : goal.returns-in-None
returns-in-None c =
    let a = answers c.args.self.now c.append.new.self c.args.text.now c.append.result c.append.ensures.number c.append.ensures.texts c.append.ensures.err in
    record { number = a.number; texts = a.texts; within = a.within; kept = a.kept; err = a.err; room = a.room }
