use Rattle.std.proofs.Common.{◌≡◌, ◌+◌, ◌*◌, refl, sym, ap, subst, ◌∙◌}
use Rattle.stage_credits.specs.Layout.{unit_of, sender_of, target_of, IsUnit}
use Rattle.stage_credits.proofs.Decoding.{target_of-unit_of, sender_of-unit_of, stage_start-unit_of, IsUnit-unit_of}
use Rattle.stage_credits.proofs.setup.Setup.unit.Goals as goal

pub returns : goal.returns
returns c =
    let setup = c.args.self.now in
    let from = c.args.from in
    let stage = c.args.stage in
    let to = c.args.to in
    let shape = c.machines.ensures.sound in
    let machines : c.from-machines.result ≡ setup.shape.machines = c.from-machines.ensures ∙ c.machines.ensures.number in
    let value : (c.from.result * c.from-machines.result + c.from-2.result) * 16 + c.from-3.result ≡ unit_of setup from stage to =
    rw (c.from.ensures, machines, c.from-2.ensures, c.from-3.ensures) refl in
    let is_unit = IsUnit-unit_of setup from stage to shape c.requires.from c.requires.to c.requires.stage.0 c.requires.stage.1 in
    let starts = stage_start-unit_of setup from stage to shape c.requires.from c.requires.to in
    let sender = sender_of-unit_of setup from stage to shape c.requires.from c.requires.to in
    let target = target_of-unit_of setup from stage to shape c.requires.from c.requires.to in
    record {
      value = value;
      unit = subst (IsUnit setup) (sym value) is_unit;
      stage = rw value starts;
      ends = (ap (sender_of setup) value ∙ sender, ap target_of value ∙ target);
    }
