use Rattle.std.proofs.Common.{sym}
use Rattle.adfs_base.specs.declared.value.Kind.TheVariants as kind
use Rattle.value_text.proofs.Filled.{filled}
use Rattle.value_text.proofs.cells.read_value.Goals as goal

pub returns-in-Int-clause-value : goal.returns-in-Int-clause-value
returns-in-Int-clause-value c =
    rw c.in-Int.is (filled kind.Int c.args.cell.now c.args.texts.now c.int_value.result (sym c.if-is_empty.ensures) (c.int_value.ensures.value c.args.texts.now))

pub returns-in-Int-clause-valid : goal.returns-in-Int-clause-valid
returns-in-Int-clause-valid c = c.int_value.ensures.valid _

pub returns-in-Bool-clause-value : goal.returns-in-Bool-clause-value
returns-in-Bool-clause-value c =
    rw c.in-Bool.is (filled kind.Bool c.args.cell.now c.args.texts.now c.bool_value.result (sym c.if-is_empty.ensures) (c.bool_value.ensures.value c.args.texts.now))

pub returns-in-Bool-clause-valid : goal.returns-in-Bool-clause-valid
returns-in-Bool-clause-valid c = c.bool_value.ensures.valid _

pub returns-in-Date-clause-value : goal.returns-in-Date-clause-value
returns-in-Date-clause-value c =
    rw c.in-Date.is (filled kind.Date c.args.cell.now c.args.texts.now c.date_value.result (sym c.if-is_empty.ensures) (c.date_value.ensures.value c.args.texts.now))

pub returns-in-Date-clause-valid : goal.returns-in-Date-clause-valid
returns-in-Date-clause-valid c = c.date_value.ensures.valid _
