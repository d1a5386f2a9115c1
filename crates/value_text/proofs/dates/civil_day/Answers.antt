use Rattle.std.proofs.Common.{◌≡◌, sym, arith, w16, w8, w32, refl}
use Rattle.std.specs.Int.RustNames.{FitsSigned}
use Rattle.std.proofs.lemmas.Bool.{false≢true}
use Rattle.std.proofs.lemmas.Int.{to_z-of_z, to_z_pos}
use Rattle.value_text.proofs.Days.{date_found, date_in_range, date_none}
use Rattle.value_text.proofs.dates.civil_day.Goals as goal

pub returns-in-Ok-clause-value : goal.returns-in-Ok-clause-value
returns-in-Ok-clause-value c =
    let y = to_z_pos w16 c.args.year (omega arith) in
    let m = to_z_pos w8 c.args.month (omega arith) in
    let d = to_z_pos w8 c.args.day (omega arith) in
    let is = (rw (y, m, d) at c.in-Ok.ensures.succeeds).0 refl in
    let v = rw (y, m, d) at c.in-Ok.ensures.value in
    let em : c.in-Ok.date.month ≡ c.args.month = cc v.1 in
    let ed : c.in-Ok.date.day ≡ c.args.day = cc v.2 in
    let fits : FitsSigned w32 c.to_unix_epoch_day.result = record { sfits = c.to_unix_epoch_day.type_inv } in
    rw (to_z-of_z w32 c.to_unix_epoch_day.result fits, c.to_unix_epoch_day.ensures.value, v.0, em, ed) (sym (date_found c.args.year c.args.month c.args.day is))

pub returns-in-Ok-clause-valid : goal.returns-in-Ok-clause-valid
returns-in-Ok-clause-valid c =
    let y = to_z_pos w16 c.args.year (omega arith) in
    let m = to_z_pos w8 c.args.month (omega arith) in
    let d = to_z_pos w8 c.args.day (omega arith) in
    let is = (rw (y, m, d) at c.in-Ok.ensures.succeeds).0 refl in
    let v = rw (y, m, d) at c.in-Ok.ensures.value in
    let em : c.in-Ok.date.month ≡ c.args.month = cc v.1 in
    let ed : c.in-Ok.date.day ≡ c.args.day = cc v.2 in
    let fits : FitsSigned w32 c.to_unix_epoch_day.result = record { sfits = c.to_unix_epoch_day.type_inv } in
    rw (to_z-of_z w32 c.to_unix_epoch_day.result fits, c.to_unix_epoch_day.ensures.value, v.0, em, ed) (date_in_range c.args.year c.args.month c.args.day c.requires.year is)

pub returns-in-Err-clause-value : goal.returns-in-Err-clause-value
returns-in-Err-clause-value c =
    let y = to_z_pos w16 c.args.year (omega arith) in
    let m = to_z_pos w8 c.args.month (omega arith) in
    let d = to_z_pos w8 c.args.day (omega arith) in
    let no = (rw (y, m, d) at c.in-Err.ensures.succeeds).1 in
    sym (date_none c.args.year c.args.month c.args.day (omega arith) (λ is. false≢true (no is)))
