use Rattle.std.proofs.Common.{◌∙◌, arith, w16, w32, w64, pos}
use Rattle.std.specs.Int.RustNames.{FitsSigned}
use Rattle.std.proofs.lemmas.Bool.{false≢true}
use Rattle.std.proofs.lemmas.Int.{to_z-of_z}
use Rattle.value_text.proofs.Days.{in_range, text_is}
use Rattle.value_text.proofs.dates.date_bytes.Goals as goal

pub overflow_cast-date : goal.overflow_cast-date
overflow_cast-date c =
    let wide : FitsSigned w64 c.args.day = record { sfits = omega (arith, c.ranges.day.sfits) } in
    let e = rw (to_z-of_z w32 c.args.day c.ranges.day, to_z-of_z w64 c.args.day wide) at c.in-Ok.ensures.value in
    let t = text_is c.in-Ok.date c.args.day e c.requires in
    let small : FitsSigned w16 (pos t.0) = record { sfits = omega (arith, t.2) } in
    rw (t.1, to_z-of_z w16 (pos t.0) small) (tt, omega (arith, t.2))

pub returns-in-Ok : goal.returns-in-Ok
returns-in-Ok c =
    let wide : FitsSigned w64 c.args.day = record { sfits = omega (arith, c.ranges.day.sfits) } in
    let e = rw (to_z-of_z w32 c.args.day c.ranges.day, to_z-of_z w64 c.args.day wide) at c.in-Ok.ensures.value in
    let t = text_is c.in-Ok.date c.args.day e c.requires in
    let small : FitsSigned w16 (pos t.0) = record { sfits = omega (arith, t.2) } in
    rw (t.1, to_z-of_z w16 (pos t.0) small) at c.spelled.ensures ∙ t.3

pub returns-in-Err : goal.returns-in-Err
returns-in-Err c =
    let wide : FitsSigned w64 c.args.day = record { sfits = omega (arith, c.ranges.day.sfits) } in
    let s = rw (to_z-of_z w32 c.args.day c.ranges.day, to_z-of_z w64 c.args.day wide) at c.in-Err.ensures.succeeds in
    absurd (false≢true (s.1 (in_range c.args.day c.requires)))
