use Rattle.std.proofs.Common.{◌≡◌, ◌∙◌, ◌+◌, ◌<◌, ◌≤◌, sym, ap, arith, rules, length, true, false, Err}
use Rattle.csv.specs.Records.{fields_of}
use Rattle.graph_tables.proofs.HeaderFacts.{columns_done, columns_failed, columns_kept}
use Rattle.graph_tables.proofs.header.take_columns.Goals as goal

pub returns-then-not-branch-clause-columns : goal.returns-then-not-branch-clause-columns
returns-then-not-branch-clause-columns c =
    let inside : c.loop-place.place < length (fields_of c.args.row.now) = omega (arith, c.loop-place-test.true, c.len-place-end.ensures) in
    let no : c.in_ok-add_column.field-0 ≡ false = search rules in
    let bad = rw (no, c.cell.ensures) at c.in_ok-add_column.ensures.added in
    rw c.fault.ensures (columns_failed c.args.of c.args.at (c.loop-place.place + 1) c.loop-place.place (fields_of c.args.row.now) _ _ inside c.loop-place.invariant.rest bad ∙ ap Err (sym c.fault.ensures))

pub loop-place-preserved : goal.loop-place-preserved
loop-place-preserved c =
    let inside : c.loop-place.place < length (fields_of c.args.row.now) = omega (arith, c.loop-place-test.true, c.len-place-end.ensures) in
    let yes : c.in_ok-add_column.field-0 ≡ true = search rules in
    let good = rw (yes, c.cell.ensures) at c.in_ok-add_column.ensures.added in
    record {
      rest = columns_kept c.args.of c.args.at (c.loop-place.place + 1) c.loop-place.place (fields_of c.args.row.now) _ _ inside c.loop-place.invariant.rest _ good;
      room = omega (arith, c.in_ok-add_column.ensures.room, c.loop-place.invariant.room);
    }

pub returns-clause-columns : goal.returns-clause-columns
returns-clause-columns c =
    let past : length (fields_of c.args.row.now) ≤ c.loop-place.place = omega (arith, c.loop-place-test.false, c.len-place-end.ensures) in
    columns_done c.args.of c.args.at (c.loop-place.place + 1) c.loop-place.place (fields_of c.args.row.now) _ _ past c.loop-place.invariant.rest

pub returns-clause-room : goal.returns-clause-room
returns-clause-room c = omega (arith, c.loop-place.invariant.room)
