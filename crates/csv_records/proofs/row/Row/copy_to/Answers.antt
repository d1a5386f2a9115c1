use Rattle.std.proofs.Common.{◌<◌, ◌≤◌, arith, length}
use Rattle.csv.specs.Records.{fields_of}
use Rattle.csv_records.proofs.RowFacts.{all_copied, one_copied}
use Rattle.csv_records.proofs.row.Row.copy_to.Goals as goal

pub loop-place-preserved : goal.loop-place-preserved
loop-place-preserved c =
    let within : c.loop-place.place < length c.args.self.now = omega (arith, c.loop-place-test.true, c.len-place-end.ensures) in
    record {
      so_far = rw (c.in_ok-push_field.ensures.fields, c.loop-place.invariant.whole, c.cell.ensures)
          (one_copied (fields_of c.loop-place.copy) c.args.self.now _ c.loop-place.place within c.loop-place.invariant.so_far);
      whole = c.in_ok-push_field.ensures.partial;
    }

pub returns : goal.returns
returns c =
    let past : length c.args.self.now ≤ c.loop-place.place = omega (arith, c.loop-place-test.false, c.len-place-end.ensures) in
    all_copied (fields_of c.loop-place.copy) c.args.self.now _ c.loop-place.place past c.loop-place.invariant.so_far
