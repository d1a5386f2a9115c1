use Rattle.csv_records.proofs.RowFacts.{pushed_copy}
use Rattle.csv_records.proofs.row.Row.push_copy.Goals as goal

pub returns : goal.returns
returns c =
    rw (
      c.in_ok-push.ensures.items,
      c.len-first.ensures,
      c.len.ensures,
      c.self.inside.made.ok.0,
      c.extend_from_slice.new.self.ok.0,
      c.in_ok-extend_from_slice.ensures.items,
      ← c.self.view_is,
    )
    (pushed_copy c.self.inside.made.items c.args.cell.now c.self.inside.cells.items c.self.invariant)
