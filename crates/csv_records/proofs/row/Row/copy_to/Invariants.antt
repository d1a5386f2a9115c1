use Rattle.std.proofs.Common.{◌≡◌, ◌++◌, [], drop}
use Rattle.csv.specs.Records.{fields_of, partial_of}
use Rattle.csv_records.proofs.row.Row.copy_to.Given as goal

abbrev pub invariant-loop-place : goal.invariant-loop-place
invariant-loop-place l = record {
  so_far : fields_of l.copy ++ drop l.place l.self ≡ fields_of l.initial.copy ++ l.self;
  whole : partial_of l.copy ≡ [];
}
