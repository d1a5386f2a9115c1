use Rattle.std.proofs.Common.{◌≡◌, ◌++◌, drop, map}
use Rattle.typed_query.specs.Val.{val}
use Rattle.pgql_meaning.proofs.search.row_of.Given as goal

-- what is left, after the values so far, gives all of them
abbrev pub invariant-loop-column : goal.invariant-loop-column
invariant-loop-column l =
    l.row.items ++ map (λ column. val l.texts l.values column.0) (drop l.column-index l.columns) ≡ map (λ column. val l.texts l.values column.0) l.columns
