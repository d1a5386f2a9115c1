use Rattle.std.proofs.Common.{◌≡◌, ◌++◌, drop}
use Rattle.std.specs.List.{flat_map}
use Rattle.result_collect.specs.Replies.{Grows, row_text}
use Rattle.result_collect.proofs.reply.append_rows.Given as goal

-- what is left, after the bytes so far, gives all of them
abbrev pub invariant-loop-row : goal.invariant-loop-row
invariant-loop-row l = record {
  so_far : l.out.items ++ flat_map (row_text l.texts) (drop l.row-index l.rows) ≡ l.initial.out.items ++ flat_map (row_text l.texts) l.rows;
  grows : Grows l.initial.out.items l.out.items;
}
