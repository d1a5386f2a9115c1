use Rattle.std.proofs.Common.{◌≡◌, ◌++◌, ◌∷◌, drop}
use Rattle.std.specs.List.{flat_map}
use Rattle.value_text.specs.Shown.{shown_text}
use Rattle.result_collect.specs.Replies.{Grows}
use Rattle.result_collect.proofs.reply.append_other_names.Given as goal

-- what is left, after the bytes so far, gives all of them
abbrev pub invariant-loop-column : goal.invariant-loop-column
invariant-loop-column l = record {
  so_far : l.out.items ++ flat_map (λ column. 44 ∷ shown_text column.1) (drop l.column-index l.columns) ≡ l.initial.out.items ++ flat_map (λ column. 44 ∷ shown_text column.1) l.columns;
  grows : Grows l.initial.out.items l.out.items;
}
