use Rattle.std.proofs.Common.{◌≡◌, ◌++◌, ◌∷◌, drop}
use Rattle.std.specs.List.{flat_map}
use Rattle.value_text.specs.Shown.{shown}
use Rattle.result_collect.specs.Replies.{Grows}
use Rattle.result_collect.proofs.reply.append_other_values.Given as goal

-- what is left, after the bytes so far, gives all of them
abbrev pub invariant-loop-value : goal.invariant-loop-value
invariant-loop-value l = record {
  so_far : l.out.items ++ flat_map (λ v. 44 ∷ shown l.texts v) (drop l.value-index l.values) ≡ l.initial.out.items ++ flat_map (λ v. 44 ∷ shown l.texts v) l.values;
  grows : Grows l.initial.out.items l.out.items;
}
