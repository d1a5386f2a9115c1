use Rattle.std.proofs.Common.{◌≡◌, ◌∙◌, ◌+◌, ◌<◌, ◌≤◌, arith, length, drop, length-append, ◌∷◌, []}
use Rattle.std.proofs.lemmas.Result.{err_from_is_err_and}
use Rattle.value_text.specs.Valid.{IsValid}
use Rattle.graph_tables.specs.Headers.{key_columns}
use Rattle.graph_loading.proofs.RowLaws.{kinds_more, values_done, values_failed, values_kept}
use Rattle.graph_loading.proofs.SoundFacts.{all_map, all_push, kept_both, kept_length, valid_still}
use Rattle.graph_loading.proofs.rows.read_values.Goals as goal

pub returns-in_err-value-clause-values : goal.returns-in_err-value-clause-values
returns-in_err-value-clause-values c =
    let p = err_from_is_err_and c.from_residual.result c.from_residual.ensures.1 in
    let inside : key_columns c.args.of + c.loop-i.i < length c.args.row.now = omega (arith, c.requires.count, c.loop-i-test.true, c.len-i-end.ensures.number) in
    let place : c.key_count-keys.result + c.loop-i.i + 1 ≡ key_columns c.args.of + 1 + c.loop-i.i = omega (arith, c.key_count-keys.ensures) in
    let failed = rw (place, c.cell.ensures, c.key_count-keys.ensures) at c.in_err-value.ensures.value in
    rw (p.1, p.2) (values_failed c.args.at (key_columns c.args.of + 1 + c.loop-i.i) (key_columns c.args.of) c.loop-i.i c.args.columns.now c.args.row.now c.get-kind.result (c.loop-i.values.items, c.loop-i.texts) _
    c.get-kind.ensures inside c.loop-i.invariant.rest c.in_err-value.field-0.0 failed)

pub loop-i-preserved : goal.loop-i-preserved
loop-i-preserved c =
    let inside : key_columns c.args.of + c.loop-i.i < length c.args.row.now = omega (arith, c.requires.count, c.loop-i-test.true, c.len-i-end.ensures.number) in
    let place : c.key_count-keys.result + c.loop-i.i + 1 ≡ key_columns c.args.of + 1 + c.loop-i.i = omega (arith, c.key_count-keys.ensures) in
    let value = rw (place, c.cell.ensures, c.key_count-keys.ensures) at c.in_ok-value.ensures.value in
    let kept = values_kept c.args.at (key_columns c.args.of + 1 + c.loop-i.i) (key_columns c.args.of) c.loop-i.i c.args.columns.now c.args.row.now c.get-kind.result (c.loop-i.values.items, c.loop-i.texts) _
    c.get-kind.ensures inside c.loop-i.invariant.rest (c.in_ok-value.value, c.value_in.new.texts) value in
    let more : key_columns c.args.of + 1 + (c.loop-i.i + 1) ≡ key_columns c.args.of + 1 + c.loop-i.i + 1 = omega arith in
    let grown = kept_length c.loop-i.texts c.value_in.new.texts c.in_ok-value.ensures.kept in
    record {
      rest = rw (more, c.in_ok-push.ensures.items) kept;
      count = rw c.in_ok-push.ensures.items (length-append c.loop-i.values.items (c.in_ok-value.value ∷ []) ∙ omega (arith, c.loop-i.invariant.count));
      kinds = rw c.in_ok-push.ensures.items (kinds_more c.args.columns.now c.loop-i.i c.loop-i.values.items c.get-kind.result c.in_ok-value.value c.get-kind.ensures c.loop-i.invariant.kinds c.in_ok-value.ensures.kind);
      valid = rw c.in_ok-push.ensures.items (all_push (IsValid c.value_in.new.texts) c.loop-i.values.items c.in_ok-value.value
          (all_map (IsValid c.loop-i.texts) (IsValid c.value_in.new.texts) c.loop-i.values.items (λ v h. valid_still c.loop-i.texts c.value_in.new.texts v grown h) c.loop-i.invariant.valid) c.in_ok-value.ensures.valid);
      kept = kept_both c.args.texts.now c.loop-i.texts c.value_in.new.texts c.loop-i.invariant.kept c.in_ok-value.ensures.kept;
      room = omega (arith, c.in_ok-value.ensures.room, c.loop-i.invariant.room);
    }

pub returns-clause-values : goal.returns-clause-values
returns-clause-values c =
    let past : length c.args.columns.now ≤ c.loop-i.i = omega (arith, c.loop-i-test.false, c.len-i-end.ensures.number) in
    values_done c.args.at (key_columns c.args.of + 1 + c.loop-i.i) c.loop-i.i c.args.columns.now (drop (key_columns c.args.of + c.loop-i.i) c.args.row.now) (c.loop-i.values.items, c.loop-i.texts) _ past c.loop-i.invariant.rest
