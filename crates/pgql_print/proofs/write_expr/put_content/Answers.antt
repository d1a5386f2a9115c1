use Rattle.std.proofs.Common.{◌≡◌, ◌++◌, ◌∙◌, sym, ap, arith, rules, Ok, Err, Result, OnOk}
use Rattle.pgql_print.proofs.Runs.{all_written, one_run, slice_there}
use Rattle.pgql_print.proofs.write_expr.put_content.Goals as goal

pub loop-plain-preserved : goal.loop-plain-preserved
loop-plain-preserved c =
    let first = c.in-Some.ensures in
    one_run _ c.loop-plain.out.items c.put.new.out.items c.put-in-Some.new.out.items c.loop-plain.rest.now c.behind_first-rest.result.now _ c.in-Some.plain first.0.high
    (λ k lt is. first.0.before k (omega arith) lt is) first.1 c.loop-plain.invariant (slice_there c.loop-plain.rest.now c.in-Some.plain first.0.high) c.behind_first-rest.ensures.rest
    (search rules) (search rules)

on_ok : {T E : Type 0} {P Q : Type 0} (r : Result T E) → (P → Q) → OnOk r P → OnOk r Q
on_ok (Ok x) f p = f p
on_ok (Err e) f p = p

pub returns : goal.returns
returns c =
    let rest : c.loop-plain.out.items ++ c.loop-plain.rest.now ≡ c.args.out.now.items ++ _ =
    ap (λ z. c.loop-plain.out.items ++ z) (sym (all_written c.loop-plain.rest.now (λ k lt is. c.in_default.ensures k (omega arith) lt is))) ∙ sym c.loop-plain.invariant in
    on_ok c.put-2.result (λ e. e ∙ rest) c.put-2.ensures
