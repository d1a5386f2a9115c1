use Rattle.std.proofs.Common.{◌≡◌, ◌++◌, ◌∙◌, length, sym, ap, arith, rules}
use Rattle.std.specs.Prelude.{slice_index}
use Rattle.pgql_lexer.proofs.Steps.{take-drop_rest}
use Rattle.pgql_lexemes.proofs.Runs.{all_kept, one_run, quote_there}
use Rattle.pgql_lexemes.proofs.literal.undoubled.Goals as goal

pub past_quote-rest-requires : goal.past_quote-rest-requires
past_quote-rest-requires c =
    let first = c.in-Some.ensures in
    ap (λ z. slice_index z 0) (take-drop_rest c.in-Some.plain c.loop-plain.rest.now) ∙ quote_there c.loop-plain.rest.now c.in-Some.plain first.0.high first.1

pub loop-plain-smaller : goal.loop-plain-smaller
loop-plain-smaller c =
    let le = c.past_quote-rest.ensures.shorter in
    let same = ap length (take-drop_rest c.in-Some.plain c.loop-plain.rest.now) in
    search (rules, arith)

pub loop-plain-preserved : goal.loop-plain-preserved
loop-plain-preserved c =
    let first = c.in-Some.ensures in
    one_run _ c.loop-plain.found.items c.extend_from_slice.new.self.items c.push.new.self.items c.loop-plain.rest.now _ c.past_quote-rest.result.now c.in-Some.plain first.0.high
    (λ k lt is. first.0.before k (omega arith) lt is) c.loop-plain.invariant (take-drop_rest c.in-Some.plain c.loop-plain.rest.now) c.past_quote-rest.ensures.content
    (search rules) (search rules)

pub returns : goal.returns
returns c =
    let items : c.extend_from_slice-2.new.self.items ≡ c.loop-plain.found.items ++ c.loop-plain.rest.now = search rules in
    c.from_vec.ensures ∙ items
    ∙ ap (λ z. c.loop-plain.found.items ++ z) (sym (all_kept c.loop-plain.rest.now (λ k lt is. c.in_default.ensures k (omega arith) lt is)))
    ∙ sym c.loop-plain.invariant
