use Rattle.std.proofs.Common.{◌≡◌, ◌∷◌, [], arith, rules, sym, ◌∙◌}
use Rattle.std.proofs.lemmas.Grind.{common_steps}
use Rattle.run_replies.proofs.Tracing.{first_read, none_read}
use Rattle.run_replies.proofs.first.verdict_on.Goals as goal

pub returns-in_ok-verdict-in-Some : goal.returns-in_ok-verdict-in-Some
returns-in_ok-verdict-in-Some c =
    let queries = c.args.queries.now in
    let are : c.deref.result.now ≡ c.in-Some.place.now ∷ c.in-Some._later.now = search rules in
    first_read c.args.schema.now queries.text.items queries.places.items _ c.in-Some.place.now c.args.texts.now c.read_query.new.texts c.in_ok-verdict-in-Some.verdict (sym c.deref.ensures.value ∙ are)
    (rw (c.piece_of-text.ensures.text, c.deref-in-Some.ensures.value) at c.in_ok-verdict-in-Some.ensures.verdict) c.in_ok-verdict-in-Some.ensures.kept

pub returns-in-None : goal.returns-in-None
returns-in-None c =
    let queries = c.args.queries.now in
    let none : c.deref.result.now ≡ [] = grind (arith, common_steps) in
    none_read c.args.schema.now queries.text.items queries.places.items c.args.texts.now c.args.texts.now (sym c.deref.ensures.value ∙ none)
