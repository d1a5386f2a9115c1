use Rattle.std.proofs.Common.{◌≡◌, ◌≤◌, length, sym, ap, ◌∙◌, arith, true, false, suc}
use Rattle.std.proofs.lemmas.Result.{err_from_is_err_and}
use Rattle.pgql_lexemes.specs.Lists.{sees, after}
use Rattle.pgql_syntax.proofs.Turn.{turn_ends, turn_goes, turn_fails, after_shorter, after_none, both}
use Rattle.pgql_syntax.proofs.part.list.Goals as goal

pub returns-in_err-x : goal.returns-in_err-x
returns-in_err-x g c =
    let way = c.items.invariant in
    let p = err_from_is_err_and c.from_residual.result c.from_residual.ensures.1 in
    rw (p.1, p.2) (turn_fails g.T.Part.reading c.args.mark c.requires _ way.0 c.items.found c.items.input c.read.new.input c.in_err-x.field-0.0 way.2 way.1 c.in_err-x.ensures)

pub returns-then-not-eat : goal.returns-then-not-eat
returns-then-not-eat g c =
    let way = c.items.invariant in
    let none : sees c.args.mark c.read.new.input ≡ false = sym c.eat.ensures.found ∙ c.if-not-eat.true in
    way.2 ∙ turn_ends g.T.Part.reading c.args.mark c.requires way.0 c.items.found c.items.input c.read.new.input c.in_ok-x.x way.1 c.in_ok-x.ensures none
    ∙ both _ c.push.new.self c.read.new.input c.eat.new.self (sym c.in_ok-push.ensures.ok) (sym (c.eat.ensures.after ∙ after_none c.args.mark c.read.new.input none))

pub items-smaller : goal.items-smaller
items-smaller g c =
    let seen : sees c.args.mark c.read.new.input ≡ true = sym c.eat.ensures.found ∙ c.if-not-eat.false in
    let le : length c.read.new.input ≤ length c.items.input = c.requires.shorter c.items.input c.in_ok-x.x c.read.new.input c.in_ok-x.ensures in
    let lt : suc (length (after c.args.mark c.read.new.input)) ≤ length c.read.new.input = after_shorter c.args.mark c.read.new.input seen in
    let same : length c.eat.new.self ≡ length (after c.args.mark c.read.new.input) = ap length c.eat.ensures.after in
    omega (arith, le, lt, same)

pub items-preserved : goal.items-preserved
items-preserved g c =
    let way = c.items.invariant in
    let seen : sees c.args.mark c.read.new.input ≡ true = sym c.eat.ensures.found ∙ c.if-not-eat.false in
    let on = turn_goes g.T.Part.reading c.args.mark c.requires way.0 c.items.found c.items.input c.read.new.input c.in_ok-x.x way.1 c.in_ok-x.ensures seen in
    rw (c.in_ok-push.ensures.ok, c.eat.ensures.after) (on.0, on.1, way.2 ∙ on.2)
