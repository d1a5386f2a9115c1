use Rattle.std.proofs.Common.{◌≡◌, ◌∷◌, OnOk, rules, subst}
use Rattle.value_text.specs.Shown.{shown}
use Rattle.result_collect.proofs.Growing.{parted-first}
use Rattle.result_collect.proofs.reply.append_values.Goals as goal

pub returns-in_ok-append_value-in-Some-clause-ok : goal.returns-in_ok-append_value-in-Some-clause-ok
returns-in_ok-append_value-in-Some-clause-ok c =
    let whole : c.args.values.now ≡ c.in-Some.first.now ∷ c.in-Some.others.now = search rules in
    subst (λ bytes. OnOk c.append_other_values.result (c.append_other_values.new.out.items ≡ bytes))
    (parted-first (shown c.args.texts.now) c.args.values.now c.in-Some.others.now c.in-Some.first.now c.args.out.now.items c.append_value.new.out.items whole c.in_ok-append_value-in-Some.ensures.ok)
    c.append_other_values.ensures.ok
