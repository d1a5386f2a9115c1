use Rattle.std.proofs.Common.{◌≡◌, ◌∷◌, OnOk, rules, subst}
use Rattle.value_text.specs.Shown.{shown_text}
use Rattle.result_collect.proofs.Growing.{parted-first}
use Rattle.result_collect.proofs.reply.append_names.Goals as goal

pub returns-in_ok-append_name-in-Some-clause-ok : goal.returns-in_ok-append_name-in-Some-clause-ok
returns-in_ok-append_name-in-Some-clause-ok c =
    let whole : c.args.columns.now ≡ c.in-Some.first.now ∷ c.in-Some.others.now = search rules in
    subst (λ bytes. OnOk c.append_other_names.result (c.append_other_names.new.out.items ≡ bytes))
    (parted-first (λ column. shown_text column.1) c.args.columns.now c.in-Some.others.now c.in-Some.first.now c.args.out.now.items c.append_name.new.out.items whole c.in_ok-append_name-in-Some.ensures.ok)
    c.append_other_names.ensures.ok
