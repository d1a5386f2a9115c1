use Rattle.std.proofs.Common.{◌≡◌, ◌∙◌, ◌++◌, OnOk, Some, sym, ap, subst}
use Rattle.typed_expr.specs.Typed.{double_name}
use Rattle.typed_expr.proofs.faults.add_double_name.Goals as goal

pub returns-in-Some : goal.returns-in-Some
returns-in-Some c = λ items is.
    subst (λ name. OnOk c.add_if_double.result (c.add_if_double.new.faults ≡ c.args.faults.now ++ double_name items name))
    (ap (λ placed. Some placed) c.get.ensures ∙ sym c.in-Some.is)
    (c.add_if_double.ensures items is)
