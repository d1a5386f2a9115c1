use Rattle.std.proofs.Common.{◌≡◌, ◌∙◌, ◌++◌, drop, sym, ap, subst}
use Rattle.std.proofs.lemmas.List.{drop-drop, take_rest}
use Rattle.typed_expr.specs.Meaning.{meant}
use Rattle.typed_expr.specs.Typed.{select_of}
use Rattle.typed_expr.proofs.build.add_column_at.Goals as goal

pub returns-clause-column : goal.returns-clause-column
returns-clause-column c =
    let means = meant c.args.scene.environment.schema.now c.args.scene.environment.variables.now c.args.scene.captures.now c.args.scene.texts.now in
    let new = c.add_first.new.select in
    let old = c.args.select.now in
    let told =
    subst (λ rest. new ++ select_of means (drop 1 rest) ≡ old ++ select_of means rest) (take_rest c.args.items.now c.args.place) (rw c.as_slice.ensures at c.in_ok-add_first.ensures) in
    ap (λ rest. new ++ select_of means rest) (sym (drop-drop 1 c.args.place c.args.items.now)) ∙ told
