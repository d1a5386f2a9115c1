use Rattle.std.proofs.Common.{◌≡◌, ◌||◌, ℕ, Bool, false, true, get_or, ap, ap₂, sym, ◌∙◌}
use Rattle.std.specs.List.{list_all}
use Rattle.std.proofs.lemmas.Bool.{or_right}
use Rattle.std.proofs.lemmas.List.{drop_all}
use Rattle.plan_tree.specs.Answers.{is_of}
use Rattle.plan_tree.specs.Told.{is_told_at}
use Rattle.hop_kernels.proofs.EntryLists.{all-fails, all-goes_on, all-others}
use Rattle.hop_kernels.proofs.hops.others_told.Goals as goal
use Rattle.hop_kernels.proofs.hops.others_told.Goals.{else-not-is_of-via-else-not-is_of, else-not-is_of-via-then-not-is_of+else-not-is_told_at}

pub returns-then-not-is_told_at : goal.returns-then-not-is_told_at
returns-then-not-is_told_at c =
    let passed : ℕ → Bool = is_of c.args.ground.now.query.now c.args.edge in
    let told : ℕ → Bool = is_told_at c.args.ground.now.texts.now c.args.ground.now.query.now c.args.context.now.words in
    let test : ℕ → Bool = λ place. passed place || told place in
    let items = c.as_slice-place-items.result.now in
    let here = get_or items c.loop-place.place-index 0 in
    let other : passed here ≡ false = sym c.is_of.ensures ∙ c.if-not-is_of.true in
    let fails : told here ≡ false = sym c.is_told_at.ensures ∙ c.if-not-is_told_at.true in
    sym (all-others passed told c.args.gains.now.reads ∙ ap (list_all test) (sym c.as_slice-place-items.ensures) ∙ sym c.loop-place.invariant
    ∙ all-fails test items c.loop-place.place-index c.loop-place-test.true (ap₂ (λ a b. a || b) other fails))

pub loop-place-preserved : goal.loop-place-preserved
loop-place-preserved c =
    let passed : ℕ → Bool = is_of c.args.ground.now.query.now c.args.edge in
    let told : ℕ → Bool = is_told_at c.args.ground.now.texts.now c.args.ground.now.query.now c.args.context.now.words in
    let test : ℕ → Bool = λ place. passed place || told place in
    let items = c.as_slice-place-items.result.now in
    let here = get_or items c.loop-place.place-index 0 in
    let passes : test here ≡ true = elim c.else-not-is_of.branch [
      | else-not-is_of-via-then-not-is_of+else-not-is_told_at w ↦ or_right (passed here) (told here) (sym w.is_told_at.ensures ∙ w.if-not-is_told_at.false)
      | else-not-is_of-via-else-not-is_of w ↦ ap (λ b. b || told here) (sym c.is_of.ensures ∙ w.if-not-is_of.false)
    ] in
    all-goes_on test items c.loop-place.place-index (list_all test items) c.loop-place-test.true passes c.loop-place.invariant

pub returns : goal.returns
returns c =
    let passed : ℕ → Bool = is_of c.args.ground.now.query.now c.args.edge in
    let told : ℕ → Bool = is_told_at c.args.ground.now.texts.now c.args.ground.now.query.now c.args.context.now.words in
    let test : ℕ → Bool = λ place. passed place || told place in
    let items = c.as_slice-place-items.result.now in
    sym (all-others passed told c.args.gains.now.reads ∙ ap (list_all test) (sym c.as_slice-place-items.ensures) ∙ sym c.loop-place.invariant
    ∙ ap (list_all test) (drop_all c.loop-place.place-index items c.loop-place-test.false))
