use Rattle.std.proofs.Common.{ap, sym, ◌∙◌}
use Rattle.std.specs.Prelude.{slice_index_or}
use Rattle.plan_tree.specs.Answers.{labels_of}
use Rattle.hop_kernels.specs.LabelTests.{fits}
use Rattle.hop_kernels.proofs.ground.Ground.next_labelled.Goals as goal

pub returns-in-Any-clause-found : goal.returns-in-Any-clause-found
returns-in-Any-clause-found c =
    λ d below.
    let label = (slice_index_or c.args.entries.now c.args.from d).label in
    sym (c.args.self.now.tests_are c.args.variable c.requires.there label)
    ∙ ap (λ t. fits c.args.self.now.texts.now (labels_of c.args.self.now.query.now c.args.variable) t label) c.in-Any.is

pub returns-in-One-clause-passed : goal.returns-in-One-clause-passed
returns-in-One-clause-passed c =
    λ i d low below.
    let label = (slice_index_or c.args.entries.now i d).label in
    sym (c.args.self.now.tests_are c.args.variable c.requires.there label)
    ∙ ap (λ t. fits c.args.self.now.texts.now (labels_of c.args.self.now.query.now c.args.variable) t label) c.in-One.is ∙ c.first_of_label.ensures.passed i d low below

pub returns-in-One-clause-found : goal.returns-in-One-clause-found
returns-in-One-clause-found c =
    λ d below.
    let label = (slice_index_or c.args.entries.now c.first_of_label.result d).label in
    sym (c.args.self.now.tests_are c.args.variable c.requires.there label)
    ∙ ap (λ t. fits c.args.self.now.texts.now (labels_of c.args.self.now.query.now c.args.variable) t label) c.in-One.is ∙ c.first_of_label.ensures.found d below

pub returns-in-Never-clause-passed : goal.returns-in-Never-clause-passed
returns-in-Never-clause-passed c =
    λ i d low below.
    let label = (slice_index_or c.args.entries.now i d).label in
    sym (c.args.self.now.tests_are c.args.variable c.requires.there label)
    ∙ ap (λ t. fits c.args.self.now.texts.now (labels_of c.args.self.now.query.now c.args.variable) t label) c.in-Never.is
