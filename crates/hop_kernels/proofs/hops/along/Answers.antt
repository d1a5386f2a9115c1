use Rattle.std.proofs.Common.{◌≡◌, true, false, ap, ap₂, sym, ◌∙◌}
use Rattle.element_store.specs.Elements.{Element}
use Rattle.match_context.specs.declared.expand.Next.TheVariants.{Child}
use Rattle.partition.specs.Parts.{link_of_entry, entry_at}
use Rattle.pgql_meaning.specs.Fits.{has_labels, is_in_lists}
use Rattle.stage_plan.specs.Walk.{captures_of}
use Rattle.value_text.specs.Texts.{text_at}
use Rattle.plan_tree.specs.Answers.{all_hold, edge_in, labels_of}
use Rattle.plan_tree.specs.Told.{with_number, written}
use Rattle.hop_kernels.specs.Looks.{with_end}
use Rattle.hop_kernels.specs.Spots.{element_in, entry_in}
use Rattle.hop_kernels.proofs.EntryLists.{edge-is, entry-is}
use Rattle.hop_kernels.proofs.SeenWords.{along-is}
use Rattle.hop_kernels.proofs.hops.along.Goals as goal

pub returns-then-not-all_hold : goal.returns-then-not-all_hold
returns-then-not-all_hold c =
    let texts = c.args.ground.now.texts.now in
    let query = c.args.ground.now.query.now in
    let part = c.args.ground.now.part.now in
    let words = c.args.context.now.words in
    let step = c.args.step in
    let conjuncts = c.args.gains.now.conjuncts in
    let there = entry_at step.out part step.place step.number in
    let entry = entry_in step.out part step.place step.number in
    let same : link_of_entry entry ≡ c.args.entry = entry-is there c.args.entry c.requires.entry in
    let labelled : has_labels texts (labels_of query step.edge) (edge_in entry) ≡ true =
    ap (λ a. is_in_lists (text_at texts a.label) (labels_of query step.edge)) same ∙ sym c.is_labelled.ensures ∙ c.if-not-is_labelled.false in
    let hold : all_hold texts query (written query (edge_in entry) (captures_of query step.edge) words) conjuncts ≡ false =
    ap (λ (e : Element). all_hold texts query (written query e (captures_of query step.edge) words) conjuncts) (sym (ap (element_in part) c.spot.ensures ∙ edge-is there))
    ∙ sym c.all_hold.ensures ∙ c.if-not-all_hold.true in
    sym (along-is texts query c.args.gains.now step.edge step.to words entry true false c.requires.room c.first_word-word.ensures c.requires.fits
    c.requires.edge_there c.requires.end_there labelled hold)

pub returns : goal.returns
returns c =
    let texts = c.args.ground.now.texts.now in
    let query = c.args.ground.now.query.now in
    let part = c.args.ground.now.part.now in
    let words = c.args.context.now.words in
    let step = c.args.step in
    let conjuncts = c.args.gains.now.conjuncts in
    let there = entry_at step.out part step.place step.number in
    let entry = entry_in step.out part step.place step.number in
    let same : link_of_entry entry ≡ c.args.entry = entry-is there c.args.entry c.requires.entry in
    let labelled : has_labels texts (labels_of query step.edge) (edge_in entry) ≡ true =
    ap (λ a. is_in_lists (text_at texts a.label) (labels_of query step.edge)) same ∙ sym c.is_labelled.ensures ∙ c.if-not-is_labelled.false in
    let hold : all_hold texts query (written query (edge_in entry) (captures_of query step.edge) words) conjuncts ≡ true =
    ap (λ (e : Element). all_hold texts query (written query e (captures_of query step.edge) words) conjuncts) (sym (ap (element_in part) c.spot.ensures ∙ edge-is there))
    ∙ sym c.all_hold.ensures ∙ c.if-not-all_hold.false in
    ap₂ (λ ws m. Child (record { words = ws }) m)
    (c.child_along.ensures ∙ sym (ap (λ a. written query (edge_in entry) c.args.gains.now.captures (with_end step.to a.other (with_number step.edge a.edge words))) same))
    (sym (ap (λ a. a.machine) same))
    ∙ sym (along-is texts query c.args.gains.now step.edge step.to words entry true true c.requires.room c.first_word-word.ensures c.requires.fits
    c.requires.edge_there c.requires.end_there labelled hold)
