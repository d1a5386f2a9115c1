use Rattle.std.proofs.Common.{◌≡◌, ◌∙◌, rules, refl, true}
use Rattle.graph_tables.specs.Names.{is_name}
use Rattle.graph_tables.proofs.ManifestFacts.{name_is_text}
use Rattle.graph_tables.proofs.manifest.label_name.Goals as goal

pub returns : goal.returns
returns c =
    let named : is_name c.args.bytes.now ≡ true = search rules in
    let text = name_is_text c.args.bytes.now named in
    c.text_of.ensures ∙ rw (text, named) refl
