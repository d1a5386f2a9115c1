use Rattle.std.proofs.Common.{◌≡◌, arith, rules, ◌++◌, ◌∷◌, []}
use Rattle.std.proofs.lemmas.Option.{slice_get-get_or}
use Rattle.adfs_base.specs.declared.value.Value.TheVariants as value
use Rattle.element_store.proofs.RowFacts.{kind_there, kinds_length, part_more, part_whole}
use Rattle.element_store.proofs.table.push_words.Goals as goal

pub get-kind-requires : goal.get-kind-requires
get-kind-requires c = omega (arith, kinds_length c.args.columns.now c.args.values.now c.requires)

pub loop-i-preserved : goal.loop-i-preserved
loop-i-preserved c =
    let pushed : c.push.new.self ≡ c.loop-i.cells ++ c.word_from.result ∷ [] = search rules in
    let value = slice_get-get_or c.args.values.now c.loop-i.i value.Null c.loop-i-test.true in
    let back = c.word_from.ensures.back (kind_there c.args.columns.now c.args.values.now c.loop-i.i c.get-kind.result _ c.requires c.get-kind.ensures value) in
    record {
      part = part_more c.args.columns.now c.args.values.now c.args.cells.now c.loop-i.cells c.push.new.self c.loop-i.i c.get-kind.result _ c.word_from.result c.loop-i.invariant.part
          c.get-kind.ensures value back c.word_from.ensures.word pushed;
      within = omega arith;
    }

pub returns-clause-ok : goal.returns-clause-ok
returns-clause-ok c = part_whole c.args.columns.now c.args.values.now c.args.cells.now c.loop-i.cells c.loop-i.i c.requires c.loop-i-test.false c.loop-i.invariant.within c.loop-i.invariant.part
