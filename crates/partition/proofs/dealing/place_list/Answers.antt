use Rattle.std.proofs.Common.{◌≡◌, ◌<◌, ◌+◌, ◌++◌, ◌∷◌, [], ◌∙◌, ap, arith, refl, length, length-append, slice_index, slice_set, take, drop}
use Rattle.std.proofs.lemmas.List.{length-set}
use Rattle.partition.proofs.DealingFacts.{All-index, among_few, counted_more, placed_more, written}
use Rattle.partition.proofs.dealing.place_list.Goals as goal

pub count-requires-clause-few : goal.count-requires-clause-few
count-requires-clause-few c =
    let owners = c.args.owners.now in
    let index = c.loop-owner.owner-index in
    let less : index < length owners = omega (arith, c.loop-owner-test.true) in
    let there = All-index (λ o. o < c.args.machines) owners index c.requires.within less in
    let counted = c.loop-owner.invariant.counted (slice_index owners index) there in
    rw c.deref_mut.ensures.value (omega (arith, counted, among_few owners index (slice_index owners index), less, c.requires.few))

pub loop-owner-preserved : goal.loop-owner-preserved
loop-owner-preserved c =
    let owners = c.args.owners.now in
    let index = c.loop-owner.owner-index in
    let owner = slice_index owners index in
    let counts = c.loop-owner.counts.items in
    let less : index < length owners = omega (arith, c.loop-owner-test.true) in
    let there = All-index (λ o. o < c.args.machines) owners index c.requires.within less in
    let after : c.count.new.counts ≡ slice_set counts owner (slice_index counts owner + 1) = rw c.deref_mut.ensures.value at c.count.ensures.after in
    let before : c.count.result ≡ slice_index counts owner = rw c.deref_mut.ensures.value at c.count.ensures.before in
    let size : length c.count.new.counts ≡ length counts = ap length after ∙ length-set counts owner (slice_index counts owner + 1) in
    let whole : take c.loop-owner.counts.len (c.count.new.counts ++ drop (length c.count.new.counts) counts) ≡ slice_set counts owner (slice_index counts owner + 1) =
    written c.loop-owner.counts.len c.count.new.counts counts (omega (arith, size, c.loop-owner.counts.ok.0)) (omega (arith, c.loop-owner.counts.ok.0)) ∙ after in
    record {
      counts = rw whole (length-set counts owner (slice_index counts owner + 1) ∙ c.loop-owner.invariant.counts);
      counted = rw whole (counted_more owners counts index c.args.machines owner refl c.loop-owner.invariant.counts there c.loop-owner.invariant.counted);
      sized = rw c.in_ok-push.ensures.items (length-append c.loop-owner.places.items (c.count.result ∷ []) ∙ omega (arith, c.loop-owner.invariant.sized));
      placed = rw (c.in_ok-push.ensures.items, before)
          (placed_more owners counts index c.args.machines owner refl c.loop-owner.invariant.counts there c.loop-owner.invariant.counted c.loop-owner.places.items c.loop-owner.invariant.sized c.loop-owner.invariant.placed);
    }
