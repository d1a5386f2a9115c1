use Rattle.std.proofs.Common.{◌≡◌, ◌∙◌, sym, ap, subst, ℕ, List, length}
use Rattle.std.specs.Prelude.{All}
use Rattle.std.proofs.lemmas.List.FromFn.{length-range_with_len}
use Rattle.std.specs.List.{range_with_len}
use Rattle.pattern_scope.specs.Joined.{AreGroups, AreJoinedSoFar, IsWithin}
use Rattle.pattern_scope.proofs.Forests.{alone-joined, written-back}
use Rattle.pattern_scope.proofs.joined.groups_of.Goals as goal

counted : (parents : List ℕ) (count : ℕ) → parents ≡ range_with_len 0 count → count ≡ length parents
counted parents count is = sym (ap length is ∙ length-range_with_len 0 count)

pub join-requires : goal.join-requires
join-requires c =
    let count = c.args.count in
    let links = c.args.links.now in
    let now = c.as_mut_slice.ensures.value ∙ c.in_ok-parents.ensures in
    let as_many = counted c.as_mut_slice.result.now count now in
    record {
      alone = subst (λ n. AreJoinedSoFar n links c.as_mut_slice.result.now) as_many (subst (λ ps. AreJoinedSoFar count links ps) (sym now) (alone-joined count links));
      inside = subst (λ n. All (IsWithin n) links) as_many c.requires;
    }

pub returns : goal.returns
returns c =
    let links = c.args.links.now in
    let as_many = counted c.as_mut_slice.result.now c.args.count (c.as_mut_slice.ensures.value ∙ c.in_ok-parents.ensures) in
    let same = ap length (sym c.as_mut_slice.ensures.value) in
    subst (AreGroups c.args.count links)
    (sym (written-back c.join.new.parents c.in_ok-parents.parents.items c.in_ok-parents.parents.len (sym c.as_mut_slice.ensures.len ∙ sym same) (c.join.ensures.as_many ∙ sym same)))
    (subst (λ n. AreGroups n links c.join.new.parents) (sym as_many) c.join.ensures)
