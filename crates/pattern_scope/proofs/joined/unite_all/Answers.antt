use Rattle.std.proofs.Common.{◌≡◌, ◌<◌, ◌∙◌, length, arith, subst}
use Rattle.std.specs.Prelude.{All}
use Rattle.std.specs.Bool.{OnFalse}
use Rattle.std.proofs.lemmas.List.{take_all}
use Rattle.pattern_scope.specs.Joined.{Agree, IsFlat}
use Rattle.pattern_scope.proofs.Forests.{known-further, less-further}
use Rattle.pattern_scope.proofs.joined.unite_all.Goals as goal

pub loop-left-preserved : goal.loop-left-preserved
loop-left-preserved c =
    let links = c.args.links.now in
    let here = c.loop-left.left-index in
    let so_far = c.loop-left.invariant in
    let now = c.unite-further.ensures in
    let old = c.args.parents.now in
    let mid = c.loop-left.parents in
    let new = c.unite-further.new.parents in
    let inside : here < length links = omega arith in
    record {
      as_many = now.as_many ∙ so_far.as_many;
      forest = now.forest;
      respected = λ set respected both. now.respected set (so_far.respected set respected both) (both here (0, 0) inside);
      no_more = omega (arith, now.no_more, so_far.no_more);
      fewer = less-further c.loop-left.united c.unite-further.result c.either-united.result old mid new c.either-united.ensures so_far.no_more now.no_more so_far.fewer now.fewer;
      known = known-further c.loop-left.united c.unite-further.result c.either-united.result old mid new links here c.either-united.ensures inside so_far.known now.known;
    }

pub returns-clause-known : goal.returns-clause-known
returns-clause-known c =
    subst (λ seen. OnFalse c.loop-left.united (IsFlat c.args.parents.now → (c.loop-left.parents ≡ c.args.parents.now) × All (Agree c.args.parents.now) seen))
    (take_all c.loop-left.left-index c.args.links.now (omega arith)) c.loop-left.invariant.known
