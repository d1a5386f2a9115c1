use Rattle.std.proofs.lemmas.List.MinMax.{ranks_by}
use Rattle.sorted_lists.specs.Sorted.{before_by}
use Rattle.sorted_lists.proofs.Calls.{ComparesAs-order}
use Rattle.sorted_lists.proofs.Unique.{sorted-in_order}
use Rattle.sorted_lists.proofs.sort.sort_by.Goals as goal

pub returns-clause-sorted : goal.returns-clause-sorted
returns-clause-sorted g c order total each =
    let before = ranks_by total (λ x. x) in
    let compares = ComparesAs-order g.F.FnMut c.args.compare order each in
    sorted-in_order (before_by order) before c.args.items.now.items c.sort_by.new.self.items
    (c.in_ok-sort_by.ensures.sorted (before_by order) before compares) (c.sort_by.ensures.stable (before_by order) before compares)
