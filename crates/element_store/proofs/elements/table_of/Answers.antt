use Rattle.std.proofs.Common.{◌≤◌, ◌+◌, ◌-◌, arith, rules, leb, leb-true}
use Rattle.std.proofs.lemmas.Bool.{leb-false}
use Rattle.std.proofs.lemmas.List.Sorted.{IsPartitionPoint-from_clause, IsPartitionedBy-leb}
use Rattle.element_store.specs.Tables.{Rows}
use Rattle.element_store.proofs.TableFacts.{firsts_rise, has_element, some_table, there}
use Rattle.element_store.proofs.elements.table_of.Goals as goal

pub overflow_sub-result : goal.overflow_sub-result
overflow_sub-result c =
    let parted = IsPartitionedBy-leb (λ (t : Rows). t.first) _ c.args.number (firsts_rise 0 c.args.tables.now c.requires.stacked) in
    let point = IsPartitionPoint-from_clause (λ (t : Rows). leb t.first c.args.number) _ _ c.partition_point-later.ensures.partitioned parted (λ a r q k. search rules) in
    some_table c.args.tables.now c.args.number c.partition_point-later.result c.requires.stacked c.requires.within (λ k d from to. leb-false _ _ (point.1 k d from to))

pub returns : goal.returns
returns c =
    let parted = IsPartitionedBy-leb (λ (t : Rows). t.first) _ c.args.number (firsts_rise 0 c.args.tables.now c.requires.stacked) in
    let point = IsPartitionPoint-from_clause (λ (t : Rows). leb t.first c.args.number) _ _ c.partition_point-later.ensures.partitioned parted (λ a r q k. search rules) in
    let some : 1 ≤ c.partition_point-later.result = some_table c.args.tables.now c.args.number c.partition_point-later.result c.requires.stacked c.requires.within (λ k d from to. leb-false _ _ (point.1 k d from to)) in
    let bound = c.partition_point-later.ensures.bound in
    let d = c.index-tables-later.result in
    let from = leb-true _ _ (point.0 (c.partition_point-later.result - 1) d (omega arith) (omega arith)) in
    rw c.index-tables-later.is (has_element c.args.tables.now c.args.number _ from
    (there c.args.number d 0 c.args.tables.now (c.partition_point-later.result - 1) c.requires.stacked (omega arith) from
    (λ less. leb-false _ _ (point.1 (c.partition_point-later.result - 1 + 1) d (omega arith) less)) (omega arith) (omega (arith, c.requires.within))))
