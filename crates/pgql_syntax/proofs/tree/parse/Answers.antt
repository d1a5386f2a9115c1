use Rattle.pgql_syntax.proofs.Answered.{tree_found, only_tree, fault_found, only_this}
use Rattle.std.proofs.Common.{◌≤◌, ◌+◌, length, Result, Ok, Err, IfOk}
use Rattle.pgql_tree.specs.Literals.{query_literals}
use Rattle.pgql_syntax.specs.Places.{IsTree}
use Rattle.pgql_syntax.proofs.Literals.{tree_few}
use Rattle.std.specs.List.{AllByRecursion}
use Rattle.pgql_tree.specs.AllPlaces.{query_places, IsWithin}
use Rattle.pgql_syntax.proofs.Spots.{tree_within}
use Rattle.pgql_syntax.proofs.tree.parse.Goals as goal

pub returns-clause-found : goal.returns-clause-found
returns-clause-found c = tree_found 64 c.args.base c.args.text.now c.answer_to.result c.answer_to.ensures

pub returns-clause-only : goal.returns-clause-only
returns-clause-only c = only_tree 64 c.args.base c.args.text.now c.answer_to.result c.answer_to.ensures

pub returns-clause-fault : goal.returns-clause-fault
returns-clause-fault c = fault_found 64 c.args.base c.args.text.now c.answer_to.result c.answer_to.ensures

pub returns-clause-only_fault : goal.returns-clause-only_fault
returns-clause-only_fault c = only_this 64 c.args.base c.args.text.now c.answer_to.result c.answer_to.ensures

if_ok : {A E : Type 0} (P Q : A → Type 0) (r : Result A E) → ((x : A) → P x → Q x) → IfOk r P → IfOk r Q
if_ok P Q (Ok x) f p = f x p
if_ok P Q (Err e) f p = tt

pub returns-clause-literals : goal.returns-clause-literals
returns-clause-literals c =
    if_ok (IsTree 64 c.args.base c.args.text.now) (λ q. length (query_literals q) ≤ length c.args.text.now) c.answer_to.result (tree_few 64 c.args.base c.args.text.now)
    (tree_found 64 c.args.base c.args.text.now c.answer_to.result c.answer_to.ensures)

pub returns-clause-places : goal.returns-clause-places
returns-clause-places c =
    if_ok (IsTree 64 c.args.base c.args.text.now) (λ q. AllByRecursion (IsWithin c.args.base (c.args.base + length c.args.text.now)) (query_places q)) c.answer_to.result (tree_within 64 c.args.base c.args.text.now)
    (tree_found 64 c.args.base c.args.text.now c.answer_to.result c.answer_to.ensures)
