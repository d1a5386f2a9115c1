use Rattle.std.proofs.Common.{◌≡◌, ℕ, Bool, List, OnOk, cond, subst}
use Rattle.std.specs.List.{dedup}
use Rattle.sorted_lists.specs.Sorted.{before_by, in_order}
use Rattle.answer_rows.specs.Arranged.{Arrangement, Shown, has_row, kept, match_order, rows_order}
use Rattle.answer_rows.proofs.Kept.{in_order-kept}
use Rattle.answer_rows.proofs.arrange.arrange.Goals as goal

-- the steps, one after the other
joined : (texts : List (List ℕ)) (arrangement : Arrangement) (matches left : List Shown) (distinct : Bool) → distinct ≡ arrangement.distinct
    → left ≡ cond distinct (dedup (has_row texts) (in_order (before_by (rows_order texts)) matches)) matches
    → in_order (before_by (match_order texts arrangement)) left ≡ in_order (before_by (match_order texts arrangement)) (kept texts arrangement.distinct matches)
joined texts arrangement matches left distinct same is_left = rw (is_left, same) (in_order-kept texts arrangement matches)

pub returns : goal.returns
returns c =
    let whole = joined c.args.texts.now c.args.arrangement.now c.args.matches.now.items c.keep.new.matches.items c.distinct.result c.distinct.ensures c.in_ok-keep.ensures in
    subst (λ items. OnOk c.sort.result (c.sort.new.matches.items ≡ items)) whole c.sort.ensures
