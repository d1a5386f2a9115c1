use Rattle.std.proofs.Common.{◌≡◌, ℕ, List, Option, IfOk, map, subst, refl}
use Rattle.sorted_lists.specs.Sorted.{before_by, in_order}
use Rattle.answer_rows.specs.Arranged.{Arrangement, Shown, kept, limited, match_order, rows_of}
use Rattle.answer_rows.proofs.Cut.{map-limited}
use Rattle.answer_rows.proofs.arrange.rows_in_order.Goals as goal

-- the steps, one after the other
joined : (texts : List (List ℕ)) (arrangement : Arrangement) (matches arranged cut : List Shown) (most : Option ℕ) → most ≡ arrangement.limit
    → arranged ≡ in_order (before_by (match_order texts arrangement)) (kept texts arrangement.distinct matches) → cut ≡ limited most arranged
    → map (λ (m : Shown). m.row) cut ≡ rows_of texts arrangement matches
joined texts arrangement matches arranged cut most same_most is_arranged is_cut =
    rw (is_cut, map-limited (λ (m : Shown). m.row) most arranged, is_arranged, same_most) refl

pub returns : goal.returns
returns c =
    let whole = joined c.args.texts.now c.args.arrangement.now c.args.matches.items c.arrange.new.matches.items c.limit.new.matches.items c.most.result
    c.most.ensures c.in_ok-arrange.ensures c.limit.ensures in
    subst (λ rows. IfOk c.rows.result (λ found. found.items ≡ rows)) whole c.rows.ensures
