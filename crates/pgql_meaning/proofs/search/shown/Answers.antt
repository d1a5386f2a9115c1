use Rattle.std.proofs.Common.{◌≡◌, ℕ, List, refl, ◌∙◌}
use Rattle.adfs_base.specs.declared.value.Value.{Value}
use Rattle.answer_rows.specs.Arranged.{Shown}
use Rattle.typed_query.specs.declared.query.Query.{Query}
use Rattle.pgql_meaning.specs.Answer.{order_by, row_by, shown_by}
use Rattle.pgql_meaning.proofs.search.shown.Goals as goal

-- keys and row, put together
joined : (texts : List (List ℕ)) (query : Query) (values keys row row' : List Value) (numbers : List ℕ) (found : Shown)
    → keys ≡ order_by texts query values → row ≡ row_by texts query values → row' ≡ row
    → found ≡ record { keys = keys; row = row'; numbers = numbers } → found ≡ shown_by texts query values numbers
joined texts query values keys row row' numbers found is_keys is_row is_row' is_found = is_found ∙ rw (is_row', is_row, is_keys) refl

pub returns : goal.returns
returns c =
    joined c.args.texts.now c.args.query.now c.args.values.now c.in_ok-keys.keys.items c.in_ok-row.row.items c.new.result c.args.numbers.items c.new-2.result
    (rw c.as_slice.ensures at c.in_ok-keys.ensures) (rw c.as_slice-2.ensures at c.in_ok-row.ensures) c.new.ensures c.new-2.ensures
