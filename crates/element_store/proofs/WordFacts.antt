-- Words of values, and of values of other kinds.
use Rattle.std.proofs.Common.{◌≡◌, ◌≢◌, ◌∙◌, ap, refl, ℕ, Option, Some, None}
use Rattle.adfs_base.specs.declared.value.Kind.{Kind}
use Rattle.adfs_base.specs.declared.value.Kind.TheVariants as kind
use Rattle.adfs_base.specs.declared.value.Value.TheVariants as value
use Rattle.element_store.specs.declared.near.Slot.{Slot}
use Rattle.element_store.specs.Slots.{column_at, held_of, kind_held, told_by}
use Rattle.element_store.specs.Words.{value_from, word_from}

pub no_word_of_null : (k : Kind) → word_from k value.Null ≡ None
no_word_of_null kind.Int = refl
no_word_of_null kind.Text = refl
no_word_of_null kind.Bool = refl
no_word_of_null kind.Date = refl

kind_of_held : (k : Kind) → kind_held (held_of k) ≡ Some k
kind_of_held kind.Int = refl
kind_of_held kind.Text = refl
kind_of_held kind.Bool = refl
kind_of_held kind.Date = refl

-- the column of a slot that holds a kind
pub held_column : (slot : Slot) (k : Kind) → slot.held ≡ held_of k → told_by slot ≡ Some (slot.place, k)
held_column slot k is = ap (λ h. column_at slot.place (kind_held h)) is ∙ ap (column_at slot.place) (kind_of_held k)

-- a value of another kind has no word
pub no_word_of_other : (k other : Kind) (cell : Option ℕ) → held_of other ≢ held_of k → word_from k (value_from other cell) ≡ None
no_word_of_other k other None ne = no_word_of_null k
no_word_of_other kind.Int kind.Int (Some n) ne = absurd (ne refl)
no_word_of_other kind.Int kind.Text (Some n) ne = refl
no_word_of_other kind.Int kind.Bool (Some n) ne = refl
no_word_of_other kind.Int kind.Date (Some n) ne = refl
no_word_of_other kind.Text kind.Int (Some n) ne = refl
no_word_of_other kind.Text kind.Text (Some n) ne = absurd (ne refl)
no_word_of_other kind.Text kind.Bool (Some n) ne = refl
no_word_of_other kind.Text kind.Date (Some n) ne = refl
no_word_of_other kind.Bool kind.Int (Some n) ne = refl
no_word_of_other kind.Bool kind.Text (Some n) ne = refl
no_word_of_other kind.Bool kind.Bool (Some n) ne = absurd (ne refl)
no_word_of_other kind.Bool kind.Date (Some n) ne = refl
no_word_of_other kind.Date kind.Int (Some n) ne = refl
no_word_of_other kind.Date kind.Text (Some n) ne = refl
no_word_of_other kind.Date kind.Bool (Some n) ne = refl
no_word_of_other kind.Date kind.Date (Some n) ne = absurd (ne refl)
