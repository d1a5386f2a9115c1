-- Where the columns of properties are found at once.
use Rattle.std.specs.Prelude.{◌≡◌, ℕ, ◌<◌, List, length, Option, Some, None, slice_index_or}
use Rattle.adfs_base.specs.declared.value.Kind.{Kind}
use Rattle.adfs_base.specs.declared.value.Kind.TheVariants as kind
use Rattle.element_store.specs.Columns.{Column, slot_of}
use Rattle.element_store.specs.declared.near.Held.{Held}
use Rattle.element_store.specs.declared.near.Held.TheVariants as held
use Rattle.element_store.specs.declared.near.Slot.{Slot}

abbrev pub kind_held : Held → Option Kind
kind_held held.Nothing = None
kind_held held.Int = Some kind.Int
kind_held held.Text = Some kind.Text
kind_held held.Bool = Some kind.Bool
kind_held held.Date = Some kind.Date

abbrev pub held_of : Kind → Held
held_of kind.Int = held.Int
held_of kind.Text = held.Text
held_of kind.Bool = held.Bool
held_of kind.Date = held.Date

-- the place and the kind of the column of which a slot tells
abbrev pub column_at : ℕ → Option Kind → Option (ℕ × Kind)
column_at place None = None
column_at place (Some kind) = Some (place, kind)

abbrev pub told_by : Slot → Option (ℕ × Kind)
told_by slot = column_at slot.place (kind_held slot.held)

-- what stands for a slot beyond the last
abbrev pub no_slot : Slot
no_slot = record { held = held.Int; place = 0 }

-- The columns of properties stand at the properties' numbers.
abbrev pub AreNear : List Slot → List Column → Type 0
AreNear near columns = (property : ℕ) → property < length near → told_by (slice_index_or near property no_slot) ≡ slot_of columns property
