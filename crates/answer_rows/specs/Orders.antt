-- The orders of rows.
use Rattle.std.specs.Prelude.{ℕ, Bool, List, [], ◌∷◌, drop, slice_index_or, if◌then◌else◌}
use Rattle.std.specs.Cmp.Lexicographic.{slice_cmp}
use Rattle.std.specs.Ordering.{nat_cmp, ordering_reverse, ordering_then}
use Rattle.std.specs.declared.cmp.Ordering.{Ordering}
use Rattle.std.specs.declared.cmp.Ordering.TheVariants.{Equal}
use Rattle.adfs_base.specs.declared.value.Value.{Value}
use Rattle.adfs_base.specs.declared.value.Value.TheVariants as value
use Rattle.value_text.specs.Order.{value_order}

-- DESC turns the order of its key round, null included
abbrev pub directed : Bool → Ordering → Ordering
directed down order = if down then ordering_reverse order else order

-- the first key; null where there is none
abbrev pub first_key : List Value → Value
first_key keys = slice_index_or keys 0 value.Null

-- by the first key that differs, each in its direction
abbrev pub keys_order : List (List ℕ) → List Bool → List Value → List Value → Ordering
keys_order texts [] a b = Equal
keys_order texts (down ∷ downs) a b =
    ordering_then (directed down (value_order texts (first_key a) (first_key b))) (keys_order texts downs (drop 1 a) (drop 1 b))

-- by the first column that differs
abbrev pub row_order : List (List ℕ) → List Value → List Value → Ordering
row_order texts = slice_cmp (value_order texts)

-- by the first variable that stands for another element
abbrev pub numbers_order : List ℕ → List ℕ → Ordering
numbers_order = slice_cmp nat_cmp
