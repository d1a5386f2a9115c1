-- Properties by their numbers, and how a table's header adds to them.
use Rattle.std.specs.Prelude.{◌≡◌, ℕ, ◌+◌, Bool, true, false, if◌then◌else◌, List, [], ◌∷◌, ◌++◌, length, slice_get, Option, Some, None}
use Rattle.std.specs.List.{AllByRecursion}
use Rattle.std.specs.Option.{option_map}
use Rattle.std.specs.Str.{bytes_eq}
use Rattle.adfs_base.specs.declared.value.Kind.{Kind}
use Rattle.adfs_base.specs.declared.value.Kind.TheVariants as kind
use Rattle.element_store.specs.Columns.{Column}

-- a property: its name, and the kind of its values
pub record Property : Type 0 where
  pub name : List ℕ
  pub type : Kind

-- the properties of vertices and those of edges
pub record SchemaLists : Type 0 where
  pub vertex : List Property
  pub edge : List Property

-- the number and the kind of the property with this name, where the first has number n
abbrev pub property_from : ℕ → List Property → List ℕ → Option (ℕ × Kind)
property_from n [] name = None
property_from n (p ∷ ps) name = if bytes_eq name p.name then Some (n, p.type) else property_from (n + 1) ps name

abbrev pub property_of : List Property → List ℕ → Option (ℕ × Kind)
property_of properties name = property_from 0 properties name

abbrev pub kind_eq : Kind → Kind → Bool
kind_eq kind.Int kind.Int = true
kind_eq kind.Int _ = false
kind_eq kind.Text kind.Text = true
kind_eq kind.Text _ = false
kind_eq kind.Bool kind.Bool = true
kind_eq kind.Bool _ = false
kind_eq kind.Date kind.Date = true
kind_eq kind.Date _ = false

abbrev pub placed_at : List Property → Property → Option (ℕ × Kind) → Option (ℕ × List Property)
placed_at properties p None = Some (length properties, properties ++ p ∷ [])
placed_at properties p (Some found) = if kind_eq found.1 p.type then Some (found.0, properties) else None

-- the number of a property and the properties with it, unless its name has another kind already
abbrev pub placed : List Property → Property → Option (ℕ × List Property)
placed properties p = placed_at properties p (property_of properties p.name)

-- Each column is of a property, and has its kind.
abbrev pub AreTyped : List Property → List Column → Type 0
AreTyped properties columns = AllByRecursion (λ c. option_map (λ p. p.type) (slice_get properties c.0) ≡ Some c.1) columns

-- The properties are the old ones, under the same numbers, and maybe more.
abbrev pub Extends : List Property → List Property → Type 0
Extends old new = (i : ℕ) (p : Property) → slice_get old i ≡ Some p → slice_get new i ≡ Some p
