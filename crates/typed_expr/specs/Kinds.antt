-- The kind of each expression, or the first fault in it.
use Rattle.std.specs.Prelude.{ℕ, ℤ, Bool, true, false, if◌then◌else◌, List, Option, Some, None, Result, Ok, Err}
use Rattle.adfs_base.specs.declared.value.Kind.{Kind}
use Rattle.adfs_base.specs.declared.value.Kind.TheVariants as kind
use Rattle.pgql_tree.specs.declared.ast.Op.{Op}
use Rattle.pgql_tree.specs.declared.ast.Op.TheVariants as op
use Rattle.pgql_tree.specs.declared.ast.AstExpr.{AstExpr}
use Rattle.pgql_tree.specs.declared.ast.AstExpr.TheOpen.{AstExpr-F}
use Rattle.pgql_tree.specs.declared.ast.AstExpr.TheFolds.{fold-AstExpr}
use Rattle.value_text.specs.Dates.{date_cell}
use Rattle.pattern_scope.specs.declared.fault.TypeFault.{TypeFault}
use Rattle.pattern_scope.specs.declared.fault.TypeFault.TheVariants as fault
use Rattle.typed_expr.specs.declared.kinds.Checked.{Checked}
use Rattle.pattern_scope.specs.declared.scope.Declared.{Declared}
use Rattle.typed_expr.specs.Faults.{earlier}
use Rattle.pattern_scope.specs.Names.{variable_of}
use Rattle.graph_tables.specs.Properties.{SchemaLists, kind_eq, property_of}

abbrev pub Verdict : Type 0
Verdict = Result Kind TypeFault

-- a use of a variable has this kind, if there is that variable
abbrev pub used_as : Verdict → ℕ → Option (ℕ × Bool) → Verdict
used_as verdict at None = Err (fault.UnknownName at)
used_as verdict at (Some variable) = verdict

-- the property of a vertex or of an edge
abbrev pub property_in : SchemaLists → Bool → List ℕ → Option (ℕ × Kind)
property_in schema false name = property_of schema.vertex name
property_in schema true name = property_of schema.edge name

abbrev pub property_kind : ℕ → Option (ℕ × Kind) → Verdict
property_kind at None = Err (fault.UnknownProperty at)
property_kind at (Some property) = Ok property.1

abbrev pub kind_of_use : SchemaLists → List ℕ → ℕ → Option (ℕ × Bool) → Verdict
kind_of_use schema property at None = Err (fault.UnknownName at)
kind_of_use schema property at (Some variable) = property_kind at (property_in schema variable.1 property)

abbrev pub date_kind : ℕ → Option ℤ → Verdict
date_kind at None = Err (fault.BadDate at)
date_kind at (Some day) = Ok kind.Date

-- this kind is needed of a part at that place
abbrev pub needs : Kind → ℕ → Kind → Verdict
needs needed at given = if kind_eq given needed then Ok needed else Err (fault.KindMismatch at)

-- an operation with one part, which gives the kind that it needs
abbrev pub one_part : Kind → Checked → Verdict
one_part needed part = on_kind (needs needed part.at) part.kind
  where
    on_kind : (Kind → Verdict) → Verdict → Verdict
    on_kind f (Ok given) = f given
    on_kind f (Err e) = Err e

-- IS takes any kind
abbrev pub tested : Verdict → Verdict
tested (Ok given) = Ok kind.Bool
tested (Err e) = Err e

-- two sides of this kind, the left one first
abbrev pub two_of : Kind → ℕ → ℕ → Kind → Kind → Verdict
two_of needed left right a b = if kind_eq a needed then needs needed right b else Err (fault.KindMismatch left)

-- two sides of one kind
abbrev pub compared : ℕ → Kind → Kind → Verdict
compared right a b = if kind_eq a b then Ok kind.Bool else Err (fault.KindMismatch right)

-- an operator between sides of these kinds, by the places of the two
abbrev pub operated : Op → ℕ → ℕ → Kind → Kind → Verdict
operated op.Or left right a b = two_of kind.Bool left right a b
operated op.And left right a b = two_of kind.Bool left right a b
operated op.Equal left right a b = compared right a b
operated op.Unequal left right a b = compared right a b
operated op.Less left right a b = compared right a b
operated op.LessEqual left right a b = compared right a b
operated op.Greater left right a b = compared right a b
operated op.GreaterEqual left right a b = compared right a b
operated op.Add left right a b = two_of kind.Int left right a b
operated op.Subtract left right a b = two_of kind.Int left right a b
operated op.Multiply left right a b = two_of kind.Int left right a b
operated op.Divide left right a b = two_of kind.Int left right a b
operated op.Remainder left right a b = two_of kind.Int left right a b

-- an operation on two sides that may be faulty
abbrev pub on_kinds : (Kind → Kind → Verdict) → Verdict → Verdict → Verdict
on_kinds f (Ok a) (Ok b) = f a b
on_kinds f (Ok a) (Err e) = Err e
on_kinds f (Err e) (Ok b) = Err e
on_kinds f (Err e) (Err g) = Err (earlier e g)

-- an expression at a place whose parts were checked
abbrev pub checked_of : SchemaLists → List Declared → AstExpr-F Checked → Checked
checked_of schema variables (AstExpr-F.Int number at) = record { at = at; kind = Ok kind.Int }
checked_of schema variables (AstExpr-F.Text content at) = record { at = at; kind = Ok kind.Text }
checked_of schema variables (AstExpr-F.Date content at) = record { at = at; kind = date_kind at (date_cell content) }
checked_of schema variables (AstExpr-F.Bool truth at) = record { at = at; kind = Ok kind.Bool }
checked_of schema variables (AstExpr-F.Name at name) = record { at = at; kind = used_as (Err (fault.VariableKind at)) at (variable_of variables name) }
checked_of schema variables (AstExpr-F.Property at variable property) = record { at = at; kind = kind_of_use schema property at (variable_of variables variable) }
checked_of schema variables (AstExpr-F.Id variable at) = record { at = at; kind = used_as (Ok kind.Int) variable.at (variable_of variables variable.name) }
checked_of schema variables (AstExpr-F.Label variable at) = record { at = at; kind = used_as (Ok kind.Text) variable.at (variable_of variables variable.name) }
checked_of schema variables (AstExpr-F.Not inside at) = record { at = at; kind = one_part kind.Bool inside }
checked_of schema variables (AstExpr-F.Neg inside at) = record { at = at; kind = one_part kind.Int inside }
checked_of schema variables (AstExpr-F.IsNull inside negated at) = record { at = at; kind = tested inside.kind }
checked_of schema variables (AstExpr-F.Binary o at left right) = record { at = at; kind = on_kinds (operated o left.at right.at) left.kind right.kind }

-- an expression's place, and its kind or the first fault in it
unfoldable pub checked : SchemaLists → List Declared → AstExpr → Checked
checked schema variables = fold-AstExpr Checked (checked_of schema variables)
