-- The operators with two sides, and how tightly they bind.
use Rattle.std.specs.Prelude.{Option, Some, None}
use Rattle.pgql_lexemes.specs.declared.kind.Kind.{Kind}
use Rattle.pgql_lexemes.specs.declared.kind.Kind.TheVariants as k
use Rattle.pgql_tree.specs.declared.ast.Op.{Op}
use Rattle.pgql_tree.specs.declared.ast.Op.TheVariants as op
use Rattle.pgql_tree.specs.declared.level.Level.{Level}
use Rattle.pgql_tree.specs.declared.level.Level.TheVariants.{Or, And, Sum, Product}

-- the operators of a chain
abbrev pub operator : Level → Kind → Option Op
operator Or k.Or = Some op.Or
operator And k.And = Some op.And
operator Sum k.Plus = Some op.Add
operator Sum k.Minus = Some op.Subtract
operator Product k.Star = Some op.Multiply
operator Product k.Slash = Some op.Divide
operator Product k.Percent = Some op.Remainder
operator level kind = None

abbrev pub comparison : Kind → Option Op
comparison k.Equal = Some op.Equal
comparison k.Unequal = Some op.Unequal
comparison k.Less = Some op.Less
comparison k.LessEqual = Some op.LessEqual
comparison k.Greater = Some op.Greater
comparison k.GreaterEqual = Some op.GreaterEqual
comparison kind = None
