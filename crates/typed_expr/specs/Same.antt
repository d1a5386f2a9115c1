-- Expressions that are equal apart from their places.
use Rattle.std.specs.Prelude.{ℕ, ℤ, Bool, true, false, ◌==◌, ◌&&◌, not, List, Option, Some, None}
use Rattle.std.specs.Ordering.{int_eq}
use Rattle.std.specs.Str.{bytes_eq}
use Rattle.pgql_tree.specs.declared.ast.Op.{Op}
use Rattle.pgql_tree.specs.declared.ast.Op.TheVariants as op
use Rattle.pgql_tree.specs.declared.ast.AstExpr.{AstExpr, out-AstExpr}
use Rattle.pgql_tree.specs.declared.ast.AstExpr.TheOpen.{AstExpr-F}
use Rattle.pgql_tree.specs.declared.ast.AstExpr.TheFolds.{fold-AstExpr}

-- an operator's number
abbrev pub op_number : Op → ℕ
op_number op.Or = 0
op_number op.And = 1
op_number op.Equal = 2
op_number op.Unequal = 3
op_number op.Less = 4
op_number op.LessEqual = 5
op_number op.Greater = 6
op_number op.GreaterEqual = 7
op_number op.Add = 8
op_number op.Subtract = 9
op_number op.Multiply = 10
op_number op.Divide = 11
op_number op.Remainder = 12

abbrev pub same_op : Op → Op → Bool
same_op a b = op_number a == op_number b

abbrev pub same_truth : Bool → Bool → Bool
same_truth true b = b
same_truth false b = not b

abbrev pub same_number : ℤ → ℤ → Bool
same_number a b = int_eq a b

abbrev pub same_bytes : List ℕ → List ℕ → Bool
same_bytes a b = bytes_eq a b

abbrev pub is_int : ℤ → AstExpr-F AstExpr → Bool
is_int number (AstExpr-F.Int other at) = same_number number other
is_int number other = false

abbrev pub is_text : List ℕ → AstExpr-F AstExpr → Bool
is_text content (AstExpr-F.Text other at) = same_bytes content other
is_text content other = false

abbrev pub is_date : List ℕ → AstExpr-F AstExpr → Bool
is_date content (AstExpr-F.Date other at) = same_bytes content other
is_date content other = false

abbrev pub is_bool : Bool → AstExpr-F AstExpr → Bool
is_bool truth (AstExpr-F.Bool other at) = same_truth truth other
is_bool truth other = false

abbrev pub is_name : List ℕ → AstExpr-F AstExpr → Bool
is_name name (AstExpr-F.Name at other) = same_bytes name other
is_name name other = false

abbrev pub is_property : List ℕ → List ℕ → AstExpr-F AstExpr → Bool
is_property variable property (AstExpr-F.Property at other other_property) = same_bytes variable other && same_bytes property other_property
is_property variable property other = false

abbrev pub is_id : List ℕ → AstExpr-F AstExpr → Bool
is_id variable (AstExpr-F.Id other at) = same_bytes variable other.name
is_id variable other = false

abbrev pub is_label : List ℕ → AstExpr-F AstExpr → Bool
is_label variable (AstExpr-F.Label other at) = same_bytes variable other.name
is_label variable other = false

abbrev pub not_inside : AstExpr-F AstExpr → Option AstExpr
not_inside (AstExpr-F.Not inside at) = Some inside
not_inside other = None

abbrev pub neg_inside : AstExpr-F AstExpr → Option AstExpr
neg_inside (AstExpr-F.Neg inside at) = Some inside
neg_inside other = None

abbrev pub null_test_inside : AstExpr-F AstExpr → Option (AstExpr × Bool)
null_test_inside (AstExpr-F.IsNull inside negated at) = Some (inside, negated)
null_test_inside other = None

abbrev pub sides : AstExpr-F AstExpr → Option (Op × AstExpr × AstExpr)
sides (AstExpr-F.Binary o at left right) = Some (o, left, right)
sides other = None

abbrev pub is_inside : (AstExpr → Bool) → Option AstExpr → Bool
is_inside same_inside None = false
is_inside same_inside (Some other) = same_inside other

abbrev pub is_null_test : (AstExpr → Bool) → Bool → Option (AstExpr × Bool) → Bool
is_null_test same_inside negated None = false
is_null_test same_inside negated (Some other) = same_truth negated other.1 && same_inside other.0

abbrev pub is_binary : Op → (AstExpr → Bool) → (AstExpr → Bool) → Option (Op × AstExpr × AstExpr) → Bool
is_binary o same_left same_right None = false
is_binary o same_left same_right (Some other) = same_op o other.0 && same_left other.1 && same_right other.2

abbrev pub same_of : AstExpr-F (AstExpr → Bool) → AstExpr-F AstExpr → Bool
same_of (AstExpr-F.Int number at) = is_int number
same_of (AstExpr-F.Text content at) = is_text content
same_of (AstExpr-F.Date content at) = is_date content
same_of (AstExpr-F.Bool truth at) = is_bool truth
same_of (AstExpr-F.Name at name) = is_name name
same_of (AstExpr-F.Property at variable property) = is_property variable property
same_of (AstExpr-F.Id variable at) = is_id variable.name
same_of (AstExpr-F.Label variable at) = is_label variable.name
same_of (AstExpr-F.Not inside at) = λ other. is_inside inside (not_inside other)
same_of (AstExpr-F.Neg inside at) = λ other. is_inside inside (neg_inside other)
same_of (AstExpr-F.IsNull inside negated at) = λ other. is_null_test inside negated (null_test_inside other)
same_of (AstExpr-F.Binary o at left right) = λ other. is_binary o left right (sides other)

-- equal apart from places
unfoldable pub same : AstExpr → AstExpr → Bool
same = fold-AstExpr (AstExpr → Bool) (λ parts other. same_of parts (out-AstExpr other))
