-- The order of values.
use Rattle.std.specs.Prelude.{ℕ, Bool, true, false, List}
use Rattle.std.specs.Ordering.{int_cmp, nat_cmp}
use Rattle.std.specs.Cmp.Lexicographic.{slice_cmp}
use Rattle.std.specs.declared.cmp.Ordering.{Ordering}
use Rattle.std.specs.declared.cmp.Ordering.TheVariants.{Less, Equal, Greater}
use Rattle.adfs_base.specs.declared.value.Value.{Value}
use Rattle.adfs_base.specs.declared.value.Value.TheVariants as value
use Rattle.value_text.specs.Texts.{text_at}

-- false below true
abbrev pub bool_order : Bool → Bool → Ordering
bool_order false false = Equal
bool_order false true = Less
bool_order true false = Greater
bool_order true true = Equal

-- how high a value's kind stands: null above all
abbrev pub rank : Value → ℕ
rank (value.Int n) = 0
rank (value.Text number) = 1
rank (value.Bool b) = 2
rank (value.Date day) = 3
rank value.Null = 4

-- whole numbers by size, texts by their bytes, truth values, dates by day; values of two kinds by their rank
abbrev pub value_order : List (List ℕ) → Value → Value → Ordering
value_order texts (value.Int a) (value.Int b) = int_cmp a b
value_order texts (value.Text a) (value.Text b) = slice_cmp nat_cmp (text_at texts a) (text_at texts b)
value_order texts (value.Bool a) (value.Bool b) = bool_order a b
value_order texts (value.Date a) (value.Date b) = int_cmp a b
value_order texts a b = nat_cmp (rank a) (rank b)
