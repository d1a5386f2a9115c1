-- Values as words, by their kind.
use Rattle.std.specs.Prelude.{◌≡◌, ℕ, ◌==◌, if◌then◌else◌, Option, Some, None, ◌%◌, ◌^◌}
use Rattle.std.specs.Int.{w32, w64}
use Rattle.std.specs.Int.{cast_signed, cast_unsigned}
use Rattle.adfs_base.specs.declared.value.Kind.{Kind}
use Rattle.adfs_base.specs.declared.value.Kind.TheVariants as kind
use Rattle.adfs_base.specs.declared.value.Value.{Value}
use Rattle.adfs_base.specs.declared.value.Value.TheVariants as value

-- the value that a word says; none says null
abbrev pub value_from : Kind → Option ℕ → Value
value_from k None = value.Null
value_from kind.Int (Some n) = value.Int (cast_signed w64 n)
value_from kind.Text (Some n) = value.Text (n % 2 ^ 32)
value_from kind.Bool (Some n) = value.Bool (n == 1)
value_from kind.Date (Some n) = value.Date (cast_signed w32 (n % 2 ^ 32))

-- the word of a value of a kind; none where it is null or of another kind
abbrev pub word_from : Kind → Value → Option ℕ
word_from kind.Int (value.Int number) = Some (cast_unsigned w64 number)
word_from kind.Text (value.Text number) = Some number
word_from kind.Bool (value.Bool truth) = Some (if truth then 1 else 0)
word_from kind.Date (value.Date day) = Some (cast_unsigned w32 day)
word_from k v = None

-- The value is null or of this kind.
abbrev pub HasKind : Kind → Value → Type 0
HasKind k value.Null = Unit {0}
HasKind k (value.Int z) = k ≡ kind.Int
HasKind k (value.Text n) = k ≡ kind.Text
HasKind k (value.Bool b) = k ≡ kind.Bool
HasKind k (value.Date day) = k ≡ kind.Date
