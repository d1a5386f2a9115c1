-- The text of a value.
use Rattle.std.specs.Prelude.{◌≡◌, ℕ, ◌==◌, ◌||◌, Bool, true, false, if◌then◌else◌, ℤ, pos, negsuc, suc, List, [], ◌∷◌, ◌++◌, length, codes}
use Rattle.std.specs.List.{list_any, flat_map}
use Rattle.std.specs.Fmt.{decimal}
use Rattle.adfs_base.specs.declared.value.Value.{Value}
use Rattle.adfs_base.specs.declared.value.Value.TheVariants as value
use Rattle.value_text.specs.Dates.{date_text}
use Rattle.value_text.specs.Texts.{text_at}

-- a comma, a double quote, a carriage return or a line feed
abbrev pub is_special : ℕ → Bool
is_special b = (b == 44) || (b == 34) || (b == 13) || (b == 10)

abbrev pub doubled : ℕ → List ℕ
doubled b = if b == 34 then 34 ∷ 34 ∷ [] else b ∷ []

-- a text; where it is empty or has a special byte, in double quotes with those inside doubled
abbrev pub shown_text : List ℕ → List ℕ
shown_text text =
    if (length text == 0) || list_any is_special text then 34 ∷ flat_map doubled text ++ 34 ∷ []
    else text

-- decimal digits, after `-` where negative
abbrev pub shown_int : ℤ → List ℕ
shown_int (pos n) = decimal n
shown_int (negsuc n) = 45 ∷ decimal (suc n)

abbrev pub shown_bool : Bool → List ℕ
shown_bool true = codes "true"
shown_bool false = codes "false"

-- what a value shows; null shows nothing
abbrev pub shown : List (List ℕ) → Value → List ℕ
shown texts value.Null = []
shown texts (value.Int n) = shown_int n
shown texts (value.Text number) = shown_text (text_at texts number)
shown texts (value.Bool b) = shown_bool b
shown texts (value.Date day) = date_text day

-- The new bytes are the old with the text at their end.
abbrev pub Appends : List ℕ → List ℕ → List ℕ → Type 0
Appends old new text = new ≡ old ++ text

-- The new bytes begin with the old.
abbrev pub Grows : List ℕ → List ℕ → Type 0
Grows old new = (rest : List ℕ) × (new ≡ old ++ rest)
