-- Texts that were there keep their numbers.
use Rattle.std.proofs.Common.{◌≡◌, ◌∙◌, sym, refl, ap, arith, ℕ, ◌<◌, ◌≤◌, List, [], length}
use Rattle.std.proofs.lemmas.List.{length-take, get_or-take}
use Rattle.adfs_base.specs.declared.value.Value.{Value}
use Rattle.adfs_base.specs.declared.value.Value.TheVariants as value
use Rattle.value_text.specs.Laws.{Stays}
use Rattle.value_text.specs.Shown.{shown_text}
use Rattle.value_text.specs.Texts.{Kept, text_at}
use Rattle.value_text.specs.Valid.{IsValid}

kept_length : (old new : List (List ℕ)) → Kept old new → length old ≤ length new
kept_length old new kept = omega (arith, ap length kept, length-take (length old) new)

text_at-Kept : (old new : List (List ℕ)) (number : ℕ) → Kept old new → number < length old → text_at new number ≡ text_at old number
text_at-Kept old new number kept below = sym (get_or-take (length old) new number [] below) ∙ ap (λ texts. text_at texts number) kept

pub values_stay : (old new : List (List ℕ)) (v : Value) → Kept old new → IsValid old v → Stays old new v
values_stay old new value.Null kept valid = record { valid = tt; shows = refl }
values_stay old new (value.Int n) kept valid = record { valid = tt; shows = refl }
values_stay old new (value.Text number) kept valid = record { valid = omega (arith, kept_length old new kept); shows = ap shown_text (text_at-Kept old new number kept valid) }
values_stay old new (value.Bool b) kept valid = record { valid = tt; shows = refl }
values_stay old new (value.Date day) kept valid = record { valid = valid; shows = refl }
