-- A value that means something under texts is found to do so.
use Rattle.std.proofs.Common.{◌≡◌, ℕ, ℤ, pos, negsuc, ◌&&◌, true, false, not, List, length, refl, ap₂, arith, subst, int_lt}
use Rattle.std.specs.Prelude.{◌≤ℤ◌}
use Rattle.std.proofs.lemmas.Bool.{lt-ltb}
use Rattle.std.proofs.lemmas.Int.{ints}
use Rattle.adfs_base.specs.declared.value.Value.{Value}
use Rattle.adfs_base.specs.declared.value.Value.TheVariants as value
use Rattle.value_text.specs.Dates.{IsDay}
use Rattle.value_text.specs.Valid.{IsValid}
use Rattle.jiff_core.specs.Calendar.{day_count, days_from_civil, days_of_months, days_of_years}
use Rattle.plan_tree.specs.Told.{is_day, is_valid}

pub first_day : days_from_civil (pos 0) 1 1 ≡ negsuc 719527
unfolding days_from_civil day_count days_of_years days_of_months
first_day = refl

pub last_day : days_from_civil (pos 9999) 12 31 ≡ pos 2932896
unfolding days_from_civil day_count days_of_years days_of_months
last_day = refl

not-less : (a b : ℤ) → b ≤ℤ a → int_lt a b ≡ false
not-less a b le = grind (arith, ints, le)

pub day-found : (day : ℤ) → IsDay day → is_day day ≡ true
day-found day is =
    ap₂ (λ a b. not a && not b) (not-less day (negsuc 719527) (subst (λ z. z ≤ℤ day) first_day is.0))
    (not-less (pos 2932896) day (subst (λ z. day ≤ℤ z) last_day is.1))

pub valid-found : (texts : List (List ℕ)) (v : Value) → IsValid texts v → is_valid texts v ≡ true
valid-found texts value.Null is = refl
valid-found texts (value.Int n) is = refl
valid-found texts (value.Text n) is = lt-ltb n (length texts) is
valid-found texts (value.Bool b) is = refl
valid-found texts (value.Date day) is = day-found day is
