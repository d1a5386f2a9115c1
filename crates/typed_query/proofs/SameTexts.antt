-- Texts that are there differ from one another.
use Rattle.std.proofs.Common.{◌≡◌, ◌∙◌, ap, refl, arith, ◌<◌, ◌≤◌, ℕ, Bool, true, false, List, [], length}
use Rattle.std.specs.Prelude.{nat_lt}
use Rattle.std.specs.Cmp.Lexicographic.{slice_cmp}
use Rattle.std.specs.List.{IsDistinct}
use Rattle.std.specs.Ordering.{is_eq, nat_cmp}
use Rattle.std.specs.Str.{bytes_eq}
use Rattle.std.specs.declared.cmp.Ordering.{Ordering}
use Rattle.std.proofs.lemmas.Bool.Decides.{nat_tests}
use Rattle.std.proofs.lemmas.Cmp.{nat_list_cmp_total, nat_list_eq_equiv, same_from_slice_cmp, tied_itself}
use Rattle.std.proofs.lemmas.Map.Keys.{apart_from_distinct}
use Rattle.value_text.specs.Texts.{text_at}

same_bytes : (xs ys : List ℕ) (o : Ordering) → o ≡ slice_cmp nat_cmp xs ys → is_eq o ≡ bytes_eq xs ys
same_bytes = same_from_slice_cmp nat_cmp is_eq bytes_eq refl (λ _ _. refl) (λ _ _. refl) (λ x y xs ys o h. grind (arith, nat_tests))

-- a text is equal to itself
pub equal_itself : (text : List ℕ) → is_eq (slice_cmp nat_cmp text text) ≡ true
equal_itself text = ap is_eq (tied_itself nat_list_cmp_total text)

-- texts of two numbers differ, where both are there
pub texts_differ : (texts : List (List ℕ)) (a b : ℕ) → IsDistinct bytes_eq texts → a < length texts → b < length texts → (a ≡ b → ⊥)
    → is_eq (slice_cmp nat_cmp (text_at texts a) (text_at texts b)) ≡ false
texts_differ texts a b distinct here there apart = by_order (nat_lt a b) refl
  where
    differ : bytes_eq (text_at texts a) (text_at texts b) ≡ false → is_eq (slice_cmp nat_cmp (text_at texts a) (text_at texts b)) ≡ false
    differ is = same_bytes (text_at texts a) (text_at texts b) (slice_cmp nat_cmp (text_at texts a) (text_at texts b)) refl ∙ is

    by_order : (t : Bool) → nat_lt a b ≡ t → is_eq (slice_cmp nat_cmp (text_at texts a) (text_at texts b)) ≡ false
    by_order true is = differ (apart_from_distinct bytes_eq texts a b [] distinct (grind (arith, nat_tests)) there)
    by_order false is =
        differ (nat_list_eq_equiv.symm (text_at texts a) (text_at texts b) ∙ apart_from_distinct bytes_eq texts b a [] distinct (grind (arith, nat_tests)) here)
