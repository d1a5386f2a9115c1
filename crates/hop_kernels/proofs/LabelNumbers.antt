-- A label has one number among texts that differ.
use Rattle.std.proofs.Common.{◌≡◌, ℕ, zero, suc, ◌<◌, ◌≤◌, ◌⊎◌, Bool, true, false, cond, ◌&&◌, ◌||◌, ◌==◌, List, [], ◌∷◌, length, get_or, replicate, Some, None, refl, sym, ap, ◌∙◌, arith, inl, inr}
use Rattle.std.specs.Str.{bytes_eq}
use Rattle.std.specs.Prelude.{nat_lt}
use Rattle.std.specs.List.{IsDistinct, list_any, position, position_or_len}
use Rattle.std.proofs.lemmas.Bool.{cases_eq, eq-eqb, false≢true, ne_eqb}
use Rattle.std.proofs.lemmas.List.Quantifiers.{position-Some}
use Rattle.std.proofs.lemmas.Map.Keys.{apart_from_distinct}
use Rattle.std.proofs.lemmas.Slice.Eq.{bytes_eq-Decides}
use Rattle.element_store.proofs.PositionFacts.{any_place}
use Rattle.pgql_meaning.specs.Fits.{is_in_lists}
use Rattle.value_text.specs.Texts.{text_at}
use Rattle.hop_kernels.specs.declared.labels.LabelTest.TheVariants.{Any, Listed}

same : (a b : List ℕ) → a ≡ b → bytes_eq a b ≡ true
same a b is = (bytes_eq-Decides a b).1 is

-- one label in one list
one-list : (text name : List ℕ) (b : Bool) → bytes_eq text name ≡ b → is_in_lists text ((name ∷ []) ∷ []) ≡ b
one-list text name true is = ap (λ c. (c || false) && true) is
one-list text name false is = ap (λ c. (c || false) && true) is

differs : (text name : List ℕ) → (text ≡ name → ⊥) → bytes_eq text name ≡ false
differs text name apart = at_answer (bytes_eq text name) refl where
  at_answer : (b : Bool) → bytes_eq text name ≡ b → bytes_eq text name ≡ false
  at_answer true is = absurd (apart ((bytes_eq-Decides text name).0 is))
  at_answer false is = is

-- past the end there is no text
past : (texts : List (List ℕ)) (k : ℕ) → length texts ≤ k → text_at texts k ≡ []
past [] k over = refl
past (t ∷ texts) zero over = absurd (omega arith)
past (t ∷ texts) (suc k) over = past texts k (omega arith)

not-empty : (name : List ℕ) → 0 < length name → [] ≡ name → ⊥
not-empty name some is = let e : length name ≡ 0 = ap length (sym is) in omega arith

lower_or_not : (a b : ℕ) → (a < b) ⊎ (b ≤ a)
lower_or_not zero zero = inr (omega arith)
lower_or_not zero (suc b) = inl (omega arith)
lower_or_not (suc a) zero = inr (omega arith)
lower_or_not (suc a) (suc b) = elim (lower_or_not a b) [ inl less ↦ inl (omega arith) | inr more ↦ inr (omega arith) ]

-- the text of another number is another
others-differ : (texts : List (List ℕ)) (name : List ℕ) (n k : ℕ) → IsDistinct bytes_eq texts → n < length texts → get_or texts n [] ≡ name → 0 < length name
    → (k ≡ n → ⊥) → text_at texts k ≡ name → ⊥
others-differ texts name n k distinct below at some other is = at_side (lower_or_not k n) where
  within : n ≤ k → (k < length texts) ⊎ (length texts ≤ k) → ⊥
  within more (inl low) =
      let less : n < k = omega arith in
      false≢true (sym (apart_from_distinct bytes_eq texts n k [] distinct less low) ∙ same (get_or texts n []) (get_or texts k []) (at ∙ sym is))
  within more (inr over) = not-empty name some (sym (past texts k over) ∙ is)

  at_side : (k < n) ⊎ (n ≤ k) → ⊥
  at_side (inl less) = false≢true (sym (apart_from_distinct bytes_eq texts k n [] distinct less below) ∙ same (get_or texts k []) (get_or texts n []) (is ∙ sym at))
  at_side (inr more) = within more (lower_or_not k (length texts))

pub one-number : (texts : List (List ℕ)) (name : List ℕ) (n k : ℕ) → IsDistinct bytes_eq texts → position (bytes_eq name) texts ≡ Some n → 0 < length name
    → (k == n) ≡ is_in_lists (text_at texts k) ((name ∷ []) ∷ [])
one-number texts name n k distinct found some = at_side (cases_eq k n) where
  place : (n < length texts) × (bytes_eq name (get_or texts n []) ≡ true) × ((j : ℕ) → j < n → bytes_eq name (get_or texts j []) ≡ false)
  place = position-Some (bytes_eq name) texts n [] found

  at_side : (k ≡ n) ⊎ (k ≡ n → ⊥) → (k == n) ≡ is_in_lists (text_at texts k) ((name ∷ []) ∷ [])
  at_side (inl is) =
      eq-eqb k n is
      ∙ sym (one-list (text_at texts k) name true (same (text_at texts k) name (ap (text_at texts) is ∙ sym ((bytes_eq-Decides name (get_or texts n [])).0 place.1))))
  at_side (inr other) =
      ne_eqb k n other
      ∙ sym (one-list (text_at texts k) name false (differs (text_at texts k) name
      (others-differ texts name n k distinct place.0 (sym ((bytes_eq-Decides name (get_or texts n [])).0 place.1)) some other)))

left-false : (b c : Bool) → (b || c) ≡ false → b ≡ false
left-false true c is = is
left-false false c is = refl

right-false : (b c : Bool) → (b || c) ≡ false → c ≡ false
right-false true c is = absurd (false≢true (sym is))
right-false false c is = is

none-passes : (p : List ℕ → Bool) (texts : List (List ℕ)) (k : ℕ) → list_any p texts ≡ false → k < length texts → p (get_or texts k []) ≡ false
none-passes p [] k none below = absurd (omega arith)
none-passes p (t ∷ texts) zero none below = left-false (p t) (list_any p texts) none
none-passes p (t ∷ texts) (suc k) none below = none-passes p texts k (right-false (p t) (list_any p texts) none) (omega arith)

any-none : (p : List ℕ → Bool) (texts : List (List ℕ)) → position p texts ≡ None → list_any p texts ≡ false
any-none p texts none = any_place p texts ∙ at_answer (nat_lt (position_or_len p texts) (length texts)) none where
  at_answer : (b : Bool) → cond b (Some (position_or_len p texts)) None ≡ None → b ≡ false
  at_answer true is = cc
  at_answer false is = refl

pub no-number : (texts : List (List ℕ)) (name : List ℕ) (k : ℕ) → position (bytes_eq name) texts ≡ None → 0 < length name
    → false ≡ is_in_lists (text_at texts k) ((name ∷ []) ∷ [])
no-number texts name k none some = sym (one-list (text_at texts k) name false (differs (text_at texts k) name (absent (lower_or_not k (length texts))))) where
  absent : (k < length texts) ⊎ (length texts ≤ k) → text_at texts k ≡ name → ⊥
  absent (inl low) is =
      false≢true (sym (none-passes (bytes_eq name) texts k (any-none (bytes_eq name) texts none) low) ∙ same name (get_or texts k []) (sym is))
  absent (inr over) is = not-empty name some (sym (past texts k over) ∙ is)

-- where all tests ask the texts, each does
pub all-listed : (n v : ℕ) → v < n → get_or (replicate n Listed) v Any ≡ Listed
all-listed zero v below = absurd (omega arith)
all-listed (suc n) zero below = refl
all-listed (suc n) (suc v) below = all-listed n v (omega arith)
