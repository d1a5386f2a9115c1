-- What names stand for, as variables are added at the end.
use Rattle.std.proofs.Common.{◌≡◌, ◌∙◌, refl, sym, ap, ℕ, suc, ◌+◌, ◌<◌, Bool, true, false, if◌then◌else◌, List, [], ◌∷◌, ◌++◌, length, get_or, Option, Some, None, arith}
use Rattle.std.specs.Prelude.{not, is_some, nat_lt, position}
use Rattle.std.specs.List.{list_any, position_or_len, slice_get}
use Rattle.std.proofs.lemmas.Bool.Decides.{nat_tests}
use Rattle.value_text.specs.Texts.{with_text}
use Rattle.pattern_scope.proofs.Added.{position-within}
use Rattle.std.specs.Str.{bytes_eq}
use Rattle.std.proofs.lemmas.Slice.Eq.{bytes_eq-Decides}
use Rattle.std.proofs.lemmas.Cmp.{nat_list_eq_equiv}
use Rattle.std.proofs.lemmas.List.{length-append}
use Rattle.std.proofs.lemmas.Option.{slice_get-get_or}
use Rattle.pattern_scope.specs.declared.scope.Declared.{Declared}
use Rattle.pattern_scope.specs.Names.{IsIndexed, is_name, variable_from, variable_of}

-- the first of two that is there
abbrev first_of_two : {X : Type 0} → Option X → Option X → Option X
first_of_two (Some x) other = Some x
first_of_two None other = other

first_alone : {X : Type 0} (found : Option X) → first_of_two found None ≡ found
first_alone (Some x) = refl
first_alone None = refl

variable-push : (n : ℕ) (variables : List Declared) (last : Declared) (name : List ℕ)
    → variable_from n (variables ++ last ∷ []) name ≡ first_of_two (variable_from n variables name) (if is_name name last.name then Some (n + length variables, last.edge) else None)
variable-push n [] last name = ap (λ k. if is_name name last.name then Some (k, last.edge) else None) (let same : n ≡ n + 0 = omega arith in same)
variable-push n (v ∷ variables) last name = by_test (is_name name v.name) (variable-push (n + 1) variables last name)
  where
    further : n + 1 + length variables ≡ n + suc (length variables)
    further = omega arith

    by_test : (t : Bool)
        → variable_from (n + 1) (variables ++ last ∷ []) name
        ≡ first_of_two (variable_from (n + 1) variables name) (if is_name name last.name then Some (n + 1 + length variables, last.edge) else None)
        → (if t then Some (n, v.edge) else variable_from (n + 1) (variables ++ last ∷ []) name)
        ≡ first_of_two (if t then Some (n, v.edge) else variable_from (n + 1) variables name) (if is_name name last.name then Some (n + length (v ∷ variables), last.edge) else None)
    by_test true rest = refl
    by_test false rest = rest ∙ ap (λ k. first_of_two (variable_from (n + 1) variables name) (if is_name name last.name then Some (k, last.edge) else None)) further

looked_up-push : {X : Type 0} (names : List (List ℕ)) (first : List X) (last : List ℕ) (x : X) (name : List ℕ) → length first ≡ length names
    → slice_get (first ++ x ∷ []) (position_or_len (bytes_eq name) (names ++ last ∷ []))
    ≡ first_of_two (slice_get first (position_or_len (bytes_eq name) names)) (if bytes_eq name last then Some x else None)
looked_up-push [] [] last x name as_many = by_test (bytes_eq name last)
  where
    by_test : (t : Bool) → slice_get (x ∷ []) (if not t then 1 + 0 else 0) ≡ (if t then Some x else None)
    by_test true = refl
    by_test false = refl
looked_up-push [] (f ∷ first) last x name as_many = absurd (omega arith)
looked_up-push (n ∷ names) [] last x name as_many = absurd (omega arith)
looked_up-push (n ∷ names) (f ∷ first) last x name as_many = by_test (bytes_eq name n) (looked_up-push names first last x name (omega arith))
  where
    one : (k : ℕ) → 1 + k ≡ suc k
    one k = omega arith

    by_test : (t : Bool) → slice_get (first ++ x ∷ []) (position_or_len (bytes_eq name) (names ++ last ∷ []))
        ≡ first_of_two (slice_get first (position_or_len (bytes_eq name) names)) (if bytes_eq name last then Some x else None)
        → slice_get (f ∷ (first ++ x ∷ [])) (if not t then 1 + position_or_len (bytes_eq name) (names ++ last ∷ []) else 0)
        ≡ first_of_two (slice_get (f ∷ first) (if not t then 1 + position_or_len (bytes_eq name) names else 0)) (if bytes_eq name last then Some x else None)
    by_test true rest = refl
    by_test false rest =
        ap (slice_get (f ∷ (first ++ x ∷ []))) (one (position_or_len (bytes_eq name) (names ++ last ∷ [])))
        ∙ rest
        ∙ ap (λ k. first_of_two (slice_get (f ∷ first) k) (if bytes_eq name last then Some x else None)) (sym (one (position_or_len (bytes_eq name) names)))

module _ (variables : List Declared) (names : List (List ℕ)) (first : List (ℕ × Bool)) (indexed : IsIndexed variables names first) where
  -- a variable without a name
  pub indexed-nameless : (edge : Bool) → IsIndexed (variables ++ record { name = None; edge = edge } ∷ []) names first
  indexed-nameless edge = record {
    one_each = indexed.one_each;
    looked_up = λ name. variable-push 0 variables (record { name = None; edge = edge }) name ∙ first_alone (variable_from 0 variables name) ∙ indexed.looked_up name;
  }

  -- a name that a variable has already
  pub indexed-again : (own : List ℕ) (edge : Bool) → position_or_len (bytes_eq own) names < length names → IsIndexed (variables ++ record { name = Some own; edge = edge } ∷ []) names first
  indexed-again own edge here = record {
    one_each = indexed.one_each;
    looked_up = λ name. variable-push 0 variables (record { name = Some own; edge = edge }) name ∙ stays name (bytes_eq own name) refl ∙ indexed.looked_up name;
  }
    where
      entry : (d : ℕ × Bool) → variable_of variables own ≡ Some (get_or first (position_or_len (bytes_eq own) names) d)
      entry d = indexed.looked_up own ∙ slice_get-get_or first (position_or_len (bytes_eq own) names) d (omega (arith, indexed.one_each, here))

      kept : (found : Option (ℕ × Bool)) (x y : ℕ × Bool) → found ≡ Some x → first_of_two found (Some y) ≡ found
      kept (Some z) x y is = refl
      kept None x y is = absurd cc

      stays : (name : List ℕ) (t : Bool) → bytes_eq own name ≡ t
          → first_of_two (variable_from 0 variables name) (if t then Some (0 + length variables, edge) else None) ≡ variable_of variables name
      stays name true is =
          let same : own ≡ name = (bytes_eq-Decides own name).0 is in
          kept (variable_of variables name) (get_or first (position_or_len (bytes_eq own) names) (0, edge)) (0 + length variables, edge)
          (ap (variable_of variables) (sym same) ∙ entry (0, edge))
      stays name false is = first_alone (variable_from 0 variables name)

  -- a new name
  pub indexed-new : (own : List ℕ) (number : ℕ) (edge : Bool) → length variables ≡ number
      → IsIndexed (variables ++ record { name = Some own; edge = edge } ∷ []) (names ++ own ∷ []) (first ++ (number, edge) ∷ [])
  indexed-new own number edge counted = record {
    one_each = length-append first ((number, edge) ∷ []) ∙ ap (λ n. n + 1) indexed.one_each ∙ sym (length-append names (own ∷ []));
    looked_up = λ name.
        variable-push 0 variables (record { name = Some own; edge = edge }) name
        ∙ ap (λ found. first_of_two found (if bytes_eq own name then Some (0 + length variables, edge) else None)) (indexed.looked_up name)
        ∙ ap (λ n. first_of_two (slice_get first (position_or_len (bytes_eq name) names)) (if bytes_eq own name then Some (n, edge) else None)) (let same : 0 + length variables ≡ number = omega (arith, counted) in same)
        ∙ ap (λ t. first_of_two (slice_get first (position_or_len (bytes_eq name) names)) (if t then Some (number, edge) else None)) (nat_list_eq_equiv.symm own name)
        ∙ sym (looked_up-push names first own (number, edge) name indexed.one_each);
  }

pub indexed-nothing : IsIndexed [] [] []
indexed-nothing = record { one_each = refl; looked_up = λ name. refl }

-- what was found stands before the end
pub found_within : (p : List ℕ → Bool) (xs : List (List ℕ)) (found : Option ℕ) → found ≡ position p xs → is_some found ≡ true → position_or_len p xs < length xs
found_within p xs found is some = by_test (nat_lt (position_or_len p xs) (length xs)) refl (sym (ap is_some is) ∙ some)
  where
    by_test : (t : Bool) → nat_lt (position_or_len p xs) (length xs) ≡ t → is_some (if t then Some (position_or_len p xs) else None) ≡ true → position_or_len p xs < length xs
    by_test true below some = grind (arith, nat_tests)
    by_test false below some = absurd cc

-- a text that isn't found goes to the end
pub with_text-new : (texts : List (List ℕ)) (text : List ℕ) (found : Option ℕ) → found ≡ position (bytes_eq text) texts → is_some found ≡ false → with_text texts text ≡ texts ++ text ∷ []
with_text-new texts text found is none = by_test (list_any (bytes_eq text) texts) refl
  where
    is_there : list_any (bytes_eq text) texts ≡ true → is_some (position (bytes_eq text) texts) ≡ true
    is_there any = let below = position-within (bytes_eq text) texts any in rw (let lt : nat_lt (position_or_len (bytes_eq text) texts) (length texts) ≡ true = grind (arith, nat_tests) in lt) refl

    by_test : (t : Bool) → list_any (bytes_eq text) texts ≡ t → (if t then texts else texts ++ text ∷ []) ≡ texts ++ text ∷ []
    by_test true any = absurd (let both : true ≡ false = sym (is_there any) ∙ sym (ap is_some is) ∙ none in cc)
    by_test false any = refl
