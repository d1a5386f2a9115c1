-- Keys by their places.
use Rattle.std.proofs.Common.{◌≡◌, ◌∙◌, ◌≤◌, refl, arith, ◌+◌, ℕ, suc, Bool, true, false, cond, not, ◌||◌, nat_lt, List, [], ◌∷◌, ◌++◌, length, position, Some, None}
use Rattle.std.proofs.lemmas.Bool.Decides.{nat_tests}
use Rattle.std.specs.List.{list_any, position_or_len}
use Rattle.std.specs.Map.{keys_of}
use Rattle.indexmap.specs.IndexMap.{insert_entry}

pub any_place : {X : Type 0} (p : X → Bool) (ks : List X) → list_any p ks ≡ nat_lt (position_or_len p ks) (length ks)
any_place p [] = refl
any_place {X} p (k ∷ ks) = by (p k) (any_place p ks)
  where
    by : (b : Bool) → list_any p ks ≡ nat_lt (position_or_len p ks) (length ks) → (b || list_any p ks) ≡ nat_lt (cond (not b) (1 + position_or_len p ks) 0) (suc (length ks))
    by true e = grind (arith, nat_tests)
    by false e = e ∙ grind (arith, nat_tests)

-- a key that has no place isn't there
pub absent : {X : Type 0} (p : X → Bool) (ks : List X) → position p ks ≡ None → list_any p ks ≡ false
absent {X} p ks e = any_place p ks ∙ by (nat_lt (position_or_len p ks) (length ks)) e
  where
    by : (b : Bool) → cond b (Some (position_or_len p ks)) None ≡ None → b ≡ false
    by true f = cc f
    by false f = refl

-- the keys after a new key
pub keys_after : {X : Type 0} (eq : X → X → Bool) (k : X) (ks : List X) → position (eq k) ks ≡ None → cond (list_any (eq k) ks) ks (ks ++ k ∷ []) ≡ ks ++ k ∷ []
keys_after eq k ks none = rw (absent (eq k) ks none) refl

-- a new entry goes last
pub entries_without : {K V : Type 0} (eq : K → K → Bool) (k : K) (v : V) (es : List (K × V)) → list_any (eq k) (keys_of es) ≡ false → insert_entry eq es k v ≡ es ++ (k, v) ∷ []
entries_without eq k v [] none = refl
entries_without {K} {V} eq k v (e ∷ es) none = by (eq k e.0) none (entries_without eq k v es)
  where
    by : (b : Bool) → (b || list_any (eq k) (keys_of es)) ≡ false → (list_any (eq k) (keys_of es) ≡ false → insert_entry eq es k v ≡ es ++ (k, v) ∷ [])
        → cond b ((e.0, v) ∷ es) (e ∷ insert_entry eq es k v) ≡ e ∷ (es ++ (k, v) ∷ [])
    by true h more = cc h
    by false h more = rw (more h) refl

pub entries_after : {K V : Type 0} (eq : K → K → Bool) (k : K) (v : V) (es : List (K × V)) → position (eq k) (keys_of es) ≡ None → insert_entry eq es k v ≡ es ++ (k, v) ∷ []
entries_after eq k v es none = entries_without eq k v es (absent (eq k) (keys_of es) none)

module _ {A : Type 0} (p : A → Bool) (xs : List A) where
  -- a place that was found
  pub place_is : (n : ℕ) → position p xs ≡ Some n → position_or_len p xs ≡ n
  place_is n e = by (nat_lt (position_or_len p xs) (length xs)) e
    where
      by : (b : Bool) → cond b (Some (position_or_len p xs)) None ≡ Some n → position_or_len p xs ≡ n
      by true f = cc f
      by false f = cc f

  -- none was found
  pub no_place : position p xs ≡ None → length xs ≤ position_or_len p xs
  no_place e = by (nat_lt (position_or_len p xs) (length xs)) refl e
    where
      by : (b : Bool) → nat_lt (position_or_len p xs) (length xs) ≡ b → cond b (Some (position_or_len p xs)) None ≡ None → length xs ≤ position_or_len p xs
      by true t f = cc f
      by false t f = grind (arith, nat_tests)
