-- The places of uses of variables among the keys of a set that holds them.
use Rattle.std.proofs.Common.{◌≡◌, ◌∙◌, refl, sym, ap, ℕ, ◌+◌, Bool, true, false, cond, List, [], ◌∷◌, ◌++◌, length, map, Some, None}
use Rattle.std.specs.Prelude.{◌||◌, not, position, nat_lt}
use Rattle.std.specs.List.{list_any, position_or_len}
use Rattle.std.proofs.lemmas.List.{map-append}
use Rattle.typed_query.specs.declared.query.Capture.{Capture}
use Rattle.typed_expr.specs.Uses.{same_use, with_use}
use Rattle.typed_expr.proofs.Lists.{position-none}

any_map : {K : Type 0} (f : K → Capture) (a : Capture) (keys : List K) → list_any (λ k. same_use a (f k)) keys ≡ list_any (same_use a) (map f keys)
any_map f a [] = refl
any_map f a (k ∷ ks) = ap (λ b. same_use a (f k) || b) (any_map f a ks)

-- the keys after an insert
pub inserted : {K : Type 0} (f : K → Capture) (k : K) (keys : List K) → map f (cond (list_any (λ x. same_use (f k) (f x)) keys) keys (keys ++ k ∷ [])) ≡ with_use (map f keys) (f k)
inserted f k keys = by_test (list_any (λ x. same_use (f k) (f x)) keys) refl
  where
    by_test : (b : Bool) → list_any (λ x. same_use (f k) (f x)) keys ≡ b → map f (cond (list_any (λ x. same_use (f k) (f x)) keys) keys (keys ++ k ∷ [])) ≡ with_use (map f keys) (f k)
    by_test true is = rw (is, sym (any_map f (f k) keys) ∙ is) refl
    by_test false is = rw (is, sym (any_map f (f k) keys) ∙ is, map-append f keys (k ∷ [])) refl

placed : {K : Type 0} (f : K → Capture) (a : Capture) (keys : List K) → position_or_len (λ k. same_use a (f k)) keys ≡ position_or_len (same_use a) (map f keys)
placed f a [] = refl
placed f a (k ∷ ks) = ap (λ n. cond (not (same_use a (f k))) (1 + n) 0) (placed f a ks)

found : {K : Type 0} (p : K → Bool) (keys : List K) (place : ℕ) → position p keys ≡ Some place → place ≡ position_or_len p keys
found p keys place is = by_test (nat_lt (position_or_len p keys) (length keys)) is
  where
    by_test : (b : Bool) → cond b (Some (position_or_len p keys)) None ≡ Some place → place ≡ position_or_len p keys
    by_test true is = cc is
    by_test false is = cc is

-- the place of a use that is there, and of one that isn't
pub place-found : {K : Type 0} (f : K → Capture) (a : Capture) (keys : List K) (place : ℕ) → position (λ k. same_use a (f k)) keys ≡ Some place → place ≡ position_or_len (same_use a) (map f keys)
place-found f a keys place is = found (λ k. same_use a (f k)) keys place is ∙ placed f a keys

pub place-none : {K : Type 0} (f : K → Capture) (a : Capture) (keys : List K) → position (λ k. same_use a (f k)) keys ≡ None → length keys ≡ position_or_len (same_use a) (map f keys)
place-none f a keys none = position-none (λ k. same_use a (f k)) keys none ∙ placed f a keys
