-- Properties by the places of their names.
use Rattle.std.proofs.Common.{◌≡◌, refl, arith, ◌≤◌, ◌+◌, ℕ, suc, Bool, true, false, cond, not, ◌||◌, List, [], ◌∷◌, length, map, slice_get, Some, None}
use Rattle.std.specs.List.{list_any, position_or_len}
use Rattle.std.specs.Map.{keys_of}
use Rattle.std.specs.Str.{bytes_eq}
use Rattle.adfs_base.specs.declared.value.Kind.{Kind}
use Rattle.graph_tables.specs.Properties.{Property, property_from}

module _ {K : Type 0} (f : K → List ℕ) (name : List ℕ) where
  abbrev pub listed : List (K × Kind) → List Property
  listed es = map (λ e. record { name = f e.0; type = e.1 }) es

  abbrev pub is_named : K → Bool
  is_named k = bytes_eq name (f k)

  pub property_found : (n : ℕ) (es : List (K × Kind)) (i : ℕ) (e : K × Kind) → position_or_len is_named (keys_of es) ≡ i → slice_get es i ≡ Some e
      → property_from n (listed es) name ≡ Some (n + i, e.1)
  property_found n [] i e at there = cc there
  property_found n (d ∷ ds) i e at there = by (is_named d.0) at (property_found (n + 1) ds)
    where
      by : (b : Bool) → cond (not b) (1 + position_or_len is_named (keys_of ds)) 0 ≡ i
          → ((j : ℕ) (e2 : K × Kind) → position_or_len is_named (keys_of ds) ≡ j → slice_get ds j ≡ Some e2 → property_from (n + 1) (listed ds) name ≡ Some (n + 1 + j, e2.1))
          → cond b (Some (n, d.1)) (property_from (n + 1) (listed ds) name) ≡ Some (n + i, e.1)
      by true here more =
          let one : slice_get (d ∷ ds) 0 ≡ Some e = rw (← here) at there in
          let same : d ≡ e = cc one in
          let place : n + i ≡ n = omega arith in
          rw (place, same) refl
      by false later more =
          let next : suc (position_or_len is_named (keys_of ds)) ≡ i = omega arith in
          let one : slice_get (d ∷ ds) (suc (position_or_len is_named (keys_of ds))) ≡ Some e = rw (← next) at there in
          let place : n + i ≡ n + 1 + position_or_len is_named (keys_of ds) = omega arith in
          rw place (more (position_or_len is_named (keys_of ds)) e refl one)

  pub property_absent : (n : ℕ) (es : List (K × Kind)) → length es ≤ position_or_len is_named (keys_of es) → property_from n (listed es) name ≡ None
  property_absent n [] h = refl
  property_absent n (d ∷ ds) h = by (is_named d.0) h (property_absent (n + 1) ds)
    where
      by : (b : Bool) → suc (length ds) ≤ cond (not b) (1 + position_or_len is_named (keys_of ds)) 0
          → (length ds ≤ position_or_len is_named (keys_of ds) → property_from (n + 1) (listed ds) name ≡ None)
          → cond b (Some (n, d.1)) (property_from (n + 1) (listed ds) name) ≡ None
      by true h more = absurd (omega arith)
      by false h more = more (omega arith)

  pub property_new : (n : ℕ) (es : List (K × Kind)) → property_from n (listed es) name ≡ None → list_any is_named (keys_of es) ≡ false
  property_new n [] h = refl
  property_new n (d ∷ ds) h = by (is_named d.0) h (property_new (n + 1) ds)
    where
      by : (b : Bool) → cond b (Some (n, d.1)) (property_from (n + 1) (listed ds) name) ≡ None → (property_from (n + 1) (listed ds) name ≡ None → list_any is_named (keys_of ds) ≡ false)
          → (b || list_any is_named (keys_of ds)) ≡ false
      by true e more = cc e
      by false e more = more e
