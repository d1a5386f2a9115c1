-- Tables that stand in the order of their elements.
use Rattle.std.proofs.Common.{◌≡◌, ◌∙◌, sym, ap, refl, arith, ◌<◌, ◌≤◌, ◌+◌, ◌-◌, ℕ, zero, suc, List, [], ◌∷◌, ◌++◌, length, slice_get, slice_index_or, slice_set, append_assoc, get_or-set_same, length-append}
use Rattle.std.proofs.lemmas.List.{length-map, length-set, map-append}
use Rattle.std.specs.List.{flat_map}
use Rattle.std.specs.List.Sorted.{IsNonDecreasingBy}
use Rattle.adfs_base.specs.declared.value.Value.{Value}
use Rattle.element_store.specs.Columns.{named}
use Rattle.element_store.specs.Elements.{AreStacked, HasElement, last_columns, last_label}
use Rattle.element_store.specs.Tables.{Rows, labelled}

pub no_table : Rows
no_table = record { first = 0; label = 0; columns = []; rows = [] }

pub length-labelled : (t : Rows) → length (labelled t) ≡ length t.rows
length-labelled t = length-map t.rows (λ row. (t.label, named t.columns row))

-- no table begins before the first
pub firsts_from : (n : ℕ) (ts : List Rows) (i : ℕ) (d : Rows) → AreStacked n ts → i < length ts → n ≤ (slice_index_or ts i d).first
firsts_from n [] i d st h = absurd (omega arith)
firsts_from n (t ∷ ts) zero d st h = omega (arith, st.0)
firsts_from n (t ∷ ts) (suc i) d st h = omega (arith, firsts_from (n + length t.rows) ts i d st.1 (omega arith))

pub firsts_rise : (n : ℕ) (ts : List Rows) → AreStacked n ts → IsNonDecreasingBy (λ (t : Rows). t.first) ts
firsts_rise n [] st i j d le h = absurd (omega arith)
firsts_rise n (t ∷ ts) st zero zero d le h = omega arith
firsts_rise n (t ∷ ts) st zero (suc j) d le h = omega (arith, st.0, firsts_from (n + length t.rows) ts j d st.1 (omega arith))
firsts_rise n (t ∷ ts) st (suc i) zero d le h = absurd (omega arith)
firsts_rise n (t ∷ ts) st (suc i) (suc j) d le h = firsts_rise (n + length t.rows) ts st.1 i j d (omega arith) (omega arith)

get_front : {A : Type 0} (xs ys : List A) (i : ℕ) → i < length xs → slice_get (xs ++ ys) i ≡ slice_get xs i
get_front [] ys i h = absurd (omega arith)
get_front (x ∷ xs) ys zero h = refl
get_front (x ∷ xs) ys (suc i) h = get_front xs ys i (omega arith)

get_back : {A : Type 0} (xs ys : List A) (i : ℕ) → slice_get (xs ++ ys) (length xs + i) ≡ slice_get ys i
get_back [] ys i = let same : 0 + i ≡ i = omega arith in rw same refl
get_back (x ∷ xs) ys i = let next : suc (length xs) + i ≡ suc (length xs + i) = omega arith in rw next (get_back xs ys i)

-- an element of the last table that begins at or before it is one of its
pub record IsThere (n : ℕ) (ts : List Rows) (t : Rows) (number : ℕ) : Type 0 where
  pub within : number - t.first < length t.rows
  pub same : slice_get (flat_map labelled ts) (number - n) ≡ slice_get (labelled t) (number - t.first)

module _ (number : ℕ) (d : Rows) where
  in_first : (n : ℕ) (t : Rows) (ts : List Rows) → t.first ≡ n → n ≤ number → number < n + length t.rows → IsThere n (t ∷ ts) t number
  in_first n t ts begins from to = record {
    within = omega (arith, begins);
    same = rw begins (get_front (labelled t) (flat_map labelled ts) (number - n) (omega (arith, length-labelled t)));
  }

  in_later : (n : ℕ) (t u : Rows) (ts : List Rows) → n + length t.rows ≤ number → IsThere (n + length t.rows) ts u number → IsThere n (t ∷ ts) u number
  in_later n t u ts past there = record {
    within = there.within;
    same =
        let place : number - n ≡ length (labelled t) + (number - (n + length t.rows)) = omega (arith, length-labelled t) in
        rw place (get_back (labelled t) (flat_map labelled ts) (number - (n + length t.rows)) ∙ there.same);
  }

  pub there : (n : ℕ) (ts : List Rows) (k : ℕ) → AreStacked n ts → k < length ts → (slice_index_or ts k d).first ≤ number
      → (k + 1 < length ts → number < (slice_index_or ts (k + 1) d).first) → n ≤ number → number < n + length (flat_map labelled ts)
      → IsThere n ts (slice_index_or ts k d) number
  there n [] k st h from next low high = absurd (omega arith)
  there n (t ∷ []) zero st h from next low high =
      let size : length (labelled t ++ []) ≡ length t.rows = length-append (labelled t) [] ∙ omega (arith, length-labelled t) in
      in_first n t [] st.0 low (omega (arith, size))
  there n (t ∷ u ∷ ts) zero st h from next low high = in_first n t (u ∷ ts) st.0 low (omega (arith, next (omega arith), st.1.0))
  there n (t ∷ ts) (suc k) st h from next low high =
      let begins = firsts_from (n + length t.rows) ts k d st.1 (omega arith) in
      let size = length-append (labelled t) (flat_map labelled ts) in
      let after : suc k + 1 ≡ suc (k + 1) = omega arith in
      let next_one = rw after at next in
      in_later n t (slice_index_or ts k d) ts (omega (arith, begins))
      (there (n + length t.rows) ts k st.1 (omega arith) from (λ less. next_one (omega arith)) (omega (arith, begins)) (omega (arith, size, length-labelled t)))

pub has_element : (ts : List Rows) (number : ℕ) (t : Rows) → t.first ≤ number → IsThere 0 ts t number → HasElement ts number t
has_element ts number t from there = let zero_less : number - 0 ≡ number = omega arith in (from, there.within, rw zero_less at there.same)

-- where there is an element, a table begins at or before it
pub some_table : (ts : List Rows) (number p : ℕ) → AreStacked 0 ts → number < length (flat_map labelled ts)
    → ((k : ℕ) (d : Rows) → p ≤ k → k < length ts → number < (slice_index_or ts k d).first) → 1 ≤ p
some_table [] number p st h after = absurd (omega arith)
some_table (t ∷ ts) number zero st h after = absurd (omega (arith, after 0 t (omega arith) (omega arith), st.0))
some_table (t ∷ ts) number (suc p) st h after = omega arith

-- the last table
pub last_columns-is : (ts : List Rows) (k : ℕ) (d : Rows) → length ts ≡ suc k → last_columns ts ≡ (slice_index_or ts k d).columns
last_columns-is [] k d h = absurd (omega arith)
last_columns-is (t ∷ []) zero d h = refl
last_columns-is (t ∷ []) (suc k) d h = absurd (omega arith)
last_columns-is (t ∷ u ∷ ts) zero d h = absurd (omega arith)
last_columns-is (t ∷ u ∷ ts) (suc k) d h = last_columns-is (u ∷ ts) k d (omega arith)

pub last_label-is : (ts : List Rows) (k : ℕ) (d : Rows) → length ts ≡ suc k → last_label ts ≡ (slice_index_or ts k d).label
last_label-is [] k d h = absurd (omega arith)
last_label-is (t ∷ []) zero d h = refl
last_label-is (t ∷ []) (suc k) d h = absurd (omega arith)
last_label-is (t ∷ u ∷ ts) zero d h = absurd (omega arith)
last_label-is (t ∷ u ∷ ts) (suc k) d h = last_label-is (u ∷ ts) k d (omega arith)

abbrev pub with_row : Rows → List Value → Rows
with_row t values = record { first = t.first; label = t.label; columns = t.columns; rows = t.rows ++ values ∷ [] }

labelled-with_row : (t : Rows) (values : List Value) → labelled (with_row t values) ≡ labelled t ++ (t.label, named t.columns values) ∷ []
labelled-with_row t values = map-append (λ (row : List Value). (t.label, named t.columns row)) t.rows (values ∷ [])

-- one more row in the last table
pub rows_of_all : (ts : List Rows) (k : ℕ) (d t : Rows) (values : List Value) → length ts ≡ suc k → t ≡ slice_index_or ts k d
    → flat_map labelled (slice_set ts k (with_row t values)) ≡ flat_map labelled ts ++ (t.label, named t.columns values) ∷ []
rows_of_all [] k d t values h e = absurd (omega arith)
rows_of_all (u ∷ []) zero d t values h e =
    let same : t ≡ u = e in
    rw same (rw (labelled-with_row u values) (append_assoc (labelled u) ((u.label, named u.columns values) ∷ []) [] ∙ sym (append_assoc (labelled u) [] ((u.label, named u.columns values) ∷ []))))
rows_of_all (u ∷ []) (suc k) d t values h e = absurd (omega arith)
rows_of_all (u ∷ v ∷ ts) zero d t values h e = absurd (omega arith)
rows_of_all (u ∷ v ∷ ts) (suc k) d t values h e =
    let more = rows_of_all (v ∷ ts) k d t values (omega arith) e in
    ap (λ r. labelled u ++ r) more ∙ sym (append_assoc (labelled u) (flat_map labelled (v ∷ ts)) ((t.label, named t.columns values) ∷ []))

pub stacked_still : (n : ℕ) (ts : List Rows) (k : ℕ) (d t : Rows) (values : List Value) → length ts ≡ suc k → t ≡ slice_index_or ts k d → AreStacked n ts
    → AreStacked n (slice_set ts k (with_row t values))
stacked_still n [] k d t values h e st = absurd (omega arith)
stacked_still n (u ∷ []) zero d t values h e st = let same : t ≡ u = e in rw same (st.0, tt)
stacked_still n (u ∷ []) (suc k) d t values h e st = absurd (omega arith)
stacked_still n (u ∷ v ∷ ts) zero d t values h e st = absurd (omega arith)
stacked_still n (u ∷ v ∷ ts) (suc k) d t values h e st = (st.0, stacked_still (n + length u.rows) (v ∷ ts) k d t values (omega arith) e st.1)

pub label_still : (ts : List Rows) (k : ℕ) (d t : Rows) (values : List Value) → length ts ≡ suc k → t ≡ slice_index_or ts k d
    → last_label (slice_set ts k (with_row t values)) ≡ last_label ts
label_still ts k d t values h e =
    last_label-is (slice_set ts k (with_row t values)) k d (length-set ts k (with_row t values) ∙ h)
    ∙ ap (λ (r : Rows). r.label) (get_or-set_same ts k (with_row t values) d (omega arith)) ∙ ap (λ (r : Rows). r.label) e ∙ sym (last_label-is ts k d h)

pub columns_still : (ts : List Rows) (k : ℕ) (d t : Rows) (values : List Value) → length ts ≡ suc k → t ≡ slice_index_or ts k d
    → last_columns (slice_set ts k (with_row t values)) ≡ last_columns ts
columns_still ts k d t values h e =
    last_columns-is (slice_set ts k (with_row t values)) k d (length-set ts k (with_row t values) ∙ h)
    ∙ ap (λ (r : Rows). r.columns) (get_or-set_same ts k (with_row t values) d (omega arith)) ∙ ap (λ (r : Rows). r.columns) e ∙ sym (last_columns-is ts k d h)

-- a table has no more rows than all
pub rows_among : (ts : List Rows) (d : Rows) (k : ℕ) → k < length ts → length (slice_index_or ts k d).rows ≤ length (flat_map labelled ts)
rows_among [] d k h = absurd (omega arith)
rows_among (t ∷ ts) d zero h = omega (arith, length-labelled t, length-append (labelled t) (flat_map labelled ts))
rows_among (t ∷ ts) d (suc k) h = omega (arith, rows_among ts d k (omega arith), length-append (labelled t) (flat_map labelled ts))

-- one more table at the end
pub rows_begun : (ts : List Rows) (t : Rows) → t.rows ≡ [] → flat_map labelled (ts ++ t ∷ []) ≡ flat_map labelled ts
rows_begun [] t e = rw e refl
rows_begun (u ∷ ts) t e = ap (λ r. labelled u ++ r) (rows_begun ts t e)

pub stacked_begun : (n : ℕ) (ts : List Rows) (t : Rows) → AreStacked n ts → t.first ≡ n + length (flat_map labelled ts) → AreStacked n (ts ++ t ∷ [])
stacked_begun n [] t st e = (e ∙ omega arith, tt)
stacked_begun n (u ∷ ts) t st e =
    (st.0, stacked_begun (n + length u.rows) ts t st.1 (e ∙ omega (arith, length-labelled u, length-append (labelled u) (flat_map labelled ts))))

pub label_begun : (ts : List Rows) (t : Rows) → last_label (ts ++ t ∷ []) ≡ t.label
label_begun [] t = refl
label_begun (u ∷ []) t = refl
label_begun (u ∷ v ∷ ts) t = label_begun (v ∷ ts) t

pub columns_begun : (ts : List Rows) (t : Rows) → last_columns (ts ++ t ∷ []) ≡ t.columns
columns_begun [] t = refl
columns_begun (u ∷ []) t = refl
columns_begun (u ∷ v ∷ ts) t = columns_begun (v ∷ ts) t
