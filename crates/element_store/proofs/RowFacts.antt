-- Rows of cells that lie row after row.
use Rattle.std.proofs.Common.{◌≡◌, ◌∙◌, sym, ap, refl, arith, ◌<◌, ◌≤◌, ◌+◌, ◌*◌, ℕ, zero, suc, Bool, true, false, cond, not, nat_eq, List, [], ◌∷◌, ◌++◌, length, take, drop, slice_get, Option, Some, length-append, length-drop, add-one}
use Rattle.std.proofs.Math.Nat.{suc-mul}
use Rattle.std.proofs.lemmas.List.{drop-append-le, length-take-le, take-append-drop, take-append-le, take_all}
use Rattle.std.proofs.lemmas.Option.{slice_get_within}
use Rattle.std.specs.List.{position_or_len}
use Rattle.std.specs.Map.{keys_of}
use Rattle.adfs_base.specs.declared.value.Value.{Value}
use Rattle.adfs_base.specs.declared.value.Value.TheVariants as value
use Rattle.element_store.specs.Columns.{Column, HaveKinds, named, value_of}
use Rattle.element_store.specs.Tables.{AddsRow, AreWords, RowsAreWords, rows_of, values_of}
use Rattle.element_store.specs.Words.{HasKind, value_from, word_from}

nothing : {A : Type 0} (xs : List A) → length xs ≡ 0 → xs ≡ []
nothing [] e = refl
nothing (x ∷ xs) e = absurd (omega arith)

-- one more row at the end
pub rows_push : (columns : List Column) (n : ℕ) (cells row : List (Option ℕ)) → length cells ≡ n * length columns → length row ≡ length columns
    → rows_of columns (suc n) (cells ++ row) ≡ rows_of columns n cells ++ values_of columns row ∷ []
unfolding rows_of
rows_push columns zero cells row e f =
    let none : cells ≡ [] = nothing cells (e ∙ omega arith) in
    rw (none, take_all (length columns) row (omega arith)) refl
rows_push columns (suc n) cells row e f =
    let total : length cells ≡ n * length columns + length columns = e ∙ suc-mul n (length columns) in
    let within : length columns ≤ length cells = omega arith in
    let rest : length (drop (length columns) cells) ≡ n * length columns = length-drop (length columns) cells ∙ omega arith in
    rw (take-append-le (length columns) cells row within, drop-append-le (length columns) cells row within)
    (ap (λ t. values_of columns (take (length columns) cells) ∷ t) (rows_push columns n (drop (length columns) cells) row rest f))

pub length-rows_of : (columns : List Column) (n : ℕ) (cells : List (Option ℕ)) → length (rows_of columns n cells) ≡ n
unfolding rows_of
length-rows_of columns zero cells = refl
length-rows_of columns (suc n) cells = ap suc (length-rows_of columns n (drop (length columns) cells))

drop_none : {A : Type 0} (n : ℕ) → drop {A = A} n [] ≡ []
drop_none zero = refl
drop_none (suc n) = refl

drop_drop : {A : Type 0} (m n : ℕ) (xs : List A) → drop m (drop n xs) ≡ drop (m + n) xs
drop_drop m zero xs = let same : m + 0 ≡ m = omega arith in rw same refl
drop_drop m (suc n) [] = drop_none m ∙ sym (drop_none (m + suc n))
drop_drop m (suc n) (x ∷ xs) = let next : m + suc n ≡ suc (m + n) = omega arith in rw next (drop_drop m n xs)

-- the cells of a row
pub rows_get : (columns : List Column) (n : ℕ) (cells : List (Option ℕ)) (i : ℕ) → i < n
    → slice_get (rows_of columns n cells) i ≡ Some (values_of columns (take (length columns) (drop (i * length columns) cells)))
unfolding rows_of
rows_get columns zero cells i h = absurd (omega arith)
rows_get columns (suc n) cells zero h = let none : 0 * length columns ≡ 0 = omega arith in rw none refl
rows_get columns (suc n) cells (suc i) h =
    let kept : drop (i * length columns) (drop (length columns) cells) ≡ drop (suc i * length columns) cells =
    drop_drop (i * length columns) (length columns) cells ∙ ap (λ k. drop k cells) (sym (suc-mul i (length columns))) in
    rw (← kept) (rows_get columns n (drop (length columns) cells) i (omega arith))

take_within : {A : Type 0} (n : ℕ) (xs : List A) (i : ℕ) (x : A) → i < n → slice_get xs i ≡ Some x → slice_get (take n xs) i ≡ Some x
take_within zero xs i x h e = absurd (omega arith)
take_within (suc n) [] i x h e = cc e
take_within (suc n) (y ∷ xs) zero x h e = e
take_within (suc n) (y ∷ xs) (suc i) x h e = take_within n xs i x (omega arith) e

pub dropped : {A : Type 0} (n : ℕ) (xs : List A) (i : ℕ) → slice_get (drop n xs) i ≡ slice_get xs (n + i)
dropped zero xs i = let same : 0 + i ≡ i = omega arith in rw same refl
dropped (suc n) [] i = refl
dropped (suc n) (x ∷ xs) i = let next : suc n + i ≡ suc (n + i) = omega arith in rw next (dropped n xs i)

-- the cell of a row at a place
pub cell_there : (w r place : ℕ) (cells : List (Option ℕ)) (cell : Option ℕ) → place < w → slice_get cells (r * w + place) ≡ Some cell
    → slice_get (take w (drop (r * w) cells)) place ≡ Some cell
cell_there w r place cells cell h e = take_within w (drop (r * w) cells) place cell h (dropped (r * w) cells place ∙ e)

-- a cell of a row is within the cells
pub cell_within : (w r n place : ℕ) → r < n → place < w → r * w + place < n * w
cell_within w r zero place a b = absurd (omega arith)
cell_within w zero (suc n) place a b = omega (arith, suc-mul n w)
cell_within w (suc r) (suc n) place a b = omega (arith, suc-mul n w, suc-mul r w, cell_within w r n place (omega arith) b)

-- all of a row is within the cells
pub row_inside : (w r n : ℕ) → r < n → r * w + w ≤ n * w
row_inside w r zero a = absurd (omega arith)
row_inside w zero (suc n) a = omega (arith, suc-mul n w)
row_inside w (suc r) (suc n) a = omega (arith, suc-mul n w, suc-mul r w, row_inside w r n (omega arith))

-- a row begins within the cells, or at their end
pub row_within : (w r n : ℕ) → r < n → r * w ≤ n * w
row_within w r zero a = absurd (omega arith)
row_within w zero (suc n) a = omega arith
row_within w (suc r) (suc n) a = omega (arith, suc-mul n w, suc-mul r w, row_within w r n (omega arith))

-- the value under a column's property
pub value_found : (columns : List Column) (cells : List (Option ℕ)) (property k : ℕ) (c : Column) (cell : Option ℕ)
    → position_or_len (nat_eq property) (keys_of columns) ≡ k → slice_get columns k ≡ Some c → slice_get cells k ≡ Some cell
    → value_of (named columns (values_of columns cells)) property ≡ value_from c.1 cell
value_found [] cells property k c cell at e f = cc e
value_found (d ∷ ds) [] property k c cell at e f = cc f
value_found (d ∷ ds) (x ∷ xs) property k c cell at e f = by (nat_eq property d.0) at (value_found ds xs property)
  where
    by : (b : Bool) → cond (not b) (1 + position_or_len (nat_eq property) (keys_of ds)) 0 ≡ k
        → ((j : ℕ) (c2 : Column) (cell2 : Option ℕ) → position_or_len (nat_eq property) (keys_of ds) ≡ j → slice_get ds j ≡ Some c2 → slice_get xs j ≡ Some cell2
        → value_of (named ds (values_of ds xs)) property ≡ value_from c2.1 cell2)
        → cond b (value_from d.1 x) (value_of (named ds (values_of ds xs)) property) ≡ value_from c.1 cell
    by true here more =
        let one : slice_get (d ∷ ds) 0 ≡ Some c = rw (← here) at e in
        let two : slice_get (x ∷ xs) 0 ≡ Some cell = rw (← here) at f in
        let same : d ≡ c = cc one in
        let word : x ≡ cell = cc two in
        rw (same, word) refl
    by false later more =
        let next : suc (position_or_len (nat_eq property) (keys_of ds)) ≡ k = omega arith in
        let one : slice_get (d ∷ ds) (suc (position_or_len (nat_eq property) (keys_of ds))) ≡ Some c = rw (← next) at e in
        let two : slice_get (x ∷ xs) (suc (position_or_len (nat_eq property) (keys_of ds))) ≡ Some cell = rw (← next) at f in
        more _ c cell refl one two

-- no value under a property that has no column
pub value_absent : (columns : List Column) (vs : List Value) (property : ℕ) → length columns ≤ position_or_len (nat_eq property) (keys_of columns)
    → value_of (named columns vs) property ≡ value.Null
value_absent [] vs property h = refl
value_absent (d ∷ ds) [] property h = refl
value_absent (d ∷ ds) (v ∷ vs) property h = by (nat_eq property d.0) h (value_absent ds vs property)
  where
    by : (b : Bool) → suc (length ds) ≤ cond (not b) (1 + position_or_len (nat_eq property) (keys_of ds)) 0
        → (length ds ≤ position_or_len (nat_eq property) (keys_of ds) → value_of (named ds vs) property ≡ value.Null)
        → cond b v (value_of (named ds vs) property) ≡ value.Null
    by true h more = absurd (omega arith)
    by false h more = more (omega arith)

-- values and columns side by side
pub kinds_length : (columns : List Column) (vs : List Value) → HaveKinds columns vs → length vs ≡ length columns
kinds_length [] [] h = refl
kinds_length [] (v ∷ vs) h = absurd h
kinds_length (c ∷ cs) [] h = absurd h
kinds_length (c ∷ cs) (v ∷ vs) h = ap suc (kinds_length cs vs h.1)

pub kind_there : (columns : List Column) (vs : List Value) (i : ℕ) (c : Column) (v : Value) → HaveKinds columns vs → slice_get columns i ≡ Some c → slice_get vs i ≡ Some v → HasKind c.1 v
kind_there [] vs i c v h e f = cc e
kind_there (d ∷ ds) [] i c v h e f = cc f
kind_there (d ∷ ds) (w ∷ ws) zero c v h e f = let a : d ≡ c = cc e in let b : w ≡ v = cc f in rw (← a, ← b) h.0
kind_there (d ∷ ds) (w ∷ ws) (suc i) c v h e f = kind_there ds ws i c v h.1 e f

-- one more cell of a row
pub values_push : (cs : List Column) (cells : List (Option ℕ)) (c : Column) (cell : Option ℕ) → length cells ≡ length cs
    → values_of (cs ++ c ∷ []) (cells ++ cell ∷ []) ≡ values_of cs cells ++ value_from c.1 cell ∷ []
values_push [] [] c cell e = refl
values_push [] (x ∷ xs) c cell e = absurd (omega arith)
values_push (d ∷ ds) [] c cell e = absurd (omega arith)
values_push (d ∷ ds) (x ∷ xs) c cell e = ap (λ t. value_from d.1 x ∷ t) (values_push ds xs c cell (omega arith))

-- one more word of a row
pub words_push : (cs : List Column) (cells : List (Option ℕ)) (c : Column) (cell : Option ℕ) → length cells ≡ length cs → AreWords cs cells → word_from c.1 (value_from c.1 cell) ≡ cell
    → AreWords (cs ++ c ∷ []) (cells ++ cell ∷ [])
words_push [] [] c cell e h is = (is, tt)
words_push [] (x ∷ xs) c cell e h is = absurd (omega arith)
words_push (d ∷ ds) [] c cell e h is = absurd (omega arith)
words_push (d ∷ ds) (x ∷ xs) c cell e h is = (h.0, words_push ds xs c cell (omega arith) h.1 is)

-- one more row of words
rows_words_push : (columns : List Column) (n : ℕ) (cells row : List (Option ℕ)) → length cells ≡ n * length columns → length row ≡ length columns → RowsAreWords columns n cells → AreWords columns row
    → RowsAreWords columns (suc n) (cells ++ row)
unfolding RowsAreWords
rows_words_push columns zero cells row e f h is =
    let none : cells ≡ [] = nothing cells (e ∙ omega arith) in
    rw (none, take_all (length columns) row (omega arith)) (is, tt)
rows_words_push columns (suc n) cells row e f h is =
    let total : length cells ≡ n * length columns + length columns = e ∙ suc-mul n (length columns) in
    let within : length columns ≤ length cells = omega arith in
    let rest : length (drop (length columns) cells) ≡ n * length columns = length-drop (length columns) cells ∙ omega arith in
    rw (take-append-le (length columns) cells row within, drop-append-le (length columns) cells row within)
    (h.0, rows_words_push columns n (drop (length columns) cells) row rest f h.1 is)

-- the words of a row
pub rows_words_get : (columns : List Column) (n : ℕ) (cells : List (Option ℕ)) (i : ℕ) → i < n → RowsAreWords columns n cells → AreWords columns (take (length columns) (drop (i * length columns) cells))
unfolding RowsAreWords
rows_words_get columns zero cells i h words = absurd (omega arith)
rows_words_get columns (suc n) cells zero h words = let none : 0 * length columns ≡ 0 = omega arith in rw none words.0
rows_words_get columns (suc n) cells (suc i) h words =
    let after : drop (i * length columns) (drop (length columns) cells) ≡ drop (suc i * length columns) cells =
    drop_drop (i * length columns) (length columns) cells ∙ ap (λ k. drop k cells) (sym (suc-mul i (length columns))) in
    rw (← after) (rows_words_get columns n (drop (length columns) cells) i (omega arith) words.1)

pub take_more : {A : Type 0} (i : ℕ) (xs : List A) (x : A) → slice_get xs i ≡ Some x → take (i + 1) xs ≡ take i xs ++ x ∷ []
take_more i [] x e = cc e
take_more zero (y ∷ xs) x e = let same : y ≡ x = cc e in rw same refl
take_more (suc i) (y ∷ xs) x e = let more = rw (add-one i) at (take_more i xs x e) in rw (add-one (suc i)) (ap (λ t. y ∷ t) more)

-- the cells of a row, up to a place
pub record IsPartOfRow (columns : List Column) (values : List Value) (old new : List (Option ℕ)) (i : ℕ) : Type 0 where
  pub kept : take (length old) new ≡ old
  pub width : length new ≡ length old + i
  pub row : values_of (take i columns) (drop (length old) new) ≡ take i values
  pub words : AreWords (take i columns) (drop (length old) new)

pub part_begun : (columns : List Column) (values : List Value) (old : List (Option ℕ)) → IsPartOfRow columns values old old 0
part_begun columns values old = record { kept = take_all (length old) old (omega arith); width = omega arith; row = refl; words = tt }

pub part_more : (columns : List Column) (values : List Value) (old new new2 : List (Option ℕ)) (i : ℕ) (c : Column) (v : Value) (cell : Option ℕ)
    → IsPartOfRow columns values old new i → slice_get columns i ≡ Some c → slice_get values i ≡ Some v → value_from c.1 cell ≡ v → cell ≡ word_from c.1 v → new2 ≡ new ++ cell ∷ []
    → IsPartOfRow columns values old new2 (i + 1)
part_more columns values old new new2 i c v cell part e f is word after = record {
  kept = rw after (take-append-le (length old) new (cell ∷ []) (omega (arith, part.width)) ∙ part.kept);
  width = rw after (length-append new (cell ∷ []) ∙ omega (arith, part.width));
  row = rw (after, take_more i columns c e, take_more i values v f, drop-append-le (length old) new (cell ∷ []) (omega (arith, part.width)))
      (values_push (take i columns) (drop (length old) new) c cell sizes ∙ rw (part.row, is) refl);
  words = rw (after, take_more i columns c e, drop-append-le (length old) new (cell ∷ []) (omega (arith, part.width)))
      (words_push (take i columns) (drop (length old) new) c cell sizes part.words (rw is (sym word)));
}
  where
    there : i < length columns
    there = slice_get_within columns i c e

    sizes : length (drop (length old) new) ≡ length (take i columns)
    sizes = length-drop (length old) new ∙ omega (arith, part.width, length-take-le i columns (omega (arith, there)))

pub part_whole : (columns : List Column) (values : List Value) (old new : List (Option ℕ)) (i : ℕ) → HaveKinds columns values → length values ≤ i → i ≤ length values → IsPartOfRow columns values old new i
    → AddsRow columns values old new
part_whole columns values old new i kinds past within part =
    let size = kinds_length columns values kinds in
    record {
      kept = part.kept;
      width = omega (arith, part.width, size);
      row = rw (take_all i columns (omega (arith, size)), take_all i values past) at part.row;
      words = rw (take_all i columns (omega (arith, size))) at part.words;
    }

-- a table's cells with one more row
pub rows_after : (columns : List Column) (n : ℕ) (values : List Value) (old new : List (Option ℕ)) → length old ≡ n * length columns → AddsRow columns values old new
    → rows_of columns (n + 1) new ≡ rows_of columns n old ++ values ∷ []
rows_after columns n values old new total adds =
    let parts : old ++ drop (length old) new ≡ new = rw adds.kept at (take-append-drop (length old) new) in
    let width : length (drop (length old) new) ≡ length columns = length-drop (length old) new ∙ omega (arith, adds.width) in
    let pushed = rows_push columns n old (drop (length old) new) total width in
    rw (add-one n, ← parts) (pushed ∙ rw adds.row refl)

-- so they are words still
pub words_after : (columns : List Column) (n : ℕ) (values : List Value) (old new : List (Option ℕ)) → length old ≡ n * length columns → AddsRow columns values old new → RowsAreWords columns n old
    → RowsAreWords columns (n + 1) new
words_after columns n values old new total adds h =
    let parts : old ++ drop (length old) new ≡ new = rw adds.kept at (take-append-drop (length old) new) in
    let width : length (drop (length old) new) ≡ length columns = length-drop (length old) new ∙ omega (arith, adds.width) in
    rw (add-one n, ← parts) (rows_words_push columns n old (drop (length old) new) total width h adds.words)

pub total_after : (n w a b : ℕ) → a ≡ n * w → b ≡ a + w → b ≡ (n + 1) * w
total_after n w a b e f = rw (add-one n) (f ∙ rw e (sym (suc-mul n w)))

-- one more of the cells from a place on
pub cell_taken : (start i : ℕ) (cells : List (Option ℕ)) (cell : Option ℕ) → slice_get cells (start + i) ≡ Some cell → take (i + 1) (drop start cells) ≡ take i (drop start cells) ++ cell ∷ []
cell_taken start i cells cell at = take_more i (drop start cells) cell (dropped start cells i ∙ at)
