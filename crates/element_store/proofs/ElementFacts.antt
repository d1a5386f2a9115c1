-- Elements as keys and rows side by side.
use Rattle.std.proofs.Common.{◌≡◌, ◌∙◌, sym, ap, refl, arith, ◌+◌, ℕ, zero, suc, ℤ, List, [], ◌∷◌, ◌++◌, length, slice_get, slice_index_or, slice_set, ◌-◌, Some, length-append}
use Rattle.std.specs.Option.{option_map}
use Rattle.std.proofs.lemmas.List.Sums.{sum_by-append}
use Rattle.std.specs.List.{flat_map}
use Rattle.std.proofs.lemmas.List.{length-set}
use Rattle.std.proofs.lemmas.Option.{slice_get-get_or, slice_get-map}
use Rattle.element_store.proofs.TableFacts.{columns_still, label_still, last_columns-is, last_label-is, rows_of_all, stacked_still, with_row}
use Rattle.element_store.specs.Tables.{Rows, labelled}
use Rattle.element_store.specs.Columns.{Cell, Column, HaveKinds, named}
use Rattle.element_store.specs.Elements.{AreFilled, Element, HasElement, cells_in, filled, joined, keys_in, last_columns, last_label}

pub length-joined : (ks : List ℤ) (rs : List (ℕ × List (ℕ × Cell))) → length rs ≡ length ks → length (joined ks rs) ≡ length ks
length-joined [] rs e = refl
length-joined (k ∷ ks) [] e = omega arith
length-joined (k ∷ ks) (r ∷ rs) e = ap suc (length-joined ks rs (omega arith))

pub keys_in-joined : (ks : List ℤ) (rs : List (ℕ × List (ℕ × Cell))) → length rs ≡ length ks → keys_in (joined ks rs) ≡ ks
keys_in-joined [] rs e = refl
keys_in-joined (k ∷ ks) [] e = absurd (omega arith)
keys_in-joined (k ∷ ks) (r ∷ rs) e = ap (λ t. k ∷ t) (keys_in-joined ks rs (omega arith))

pub joined-push : (ks : List ℤ) (rs : List (ℕ × List (ℕ × Cell))) (k : ℤ) (r : ℕ × List (ℕ × Cell)) → length rs ≡ length ks
    → joined (ks ++ k ∷ []) (rs ++ r ∷ []) ≡ joined ks rs ++ record { key = k; label = r.0; values = r.1 } ∷ []
joined-push [] [] k r e = refl
joined-push [] (s ∷ rs) k r e = absurd (omega arith)
joined-push (l ∷ ks) [] k r e = absurd (omega arith)
joined-push (l ∷ ks) (s ∷ rs) k r e = ap (λ t. record { key = l; label = s.0; values = s.1 } ∷ t) (joined-push ks rs k r (omega arith))

pub joined-get : (ks : List ℤ) (rs : List (ℕ × List (ℕ × Cell))) (i : ℕ) (k : ℤ) (r : ℕ × List (ℕ × Cell)) → slice_get ks i ≡ Some k → slice_get rs i ≡ Some r
    → slice_get (joined ks rs) i ≡ Some (record { key = k; label = r.0; values = r.1 })
joined-get [] rs i k r e f = cc e
joined-get (l ∷ ks) [] i k r e f = cc f
joined-get (l ∷ ks) (s ∷ rs) zero k r e f = let a : l ≡ k = cc e in let b : s ≡ r = cc f in rw (a, b) refl
joined-get (l ∷ ks) (s ∷ rs) (suc i) k r e f = joined-get ks rs i k r e f

pub cells_in-push : (es : List Element) (e : Element) → cells_in (es ++ e ∷ []) ≡ cells_in es + length e.values
cells_in-push es e = sum_by-append (λ (x : Element). length x.values) es (e ∷ []) ∙ omega arith

-- what an element has besides its key, by its table's row
pub row_read : (ts : List Rows) (number : ℕ) (t : Rows) → HasElement ts number t
    → slice_get (flat_map labelled ts) number ≡ Some (t.label, named t.columns (slice_index_or t.rows (number - t.first) []))
row_read ts number t has =
    let row = slice_get-map (λ (r : List Cell). (t.label, named t.columns r)) t.rows (number - t.first) in
    let there = slice_get-get_or t.rows (number - t.first) [] has.1 in
    has.2 ∙ row ∙ rw there refl

-- an element, by what is read of it
pub joined_key : (ks : List ℤ) (rs : List (ℕ × List (ℕ × Cell))) (i : ℕ) (k : ℤ) → length rs ≡ length ks → slice_get ks i ≡ Some k
    → option_map (λ (e : Element). e.key) (slice_get (joined ks rs) i) ≡ Some k
joined_key [] rs i k size at = cc at
joined_key (l ∷ ks) [] i k size at = absurd (omega arith)
joined_key (l ∷ ks) (r ∷ rs) zero k size at = at
joined_key (l ∷ ks) (r ∷ rs) (suc i) k size at = joined_key ks rs i k (omega arith) at

pub joined_rest : {V : Type 0} (f : ℕ × List (ℕ × Cell) → V) (ks : List ℤ) (rs : List (ℕ × List (ℕ × Cell))) (i : ℕ) (v : V) → length rs ≡ length ks
    → option_map f (slice_get rs i) ≡ Some v → option_map (λ (e : Element). f (e.label, e.values)) (slice_get (joined ks rs) i) ≡ Some v
joined_rest f ks [] i v size at = cc at
joined_rest f [] (r ∷ rs) i v size at = absurd (omega arith)
joined_rest f (k ∷ ks) (r ∷ rs) zero v size at = at
joined_rest f (k ∷ ks) (r ∷ rs) (suc i) v size at = joined_rest f ks rs i v (omega arith) at

pub joined_both : (ks : List ℤ) (rs : List (ℕ × List (ℕ × Cell))) (i : ℕ) (k : ℤ) (l : ℕ) → length rs ≡ length ks → slice_get ks i ≡ Some k → option_map (λ (r : ℕ × List (ℕ × Cell)). r.0) (slice_get rs i) ≡ Some l
    → option_map {U = ℤ × ℕ} (λ (e : Element). (e.key, e.label)) (slice_get (joined ks rs) i) ≡ Some (k, l)
joined_both [] rs i k l size at there = cc at
joined_both (m ∷ ks) [] i k l size at there = cc there
joined_both (m ∷ ks) (r ∷ rs) zero k l size at there = let a : m ≡ k = cc at in let b : r.0 ≡ l = cc there in rw (a, b) refl
joined_both (m ∷ ks) (r ∷ rs) (suc i) k l size at there = joined_both ks rs i k l (omega arith) at there

-- a table that begins, and a row that is added
pub filled_after : (ks : List ℤ) (ts : List Rows) (cells k : ℕ) (t : Rows) (key : ℤ) (values : List Cell) → AreFilled ks ts cells → length ts ≡ suc k → t ≡ slice_index_or ts k t
    → length (named t.columns values) ≡ length values
    → AreFilled (ks ++ key ∷ []) (slice_set ts k (with_row t values)) (cells + length values)
filled_after ks ts cells k t key values f h e size =
    let rows = rows_of_all ts k t t values h e in
    record {
      a_row_each = rw (rows, length-append (flat_map labelled ts) ((t.label, named t.columns values) ∷ []), length-append ks (key ∷ [])) (omega (arith, f.a_row_each));
      stacked = stacked_still 0 ts k t t values h e f.stacked;
      counted = rw (rows, joined-push ks (flat_map labelled ts) key (t.label, named t.columns values) f.a_row_each)
          (cells_in-push (joined ks (flat_map labelled ts)) (record { key = key; label = t.label; values = named t.columns values }) ∙ omega (arith, size, f.counted));
    }

pub view_after : (ks : List ℤ) (ts : List Rows) (k : ℕ) (t : Rows) (key : ℤ) (values : List Cell) → length (flat_map labelled ts) ≡ length ks → length ts ≡ suc k → t ≡ slice_index_or ts k t
    → filled (ks ++ key ∷ []) (slice_set ts k (with_row t values))
    ≡ record {
      elements = (filled ks ts).elements ++ record { key = key; label = (filled ks ts).label; values = named (filled ks ts).columns values } ∷ [];
      tables = (filled ks ts).tables;
      label = (filled ks ts).label;
      columns = (filled ks ts).columns;
    }
view_after ks ts k t key values f h e =
    let label : last_label ts ≡ t.label = last_label-is ts k t h ∙ ap (λ (r : Rows). r.label) (sym e) in
    let columns : last_columns ts ≡ t.columns = last_columns-is ts k t h ∙ ap (λ (r : Rows). r.columns) (sym e) in
    rw (
      rows_of_all ts k t t values h e,
      joined-push ks (flat_map labelled ts) key (t.label, named t.columns values) f,
      label_still ts k t t values h e,
      columns_still ts k t t values h e,
      length-set ts k (with_row t values),
      label,
      columns,
    ) refl

pub length-named : (columns : List Column) (values : List Cell) → HaveKinds columns values → length (named columns values) ≡ length values
length-named [] [] h = refl
length-named [] (v ∷ vs) h = absurd h
length-named (c ∷ cs) [] h = absurd h
length-named (c ∷ cs) (v ∷ vs) h = ap suc (length-named cs vs h.1)
