-- What is read has 64 bits.
use Rattle.std.proofs.Common.{◌≡◌, ap, refl, ℕ, ◌+◌, ℤ, Bool, true, false, cond, not, is_some, List, [], ◌∷◌, ◌++◌, drop, Option, Some, None, Result, Ok, Err}
use Rattle.std.specs.List.{AllByRecursion}
use Rattle.std.specs.Str.{is_utf8}
use Rattle.std.specs.Str.Parse.{signed_digits_value, without_leading_sign}
use Rattle.adfs_base.specs.declared.value.Kind.{Kind}
use Rattle.adfs_base.specs.declared.value.Kind.TheVariants as k
use Rattle.adfs_base.specs.declared.value.Value.{Value}
use Rattle.adfs_base.specs.declared.value.Value.TheVariants as value
use Rattle.value_text.specs.Cells.{Reading, as_bool, as_date, as_int, as_text, bool_cell, cell_value, filled_cell}
use Rattle.value_text.specs.Dates.{date_cell}
use Rattle.value_text.specs.Numbers.{int_cell, is_i64, is_numeral}
use Rattle.value_text.specs.Texts.{number_of as number_of_text, with_text}
use Rattle.value_text.specs.declared.cells.CellFault.{CellFault}
use Rattle.value_text.specs.declared.cells.CellFault.TheVariants as cell_fault
use Rattle.element_store.specs.Columns.{Column}
use Rattle.element_store.specs.Elements.{Element, number_of}
use Rattle.graph_tables.specs.Faults.{◌>>=◌, fault_at}
use Rattle.graph_tables.specs.Graph.{IsLong}
use Rattle.graph_tables.specs.Headers.{key_columns}
use Rattle.graph_tables.specs.declared.element_kind.ElementKind.{ElementKind}
use Rattle.graph_tables.specs.declared.faults.Place.{Place}
use Rattle.graph_tables.specs.declared.faults.TableFault.{TableFault}
use Rattle.graph_tables.specs.declared.faults.TableKind.TheVariants as kind
use Rattle.graph_loading.specs.Rows.{Read, in_column, key_in, new_key, values_from, values_of}
use Rattle.graph_loading.proofs.SoundFacts.{all_push}

-- a number that a cell says
number_long : (cell : List ℕ) (n : ℤ) → int_cell cell ≡ Ok n → is_i64 n ≡ true
number_long cell n e = by (is_numeral (without_leading_sign cell)) (is_i64 (signed_digits_value 10 cell)) refl e
  where
    by : (a b : Bool) → is_i64 (signed_digits_value 10 cell) ≡ b
        → cond (not a) (Err cell_fault.BadInt) (cond b (Ok (signed_digits_value 10 cell)) (Err cell_fault.WideInt)) ≡ Ok n → is_i64 n ≡ true
    by false b is f = cc f
    by true false is f = cc f
    by true true is f = let same : signed_digits_value 10 cell ≡ n = cc f in rw (← same) is

key_long : (at : Place) (column : ℕ) (read : Result ℤ CellFault) (key : ℤ) → ((n : ℤ) → read ≡ Ok n → is_i64 n ≡ true) → key_in at column read ≡ Ok key → is_i64 key ≡ true
key_long at column (Ok n) key long e = let same : n ≡ key = cc e in rw (← same) (long n refl)
key_long at column (Err f) key long e = cc e

-- a key that no element had
pub new_long : (at : Place) (elements : List Element) (cell : List ℕ) (key : ℤ) → new_key at elements cell ≡ Ok key → is_i64 key ≡ true
new_long at elements cell key e = by (key_in at 1 (int_cell cell)) (λ n is. key_long at 1 (int_cell cell) n (number_long cell) is) e
  where
    fresh : (n : ℤ) (b : Bool) → is_i64 n ≡ true → cond b (Err (fault_at at 1 kind.DoubleKey)) (Ok n) ≡ Ok key → is_i64 key ≡ true
    fresh n true long f = cc f
    fresh n false long f = let same : n ≡ key = cc f in rw (← same) long

    by : (r : Result ℤ TableFault) → ((n : ℤ) → r ≡ Ok n → is_i64 n ≡ true)
        → (r >>= λ n. cond (is_some (number_of elements n)) (Err (fault_at at 1 kind.DoubleKey)) (Ok n)) ≡ Ok key → is_i64 key ≡ true
    by (Ok n) long f = fresh n (is_some (number_of elements n)) (long n refl) f
    by (Err f) long g = cc g

-- a value that a cell says
int_long : (texts : List (List ℕ)) (read : Result ℤ CellFault) (v : Value) (left : List (List ℕ)) → ((n : ℤ) → read ≡ Ok n → is_i64 n ≡ true) → as_int texts read ≡ Ok (v, left) → IsLong v
int_long texts (Ok n) v left long e =
    let pair : ◌≡◌ {A = Value × List (List ℕ)} (value.Int n, texts) (v, left) = cc e in
    rw (← (ap (λ (p : Value × List (List ℕ)). p.0) pair)) (long n refl)
int_long texts (Err f) v left long e = cc e

bool_long : (texts : List (List ℕ)) (read : Result Bool CellFault) (v : Value) (left : List (List ℕ)) → as_bool texts read ≡ Ok (v, left) → IsLong v
bool_long texts (Ok b) v left e =
    let pair : ◌≡◌ {A = Value × List (List ℕ)} (value.Bool b, texts) (v, left) = cc e in
    rw (← (ap (λ (p : Value × List (List ℕ)). p.0) pair)) tt
bool_long texts (Err f) v left e = cc e

date_long : (texts : List (List ℕ)) (read : Option ℤ) (v : Value) (left : List (List ℕ)) → as_date texts read ≡ Ok (v, left) → IsLong v
date_long texts (Some day) v left e =
    let pair : ◌≡◌ {A = Value × List (List ℕ)} (value.Date day, texts) (v, left) = cc e in
    rw (← (ap (λ (p : Value × List (List ℕ)). p.0) pair)) tt
date_long texts None v left e = cc e

text_long : (texts : List (List ℕ)) (cell : List ℕ) (v : Value) (left : List (List ℕ)) → as_text texts cell ≡ Ok (v, left) → IsLong v
text_long texts cell v left e = by (is_utf8 cell) e
  where
    by : (b : Bool) → cond {A = Reading} b (Ok (value.Text (number_of_text texts cell), with_text texts cell)) (Err cell_fault.BadText) ≡ Ok (v, left) → IsLong v
    by true f =
        let pair : ◌≡◌ {A = Value × List (List ℕ)} (value.Text (number_of_text texts cell), with_text texts cell) (v, left) = cc f in
        rw (← (ap (λ (p : Value × List (List ℕ)). p.0) pair)) tt
    by false f = cc f

filled_long : (of : Kind) (cell : List ℕ) (texts : List (List ℕ)) (v : Value) (left : List (List ℕ)) → filled_cell of cell texts ≡ Ok (v, left) → IsLong v
filled_long k.Int cell texts v left e = int_long texts (int_cell cell) v left (number_long cell) e
filled_long k.Text cell texts v left e = text_long texts cell v left e
filled_long k.Bool cell texts v left e = bool_long texts (bool_cell cell) v left e
filled_long k.Date cell texts v left e = date_long texts (date_cell cell) v left e

value_long : (of : Kind) (cell : List ℕ) (texts : List (List ℕ)) (v : Value) (left : List (List ℕ)) → cell_value of cell texts ≡ Ok (v, left) → IsLong v
value_long of [] texts v left e =
    let pair : ◌≡◌ {A = Value × List (List ℕ)} (value.Null, texts) (v, left) = cc e in
    rw (← (ap (λ (p : Value × List (List ℕ)). p.0) pair)) tt
value_long of (b ∷ rest) texts v left e = filled_long of (b ∷ rest) texts v left e

column_long : (at : Place) (column : ℕ) (read : Reading) (v : Value × List (List ℕ)) → ((w : Value) (left : List (List ℕ)) → read ≡ Ok (w, left) → IsLong w) → in_column at column read ≡ Ok v → IsLong v.0
column_long at column (Ok w) v long e = let same : w ≡ v = cc e in rw (← same) (long w.0 w.1 refl)
column_long at column (Err f) v long e = cc e

from_long : (at : Place) (column : ℕ) (columns : List Column) (cells : List (List ℕ)) (before read : Read) → AllByRecursion IsLong before.0 → values_from at column columns cells before ≡ Ok read
    → AllByRecursion IsLong read.0
unfolding values_from
from_long at column [] cells before read all e = let same : before ≡ read = cc e in rw (← same) all
from_long at column (c ∷ cs) [] before read all e = let same : before ≡ read = cc e in rw (← same) all
from_long at column (c ∷ cs) (x ∷ xs) before read all e =
    by (in_column at column (cell_value c.1 x before.1))
    (λ v is. from_long at (column + 1) cs xs (before.0 ++ v.0 ∷ [], v.1) read
    (all_push IsLong before.0 v.0 all (column_long at column (cell_value c.1 x before.1) v (λ w left. value_long c.1 x before.1 w left) is))) e
  where
    by : (r : Result (Value × List (List ℕ)) TableFault)
        → ((v : Value × List (List ℕ)) → r ≡ Ok v → values_from at (column + 1) cs xs (before.0 ++ v.0 ∷ [], v.1) ≡ Ok read → AllByRecursion IsLong read.0)
        → (r >>= λ v. values_from at (column + 1) cs xs (before.0 ++ v.0 ∷ [], v.1)) ≡ Ok read → AllByRecursion IsLong read.0
    by (Ok v) more f = more v refl f
    by (Err x) more f = cc f

-- the values of a record's properties
pub values_long : (of : ElementKind) (at : Place) (columns : List Column) (cells texts : List (List ℕ)) (read : Read) → values_of of at columns cells texts ≡ Ok read → AllByRecursion IsLong read.0
values_long of at columns cells texts read e = from_long at (key_columns of + 1) columns (drop (key_columns of) cells) ([], texts) read tt e
