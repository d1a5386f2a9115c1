-- What the records of a table are, read one at a time.
use Rattle.std.proofs.Common.{◌≡◌, ◌∙◌, sym, ap, refl, arith, ◌<◌, ◌≤◌, ◌+◌, ℕ, zero, suc, Bool, true, false, cond, List, [], ◌∷◌, ◌++◌, length, drop, Option, Some, None, inl, inr, ◌⊎◌, add-one, one-add, option_map}
use Rattle.std.proofs.Common.{eqb-true, le-leb, nat_le, ◌==◌}
use Rattle.std.proofs.lemmas.Bool.{false≢true}
use Rattle.csv.specs.Machine.{Read, ends_at_end, field_after, fields_after, in_field, is_end, next_record, start_field, start_record, step}
use Rattle.csv.specs.Reading.{default_config, is_bom, records, records_from, records_next, strip_bom}
use Rattle.std.specs.List.{AllByRecursion, position_or_len}
use Rattle.std.proofs.Common.{length-append}
use Rattle.csv.specs.declared.parser.Action.{Action}
use Rattle.csv.specs.declared.parser.Action.TheVariants as act
use Rattle.csv.specs.declared.parser.Config.{Config}
use Rattle.csv.specs.declared.parser.State.{State}
use Rattle.csv.specs.declared.parser.State.TheVariants as st
use Rattle.csv_records.specs.Fields.{begins_record, ends_line, has_mark, record_from}
use Rattle.csv_records.specs.Table.{records_of}
use Rattle.csv_records.proofs.FieldFacts.{begins}

abbrev IsLess : Read → List ℕ → Type 0
IsLess r xs = (length r.2 < length xs) ⊎ ((r.1 ≡ st.StartRecord) × (r.2 ≡ []))

-- a record takes a byte, or was ended by the end
shrinks : (cfg : Config) (s : State) (f : List (List ℕ)) (p xs : List ℕ) (r : Read) → next_record cfg s f p xs ≡ Some r → IsLess r xs
unfolding next_record
shrinks cfg s f p [] r e = by (ends_at_end s) e
  where
    by : (b : Bool) → cond b (Some (f ++ (p ∷ []), st.StartRecord, [])) None ≡ Some r → IsLess r []
    by true w = inr (cc w, cc w)
    by false w = cc w
shrinks cfg s f p (c ∷ rest) r e = by (is_end (step cfg s c).1) (shrinks cfg (step cfg s c).0 (fields_after (step cfg s c).1 f p) (field_after (step cfg s c).1 c p) rest r) e
  where
    longer : IsLess r rest → IsLess r (c ∷ rest)
    longer (inl h) = inl (omega arith)
    longer (inr h) = inr h

    by : (b : Bool) → (next_record cfg (step cfg s c).0 (fields_after (step cfg s c).1 f p) (field_after (step cfg s c).1 c p) rest ≡ Some r → IsLess r rest)
        → cond b (Some (fields_after (step cfg s c).1 f p, (step cfg s c).0, rest)) (next_record cfg (step cfg s c).0 (fields_after (step cfg s c).1 f p) (field_after (step cfg s c).1 c p) rest) ≡ Some r → IsLess r (c ∷ rest)
    by true more w = let tail : rest ≡ r.2 = cc w in inl (omega (arith, ap length tail))
    by false more w = longer (more w)

-- nothing is left at the end
at_end : (cfg : Config) (n : ℕ) → records_from cfg n st.StartRecord [] ≡ []
unfolding records_from next_record
at_end cfg zero = refl
at_end cfg (suc n) = refl

abbrev Same : Config → ℕ → ℕ → Type 0
Same cfg m n = (s : State) (xs : List ℕ) → length xs < m → length xs < n → records_from cfg m s xs ≡ records_from cfg n s xs

-- any number of turns above the length gives the same records
pub same_turns : (cfg : Config) (m n : ℕ) (s : State) (xs : List ℕ) → length xs < m → length xs < n → records_from cfg m s xs ≡ records_from cfg n s xs
unfolding records_from
same_turns cfg zero n s xs a b = absurd (omega arith)
same_turns cfg (suc m) zero s xs a b = absurd (omega arith)
same_turns cfg (suc m) (suc n) s xs a b = by (λ s2 ys. same_turns cfg m n s2 ys) (next_record cfg s [] [] xs) refl
  where
    rest : Same cfg m n → (r : Read) → IsLess r xs → records_from cfg m r.1 r.2 ≡ records_from cfg n r.1 r.2
    rest more r (inl h) = more r.1 r.2 (omega arith) (omega arith)
    rest more r (inr h) = rw (h.0, h.1) (at_end cfg m ∙ sym (at_end cfg n))

    by : Same cfg m n → (o : Option Read) → next_record cfg s [] [] xs ≡ o → records_next (records_from cfg m) o ≡ records_next (records_from cfg n) o
    by more None e = refl
    by more (Some r) e = ap (λ t. r.0 ∷ t) (rest more r (shrinks cfg s [] [] xs r e))

-- a record and the records after it
pub records-some : (cfg : Config) (s : State) (xs : List ℕ) (r : Read) → next_record cfg s [] [] xs ≡ Some r → records_from cfg (length xs + 1) s xs ≡ r.0 ∷ records_from cfg (length r.2 + 1) r.1 r.2
unfolding records_from
records-some cfg s xs r e = rw (add-one (length xs), e) (ap (λ t. r.0 ∷ t) (rest (shrinks cfg s [] [] xs r e)))
  where
    rest : IsLess r xs → records_from cfg (length xs) r.1 r.2 ≡ records_from cfg (length r.2 + 1) r.1 r.2
    rest (inl h) = same_turns cfg (length xs) (length r.2 + 1) r.1 r.2 h (omega arith)
    rest (inr h) = rw (h.0, h.1) (at_end cfg (length xs) ∙ sym (at_end cfg 1))

pub records-none : (cfg : Config) (s : State) (xs : List ℕ) → next_record cfg s [] [] xs ≡ None → records_from cfg (length xs + 1) s xs ≡ []
unfolding records_from
records-none cfg s xs e = rw (add-one (length xs), e) refl

-- where a record ends, the next one begins: after a carriage return too, since blank lines are none
abbrev Begins : State → Type 0
Begins s = (xs : List ℕ) → next_record default_config s [] [] xs ≡ next_record default_config st.StartRecord [] [] xs

fresh : Begins st.StartRecord
fresh xs = refl

after_return : Begins st.AfterCr
unfolding next_record
after_return [] = refl
after_return (c ∷ rest) = by (c == 13) (c == 10) refl refl
  where
    by : (a b : Bool) → (c == 13) ≡ a → (c == 10) ≡ b → next_record default_config st.AfterCr [] [] (c ∷ rest) ≡ next_record default_config st.StartRecord [] [] (c ∷ rest)
    by true true p q = rw (q, p) refl
    by true false p q = rw (q, p) refl
    by false true p q = rw (q, p) refl
    by false false p q = rw (q, p) refl

field-ends : (c : ℕ) → is_end (in_field default_config c).1 ≡ true → Begins (in_field default_config c).0
field-ends c e = by (c == 44) (c == 13) (c == 10) refl refl refl e
  where
    by : (a b d : Bool) → (c == 44) ≡ a → (c == 13) ≡ b → (c == 10) ≡ d → is_end (in_field default_config c).1 ≡ true → Begins (in_field default_config c).0
    by true b d p q r f = absurd (false≢true (rw p at f))
    by false true d p q r f = rw (p, q) after_return
    by false false true p q r f = rw (p, q, r) fresh
    by false false false p q r f = absurd (false≢true (rw (p, q, r) at f))

start-ends : (c : ℕ) → is_end (start_field default_config c).1 ≡ true → Begins (start_field default_config c).0
start-ends c e = by (c == 34) refl e
  where
    by : (a : Bool) → (c == 34) ≡ a → is_end (start_field default_config c).1 ≡ true → Begins (start_field default_config c).0
    by true p f = absurd (false≢true (rw p at f))
    by false p f = rw p (field-ends c (rw p at f))

skips-end : (b : Bool) (x : State × Action) → (is_end x.1 ≡ true → Begins x.0) → is_end (cond b (st.StartRecord, act.Skip) x).1 ≡ true → Begins (cond b (st.StartRecord, act.Skip) x).0
skips-end true x more e = absurd (false≢true e)
skips-end false x more e = more e

first-ends : (c : ℕ) → is_end (start_record default_config c).1 ≡ true → Begins (start_record default_config c).0
first-ends c e = skips-end (ends_line c) (start_field default_config c) (start-ends c) e

step-ends : (s : State) (c : ℕ) → is_end (step default_config s c).1 ≡ true → Begins (step default_config s c).0
step-ends st.StartRecord c e = first-ends c e
step-ends st.StartField c e = start-ends c e
step-ends st.InField c e = field-ends c e
step-ends st.InEscape c e = absurd (false≢true e)
step-ends st.InQuoted c e = by (c == 34) refl e
  where
    by : (a : Bool) → (c == 34) ≡ a → is_end (step default_config st.InQuoted c).1 ≡ true → Begins (step default_config st.InQuoted c).0
    by true p f = absurd (false≢true (rw p at f))
    by false p f = absurd (false≢true (rw p at f))
step-ends st.AfterQuote c e = by (c == 34) refl e
  where
    by : (a : Bool) → (c == 34) ≡ a → is_end (step default_config st.AfterQuote c).1 ≡ true → Begins (step default_config st.AfterQuote c).0
    by true p f = absurd (false≢true (rw p at f))
    by false p f = rw p (field-ends c (rw p at f))
step-ends st.InComment c e = by (c == 10) refl e
  where
    by : (a : Bool) → (c == 10) ≡ a → is_end (step default_config st.InComment c).1 ≡ true → Begins (step default_config st.InComment c).0
    by true p f = absurd (false≢true (rw p at f))
    by false p f = absurd (false≢true (rw p at f))
step-ends st.AfterCr c e = skips-end (c == 10) (start_record default_config c) (first-ends c) e

-- the state after a record is one at which a record begins
state-after : (s : State) (f : List (List ℕ)) (p xs : List ℕ) (r : Read) → next_record default_config s f p xs ≡ Some r → Begins r.1
unfolding next_record
state-after s f p [] r e = by (ends_at_end s) e
  where
    by : (b : Bool) → cond b (Some (f ++ (p ∷ []), st.StartRecord, [])) None ≡ Some r → Begins r.1
    by true w = let is : st.StartRecord ≡ r.1 = cc w in rw (← is) fresh
    by false w = cc w
state-after s f p (c ∷ rest) r e =
    by (is_end (step default_config s c).1) refl (state-after (step default_config s c).0 (fields_after (step default_config s c).1 f p) (field_after (step default_config s c).1 c p) rest r) e
  where
    by : (b : Bool) → is_end (step default_config s c).1 ≡ b
        → (next_record default_config (step default_config s c).0 (fields_after (step default_config s c).1 f p) (field_after (step default_config s c).1 c p) rest ≡ Some r → Begins r.1)
        → cond b (Some (fields_after (step default_config s c).1 f p, (step default_config s c).0, rest))
        (next_record default_config (step default_config s c).0 (fields_after (step default_config s c).1 f p) (field_after (step default_config s c).1 c p) rest) ≡ Some r
        → Begins r.1
    by true ends more w = let is : (step default_config s c).0 ≡ r.1 = cc w in rw (← is) (step-ends s c ends)
    by false ends more w = more w

-- the records from such a state
from_begun : (n : ℕ) (s : State) (xs : List ℕ) → Begins s → records_from default_config (n + 1) s xs ≡ records_from default_config (n + 1) st.StartRecord xs
unfolding records_from
from_begun n s xs begins = rw (add-one n, begins xs) refl

inside : {A : Type 0} (x y : A) → Some x ≡ Some y → x ≡ y
inside x y e = cc e

-- a record that was read, and those after it
one_read : (xs ys : List ℕ) (f : List (List ℕ)) → record_from st.StartRecord [] [] xs ≡ Some (f, ys) → records default_config xs ≡ f ∷ records default_config ys
one_read xs ys f e = by (next_record default_config st.StartRecord [] [] xs) refl e
  where
    by : (o : Option Read) → next_record default_config st.StartRecord [] [] xs ≡ o → option_map {U = List (List ℕ) × List ℕ} (λ (r : Read). (r.0, r.2)) o ≡ Some (f, ys) → records default_config xs ≡ f ∷ records default_config ys
    by None p q = cc q
    by (Some r) p q =
        let both = inside {A = List (List ℕ) × List ℕ} (r.0, r.2) (f, ys) q in
        let fields : r.0 ≡ f = ap (λ (t : List (List ℕ) × List ℕ). t.0) both in
        let rest : r.2 ≡ ys = ap (λ (t : List (List ℕ) × List ℕ). t.1) both in
        rw (← fields, ← rest) (records-some default_config st.StartRecord xs r p ∙ ap (λ t. r.0 ∷ t) (from_begun (length r.2) r.1 r.2 (state-after st.StartRecord [] [] xs r p)))

-- texts with the same first record have the same records
same_first : (xs ys : List ℕ) → next_record default_config st.StartRecord [] [] xs ≡ next_record default_config st.StartRecord [] [] ys → records default_config xs ≡ records default_config ys
same_first xs ys e = by (next_record default_config st.StartRecord [] [] ys) refl
  where
    by : (o : Option Read) → next_record default_config st.StartRecord [] [] ys ≡ o → records default_config xs ≡ records default_config ys
    by None p = records-none default_config st.StartRecord xs (e ∙ p) ∙ sym (records-none default_config st.StartRecord ys p)
    by (Some r) p = records-some default_config st.StartRecord xs r (e ∙ p) ∙ sym (records-some default_config st.StartRecord ys r p)

abbrev start : List ℕ → ℕ
start xs = position_or_len begins_record xs

-- blank lines are no records
blank : (xs : List ℕ) → next_record default_config st.StartRecord [] [] xs ≡ next_record default_config st.StartRecord [] [] (drop (start xs) xs)
unfolding next_record
blank [] = refl
blank (c ∷ rest) = by (ends_line c) refl (blank rest)
  where
    by : (b : Bool) → ends_line c ≡ b → next_record default_config st.StartRecord [] [] rest ≡ next_record default_config st.StartRecord [] [] (drop (start rest) rest)
        → next_record default_config st.StartRecord [] [] (c ∷ rest) ≡ next_record default_config st.StartRecord [] [] (drop (start (c ∷ rest)) (c ∷ rest))
    by true e more =
        let at : start (c ∷ rest) ≡ suc (start rest) = rw (e, one-add) refl in
        rw (at, e) more
    by false e more =
        let at : start (c ∷ rest) ≡ 0 = rw e refl in
        rw at refl

-- where a text isn't blank, its first field begins after the blank lines
first_field : (xs : List ℕ) → (length (drop (start xs) xs) == 0) ≡ false
    → record_from st.StartRecord [] [] (drop (start xs) xs) ≡ record_from st.StartField [] [] (drop (start xs) xs)
first_field [] some = cc some
first_field (c ∷ rest) some = by (ends_line c) refl (first_field rest) some
  where
    by : (b : Bool) → ends_line c ≡ b
        → ((length (drop (start rest) rest) == 0) ≡ false → record_from st.StartRecord [] [] (drop (start rest) rest) ≡ record_from st.StartField [] [] (drop (start rest) rest))
        → (length (drop (start (c ∷ rest)) (c ∷ rest)) == 0) ≡ false
        → record_from st.StartRecord [] [] (drop (start (c ∷ rest)) (c ∷ rest)) ≡ record_from st.StartField [] [] (drop (start (c ∷ rest)) (c ∷ rest))
    by true e more w =
        let at : start (c ∷ rest) ≡ suc (start rest) = rw (e, one-add) refl in
        rw at (more (rw at at w))
    by false e more w =
        let at : start (c ∷ rest) ≡ 0 = rw e refl in
        rw at (begins c rest e)

-- the first record of a text, and those after it
pub record_read : (xs ys : List ℕ) (f : List (List ℕ)) → (length (drop (start xs) xs) == 0) ≡ false
    → record_from st.StartField [] [] (drop (start xs) xs) ≡ Some (f, ys) → records default_config xs ≡ f ∷ records default_config ys
record_read xs ys f some e = same_first xs (drop (start xs) xs) (blank xs) ∙ one_read (drop (start xs) xs) ys f (first_field xs some ∙ e)

-- no bytes, no records
none_of : (xs : List ℕ) → (length xs == 0) ≡ true → records default_config xs ≡ []
unfolding next_record
none_of [] e = records-none default_config st.StartRecord [] refl
none_of (c ∷ rest) e = let no : length (c ∷ rest) ≡ 0 = eqb-true (length (c ∷ rest)) 0 e in absurd (omega (arith, no))

pub no_bytes : records default_config [] ≡ []
no_bytes = none_of [] refl

-- a blank text has no records
pub none_read : (xs : List ℕ) → (length (drop (start xs) xs) == 0) ≡ true → records default_config xs ≡ []
none_read xs none = same_first xs (drop (start xs) xs) (blank xs) ∙ none_of (drop (start xs) xs) none

-- the mark, as the code looks for it
pub mark : (xs : List ℕ) → strip_bom xs ≡ cond (has_mark xs) (drop 3 xs) xs
unfolding strip_bom
mark [] = refl
mark (a ∷ []) = refl
mark (a ∷ b ∷ []) = refl
mark (a ∷ b ∷ c ∷ rest) = by (a == 0xEF) (b == 0xBB) (c == 0xBF) refl refl refl
  where
    long : nat_le 3 (length (a ∷ b ∷ c ∷ rest)) ≡ true
    long = le-leb 3 (length (a ∷ b ∷ c ∷ rest)) (omega arith)

    by : (p q r : Bool) → (a == 0xEF) ≡ p → (b == 0xBB) ≡ q → (c == 0xBF) ≡ r
        → strip_bom (a ∷ b ∷ c ∷ rest) ≡ cond (has_mark (a ∷ b ∷ c ∷ rest)) rest (a ∷ b ∷ c ∷ rest)
    by true true true e f g = rw (long, e, f, g) refl
    by true true false e f g = rw (long, e, f, g) refl
    by true false r e f g = rw (long, e, f) refl
    by false q r e f g = rw (long, e) refl

-- a table has no more records than turns
turns : (cfg : Config) (n : ℕ) (s : State) (xs : List ℕ) → length (records_from cfg n s xs) ≤ n
unfolding records_from
turns cfg zero s xs = omega arith
turns cfg (suc n) s xs = by (next_record cfg s [] [] xs) (λ t ys. turns cfg n t ys)
  where
    by : (o : Option Read) → ((t : State) (ys : List ℕ) → length (records_from cfg n t ys) ≤ n) → length (records_next (records_from cfg n) o) ≤ suc n
    by None more = omega arith
    by (Some r) more = let h = more r.1 r.2 in omega (arith, h)

stripped : (xs : List ℕ) → length (strip_bom xs) ≤ length xs
unfolding strip_bom
stripped [] = omega arith
stripped (a ∷ []) = omega arith
stripped (a ∷ b ∷ []) = omega arith
stripped (a ∷ b ∷ c ∷ rest) = by (is_bom a b c)
  where
    by : (v : Bool) → length (cond v rest (a ∷ b ∷ c ∷ rest)) ≤ length (a ∷ b ∷ c ∷ rest)
    by true = omega arith
    by false = omega arith

pub few_records : (xs : List ℕ) → length (records_of xs) ≤ length xs + 1
few_records xs = let t = turns default_config (length (strip_bom xs) + 1) st.StartRecord (strip_bom xs) in let s = stripped xs in omega arith

-- a byte ends at most one field
one_more : (a : Action) (f : List (List ℕ)) (p : List ℕ) → length (fields_after a f p) ≤ length f + 1
one_more act.EndField f p = omega (arith, length-append f (p ∷ []))
one_more act.Skip f p = omega arith
one_more act.Copy f p = omega arith
one_more act.EndRecord f p = omega (arith, length-append f (p ∷ []))

-- a record has no more fields than its bytes and one
narrow : (cfg : Config) (s : State) (f : List (List ℕ)) (p xs : List ℕ) (r : Read) → next_record cfg s f p xs ≡ Some r → length r.0 ≤ length f + length xs + 1
unfolding next_record
narrow cfg s f p [] r e = by (ends_at_end s) e
  where
    by : (b : Bool) → cond b (Some (f ++ (p ∷ []), st.StartRecord, [])) None ≡ Some r → length r.0 ≤ length f + length {A = ℕ} [] + 1
    by true w = let fields : f ++ (p ∷ []) ≡ r.0 = cc w in rw (← fields) (omega (arith, length-append f (p ∷ [])))
    by false w = cc w
narrow cfg s f p (c ∷ rest) r e = by (is_end (step cfg s c).1) (narrow cfg (step cfg s c).0 (fields_after (step cfg s c).1 f p) (field_after (step cfg s c).1 c p) rest r) e
  where
    more_fields : length (fields_after (step cfg s c).1 f p) ≤ length f + 1
    more_fields = one_more (step cfg s c).1 f p

    by : (b : Bool) → (next_record cfg (step cfg s c).0 (fields_after (step cfg s c).1 f p) (field_after (step cfg s c).1 c p) rest ≡ Some r → length r.0 ≤ length (fields_after (step cfg s c).1 f p) + length rest + 1)
        → cond b (Some (fields_after (step cfg s c).1 f p, (step cfg s c).0, rest)) (next_record cfg (step cfg s c).0 (fields_after (step cfg s c).1 f p) (field_after (step cfg s c).1 c p) rest) ≡ Some r → length r.0 ≤ length f + length (c ∷ rest) + 1
    by true more w = let fields : fields_after (step cfg s c).1 f p ≡ r.0 = cc w in rw (← fields) (omega (arith, more_fields))
    by false more w = omega (arith, more w, more_fields)

no_longer : (r : Read) (xs : List ℕ) → IsLess r xs → length r.2 ≤ length xs
no_longer r xs (inl h) = omega arith
no_longer r xs (inr h) = rw h.1 (omega arith)

-- so no record of a text is wider than the text
narrow_records : (cfg : Config) (n : ℕ) (s : State) (xs : List ℕ) (most : ℕ) → length xs + 1 ≤ most → AllByRecursion (λ (r : List (List ℕ)). length r ≤ most) (records_from cfg n s xs)
unfolding records_from
narrow_records cfg zero s xs most h = tt
narrow_records cfg (suc n) s xs most h = by (next_record cfg s [] [] xs) refl (λ t ys less. narrow_records cfg n t ys most less)
  where
    by : (o : Option Read) → next_record cfg s [] [] xs ≡ o → ((t : State) (ys : List ℕ) → length ys + 1 ≤ most → AllByRecursion (λ (r : List (List ℕ)). length r ≤ most) (records_from cfg n t ys))
        → AllByRecursion (λ (r : List (List ℕ)). length r ≤ most) (records_next (records_from cfg n) o)
    by None e more = tt
    by (Some r) e more = (omega (arith, narrow cfg s [] [] xs r e), more r.1 r.2 (omega (arith, no_longer r xs (shrinks cfg s [] [] xs r e))))

pub none_wide : (xs : List ℕ) → AllByRecursion (λ (r : List (List ℕ)). length r ≤ length xs + 1) (records_of xs)
none_wide xs = narrow_records default_config (length (strip_bom xs) + 1) st.StartRecord (strip_bom xs) (length xs + 1) (omega (arith, stripped xs))
