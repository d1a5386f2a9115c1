-- What the machine makes of a field.
use Rattle.std.proofs.Common.{◌≡◌, ◌∙◌, refl, ℕ, suc, ◌||◌, Bool, true, false, cond, List, [], ◌∷◌, ◌++◌, take, drop, append_assoc, append-nil, one-add, eqb-true, ◌==◌}
use Rattle.std.proofs.Common.{true≢false}
use Rattle.std.proofs.lemmas.Bool.{false≢true}
use Rattle.std.specs.List.{position_or_len}
use Rattle.csv.specs.Machine.{next_record, step}
use Rattle.csv.specs.Reading.{default_config}
use Rattle.csv.specs.declared.parser.Action.TheVariants as act
use Rattle.csv.specs.declared.parser.State.TheVariants as st
use Rattle.csv_records.specs.Fields.{ends_field, ends_line, goes_on, is_over, is_quote, is_quoted, record_after, record_from}

abbrev field_end : List ℕ → ℕ
field_end text = position_or_len ends_field text

abbrev quote_at : List ℕ → ℕ
quote_at text = position_or_len is_quote text

-- a byte that doesn't end a field joins it
joins : (c : ℕ) → ends_field c ≡ false → step default_config st.InField c ≡ (st.InField, act.Copy)
joins c e = by (c == 44) (ends_line c) refl refl e
  where
    by : (a b : Bool) → (c == 44) ≡ a → ends_line c ≡ b → (a || b) ≡ false → step default_config st.InField c ≡ (st.InField, act.Copy)
    by true b p q f = cc f
    by false true p q f = cc f
    by false false p q f = rw (p, q) refl

-- a byte that ends a field
ends : (before : List (List ℕ)) (field : List ℕ) (c : ℕ) (rest : List ℕ) → ends_field c ≡ true
    → record_from st.InField before field (c ∷ rest) ≡ record_after (goes_on (c ∷ rest)) (before ++ field ∷ []) rest
unfolding next_record
ends before field c rest e = by (c == 44) (ends_line c) refl refl e
  where
    by : (a b : Bool) → (c == 44) ≡ a → ends_line c ≡ b → (a || b) ≡ true
        → record_from st.InField before field (c ∷ rest) ≡ record_after (goes_on (c ∷ rest)) (before ++ field ∷ []) rest
    by true b p q f = rw p refl
    by false true p q f = rw (p, q) refl
    by false false p q f = cc f

-- a field that isn't quoted goes to the first byte that ends it
pub plain : (before : List (List ℕ)) (field text : List ℕ)
    → record_from st.InField before field text
    ≡ record_after (goes_on (drop (field_end text) text)) (before ++ (field ++ take (field_end text) text) ∷ []) (drop 1 (drop (field_end text) text))
unfolding next_record
plain before field [] = rw append-nil refl
plain before field (c ∷ rest) = by (ends_field c) refl (plain before (field ++ c ∷ []) rest)
  where
    by : (b : Bool) → ends_field c ≡ b
        → record_from st.InField before (field ++ c ∷ []) rest
        ≡ record_after (goes_on (drop (field_end rest) rest)) (before ++ ((field ++ c ∷ []) ++ take (field_end rest) rest) ∷ []) (drop 1 (drop (field_end rest) rest))
        → record_from st.InField before field (c ∷ rest)
        ≡ record_after (goes_on (drop (field_end (c ∷ rest)) (c ∷ rest))) (before ++ (field ++ take (field_end (c ∷ rest)) (c ∷ rest)) ∷ []) (drop 1 (drop (field_end (c ∷ rest)) (c ∷ rest)))
    by true e more =
        let at : field_end (c ∷ rest) ≡ 0 = rw e refl in
        rw (at, append-nil) (ends before field c rest e)
    by false e more =
        let at : field_end (c ∷ rest) ≡ suc (field_end rest) = rw (e, one-add) refl in
        let joined : step default_config st.InField c ≡ (st.InField, act.Copy) = joins c e in
        rw (at, joined) (rw (append_assoc field (c ∷ []) (take (field_end rest) rest)) at more)

-- the start of a field that isn't quoted is within it
pub begins_plain : (before : List (List ℕ)) (field text : List ℕ) → is_quoted text ≡ false → record_from st.StartField before field text ≡ record_from st.InField before field text
unfolding next_record
begins_plain before field [] e = refl
begins_plain before field (c ∷ rest) e = rw e refl

-- an opening quote
pub begins_quoted : (before : List (List ℕ)) (text : List ℕ) → is_quoted text ≡ true → record_from st.StartField before [] text ≡ record_from st.InQuoted before [] (drop 1 text)
unfolding next_record
begins_quoted before [] e = absurd (false≢true e)
begins_quoted before (c ∷ rest) e = rw e refl

-- after a quote inside of quotes: another doubles it, and else the quotes are closed
after_quote : (before : List (List ℕ)) (field text : List ℕ) → record_from st.AfterQuote before field text ≡ cond (is_quoted text) (record_from st.InQuoted before (field ++ 34 ∷ []) (drop 1 text)) (record_from st.InField before field text)
unfolding next_record
after_quote before field [] = refl
after_quote before field (c ∷ rest) = by (is_quote c) refl
  where
    by : (b : Bool) → is_quote c ≡ b → record_from st.AfterQuote before field (c ∷ rest) ≡ cond (is_quoted (c ∷ rest)) (record_from st.InQuoted before (field ++ 34 ∷ []) rest) (record_from st.InField before field (c ∷ rest))
    by true e =
        let is : c ≡ 34 = eqb-true c 34 e in
        rw is refl
    by false e = rw e refl

-- inside of quotes a field goes to the next quote
pub quoted : (before : List (List ℕ)) (field text : List ℕ)
    → record_from st.InQuoted before field text
    ≡ cond (is_quoted (drop 1 (drop (quote_at text) text)))
    (record_from st.InQuoted before ((field ++ take (quote_at text) text) ++ 34 ∷ []) (drop 1 (drop 1 (drop (quote_at text) text))))
    (record_from st.InField before (field ++ take (quote_at text) text) (drop 1 (drop (quote_at text) text)))
unfolding next_record
quoted before field [] = rw append-nil refl
quoted before field (c ∷ rest) = by (is_quote c) refl (quoted before (field ++ c ∷ []) rest)
  where
    by : (b : Bool) → is_quote c ≡ b
        → record_from st.InQuoted before (field ++ c ∷ []) rest
        ≡ cond (is_quoted (drop 1 (drop (quote_at rest) rest)))
        (record_from st.InQuoted before (((field ++ c ∷ []) ++ take (quote_at rest) rest) ++ 34 ∷ []) (drop 1 (drop 1 (drop (quote_at rest) rest))))
        (record_from st.InField before ((field ++ c ∷ []) ++ take (quote_at rest) rest) (drop 1 (drop (quote_at rest) rest)))
        → record_from st.InQuoted before field (c ∷ rest)
        ≡ cond (is_quoted (drop 1 (drop (quote_at (c ∷ rest)) (c ∷ rest))))
        (record_from st.InQuoted before ((field ++ take (quote_at (c ∷ rest)) (c ∷ rest)) ++ 34 ∷ []) (drop 1 (drop 1 (drop (quote_at (c ∷ rest)) (c ∷ rest)))))
        (record_from st.InField before (field ++ take (quote_at (c ∷ rest)) (c ∷ rest)) (drop 1 (drop (quote_at (c ∷ rest)) (c ∷ rest))))
    by true e more =
        let at : quote_at (c ∷ rest) ≡ 0 = rw e refl in
        rw (at, append-nil, e) (after_quote before field rest)
    by false e more =
        let at : quote_at (c ∷ rest) ≡ suc (quote_at rest) = rw (e, one-add) refl in
        rw (at, e) (rw (append_assoc field (c ∷ []) (take (quote_at rest) rest)) at more)

-- a record begins with its first field
pub begins : (c : ℕ) (rest : List ℕ) → ends_line c ≡ false → record_from st.StartRecord [] [] (c ∷ rest) ≡ record_from st.StartField [] [] (c ∷ rest)
unfolding next_record
begins c rest e = rw e refl

pick_true : {A : Type 0} (b : Bool) (x y z : A) → x ≡ cond b y z → b ≡ true → x ≡ y
pick_true true x y z h e = h
pick_true false x y z h e = absurd (false≢true e)

pick_false : {A : Type 0} (b : Bool) (x y z : A) → x ≡ cond b y z → b ≡ false → x ≡ z
pick_false true x y z h e = absurd (true≢false e)
pick_false false x y z h e = h

-- the quotes are closed
pub closed : (before : List (List ℕ)) (field text : List ℕ) → is_quoted (drop 1 (drop (quote_at text) text)) ≡ false
    → record_from st.InQuoted before field text ≡ record_from st.InField before (field ++ take (quote_at text) text) (drop 1 (drop (quote_at text) text))
closed before field text e = pick_false (is_quoted (drop 1 (drop (quote_at text) text))) _ _ _ (quoted before field text) e

-- the quote is doubled
pub doubled : (before : List (List ℕ)) (field text : List ℕ) → is_quoted (drop 1 (drop (quote_at text) text)) ≡ true
    → record_from st.InQuoted before field text ≡ record_from st.InQuoted before ((field ++ take (quote_at text) text) ++ 34 ∷ []) (drop 1 (drop 1 (drop (quote_at text) text)))
doubled before field text e = pick_true (is_quoted (drop 1 (drop (quote_at text) text))) _ _ _ (quoted before field text) e

-- a text before which a field is over begins with no quote, and none of it joins the field
over : (text : List ℕ) → is_over text ≡ true → (is_quoted text ≡ false) × (field_end text ≡ 0)
over [] e = (refl, refl)
over (c ∷ rest) e = by (is_quote c) refl
  where
    ends_here : field_end (c ∷ rest) ≡ 0
    ends_here = rw e refl

    by : (b : Bool) → is_quote c ≡ b → (is_quoted (c ∷ rest) ≡ false) × (field_end (c ∷ rest) ≡ 0)
    by true q = let is : c ≡ 34 = eqb-true c 34 q in absurd (false≢true (rw is at e))
    by false q = (q, ends_here)

-- a quoted field that goes to the first quote
pub whole : (before : List (List ℕ)) (text : List ℕ) → is_over (drop 1 (drop (quote_at text) text)) ≡ true
    → record_from st.InQuoted before [] text
    ≡ record_after (goes_on (drop 1 (drop (quote_at text) text))) (before ++ take (quote_at text) text ∷ []) (drop 1 (drop 1 (drop (quote_at text) text)))
whole before text e =
    let tail = drop 1 (drop (quote_at text) text) in
    let parts = over tail e in
    closed before [] text parts.0 ∙ (rw (parts.1, append-nil) at (plain before (take (quote_at text) text) tail))
