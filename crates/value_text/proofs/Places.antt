-- The places of texts among the keys of a set that holds them.
use Rattle.std.proofs.Common.{◌≡◌, ◌∙◌, sym, ap, refl, arith, ◌<◌, ◌≤◌, ◌+◌, ℕ, Bool, true, false, cond, not, ◌||◌, List, [], ◌∷◌, ◌++◌, length, length-append, map, Some, None, Result, Ok, Err, IfOk, OnOk, OnErr, take, position, nat_lt}
use Rattle.adfs_base.specs.declared.no_memory.NoMemory.{NoMemory}
use Rattle.std.proofs.lemmas.Bool.Decides.{nat_tests}
use Rattle.std.proofs.lemmas.Cmp.{nat_list_eq_equiv}
use Rattle.std.proofs.lemmas.List.{length-map, map-append, take-append-le, take_all}
use Rattle.std.proofs.lemmas.Map.Keys.{IsDistinct-push}
use Rattle.std.specs.List.{IsDistinct, list_any, position_or_len}
use Rattle.std.specs.Str.{bytes_eq}
use Rattle.value_text.specs.Texts.{Kept, number_of, with_text}

-- a text's place among the keys is its number among their texts
pub number_map : {K : Type 0} (f : K → List ℕ) (text : List ℕ) (keys : List K) → position_or_len (λ k. bytes_eq text (f k)) keys ≡ number_of (map f keys) text
number_map f text [] = refl
number_map f text (k ∷ ks) = ap (λ n. cond (not (bytes_eq text (f k))) (1 + n) 0) (number_map f text ks)

pub any_map : {K : Type 0} (f : K → List ℕ) (text : List ℕ) (keys : List K) → list_any (λ k. bytes_eq text (f k)) keys ≡ list_any (bytes_eq text) (map f keys)
any_map f text [] = refl
any_map f text (k ∷ ks) = ap (λ b. bytes_eq text (f k) || b) (any_map f text ks)

pub position_map : {K : Type 0} (f : K → List ℕ) (text : List ℕ) (keys : List K) → position (λ k. bytes_eq text (f k)) keys ≡ position (bytes_eq text) (map f keys)
position_map f text keys = rw (number_map f text keys, ← length-map keys f) refl

number_found : {K : Type 0} (p : K → Bool) (keys : List K) (i : ℕ) → position p keys ≡ Some i → i ≡ position_or_len p keys
number_found p keys i = by (nat_lt (position_or_len p keys) (length keys))
  where
    by : (b : Bool) → cond b (Some (position_or_len p keys)) None ≡ Some i → i ≡ position_or_len p keys
    by true e = cc e
    by false e = cc e

-- a place that was found is the text's number
pub found : {K : Type 0} (f : K → List ℕ) (text : List ℕ) (keys : List K) (i : ℕ) → position (λ k. bytes_eq text (f k)) keys ≡ Some i → i ≡ number_of (map f keys) text
found f text keys i e = number_found (λ k. bytes_eq text (f k)) keys i e ∙ number_map f text keys

-- the keys after an insert have the texts with that text
pub inserted : {K : Type 0} (f : K → List ℕ) (k : K) (keys : List K) → map f (cond (list_any (λ x. bytes_eq (f k) (f x)) keys) keys (keys ++ k ∷ [])) ≡ with_text (map f keys) (f k)
inserted f k keys = by (list_any (λ x. bytes_eq (f k) (f x)) keys) refl
  where
    by : (b : Bool) → list_any (λ x. bytes_eq (f k) (f x)) keys ≡ b → map f (cond (list_any (λ x. bytes_eq (f k) (f x)) keys) keys (keys ++ k ∷ [])) ≡ with_text (map f keys) (f k)
    by true e = rw (e, sym (any_map f (f k) keys) ∙ e) refl
    by false e = rw (e, sym (any_map f (f k) keys) ∙ e, map-append f keys (k ∷ [])) refl

pub IsDistinct-nil : IsDistinct bytes_eq []
unfolding IsDistinct
IsDistinct-nil = tt

-- texts that differ go on to differ
pub IsDistinct-with_text : (texts : List (List ℕ)) (text : List ℕ) → IsDistinct bytes_eq texts → IsDistinct bytes_eq (with_text texts text)
IsDistinct-with_text texts text distinct = by (list_any (bytes_eq text) texts) refl
  where
    by : (b : Bool) → list_any (bytes_eq text) texts ≡ b → IsDistinct bytes_eq (cond b texts (texts ++ text ∷ []))
    by true e = distinct
    by false e = IsDistinct-push nat_list_eq_equiv texts text distinct e

pub length-with_text : (texts : List (List ℕ)) (text : List ℕ) → length (with_text texts text) ≤ length texts + 1
length-with_text texts text = by (list_any (bytes_eq text) texts)
  where
    by : (b : Bool) → length (cond b texts (texts ++ text ∷ [])) ≤ length texts + 1
    by true = omega arith
    by false = omega (arith, length-append texts (text ∷ []))

any_before : (p : List ℕ → Bool) (texts : List (List ℕ)) → position_or_len p texts < length texts → list_any p texts ≡ true
any_before p [] less = absurd (omega arith)
any_before p (t ∷ ts) less = by (p t) refl less (any_before p ts)
  where
    by : (b : Bool) → p t ≡ b → cond (not b) (1 + position_or_len p ts) 0 < length (t ∷ ts) → (position_or_len p ts < length ts → list_any p ts ≡ true) → list_any p (t ∷ ts) ≡ true
    by true e h more = rw e refl
    by false e h more = rw e (more (omega arith))

-- a text that has a place is one of the texts
pub there : (texts : List (List ℕ)) (text : List ℕ) (n : ℕ) → Some n ≡ position (bytes_eq text) texts → (n ≡ number_of texts text) × (texts ≡ with_text texts text)
there texts text n e = by (nat_lt (number_of texts text) (length texts)) refl (sym e)
  where
    by : (b : Bool) → nat_lt (number_of texts text) (length texts) ≡ b → cond b (Some (number_of texts text)) None ≡ Some n → (n ≡ number_of texts text) × (texts ≡ with_text texts text)
    by true t f = let less : number_of texts text < length texts = grind (arith, nat_tests) in (cc f, rw (any_before (bytes_eq text) texts less) refl)
    by false t f = cc f

place_most : (p : List ℕ → Bool) (texts : List (List ℕ)) → position_or_len p texts ≤ length texts
place_most p [] = omega arith
place_most p (t ∷ ts) = by (p t) (place_most p ts)
  where
    by : (b : Bool) → position_or_len p ts ≤ length ts → cond (not b) (1 + position_or_len p ts) 0 ≤ length (t ∷ ts)
    by true h = omega arith
    by false h = omega arith

place_before : (p : List ℕ → Bool) (texts : List (List ℕ)) → list_any p texts ≡ true → position_or_len p texts < length texts
place_before p [] any = cc any
place_before p (t ∷ ts) any = by (p t) refl (place_before p ts) any
  where
    by : (b : Bool) → p t ≡ b → (list_any p ts ≡ true → position_or_len p ts < length ts) → (b || list_any p ts) ≡ true → position_or_len p (t ∷ ts) < length (t ∷ ts)
    by true e more h = rw e (omega arith)
    by false e more h = rw e (omega (arith, more h))

-- What holds of the texts once a text is one of them.
pub record Adds (old new : List (List ℕ)) (n : ℕ) : Type 0 where
  pub within : n < length new
  pub kept : Kept old new
  pub room : length new ≤ length old + 1

adds_text : (texts : List (List ℕ)) (text : List ℕ) → Adds texts (with_text texts text) (number_of texts text)
adds_text texts text = by (list_any (bytes_eq text) texts) refl
  where
    by : (b : Bool) → list_any (bytes_eq text) texts ≡ b → Adds texts (cond b texts (texts ++ text ∷ [])) (number_of texts text)
    by true e = record { within = place_before (bytes_eq text) texts e; kept = take_all (length texts) texts (omega arith); room = omega arith }
    by false e = record {
      within = omega (arith, place_most (bytes_eq text) texts, length-append texts (text ∷ []));
      kept = take-append-le (length texts) texts (text ∷ []) (omega arith) ∙ take_all (length texts) texts (omega arith);
      room = omega (arith, length-append texts (text ∷ []));
    }

pub adds : (old new : List (List ℕ)) (text : List ℕ) (n : ℕ) → n ≡ number_of old text → new ≡ with_text old text → Adds old new n
adds old new text n number texts = rw (number, texts) (adds_text old text)

-- What a call that adds a text answers and leaves.
pub record Answers (old new : List (List ℕ)) (text : List ℕ) (r : Result ℕ NoMemory) : Type 0 where
  pub number : IfOk r (λ n. n ≡ number_of old text)
  pub texts : IfOk r (λ n. new ≡ with_text old text)
  pub within : IfOk r (λ n. n < length new)
  pub kept : Kept old new
  pub err : OnErr r (new ≡ old)
  pub room : length new ≤ length old + 1

pub answers : (old new : List (List ℕ)) (text : List ℕ) (r : Result ℕ NoMemory) → IfOk r (λ n. n ≡ number_of old text) → OnOk r (new ≡ with_text old text) → OnErr r (new ≡ old) → Answers old new text r
answers old new text (Ok n) number texts err =
    let a = adds old new text n number texts in
    record { number = number; texts = texts; within = a.within; kept = a.kept; err = tt; room = a.room }
answers old new text (Err e) number texts err =
    record { number = tt; texts = tt; within = tt; kept = rw err (take_all (length old) old (omega arith)); err = err; room = rw err (omega arith) }
