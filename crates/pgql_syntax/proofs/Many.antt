-- The laws of items one after the other, as long as the next token begins one.
use Rattle.std.proofs.lemmas.List.{append-nil}
use Rattle.std.proofs.Common.{◌≡◌, ℕ, zero, suc, ◌≤◌, ◌<◌, Bool, true, false, List, [], ◌∷◌, ◌++◌, length, length-append, Ok, Err, refl, sym, ap, ◌∙◌, subst, append_assoc, arith}
use Rattle.pgql_lexemes.specs.declared.kind.Kind.{Kind}
use Rattle.pgql_lexemes.specs.declared.input.Stop.{Stop}
use Rattle.pgql_lexemes.specs.declared.input.Stop.TheVariants as stop
use Rattle.pgql_lexemes.specs.Lexemes.{Lexeme}
use Rattle.pgql_syntax.specs.Grammar.{Many, no_more, one_more}
use Rattle.pgql_expr.specs.Reading.{Refusal, unexpected, deep, Outcome, Parser, and_then, ◌>>=◌, pure, refuse}
use Rattle.pgql_lexemes.specs.Reads.{Reads}
use Rattle.pgql_lexemes.specs.Lists.{choose, many_from, many, begins_with}
use Rattle.pgql_syntax.proofs.Steady.{Steady, Steady-then, Steady-pure, Steady-refuse, Steady-by_next}
use Rattle.pgql_syntax.proofs.Follows.{Says, Follows, ends_with, Follows-pure, Follows-then, Follows-by_next, said-pure, said-unexpected}
use Rattle.pgql_syntax.proofs.Turns.{Enough, Steady-counted}

module _ (keeps : Refusal → Type 0) {A : Type 0} (item item' : Parser A) (begins : Kind → Bool) (s : Steady keeps item item') where
  chosen_steady : (b : Bool) (p p' q : Parser (List A)) → Steady keeps p p' → Steady keeps q q → Steady keeps (choose p q b) (choose p' q b)
  chosen_steady true p p' q sp sq = sp
  chosen_steady false p p' q sp sq = sq

  pub many_from-steady : (n : ℕ) (found : List A) → Steady keeps (many_from item begins n found) (many_from item' begins n found)
  unfolding many_from
  many_from-steady zero found = Steady-by_next keeps (Steady-pure keeps found) (λ t. chosen_steady (begins t.kind) _ _ _ (Steady-refuse keeps unexpected) (Steady-pure keeps found))
  many_from-steady (suc n) found = Steady-by_next keeps (Steady-pure keeps found)
      (λ t. chosen_steady (begins t.kind) _ _ _ (Steady-then keeps s (λ x. many_from-steady n (found ++ x ∷ []))) (Steady-pure keeps found))

-- a parser takes a token
abbrev pub Takes : {A : Type 0} → Parser A → Type 0
Takes {A} p = (ts : List Lexeme) (x : A) (rest : List Lexeme) → p ts ≡ Ok (x, rest) → suc (length rest) ≤ length ts

module _ {A : Type 0} (item : Parser A) (begins : Kind → Bool) (takes : Takes item) where
  -- the number of turns does not count where it is enough
  pub turns_enough : (found : List A) → Enough (λ n. many_from item begins n found)
  unfolding many_from
  turns_enough found zero zero ts le le' = refl
  turns_enough found zero (suc n') [] le le' = refl
  turns_enough found (suc n) zero [] le le' = refl
  turns_enough found zero (suc n') (t ∷ ts) le le' = absurd (omega arith)
  turns_enough found (suc n) zero (t ∷ ts) le le' = absurd (omega arith)
  turns_enough found (suc n) (suc n') [] le le' = refl
  turns_enough found (suc n) (suc n') (t ∷ ts) le le' = by_bool (λ x rest l l'. turns_enough (found ++ x ∷ []) n n' rest l l') (begins t.kind)
    where
      same_after : (o : Outcome A) → item (t ∷ ts) ≡ o
          → ((x : A) (rest : List Lexeme) → length rest ≤ n → length rest ≤ n' → many_from item begins n (found ++ x ∷ []) rest ≡ many_from item begins n' (found ++ x ∷ []) rest)
          → and_then o (λ x. many_from item begins n (found ++ x ∷ [])) ≡ and_then o (λ x. many_from item begins n' (found ++ x ∷ []))
      same_after (Err e) is again = refl
      same_after (Ok (x, rest)) is again = let lt : suc (length rest) ≤ suc (length ts) = takes (t ∷ ts) x rest is in again x rest (omega arith) (omega arith)

      by_bool : ((x : A) (rest : List Lexeme) → length rest ≤ n → length rest ≤ n' → many_from item begins n (found ++ x ∷ []) rest ≡ many_from item begins n' (found ++ x ∷ []) rest)
          → (b : Bool) → choose (item >>= λ x. many_from item begins n (found ++ x ∷ [])) (pure found) b (t ∷ ts) ≡ choose (item >>= λ x. many_from item begins n' (found ++ x ∷ [])) (pure found) b (t ∷ ts)
      by_bool again true = same_after (item (t ∷ ts)) refl again
      by_bool again false = refl

module _ (keeps : Refusal → Type 0) {A : Type 0} (item item' : Parser A) (begins : Kind → Bool) (s : Steady keeps item item') (takes : Takes item) (takes' : Takes item') where
  pub Steady-many : Steady keeps (many item begins) (many item' begins)
  Steady-many = Steady-counted keeps (λ n. many_from item begins n []) (λ n. many_from item' begins n []) (turns_enough item begins takes []) (turns_enough item' begins takes' [])
      (λ n. many_from-steady keeps item item' begins s n [])

-- the tokens before begin such lists, with these items first
abbrev pub Begun : {A : Type 0} → (List Lexeme → A → Type 0) → List Lexeme → List A → Type 0
Begun {A} R before found = (ts : List Lexeme) (xs : List A) → Many R ts xs → Many R (before ++ ts) (found ++ xs)

module _ {A : Type 0} (R : List Lexeme → A → Type 0) where
  begun_is : (before : List Lexeme) (found : List A) → Begun R before found → Many R before found
  begun_is before found begun =
      let P : List Lexeme → Type 0 = λ v. Many R v (found ++ []) in
      let Q : List A → Type 0 = λ v. Many R before v in
      subst Q (append-nil found) (subst P (append-nil before) (begun [] [] no_more))

  begun_more : (before a : List Lexeme) (found : List A) (x : A) → Begun R before found → R a x → Begun R (before ++ a) (found ++ x ∷ [])
  begun_more before a found x begun r ts xs d =
      let P : List A → Type 0 = λ v. Many R ((before ++ a) ++ ts) v in
      let Q : List Lexeme → Type 0 = λ v. Many R v (found ++ x ∷ xs) in
      subst P (sym (append_assoc found (x ∷ []) xs)) (subst Q (sym (append_assoc before a ts)) (begun (a ++ ts) (x ∷ xs) (one_more a ts r d)))

module _ {A : Type 0} (R R' : List Lexeme → A → Type 0) (item : Parser A) (begins : Kind → Bool) (s : Follows R R' [] item) (up : (a : List Lexeme) (x : A) → R a x → R' a x) where
  abbrev ManyR : List Lexeme → List A → Type 0
  ManyR = Many R

  abbrev ManyR' : List Lexeme → List A → Type 0
  ManyR' = Many R'

  many_from-follows : (n : ℕ) (before : List Lexeme) (found : List A) → Begun R before found → Begun R' before found
      → Follows (Many R) (Many R') before (many_from item begins n found)
  unfolding many_from
  many_from-follows zero before found begun begun' =
      Follows-by_next (Many R) (Many R') before (pure found) (λ t. choose (refuse unexpected) (pure found) (begins t.kind))
      (Follows-pure (Many R) (Many R') before found (begun_is R before found begun)) (λ t ts. by_bool t ts (begins t.kind))
    where
      by_bool : (t : Lexeme) (ts : List Lexeme) (b : Bool) → Says (Many R) (Many R') before (t ∷ ts) (choose (refuse unexpected) (pure found) b (t ∷ ts))
      by_bool t ts true = said-unexpected (Many R) (Many R') before (t ∷ ts) (ends_with (Many R) (Many R') before found (begun_is R before found begun))
      by_bool t ts false = said-pure (Many R) (Many R') before (t ∷ ts) found (begun_is R before found begun)
  many_from-follows (suc n) before found begun begun' =
      Follows-by_next (Many R) (Many R') before (pure found) (λ t. choose (item >>= λ x. many_from item begins n (found ++ x ∷ [])) (pure found) (begins t.kind))
      (Follows-pure (Many R) (Many R') before found (begun_is R before found begun)) (λ t ts. by_bool t ts (λ a x b b'. many_from-follows n (before ++ a) (found ++ x ∷ []) b b') (begins t.kind))
    where
      by_bool : (t : Lexeme) (ts : List Lexeme)
          → ((a : List Lexeme) (x : A) → Begun R (before ++ a) (found ++ x ∷ []) → Begun R' (before ++ a) (found ++ x ∷ []) → Follows (Many R) (Many R') (before ++ a) (many_from item begins n (found ++ x ∷ [])))
          → (b : Bool) → Says (Many R) (Many R') before (t ∷ ts) (choose (item >>= λ x. many_from item begins n (found ++ x ∷ [])) (pure found) b (t ∷ ts))
      by_bool t ts go true =
          (Follows-then R R' (Many R) (Many R') before item (λ x. many_from item begins n (found ++ x ∷ [])) s (
            (λ a x r. ends_with (Many R) (Many R') (before ++ a) (found ++ x ∷ []) (begun_is R (before ++ a) (found ++ x ∷ []) (begun_more R before a found x begun r))),
            (λ a x r. ends_with (Many R') (Many R') (before ++ a) (found ++ x ∷ []) (begun_is R' (before ++ a) (found ++ x ∷ []) (begun_more R' before a found x begun' r))),
          )
          (λ a x r. go a x (begun_more R before a found x begun r) (begun_more R' before a found x begun' (up a x r)))).says (t ∷ ts)
      by_bool t ts go false = said-pure (Many R) (Many R') before (t ∷ ts) found (begun_is R before found begun)

  pub Follows-many : Follows (Many R) (Many R') [] (many item begins)
  Follows-many = record { says = λ ts. (many_from-follows (length ts) [] [] (λ ts xs d. d) (λ ts xs d. d)).says ts }

-- no item begins here
abbrev pub NoneBegins : (Kind → Bool) → List Lexeme → Type 0
NoneBegins begins [] = Unit {0}
NoneBegins begins (t ∷ ts) = begins t.kind ≡ false

-- an item has a first token, with which it begins
abbrev pub Starts : (Kind → Bool) → List Lexeme → Type 0
Starts begins [] = ⊥
Starts begins (t ∷ ts) = begins t.kind ≡ true

module _ {A : Type 0} (R : List Lexeme → A → Type 0) (item : Parser A) (begins : Kind → Bool)
    (item_reads : (a : List Lexeme) (x : A) → R a x → (rest : List Lexeme) → item (a ++ rest) ≡ Ok (x, rest))
    (starts : (a : List Lexeme) (x : A) → R a x → Starts begins a) where
  stops : (n : ℕ) (found : List A) (rest : List Lexeme) → NoneBegins begins rest → many_from item begins n found rest ≡ Ok (found, rest)
  unfolding many_from
  stops zero found [] s = refl
  stops (suc n) found [] s = refl
  stops zero found (t ∷ ts) s = rw s refl
  stops (suc n) found (t ∷ ts) s = rw s refl

  goes : (n : ℕ) (found : List A) (a r : List Lexeme) → Starts begins a → many_from item begins (suc n) found (a ++ r) ≡ and_then (item (a ++ r)) (λ x. many_from item begins n (found ++ x ∷ []))
  unfolding many_from
  goes n found [] r s = absurd s
  goes n found (t ∷ a) r s = rw s refl

  many_from-reads : {ts : List Lexeme} {xs : List A} → Many R ts xs → (n : ℕ) → length xs ≤ n → (found : List A) (rest : List Lexeme) → NoneBegins begins rest
      → many_from item begins n found (ts ++ rest) ≡ Ok (found ++ xs, rest)
  many_from-reads no_more n le found rest s = stops n found rest s ∙ ap (λ v. Ok (v, rest)) (sym (append-nil found))
  many_from-reads (one_more a b r d) zero le found rest s = absurd (omega arith)
  many_from-reads (one_more a b {x = x} {xs = xs} r d) (suc n) le found rest s =
      ap (many_from item begins (suc n) found) (append_assoc a b rest)
      ∙ goes n found a (b ++ rest) (starts a x r)
      ∙ ap (λ o. and_then o (λ x. many_from item begins n (found ++ x ∷ []))) (item_reads a x r (b ++ rest))
      ∙ many_from-reads d n (omega arith) (found ++ x ∷ []) rest s
      ∙ ap (λ v. Ok (v, rest)) (append_assoc found (x ∷ []) xs)

  some_tokens : (a : List Lexeme) → Starts begins a → 0 < length a
  some_tokens [] s = absurd s
  some_tokens (t ∷ a) s = omega arith

  no_longer : {ts : List Lexeme} {xs : List A} → Many R ts xs → length xs ≤ length ts
  no_longer no_more = omega arith
  no_longer (one_more a b {x = x} r d) = let le = no_longer d in let lt = some_tokens a (starts a x r) in omega (arith, length-append a b)

  pub many_reads : {ts : List Lexeme} {xs : List A} → Many R ts xs → (rest : List Lexeme) → NoneBegins begins rest → many item begins (ts ++ rest) ≡ Ok (xs, rest)
  many_reads {ts} {xs} d rest s = many_from-reads d (length (ts ++ rest)) (let le = no_longer d in omega (arith, length-append ts rest)) [] rest s

-- one turn of the loop
module _ {A : Type 0} (item : Parser A) (begins : Kind → Bool) (takes : Takes item) where
  pub loop_ends : (n : ℕ) (found : List A) (ts : List Lexeme) → begins_with begins ts ≡ false → many_from item begins n found ts ≡ Ok (found, ts)
  unfolding many_from
  loop_ends zero found [] s = refl
  loop_ends (suc n) found [] s = refl
  loop_ends zero found (t ∷ ts) s = rw s refl
  loop_ends (suc n) found (t ∷ ts) s = rw s refl

  loop_step : (n : ℕ) (found : List A) (ts : List Lexeme) → begins_with begins ts ≡ true → many_from item begins (suc n) found ts ≡ and_then (item ts) (λ x. many_from item begins n (found ++ x ∷ []))
  unfolding many_from
  loop_step n found [] s = absurd cc
  loop_step n found (t ∷ ts) s = rw s refl

  pub loop_goes : (n : ℕ) (found : List A) (ts rest : List Lexeme) (x : A) → length ts ≤ n → begins_with begins ts ≡ true → item ts ≡ Ok (x, rest)
      → (n' : ℕ) × (length rest ≤ n') × (many_from item begins n found ts ≡ many_from item begins n' (found ++ x ∷ []) rest)
  loop_goes zero found ts rest x le s e = let lt = takes ts x rest e in absurd (omega arith)
  loop_goes (suc n) found ts rest x le s e =
      let lt = takes ts x rest e in (n, omega arith, loop_step n found ts s ∙ ap (λ o. and_then o (λ x. many_from item begins n (found ++ x ∷ []))) e)

  as_item : (n : ℕ) (found : List A) (ts : List Lexeme) (why : Refusal × List Lexeme) → length ts ≤ n → begins_with begins ts ≡ true → item ts ≡ Err why → many_from item begins n found ts ≡ Err why
  as_item zero found [] why le s e = absurd cc
  as_item zero found (t ∷ ts) why le s e = absurd (omega arith)
  as_item (suc n) found ts why le s e = loop_step n found ts s ∙ ap (λ o. and_then o (λ x. many_from item begins n (found ++ x ∷ []))) e

  pub loop_fails : (whole : Outcome (List A)) (n : ℕ) (found : List A) (ts new : List Lexeme) (why : Stop) → whole ≡ many_from item begins n found ts → length ts ≤ n → begins_with begins ts ≡ true
      → Reads {A = A} (item ts) (Err why) new → Reads {A = List A} whole (Err why) new
  loop_fails whole n found ts new stop.Unexpected same le s e = same ∙ as_item n found ts (unexpected, new) le s e
  loop_fails whole n found ts new stop.Deep same le s e = same ∙ as_item n found ts (deep, new) le s e
  loop_fails whole n found ts new stop.NoMemory same le s e = tt
