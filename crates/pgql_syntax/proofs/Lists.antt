-- The laws of lists with a mark between their items.
use Rattle.std.proofs.Common.{◌≡◌, ℕ, zero, suc, ◌≤◌, ◌<◌, Bool, true, false, List, [], ◌∷◌, ◌++◌, length, length-append, Ok, Err, refl, sym, ap, ◌∙◌, subst, append_assoc, arith}
use Rattle.pgql_lexemes.specs.declared.kind.Kind.{Kind}
use Rattle.pgql_lexemes.specs.Lexemes.{Lexeme}
use Rattle.pgql_expr.specs.Reading.{Refusal, unexpected, Outcome, Parser, and_then, ◌>>◌, pure, by_next, take_token, same_kind}
use Rattle.pgql_syntax.specs.Grammar.{Separated, alone, followed}
use Rattle.pgql_lexemes.specs.Lists.{choose, separated_from, separated, Shrinks}
use Rattle.pgql_syntax.proofs.Steady.{Steady, Steady-then, Steady-pure, Steady-refuse, Steady-take, Steady-by_next}
use Rattle.pgql_syntax.proofs.Follows.{CanEnd, Says, Follows, ends_with, Follows-pure, Follows-unexpected, Follows-then, Follows-by_next, said-pure, said-after}
use Rattle.pgql_lexemes.proofs.SameKind.{same_is}
use Rattle.std.specs.Prelude.{map}
use Rattle.pgql_syntax.proofs.Samples.{sample}
use Rattle.pgql_lexemes.proofs.SameKind.{same_itself}
use Rattle.pgql_syntax.proofs.Turns.{Steady-counted}

module _ (keeps : Refusal → Type 0) {A : Type 0} (item item' : Parser A) (mark : Kind) (s : Steady keeps item item') where
  chosen_steady : (b : Bool) (p p' q : Parser (List A)) → Steady keeps p p' → Steady keeps q q → Steady keeps (choose p q b) (choose p' q b)
  chosen_steady true p p' q sp sq = sp
  chosen_steady false p p' q sp sq = sq

  pub separated_from-steady : (n : ℕ) (found : List A) → Steady keeps (separated_from item mark n found) (separated_from item' mark n found)
  unfolding separated_from
  separated_from-steady zero found = Steady-refuse keeps unexpected
  separated_from-steady (suc n) found = Steady-then keeps s (λ x. Steady-by_next keeps (Steady-pure keeps (found ++ x ∷ []))
      (λ t. chosen_steady (same_kind t.kind mark) _ _ _ (Steady-then keeps (Steady-take keeps) (λ _. separated_from-steady n (found ++ x ∷ []))) (Steady-pure keeps (found ++ x ∷ []))))

module _ {A : Type 0} (item : Parser A) (mark : Kind) (shrinks : Shrinks item) where
  -- the number of turns does not count where it is enough
  pub turns_enough : (n n' : ℕ) (found : List A) (ts : List Lexeme) → length ts ≤ n → length ts ≤ n' → separated_from item mark n found ts ≡ separated_from item mark n' found ts
  unfolding separated_from
  turns_enough zero zero found ts le le' = refl
  turns_enough zero (suc n') found [] le le' = sym (ap (λ o. and_then o (λ x. by_next (pure (found ++ x ∷ [])) (λ t. choose (take_token >> separated_from item mark n' (found ++ x ∷ [])) (pure (found ++ x ∷ [])) (same_kind t.kind mark)))) shrinks.at_end)
  turns_enough (suc n) zero found [] le le' = ap (λ o. and_then o (λ x. by_next (pure (found ++ x ∷ [])) (λ t. choose (take_token >> separated_from item mark n (found ++ x ∷ [])) (pure (found ++ x ∷ [])) (same_kind t.kind mark)))) shrinks.at_end
  turns_enough zero (suc n') found (t ∷ ts) le le' = absurd (omega arith)
  turns_enough (suc n) zero found (t ∷ ts) le le' = absurd (omega arith)
  turns_enough (suc n) (suc n') found ts le le' = same_after (item ts) refl (λ x rest le le'. turns_enough n n' (found ++ x ∷ []) rest le le')
    where
      by_bool : (x : A) (t : Lexeme) (rest : List Lexeme) (b : Bool) → separated_from item mark n (found ++ x ∷ []) rest ≡ separated_from item mark n' (found ++ x ∷ []) rest
          → choose (take_token >> separated_from item mark n (found ++ x ∷ [])) (pure (found ++ x ∷ [])) b (t ∷ rest)
          ≡ choose (take_token >> separated_from item mark n' (found ++ x ∷ [])) (pure (found ++ x ∷ [])) b (t ∷ rest)
      by_bool x t rest true e = e
      by_bool x t rest false e = refl

      same_after : (o : Outcome A) → item ts ≡ o
          → ((x : A) (rest : List Lexeme) → length rest ≤ n → length rest ≤ n' → separated_from item mark n (found ++ x ∷ []) rest ≡ separated_from item mark n' (found ++ x ∷ []) rest)
          → and_then o (λ x. by_next (pure (found ++ x ∷ [])) (λ t. choose (take_token >> separated_from item mark n (found ++ x ∷ [])) (pure (found ++ x ∷ [])) (same_kind t.kind mark)))
          ≡ and_then o (λ x. by_next (pure (found ++ x ∷ [])) (λ t. choose (take_token >> separated_from item mark n' (found ++ x ∷ [])) (pure (found ++ x ∷ [])) (same_kind t.kind mark)))
      same_after (Err e) is again = refl
      same_after (Ok (x, [])) is again = refl
      same_after (Ok (x, t ∷ rest)) is again =
          let le2 : suc (length rest) ≤ length ts = shrinks.shorter ts x (t ∷ rest) is in
          by_bool x t rest (same_kind t.kind mark) (again x rest (omega arith) (omega arith))

module _ (keeps : Refusal → Type 0) {A : Type 0} (item item' : Parser A) (mark : Kind) (s : Steady keeps item item') (shrinks : Shrinks item) (shrinks' : Shrinks item') where
  pub Steady-separated : Steady keeps (separated item mark) (separated item' mark)
  Steady-separated = Steady-counted keeps (λ n. separated_from item mark n []) (λ n. separated_from item' mark n [])
      (λ n n' ts le le'. turns_enough item mark shrinks n n' [] ts le le') (λ n n' ts le le'. turns_enough item' mark shrinks' n n' [] ts le le')
      (λ n. separated_from-steady keeps item item' mark s n [])

-- the tokens before begin such lists, with these items first
abbrev pub Begun : {A : Type 0} → (List Lexeme → A → Type 0) → Kind → List Lexeme → List A → Type 0
Begun {A} R mark before found = (ts : List Lexeme) (xs : List A) → Separated R mark ts xs → Separated R mark (before ++ ts) (found ++ xs)

begun_more : {A : Type 0} (R : List Lexeme → A → Type 0) (mark : Kind) (before a : List Lexeme) (t : Lexeme) (found : List A) (x : A) → Begun R mark before found → R a x → t.kind ≡ mark
    → Begun R mark ((before ++ a) ++ t ∷ []) (found ++ x ∷ [])
begun_more {A} R mark before a t found x begun r k ts xs rest =
    let whole : Separated R mark (before ++ (a ++ t ∷ ts)) (found ++ x ∷ xs) = begun (a ++ t ∷ ts) (x ∷ xs) (followed a ts t r k rest) in
    let P : List A → Type 0 = λ v. Separated R mark (((before ++ a) ++ t ∷ []) ++ ts) v in
    let Q : List Lexeme → Type 0 = λ v. Separated R mark v (found ++ x ∷ xs) in
    subst P (sym (append_assoc found (x ∷ []) xs))
    (subst Q (sym (append_assoc (before ++ a) (t ∷ []) ts ∙ append_assoc before a (t ∷ ts))) whole)

module _ {A : Type 0} (R R' : List Lexeme → A → Type 0) (mark : Kind) (item : Parser A) (s : Follows R R' [] item) (some : CanEnd R []) where
  ended : (before a : List Lexeme) (found : List A) (x : A) → Begun R mark before found → R a x → Separated R mark (before ++ a) (found ++ x ∷ [])
  ended before a found x begun r = begun a (x ∷ []) (alone r)

  ended' : (before a : List Lexeme) (found : List A) (x : A) → Begun R' mark before found → R' a x → Separated R' mark (before ++ a) (found ++ x ∷ [])
  ended' before a found x begun r = begun a (x ∷ []) (alone r)

  -- a list goes on, or ends where no mark follows
  pub separated_from-follows : (up : (a : List Lexeme) (x : A) → R a x → R' a x) (n : ℕ) (before : List Lexeme) (found : List A) → Begun R mark before found → Begun R' mark before found
      → Follows (Separated R mark) (Separated R' mark) before (separated_from item mark n found)
  unfolding separated_from
  separated_from-follows up zero before found begun begun' =
      Follows-unexpected (Separated R mark) (Separated R' mark) before (some.0, found ++ some.1 ∷ [], ended before (map sample some.0) found some.1 begun some.2)
  separated_from-follows up (suc n) before found begun begun' =
      Follows-then R R' (Separated R mark) (Separated R' mark) before item (λ x. by_next (pure (found ++ x ∷ [])) (λ t. choose (take_token >> separated_from item mark n (found ++ x ∷ [])) (pure (found ++ x ∷ [])) (same_kind t.kind mark))) s (
        (λ a x r. ends_with (Separated R mark) (Separated R' mark) (before ++ a) (found ++ x ∷ []) (ended before a found x begun r)),
        (λ a x r. ends_with (Separated R' mark) (Separated R' mark) (before ++ a) (found ++ x ∷ []) (ended' before a found x begun' r)),
      )
      (λ a x r. Follows-by_next (Separated R mark) (Separated R' mark) (before ++ a) (pure (found ++ x ∷ [])) (λ t. choose (take_token >> separated_from item mark n (found ++ x ∷ [])) (pure (found ++ x ∷ [])) (same_kind t.kind mark))
      (Follows-pure (Separated R mark) (Separated R' mark) (before ++ a) (found ++ x ∷ []) (ended before a found x begun r))
      (λ t ts. by_bool before begun a x r t ts (same_kind t.kind mark) (λ e. separated_from-follows up n ((before ++ a) ++ t ∷ []) (found ++ x ∷ [])
      (begun_more R mark before a t found x begun r (same_is t.kind mark e)) (begun_more R' mark before a t found x begun' (up a x r) (same_is t.kind mark e)))))
    where
      by_bool : (before : List Lexeme) → Begun R mark before found → (a : List Lexeme) (x : A) → R a x → (t : Lexeme) (ts : List Lexeme) (b : Bool)
          → (b ≡ true → Follows (Separated R mark) (Separated R' mark) ((before ++ a) ++ t ∷ []) (separated_from item mark n (found ++ x ∷ [])))
          → Says (Separated R mark) (Separated R' mark) (before ++ a) (t ∷ ts) (choose (take_token >> separated_from item mark n (found ++ x ∷ [])) (pure (found ++ x ∷ [])) b (t ∷ ts))
      by_bool before begun a x r t ts true go = said-after (Separated R mark) (Separated R' mark) (before ++ a) t ts (separated_from item mark n (found ++ x ∷ []) ts) ((go refl).says ts)
      by_bool before begun a x r t ts false go = said-pure (Separated R mark) (Separated R' mark) (before ++ a) (t ∷ ts) (found ++ x ∷ []) (ended before a found x begun r)

  pub Follows-separated : (up : (a : List Lexeme) (x : A) → R a x → R' a x) → Follows (Separated R mark) (Separated R' mark) [] (separated item mark)
  Follows-separated up = record { says = λ ts. (separated_from-follows up (length ts) [] [] (λ ts xs d. d) (λ ts xs d. d)).says ts }

-- the next token is none of this kind
abbrev pub IsNot : Kind → List Lexeme → Type 0
IsNot mark [] = Unit {0}
IsNot mark (t ∷ ts) = same_kind t.kind mark ≡ false

module _ {A : Type 0} (R : List Lexeme → A → Type 0) (mark : Kind) (item : Parser A) (Stop : List Lexeme → Type 0)
    (item_reads : (a : List Lexeme) (x : A) → R a x → (rest : List Lexeme) → Stop rest → item (a ++ rest) ≡ Ok (x, rest))
    (mark_stops : (t : Lexeme) (ts : List Lexeme) → t.kind ≡ mark → Stop (t ∷ ts)) where
  stops : (n : ℕ) (found : List A) (x : A) (rest : List Lexeme) → IsNot mark rest
      → by_next (pure (found ++ x ∷ [])) (λ t. choose (take_token >> separated_from item mark n (found ++ x ∷ [])) (pure (found ++ x ∷ [])) (same_kind t.kind mark)) rest ≡ Ok (found ++ x ∷ [], rest)
  stops n found x [] s = refl
  stops n found x (t ∷ ts) s = rw s refl

  goes : (n : ℕ) (found : List A) (x : A) (t : Lexeme) (rest : List Lexeme) → t.kind ≡ mark
      → by_next (pure (found ++ x ∷ [])) (λ t. choose (take_token >> separated_from item mark n (found ++ x ∷ [])) (pure (found ++ x ∷ [])) (same_kind t.kind mark)) (t ∷ rest)
      ≡ separated_from item mark n (found ++ x ∷ []) rest
  goes n found x t rest k = let same : same_kind t.kind mark ≡ true = ap (λ v. same_kind v mark) k ∙ same_itself mark in rw same refl

  separated_from-reads : {ts : List Lexeme} {xs : List A} → Separated R mark ts xs → (n : ℕ) → length xs ≤ n → (found : List A) (rest : List Lexeme) → Stop rest → IsNot mark rest
      → separated_from item mark n found (ts ++ rest) ≡ Ok (found ++ xs, rest)
  unfolding separated_from
  separated_from-reads (alone d) zero le found rest s e = absurd (omega arith)
  separated_from-reads (followed a b t r k d) zero le found rest s e = absurd (omega arith)
  separated_from-reads (alone {ts = ts} {x = x} d) (suc n) le found rest s e =
      ap (λ o. and_then o (λ x. by_next (pure (found ++ x ∷ [])) (λ t. choose (take_token >> separated_from item mark n (found ++ x ∷ [])) (pure (found ++ x ∷ [])) (same_kind t.kind mark)))) (item_reads ts x d rest s)
      ∙ stops n found x rest e
  separated_from-reads (followed a b t {x = x} {xs = xs} r k d) (suc n) le found rest s e =
      ap (separated_from item mark (suc n) found) (append_assoc a (t ∷ b) rest)
      ∙ ap (λ o. and_then o (λ x. by_next (pure (found ++ x ∷ [])) (λ t. choose (take_token >> separated_from item mark n (found ++ x ∷ [])) (pure (found ++ x ∷ [])) (same_kind t.kind mark)))) (item_reads a x r (t ∷ b ++ rest) (mark_stops t (b ++ rest) k))
      ∙ goes n found x t (b ++ rest) k
      ∙ separated_from-reads d n (omega arith) (found ++ x ∷ []) rest s e
      ∙ ap (λ v. Ok (v, rest)) (append_assoc found (x ∷ []) xs)

  module _ (some : (a : List Lexeme) (x : A) → R a x → 0 < length a) where
    no_longer : {ts : List Lexeme} {xs : List A} → Separated R mark ts xs → length xs ≤ length ts
    no_longer (alone {ts = ts} {x = x} d) = let lt = some ts x d in omega arith
    no_longer (followed a b t {x = x} {xs = xs} r k d) = let le = no_longer d in omega (arith, length-append a (t ∷ b))

    pub separated_reads : {ts : List Lexeme} {xs : List A} → Separated R mark ts xs → (rest : List Lexeme) → Stop rest → IsNot mark rest → separated item mark (ts ++ rest) ≡ Ok (xs, rest)
    separated_reads {ts} {xs} d rest s e = separated_from-reads d (length (ts ++ rest)) (let le = no_longer d in omega (arith, length-append ts rest)) [] rest s e
