-- What was taken is of the rule, and what a refusal leaves after can be ended.
use Rattle.std.proofs.Common.{◌≡◌, ℕ, ◌<◌, Bool, true, false, List, [], ◌∷◌, ◌++◌, Ok, Err, refl, sym, ap, ◌∙◌, subst, append_assoc, arith}
use Rattle.std.specs.Prelude.{nat_lt}
use Rattle.std.proofs.lemmas.Bool.Decides.{nat_tests}
use Rattle.pgql_lexemes.specs.declared.kind.Kind.{Kind}
use Rattle.std.specs.Prelude.{map}
use Rattle.std.proofs.lemmas.List.{map-append}
use Rattle.pgql_lexemes.specs.Lexemes.{Lexeme, is_word}
use Rattle.pgql_syntax.proofs.Samples.{sample}
use Rattle.pgql_expr.specs.Reading.{Refusal, unexpected, deep, Outcome, Parser, and_then, ◌>>=◌, ◌>>◌, pure, refuse, by_next, take_token, expect_by, expect, expect_word, deeper_by, deeper, same_kind}
use Rattle.pgql_lexemes.proofs.SameKind.{same_is}

-- tokens of some kinds end it
abbrev pub CanEnd : {A : Type 0} → (List Lexeme → A → Type 0) → List Lexeme → Type 0
CanEnd {A} low front = (more : List Kind) × (v : A) × low (front ++ map sample more) v

-- `low` is the rule within bounds, `high` the rule without
module _ {A : Type 0} (low high : List Lexeme → A → Type 0) where
  abbrev pub Refused : List Lexeme → List Lexeme → Refusal → List Lexeme → Type 0
  Refused before ts unexpected rest = (a : List Lexeme) × (ts ≡ a ++ rest) × CanEnd low (before ++ a)
  Refused before ts deep [] = ⊥
  Refused before ts deep (t ∷ rest) = (a : List Lexeme) × (ts ≡ a ++ t ∷ rest) × CanEnd low (before ++ a) × CanEnd high (before ++ a ++ t ∷ [])

  -- what an outcome says of the tokens, after those before them
  abbrev pub Says : List Lexeme → List Lexeme → Outcome A → Type 0
  Says before ts (Ok q) = (a : List Lexeme) × (ts ≡ a ++ q.1) × low (before ++ a) q.0
  Says before ts (Err q) = Refused before ts q.0 q.1

  pub record Follows (before : List Lexeme) (p : Parser A) : Type 0 where
    pub says : (ts : List Lexeme) → Says before ts (p ts)

  nothing_more : (before : List Lexeme) → before ++ [] ≡ before
  nothing_more [] = refl
  nothing_more (t ∷ ts) = ap (λ x. t ∷ x) (nothing_more ts)

  pub ends_with : (before : List Lexeme) (v : A) → low before v → CanEnd low before
  ends_with before v y = ([], v, (let P : List Lexeme → Type 0 = λ x. low x v in subst P (sym (nothing_more before)) y))

  pub said-pure : (before ts : List Lexeme) (v : A) → low before v → Says before ts (Ok (v, ts))
  said-pure before ts v y = ([], refl, (let P : List Lexeme → Type 0 = λ x. low x v in subst P (sym (nothing_more before)) y))

  pub Follows-pure : (before : List Lexeme) (v : A) → low before v → Follows before (pure v)
  Follows-pure before v y = record { says = λ ts. said-pure before ts v y }

  pub said-unexpected : (before ts : List Lexeme) → CanEnd low before → Says before ts (Err (unexpected, ts))
  said-unexpected before ts c = ([], refl, (let P : List Lexeme → Type 0 = CanEnd low in subst P (sym (nothing_more before)) c))

  pub Follows-unexpected : (before : List Lexeme) → CanEnd low before → Follows before (refuse unexpected)
  Follows-unexpected before c = record { says = λ ts. said-unexpected before ts c }

  pub said-deep : (before : List Lexeme) (t : Lexeme) (ts : List Lexeme) → CanEnd low before → CanEnd high (before ++ t ∷ []) → Says before (t ∷ ts) (Err (deep, t ∷ ts))
  said-deep before t ts c d = (
    [],
    refl,
    (let P : List Lexeme → Type 0 = CanEnd low in subst P (sym (nothing_more before)) c),
    (let P : List Lexeme → Type 0 = λ x. CanEnd high (x ++ t ∷ []) in subst P (sym (nothing_more before)) d),
  )

  -- one token more was taken
  later : (before a : List Lexeme) (t : Lexeme) (rest : List Lexeme) → (before ++ t ∷ []) ++ a ≡ before ++ t ∷ a
  later before a t rest = append_assoc before (t ∷ []) a

  pub said-after : (before : List Lexeme) (t : Lexeme) (ts : List Lexeme) (o : Outcome A) → Says (before ++ t ∷ []) ts o → Says before (t ∷ ts) o
  said-after before t ts (Ok q) w = (t ∷ w.0, ap (λ x. t ∷ x) w.1, (let P : List Lexeme → Type 0 = λ x. low x q.0 in subst P (append_assoc before (t ∷ []) w.0) w.2))
  said-after before t ts (Err q) w = refused_after q.0 q.1 w
    where
      refused_after : (why : Refusal) (rest : List Lexeme) → Refused (before ++ t ∷ []) ts why rest → Refused before (t ∷ ts) why rest
      refused_after unexpected rest w = (t ∷ w.0, ap (λ x. t ∷ x) w.1, (let P : List Lexeme → Type 0 = CanEnd low in subst P (append_assoc before (t ∷ []) w.0) w.2))
      refused_after deep [] w = absurd w
      refused_after deep (u ∷ rest) w = (
        t ∷ w.0,
        ap (λ x. t ∷ x) w.1,
        (let P : List Lexeme → Type 0 = CanEnd low in subst P (append_assoc before (t ∷ []) w.0) w.2),
        (let P : List Lexeme → Type 0 = λ x. CanEnd high (x ++ u ∷ []) in subst P (append_assoc before (t ∷ []) w.0) w.3),
      )

joined_samples : (before a : List Lexeme) (c d : List Kind) → (before ++ (a ++ map sample c)) ++ map sample d ≡ (before ++ a) ++ map sample (c ++ d)
joined_samples before a c d =
    ap (λ x. x ++ map sample d) (sym (append_assoc before a (map sample c))) ∙ append_assoc (before ++ a) (map sample c) (map sample d)
    ∙ ap (λ x. (before ++ a) ++ x) (sym (map-append sample c d))

-- The part that a parser read is followed by what goes on from it.
module _ {A B : Type 0} (low high : List Lexeme → A → Type 0) (low' high' : List Lexeme → B → Type 0) where
  abbrev pub Ends : List Lexeme → Type 0
  Ends before = ((a : List Lexeme) (v : A) → low a v → CanEnd low' (before ++ a)) × ((a : List Lexeme) (v : A) → high a v → CanEnd high' (before ++ a))

  -- what ends the part ends the whole
  end_low : (before a : List Lexeme) → ((x : List Lexeme) (v : A) → low x v → CanEnd low' (before ++ x)) → CanEnd low a → CanEnd low' (before ++ a)
  end_low before a e c =
      let d = e (a ++ map sample c.0) c.1 c.2 in (
        c.0 ++ d.0,
        d.1,
        (let P : List Lexeme → Type 0 = λ x. low' x d.1 in
            subst P (joined_samples before a c.0 d.0) d.2),
      )

  end_high : (before a : List Lexeme) → ((x : List Lexeme) (v : A) → high x v → CanEnd high' (before ++ x)) → CanEnd high a → CanEnd high' (before ++ a)
  end_high before a e c =
      let d = e (a ++ map sample c.0) c.1 c.2 in (
        c.0 ++ d.0,
        d.1,
        (let P : List Lexeme → Type 0 = λ x. high' x d.1 in
            subst P (joined_samples before a c.0 d.0) d.2),
      )

  shift : (before ts a rest : List Lexeme) → ts ≡ a ++ rest → (o : Outcome B) → Says low' high' (before ++ a) rest o → Says low' high' before ts o
  shift before ts a rest e (Ok q) w =
      (a ++ w.0, e ∙ ap (λ x. a ++ x) w.1 ∙ sym (append_assoc a w.0 q.1), (let P : List Lexeme → Type 0 = λ x. low' x q.0 in subst P (append_assoc before a w.0) w.2))
  shift before ts a rest e (Err q) w = refused q.0 q.1 w
    where
      refused : (why : Refusal) (r : List Lexeme) → Refused low' high' (before ++ a) rest why r → Refused low' high' before ts why r
      refused unexpected r w = (a ++ w.0, e ∙ ap (λ x. a ++ x) w.1 ∙ sym (append_assoc a w.0 r), (let P : List Lexeme → Type 0 = CanEnd low' in subst P (append_assoc before a w.0) w.2))
      refused deep [] w = absurd w
      refused deep (u ∷ r) w = (
        a ++ w.0,
        e ∙ ap (λ x. a ++ x) w.1 ∙ sym (append_assoc a w.0 (u ∷ r)),
        (let P : List Lexeme → Type 0 = CanEnd low' in subst P (append_assoc before a w.0) w.2),
        (let P : List Lexeme → Type 0 = λ x. CanEnd high' (x ++ u ∷ []) in subst P (append_assoc before a w.0) w.3),
      )

  pub and_then_says : (before ts : List Lexeme) (f : A → Parser B) (o : Outcome A) → Says low high [] ts o → Ends before
      → ((a rest : List Lexeme) (v : A) → ts ≡ a ++ rest → low a v → Follows low' high' (before ++ a) (f v)) → Says low' high' before ts (and_then o f)
  and_then_says before ts f (Ok q) w ends g = shift before ts w.0 q.1 w.1 (f q.0 q.1) ((g w.0 q.1 q.0 w.1 w.2).says q.1)
  and_then_says before ts f (Err q) w ends g = refused q.0 q.1 w
    where
      refused : (why : Refusal) (r : List Lexeme) → Refused low high [] ts why r → Refused low' high' before ts why r
      refused unexpected r w = (w.0, w.1, end_low before w.0 ends.0 w.2)
      refused deep [] w = absurd w
      refused deep (u ∷ r) w = (
        w.0,
        w.1,
        end_low before w.0 ends.0 w.2,
        (let P : List Lexeme → Type 0 = CanEnd high' in subst P (sym (append_assoc before w.0 (u ∷ []))) (end_high before (w.0 ++ u ∷ []) ends.1 w.3)),
      )

  pub Follows-then : (before : List Lexeme) (p : Parser A) (f : A → Parser B) → Follows low high [] p → Ends before
      → ((a : List Lexeme) (v : A) → low a v → Follows low' high' (before ++ a) (f v)) → Follows low' high' before (p >>= f)
  Follows-then before p f s ends g = record { says = λ ts. and_then_says before ts f (p ts) (s.says ts) ends (λ a rest v e y. g a v y) }

module _ {A : Type 0} (low high : List Lexeme → A → Type 0) where
  pub Follows-by_next : (before : List Lexeme) (end : Parser A) (next : Lexeme → Parser A) → Follows low high before end
      → ((t : Lexeme) (ts : List Lexeme) → Says low high before (t ∷ ts) (next t (t ∷ ts))) → Follows low high before (by_next end next)
  Follows-by_next before end next s g = record { says = said }
    where
      said : (ts : List Lexeme) → Says low high before ts (by_next end next ts)
      said [] = s.says []
      said (t ∷ ts) = g t ts

  -- a token that passes the test, and what goes on after it
  pub Follows-expect : (before : List Lexeme) (kind : Kind) (f : Lexeme → Parser A) → CanEnd low before
      → ((t : Lexeme) → t.kind ≡ kind → Follows low high (before ++ t ∷ []) (f t)) → Follows low high before (expect kind >>= f)
  unfolding expect
  Follows-expect before kind f c g = record { says = said }
    where
      said_by : (t : Lexeme) (ts : List Lexeme) (b : Bool) → (b ≡ true → Follows low high (before ++ t ∷ []) (f t)) → Says low high before (t ∷ ts) (and_then (expect_by b (t ∷ ts)) f)
      said_by t ts true s = said-after low high before t ts (f t ts) ((s refl).says ts)
      said_by t ts false s = said-unexpected low high before (t ∷ ts) c

      said : (ts : List Lexeme) → Says low high before ts ((expect kind >>= f) ts)
      said [] = said-unexpected low high before [] c
      said (t ∷ ts) = said_by t ts (same_kind t.kind kind) (λ e. g t (same_is t.kind kind e))

  -- a word, and what goes on after it
  pub Follows-expect_word : (before : List Lexeme) (f : Lexeme → Parser A) → CanEnd low before
      → ((t : Lexeme) → is_word t.kind ≡ true → Follows low high (before ++ t ∷ []) (f t)) → Follows low high before (expect_word >>= f)
  unfolding expect_word
  Follows-expect_word before f c w = record { says = said }
    where
      said_by : (t : Lexeme) (ts : List Lexeme) (b : Bool) → (b ≡ true → Follows low high (before ++ t ∷ []) (f t)) → Says low high before (t ∷ ts) (and_then (expect_by b (t ∷ ts)) f)
      said_by t ts true s = said-after low high before t ts (f t ts) ((s refl).says ts)
      said_by t ts false s = said-unexpected low high before (t ∷ ts) c

      said : (ts : List Lexeme) → Says low high before ts ((expect_word >>= f) ts)
      said [] = said-unexpected low high before [] c
      said (t ∷ ts) = said_by t ts (is_word t.kind) (w t)

  -- what follows a token that makes a higher expression
  pub said-deeper : (before : List Lexeme) (t : Lexeme) (ts : List Lexeme) (most h : ℕ) (f : Lexeme → Parser A) → CanEnd low before → CanEnd high (before ++ t ∷ [])
      → (h < most → Follows low high (before ++ t ∷ []) (f t)) → Says low high before (t ∷ ts) ((deeper most h >> (take_token >>= f)) (t ∷ ts))
  unfolding deeper
  said-deeper before t ts most h f c d g = by_test (nat_lt h most) (λ e. g (lt_fact h most e))
    where
      lt_fact : (h m : ℕ) → nat_lt h m ≡ true → h < m
      lt_fact h m e = grind (arith, nat_tests)

      by_test : (b : Bool) → (b ≡ true → Follows low high (before ++ t ∷ []) (f t)) → Says low high before (t ∷ ts) ((deeper_by b >> (take_token >>= f)) (t ∷ ts))
      by_test true s = said-after low high before t ts (f t ts) ((s refl).says ts)
      by_test false s = said-deep low high before t ts c d

-- a looser rule
module _ {A : Type 0} (low high low' high' : List Lexeme → A → Type 0)
    (up : (a : List Lexeme) (v : A) → low a v → low' a v) (up_high : (a : List Lexeme) (v : A) → high a v → high' a v) where
  pub said-looser : (before ts : List Lexeme) (o : Outcome A) → Says low high before ts o → Says low' high' before ts o
  said-looser before ts (Ok q) w = (w.0, w.1, up (before ++ w.0) q.0 w.2)
  said-looser before ts (Err q) w = refused q.0 q.1 w
    where
      end_up : (a : List Lexeme) → CanEnd low a → CanEnd low' a
      end_up a c = (c.0, c.1, up (a ++ map sample c.0) c.1 c.2)

      end_up_high : (a : List Lexeme) → CanEnd high a → CanEnd high' a
      end_up_high a c = (c.0, c.1, up_high (a ++ map sample c.0) c.1 c.2)

      refused : (why : Refusal) (r : List Lexeme) → Refused low high before ts why r → Refused low' high' before ts why r
      refused unexpected r w = (w.0, w.1, end_up (before ++ w.0) w.2)
      refused deep [] w = absurd w
      refused deep (u ∷ r) w = (w.0, w.1, end_up (before ++ w.0) w.2, end_up_high (before ++ w.0 ++ u ∷ []) w.3)

  pub Follows-looser : (before : List Lexeme) (p : Parser A) → Follows low high before p → Follows low' high' before p
  Follows-looser before p s = record { says = λ ts. said-looser before ts (p ts) (s.says ts) }
