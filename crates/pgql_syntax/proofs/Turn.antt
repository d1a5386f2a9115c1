-- One turn of the loop that reads a list.
use Rattle.std.proofs.Common.{◌≡◌, ℕ, zero, suc, ◌≤◌, true, false, List, [], ◌∷◌, ◌++◌, length, Ok, Err, refl, sym, ap, ◌∙◌, subst, arith}
use Rattle.pgql_lexemes.specs.declared.kind.Kind.{Kind}
use Rattle.pgql_lexemes.specs.Lexemes.{Lexeme}
use Rattle.pgql_lexemes.specs.Parsers.{Refusal, unexpected, deep, Outcome, Parser, and_then, ◌>>◌, pure, by_next, take_token, same_kind}
use Rattle.pgql_lexemes.specs.Reads.{Reads}
use Rattle.pgql_lexemes.specs.declared.input.Stop.{Stop}
use Rattle.pgql_lexemes.specs.declared.input.Stop.TheVariants as stop
use Rattle.pgql_lexemes.specs.Lists.{choose, separated_from, sees, after, Shrinks}

module _ {A : Type 0} (item : Parser A) (mark : Kind) (shrinks : Shrinks item) where
  rest_of : Outcome A → List Lexeme
  rest_of (Ok q) = q.1
  rest_of (Err e) = e.1

  pub turn_ends : (n : ℕ) (found : List A) (ts rest : List Lexeme) (x : A) → length ts ≤ n → item ts ≡ Ok (x, rest) → sees mark rest ≡ false
      → separated_from item mark n found ts ≡ Ok (found ++ x ∷ [], rest)
  unfolding separated_from
  turn_ends zero found [] rest x le e s = absurd (apart_item (item []) x rest (unexpected, []) e shrinks.at_end)
    where
      apart_item : (o : Outcome A) (x : A) (r : List Lexeme) (why : Refusal × List Lexeme) → o ≡ Ok (x, r) → o ≡ Err why → ⊥
      apart_item o x r why e f = cc
  turn_ends zero found (t ∷ ts) rest x le e s = absurd (omega arith)
  turn_ends (suc n) found ts rest x le e s =
      ap (λ o. and_then o (λ x. by_next (pure (found ++ x ∷ [])) (λ t. choose (take_token >> separated_from item mark n (found ++ x ∷ [])) (pure (found ++ x ∷ [])) (same_kind t.kind mark)))) e
      ∙ no_mark rest s
    where
      no_mark : (rest : List Lexeme) → sees mark rest ≡ false
          → by_next (pure (found ++ x ∷ [])) (λ t. choose (take_token >> separated_from item mark n (found ++ x ∷ [])) (pure (found ++ x ∷ [])) (same_kind t.kind mark)) rest ≡ Ok (found ++ x ∷ [], rest)
      no_mark [] s = refl
      no_mark (t ∷ ts) s = rw s refl

  pub turn_goes : (n : ℕ) (found : List A) (ts rest : List Lexeme) (x : A) → length ts ≤ n → item ts ≡ Ok (x, rest) → sees mark rest ≡ true
      → (n' : ℕ) × (length (after mark rest) ≤ n') × (separated_from item mark n found ts ≡ separated_from item mark n' (found ++ x ∷ []) (after mark rest))
  unfolding separated_from
  turn_goes zero found [] rest x le e s = absurd (apart_item (item []) x rest (unexpected, []) e shrinks.at_end)
    where
      apart_item : (o : Outcome A) (x : A) (r : List Lexeme) (why : Refusal × List Lexeme) → o ≡ Ok (x, r) → o ≡ Err why → ⊥
      apart_item o x r why e f = cc
  turn_goes zero found (t ∷ ts) rest x le e s = absurd (omega arith)
  turn_goes (suc n) found ts [] x le e s = absurd cc
  turn_goes (suc n) found ts (t ∷ rest) x le e s =
      let le2 : suc (length rest) ≤ length ts = shrinks.shorter ts x (t ∷ rest) e in
      let left : after mark (t ∷ rest) ≡ rest = rw s refl in (
        n,
        (let P : List Lexeme → Type 0 = λ v. length v ≤ n in subst P (sym left) (omega arith)),
        ap (λ o. and_then o (λ x. by_next (pure (found ++ x ∷ [])) (λ t. choose (take_token >> separated_from item mark n (found ++ x ∷ [])) (pure (found ++ x ∷ [])) (same_kind t.kind mark)))) e
            ∙ ap (λ b. choose (take_token >> separated_from item mark n (found ++ x ∷ [])) (pure (found ++ x ∷ [])) b (t ∷ rest)) s
            ∙ ap (separated_from item mark n (found ++ x ∷ [])) (sym left),
      )

  why_of : Outcome A → Refusal × List Lexeme
  why_of (Ok q) = (unexpected, [])
  why_of (Err e) = e

  why_is : (o : Outcome A) (why : Refusal × List Lexeme) → o ≡ Err why → why_of o ≡ why
  unfolding why_of
  why_is o why e = ap why_of e

  as_item : (n : ℕ) (found : List A) (ts : List Lexeme) (why : Refusal × List Lexeme) → length ts ≤ n → item ts ≡ Err why → separated_from item mark n found ts ≡ Err why
  unfolding separated_from
  as_item zero found [] why le e = ap Err (sym (why_is (item []) (unexpected, []) shrinks.at_end) ∙ why_is (item []) why e)
  as_item zero found (t ∷ ts) why le e = absurd (omega arith)
  as_item (suc n) found ts why le e = ap (λ o. and_then o (λ x. by_next (pure (found ++ x ∷ [])) (λ t. choose (take_token >> separated_from item mark n (found ++ x ∷ [])) (pure (found ++ x ∷ [])) (same_kind t.kind mark)))) e

  pub turn_fails : (whole : Outcome (List A)) (n : ℕ) (found : List A) (ts new : List Lexeme) (why : Stop) → whole ≡ separated_from item mark n found ts → length ts ≤ n → Reads {A = A} (item ts) (Err why) new
      → Reads {A = List A} whole (Err why) new
  turn_fails whole n found ts new stop.Unexpected same le e = same ∙ as_item n found ts (unexpected, new) le e
  turn_fails whole n found ts new stop.Deep same le e = same ∙ as_item n found ts (deep, new) le e
  turn_fails whole n found ts new stop.NoMemory same le e = tt

pub after_shorter : (mark : Kind) (ts : List Lexeme) → sees mark ts ≡ true → suc (length (after mark ts)) ≤ length ts
after_shorter mark [] s = absurd cc
after_shorter mark (t ∷ ts) s = let left : after mark (t ∷ ts) ≡ ts = rw s refl in omega (arith, ap length left)

pub after_none : (mark : Kind) (ts : List Lexeme) → sees mark ts ≡ false → after mark ts ≡ ts
after_none mark [] s = refl
after_none mark (t ∷ ts) s = rw s refl

abbrev pub listed : {A : Type 0} → List A → List Lexeme → Outcome (List A)
listed xs ts = Ok (xs, ts)

pub both : {A : Type 0} (xs ys : List A) (ts us : List Lexeme) → xs ≡ ys → ts ≡ us → listed xs ts ≡ listed ys us
both xs ys ts us e f = ap (λ v. listed v ts) e ∙ ap (λ v. listed ys v) f
