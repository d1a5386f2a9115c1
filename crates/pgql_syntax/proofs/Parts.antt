-- Laws of combinators: what stands after other tokens, parts that may be missing, choices.
use Rattle.std.proofs.Common.{◌≡◌, suc, ◌≤◌, ◌<◌, Bool, true, false, List, [], ◌∷◌, ◌++◌, length, length-append, Option, Some, None, Ok, Err, refl, sym, ap, ◌∙◌, subst, append_assoc, arith}
use Rattle.std.specs.Prelude.{map}
use Rattle.pgql_lexemes.specs.declared.kind.Kind.{Kind}
use Rattle.pgql_lexemes.specs.Lexemes.{Lexeme}
use Rattle.pgql_syntax.specs.Grammar.{Perhaps, without, with_part}
use Rattle.pgql_expr.specs.Reading.{Refusal, unexpected, deep, Outcome, Parser, and_then, ◌>>=◌, pure, same_kind}
use Rattle.pgql_lexemes.specs.Lists.{choose, perhaps, Shrinks}
use Rattle.pgql_syntax.proofs.Samples.{sample}
use Rattle.pgql_syntax.proofs.Steady.{Steady, Steady-then, Steady-pure, Steady-by_next}
use Rattle.pgql_syntax.proofs.Follows.{CanEnd, Says, Refused, Follows, ends_with, Follows-pure, Follows-then, Follows-by_next, said-pure}
use Rattle.pgql_lexemes.proofs.SameKind.{same_itself}
use Rattle.pgql_syntax.proofs.Lists.{IsNot}
use Rattle.pgql_syntax.proofs.Many.{Takes}

module _ (keeps : Refusal → Type 0) where
  pub Steady-choose : {A : Type 0} (b : Bool) {p p' q q' : Parser A} → Steady keeps p p' → Steady keeps q q' → Steady keeps (choose p q b) (choose p' q' b)
  Steady-choose true x y = x
  Steady-choose false x y = y

  pub Steady-perhaps : {A : Type 0} (part : Parser A) (kind : Kind) → Steady keeps part part → Steady keeps (perhaps part kind) (perhaps part kind)
  Steady-perhaps part kind s = Steady-by_next keeps (Steady-pure keeps None)
      (λ t. Steady-choose (same_kind t.kind kind) (Steady-then keeps s (λ x. Steady-pure keeps (Some x))) (Steady-pure keeps None))

-- a part is a whole, or goes on one, after tokens that were taken before it
module _ {A : Type 0} (low high low' high' : List Lexeme → A → Type 0) (before : List Lexeme)
    (up : (a : List Lexeme) (v : A) → low a v → low' (before ++ a) v) (up_high : (a : List Lexeme) (v : A) → high a v → high' (before ++ a) v) where
  end_up : (a : List Lexeme) → CanEnd low a → CanEnd low' (before ++ a)
  end_up a c = (c.0, c.1, (let P : List Lexeme → Type 0 = λ x. low' x c.1 in subst P (sym (append_assoc before a (map sample c.0))) (up (a ++ map sample c.0) c.1 c.2)))

  end_up_high : (a : List Lexeme) → CanEnd high a → CanEnd high' (before ++ a)
  end_up_high a c = (c.0, c.1, (let P : List Lexeme → Type 0 = λ x. high' x c.1 in subst P (sym (append_assoc before a (map sample c.0))) (up_high (a ++ map sample c.0) c.1 c.2)))

  said-behind : (ts : List Lexeme) (o : Outcome A) → Says low high [] ts o → Says low' high' before ts o
  said-behind ts (Ok q) w = (w.0, w.1, up w.0 q.0 w.2)
  said-behind ts (Err q) w = refused q.0 q.1 w
    where
      refused : (why : Refusal) (r : List Lexeme) → Refused low high [] ts why r → Refused low' high' before ts why r
      refused unexpected r w = (w.0, w.1, end_up w.0 w.2)
      refused deep [] w = absurd w
      refused deep (u ∷ r) w = (
        w.0,
        w.1,
        end_up w.0 w.2,
        (let P : List Lexeme → Type 0 = CanEnd high' in subst P (sym (append_assoc before w.0 (u ∷ []))) (end_up_high (w.0 ++ u ∷ []) w.3)),
      )

  pub Follows-behind : (p : Parser A) → Follows low high [] p → Follows low' high' before p
  Follows-behind p s = record { says = λ ts. said-behind ts (p ts) (s.says ts) }

module _ {A : Type 0} (R R' : List Lexeme → A → Type 0) (part : Parser A) (kind : Kind) (s : Follows R R' [] part) where
  pub Follows-perhaps : Follows (Perhaps R) (Perhaps R') [] (perhaps part kind)
  Follows-perhaps = Follows-by_next (Perhaps R) (Perhaps R') [] (pure None) (λ t. choose (part >>= λ x. pure (Some x)) (pure None) (same_kind t.kind kind))
      (Follows-pure (Perhaps R) (Perhaps R') [] None without) (λ t ts. by_bool t ts (same_kind t.kind kind))
    where
      by_bool : (t : Lexeme) (ts : List Lexeme) (b : Bool) → Says (Perhaps R) (Perhaps R') [] (t ∷ ts) (choose (part >>= λ x. pure (Some x)) (pure None) b (t ∷ ts))
      by_bool t ts true =
          (Follows-then R R' (Perhaps R) (Perhaps R') [] part (λ x. pure (Some x)) s
          ((λ a x r. ends_with (Perhaps R) (Perhaps R') a (Some x) (with_part a r)), (λ a x r. ends_with (Perhaps R') (Perhaps R') a (Some x) (with_part a r)))
          (λ a x r. Follows-pure (Perhaps R) (Perhaps R') a (Some x) (with_part a r))).says (t ∷ ts)
      by_bool t ts false = said-pure (Perhaps R) (Perhaps R') [] (t ∷ ts) None without

module _ {A : Type 0} (R : List Lexeme → A → Type 0) (part : Parser A) (kind : Kind)
    (part_reads : (a : List Lexeme) (x : A) → R a x → (rest : List Lexeme) → part (a ++ rest) ≡ Ok (x, rest))
    (starts : (a : List Lexeme) (x : A) → R a x → (t : Lexeme) × (us : List Lexeme) × (a ≡ t ∷ us) × (t.kind ≡ kind)) where
  pub perhaps_reads : {ts : List Lexeme} {o : Option A} → Perhaps R ts o → (rest : List Lexeme) → IsNot kind rest → perhaps part kind (ts ++ rest) ≡ Ok (o, rest)
  perhaps_reads without [] s = refl
  perhaps_reads without (t ∷ rest) s = rw s refl
  perhaps_reads (with_part ts {x = x} r) rest s = by_start ts (starts ts x r) (part_reads ts x r rest)
    where
      by_start : (ts : List Lexeme) → (t : Lexeme) × (us : List Lexeme) × (ts ≡ t ∷ us) × (t.kind ≡ kind) → part (ts ++ rest) ≡ Ok (x, rest) → perhaps part kind (ts ++ rest) ≡ Ok (Some x, rest)
      by_start [] w e = cc
      by_start (u ∷ us) w e =
          let head : u ≡ w.0 = cc in
          let same : same_kind u.kind kind ≡ true = ap (λ t. same_kind t.kind kind) head ∙ ap (λ v. same_kind v kind) w.3 ∙ same_itself kind in
          ap (λ b. choose (part >>= λ x. pure (Some x)) (pure None) b (u ∷ us ++ rest)) same ∙ ap (λ o. and_then o (λ x. pure (Some x))) e

-- a parser whose rule has tokens takes them
module _ {A : Type 0} (low high : List Lexeme → A → Type 0) (p : Parser A) (s : Follows low high [] p) where
  taken : (ts : List Lexeme) (o : Outcome A) → p ts ≡ o → Says low high [] ts o
  taken ts o e = let P : Outcome A → Type 0 = Says low high [] ts in subst P e (s.says ts)

  pub Takes-from : ((a : List Lexeme) (x : A) → low a x → 0 < length a) → Takes p
  Takes-from some ts x rest e =
      let w = taken ts (Ok (x, rest)) e in
      let lt = some w.0 x w.2 in
      let P : List Lexeme → Type 0 = λ v. suc (length rest) ≤ length v in
      subst P (sym w.1) (omega (arith, length-append w.0 rest))

  shorter : (ts : List Lexeme) (x : A) (rest : List Lexeme) → p ts ≡ Ok (x, rest) → length rest ≤ length ts
  shorter ts x rest e =
      let w = taken ts (Ok (x, rest)) e in
      let P : List Lexeme → Type 0 = λ v. length rest ≤ length v in
      subst P (sym w.1) (omega (arith, length-append w.0 rest))

  pub Shrinks-from : p [] ≡ Err (unexpected, []) → Shrinks p
  Shrinks-from e = record { shorter = shorter; at_end = e }
