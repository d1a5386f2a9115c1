-- A parser that counts its turns by the tokens that are left is steady where the count does not matter.
use Rattle.std.proofs.lemmas.List.{append_cancel_right}
use Rattle.std.proofs.Common.{◌≡◌, ℕ, max, ◌≤◌, List, ◌++◌, length, Ok, Err, refl, sym, ap, ◌∙◌, subst, arith}
use Rattle.pgql_lexemes.specs.Lexemes.{Lexeme}
use Rattle.pgql_expr.specs.Reading.{Refusal, Outcome, Parser}
use Rattle.pgql_syntax.proofs.Steady.{Steady, Again}

-- any two counts that are enough agree
abbrev pub Enough : {B : Type 0} → (ℕ → Parser B) → Type 0
Enough p = (n n' : ℕ) (ts : List Lexeme) → length ts ≤ n → length ts ≤ n' → p n ts ≡ p n' ts

abbrev pub counted : {B : Type 0} → (ℕ → Parser B) → Parser B
counted p = λ ts. p (length ts) ts

module _ (keeps : Refusal → Type 0) {B : Type 0} (p p' : ℕ → Parser B) (enough : Enough p) (enough' : Enough p') (s : (n : ℕ) → Steady keeps (p n) (p' n)) where
  as_many : (N : ℕ) (ts : List Lexeme) (o : Outcome B) → counted p ts ≡ o → length ts ≤ N → Again keeps (p' N) ts o
  as_many N ts o e le =
      let same : p N ts ≡ o = enough N (length ts) ts le (omega arith) ∙ e in
      let P : Outcome B → Type 0 = Again keeps (p' N) ts in subst P same ((s N).again ts)

  back : (N : ℕ) (ts : List Lexeme) → length ts ≤ N → counted p' ts ≡ p' N ts
  back N ts le = enough' (length ts) N ts (omega arith) le

  again_all : (ts : List Lexeme) (o : Outcome B) → counted p ts ≡ o → Again keeps (counted p') ts o
  again_all ts (Ok q) e =
      let w = as_many (length ts) ts (Ok q) e (omega arith) in (
        w.0,
        w.1,
        λ r same.
            let N = max (length ts) (length (w.0 ++ r)) in
            let v = as_many N ts (Ok q) e (omega arith) in
            let cut : v.0 ≡ w.0 = append_cancel_right v.0 w.0 q.1 (sym v.1 ∙ w.1) in
            back N (w.0 ++ r) (omega arith) ∙ ap (λ x. p' N (x ++ r)) (sym cut) ∙ v.2 r same,
      )
  again_all ts (Err q) e =
      let w = as_many (length ts) ts (Err q) e (omega arith) in (
        w.0,
        w.1,
        λ kept r same.
            let N = max (length ts) (length (w.0 ++ r)) in
            let v = as_many N ts (Err q) e (omega arith) in
            let cut : v.0 ≡ w.0 = append_cancel_right v.0 w.0 q.1 (sym v.1 ∙ w.1) in
            back N (w.0 ++ r) (omega arith) ∙ ap (λ x. p' N (x ++ r)) (sym cut) ∙ v.2 kept r same,
      )

  pub Steady-counted : Steady keeps (counted p) (counted p')
  Steady-counted = record { again = λ ts. again_all ts (counted p ts) refl }
