-- The laws of optional parts.
use Rattle.std.proofs.Common.{◌≡◌, Bool, true, false, List, [], ◌∷◌, ◌++◌, Option, Some, None, Ok, refl, ap, ◌∙◌}
use Rattle.pgql_lexemes.specs.declared.kind.Kind.{Kind}
use Rattle.pgql_lexemes.specs.Lexemes.{Lexeme}
use Rattle.pgql_syntax.specs.Grammar.{Optional, absent, present}
use Rattle.pgql_expr.specs.Reading.{Refusal, Parser, and_then, ◌>>=◌, ◌>>◌, pure, take_token, same_kind}
use Rattle.pgql_lexemes.specs.Lists.{choose, optional}
use Rattle.pgql_syntax.proofs.Steady.{Steady, Steady-then, Steady-pure, Steady-take, Steady-by_next}
use Rattle.pgql_syntax.proofs.Follows.{Says, Follows, ends_with, Follows-pure, Follows-then, Follows-by_next, said-pure, said-after}
use Rattle.pgql_lexemes.proofs.SameKind.{same_is}
use Rattle.pgql_lexemes.proofs.SameKind.{same_itself}
use Rattle.pgql_syntax.proofs.Lists.{IsNot}

module _ (keeps : Refusal → Type 0) {A : Type 0} (item item' : Parser A) (mark : Kind) (s : Steady keeps item item') where
  chosen_steady : {B : Type 0} (b : Bool) {p p' q : Parser B} → Steady keeps p p' → Steady keeps q q → Steady keeps (choose p q b) (choose p' q b)
  chosen_steady true x y = x
  chosen_steady false x y = y

  pub Steady-optional : Steady keeps (optional item mark) (optional item' mark)
  unfolding optional
  Steady-optional = Steady-by_next keeps (Steady-pure keeps None)
      (λ t. chosen_steady (same_kind t.kind mark) (Steady-then keeps (Steady-take keeps) (λ _. Steady-then keeps s (λ x. Steady-pure keeps (Some x)))) (Steady-pure keeps None))

module _ {A : Type 0} (R R' : List Lexeme → A → Type 0) (mark : Kind) (item : Parser A) (s : Follows R R' [] item) where
  pub Follows-optional : Follows (Optional R mark) (Optional R' mark) [] (optional item mark)
  unfolding optional
  Follows-optional = Follows-by_next (Optional R mark) (Optional R' mark) [] (pure None) (λ t. choose (take_token >> (item >>= λ x. pure (Some x))) (pure None) (same_kind t.kind mark))
      (Follows-pure (Optional R mark) (Optional R' mark) [] None absent) (λ t ts. by_bool t ts (same_kind t.kind mark) (λ e. same_is t.kind mark e))
    where
      by_bool : (t : Lexeme) (ts : List Lexeme) (b : Bool) → (b ≡ true → t.kind ≡ mark)
          → Says (Optional R mark) (Optional R' mark) [] (t ∷ ts) (choose (take_token >> (item >>= λ x. pure (Some x))) (pure None) b (t ∷ ts))
      by_bool t ts true is = said-after (Optional R mark) (Optional R' mark) [] t ts ((item >>= λ x. pure (Some x)) ts)
          ((Follows-then R R' (Optional R mark) (Optional R' mark) (t ∷ []) item (λ x. pure (Some x)) s (
            (λ a x r. ends_with (Optional R mark) (Optional R' mark) (t ∷ a) (Some x) (present t a (is refl) r)),
            (λ a x r. ends_with (Optional R' mark) (Optional R' mark) (t ∷ a) (Some x) (present t a (is refl) r)),
          )
          (λ a x r. Follows-pure (Optional R mark) (Optional R' mark) (t ∷ a) (Some x) (present t a (is refl) r))).says ts)
      by_bool t ts false is = said-pure (Optional R mark) (Optional R' mark) [] (t ∷ ts) None absent

module _ {A : Type 0} (R : List Lexeme → A → Type 0) (mark : Kind) (item : Parser A) (Stop : List Lexeme → Type 0)
    (item_reads : (a : List Lexeme) (x : A) → R a x → (rest : List Lexeme) → Stop rest → item (a ++ rest) ≡ Ok (x, rest)) where
  pub optional_reads : {ts : List Lexeme} {o : Option A} → Optional R mark ts o → (rest : List Lexeme) → Stop rest → IsNot mark rest → optional item mark (ts ++ rest) ≡ Ok (o, rest)
  unfolding optional
  optional_reads absent [] s e = refl
  optional_reads absent (t ∷ rest) s e = rw e refl
  optional_reads (present t ts {x = x} k d) rest s e =
      ap (λ b. choose (take_token >> (item >>= λ x. pure (Some x))) (pure None) b (t ∷ ts ++ rest)) (ap (λ v. same_kind v mark) k ∙ same_itself mark)
      ∙ ap (λ o. and_then o (λ x. pure (Some x))) (item_reads ts x d rest s)
