-- What a parser answers rests on the tokens that it took and on the next one alone.
use Rattle.std.proofs.Common.{◌≡◌, List, [], ◌∷◌, ◌++◌, Ok, Err, refl, sym, ap, ◌∙◌, subst, append_assoc}
use Rattle.pgql_lexemes.specs.Lexemes.{Lexeme}
use Rattle.pgql_expr.specs.Reading.{Refusal, unexpected, Outcome, Parser, and_then, ◌>>=◌, pure, here, refuse, by_next, take_token}

-- both begin with one token, or both are at the end
abbrev pub Same : List Lexeme → List Lexeme → Type 0
Same [] [] = Unit {0}
Same [] (u ∷ us) = ⊥
Same (t ∷ ts) [] = ⊥
Same (t ∷ ts) (u ∷ us) = t ≡ u

pub Same-front : (a rest r : List Lexeme) → Same rest r → Same (a ++ rest) (a ++ r)
Same-front [] rest r h = h
Same-front (t ∷ a) rest r h = refl

pub Same-by : (a rest r ts : List Lexeme) → ts ≡ a ++ rest → Same rest r → Same ts (a ++ r)
Same-by a rest r ts e h = let P : List Lexeme → Type 0 = λ x. Same x (a ++ r) in subst P (sym e) (Same-front a rest r h)

module _ (keeps : Refusal → Type 0) where
  -- the other parser answers the same wherever the taken tokens and the next one are the same
  abbrev pub Again : {A : Type 0} → Parser A → List Lexeme → Outcome A → Type 0
  Again p ts (Ok q) = (a : List Lexeme) × (ts ≡ a ++ q.1) × ((r : List Lexeme) → Same q.1 r → p (a ++ r) ≡ Ok (q.0, r))
  Again p ts (Err q) = (a : List Lexeme) × (ts ≡ a ++ q.1) × (keeps q.0 → (r : List Lexeme) → Same q.1 r → p (a ++ r) ≡ Err (q.0, r))

  pub record Steady {A : Type 0} (p p' : Parser A) : Type 0 where
    pub again : (ts : List Lexeme) → Again p' ts (p ts)

  pub after_ok : {A B : Type 0} (p' : Parser A) (f' : A → Parser B) (ts a rest : List Lexeme) (v : A) → ts ≡ a ++ rest
      → ((r : List Lexeme) → Same rest r → p' (a ++ r) ≡ Ok (v, r)) → (o : Outcome B) → Again (f' v) rest o → Again (p' >>= f') ts o
  after_ok p' f' ts a rest v e k (Ok q) w = (
    a ++ w.0,
    e ∙ ap (λ x. a ++ x) w.1 ∙ sym (append_assoc a w.0 q.1),
    λ r same. rw (append_assoc a w.0 r) (ap (λ o. and_then o f') (k (w.0 ++ r) (Same-by w.0 q.1 r rest w.1 same)) ∙ w.2 r same),
  )
  after_ok p' f' ts a rest v e k (Err q) w = (
    a ++ w.0,
    e ∙ ap (λ x. a ++ x) w.1 ∙ sym (append_assoc a w.0 q.1),
    λ kept r same. rw (append_assoc a w.0 r) (ap (λ o. and_then o f') (k (w.0 ++ r) (Same-by w.0 q.1 r rest w.1 same)) ∙ w.2 kept r same),
  )

  pub after_any : {A B : Type 0} (p' : Parser A) (f f' : A → Parser B) (ts : List Lexeme) (o : Outcome A) → Again p' ts o
      → ((v : A) → Steady (f v) (f' v)) → Again (p' >>= f') ts (and_then o f)
  after_any p' f f' ts (Ok q) w s = after_ok p' f' ts w.0 q.1 q.0 w.1 w.2 (f q.0 q.1) ((s q.0).again q.1)
  after_any p' f f' ts (Err q) w s = (w.0, w.1, λ kept r same. ap (λ o. and_then o f') (w.2 kept r same))

  pub Steady-then : {A B : Type 0} {p p' : Parser A} {f f' : A → Parser B} → Steady p p' → ((v : A) → Steady (f v) (f' v)) → Steady (p >>= f) (p' >>= f')
  Steady-then {p} {p'} {f} {f'} s g = record { again = λ ts. after_any p' f f' ts (p ts) (s.again ts) g }

  pub Steady-pure : {A : Type 0} (v : A) → Steady (pure v) (pure v)
  Steady-pure v = record { again = λ ts. ([], refl, λ r same. refl) }

  pub Steady-refuse : {A : Type 0} (why : Refusal) → Steady {A = A} (refuse why) (refuse why)
  Steady-refuse why = record { again = λ ts. ([], refl, λ kept r same. refl) }

  -- a refusal that the other parser need not give
  pub Steady-refuse_only : {A : Type 0} (why : Refusal) (p' : Parser A) → (keeps why → ⊥) → Steady (refuse why) p'
  Steady-refuse_only why p' never = record { again = λ ts. ([], refl, λ kept r same. absurd (never kept)) }

  same_place : (ts r : List Lexeme) → Same ts r → here r ≡ Ok (Rattle.pgql_lexemes.specs.Lexemes.place ts, r)
  same_place [] [] h = refl
  same_place [] (u ∷ us) h = absurd h
  same_place (t ∷ ts) [] h = absurd h
  same_place (t ∷ ts) (u ∷ us) h = ap (λ x. Ok (x.at, u ∷ us)) (sym h)

  pub Steady-here : Steady here here
  Steady-here = record { again = λ ts. ([], refl, λ r same. same_place ts r same) }

  taken : (ts : List Lexeme) → Again take_token ts (take_token ts)
  taken [] = ([], refl, λ kept r same. nothing r same)
    where
      nothing : (r : List Lexeme) → Same [] r → take_token r ≡ Err (unexpected, r)
      nothing [] h = refl
      nothing (u ∷ us) h = absurd h
  taken (t ∷ ts) = (t ∷ [], refl, λ r same. refl)

  pub Steady-take : Steady take_token take_token
  Steady-take = record { again = taken }

  at_end : {A : Type 0} (end' : Parser A) (next' : Lexeme → Parser A) (r : List Lexeme) → Same [] r → by_next end' next' r ≡ end' r
  at_end end' next' [] h = refl
  at_end end' next' (u ∷ us) h = absurd h

  at_token : {A : Type 0} (end' : Parser A) (next' : Lexeme → Parser A) (t : Lexeme) (ts r : List Lexeme) → Same (t ∷ ts) r → by_next end' next' r ≡ next' t r
  at_token end' next' t ts [] h = absurd h
  at_token end' next' t ts (u ∷ us) h = ap (λ x. next' x (u ∷ us)) (sym h)

  looked : {A : Type 0} (p p' : Parser A) (ts : List Lexeme) → ((r : List Lexeme) → Same ts r → p' r ≡ p r) → (o : Outcome A) → Again p ts o → Again p' ts o
  looked p p' ts e (Ok q) w = (w.0, w.1, λ r same. e (w.0 ++ r) (Same-by w.0 q.1 r ts w.1 same) ∙ w.2 r same)
  looked p p' ts e (Err q) w = (w.0, w.1, λ kept r same. e (w.0 ++ r) (Same-by w.0 q.1 r ts w.1 same) ∙ w.2 kept r same)

  by_next_again : {A : Type 0} {end end' : Parser A} {next next' : Lexeme → Parser A} → Steady end end' → ((t : Lexeme) → Steady (next t) (next' t))
      → (ts : List Lexeme) → Again (by_next end' next') ts (by_next end next ts)
  by_next_again {end} {end'} {next} {next'} s g [] = looked end' (by_next end' next') [] (λ r same. at_end end' next' r same) (end []) (s.again [])
  by_next_again {end} {end'} {next} {next'} s g (t ∷ ts) =
      looked (next' t) (by_next end' next') (t ∷ ts) (λ r same. at_token end' next' t ts r same) (next t (t ∷ ts)) ((g t).again (t ∷ ts))

  pub Steady-by_next : {A : Type 0} {end end' : Parser A} {next next' : Lexeme → Parser A} → Steady end end' → ((t : Lexeme) → Steady (next t) (next' t))
      → Steady (by_next end next) (by_next end' next')
  Steady-by_next s g = record { again = by_next_again s g }
