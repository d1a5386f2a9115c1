-- A refusal stands at the first token with which no query goes on, and there is one such place and one reason.
use Rattle.std.proofs.lemmas.List.{append-nil, append_cancel_right}
use Rattle.std.proofs.Common.{◌≡◌, ℕ, max, ◌≤◌, ◌+◌, List, [], ◌∷◌, ◌++◌, length, length-append, Ok, Err, refl, sym, ap, ◌∙◌, subst, append_assoc, arith}
use Rattle.std.specs.Prelude.{map}
use Rattle.pgql_tree.specs.declared.ast.Ast.{Ast}
use Rattle.pgql_lexemes.specs.Lexemes.{Lexeme}
use Rattle.pgql_syntax.specs.Grammar.{IsQuery}
use Rattle.pgql_expr.specs.Reading.{Refusal, unexpected, deep, Outcome, Parser}
use Rattle.pgql_syntax.specs.Queries.{read_query, finished, read_whole}
use Rattle.pgql_expr.specs.Reading.{and_then, ◌>>◌, pure}
use Rattle.pgql_syntax.specs.Places.{IsLive, GoesOn, Because, IsRefused}
use Rattle.pgql_syntax.proofs.Samples.{sample}
use Rattle.pgql_syntax.proofs.Written.{samples_written}
use Rattle.pgql_syntax.proofs.Steady.{Again, Same}
use Rattle.pgql_syntax.proofs.Follows.{CanEnd, Says}
use Rattle.pgql_syntax.proofs.Items.{Any}
use Rattle.pgql_syntax.proofs.Whole.{whole_follows_query}
use Rattle.pgql_syntax.proofs.Settled.{whole_steady}
use Rattle.pgql_syntax.proofs.QueriesRead.{whole_query_reads}

-- tokens of some kinds are tokens that can be written
ended_live : (m : ℕ) (front : List Lexeme) → CanEnd (IsQuery m) front → IsLive m front
ended_live m front c = record { more = map sample c.0; written = samples_written c.0; query = c.1; is_query = c.2 }

apart : (o : Outcome Ast) (q : Ast) (why : Refusal) (r r' : List Lexeme) → o ≡ Ok (q, r) → o ≡ Err (why, r') → ⊥
apart o q why r r' e f = cc

rest_of : Outcome Ast → List Lexeme
rest_of (Ok q) = q.1
rest_of (Err e) = e.1

empties : (o : Outcome Ast) (q : Ast) (rest : List Lexeme) → and_then o (λ q. finished >> pure q) ≡ Ok (q, rest) → rest ≡ []
unfolding rest_of
empties (Err e) q rest h = cc
empties (Ok (x, [])) q rest h = sym (ap rest_of h)
empties (Ok (x, t ∷ ts)) q rest h = cc

whole_empties : (m : ℕ) (ts : List Lexeme) (q : Ast) (rest : List Lexeme) → read_whole m ts ≡ Ok (q, rest) → rest ≡ []
unfolding read_whole
whole_empties m ts q rest h = empties (read_query m ts) q rest h

abbrev always : Refusal → Type 0
always why = Unit {0}

abbrev but_deep : Refusal → Type 0
but_deep unexpected = Unit {0}
but_deep deep = ⊥

-- a query that goes on so is read, and not refused
no_query : {h : ℕ} (m : ℕ) (front rest : List Lexeme) (why : Refusal) → h ≤ m
    → ((r : List Lexeme) → Same rest r → read_whole m (front ++ r) ≡ Err (why, r)) → GoesOn h front rest → ⊥
no_query {h} m front [] why le s w =
    let refused = s [] tt in
    let same : front ++ [] ≡ front = append-nil front in
    let read = whole_query_reads h m front w.0 le w.1 in
    let both : read_whole m front ≡ Err (why, []) = ap (read_whole m) (sym same) ∙ refused in
    apart (read_whole m front) w.0 why [] [] read both
no_query {h} m front (t ∷ rest) why le s w =
    let refused = s (t ∷ w.more) refl in
    let read = whole_query_reads h m ((front ++ t ∷ []) ++ w.more) w.query le w.is_query in
    let both : read_whole m ((front ++ t ∷ []) ++ w.more) ≡ Err (why, t ∷ w.more) = ap (read_whole m) (append_assoc front (t ∷ []) w.more) ∙ refused in
    apart (read_whole m ((front ++ t ∷ []) ++ w.more)) w.query why [] (t ∷ w.more) read both

at_front : (keeps : Refusal → Type 0) (p' : Parser Ast) (ts front rest : List Lexeme) (why : Refusal) → ts ≡ front ++ rest → keeps why → Again keeps p' ts (Err (why, rest))
    → (r : List Lexeme) → Same rest r → p' (front ++ r) ≡ Err (why, r)
at_front keeps p' ts front rest why e kept w r same =
    let cut : w.0 ≡ front = append_cancel_right w.0 front rest (sym w.1 ∙ e) in
    ap (λ x. p' (x ++ r)) (sym cut) ∙ w.2 kept r same

module _ (m : ℕ) (ts rest : List Lexeme) where
  steady_at : (why : Refusal) → read_whole m ts ≡ Err (why, rest) → Again always (read_whole m) ts (Err (why, rest))
  steady_at why e = let P : Outcome Ast → Type 0 = λ o. Again always (read_whole m) ts o in subst P e ((whole_steady always m m (omega arith) (λ _. refl)).again ts)

  steady_above : (h : ℕ) → read_whole m ts ≡ Err (unexpected, rest) → Again but_deep (read_whole (max m h)) ts (Err (unexpected, rest))
  steady_above h e = let P : Outcome Ast → Type 0 = λ o. Again but_deep (read_whole (max m h)) ts o in subst P e ((whole_steady but_deep m (max m h) (omega arith) (λ kept. absurd kept)).again ts)

says_at : (m : ℕ) (ts : List Lexeme) (o : Outcome Ast) → read_whole m ts ≡ o → Says (IsQuery m) (Any IsQuery) [] ts o
says_at m ts o e = let P : Outcome Ast → Type 0 = Says (IsQuery m) (Any IsQuery) [] ts in subst P e ((whole_follows_query m).says ts)

pub refused_is : (m : ℕ) (ts : List Lexeme) (why : Refusal) (rest : List Lexeme) → read_whole m ts ≡ Err (why, rest) → IsRefused m ts why rest
refused_is m ts unexpected rest e =
    let w = says_at m ts (Err (unexpected, rest)) e in
    record {
      front = w.0;
      splits = w.1;
      live = ended_live m w.0 w.2;
      stops = no_query m w.0 rest unexpected (omega arith) (at_front always (read_whole m) ts w.0 rest unexpected w.1 tt (steady_at m ts rest unexpected e));
      because = λ h. no_query {h = h} (max m h) w.0 rest unexpected (omega arith) (at_front but_deep (read_whole (max m h)) ts w.0 rest unexpected w.1 tt (steady_above m ts rest h e));
    }
refused_is m ts deep [] e = absurd (says_at m ts (Err (deep, [])) e)
refused_is m ts deep (t ∷ rest) e =
    let w = says_at m ts (Err (deep, t ∷ rest)) e in
    let higher = w.3 in
    record {
      front = w.0;
      splits = w.1;
      live = ended_live m w.0 w.2;
      stops = no_query m w.0 (t ∷ rest) deep (omega arith) (at_front always (read_whole m) ts w.0 (t ∷ rest) deep w.1 tt (steady_at m ts (t ∷ rest) deep e));
      because = (higher.2.0, ended_live higher.2.0 (w.0 ++ t ∷ []) (higher.0, higher.1, higher.2.1));
    }

pub read_is : (m : ℕ) (ts : List Lexeme) (q : Ast) (rest : List Lexeme) → read_whole m ts ≡ Ok (q, rest) → IsQuery m ts q
read_is m ts q rest e =
    let w = says_at m ts (Ok (q, rest)) e in
    let all : ts ≡ w.0 = w.1 ∙ ap (λ x. w.0 ++ x) (whole_empties m ts q rest e) ∙ append-nil w.0 in
    let P : List Lexeme → Type 0 = λ x. IsQuery m x q in subst P (sym all) w.2

-- ---- one place and one reason

-- A front is live where reading is not refused inside it.
live_prefix : (m : ℕ) (a c : List Lexeme) → ((why : Refusal) (u : Lexeme) (s : List Lexeme) → read_whole m (a ++ c) ≡ Err (why, u ∷ s ++ c) → ⊥) → IsLive m a
live_prefix m a c never = by_outcome (read_whole m a) refl
  where
    by_outcome : (o : Outcome Ast) → read_whole m a ≡ o → IsLive m a
    by_outcome (Ok q) e = record { more = []; written = tt; query = q.0; is_query = (let P : List Lexeme → Type 0 = λ v. IsQuery m v q.0 in subst P (sym (append-nil a)) (read_is m a q.0 q.1 e)) }
    by_outcome (Err (unexpected, [])) e =
        let w = says_at m a (Err (unexpected, [])) e in
        let all : w.0 ≡ a = sym (append-nil w.0) ∙ sym w.1 in
        ended_live m a (let P : List Lexeme → Type 0 = CanEnd (IsQuery m) in subst P all w.2)
    by_outcome (Err (deep, [])) e = absurd (says_at m a (Err (deep, [])) e)
    by_outcome (Err (why, u ∷ s)) e =
        let w = steady_at m a (u ∷ s) why e in
        let whole : w.0 ++ (u ∷ s ++ c) ≡ a ++ c = sym (append_assoc w.0 (u ∷ s) c) ∙ ap (λ v. v ++ c) (sym w.1) in
        absurd (never why u s (ap (read_whole m) (sym whole) ∙ w.2 tt (u ∷ s ++ c) refl))

-- of two fronts one is longer and begins with the other and the token after it, or they are one
data Compared : List Lexeme → List Lexeme → List Lexeme → List Lexeme → Type 0 where
  same : (a r : List Lexeme) → Compared a r a r
  first_shorter : (a r : List Lexeme) (t : Lexeme) (c s : List Lexeme) → r ≡ t ∷ c ++ s → Compared a r (a ++ t ∷ c) s
  second_shorter : (a s : List Lexeme) (t : Lexeme) (c r : List Lexeme) → s ≡ t ∷ c ++ r → Compared (a ++ t ∷ c) r a s

compared_more : {a r b s : List Lexeme} (t : Lexeme) → Compared a r b s → Compared (t ∷ a) r (t ∷ b) s
compared_more t (same a r) = same (t ∷ a) r
compared_more t (first_shorter a r u c s e) = first_shorter (t ∷ a) r u c s e
compared_more t (second_shorter a s u c r e) = second_shorter (t ∷ a) s u c r e

compared : (a r b s : List Lexeme) → a ++ r ≡ b ++ s → Compared a r b s
compared [] r [] s e = let P : List Lexeme → Type 0 = λ v. Compared [] r [] v in subst P e (same [] r)
compared [] r (u ∷ b) s e = first_shorter [] r u b s e
compared (t ∷ a) r [] s e = second_shorter [] s t a r (sym e)
compared (t ∷ a) r (u ∷ b) s e =
    let head : t ≡ u = cc in
    let rest : a ++ r ≡ b ++ s = cc in
    let P : Lexeme → Type 0 = λ v. Compared (t ∷ a) r (v ∷ b) s in subst P head (compared_more t (compared a r b s rest))

reason : (why why' : Refusal) (a r : List Lexeme) → Because why a r → Because why' a r → why ≡ why'
reason unexpected unexpected a r x y = refl
reason deep deep a r x y = refl
reason unexpected deep a r x y = absurd (x y.0 y.1)
reason deep unexpected a r x y = absurd (y x.0 x.1)

no_longer : (u : Lexeme) (s c r : List Lexeme) → r ≡ u ∷ s ++ (c ++ r) → ⊥
no_longer u s c r e =
    let l : length r ≡ length (u ∷ s ++ (c ++ r)) = ap length e in
    let l' : length (s ++ (c ++ r)) ≡ length s + (length c + length r) = length-append s (c ++ r) ∙ ap (λ n. length s + n) (length-append c r) in
    omega arith

err_rest : List Lexeme → Outcome Ast → List Lexeme
err_rest r (Ok q) = r
err_rest r (Err e) = e.1

-- the spec's front is longer: its query would be read
longer_front : (m : ℕ) (why : Refusal) (a r : List Lexeme) (t : Lexeme) (c s : List Lexeme) → r ≡ t ∷ c ++ s
    → ((r' : List Lexeme) → Same r r' → read_whole m (a ++ r') ≡ Err (why, r')) → IsLive m (a ++ t ∷ c) → ⊥
longer_front m why a r t c s g steady live =
    let P : List Lexeme → Type 0 = λ v. Same v (t ∷ c ++ live.more) in
    let refused : read_whole m (a ++ (t ∷ c ++ live.more)) ≡ Err (why, t ∷ c ++ live.more) = steady (t ∷ c ++ live.more) (subst P (sym g) refl) in
    let read = whole_query_reads m m ((a ++ t ∷ c) ++ live.more) live.query (omega arith) live.is_query in
    apart (read_whole m ((a ++ t ∷ c) ++ live.more)) live.query why [] (t ∷ c ++ live.more) read (ap (read_whole m) (append_assoc a (t ∷ c) live.more) ∙ refused)

-- the spec's front is shorter: a query goes on from it
shorter_front : (m : ℕ) (why : Refusal) (ts b s : List Lexeme) (t : Lexeme) (c r : List Lexeme) → s ≡ t ∷ c ++ r → ts ≡ (b ++ t ∷ c) ++ r → read_whole m ts ≡ Err (why, r) → GoesOn m b s
unfolding err_rest
shorter_front m why ts b s t c r g p e =
    let whole : ts ≡ (b ++ t ∷ []) ++ (c ++ r) = p ∙ append_assoc b (t ∷ c) r ∙ sym (append_assoc b (t ∷ []) (c ++ r)) in
    let live : IsLive m (b ++ t ∷ []) = live_prefix m (b ++ t ∷ []) (c ++ r)
    (λ why' u s' f. no_longer u s' c r (sym (ap (err_rest r) e) ∙ ap (λ v. err_rest r (read_whole m v)) whole ∙ ap (err_rest r) f)) in
    let P : List Lexeme → Type 0 = GoesOn m b in subst P (sym g) live

-- what reading refuses is the refusal
pub only_refusal : (m : ℕ) (ts : List Lexeme) (why why' : Refusal) (rest rest' : List Lexeme) → read_whole m ts ≡ Err (why, rest) → IsRefused m ts why' rest' → (rest ≡ rest') × (why ≡ why')
only_refusal m ts why why' rest rest' e y =
    let x = refused_is m ts why rest e in
    decide (compared x.front rest y.front rest' (sym x.splits ∙ y.splits)) x.splits x.because e
    (at_front always (read_whole m) ts x.front rest why x.splits tt (steady_at m ts rest why e)) y.live y.stops y.because
  where
    decide : {a r b s : List Lexeme} → Compared a r b s → ts ≡ a ++ r → Because why a r → read_whole m ts ≡ Err (why, r)
        → ((r' : List Lexeme) → Same r r' → read_whole m (a ++ r') ≡ Err (why, r')) → IsLive m b → (GoesOn m b s → ⊥) → Because why' b s → (r ≡ s) × (why ≡ why')
    decide (same a r) p ba e st lb sb bb = (refl, reason why why' a r ba bb)
    decide (first_shorter a r t c s g) p ba e st lb sb bb = absurd (longer_front m why a r t c s g st lb)
    decide (second_shorter b s t c r g) p ba e st lb sb bb = absurd (sb (shorter_front m why ts b s t c r g p e))

-- ---- queries

found_or : Ast → Outcome Ast → Ast
found_or q (Ok p) = p.0
found_or q (Err e) = q

pub only_one : (m : ℕ) (ts : List Lexeme) (q q' : Ast) (rest : List Lexeme) → read_whole m ts ≡ Ok (q, rest) → IsQuery m ts q' → q ≡ q'
unfolding found_or
only_one m ts q q' rest e d = ap (found_or q) (sym e ∙ whole_query_reads m m ts q' (omega arith) d)

pub none_refused : (m : ℕ) (ts : List Lexeme) (q : Ast) (why : Refusal × List Lexeme) → read_whole m ts ≡ Err why → IsQuery m ts q → ⊥
none_refused m ts q why e d = apart (read_whole m ts) q why.0 [] why.1 (whole_query_reads m m ts q (omega arith) d) e

-- a query is not refused
pub read_not_refused : (m : ℕ) (ts : List Lexeme) (q : Ast) (rest : List Lexeme) (why : Refusal) (rest' : List Lexeme) → read_whole m ts ≡ Ok (q, rest) → IsRefused m ts why rest' → ⊥
read_not_refused m ts q rest why rest' e y = by_rest rest' y.splits y.stops
  where
    by_rest : (r : List Lexeme) → ts ≡ y.front ++ r → (GoesOn m y.front r → ⊥) → ⊥
    by_rest [] p stops = stops (q, (let P : List Lexeme → Type 0 = λ v. IsQuery m v q in subst P (p ∙ append-nil y.front) (read_is m ts q rest e)))
    by_rest (t ∷ r) p stops =
        let whole : ts ≡ (y.front ++ t ∷ []) ++ r = p ∙ sym (append_assoc y.front (t ∷ []) r) in
        stops (live_prefix m (y.front ++ t ∷ []) r (λ why' u s f. apart (read_whole m ts) q why' rest (u ∷ s ++ r) e (ap (read_whole m) whole ∙ f)))
