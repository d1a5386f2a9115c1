-- What a text is answered has its cause, and no other answer is right.
use Rattle.std.proofs.Common.{◌≡◌, ◌≢◌, ℕ, ◌+◌, List, [], length, Result, Ok, Err, IfOk, IfErr, MatchResult, refl, sym, ap, ◌∙◌, subst}
use Rattle.std.specs.Prelude.{map}
use Rattle.pgql_lexer.specs.declared.token.Token.{Token}
use Rattle.pgql_lexer.specs.declared.token.LexFault.{LexFault}
use Rattle.pgql_lexer.specs.Tokens.{Lexed, tokens}
use Rattle.pgql_tree.specs.declared.ast.Ast.{Ast}
use Rattle.pgql_syntax.specs.declared.tree.SyntaxFault.{SyntaxFault}
use Rattle.pgql_syntax.specs.declared.tree.SyntaxFault.TheVariants as fault
use Rattle.pgql_lexemes.specs.Lexemes.{Lexeme}
use Rattle.pgql_lexemes.specs.Seen.{seen}
use Rattle.pgql_syntax.specs.Grammar.{IsQuery}
use Rattle.pgql_expr.specs.Reading.{Refusal, unexpected, deep, Outcome}
use Rattle.pgql_syntax.specs.Queries.{read_whole}
use Rattle.pgql_syntax.specs.Places.{IsTree, IsRefused, IsRefusedAt, IsFault, place_or}
use Rattle.pgql_syntax.specs.Answers.{answer_of, answered, answer, Gives}
use Rattle.pgql_syntax.proofs.Refusals.{refused_is, read_is, only_refusal, only_one, none_refused, read_not_refused}

module _ (m base : ℕ) (text : List ℕ) where
  abbrev lexemes : List Token → List Lexeme
  lexemes ts = map (seen text base) ts

  abbrev end : ℕ
  end = base + length text

  -- how an answer came about
  abbrev Stopped : Refusal → ℕ → Type 0
  Stopped why at = (ts : List Token) × (tokens base text ≡ Ok ts) × (rest : List Lexeme) × (read_whole m (map (seen text base) ts) ≡ Err (why, rest)) × (at ≡ place_or (base + length text) rest)

  abbrev Cause : Result Ast SyntaxFault → Type 0
  Cause (Ok q) = (ts : List Token) × (tokens base text ≡ Ok ts) × (rest : List Lexeme) × (read_whole m (map (seen text base) ts) ≡ Ok (q, rest))
  Cause (Err (fault.Lex e)) = tokens base text ≡ Err e
  Cause (Err (fault.Unexpected at)) = Stopped unexpected at
  Cause (Err (fault.Deep at)) = Stopped deep at
  Cause (Err fault.NoMemory) = ⊥

  cause : Cause (answer m base text)
  unfolding answer
  cause = by_tokens (tokens base text) refl
    where
      by_reading : (ts : List Token) → tokens base text ≡ Ok ts → (o : Outcome Ast) → read_whole m (map (seen text base) ts) ≡ o → Cause (answer_of (base + length text) o)
      by_reading ts p (Ok (q, rest)) e = (ts, p, rest, e)
      by_reading ts p (Err (unexpected, rest)) e = (ts, p, rest, e, refl)
      by_reading ts p (Err (deep, rest)) e = (ts, p, rest, e, refl)

      by_tokens : (o : Lexed) → tokens base text ≡ o → Cause (answered m base text o)
      by_tokens (Err e) p = p
      by_tokens (Ok ts) p = by_reading ts p (read_whole m (map (seen text base) ts)) refl

  caused : (a : Result Ast SyntaxFault) → answer m base text ≡ a → Cause a
  caused a e = subst Cause e cause

  tokens_of : Lexed → List Token
  tokens_of (Ok ts) = ts
  tokens_of (Err e) = []

  one_list : (ts us : List Token) → tokens base text ≡ Ok ts → tokens base text ≡ Ok us → map (seen text base) ts ≡ map (seen text base) us
  unfolding tokens_of
  one_list ts us p q = ap (map (seen text base)) (ap tokens_of (sym p ∙ q))

  no_tokens : {A : Type 0} (o : Lexed) (ts : List Token) (e : LexFault) → o ≡ Ok ts → o ≡ Err e → A
  no_tokens o ts e p q = absurd cc

  pub tree_found : (r : Result Ast SyntaxFault) → Gives r (answer m base text) → IfOk r (λ q. IsTree m base text q)
  tree_found (Ok q) g = let w = caused (Ok q) g in (w.0, w.1, read_is m (map (seen text base) w.0) q w.2 w.3)
  tree_found (Err e) g = tt

  stopped_at : (why : Refusal) (at : ℕ) → Stopped why at → IsRefusedAt m base text why at
  stopped_at why at w = record { found = w.0; tokens_are = w.1; rest = w.2; refused = refused_is m (map (seen text base) w.0) why w.2 w.3; place_is = w.4 }

  fault_by : (e : SyntaxFault) → Cause (Err e) → IsFault m base text e
  fault_by (fault.Lex e) w = w
  fault_by (fault.Unexpected at) w = stopped_at unexpected at w
  fault_by (fault.Deep at) w = stopped_at deep at w
  fault_by fault.NoMemory w = w

  pub fault_found : (r : Result Ast SyntaxFault) → Gives r (answer m base text) → IfErr r (λ e. e ≢ fault.NoMemory → IsFault m base text e)
  fault_found (Ok q) g = tt
  fault_found (Err e) g = λ named. fault_by e (caused (Err e) (g named))

  not_stopped : (why : Refusal) (at : ℕ) (q : Ast) → IsTree m base text q → Stopped why at → ⊥
  not_stopped why at q t w =
      let P : List Lexeme → Type 0 = λ v. IsQuery m v q in
      none_refused m (map (seen text base) w.0) q (why, w.2) w.3 (subst P (one_list t.0 w.0 t.1 w.1) t.2)

  only_memory : (q : Ast) (e : SyntaxFault) → IsTree m base text q → (e ≢ fault.NoMemory → answer m base text ≡ Err e) → e ≡ fault.NoMemory
  only_memory q (fault.Lex e) t g = no_tokens (tokens base text) t.0 e t.1 (caused (Err (fault.Lex e)) (g (λ same. cc)))
  only_memory q (fault.Unexpected at) t g = absurd (not_stopped unexpected at q t (caused (Err (fault.Unexpected at)) (g (λ same. cc))))
  only_memory q (fault.Deep at) t g = absurd (not_stopped deep at q t (caused (Err (fault.Deep at)) (g (λ same. cc))))
  only_memory q fault.NoMemory t g = refl

  pub only_tree : (r : Result Ast SyntaxFault) → Gives r (answer m base text) → (q : Ast) → IsTree m base text q → MatchResult r (λ found. found ≡ q) (λ e. e ≡ fault.NoMemory)
  only_tree (Ok found) g q t =
      let w = caused (Ok found) g in
      let P : List Lexeme → Type 0 = λ v. IsQuery m v q in
      only_one m (map (seen text base) w.0) found q w.2 w.3 (subst P (one_list t.0 w.0 t.1 w.1) t.2)
  only_tree (Err e) g q t = only_memory q e t g

  here : (ts : List Token) → tokens base text ≡ Ok ts → (why : Refusal) (at : ℕ) → (w : IsRefusedAt m base text why at) → IsRefused m (map (seen text base) ts) why w.rest
  here ts p why at w = let P : List Lexeme → Type 0 = λ v. IsRefused m v why w.rest in subst P (one_list w.found ts w.tokens_are p) w.refused

  read_and_refused : (q : Ast) (e : SyntaxFault) → Cause (Ok q) → IsFault m base text e → ⊥
  read_and_refused q (fault.Lex e) w f = no_tokens (tokens base text) w.0 e w.1 f
  read_and_refused q (fault.Unexpected at) w f = read_not_refused m (map (seen text base) w.0) q w.2 unexpected f.rest w.3 (here w.0 w.1 unexpected at f)
  read_and_refused q (fault.Deep at) w f = read_not_refused m (map (seen text base) w.0) q w.2 deep f.rest w.3 (here w.0 w.1 deep at f)
  read_and_refused q fault.NoMemory w f = f

  one_place : (why why' : Refusal) (at at' : ℕ) → Stopped why at → IsRefusedAt m base text why' at' → (at ≡ at') × (why ≡ why')
  one_place why why' at at' w f =
      let both = only_refusal m (map (seen text base) w.0) why why' w.2 f.rest w.3 (here w.0 w.1 why' at' f) in
      (w.4 ∙ ap (place_or (base + length text)) both.0 ∙ sym f.place_is, both.1)

  one_fault : (told e : SyntaxFault) → Cause (Err told) → IsFault m base text e → told ≡ e
  one_fault (fault.Lex a) (fault.Lex b) w f = let same : ◌≡◌ {A = Lexed} (Err a) (Err b) = sym w ∙ f in cc
  one_fault (fault.Lex a) (fault.Unexpected at) w f = no_tokens (tokens base text) f.found a f.tokens_are w
  one_fault (fault.Lex a) (fault.Deep at) w f = no_tokens (tokens base text) f.found a f.tokens_are w
  one_fault (fault.Unexpected at) (fault.Lex b) w f = no_tokens (tokens base text) w.0 b w.1 f
  one_fault (fault.Deep at) (fault.Lex b) w f = no_tokens (tokens base text) w.0 b w.1 f
  one_fault (fault.Unexpected at) (fault.Unexpected at') w f = ap fault.Unexpected (one_place unexpected unexpected at at' w f).0
  one_fault (fault.Deep at) (fault.Deep at') w f = ap fault.Deep (one_place deep deep at at' w f).0
  one_fault (fault.Unexpected at) (fault.Deep at') w f = let bad : unexpected ≡ deep = (one_place unexpected deep at at' w f).1 in cc
  one_fault (fault.Deep at) (fault.Unexpected at') w f = let bad : deep ≡ unexpected = (one_place deep unexpected at at' w f).1 in cc
  one_fault fault.NoMemory e w f = absurd w
  one_fault told fault.NoMemory w f = absurd f

  pub only_this : (r : Result Ast SyntaxFault) → Gives r (answer m base text) → (e : SyntaxFault) → IsFault m base text e → MatchResult r (λ q. ⊥) (λ told. told ≢ fault.NoMemory → told ≡ e)
  only_this (Ok q) g e f = read_and_refused q e (caused (Ok q) g) f
  only_this (Err told) g e f = λ named. one_fault told e (caused (Err told) (g named)) f
