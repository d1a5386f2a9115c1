-- A tree has no more text literals than its text has bytes.
use Rattle.std.proofs.Common.{◌≡◌, ℕ, zero, suc, ◌+◌, ◌≤◌, Bool, true, false, List, [], ◌∷◌, ◌++◌, length, length-append, Option, Ok, Err, refl, sym, ap, ◌∙◌, arith}
use Rattle.std.specs.Prelude.{ℤ, flat_map}
use Rattle.std.proofs.lemmas.List.{length-map}
use Rattle.pgql_tree.specs.declared.ast.Op.{Op}
use Rattle.pgql_tree.specs.declared.ast.Placed.{Placed}
use Rattle.pgql_tree.specs.declared.ast.AstExpr.{AstExpr, fold-roll-AstExpr}
use Rattle.pgql_tree.specs.declared.ast.AstExpr.TheVariants as e
use Rattle.pgql_tree.specs.declared.ast.AstExpr.TheOpen.{AstExpr-F}
use Rattle.pgql_tree.specs.declared.ast.AstExpr.TheFolds.{fold-AstExpr}
use Rattle.pgql_tree.specs.declared.ast.Item.{Item}
use Rattle.pgql_tree.specs.declared.ast.Key.{Key}
use Rattle.pgql_tree.specs.declared.ast.Ast.{Ast}
use Rattle.pgql_lexemes.specs.declared.kind.Kind.TheVariants as k
use Rattle.pgql_tree.specs.declared.level.Level.{Level}
use Rattle.pgql_lexer.specs.declared.token.Token.{Token}
use Rattle.pgql_lexer.specs.declared.fronts.Front.{Front}
use Rattle.pgql_lexer.specs.declared.fronts.Front.TheVariants as front
use Rattle.pgql_lexer.specs.Fronts.{front_of}
use Rattle.pgql_lexer.specs.Tokens.{Lexed, with_front, lexed_after, tokens_from, tokens}
use Rattle.pgql_lexemes.specs.Lexemes.{Lexeme}
use Rattle.pgql_lexemes.specs.Seen.{seen}
use Rattle.pgql_syntax.specs.Grammar.{IsExpr, IsWhole, IsItem, IsKey, Separated, alone, followed, Optional, absent, present, AreKeys, no_order, ordered, IsQuery}
use Rattle.pgql_syntax.specs.Grammar as g
use Rattle.pgql_syntax.specs.Places.{IsTree}
use Rattle.pgql_tree.specs.Literals.{literals_of, literals, condition_literals, item_literals, key_literals, query_literals}

literals-Int : (n : ℤ) (at : ℕ) → literals (e.Int n at) ≡ []
unfolding literals
literals-Int n at = ap (fold-AstExpr (List (List ℕ)) literals_of) (sym (e.rolls-Int n at)) ∙ fold-roll-AstExpr (List (List ℕ)) literals_of (AstExpr-F.Int n at)

literals-Text : (c : List ℕ) (at : ℕ) → literals (e.Text c at) ≡ c ∷ []
unfolding literals
literals-Text c at = ap (fold-AstExpr (List (List ℕ)) literals_of) (sym (e.rolls-Text c at)) ∙ fold-roll-AstExpr (List (List ℕ)) literals_of (AstExpr-F.Text c at)

literals-Date : (c : List ℕ) (at : ℕ) → literals (e.Date c at) ≡ []
unfolding literals
literals-Date c at = ap (fold-AstExpr (List (List ℕ)) literals_of) (sym (e.rolls-Date c at)) ∙ fold-roll-AstExpr (List (List ℕ)) literals_of (AstExpr-F.Date c at)

literals-Bool : (w : Bool) (at : ℕ) → literals (e.Bool w at) ≡ []
unfolding literals
literals-Bool w at = ap (fold-AstExpr (List (List ℕ)) literals_of) (sym (e.rolls-Bool w at)) ∙ fold-roll-AstExpr (List (List ℕ)) literals_of (AstExpr-F.Bool w at)

literals-Name : (n : List ℕ) (at : ℕ) → literals (e.Name at n) ≡ []
unfolding literals
literals-Name n at = ap (fold-AstExpr (List (List ℕ)) literals_of) (sym (e.rolls-Name at n)) ∙ fold-roll-AstExpr (List (List ℕ)) literals_of (AstExpr-F.Name at n)

literals-Property : (v : List ℕ) (p : List ℕ) (at : ℕ) → literals (e.Property at v p) ≡ []
unfolding literals
literals-Property v p at = ap (fold-AstExpr (List (List ℕ)) literals_of) (sym (e.rolls-Property at v p)) ∙ fold-roll-AstExpr (List (List ℕ)) literals_of (AstExpr-F.Property at v p)

literals-Id : (v : Placed) (at : ℕ) → literals (e.Id v at) ≡ []
unfolding literals
literals-Id v at = ap (fold-AstExpr (List (List ℕ)) literals_of) (sym (e.rolls-Id v at)) ∙ fold-roll-AstExpr (List (List ℕ)) literals_of (AstExpr-F.Id v at)

literals-Label : (v : Placed) (at : ℕ) → literals (e.Label v at) ≡ []
unfolding literals
literals-Label v at = ap (fold-AstExpr (List (List ℕ)) literals_of) (sym (e.rolls-Label v at)) ∙ fold-roll-AstExpr (List (List ℕ)) literals_of (AstExpr-F.Label v at)

literals-Not : (x : AstExpr) (at : ℕ) → literals (e.Not x at) ≡ literals x
unfolding literals
literals-Not x at = ap (fold-AstExpr (List (List ℕ)) literals_of) (sym (e.rolls-Not x at)) ∙ fold-roll-AstExpr (List (List ℕ)) literals_of (AstExpr-F.Not x at)

literals-Neg : (x : AstExpr) (at : ℕ) → literals (e.Neg x at) ≡ literals x
unfolding literals
literals-Neg x at = ap (fold-AstExpr (List (List ℕ)) literals_of) (sym (e.rolls-Neg x at)) ∙ fold-roll-AstExpr (List (List ℕ)) literals_of (AstExpr-F.Neg x at)

literals-IsNull : (x : AstExpr) (w : Bool) (at : ℕ) → literals (e.IsNull x w at) ≡ literals x
unfolding literals
literals-IsNull x w at = ap (fold-AstExpr (List (List ℕ)) literals_of) (sym (e.rolls-IsNull x w at)) ∙ fold-roll-AstExpr (List (List ℕ)) literals_of (AstExpr-F.IsNull x w at)

literals-Binary : (o : Op) (l : AstExpr) (r : AstExpr) (at : ℕ) → literals (e.Binary o at l r) ≡ literals l ++ literals r
unfolding literals
literals-Binary o l r at = ap (fold-AstExpr (List (List ℕ)) literals_of) (sym (e.rolls-Binary o at l r)) ∙ fold-roll-AstExpr (List (List ℕ)) literals_of (AstExpr-F.Binary o at l r)

-- an expression's literals are among its tokens
no_more : (x : AstExpr) (found : List (List ℕ)) (n : ℕ) → literals x ≡ found → length found ≤ n → length (literals x) ≤ n
no_more x found n e le = let same = ap length e in omega arith

two_sides : (a b : List Lexeme) (t : Lexeme) (l r : List (List ℕ)) → length l ≤ length a → length r ≤ length b → length (l ++ r) ≤ length (a ++ t ∷ b)
two_sides a b t l r x y = omega (arith, length-append l r, length-append a (t ∷ b))

front_of_it : (a b : List Lexeme) (l : List (List ℕ)) → length l ≤ length a → length l ≤ length (a ++ b)
front_of_it a b l x = omega (arith, length-append a b)

few : {level : Level} {h : ℕ} {ts : List Lexeme} {x : AstExpr} → IsExpr level h ts x → length (literals x) ≤ length ts
few (g.conjunction d) = few d
few (g.negation d) = few d
few (g.test d) = few d
few (g.sum d) = few d
few (g.product d) = few d
few (g.sign d) = few d
few (g.primary d) = few d
few (g.chain a b t o {left = l} {right = r} x p y) = no_more _ _ (length (a ++ t ∷ b)) (literals-Binary o l r _) (two_sides a b t (literals l) (literals r) (few x) (few y))
few (g.not t ts {x = x} p d) = let le = few d in no_more _ _ (length (t ∷ ts)) (literals-Not x t.at) (omega arith)
few (g.comparing a b t o {left = l} {right = r} x p y) = no_more _ _ (length (a ++ t ∷ b)) (literals-Binary o l r _) (two_sides a b t (literals l) (literals r) (few x) (few y))
few (g.is_null a i n {x = x} d p q) = no_more _ _ (length (a ++ i ∷ n ∷ [])) (literals-IsNull x false _) (front_of_it a (i ∷ n ∷ []) (literals x) (few d))
few (g.is_not_null a i non n {x = x} d p q r) = no_more _ _ (length (a ++ i ∷ non ∷ n ∷ [])) (literals-IsNull x true _) (front_of_it a (i ∷ non ∷ n ∷ []) (literals x) (few d))
few (g.minus t ts {x = x} p d) = let le = few d in no_more _ _ (length (t ∷ ts)) (literals-Neg x t.at) (omega arith)
few (g.number t p) = no_more _ _ 1 (literals-Int _ t.at) (omega arith)
few (g.text t p) = no_more _ _ 1 (literals-Text _ t.at) (omega arith)
few (g.yes_word t p) = no_more _ _ 1 (literals-Bool true t.at) (omega arith)
few (g.no_word t p) = no_more _ _ 1 (literals-Bool false t.at) (omega arith)
few (g.date d t p q) = no_more _ _ 2 (literals-Date _ d.at) (omega arith)
few (g.name t p) = no_more _ _ 1 (literals-Name t.bytes t.at) (omega arith)
few (g.property t dot p q r s) = no_more _ _ 3 (literals-Property t.bytes p.bytes t.at) (omega arith)
few (g.id f o v c p i q n r) = no_more _ _ 4 (literals-Id _ f.at) (omega arith)
few (g.label f o v c p i q n r) = no_more _ _ 4 (literals-Label _ f.at) (omega arith)
few (g.parentheses o c ts {x = x} p d q) = let le = few d in omega (arith, length-append (o ∷ ts) (c ∷ []))

-- ---- lists and parts

few_of : {A : Type 0} (R : List Lexeme → A → Type 0) (of : A → List (List ℕ)) → ((ts : List Lexeme) (x : A) → R ts x → length (of x) ≤ length ts)
    → {ts : List Lexeme} {xs : List A} → Separated R k.Comma ts xs → length (flat_map of xs) ≤ length ts
few_of R of one (alone {ts = ts} {x = x} d) = let le = one ts x d in omega (arith, length-append (of x) [])
few_of R of one (followed a b t {x = x} {xs = xs} d is more) =
    let le = one a x d in
    let le' = few_of R of one more in
    omega (arith, length-append (of x) (flat_map of xs), length-append a (t ∷ b))

item_few : (m : ℕ) (ts : List Lexeme) (x : Item) → IsItem m ts x → length (item_literals x) ≤ length ts
item_few m _ _ (g.item a b {x = x} d e) = front_of_it a b (literals x) (few d)

key_few : (m : ℕ) (ts : List Lexeme) (x : Key) → IsKey m ts x → length (key_literals x) ≤ length ts
key_few m _ _ (g.key a b {x = x} d e) = front_of_it a b (literals x) (few d)

keys_few : {m : ℕ} {ts : List Lexeme} {keys : List Key} → AreKeys m ts keys → length (flat_map key_literals keys) ≤ length ts
keys_few no_order = omega arith
keys_few {m} (ordered o b ts is by d) = let le = few_of (IsKey m) key_literals (key_few m) d in omega arith

condition_few : {m : ℕ} {ts : List Lexeme} {c : Option AstExpr} → Optional (IsWhole m) k.Where ts c → length (condition_literals c) ≤ length ts
condition_few absent = omega arith
condition_few (present t ts is d) = let le = few d in omega arith

three_parts : (a b c : List Lexeme) (x y z : List (List ℕ)) → length x ≤ length a → length y ≤ length b → length z ≤ length c → length (x ++ (y ++ z)) ≤ length ((a ++ b) ++ c)
three_parts a b c x y z p q r = omega (arith, length-append x (y ++ z), length-append y z, length-append (a ++ b) c, length-append a b)

query_few : {m : ℕ} {ts : List Lexeme} {q : Ast} → IsQuery m ts q → length (query_literals q) ≤ length ts
query_few {m} (g.query a b c only items paths t (g.selection s a' b' is d e) f (g.tail x y z {condition = condition} {keys = keys} u v w)) =
    let i : length (flat_map item_literals items) ≤ length b' = few_of (IsItem m) item_literals (item_few m) e in
    let j : length (condition_literals condition) ≤ length x = condition_few u in
    let l : length (flat_map key_literals keys) ≤ length y = keys_few v in
    omega (
      arith,
      length-append (flat_map item_literals items) (condition_literals condition ++ flat_map key_literals keys),
      length-append (condition_literals condition) (flat_map key_literals keys),
      length-append ((s ∷ a') ++ b' ++ b) ((x ++ y) ++ z),
      length-append ((s ∷ a') ++ b') b,
      length-append (s ∷ a') b',
      length-append (x ++ y) z,
      length-append x y,
    )

-- ---- tokens

list_of : List Token → Lexed → List Token
list_of ts (Ok found) = found
list_of ts (Err e) = ts

one_more : (t : Token) (o : Lexed) (ts : List Token) (n : ℕ) → with_front (t ∷ []) o ≡ Ok ts → ((more : List Token) → o ≡ Ok more → length more ≤ n) → length ts ≤ suc n
unfolding list_of
one_more t (Err e) ts n w f = absurd cc
one_more t (Ok more) ts n w f = let same = ap length (ap (list_of ts) w) in let le = f more refl in omega arith

few_tokens : (passed place : ℕ) (z : List ℕ) (ts : List Token) → tokens_from passed place z ≡ Ok ts → length ts ≤ length z
unfolding list_of
few_tokens passed place [] ts e = let same = ap length (ap (list_of ts) e) in omega arith
few_tokens (suc passed) place (b ∷ bs) ts e = let le = few_tokens passed (place + 1) bs ts e in omega arith
few_tokens zero place (b ∷ bs) ts e = by_front (λ passed more d. few_tokens passed (place + 1) bs more d) (front_of (b ∷ bs)) e
  where
    by_front : ((passed : ℕ) (more : List Token) → tokens_from passed (place + 1) bs ≡ Ok more → length more ≤ length bs)
        → (f : Front) → lexed_after f place (λ passed. tokens_from passed (place + 1) bs) ≡ Ok ts → length ts ≤ length (b ∷ bs)
    by_front go (front.Gap count) e = let le = go _ ts e in omega arith
    by_front go (front.Whole kind count) e = one_more (record { kind = kind; at = place; end = place + count }) (tokens_from _ (place + 1) bs) ts (length bs) e (go _)
    by_front go (front.BadCharacter count) e = absurd cc
    by_front go front.OpenText e = absurd cc
    by_front go front.OpenComment e = absurd cc
    by_front go front.WideNumber e = absurd cc

tokens_few : (base : ℕ) (text : List ℕ) (ts : List Token) → tokens base text ≡ Ok ts → length ts ≤ length text
unfolding tokens
tokens_few base text ts e = few_tokens 0 base text ts e

pub tree_few : (m base : ℕ) (text : List ℕ) (q : Ast) → IsTree m base text q → length (query_literals q) ≤ length text
tree_few m base text q w =
    let le = query_few w.2 in
    let le' = tokens_few base text w.0 w.1 in
    omega (arith, length-map w.0 (seen text base))
