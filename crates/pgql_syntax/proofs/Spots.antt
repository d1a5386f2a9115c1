-- The places in a tree are those of its tokens.
use Rattle.std.proofs.Common.{◌≡◌, ℕ, ◌+◌, ◌<◌, Bool, true, false, List, [], ◌∷◌, ◌++◌, length, Option, sym, ap, ◌∙◌, subst, arith}
use Rattle.std.specs.Prelude.{ℤ, map, flat_map}
use Rattle.std.specs.List.{AllByRecursion}
use Rattle.pgql_tree.specs.declared.ast.Op.{Op}
use Rattle.pgql_tree.specs.declared.ast.Placed.{Placed}
use Rattle.pgql_tree.specs.declared.ast.AstExpr.{AstExpr, fold-roll-AstExpr}
use Rattle.pgql_tree.specs.declared.ast.AstExpr.TheVariants as e
use Rattle.pgql_tree.specs.declared.ast.AstExpr.TheOpen.{AstExpr-F}
use Rattle.pgql_tree.specs.declared.ast.AstExpr.TheFolds.{fold-AstExpr}
use Rattle.pgql_tree.specs.declared.ast.Item.{Item}
use Rattle.pgql_tree.specs.declared.ast.VertexPat.{VertexPat}
use Rattle.pgql_tree.specs.declared.ast.EdgePat.{EdgePat}
use Rattle.pgql_tree.specs.declared.ast.Path.{Path}
use Rattle.pgql_tree.specs.declared.ast.Key.{Key}
use Rattle.pgql_tree.specs.declared.ast.Ast.{Ast}
use Rattle.pgql_syntax.specs.declared.pattern.Spec.{Spec}
use Rattle.pgql_lexemes.specs.declared.kind.Kind.{Kind}
use Rattle.pgql_tree.specs.declared.level.Level.{Level}
use Rattle.pgql_lexer.specs.declared.token.Token.{Token}
use Rattle.pgql_lexemes.specs.Lexemes.{Lexeme, place}
use Rattle.pgql_lexemes.specs.Seen.{seen, IsTokenOf}
use Rattle.pgql_syntax.specs.Grammar.{IsName, IsExpr, IsWhole, IsItem, IsKey, Separated, alone, followed, Optional, absent, present, Perhaps, without, with_part, Many}
use Rattle.pgql_syntax.specs.Grammar.{no_more, one_more, IsSpec, IsEnclosed, IsVertex, IsEdge, IsStep, IsPath, AreKeys, no_order, ordered, IsPattern, IsQuery, at_of}
use Rattle.pgql_syntax.specs.Grammar as g
use Rattle.pgql_syntax.specs.Places.{IsTree}
use Rattle.pgql_tree.specs.AllPlaces.{places_of, places, name_places, item_places, vertex_places, edge_places, step_places, path_places, condition_places, key_places, query_places, IsWithin}
use Rattle.pgql_syntax.proofs.Complete.{some_token}
use Rattle.pgql_lexemes.proofs.Sound.{all_sound}
use Rattle.pgql_syntax.proofs.Ats.{at-Int, at-Text, at-Date, at-Bool, at-Name, at-Property, at-Id, at-Label, at-Not, at-Neg, at-IsNull, at-Binary}
use Rattle.pgql_tree.proofs.Variants.{Is, is_Int, is_Text, is_Date, is_Bool, is_Name, is_Property, is_Id, is_Label, is_Not, is_Neg, is_IsNull, is_Binary, which}

places-Int : (n : ℤ) (at : ℕ) → places (e.Int n at) ≡ at ∷ []
unfolding places
places-Int n at = ap (fold-AstExpr (List ℕ) places_of) (sym (e.rolls-Int n at)) ∙ fold-roll-AstExpr (List ℕ) places_of (AstExpr-F.Int n at)

places-Text : (c : List ℕ) (at : ℕ) → places (e.Text c at) ≡ at ∷ []
unfolding places
places-Text c at = ap (fold-AstExpr (List ℕ) places_of) (sym (e.rolls-Text c at)) ∙ fold-roll-AstExpr (List ℕ) places_of (AstExpr-F.Text c at)

places-Date : (c : List ℕ) (at : ℕ) → places (e.Date c at) ≡ at ∷ []
unfolding places
places-Date c at = ap (fold-AstExpr (List ℕ) places_of) (sym (e.rolls-Date c at)) ∙ fold-roll-AstExpr (List ℕ) places_of (AstExpr-F.Date c at)

places-Bool : (w : Bool) (at : ℕ) → places (e.Bool w at) ≡ at ∷ []
unfolding places
places-Bool w at = ap (fold-AstExpr (List ℕ) places_of) (sym (e.rolls-Bool w at)) ∙ fold-roll-AstExpr (List ℕ) places_of (AstExpr-F.Bool w at)

places-Name : (n : List ℕ) (at : ℕ) → places (e.Name at n) ≡ at ∷ []
unfolding places
places-Name n at = ap (fold-AstExpr (List ℕ) places_of) (sym (e.rolls-Name at n)) ∙ fold-roll-AstExpr (List ℕ) places_of (AstExpr-F.Name at n)

places-Property : (v : List ℕ) (p : List ℕ) (at : ℕ) → places (e.Property at v p) ≡ at ∷ []
unfolding places
places-Property v p at = ap (fold-AstExpr (List ℕ) places_of) (sym (e.rolls-Property at v p)) ∙ fold-roll-AstExpr (List ℕ) places_of (AstExpr-F.Property at v p)

places-Id : (v : Placed) (at : ℕ) → places (e.Id v at) ≡ at ∷ v.at ∷ []
unfolding places
places-Id v at = ap (fold-AstExpr (List ℕ) places_of) (sym (e.rolls-Id v at)) ∙ fold-roll-AstExpr (List ℕ) places_of (AstExpr-F.Id v at)

places-Label : (v : Placed) (at : ℕ) → places (e.Label v at) ≡ at ∷ v.at ∷ []
unfolding places
places-Label v at = ap (fold-AstExpr (List ℕ) places_of) (sym (e.rolls-Label v at)) ∙ fold-roll-AstExpr (List ℕ) places_of (AstExpr-F.Label v at)

places-Not : (x : AstExpr) (at : ℕ) → places (e.Not x at) ≡ at ∷ places x
unfolding places
places-Not x at = ap (fold-AstExpr (List ℕ) places_of) (sym (e.rolls-Not x at)) ∙ fold-roll-AstExpr (List ℕ) places_of (AstExpr-F.Not x at)

places-Neg : (x : AstExpr) (at : ℕ) → places (e.Neg x at) ≡ at ∷ places x
unfolding places
places-Neg x at = ap (fold-AstExpr (List ℕ) places_of) (sym (e.rolls-Neg x at)) ∙ fold-roll-AstExpr (List ℕ) places_of (AstExpr-F.Neg x at)

places-IsNull : (x : AstExpr) (w : Bool) (at : ℕ) → places (e.IsNull x w at) ≡ at ∷ places x
unfolding places
places-IsNull x w at = ap (fold-AstExpr (List ℕ) places_of) (sym (e.rolls-IsNull x w at)) ∙ fold-roll-AstExpr (List ℕ) places_of (AstExpr-F.IsNull x w at)

places-Binary : (o : Op) (l : AstExpr) (r : AstExpr) (at : ℕ) → places (e.Binary o at l r) ≡ at ∷ (places l ++ places r)
unfolding places
places-Binary o l r at = ap (fold-AstExpr (List ℕ) places_of) (sym (e.rolls-Binary o at l r)) ∙ fold-roll-AstExpr (List ℕ) places_of (AstExpr-F.Binary o at l r)

pub front_all : {A : Type 0} (P : A → Type 0) (a b : List A) → AllByRecursion P (a ++ b) → AllByRecursion P a
front_all P [] b all = tt
front_all P (x ∷ a) b all = (all.0, front_all P a b all.1)

pub back_all : {A : Type 0} (P : A → Type 0) (a b : List A) → AllByRecursion P (a ++ b) → AllByRecursion P b
back_all P [] b all = all
back_all P (x ∷ a) b all = back_all P a b all.1

join_all : {A : Type 0} (P : A → Type 0) (a b : List A) → AllByRecursion P a → AllByRecursion P b → AllByRecursion P (a ++ b)
join_all P [] b x y = y
join_all P (u ∷ a) b x y = (x.0, join_all P a b x.1 y)

module _ (P : ℕ → Type 0) where
  abbrev At : Lexeme → Type 0
  At t = P t.at

  abbrev Tokens : List Lexeme → Type 0
  Tokens ts = AllByRecursion (λ t. P t.at) ts

  abbrev Spots : List ℕ → Type 0
  Spots ns = AllByRecursion P ns

  place_in : (ts : List Lexeme) → 0 < length ts → AllByRecursion (λ t. P t.at) ts → P (place ts)
  place_in [] some all = absurd (omega arith)
  place_in (t ∷ ts) some all = all.0

  as_places : (x : AstExpr) (ns : List ℕ) → places x ≡ ns → AllByRecursion P ns → AllByRecursion P (places x)
  as_places x ns e all = let Q : List ℕ → Type 0 = AllByRecursion P in subst Q (sym e) all

  expr_in : {level : Level} {h : ℕ} {ts : List Lexeme} {x : AstExpr} → IsExpr level h ts x → AllByRecursion (λ t. P t.at) ts → AllByRecursion P (places x)
  expr_in (g.conjunction d) s = expr_in d s
  expr_in (g.negation d) s = expr_in d s
  expr_in (g.test d) s = expr_in d s
  expr_in (g.sum d) s = expr_in d s
  expr_in (g.product d) s = expr_in d s
  expr_in (g.sign d) s = expr_in d s
  expr_in (g.primary d) s = expr_in d s
  expr_in (g.chain a b t o {left = l} {right = r} x p y) s =
      as_places _ _ (places-Binary o l r (place (a ++ t ∷ b))) (place_in (a ++ t ∷ b) (some_token (g.chain a b t o x p y)) s, join_all P (places l) (places r) (expr_in x (front_all At a (t ∷ b) s)) (expr_in y (back_all At a (t ∷ b) s).1))
  expr_in (g.not t ts {x = x} p d) s = as_places _ _ (places-Not x t.at) (s.0, expr_in d s.1)
  expr_in (g.comparing a b t o {left = l} {right = r} x p y) s =
      as_places _ _ (places-Binary o l r (place (a ++ t ∷ b))) (place_in (a ++ t ∷ b) (some_token (g.comparing a b t o x p y)) s, join_all P (places l) (places r) (expr_in x (front_all At a (t ∷ b) s)) (expr_in y (back_all At a (t ∷ b) s).1))
  expr_in (g.is_null a i n {x = x} d p q) s =
      as_places _ _ (places-IsNull x false (place (a ++ i ∷ n ∷ []))) (place_in (a ++ i ∷ n ∷ []) (some_token (g.is_null a i n d p q)) s, expr_in d (front_all At a (i ∷ n ∷ []) s))
  expr_in (g.is_not_null a i non n {x = x} d p q r) s =
      as_places _ _ (places-IsNull x true (place (a ++ i ∷ non ∷ n ∷ []))) (place_in (a ++ i ∷ non ∷ n ∷ []) (some_token (g.is_not_null a i non n d p q r)) s, expr_in d (front_all At a (i ∷ non ∷ n ∷ []) s))
  expr_in (g.minus t ts {x = x} p d) s = as_places _ _ (places-Neg x t.at) (s.0, expr_in d s.1)
  expr_in (g.number t p) s = as_places _ _ (places-Int _ t.at) (s.0, tt)
  expr_in (g.text t p) s = as_places _ _ (places-Text _ t.at) (s.0, tt)
  expr_in (g.yes_word t p) s = as_places _ _ (places-Bool true t.at) (s.0, tt)
  expr_in (g.no_word t p) s = as_places _ _ (places-Bool false t.at) (s.0, tt)
  expr_in (g.date d t p q) s = as_places _ _ (places-Date _ d.at) (s.0, tt)
  expr_in (g.name t p) s = as_places _ _ (places-Name t.bytes t.at) (s.0, tt)
  expr_in (g.property t dot p q r u) s = as_places _ _ (places-Property t.bytes p.bytes t.at) (s.0, tt)
  expr_in (g.id f o v c p i q n r) s = as_places _ _ (places-Id (record { name = v.bytes; at = v.at }) f.at) (s.0, (s.1.1.0, tt))
  expr_in (g.label f o v c p i q n r) s = as_places _ _ (places-Label (record { name = v.bytes; at = v.at }) f.at) (s.0, (s.1.1.0, tt))
  expr_in (g.parentheses o c ts p d q) s = expr_in d (front_all At ts (c ∷ []) s.1)

  first_in : (x : AstExpr) → AllByRecursion P (places x) → P (at_of x)
  first_in x all = by_which x (which x) all
    where
      by_which : (x : AstExpr) → Is x → AllByRecursion P (places x) → P (at_of x)
      by_which _ (is_Int n at) all = let Q : List ℕ → Type 0 = AllByRecursion P in let both = subst Q (places-Int n at) all in subst P (sym (at-Int n at)) both.0
      by_which _ (is_Text c at) all = let Q : List ℕ → Type 0 = AllByRecursion P in let both = subst Q (places-Text c at) all in subst P (sym (at-Text c at)) both.0
      by_which _ (is_Date c at) all = let Q : List ℕ → Type 0 = AllByRecursion P in let both = subst Q (places-Date c at) all in subst P (sym (at-Date c at)) both.0
      by_which _ (is_Bool w at) all = let Q : List ℕ → Type 0 = AllByRecursion P in let both = subst Q (places-Bool w at) all in subst P (sym (at-Bool w at)) both.0
      by_which _ (is_Name n at) all = let Q : List ℕ → Type 0 = AllByRecursion P in let both = subst Q (places-Name n at) all in subst P (sym (at-Name n at)) both.0
      by_which _ (is_Property v p at) all = let Q : List ℕ → Type 0 = AllByRecursion P in let both = subst Q (places-Property v p at) all in subst P (sym (at-Property v p at)) both.0
      by_which _ (is_Id v at) all = let Q : List ℕ → Type 0 = AllByRecursion P in let both = subst Q (places-Id v at) all in subst P (sym (at-Id v at)) both.0
      by_which _ (is_Label v at) all = let Q : List ℕ → Type 0 = AllByRecursion P in let both = subst Q (places-Label v at) all in subst P (sym (at-Label v at)) both.0
      by_which _ (is_Not x at) all = let Q : List ℕ → Type 0 = AllByRecursion P in let both = subst Q (places-Not x at) all in subst P (sym (at-Not x at)) both.0
      by_which _ (is_Neg x at) all = let Q : List ℕ → Type 0 = AllByRecursion P in let both = subst Q (places-Neg x at) all in subst P (sym (at-Neg x at)) both.0
      by_which _ (is_IsNull x w at) all = let Q : List ℕ → Type 0 = AllByRecursion P in let both = subst Q (places-IsNull x w at) all in subst P (sym (at-IsNull x w at)) both.0
      by_which _ (is_Binary o l r at) all = let Q : List ℕ → Type 0 = AllByRecursion P in let both = subst Q (places-Binary o l r at) all in subst P (sym (at-Binary o l r at)) both.0

  placed_in : (ts : List Lexeme) (p : Placed) → IsName ts p → AllByRecursion (λ t. P t.at) ts → P p.at
  placed_in ts p d s =
      let Q : List Lexeme → Type 0 = AllByRecursion (λ t. P t.at) in
      let both = subst Q d.1 s in
      subst P (ap (λ v. v.at) (sym d.3)) both.0

  as_in : {mark : Kind} {ts : List Lexeme} {p : Option Placed} → Optional IsName mark ts p → AllByRecursion (λ t. P t.at) ts → AllByRecursion P (name_places p)
  as_in absent s = tt
  as_in (present t ts {x = p} is d) s = (placed_in ts p d s.1, tt)

  perhaps_in : {ts : List Lexeme} {p : Option Placed} → Perhaps IsName ts p → AllByRecursion (λ t. P t.at) ts → AllByRecursion P (name_places p)
  perhaps_in without s = tt
  perhaps_in (with_part ts {x = p} d) s = (placed_in ts p d s, tt)

  spec_in : {ts : List Lexeme} {v : Spec} → IsSpec ts v → AllByRecursion (λ t. P t.at) ts → AllByRecursion P (name_places v.name)
  spec_in (g.spec a b d e) s = perhaps_in d (front_all At a b s)

  enclosed_in : {opens closes : Kind} {ts : List Lexeme} {v : Spec × ℕ} → IsEnclosed opens closes ts v → AllByRecursion (λ t. P t.at) ts → AllByRecursion P (v.1 ∷ name_places v.0.name)
  enclosed_in (g.enclosed o c ts is d q) s = (s.0, spec_in d (front_all At ts (c ∷ []) s.1))

  vertex_in : (ts : List Lexeme) (v : VertexPat) → IsVertex ts v → AllByRecursion (λ t. P t.at) ts → AllByRecursion P (vertex_places v)
  vertex_in _ _ (g.vertex ts v at d) s = enclosed_in d s

  edge_in : (ts : List Lexeme) (x : EdgePat) → IsEdge ts x → AllByRecursion (λ t. P t.at) ts → AllByRecursion P (edge_places x)
  edge_in _ _ (g.arrow_out m u is p) s = (s.0, tt)
  edge_in _ _ (g.arrow_in l m is p) s = (s.0, tt)
  edge_in _ _ (g.edge_out m n u ts v at is d p q) s = (s.0, (enclosed_in d (front_all At ts (n ∷ u ∷ []) s.1)).1)
  edge_in _ _ (g.edge_in l m n ts v at is p d q) s = (s.0, (enclosed_in d (front_all At ts (n ∷ []) s.1.1)).1)

  step_in : (ts : List Lexeme) (x : EdgePat × VertexPat) → IsStep ts x → AllByRecursion (λ t. P t.at) ts → AllByRecursion P (step_places x)
  step_in _ _ (g.step a b {edge = edge} {v = v} d e) s = join_all P (edge_places edge) (vertex_places v) (edge_in a edge d (front_all At a b s)) (vertex_in b v e (back_all At a b s))

  steps_in : {ts : List Lexeme} {xs : List (EdgePat × VertexPat)} → Many IsStep ts xs → AllByRecursion (λ t. P t.at) ts → AllByRecursion P (flat_map step_places xs)
  steps_in no_more s = tt
  steps_in (one_more a b {x = x} {xs = xs} d e) s = join_all P (step_places x) (flat_map step_places xs) (step_in a x d (front_all At a b s)) (steps_in e (back_all At a b s))

  path_in : (ts : List Lexeme) (p : Path) → IsPath ts p → AllByRecursion (λ t. P t.at) ts → AllByRecursion P (path_places p)
  path_in _ _ (g.path a b {v = v} {steps = steps} d e) s = join_all P (vertex_places v) (flat_map step_places steps) (vertex_in a v d (front_all At a b s)) (steps_in e (back_all At a b s))

  item_in : (m : ℕ) (ts : List Lexeme) (x : Item) → IsItem m ts x → AllByRecursion (λ t. P t.at) ts → AllByRecursion P (item_places x)
  item_in m _ _ (g.item a b {x = x} {p = p} d e) s =
      let inside = expr_in d (front_all At a b s) in (first_in x inside, join_all P (places x) (name_places p) inside (as_in e (back_all At a b s)))

  key_in : (m : ℕ) (ts : List Lexeme) (x : Key) → IsKey m ts x → AllByRecursion (λ t. P t.at) ts → AllByRecursion P (key_places x)
  key_in m _ _ (g.key a b {x = x} d e) s = let inside = expr_in d (front_all At a b s) in (first_in x inside, inside)

  list_in : {A : Type 0} (R : List Lexeme → A → Type 0) (of : A → List ℕ) → ((ts : List Lexeme) (x : A) → R ts x → AllByRecursion (λ t. P t.at) ts → AllByRecursion P (of x))
      → {mark : Kind} {ts : List Lexeme} {xs : List A} → Separated R mark ts xs → AllByRecursion (λ t. P t.at) ts → AllByRecursion P (flat_map of xs)
  list_in R of one (alone {ts = ts} {x = x} d) s = join_all P (of x) [] (one ts x d s) tt
  list_in R of one (followed a b t {x = x} {xs = xs} d is more) s = join_all P (of x) (flat_map of xs) (one a x d (front_all At a (t ∷ b) s)) (list_in R of one more (back_all At a (t ∷ b) s).1)

  condition_in : {m : ℕ} {mark : Kind} {ts : List Lexeme} {c : Option AstExpr} → Optional (IsWhole m) mark ts c → AllByRecursion (λ t. P t.at) ts → AllByRecursion P (condition_places c)
  condition_in absent s = tt
  condition_in (present t ts is d) s = expr_in d s.1

  keys_in : {m : ℕ} {ts : List Lexeme} {keys : List Key} → AreKeys m ts keys → AllByRecursion (λ t. P t.at) ts → AllByRecursion P (flat_map key_places keys)
  keys_in no_order s = tt
  keys_in {m} (ordered o b ts is by d) s = list_in (IsKey m) key_places (key_in m) d s.1.1

  pattern_in : {ts : List Lexeme} {paths : List Path} → IsPattern ts paths → AllByRecursion (λ t. P t.at) ts → AllByRecursion P (flat_map path_places paths)
  pattern_in (g.pattern m ts is d) s = list_in IsPath path_places path_in d s.1

  query_in : {m : ℕ} {ts : List Lexeme} {q : Ast} → IsQuery m ts q → AllByRecursion (λ t. P t.at) ts → AllByRecursion P (query_places q)
  query_in {m} (g.query _ b _ only items paths t (g.selection w a' b' is d e) f (g.tail x y z {condition = condition} {keys = keys} u v limit)) s =
      let a : List Lexeme = w ∷ a' ++ b' in
      let ab = front_all At (a ++ b) ((x ++ y) ++ z) s in
      let tail = back_all At (a ++ b) ((x ++ y) ++ z) s in
      let xy = front_all At (x ++ y) z tail in
      join_all P (flat_map item_places items) (flat_map path_places paths ++ (condition_places condition ++ flat_map key_places keys))
      (list_in (IsItem m) item_places (item_in m) e (back_all At a' b' (front_all At a b ab).1))
      (join_all P (flat_map path_places paths) (condition_places condition ++ flat_map key_places keys) (pattern_in f (back_all At a b ab))
      (join_all P (condition_places condition) (flat_map key_places keys) (condition_in u (front_all At x y xy)) (keys_in v (back_all At x y xy))))

seen_within : (base : ℕ) (text : List ℕ) (ts : List Token) → AllByRecursion (IsTokenOf text base) ts → AllByRecursion (λ t. IsWithin base (base + length text) t.at) (map (seen text base) ts)
seen_within base text [] all = tt
seen_within base text (t ∷ ts) all = (within_of base text t all.0, seen_within base text ts all.1)
  where
    within_of : (base : ℕ) (text : List ℕ) (t : Token) → IsTokenOf text base t → IsWithin base (base + length text) t.at
    within_of base text t d = let ordered = d.ordered in let high = d.high in (d.low, omega arith)

pub tree_within : (m base : ℕ) (text : List ℕ) (q : Ast) → IsTree m base text q → AllByRecursion (IsWithin base (base + length text)) (query_places q)
tree_within m base text q w = query_in (IsWithin base (base + length text)) w.2 (seen_within base text w.0 (all_sound base text w.0 w.1))
