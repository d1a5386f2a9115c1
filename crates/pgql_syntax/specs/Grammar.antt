-- The grammar, with a case for each production.
use Rattle.std.specs.Prelude.{◌≡◌, ℕ, suc, pos, Bool, true, false, List, [], ◌∷◌, ◌++◌, Option, Some, None}
use Rattle.pgql_lexemes.specs.declared.kind.Kind.{Kind}
use Rattle.pgql_lexemes.specs.declared.kind.Kind.TheVariants as k
use Rattle.pgql_tree.specs.declared.ast.Op.{Op}
use Rattle.pgql_tree.specs.declared.ast.Placed.{Placed}
use Rattle.pgql_tree.specs.declared.ast.AstExpr.{AstExpr, out-AstExpr}
use Rattle.pgql_tree.specs.declared.ast.AstExpr.TheOpen.{AstExpr-F}
use Rattle.pgql_tree.specs.declared.ast.AstExpr.TheVariants as e
use Rattle.pgql_tree.specs.declared.ast.Item.{Item}
use Rattle.pgql_tree.specs.declared.ast.VertexPat.{VertexPat}
use Rattle.pgql_tree.specs.declared.ast.EdgePat.{EdgePat}
use Rattle.pgql_tree.specs.declared.ast.Path.{Path}
use Rattle.pgql_tree.specs.declared.ast.Key.{Key}
use Rattle.pgql_tree.specs.declared.ast.Ast.{Ast}
use Rattle.pgql_syntax.specs.declared.pattern.Spec.{Spec}
use Rattle.pgql_syntax.specs.declared.query.Tail.{Tail}
use Rattle.pgql_tree.specs.declared.level.Level.{Level}
use Rattle.pgql_tree.specs.declared.level.Level.TheVariants.{Or, And, Not, Test, Sum, Product, Sign, Primary}
use Rattle.pgql_lexemes.specs.Operators.{operator, comparison}
use Rattle.pgql_tree.specs.Levels.{tighter}
use Rattle.pgql_lexemes.specs.Lexemes.{Lexeme, is_word, value_of, content_of, is_id, is_label, place}

-- ---- lists and optional parts

-- one item or more, with a mark between two
pub data Separated {A : Type 0} (IsItem : List Lexeme → A → Type 0) (mark : Kind) : List Lexeme → List A → Type 0 where
  alone : {ts : List Lexeme} {x : A} → IsItem ts x → Separated IsItem mark ts (x ∷ [])
  followed : (a b : List Lexeme) (t : Lexeme) {x : A} {xs : List A}
      → IsItem a x → t.kind ≡ mark → Separated IsItem mark b xs → Separated IsItem mark (a ++ t ∷ b) (x ∷ xs)

-- a part after its mark, or nothing
pub data Optional {A : Type 0} (IsPart : List Lexeme → A → Type 0) (mark : Kind) : List Lexeme → Option A → Type 0 where
  absent : Optional IsPart mark [] None
  present : (t : Lexeme) (ts : List Lexeme) {x : A} → t.kind ≡ mark → IsPart ts x → Optional IsPart mark (t ∷ ts) (Some x)

-- a part, or nothing
pub data Perhaps {A : Type 0} (IsPart : List Lexeme → A → Type 0) : List Lexeme → Option A → Type 0 where
  without : Perhaps IsPart [] None
  with_part : (ts : List Lexeme) {x : A} → IsPart ts x → Perhaps IsPart ts (Some x)

-- parts one after the other, or none
pub data Many {A : Type 0} (IsPart : List Lexeme → A → Type 0) : List Lexeme → List A → Type 0 where
  no_more : Many IsPart [] []
  one_more : (a b : List Lexeme) {x : A} {xs : List A} → IsPart a x → Many IsPart b xs → Many IsPart (a ++ b) (x ∷ xs)

abbrev pub IsName : List Lexeme → Placed → Type 0
IsName ts p = (t : Lexeme) × (ts ≡ t ∷ []) × (t.kind ≡ k.Name) × (p ≡ record { name = t.bytes; at = t.at })

-- ---- expressions

-- The tokens are an expression of this level, no higher than the number.
pub data IsExpr : Level → ℕ → List Lexeme → AstExpr → Type 0 where
  -- a level has all that binds tighter
  conjunction : {h : ℕ} {ts : List Lexeme} {x : AstExpr} → IsExpr And h ts x → IsExpr Or h ts x
  negation : {h : ℕ} {ts : List Lexeme} {x : AstExpr} → IsExpr Not h ts x → IsExpr And h ts x
  test : {h : ℕ} {ts : List Lexeme} {x : AstExpr} → IsExpr Test h ts x → IsExpr Not h ts x
  sum : {h : ℕ} {ts : List Lexeme} {x : AstExpr} → IsExpr Sum h ts x → IsExpr Test h ts x
  product : {h : ℕ} {ts : List Lexeme} {x : AstExpr} → IsExpr Product h ts x → IsExpr Sum h ts x
  sign : {h : ℕ} {ts : List Lexeme} {x : AstExpr} → IsExpr Sign h ts x → IsExpr Product h ts x
  primary : {h : ℕ} {ts : List Lexeme} {x : AstExpr} → IsExpr Primary h ts x → IsExpr Sign h ts x
  -- OR, AND, sums and products group to the left
  chain : {level : Level} {h : ℕ} (a b : List Lexeme) (t : Lexeme) (o : Op) {left right : AstExpr}
      → IsExpr level h a left → operator level t.kind ≡ Some o → IsExpr (tighter level) h b right
      → IsExpr level (suc h) (a ++ t ∷ b) (e.Binary o (place (a ++ t ∷ b)) left right)
  not : {h : ℕ} (t : Lexeme) (ts : List Lexeme) {x : AstExpr} → t.kind ≡ k.Not → IsExpr Not h ts x → IsExpr Not (suc h) (t ∷ ts) (e.Not x t.at)
  comparing : {h : ℕ} (a b : List Lexeme) (t : Lexeme) (o : Op) {left right : AstExpr}
      → IsExpr Sum h a left → comparison t.kind ≡ Some o → IsExpr Sum h b right
      → IsExpr Test (suc h) (a ++ t ∷ b) (e.Binary o (place (a ++ t ∷ b)) left right)
  is_null : {h : ℕ} (a : List Lexeme) (is null : Lexeme) {x : AstExpr}
      → IsExpr Sum h a x → is.kind ≡ k.Is → null.kind ≡ k.Null → IsExpr Test (suc h) (a ++ is ∷ null ∷ []) (e.IsNull x false (place (a ++ is ∷ null ∷ [])))
  is_not_null : {h : ℕ} (a : List Lexeme) (is non null : Lexeme) {x : AstExpr}
      → IsExpr Sum h a x → is.kind ≡ k.Is → non.kind ≡ k.Not → null.kind ≡ k.Null
      → IsExpr Test (suc h) (a ++ is ∷ non ∷ null ∷ []) (e.IsNull x true (place (a ++ is ∷ non ∷ null ∷ [])))
  minus : {h : ℕ} (t : Lexeme) (ts : List Lexeme) {x : AstExpr} → t.kind ≡ k.Minus → IsExpr Sign h ts x → IsExpr Sign (suc h) (t ∷ ts) (e.Neg x t.at)
  number : {h : ℕ} (t : Lexeme) → t.kind ≡ k.Number → IsExpr Primary h (t ∷ []) (e.Int (pos (value_of t)) t.at)
  text : {h : ℕ} (t : Lexeme) → t.kind ≡ k.Text → IsExpr Primary h (t ∷ []) (e.Text (content_of t) t.at)
  yes_word : {h : ℕ} (t : Lexeme) → t.kind ≡ k.True → IsExpr Primary h (t ∷ []) (e.Bool true t.at)
  no_word : {h : ℕ} (t : Lexeme) → t.kind ≡ k.False → IsExpr Primary h (t ∷ []) (e.Bool false t.at)
  date : {h : ℕ} (d t : Lexeme) → d.kind ≡ k.Date → t.kind ≡ k.Text → IsExpr Primary h (d ∷ t ∷ []) (e.Date (content_of t) d.at)
  name : {h : ℕ} (t : Lexeme) → t.kind ≡ k.Name → IsExpr Primary h (t ∷ []) (e.Name t.at t.bytes)
  -- a word after the dot is a name even where it is a keyword
  property : {h : ℕ} (t dot p : Lexeme) → t.kind ≡ k.Name → dot.kind ≡ k.Dot → is_word p.kind ≡ true
      → IsExpr Primary h (t ∷ dot ∷ p ∷ []) (e.Property t.at t.bytes p.bytes)
  id : {h : ℕ} (f o v c : Lexeme) → f.kind ≡ k.Name → is_id f ≡ true → o.kind ≡ k.Open → v.kind ≡ k.Name → c.kind ≡ k.Close
      → IsExpr Primary h (f ∷ o ∷ v ∷ c ∷ []) (e.Id (record { name = v.bytes; at = v.at }) f.at)
  label : {h : ℕ} (f o v c : Lexeme) → f.kind ≡ k.Name → is_label f ≡ true → o.kind ≡ k.Open → v.kind ≡ k.Name → c.kind ≡ k.Close
      → IsExpr Primary h (f ∷ o ∷ v ∷ c ∷ []) (e.Label (record { name = v.bytes; at = v.at }) f.at)
  -- parentheses leave no node
  parentheses : {h : ℕ} (o c : Lexeme) (ts : List Lexeme) {x : AstExpr}
      → o.kind ≡ k.Open → IsExpr Or h ts x → c.kind ≡ k.Close → IsExpr Primary (suc h) (o ∷ ts ++ c ∷ []) x

-- ---- patterns

-- a label is a word, even where it is a keyword
abbrev pub IsLabel : List Lexeme → List ℕ → Type 0
IsLabel ts bytes = (t : Lexeme) × (ts ≡ t ∷ []) × (is_word t.kind ≡ true) × (bytes ≡ t.bytes)

-- `:` and labels with `|` between, or nothing
pub data AreLabels : List Lexeme → List (List ℕ) → Type 0 where
  any_label : AreLabels [] []
  labelled : (colon : Lexeme) (ts : List Lexeme) {labels : List (List ℕ)} → colon.kind ≡ k.Colon → Separated IsLabel k.Bar ts labels → AreLabels (colon ∷ ts) labels

pub data IsSpec : List Lexeme → Spec → Type 0 where
  spec : (a b : List Lexeme) {p : Option Placed} {labels : List (List ℕ)} → Perhaps IsName a p → AreLabels b labels → IsSpec (a ++ b) (record { name = p; labels = labels })

-- a spec between two such tokens, and the place of the first
pub data IsEnclosed (opens closes : Kind) : List Lexeme → Spec × ℕ → Type 0 where
  enclosed : (o c : Lexeme) (ts : List Lexeme) {s : Spec} → o.kind ≡ opens → IsSpec ts s → c.kind ≡ closes → IsEnclosed opens closes (o ∷ ts ++ c ∷ []) (s, o.at)

abbrev pub vertex_of : Spec → ℕ → VertexPat
vertex_of s at = record { name = s.name; labels = s.labels; at = at }

pub data IsVertex : List Lexeme → VertexPat → Type 0 where
  vertex : (ts : List Lexeme) (s : Spec) (at : ℕ) → IsEnclosed k.Open k.Close ts (s, at) → IsVertex ts (vertex_of s at)

abbrev pub edge_of : Bool → Spec → ℕ → EdgePat
edge_of out s at = record { name = s.name; labels = s.labels; out = out; at = at }

-- an edge without name and labels
abbrev pub arrow : Bool → ℕ → EdgePat
arrow out at = record { name = None; labels = []; out = out; at = at }

pub data IsEdge : List Lexeme → EdgePat → Type 0 where
  arrow_out : (m g : Lexeme) → m.kind ≡ k.Minus → g.kind ≡ k.Greater → IsEdge (m ∷ g ∷ []) (arrow true m.at)
  arrow_in : (l m : Lexeme) → l.kind ≡ k.Less → m.kind ≡ k.Minus → IsEdge (l ∷ m ∷ []) (arrow false l.at)
  edge_out : (m n g : Lexeme) (ts : List Lexeme) (s : Spec) (at : ℕ)
      → m.kind ≡ k.Minus → IsEnclosed k.OpenBracket k.CloseBracket ts (s, at) → n.kind ≡ k.Minus → g.kind ≡ k.Greater
      → IsEdge (m ∷ ts ++ n ∷ g ∷ []) (edge_of true s m.at)
  edge_in : (l m n : Lexeme) (ts : List Lexeme) (s : Spec) (at : ℕ)
      → l.kind ≡ k.Less → m.kind ≡ k.Minus → IsEnclosed k.OpenBracket k.CloseBracket ts (s, at) → n.kind ≡ k.Minus
      → IsEdge (l ∷ m ∷ ts ++ n ∷ []) (edge_of false s l.at)

pub data IsStep : List Lexeme → EdgePat × VertexPat → Type 0 where
  step : (a b : List Lexeme) {edge : EdgePat} {v : VertexPat} → IsEdge a edge → IsVertex b v → IsStep (a ++ b) (edge, v)

pub data IsPath : List Lexeme → Path → Type 0 where
  path : (a b : List Lexeme) {v : VertexPat} {steps : List (EdgePat × VertexPat)} → IsVertex a v → Many IsStep b steps → IsPath (a ++ b) (record { first = v; steps = steps })

-- ---- queries

abbrev pub at_by : AstExpr-F AstExpr → ℕ
at_by (AstExpr-F.Int n at) = at
at_by (AstExpr-F.Text c at) = at
at_by (AstExpr-F.Date c at) = at
at_by (AstExpr-F.Bool b at) = at
at_by (AstExpr-F.Name at n) = at
at_by (AstExpr-F.Property at v p) = at
at_by (AstExpr-F.Id v at) = at
at_by (AstExpr-F.Label v at) = at
at_by (AstExpr-F.Not x at) = at
at_by (AstExpr-F.Neg x at) = at
at_by (AstExpr-F.IsNull x n at) = at
at_by (AstExpr-F.Binary o at l r) = at

-- the place of a tree, parentheses round it not counted
unfoldable pub at_of : AstExpr → ℕ
at_of x = at_by (out-AstExpr x)

abbrev pub IsWhole : ℕ → List Lexeme → AstExpr → Type 0
IsWhole h = IsExpr Or h

pub data IsItem : ℕ → List Lexeme → Item → Type 0 where
  item : {h : ℕ} (a b : List Lexeme) {x : AstExpr} {p : Option Placed} → IsWhole h a x → Optional IsName k.As b p → IsItem h (a ++ b) (record { expr = x; name = p; at = at_of x })

-- ASC, DESC or nothing; DESC turns the order round
pub data IsDirection : List Lexeme → Bool → Type 0 where
  no_word : IsDirection [] false
  up : (t : Lexeme) → t.kind ≡ k.Asc → IsDirection (t ∷ []) false
  down : (t : Lexeme) → t.kind ≡ k.Desc → IsDirection (t ∷ []) true

pub data IsKey : ℕ → List Lexeme → Key → Type 0 where
  key : {h : ℕ} (a b : List Lexeme) {x : AstExpr} {down : Bool} → IsWhole h a x → IsDirection b down → IsKey h (a ++ b) (record { expr = x; down = down; at = at_of x })

-- DISTINCT or not
pub data IsDistinct : List Lexeme → Bool → Type 0 where
  every : IsDistinct [] false
  distinct : (t : Lexeme) → t.kind ≡ k.Distinct → IsDistinct (t ∷ []) true

-- ORDER BY keys, or no keys
pub data AreKeys : ℕ → List Lexeme → List Key → Type 0 where
  no_order : {h : ℕ} → AreKeys h [] []
  ordered : {h : ℕ} (o b : Lexeme) (ts : List Lexeme) {keys : List Key} → o.kind ≡ k.Order → b.kind ≡ k.By → Separated (IsKey h) k.Comma ts keys → AreKeys h (o ∷ b ∷ ts) keys

abbrev pub IsLimit : List Lexeme → ℕ → Type 0
IsLimit ts n = (t : Lexeme) × (ts ≡ t ∷ []) × (t.kind ≡ k.Number) × (n ≡ value_of t)

-- SELECT, DISTINCT or not, and items
pub data IsSelection : ℕ → List Lexeme → Bool × List Item → Type 0 where
  selection : {h : ℕ} (s : Lexeme) (a b : List Lexeme) {only : Bool} {items : List Item}
      → s.kind ≡ k.Select → IsDistinct a only → Separated (IsItem h) k.Comma b items → IsSelection h (s ∷ a ++ b) (only, items)

-- MATCH and paths
pub data IsPattern : List Lexeme → List Path → Type 0 where
  pattern : (m : Lexeme) (ts : List Lexeme) {paths : List Path} → m.kind ≡ k.Match → Separated IsPath k.Comma ts paths → IsPattern (m ∷ ts) paths

-- the condition, the order keys and the limit
pub data IsTail : ℕ → List Lexeme → Tail → Type 0 where
  tail : {h : ℕ} (a b c : List Lexeme) {condition : Option AstExpr} {keys : List Key} {limit : Option ℕ}
      → Optional (IsWhole h) k.Where a condition → AreKeys h b keys → Optional IsLimit k.Limit c limit
      → IsTail h ((a ++ b) ++ c) (record { condition = condition; keys = keys; limit = limit })

-- The tokens are this query, and no expression in it is higher than the number.
pub data IsQuery : ℕ → List Lexeme → Ast → Type 0 where
  query : {h : ℕ} (a b c : List Lexeme) (only : Bool) (items : List Item) (paths : List Path) (t : Tail)
      → IsSelection h a (only, items) → IsPattern b paths → IsTail h c t
      → IsQuery h ((a ++ b) ++ c)
      (record { distinct = only; items = items; paths = paths; condition = t.condition; keys = t.keys; limit = t.limit })
