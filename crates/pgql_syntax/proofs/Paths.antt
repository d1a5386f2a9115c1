-- Reading patterns follows the grammar.
use Rattle.std.proofs.Common.{◌≡◌, ℕ, ◌<◌, Bool, true, false, List, [], ◌∷◌, ◌++◌, length, length-append, Option, None, Err, refl, sym, subst, append_assoc, arith}
use Rattle.pgql_lexemes.specs.declared.kind.Kind.{Kind}
use Rattle.pgql_lexemes.specs.declared.kind.Kind.TheVariants as k
use Rattle.pgql_tree.specs.declared.ast.Placed.{Placed}
use Rattle.pgql_tree.specs.declared.ast.VertexPat.{VertexPat}
use Rattle.pgql_tree.specs.declared.ast.EdgePat.{EdgePat}
use Rattle.pgql_tree.specs.declared.ast.Path.{Path}
use Rattle.pgql_syntax.specs.declared.pattern.Spec.{Spec}
use Rattle.pgql_lexemes.specs.Lexemes.{Lexeme}
use Rattle.pgql_syntax.specs.Grammar.{IsName, IsLabel, Separated, Perhaps, without, Many, no_more, AreLabels, any_label, labelled, IsSpec, IsEnclosed, vertex_of}
use Rattle.pgql_syntax.specs.Grammar.{IsVertex, edge_of, arrow, IsEdge, IsStep, IsPath}
use Rattle.pgql_syntax.specs.Grammar as g
use Rattle.pgql_expr.specs.Reading.{unexpected, Parser, ◌>>=◌, ◌>>◌, pure, refuse, take_token, expect, expect_word, same_kind, placed}
use Rattle.pgql_lexemes.specs.Lists.{choose, separated, many, perhaps, Shrinks}
use Rattle.pgql_syntax.specs.Patterns.{read_placed, read_label, read_labels, read_spec, read_enclosed, read_vertex, read_out, minus_by, after_minus, read_in, less_by}
use Rattle.pgql_syntax.specs.Patterns.{after_less, edge_by, read_edge, read_step, begins_edge, read_path}
use Rattle.pgql_syntax.proofs.Samples.{sample}
use Rattle.pgql_syntax.proofs.Follows.{CanEnd, Says, Follows, ends_with, Follows-pure, Follows-unexpected, Follows-then, Follows-by_next, Follows-expect}
use Rattle.pgql_syntax.proofs.Follows.{Follows-expect_word, said-pure, said-unexpected, said-after}
use Rattle.pgql_lexemes.proofs.SameKind.{same_is}
use Rattle.pgql_syntax.proofs.Lists.{Follows-separated}
use Rattle.pgql_syntax.proofs.Many.{Takes, Follows-many}
use Rattle.pgql_syntax.proofs.Parts.{Follows-behind, Follows-perhaps, Takes-from, Shrinks-from}

-- such a rule has no bound on height
abbrev Fits : {A : Type 0} → (List Lexeme → A → Type 0) → List Lexeme → Parser A → Type 0
Fits R before p = Follows R R before p

pub placed_follows : Fits IsName [] read_placed
unfolding read_placed
placed_follows = Follows-expect IsName IsName [] k.Name (λ t. pure (placed t)) (k.Name ∷ [], placed (sample k.Name), (sample k.Name, refl, refl, refl))
    (λ t is. Follows-pure IsName IsName (t ∷ []) (placed t) (t, refl, is, refl))

pub label_follows : Fits IsLabel [] read_label
unfolding read_label
label_follows = Follows-expect_word IsLabel IsLabel [] (λ t. pure t.bytes) (k.Name ∷ [], (sample k.Name).bytes, (sample k.Name, refl, refl, refl))
    (λ t is. Follows-pure IsLabel IsLabel (t ∷ []) t.bytes (t, refl, is, refl))

label_ends : CanEnd IsLabel []
label_ends = (k.Name ∷ [], (sample k.Name).bytes, (sample k.Name, refl, refl, refl))

abbrev LabelList : List Lexeme → List (List ℕ) → Type 0
LabelList = Separated IsLabel k.Bar

label_list_follows : Fits LabelList [] (separated read_label k.Bar)
label_list_follows = Follows-separated IsLabel IsLabel k.Bar read_label label_follows label_ends (λ a x r. r)

labels_follows : Fits AreLabels [] read_labels
unfolding read_labels
labels_follows = Follows-by_next AreLabels AreLabels [] (pure []) (λ t. choose (take_token >> separated read_label k.Bar) (pure []) (same_kind t.kind k.Colon))
    (Follows-pure AreLabels AreLabels [] [] any_label) (λ t ts. by_bool t ts (same_kind t.kind k.Colon) (same_is t.kind k.Colon))
  where
    by_bool : (t : Lexeme) (ts : List Lexeme) (b : Bool) → (b ≡ true → t.kind ≡ k.Colon) → Says AreLabels AreLabels [] (t ∷ ts) (choose (take_token >> separated read_label k.Bar) (pure []) b (t ∷ ts))
    by_bool t ts true is = said-after AreLabels AreLabels [] t ts (separated read_label k.Bar ts)
        ((Follows-behind (Separated IsLabel k.Bar) (Separated IsLabel k.Bar) AreLabels AreLabels (t ∷ []) (λ a v d. labelled t a (is refl) d) (λ a v d. labelled t a (is refl) d) (separated read_label k.Bar) label_list_follows).says ts)
    by_bool t ts false is = said-pure AreLabels AreLabels [] (t ∷ ts) [] any_label

abbrev spec_of : Option Placed → List (List ℕ) → Spec
spec_of name labels = record { name = name; labels = labels }

spec_follows : Fits IsSpec [] read_spec
unfolding read_spec
spec_follows = Follows-then (Perhaps IsName) (Perhaps IsName) IsSpec IsSpec [] (perhaps read_placed k.Name) (λ name. read_labels >>= λ labels. pure (spec_of name labels))
    (Follows-perhaps IsName IsName read_placed k.Name placed_follows)
    ((λ a p d. ([], spec_of p [], g.spec a [] d any_label)), (λ a p d. ([], spec_of p [], g.spec a [] d any_label)))
    (λ a p d. Follows-then AreLabels AreLabels IsSpec IsSpec a read_labels (λ labels. pure (spec_of p labels)) labels_follows
    ((λ b l r. ends_with IsSpec IsSpec (a ++ b) (spec_of p l) (g.spec a b d r)), (λ b l r. ends_with IsSpec IsSpec (a ++ b) (spec_of p l) (g.spec a b d r)))
    (λ b l r. Follows-pure IsSpec IsSpec (a ++ b) (spec_of p l) (g.spec a b d r)))

empty_spec : IsSpec [] (spec_of None [])
empty_spec = g.spec [] [] without any_label

enclosed_follows : (opens closes : Kind) → Fits (IsEnclosed opens closes) [] (read_enclosed opens closes)
unfolding read_enclosed
enclosed_follows opens closes =
    Follows-expect (IsEnclosed opens closes) (IsEnclosed opens closes) [] opens (λ o. read_spec >>= λ s. expect closes >> pure (s, o.at))
    (opens ∷ closes ∷ [], (spec_of None [], 0), g.enclosed (sample opens) (sample closes) [] refl empty_spec refl)
    (λ o is. Follows-then IsSpec IsSpec (IsEnclosed opens closes) (IsEnclosed opens closes) (o ∷ []) read_spec (λ s. expect closes >> pure (s, o.at)) spec_follows
    ((λ a s d. (closes ∷ [], (s, o.at), g.enclosed o (sample closes) a is d refl)), (λ a s d. (closes ∷ [], (s, o.at), g.enclosed o (sample closes) a is d refl)))
    (λ a s d. Follows-expect (IsEnclosed opens closes) (IsEnclosed opens closes) (o ∷ a) closes (λ _. pure (s, o.at)) (closes ∷ [], (s, o.at), g.enclosed o (sample closes) a is d refl)
    (λ c q. Follows-pure (IsEnclosed opens closes) (IsEnclosed opens closes) (o ∷ a ++ c ∷ []) (s, o.at) (g.enclosed o c a is d q))))

vertex_follows : Fits IsVertex [] read_vertex
unfolding read_vertex
vertex_follows = Follows-then (IsEnclosed k.Open k.Close) (IsEnclosed k.Open k.Close) IsVertex IsVertex [] (read_enclosed k.Open k.Close) (λ s. pure (vertex_of s.0 s.1)) (enclosed_follows k.Open k.Close)
    ((λ a s d. ends_with IsVertex IsVertex a (vertex_of s.0 s.1) (g.vertex a s.0 s.1 d)), (λ a s d. ends_with IsVertex IsVertex a (vertex_of s.0 s.1) (g.vertex a s.0 s.1 d)))
    (λ a s d. Follows-pure IsVertex IsVertex a (vertex_of s.0 s.1) (g.vertex a s.0 s.1 d))

abbrev InBrackets : List Lexeme → Spec × ℕ → Type 0
InBrackets = IsEnclosed k.OpenBracket k.CloseBracket

regrouped : (a : List Lexeme) (n u : Lexeme) → (a ++ n ∷ []) ++ u ∷ [] ≡ a ++ n ∷ u ∷ []
regrouped a n u = append_assoc a (n ∷ []) (u ∷ [])

out_follows : (m : Lexeme) → m.kind ≡ k.Minus → Fits IsEdge (m ∷ []) (read_out m.at)
unfolding read_out
out_follows m is = Follows-then InBrackets InBrackets IsEdge IsEdge (m ∷ []) (read_enclosed k.OpenBracket k.CloseBracket) (λ s. expect k.Minus >> (expect k.Greater >> pure (edge_of true s.0 m.at))) (enclosed_follows k.OpenBracket k.CloseBracket)
    ((λ a s d. can_end a s d), (λ a s d. can_end a s d))
    (λ a s d. Follows-expect IsEdge IsEdge (m ∷ a) k.Minus (λ _. expect k.Greater >> pure (edge_of true s.0 m.at)) (can_end a s d)
    (λ n q. Follows-expect IsEdge IsEdge (m ∷ a ++ n ∷ []) k.Greater (λ _. pure (edge_of true s.0 m.at)) (k.Greater ∷ [], edge_of true s.0 m.at, whole a s d n (sample k.Greater) q refl)
    (λ u r. Follows-pure IsEdge IsEdge ((m ∷ a ++ n ∷ []) ++ u ∷ []) (edge_of true s.0 m.at) (whole a s d n u q r))))
  where
    can_end : (a : List Lexeme) (s : Spec × ℕ) → IsEnclosed k.OpenBracket k.CloseBracket a s → CanEnd IsEdge (m ∷ a)
    can_end a s d = (k.Minus ∷ k.Greater ∷ [], edge_of true s.0 m.at, g.edge_out m (sample k.Minus) (sample k.Greater) a s.0 s.1 is d refl refl)

    whole : (a : List Lexeme) (s : Spec × ℕ) → IsEnclosed k.OpenBracket k.CloseBracket a s → (n u : Lexeme) → n.kind ≡ k.Minus → u.kind ≡ k.Greater → IsEdge ((m ∷ a ++ n ∷ []) ++ u ∷ []) (edge_of true s.0 m.at)
    whole a s d n u q r =
        let P : List Lexeme → Type 0 = λ v. IsEdge (m ∷ v) (edge_of true s.0 m.at) in
        subst P (sym (append_assoc a (n ∷ []) (u ∷ []))) (g.edge_out m n u a s.0 s.1 is d q r)

after_minus_follows : (m : Lexeme) → m.kind ≡ k.Minus → Fits IsEdge (m ∷ []) (after_minus m.at)
after_minus_follows m is = Follows-by_next IsEdge IsEdge (m ∷ []) (refuse unexpected) (λ t. minus_by t.kind m.at)
    (Follows-unexpected IsEdge IsEdge (m ∷ []) can_end) (λ t ts. by_kind t ts t.kind refl)
  where
    can_end : CanEnd IsEdge (m ∷ [])
    can_end = (k.Greater ∷ [], arrow true m.at, g.arrow_out m (sample k.Greater) is refl)

    by_kind : (t : Lexeme) (ts : List Lexeme) (kind : Kind) → t.kind ≡ kind → Says IsEdge IsEdge (m ∷ []) (t ∷ ts) (minus_by kind m.at (t ∷ ts))
    by_kind t ts k.Greater q = said-after IsEdge IsEdge (m ∷ []) t ts (pure (arrow true m.at) ts) (said-pure IsEdge IsEdge (m ∷ t ∷ []) ts (arrow true m.at) (g.arrow_out m t is q))
    by_kind t ts k.OpenBracket q = (out_follows m is).says (t ∷ ts)
    by_kind t ts kind q = said-unexpected IsEdge IsEdge (m ∷ []) (t ∷ ts) can_end

in_follows : (l m : Lexeme) → l.kind ≡ k.Less → m.kind ≡ k.Minus → Fits IsEdge (l ∷ m ∷ []) (read_in l.at)
unfolding read_in
in_follows l m is p = Follows-then InBrackets InBrackets IsEdge IsEdge (l ∷ m ∷ []) (read_enclosed k.OpenBracket k.CloseBracket) (λ s. expect k.Minus >> pure (edge_of false s.0 l.at)) (enclosed_follows k.OpenBracket k.CloseBracket)
    ((λ a s d. can_end a s d), (λ a s d. can_end a s d))
    (λ a s d. Follows-expect IsEdge IsEdge (l ∷ m ∷ a) k.Minus (λ _. pure (edge_of false s.0 l.at)) (can_end a s d)
    (λ n q. Follows-pure IsEdge IsEdge (l ∷ m ∷ a ++ n ∷ []) (edge_of false s.0 l.at) (g.edge_in l m n a s.0 s.1 is p d q)))
  where
    can_end : (a : List Lexeme) (s : Spec × ℕ) → IsEnclosed k.OpenBracket k.CloseBracket a s → CanEnd IsEdge (l ∷ m ∷ a)
    can_end a s d = (k.Minus ∷ [], edge_of false s.0 l.at, g.edge_in l m (sample k.Minus) a s.0 s.1 is p d refl)

after_less_follows : (l m : Lexeme) → l.kind ≡ k.Less → m.kind ≡ k.Minus → Fits IsEdge (l ∷ m ∷ []) (after_less l.at)
after_less_follows l m is p = Follows-by_next IsEdge IsEdge (l ∷ m ∷ []) (pure (arrow false l.at)) (λ t. less_by t.kind l.at)
    (Follows-pure IsEdge IsEdge (l ∷ m ∷ []) (arrow false l.at) (g.arrow_in l m is p)) (λ t ts. by_kind t ts t.kind)
  where
    by_kind : (t : Lexeme) (ts : List Lexeme) (kind : Kind) → Says IsEdge IsEdge (l ∷ m ∷ []) (t ∷ ts) (less_by kind l.at (t ∷ ts))
    by_kind t ts k.OpenBracket = (in_follows l m is p).says (t ∷ ts)
    by_kind t ts kind = said-pure IsEdge IsEdge (l ∷ m ∷ []) (t ∷ ts) (arrow false l.at) (g.arrow_in l m is p)

edge_ends : CanEnd IsEdge []
edge_ends = (k.Minus ∷ k.Greater ∷ [], arrow true 0, g.arrow_out (sample k.Minus) (sample k.Greater) refl refl)

edge_follows : Fits IsEdge [] read_edge
unfolding read_edge
edge_follows = Follows-by_next IsEdge IsEdge [] (refuse unexpected) (λ t. edge_by t.kind t.at) (Follows-unexpected IsEdge IsEdge [] edge_ends) (λ t ts. by_kind t ts t.kind refl)
  where
    by_kind : (t : Lexeme) (ts : List Lexeme) (kind : Kind) → t.kind ≡ kind → Says IsEdge IsEdge [] (t ∷ ts) (edge_by kind t.at (t ∷ ts))
    by_kind t ts k.Minus is = said-after IsEdge IsEdge [] t ts (after_minus t.at ts) ((after_minus_follows t is).says ts)
    by_kind t ts k.Less is = said-after IsEdge IsEdge [] t ts ((expect k.Minus >> after_less t.at) ts)
        ((Follows-expect IsEdge IsEdge (t ∷ []) k.Minus (λ _. after_less t.at) (k.Minus ∷ [], arrow false t.at, g.arrow_in t (sample k.Minus) is refl) (λ m p. after_less_follows t m is p)).says ts)
    by_kind t ts kind is = said-unexpected IsEdge IsEdge [] (t ∷ ts) edge_ends

empty_vertex : IsVertex (sample k.Open ∷ sample k.Close ∷ []) (vertex_of (spec_of None []) 0)
empty_vertex = g.vertex (sample k.Open ∷ sample k.Close ∷ []) (spec_of None []) 0 (g.enclosed (sample k.Open) (sample k.Close) [] refl empty_spec refl)

pub step_follows : Fits IsStep [] read_step
unfolding read_step
step_follows = Follows-then IsEdge IsEdge IsStep IsStep [] read_edge (λ edge. read_vertex >>= λ v. pure (edge, v)) edge_follows
    ((λ a x d. can_end a x d), (λ a x d. can_end a x d))
    (λ a x d. Follows-then IsVertex IsVertex IsStep IsStep a read_vertex (λ v. pure (x, v)) vertex_follows
    ((λ b v e. ends_with IsStep IsStep (a ++ b) (x, v) (g.step a b d e)), (λ b v e. ends_with IsStep IsStep (a ++ b) (x, v) (g.step a b d e)))
    (λ b v e. Follows-pure IsStep IsStep (a ++ b) (x, v) (g.step a b d e)))
  where
    can_end : (a : List Lexeme) (x : EdgePat) → IsEdge a x → CanEnd IsStep a
    can_end a x d = (k.Open ∷ k.Close ∷ [], (x, vertex_of (spec_of None []) 0), g.step a (sample k.Open ∷ sample k.Close ∷ []) d empty_vertex)

abbrev pub path_of : VertexPat → List (EdgePat × VertexPat) → Path
path_of v steps = record { first = v; steps = steps }

pub empty_path : IsPath (sample k.Open ∷ sample k.Close ∷ []) (path_of (vertex_of (spec_of None []) 0) [])
empty_path = g.path (sample k.Open ∷ sample k.Close ∷ []) [] empty_vertex no_more

pub path_follows : Fits IsPath [] read_path
unfolding read_path
path_follows = Follows-then IsVertex IsVertex IsPath IsPath [] read_vertex (λ v. many read_step begins_edge >>= λ steps. pure (path_of v steps)) vertex_follows
    ((λ a v d. ([], path_of v [], g.path a [] d no_more)), (λ a v d. ([], path_of v [], g.path a [] d no_more)))
    (λ a v d. Follows-then (Many IsStep) (Many IsStep) IsPath IsPath a (many read_step begins_edge) (λ steps. pure (path_of v steps)) (Follows-many IsStep IsStep read_step begins_edge step_follows (λ a x r. r))
    ((λ b s e. ends_with IsPath IsPath (a ++ b) (path_of v s) (g.path a b d e)), (λ b s e. ends_with IsPath IsPath (a ++ b) (path_of v s) (g.path a b d e)))
    (λ b s e. Follows-pure IsPath IsPath (a ++ b) (path_of v s) (g.path a b d e)))

-- ---- what has tokens

enclosed_some : {opens closes : Kind} {ts : List Lexeme} {s : Spec × ℕ} → IsEnclosed opens closes ts s → 0 < length ts
enclosed_some (g.enclosed o c ts p d q) = omega arith

vertex_some : (ts : List Lexeme) (v : VertexPat) → IsVertex ts v → 0 < length ts
vertex_some _ _ (g.vertex ts s at d) = enclosed_some d

step_some : (ts : List Lexeme) (x : EdgePat × VertexPat) → IsStep ts x → 0 < length ts
step_some _ _ (g.step a b {v = v} d e) = let lt = vertex_some b v e in omega (arith, length-append a b)

pub path_some : (ts : List Lexeme) (p : Path) → IsPath ts p → 0 < length ts
path_some _ _ (g.path a b {v = v} d e) = let lt = vertex_some a v d in omega (arith, length-append a b)

pub step_takes : Takes read_step
step_takes = Takes-from IsStep IsStep read_step step_follows step_some

label_at_end : read_label [] ≡ Err (unexpected, [])
unfolding read_label expect_word
label_at_end = refl

pub label_shrinks : Shrinks read_label
label_shrinks = Shrinks-from IsLabel IsLabel read_label label_follows label_at_end

path_at_end : read_path [] ≡ Err (unexpected, [])
unfolding read_path read_vertex read_enclosed expect
path_at_end = refl

pub path_shrinks : Shrinks read_path
path_shrinks = Shrinks-from IsPath IsPath read_path path_follows path_at_end
