-- What is a pattern of the grammar is read, up to the first token that does not go on with it.
use Rattle.std.proofs.Common.{◌≡◌, ℕ, ◌<◌, true, false, List, [], ◌∷◌, ◌++◌, length, Option, Ok, refl, sym, ap, ◌∙◌, subst, append_assoc, arith}
use Rattle.pgql_lexemes.specs.declared.kind.Kind.{Kind}
use Rattle.pgql_lexemes.specs.declared.kind.Kind.TheVariants as k
use Rattle.pgql_tree.specs.declared.ast.Placed.{Placed}
use Rattle.pgql_tree.specs.declared.ast.VertexPat.{VertexPat}
use Rattle.pgql_tree.specs.declared.ast.EdgePat.{EdgePat}
use Rattle.pgql_tree.specs.declared.ast.Path.{Path}
use Rattle.pgql_syntax.specs.declared.pattern.Spec.{Spec}
use Rattle.pgql_lexemes.specs.Lexemes.{Lexeme}
use Rattle.pgql_syntax.specs.Grammar.{IsName, IsLabel, AreLabels, any_label, labelled, IsSpec, IsEnclosed, vertex_of, IsVertex, edge_of, arrow, IsEdge, arrow_out}
use Rattle.pgql_syntax.specs.Grammar.{arrow_in, edge_out, edge_in, IsStep, IsPath}
use Rattle.pgql_syntax.specs.Grammar as g
use Rattle.pgql_expr.specs.Reading.{and_then, ◌>>=◌, ◌>>◌, pure, take_token, expect, expect_by, expect_word, same_kind, placed}
use Rattle.pgql_lexemes.specs.Lists.{choose, separated, many}
use Rattle.pgql_syntax.specs.Patterns.{read_placed, read_label, read_labels, read_spec, read_enclosed, read_vertex, read_out, minus_by, after_minus, read_in, less_by}
use Rattle.pgql_syntax.specs.Patterns.{after_less, edge_by, read_edge, read_step, begins_edge, read_path}
use Rattle.pgql_syntax.proofs.Complete.{expect_goes}
use Rattle.pgql_lexemes.proofs.SameKind.{same_itself}
use Rattle.pgql_syntax.proofs.Lists.{IsNot, separated_reads}
use Rattle.pgql_syntax.proofs.Many.{NoneBegins, Starts, many_reads}
use Rattle.pgql_syntax.proofs.Parts.{perhaps_reads}

colon_is_no_name : same_kind k.Colon k.Name ≡ false
unfolding same_kind
colon_is_no_name = refl

parenthesis_is_no_bracket : same_kind k.Open k.OpenBracket ≡ false
unfolding same_kind
parenthesis_is_no_bracket = refl

bracket_is_bracket : same_kind k.OpenBracket k.OpenBracket ≡ false → ⊥
unfolding same_kind
bracket_is_bracket e = cc

-- a token of this kind ends a spec
pub record Closes (closes : Kind) : Type 0 where
  pub no_name : same_kind closes k.Name ≡ false
  pub no_colon : same_kind closes k.Colon ≡ false
  pub no_bar : same_kind closes k.Bar ≡ false

parenthesis : Closes k.Close
unfolding same_kind
parenthesis = record { no_name = refl; no_colon = refl; no_bar = refl }

bracket : Closes k.CloseBracket
unfolding same_kind
bracket = record { no_name = refl; no_colon = refl; no_bar = refl }

abbrev pub anything : List Lexeme → Type 0
anything ts = Unit {0}

pub placed_reads : (a : List Lexeme) (p : Placed) → IsName a p → (rest : List Lexeme) → read_placed (a ++ rest) ≡ Ok (p, rest)
unfolding read_placed
placed_reads a p d rest =
    ap (λ v. read_placed (v ++ rest)) d.1 ∙ expect_goes k.Name d.0 rest (λ t. pure (placed t)) d.2 ∙ ap (λ v. Ok (v, rest)) (sym d.3)

label_reads : (a : List Lexeme) (l : List ℕ) → IsLabel a l → (rest : List Lexeme) → anything rest → read_label (a ++ rest) ≡ Ok (l, rest)
unfolding read_label expect_word
label_reads a l d rest s =
    ap (λ v. read_label (v ++ rest)) d.1 ∙ ap (λ b. and_then (expect_by b (d.0 ∷ rest)) (λ t. pure t.bytes)) d.2 ∙ ap (λ v. Ok (v, rest)) (sym d.3)

label_some : (a : List Lexeme) (l : List ℕ) → IsLabel a l → 0 < length a
label_some a l d = let P : List Lexeme → Type 0 = λ v. 0 < length v in subst P (sym d.1) (omega arith)

labels_read : {ts : List Lexeme} {labels : List (List ℕ)} → AreLabels ts labels → (rest : List Lexeme) → IsNot k.Colon rest → IsNot k.Bar rest → read_labels (ts ++ rest) ≡ Ok (labels, rest)
unfolding read_labels
labels_read any_label [] c b = refl
labels_read any_label (t ∷ rest) c b = rw c refl
labels_read (labelled colon ts is d) rest c b =
    ap (λ v. choose (take_token >> separated read_label k.Bar) (pure []) v (colon ∷ ts ++ rest)) (ap (λ v. same_kind v k.Colon) is ∙ same_itself k.Colon)
    ∙ separated_reads IsLabel k.Bar read_label anything label_reads (λ t us q. tt) label_some d rest tt b

-- what stands after a spec
abbrev EndsSpec : List Lexeme → Type 0
EndsSpec rest = IsNot k.Name rest × IsNot k.Colon rest × IsNot k.Bar rest

abbrev spec_of : Option Placed → List (List ℕ) → Spec
spec_of name labels = record { name = name; labels = labels }

name_starts : (a : List Lexeme) (p : Placed) → IsName a p → (t : Lexeme) × (us : List Lexeme) × (a ≡ t ∷ us) × (t.kind ≡ k.Name)
name_starts a p d = (d.0, [], d.1, d.2)

not_named : {ts : List Lexeme} {labels : List (List ℕ)} → AreLabels ts labels → (rest : List Lexeme) → IsNot k.Name rest → IsNot k.Name (ts ++ rest)
not_named any_label rest s = s
not_named (labelled colon ts is d) rest s = ap (λ v. same_kind v k.Name) is ∙ colon_is_no_name

spec_reads : {ts : List Lexeme} {s : Spec} → IsSpec ts s → (rest : List Lexeme) → EndsSpec rest → read_spec (ts ++ rest) ≡ Ok (s, rest)
unfolding read_spec
spec_reads (g.spec a b {p = p} {labels = labels} d e) rest s =
    ap read_spec (append_assoc a b rest)
    ∙ ap (λ o. and_then o (λ name. read_labels >>= λ labels. pure (spec_of name labels))) (perhaps_reads IsName read_placed k.Name placed_reads name_starts d (b ++ rest) (not_named e rest s.0))
    ∙ ap (λ o. and_then o (λ labels. pure (spec_of p labels))) (labels_read e rest s.1 s.2)

enclosed_reads : {opens closes : Kind} {ts : List Lexeme} {s : Spec × ℕ} → Closes closes → IsEnclosed opens closes ts s → (rest : List Lexeme) → read_enclosed opens closes (ts ++ rest) ≡ Ok (s, rest)
unfolding read_enclosed
enclosed_reads {opens} {closes} ends (g.enclosed o c ts {s = s} is d q) rest =
    ap (λ v. read_enclosed opens closes (o ∷ v)) (append_assoc ts (c ∷ []) rest)
    ∙ expect_goes opens o (ts ++ c ∷ rest) (λ o. read_spec >>= λ s. expect closes >> pure (s, o.at)) is
    ∙ ap (λ v. and_then v (λ s. expect closes >> pure (s, o.at)))
    (spec_reads d (c ∷ rest) (ap (λ v. same_kind v k.Name) q ∙ ends.no_name, ap (λ v. same_kind v k.Colon) q ∙ ends.no_colon, ap (λ v. same_kind v k.Bar) q ∙ ends.no_bar))
    ∙ expect_goes closes c rest (λ _. pure (s, o.at)) q

vertex_reads : (a : List Lexeme) (v : VertexPat) → IsVertex a v → (rest : List Lexeme) → read_vertex (a ++ rest) ≡ Ok (v, rest)
unfolding read_vertex
vertex_reads _ _ (g.vertex ts s at d) rest = ap (λ o. and_then o (λ s. pure (vertex_of s.0 s.1))) (enclosed_reads parenthesis d rest)

minus_is : (m : Lexeme) (ts : List Lexeme) → m.kind ≡ k.Minus → read_edge (m ∷ ts) ≡ after_minus m.at ts
unfolding read_edge
minus_is m ts is = ap (λ v. edge_by v m.at (m ∷ ts)) is

less_is : (l m : Lexeme) (ts : List Lexeme) → l.kind ≡ k.Less → m.kind ≡ k.Minus → read_edge (l ∷ m ∷ ts) ≡ after_less l.at ts
unfolding read_edge
less_is l m ts is p = ap (λ v. edge_by v l.at (l ∷ m ∷ ts)) is ∙ expect_goes k.Minus m ts (λ _. after_less l.at) p

out_goes : (o : Lexeme) (at : ℕ) (ts : List Lexeme) → o.kind ≡ k.OpenBracket → after_minus at (o ∷ ts) ≡ read_out at (o ∷ ts)
out_goes o at ts is = ap (λ v. minus_by v at (o ∷ ts)) is

in_goes : (o : Lexeme) (at : ℕ) (ts : List Lexeme) → o.kind ≡ k.OpenBracket → after_less at (o ∷ ts) ≡ read_in at (o ∷ ts)
in_goes o at ts is = ap (λ v. less_by v at (o ∷ ts)) is

out_reads : (n u : Lexeme) (at : ℕ) {ts : List Lexeme} {s : Spec × ℕ} → IsEnclosed k.OpenBracket k.CloseBracket ts s → n.kind ≡ k.Minus → u.kind ≡ k.Greater → (rest : List Lexeme)
    → after_minus at (ts ++ n ∷ u ∷ rest) ≡ Ok (edge_of true s.0 at, rest)
unfolding read_out
out_reads n u at (g.enclosed o c ts {s = s} is d q) p r rest =
    out_goes o at ((ts ++ c ∷ []) ++ n ∷ u ∷ rest) is
    ∙ ap (λ v. and_then v (λ s. expect k.Minus >> (expect k.Greater >> pure (edge_of true s.0 at)))) (enclosed_reads bracket (g.enclosed o c ts is d q) (n ∷ u ∷ rest))
    ∙ expect_goes k.Minus n (u ∷ rest) (λ _. expect k.Greater >> pure (edge_of true s at)) p
    ∙ expect_goes k.Greater u rest (λ _. pure (edge_of true s at)) r

in_reads : (n : Lexeme) (at : ℕ) {ts : List Lexeme} {s : Spec × ℕ} → IsEnclosed k.OpenBracket k.CloseBracket ts s → n.kind ≡ k.Minus → (rest : List Lexeme)
    → after_less at (ts ++ n ∷ rest) ≡ Ok (edge_of false s.0 at, rest)
unfolding read_in
in_reads n at (g.enclosed o c ts {s = s} is d q) p rest =
    in_goes o at ((ts ++ c ∷ []) ++ n ∷ rest) is
    ∙ ap (λ v. and_then v (λ s. expect k.Minus >> pure (edge_of false s.0 at))) (enclosed_reads bracket (g.enclosed o c ts is d q) (n ∷ rest))
    ∙ expect_goes k.Minus n rest (λ _. pure (edge_of false s at)) p

less_ends : (kind : Kind) (at : ℕ) (ts : List Lexeme) → same_kind kind k.OpenBracket ≡ false → less_by kind at ts ≡ Ok (arrow false at, ts)
less_ends k.OpenBracket at ts s = absurd (bracket_is_bracket s)
less_ends kind at ts s = refl

arrow_in_ends : (at : ℕ) (rest : List Lexeme) → IsNot k.OpenBracket rest → after_less at rest ≡ Ok (arrow false at, rest)
arrow_in_ends at [] s = refl
arrow_in_ends at (t ∷ rest) s = less_ends t.kind at (t ∷ rest) s

edge_reads : (a : List Lexeme) (x : EdgePat) → IsEdge a x → (rest : List Lexeme) → IsNot k.OpenBracket rest → read_edge (a ++ rest) ≡ Ok (x, rest)
edge_reads _ _ (arrow_out m u is p) rest s = minus_is m (u ∷ rest) is ∙ ap (λ v. minus_by v m.at (u ∷ rest)) p
edge_reads _ _ (arrow_in l m is p) rest s = less_is l m rest is p ∙ arrow_in_ends l.at rest s
edge_reads _ _ (edge_out m n u ts e at is d p q) rest s =
    ap (λ v. read_edge (m ∷ v)) (append_assoc ts (n ∷ u ∷ []) rest) ∙ minus_is m (ts ++ n ∷ u ∷ rest) is ∙ out_reads n u m.at d p q rest
edge_reads _ _ (edge_in l m n ts e at is p d q) rest s =
    ap (λ v. read_edge (l ∷ m ∷ v)) (append_assoc ts (n ∷ []) rest) ∙ less_is l m (ts ++ n ∷ rest) is p ∙ in_reads n l.at d q rest

vertex_opens : {b : List Lexeme} {v : VertexPat} → IsVertex b v → (rest : List Lexeme) → IsNot k.OpenBracket (b ++ rest)
vertex_opens (g.vertex _ s at (g.enclosed o c ts is d q)) rest = ap (λ v. same_kind v k.OpenBracket) is ∙ parenthesis_is_no_bracket

step_reads : (a : List Lexeme) (x : EdgePat × VertexPat) → IsStep a x → (rest : List Lexeme) → read_step (a ++ rest) ≡ Ok (x, rest)
unfolding read_step
step_reads _ _ (g.step a b {edge = edge} {v = v} d e) rest =
    ap read_step (append_assoc a b rest)
    ∙ ap (λ o. and_then o (λ edge. read_vertex >>= λ v. pure (edge, v))) (edge_reads a edge d (b ++ rest) (vertex_opens e rest))
    ∙ ap (λ o. and_then o (λ v. pure (edge, v))) (vertex_reads b v e rest)

starts_front : (a b : List Lexeme) → Starts begins_edge a → Starts begins_edge (a ++ b)
starts_front [] b s = absurd s
starts_front (t ∷ a) b s = s

edge_starts : {a : List Lexeme} {x : EdgePat} → IsEdge a x → Starts begins_edge a
edge_starts (arrow_out m u is p) = ap begins_edge is
edge_starts (arrow_in l m is p) = ap begins_edge is
edge_starts (edge_out m n u ts e at is d p q) = ap begins_edge is
edge_starts (edge_in l m n ts e at is p d q) = ap begins_edge is

step_starts : (a : List Lexeme) (x : EdgePat × VertexPat) → IsStep a x → Starts begins_edge a
step_starts _ _ (g.step a b d e) = starts_front a b (edge_starts d)

pub path_reads : (a : List Lexeme) (p : Path) → IsPath a p → (rest : List Lexeme) → NoneBegins begins_edge rest → read_path (a ++ rest) ≡ Ok (p, rest)
unfolding read_path
path_reads _ _ (g.path a b {v = v} {steps = steps} d e) rest s =
    ap read_path (append_assoc a b rest)
    ∙ ap (λ o. and_then o (λ v. many read_step begins_edge >>= λ steps. pure (record { first = v; steps = steps }))) (vertex_reads a v d (b ++ rest))
    ∙ ap (λ o. and_then o (λ steps. pure (record { first = v; steps = steps }))) (many_reads IsStep read_step begins_edge step_reads step_starts e rest s)
