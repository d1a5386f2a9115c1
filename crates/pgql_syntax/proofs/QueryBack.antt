-- What is written of a query that was read is read back as the same query, no higher than it was.
use Rattle.std.proofs.Common.{◌≡◌, ℕ, ◌<◌, ◌^◌, Bool, true, false, List, [], ◌∷◌, ◌++◌, map, Option, Some, None, refl, sym, ap, ◌∙◌, subst, codes, append_assoc}
use Rattle.std.proofs.lemmas.List.{append-nil}
use Rattle.std.specs.Prelude.{flat_map}
use Rattle.std.specs.Fmt.{decimal}
use Rattle.std.specs.List.{AllByRecursion}
use Rattle.std.specs.Option.{option_map}
use Rattle.pgql_lexer.specs.Fronts.{value_after}
use Rattle.pgql_tree.specs.declared.ast.Placed.{Placed}
use Rattle.pgql_tree.specs.declared.ast.AstExpr.{AstExpr}
use Rattle.pgql_tree.specs.declared.ast.Item.{Item}
use Rattle.pgql_tree.specs.declared.ast.VertexPat.{VertexPat}
use Rattle.pgql_tree.specs.declared.ast.EdgePat.{EdgePat}
use Rattle.pgql_tree.specs.declared.ast.Path.{Path}
use Rattle.pgql_tree.specs.declared.ast.Key.{Key}
use Rattle.pgql_tree.specs.declared.ast.Ast.{Ast}
use Rattle.pgql_tree.specs.declared.level.Level.TheVariants.{Or}
use Rattle.pgql_tree.specs.Same.{bare_name, bare, bare_item, bare_vertex, bare_edge, bare_pair, bare_path, bare_key, bare_query}
use Rattle.pgql_print.specs.Printing.{spelled, between, name_or_none, labels_or_none, spec_text, vertex_text, opens, closes, arrow_text, edge_text, step_text, path_text}
use Rattle.pgql_print.specs.Printing.{as_name, item_text, direction, key_text, select_word, condition_text, keys_text, limit_text, query_text}
use Rattle.pgql_lexemes.specs.declared.kind.Kind.{Kind}
use Rattle.pgql_lexemes.specs.declared.kind.Kind.TheVariants as k
use Rattle.pgql_syntax.specs.declared.pattern.Spec.{Spec}
use Rattle.pgql_syntax.specs.declared.query.Tail.{Tail}
use Rattle.pgql_lexemes.specs.Lexemes.{Lexeme, is_word, value_of}
use Rattle.pgql_lexemes.specs.Seen.{word_kind, seen}
use Rattle.pgql_syntax.specs.Grammar.{Separated, alone, followed, Optional, absent, present, Perhaps, without, with_part, Many, no_more, one_more, IsName, IsLabel}
use Rattle.pgql_syntax.specs.Grammar.{AreLabels, any_label, labelled, IsSpec, spec, IsEnclosed, enclosed, vertex_of, IsVertex, vertex, edge_of, arrow, IsEdge, arrow_out}
use Rattle.pgql_syntax.specs.Grammar.{arrow_in, edge_out, edge_in, IsStep, step, IsPath, path, at_of, IsWhole, IsItem, item, IsDirection, no_word, down, IsKey, key}
use Rattle.pgql_syntax.specs.Grammar.{every, distinct, AreKeys, no_order, ordered, IsLimit, IsSelection, selection, IsPattern, pattern, IsTail, tail, IsQuery, query}
use Rattle.pgql_syntax.specs.RoundTrip.{IsReadBack}
use Rattle.pgql_syntax.proofs.Spots.{front_all, back_all}
use Rattle.pgql_syntax.proofs.Lexing.{Mark, mark_of, parts_first, any_text, IsLexed, no_text, one_space, before_any, lexed_before, lexed_parted, still_parts, whole_lexed}
use Rattle.pgql_syntax.proofs.Standing.{decimal_value, decimal_lexed, open_lexed, close_lexed, open_bracket_lexed, close_bracket_lexed, comma_lexed, colon_lexed}
use Rattle.pgql_syntax.proofs.Standing.{bar_lexed, minus_lexed, greater_lexed, less_lexed}
use Rattle.pgql_syntax.proofs.Source.{IsSource, all_source}
use Rattle.pgql_syntax.proofs.ReadBack.{ReadsBack, back_as, split, first_mark, no_mark, one_mark, as_tokens, one_back, spaced, space_after, keyword, source_word, source_name, expr_back}

-- ---- lists and optional parts

-- a part of a bigger part, which adds no tokens
part_of : {A B C D : Type 0} {P : List Lexeme → A → Type 0} {Q : List Lexeme → C → Type 0} {bared : A → B} {bared' : C → D} {x : A} {text : List ℕ} (f : A → C)
    → ((ts : List Lexeme) (y : A) → P ts y → Q ts (f y)) → ((y : A) → bared x ≡ bared y → bared' (f x) ≡ bared' (f y)) → ReadsBack P bared x text → ReadsBack Q bared' (f x) text
part_of f is same b = record { marks = b.marks; lexed = b.lexed; reads = λ us m. let y = b.reads us m in (f y.0, is us y.0 y.1, same y.0 y.2) }

-- no tokens
nothing_back : {A B : Type 0} (IsPart : List Lexeme → A → Type 0) (bared : A → B) (x y : A) → IsPart [] y → bared x ≡ bared y → ReadsBack IsPart bared x []
nothing_back IsPart bared x y is same = record {
  marks = [];
  lexed = before_any no_text;
  reads = λ us m. as_tokens IsPart bared x us [] (no_mark us m) (y, is, same);
}

-- what a mark introduces
marked_back : {A B C D : Type 0} {P : List Lexeme → A → Type 0} (Q : List Lexeme → C → Type 0) {bared : A → B} (bared' : C → D) {x : A} {text : List ℕ} (kind : Kind) (bytes mark_text : List ℕ) (f : A → C)
    → IsLexed any_text mark_text ((kind, bytes) ∷ []) → ((t : Lexeme) (ts : List Lexeme) (y : A) → t.kind ≡ kind → P ts y → Q (t ∷ ts) (f y)) → ((y : A) → bared x ≡ bared y → bared' (f x) ≡ bared' (f y))
    → ReadsBack P bared x text → ReadsBack Q bared' (f x) (mark_text ++ text)
marked_back Q bared' {x = x} kind bytes mark_text f lexed is same b = record {
  marks = (kind, bytes) ∷ b.marks;
  lexed = lexed_before lexed b.lexed;
  reads = λ us m.
      let t = first_mark us kind bytes b.marks m in
      let y = b.reads t.1 t.5 in
      as_tokens Q bared' (f x) us (t.0 ∷ t.1) t.2 (f y.0, is t.0 t.1 y.0 t.3 y.1, same y.0 y.2);
}

-- one part after the other
both_back : {A B C D E F : Type 0} {P : List Lexeme → A → Type 0} {Q : List Lexeme → B → Type 0} (R : List Lexeme → C → Type 0) {p : A → D} {q : B → E} (r : C → F) {x : A} {y : B} {v w : List ℕ} (f : A → B → C)
    → parts_first w ≡ true → ((a b : List Lexeme) (x' : A) (y' : B) → P a x' → Q b y' → R (a ++ b) (f x' y')) → ((x' : A) (y' : B) → p x ≡ p x' → q y ≡ q y' → r (f x y) ≡ r (f x' y'))
    → ReadsBack P p x v → ReadsBack Q q y w → ReadsBack R r (f x y) (v ++ w)
both_back R r {x = x} {y = y} f parted is same a b = record {
  marks = a.marks ++ b.marks;
  lexed = lexed_parted a.lexed parted b.lexed;
  reads = λ us m.
      let s = split us a.marks b.marks m in
      let x' = a.reads s.0 s.3 in
      let y' = b.reads s.1 s.4 in
      as_tokens R r (f x y) us (s.0 ++ s.1) s.2 (f x'.0 y'.0, is s.0 s.1 x'.0 y'.0 x'.1 y'.1, same x'.0 y'.0 x'.2 y'.2);
}

module _ {A B : Type 0} (IsPart : List Lexeme → A → Type 0) (bared : A → B) (write : A → List ℕ) (part_back : (ts : List Lexeme) (x : A) → IsPart ts x → AllByRecursion IsSource ts → ReadsBack IsPart bared x (write x)) where
  -- more items, each after a mark
  more_text : (mark : Kind) (mark_text : List ℕ) {ts : List Lexeme} {xs : List A} → Separated IsPart mark ts xs → flat_map (λ y. mark_text ++ write y) xs ≡ mark_text ++ between mark_text write xs
  more_text mark mark_text (alone {x = x} d) = append_assoc mark_text (write x) []
  more_text mark mark_text (followed a b t {x = x} {xs = xs} d is more) = append_assoc mark_text (write x) (flat_map (λ y. mark_text ++ write y) xs)

  separated_back : (mark : Kind) (bytes mark_text : List ℕ) → IsLexed any_text mark_text ((mark, bytes) ∷ []) → ((rest : List ℕ) → parts_first (mark_text ++ rest) ≡ true)
      → {ts : List Lexeme} {xs : List A} → Separated IsPart mark ts xs → AllByRecursion IsSource ts → ReadsBack (Separated IsPart mark) (map bared) xs (between mark_text write xs)
  separated_back mark bytes mark_text lexed parted (alone {ts = ts} {x = x} d) all =
      back_as (sym (append-nil (write x))) (part_of (λ y. y ∷ []) (λ us y p. alone p) (λ y same. ap (λ z. z ∷ []) same) (part_back ts x d all))
  separated_back mark bytes mark_text lexed parted (followed a b t {x = x} {xs = xs} d is more) all =
      let one = part_back a x d (front_all IsSource a (t ∷ b) all) in
      let rest = separated_back mark bytes mark_text lexed parted more (back_all IsSource a (t ∷ b) all).1 in
      back_as (ap (λ z. write x ++ z) (sym (more_text mark mark_text more)))
      (record {
        marks = one.marks ++ (mark, bytes) ∷ rest.marks;
        lexed = lexed_parted one.lexed (parted (between mark_text write xs)) (lexed_before lexed rest.lexed);
        reads = λ us m.
            let s = split us one.marks ((mark, bytes) ∷ rest.marks) m in
            let u = first_mark s.1 mark bytes rest.marks s.4 in
            let y = one.reads s.0 s.3 in
            let ys = rest.reads u.1 u.5 in
            as_tokens (Separated IsPart mark) (map bared) (x ∷ xs) us (s.0 ++ u.0 ∷ u.1) (s.2 ∙ ap (λ q. s.0 ++ q) u.2)
            (y.0 ∷ ys.0, followed s.0 u.1 u.0 y.1 u.3 ys.1, ap (λ z. z ∷ map bared xs) y.2 ∙ ap (λ z. bared y.0 ∷ z) ys.2);
      })

  abbrev option_text : List ℕ → Option A → List ℕ
  option_text mark_text None = []
  option_text mark_text (Some x) = mark_text ++ write x

  optional_back : (mark : Kind) (bytes mark_text : List ℕ) → IsLexed any_text mark_text ((mark, bytes) ∷ [])
      → {ts : List Lexeme} {o : Option A} → Optional IsPart mark ts o → AllByRecursion IsSource ts → ReadsBack (Optional IsPart mark) (option_map bared) o (option_text mark_text o)
  optional_back mark bytes mark_text lexed absent all = nothing_back (Optional IsPart mark) (option_map bared) None None absent refl
  optional_back mark bytes mark_text lexed (present t ts {x = x} is d) all =
      marked_back (Optional IsPart mark) (option_map bared) mark bytes mark_text (λ y. Some y) lexed (λ u us y kind p. present u us kind p) (λ y same. ap (λ z. Some z) same) (part_back ts x d all.1)

-- ---- patterns

name_back : (ts : List Lexeme) (p : Placed) → IsName ts p → AllByRecursion IsSource ts → ReadsBack IsName bare_name p p.name
name_back ts p is all =
    let P : List Lexeme → Type 0 = AllByRecursion IsSource in
    let source = subst P is.1 all in
    let Q : Placed → Type 0 = λ v. ReadsBack IsName bare_name v v.name in
    let t = is.0 in
    subst Q (sym is.3)
    (one_back IsName bare_name (record { name = t.bytes; at = t.at }) t.bytes k.Name (source_name t source.0 is.2)
    (λ u kind bytes. (record { name = u.bytes; at = u.at }, (u, refl, kind, refl), ap (λ z. bare_name (record { name = z; at = 0 })) (sym bytes))))

perhaps_back : (ts : List Lexeme) (o : Option Placed) → Perhaps IsName ts o → AllByRecursion IsSource ts → ReadsBack (Perhaps IsName) (option_map bare_name) o (name_or_none o)
perhaps_back _ _ without all = nothing_back (Perhaps IsName) (option_map bare_name) None None without refl
perhaps_back _ _ (with_part ts {x = p} is) all = part_of (λ q. Some q) (λ us q d. with_part us d) (λ q same. ap (λ z. Some z) same) (name_back ts p is all)

abbrev itself : {A : Type 0} → A → A
itself x = x

label_back : (ts : List Lexeme) (label : List ℕ) → IsLabel ts label → AllByRecursion IsSource ts → ReadsBack IsLabel itself label label
label_back ts label is all =
    let P : List Lexeme → Type 0 = AllByRecursion IsSource in
    let source = subst P is.1 all in
    let Q : List ℕ → Type 0 = λ v. ReadsBack IsLabel itself v v in
    let t = is.0 in
    subst Q (sym is.3)
    (one_back IsLabel itself t.bytes t.bytes t.kind (source_word t source.0 is.2) (λ u kind bytes. (u.bytes, (u, refl, ap is_word kind ∙ is.2, refl), sym bytes)))

map_itself : {A : Type 0} (xs : List A) → map itself xs ≡ xs
map_itself [] = refl
map_itself (x ∷ xs) = ap (λ z. x ∷ z) (map_itself xs)

labels_text : {ts : List Lexeme} {labels : List (List ℕ)} → Separated IsLabel k.Bar ts labels → codes ":" ++ between (codes "|") itself labels ≡ labels_or_none labels
labels_text (alone d) = refl
labels_text (followed a b t d is more) = refl

labels_back : (ts : List Lexeme) (labels : List (List ℕ)) → AreLabels ts labels → AllByRecursion IsSource ts → ReadsBack AreLabels itself labels (labels_or_none labels)
labels_back _ _ any_label all = nothing_back AreLabels itself [] [] any_label refl
labels_back _ _ (labelled colon ts {labels = labels} is d) all =
    back_as (labels_text d)
    (marked_back AreLabels itself k.Colon (codes ":") (codes ":") itself colon_lexed (λ u us ls kind p. labelled u us kind p) (λ ls same. sym (map_itself labels) ∙ same ∙ map_itself ls)
    (separated_back IsLabel itself itself label_back k.Bar (codes "|") (codes "|") bar_lexed (λ rest. refl) d all.1))

labels_part : (labels : List (List ℕ)) → parts_first (labels_or_none labels) ≡ true
labels_part [] = refl
labels_part (label ∷ labels) = refl

-- the name and the labels, without places
abbrev bare_spec : Spec → Option Placed × List (List ℕ)
bare_spec s = (option_map bare_name s.name, s.labels)

abbrev spec_of : Option Placed → List (List ℕ) → Spec
spec_of name labels = record { name = name; labels = labels }

spec_back : (ts : List Lexeme) (s : Spec) → IsSpec ts s → AllByRecursion IsSource ts → ReadsBack IsSpec bare_spec s (spec_text s.name s.labels)
spec_back _ _ (spec a b {p = p} {labels = labels} name are) all =
    both_back IsSpec bare_spec spec_of (labels_part labels) (λ a' b' x y n l. spec a' b' n l) (λ x y same_name same_labels. ap (λ z. (z, labels)) same_name ∙ ap (λ z. (option_map bare_name x, z)) same_labels)
    (perhaps_back a p name (front_all IsSource a b all)) (labels_back b labels are (back_all IsSource a b all))

-- a spec between two marks
spec_between : (us : List Lexeme) (opening closing : Kind) (open_bytes close_bytes : List ℕ) (more : List Mark) (s : Spec) (text : List ℕ) (b : ReadsBack IsSpec bare_spec s text)
    → map mark_of us ≡ (opening, open_bytes) ∷ b.marks ++ (closing, close_bytes) ∷ more
    → (ts : List Lexeme) × (rest : List Lexeme) × (y : Spec) × (at : ℕ) × (us ≡ ts ++ rest) × IsEnclosed opening closing ts (y, at) × (map mark_of rest ≡ more) × (bare_spec s ≡ bare_spec y)
spec_between us opening closing open_bytes close_bytes more s text b m =
    let o = first_mark us opening open_bytes (b.marks ++ (closing, close_bytes) ∷ more) m in
    let p = split o.1 b.marks ((closing, close_bytes) ∷ more) o.5 in
    let c = first_mark p.1 closing close_bytes more p.4 in
    let y = b.reads p.0 p.3 in
    let same : us ≡ (o.0 ∷ p.0 ++ c.0 ∷ []) ++ c.1 = o.2 ∙ ap (λ q. o.0 ∷ q) (p.2 ∙ ap (λ q. p.0 ++ q) c.2 ∙ sym (append_assoc p.0 (c.0 ∷ []) c.1)) in
    (o.0 ∷ p.0 ++ c.0 ∷ [], c.1, y.0, o.0.at, same, enclosed o.0 c.0 p.0 o.3 y.1 c.3, c.5, y.2)

-- a vertex pattern without places
abbrev vertex_as : Option Placed × List (List ℕ) → VertexPat
vertex_as p = record { name = p.0; labels = p.1; at = 0 }

vertex_back : (ts : List Lexeme) (v : VertexPat) → IsVertex ts v → AllByRecursion IsSource ts → ReadsBack IsVertex bare_vertex v (vertex_text v)
unfolding vertex_text
vertex_back _ _ (vertex _ s at (enclosed o c ts is d ends)) all =
    let b = spec_back ts s d (front_all IsSource ts (c ∷ []) all.1) in
    record {
      marks = (k.Open, codes "(") ∷ b.marks ++ (k.Close, codes ")") ∷ [];
      lexed = lexed_before open_lexed (lexed_parted b.lexed refl (before_any close_lexed));
      reads = λ us m.
          let y = spec_between us k.Open k.Close (codes "(") (codes ")") [] s (spec_text s.name s.labels) b m in
          as_tokens IsVertex bare_vertex (vertex_of s at) us y.0 (y.4 ∙ ap (λ q. y.0 ++ q) (no_mark y.1 y.6) ∙ append-nil y.0)
          (vertex_of y.2 y.3, vertex y.0 y.2 y.3 y.5, ap (λ q. vertex_as q) y.7);
    }

abbrev edge_as : Bool → Option Placed × List (List ℕ) → EdgePat
edge_as out p = record { name = p.0; labels = p.1; out = out; at = 0 }

arrow_back : (out : Bool) (at : ℕ) → ReadsBack IsEdge bare_edge (arrow out at) (arrow_text out)
arrow_back true at = record {
  marks = (k.Minus, codes "-") ∷ (k.Greater, codes ">") ∷ [];
  lexed = lexed_before minus_lexed greater_lexed;
  reads = λ us m.
      let t = first_mark us k.Minus (codes "-") ((k.Greater, codes ">") ∷ []) m in
      let u = one_mark t.1 k.Greater (codes ">") t.5 in
      as_tokens IsEdge bare_edge (arrow true at) us (t.0 ∷ u.0 ∷ []) (t.2 ∙ ap (λ q. t.0 ∷ q) u.1) (arrow true t.0.at, arrow_out t.0 u.0 t.3 u.2, refl);
}
arrow_back false at = record {
  marks = (k.Less, codes "<") ∷ (k.Minus, codes "-") ∷ [];
  lexed = lexed_parted less_lexed refl (before_any minus_lexed);
  reads = λ us m.
      let t = first_mark us k.Less (codes "<") ((k.Minus, codes "-") ∷ []) m in
      let u = one_mark t.1 k.Minus (codes "-") t.5 in
      as_tokens IsEdge bare_edge (arrow false at) us (t.0 ∷ u.0 ∷ []) (t.2 ∙ ap (λ q. t.0 ∷ q) u.1) (arrow false t.0.at, arrow_in t.0 u.0 t.3 u.2, refl);
}

edge_out_back : (s : Spec) (at : ℕ) → ReadsBack IsSpec bare_spec s (spec_text s.name s.labels) → ReadsBack IsEdge bare_edge (edge_of true s at) (opens true ++ (spec_text s.name s.labels ++ closes true))
edge_out_back s at b =
    let back : List Mark = (k.Minus, codes "-") ∷ (k.Greater, codes ">") ∷ [] in
    record {
      marks = (k.Minus, codes "-") ∷ (k.OpenBracket, codes "[") ∷ b.marks ++ (k.CloseBracket, codes "]") ∷ back;
      lexed = lexed_before minus_lexed (lexed_before open_bracket_lexed (lexed_parted b.lexed refl (lexed_before close_bracket_lexed (lexed_before minus_lexed greater_lexed))));
      reads = λ us m.
          let t = first_mark us k.Minus (codes "-") ((k.OpenBracket, codes "[") ∷ b.marks ++ (k.CloseBracket, codes "]") ∷ back) m in
          let y = spec_between t.1 k.OpenBracket k.CloseBracket (codes "[") (codes "]") back s (spec_text s.name s.labels) b t.5 in
          let n = first_mark y.1 k.Minus (codes "-") ((k.Greater, codes ">") ∷ []) y.6 in
          let u = one_mark n.1 k.Greater (codes ">") n.5 in
          as_tokens IsEdge bare_edge (edge_of true s at) us (t.0 ∷ y.0 ++ n.0 ∷ u.0 ∷ []) (t.2 ∙ ap (λ q. t.0 ∷ q) (y.4 ∙ ap (λ q. y.0 ++ q) (n.2 ∙ ap (λ q. n.0 ∷ q) u.1)))
          (edge_of true y.2 t.0.at, edge_out t.0 n.0 u.0 y.0 y.2 y.3 t.3 y.5 n.3 u.2, ap (edge_as true) y.7);
    }

edge_in_back : (s : Spec) (at : ℕ) → ReadsBack IsSpec bare_spec s (spec_text s.name s.labels) → ReadsBack IsEdge bare_edge (edge_of false s at) (opens false ++ (spec_text s.name s.labels ++ closes false))
edge_in_back s at b =
    let back : List Mark = (k.Minus, codes "-") ∷ [] in
    record {
      marks = (k.Less, codes "<") ∷ (k.Minus, codes "-") ∷ (k.OpenBracket, codes "[") ∷ b.marks ++ (k.CloseBracket, codes "]") ∷ back;
      lexed = lexed_parted less_lexed refl (lexed_before minus_lexed (lexed_before open_bracket_lexed (lexed_parted b.lexed refl (lexed_before close_bracket_lexed (before_any minus_lexed)))));
      reads = λ us m.
          let l = first_mark us k.Less (codes "<") ((k.Minus, codes "-") ∷ (k.OpenBracket, codes "[") ∷ b.marks ++ (k.CloseBracket, codes "]") ∷ back) m in
          let t = first_mark l.1 k.Minus (codes "-") ((k.OpenBracket, codes "[") ∷ b.marks ++ (k.CloseBracket, codes "]") ∷ back) l.5 in
          let y = spec_between t.1 k.OpenBracket k.CloseBracket (codes "[") (codes "]") back s (spec_text s.name s.labels) b t.5 in
          let n = one_mark y.1 k.Minus (codes "-") y.6 in
          as_tokens IsEdge bare_edge (edge_of false s at) us (l.0 ∷ t.0 ∷ y.0 ++ n.0 ∷ []) (l.2 ∙ ap (λ q. l.0 ∷ q) (t.2 ∙ ap (λ q. t.0 ∷ q) (y.4 ∙ ap (λ q. y.0 ++ q) n.1)))
          (edge_of false y.2 l.0.at, edge_in l.0 t.0 n.0 y.0 y.2 y.3 l.3 t.3 y.5 n.2, ap (edge_as false) y.7);
    }

-- an edge in brackets, which is written as an arrow if nothing stands in them
bracketed_back : (out : Bool) (name : Option Placed) (labels : List (List ℕ)) (at : ℕ) → ReadsBack IsSpec bare_spec (spec_of name labels) (spec_text name labels)
    → ReadsBack IsEdge bare_edge (edge_of out (spec_of name labels) at) (edge_text (edge_of out (spec_of name labels) at))
unfolding edge_text
bracketed_back out None [] at b = arrow_back out at
bracketed_back true None (label ∷ labels) at b = edge_out_back (spec_of None (label ∷ labels)) at b
bracketed_back false None (label ∷ labels) at b = edge_in_back (spec_of None (label ∷ labels)) at b
bracketed_back true (Some name) labels at b = edge_out_back (spec_of (Some name) labels) at b
bracketed_back false (Some name) labels at b = edge_in_back (spec_of (Some name) labels) at b

edge_back : (ts : List Lexeme) (edge : EdgePat) → IsEdge ts edge → AllByRecursion IsSource ts → ReadsBack IsEdge bare_edge edge (edge_text edge)
unfolding edge_text
edge_back _ _ (arrow_out m g is gt) all = arrow_back true m.at
edge_back _ _ (arrow_in l m is mi) all = arrow_back false l.at
edge_back _ _ (edge_out m n g _ s at is (enclosed o c ts x d y) mi gt) all =
    bracketed_back true s.name s.labels m.at (spec_back ts s d (front_all IsSource ts (c ∷ []) (front_all IsSource (o ∷ ts ++ c ∷ []) (n ∷ g ∷ []) all.1).1))
edge_back _ _ (edge_in l m n _ s at is mi (enclosed o c ts x d y) mn) all =
    bracketed_back false s.name s.labels l.at (spec_back ts s d (front_all IsSource ts (c ∷ []) (front_all IsSource (o ∷ ts ++ c ∷ []) (n ∷ []) all.1.1).1))

vertex_parts : (v : VertexPat) → parts_first (vertex_text v) ≡ true
unfolding vertex_text
vertex_parts v = refl

bracketed_parts : (out : Bool) (name : Option Placed) (labels : List (List ℕ)) (at : ℕ) (rest : List ℕ) → parts_first (edge_text (edge_of out (spec_of name labels) at) ++ rest) ≡ true
unfolding edge_text
bracketed_parts true None [] at rest = refl
bracketed_parts false None [] at rest = refl
bracketed_parts true None (label ∷ labels) at rest = refl
bracketed_parts false None (label ∷ labels) at rest = refl
bracketed_parts true (Some name) labels at rest = refl
bracketed_parts false (Some name) labels at rest = refl

steps_part : (steps : List (EdgePat × VertexPat)) → parts_first (flat_map step_text steps) ≡ true
steps_part [] = refl
steps_part (s ∷ steps) =
    let edge = s.0 in
    ap parts_first (append_assoc (edge_text edge) (vertex_text s.1) (flat_map step_text steps)) ∙ bracketed_parts edge.out edge.name edge.labels edge.at (vertex_text s.1 ++ flat_map step_text steps)

abbrev pair_of : EdgePat → VertexPat → EdgePat × VertexPat
pair_of edge v = (edge, v)

step_back : (ts : List Lexeme) (s : EdgePat × VertexPat) → IsStep ts s → AllByRecursion IsSource ts → ReadsBack IsStep bare_pair s (step_text s)
step_back _ _ (step a b {edge = edge} {v = v} is_edge is_vertex) all =
    both_back IsStep bare_pair pair_of (vertex_parts v) (λ a' b' x y p q. step a' b' p q) (λ x y same_edge same_vertex. ap (λ z. (z, bare_vertex v)) same_edge ∙ ap (λ z. (bare_edge x, z)) same_vertex)
    (edge_back a edge is_edge (front_all IsSource a b all)) (vertex_back b v is_vertex (back_all IsSource a b all))

steps_back : {ts : List Lexeme} {steps : List (EdgePat × VertexPat)} → Many IsStep ts steps → AllByRecursion IsSource ts → ReadsBack (Many IsStep) (map bare_pair) steps (flat_map step_text steps)
steps_back no_more all = nothing_back (Many IsStep) (map bare_pair) [] [] no_more refl
steps_back (one_more a b {x = x} {xs = xs} d more) all =
    both_back (Many IsStep) (map bare_pair) (λ y ys. y ∷ ys) (steps_part xs) (λ a' b' y ys p q. one_more a' b' p q) (λ y ys same_step same_steps. ap (λ z. z ∷ map bare_pair xs) same_step ∙ ap (λ z. bare_pair y ∷ z) same_steps)
    (step_back a x d (front_all IsSource a b all)) (steps_back more (back_all IsSource a b all))

abbrev path_of : VertexPat → List (EdgePat × VertexPat) → Path
path_of v steps = record { first = v; steps = steps }

path_back : (ts : List Lexeme) (p : Path) → IsPath ts p → AllByRecursion IsSource ts → ReadsBack IsPath bare_path p (path_text p)
unfolding path_text
path_back _ _ (path a b {v = v} {steps = steps} is_first are_steps) all =
    both_back IsPath bare_path path_of (steps_part steps) (λ a' b' x y p q. path a' b' p q) (λ x y same_first same_steps. ap (λ z. path_of z (map bare_pair steps)) same_first ∙ ap (λ z. path_of (bare_vertex x) z) same_steps)
    (vertex_back a v is_first (front_all IsSource a b all)) (steps_back are_steps (back_all IsSource a b all))

-- ---- items and keys

whole_back : (h : ℕ) (ts : List Lexeme) (x : AstExpr) → IsWhole h ts x → AllByRecursion IsSource ts → ReadsBack (IsWhole h) bare x (spelled x Or)
whole_back h ts x d all = expr_back d all

as_lexed : IsLexed any_text (codes " AS ") ((k.As, codes "AS") ∷ [])
unfolding word_kind
as_lexed = spaced (keyword (codes "AS") k.As refl (record { begins = refl; whole = refl }))

as_back : (ts : List Lexeme) (o : Option Placed) → Optional IsName k.As ts o → AllByRecursion IsSource ts → ReadsBack (Optional IsName k.As) (option_map bare_name) o (as_name o)
as_back ts o d all = back_as (same_text o) (optional_back IsName bare_name (λ p. p.name) name_back k.As (codes "AS") (codes " AS ") as_lexed d all)
  where
    same_text : (o : Option Placed) → option_text IsName bare_name (λ p. p.name) name_back (codes " AS ") o ≡ as_name o
    same_text None = refl
    same_text (Some p) = refl

as_parts : (o : Option Placed) → parts_first (as_name o) ≡ true
as_parts None = refl
as_parts (Some p) = refl

abbrev item_of : AstExpr → Option Placed → Item
item_of x name = record { expr = x; name = name; at = at_of x }

abbrev item_as : AstExpr → Option Placed → Item
item_as x name = record { expr = x; name = name; at = 0 }

item_back : (h : ℕ) (ts : List Lexeme) (i : Item) → IsItem h ts i → AllByRecursion IsSource ts → ReadsBack (IsItem h) bare_item i (item_text i)
unfolding item_text
item_back h _ _ (item a b {x = x} {p = p} d e) all =
    both_back (IsItem h) bare_item item_of (as_parts p) (λ a' b' y o q r. item a' b' q r) (λ y o same_expr same_name. ap (λ z. item_as z (option_map bare_name p)) same_expr ∙ ap (λ z. item_as (bare y) z) same_name)
    (whole_back h a x d (front_all IsSource a b all)) (as_back b p e (back_all IsSource a b all))

direction_back : (d : Bool) → ReadsBack IsDirection itself d (direction d)
unfolding word_kind
direction_back false = nothing_back IsDirection itself false false no_word refl
direction_back true = record {
  marks = (k.Desc, codes "DESC") ∷ [];
  lexed = lexed_before one_space (keyword (codes "DESC") k.Desc refl (record { begins = refl; whole = refl }));
  reads = λ us m. let t = one_mark us k.Desc (codes "DESC") m in as_tokens IsDirection itself true us (t.0 ∷ []) t.1 (true, down t.0 t.2, refl);
}

direction_parts : (d : Bool) → parts_first (direction d) ≡ true
direction_parts true = refl
direction_parts false = refl

abbrev key_of : AstExpr → Bool → Key
key_of x d = record { expr = x; down = d; at = at_of x }

abbrev key_as : AstExpr → Bool → Key
key_as x d = record { expr = x; down = d; at = 0 }

key_back : (h : ℕ) (ts : List Lexeme) (i : Key) → IsKey h ts i → AllByRecursion IsSource ts → ReadsBack (IsKey h) bare_key i (key_text i)
unfolding key_text
key_back h _ _ (key a b {x = x} {down = way} d e) all =
    both_back (IsKey h) bare_key key_of (direction_parts way) (λ a' b' y w q r. key a' b' q r) (λ y w same_expr same_way. ap (λ z. key_as z way) same_expr ∙ ap (λ z. key_as (bare y) z) same_way)
    (whole_back h a x d (front_all IsSource a b all)) (direction_back way)

-- ---- queries

comma_space : IsLexed any_text (codes ", ") ((k.Comma, codes ",") ∷ [])
comma_space = lexed_before comma_lexed one_space

abbrev bare_selection : Bool × List Item → Bool × List Item
bare_selection s = (s.0, map bare_item s.1)

select_lexed : IsLexed any_text (codes "SELECT ") ((k.Select, codes "SELECT") ∷ [])
unfolding word_kind
select_lexed = space_after (keyword (codes "SELECT") k.Select refl (record { begins = refl; whole = refl }))

distinct_lexed : IsLexed any_text (codes "DISTINCT ") ((k.Distinct, codes "DISTINCT") ∷ [])
unfolding word_kind
distinct_lexed = space_after (keyword (codes "DISTINCT") k.Distinct refl (record { begins = refl; whole = refl }))

select_back : (h : ℕ) (only : Bool) (items : List Item) → ReadsBack (Separated (IsItem h) k.Comma) (map bare_item) items (between (codes ", ") item_text items)
    → ReadsBack (IsSelection h) bare_selection (only, items) (select_word only ++ between (codes ", ") item_text items)
select_back h false items b =
    marked_back (IsSelection h) bare_selection k.Select (codes "SELECT") (codes "SELECT ") (λ found. (false, found)) select_lexed (λ t us found kind p. selection t [] us kind every p) (λ found same. ap (λ z. (false, z)) same) b
select_back h true items b = record {
  marks = (k.Select, codes "SELECT") ∷ (k.Distinct, codes "DISTINCT") ∷ b.marks;
  lexed = lexed_before select_lexed (lexed_before distinct_lexed b.lexed);
  reads = λ us m.
      let s = first_mark us k.Select (codes "SELECT") ((k.Distinct, codes "DISTINCT") ∷ b.marks) m in
      let d = first_mark s.1 k.Distinct (codes "DISTINCT") b.marks s.5 in
      let y = b.reads d.1 d.5 in
      as_tokens (IsSelection h) bare_selection (true, items) us (s.0 ∷ (d.0 ∷ []) ++ d.1) (s.2 ∙ ap (λ q. s.0 ∷ q) d.2)
      ((true, y.0), selection s.0 (d.0 ∷ []) d.1 s.3 (distinct d.0 d.3) y.1, ap (λ z. (true, z)) y.2);
}

selection_back : (h : ℕ) (ts : List Lexeme) (only : Bool) (items : List Item) → IsSelection h ts (only, items) → AllByRecursion IsSource ts
    → ReadsBack (IsSelection h) bare_selection (only, items) (select_word only ++ between (codes ", ") item_text items)
selection_back h _ _ _ (selection s a b {only = only} {items = items} is d e) all =
    select_back h only items (separated_back (IsItem h) bare_item item_text (item_back h) k.Comma (codes ",") (codes ", ") comma_space (λ rest. refl) e (back_all IsSource a b all.1))

pattern_back : (ts : List Lexeme) (paths : List Path) → IsPattern ts paths → AllByRecursion IsSource ts → ReadsBack IsPattern (map bare_path) paths (codes " MATCH " ++ between (codes ", ") path_text paths)
unfolding word_kind
pattern_back _ _ (pattern m ts {paths = paths} is d) all =
    marked_back IsPattern (map bare_path) k.Match (codes "MATCH") (codes " MATCH ") itself (spaced (keyword (codes "MATCH") k.Match refl (record { begins = refl; whole = refl }))) (λ t us found kind p. pattern t us kind p) (λ found same. same)
    (separated_back IsPath bare_path path_text path_back k.Comma (codes ",") (codes ", ") comma_space (λ rest. refl) d all.1)

where_lexed : IsLexed any_text (codes " WHERE ") ((k.Where, codes "WHERE") ∷ [])
unfolding word_kind
where_lexed = spaced (keyword (codes "WHERE") k.Where refl (record { begins = refl; whole = refl }))

condition_back : (h : ℕ) (ts : List Lexeme) (o : Option AstExpr) → Optional (IsWhole h) k.Where ts o → AllByRecursion IsSource ts → ReadsBack (Optional (IsWhole h) k.Where) (option_map bare) o (condition_text o)
condition_back h ts o d all = back_as (same_text o) (optional_back (IsWhole h) bare (λ x. spelled x Or) (whole_back h) k.Where (codes "WHERE") (codes " WHERE ") where_lexed d all)
  where
    same_text : (o : Option AstExpr) → option_text (IsWhole h) bare (λ x. spelled x Or) (whole_back h) (codes " WHERE ") o ≡ condition_text o
    same_text None = refl
    same_text (Some x) = refl

keys_of : {h : ℕ} {ts : List Lexeme} {keys : List Key} → Separated (IsKey h) k.Comma ts keys → codes " ORDER BY " ++ between (codes ", ") key_text keys ≡ keys_text keys
keys_of (alone d) = refl
keys_of (followed a b t d is more) = refl

order_lexed : IsLexed any_text (codes " ORDER ") ((k.Order, codes "ORDER") ∷ [])
unfolding word_kind
order_lexed = spaced (keyword (codes "ORDER") k.Order refl (record { begins = refl; whole = refl }))

by_lexed : IsLexed any_text (codes "BY ") ((k.By, codes "BY") ∷ [])
unfolding word_kind
by_lexed = space_after (keyword (codes "BY") k.By refl (record { begins = refl; whole = refl }))

keys_back : (h : ℕ) (ts : List Lexeme) (keys : List Key) → AreKeys h ts keys → AllByRecursion IsSource ts → ReadsBack (AreKeys h) (map bare_key) keys (keys_text keys)
keys_back h _ _ no_order all = nothing_back (AreKeys h) (map bare_key) [] [] no_order refl
keys_back h _ _ (ordered o w ts {keys = keys} is by d) all =
    let b = separated_back (IsKey h) bare_key key_text (key_back h) k.Comma (codes ",") (codes ", ") comma_space (λ rest. refl) d all.1.1 in
    back_as (keys_of d)
    (record {
      marks = (k.Order, codes "ORDER") ∷ (k.By, codes "BY") ∷ b.marks;
      lexed = lexed_before order_lexed (lexed_before by_lexed b.lexed);
      reads = λ us m.
          let s = first_mark us k.Order (codes "ORDER") ((k.By, codes "BY") ∷ b.marks) m in
          let u = first_mark s.1 k.By (codes "BY") b.marks s.5 in
          let y = b.reads u.1 u.5 in
          as_tokens (AreKeys h) (map bare_key) keys us (s.0 ∷ u.0 ∷ u.1) (s.2 ∙ ap (λ q. s.0 ∷ q) u.2) (y.0, ordered s.0 u.0 u.1 s.3 u.3 y.1, y.2);
    })

limit_lexed : IsLexed any_text (codes " LIMIT ") ((k.Limit, codes "LIMIT") ∷ [])
unfolding word_kind
limit_lexed = spaced (keyword (codes "LIMIT") k.Limit refl (record { begins = refl; whole = refl }))

count_back : (ts : List Lexeme) (n : ℕ) → IsLimit ts n → AllByRecursion IsSource ts → ReadsBack IsLimit itself n (decimal n)
count_back ts n is all =
    let P : List Lexeme → Type 0 = AllByRecursion IsSource in
    let source = subst P is.1 all in
    let Q : ℕ → Type 0 = λ v. v < 2 ^ 63 in
    let small = subst Q (sym is.3) (source.0.number is.2) in
    one_back IsLimit itself n (decimal n) k.Number (decimal_lexed n small) (λ u kind bytes. (value_of u, (u, refl, kind, refl), sym (ap (value_after 0) bytes ∙ decimal_value n small)))

limit_back : (ts : List Lexeme) (o : Option ℕ) → Optional IsLimit k.Limit ts o → AllByRecursion IsSource ts → ReadsBack (Optional IsLimit k.Limit) (option_map itself) o (limit_text o)
limit_back ts o d all = back_as (same_text o) (optional_back IsLimit itself decimal count_back k.Limit (codes "LIMIT") (codes " LIMIT ") limit_lexed d all)
  where
    same_text : (o : Option ℕ) → option_text IsLimit itself decimal count_back (codes " LIMIT ") o ≡ limit_text o
    same_text None = refl
    same_text (Some n) = refl

limit_parts : (o : Option ℕ) → parts_first (limit_text o) ≡ true
limit_parts None = refl
limit_parts (Some n) = refl

keys_part : (keys : List Key) → parts_first (keys_text keys) ≡ true
keys_part [] = refl
keys_part (first ∷ keys) = refl

condition_parts : (o : Option AstExpr) → parts_first (condition_text o) ≡ true
condition_parts None = refl
condition_parts (Some x) = refl

-- the keys and the limit
abbrev AreEnds : ℕ → List Lexeme → List Key × Option ℕ → Type 0
AreEnds h ts p = (b : List Lexeme) × (c : List Lexeme) × (ts ≡ b ++ c) × AreKeys h b p.0 × Optional IsLimit k.Limit c p.1

abbrev bare_ends : List Key × Option ℕ → List Key × Option ℕ
bare_ends p = (map bare_key p.0, p.1)

abbrev ends_of : List Key → Option ℕ → List Key × Option ℕ
ends_of keys limit = (keys, limit)

abbrev bare_tail : Tail → Option AstExpr × (List Key × Option ℕ)
bare_tail t = (option_map bare t.condition, (map bare_key t.keys, t.limit))

abbrev tail_of : Option AstExpr → List Key × Option ℕ → Tail
tail_of condition ends = record { condition = condition; keys = ends.0; limit = ends.1 }

option_itself : {A : Type 0} (o : Option A) → option_map itself o ≡ o
option_itself None = refl
option_itself (Some x) = refl

tail_is : (h : ℕ) (a ts : List Lexeme) (o : Option AstExpr) (p : List Key × Option ℕ) → Optional (IsWhole h) k.Where a o → AreEnds h ts p → IsTail h (a ++ ts) (tail_of o p)
tail_is h a ts o p d e =
    let P : List Lexeme → Type 0 = λ v. IsTail h v (tail_of o p) in
    subst P (append_assoc a e.0 e.1 ∙ ap (λ q. a ++ q) (sym e.2)) (tail a e.0 e.1 d e.3 e.4)

tail_back : (h : ℕ) (ts : List Lexeme) (t : Tail) → IsTail h ts t → AllByRecursion IsSource ts → ReadsBack (IsTail h) bare_tail t (condition_text t.condition ++ (keys_text t.keys ++ limit_text t.limit))
tail_back h _ _ (tail a b c {condition = condition} {keys = keys} {limit = limit} x y z) all =
    let front = front_all IsSource (a ++ b) c all in
    let ends = both_back (AreEnds h) bare_ends ends_of (limit_parts limit) (λ b' c' ks l p q. (b', c', refl, p, q))
    (λ ks l same_keys same_limit. ap (λ v. (v, limit)) same_keys ∙ ap (λ v. (map bare_key ks, v)) (sym (option_itself limit) ∙ same_limit ∙ option_itself l))
    (keys_back h b keys y (back_all IsSource a b front)) (limit_back c limit z (back_all IsSource (a ++ b) c all)) in
    both_back (IsTail h) bare_tail tail_of (still_parts (keys_text keys) (limit_text limit) (keys_part keys) (limit_parts limit)) (tail_is h)
    (λ o p same_condition same_ends. ap (λ v. (v, bare_ends (keys, limit))) same_condition ∙ ap (λ v. (option_map bare o, v)) same_ends)
    (condition_back h a condition x (front_all IsSource a b front)) ends

-- the paths and what follows them
abbrev AreRest : ℕ → List Lexeme → List Path × Tail → Type 0
AreRest h ts p = (b : List Lexeme) × (c : List Lexeme) × (ts ≡ b ++ c) × IsPattern b p.0 × IsTail h c p.1

abbrev bare_rest : List Path × Tail → List Path × (Option AstExpr × (List Key × Option ℕ))
bare_rest p = (map bare_path p.0, bare_tail p.1)

abbrev rest_of : List Path → Tail → List Path × Tail
rest_of paths t = (paths, t)

abbrev query_of : Bool × List Item → List Path × Tail → Ast
query_of s p = record { distinct = s.0; items = s.1; paths = p.0; condition = p.1.condition; keys = p.1.keys; limit = p.1.limit }

abbrev query_as : Bool × List Item → List Path × (Option AstExpr × (List Key × Option ℕ)) → Ast
query_as s p = record { distinct = s.0; items = s.1; paths = p.0; condition = p.1.0; keys = p.1.1.0; limit = p.1.1.1 }

query_is : (h : ℕ) (a ts : List Lexeme) (s : Bool × List Item) (p : List Path × Tail) → IsSelection h a s → AreRest h ts p → IsQuery h (a ++ ts) (query_of s p)
query_is h a ts s p d e =
    let P : List Lexeme → Type 0 = λ v. IsQuery h v (query_of s p) in
    subst P (append_assoc a e.0 e.1 ∙ ap (λ q. a ++ q) (sym e.2)) (query a e.0 e.1 s.0 s.1 p.0 p.1 d e.3 e.4)

tail_parts : (t : Tail) → parts_first (condition_text t.condition ++ (keys_text t.keys ++ limit_text t.limit)) ≡ true
tail_parts t =
    still_parts (condition_text t.condition) (keys_text t.keys ++ limit_text t.limit) (condition_parts t.condition)
    (still_parts (keys_text t.keys) (limit_text t.limit) (keys_part t.keys) (limit_parts t.limit))

query_back : {h : ℕ} {ts : List Lexeme} {q : Ast} → IsQuery h ts q → AllByRecursion IsSource ts → ReadsBack (IsQuery h) bare_query q (query_text q)
unfolding query_text
query_back {h} (query a b c only items paths t is_selection is_pattern is_tail) all =
    let front = front_all IsSource (a ++ b) c all in
    let rest = both_back (AreRest h) bare_rest rest_of (tail_parts t) (λ b' c' ps u p q. (b', c', refl, p, q)) (λ ps u same_paths same_tail. ap (λ v. (v, bare_tail t)) same_paths ∙ ap (λ v. (map bare_path ps, v)) same_tail)
    (pattern_back b paths is_pattern (back_all IsSource a b front)) (tail_back h c t is_tail (back_all IsSource (a ++ b) c all)) in
    both_back (IsQuery h) bare_query query_of refl (query_is h)
    (λ s p same_selection same_rest. ap (λ v. query_as v (bare_rest (paths, t))) same_selection ∙ ap (λ v. query_as (bare_selection s) v) same_rest)
    (selection_back h a only items is_selection (front_all IsSource a b front)) rest

pub read_back : (most : ℕ) → IsReadBack most
read_back most base there text q is =
    let b = query_back is.2 (all_source base text is.0 is.1) in
    let w = whole_lexed (query_text q) b.marks b.lexed there in
    let again = b.reads (map (seen (query_text q) there) w.0) w.2 in
    (again.0, (w.0, w.1, again.1), again.2)
