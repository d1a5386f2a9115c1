-- A graph that is being loaded stays whole and within its limits.
use Rattle.std.proofs.Common.{◌≡◌, ◌∙◌, sym, ap, refl, arith, ◌<◌, ◌≤◌, ◌+◌, ℕ, zero, suc, List, [], ◌∷◌, ◌++◌, length, length-append, take, min}
use Rattle.std.proofs.lemmas.List.{length-take}
use Rattle.std.specs.List.{AllByRecursion}
use Rattle.adfs_base.specs.declared.value.Value.{Value}
use Rattle.adfs_base.specs.declared.value.Value.TheVariants as value
use Rattle.value_text.specs.Texts.{Kept}
use Rattle.value_text.specs.Valid.{IsValid}
use Rattle.element_store.proofs.ElementFacts.{cells_in-push}
use Rattle.element_store.specs.Columns.{Column, named}
use Rattle.element_store.specs.Elements.{Element, Filled}
use Rattle.graph_tables.specs.Graph.{Edge, EndsIn, FitsWords, HasTypes, IsLong, IsShown, cells_made, without_ends}
use Rattle.graph_tables.specs.Loading.{IsReadable, IsSound, KeepsTables, edges_with, filled_of, graph_of}
use Rattle.graph_tables.specs.declared.element_kind.ElementKind.{ElementKind}
use Rattle.graph_tables.specs.declared.element_kind.ElementKind.TheVariants as element
use Rattle.graph_tables.specs.Limits.{most_cells, most_edges, most_vertices}
use Rattle.graph_tables.specs.declared.loading.Ends.{Ends}
use Rattle.graph_tables.specs.declared.loading.Loading.{Loading}
use Rattle.graph_tables.proofs.GraphFacts.{edges_with-push, without_ends-edges_with}
use Rattle.graph_tables.proofs.TypeFacts.{elements_still}
use Rattle.graph_tables.specs.Properties.{AreTyped, Extends}

take-take-le : {A : Type 0} (m n : ℕ) (xs : List A) → m ≤ n → take m (take n xs) ≡ take m xs
take-take-le zero n xs h = refl
take-take-le (suc m) zero xs h = absurd (omega arith)
take-take-le (suc m) (suc n) [] h = refl
take-take-le (suc m) (suc n) (x ∷ xs) h = ap (λ t. x ∷ t) (take-take-le m n xs (omega arith))

pub kept_length : (old new : List (List ℕ)) → Kept old new → length old ≤ length new
kept_length old new h =
    let size : min (length old) (length new) ≡ length old = sym (length-take (length old) new) ∙ ap length h in
    omega arith

pub all_push : {A : Type 0} (P : A → Type 0) (xs : List A) (x : A) → AllByRecursion P xs → P x → AllByRecursion P (xs ++ x ∷ [])
all_push P [] x all one = (one, tt)
all_push P (y ∷ xs) x all one = (all.0, all_push P xs x all.1 one)

pub all_map : {A : Type 0} (P Q : A → Type 0) (xs : List A) → ((x : A) → P x → Q x) → AllByRecursion P xs → AllByRecursion Q xs
all_map P Q [] f all = tt
all_map P Q (x ∷ xs) f all = (f x all.0, all_map P Q xs f all.1)

-- more texts leave what has a meaning
pub valid_still : (old new : List (List ℕ)) (v : Value) → length old ≤ length new → IsValid old v → IsValid new v
valid_still old new value.Null le h = tt
valid_still old new (value.Int n) le h = tt
valid_still old new (value.Text n) le h = omega arith
valid_still old new (value.Bool b) le h = tt
valid_still old new (value.Date day) le h = h

pub shown_still : (old new : List (List ℕ)) (es : List Element) → length old ≤ length new → AllByRecursion (IsShown old) es → AllByRecursion (IsShown new) es
shown_still old new es le all = all_map (IsShown old) (IsShown new) es (λ e h. (omega (arith, h.0), all_map (λ v. IsValid old v.1) (λ v. IsValid new v.1) e.values (λ v k. valid_still old new v.1 le k) h.1)) all

-- the values of a row, each with its property
pub named_valid : (texts : List (List ℕ)) (columns : List Column) (values : List Value) → AllByRecursion (IsValid texts) values → AllByRecursion (λ v. IsValid texts v.1) (named columns values)
named_valid texts [] values all = tt
named_valid texts (c ∷ cs) [] all = tt
named_valid texts (c ∷ cs) (v ∷ vs) all = (all.0, named_valid texts cs vs all.1)

-- a row's whole numbers, each with its property
pub named_long : (columns : List Column) (values : List Value) → AllByRecursion IsLong values → AllByRecursion (λ v. IsLong v.1) (named columns values)
named_long [] values all = tt
named_long (c ∷ cs) [] all = tt
named_long (c ∷ cs) (v ∷ vs) all = (all.0, named_long cs vs all.1)

pub ends_still : (old new : List Element) (edges : List Edge) → length old ≤ length new → AllByRecursion (EndsIn old) edges → AllByRecursion (EndsIn new) edges
ends_still old new edges le all = all_map (EndsIn old) (EndsIn new) edges (λ e h. (omega (arith, h.0), omega (arith, h.1))) all

-- with one more vertex
pub sound_vertex : (l : Loading) (f : Filled) (texts : List (List ℕ)) (v : Element) → IsSound l
    → f.elements ≡ l.vertices.elements ++ v ∷ [] → f.tables ≡ l.vertices.tables → f.label ≡ l.vertices.label → f.columns ≡ l.vertices.columns
    → IsShown texts v → HasTypes l.vertex_properties v → FitsWords v → length l.texts ≤ length texts → length texts ≤ length l.texts + length v.values
    → length l.vertices.elements < most_vertices → cells_made (graph_of l) + length v.values ≤ most_cells
    → IsSound (record l { vertices = f; texts = texts })
sound_vertex l f texts v s elements tables label columns shown typed fits grown few room cells =
    let more = cells_in-push l.vertices.elements v in
    let size = length-append l.vertices.elements (v ∷ []) in
    record {
      whole = record {
        vertices_shown = rw elements (all_push (IsShown texts) l.vertices.elements v (shown_still l.texts texts l.vertices.elements grown s.whole.vertices_shown) shown);
        edges_shown = shown_still l.texts texts (without_ends (edges_with l.edges.elements l.ends.items)) grown s.whole.edges_shown;
        vertices_typed = rw elements (all_push (HasTypes l.vertex_properties) l.vertices.elements v s.whole.vertices_typed typed);
        edges_typed = s.whole.edges_typed;
        vertices_fit = rw elements (all_push FitsWords l.vertices.elements v s.whole.vertices_fit fits);
        edges_fit = s.whole.edges_fit;
        ends = rw elements (ends_still l.vertices.elements (l.vertices.elements ++ v ∷ []) (edges_with l.edges.elements l.ends.items) (omega (arith, size)) s.whole.ends);
      };
      ends_beside = s.ends_beside;
      vertex_label = λ some. rw label (omega (arith, grown, s.vertex_label (rw (← tables) some)));
      edge_label = λ some. omega (arith, grown, s.edge_label some);
      vertex_columns = rw columns s.vertex_columns;
      edge_columns = s.edge_columns;
      few_vertices = rw (elements, size) (omega (arith, room));
      few_edges = s.few_edges;
      few_cells = rw (elements, more) (omega (arith, cells));
      few_texts = rw (elements, more, tables) (omega (arith, few, s.few_texts));
    }

-- with one more edge
pub sound_edge : (l l2 : Loading) (e : Element) (at : Ends) → IsSound l
    → l2.edges.elements ≡ l.edges.elements ++ e ∷ [] → l2.ends.items ≡ l.ends.items ++ at ∷ [] → l2.edges.tables ≡ l.edges.tables → l2.edges.label ≡ l.edges.label → l2.vertices ≡ l.vertices
    → l2.edges.columns ≡ l.edges.columns → l2.vertex_properties ≡ l.vertex_properties → l2.edge_properties ≡ l.edge_properties
    → IsShown l2.texts e → HasTypes l.edge_properties e → FitsWords e → at.source < length l.vertices.elements → at.target < length l.vertices.elements
    → length l.texts ≤ length l2.texts → length l2.texts ≤ length l.texts + length e.values
    → length l.edges.elements < most_edges → cells_made (graph_of l) + length e.values ≤ most_cells
    → IsSound l2
sound_edge l l2 e at s elements beside tables label vertices columns vertex_types edge_types shown typed fits source target grown few room cells =
    let more = cells_in-push l.edges.elements e in
    let size = length-append l.edges.elements (e ∷ []) in
    let pushed = edges_with-push l.edges.elements l.ends.items e at s.ends_beside in
    let old = without_ends-edges_with l.edges.elements l.ends.items s.ends_beside in
    let longer : length (l.ends.items ++ at ∷ []) ≡ length (l.edges.elements ++ e ∷ []) = length-append l.ends.items (at ∷ []) ∙ omega (arith, size, s.ends_beside) in
    let new = without_ends-edges_with (l.edges.elements ++ e ∷ []) (l.ends.items ++ at ∷ []) longer in
    let old_shown = rw old at s.whole.edges_shown in
    let old_typed = rw old at s.whole.edges_typed in
    let old_fit = rw old at s.whole.edges_fit in
    let cells_were = rw old at cells in
    let old_texts = rw old at s.few_texts in
    record {
      whole = record {
        vertices_shown = rw vertices (shown_still l.texts l2.texts l.vertices.elements grown s.whole.vertices_shown);
        edges_shown = rw (elements, beside, new) (all_push (IsShown l2.texts) l.edges.elements e (shown_still l.texts l2.texts l.edges.elements grown old_shown) shown);
        vertices_typed = rw (vertices, vertex_types) s.whole.vertices_typed;
        edges_typed = rw (elements, beside, new, edge_types) (all_push (HasTypes l.edge_properties) l.edges.elements e old_typed typed);
        vertices_fit = rw vertices s.whole.vertices_fit;
        edges_fit = rw (elements, beside, new) (all_push FitsWords l.edges.elements e old_fit fits);
        ends = rw (vertices, elements, beside, pushed) (all_push (EndsIn l.vertices.elements) (edges_with l.edges.elements l.ends.items) _ s.whole.ends (source, target));
      };
      ends_beside = rw (elements, beside) longer;
      vertex_label = rw vertices (λ some. omega (arith, grown, s.vertex_label some));
      edge_label = rw (tables, label) (λ some. omega (arith, grown, s.edge_label some));
      vertex_columns = rw (vertices, vertex_types) s.vertex_columns;
      edge_columns = rw (columns, edge_types) s.edge_columns;
      few_vertices = rw vertices s.few_vertices;
      few_edges = rw (elements, size) (omega (arith, room));
      few_cells = rw (vertices, elements, beside, new, more) (omega (arith, cells_were));
      few_texts = rw (vertices, elements, beside, new, more, tables) (omega (arith, few, old_texts));
    }

-- with one more table
pub sound_vertex_table : (l l2 : Loading) → IsSound l → l2.vertices.elements ≡ l.vertices.elements → l2.vertices.tables ≡ l.vertices.tables + 1 → l2.vertices.label < length l2.texts
    → l2.edges ≡ l.edges → l2.ends.items ≡ l.ends.items → length l.texts ≤ length l2.texts → length l2.texts ≤ length l.texts + 1
    → Extends l.vertex_properties l2.vertex_properties → AreTyped l2.vertex_properties l2.vertices.columns → l2.edge_properties ≡ l.edge_properties → IsSound l2
sound_vertex_table l l2 s elements tables label edges ends grown few more columns other = record {
  whole = record {
    vertices_shown = rw elements (shown_still l.texts l2.texts l.vertices.elements grown s.whole.vertices_shown);
    edges_shown = rw (edges, ends) (shown_still l.texts l2.texts (without_ends (edges_with l.edges.elements l.ends.items)) grown s.whole.edges_shown);
    vertices_typed = rw elements (elements_still l.vertex_properties l2.vertex_properties l.vertices.elements more s.whole.vertices_typed);
    edges_typed = rw (edges, ends, other) s.whole.edges_typed;
    vertices_fit = rw elements s.whole.vertices_fit;
    edges_fit = rw (edges, ends) s.whole.edges_fit;
    ends = rw (elements, edges, ends) s.whole.ends;
  };
  ends_beside = rw (edges, ends) s.ends_beside;
  vertex_label = λ some. label;
  edge_label = rw edges (λ some. omega (arith, grown, s.edge_label some));
  vertex_columns = columns;
  edge_columns = rw (edges, other) s.edge_columns;
  few_vertices = rw elements s.few_vertices;
  few_edges = rw edges s.few_edges;
  few_cells = rw (elements, edges, ends) s.few_cells;
  few_texts = rw (elements, edges, ends, tables) (omega (arith, few, s.few_texts));
}

pub sound_edge_table : (l l2 : Loading) → IsSound l → l2.edges.elements ≡ l.edges.elements → l2.edges.tables ≡ l.edges.tables + 1 → l2.edges.label < length l2.texts
    → l2.vertices ≡ l.vertices → l2.ends.items ≡ l.ends.items → length l.texts ≤ length l2.texts → length l2.texts ≤ length l.texts + 1
    → Extends l.edge_properties l2.edge_properties → AreTyped l2.edge_properties l2.edges.columns → l2.vertex_properties ≡ l.vertex_properties → IsSound l2
sound_edge_table l l2 s elements tables label vertices ends grown few more columns other = record {
  whole = record {
    vertices_shown = rw vertices (shown_still l.texts l2.texts l.vertices.elements grown s.whole.vertices_shown);
    edges_shown = rw (elements, ends) (shown_still l.texts l2.texts (without_ends (edges_with l.edges.elements l.ends.items)) grown s.whole.edges_shown);
    vertices_typed = rw (vertices, other) s.whole.vertices_typed;
    edges_typed = rw (elements, ends) (elements_still l.edge_properties l2.edge_properties (without_ends (edges_with l.edges.elements l.ends.items)) more s.whole.edges_typed);
    vertices_fit = rw vertices s.whole.vertices_fit;
    edges_fit = rw (elements, ends) s.whole.edges_fit;
    ends = rw (vertices, elements, ends) s.whole.ends;
  };
  ends_beside = rw (elements, ends) s.ends_beside;
  vertex_label = rw vertices (λ some. omega (arith, grown, s.vertex_label some));
  edge_label = λ some. label;
  vertex_columns = rw (vertices, other) s.vertex_columns;
  edge_columns = columns;
  few_vertices = rw vertices s.few_vertices;
  few_edges = rw elements s.few_edges;
  few_cells = rw (vertices, elements, ends) s.few_cells;
  few_texts = rw (vertices, elements, ends, tables) (omega (arith, few, s.few_texts));
}

-- texts that were kept twice
pub kept_both : (a b c : List (List ℕ)) → Kept a b → Kept b c → Kept a c
kept_both a b c h k =
    let less = kept_length a b h in
    let twice : take (length a) (take (length b) c) ≡ take (length a) c = take-take-le (length a) (length b) c less in
    sym twice ∙ ap (λ t. take (length a) t) k ∙ h

-- tables that were kept twice
pub keeps_both : (a b c : Loading) → KeepsTables a b → KeepsTables b c → KeepsTables a c
keeps_both a b c h k = record {
  vertex_tables = k.vertex_tables ∙ h.vertex_tables;
  vertex_label = k.vertex_label ∙ h.vertex_label;
  vertex_columns = k.vertex_columns ∙ h.vertex_columns;
  edge_tables = k.edge_tables ∙ h.edge_tables;
  edge_label = k.edge_label ∙ h.edge_label;
  edge_columns = k.edge_columns ∙ h.edge_columns;
  vertex_properties = k.vertex_properties ∙ h.vertex_properties;
  edge_properties = k.edge_properties ∙ h.edge_properties;
}

pub label_kept : (of : ElementKind) (a b : Loading) → KeepsTables a b → (filled_of of b).label ≡ (filled_of of a).label
label_kept element.Vertex a b h = h.vertex_label
label_kept element.Edge a b h = h.edge_label

pub columns_kept : (of : ElementKind) (a b : Loading) → KeepsTables a b → (filled_of of b).columns ≡ (filled_of of a).columns
columns_kept element.Vertex a b h = h.vertex_columns
columns_kept element.Edge a b h = h.edge_columns

pub begun_still : (of : ElementKind) (a b : Loading) → KeepsTables a b → (filled_of of b).tables ≡ (filled_of of a).tables
begun_still element.Vertex a b h = h.vertex_tables
begun_still element.Edge a b h = h.edge_tables
