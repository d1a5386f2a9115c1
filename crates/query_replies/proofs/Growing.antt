-- A graph goes on to mean something as texts are added.
use Rattle.std.proofs.Common.{◌≡◌, ℕ, Bool, true, false, cond, List, [], ◌∷◌, ◌++◌, length, take, fold, Option, Some, None, Ok, sym, ap, ◌∙◌, append-nil, append_assoc}
use Rattle.std.specs.List.{AllByRecursion, list_any}
use Rattle.std.specs.Str.{bytes_eq}
use Rattle.std.proofs.Math.Seq.{take-append_seam, take-length}
use Rattle.adfs_base.specs.declared.value.Value.TheVariants as value
use Rattle.element_store.specs.Columns.{Cell}
use Rattle.element_store.specs.Elements.{Element}
use Rattle.graph_tables.specs.Graph.{IsShown, PropertyGraph, without_ends}
use Rattle.graph_tables.specs.Properties.{SchemaLists}
use Rattle.pgql_tree.specs.declared.ast.Ast.{Ast}
use Rattle.typed_expr.specs.Faults.{first_of}
use Rattle.typed_expr.specs.Scope.{scope_of}
use Rattle.typed_expr.specs.Typed.{all_literals, faults_of, query_of, typed, typed_by}
use Rattle.typed_expr.specs.declared.fault.TypeFault.{TypeFault}
use Rattle.typed_query.specs.declared.query.Query.{Query}
use Rattle.typed_expr.specs.declared.scope.Scope.{Scope}
use Rattle.value_text.specs.Texts.{Kept, with_text}
use Rattle.value_text.specs.Valid.{IsValid}
use Rattle.value_text.proofs.Staying.{values_stay}
use Rattle.serial_run.specs.Engines.{HasItsValues}
use Rattle.query_replies.specs.Asked.{IsMeant, IsMeantOfSome}
use Rattle.query_replies.specs.declared.answers.Asked.{Asked}
use Rattle.query_replies.specs.declared.answers.Asked.TheVariants.{Plan, Rows}

-- ---- texts with those of literals

behind_by : (old : List (List ℕ)) (text : List ℕ) (texts : List (List ℕ)) (b : Bool) → ((start : List (List ℕ)) → (rest : List (List ℕ)) × (fold with_text start texts ≡ start ++ rest))
    → (rest : List (List ℕ)) × (fold with_text (cond b old (old ++ text ∷ [])) texts ≡ old ++ rest)
behind_by old text texts true later = later old
behind_by old text texts false later = let rest = later (old ++ text ∷ []) in (text ∷ rest.0, rest.1 ∙ append_assoc old (text ∷ []) rest.0)

behind : (texts old : List (List ℕ)) → (rest : List (List ℕ)) × (fold with_text old texts ≡ old ++ rest)
behind [] old = ([], sym (append-nil old))
behind (text ∷ texts) old = behind_by old text texts (list_any (bytes_eq text) old) (behind texts)

kept : (old new : List (List ℕ)) → (rest : List (List ℕ)) × (new ≡ old ++ rest) → Kept old new
kept old new rest = ap (take (length old)) rest.1 ∙ take-append_seam old rest.0

-- the same texts
pub kept_same : (old new : List (List ℕ)) → new ≡ old → Kept old new
kept_same old new is = ap (take (length old)) is ∙ take-length old

typed_by-kept : (schema : SchemaLists) (old : List (List ℕ)) (ast : Ast) (scope : Scope) (found : Option TypeFault) (query : Query) (new : List (List ℕ))
    → typed_by schema old ast scope found ≡ Ok (query, new) → Kept old new
typed_by-kept schema old ast scope (Some e) query new is = absurd cc
typed_by-kept schema old ast scope None query new is =
    let texts = fold with_text old (all_literals ast) in
    let both : ◌≡◌ {A = Query × List (List ℕ)} (query_of schema ast scope texts, texts) (query, new) = cc in
    kept old new (let rest = behind (all_literals ast) old in (rest.0, sym (ap (λ p. p.1) both) ∙ rest.1))

-- a query keeps the numbers of the texts that were there
pub typed-kept : (schema : SchemaLists) (old : List (List ℕ)) (ast : Ast) (query : Query) (new : List (List ℕ)) → typed schema old ast ≡ Ok (query, new) → Kept old new
unfolding typed
typed-kept schema old ast query new is = typed_by-kept schema old ast (scope_of ast.paths) (first_of (faults_of schema ast (scope_of ast.paths))) query new is

-- ---- elements

module _ (old new : List (List ℕ)) (stay : Kept old new) where
  values : (cells : List (ℕ × Cell)) → AllByRecursion (λ v. IsValid old v.1) cells → AllByRecursion (λ v. IsValid new v.1) cells
  values [] all = tt
  values (v ∷ vs) all = ((values_stay old new v.1 stay all.0).valid, values vs all.1)

  elements : (all : List Element) → AllByRecursion (IsShown old) all → AllByRecursion (IsShown new) all
  elements [] shown = tt
  elements (e ∷ es) shown = (((values_stay old new (value.Text e.label) stay shown.0.0).valid, values e.values shown.0.1), elements es shown.1)

-- a graph goes on to mean what it meant
pub values_after : (old new : List (List ℕ)) (schema : SchemaLists) (graph : PropertyGraph) → Kept old new → HasItsValues old schema graph → HasItsValues new schema graph
values_after old new schema graph stay values = record {
  shown = record {
    vertices_shown = elements old new stay graph.vertices values.shown.vertices_shown;
    edges_shown = elements old new stay (without_ends graph.edges) values.shown.edges_shown;
  };
  vertices_typed = values.vertices_typed;
  edges_typed = values.edges_typed;
  vertices_fit = values.vertices_fit;
  edges_fit = values.edges_fit;
}

-- so what is asked goes on to rest on what means something
pub meant_after : (old new : List (List ℕ)) (schema : SchemaLists) (graph : PropertyGraph) (asked : Asked) → Kept old new → IsMeant old schema graph asked → IsMeant new schema graph asked
meant_after old new schema graph (Rows engine) stay over = record { values = values_after old new schema graph stay over.values; parts_of = over.parts_of }
meant_after old new schema graph Plan stay over = tt

pub meant_of_some-after : (old new : List (List ℕ)) (schema : SchemaLists) (asked : Asked) → Kept old new → IsMeantOfSome old schema asked → IsMeantOfSome new schema asked
meant_of_some-after old new schema asked stay some = record { graph = some.graph; meant = meant_after old new schema some.graph asked stay some.meant }
