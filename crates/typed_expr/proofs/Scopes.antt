-- What patterns declare, where none of them is refused.
use Rattle.std.proofs.Common.{◌≡◌, ◌∙◌, ℕ, suc, ◌+◌, ◌-◌, ◌<◌, ◌≤◌, Bool, true, false, List, [], ◌∷◌, ◌++◌, length, map, Option, Some, None, refl, sym, ap, subst, arith}
use Rattle.std.specs.Prelude.{nat_le, fold}
use Rattle.std.specs.List.{AllByRecursion, slice_get}
use Rattle.std.proofs.lemmas.Bool.Decides.{nat_tests}
use Rattle.std.proofs.lemmas.List.{append-nil, length-append, length-map, map-append}
use Rattle.adfs_base.specs.declared.limits.TheConstants.{EDGE_VARIABLES, VERTEX_VARIABLES}
use Rattle.pgql_tree.specs.declared.ast.EdgePat.{EdgePat}
use Rattle.pgql_tree.specs.declared.ast.Path.{Path}
use Rattle.pgql_tree.specs.declared.ast.Placed.{Placed}
use Rattle.pgql_tree.specs.declared.ast.VertexPat.{VertexPat}
use Rattle.pattern_scope.specs.declared.fault.TypeFault.{TypeFault}
use Rattle.pattern_scope.specs.declared.fault.TypeFault.TheVariants as fault
use Rattle.typed_query.specs.declared.query.EdgeJoin.{EdgeJoin}
use Rattle.pattern_scope.specs.declared.scope.Declared.{Declared}
use Rattle.pattern_scope.specs.declared.scope.Scope.{Scope}
use Rattle.pattern_scope.specs.Names.{is_name, variable_from, variable_of}
use Rattle.pattern_scope.specs.Scope as spec
use Rattle.typed_query.specs.WellFormed.{IsVertex, JoinsVertices, edges_from, vertices_from}
use Rattle.typed_expr.proofs.Flags.{edges-push_edge, edges-push_vertex, get-push, get-pushed, vertices-push_edge, vertices-push_vertex}
use Rattle.typed_expr.proofs.Lists.{from_zero}

abbrev pub edges_in : Scope → List Bool
edges_in scope = map (λ variable. variable.edge) scope.variables

-- each set that has of each join both ends or neither has so of each link
abbrev pub FollowsJoins : List EdgeJoin → List (ℕ × ℕ) → Type 0
FollowsJoins joins links = (set : ℕ → Bool) → AllByRecursion (λ join. set join.source ≡ set join.target) joins → AllByRecursion (λ link. set link.0 ≡ set link.1) links

-- Declared without a fault, but for some edges that wait for their joins.
pub record IsSound (waiting : List ℕ) (scope : Scope) : Type 0 where
  pub few_vertices : length scope.vertices ≤ VERTEX_VARIABLES
  pub few_edges : length scope.variables ≤ length scope.vertices + EDGE_VARIABLES
  pub vertices : map (λ vertex. vertex.0) scope.vertices ≡ vertices_from 0 (edges_in scope)
  pub joined : map (λ join. join.edge) scope.edges ++ waiting ≡ edges_from 0 (edges_in scope)
  pub ends : AllByRecursion (JoinsVertices (edges_in scope)) scope.edges
  pub follows : FollowsJoins scope.edges scope.links

-- later patterns leave vertices and faults as they are
pub record Extends (old new : Scope) : Type 0 where
  pub faultless : new.faults ≡ [] → old.faults ≡ []
  pub vertices_stay : (number : ℕ) → IsVertex (edges_in old) number → IsVertex (edges_in new) number

-- where there is no fault, the scope is sound and a pattern is this vertex
abbrev pub EndsAtVertex : List ℕ → Scope × Option ℕ → Type 0
EndsAtVertex waiting after = after.0.faults ≡ [] → IsSound waiting after.0 × ((number : ℕ) × (after.1 ≡ Some number) × IsVertex (edges_in after.0) number)

extends-same : (old new : Scope) → new.faults ≡ old.faults → new.variables ≡ old.variables → Extends old new
extends-same old new faults variables = record {
  faultless = λ none. sym faults ∙ none;
  vertices_stay = λ number is. subst (λ all. IsVertex (map (λ variable. variable.edge) all) number) (sym variables) is;
}

pub extends-then : (a b c : Scope) → Extends a b → Extends b c → Extends a c
extends-then a b c first second = record {
  faultless = λ none. first.faultless (second.faultless none);
  vertices_stay = λ number is. second.vertices_stay number (first.vertices_stay number is);
}

none-append : {X : Type 0} (xs ys : List X) → xs ++ ys ≡ [] → (xs ≡ []) × (ys ≡ [])
none-append [] ys none = (refl, none)
none-append (x ∷ xs) ys none = absurd cc

some-last : {X : Type 0} (xs : List X) (x : X) → xs ++ x ∷ [] ≡ [] → ⊥
some-last [] x none = cc
some-last (y ∷ xs) x none = cc

edges-push : (variables : List Declared) (variable : Declared) → map (λ v. v.edge) (variables ++ variable ∷ []) ≡ map (λ v. v.edge) variables ++ variable.edge ∷ []
edges-push variables variable = map-append (λ v. v.edge) variables (variable ∷ [])

length-edges : (variables : List Declared) → length (map (λ v. v.edge) variables) ≡ length variables
length-edges variables = length-map variables (λ v. v.edge)

extends-push : (old new : Scope) (variable : Declared) (more : List TypeFault) → new.faults ≡ old.faults ++ more → new.variables ≡ old.variables ++ variable ∷ [] → Extends old new
extends-push old new variable more faults variables = record {
  faultless = λ none. (none-append old.faults more (sym faults ∙ none)).0;
  vertices_stay = λ number is.
      subst (λ edges. IsVertex edges number) (sym (ap (map (λ v. v.edge)) variables ∙ edges-push old.variables variable)) (get-push (edges_in old) false variable.edge number is);
}

few : (t : Bool) (most number at : ℕ) → nat_le most number ≡ t → spec.too_many t at ≡ [] → number < most
few true most number at is none = absurd cc
few false most number at is none = grind (arith, nat_tests)

not_too_many : (most number at : ℕ) → spec.too_many (nat_le most number) at ≡ [] → number < most
not_too_many most number at none = few (nat_le most number) most number at refl none

AllWeaker : {X : Type 0} (P Q : X → Type 0) → ((x : X) → P x → Q x) → (xs : List X) → AllByRecursion P xs → AllByRecursion Q xs
AllWeaker P Q weaker [] all = tt
AllWeaker P Q weaker (x ∷ xs) all = (weaker x all.0, AllWeaker P Q weaker xs all.1)

joins-push : (edges : List Bool) (edge : Bool) (join : EdgeJoin) → JoinsVertices edges join → JoinsVertices (edges ++ edge ∷ []) join
joins-push edges edge join joins = record {
  source = get-push edges false edge join.source joins.source;
  target = get-push edges false edge join.target joins.target;
}

length-push : {X : Type 0} (xs : List X) (x : X) → length (xs ++ x ∷ []) ≡ length xs + 1
length-push xs x = length-append xs (x ∷ [])

-- a vertex pattern brings a variable
sound-with_vertex : (waiting : List ℕ) (scope : Scope) (name : Option (List ℕ)) (pattern : VertexPat) → IsSound waiting scope → length scope.vertices < 10 → IsSound waiting (spec.with_vertex scope name pattern)
sound-with_vertex waiting scope name pattern sound room =
    let edges = edges_in scope in
    let variable : Declared = record { name = name; edge = false } in
    let pushed = edges-push scope.variables variable in
    record {
      few_vertices = omega (arith, length-push scope.vertices (length scope.variables, pattern.at));
      few_edges = omega (arith, length-push scope.vertices (length scope.variables, pattern.at), length-push scope.variables variable, sound.few_edges);
      vertices =
          map-append (λ vertex. vertex.0) scope.vertices ((length scope.variables, pattern.at) ∷ [])
          ∙ ap (λ all. all ++ length scope.variables ∷ []) sound.vertices
          ∙ ap (λ n. vertices_from 0 edges ++ n ∷ []) (sym (from_zero (length edges) ∙ length-edges scope.variables))
          ∙ sym (ap (vertices_from 0) pushed ∙ vertices-push_vertex 0 edges);
      joined = sound.joined ∙ sym (ap (edges_from 0) pushed ∙ edges-push_vertex 0 edges);
      ends = subst (λ all. AllByRecursion (JoinsVertices all) scope.edges) (sym pushed) (AllWeaker (JoinsVertices edges) (JoinsVertices (edges ++ false ∷ [])) (joins-push edges false) scope.edges sound.ends);
      follows = sound.follows;
    }

-- an edge pattern brings a variable, which waits for its join
sound-with_edge : (scope : Scope) (name : Option (List ℕ)) (pattern : EdgePat) → IsSound [] scope → length scope.variables - length scope.vertices < 12
    → IsSound (length scope.variables ∷ []) (spec.with_edge scope name pattern)
sound-with_edge scope name pattern sound room =
    let edges = edges_in scope in
    let variable : Declared = record { name = name; edge = true } in
    let pushed = edges-push scope.variables variable in
    record {
      few_vertices = sound.few_vertices;
      few_edges = omega (arith, length-push scope.variables variable);
      vertices = sound.vertices ∙ sym (ap (vertices_from 0) pushed ∙ vertices-push_edge 0 edges);
      joined =
          ap (λ all. all ++ length scope.variables ∷ []) (sym (append-nil (map (λ join. join.edge) scope.edges)) ∙ sound.joined)
          ∙ ap (λ n. edges_from 0 edges ++ n ∷ []) (sym (from_zero (length edges) ∙ length-edges scope.variables))
          ∙ sym (ap (edges_from 0) pushed ∙ edges-push_edge 0 edges);
      ends = subst (λ all. AllByRecursion (JoinsVertices all) scope.edges) (sym pushed) (AllWeaker (JoinsVertices edges) (JoinsVertices (edges ++ true ∷ [])) (joins-push edges true) scope.edges sound.ends);
      follows = sound.follows;
    }

pub AllPush : {X : Type 0} (P : X → Type 0) (xs : List X) (x : X) → AllByRecursion P xs → P x → AllByRecursion P (xs ++ x ∷ [])
AllPush P [] x all last = (last, tt)
AllPush P (y ∷ xs) x all last = (all.0, AllPush P xs x all.1 last)

all_but_last : {X : Type 0} (P : X → Type 0) (xs : List X) (x : X) → AllByRecursion P (xs ++ x ∷ []) → AllByRecursion P xs × P x
all_but_last P [] x all = (tt, all.0)
all_but_last P (y ∷ xs) x all = let rest = all_but_last P xs x all.1 in ((all.0, rest.0), rest.1)

-- the variable that a name stands for
pub variable_found : (n : ℕ) (variables : List Declared) (name : List ℕ) (number : ℕ) (edge : Bool) → variable_from n variables name ≡ Some (number, edge)
    → (k : ℕ) × (n + k ≡ number) × (slice_get (map (λ v. v.edge) variables) k ≡ Some edge)
variable_found n [] name number edge is = absurd cc
variable_found n (variable ∷ variables) name number edge is = by_test (is_name name variable.name) refl (variable_found (n + 1) variables name number edge)
  where
    by_test : (t : Bool) → is_name name variable.name ≡ t → (variable_from (n + 1) variables name ≡ Some (number, edge) → (k : ℕ) × (n + 1 + k ≡ number) × (slice_get (map (λ v. v.edge) variables) k ≡ Some edge))
        → (k : ℕ) × (n + k ≡ number) × (slice_get (map (λ v. v.edge) (variable ∷ variables)) k ≡ Some edge)
    by_test true same more =
        let found : ◌≡◌ {A = Option (ℕ × Bool)} (Some (n, variable.edge)) (Some (number, edge)) = rw same at is in
        let pair : ◌≡◌ {A = ℕ × Bool} (n, variable.edge) (number, edge) = cc in
        (0, (let start : n + 0 ≡ n = omega arith in start) ∙ ap (λ p. p.0) pair, ap (λ p. Some p.1) pair)
    by_test false other more =
        let rest = more (rw other at is) in
        (suc rest.0, (let further : n + suc rest.0 ≡ n + 1 + rest.0 = omega arith in further) ∙ rest.1, rest.2)

abbrev Vertex : List ℕ → Scope → Scope × Option ℕ → Type 0
Vertex waiting old after = Extends old after.0 × EndsAtVertex waiting after

brings_vertex : (waiting : List ℕ) (scope : Scope) (name : Option (List ℕ)) (pattern : VertexPat) → (scope.faults ≡ [] → IsSound waiting scope)
    → Vertex waiting scope (spec.with_vertex scope name pattern, Some (length scope.variables))
brings_vertex waiting scope name pattern sound = (
  extends-push scope (spec.with_vertex scope name pattern) (record { name = name; edge = false }) (spec.too_many (nat_le VERTEX_VARIABLES (length scope.vertices)) pattern.at) refl refl,
  (λ none.
      let parts = none-append scope.faults (spec.too_many (nat_le VERTEX_VARIABLES (length scope.vertices)) pattern.at) none in
      let pushed = edges-push scope.variables (record { name = name; edge = false }) in
      let last : IsVertex (edges_in scope ++ false ∷ []) (length (edges_in scope)) = get-pushed (edges_in scope) false in (
        sound-with_vertex waiting scope name pattern (sound parts.0) (not_too_many 10 (length scope.vertices) pattern.at parts.1),
        (length scope.variables, refl, subst (λ edges. IsVertex edges (length scope.variables)) (sym pushed) (subst (IsVertex (edges_in scope ++ false ∷ [])) (length-edges scope.variables) last)),
      )),
)

vertex_again : (waiting : List ℕ) (scope : Scope) (pattern : VertexPat) (name : List ℕ) (number : ℕ) → variable_of scope.variables name ≡ Some (number, false) → (scope.faults ≡ [] → IsSound waiting scope)
    → Vertex waiting scope (spec.with_labels scope number pattern.labels, Some number)
vertex_again waiting scope pattern name number is sound = (
  extends-same scope (spec.with_labels scope number pattern.labels) refl refl,
  (λ none.
      let s = sound none in
      let found = variable_found 0 scope.variables name number false is in (
        record { few_vertices = s.few_vertices; few_edges = s.few_edges; vertices = s.vertices; joined = s.joined; ends = s.ends; follows = s.follows },
        (number, refl, subst (IsVertex (edges_in scope)) (sym (from_zero found.0) ∙ found.1) found.2),
      )),
)

refused : (scope : Scope) (f : TypeFault) → Extends scope (spec.with_fault scope f)
refused scope f = record { faultless = λ none. (none-append scope.faults (f ∷ []) none).0; vertices_stay = λ number is. is }

named_vertex-ends : (waiting : List ℕ) (scope : Scope) (pattern : VertexPat) (placed : Placed) (found : Option (ℕ × Bool)) → variable_of scope.variables placed.name ≡ found → (scope.faults ≡ [] → IsSound waiting scope)
    → Vertex waiting scope (spec.named_vertex scope pattern placed found)
named_vertex-ends waiting scope pattern placed None is sound = brings_vertex waiting scope (Some placed.name) pattern sound
named_vertex-ends waiting scope pattern placed (Some (number, false)) is sound = vertex_again waiting scope pattern placed.name number is sound
named_vertex-ends waiting scope pattern placed (Some (number, true)) is sound =
    (refused scope (fault.VariableKind placed.at), (λ none. absurd (some-last scope.faults (fault.VariableKind placed.at) none)))

vertex_by-ends : (waiting : List ℕ) (scope : Scope) (pattern : VertexPat) (name : Option Placed) → (scope.faults ≡ [] → IsSound waiting scope) → Vertex waiting scope (spec.vertex_by scope pattern name)
vertex_by-ends waiting scope pattern None sound = brings_vertex waiting scope None pattern sound
vertex_by-ends waiting scope pattern (Some placed) sound = named_vertex-ends waiting scope pattern placed (variable_of scope.variables placed.name) refl sound

-- where there is no fault, the scope is sound but for one edge, the new one
abbrev Edge : Scope → Scope × Option ℕ → Type 0
Edge old after = Extends old after.0 × (after.0.faults ≡ [] → IsSound (length old.variables ∷ []) after.0 × (after.1 ≡ Some (length old.variables)))

brings_edge : (scope : Scope) (name : Option (List ℕ)) (pattern : EdgePat) → (scope.faults ≡ [] → IsSound [] scope) → Edge scope (spec.with_edge scope name pattern, Some (length scope.variables))
brings_edge scope name pattern sound =
    let more = spec.too_many (nat_le EDGE_VARIABLES (length scope.variables - length scope.vertices)) pattern.at in (
      extends-push scope (spec.with_edge scope name pattern) (record { name = name; edge = true }) more refl refl,
      (λ none.
          let parts = none-append scope.faults more none in
          (sound-with_edge scope name pattern (sound parts.0) (not_too_many 12 (length scope.variables - length scope.vertices) pattern.at parts.1), refl)),
    )

named_edge-ends : (scope : Scope) (pattern : EdgePat) (placed : Placed) (found : Option (ℕ × Bool)) → (scope.faults ≡ [] → IsSound [] scope) → Edge scope (spec.named_edge scope pattern placed found)
named_edge-ends scope pattern placed None sound = brings_edge scope (Some placed.name) pattern sound
named_edge-ends scope pattern placed (Some (number, false)) sound =
    (refused scope (fault.VariableKind placed.at), (λ none. absurd (some-last scope.faults (fault.VariableKind placed.at) none)))
named_edge-ends scope pattern placed (Some (number, true)) sound =
    (refused scope (fault.DoubleName placed.at), (λ none. absurd (some-last scope.faults (fault.DoubleName placed.at) none)))

edge_by-ends : (scope : Scope) (pattern : EdgePat) (name : Option Placed) → (scope.faults ≡ [] → IsSound [] scope) → Edge scope (spec.edge_by scope pattern name)
edge_by-ends scope pattern None sound = brings_edge scope None pattern sound
edge_by-ends scope pattern (Some placed) sound = named_edge-ends scope pattern placed (variable_of scope.variables placed.name) sound

-- the edge that waits is joined
sound-joined : (scope : Scope) (join : EdgeJoin) (left right : ℕ) → IsSound (join.edge ∷ []) scope → IsVertex (edges_in scope) left → IsVertex (edges_in scope) right → JoinsVertices (edges_in scope) join
    → ((set : ℕ → Bool) → set join.source ≡ set join.target → set left ≡ set right)
    → IsSound [] (record { variables = scope.variables; labels = scope.labels; vertices = scope.vertices; edges = scope.edges ++ join ∷ []; links = scope.links ++ (left, right) ∷ []; faults = scope.faults })
sound-joined scope join left right sound is_left is_right joins follows = record {
  few_vertices = sound.few_vertices;
  few_edges = sound.few_edges;
  vertices = sound.vertices;
  joined = append-nil (map (λ j. j.edge) (scope.edges ++ join ∷ [])) ∙ map-append (λ j. j.edge) scope.edges (join ∷ []) ∙ sound.joined;
  ends = AllPush (JoinsVertices (edges_in scope)) scope.edges join sound.ends joins;
  follows = λ set all.
      let parts = all_but_last (λ j. set j.source ≡ set j.target) scope.edges join all in
      AllPush (λ link. set link.0 ≡ set link.1) scope.links (left, right) (sound.follows set parts.0) (follows set parts.1);
}

sound-linked : (scope : Scope) (edge left right : ℕ) (out : Bool) → IsSound (edge ∷ []) scope → IsVertex (edges_in scope) left → IsVertex (edges_in scope) right
    → IsSound [] (spec.linked scope (Some edge) out (Some left) (Some right))
sound-linked scope edge left right true sound is_left is_right =
    sound-joined scope (record { edge = edge; source = left; target = right }) left right sound is_left is_right (record { source = is_left; target = is_right }) (λ set same. same)
sound-linked scope edge left right false sound is_left is_right =
    sound-joined scope (record { edge = edge; source = right; target = left }) left right sound is_left is_right (record { source = is_right; target = is_left }) (λ set same. sym same)

sound-linked_at : (scope : Scope) (edge left right : Option ℕ) (e l r : ℕ) (out : Bool) → edge ≡ Some e → left ≡ Some l → right ≡ Some r → IsSound (e ∷ []) scope → IsVertex (edges_in scope) l → IsVertex (edges_in scope) r
    → IsSound [] (spec.linked scope edge out left right)
sound-linked_at scope edge left right e l r out is_e is_l is_r sound is_left is_right =
    subst (λ x. IsSound [] (spec.linked scope x out left right)) (sym is_e)
    (subst (λ x. IsSound [] (spec.linked scope (Some e) out x right)) (sym is_l)
    (subst (λ x. IsSound [] (spec.linked scope (Some e) out (Some l) x)) (sym is_r) (sound-linked scope e l r out sound is_left is_right)))

linked-same : (scope : Scope) (edge : Option ℕ) (out : Bool) (left right : Option ℕ) → ((spec.linked scope edge out left right).faults ≡ scope.faults) × ((spec.linked scope edge out left right).variables ≡ scope.variables)
linked-same scope edge out (Some left) (Some right) = (refl, refl)
linked-same scope edge out (Some left) None = (refl, refl)
linked-same scope edge out None right = (refl, refl)

step-ends : (before : Scope × Option ℕ) (step : EdgePat × VertexPat) → EndsAtVertex [] before → Vertex [] before.0 (spec.after_step before step)
step-ends before step ends =
    let edge = spec.after_edge before.0 step.0 in
    let vertex = spec.after_vertex edge.0 step.1 in
    let e = edge_by-ends before.0 step.0 step.0.name (λ none. (ends none).0) in
    let v = vertex_by-ends (length before.0.variables ∷ []) edge.0 step.1 step.1.name (λ none. (e.1 none).0) in
    let same = linked-same vertex.0 edge.1 step.0.out before.1 vertex.1 in
    let after = spec.linked vertex.0 edge.1 step.0.out before.1 vertex.1 in
    let last = extends-same vertex.0 after same.0 same.1 in (
      extends-then before.0 edge.0 after e.0 (extends-then edge.0 vertex.0 after v.0 last),
      (λ none.
          let without = sym same.0 ∙ none in
          let right = v.1 without in
          let middle = e.1 (v.0.faultless without) in
          let left = ends (e.0.faultless (v.0.faultless without)) in
          let is_left = v.0.vertices_stay left.1.0 (e.0.vertices_stay left.1.0 left.1.2) in (
            sound-linked_at vertex.0 edge.1 before.1 vertex.1 (length before.0.variables) left.1.0 right.1.0 step.0.out middle.1 left.1.1 right.1.1 right.0 is_left right.1.2,
            (right.1.0, right.1.1, last.vertices_stay right.1.0 right.1.2),
          )),
    )

steps-end : (before : Scope × Option ℕ) (steps : List (EdgePat × VertexPat)) → EndsAtVertex [] before → Vertex [] before.0 (fold spec.after_step before steps)
steps-end before [] ends = (extends-same before.0 before.0 refl refl, ends)
steps-end before (step ∷ steps) ends =
    let one = step-ends before step ends in
    let rest = steps-end (spec.after_step before step) steps one.1 in
    (extends-then before.0 (spec.after_step before step).0 (fold spec.after_step (spec.after_step before step) steps).0 one.0 rest.0, rest.1)

-- after each path, as before it
path-ends : (scope : Scope) (path : Path) → (scope.faults ≡ [] → IsSound [] scope)
    → Extends (spec.after_vertex scope path.first).0 (spec.after_path scope path) × Extends scope (spec.after_path scope path) × ((spec.after_path scope path).faults ≡ [] → IsSound [] (spec.after_path scope path))
path-ends scope path sound =
    let first = vertex_by-ends [] scope path.first path.first.name sound in
    let rest = steps-end (spec.after_vertex scope path.first) path.steps first.1 in
    (rest.0, extends-then scope (spec.after_vertex scope path.first).0 (spec.after_path scope path) first.0 rest.0, (λ none. (rest.1 none).0))

paths-end : (scope : Scope) (paths : List Path) → (scope.faults ≡ [] → IsSound [] scope) → Extends scope (fold spec.after_path scope paths) × ((fold spec.after_path scope paths).faults ≡ [] → IsSound [] (fold spec.after_path scope paths))
paths-end scope [] sound = (extends-same scope scope refl refl, sound)
paths-end scope (path ∷ paths) sound =
    let one = path-ends scope path sound in
    let rest = paths-end (spec.after_path scope path) paths one.2 in
    (extends-then scope (spec.after_path scope path) (fold spec.after_path (spec.after_path scope path) paths) one.1 rest.0, rest.1)

nothing-sound : IsSound [] spec.nothing_declared
nothing-sound = record { few_vertices = omega arith; few_edges = omega arith; vertices = refl; joined = refl; ends = tt; follows = λ set all. tt }

-- the patterns of a query without a fault are sound
pub scope-sound : (paths : List Path) → (spec.scope_of paths).faults ≡ [] → IsSound [] (spec.scope_of paths)
scope-sound paths none = (paths-end spec.nothing_declared paths (λ none. nothing-sound)).1 none

first_vertex : (pattern : VertexPat) (name : Option Placed) → IsVertex (edges_in (spec.vertex_by spec.nothing_declared pattern name).0) 0
first_vertex pattern None = refl
first_vertex pattern (Some placed) = refl

-- and the first variable is a vertex
pub first-is-vertex : (paths : List Path) → 0 < length paths → IsVertex (edges_in (spec.scope_of paths)) 0
first-is-vertex [] some = absurd (omega arith)
first-is-vertex (path ∷ paths) some =
    let one = path-ends spec.nothing_declared path (λ none. nothing-sound) in
    let rest = paths-end (spec.after_path spec.nothing_declared path) paths one.2 in
    rest.0.vertices_stay 0 (one.0.vertices_stay 0 (first_vertex path.first path.first.name))
