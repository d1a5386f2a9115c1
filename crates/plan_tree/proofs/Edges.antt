-- How often an edge stands among the edges at a vertex.
use Rattle.std.proofs.Common.{◌≡◌, ℕ, zero, suc, ◌+◌, ◌<◌, Bool, true, false, cond, ◌&&◌, ◌==◌, eqb, List, [], ◌∷◌, length, Option, Some, None, count_by, filter}
use Rattle.std.proofs.Common.{refl, ap, ap₂, ◌∙◌, subst, arith, add-zero}
use Rattle.std.specs.Prelude.{slice_get}
use Rattle.std.specs.List.{AllByRecursion}
use Rattle.std.proofs.lemmas.Bool.{eq-eqb, ne_eqb}
use Rattle.std.proofs.lemmas.List.Sums.{sum_by-cons}
use Rattle.element_store.specs.Elements.{Element}
use Rattle.graph_tables.specs.Graph.{Edge, EndsIn, PropertyGraph}
use Rattle.partition.specs.Parts.{near_end, numbered, other_end}
use Rattle.plan_tree.specs.Rows.{edges_at}
use Rattle.plan_tree.proofs.Bags.{bit}

-- the edge leads from the one vertex to the other, going out or in
abbrev pub leads : Option Edge → Bool → ℕ → ℕ → Bool
leads None out from to = false
leads (Some e) out from to = eqb (near_end out e) from && eqb (other_end out e) to

abbrev pub is_numbered : Bool → ℕ → ℕ → ℕ × Edge → Bool
is_numbered out other number e = eqb (other_end out e.1) other && eqb e.0 number

abbrev at_vertex : Bool → ℕ → ℕ × Edge → Bool
at_vertex out vertex e = near_end out e.1 == vertex

no_bit : (b : Bool) → bit (b && false) ≡ 0
no_bit true = refl
no_bit false = refl

and_bit : (b : Bool) → bit (b && true) ≡ bit b
and_bit true = refl
and_bit false = refl

numbered-before : (out : Bool) (vertex other number k : ℕ) (es : List Edge) → number < k
    → count_by (is_numbered out other number) (filter (at_vertex out vertex) (numbered k es)) ≡ 0
numbered-before out vertex other number k [] before = refl
numbered-before out vertex other number k (e ∷ es) before =
    let rest = numbered-before out vertex other number (k + 1) es (omega arith) in
    let later = filter (at_vertex out vertex) (numbered (k + 1) es) in
    elim (eqb (near_end out e) vertex) as (λ b. count_by (is_numbered out other number) (cond b ((k, e) ∷ later) later) ≡ 0) [
      | true ↦
          sum_by-cons (λ n. bit (is_numbered out other number n)) (k, e) later
          ∙ ap₂ ◌+◌ (ap (λ b. bit (eqb (other_end out e) other && b)) (ne_eqb k number (λ e. omega arith)) ∙ no_bit (eqb (other_end out e) other)) rest
      | false ↦ rest
    ]

numbered-at : (out : Bool) (vertex other number k j : ℕ) (es : List Edge) → number ≡ k + j
    → count_by (is_numbered out other number) (filter (at_vertex out vertex) (numbered k es)) ≡ bit (leads (slice_get es j) out vertex other)
numbered-at out vertex other number k j [] is = refl
numbered-at out vertex other number k zero (e ∷ es) is =
    let rest = numbered-before out vertex other number (k + 1) es (omega arith) in
    let later = filter (at_vertex out vertex) (numbered (k + 1) es) in
    elim (eqb (near_end out e) vertex) as (λ b. count_by (is_numbered out other number) (cond b ((k, e) ∷ later) later) ≡ bit (b && eqb (other_end out e) other)) [
      | true ↦
          sum_by-cons (λ n. bit (is_numbered out other number n)) (k, e) later
          ∙ ap₂ ◌+◌ (ap (λ b. bit (eqb (other_end out e) other && b)) (eq-eqb k number (omega arith)) ∙ and_bit (eqb (other_end out e) other)) rest
          ∙ add-zero (bit (eqb (other_end out e) other))
      | false ↦ rest
    ]
numbered-at out vertex other number k (suc j) (e ∷ es) is =
    let rest = numbered-at out vertex other number (k + 1) j es (omega arith) in
    let later = filter (at_vertex out vertex) (numbered (k + 1) es) in
    elim (eqb (near_end out e) vertex) as (λ b. count_by (is_numbered out other number) (cond b ((k, e) ∷ later) later) ≡ bit (leads (slice_get es j) out vertex other)) [
      | true ↦
          sum_by-cons (λ n. bit (is_numbered out other number n)) (k, e) later
          ∙ ap₂ ◌+◌ (ap (λ b. bit (eqb (other_end out e) other && b)) (ne_eqb k number (λ e. omega arith)) ∙ no_bit (eqb (other_end out e) other)) rest
          ∙ zero_plus (bit (leads (slice_get es j) out vertex other))
      | false ↦ rest
    ]
  where
    zero_plus : (n : ℕ) → 0 + n ≡ n
    zero_plus n = omega arith

-- an edge stands once among the edges at its near end, with its other end, and nowhere else
pub count_by-edges_at : (g : PropertyGraph) (out : Bool) (vertex other number : ℕ)
    → count_by (is_numbered out other number) (edges_at g out vertex) ≡ bit (leads (slice_get g.edges number) out vertex other)
count_by-edges_at g out vertex other number = numbered-at out vertex other number 0 number g.edges (omega arith)

abbrev pub IsInside : ℕ → ℕ → Bool → ℕ × Edge → Type 0
IsInside edges vertices out e = (e.0 < edges) × (other_end out e.1 < vertices)

numbered-inside : (vs : List Element) (out : Bool) (vertex k : ℕ) (es : List Edge) → AllByRecursion (EndsIn vs) es
    → AllByRecursion (IsInside (k + length es) (length vs) out) (filter (at_vertex out vertex) (numbered k es))
numbered-inside vs out vertex k [] ends = tt
numbered-inside vs out vertex k (e ∷ es) ends =
    let rest = numbered-inside vs out vertex (k + 1) es ends.1 in
    let P : ℕ × Edge → Type 0 = IsInside (k + suc (length es)) (length vs) out in
    let later = filter (at_vertex out vertex) (numbered (k + 1) es) in
    let tail : AllByRecursion P later =
    subst (λ m. AllByRecursion (IsInside m (length vs) out) later) (let same : k + 1 + length es ≡ k + suc (length es) = omega arith in same) rest in
    elim (eqb (near_end out e) vertex) as (λ b. AllByRecursion P (cond b ((k, e) ∷ later) later)) [ true ↦ ((omega arith, far out), tail) | false ↦ tail ]
  where
    far : (out : Bool) → other_end out e < length vs
    far true = ends.0.1
    far false = ends.0.0

pub edges_at-inside : (g : PropertyGraph) (out : Bool) (vertex : ℕ) → AllByRecursion (EndsIn g.vertices) g.edges
    → AllByRecursion (IsInside (length g.edges) (length g.vertices) out) (edges_at g out vertex)
edges_at-inside g out vertex ends =
    subst (λ m. AllByRecursion (IsInside m (length g.vertices) out) (edges_at g out vertex)) (let same : 0 + length g.edges ≡ length g.edges = omega arith in same)
    (numbered-inside g.vertices out vertex 0 g.edges ends)
