-- The parts of a graph number their vertices.
use Rattle.std.proofs.Common.{ℕ, ◌<◌, ◌^◌, List, [], ◌∷◌, length, map, sym, ap, ◌∙◌, subst}
use Rattle.std.specs.List.{AllByRecursion, range_with_len}
use Rattle.std.proofs.lemmas.List.{length-map}
use Rattle.std.proofs.lemmas.List.FromFn.{length-map-range_with_len}
use Rattle.graph_tables.specs.Graph.{PropertyGraph}
use Rattle.partition.specs.Parts.{MachinePart, part_of, vertices_of}
use Rattle.partition.specs.declared.owner.Owner.{Owner}
use Rattle.hop_kernels.specs.Over.{AreParts}
use Rattle.hop_kernels.specs.Spots.{AreNumbered}

numbered-of : (g : PropertyGraph) (o : Owner) (machines : ℕ) (ms : List ℕ) → AllByRecursion AreNumbered (map (λ m. part_of g o machines m) ms)
numbered-of g o machines [] = tt
numbered-of g o machines (m ∷ ms) = (here, numbered-of g o machines ms) where
  here : AreNumbered (part_of g o machines m)
  here = length-map (vertices_of _ m g.vertices) (λ v. v.0) ∙ sym (length-map (vertices_of _ m g.vertices) (λ v. v.1))

pub parts-numbered : (parts : List MachinePart) → AreParts parts → AllByRecursion AreNumbered parts
parts-numbered parts are = subst (AllByRecursion AreNumbered) (sym are.parts_are) (numbered-of are.graph are.owner are.machines (range_with_len 0 are.machines))

pub parts-few : (parts : List MachinePart) → AreParts parts → length parts < 2 ^ 32
parts-few parts are =
    subst (λ n. n < 2 ^ 32) (sym (ap length are.parts_are ∙ length-map-range_with_len (λ m. part_of are.graph are.owner are.machines m) 0 are.machines)) are.few
