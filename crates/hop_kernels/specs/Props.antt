-- Facts of plans and trees that have one proof at most.
use Rattle.std.specs.Prelude.{◌≡◌, ℕ, List, [], ◌∷◌, ◌⊎◌, Option, Some, None}
use Rattle.std.specs.List.{AllByRecursion, AllByRecursion-prop}
use Rattle.std.specs.List.Sorted.{IsNonDecreasingBy}
use Rattle.std.proofs.Common.{refl, sym, ap, ◌∙◌, inl, inr}
use Rattle.std.proofs.Props.{props}
use Rattle.std.specs.Coded.{×_prop}
use mathlib.Core.HLevel.{Unit-prop, collapsible→set, prop→set}
use mathlib.Core.Sum.{⊎_set}
use Rattle.match_context.specs.Tree.{AreItems, Below, IsItem, IsTree, Item, Leaf, Pass, Tree}
use Rattle.match_context.specs.declared.context.Context.{Context}
use Rattle.partition.specs.Parts.{Entry, MachinePart}
use Rattle.typed_expr.specs.declared.query.Query.{Query}
use Rattle.stage_plan.specs.declared.hop.Hop.{Hop}
use Rattle.stage_plan.specs.declared.hop.Hop.TheVariants as hop
use Rattle.stage_plan.specs.declared.stage.Gains.{Gains}
use Rattle.stage_plan.specs.declared.stage.Stage.{Stage}
use Rattle.hop_kernels.specs.Fitting.{GainsFit, HopFits, IsThere, ReadsFit, StageFits}
use Rattle.hop_kernels.specs.Spots.{AreNumbered, AreRising}

pub AreNumbered-prop : (parts : List MachinePart) → IsProp (AllByRecursion AreNumbered parts)
AreNumbered-prop parts = AllByRecursion-prop AreNumbered (λ part. hlevel props) parts

rising-prop : (entries : List Entry) → IsProp (IsNonDecreasingBy (λ (e : Entry). e.other) entries)
rising-prop entries = hlevel props

pub AreRising-prop : (parts : List MachinePart) → IsProp (AllByRecursion AreRising parts)
AreRising-prop parts =
    AllByRecursion-prop AreRising (λ part. ×_prop (AllByRecursion-prop _ rising-prop part.outgoing) (AllByRecursion-prop _ rising-prop part.incoming)) parts

ReadsFit-prop : (query : Query) (gains : Gains) → IsProp (ReadsFit query gains)
ReadsFit-prop query gains = hlevel props

HopFits-prop : (query : Query) (taken : Hop) → IsProp (HopFits query taken)
HopFits-prop query (hop.Root variable) = hlevel props
HopFits-prop query (hop.Neighbour out edge to) = hlevel props
HopFits-prop query (hop.Edge out edge to) = hlevel props
HopFits-prop query (hop.Inspect variable) = hlevel props
HopFits-prop query hop.Output = hlevel props

IsThere-prop : (query : Query) (variable : Option ℕ) → IsProp (IsThere query variable)
IsThere-prop query None = hlevel props
IsThere-prop query (Some variable) = hlevel props

GainsFit-prop : (query : Query) (variable : Option ℕ) (gains : Gains) → IsProp (GainsFit query variable gains)
GainsFit-prop query variable gains = hlevel props

StageFits-prop : (query : Query) (stage : Stage) → IsProp (StageFits query stage)
StageFits-prop query stage = hlevel (IsThere-prop, HopFits-prop, GainsFit-prop, props)

pub StagesFit-prop : (query : Query) (stages : List Stage) → IsProp (AllByRecursion (StageFits query) stages)
StagesFit-prop query stages = AllByRecursion-prop (StageFits query) (StageFits-prop query) stages

IsItem-prop : (tree : Tree) (stage : ℕ) (item : Item) → IsProp (IsItem tree stage item)
IsItem-prop tree stage (Below context machine) = hlevel props
IsItem-prop tree stage (Leaf context) = hlevel props
IsItem-prop tree stage Pass = hlevel props

AreItems-prop : (tree : Tree) (stage : ℕ) (items : List Item) → IsProp (AreItems tree stage items)
AreItems-prop tree stage [] = hlevel props
AreItems-prop tree stage (item ∷ items) = ×_prop (IsItem-prop tree stage item) (AreItems-prop tree stage items)

-- an item is a child with its machine, a context, or nothing
abbrev Said : Type 0
Said = (Context × ℕ) ⊎ (Context ⊎ Unit {0})

said : Item → Said
said (Below context machine) = inl (context, machine)
said (Leaf context) = inr (inl context)
said Pass = inr (inr tt)

unsaid : Said → Item
unsaid (inl pair) = Below pair.0 pair.1
unsaid (inr (inl context)) = Leaf context
unsaid (inr (inr nothing)) = Pass

unsaid-said : (item : Item) → unsaid (said item) ≡ item
unfolding said unsaid
unsaid-said (Below context machine) = refl
unsaid-said (Leaf context) = refl
unsaid-said Pass = refl

Said-set : IsSet Said
Said-set = ⊎_set (hlevel props) (⊎_set (hlevel props) (prop→set Unit-prop))

Item-set : IsSet Item
Item-set = collapsible→set (λ x y p. sym (unsaid-said x) ∙ ap unsaid (ap said p) ∙ unsaid-said y)
    (λ x y p q. ap (λ z. sym (unsaid-said x) ∙ ap unsaid z ∙ unsaid-said y) (Said-set (said x) (said y) (ap said p) (ap said q)))

pub IsTree-prop : (tree : Tree) → IsProp (IsTree tree)
IsTree-prop tree = hlevel (AreItems-prop, Item-set, props)
