-- What a load of tables that load gives, from a store that never fails.
use Rattle.std.proofs.Common.{◌≡◌, Result, Ok, Err, IfErr, refl, arith}
use Rattle.std.specs.Prelude.{IsOk}
use Rattle.adfs_base.specs.Counts.{Rose}
use Rattle.graph_tables.specs.Faults as Faults
use Rattle.graph_tables.specs.Faults.{LoadsFault}
use Rattle.graph_tables.specs.Graph.{PropertyGraph}
use Rattle.graph_tables.specs.declared.faults.TableFault.{TableFault}
use Rattle.graph_tables.specs.declared.faults.TableKind.{TableKind}
use Rattle.graph_tables.specs.declared.faults.TableKind.TheVariants as kind
use Rattle.generated_graph.specs.Loading.{Loads}

module _ (due : Result PropertyGraph TableFault) (loads : IsOk due) where
  no_fault : (e : TableFault) → due ≡ Err e → ⊥
  no_fault e is = by due loads is
    where
      by : (r : Result PropertyGraph TableFault) → IsOk r → r ≡ Err e → ⊥
      by (Ok graph) ok f = absurd cc
      by (Err why) ok f = cc ok

  -- of all faults, running out of memory is left
  fault_left : (e : TableFault) (what : TableKind) → e.kind ≡ what → LoadsFault e what due → (e.kind ≡ kind.ReadFault → Rose 0 0) → e.kind ≡ kind.NoMemory
  fault_left e kind.NoMemory is fault rose = is
  fault_left e kind.ReadFault is fault rose = absurd (omega (arith, rose is))
  fault_left e kind.Missing is fault rose = absurd (no_fault e fault)
  fault_left e kind.BadManifest is fault rose = absurd (no_fault e fault)
  fault_left e kind.BadHeader is fault rose = absurd (no_fault e fault)
  fault_left e (kind.BadCell f) is fault rose = absurd (no_fault e fault)
  fault_left e kind.DoubleKey is fault rose = absurd (no_fault e fault)
  fault_left e kind.NoSuchVertex is fault rose = absurd (no_fault e fault)
  fault_left e kind.TooLong is fault rose = absurd (no_fault e fault)
  fault_left e (kind.TooMany q) is fault rose = absurd (no_fault e fault)

  -- what a load of such files gives, from a store that never fails
  pub loads_it : (result : Result PropertyGraph TableFault) → Faults.Loads (λ (g : PropertyGraph). g) result due → IfErr result (λ e. e.kind ≡ kind.ReadFault → Rose 0 0) → Loads result due
  loads_it (Ok graph) gives rose = gives
  loads_it (Err e) gives rose = fault_left e e.kind refl gives rose
