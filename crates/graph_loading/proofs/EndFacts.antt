-- What holds of a load holds of the graph that it ends in.
use Rattle.std.proofs.Common.{◌≡◌, ℕ, Option, Some, None, Result, Ok, Err, IfErr, IfOk, IfSome, OnOk, MatchResult}
use Rattle.adfs_base.specs.Files.{Files}
use Rattle.graph_tables.specs.Faults.{HasCause, Loads}
use Rattle.graph_tables.specs.Graph.{IsWhole, PropertyGraph}
use Rattle.graph_tables.specs.Loading.{IsSound, graph_of}
use Rattle.graph_tables.specs.declared.faults.TableFault.{TableFault}
use Rattle.graph_tables.specs.declared.loading.Loading.{Loading}

-- the graph, if the load went well, or its fault
abbrev Ends : Result ℕ TableFault → PropertyGraph → Result PropertyGraph TableFault → Type 0
Ends loaded graph result = MatchResult loaded (λ _. result ≡ Ok graph) (λ e. result ≡ Err e)

pub end_fault : (P : TableFault → Type 0) (loaded : Result ℕ TableFault) (graph : PropertyGraph) (result : Result PropertyGraph TableFault) → Ends loaded graph result → IfErr loaded P → IfErr result P
end_fault P (Ok n) graph result e h = rw e tt
end_fault P (Err f) graph result e h = rw e h

pub end_whole : (loaded : Result ℕ TableFault) (loading : Loading) (result : Result PropertyGraph TableFault) → Ends loaded (graph_of loading) result → OnOk loaded (IsSound loading) → IfOk result IsWhole
end_whole (Ok n) loading result e h = rw e h.whole
end_whole (Err f) loading result e h = rw e tt

end_loads : (given : Result PropertyGraph TableFault) (loaded : Result ℕ TableFault) (graph : PropertyGraph) (result : Result PropertyGraph TableFault) → Ends loaded graph result
    → Loads (λ (_ : ℕ). graph) loaded given → Loads (λ (g : PropertyGraph). g) result given
end_loads given (Ok n) graph result e h = rw e h
end_loads given (Err f) graph result e h = rw e h

pub end_gives : (told : Option Files) (given : Files → Result PropertyGraph TableFault) (loaded : Result ℕ TableFault) (graph : PropertyGraph) (result : Result PropertyGraph TableFault) → Ends loaded graph result
    → IfSome told (λ files. Loads (λ (_ : ℕ). graph) loaded (given files)) → IfSome told (λ files. Loads (λ (g : PropertyGraph). g) result (given files))
end_gives None given loaded graph result e h = tt
end_gives (Some files) given loaded graph result e h = end_loads (given files) loaded graph result e h

pub end_cause : {F : Type 0} (files : Option F) (faults faults_now misses misses_now : ℕ) (loaded : Result ℕ TableFault) (graph : PropertyGraph) (result : Result PropertyGraph TableFault) → Ends loaded graph result
    → HasCause files faults faults_now misses misses_now loaded → HasCause files faults faults_now misses misses_now result
end_cause files faults faults_now misses misses_now (Ok n) graph result e h = rw e (record { faults_stay = h.faults_stay; misses_stay = h.misses_stay; failed = tt; missing = tt })
end_cause files faults faults_now misses misses_now (Err f) graph result e h = rw e (record { faults_stay = h.faults_stay; misses_stay = h.misses_stay; failed = h.failed; missing = h.missing })
