-- The first query of a file, read.
use Rattle.std.specs.Prelude.{◌≡◌, ℕ, List, [], ◌∷◌, Option, Some, None}
use Rattle.graph_tables.specs.Graph.{PropertyGraph}
use Rattle.graph_tables.specs.Properties.{SchemaLists}
use Rattle.partition.specs.declared.owner.Owner.{Owner}
use Rattle.query_replies.specs.Replies.{piece_of}
use Rattle.query_replies.specs.Verdicts.{IsAccepted, IsVerdict}
use Rattle.query_replies.specs.declared.reading.Verdict.{Verdict}
use Rattle.query_replies.specs.declared.reading.Verdict.TheVariants as verdict
use Rattle.serial_run.specs.Engines.{HasItsValues}
use Rattle.value_text.specs.Texts.{Kept}
use Rattle.run_replies.specs.Jobs.{Job, schema_of, without_texts}
use Rattle.run_replies.specs.Traces.{IsRefusedBy}
use Rattle.run_replies.specs.declared.first.Asking.{Asking}
use Rattle.run_replies.specs.declared.first.First.{First}
use Rattle.run_replies.specs.declared.first.First.TheVariants.{Absent, Asked, Refused}

-- That comes of the first of the queries that stand at these places of a file. The texts keep their numbers.
abbrev pub IsFirstVerdict : SchemaLists → List ℕ → List (ℕ × ℕ) → List (List ℕ) → List (List ℕ) → Option Verdict → Type 0
IsFirstVerdict schema file [] old new None = Unit {0}
IsFirstVerdict schema file [] old new (Some found) = ⊥
IsFirstVerdict schema file (place ∷ later) old new None = ⊥
IsFirstVerdict schema file (place ∷ later) old new (Some found) = IsVerdict schema 1 place.0 (piece_of file place) old new found × Kept old new

-- the same with the graph over which it is asked, and who owns its vertices
abbrev pub first_of : Option Verdict → PropertyGraph → Owner → First
first_of None graph owner = Absent
first_of (Some (verdict.Refused line)) graph owner = Refused line
first_of (Some (verdict.Accepted query plan)) graph owner = Asked (record { graph = graph; owner = owner; query = query; plan = plan })

-- The query stands at this place of a job's file and has this plan, and is asked over the job's graph.
pub record IsAsking (job : Job) (place : ℕ × ℕ) (texts : List (List ℕ)) (asking : Asking) : Type 0 where
  pub accepted : IsAccepted (schema_of job.graph) place.0 (piece_of job.file place) job.graph.texts texts asking.query asking.plan
  pub values : HasItsValues texts (schema_of job.graph) asking.graph
  pub graph_is : asking.graph ≡ without_texts job.graph
  pub owner_is : asking.owner ≡ job.owner

pub record IsAskingOfSome (texts : List (List ℕ)) (asking : Asking) : Type 0 where
  pub job : Job
  pub place : ℕ × ℕ
  pub is : IsAsking job place texts asking

-- That is what the first query of a job comes to, whose queries stand at these places.
abbrev pub IsFirst : Job → List (ℕ × ℕ) → List (List ℕ) → First → Type 0
IsFirst job [] texts Absent = Unit {0}
IsFirst job [] texts (Refused line) = ⊥
IsFirst job [] texts (Asked asking) = ⊥
IsFirst job (place ∷ later) texts Absent = ⊥
IsFirst job (place ∷ later) texts (Refused line) = IsRefusedBy job place line.items
IsFirst job (place ∷ later) texts (Asked asking) = IsAsking job place texts asking
