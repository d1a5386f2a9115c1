-- What was loaded, as a job.
use Rattle.std.specs.Prelude.{◌≤◌, All, length}
use Rattle.adfs_base.specs.declared.limits.TheConstants.{FILE_BYTES, QUERIES}
use Rattle.graph_tables.specs.Graph.{IsWhole}
use Rattle.partition.specs.Owners.{IsOwner}
use Rattle.pgql_lexer.specs.Places.{LiesBetween}
use Rattle.trace_text.specs.declared.header.Header.{Header}
use Rattle.run_replies.specs.Jobs.{Job}
use Rattle.run_replies.specs.declared.job.Given.{Given}
use Rattle.run_replies.specs.declared.load.Queries.{Queries}

abbrev pub job_seen : Given → Job
job_seen given = record { graph = given.graph; owner = given.owner; file = given.queries.text.items; places = given.queries.places.items }

-- The queries stand in their text, and neither is too long.
pub record AreQueries (queries : Queries) : Type 0 where
  pub short : length queries.text.items ≤ FILE_BYTES
  pub few : length queries.places.items ≤ QUERIES
  pub within : All (LiesBetween 0 (length queries.text.items)) queries.places.items

-- The graph means something, its owner is one of so many machines, and its queries are queries.
pub record IsGiven (header : Header) (given : Given) : Type 0 where
  pub whole : IsWhole given.graph
  pub owned : IsOwner given.owner (length given.graph.vertices) header.machines
  pub asked : AreQueries given.queries
