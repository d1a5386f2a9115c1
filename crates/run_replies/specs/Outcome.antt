-- What a run comes to, as a function of its words and files: what is to be put, or the status that it ends with.
use Rattle.std.specs.Prelude.{◌≡◌, ℕ, nat_lt, length, Bool, false, List, [], ◌∷◌, codes, Option, Some, None, Result, Ok, Err, slice_index_or, if◌then◌else◌}
use Rattle.std.specs.Str.Lines.{lines}
use Rattle.adfs_base.specs.Files.{Files, file_of}
use Rattle.adfs_base.specs.declared.part_word.PartWord.{PartWord}
use Rattle.adfs_base.specs.declared.part_word.PartWord.TheVariants as part
use Rattle.cli_words.specs.Help.{help_text}
use Rattle.cli_words.specs.declared.command.Command.{Command}
use Rattle.cli_words.specs.declared.command.Command.TheVariants as command
use Rattle.cli_words.specs.declared.options.Options.{Options}
use Rattle.generated_reply.specs.Summary.{Summarizes}
use Rattle.graph_gen.specs.Files.{generated_files}
use Rattle.graph_tables.specs.Graph.{PropertyGraph, Vertex}
use Rattle.graph_loading.specs.Loaded.{loaded}
use Rattle.graph_tables.specs.declared.faults.Quantity.TheVariants as quantity
use Rattle.partition.specs.OwnerFile.{owners_of}
use Rattle.partition.specs.declared.owner.Owner.{Owner}
use Rattle.partition.specs.declared.owner.Owner.TheVariants as owner
use Rattle.pgql_lexer.specs.Pieces.{pieces}
use Rattle.query_replies.specs.Replies.{ArePlans, AreReplies}
use Rattle.run_status.specs.Faults.{limit_of, with_owner_status, with_replay_status, with_status}
use Rattle.run_status.specs.Steps.{◌>>~◌}
use Rattle.run_replies.specs.Jobs.{Job, header_of, schema_of, without_texts}
use Rattle.run_replies.specs.Traces.{IsTaken, IsTraced}
use Rattle.run_replies.specs.Words.{accepted}
use Rattle.run_replies.specs.declared.load.TheConstants.{OWNER_FILE, QUERY_FILE, TRACE_FILE}
use Rattle.run_status.specs.declared.status.Status.{Status}
use Rattle.run_status.specs.declared.status.Status.TheVariants.{Missing, Limit}
use Rattle.trace_text.specs.Headers as headers
use Rattle.trace_text.specs.declared.header.Header.{Header}

-- the bytes of the file of this number, where it is there and isn't too long
abbrev pub file_bytes : ℕ → Option (List ℕ) → Result (List ℕ) Status
file_bytes number None = Err (Missing number)
file_bytes number (Some text) = if nat_lt (limit_of quantity.FileBytes) (length text) then Err (Limit quantity.FileBytes (limit_of quantity.FileBytes)) else Ok text

-- the owner that a file lists
abbrev pub listed_owner : ℕ → List Vertex → Option (List ℕ) → Result Owner Status
listed_owner machines vertices found = file_bytes OWNER_FILE found >>~ λ bytes. with_owner_status (owners_of bytes vertices machines)

-- how the vertices are dealt out to the machines
abbrev pub owner_of : PartWord → ℕ → Files → List Vertex → Result Owner Status
owner_of part.Modulo machines files vertices = Ok owner.Modulo
owner_of part.Block machines files vertices = Ok owner.Block
owner_of (part.Listed name) machines files vertices = listed_owner machines vertices (file_of name files)

-- where the queries stand, if there aren't too many
abbrev pub few_places : List (ℕ × ℕ) → Result (List (ℕ × ℕ)) Status
few_places places = if nat_lt (limit_of quantity.Queries) (length places) then Err (Limit quantity.Queries (limit_of quantity.Queries)) else Ok places

-- a text of queries, and where they stand in it
abbrev pub queries_in : List ℕ → Result (List ℕ × List (ℕ × ℕ)) Status
queries_in text = few_places (pieces text) >>~ λ places. Ok (text, places)

abbrev pub queries_of : Files → List ℕ → Result (List ℕ × List (ℕ × ℕ)) Status
queries_of files name = file_bytes QUERY_FILE (file_of name files) >>~ queries_in

abbrev pub job_with : PropertyGraph → Owner → List ℕ × List (ℕ × ℕ) → Job
job_with graph owner queries = record { graph = graph; owner = owner; file = queries.0; places = queries.1 }

abbrev pub job_of_owner : Files → Header → PropertyGraph → Owner → Result Job Status
job_of_owner files header graph owner = queries_of files header.queries >>~ λ queries. Ok (job_with graph owner queries)

abbrev pub job_of_graph : Files → Header → PropertyGraph → Result Job Status
job_of_graph files header graph = owner_of header.part header.machines files graph.vertices >>~ job_of_owner files header graph

-- what a run is given that is on this: the graph first, then its owner, then the queries
abbrev pub job_of : Files → Header → Result Job Status
job_of files header = with_status (loaded files header.manifest) >>~ job_of_graph files header

-- what is to be put: the help text; the answers to a job, or the plans of its queries; the trace of its first query; what is
-- told of one that is taken again; the summary of a generated graph, of so many vertices and edges
pub data Work : Type 0 where
  Help : Work
  Answers : Job → Work
  Plans : Job → Work
  Traced : Header → Job → Work
  Taken : Header → List ℕ → Job → Work
  Generated : ℕ → ℕ → PropertyGraph → Work

-- The work is done by these replies, one for each query or one in all; and whether one of them is a refusal. A plan rests on
-- the properties and the texts, and not on the graph.
abbrev pub IsDoneBy : Work → List (List ℕ) → Bool → Type 0
IsDoneBy Help replies refused = (replies ≡ help_text ∷ []) × (refused ≡ false)
IsDoneBy (Answers job) replies refused =
    (texts : List (List ℕ)) × AreReplies (without_texts job.graph) (schema_of job.graph) job.file 1 job.places job.graph.texts texts replies refused
IsDoneBy (Plans job) replies refused = (texts : List (List ℕ)) × ArePlans (schema_of job.graph) job.file 1 job.places job.graph.texts texts replies refused
IsDoneBy (Traced header job) replies refused = IsTraced header job job.places replies refused
IsDoneBy (Taken header bytes job) replies refused = IsTaken header bytes job job.places replies refused
IsDoneBy (Generated vertices edges graph) replies refused = Summarizes graph vertices edges replies refused

-- what a command makes of a job
abbrev pub work_on : Command → Header → Job → Work
work_on command.Plan header job = Plans job
work_on command.Trace header job = Traced header job
work_on other header job = Answers job

-- what a command that reads queries comes to
abbrev pub work_of_files : Command → Files → Header → Result Work Status
work_of_files asking files header = job_of files header >>~ λ job. Ok (work_on asking header job)

-- what comes of a trace: its header says what it is on
abbrev pub work_of_header : Files → List ℕ → Header → Result Work Status
work_of_header files bytes header = job_of files header >>~ λ job. Ok (Taken header bytes job)

abbrev pub work_of_trace : Files → List ℕ → Result Work Status
work_of_trace files bytes = with_replay_status (headers.header_of (lines bytes)) >>~ work_of_header files bytes

abbrev pub work_of_seed : ℕ → ℕ → ℕ → Result Work Status
work_of_seed seed vertices edges = with_status (loaded (generated_files seed vertices edges) (codes "graph.txt")) >>~ λ graph. Ok (Generated vertices edges graph)

abbrev pub work_of_command : Command → Files → Options → Result Work Status
work_of_command command.Run files options = work_of_files command.Run files (header_of options)
work_of_command command.Trace files options = work_of_files command.Trace files (header_of options)
work_of_command command.Plan files options = work_of_files command.Plan files (header_of options)
work_of_command command.Replay files options = file_bytes TRACE_FILE (file_of (slice_index_or options.files 0 []) files) >>~ work_of_trace files
work_of_command command.Gen files options = work_of_seed options.seed options.vertices options.edges
work_of_command command.Help files options = Ok Help

abbrev pub work_of : Files → Options → Result Work Status
work_of files options = work_of_command options.command files options

abbrev pub outcome_of : List (List ℕ) → Files → Result Work Status
outcome_of words files = accepted words >>~ work_of files
