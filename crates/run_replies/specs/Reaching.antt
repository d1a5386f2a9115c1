-- Which files a run comes to, by their numbers. It loads one after the other, and goes on only where all went well so far.
use Rattle.std.specs.Prelude.{◌≡◌, ◌≤◌, ℕ, List, [], slice_index_or, Option, IfSome, Result, Ok, Err, ◌⊎◌}
use Rattle.std.specs.Str.Lines.{lines}
use Rattle.adfs_base.specs.Files.{Files, file_of}
use Rattle.adfs_base.specs.declared.limits.TheConstants.{TABLES}
use Rattle.adfs_base.specs.declared.part_word.PartWord.{PartWord}
use Rattle.adfs_base.specs.declared.part_word.PartWord.TheVariants as part
use Rattle.cli_words.specs.declared.command.Command.{Command}
use Rattle.cli_words.specs.declared.command.Command.TheVariants as command
use Rattle.cli_words.specs.declared.options.Options.{Options}
use Rattle.graph_loading.specs.Loaded.{loaded}
use Rattle.graph_loading.specs.Reaching.{IsReached}
use Rattle.graph_tables.specs.Graph.{PropertyGraph}
use Rattle.run_replies.specs.Jobs.{header_of}
use Rattle.run_replies.specs.Outcome.{file_bytes, owner_of}
use Rattle.run_replies.specs.declared.load.TheConstants.{OWNER_FILE, QUERY_FILE, TRACE_FILE}
use Rattle.run_status.specs.Faults.{with_status}
use Rattle.run_status.specs.declared.status.Status.{Status}
use Rattle.trace_text.specs.Headers as headers
use Rattle.trace_text.specs.declared.header.Header.{Header}

-- The file has this number, whatever the store's files are.
abbrev pub IsFile : ℕ → Option Files → ℕ → Type 0
IsFile number files file = file ≡ number

-- The file is one of the first, which a step loads; or the step goes well, and the file is one of the next, which follow from
-- what it gave. Where the store doesn't tell its files, the step may have given anything.
abbrev pub Then : {A : Type 0} → (Option Files → ℕ → Type 0) → (Files → Result A Status) → (A → Option Files → ℕ → Type 0) → Option Files → ℕ → Type 0
Then {A} First step Next files file = First files file ⊎ ((given : A) × IfSome files (λ told. step told ≡ Ok given) × Next given files file)

-- ---- a graph, who owns its vertices, and the queries

-- The file is the manifest or a table. Where the files are told, the manifest names that table, and the tables before it load.
pub record GraphReaches (manifest : List ℕ) (files : Option Files) (file : ℕ) : Type 0 where
  pub number : file ≤ TABLES
  pub reached : IfSome files (λ told. IsReached told manifest file)

-- An owner file is named.
abbrev pub NamesOwners : PartWord → Type 0
NamesOwners (part.Listed name) = Unit {0}
NamesOwners word = ⊥

-- The file is the owner file, and one is named.
abbrev pub OwnerReaches : PartWord → Option Files → ℕ → Type 0
OwnerReaches word files file = (file ≡ OWNER_FILE) × NamesOwners word

-- The graph was loaded: now who owns its vertices, and then the query file.
abbrev pub RestReaches : Header → PropertyGraph → Option Files → ℕ → Type 0
RestReaches header graph files file =
    Then (OwnerReaches header.part) (λ told. owner_of header.part header.machines told graph.vertices) (λ owner. IsFile QUERY_FILE) files file

-- all that is loaded for queries: the graph first
abbrev pub JobReaches : Header → Option Files → ℕ → Type 0
JobReaches header files file = Then (GraphReaches header.manifest) (λ told. with_status (loaded told header.manifest)) (RestReaches header) files file

-- ---- a trace that is taken again

-- The bytes have the header of a trace, and the file is one of those that the header names.
abbrev pub HeaderReaches : List ℕ → Option Files → ℕ → Type 0
HeaderReaches bytes files file = (header : Header) × (headers.header_of (lines bytes) ≡ Ok header) × JobReaches header files file

-- the trace of this name first
abbrev pub TraceReaches : List ℕ → Option Files → ℕ → Type 0
TraceReaches name files file = Then (IsFile TRACE_FILE) (λ told. file_bytes TRACE_FILE (file_of name told)) HeaderReaches files file

-- ---- by the words

abbrev pub CommandReaches : Command → Options → Option Files → ℕ → Type 0
CommandReaches command.Run options files file = JobReaches (header_of options) files file
CommandReaches command.Trace options files file = JobReaches (header_of options) files file
CommandReaches command.Plan options files file = JobReaches (header_of options) files file
CommandReaches command.Replay options files file = TraceReaches (slice_index_or options.files 0 []) files file
CommandReaches command.Gen options files file = ⊥
CommandReaches command.Help options files file = ⊥

-- Words that aren't accepted come to no file.
abbrev pub WordsReach : Result Options Status → Option Files → ℕ → Type 0
WordsReach (Ok options) files file = CommandReaches options.command options files file
WordsReach (Err status) files file = ⊥
