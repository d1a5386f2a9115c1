-- The status of a fault in the manifest, a table, the owner file or a trace.
use Rattle.std.specs.Prelude.{ℕ, Result, Ok, Err}
use Rattle.adfs_base.specs.declared.limits.TheConstants.{EDGES, FILE_BYTES, PROPERTY_CELLS, QUERIES, TABLES, TABLE_BYTES, VERTICES}
use Rattle.value_text.specs.declared.cells.CellFault.{CellFault}
use Rattle.value_text.specs.declared.cells.CellFault.TheVariants as cell
use Rattle.graph_tables.specs.declared.faults.Quantity.{Quantity}
use Rattle.graph_tables.specs.declared.faults.Quantity.TheVariants as quantity
use Rattle.graph_tables.specs.declared.faults.TableKind.{TableKind}
use Rattle.graph_tables.specs.declared.faults.TableKind.TheVariants as kind
use Rattle.graph_tables.specs.declared.faults.TableFault as fault
use Rattle.partition.specs.declared.fault.PartFault.{PartFault}
use Rattle.partition.specs.declared.fault.PartFault.TheVariants as part
use Rattle.dfs_worker.specs.declared.guard.Guard.{Guard}
use Rattle.dfs_worker.specs.declared.guard.Guard.TheVariants as guard
use Rattle.trace_text.specs.declared.fault.ReplayFault.{ReplayFault}
use Rattle.trace_text.specs.declared.fault.ReplayFault.TheVariants as replay
use Rattle.run_status.specs.declared.status.Status.{Status}
use Rattle.run_status.specs.declared.status.Status.TheVariants.{TableFault, OwnerFault, ReadFault, Missing, NoMemory, Limit, ReplayRefused}

-- the number at which a quantity is limited
abbrev pub limit_of : Quantity → ℕ
limit_of quantity.FileBytes = FILE_BYTES
limit_of quantity.TotalBytes = TABLE_BYTES
limit_of quantity.Tables = TABLES
limit_of quantity.Vertices = VERTICES
limit_of quantity.Edges = EDGES
limit_of quantity.Cells = PROPERTY_CELLS
limit_of quantity.Queries = QUERIES

-- a fault at its place, by its number and that of its cell
abbrev pub refused : fault.TableFault → ℕ → ℕ → Status
refused e code cell = TableFault e.file e.row e.column code cell

abbrev pub status_of_cell : fault.TableFault → CellFault → Status
status_of_cell e cell.BadInt = refused e 32 20
status_of_cell e cell.WideInt = refused e 32 21
status_of_cell e cell.BadBool = refused e 32 22
status_of_cell e cell.BadDate = refused e 32 23
status_of_cell e cell.BadText = refused e 32 24
status_of_cell e cell.WrongCount = refused e 32 25
status_of_cell e cell.NoMemory = NoMemory

abbrev pub status_of_kind : fault.TableFault → TableKind → Status
status_of_kind e kind.BadManifest = refused e 30 0
status_of_kind e kind.BadHeader = refused e 31 0
status_of_kind e (kind.BadCell f) = status_of_cell e f
status_of_kind e kind.DoubleKey = refused e 33 0
status_of_kind e kind.NoSuchVertex = refused e 34 0
status_of_kind e kind.TooLong = Limit quantity.FileBytes (limit_of quantity.FileBytes)
status_of_kind e (kind.TooMany q) = Limit q (limit_of q)
status_of_kind e kind.Missing = Missing e.file
status_of_kind e kind.ReadFault = ReadFault e.file
status_of_kind e kind.NoMemory = NoMemory

abbrev pub status_of_fault : fault.TableFault → Status
status_of_fault e = status_of_kind e e.kind

-- a graph, or the status of its fault
abbrev pub with_status : {A : Type 0} → Result A fault.TableFault → Result A Status
with_status (Ok x) = Ok x
with_status (Err e) = Err (status_of_fault e)

-- running out of memory is no fault of the file
abbrev pub status_of_owners : PartFault → Status
status_of_owners part.NoMemory = NoMemory
status_of_owners e = OwnerFault e

-- an owner, or the status of its file's fault
abbrev pub with_owner_status : {A : Type 0} → Result A PartFault → Result A Status
with_owner_status (Ok x) = Ok x
with_owner_status (Err e) = Err (status_of_owners e)

abbrev pub guard_number : Guard → ℕ
guard_number guard.Worker = 1
guard_number guard.Hand = 2
guard_number guard.Stack = 3
guard_number guard.Child = 4
guard_number guard.Over = 5
guard_number guard.Local = 6
guard_number guard.Room = 7
guard_number guard.Open = 8
guard_number guard.Limit = 9
guard_number guard.Enrolled = 10
guard_number guard.Roots = 11
guard_number guard.Pool = 12
guard_number guard.Inbox = 13
guard_number guard.Above = 14
guard_number guard.Word = 15
guard_number guard.Marks = 16
guard_number guard.Flying = 17

-- what is told of a trace that can't be taken again: the line, the code and the guard, each 0 where there is none
abbrev pub status_of_replay : ReplayFault → Status
status_of_replay (replay.BadLine line) = ReplayRefused line 60 0
status_of_replay (replay.NotEnabled line guard) = ReplayRefused line 61 (guard_number guard)
status_of_replay replay.NotFinished = ReplayRefused 0 62 0
status_of_replay replay.NoMemory = NoMemory

-- what was read of a trace, or the status of its fault
abbrev pub with_replay_status : {A : Type 0} → Result A ReplayFault → Result A Status
with_replay_status (Ok x) = Ok x
with_replay_status (Err e) = Err (status_of_replay e)
