-- The number and the line of a status.
use Rattle.std.specs.Prelude.{ℕ, ℤ, pos, List, [], ◌∷◌, ◌++◌, codes}
use Rattle.std.specs.Fmt.{decimal, signed_decimal}
use Rattle.graph_tables.specs.declared.faults.Quantity.{Quantity}
use Rattle.graph_tables.specs.declared.faults.Quantity.TheVariants as quantity
use Rattle.partition.specs.declared.fault.PartFault.{PartFault}
use Rattle.partition.specs.declared.fault.PartFault.TheVariants as part
use Rattle.run_status.specs.declared.status.Status.{Status}
use Rattle.run_status.specs.declared.status.Status.TheVariants.{Done, SomeRefused, Usage, TableFault, OwnerFault, ReadFault, Missing, WriteFault, NoMemory, Limit, ReplayRefused, NotBuilt}

abbrev pub status_number : Status → ℕ
status_number Done = 0
status_number SomeRefused = 1
status_number (Usage word) = 2
status_number (TableFault file row column code cell) = 3
status_number (OwnerFault e) = 3
status_number (ReadFault file) = 4
status_number (Missing file) = 5
status_number WriteFault = 6
status_number NoMemory = 7
status_number (Limit quantity number) = 8
status_number (ReplayRefused line code guard) = 9
status_number (NotBuilt what) = 10

abbrev pub quantity_name : Quantity → List ℕ
quantity_name quantity.FileBytes = codes "FileBytes"
quantity_name quantity.TotalBytes = codes "TotalBytes"
quantity_name quantity.Tables = codes "Tables"
quantity_name quantity.Vertices = codes "Vertices"
quantity_name quantity.Edges = codes "Edges"
quantity_name quantity.Cells = codes "Cells"
quantity_name quantity.Queries = codes "Queries"

-- words, a number, and what stands after it
abbrev pub numbered : List ℕ → ℕ → List ℕ → List ℕ
numbered front number back = front ++ (decimal number ++ back)

abbrev pub line_feed : List ℕ
line_feed = 10 ∷ []

-- a fault's number, and the line and the key that it names, or 0
abbrev pub owners_refused : ℕ → ℕ → ℤ → List ℕ
owners_refused code line key =
    numbered (codes "adfs: owners refused ") code
    (numbered (codes " line ") line
    (codes " key " ++ (signed_decimal key ++ line_feed)))

abbrev pub no_memory_line : List ℕ
no_memory_line = codes "adfs: no memory" ++ line_feed

abbrev pub owner_line : PartFault → List ℕ
owner_line (part.OwnerOutOfRange line) = owners_refused 50 line (pos 0)
owner_line (part.OwnerMissing key) = owners_refused 51 0 key
owner_line (part.BadOwnerLine line) = owners_refused 53 line (pos 0)
owner_line part.NoMemory = no_memory_line

-- the line, with its line feed; nothing where all went well
abbrev pub status_line : Status → List ℕ
status_line Done = []
status_line SomeRefused = []
status_line (Usage word) = numbered (codes "adfs: word ") word (codes " is outside the form" ++ line_feed)
status_line (TableFault file row column code cell) =
    numbered (codes "adfs: file ") file
    (numbered (codes " record ") row
    (numbered (codes " column ") column
    (numbered (codes " refused ") code
    (numbered (codes " cell ") cell line_feed))))
status_line (OwnerFault e) = owner_line e
status_line (ReadFault file) = numbered (codes "adfs: file ") file (codes " read fault" ++ line_feed)
status_line (Missing file) = numbered (codes "adfs: file ") file (codes " missing" ++ line_feed)
status_line WriteFault = codes "adfs: write fault" ++ line_feed
status_line NoMemory = no_memory_line
status_line (Limit quantity number) = codes "adfs: limit " ++ (quantity_name quantity ++ numbered (codes " ") number line_feed)
status_line (ReplayRefused line code guard) =
    numbered (codes "adfs: line ") line
    (numbered (codes " refused ") code
    (numbered (codes " guard ") guard line_feed))
status_line (NotBuilt what) = numbered (codes "adfs: not built ") what line_feed
