-- What cells say that aren't empty.
use Rattle.std.proofs.Common.{◌≡◌, ℕ, ◌==◌, false, List, [], ◌∷◌, length, Result}
use Rattle.adfs_base.specs.declared.value.Kind.{Kind}
use Rattle.adfs_base.specs.declared.value.Value.{Value}
use Rattle.value_text.specs.Cells.{Gives, cell_value, filled_cell}
use Rattle.value_text.specs.declared.cells.CellFault.{CellFault}

pub filled : (kind : Kind) (cell : List ℕ) (texts : List (List ℕ)) (r : Result Value CellFault) → (length cell == 0) ≡ false → Gives r texts (filled_cell kind cell texts) → Gives r texts (cell_value kind cell texts)
filled kind [] texts r some h = cc some
filled kind (b ∷ rest) texts r some h = h
