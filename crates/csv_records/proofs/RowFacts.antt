-- The cells of a row, each where its bytes are.
use Rattle.std.proofs.Common.{◌≡◌, ◌∙◌, refl, arith, add-one, ◌<◌, ◌≤◌, ◌+◌, ◌-◌, ℕ, zero, suc, List, [], ◌∷◌, ◌++◌, length, drop, slice_get, slice_index_or, Some, None, length-append, append_assoc, append-nil}
use Rattle.std.proofs.Math.ListN.{drop_of_length-le}
use Rattle.std.proofs.Math.Seq.{drop-append_seam, take-length}
use Rattle.std.proofs.lemmas.List.{drop-append-le, length-drop, map-append, take-append-le}
use Rattle.csv_records.specs.Rows.{AreThere, IsThere, bytes_of, cells_of}
use Rattle.csv_records.specs.declared.row.Cell.{Cell}
use Rattle.csv_records.specs.declared.row.Cell.TheVariants as cell

pub absent_cell : (made : List ℕ) (cells : List Cell) (i : ℕ) → slice_get cells i ≡ None → slice_index_or (cells_of made cells) i [] ≡ []
absent_cell made [] i e = refl
absent_cell made (c ∷ cells) zero e = cc e
absent_cell made (c ∷ cells) (suc i) e = absent_cell made cells i e

pub present_cell : (made : List ℕ) (cells : List Cell) (i : ℕ) (c : Cell) → slice_get cells i ≡ Some c → slice_index_or (cells_of made cells) i [] ≡ bytes_of made c
present_cell made [] i c e = cc e
present_cell made (d ∷ cells) zero c e = let h : d ≡ c = cc e in rw h refl
present_cell made (d ∷ cells) (suc i) c e = present_cell made cells i c e

-- one of the cells has its bytes
pub there_at : (count : ℕ) (cells : List Cell) (i : ℕ) (c : Cell) → slice_get cells i ≡ Some c → AreThere count cells → IsThere count c
there_at count [] i c e all = cc e
there_at count (d ∷ cells) zero c e all = let h : d ≡ c = cc e in rw (← h) all.0
there_at count (d ∷ cells) (suc i) c e all = there_at count cells i c e all.1

one_more : (count more : ℕ) (c : Cell) → IsThere count c → IsThere (count + more) c
one_more count more (cell.Here bytes) there = tt
one_more count more (cell.Made first end) there = (there.0, omega (arith, there.1))

-- with more bytes the cells still have theirs
pub there_more : (count more : ℕ) (cells : List Cell) → AreThere count cells → AreThere (count + more) cells
there_more count more [] all = tt
there_more count more (c ∷ cells) all = (one_more count more c all.0, there_more count more cells all.1)

pub there_push : (count : ℕ) (cells : List Cell) (c : Cell) → AreThere count cells → IsThere count c → AreThere count (cells ++ c ∷ [])
there_push count [] c all one = (one, tt)
there_push count (d ∷ cells) c all one = (all.0, there_push count cells c all.1 one)

bytes_kept : (made more : List ℕ) (c : Cell) → IsThere (length made) c → bytes_of (made ++ more) c ≡ bytes_of made c
bytes_kept made more (cell.Here bytes) there = refl
bytes_kept made more (cell.Made first end) there =
    let long : end - first ≤ length (drop first made) = omega (arith, length-drop first made, there.0, there.1) in
    rw (drop-append-le first made more (omega (arith, there.0, there.1))) (take-append-le (end - first) (drop first made) more long)

-- with more bytes after them the cells are the same
pub cells_kept : (made more : List ℕ) (cells : List Cell) → AreThere (length made) cells → cells_of (made ++ more) cells ≡ cells_of made cells
cells_kept made more [] all = refl
cells_kept made more (c ∷ cells) all = rw (bytes_kept made more c all.0, cells_kept made more cells all.1) refl

-- what was put together last
pub last_made : (made more : List ℕ) → bytes_of (made ++ more) (cell.Made (length made) (length (made ++ more))) ≡ more
last_made made more =
    let size : length (made ++ more) - length made ≡ length more = omega (arith, length-append made more) in
    rw (drop-append_seam made more, size) (take-length more)

-- a cell that was put together, after the others
pub pushed_copy : (made more : List ℕ) (cells : List Cell) → AreThere (length made) cells
    → cells_of (made ++ more) (cells ++ cell.Made (length made) (length (made ++ more)) ∷ []) ≡ cells_of made cells ++ more ∷ []
pushed_copy made more cells all =
    let last = cell.Made (length made) (length (made ++ more)) in
    map-append (bytes_of (made ++ more)) cells (last ∷ []) ∙ rw (cells_kept made more cells all, last_made made more) refl

-- a row from a cell on
drop_cell : (cells : List (List ℕ)) (i : ℕ) → i < length cells → drop i cells ≡ slice_index_or cells i [] ∷ drop (i + 1) cells
drop_cell [] i h = absurd (omega arith)
drop_cell (c ∷ cells) zero h = refl
drop_cell (c ∷ cells) (suc i) h = rw (add-one (suc i)) (drop_cell cells i (omega arith) ∙ rw (add-one i) refl)

pub one_copied : (done cells all : List (List ℕ)) (i : ℕ) → i < length cells → done ++ drop i cells ≡ all → (done ++ slice_index_or cells i [] ∷ []) ++ drop (i + 1) cells ≡ all
one_copied done cells all i within so_far =
    append_assoc done (slice_index_or cells i [] ∷ []) (drop (i + 1) cells) ∙ (rw (drop_cell cells i within) at so_far)

pub all_copied : (done cells all : List (List ℕ)) (i : ℕ) → length cells ≤ i → done ++ drop i cells ≡ all → done ≡ all
all_copied done cells all i past so_far = rw (drop_of_length-le cells past, append-nil) at so_far
