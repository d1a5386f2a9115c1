-- The columns of a header, one at a time.
use Rattle.std.proofs.Common.{◌≡◌, ◌∙◌, sym, refl, ◌<◌, ◌≤◌, ◌+◌, ℕ, List, length, drop, Some, None, Result, Ok, Err}
use Rattle.std.proofs.lemmas.List.{drop_all}
use Rattle.graph_tables.specs.Faults.{◌>>=◌, fault_at}
use Rattle.graph_tables.specs.Headers.{Heading, columns_from, header_cell, or_bad, with_column}
use Rattle.graph_tables.specs.Headers.{cell_at}
use Rattle.graph_tables.specs.declared.faults.Place.{Place}
use Rattle.graph_tables.specs.declared.faults.TableFault.{TableFault}
use Rattle.graph_tables.specs.declared.faults.TableKind.TheVariants as kind
use Rattle.graph_tables.specs.declared.element_kind.ElementKind.{ElementKind}
use Rattle.graph_tables.proofs.RecordFacts.{drop_cell}

module _ (of : ElementKind) (at : Place) (n place : ℕ) (cells : List (List ℕ)) (h : Heading) (start : Result Heading TableFault)
    (inside : place < length cells) (was : columns_from of at n (drop place cells) h ≡ start) where
  columns_begun : (or_bad at n (with_column of h (header_cell (cell_at cells place))) >>= columns_from of at (n + 1) (drop (place + 1) cells)) ≡ start
  unfolding columns_from
  columns_begun = rw (drop_cell cells place inside) at was

  pub columns_kept : (h2 : Heading) → with_column of h (header_cell (cell_at cells place)) ≡ Some h2 → columns_from of at (n + 1) (drop (place + 1) cells) h2 ≡ start
  columns_kept h2 is = rw is at columns_begun

  pub columns_failed : with_column of h (header_cell (cell_at cells place)) ≡ None → start ≡ Err (fault_at at n kind.BadHeader)
  columns_failed is = sym columns_begun ∙ rw is refl

pub columns_done : (of : ElementKind) (at : Place) (n place : ℕ) (cells : List (List ℕ)) (h : Heading) (start : Result Heading TableFault) → length cells ≤ place
    → columns_from of at n (drop place cells) h ≡ start → start ≡ Ok h
unfolding columns_from
columns_done of at n place cells h start past was = sym was ∙ rw (drop_all place cells past) refl
