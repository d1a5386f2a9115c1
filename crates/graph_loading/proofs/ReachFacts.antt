-- Which files a load comes to.
use Rattle.std.proofs.Common.{◌≡◌, ◌∙◌, sym, ap, refl, arith, ℕ, zero, suc, ◌<◌, ◌≤◌, ◌+◌, ◌-◌, List, [], ◌∷◌, ◌++◌, drop, length, take, slice_get, Option, Some, None, IfSome, IsOk, Result, Ok, Err, inl, inr, add-one}
use Rattle.std.proofs.lemmas.List.{length-take}
use Rattle.adfs_base.specs.Files.{Files}
use Rattle.element_store.proofs.RowFacts.{take_more}
use Rattle.graph_tables.specs.Faults.{◌>>=◌}
use Rattle.graph_tables.specs.Graph.{PropertyGraph, empty_graph}
use Rattle.graph_tables.specs.declared.faults.TableFault.{TableFault}
use Rattle.graph_tables.specs.declared.manifest.TableLine.{TableLine}
use Rattle.graph_loading.specs.Loaded.{tables_from, tables_named, with_table}
use Rattle.graph_loading.specs.Reaching.{IsReached, IsTableReached}

-- some tables and one more
tables_from-push : (files : Files) (n : ℕ) (tables : List TableLine) (table : TableLine) (start : ℕ × PropertyGraph)
    → tables_from files n (tables ++ table ∷ []) start ≡ (tables_from files n tables start >>= with_table files (n + length tables) table)
unfolding tables_from
tables_from-push files n [] table start = let same : n + 0 ≡ n = omega arith in rw same (ends (with_table files n table start))
  where
    ends : (r : Result (ℕ × PropertyGraph) TableFault) → (r >>= tables_from files (n + 1) []) ≡ r
    ends (Ok x) = refl
    ends (Err e) = refl
tables_from-push files n (t ∷ ts) table start = by (with_table files n t start) (λ x. tables_from-push files (n + 1) ts table x)
  where
    by : (r : Result (ℕ × PropertyGraph) TableFault) → ((x : ℕ × PropertyGraph) → tables_from files (n + 1) (ts ++ table ∷ []) x ≡ (tables_from files (n + 1) ts x >>= with_table files (n + 1 + length ts) table))
        → (r >>= tables_from files (n + 1) (ts ++ table ∷ [])) ≡ ((r >>= tables_from files (n + 1) ts) >>= with_table files (n + length (t ∷ ts)) table)
    by (Ok x) more = let place : n + length (t ∷ ts) ≡ n + 1 + length ts = omega arith in rw place (more x)
    by (Err e) more = refl

-- the tables before this one load
abbrev pub AreLoaded : Option Files → List TableLine → ℕ → ℕ × PropertyGraph → Type 0
AreLoaded told tables i so_far = IfSome told (λ files. tables_from files 1 (take i tables) (0, empty_graph) ≡ Ok so_far)

pub none_loaded : (told : Option Files) (tables : List TableLine) → AreLoaded told tables 0 (0, empty_graph)
unfolding tables_from
none_loaded None tables = tt
none_loaded (Some files) tables = refl

pub tables_begun : (told : Option Files) (tables : List TableLine) → IfSome told (λ files. tables_from files (0 + 1) (drop 0 tables) (0, empty_graph) ≡ tables_from files 1 tables (0, empty_graph))
tables_begun None tables = tt
tables_begun (Some files) tables = refl

pub one_more_loaded : (told : Option Files) (tables : List TableLine) (i : ℕ) (table : TableLine) (before after : ℕ × PropertyGraph) → slice_get tables i ≡ Some table → i < length tables
    → AreLoaded told tables i before → IfSome told (λ files. with_table files (i + 1) table before ≡ Ok after) → AreLoaded told tables (i + 1) after
one_more_loaded None tables i table before after there within was is = tt
one_more_loaded (Some files) tables i table before after there within was is =
    let place : 1 + length (take i tables) ≡ i + 1 = omega (arith, length-take i tables) in
    rw (take_more i tables table there, tables_from-push files 1 (take i tables) table (0, empty_graph), was, place) is

pub reached : (told : Option Files) (tables : List TableLine) (i : ℕ) (so_far : ℕ × PropertyGraph) → i < length tables → AreLoaded told tables i so_far → IfSome told (λ files. IsTableReached files tables (i + 1))
reached None tables i so_far within was = tt
reached (Some files) tables i so_far within was =
    let before : i + 1 - 1 ≡ i = omega arith in
    record { first = omega arith; last = omega (arith, within); before = rw (before, was) refl }
