-- A store in memory, and what each of its loads answers.
use Rattle.std.specs.Prelude.{ℕ, List, Option, Some, None, if◌then◌else◌}
use Rattle.adfs_base.specs.Counts.{counted, is_listed}
use Rattle.adfs_base.specs.Files.{Files, file_of}
use Rattle.adfs_base.specs.declared.store.Loaded.{Loaded}
use Rattle.adfs_base.specs.declared.store.Loaded.TheVariants as loaded

-- its files, the numbers of the loads that fail, how many loads there were, and how many failed
pub record StoreState : Type 0 where
  pub files : Files
  pub failing : List ℕ
  pub loads : ℕ
  pub faults : ℕ

abbrev pub answer_of : Option (List ℕ) → Loaded
answer_of None = loaded.Missing
answer_of (Some bytes) = loaded.Whole

-- what a load answers, and the store after it
abbrev pub load_of : StoreState → List ℕ → Loaded × StoreState
load_of store name =
    if is_listed (counted store.loads) store.failing
    then (loaded.Failed, record store { loads = counted store.loads; faults = counted store.faults })
    else (answer_of (file_of name store.files), record store { loads = counted store.loads })
