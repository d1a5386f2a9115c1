-- The marks of a stage are the front of a table that has room for any.
use Rattle.std.proofs.Common.{◌≡◌, ◌≢◌, ℕ, ◌*◌, ◌<◌, ◌≤◌, Bool, true, false, cond, List, take, replicate, refl, ap, ◌∙◌, arith}
use Rattle.std.proofs.lemmas.List.{take-replicate}
use Rattle.std.proofs.lemmas.Bool.Decides.{nat_tests}
use Rattle.std.proofs.Math.Seq.{take-set-lt}
use Rattle.std.proofs.Math.Nat.{mul-le-mul_left}
use Rattle.std.specs.Prelude.{nat_lt, nat_eq, slice_set}
use Rattle.adfs_base.specs.declared.step_answers.Word.{Word}
use Rattle.stage_termination.specs.Marks.{Marks, words_of, place_of, unmarked, with_mark, moved_to}

few_by : (machines : ℕ) (is_stage is_first : Bool) → machines ≤ 8 → cond is_stage (cond is_first machines (machines * machines)) 0 ≤ 64
few_by machines false is_first few = omega arith
few_by machines true true few = omega arith
few_by machines true false few = let a = mul-le-mul_left machines few in omega arith

-- no stage has more words than the table has places
words_few : (machines stages stage : ℕ) → machines ≤ 8 → words_of machines stages stage ≤ 64
words_few machines stages stage few = few_by machines (nat_lt stage stages) (nat_eq stage 0) few

-- the marks that a table stands for
abbrev pub front : ℕ → ℕ → ℕ → List Bool → Marks
front machines stages stage table =
    record { machines = machines; stages = stages; stage = stage; marked = take (words_of machines stages stage) table }

-- in an empty table none is marked
front_unmarked : (machines stages stage : ℕ) → machines ≤ 8
    → front machines stages stage (replicate 64 false) ≡ unmarked machines stages stage
front_unmarked machines stages stage few =
    rw (take-replicate (words_of machines stages stage) 64 false (words_few machines stages stage few)) refl

-- a mark in the table is one of the stage
pub marked_front : (machines stages stage place : ℕ) (table : List Bool) (marks : Marks) (word : Word)
    → front machines stages stage table ≡ marks → place ≡ place_of marks.machines word → place < words_of machines stages stage
    → front machines stages stage (slice_set table place true) ≡ with_mark marks word
marked_front machines stages stage place table marks word same at within =
    let there : place ≡ place_of machines word = rw (← same) at at in
    rw (take-set-lt (words_of machines stages stage) table place true within)
    (rw there (ap (λ m. with_mark m word) same))

-- another stage has an empty table
pub moved_front : (machines stages stage closed : ℕ) (table : List Bool) (marks : Marks)
    → front machines stages stage table ≡ marks → machines ≤ 8 → closed ≢ stage
    → front machines stages closed (replicate 64 false) ≡ moved_to marks closed
moved_front machines stages stage closed table marks same few other =
    let differs : nat_eq stage closed ≡ false = grind (arith, nat_tests) in
    front_unmarked machines stages closed few
    ∙ (let e : unmarked machines stages closed ≡ moved_to (front machines stages stage table) closed = rw differs refl in e)
    ∙ ap (λ m. moved_to m closed) same

-- the marks of a new closer
pub fresh_front : (machines stages m k : ℕ) (table : List Bool) → machines ≡ m → stages ≡ k → table ≡ replicate 64 false → m ≤ 8
    → front machines stages 0 table ≡ unmarked m k 0
fresh_front machines stages m k table same_machines same_stages empty few =
    rw (same_machines, same_stages, empty) (front_unmarked m k 0 few)
