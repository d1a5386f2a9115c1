-- At the start a world owes the leaves of the tree, and so the rows of a finished one are these.
use Rattle.std.proofs.Common.{◌≡◌, ℕ, ◌+◌, ◌-◌, ◌*◌, ◌/◌, ◌<◌, ◌≤◌, List, [], ◌∷◌, ◌++◌, replicate, Option, Some, None, refl, sym, ap, subst, ◌∙◌, arith, zero, suc}
use Rattle.std.specs.Prelude.{slice_get, slice_index}
use Rattle.std.proofs.lemmas.Option.{get_or_from_slice_get}
use Rattle.adfs_base.specs.Shape.{Extents, IsShape}
use Rattle.match_context.specs.declared.context.Context.{Context}
use Rattle.match_context.specs.Bags.{total, SameBag}
use Rattle.match_context.specs.Leaves.{leaves, root_leaves, machine_leaves, tree_leaves}
use Rattle.match_context.specs.Tree.{Tree, IsTree}
use Rattle.match_context.specs.Weight.{rows_scale, weight}
use Rattle.match_context.proofs.Totals.{total-append, total-push}
use Rattle.match_context.proofs.Weights.{weight-rows}
use Rattle.fabric.specs.Shared.{start}
use Rattle.dfs_worker.specs.declared.event.Event.{Event}
use Rattle.dfs_worker.specs.State.{State, fresh}
use Rattle.dfs_worker.specs.Weight.{weight_roots, weight_slot, weight_worker}
use Rattle.world_core.specs.Owed.{weight_inbox, weight_unclaimed, total_below, owed}
use Rattle.world_core.specs.Rows.{all_rows, IsFinished, RowsAreLeaves}
use Rattle.world_core.specs.Sound.{Sound}
use Rattle.world_core.specs.Step.{Step, Run}
use Rattle.world_core.specs.World.{World, Fits, roots_of, fresh_workers, start_world}
use Rattle.world_core.proofs.Ends.{finished-owes}
use Rattle.world_core.proofs.Starts.{total-alike, zero-at, roots-at, start-sound, start-fits}
use Rattle.world_core.proofs.Steps.{step-sound, step-fits}
use Rattle.world_core.proofs.Weighs.{step-owes}

-- ---- the start
fresh-weighs : (h : Context → ℕ) (t : Tree) (shape : Extents) (i m : ℕ) → weight_worker (rows_scale h) t (fresh shape i m) ≡ 0
fresh-weighs h t shape i m = let none = total-alike (weight_slot (rows_scale h) t) None (shape.stages * shape.machines) refl in omega arith

workers-weigh : (h : Context → ℕ) (t : Tree) (shape : Extents) (n : ℕ) → total (weight_worker (rows_scale h) t) (fresh_workers shape n) ≡ 0
workers-weigh h t shape zero = refl
workers-weigh h t shape (suc n) =
    let one_more = fresh-weighs h t shape n (n / shape.workers) in
    let sum = total-push (weight_worker (rows_scale h) t) (fresh_workers shape n) (fresh shape n (n / shape.workers)) in
    let rest = workers-weigh h t shape n in
    omega arith

roots-weigh : (h : Context → ℕ) (t : Tree) (m n p : ℕ) → weight_roots (rows_scale h) t m n p ≡ total h (root_leaves t m n p)
roots-weigh h t m zero p = refl
roots-weigh h t m (suc n) p =
    let a = weight-rows h t 0 m (t.root m p) in
    let b = roots-weigh h t m n (p + 1) in
    let c = total-append h (leaves t 0 m (t.root m p)) (root_leaves t m n (p + 1)) in
    omega arith

unclaimed-weighs : (h : Context → ℕ) (t : Tree) (shape : Extents) (m : ℕ) → m < shape.machines →
    weight_unclaimed (rows_scale h) t (start shape (roots_of t shape.machines)) m ≡ total h (root_leaves t m (t.roots m) 0)
unclaimed-weighs h t shape m low =
    let cursor = zero-at shape.machines m in
    let roots = get_or_from_slice_get (roots_of t shape.machines) m (t.roots m) 0 (roots-at t shape.machines m low) in
    let left : t.roots m - 0 ≡ t.roots m = omega arith in
    rw (cursor, roots, left) (roots-weigh h t m (t.roots m) 0)

machines-weigh : (h : Context → ℕ) (t : Tree) (shape : Extents) (n : ℕ) → n ≤ shape.machines →
    total_below n (weight_unclaimed (rows_scale h) t (start shape (roots_of t shape.machines))) ≡ total h (machine_leaves t n)
machines-weigh h t shape zero low = refl
machines-weigh h t shape (suc n) low =
    let a = machines-weigh h t shape n (omega arith) in
    let b = unclaimed-weighs h t shape n (omega arith) in
    let c = total-append h (machine_leaves t n) (root_leaves t n (t.roots n) 0) in
    omega arith

pub start-owes : (h : Context → ℕ) (t : Tree) (shape : Extents) → shape.machines ≡ t.machines → owed h t (start_world shape t) ≡ total h (tree_leaves t)
start-owes h t shape machines =
    let workers = workers-weigh h t shape (shape.machines * shape.workers) in
    let inboxes = total-alike (weight_inbox (rows_scale h) t) [] (shape.machines * shape.stages) refl in
    let roots = machines-weigh h t shape shape.machines (omega arith) in
    let same = ap (λ n. total h (machine_leaves t n)) machines in
    omega arith

-- ---- a run
pub record RunKeeps (t : Tree) (w w' : World) : Type 0 where
  pub sound : Sound w'
  pub fits : Fits t w'.shared
  pub owes : (h : Context → ℕ) → owed h t w ≡ owed h t w'

pub run-keeps : (t : Tree) (events : List Event) (w w' : World) → IsTree t → Sound w → Fits t w.shared → Run t w events w' → RunKeeps t w w'
run-keeps t [] w w' law sound fits run =
    subst (RunKeeps t w) (sym run) (record { sound = sound; fits = fits; owes = λ h. refl })
run-keeps t (e ∷ es) w w' law sound fits run =
    let mid = run.0 in
    let step = run.1.0 in
    let rest = run-keeps t es mid w' law (step-sound t w mid e law fits sound step) (step-fits t w mid e law fits sound step) run.1.1 in
    record { sound = rest.sound; fits = rest.fits; owes = λ h. step-owes h t w mid e law fits sound step ∙ rest.owes h }

pub rows_are_leaves : RowsAreLeaves
rows_are_leaves shape t events w is law stages machines run finished h =
    let keeps = run-keeps t events (start_world shape t) w law (start-sound shape t is) (start-fits shape t stages machines) run in
    sym (finished-owes h t w keeps.sound finished) ∙ sym (keeps.owes h) ∙ start-owes h t shape machines
