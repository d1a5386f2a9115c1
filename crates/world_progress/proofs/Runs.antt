-- A run goes on by one event more.
use Rattle.std.proofs.Common.{◌≡◌, ℕ, ◌+◌, ◌<◌, ◌≤◌, List, [], ◌∷◌, ◌++◌, length, length-append, None, Result, Ok, Err, refl, sym, ap, subst, ◌∙◌, arith, zero, suc}
use Rattle.std.specs.Prelude.{IfOk}
use Rattle.std.proofs.lemmas.List.{length-set}
use Rattle.std.proofs.lemmas.Option.{slice_get_within}
use Rattle.adfs_base.specs.Shape.{Extents}
use Rattle.match_context.specs.Bags.{total, SameBag}
use Rattle.match_context.specs.Leaves.{tree_leaves}
use Rattle.world_core.specs.Rows.{all_rows, IsFinished}
use Rattle.world_core.specs.Sound.{Sound}
use Rattle.world_core.proofs.Ends.{finished-owes}
use Rattle.world_core.proofs.Leaves.{start-owes}
use Rattle.match_context.specs.Tree.{Tree}
use Rattle.match_context.specs.declared.context.Context.{Context}
use Rattle.dfs_worker.specs.declared.event.Event.{Event}
use Rattle.world_core.specs.Advances.{AreMade, advances}
use Rattle.world_core.specs.Owed.{owed}
use Rattle.world_core.specs.Step.{Step, Run, guard_of, worker_of, own_part, shared_part}
use Rattle.world_core.specs.Stepped.{IsStepped, stepped_of}
use Rattle.world_core.specs.Work.{work_left}
use Rattle.world_core.specs.World.{World, Fits, start_world}
use Rattle.world_core.proofs.Parts.{enabled-facts}
use Rattle.world_core.proofs.Steps.{happens-is}

pub run-more : (t : Tree) (events : List Event) (e : Event) (old mid new : World) → Run t old events mid → Step t mid e new → Run t old (events ++ e ∷ []) new
run-more t [] e old mid new run step = (new, (subst (λ w. Step t w e new) run step, refl))
run-more t (x ∷ xs) e old mid new run step = (run.0, (run.1.0, run-more t xs e run.0 mid new run.1.1 step))

pub step-length : (t : Tree) (w w' : World) (e : Event) → Step t w e w' → length w'.workers ≡ length w.workers
step-length t w w' e step =
    let x = enabled-facts w e step.enabled in
    ap (λ (u : World). length u.workers) (step.change ∙ happens-is t w e x.0 x.1.at) ∙ length-set w.workers (worker_of e) (own_part t e w.shared x.0)

pub event-in : (w : World) (e : Event) → guard_of w e ≡ None → worker_of e < length w.workers
event-in w e g = let x = enabled-facts w e g in slice_get_within w.workers (worker_of e) x.0 x.1.at

-- how far a run has come
pub record GoesOn (t : Tree) (old now : World) (before after worker : ℕ) : Type 0 where
  pub worker_in : worker ≤ length now.workers
  pub run : (events : List Event) × (Run t old events now × (after ≡ before + length events))
  pub fits : Fits t now.shared
  pub owes : (row : Context → ℕ) → owed row t old ≡ owed row t now
  pub steps : after + work_left t now ≤ before + work_left t old

pub goes-start : (t : Tree) (w : World) (n : ℕ) → Fits t w.shared → GoesOn t w w n n 0
goes-start t w n fits = record { worker_in = omega arith; run = ([], (refl, omega arith)); fits = fits; owes = λ row. refl; steps = omega arith }

pub goes-more : (t : Tree) (old mid new : World) (before after next worker i : ℕ) (e : Event) → GoesOn t old mid before after worker → Step t mid e new → guard_of mid e ≡ None → i ≡ worker_of e → next ≡ after + 1 →
    Fits t new.shared → ((row : Context → ℕ) → owed row t mid ≡ owed row t new) → work_left t new < work_left t mid → GoesOn t old new before next i
goes-more t old mid new before after next worker i e goes step g same more fits owes less =
    let size = step-length t mid new e step in
    let here = event-in mid e g in
    let steps = goes.steps in
    let count = goes.run.1.1 in
    let longer = length-append goes.run.0 (e ∷ []) in
    record {
      worker_in = omega arith;
      run = (goes.run.0 ++ e ∷ [], (run-more t goes.run.0 e old mid new goes.run.1.0 step, omega arith));
      fits = fits;
      owes = λ row. goes.owes row ∙ owes row;
      steps = omega arith;
    }

-- ---- events that were made in one go
pub run-append : (t : Tree) (first later : List Event) (old mid new : World) → Run t old first mid → Run t mid later new → Run t old (first ++ later) new
run-append t [] later old mid new a b = subst (λ w. Run t w later new) a b
run-append t (e ∷ es) later old mid new a b = (a.0, (a.1.0, run-append t es later a.0 mid new a.1.1 b))

run-length : (t : Tree) (events : List Event) (old new : World) → Run t old events new → length new.workers ≡ length old.workers
run-length t [] old new run = ap (λ (w : World). length w.workers) run
run-length t (e ∷ es) old new run = run-length t es run.0 new run.1.1 ∙ step-length t old run.0 e run.1.0

length-advances : (passed w : ℕ) → length (advances passed w) ≡ passed + 1
length-advances zero w = refl
length-advances (suc passed) w = let more = length-advances passed w in omega arith

pub goes-far : (t : Tree) (old mid new : World) (before after next worker passed : ℕ) → GoesOn t old mid before after worker → AreMade t mid worker passed new → next ≡ after + passed + 1 →
    GoesOn t old new before next worker
goes-far t old mid new before after next worker passed goes made more =
    let size = run-length t (advances passed worker) mid new made.run in
    let steps = goes.steps in
    let less = made.work in
    let here = goes.worker_in in
    let count = goes.run.1.1 in
    let longer = length-append goes.run.0 (advances passed worker) in
    let many = length-advances passed worker in
    record {
      worker_in = omega arith;
      run = (goes.run.0 ++ advances passed worker, (run-append t goes.run.0 (advances passed worker) old mid new goes.run.1.0 made.run, omega arith));
      fits = subst (λ s. Fits t s) (sym made.shared) goes.fits;
      owes = λ row. goes.owes row ∙ made.owes row;
      steps = omega arith;
    }

-- the rows that are taken out of a finished world
pub rows-are : (t : Tree) (shape : Extents) (first last : World) (rows : List Context) → shape.machines ≡ t.machines → first ≡ start_world shape t → Sound last → IsFinished last →
    ((row : Context → ℕ) → owed row t first ≡ owed row t last) → rows ≡ all_rows last.workers → SameBag rows (tree_leaves t)
rows-are t shape first last rows machines start sound finished owes are h =
    ap (total h) are ∙ sym (finished-owes h t last sound finished) ∙ sym (owes h) ∙ ap (owed h t) start ∙ start-owes h t shape machines

pub if-ok : {A E : Type 0} (P Q : A → Type 0) (r : Result A E) → IfOk r P → ((x : A) → P x → Q x) → IfOk r Q
if-ok P Q (Ok x) p f = f x p
if-ok P Q (Err e) p f = tt
