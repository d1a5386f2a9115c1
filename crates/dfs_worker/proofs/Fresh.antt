-- A worker at the start of a run may take a turn.
use Rattle.std.proofs.Common.{◌≡◌, ℕ, ◌*◌, ◌/◌, ◌<◌, true, false, get_or, replicate, Some, None, refl, sym, arith, zero, suc}
use Rattle.std.proofs.lemmas.List.{length-replicate}
use Rattle.std.proofs.lemmas.Nat.{div_below}
use Rattle.std.proofs.lemmas.Option.{none-some}
use Rattle.adfs_base.specs.Shape.{Extents, IsShape}
use Rattle.fabric.specs.Account.{Holding}
use Rattle.match_context.specs.Bags.{total}
use Rattle.match_context.specs.Tree.{Tree}
use Rattle.match_context.specs.declared.message.Message.{Message}
use Rattle.dfs_worker.specs.Census.{Census, count, of_slot}
use Rattle.dfs_worker.specs.Sound.{IsWorker, TreeFits}
use Rattle.dfs_worker.specs.State.{State, fresh}
use Rattle.dfs_worker.specs.Turn.{own_credits, works_of, homes_of, Holds, Fits}
use Rattle.dfs_worker.proofs.Looking.{unmarked-none}

-- ---- it is a worker
none-at : (n at : ℕ) (message : Message) → get_or (replicate n None) at None ≡ Some message → ⊥
none-at zero at message e = none-some message e
none-at (suc n) zero message e = none-some message e
none-at (suc n) (suc at) message e = none-at n at message e

pub fresh-keeps : (shape : Extents) (w : ℕ) → IsShape shape → w < shape.machines * shape.workers → IsWorker (fresh shape w (w / shape.workers))
fresh-keeps shape w is within =
    let some = is.some_worker in
    record {
      shape = is;
      machine = div_below w shape.workers shape.machines some within;
      stack = tt;
      slots = record {
        stages = refl;
        machines = refl;
        places = length-replicate (shape.stages * shape.machines) None;
        each_open = λ at message e. absurd (none-at (shape.stages * shape.machines) at message e);
      };
      hand = tt;
      mark_stages = refl;
      mark_machines = refl;
    }

-- ---- it holds nothing, and is enrolled
abbrev pub fresh_holding : Holding
fresh_holding = record {
  enrolled = true;
  opens = λ stage to. 0;
  works = λ from stage. 0;
  buffers = λ home. 0;
  ended = false;
  closed = 0;
  marked = λ word. false;
  looked = false;
}

total-none : (number : ℕ → ℕ → ℕ → ℕ → ℕ) (n : ℕ) → total (of_slot number) (replicate n None) ≡ 0
total-none number zero = refl
total-none number (suc n) = let rest = total-none number n in omega arith

fresh-count : (census : Census) (shape : Extents) (w machine : ℕ) → count census (fresh shape w machine) ≡ 0
fresh-count census shape w machine = let none = total-none census.opened (shape.stages * shape.machines) in omega arith

fresh-holds : (shape : Extents) (w machine : ℕ) → Holds (fresh shape w machine) fresh_holding
fresh-holds shape w machine = record {
  enrolled = refl;
  opens = λ stage to. sym (fresh-count (own_credits stage to) shape w machine);
  works = λ from stage. sym (fresh-count (works_of from stage) shape w machine);
  buffers = λ home. sym (fresh-count (homes_of home) shape w machine);
  seen = omega arith;
  marked = λ e word. sym (unmarked-none shape.machines shape.stages 0 word);
  unmarked = λ low word. refl;
}

pub fresh-fits : {F : Type 0} (agrees : F → ℕ → Holding → Type 0) (shape : F → Extents) (roots : F → ℕ → ℕ) (tree : Tree) (v : State) (f : F) (extents : Extents) (w : ℕ) →
    v ≡ fresh extents w (w / extents.workers) → IsShape extents → w < extents.machines * extents.workers → TreeFits tree extents → shape f ≡ extents →
    ((machine : ℕ) → machine < extents.machines → roots f machine ≡ tree.roots machine) → agrees f w fresh_holding → Fits agrees shape roots tree v f
fresh-fits agrees shape roots tree v f extents w is a b fits same_shape same_roots agreed =
    rw is
    (record {
      worker = fresh-keeps extents w a b;
      number = refl;
      within = tt;
      tree_fits = fits;
      same_shape = same_shape;
      same_roots = same_roots;
      holding = fresh_holding;
      holds = fresh-holds extents w (w / extents.workers);
      agreed = agreed;
    })
