-- What a worker holds of what is shared, after each call.
use Rattle.std.proofs.Common.{◌≡◌, ℕ, ◌+◌, ◌-◌, refl, sym, ap, ◌∙◌, subst, arith}
use Rattle.adfs_base.specs.Shape.{Extents}
use Rattle.adfs_base.specs.declared.step_answers.Word.{Word}
use Rattle.fabric.specs.Account.{Holding, SameHolding, Call, Given, Allows, holds_after, unlooked, at_end}
use Rattle.fabric.specs.Fabric.{MayCall, SameExtent, Ready, Missed}
use Rattle.match_context.specs.Tree.{Tree}
use Rattle.stage_termination.specs.Marks.{Marks, is_marked}
use Rattle.dfs_worker.specs.Census.{Census, count}
use Rattle.dfs_worker.specs.Sound.{IsWorker, WithinRoots}
use Rattle.dfs_worker.specs.State.{State}
use Rattle.dfs_worker.specs.Turn.{own_credits, works_of, homes_of, Holds, Fits}

pub SameHolding-refl : (x : Holding) → SameHolding x x
SameHolding-refl x = record {
  enrolled = refl;
  opens = λ _ _. refl;
  works = λ _ _. refl;
  buffers = λ _. refl;
  ended = refl;
  closed = refl;
  marked = λ _. refl;
  looked = refl;
}

-- ---- the fabric may be asked
pub may-call : {F : Type 0} (agrees : F → ℕ → Holding → Type 0) (shape : F → Extents) (roots : F → ℕ → ℕ) (tree : Tree) (v : State) (f : F) (call : Call) →
    (h : Fits agrees shape roots tree v f) → Allows v.shape h.holding call → MayCall agrees shape f v.number call
may-call agrees shape roots tree v f call h allowed =
    (h.holding, (h.agreed, subst (λ s. Allows s h.holding call) (sym h.same_shape) allowed))

-- ---- what is held by a change of all counts
pub holds-by : (v v' : State) (x x' : Holding) (lost won : Census → ℕ) → ((census : Census) → count census v' + lost census ≡ count census v + won census) →
    x'.enrolled ≡ v'.enrolled → v'.marks ≡ v.marks → x'.closed ≡ x.closed → ((word : Word) → x'.marked word ≡ x.marked word) →
    ((i j : ℕ) → x'.opens i j ≡ x.opens i j + won (own_credits i j) - lost (own_credits i j)) →
    ((i j : ℕ) → x'.works i j ≡ x.works i j + won (works_of i j) - lost (works_of i j)) →
    ((i : ℕ) → x'.buffers i ≡ x.buffers i + won (homes_of i) - lost (homes_of i)) → Holds v x → Holds v' x'
holds-by v v' x x' lost won changed enrolled same closed marked opens works buffers h = record {
  enrolled = enrolled;
  opens = λ i j. let a = opens i j in let b = changed (own_credits i j) in let c = h.opens i j in omega arith;
  works = λ i j. let a = works i j in let b = changed (works_of i j) in let c = h.works i j in omega arith;
  buffers = λ i. let a = buffers i in let b = changed (homes_of i) in let c = h.buffers i in omega arith;
  seen = rw (same, closed) h.seen;
  marked = λ e word. marked word ∙ h.marked (sym (ap (λ (m : Marks). m.stage) same) ∙ e ∙ closed) word ∙ ap (λ (m : Marks). is_marked m word) (sym same);
  unmarked = λ lt word. marked word ∙ h.unmarked (let a = ap (λ (m : Marks). m.stage) same in omega arith) word;
}

-- what is seen beside it doesn't count
pub unlooked-holds : (v : State) (x : Holding) → Holds v x → Holds v (unlooked x)
unlooked-holds v x h =
    record { enrolled = h.enrolled; opens = h.opens; works = h.works; buffers = h.buffers; seen = h.seen; marked = h.marked; unmarked = h.unmarked }

pub at_end-holds : (v : State) (x : Holding) → Holds v x → Holds v (at_end x)
at_end-holds v x h =
    record { enrolled = h.enrolled; opens = h.opens; works = h.works; buffers = h.buffers; seen = h.seen; marked = h.marked; unmarked = h.unmarked }

-- ---- the turn goes on
pub record SameSelf (v v' : State) : Type 0 where
  pub number : v'.number ≡ v.number
  pub machine : v'.machine ≡ v.machine
  pub shape : v'.shape ≡ v.shape

pub fits-with : {F : Type 0} (agrees : F → ℕ → Holding → Type 0) (shape : F → Extents) (roots : F → ℕ → ℕ) (tree : Tree) (v v' : State) (f f' : F) (y : Holding) →
    Fits agrees shape roots tree v f → SameExtent shape roots f f' → IsWorker v' → SameSelf v v' → WithinRoots (tree.roots v.machine) v'.stack → Holds v' y →
    agrees f' v.number y → Fits agrees shape roots tree v' f'
fits-with agrees shape roots tree v v' f f' y h same worker self within holds agreed = record {
  worker = worker;
  number = rw (self.machine, self.number, self.shape) h.number;
  within = rw self.machine within;
  tree_fits = rw self.shape h.tree_fits;
  same_shape = same.same_shape ∙ h.same_shape ∙ sym self.shape;
  same_roots = λ m low. same.same_roots m ∙ h.same_roots m (let e = ap (λ (s : Extents). s.machines) self.shape in omega arith);
  holding = y;
  holds = holds;
  agreed = rw self.number agreed;
}

-- after a ready answer
pub fits-after : {F : Type 0} (agrees : F → ℕ → Holding → Type 0) (done : F → ℕ → Call → Given → F → Type 0) (shape : F → Extents) (roots : F → ℕ → ℕ) (tree : Tree)
    (v v' : State) (f f' : F) (call : Call) (given : Given) → (h : Fits agrees shape roots tree v f) → Ready agrees done shape roots f v.number call given f' →
    Allows v.shape h.holding call → IsWorker v' → SameSelf v v' → WithinRoots (tree.roots v.machine) v'.stack → Holds v' (holds_after call given h.holding) →
    Fits agrees shape roots tree v' f'
fits-after agrees done shape roots tree v v' f f' call given h ready allowed worker self within holds =
    let y = holds_after call given h.holding in
    fits-with agrees shape roots tree v v' f f' y h ready.same worker self within holds
    (ready.holds h.holding y h.agreed (subst (λ s. Allows s h.holding call) (sym h.same_shape) allowed) (SameHolding-refl y))

-- after an answer that isn't ready
pub fits-missed : {F : Type 0} (agrees : F → ℕ → Holding → Type 0) (excused : F → ℕ → Call → F → Type 0) (shape : F → Extents) (roots : F → ℕ → ℕ) (tree : Tree)
    (v : State) (f f' : F) (call : Call) → Fits agrees shape roots tree v f → Missed agrees excused shape roots unlooked f v.number call f' → Fits agrees shape roots tree v f'
fits-missed agrees excused shape roots tree v f f' call h missed =
    let y = unlooked h.holding in
    fits-with agrees shape roots tree v v f f' y h missed.same h.worker (record { number = refl; machine = refl; shape = refl }) h.within (unlooked-holds v h.holding h.holds)
    (missed.holds h.holding y h.agreed (SameHolding-refl y))

pub fits-ended : {F : Type 0} (agrees : F → ℕ → Holding → Type 0) (excused : F → ℕ → Call → F → Type 0) (shape : F → Extents) (roots : F → ℕ → ℕ) (tree : Tree)
    (v : State) (f f' : F) (call : Call) → (h : Fits agrees shape roots tree v f) → Missed agrees excused shape roots at_end f v.number call f' → Fits agrees shape roots tree v f'
fits-ended agrees excused shape roots tree v f f' call h missed =
    let y = at_end h.holding in
    fits-with agrees shape roots tree v v f f' y h missed.same h.worker (record { number = refl; machine = refl; shape = refl }) h.within (at_end-holds v h.holding h.holds)
    (missed.holds h.holding y h.agreed (SameHolding-refl y))
