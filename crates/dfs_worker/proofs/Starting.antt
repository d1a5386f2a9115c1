-- The steps of a turn that begin and end a worker's roots, and the one that ends a message.
use Rattle.std.proofs.Common.{◌≡◌, ℕ, ◌<◌, ◌≤◌, Bool, true, List, [], ◌∷◌, Some, None, refl, sym, ap, ◌∙◌, subst, arith, inl, inr}
use Rattle.std.specs.Prelude.{nat_eq}
use Rattle.adfs_base.specs.Shape.{Extents}
use Rattle.fabric.specs.Account.{Holding, Call, ToClaim, ToRetire, ToRestore, Given, Nothing, Roots, Allows, holds_after, unlooked, at_end}
use Rattle.fabric.specs.Calls.{empty_buffer}
use Rattle.fabric.specs.Fabric.{MayCall, Ready, Missed, machine_in}
use Rattle.match_context.specs.Batch.{Batch}
use Rattle.match_context.specs.Tree.{Tree}
use Rattle.match_context.specs.declared.frame.Frame.{Frame}
use Rattle.match_context.specs.declared.frame.Rest.TheVariants as rest
use Rattle.match_context.specs.declared.message.Message.{Message}
use Rattle.dfs_worker.specs.declared.event.Event.TheVariants as event
use Rattle.dfs_worker.specs.declared.guard.Guard.TheVariants as guard
use Rattle.dfs_worker.specs.declared.hand.Hand.TheVariants.{Emptied}
use Rattle.dfs_worker.specs.declared.turn.Turn.TheVariants.{Did, Idle}
use Rattle.dfs_worker.specs.Census.{of_message, of_stack, of_rest}
use Rattle.dfs_worker.specs.Guards.{own_guard, has_top, top_over}
use Rattle.dfs_worker.specs.Own.{restored}
use Rattle.dfs_worker.specs.Sound.{IsWorker, IsPacket}
use Rattle.dfs_worker.specs.State.{State, is_free}
use Rattle.dfs_worker.specs.Turn.{call_of, left_by, Step, Tried, Holds, Fits, homes_of}
use Rattle.dfs_worker.proofs.Counts.{restored-count}
use Rattle.dfs_worker.proofs.Facts.{free-hand}
use Rattle.dfs_worker.proofs.Holdings.{holds-by, fits-after, fits-with, fits-missed}
use Rattle.dfs_worker.proofs.Keeps.{restored-keeps}
use Rattle.dfs_worker.proofs.Roots.{restored-roots}
use Rattle.dfs_worker.proofs.Asks.{same-number, one-true, did-step, missed-step}
use Rattle.dfs_worker.proofs.Facts.{Ends}
use Rattle.dfs_worker.proofs.Keeps.{restored-is}
use Rattle.dfs_worker.proofs.Steps.{same-of}
use Rattle.dfs_worker.proofs.Holdings.{at_end-holds, SameHolding-refl}
use Rattle.dfs_worker.proofs.Facts.{start-facts, must-none}
use Rattle.dfs_worker.proofs.Keeps.{claimed-keeps, retired-keeps}
use Rattle.dfs_worker.proofs.Counts.{claimed-count, retired-count}
use Rattle.dfs_worker.proofs.Roots.{claimed-roots}
use Rattle.dfs_worker.specs.Own.{claimed, retired}
use Rattle.dfs_worker.specs.Turn.{Start}

-- a chunk is of roots that there are
chunk-within : {F : Type 0} (agrees : F → ℕ → Holding → Type 0) (shape : F → Extents) (roots : F → ℕ → ℕ) (tree : Tree) (v : State) (f : F) (first end : ℕ) →
    Fits agrees shape roots tree v f → (first < end) × (end ≤ roots f (machine_in (shape f) v.number)) → end ≤ tree.roots v.machine
chunk-within agrees shape roots tree v f first end h given =
    let here : machine_in (shape f) v.number ≡ v.machine = ap (λ s. machine_in s v.number) h.same_shape ∙ sym h.number in
    let same : roots f (machine_in (shape f) v.number) ≡ tree.roots v.machine = h.same_roots (machine_in (shape f) v.number) (let low = h.worker.machine in omega arith) ∙ ap tree.roots here in
    let le = given.1 in
    omega arith

pub chunk-facts : {F : Type 0} (agrees : F → ℕ → Holding → Type 0) (shape : F → Extents) (roots : F → ℕ → ℕ) (tree : Tree) (v : State) (f : F) (w first end : ℕ) →
    Fits agrees shape roots tree v f → w ≡ v.number → (first < end) × (end ≤ roots f (machine_in (shape f) w)) → end ≤ tree.roots v.machine
chunk-facts agrees shape roots tree v f w first end h same given =
    chunk-within agrees shape roots tree v f first end h (subst (λ n. (first < end) × (end ≤ roots f (machine_in (shape f) n))) same given)

pub claim-tried : {F : Type 0} (agrees : F → ℕ → Holding → Type 0) (done : F → ℕ → Call → Given → F → Type 0) (excused : F → ℕ → Call → F → Type 0) (shape : F → Extents) (roots : F → ℕ → ℕ)
    (tree : Tree)
    (v v' : State) (f f' : F) (w first end : ℕ) → Fits agrees shape roots tree v f → own_guard (event.Claim 0) v ≡ None → w ≡ v.number →
    Ready agrees done shape roots f w ToClaim (Roots first end) f' → v' ≡ claimed tree first end v →
    Tried agrees done excused shape roots tree v f (Start ∷ []) (Did (event.Claim w)) v' f'
claim-tried agrees done excused shape roots tree v v' f f' w first end h own same ready is =
    let r = subst (λ n. Ready agrees done shape roots f n ToClaim (Roots first end) f') same ready in
    let at = start-facts v own in
    let within = chunk-within agrees shape roots tree v f first end h r.something in
    record {
      answered = inl (own, inl (first, (end, (ap event.Claim same, is, r.made))));
      fits = subst (λ u. Fits agrees shape roots tree u f') (sym is)
          (fits-after agrees done shape roots tree v (claimed tree first end v) f f' ToClaim (Roots first end) h r (h.holds.enrolled ∙ at.enrolled)
          (claimed-keeps tree v first end h.worker own) (record { number = refl; machine = refl; shape = refl })
          (claimed-roots (tree.roots v.machine) tree v first end h.within within)
          (holds-by v (claimed tree first end v) h.holding (holds_after ToClaim (Roots first end) h.holding) (λ _. 0) (λ _. 0)
          (λ census. let e = claimed-count census tree v first end in omega arith) h.holds.enrolled refl refl (λ _. refl)
          (λ i j. omega arith) (λ i j. omega arith) (λ i. omega arith) h.holds));
    }

-- the end was seen: the worker may retire
pub may-retire : {F : Type 0} (agrees : F → ℕ → Holding → Type 0) (done : F → ℕ → Call → Given → F → Type 0) (excused : F → ℕ → Call → F → Type 0) (shape : F → Extents) (roots : F → ℕ → ℕ)
    (tree : Tree)
    (v : State) (f g : F) (w : ℕ) → Fits agrees shape roots tree v f → own_guard (event.Claim 0) v ≡ None → w ≡ v.number →
    Missed agrees excused shape roots at_end f w ToClaim g → MayCall agrees shape g w ToRetire
may-retire agrees done excused shape roots tree v f g w h own same missed =
    let m = subst (λ n. Missed agrees excused shape roots at_end f n ToClaim g) same missed in
    let at = start-facts v own in
    let y = at_end h.holding in
    subst (λ n. MayCall agrees shape g n ToRetire) (sym same) (y, (m.holds h.holding y h.agreed (SameHolding-refl y), (h.holds.enrolled ∙ at.enrolled, refl)))

pub retire-tried : {F : Type 0} (agrees : F → ℕ → Holding → Type 0) (done : F → ℕ → Call → Given → F → Type 0) (excused : F → ℕ → Call → F → Type 0) (shape : F → Extents)
    (roots : F → ℕ → ℕ) (tree : Tree)
    (v v' : State) (f g f' : F) (w : ℕ) → Fits agrees shape roots tree v f → own_guard (event.Claim 0) v ≡ None → w ≡ v.number →
    Missed agrees excused shape roots at_end f w ToClaim g → Ready agrees done shape roots g w ToRetire Nothing f' → v' ≡ retired v →
    Tried agrees done excused shape roots tree v f (Start ∷ []) (Did (event.Retire w)) v' f'
retire-tried agrees done excused shape roots tree v v' f g f' w h own same missed ready is =
    let m = subst (λ n. Missed agrees excused shape roots at_end f n ToClaim g) same missed in
    let r = subst (λ n. Ready agrees done shape roots g n ToRetire Nothing f') same ready in
    let at = start-facts v own in
    let x = at_end h.holding in
    let y = holds_after ToRetire Nothing x in
    let held = at_end-holds v h.holding h.holds in
    record {
      answered = inl (own, inr (g, (ap event.Retire same, is, m.allowed, r.made)));
      fits = subst (λ u. Fits agrees shape roots tree u f') (sym is)
          (fits-with agrees shape roots tree v (retired v) f f' y h
          (record { same_shape = r.same.same_shape ∙ m.same.same_shape; same_roots = λ k. r.same.same_roots k ∙ m.same.same_roots k })
          (retired-keeps v h.worker own) (record { number = refl; machine = refl; shape = refl }) h.within
          (holds-by v (retired v) x y (λ _. 0) (λ _. 0) (λ census. let e = retired-count census v in omega arith) refl refl refl (λ _. refl)
          (λ i j. omega arith) (λ i j. omega arith) (λ i. omega arith) held)
          (r.holds x y (m.holds h.holding x h.agreed (SameHolding-refl x)) (h.holds.enrolled ∙ at.enrolled, refl) (SameHolding-refl y)));
    }

pub start-missed : {F : Type 0} (agrees : F → ℕ → Holding → Type 0) (done : F → ℕ → Call → Given → F → Type 0) (excused : F → ℕ → Call → F → Type 0) (shape : F → Extents)
    (roots : F → ℕ → ℕ) (tree : Tree)
    (v : State) (f f' : F) (w : ℕ) → Fits agrees shape roots tree v f → own_guard (event.Claim 0) v ≡ None → w ≡ v.number →
    Missed agrees excused shape roots unlooked f w ToClaim f' × excused f w ToRetire f' → Tried agrees done excused shape roots tree v f (Start ∷ []) Idle v f'
start-missed agrees done excused shape roots tree v f f' w h own same missed =
    let m = subst (λ n. Missed agrees excused shape roots unlooked f n ToClaim f') same missed.0 in
    let bars = subst (λ n. excused f n ToRetire f') same missed.1 in
    record { answered = inr (v, (f', ((inr (own, m.allowed, bars), refl), (refl, refl, refl)))); fits = fits-missed agrees excused shape roots tree v f f' ToClaim h m }

pub start-barred : {F : Type 0} (agrees : F → ℕ → Holding → Type 0) (done : F → ℕ → Call → Given → F → Type 0) (excused : F → ℕ → Call → F → Type 0) (shape : F → Extents)
    (roots : F → ℕ → ℕ) (tree : Tree)
    (v : State) (f : F) → Fits agrees shape roots tree v f → (own_guard (event.Claim 0) v ≡ None → ⊥) → Tried agrees done excused shape roots tree v f (Start ∷ []) Idle v f
start-barred agrees done excused shape roots tree v f h barred = record { answered = inr (v, (f, ((inl (barred, refl), refl), (refl, refl, refl)))); fits = h }

-- ---- restore
items-over : (message : Message) (next : ℕ) (a b : Bool) → rest.Items message next a ≡ rest.Items message next b → a ≡ b
items-over message next a b e = cc

-- the top that the code took is the message frame that is over
ends-is : (v : State) (frame : Frame) (frames : List Frame) (message : Message) (next : ℕ) (over : Bool) → own_guard (event.Restore 0) v ≡ None → v.stack ≡ frame ∷ frames →
    frame.rest ≡ rest.Items message next over → Ends v frame frames message next
ends-is v frame frames message next over own st is =
    let a = must-none (is_free v.hand) guard.Hand _ own in
    let b = must-none (has_top v.stack) guard.Stack _ a.1 in
    let c = must-none (top_over v.stack) guard.Over _ b.1 in
    let over_is : over ≡ true = rw is at (rw st at c.0) in
    record { hand = free-hand v.hand a.0; stack = st; rest = is ∙ ap (rest.Items message next) over_is }

packet-is : (v : State) (frame : Frame) (frames : List Frame) (message : Message) (next : ℕ) → IsWorker v → Ends v frame frames message next → IsPacket v.shape message
packet-is v frame frames message next h at = let s = rw at.stack at h.stack in (rw at.rest at s.0.stands).packet

held-framed : (v : State) (x : Holding) (frame : Frame) (frames : List Frame) (message : Message) (next : ℕ) → Holds v x → Ends v frame frames message next → 0 < x.buffers message.items.home
held-framed v x frame frames message next held at =
    let a = held.buffers message.items.home in
    let b = ap (of_stack (homes_of message.items.home).framed) at.stack in
    let r = ap (of_rest (homes_of message.items.home).framed) at.rest in
    let c = one-true (nat_eq message.items.home message.items.home) (same-number message.items.home) in
    omega arith

pub may-restore : (v : State) (x : Holding) (frame : Frame) (frames : List Frame) (message : Message) (next : ℕ) → IsWorker v → Holds v x → Ends v frame frames message next →
    Allows v.shape x (ToRestore (empty_buffer message.items.home message.items.size))
may-restore v x frame frames message next h held at =
    let p = packet-is v frame frames message next h at in
    let from = p.from in
    let home = p.home in
    (omega arith, ap (empty_buffer message.items.home) p.size, held-framed v x frame frames message next held at)

restored-explicit : (v u v' : State) (frame : Frame) (message : Message) (next : ℕ) → Ends v frame u.stack message next → u ≡ record v { stack = u.stack } →
    v' ≡ record u { hand = Emptied message.from message.stage } → v' ≡ restored v
restored-explicit v u v' frame message next at same is =
    is ∙ ap (λ (w : State). record w { hand = Emptied message.from message.stage }) same ∙ sym (restored-is v frame u.stack message next at)

pub restore-tried : {F : Type 0} (agrees : F → ℕ → Holding → Type 0) (done : F → ℕ → Call → Given → F → Type 0) (excused : F → ℕ → Call → F → Type 0) (shape : F → Extents)
    (roots : F → ℕ → ℕ) (tree : Tree)
    (v u v' : State) (f f' : F) (w : ℕ) (frame : Frame) (message : Message) (next : ℕ) (over : Bool) (buffer : Batch) → Fits agrees shape roots tree v f → own_guard (event.Restore 0) v ≡ None →
    w ≡ v.number → v.stack ≡ frame ∷ u.stack → u ≡ record v { stack = u.stack } → frame.rest ≡ rest.Items message next over →
    buffer ≡ empty_buffer message.items.home message.items.size → Ready agrees done shape roots f w (ToRestore buffer) Nothing f' →
    v' ≡ record u { hand = Emptied message.from message.stage } → Tried agrees done excused shape roots tree v f (Step (event.Restore v.number) ∷ []) (Did (event.Restore w)) v' f'
restore-tried agrees done excused shape roots tree v u v' f f' w frame message next over buffer h own same st taken rest_is empty ready is =
    let at = ends-is v frame u.stack message next over own st rest_is in
    let b = empty_buffer message.items.home message.items.size in
    let r = subst (λ c. Ready agrees done shape roots f v.number (ToRestore c) Nothing f') empty (subst (λ n. Ready agrees done shape roots f n (ToRestore buffer) Nothing f') same ready) in
    let call : call_of (event.Restore v.number) v ≡ Some (ToRestore b) = rw (st, rest_is) refl in
    let s = same-of v (restored v) _ (restored-is v frame u.stack message next at) (record { self = record { number = refl; machine = refl; shape = refl }; enrolled = refl; marks = refl }) in
    did-step agrees done excused shape roots tree v v' f f' (event.Restore v.number) (event.Restore w) Nothing (ap event.Restore same) own
    (restored-explicit v u v' frame message next at taken is) (rw call r.made)
    (subst (λ t. Fits agrees shape roots tree t f') (sym (restored-explicit v u v' frame message next at taken is))
    (fits-after agrees done shape roots tree v (restored v) f f' (ToRestore b) Nothing h r (may-restore v h.holding frame u.stack message next h.worker h.holds at)
    (restored-keeps v h.worker own) s.self (restored-roots (tree.roots v.machine) v h.within)
    (holds-by v (restored v) h.holding (holds_after (ToRestore b) Nothing h.holding) (λ census. of_message census.framed message) (λ census. census.emptied message.from message.stage v.machine)
    (λ census. restored-count census v frame u.stack message next at) (h.holds.enrolled ∙ sym s.enrolled) s.marks refl (λ _. refl)
    (λ i j. omega arith) (λ i j. omega arith) (λ i. omega arith) h.holds)))

-- what a pool handed back is in its frame again
emptied-keeps : (v : State) (frame : Frame) (frames : List Frame) (message : Message) (next : ℕ) → IsWorker v → Ends v frame frames message next →
    IsWorker (record v { stack = record frame { rest = rest.Items (record message { items = empty_buffer message.items.home message.items.size }) next true } ∷ frames })
emptied-keeps v frame frames message next h at =
    let s = rw at.stack at h.stack in
    let stands = rw at.rest at s.0.stands in
    let p = stands.packet in
    record {
      shape = h.shape;
      machine = h.machine;
      stack = (
        record {
          stage = s.0.stage;
          wait = s.0.wait;
          stands = record {
            above = stands.above;
            same_stage = stands.same_stage;
            here = stands.here;
            packet = record { from = p.from; some_stage = p.some_stage; stage = p.stage; to = p.to; home = p.home; size = p.size; within = omega arith };
            through = record { ahead = λ more. absurd (cc); done = λ _. omega arith; settled = stands.through.settled };
          };
        },
        s.1,
      );
      slots = h.slots;
      hand = rw at.hand tt;
      mark_stages = h.mark_stages;
      mark_machines = h.mark_machines;
    }

emptied-explicit : (v u v' : State) (frame : Frame) (message : Message) (next : ℕ) → Ends v frame u.stack message next → u ≡ record v { stack = u.stack } →
    v' ≡ record u { stack = record frame { rest = rest.Items (record message { items = empty_buffer message.items.home message.items.size }) next true } ∷ u.stack } →
    v' ≡ record v { stack = record frame { rest = rest.Items (record message { items = empty_buffer message.items.home message.items.size }) next true } ∷ u.stack }
emptied-explicit v u v' frame message next at same is =
    is ∙ ap (λ (w : State). record w { stack = record frame { rest = rest.Items (record message { items = empty_buffer message.items.home message.items.size }) next true } ∷ u.stack }) same

emptied-left : (v : State) (frame : Frame) (frames : List Frame) (message : Message) (next : ℕ) → Ends v frame frames message next →
    record v { stack = record frame { rest = rest.Items (record message { items = empty_buffer message.items.home message.items.size }) next true } ∷ frames } ≡ left_by (event.Restore v.number) v
emptied-left v frame frames message next at = rw (at.stack, at.rest) refl

pub restore-missed : {F : Type 0} (agrees : F → ℕ → Holding → Type 0) (done : F → ℕ → Call → Given → F → Type 0) (excused : F → ℕ → Call → F → Type 0) (shape : F → Extents)
    (roots : F → ℕ → ℕ) (tree : Tree)
    (v u v' : State) (f f' : F) (w : ℕ) (frame put : Frame) (message : Message) (next : ℕ) (over : Bool) (buffer back : Batch) → Fits agrees shape roots tree v f →
    own_guard (event.Restore 0) v ≡ None →
    w ≡ v.number → v.stack ≡ frame ∷ u.stack → u ≡ record v { stack = u.stack } → frame.rest ≡ rest.Items message next over →
    buffer ≡ empty_buffer message.items.home message.items.size → (back ≡ buffer) × Missed agrees excused shape roots unlooked f w (ToRestore buffer) f' →
    put ≡ record frame { rest = rest.Items (record message { items = back }) next over } →
    v' ≡ record u { stack = put ∷ u.stack } → Tried agrees done excused shape roots tree v f (Step (event.Restore v.number) ∷ []) Idle v' f'
restore-missed agrees done excused shape roots tree v u v' f f' w frame put message next over buffer back h own same st taken rest_is empty on put_is is =
    let at = ends-is v frame u.stack message next over own st rest_is in
    let b = empty_buffer message.items.home message.items.size in
    let over_is : over ≡ true = let r = sym rest_is ∙ at.rest in items-over message next over true r in
    let m = subst (λ c. Missed agrees excused shape roots unlooked f v.number (ToRestore c) f') empty (subst (λ n. Missed agrees excused shape roots unlooked f n (ToRestore buffer) f') same on.1) in
    let call : call_of (event.Restore v.number) v ≡ Some (ToRestore b) = rw (st, rest_is) refl in
    let top : put ≡ record frame { rest = rest.Items (record message { items = b }) next true } =
    put_is ∙ ap (λ c. record frame { rest = rest.Items (record message { items = c }) next over }) (on.0 ∙ empty)
    ∙ ap (λ o. record frame { rest = rest.Items (record message { items = b }) next o }) over_is in
    let is' = is ∙ ap (λ t. record u { stack = t ∷ u.stack }) top in
    let explicit = emptied-explicit v u v' frame message next at taken is' in
    let e = record v { stack = record frame { rest = rest.Items (record message { items = b }) next true } ∷ u.stack } in
    let y = unlooked h.holding in
    missed-step agrees done excused shape roots tree v v' f f' (event.Restore v.number) own (explicit ∙ emptied-left v frame u.stack message next at) (rw call m.allowed)
    (subst (λ t. Fits agrees shape roots tree t f') (sym explicit)
    (fits-with agrees shape roots tree v (record v { stack = record frame { rest = rest.Items (record message { items = b }) next true } ∷ u.stack }) f f' y h m.same
    (emptied-keeps v frame u.stack message next h.worker at) (record { number = refl; machine = refl; shape = refl }) (tt, (rw at.stack at h.within).1)
    (holds-by v (record v { stack = record frame { rest = rest.Items (record message { items = b }) next true } ∷ u.stack }) h.holding y (λ _. 0) (λ _. 0)
    (λ census. let st' = ap (of_stack census.framed) at.stack in let r = ap (of_rest census.framed) at.rest in omega arith) h.holds.enrolled refl refl (λ _. refl)
    (λ i j. omega arith) (λ i j. omega arith) (λ i. omega arith) h.holds)
    (m.holds h.holding y h.agreed (SameHolding-refl y))))
