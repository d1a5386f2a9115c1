-- What rows there are has no say in how a run goes on.
use Rattle.std.proofs.Common.{◌≡◌, ◌∙◌, refl, sym, ap, subst, arith, ℕ, zero, suc, ◌*◌, ◌/◌, ◌<◌, Bool, true, false, List, [], ◌∷◌, ◌++◌, codes, length, map, Option, Some, None, Result}
use Rattle.std.specs.Prelude.{slice_get, slice_set}
use Rattle.std.specs.List.{AllByRecursion}
use Rattle.std.specs.Option.{option_map}
use Rattle.std.specs.Str.{bytes_eq}
use Rattle.std.proofs.lemmas.List.{length-set}
use Rattle.std.proofs.lemmas.Option.{slice_get-map, slice_get_within}
use Rattle.adfs_base.specs.Shape.{Extents}
use Rattle.match_context.specs.Bags.{total}
use Rattle.match_context.specs.Batch.{Batch}
use Rattle.match_context.specs.Tree.{Tree}
use Rattle.match_context.specs.declared.context.Context.{Context}
use Rattle.match_context.specs.declared.frame.Frame.{Frame}
use Rattle.match_context.specs.declared.frame.Rest.{Rest}
use Rattle.match_context.specs.declared.frame.Rest.TheVariants as rest
use Rattle.match_context.specs.declared.message.Message.{Message}
use Rattle.fabric.specs.Calls.{empty_buffer, pop_answer}
use Rattle.fabric.specs.Shared.{Shared}
use Rattle.dfs_worker.specs.declared.event.Event.{Event}
use Rattle.dfs_worker.specs.declared.event.Event.TheVariants.{Claim, Retire, Advance, Descend, Append, Charge, Fetch, Post, Push, Pop, Pick, Restore, Discharge, Mark, Close}
use Rattle.dfs_worker.specs.declared.guard.Guard.{Guard}
use Rattle.dfs_worker.specs.declared.hand.Hand.{Hand}
use Rattle.dfs_worker.specs.declared.hand.Hand.TheVariants.{Free, Charged, Posted, Popped, Emptied}
use Rattle.dfs_worker.specs.Own.{appended_at, appended_by, charged_for, descended_at, descended_by, fetched_at, fetched_by, fetched_for, picked_by, posted_by, restored_at, restored_by}
use Rattle.dfs_worker.specs.Slots.{open_at}
use Rattle.dfs_worker.specs.State.{State, fresh, waiting}
use Rattle.trace_text.specs.Reading.{event_of}
use Rattle.world_core.specs.declared.gauge.Gauge.{Gauge}
use Rattle.world_core.specs.Gauge.{at_worker, gauge_of, in_worker, its_contexts, one_buffer}
use Rattle.world_core.specs.Rows.{without_rows_at}
use Rattle.world_core.specs.Step.{guard_at, guard_of, happens, happens_at, own_part, popped_as, shared_part, worker_of}
use Rattle.world_core.specs.World.{World, fresh_workers, start_world, world_of}
use Rattle.world_core.proofs.Parts.{enabled-facts}
use Rattle.world_core.proofs.Rowless.{rowless}
use Rattle.world_core.proofs.Steps.{happens-is}
use Rattle.run_trace.specs.declared.replaying.Replayed.{Replayed}
use Rattle.run_trace.specs.Replay.{after, enabled_on, event_on, finish, replayed, with_event}
use Rattle.run_trace.specs.Rowless.{HasNoRow, IsMadeBy, IsRowless}
use Rattle.run_trace.proofs.Replays.{line_event, line_finished, lines_over}
use Rattle.trace_text.specs.declared.fault.ReplayFault.{ReplayFault}

-- the world without its rows
abbrev pub rowless_world : World → World
rowless_world w = world_of (map rowless w.workers) w.shared

-- The worlds differ in rows alone.
abbrev pub AreAlike : World → World → Type 0
AreAlike a b = rowless_world a ≡ rowless_world b

-- ---- the guards of an event
worker-guard : (e : Event) (v : State) (s : Shared) → guard_at e (Some (rowless v)) s ≡ guard_at e (Some v) s
worker-guard (Claim w) v s = refl
worker-guard (Retire w) v s = refl
worker-guard (Advance w) v s = refl
worker-guard (Descend w) v s = refl
worker-guard (Append w) v s = refl
worker-guard (Charge w) v s = refl
worker-guard (Fetch w) v s = refl
worker-guard (Post w stage to) v s = refl
worker-guard (Push w) v s = refl
worker-guard (Pop w stage) v s = refl
worker-guard (Pick w) v s = refl
worker-guard (Restore w) v s = refl
worker-guard (Discharge w) v s = refl
worker-guard (Mark w a b) v s = refl
worker-guard (Close w) v s = refl

some-guard : (e : Event) (o : Option State) (s : Shared) → guard_at e (option_map rowless o) s ≡ guard_at e o s
some-guard e None s = refl
some-guard e (Some v) s = worker-guard e v s

rowless-guard : (w : World) (e : Event) → guard_of (rowless_world w) e ≡ guard_of w e
rowless-guard w e =
    ap (λ o. guard_at e o w.shared) (slice_get-map rowless w.workers (worker_of e)) ∙ some-guard e (slice_get w.workers (worker_of e)) w.shared

-- ---- what an event changes of its worker, but for rows
descended-child : (v : State) (frame : Frame) (frames : List Frame) (o : Option (Context × ℕ)) → rowless (descended_by (rowless v) frame frames o) ≡ rowless (descended_by v frame frames o)
descended-child v frame frames None = refl
descended-child v frame frames (Some child) = refl

descended-rowless : (v : State) (frames : List Frame) → rowless (descended_at (rowless v) frames) ≡ rowless (descended_at v frames)
descended-rowless v [] = refl
descended-rowless v (frame ∷ frames) = descended-child v frame frames frame.wait

appended-child : (v : State) (frame : Frame) (frames : List Frame) (o : Option (Context × ℕ)) → rowless (appended_by (rowless v) frame frames o) ≡ rowless (appended_by v frame frames o)
appended-child v frame frames None = refl
appended-child v frame frames (Some child) = refl

appended-rowless : (v : State) (frames : List Frame) → rowless (appended_at (rowless v) frames) ≡ rowless (appended_at v frames)
appended-rowless v [] = refl
appended-rowless v (frame ∷ frames) = appended-child v frame frames frame.wait

charged-rowless : (v : State) (o : Option (ℕ × ℕ)) → rowless (charged_for (rowless v) o) ≡ rowless (charged_for v o)
charged-rowless v None = refl
charged-rowless v (Some child) = refl

fetched-child : (v : State) (stage to : ℕ) (batch : Batch) (frame : Frame) (frames : List Frame) (o : Option (Context × ℕ))
    → rowless (fetched_for (rowless v) stage to batch frame frames o) ≡ rowless (fetched_for v stage to batch frame frames o)
fetched-child v stage to batch frame frames None = refl
fetched-child v stage to batch frame frames (Some child) = refl

fetched-stack : (v : State) (stage to : ℕ) (batch : Batch) (frames : List Frame) → rowless (fetched_at (rowless v) stage to batch frames) ≡ rowless (fetched_at v stage to batch frames)
fetched-stack v stage to batch [] = refl
fetched-stack v stage to batch (frame ∷ frames) = fetched-child v stage to batch frame frames frame.wait

fetched-rowless : (v : State) (batch : Batch) (hand : Hand) → rowless (fetched_by (rowless v) batch hand) ≡ rowless (fetched_by v batch hand)
fetched-rowless v batch Free = refl
fetched-rowless v batch (Charged stage to) = fetched-stack v stage to batch v.stack
fetched-rowless v batch (Posted message) = refl
fetched-rowless v batch (Popped message) = refl
fetched-rowless v batch (Emptied from stage) = refl

posted-rowless : (v : State) (stage to : ℕ) (o : Option Message) → rowless (posted_by (rowless v) stage to o) ≡ rowless (posted_by v stage to o)
posted-rowless v stage to None = refl
posted-rowless v stage to (Some message) = refl

popped-rowless : (v : State) (o : Option Message) → rowless (popped_as o (rowless v)) ≡ rowless (popped_as o v)
popped-rowless v None = refl
popped-rowless v (Some message) = refl

picked-rowless : (v : State) (hand : Hand) → rowless (picked_by (rowless v) hand) ≡ rowless (picked_by v hand)
picked-rowless v Free = refl
picked-rowless v (Charged stage to) = refl
picked-rowless v (Posted message) = refl
picked-rowless v (Popped message) = refl
picked-rowless v (Emptied from stage) = refl

restored-rest : (v : State) (frames : List Frame) (r : Rest) → rowless (restored_by (rowless v) frames r) ≡ rowless (restored_by v frames r)
restored-rest v frames rest.None = refl
restored-rest v frames (rest.Roots next end) = refl
restored-rest v frames (rest.Items message next over) = refl

restored-rowless : (v : State) (frames : List Frame) → rowless (restored_at (rowless v) frames) ≡ rowless (restored_at v frames)
restored-rowless v [] = refl
restored-rowless v (frame ∷ frames) = restored-rest v frames frame.rest

own-rowless : (tree : Tree) (e : Event) (s : Shared) (v : State) → rowless (own_part tree e s (rowless v)) ≡ rowless (own_part tree e s v)
own-rowless tree (Claim w) s v = refl
own-rowless tree (Retire w) s v = refl
own-rowless tree (Advance w) s v = refl
own-rowless tree (Descend w) s v = descended-rowless v v.stack
own-rowless tree (Append w) s v = appended-rowless v v.stack
own-rowless tree (Charge w) s v = charged-rowless v (waiting v.stack)
own-rowless tree (Fetch w) s v = fetched-rowless v (empty_buffer v.machine s.shape.buffer) v.hand
own-rowless tree (Post w stage to) s v = posted-rowless v stage to (open_at v.slots stage to)
own-rowless tree (Push w) s v = refl
own-rowless tree (Pop w stage) s v = popped-rowless v (pop_answer s v.machine stage)
own-rowless tree (Pick w) s v = picked-rowless v v.hand
own-rowless tree (Restore w) s v = restored-rowless v v.stack
own-rowless tree (Discharge w) s v = refl
own-rowless tree (Mark w a b) s v = refl
own-rowless tree (Close w) s v = refl

-- ---- and of what is shared
shared-rowless : (e : Event) (v : State) (s : Shared) → shared_part e (rowless v) s ≡ shared_part e v s
shared-rowless (Claim w) v s = refl
shared-rowless (Retire w) v s = refl
shared-rowless (Advance w) v s = refl
shared-rowless (Descend w) v s = refl
shared-rowless (Append w) v s = refl
shared-rowless (Charge w) v s = refl
shared-rowless (Fetch w) v s = refl
shared-rowless (Post w stage to) v s = refl
shared-rowless (Push w) v s = refl
shared-rowless (Pop w stage) v s = refl
shared-rowless (Pick w) v s = refl
shared-rowless (Restore w) v s = refl
shared-rowless (Discharge w) v s = refl
shared-rowless (Mark w a b) v s = refl
shared-rowless (Close w) v s = refl

-- ---- the worlds after it
map-set : {A B : Type 0} (f : A → B) (xs : List A) (i : ℕ) (x : A) → map f (slice_set xs i x) ≡ slice_set (map f xs) i (f x)
map-set f [] i x = refl
map-set f (y ∷ ys) zero x = refl
map-set f (y ∷ ys) (suc i) x = ap (λ zs. f y ∷ zs) (map-set f ys i x)

map-rowless : (vs : List State) → map rowless (map rowless vs) ≡ map rowless vs
map-rowless [] = refl
map-rowless (v ∷ vs) = ap (λ us. rowless v ∷ us) (map-rowless vs)

some-happens : (tree : Tree) (w : World) (e : Event) (o : Option State) → AreAlike (happens_at tree (rowless_world w) e (option_map rowless o)) (happens_at tree w e o)
some-happens tree w e None = ap (λ vs. world_of vs w.shared) (map-rowless w.workers)
some-happens tree w e (Some v) =
    let i = worker_of e in
    let bare = own_part tree e w.shared (rowless v) in
    let whole = own_part tree e w.shared v in
    ap (λ s. world_of (map rowless (slice_set (map rowless w.workers) i bare)) s) (shared-rowless e v w.shared)
    ∙ ap (λ vs. world_of vs (shared_part e v w.shared))
    (map-set rowless (map rowless w.workers) i bare ∙ ap (λ vs. slice_set vs i (rowless bare)) (map-rowless w.workers)
    ∙ ap (λ u. slice_set (map rowless w.workers) i u) (own-rowless tree e w.shared v) ∙ sym (map-set rowless w.workers i whole))

happens-rowless : (tree : Tree) (w : World) (e : Event) → AreAlike (happens tree (rowless_world w) e) (happens tree w e)
happens-rowless tree w e =
    ap (λ o. rowless_world (happens_at tree (rowless_world w) e o)) (slice_get-map rowless w.workers (worker_of e)) ∙ some-happens tree w e (slice_get w.workers (worker_of e))

-- ---- what stands outside the pools
total-rowless : (f : State → ℕ) → ((v : State) → f (rowless v) ≡ f v) → (vs : List State) → total f (map rowless vs) ≡ total f vs
total-rowless f same [] = refl
total-rowless f same (v ∷ vs) = let a = same v in let b = total-rowless f same vs in omega arith

gauge-rowless : (w : World) → gauge_of (rowless_world w) ≡ gauge_of w
gauge-rowless w =
    let b = total-rowless (in_worker one_buffer) (λ v. refl) w.workers in
    let c = total-rowless (in_worker its_contexts) (λ v. refl) w.workers in
    let a = total-rowless at_worker (λ v. refl) w.workers in
    rw (b, c, a) refl

-- ---- of worlds that differ in rows alone
guard-alike : (a b : World) (e : Event) → AreAlike a b → guard_of a e ≡ guard_of b e
guard-alike a b e alike = sym (rowless-guard a e) ∙ ap (λ w. guard_of w e) alike ∙ rowless-guard b e

happens-alike : (tree : Tree) (a b : World) (e : Event) → AreAlike a b → AreAlike (happens tree a e) (happens tree b e)
happens-alike tree a b e alike = sym (happens-rowless tree a e) ∙ ap (λ w. rowless_world (happens tree w e)) alike ∙ happens-rowless tree b e

gauge-alike : (a b : World) → AreAlike a b → gauge_of a ≡ gauge_of b
gauge-alike a b alike = sym (gauge-rowless a) ∙ ap gauge_of alike ∙ gauge-rowless b

finish-alike : (a b : World) (so_far : Replayed) → AreAlike a b → finish a so_far ≡ finish b so_far
finish-alike a b so_far alike = ap (λ w. finish w so_far) alike

abbrev GoesOn : Type 0
GoesOn = World → Replayed → Result Replayed ReplayFault

after-alike : (tree : Tree) (go_on : GoesOn) (a b : World) (so_far : Replayed) (o : Option Event) → AreAlike a b → ((u v : World) (more : Replayed) → AreAlike u v → go_on u more ≡ go_on v more) →
    after tree go_on a so_far (event_on a so_far o) ≡ after tree go_on b so_far (event_on b so_far o)
after-alike tree go_on a b so_far None alike later = refl
after-alike tree go_on a b so_far (Some e) alike later =
    ap (λ g. after tree go_on a so_far (enabled_on a so_far g e)) (guard-alike a b e alike) ∙ by (guard_of b e)
  where
    by : (g : Option Guard) → after tree go_on a so_far (enabled_on a so_far g e) ≡ after tree go_on b so_far (enabled_on b so_far g e)
    by None =
        let same = happens-alike tree a b e alike in
        ap (λ gauge. go_on (happens tree a e) (with_event so_far gauge)) (gauge-alike (happens tree a e) (happens tree b e) same)
        ∙ later (happens tree a e) (happens tree b e) (with_event so_far (gauge_of (happens tree b e))) same
    by (Some guard) = refl

-- Two worlds that differ in rows alone take the same events, with the same answers and the same gauge, and are finished alike.
pub replayed-alike : (tree : Tree) (lines : List (List ℕ)) (a b : World) (so_far : Replayed) → AreAlike a b → replayed tree lines a so_far ≡ replayed tree lines b so_far
replayed-alike tree [] a b so_far alike = lines_over tree a so_far ∙ sym (lines_over tree b so_far)
replayed-alike tree (line ∷ lines) a b so_far alike = by (bytes_eq line (codes "finished")) refl (λ u v more. replayed-alike tree lines u v more)
  where
    by : (says : Bool) → bytes_eq line (codes "finished") ≡ says → ((u v : World) (more : Replayed) → AreAlike u v → replayed tree lines u more ≡ replayed tree lines v more)
        → replayed tree (line ∷ lines) a so_far ≡ replayed tree (line ∷ lines) b so_far
    by true says later = line_finished tree line lines a so_far says ∙ finish-alike a b so_far alike ∙ sym (line_finished tree line lines b so_far says)
    by false says later =
        line_event tree line lines a so_far says ∙ after-alike tree (replayed tree lines) a b so_far (event_of line) alike later
        ∙ sym (line_event tree line lines b so_far says)

-- ---- the rows of one worker are let go
without-alike : (vs : List State) (i : ℕ) → map rowless (without_rows_at vs i) ≡ map rowless vs
without-alike [] i = refl
without-alike (v ∷ vs) zero = refl
without-alike (v ∷ vs) (suc i) = ap (λ us. rowless v ∷ us) (without-alike vs i)

pub let_go-alike : (w new : World) (i : ℕ) → new ≡ world_of (without_rows_at w.workers i) w.shared → AreAlike w new
let_go-alike w new i is = sym (ap rowless_world is ∙ ap (λ vs. world_of vs w.shared) (without-alike w.workers i))

pub left-alike : (tree : Tree) (lines : List (List ℕ)) (mid new : World) (more : Replayed) (whole : Result Replayed ReplayFault)
    → AreAlike mid new → whole ≡ replayed tree lines mid more → whole ≡ replayed tree lines new more
left-alike tree lines mid new more whole alike is = is ∙ replayed-alike tree lines mid new more alike

pub counted-alike : (gauge : Gauge) (mid new : World) → AreAlike mid new → gauge ≡ gauge_of mid → gauge ≡ gauge_of new
counted-alike gauge mid new alike is = is ∙ gauge-alike mid new alike

-- where no other worker has a row, none has
none-without : (vs : List State) (i : ℕ) (v : State) → AllByRecursion HasNoRow vs → AllByRecursion HasNoRow (without_rows_at (slice_set vs i v) i)
none-without [] i v all = tt
none-without (u ∷ us) zero v all = (refl, all.1)
none-without (u ∷ us) (suc i) v all = (all.0, none-without us i v all.1)

made-is : (tree : Tree) (old new : World) (line : List ℕ) (i : ℕ) → IsMadeBy tree old line i new → (v : State) × ((new.workers ≡ slice_set old.workers i v) × (i < length old.workers))
made-is tree old new line i made =
    let e = made.event in
    let x = enabled-facts old e made.step.enabled in
    let v = own_part tree e old.shared x.0 in
    let at = slice_get_within old.workers (worker_of e) x.0 x.1.at in
    let change = ap (λ (w : World). w.workers) (made.step.change ∙ happens-is tree old e x.0 x.1.at) in
    (v, (change ∙ ap (λ j. slice_set old.workers j v) (sym made.whose), subst (λ j. j < length old.workers) (sym made.whose) at))

pub made-within : (tree : Tree) (old new : World) (line : List ℕ) (i : ℕ) → IsMadeBy tree old line i new → i < length new.workers
made-within tree old new line i made =
    let is = made-is tree old new line i made in
    subst (λ n. i < n) (sym (ap length is.1.0 ∙ length-set old.workers i is.0)) is.1.1

pub let_go-rowless : (tree : Tree) (old mid new : World) (line : List ℕ) (i : ℕ) → IsRowless old → IsMadeBy tree old line i mid →
    new ≡ world_of (without_rows_at mid.workers i) mid.shared → IsRowless new
let_go-rowless tree old mid new line i none made is =
    let change = made-is tree old mid line i made in
    subst IsRowless (sym (is ∙ ap (λ vs. world_of (without_rows_at vs i) mid.shared) change.1.0)) (none-without old.workers i change.0 none)

-- ---- the start
none-push : (vs : List State) (v : State) → AllByRecursion HasNoRow vs → v.rows ≡ [] → AllByRecursion HasNoRow (vs ++ v ∷ [])
none-push [] v all none = (none, tt)
none-push (u ∷ us) v all none = (all.0, none-push us v all.1 none)

fresh-rowless : (shape : Extents) (n : ℕ) → AllByRecursion HasNoRow (fresh_workers shape n)
fresh-rowless shape zero = tt
fresh-rowless shape (suc n) = none-push (fresh_workers shape n) (fresh shape n (n / shape.workers)) (fresh-rowless shape n) refl

pub start-rowless : (shape : Extents) (tree : Tree) → IsRowless (start_world shape tree)
start-rowless shape tree = fresh-rowless shape (shape.machines * shape.workers)
