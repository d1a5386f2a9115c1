-- What a worker holds of a plain fabric, after each call.
use Rattle.std.proofs.Common.{◌≡◌, ℕ, ◌+◌, ◌-◌, ◌*◌, ◌<◌, ◌≤◌, Bool, true, false, cond, ◌&&◌, ◌==◌, eqb, List, [], ◌∷◌, ◌++◌, length, Some, None, refl, sym, ap, subst, ◌∙◌, arith, suc, ◌⊎◌, inl, inr}
use Rattle.std.specs.Prelude.{slice_get, slice_set, slice_index, nat_lt}
use Rattle.std.proofs.Math.Nat.{div-lt_iff_lt-mul}
use Rattle.std.proofs.lemmas.Bool.{false≢true, eqb-true}
use Rattle.std.proofs.lemmas.Bool.Decides.{nat_tests}
use Rattle.std.proofs.lemmas.List.{length-set}
use Rattle.std.proofs.lemmas.Nat.{same_from_place}
use Rattle.std.proofs.lemmas.Option.{none-some}
use Rattle.adfs_base.specs.Shape.{pool_of}
use Rattle.match_context.specs.Bags.{total}
use Rattle.match_context.specs.Batch.{Batch}
use Rattle.match_context.specs.declared.message.Message.{Message}
use Rattle.match_context.proofs.Totals.{total-set, total-push, get-of_set, get-of_push}
use Rattle.fabric.specs.Account.{Holding, SameHolding, ToCharge, ToFetch, ToPost, ToPush, ToPop, ToPick, ToRestore, ToDischarge, Nothing, Taken, Came, Allows, holds_after, one, raised, lowered, more, fewer}
use Rattle.fabric.specs.Calls.{IsMessageOf, after_charge, after_discharge, after_fetch, after_restore, after_post, after_pick}
use Rattle.fabric.specs.Plain.{PlainAgrees, buffers_in}
use Rattle.fabric.specs.Shared.{Shared, IsShared, IsUnit, IsWorkerOf, machine_of, used_at, flying_at, pool_at, inbox_place, inbox_at}
use Rattle.fabric.proofs.Words.{is_word, word-raised, word-lowered, number-raised, number-lowered}

pub machine-within : (s : Shared) (w : ℕ) → IsShared s → IsWorkerOf s w → machine_of s w < s.shape.machines
machine-within s w is there =
    let some = is.shape.some_worker in
    (div-lt_iff_lt-mul {k = s.shape.workers} {x = w} {y = s.shape.machines} (omega arith)).1 there

-- what agrees with one holding agrees with the same one
pub same-holding : (s : Shared) (w : ℕ) (x y : Holding) → PlainAgrees s w x → SameHolding x y → PlainAgrees s w y
same-holding s w x y a same =
    record {
      shared = a.shared;
      worker_in = a.worker_in;
      credits = λ m k n unit. let o = same.opens k n in let v = same.works m k in rw (← o, ← v) (a.credits m k n unit);
      enrolled = λ e. a.enrolled (same.enrolled ∙ e);
      buffers = λ home low. let b = same.buffers home in let old = a.buffers home low in omega arith;
      messages = a.messages;
      cursors = a.cursors;
      ended = λ e. a.ended (same.ended ∙ e);
      closed = let c = same.closed in let old = a.closed in omega arith;
      looked = λ e. sym same.closed ∙ a.looked (same.looked ∙ e);
    }

-- ---- the tables of credits change
pub credits-change : (s : Shared) (used flying : List ℕ) (w : ℕ) (x : Holding) (opens works : ℕ → ℕ → ℕ) → PlainAgrees s w x →
    length used ≡ length s.used → length flying ≡ length s.flying →
    ((m k n : ℕ) → IsUnit s m k n →
    slice_index flying ((m * s.shape.stages + k) * s.shape.machines + n) + (cond (eqb m (machine_of s w)) (opens k n) 0 + cond (eqb n (machine_of s w)) (works m k) 0)
    ≤ slice_index used ((m * s.shape.stages + k) * s.shape.machines + n)) →
    PlainAgrees (record s { used = used; flying = flying }) w (record x { opens = opens; works = works; looked = false })
credits-change s used flying w x opens works a same_used same_flying credits =
    record {
      shared = record {
        shape = a.shared.shape;
        roots = a.shared.roots;
        pools = a.shared.pools;
        inboxes = a.shared.inboxes;
        used = same_used ∙ a.shared.used;
        flying = same_flying ∙ a.shared.flying;
        cursors = a.shared.cursors;
        enrolled = a.shared.enrolled;
        closed = a.shared.closed;
      };
      worker_in = a.worker_in;
      credits = credits;
      enrolled = a.enrolled;
      buffers = a.buffers;
      messages = a.messages;
      cursors = a.cursors;
      ended = a.ended;
      closed = a.closed;
      looked = λ e. absurd (false≢true e);
    }

-- a credit more, or one less, of the worker's open buffers
opens-raised : (f j q m k n o : ℕ) → cond (eqb f m) (o + one ((j == k) && (q == n))) 0 ≡ cond (eqb f m) o 0 + one (is_word f j q m k n)
opens-raised f j q m k n o = grind (arith, nat_tests)

opens-lowered : (f j q m k n o : ℕ) → (j ≡ k → q ≡ n → 0 < o) → cond (eqb f m) (o - one ((j == k) && (q == n))) 0 + one (is_word f j q m k n) ≡ cond (eqb f m) o 0
opens-lowered f j q m k n o some = grind (arith, nat_tests)

-- the same of its message frames
works-raised : (f j q a k m o : ℕ) → cond (eqb q m) (o + one ((f == a) && (j == k))) 0 ≡ cond (eqb q m) o 0 + one (is_word f j q a k m)
works-raised f j q a k m o = grind (arith, nat_tests)

works-lowered : (f j q a k m o : ℕ) → (f ≡ a → j ≡ k → 0 < o) → cond (eqb q m) (o - one ((f == a) && (j == k))) 0 + one (is_word f j q a k m) ≡ cond (eqb q m) o 0
works-lowered f j q a k m o some = grind (arith, nat_tests)

-- a credit is taken for the worker's machine
pub charge-holds : (s : Shared) (w k n : ℕ) (x : Holding) → PlainAgrees s w x → Allows s.shape x (ToCharge k n) →
    PlainAgrees (after_charge s (machine_of s w) k n) w (holds_after (ToCharge k n) Nothing x)
charge-holds s w k n x a may =
    let m = machine_of s w in
    let unit : IsUnit s m k n = (machine-within s w a.shared a.worker_in, may.0.0, may.0.1, may.1) in
    credits-change s (slice_set s.used ((m * s.shape.stages + k) * s.shape.machines + n) (used_at s m k n + 1)) s.flying w x (raised x.opens k n) x.works a
    (length-set s.used ((m * s.shape.stages + k) * s.shape.machines + n) (used_at s m k n + 1)) refl
    (λ f j q here.
    let old = a.credits f j q here in
    let up = word-raised s s.used m k n f j q a.shared.used unit here in
    let held = opens-raised f j q m k n (x.opens j q) in
    omega arith)

pub post-holds : (s : Shared) (w k n : ℕ) (x : Holding) → PlainAgrees s w x → Allows s.shape x (ToPost k n) →
    PlainAgrees (after_post s (machine_of s w) k n) w (holds_after (ToPost k n) Nothing x)
post-holds s w k n x a may =
    let m = machine_of s w in
    let unit : IsUnit s m k n = (machine-within s w a.shared a.worker_in, may.0.0, may.0.1, may.1) in
    credits-change s s.used (slice_set s.flying ((m * s.shape.stages + k) * s.shape.machines + n) (flying_at s m k n + 1)) w x (lowered x.opens k n) x.works a
    refl (length-set s.flying ((m * s.shape.stages + k) * s.shape.machines + n) (flying_at s m k n + 1))
    (λ f j q here.
    let old = a.credits f j q here in
    let up = word-raised s s.flying m k n f j q a.shared.flying unit here in
    let held = opens-lowered f j q m k n (x.opens j q) (λ e d. subst (λ i. 0 < x.opens i q) (sym e) (subst (λ i. 0 < x.opens k i) (sym d) may.2)) in
    omega arith)

pub pick-holds : (s : Shared) (w f k : ℕ) (x : Holding) → PlainAgrees s w x → Allows s.shape x (ToPick f k) → 0 < flying_at s f k (machine_of s w) →
    PlainAgrees (after_pick s f k (machine_of s w)) w (holds_after (ToPick f k) Nothing x)
pick-holds s w f k x a may some =
    let m = machine_of s w in
    let unit : IsUnit s f k m = (may.0, may.1.0, may.1.1, machine-within s w a.shared a.worker_in) in
    credits-change s s.used (slice_set s.flying ((f * s.shape.stages + k) * s.shape.machines + m) (flying_at s f k m - 1)) w x x.opens (raised x.works f k) a
    refl (length-set s.flying ((f * s.shape.stages + k) * s.shape.machines + m) (flying_at s f k m - 1))
    (λ g j q here.
    let old = a.credits g j q here in
    let down = word-lowered s s.flying f k m g j q a.shared.flying unit here some in
    let held = works-raised g j q f k m (x.works g j) in
    omega arith)

-- what the worker has in work is taken
pub work-taken : (s : Shared) (w f k : ℕ) (x : Holding) → PlainAgrees s w x → IsUnit s f k (machine_of s w) → x.works f k ≤ used_at s f k (machine_of s w)
work-taken s w f k x a unit =
    let m = machine_of s w in
    let old = a.credits f k m unit in
    let here : eqb m m ≡ true = grind (arith, nat_tests) in
    let mine : cond (eqb m m) (x.works f k) 0 ≡ x.works f k = rw here refl in
    omega arith

-- what it has open is taken, and not on its way
pub open-taken : (s : Shared) (w k n : ℕ) (x : Holding) → PlainAgrees s w x → IsUnit s (machine_of s w) k n → flying_at s (machine_of s w) k n + x.opens k n ≤ used_at s (machine_of s w) k n
open-taken s w k n x a unit =
    let m = machine_of s w in
    let old = a.credits m k n unit in
    let here : eqb m m ≡ true = grind (arith, nat_tests) in
    let mine : cond (eqb m m) (x.opens k n) 0 ≡ x.opens k n = rw here refl in
    omega arith

pub discharge-holds : (s : Shared) (w f k : ℕ) (x : Holding) → PlainAgrees s w x → Allows s.shape x (ToDischarge f k) →
    PlainAgrees (after_discharge s f k (machine_of s w)) w (holds_after (ToDischarge f k) Nothing x)
discharge-holds s w f k x a may =
    let m = machine_of s w in
    let unit : IsUnit s f k m = (may.0, may.1.0, may.1.1, machine-within s w a.shared a.worker_in) in
    let taken = work-taken s w f k x a unit in
    let some = may.2 in
    credits-change s (slice_set s.used ((f * s.shape.stages + k) * s.shape.machines + m) (used_at s f k m - 1)) s.flying w x x.opens (lowered x.works f k) a
    (length-set s.used ((f * s.shape.stages + k) * s.shape.machines + m) (used_at s f k m - 1)) refl
    (λ g j q here.
    let old = a.credits g j q here in
    let down = word-lowered s s.used f k m g j q a.shared.used unit here (omega arith) in
    let held = works-lowered g j q f k m (x.works g j) (λ e d. subst (λ i. 0 < x.works i j) (sym e) (subst (λ i. 0 < x.works f i) (sym d) some)) in
    omega arith)

-- ---- pools and inboxes change
pub stores-change : (s : Shared) (pools : List ℕ) (inboxes : List (List Message)) (w : ℕ) (x : Holding) (buffers : ℕ → ℕ) → PlainAgrees s w x →
    length pools ≡ length s.pools → length inboxes ≡ length s.inboxes →
    ((home : ℕ) → home < s.shape.machines → slice_index pools home + buffers_in home inboxes + buffers home ≤ pool_of s.shape) →
    ((m k i : ℕ) (waiting : List Message) (message : Message) → inbox_at (record s { inboxes = inboxes }) m k ≡ Some waiting → slice_get waiting i ≡ Some message →
    IsMessageOf s.shape message × (message.to ≡ m) × (message.stage ≡ k)) →
    PlainAgrees (record s { pools = pools; inboxes = inboxes }) w (record x { buffers = buffers; looked = false })
stores-change s pools inboxes w x buffers a same_pools same_inboxes rooms messages =
    record {
      shared = record {
        shape = a.shared.shape;
        roots = a.shared.roots;
        pools = same_pools ∙ a.shared.pools;
        inboxes = same_inboxes ∙ a.shared.inboxes;
        used = a.shared.used;
        flying = a.shared.flying;
        cursors = a.shared.cursors;
        enrolled = a.shared.enrolled;
        closed = a.shared.closed;
      };
      worker_in = a.worker_in;
      credits = a.credits;
      enrolled = a.enrolled;
      buffers = rooms;
      messages = messages;
      cursors = a.cursors;
      ended = a.ended;
      closed = a.closed;
      looked = λ e. absurd (false≢true e);
    }

one-same : (a b : ℕ) → one (a == b) ≡ one (b == a)
one-same a b = grind (arith, nat_tests)

fewer-of : (buffers : ℕ → ℕ) (a home : ℕ) → 0 < buffers a → buffers home - one (home == a) + one (a == home) ≡ buffers home
fewer-of buffers a home some = go (eqb a home) refl
  where
    go : (b : Bool) → eqb a home ≡ b → buffers home - one (home == a) + one (a == home) ≡ buffers home
    go true e = let same = eqb-true a home e in subst (λ h. buffers h - one (h == a) + one (a == h) ≡ buffers h) same (grind (arith, nat_tests))
    go false e = let turned = one-same a home in let zero : one (a == home) ≡ 0 = ap one e in omega arith

pub fetch-holds : (s : Shared) (w : ℕ) (x : Holding) (buffer : Batch) → PlainAgrees s w x → buffer.home ≡ machine_of s w → 0 < pool_at s (machine_of s w) →
    PlainAgrees (after_fetch s (machine_of s w)) w (holds_after ToFetch (Taken buffer) x)
fetch-holds s w x buffer a home some =
    let m = machine_of s w in
    let within = machine-within s w a.shared a.worker_in in
    let size = a.shared.pools in
    stores-change s (slice_set s.pools m (pool_at s m - 1)) s.inboxes w x (more x.buffers buffer.home) a (length-set s.pools m (pool_at s m - 1)) refl
    (λ h low.
    let old = a.buffers h low in
    let down = number-lowered s.pools m h (omega arith) some in
    let turned = one-same h m in
    let same = ap (λ i. one (h == i)) home in
    omega arith)
    a.messages

pub restore-holds : (s : Shared) (w : ℕ) (x : Holding) (buffer : Batch) → PlainAgrees s w x → Allows s.shape x (ToRestore buffer) →
    PlainAgrees (after_restore s buffer.home) w (holds_after (ToRestore buffer) Nothing x)
restore-holds s w x buffer a may =
    let size = a.shared.pools in
    let within = may.0 in
    stores-change s (slice_set s.pools buffer.home (pool_at s buffer.home + 1)) s.inboxes w x (fewer x.buffers buffer.home) a
    (length-set s.pools buffer.home (pool_at s buffer.home + 1)) refl
    (λ h low.
    let old = a.buffers h low in
    let up = number-raised s.pools buffer.home h (omega arith) in
    let less = fewer-of x.buffers buffer.home h may.2 in
    omega arith)
    a.messages

-- the inbox that is there, and its place
pub record InboxIs (s : Shared) (n k : ℕ) (ms : List Message) : Type 0 where
  pub stage : k < s.shape.stages
  pub at : slice_get s.inboxes (inbox_place s n k) ≡ Some ms

and-true : (a b : Bool) → (a && b) ≡ true → (a ≡ true) × (b ≡ true)
and-true true b e = (refl, e)
and-true false b e = cc

pub inbox-is : (s : Shared) (n k : ℕ) (ms : List Message) → inbox_at s n k ≡ Some ms → InboxIs s n k ms
inbox-is s n k ms e = go (nat_lt 0 k && nat_lt k s.shape.stages) refl
  where
    go : (b : Bool) → (nat_lt 0 k && nat_lt k s.shape.stages) ≡ b → InboxIs s n k ms
    go true t =
        let low = (and-true (nat_lt 0 k) (nat_lt k s.shape.stages) t).1 in
        record { stage = grind (arith, nat_tests, low); at = sym (ap (λ b. cond b (slice_get s.inboxes (inbox_place s n k)) None) t) ∙ e }
    go false t = absurd (none-some ms (sym (ap (λ b. cond b (slice_get s.inboxes (inbox_place s n k)) None) t) ∙ e))

-- a message of the changed inboxes stood there before, or in the inbox that changed
pub inbox-of_set : (s : Shared) (a j n k : ℕ) (old new ms : List Message) (i : ℕ) (b : Message) → inbox_at s a j ≡ Some old →
    inbox_at (record s { inboxes = slice_set s.inboxes (inbox_place s a j) new }) n k ≡ Some ms → slice_get ms i ≡ Some b →
    ((n ≡ a) × (k ≡ j) × (slice_get new i ≡ Some b)) ⊎ (inbox_at s n k ≡ Some ms)
inbox-of_set s a j n k old new ms i b was is at =
    let here = inbox-is s a j old was in
    let there = inbox-is (record s { inboxes = slice_set s.inboxes (inbox_place s a j) new }) n k ms is in
    elim (get-of_set s.inboxes (inbox_place s a j) (inbox_place s n k) new ms there.at) [
      | inl p ↦ (let place = same_from_place n k a j s.shape.stages there.stage here.stage p.0 in inl (place.0, place.1, ap (λ xs. slice_get xs i) (sym p.1) ∙ at))
      | inr q ↦ inr (back (nat_lt 0 k && nat_lt k s.shape.stages) refl is q)
    ]
  where
    back : (t : Bool) → (nat_lt 0 k && nat_lt k s.shape.stages) ≡ t →
        cond (nat_lt 0 k && nat_lt k s.shape.stages) (slice_get (slice_set s.inboxes (inbox_place s a j) new) (inbox_place s n k)) None ≡ Some ms →
        slice_get s.inboxes (inbox_place s n k) ≡ Some ms → inbox_at s n k ≡ Some ms
    back true e is q = ap (λ x. cond x (slice_get s.inboxes (inbox_place s n k)) None) e ∙ q
    back false e is q = absurd (none-some ms (sym (ap (λ x. cond x (slice_get (slice_set s.inboxes (inbox_place s a j) new) (inbox_place s n k)) None) e) ∙ is))

pub push-holds : (s : Shared) (w : ℕ) (x : Holding) (b : Message) (ms : List Message) → PlainAgrees s w x → Allows s.shape x (ToPush b) → inbox_at s b.to b.stage ≡ Some ms →
    PlainAgrees (record s { inboxes = slice_set s.inboxes (inbox_place s b.to b.stage) (ms ++ b ∷ []) }) w (holds_after (ToPush b) Nothing x)
push-holds s w x b ms a may there =
    let inbox = inbox-is s b.to b.stage ms there in
    let new = ms ++ b ∷ [] in
    stores-change s s.pools (slice_set s.inboxes (inbox_place s b.to b.stage) new) w x (fewer x.buffers b.items.home) a refl (length-set s.inboxes (inbox_place s b.to b.stage) new)
    (λ h low.
    let old = a.buffers h low in
    let set = total-set (λ (m : List Message). total (λ (y : Message). one (y.items.home == h)) m) s.inboxes (inbox_place s b.to b.stage) ms new inbox.at in
    let more = total-push (λ (y : Message). one (y.items.home == h)) ms b in
    let less = fewer-of x.buffers b.items.home h may.1 in
    omega arith)
    (λ n k j xs y inside here. elim (inbox-of_set s b.to b.stage n k ms new xs j y there inside here) [
      | inl p ↦ (elim (get-of_push ms b y j p.2) [
        | inl same ↦ (subst (λ z. IsMessageOf s.shape z) (sym same) may.0, ap (λ (z : Message). z.to) same ∙ sym p.0, ap (λ (z : Message). z.stage) same ∙ sym p.1)
        | inr old ↦ (let was = a.messages b.to b.stage j ms y there old in (was.0, was.1 ∙ sym p.0, was.2 ∙ sym p.1))
      ])
      | inr old ↦ a.messages n k j xs y old here
    ])

pub pop-holds : (s : Shared) (w k : ℕ) (x : Holding) (b : Message) (bs : List Message) → PlainAgrees s w x → inbox_at s (machine_of s w) k ≡ Some (b ∷ bs) →
    PlainAgrees (record s { inboxes = slice_set s.inboxes (inbox_place s (machine_of s w) k) bs }) w (holds_after (ToPop k) (Came b) x)
pop-holds s w k x b bs a there =
    let m = machine_of s w in
    let inbox = inbox-is s m k (b ∷ bs) there in
    stores-change s s.pools (slice_set s.inboxes (inbox_place s m k) bs) w x (more x.buffers b.items.home) a refl (length-set s.inboxes (inbox_place s m k) bs)
    (λ h low.
    let old = a.buffers h low in
    let set = total-set (λ (ms : List Message). total (λ (y : Message). one (y.items.home == h)) ms) s.inboxes (inbox_place s m k) (b ∷ bs) bs inbox.at in
    let turned = one-same h b.items.home in
    omega arith)
    (λ n j p xs y inside here. elim (inbox-of_set s m k n j (b ∷ bs) bs xs p y there inside here) [
      | inl q ↦ (let was = a.messages m k (suc p) (b ∷ bs) y there q.2 in (was.0, was.1 ∙ sym q.0, was.2 ∙ sym q.1))
      | inr old ↦ a.messages n j p xs y old here
    ])
