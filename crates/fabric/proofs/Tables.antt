-- One pool or inbox of a plain fabric changes.
use Rattle.std.proofs.Common.{◌≡◌, ℕ, ◌+◌, ◌-◌, ◌<◌, Bool, true, false, cond, ◌&&◌, List, [], ◌∷◌, ◌++◌, length, get_or, map, Option, Some, None, refl, sym, ap, ◌∙◌, arith, subst, inl, inr}
use Rattle.std.specs.Prelude.{slice_get, slice_set, nat_lt}
use Rattle.std.specs.Option.{option_map}
use Rattle.std.specs.Vec.{with_item}
use Rattle.std.proofs.lemmas.Bool.Decides.{nat_tests}
use Rattle.std.proofs.lemmas.List.{length-map, length-set, map-set}
use Rattle.std.proofs.lemmas.Option.{slice_get-map, slice_get-get_or, get_or_from_slice_get}
use Rattle.adfs_base.specs.Shape.{pool_of}
use Rattle.match_context.specs.Batch.{Batch}
use Rattle.match_context.specs.declared.message.Message.{Message}
use Rattle.match_context.proofs.Totals.{get-of_set}
use Rattle.fabric.specs.Calls.{empty_buffer, fetch_answer, after_fetch, after_restore, has_space, can_push, after_push, with_last, first_of, rest_of, first_in, pop_answer, without_first, after_pop}
use Rattle.fabric.specs.Queue.{Queue, Stock}
use Rattle.fabric.specs.Shared.{Shared, IsMessageStage, pool_at, inbox_place, inbox_at, room_of}
use Rattle.fabric.specs.View.{shared_of, IsFabric}
use Rattle.fabric.specs.declared.plain.PlainFabric.TheInside.{Inside}

-- ---- pools
at-index : {A : Type 0} (xs : List A) (i : ℕ) (x : A) → i < length xs → x ≡ get_or xs i x → slice_get xs i ≡ Some x
at-index xs i x within e = slice_get-get_or xs i x within ∙ ap Some (sym e)

mapped-at : {A B : Type 0} (f : A → B) (xs : List A) (i : ℕ) (x : A) → slice_get xs i ≡ Some x → slice_get (map f xs) i ≡ Some (f x)
mapped-at f xs i x e = slice_get-map f xs i ∙ ap (option_map f) e

-- a pool as the code finds it
pub record PoolAt (a : Inside) (m : ℕ) (p : Stock) : Type 0 where
  pub at : slice_get a.pools.items m ≡ Some p
  pub home : p.home ≡ m
  pub size : p.size ≡ a.shape.buffer
  pub room : p.room ≡ pool_of a.shape
  pub count : pool_at (shared_of a) m ≡ p.count

pub pool-found : (a : Inside) (m : ℕ) (p : Stock) → IsFabric a → m < a.shape.machines → p ≡ get_or a.pools.items m p → PoolAt a m p
pool-found a m p fab within e =
    let len : length a.pools.items ≡ a.shape.machines = sym (length-map a.pools.items (λ q. q.count)) ∙ fab.shared.pools in
    let at = at-index a.pools.items m p (omega arith) e in
    let is = fab.pools m p at in
    record {
      at = at;
      home = is.0;
      size = is.1;
      room = is.2;
      count = get_or_from_slice_get (map (λ q. q.count) a.pools.items) m p.count 0 (mapped-at (λ q. q.count) a.pools.items m p at);
    }

pub pools-kept : (a : Inside) (m : ℕ) (p p' : Stock) → IsFabric a → PoolAt a m p → p'.home ≡ p.home → p'.size ≡ p.size → p'.room ≡ p.room →
    IsFabric (record a { pools = with_item a.pools m p' })
pools-kept a m p p' fab found home size room =
    record {
      shared = record {
        shape = fab.shared.shape;
        roots = fab.shared.roots;
        pools = length-map (slice_set a.pools.items m p') (λ q. q.count) ∙ length-set a.pools.items m p' ∙ sym (length-map a.pools.items (λ q. q.count)) ∙ fab.shared.pools;
        inboxes = fab.shared.inboxes;
        used = fab.shared.used;
        flying = fab.shared.flying;
        cursors = fab.shared.cursors;
        enrolled = fab.shared.enrolled;
        closed = fab.shared.closed;
      };
      pools = λ j q e. elim (get-of_set a.pools.items m j p' q e) [
        | inl new ↦ (ap (λ u. u.home) new.1 ∙ home ∙ found.home ∙ sym new.0, ap (λ u. u.size) new.1 ∙ size ∙ found.size, ap (λ u. u.room) new.1 ∙ room ∙ found.room)
        | inr old ↦ fab.pools j q old
      ];
      inboxes = fab.inboxes;
    }

pub pools-changed : (a : Inside) (m n : ℕ) (p' : Stock) → p'.count ≡ n →
    shared_of (record a { pools = with_item a.pools m p' }) ≡ record (shared_of a) { pools = slice_set (shared_of a).pools m n }
pools-changed a m n p' e =
    ap (λ ps. record (shared_of a) { pools = ps }) (map-set (λ q. q.count) a.pools.items m p' ∙ ap (slice_set (map (λ q. q.count) a.pools.items) m) e)

pub fetch-answer : (a : Inside) (m : ℕ) (p : Stock) (r : Option Batch) → PoolAt a m p → r ≡ cond (nat_lt 0 p.count) (Some (empty_buffer p.home p.size)) None →
    r ≡ fetch_answer (shared_of a) m
fetch-answer a m p r found e =
    e ∙ ap (λ n. cond (nat_lt 0 n) (Some (empty_buffer p.home p.size)) None) (sym found.count)
    ∙ ap (λ h. cond (nat_lt 0 (pool_at (shared_of a) m)) (Some (empty_buffer h p.size)) None) found.home
    ∙ ap (λ z. cond (nat_lt 0 (pool_at (shared_of a) m)) (Some (empty_buffer m z)) None) found.size

pub fetch-change : (a : Inside) (m : ℕ) (p p' : Stock) → PoolAt a m p → p' ≡ record p { count = p.count - 1 } →
    shared_of (record a { pools = with_item a.pools m p' }) ≡ after_fetch (shared_of a) m
fetch-change a m p p' found e = pools-changed a m (pool_at (shared_of a) m - 1) p' (ap (λ q. q.count) e ∙ ap (λ n. n - 1) (sym found.count))

pub restore-change : (a : Inside) (m : ℕ) (p p' : Stock) → PoolAt a m p → p' ≡ record p { count = p.count + 1 } →
    shared_of (record a { pools = with_item a.pools m p' }) ≡ after_restore (shared_of a) m
restore-change a m p p' found e = pools-changed a m (pool_at (shared_of a) m + 1) p' (ap (λ q. q.count) e ∙ ap (λ n. n + 1) (sym found.count))

-- ---- inboxes
pub record InboxAt (a : Inside) (m k : ℕ) (q : Queue) : Type 0 where
  pub at : slice_get a.inboxes.items (inbox_place (shared_of a) m k) ≡ Some q
  pub room : q.room ≡ room_of a.shape
  pub messages : inbox_at (shared_of a) m k ≡ Some q.messages

stage-there : (s : Shared) (k : ℕ) → IsMessageStage s k → (nat_lt 0 k && nat_lt k s.shape.stages) ≡ true
stage-there s k stage = let low = stage.0 in let high = stage.1 in grind (arith, nat_tests, low, high)

pub inbox-found : (a : Inside) (m k i : ℕ) (q : Queue) → IsFabric a → IsMessageStage (shared_of a) k → i ≡ inbox_place (shared_of a) m k → i < length (shared_of a).inboxes →
    q ≡ get_or a.inboxes.items i q → InboxAt a m k q
inbox-found a m k i q fab stage place within e =
    let len = length-map a.inboxes.items (λ u. u.messages) in
    let at : slice_get a.inboxes.items (inbox_place (shared_of a) m k) ≡ Some q =
    subst (λ j. slice_get a.inboxes.items j ≡ Some q) place (at-index a.inboxes.items i q (omega arith) e) in
    record {
      at = at;
      room = fab.inboxes (inbox_place (shared_of a) m k) q at;
      messages = rw (stage-there (shared_of a) k stage) (mapped-at (λ u. u.messages) a.inboxes.items (inbox_place (shared_of a) m k) q at);
    }

pub inboxes-kept : (a : Inside) (i : ℕ) (q q' : Queue) → IsFabric a → slice_get a.inboxes.items i ≡ Some q → q'.room ≡ q.room → IsFabric (record a { inboxes = with_item a.inboxes i q' })
inboxes-kept a i q q' fab at room =
    record {
      shared = record {
        shape = fab.shared.shape;
        roots = fab.shared.roots;
        pools = fab.shared.pools;
        inboxes = length-map (slice_set a.inboxes.items i q') (λ u. u.messages) ∙ length-set a.inboxes.items i q' ∙ sym (length-map a.inboxes.items (λ u. u.messages)) ∙ fab.shared.inboxes;
        used = fab.shared.used;
        flying = fab.shared.flying;
        cursors = fab.shared.cursors;
        enrolled = fab.shared.enrolled;
        closed = fab.shared.closed;
      };
      pools = fab.pools;
      inboxes = λ j u e. elim (get-of_set a.inboxes.items i j q' u e) [ inl new ↦ ap (λ v. v.room) new.1 ∙ room ∙ fab.inboxes i q at | inr old ↦ fab.inboxes j u old ];
    }

pub inboxes-changed : (a : Inside) (i : ℕ) (ms : List Message) (q' : Queue) → q'.messages ≡ ms →
    shared_of (record a { inboxes = with_item a.inboxes i q' }) ≡ record (shared_of a) { inboxes = slice_set (shared_of a).inboxes i ms }
inboxes-changed a i ms q' e =
    ap (λ qs. record (shared_of a) { inboxes = qs }) (map-set (λ u. u.messages) a.inboxes.items i q' ∙ ap (slice_set (map (λ u. u.messages) a.inboxes.items) i) e)

-- whether an inbox has space
pub space-found : (a : Inside) (m k : ℕ) (q : Queue) → InboxAt a m k q → nat_lt (length q.messages) q.room ≡ can_push (shared_of a) m k
space-found a m k q found = ap (λ n. nat_lt (length q.messages) n) found.room ∙ sym (ap (has_space a.shape) found.messages)

pub push-change : (a : Inside) (b : Message) (q q' : Queue) → InboxAt a b.to b.stage q → q' ≡ record q { messages = q.messages ++ b ∷ [] } →
    shared_of (record a { inboxes = with_item a.inboxes (inbox_place (shared_of a) b.to b.stage) q' }) ≡ after_push (shared_of a) b
push-change a b q q' found e =
    inboxes-changed a (inbox_place (shared_of a) b.to b.stage) (q.messages ++ b ∷ []) q' (ap (λ u. u.messages) e)
    ∙ ap (λ o. record (shared_of a) { inboxes = with_last b (inbox_place (shared_of a) b.to b.stage) o (shared_of a).inboxes }) (sym found.messages)

pub pop-found : (a : Inside) (m k : ℕ) (q : Queue) → InboxAt a m k q → first_of q.messages ≡ pop_answer (shared_of a) m k
pop-found a m k q found = sym (ap first_in found.messages)

pub pop-change : (a : Inside) (m k : ℕ) (q q' : Queue) → InboxAt a m k q → q' ≡ record q { messages = rest_of q.messages } →
    shared_of (record a { inboxes = with_item a.inboxes (inbox_place (shared_of a) m k) q' }) ≡ after_pop (shared_of a) m k
pop-change a m k q q' found e =
    inboxes-changed a (inbox_place (shared_of a) m k) (rest_of q.messages) q' (ap (λ u. u.messages) e)
    ∙ ap (λ o. record (shared_of a) { inboxes = without_first (inbox_place (shared_of a) m k) o (shared_of a).inboxes }) (sym found.messages)

-- an inbox that isn't there
pub no-inbox : (s : Shared) (m k : ℕ) → (IsMessageStage s k → ⊥) → inbox_at s m k ≡ None
no-inbox s m k not_there = go (nat_lt 0 k && nat_lt k s.shape.stages) refl
  where
    go : (b : Bool) → (nat_lt 0 k && nat_lt k s.shape.stages) ≡ b → inbox_at s m k ≡ None
    go false e = rw e refl
    go true e = absurd (not_there (grind (arith, nat_tests, e), grind (arith, nat_tests, e)))

-- ---- what the calls leave
abbrev pub Fetched : Inside → Shared → ℕ → ℕ → Stock → Option Batch → Type 0
Fetched a s m n p' r =
    IsFabric (record a { pools = with_item a.pools m p' }) × (r ≡ fetch_answer s n) × (shared_of (record a { pools = with_item a.pools m p' }) ≡ after_fetch s n)

abbrev pub Restored : Inside → Shared → ℕ → ℕ → Stock → Type 0
Restored a s m n p' = IsFabric (record a { pools = with_item a.pools m p' }) × (shared_of (record a { pools = with_item a.pools m p' }) ≡ after_restore s n)

abbrev pub Pushed : Inside → Shared → Message → ℕ → Queue → Type 0
Pushed a s b i q' =
    IsFabric (record a { inboxes = with_item a.inboxes i q' }) × (can_push s b.to b.stage ≡ true)
    × (shared_of (record a { inboxes = with_item a.inboxes i q' }) ≡ after_push s b)

abbrev pub Popped : Inside → Shared → ℕ → ℕ → ℕ → Queue → Option Message → Type 0
Popped a s n k i q' r =
    IsFabric (record a { inboxes = with_item a.inboxes i q' }) × (r ≡ pop_answer s n k)
    × (shared_of (record a { inboxes = with_item a.inboxes i q' }) ≡ after_pop s n k)

pub fetched : (a : Inside) (s : Shared) (m n : ℕ) (p p' : Stock) (r : Option Batch) → IsFabric a → shared_of a ≡ s → m ≡ n → m < s.shape.machines → p ≡ get_or a.pools.items m p →
    r ≡ cond (nat_lt 0 p.count) (Some (empty_buffer p.home p.size)) None → p' ≡ record p { count = p.count - 1 } → Fetched a s m n p' r
fetched a s m n p p' r fab view number within read answered changed =
    let found = pool-found a m p fab (subst (λ h. m < h.shape.machines) (sym view) within) read in (
      pools-kept a m p p' fab found (ap (λ q. q.home) changed) (ap (λ q. q.size) changed) (ap (λ q. q.room) changed),
      fetch-answer a m p r found answered ∙ ap (λ h. fetch_answer h m) view ∙ ap (fetch_answer s) number,
      fetch-change a m p p' found changed ∙ ap (λ h. after_fetch h m) view ∙ ap (after_fetch s) number,
    )

pub restored : (a : Inside) (s : Shared) (m n : ℕ) (p p' : Stock) → IsFabric a → shared_of a ≡ s → m ≡ n → n < s.shape.machines → p ≡ get_or a.pools.items m p →
    p' ≡ record p { count = p.count + 1 } → Restored a s m n p'
restored a s m n p p' fab view same within read changed =
    let found = pool-found a m p fab (subst (λ h. m < h.shape.machines) (sym view) (omega arith)) read in (
      pools-kept a m p p' fab found (ap (λ q. q.home) changed) (ap (λ q. q.size) changed) (ap (λ q. q.room) changed),
      restore-change a m p p' found changed ∙ ap (λ h. after_restore h m) view ∙ ap (after_restore s) same,
    )

pub pushed : (a : Inside) (s : Shared) (b : Message) (i : ℕ) (q q' : Queue) → IsFabric a → shared_of a ≡ s → IsMessageStage s b.stage → i ≡ inbox_place s b.to b.stage →
    i < length s.inboxes → q ≡ get_or a.inboxes.items i q →
    nat_lt (length q.messages) q.room ≡ true → q' ≡ record q { messages = q.messages ++ b ∷ [] } → Pushed a s b i q'
pushed a s b i q q' fab view stage place within read space changed =
    let found = inbox-found a b.to b.stage i q fab (subst (λ h. IsMessageStage h b.stage) (sym view) stage) (place ∙ ap (λ h. inbox_place h b.to b.stage) (sym view))
    (subst (λ h. i < length h.inboxes) (sym view) within) read in
    let at = place ∙ ap (λ h. inbox_place h b.to b.stage) (sym view) in
    let kept = inboxes-kept a (inbox_place (shared_of a) b.to b.stage) q q' fab found.at (ap (λ u. u.room) changed) in (
      subst (λ j. IsFabric (record a { inboxes = with_item a.inboxes j q' })) (sym at) kept,
      ap (λ h. can_push h b.to b.stage) (sym view) ∙ sym (space-found a b.to b.stage q found) ∙ space,
      ap (λ j. shared_of (record a { inboxes = with_item a.inboxes j q' })) at ∙ push-change a b q q' found changed ∙ ap (λ h. after_push h b) view,
    )

pub not-pushed : (a : Inside) (s : Shared) (b : Message) (i : ℕ) (q : Queue) → IsFabric a → shared_of a ≡ s → IsMessageStage s b.stage → i ≡ inbox_place s b.to b.stage →
    i < length s.inboxes → q ≡ get_or a.inboxes.items i q →
    nat_lt (length q.messages) q.room ≡ false → can_push s b.to b.stage ≡ false
not-pushed a s b i q fab view stage place within read space =
    let found = inbox-found a b.to b.stage i q fab (subst (λ h. IsMessageStage h b.stage) (sym view) stage) (place ∙ ap (λ h. inbox_place h b.to b.stage) (sym view))
    (subst (λ h. i < length h.inboxes) (sym view) within) read in
    ap (λ h. can_push h b.to b.stage) (sym view) ∙ sym (space-found a b.to b.stage q found) ∙ space

pub popped : (a : Inside) (s : Shared) (m n k i : ℕ) (q q' : Queue) (r : Option Message) → IsFabric a → shared_of a ≡ s → m ≡ n → IsMessageStage s k → i ≡ inbox_place s m k →
    i < length s.inboxes → q ≡ get_or a.inboxes.items i q →
    r ≡ first_of q.messages → q' ≡ record q { messages = rest_of q.messages } → Popped a s n k i q' r
popped a s m n k i q q' r fab view number stage place within read answered changed =
    let at = place ∙ ap (λ h. inbox_place h m k) (sym view) in
    let found = inbox-found a m k i q fab (subst (λ h. IsMessageStage h k) (sym view) stage) at (subst (λ h. i < length h.inboxes) (sym view) within) read in
    let kept = inboxes-kept a (inbox_place (shared_of a) m k) q q' fab found.at (ap (λ u. u.room) changed) in (
      subst (λ j. IsFabric (record a { inboxes = with_item a.inboxes j q' })) (sym at) kept,
      answered ∙ pop-found a m k q found ∙ ap (λ h. pop_answer h m k) view ∙ ap (λ j. pop_answer s j k) number,
      ap (λ j. shared_of (record a { inboxes = with_item a.inboxes j q' })) at ∙ pop-change a m k q q' found changed ∙ ap (λ h. after_pop h m k) view ∙ ap (λ j. after_pop s j k) number,
    )

-- no message of an inbox that isn't there
pub not-popped : (s : Shared) (m k : ℕ) → (IsMessageStage s k → ⊥) → (None ≡ pop_answer s m k) × (s ≡ after_pop s m k)
not-popped s m k not_there =
    let none = no-inbox s m k not_there in
    (sym (ap first_in none), sym (ap (λ o. record s { inboxes = without_first (inbox_place s m k) o s.inboxes }) none))

-- two reads at one place
pub same-read : (a : Inside) (s : Shared) (i : ℕ) (q u : Queue) → shared_of a ≡ s → i < length s.inboxes → q ≡ get_or a.inboxes.items i q → u ≡ get_or a.inboxes.items i u → q ≡ u
same-read a s i q u view within first second =
    let len = length-map a.inboxes.items (λ v. v.messages) in
    let there : i < length (shared_of a).inboxes = subst (λ h. i < length h.inboxes) (sym view) within in
    let one = at-index a.inboxes.items i q (omega arith) first in
    let two = at-index a.inboxes.items i u (omega arith) second in
    cc
