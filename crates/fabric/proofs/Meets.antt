-- The plain fabric's calls meet what is promised of any fabric.
use Rattle.std.proofs.Common.{◌≡◌, ℕ, ◌-◌, ◌<◌, ◌≤◌, Bool, true, false, cond, ◌==◌, List, [], ◌∷◌, Option, Some, None, refl, sym, ap, subst, ◌∙◌, arith, zero, suc}
use Rattle.std.specs.Prelude.{slice_get, slice_set, slice_index, MatchOption, MatchResult, Result, Ok, Err, OnOk, IfErr, IsOkAnd}
use Rattle.std.proofs.lemmas.Bool.{false≢true}
use Rattle.std.proofs.lemmas.Bool.Decides.{nat_tests}
use Rattle.std.proofs.lemmas.List.{length-set, set-get_or}
use Rattle.adfs_base.specs.declared.step_answers.Charge.{Charge}
use Rattle.adfs_base.specs.declared.step_answers.Charge.TheVariants as charge
use Rattle.adfs_base.specs.declared.step_answers.Claimed.{Claimed}
use Rattle.adfs_base.specs.declared.step_answers.Claimed.TheVariants as claimed
use Rattle.adfs_base.specs.declared.step_answers.Closing.{Closing}
use Rattle.adfs_base.specs.declared.step_answers.Closing.TheVariants as closing
use Rattle.adfs_base.specs.declared.step_answers.Marked.{Marked}
use Rattle.adfs_base.specs.declared.step_answers.Marked.TheVariants as marked
use Rattle.adfs_base.specs.declared.step_answers.Pick.{Pick}
use Rattle.adfs_base.specs.declared.step_answers.Pick.TheVariants as pick
use Rattle.adfs_base.specs.declared.step_answers.Word.{Word}
use Rattle.match_context.specs.Batch.{Batch}
use Rattle.match_context.specs.declared.message.Message.{Message}
use Rattle.fabric.specs.Account.{Holding, Call, ToClaim, ToRetire, ToCharge, ToFetch, ToPost, ToPush, ToPop, ToPick, ToRestore, ToDischarge, ToMark, ToClose, ToLook, Given, Nothing, Roots, Taken, Came, Seen, Allows, IsGiven, holds_after, unlooked, at_end}
use Rattle.fabric.specs.Calls.{can_claim, chunk_end, claim_answer, after_claim, after_retire, can_charge, charge_answer, after_charge, after_discharge, can_fetch, empty_buffer, fetch_answer, after_fetch, after_restore, after_post}
use Rattle.fabric.specs.Calls.{can_pick, pick_answer, after_pick, has_space, can_push, with_last, after_push, first_in, pop_answer, without_first, after_pop, mark_answer, after_close}
use Rattle.fabric.specs.Fabric.{MayCall, SameExtent, Ready, Missed, OnClaimed, OnCharge, OnPick, OnMarked, OnClosing}
use Rattle.fabric.specs.Plain.{PlainDone, PlainExcused, PlainAgrees, plain_shape, outcome, if_ready, if_given}
use Rattle.fabric.specs.Shared.{Shared, machine_of, used_at, flying_at, roots_at, cursor_at, enrolled_at, pool_at, word_at, inbox_place, inbox_at}
use Rattle.fabric.proofs.Agrees.{machine-within, same-holding, charge-holds, post-holds, pick-holds, discharge-holds, fetch-holds, restore-holds, push-holds, pop-holds, inbox-is}

abbrev pub IsReady : Shared → ℕ → Call → Given → Shared → Type 0
IsReady s w call given t = Ready PlainAgrees PlainDone plain_shape roots_at s w call given t

abbrev pub IsMissed : (Holding → Holding) → Shared → ℕ → Call → Shared → Type 0
IsMissed after s w call t = Missed PlainAgrees PlainExcused plain_shape roots_at after s w call t

abbrev pub MayBe : Shared → ℕ → Call → Type 0
MayBe s w call = MayCall PlainAgrees plain_shape s w call

is-ready : (s : Shared) (w : ℕ) (call : Call) (given : Given) (t : Shared) → outcome s w call ≡ Some (given, t) → IsGiven s.shape (roots_at s (machine_of s w)) (machine_of s w) call given →
    SameExtent plain_shape roots_at s t → ((x : Holding) → PlainAgrees s w x → Allows s.shape x call → PlainAgrees t w (holds_after call given x)) → IsReady s w call given t
is-ready s w call given t made something same keeps =
    record { made = made; something = something; same = same; holds = λ x y a may alike. same-holding t w (holds_after call given x) y (keeps x a may) alike }

-- without the look a worker agrees as before
not-looked : (s : Shared) (w : ℕ) (x : Holding) → PlainAgrees s w x → PlainAgrees s w (unlooked x)
not-looked s w x a =
    record {
      shared = a.shared;
      worker_in = a.worker_in;
      credits = a.credits;
      enrolled = a.enrolled;
      buffers = a.buffers;
      messages = a.messages;
      cursors = a.cursors;
      ended = a.ended;
      closed = a.closed;
      looked = λ e. absurd (false≢true e);
    }

is-missed : (s : Shared) (w : ℕ) (call : Call) (t : Shared) → outcome s w call ≡ None → t ≡ s → IsMissed unlooked s w call t
is-missed s w call t none same =
    subst (λ u. IsMissed unlooked s w call u) (sym same) (record {
      allowed = (none, refl);
      same = record { same_shape = refl; same_roots = λ m. refl };
      holds = λ x y a alike. same-holding s w (unlooked x) y (not-looked s w x a) alike;
    })

-- ---- roots
abbrev pub ClaimMeets : Shared → ℕ → Claimed → Shared → Type 0
ClaimMeets s w r t =
    OnClaimed r (λ first end. IsReady s w ToClaim (Roots first end) t) (IsMissed at_end s w ToClaim t) (IsMissed unlooked s w ToClaim t × PlainExcused s w ToRetire t)

cursor-moved : (xs : List ℕ) (i v roots j : ℕ) → (j ≡ i → v ≤ roots) → slice_index xs j ≤ roots → slice_index (slice_set xs i v) j ≤ roots
cursor-moved [] i v roots j new old = old
cursor-moved (x ∷ xs) zero v roots zero new old = new refl
cursor-moved (x ∷ xs) zero v roots (suc j) new old = old
cursor-moved (x ∷ xs) (suc i) v roots zero new old = old
cursor-moved (x ∷ xs) (suc i) v roots (suc j) new old = cursor-moved xs i v roots j (λ e. new (ap suc e)) old

claim-holds : (s : Shared) (w : ℕ) (x : Holding) → can_claim s (machine_of s w) ≡ true → PlainAgrees s w x → PlainAgrees (after_claim s (machine_of s w)) w (unlooked x)
claim-holds s w x can a =
    let m = machine_of s w in
    let less : cursor_at s m < roots_at s m = grind (arith, nat_tests, can) in
    let within = machine-within s w a.shared a.worker_in in
    record {
      shared = record {
        shape = a.shared.shape;
        roots = a.shared.roots;
        pools = a.shared.pools;
        inboxes = a.shared.inboxes;
        used = a.shared.used;
        flying = a.shared.flying;
        cursors = length-set s.cursors m (chunk_end s m) ∙ a.shared.cursors;
        enrolled = a.shared.enrolled;
        closed = a.shared.closed;
      };
      worker_in = a.worker_in;
      credits = a.credits;
      enrolled = a.enrolled;
      buffers = a.buffers;
      messages = a.messages;
      cursors = λ j. cursor-moved s.cursors m (chunk_end s m) (roots_at s j) j (λ e. subst (λ i. chunk_end s m ≤ roots_at s i) (sym e) (omega arith)) (a.cursors j);
      ended = λ e. let done = a.ended e in absurd (omega arith);
      closed = a.closed;
      looked = λ e. absurd (false≢true e);
    }

-- it saw that no root is left
saw-end : (s : Shared) (w : ℕ) (x : Holding) → roots_at s (machine_of s w) ≤ cursor_at s (machine_of s w) → PlainAgrees s w x → PlainAgrees s w (at_end x)
saw-end s w x over a =
    record {
      shared = a.shared;
      worker_in = a.worker_in;
      credits = a.credits;
      enrolled = a.enrolled;
      buffers = a.buffers;
      messages = a.messages;
      cursors = a.cursors;
      ended = λ e. let most = a.cursors (machine_of s w) in omega arith;
      closed = a.closed;
      looked = λ e. absurd (false≢true e);
    }

retire-holds : (s : Shared) (w : ℕ) (x : Holding) → PlainAgrees s w x → PlainAgrees (after_retire s (machine_of s w)) w (record x { enrolled = false; looked = false })
retire-holds s w x a =
    record {
      shared = record {
        shape = a.shared.shape;
        roots = a.shared.roots;
        pools = a.shared.pools;
        inboxes = a.shared.inboxes;
        used = a.shared.used;
        flying = a.shared.flying;
        cursors = a.shared.cursors;
        enrolled = length-set s.enrolled (machine_of s w) (enrolled_at s (machine_of s w) - 1) ∙ a.shared.enrolled;
        closed = a.shared.closed;
      };
      worker_in = a.worker_in;
      credits = a.credits;
      enrolled = λ e. absurd (false≢true e);
      buffers = a.buffers;
      messages = a.messages;
      cursors = a.cursors;
      ended = a.ended;
      closed = a.closed;
      looked = λ e. absurd (false≢true e);
    }

mark-holds : (s : Shared) (w : ℕ) (word : Word) (x : Holding) → PlainAgrees s w x → PlainAgrees s w (holds_after (ToMark word) Nothing x)
mark-holds s w word x a =
    record {
      shared = a.shared;
      worker_in = a.worker_in;
      credits = a.credits;
      enrolled = a.enrolled;
      buffers = a.buffers;
      messages = a.messages;
      cursors = a.cursors;
      ended = a.ended;
      closed = a.closed;
      looked = λ e. absurd (false≢true e);
    }

close-holds : (s : Shared) (w : ℕ) (x : Holding) → PlainAgrees s w x → s.closed < s.shape.stages → PlainAgrees (after_close s) w (holds_after ToClose Nothing x)
close-holds s w x a left =
    record {
      shared = record {
        shape = a.shared.shape;
        roots = a.shared.roots;
        pools = a.shared.pools;
        inboxes = a.shared.inboxes;
        used = a.shared.used;
        flying = a.shared.flying;
        cursors = a.shared.cursors;
        enrolled = a.shared.enrolled;
        closed = omega arith;
      };
      worker_in = a.worker_in;
      credits = a.credits;
      enrolled = a.enrolled;
      buffers = a.buffers;
      messages = a.messages;
      cursors = a.cursors;
      ended = a.ended;
      closed = let old = a.closed in omega arith;
      looked = λ e. absurd (false≢true e);
    }

look-holds : (s : Shared) (w : ℕ) (x : Holding) → PlainAgrees s w x → PlainAgrees s w (holds_after ToLook (Seen s.closed) x)
look-holds s w x a =
    record {
      shared = a.shared;
      worker_in = a.worker_in;
      credits = a.credits;
      enrolled = a.enrolled;
      buffers = a.buffers;
      messages = a.messages;
      cursors = a.cursors;
      ended = a.ended;
      closed = omega arith;
      looked = λ e. refl;
    }

pub claim-meets : (s : Shared) (w : ℕ) (r : Claimed) (t : Shared) → r ≡ claim_answer s (machine_of s w) → t ≡ cond (can_claim s (machine_of s w)) (after_claim s (machine_of s w)) s →
    MayBe s w ToClaim → ClaimMeets s w r t
claim-meets s w r t answer change may = go (can_claim s (machine_of s w)) refl
  where
    go : (b : Bool) → can_claim s (machine_of s w) ≡ b → ClaimMeets s w r t
    go true e =
        let m = machine_of s w in
        let less : cursor_at s m < roots_at s m = grind (arith, nat_tests, e) in
        let answered : r ≡ claimed.Chunk (cursor_at s m) (chunk_end s m) = answer ∙ ap (λ b. cond b (claimed.Chunk (cursor_at s m) (chunk_end s m)) (claimed.Exhausted (cursor_at s m))) e in
        let changed : t ≡ after_claim s m = change ∙ ap (λ b. cond b (after_claim s m) s) e in
        subst (λ q. ClaimMeets s w q t) (sym answered) (subst (λ u. IsReady s w ToClaim (Roots (cursor_at s m) (chunk_end s m)) u) (sym changed)
        (is-ready s w ToClaim (Roots (cursor_at s m) (chunk_end s m)) (after_claim s m) (ap (λ b. if_ready b (Roots (cursor_at s m) (chunk_end s m)) (after_claim s m)) e)
        (omega arith, omega arith)
        (record { same_shape = refl; same_roots = λ j. refl }) (λ x a allows. claim-holds s w x e a)))
    go false e =
        let m = machine_of s w in
        let over : roots_at s m ≤ cursor_at s m = grind (arith, nat_tests, e) in
        let answered : r ≡ claimed.Exhausted (cursor_at s m) = answer ∙ ap (λ b. cond b (claimed.Chunk (cursor_at s m) (chunk_end s m)) (claimed.Exhausted (cursor_at s m))) e in
        let changed : t ≡ s = change ∙ ap (λ b. cond b (after_claim s m) s) e in
        subst (λ q. ClaimMeets s w q t) (sym answered) (subst (λ u. IsMissed at_end s w ToClaim u) (sym changed)
        (record {
          allowed = (ap (λ b. if_ready b (Roots (cursor_at s m) (chunk_end s m)) (after_claim s m)) e, refl);
          same = record { same_shape = refl; same_roots = λ j. refl };
          holds = λ x y a alike. same-holding s w (at_end x) y (saw-end s w x over a) alike;
        }))

pub retire-meets : (s : Shared) (w : ℕ) (t : Shared) → t ≡ after_retire s (machine_of s w) → IsReady s w ToRetire Nothing t
retire-meets s w t change =
    subst (λ u. IsReady s w ToRetire Nothing u) (sym change)
    (is-ready s w ToRetire Nothing (after_retire s (machine_of s w)) refl refl (record { same_shape = refl; same_roots = λ j. refl }) (λ x a allows. retire-holds s w x a))

-- ---- credits
abbrev pub ChargeMeets : Shared → ℕ → ℕ → ℕ → Charge → Shared → Type 0
ChargeMeets s w k n r t = OnCharge r (IsReady s w (ToCharge k n) Nothing t) (IsMissed unlooked s w (ToCharge k n) t)

pub charge-meets : (s : Shared) (w k n : ℕ) (r : Charge) (t : Shared) → r ≡ charge_answer s (machine_of s w) k n →
    t ≡ cond (can_charge s (machine_of s w) k n) (after_charge s (machine_of s w) k n) s → ChargeMeets s w k n r t
charge-meets s w k n r t answer change = go (can_charge s (machine_of s w) k n) refl
  where
    go : (b : Bool) → can_charge s (machine_of s w) k n ≡ b → ChargeMeets s w k n r t
    go true e =
        let m = machine_of s w in
        subst (λ q. ChargeMeets s w k n q t) (sym (answer ∙ ap (λ b. cond b charge.Charged (charge.Full (used_at s m k n))) e))
        (subst (λ u. IsReady s w (ToCharge k n) Nothing u) (sym (change ∙ ap (λ b. cond b (after_charge s m k n) s) e))
        (is-ready s w (ToCharge k n) Nothing (after_charge s m k n) (ap (λ b. if_ready b Nothing (after_charge s m k n)) e) refl (record { same_shape = refl; same_roots = λ j. refl })
        (charge-holds s w k n)))
    go false e =
        let m = machine_of s w in
        subst (λ q. ChargeMeets s w k n q t) (sym (answer ∙ ap (λ b. cond b charge.Charged (charge.Full (used_at s m k n))) e))
        (is-missed s w (ToCharge k n) t (ap (λ b. if_ready b Nothing (after_charge s m k n)) e) (change ∙ ap (λ b. cond b (after_charge s m k n) s) e))

pub post-meets : (s : Shared) (w k n : ℕ) (t : Shared) → t ≡ after_post s (machine_of s w) k n → IsReady s w (ToPost k n) Nothing t
post-meets s w k n t change =
    subst (λ u. IsReady s w (ToPost k n) Nothing u) (sym change)
    (is-ready s w (ToPost k n) Nothing (after_post s (machine_of s w) k n) refl refl (record { same_shape = refl; same_roots = λ j. refl }) (post-holds s w k n))

abbrev pub PickMeets : Shared → ℕ → ℕ → ℕ → Pick → Shared → Type 0
PickMeets s w f k r t = OnPick r (IsReady s w (ToPick f k) Nothing t) (IsMissed unlooked s w (ToPick f k) t)

pub pick-meets : (s : Shared) (w f k : ℕ) (r : Pick) (t : Shared) → r ≡ pick_answer s f k (machine_of s w) →
    t ≡ cond (can_pick s f k (machine_of s w)) (after_pick s f k (machine_of s w)) s → PickMeets s w f k r t
pick-meets s w f k r t answer change = go (can_pick s f k (machine_of s w)) refl
  where
    go : (b : Bool) → can_pick s f k (machine_of s w) ≡ b → PickMeets s w f k r t
    go true e =
        let m = machine_of s w in
        let some : 0 < flying_at s f k m = grind (arith, nat_tests, e) in
        subst (λ q. PickMeets s w f k q t) (sym (answer ∙ ap (λ b. cond b pick.Picked (pick.NoneFlying (flying_at s f k m))) e))
        (subst (λ u. IsReady s w (ToPick f k) Nothing u) (sym (change ∙ ap (λ b. cond b (after_pick s f k m) s) e))
        (is-ready s w (ToPick f k) Nothing (after_pick s f k m) (ap (λ b. if_ready b Nothing (after_pick s f k m)) e) refl (record { same_shape = refl; same_roots = λ j. refl })
        (λ x a allows. pick-holds s w f k x a allows some)))
    go false e =
        let m = machine_of s w in
        subst (λ q. PickMeets s w f k q t) (sym (answer ∙ ap (λ b. cond b pick.Picked (pick.NoneFlying (flying_at s f k m))) e))
        (is-missed s w (ToPick f k) t (ap (λ b. if_ready b Nothing (after_pick s f k m)) e) (change ∙ ap (λ b. cond b (after_pick s f k m) s) e))

pub discharge-meets : (s : Shared) (w f k : ℕ) (t : Shared) → t ≡ after_discharge s f k (machine_of s w) → IsReady s w (ToDischarge f k) Nothing t
discharge-meets s w f k t change =
    subst (λ u. IsReady s w (ToDischarge f k) Nothing u) (sym change)
    (is-ready s w (ToDischarge f k) Nothing (after_discharge s f k (machine_of s w)) refl refl (record { same_shape = refl; same_roots = λ j. refl }) (discharge-holds s w f k))

-- ---- pools and inboxes
abbrev pub FetchMeets : Shared → ℕ → Option Batch → Shared → Type 0
FetchMeets s w r t = MatchOption r (IsMissed unlooked s w ToFetch t) (λ buffer. IsReady s w ToFetch (Taken buffer) t)

none-taken : (s : Shared) (m : ℕ) → can_fetch s m ≡ false → after_fetch s m ≡ s
none-taken s m e =
    let none : pool_at s m - 1 ≡ pool_at s m = grind (arith, nat_tests, e) in
    ap (λ n. record s { pools = slice_set s.pools m n }) none ∙ ap (λ ps. record s { pools = ps }) (set-get_or s.pools m 0)

pub fetch-meets : (s : Shared) (w : ℕ) (r : Option Batch) (t : Shared) → r ≡ fetch_answer s (machine_of s w) → t ≡ after_fetch s (machine_of s w) → FetchMeets s w r t
fetch-meets s w r t answer change = go (can_fetch s (machine_of s w)) refl
  where
    go : (b : Bool) → can_fetch s (machine_of s w) ≡ b → FetchMeets s w r t
    go true e =
        let m = machine_of s w in
        let buffer = empty_buffer m s.shape.buffer in
        let some : 0 < pool_at s m = grind (arith, nat_tests, e) in
        let answered : fetch_answer s m ≡ Some buffer = ap (λ b. cond b (Some buffer) None) e in
        subst (λ q. FetchMeets s w q t) (sym (answer ∙ answered))
        (subst (λ u. IsReady s w ToFetch (Taken buffer) u) (sym change)
        (is-ready s w ToFetch (Taken buffer) (after_fetch s m) (ap (λ o. if_given Taken o (after_fetch s m)) answered) refl (record { same_shape = refl; same_roots = λ j. refl })
        (λ x a allows. fetch-holds s w x buffer a refl some)))
    go false e =
        let m = machine_of s w in
        let answered : fetch_answer s m ≡ None = ap (λ b. cond b (Some (empty_buffer m s.shape.buffer)) None) e in
        subst (λ q. FetchMeets s w q t) (sym (answer ∙ answered))
        (is-missed s w ToFetch t (ap (λ o. if_given Taken o (after_fetch s m)) answered) (change ∙ none-taken s m e))

abbrev pub RestoreMeets : Shared → ℕ → Batch → Result (Unit {0}) Batch → Shared → Type 0
RestoreMeets s w buffer r t =
    MatchResult r (λ _. IsReady s w (ToRestore buffer) Nothing t) (λ back. (back ≡ buffer) × IsMissed unlooked s w (ToRestore buffer) t)

pub restore-meets : (s : Shared) (w : ℕ) (buffer : Batch) (r : Result (Unit {0}) Batch) (t : Shared) → IsOkAnd r (λ _. t ≡ after_restore s buffer.home) → RestoreMeets s w buffer r t
restore-meets s w buffer (Ok u) t change =
    subst (λ v. IsReady s w (ToRestore buffer) Nothing v) (sym change)
    (is-ready s w (ToRestore buffer) Nothing (after_restore s buffer.home) refl refl (record { same_shape = refl; same_roots = λ j. refl })
    (λ x a allows. restore-holds s w x buffer a allows))
restore-meets s w buffer (Err back) t change = absurd change

abbrev pub PushMeets : Shared → ℕ → Message → Result (Unit {0}) Message → Shared → Type 0
PushMeets s w message r t =
    MatchResult r (λ _. IsReady s w (ToPush message) Nothing t) (λ back. (back ≡ message) × IsMissed unlooked s w (ToPush message) t)

push-fits : (s : Shared) (w : ℕ) (b : Message) (x : Holding) (o : Option (List Message)) → inbox_at s b.to b.stage ≡ o → has_space s.shape o ≡ true → PlainAgrees s w x →
    Allows s.shape x (ToPush b) →
    PlainAgrees (record s { inboxes = with_last b (inbox_place s b.to b.stage) o s.inboxes }) w (holds_after (ToPush b) Nothing x)
push-fits s w b x None e space a may = absurd (false≢true space)
push-fits s w b x (Some ms) e space a may = push-holds s w x b ms a may e

pub push-meets : (s : Shared) (w : ℕ) (b : Message) (r : Result (Unit {0}) Message) (t : Shared) → OnOk r ((can_push s b.to b.stage ≡ true) × (t ≡ after_push s b)) →
    IfErr r (λ back. (can_push s b.to b.stage ≡ false) × (back ≡ b) × (t ≡ s)) → PushMeets s w b r t
push-meets s w b (Ok u) t ok err =
    subst (λ v. IsReady s w (ToPush b) Nothing v) (sym ok.1)
    (is-ready s w (ToPush b) Nothing (after_push s b) (ap (λ c. if_ready c Nothing (after_push s b)) ok.0) refl (record { same_shape = refl; same_roots = λ j. refl })
    (λ x a may. push-fits s w b x (inbox_at s b.to b.stage) refl ok.0 a may))
push-meets s w b (Err back) t ok err =
    (err.1, is-missed s w (ToPush b) t (ap (λ c. if_ready c Nothing (after_push s b)) err.0) err.2)

abbrev pub PopMeets : Shared → ℕ → ℕ → Option Message → Shared → Type 0
PopMeets s w k r t = MatchOption r (IsMissed unlooked s w (ToPop k) t) (λ message. IsReady s w (ToPop k) (Came message) t)

set-same : {A : Type 0} (xs : List A) (i : ℕ) (v : A) → slice_get xs i ≡ Some v → slice_set xs i v ≡ xs
set-same [] i v e = refl
set-same (x ∷ xs) zero v e = let same : x ≡ v = cc in ap (λ y. y ∷ xs) (sym same)
set-same (x ∷ xs) (suc i) v e = ap (λ ys. x ∷ ys) (set-same xs i v e)

-- by what the inbox is
pop-found : (s : Shared) (w k : ℕ) (o : Option (List Message)) → inbox_at s (machine_of s w) k ≡ o → MayBe s w (ToPop k) →
    PopMeets s w k (first_in o) (record s { inboxes = without_first (inbox_place s (machine_of s w) k) o s.inboxes })
pop-found s w k None e may = is-missed s w (ToPop k) s (ap (λ o. if_given Came (first_in o) (after_pop s (machine_of s w) k)) e) refl
pop-found s w k (Some []) e may =
    let m = machine_of s w in
    is-missed s w (ToPop k) (record s { inboxes = slice_set s.inboxes (inbox_place s m k) [] }) (ap (λ o. if_given Came (first_in o) (after_pop s m k)) e)
    (ap (λ xs. record s { inboxes = xs }) (set-same s.inboxes (inbox_place s m k) [] (inbox-is s m k [] e).at))
pop-found s w k (Some (b ∷ bs)) e may =
    let m = machine_of s w in
    let was = may.1.0.messages m k 0 (b ∷ bs) b e refl in
    let after = record s { inboxes = slice_set s.inboxes (inbox_place s m k) bs } in
    is-ready s w (ToPop k) (Came b) after
    (ap (λ o. if_given Came (first_in o) (record s { inboxes = without_first (inbox_place s m k) o s.inboxes })) e)
    was (record { same_shape = refl; same_roots = λ j. refl }) (λ x a allows. pop-holds s w k x b bs a e)

pub pop-meets : (s : Shared) (w k : ℕ) (r : Option Message) (t : Shared) → r ≡ pop_answer s (machine_of s w) k → t ≡ after_pop s (machine_of s w) k → MayBe s w (ToPop k) → PopMeets s w k r t
pop-meets s w k r t answer change may =
    subst (λ q. PopMeets s w k q t) (sym answer) (subst (λ u. PopMeets s w k (pop_answer s (machine_of s w) k) u) (sym change) (pop-found s w k (inbox_at s (machine_of s w) k) refl may))

-- ---- closing
abbrev pub MarkMeets : Shared → ℕ → Word → Marked → Shared → Type 0
MarkMeets s w word r t = OnMarked r (IsReady s w (ToMark word) Nothing t) (IsMissed unlooked s w (ToMark word) t)

pub mark-meets : (s : Shared) (w : ℕ) (word : Word) (r : Marked) (t : Shared) → r ≡ mark_answer s word → t ≡ s → MarkMeets s w word r t
mark-meets s w word r t answer same = go (word_at s word == 0) refl
  where
    go : (b : Bool) → (word_at s word == 0) ≡ b → MarkMeets s w word r t
    go true e =
        subst (λ q. MarkMeets s w word q t) (sym (answer ∙ ap (λ b. cond b marked.Zero (marked.Busy (word_at s word))) e))
        (subst (λ u. IsReady s w (ToMark word) Nothing u) (sym same)
        (is-ready s w (ToMark word) Nothing s (ap (λ b. if_ready b Nothing s) e) refl (record { same_shape = refl; same_roots = λ j. refl }) (λ x a allows. mark-holds s w word x a)))
    go false e =
        subst (λ q. MarkMeets s w word q t) (sym (answer ∙ ap (λ b. cond b marked.Zero (marked.Busy (word_at s word))) e))
        (is-missed s w (ToMark word) t (ap (λ b. if_ready b Nothing s) e) same)

pub close-meets : (s : Shared) (w : ℕ) (r : Closing) (t : Shared) → r ≡ closing.Closed → t ≡ after_close s → MayBe s w ToClose →
    OnClosing r (IsReady s w ToClose Nothing t) (IsMissed unlooked s w ToClose t)
close-meets s w r t answer change may =
    let x = may.0 in
    let a = may.1.0 in
    let seen = a.looked may.1.1.0 in
    let left = may.1.1.1 in
    subst (λ q. OnClosing q (IsReady s w ToClose Nothing t) (IsMissed unlooked s w ToClose t)) (sym answer)
    (subst (λ u. IsReady s w ToClose Nothing u) (sym change)
    (is-ready s w ToClose Nothing (after_close s) refl refl (record { same_shape = refl; same_roots = λ j. refl }) (λ y b allows. close-holds s w y b (omega arith))))

pub look-meets : (s : Shared) (w n : ℕ) (t : Shared) → n ≡ s.closed → t ≡ s → MayBe s w ToLook → IsReady s w ToLook (Seen n) t
look-meets s w n t answer same may =
    let within = may.1.0.shared.closed in
    subst (λ m. IsReady s w ToLook (Seen m) t) (sym answer)
    (subst (λ u. IsReady s w ToLook (Seen s.closed) u) (sym same)
    (is-ready s w ToLook (Seen s.closed) s refl within (record { same_shape = refl; same_roots = λ j. refl }) (λ x a allows. look-holds s w x a)))
