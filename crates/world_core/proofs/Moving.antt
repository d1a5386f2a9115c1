-- What has to be shown of each kind of change of what is shared.
use Rattle.std.proofs.Common.{◌≡◌, ◌≢◌, ◌⊎◌, inl, inr, ℕ, ◌+◌, ◌-◌, ◌*◌, ◌<◌, ◌≤◌, Bool, true, false, ◌&&◌, eqb, List, length, get_or, min, Option, Some, None, refl, sym, ap, subst, ◌∙◌, arith}
use Rattle.std.specs.Prelude.{slice_get, slice_set, slice_index}
use Rattle.std.proofs.lemmas.Bool.{cases_eq}
use Rattle.std.proofs.lemmas.List.{length-set, get_or-set_same, get_or-set_other}
use Rattle.adfs_base.specs.Shape.{limit_of, pool_of}
use Rattle.match_context.specs.Bags.{total}
use Rattle.match_context.specs.declared.message.Message.{Message}
use Rattle.fabric.specs.Calls.{chunk_end, after_claim, after_retire, after_close}
use Rattle.adfs_base.specs.declared.step_answers.Word.{Word}
use Rattle.adfs_base.specs.declared.step_answers.Word.TheVariants.{Enrolled, Used}
use Rattle.fabric.specs.Shared.{Shared, IsShared, IsUnit, IsWordOf, place, used_at, flying_at, roots_at, cursor_at, enrolled_at, pool_at, word_at}
use Rattle.dfs_worker.specs.Census.{Census, count, credits_of, flying_of, buffers_of, one}
use Rattle.dfs_worker.specs.Sound.{IsWorker, WithinRoots}
use Rattle.dfs_worker.specs.State.{State}
use Rattle.world_core.specs.Sound.{Sound, AreMessages, AreClosed, AreMarks, queued, homes_in, enrolled_of}
use Rattle.world_core.specs.World.{World}
use Rattle.world_core.proofs.Marks.{marks-stay, zeros-from}
use Rattle.world_core.proofs.Moves.{Moves, SamePlace}
use Rattle.world_core.proofs.Parts.{machine-in}
use Rattle.world_core.proofs.Words.{number-raised, number-lowered, number-tells}

-- what an event leaves of its worker, whatever it does to what is shared
pub record Keeps (s : Shared) (v v' : State) : Type 0 where
  pub place : SamePlace v v'
  pub own : IsWorker v'
  pub enrolled : v'.enrolled ≡ v.enrolled
  pub marks : AreMarks s v'.marks

pub enrolled-same : (s : Shared) (v v' : State) (m : ℕ) → Keeps s v v' → enrolled_of m v' ≡ enrolled_of m v
enrolled-same s v v' m keeps =
    ap (λ b. one (b && eqb v'.machine m)) keeps.enrolled ∙ ap (λ a. one (v.enrolled && eqb a m)) keeps.place.machine

-- marks that are true of what was shared before are true after
marks-then : (w : World) (i : ℕ) (v v' : State) (h : Shared) → Sound w → slice_get w.workers i ≡ Some v → SamePlace v v' → IsWorker v' → AreMarks w.shared v'.marks → w.shared.closed ≤ h.closed →
    (h.closed ≡ w.shared.closed → (word : Word) → IsWordOf w.shared w.shared.closed word → word_at w.shared word ≡ 0 → word_at h word ≡ 0) → AreMarks h v'.marks
marks-then w i v v' h sound at place own marks closes zeros =
    marks-stay w.shared h v' (place.shape ∙ (sound.placed i v at).shape) own closes zeros marks

retired-same : (w : World) (i : ℕ) (v v' : State) → Sound w → slice_get w.workers i ≡ Some v → Keeps w.shared v v' → v'.enrolled ≡ false → cursor_at w.shared v.machine ≡ roots_at w.shared v.machine
retired-same w i v v' sound at keeps e = sound.retired i v at (sym keeps.enrolled ∙ e)

-- nothing is changed
pub own-moves : (w : World) (i : ℕ) (v v' : State) → Sound w → slice_get w.workers i ≡ Some v → Keeps w.shared v v' → ((c : Census) → count c v' ≡ count c v) →
    WithinRoots (cursor_at w.shared v.machine) v'.stack → Moves w v v' w.shared
own-moves w i v v' sound at keeps same claimed =
    record {
      tables = sound.tables;
      shape = refl;
      roots = refl;
      place = keeps.place;
      own = keeps.own;
      used = λ m k n unit. let e = same (credits_of m k n) in omega arith;
      flying = λ m k n unit. let e = same (flying_of m k n) in omega arith;
      limits = sound.limits;
      pools = λ home low. let e = same (buffers_of home) in omega arith;
      enrolled = λ m low. let e = enrolled-same w.shared v v' m keeps in omega arith;
      retired = retired-same w i v v' sound at keeps;
      messages = sound.messages;
      cursors = λ m low. (omega arith, sound.cursors m low);
      claimed = claimed;
      closed = sound.closed;
      closes = omega arith;
      zeros = λ same word is none. none;
      marks = keeps.marks;
    }

-- credits or messages on their way are counted anew
pub words-moves : (w : World) (i : ℕ) (v v' : State) (us fs : List ℕ) → Sound w → slice_get w.workers i ≡ Some v → Keeps w.shared v v' → length us ≡ length w.shared.used → length fs ≡ length w.shared.flying →
    ((m k n : ℕ) → IsUnit w.shared m k n → get_or us (place w.shared m k n) 0 + flying_at w.shared m k n + count (credits_of m k n) v ≡ used_at w.shared m k n + get_or fs (place w.shared m k n) 0 + count (credits_of m k n) v') →
    ((m k n : ℕ) → IsUnit w.shared m k n → get_or fs (place w.shared m k n) 0 + count (flying_of m k n) v ≡ flying_at w.shared m k n + count (flying_of m k n) v') →
    ((m k n : ℕ) → IsUnit w.shared m k n → get_or us (place w.shared m k n) 0 ≤ limit_of w.shared.shape m n) →
    ((m k n : ℕ) → IsUnit w.shared m k n → k ≤ w.shared.closed → get_or us (place w.shared m k n) 0 ≤ used_at w.shared m k n) →
    ((home : ℕ) → count (buffers_of home) v' ≡ count (buffers_of home) v) → WithinRoots (cursor_at w.shared v.machine) v'.stack →
    Moves w v v' (record w.shared { used = us; flying = fs })
words-moves w i v v' us fs sound at keeps us_size fs_size used flying limits falls buffers claimed =
    record {
      tables = record {
        shape = sound.tables.shape;
        roots = sound.tables.roots;
        pools = sound.tables.pools;
        inboxes = sound.tables.inboxes;
        used = us_size ∙ sound.tables.used;
        flying = fs_size ∙ sound.tables.flying;
        cursors = sound.tables.cursors;
        enrolled = sound.tables.enrolled;
        closed = sound.tables.closed;
      };
      shape = refl;
      roots = refl;
      place = keeps.place;
      own = keeps.own;
      used = used;
      flying = λ m k n unit. let e = flying m k n unit in omega arith;
      limits = limits;
      pools = λ home low. let e = buffers home in omega arith;
      enrolled = λ m low. let e = enrolled-same w.shared v v' m keeps in omega arith;
      retired = retired-same w i v v' sound at keeps;
      messages = sound.messages;
      cursors = λ m low. (omega arith, sound.cursors m low);
      claimed = claimed;
      closed = record {
        enrolled = sound.closed.enrolled;
        used = λ m k n unit low. let a = sound.closed.used m k n unit low in let b = falls m k n unit (omega arith) in omega arith;
      };
      closes = omega arith;
      zeros = zeros;
      marks = marks-then w i v v' (record w.shared { used = us; flying = fs }) sound at keeps.place keeps.own keeps.marks (omega arith) zeros;
    }
  where
    zeros : w.shared.closed ≡ w.shared.closed → (word : Word) → IsWordOf w.shared w.shared.closed word → word_at w.shared word ≡ 0 → word_at (record w.shared { used = us; flying = fs }) word ≡ 0
    zeros same = zeros-from w.shared (record w.shared { used = us; flying = fs }) (λ m low none. none) (λ m k n unit e none. let b = falls m k n unit (omega arith) in omega arith)

-- buffers or messages are somewhere else
pub stores-moves : (w : World) (i : ℕ) (v v' : State) (ps : List ℕ) (qs : List (List Message)) → Sound w → slice_get w.workers i ≡ Some v → Keeps w.shared v v' →
    length ps ≡ length w.shared.pools → length qs ≡ length w.shared.inboxes →
    ((m k n : ℕ) → count (credits_of m k n) v' ≡ count (credits_of m k n) v) →
    ((m k n : ℕ) → IsUnit w.shared m k n → total (queued m k n) w.shared.inboxes + count (flying_of m k n) v ≡ total (queued m k n) qs + count (flying_of m k n) v') →
    ((home : ℕ) → home < w.shared.shape.machines → get_or ps home 0 + total (homes_in home) qs + count (buffers_of home) v' ≡ pool_at w.shared home + total (homes_in home) w.shared.inboxes + count (buffers_of home) v) →
    AreMessages (record w.shared { pools = ps; inboxes = qs }) → WithinRoots (cursor_at w.shared v.machine) v'.stack →
    Moves w v v' (record w.shared { pools = ps; inboxes = qs })
stores-moves w i v v' ps qs sound at keeps ps_size qs_size credits flying pools messages claimed =
    record {
      tables = record {
        shape = sound.tables.shape;
        roots = sound.tables.roots;
        pools = ps_size ∙ sound.tables.pools;
        inboxes = qs_size ∙ sound.tables.inboxes;
        used = sound.tables.used;
        flying = sound.tables.flying;
        cursors = sound.tables.cursors;
        enrolled = sound.tables.enrolled;
        closed = sound.tables.closed;
      };
      shape = refl;
      roots = refl;
      place = keeps.place;
      own = keeps.own;
      used = λ m k n unit. let e = credits m k n in omega arith;
      flying = λ m k n unit. let e = flying m k n unit in omega arith;
      limits = sound.limits;
      pools = pools;
      enrolled = λ m low. let e = enrolled-same w.shared v v' m keeps in omega arith;
      retired = retired-same w i v v' sound at keeps;
      messages = messages;
      cursors = λ m low. (omega arith, sound.cursors m low);
      claimed = claimed;
      closed = record { enrolled = sound.closed.enrolled; used = sound.closed.used };
      closes = omega arith;
      zeros = zeros;
      marks = marks-then w i v v' (record w.shared { pools = ps; inboxes = qs }) sound at keeps.place keeps.own keeps.marks (omega arith) zeros;
    }
  where
    zeros : w.shared.closed ≡ w.shared.closed → (word : Word) → IsWordOf w.shared w.shared.closed word → word_at w.shared word ≡ 0 → word_at (record w.shared { pools = ps; inboxes = qs }) word ≡ 0
    zeros same = zeros-from w.shared (record w.shared { pools = ps; inboxes = qs }) (λ m low none. none) (λ m k n unit e none. none)

-- ---- claim: the cursor goes on
cursor-after : (w : World) (a m : ℕ) → a < length w.shared.cursors → ((m ≡ a) × (cursor_at (after_claim w.shared a) m ≡ chunk_end w.shared a)) ⊎ (cursor_at (after_claim w.shared a) m ≡ cursor_at w.shared m)
cursor-after w a m within = go (number-tells m a)
  where
    go : ((eqb a m ≡ true) × (a ≡ m)) ⊎ ((eqb a m ≡ false) × (m ≢ a)) → ((m ≡ a) × (cursor_at (after_claim w.shared a) m ≡ chunk_end w.shared a)) ⊎ (cursor_at (after_claim w.shared a) m ≡ cursor_at w.shared m)
    go (inl y) = inl (sym y.1, rw (← y.1) (get_or-set_same w.shared.cursors a (chunk_end w.shared a) 0 within))
    go (inr z) = inr (get_or-set_other w.shared.cursors a m (chunk_end w.shared a) 0 z.1)

pub cursors-grow : (w : World) (a m : ℕ) → Sound w → a < w.shared.shape.machines → m < w.shared.shape.machines →
    (cursor_at w.shared m ≤ cursor_at (after_claim w.shared a) m) × (cursor_at (after_claim w.shared a) m ≤ roots_at w.shared m)
cursors-grow w a m sound la lm = go (cursor-after w a m (subst (λ n. a < n) (sym sound.tables.cursors) la))
  where
    go : ((m ≡ a) × (cursor_at (after_claim w.shared a) m ≡ chunk_end w.shared a)) ⊎ (cursor_at (after_claim w.shared a) m ≡ cursor_at w.shared m) →
        (cursor_at w.shared m ≤ cursor_at (after_claim w.shared a) m) × (cursor_at (after_claim w.shared a) m ≤ roots_at w.shared m)
    go (inl y) =
        let low = sound.cursors m lm in
        let end = y.1 ∙ ap (chunk_end w.shared) (sym y.0) in
        (omega arith, omega arith)
    go (inr z) = let low = sound.cursors m lm in (omega arith, omega arith)

pub claim-moves : (w : World) (i : ℕ) (v v' : State) → Sound w → slice_get w.workers i ≡ Some v → Keeps w.shared v v' → ((c : Census) → count c v' ≡ count c v) → v.enrolled ≡ true →
    WithinRoots (cursor_at (after_claim w.shared v.machine) v.machine) v'.stack → Moves w v v' (after_claim w.shared v.machine)
claim-moves w i v v' sound at keeps same enrolled claimed =
    record {
      tables = record {
        shape = sound.tables.shape;
        roots = sound.tables.roots;
        pools = sound.tables.pools;
        inboxes = sound.tables.inboxes;
        used = sound.tables.used;
        flying = sound.tables.flying;
        cursors = length-set w.shared.cursors v.machine (chunk_end w.shared v.machine) ∙ sound.tables.cursors;
        enrolled = sound.tables.enrolled;
        closed = sound.tables.closed;
      };
      shape = refl;
      roots = refl;
      place = keeps.place;
      own = keeps.own;
      used = λ m k n unit. let e = same (credits_of m k n) in omega arith;
      flying = λ m k n unit. let e = same (flying_of m k n) in omega arith;
      limits = sound.limits;
      pools = λ home low. let e = same (buffers_of home) in omega arith;
      enrolled = λ m low. let e = enrolled-same w.shared v v' m keeps in omega arith;
      retired = λ e. absurd (let clash : true ≡ false = sym enrolled ∙ sym keeps.enrolled ∙ e in cc);
      messages = sound.messages;
      cursors = λ m low. cursors-grow w v.machine m sound (machine-in w i v sound at) low;
      claimed = claimed;
      closed = record { enrolled = sound.closed.enrolled; used = sound.closed.used };
      closes = omega arith;
      zeros = zeros;
      marks = marks-then w i v v' (after_claim w.shared v.machine) sound at keeps.place keeps.own keeps.marks (omega arith) zeros;
    }
  where
    zeros : w.shared.closed ≡ w.shared.closed → (word : Word) → IsWordOf w.shared w.shared.closed word → word_at w.shared word ≡ 0 → word_at (after_claim w.shared v.machine) word ≡ 0
    zeros same = zeros-from w.shared (after_claim w.shared v.machine) (λ m low none. none) (λ m k n unit e none. none)

-- ---- retire: one worker fewer is enrolled
pub retire-moves : (w : World) (i : ℕ) (v v' : State) → Sound w → slice_get w.workers i ≡ Some v → SamePlace v v' → IsWorker v' → ((c : Census) → count c v' ≡ count c v) →
    v.enrolled ≡ true → v'.enrolled ≡ false → 0 < enrolled_at w.shared v.machine → cursor_at w.shared v.machine ≡ roots_at w.shared v.machine → WithinRoots (cursor_at w.shared v.machine) v'.stack → AreMarks w.shared v'.marks →
    Moves w v v' (after_retire w.shared v.machine)
retire-moves w i v v' sound at place own same was is some ended claimed marks =
    record {
      tables = record {
        shape = sound.tables.shape;
        roots = sound.tables.roots;
        pools = sound.tables.pools;
        inboxes = sound.tables.inboxes;
        used = sound.tables.used;
        flying = sound.tables.flying;
        cursors = sound.tables.cursors;
        enrolled = length-set w.shared.enrolled v.machine (enrolled_at w.shared v.machine - 1) ∙ sound.tables.enrolled;
        closed = sound.tables.closed;
      };
      shape = refl;
      roots = refl;
      place = place;
      own = own;
      used = λ m k n unit. let e = same (credits_of m k n) in omega arith;
      flying = λ m k n unit. let e = same (flying_of m k n) in omega arith;
      limits = sound.limits;
      pools = λ home low. let e = same (buffers_of home) in omega arith;
      enrolled = λ m low.
          let less = number-lowered w.shared.enrolled v.machine m (subst (λ n. v.machine < n) (sym sound.tables.enrolled) (machine-in w i v sound at)) some in
          let before : enrolled_of m v ≡ one (eqb v.machine m) = ap (λ b. one (b && eqb v.machine m)) was in
          let after : enrolled_of m v' ≡ one false = ap (λ b. one (b && eqb v'.machine m)) is in
          omega arith;
      retired = λ e. ended;
      messages = sound.messages;
      cursors = λ m low. (omega arith, sound.cursors m low);
      claimed = claimed;
      closed = record { enrolled = λ some_closed m low. lowered m low (sound.closed.enrolled some_closed m low); used = sound.closed.used };
      closes = omega arith;
      zeros = zeros;
      marks = marks-then w i v v' (after_retire w.shared v.machine) sound at place own marks (omega arith) zeros;
    }
  where
    lowered : (m : ℕ) → m < w.shared.shape.machines → enrolled_at w.shared m ≡ 0 → enrolled_at (after_retire w.shared v.machine) m ≡ 0
    lowered m low none =
        let less = number-lowered w.shared.enrolled v.machine m (subst (λ n. v.machine < n) (sym sound.tables.enrolled) (machine-in w i v sound at)) some in
        omega arith

    zeros : w.shared.closed ≡ w.shared.closed → (word : Word) → IsWordOf w.shared w.shared.closed word → word_at w.shared word ≡ 0 → word_at (after_retire w.shared v.machine) word ≡ 0
    zeros same = zeros-from w.shared (after_retire w.shared v.machine) lowered (λ m k n unit e none. none)

-- ---- close: one stage more is closed
pub close-moves : (w : World) (i : ℕ) (v : State) → Sound w → slice_get w.workers i ≡ Some v → w.shared.closed < w.shared.shape.stages →
    ((word : Word) → IsWordOf w.shared w.shared.closed word → word_at w.shared word ≡ 0) → Moves w v v (after_close w.shared)
close-moves w i v sound at left all =
    record {
      tables = record {
        shape = sound.tables.shape;
        roots = sound.tables.roots;
        pools = sound.tables.pools;
        inboxes = sound.tables.inboxes;
        used = sound.tables.used;
        flying = sound.tables.flying;
        cursors = sound.tables.cursors;
        enrolled = sound.tables.enrolled;
        closed = omega arith;
      };
      shape = refl;
      roots = refl;
      place = record { number = refl; machine = refl; shape = refl };
      own = sound.own i v at;
      used = λ m k n unit. refl;
      flying = λ m k n unit. refl;
      limits = sound.limits;
      pools = λ home low. refl;
      enrolled = λ m low. refl;
      retired = sound.retired i v at;
      messages = sound.messages;
      cursors = λ m low. (omega arith, sound.cursors m low);
      claimed = sound.claimed i v at;
      closed = record { enrolled = λ some m low. none-enrolled m low (cases_eq w.shared.closed 0); used = λ m k n unit low. none-used m k n unit low (cases_eq k w.shared.closed) };
      closes = omega arith;
      zeros = λ same. absurd (omega arith);
      marks = record { places = (sound.marks i v at).places; stage = let a = (sound.marks i v at).stage in omega arith; seen = λ same. absurd (let a = (sound.marks i v at).stage in omega arith) };
    }
  where
    none-enrolled : (m : ℕ) → m < w.shared.shape.machines → (w.shared.closed ≡ 0) ⊎ (w.shared.closed ≢ 0) → enrolled_at w.shared m ≡ 0
    none-enrolled m low (inl first) = all (Enrolled m) (first, low)
    none-enrolled m low (inr later) = sound.closed.enrolled (omega arith) m low

    none-used : (m k n : ℕ) → IsUnit w.shared m k n → k < w.shared.closed + 1 → (k ≡ w.shared.closed) ⊎ (k ≢ w.shared.closed) → used_at w.shared m k n ≡ 0
    none-used m k n unit low (inl same) = all (Used m k n) (sym same, unit)
    none-used m k n unit low (inr other) = sound.closed.used m k n unit (omega arith)
