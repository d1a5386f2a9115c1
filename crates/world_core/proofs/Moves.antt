-- One worker and what is shared change: what has to be shown of that, for the world to stay sound.
use Rattle.std.proofs.Common.{◌≡◌, ℕ, ◌+◌, ◌*◌, ◌/◌, ◌<◌, ◌≤◌, Bool, true, false, List, length, Option, Some, None, refl, sym, ap, subst, ◌∙◌, arith, ◌⊎◌, inl, inr}
use Rattle.std.specs.Prelude.{slice_get, slice_set, slice_index}
use Rattle.std.proofs.lemmas.List.{length-set}
use Rattle.adfs_base.specs.Shape.{limit_of, pool_of}
use Rattle.match_context.specs.Bags.{total}
use Rattle.match_context.proofs.Totals.{total-set, get-of_set}
use Rattle.adfs_base.specs.declared.step_answers.Word.{Word}
use Rattle.fabric.specs.Shared.{Shared, IsShared, IsUnit, IsWordOf, machine_of, used_at, flying_at, roots_at, cursor_at, enrolled_at, pool_at, word_at}
use Rattle.dfs_worker.specs.Census.{count, credits_of, flying_of, buffers_of}
use Rattle.dfs_worker.specs.Sound.{IsWorker, WithinRoots}
use Rattle.dfs_worker.specs.State.{State}
use Rattle.dfs_worker.proofs.Roots.{roots-more}
use Rattle.world_core.specs.Sound.{Sound, IsPlaced, AreMessages, AreClosed, AreMarks, queued, homes_in, enrolled_of}
use Rattle.world_core.specs.World.{World}
use Rattle.world_core.proofs.Marks.{marks-stay}
use Rattle.world_core.proofs.Parts.{machine-in}

-- the worker keeps its place
pub record SamePlace (v v' : State) : Type 0 where
  pub number : v'.number ≡ v.number
  pub machine : v'.machine ≡ v.machine
  pub shape : v'.shape ≡ v.shape

pub record Moves (w : World) (v v' : State) (h : Shared) : Type 0 where
  pub tables : IsShared h
  pub shape : h.shape ≡ w.shared.shape
  pub roots : h.roots ≡ w.shared.roots
  pub place : SamePlace v v'
  pub own : IsWorker v'
  pub used : (m k n : ℕ) → IsUnit w.shared m k n →
      used_at h m k n + flying_at w.shared m k n + count (credits_of m k n) v ≡ used_at w.shared m k n + flying_at h m k n + count (credits_of m k n) v'
  pub flying : (m k n : ℕ) → IsUnit w.shared m k n →
      flying_at h m k n + total (queued m k n) w.shared.inboxes + count (flying_of m k n) v
      ≡ flying_at w.shared m k n + total (queued m k n) h.inboxes + count (flying_of m k n) v'
  pub limits : (m k n : ℕ) → IsUnit w.shared m k n → used_at h m k n ≤ limit_of w.shared.shape m n
  pub pools : (home : ℕ) → home < w.shared.shape.machines →
      pool_at h home + total (homes_in home) h.inboxes + count (buffers_of home) v'
      ≡ pool_at w.shared home + total (homes_in home) w.shared.inboxes + count (buffers_of home) v
  pub enrolled : (m : ℕ) → m < w.shared.shape.machines → enrolled_at h m + enrolled_of m v ≡ enrolled_at w.shared m + enrolled_of m v'
  pub retired : v'.enrolled ≡ false → cursor_at h v.machine ≡ roots_at h v.machine
  pub messages : AreMessages h
  pub cursors : (m : ℕ) → m < w.shared.shape.machines → (cursor_at w.shared m ≤ cursor_at h m) × (cursor_at h m ≤ roots_at h m)
  pub claimed : WithinRoots (cursor_at h v.machine) v'.stack
  pub closed : AreClosed h
  pub closes : w.shared.closed ≤ h.closed
  pub zeros : h.closed ≡ w.shared.closed → (word : Word) → IsWordOf w.shared w.shared.closed word → word_at w.shared word ≡ 0 → word_at h word ≡ 0
  pub marks : AreMarks h v'.marks

moved-placed : (s h : Shared) (i : ℕ) (v : State) → h.shape ≡ s.shape → IsPlaced s i v → IsPlaced h i v
moved-placed s h i v shape p =
    record { number = p.number; machine = p.machine ∙ ap (λ x. i / x.workers) (sym shape); shape = p.shape ∙ sym shape }

pub moved-sound : (w : World) (i : ℕ) (v v' : State) (h : Shared) → Sound w → slice_get w.workers i ≡ Some v → Moves w v v' h →
    Sound (record { workers = slice_set w.workers i v'; shared = h })
moved-sound w i v v' h sound at moves =
    record {
      tables = moves.tables;
      number_of_workers = length-set w.workers i v' ∙ sound.number_of_workers ∙ ap (λ x. x.machines * x.workers) (sym moves.shape);
      placed = λ j u e. elim (get-of_set w.workers i j v' u e) [
        | inl new ↦ placed-new j u new
        | inr old ↦ moved-placed w.shared h j u moves.shape (sound.placed j u old)
      ];
      used = λ m k n unit.
          let here = back m k n unit in
          let before = sound.used m k n here in
          let after = moves.used m k n here in
          let sum = total-set (count (credits_of m k n)) w.workers i v v' at in
          omega arith;
      flying = λ m k n unit.
          let here = back m k n unit in
          let before = sound.flying m k n here in
          let after = moves.flying m k n here in
          let sum = total-set (count (flying_of m k n)) w.workers i v v' at in
          omega arith;
      limits = λ m k n unit. subst (λ x. used_at h m k n ≤ limit_of x m n) (sym moves.shape) (moves.limits m k n (back m k n unit));
      own = λ j u e. elim (get-of_set w.workers i j v' u e) [ inl new ↦ subst IsWorker (sym new.1) moves.own | inr old ↦ sound.own j u old ];
      pools = λ home low.
          let here = subst (λ x. home < x.machines) moves.shape low in
          let before = sound.pools home here in
          let after = moves.pools home here in
          let sum = total-set (count (buffers_of home)) w.workers i v v' at in
          let size = ap pool_of moves.shape in
          omega arith;
      enrolled = λ m low.
          let here = subst (λ x. m < x.machines) moves.shape low in
          let before = sound.enrolled m here in
          let after = moves.enrolled m here in
          let sum = total-set (enrolled_of m) w.workers i v v' at in
          omega arith;
      retired = λ j u e left. elim (get-of_set w.workers i j v' u e) [
        | inl new ↦ retired-new u new.1 left
        | inr old ↦ retired-old j u old left
      ];
      messages = moves.messages;
      cursors = λ m low. (moves.cursors m (subst (λ x. m < x.machines) moves.shape low)).1;
      claimed = λ j u e. elim (get-of_set w.workers i j v' u e) [
        | inl new ↦ claimed-new u new.1
        | inr old ↦ roots-more (cursor_at w.shared u.machine) (cursor_at h u.machine) u.stack (sound.claimed j u old) (moves.cursors u.machine (machine-in w j u sound old)).0
      ];
      closed = moves.closed;
      marks = λ j u e. elim (get-of_set w.workers i j v' u e) [
        | inl new ↦ subst (λ (x : State). AreMarks h x.marks) (sym new.1) moves.marks
        | inr old ↦ marks-stay w.shared h u (sound.placed j u old).shape (sound.own j u old) moves.closes moves.zeros (sound.marks j u old)
      ];
    }
  where
    back : (m k n : ℕ) → IsUnit h m k n → IsUnit w.shared m k n
    back m k n unit = subst (λ x. (m < x.machines) × (0 < k) × (k < x.stages) × (n < x.machines)) moves.shape unit

    placed-new : (j : ℕ) (u : State) → (j ≡ i) × (u ≡ v') → IsPlaced h j u
    placed-new j u new =
        let p = moved-placed w.shared h i v moves.shape (sound.placed i v at) in
        subst (λ x. IsPlaced h j x) (sym new.1)
        (subst (λ x. IsPlaced h x v') (sym new.0)
        (record { number = moves.place.number ∙ p.number; machine = moves.place.machine ∙ p.machine; shape = moves.place.shape ∙ p.shape }))

    retired-new : (u : State) → u ≡ v' → u.enrolled ≡ false → cursor_at h u.machine ≡ roots_at h u.machine
    retired-new u same left =
        let machine = ap (λ x. x.machine) same ∙ moves.place.machine in
        subst (λ x. cursor_at h x ≡ roots_at h x) (sym machine) (moves.retired (sym (ap (λ x. x.enrolled) same) ∙ left))

    retired-old : (j : ℕ) (u : State) → slice_get w.workers j ≡ Some u → u.enrolled ≡ false → cursor_at h u.machine ≡ roots_at h u.machine
    retired-old j u old left =
        let before = sound.retired j u old left in
        let cursors = moves.cursors u.machine (machine-in w j u sound old) in
        let low = cursors.0 in
        let high = cursors.1 in
        let roots = ap (λ xs. slice_index xs u.machine) moves.roots in
        omega arith

    claimed-new : (u : State) → u ≡ v' → WithinRoots (cursor_at h u.machine) u.stack
    claimed-new u same =
        subst (λ x. WithinRoots (cursor_at h x.machine) x.stack) (sym same)
        (subst (λ x. WithinRoots (cursor_at h x) v'.stack) (sym moves.place.machine) moves.claimed)
