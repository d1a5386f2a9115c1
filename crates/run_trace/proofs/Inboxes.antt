-- What stands in the inboxes, when one of them changes.
use Rattle.std.proofs.Common.{◌≡◌, ◌≢◌, ◌∙◌, refl, sym, ap, arith, cond, ℕ, zero, suc, ◌+◌, ◌*◌, ◌<◌, Bool, true, false, ◌&&◌, List, [], ◌∷◌, Some, None}
use Rattle.std.specs.Prelude.{slice_get, slice_set, nat_lt}
use Rattle.std.proofs.lemmas.Bool.Decides.{nat_tests}
use Rattle.std.proofs.lemmas.Nat.{same_from_place}
use Rattle.adfs_base.specs.Shape.{Extents}
use Rattle.match_context.specs.Bags.{total}
use Rattle.match_context.specs.declared.message.Message.{Message}
use Rattle.fabric.specs.Shared.{Shared, inbox_at, inbox_place}
use Rattle.fabric.proofs.Agrees.{inbox-is}
use Rattle.world_core.specs.Gauge.{in_inbox, in_inboxes, in_machine}
use Rattle.world_core.specs.Owed.{total_below}
use Rattle.world_core.proofs.Weighs.{below-change, below-same}

-- an element that isn't set stays
other-stays : {A : Type 0} (xs : List A) (i j : ℕ) (x : A) → j ≢ i → slice_get (slice_set xs i x) j ≡ slice_get xs j
other-stays [] i j x ne = refl
other-stays (y ∷ ys) zero zero x ne = absurd (ne refl)
other-stays (y ∷ ys) zero (suc j) x ne = refl
other-stays (y ∷ ys) (suc i) zero x ne = refl
other-stays (y ∷ ys) (suc i) (suc j) x ne = other-stays ys i j x (λ e. ne (ap suc e))

-- the one that is set is the new one
set-there : {A : Type 0} (xs : List A) (i : ℕ) (old x : A) → slice_get xs i ≡ Some old → slice_get (slice_set xs i x) i ≡ Some x
set-there [] i old x at = cc
set-there (y ∷ ys) zero old x at = refl
set-there (y ∷ ys) (suc i) old x at = set-there ys i old x at

-- what is shared, with other messages in an inbox
abbrev pub with_inbox : Shared → ℕ → ℕ → List Message → Shared
with_inbox s machine stage messages = record s { inboxes = slice_set s.inboxes (inbox_place s machine stage) messages }

and-parts : (a b : Bool) → (a && b) ≡ true → (a ≡ true) × (b ≡ true)
and-parts true true e = (refl, refl)
and-parts true false e = cc
and-parts false b e = cc

-- another inbox stays
inbox-other : (number : Message → ℕ) (s : Shared) (a j : ℕ) (new : List Message) (m k : ℕ) → j < s.shape.stages → ((m ≡ a) → (k ≡ j) → ⊥) →
    in_inbox number (inbox_at (with_inbox s a j new) m k) ≡ in_inbox number (inbox_at s m k)
inbox-other number s a j new m k low ne = go (nat_lt 0 k && nat_lt k s.shape.stages) refl
  where
    go : (b : Bool) → (nat_lt 0 k && nat_lt k s.shape.stages) ≡ b → in_inbox number (inbox_at (with_inbox s a j new) m k) ≡ in_inbox number (inbox_at s m k)
    go true e =
        let both = and-parts (nat_lt 0 k) (nat_lt k s.shape.stages) e in
        let under : k < s.shape.stages = let test = both.1 in grind (arith, nat_tests, test) in
        let differ : inbox_place s m k ≢ inbox_place s a j = λ same. let p = same_from_place m k a j s.shape.stages under low same in ne p.0 p.1 in
        rw e (ap (in_inbox number) (other-stays s.inboxes (inbox_place s a j) (inbox_place s m k) new differ))
    go false e = rw e refl

inbox-new : (s : Shared) (a j : ℕ) (old new : List Message) → inbox_at s a j ≡ Some old → inbox_at (with_inbox s a j new) a j ≡ Some new
inbox-new s a j old new there = go (nat_lt 0 j && nat_lt j s.shape.stages) refl
  where
    go : (b : Bool) → (nat_lt 0 j && nat_lt j s.shape.stages) ≡ b → inbox_at (with_inbox s a j new) a j ≡ Some new
    go true e =
        let at : slice_get s.inboxes (inbox_place s a j) ≡ Some old = sym (ap (λ b. cond b (slice_get s.inboxes (inbox_place s a j)) None) e) ∙ there in
        rw e (set-there s.inboxes (inbox_place s a j) old new at)
    go false e = let none : None ≡ Some old = sym (ap (λ b. cond b (slice_get s.inboxes (inbox_place s a j)) None) e) ∙ there in cc

pub inboxes-change : (number : Message → ℕ) (s : Shared) (a j : ℕ) (old new : List Message) → a < s.shape.machines → inbox_at s a j ≡ Some old →
    in_inboxes number (with_inbox s a j new) + total number old ≡ in_inboxes number s + total number new
inboxes-change number s a j old new low there =
    let h = with_inbox s a j new in
    let stage = (inbox-is s a j old there).stage in
    let before : in_inbox number (inbox_at s a j) ≡ total number old = ap (in_inbox number) there in
    let after : in_inbox number (inbox_at h a j) ≡ total number new = ap (in_inbox number) (inbox-new s a j old new there) in
    let row =
    below-change s.shape.stages j (λ k. in_inbox number (inbox_at h a k)) (λ k. in_inbox number (inbox_at s a k)) stage
    (λ k ne. inbox-other number s a j new a k stage (λ e same. ne same)) in
    let all =
    below-change s.shape.machines a (in_machine number h) (in_machine number s) low
    (λ m ne. below-same s.shape.stages (λ k. in_inbox number (inbox_at h m k)) (λ k. in_inbox number (inbox_at s m k)) (λ k less. inbox-other number s a j new m k stage (λ same e. ne same))) in
    omega arith

-- ---- where no inbox changes
abbrev in_all : (Message → ℕ) → List (List Message) → Extents → ℕ
in_all number inboxes shape =
    total_below shape.machines (λ m. total_below shape.stages (λ k. in_inbox number (cond (nat_lt 0 k && nat_lt k shape.stages) (slice_get inboxes (m * shape.stages + k)) None)))

pub inboxes-same : (number : Message → ℕ) (s h : Shared) → h.inboxes ≡ s.inboxes → h.shape ≡ s.shape → in_inboxes number h ≡ in_inboxes number s
inboxes-same number s h inboxes shape = ap (λ xs. in_all number xs h.shape) inboxes ∙ ap (λ x. in_all number s.inboxes x) shape
