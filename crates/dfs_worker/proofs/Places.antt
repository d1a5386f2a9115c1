-- One of a worker's slots changes.
use Rattle.std.proofs.Common.{◌≡◌, ℕ, ◌+◌, ◌*◌, ◌<◌, ◌≤◌, Bool, true, false, cond, ◌&&◌, List, [], ◌∷◌, length, get_or, Option, Some, None, refl, sym, ap, ◌∙◌, subst, arith, zero, suc, ◌⊎◌, inl, inr}
use Rattle.std.specs.Prelude.{slice_set, nat_lt}
use Rattle.std.proofs.lemmas.Bool.Decides.{nat_tests}
use Rattle.std.proofs.lemmas.List.{length_push}
use Rattle.std.proofs.Math.ListN.{length-set}
use Rattle.adfs_base.specs.Shape.{Extents}
use Rattle.match_context.specs.Bags.{total}
use Rattle.match_context.specs.declared.context.Context.{Context}
use Rattle.match_context.specs.declared.message.Message.{Message}
use Rattle.dfs_worker.specs.Slots.{Slots, slot_of, open_at, room_in, with_slot, added}
use Rattle.dfs_worker.specs.Sound.{IsOpenAt, AreSlots}

-- ---- lists
pub total-set_or : {A : Type 0} (f : A → ℕ) (xs : List A) (i : ℕ) (v d : A) → i < length xs → total f (slice_set xs i v) + f (get_or xs i d) ≡ total f xs + f v
total-set_or f [] i v d h = absurd (omega arith)
total-set_or f (x ∷ xs) zero v d h = omega arith
total-set_or f (x ∷ xs) (suc i) v d h = omega (arith, total-set_or f xs i v d (omega arith))

get_or-of_set : {A : Type 0} (xs : List A) (i j : ℕ) (v d : A) → ((j ≡ i) × (get_or (slice_set xs i v) j d ≡ v)) ⊎ (get_or (slice_set xs i v) j d ≡ get_or xs j d)
get_or-of_set [] i j v d = inr refl
get_or-of_set (x ∷ xs) zero zero v d = inl (refl, refl)
get_or-of_set (x ∷ xs) zero (suc j) v d = inr refl
get_or-of_set (x ∷ xs) (suc i) zero v d = inr refl
get_or-of_set (x ∷ xs) (suc i) (suc j) v d = elim (get_or-of_set xs i j v d) [ inl p ↦ inl (ap suc p.0, p.1) | inr q ↦ inr q ]

-- ---- what is open where
pub record OpenAt (slots : Slots) (stage to : ℕ) (message : Message) : Type 0 where
  pub stage_in : stage < slots.stages
  pub to_in : to < slots.machines
  pub here : get_or slots.messages (slot_of slots.machines stage to) None ≡ Some message

open-by : (slots : Slots) (stage to : ℕ) (message : Message) (a b : Bool) → nat_lt stage slots.stages ≡ a → nat_lt to slots.machines ≡ b →
    cond (a && b) (get_or slots.messages (slot_of slots.machines stage to) None) None ≡ Some message → OpenAt slots stage to message
open-by slots stage to message true true ea eb e =
    record { stage_in = grind (arith, nat_tests); to_in = grind (arith, nat_tests); here = e }
open-by slots stage to message true false ea eb e = cc
open-by slots stage to message false b ea eb e = cc

pub open-facts : (slots : Slots) (stage to : ℕ) (message : Message) → open_at slots stage to ≡ Some message → OpenAt slots stage to message
open-facts slots stage to message e = open-by slots stage to message (nat_lt stage slots.stages) (nat_lt to slots.machines) refl refl e

-- the place of a stage and a machine that exist
row-below : (stages machines stage : ℕ) → stage < stages → stage * machines + machines ≤ stages * machines
row-below stages machines stage h = grind arith

pub slot-within : (shape : Extents) (machine : ℕ) (slots : Slots) (stage to : ℕ) → AreSlots shape machine slots → stage < slots.stages → to < slots.machines →
    slot_of slots.machines stage to < length slots.messages
slot-within shape machine slots stage to h k n =
    let row = row-below slots.stages slots.machines stage k in
    let places : length slots.messages ≡ slots.stages * slots.machines = rw (h.stages, h.machines) h.places in
    omega arith

-- a place is known to be empty
pub none-facts : (slots : Slots) (stage to : ℕ) → open_at slots stage to ≡ None → stage < slots.stages → to < slots.machines →
    get_or slots.messages (slot_of slots.machines stage to) None ≡ None
none-facts slots stage to e k n =
    let a : nat_lt stage slots.stages ≡ true = grind (arith, nat_tests) in
    let b : nat_lt to slots.machines ≡ true = grind (arith, nat_tests) in
    rw (a, b) at e

-- ---- what each slot keeps
pub AreSlots-set : (shape : Extents) (machine : ℕ) (slots : Slots) (stage to : ℕ) (message : Option Message) → AreSlots shape machine slots →
    ((m : Message) → message ≡ Some m → IsOpenAt shape machine (slot_of slots.machines stage to) m) → AreSlots shape machine (with_slot slots stage to message)
AreSlots-set shape machine slots stage to message h new =
    let at = slot_of slots.machines stage to in
    record {
      stages = h.stages;
      machines = h.machines;
      places = length-set slots.messages at message ∙ h.places;
      each_open = λ j m e. go j m e (get_or-of_set slots.messages at j message None);
    }
  where
    go : (j : ℕ) (m : Message) → get_or (slice_set slots.messages (slot_of slots.machines stage to) message) j None ≡ Some m →
        ((j ≡ slot_of slots.machines stage to) × (get_or (slice_set slots.messages (slot_of slots.machines stage to) message) j None ≡ message))
        ⊎ (get_or (slice_set slots.messages (slot_of slots.machines stage to) message) j None ≡ get_or slots.messages j None) → IsOpenAt shape machine j m
    go j m e (inl p) = subst (λ i. IsOpenAt shape machine i m) (sym p.0) (new m (sym p.1 ∙ e))
    go j m e (inr q) = h.each_open j m (sym q ∙ e)

-- a message with one more context
pub IsOpenAt-added : (shape : Extents) (machine at : ℕ) (context : Context) (message : Message) → IsOpenAt shape machine at message →
    room_in (Some message) ≡ true → IsOpenAt shape machine at (added context message)
IsOpenAt-added shape machine at context message h room =
    let l = length_push message.items.items context in
    let p = h.whole in
    let size = p.size in
    let lt : length message.items.items < message.items.size = grind (arith, nat_tests) in
    record {
      whole = record {
        from = p.from;
        some_stage = p.some_stage;
        stage = p.stage;
        to = p.to;
        home = p.home;
        size = p.size;
        some = omega arith;
        within = omega arith;
      };
      own = h.own;
      place = h.place;
    }
