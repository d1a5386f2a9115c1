-- Sums over the front of a list, as a loop adds them up.
use Rattle.std.proofs.Common.{◌≡◌, ℕ, ◌+◌, ◌-◌, ◌*◌, ◌/◌, ◌%◌, ◌<◌, ◌≤◌, true, List, [], ◌∷◌, ◌++◌, length, get_or, take, reverse, Option, Some, None, refl, sym, ap, subst, ◌∙◌, arith, add-one, zero, suc}
use Rattle.std.specs.Prelude.{slice_get, nat_lt, IsSomeAnd}
use Rattle.std.proofs.Math.Nat.{mod-lt, div-lt_iff_lt-mul, mul-zero}
use Rattle.std.proofs.lemmas.Bool.Decides.{nat_tests}
use Rattle.std.proofs.lemmas.Nat.{div-add-mod'}
use Rattle.std.proofs.lemmas.List.{reverse-append}
use Rattle.std.proofs.lemmas.Option.{slice_get_within, get_or_from_slice_get}
use Rattle.match_context.specs.Bags.{total}
use Rattle.match_context.proofs.Totals.{total-push}
use Rattle.match_context.specs.Batch.{Batch}
use Rattle.match_context.specs.declared.frame.Frame.{Frame}
use Rattle.match_context.specs.declared.message.Message.{Message}
use Rattle.dfs_worker.specs.Slots.{Slots, slot_of, open_at}
use Rattle.dfs_worker.specs.Sound.{IsWorker}
use Rattle.dfs_worker.specs.State.{State}
use Rattle.world_core.specs.Gauge.{messages_of, in_slot}
use Rattle.world_core.specs.Owed.{total_below}

pub total-take : {A : Type 0} (f : A → ℕ) (xs : List A) (i : ℕ) (d : A) → i < length xs → total f (take (i + 1) xs) ≡ total f (take i xs) + f (get_or xs i d)
total-take f [] i d within = absurd (omega arith)
total-take f (y ∷ ys) zero d within = omega arith
total-take f (y ∷ ys) (suc i) d within =
    let more = total-take f ys i d (omega arith) in
    let e : total f (take (suc i + 1) (y ∷ ys)) ≡ f y + total f (take (i + 1) ys) = rw (add-one (suc i), add-one i) refl in
    omega arith

pub total-front : {A : Type 0} (f : A → ℕ) (xs : List A) (i : ℕ) → total f (take i xs) ≤ total f xs
total-front f xs zero = omega arith
total-front f [] (suc i) = omega arith
total-front f (x ∷ xs) (suc i) = omega (arith, total-front f xs i)

pub total-whole : {A : Type 0} (f : A → ℕ) (xs : List A) (i : ℕ) → length xs ≤ i → total f (take i xs) ≡ total f xs
total-whole f [] zero over = refl
total-whole f (x ∷ xs) zero over = absurd (omega arith)
total-whole f [] (suc i) over = refl
total-whole f (x ∷ xs) (suc i) over = let rest = total-whole f xs i (omega arith) in omega arith

pub below-next : (n : ℕ) (f : ℕ → ℕ) → total_below (n + 1) f ≡ total_below n f + f n
below-next n f = ap (λ m. total_below m f) (add-one n)

below-more : (i d : ℕ) (f : ℕ → ℕ) → total_below i f ≤ total_below (i + d) f
below-more i zero f = let e : i + 0 ≡ i = omega arith in rw e (omega arith)
below-more i (suc d) f =
    let e : i + suc d ≡ suc (i + d) = omega arith in
    let less = below-more i d f in
    let last : total_below (i + suc d) f ≡ total_below (i + d) f + f (i + d) = ap (λ m. total_below m f) e in
    omega arith

pub below-front : (n i : ℕ) (f : ℕ → ℕ) → i ≤ n → total_below i f ≤ total_below n f
below-front n i f low =
    let e : i + (n - i) ≡ n = omega arith in
    subst (λ m. total_below i f ≤ total_below m f) e (below-more i (n - i) f)

pub total-reverse : {A : Type 0} (f : A → ℕ) (xs : List A) → total f (reverse xs) ≡ total f xs
total-reverse f [] = refl
total-reverse f (x ∷ xs) =
    let turned : reverse (x ∷ xs) ≡ reverse xs ++ x ∷ [] = reverse-append (x ∷ []) xs in
    let all = ap (total f) turned ∙ total-push f (reverse xs) x in
    let rest = total-reverse f xs in
    omega arith

-- ---- a turn of a loop that adds up one sum, or two
pub sum-fits : {A : Type 0} (f : A → ℕ) (xs : List A) (i : ℕ) (d x : A) (start now : ℕ) → now ≡ start + total f (take i xs) → i < length xs → x ≡ get_or xs i d →
    start + total f xs < 9223372036854775808 → now + f x < 9223372036854775808
sum-fits f xs i d x start now so_far within at fits =
    let front = total-front f xs (i + 1) in
    let next = total-take f xs i d within in
    let same = ap f at in
    omega arith

pub sum-next : {A : Type 0} (f : A → ℕ) (xs : List A) (i : ℕ) (d x : A) (start now then : ℕ) → now ≡ start + total f (take i xs) → i < length xs → x ≡ get_or xs i d →
    then ≡ now + f x → then ≡ start + total f (take (i + 1) xs)
sum-next f xs i d x start now then so_far within at more =
    let next = total-take f xs i d within in
    let same = ap f at in
    omega arith

pub sums-fit : {A : Type 0} (f g : A → ℕ) (xs : List A) (i : ℕ) (d x : A) (start now : ℕ) → now ≡ start + (total f (take i xs) + total g (take i xs)) → i < length xs → x ≡ get_or xs i d →
    start + (total f xs + total g xs) < 9223372036854775808 → now + (f x + g x) < 9223372036854775808
sums-fit f g xs i d x start now so_far within at fits =
    let front = total-front f xs (i + 1) in
    let next = total-take f xs i d within in
    let same = ap f at in
    let front2 = total-front g xs (i + 1) in
    let next2 = total-take g xs i d within in
    let same2 = ap g at in
    omega arith

pub sums-next : {A : Type 0} (f g : A → ℕ) (xs : List A) (i : ℕ) (d x : A) (start now then : ℕ) → now ≡ start + (total f (take i xs) + total g (take i xs)) → i < length xs →
    x ≡ get_or xs i d →
    then ≡ now + (f x + g x) → then ≡ start + (total f (take (i + 1) xs) + total g (take (i + 1) xs))
sums-next f g xs i d x start now then so_far within at more =
    let next = total-take f xs i d within in
    let same = ap f at in
    let next2 = total-take g xs i d within in
    let same2 = ap g at in
    omega arith

pub below-fits : (f : ℕ → ℕ) (n i start now : ℕ) → now ≡ start + total_below i f → i < n → start + total_below n f < 9223372036854775808 → now + f i < 9223372036854775808
below-fits f n i start now so_far within fits =
    let front = below-front n (i + 1) f (omega arith) in
    let next = below-next i f in
    omega arith

pub place-in : (at a b s m n : ℕ) → at < a * b → a ≡ s → b ≡ m → n ≡ s * m → at < n
place-in at a b s m n low one two all = rw (all, ← one, ← two) low

-- the message that was read of an inbox
pub inbox-read : (o : Option (List Message)) (i : ℕ) (m : Message) → IsSomeAnd o (λ ms. slice_get ms i ≡ Some m) → (i < length (messages_of o)) × (m ≡ get_or (messages_of o) i m)
inbox-read None i m h = absurd h
inbox-read (Some ms) i m h = (slice_get_within ms i m h, sym (get_or_from_slice_get ms i m m h))

-- the slot of a place is that of its stage and machine
open-here : (slots : Slots) (stage to : ℕ) → stage < slots.stages → to < slots.machines → open_at slots stage to ≡ get_or slots.messages (slot_of slots.machines stage to) None
open-here slots stage to k n =
    let a : nat_lt stage slots.stages ≡ true = grind (arith, nat_tests) in
    let b : nat_lt to slots.machines ≡ true = grind (arith, nat_tests) in
    rw (a, b) refl

some-right : (a b n : ℕ) → n < a * b → 0 < b
some-right a zero n h = let none : a * 0 ≡ 0 = mul-zero a in absurd (omega arith)
some-right a (suc b) n h = omega arith

slot-at : (slots : Slots) (at : ℕ) → length slots.messages ≡ slots.stages * slots.machines → at < length slots.messages →
    open_at slots (at / slots.machines) (at % slots.machines) ≡ get_or slots.messages at None
slot-at slots at places within =
    let low : at < slots.stages * slots.machines = subst (λ n. at < n) places within in
    let some = some-right slots.stages slots.machines at low in
    open-here slots (at / slots.machines) (at % slots.machines) ((div-lt_iff_lt-mul some).1 low) (mod-lt at some)
    ∙ ap (λ place. get_or slots.messages place None) (div-add-mod' at slots.machines)

pub slot-read : (v : State) (at machines : ℕ) → IsWorker v → at < length v.slots.messages → machines ≡ v.shape.machines →
    open_at v.slots (at / machines) (at % machines) ≡ get_or v.slots.messages at None
slot-read v at machines h within same =
    let places : length v.slots.messages ≡ v.slots.stages * v.slots.machines = rw (h.slots.stages, h.slots.machines) h.slots.places in
    subst (λ n. open_at v.slots (at / n) (at % n) ≡ get_or v.slots.messages at None) (h.slots.machines ∙ sym same) (slot-at v.slots at places within)

-- what a buffer that is open adds
pub slot-counts : (number : Message → ℕ) (slot : Option Message) (batch : Batch) (n : ℕ) → ((message : Message) → message.items ≡ batch → number message ≡ n) →
    IsSomeAnd slot (λ message. message.items ≡ batch) → in_slot number slot ≡ n
slot-counts number None batch n counts h = absurd h
slot-counts number (Some message) batch n counts h = counts message h

-- a stack in the other order adds up to the same
pub stack-sum : (f : Frame → ℕ) (frames stack : List Frame) → reverse frames ≡ stack → total f frames ≡ total f stack
stack-sum f frames stack turned = sym (total-reverse f frames) ∙ ap (total f) turned
