-- The tables at the start of a run.
use Rattle.std.proofs.Common.{◌≡◌, ℕ, ◌*◌, List, [], ◌∷◌, length, map, replicate, Some, refl, sym, ap, ◌∙◌, arith, subst, zero, suc}
use Rattle.std.specs.Prelude.{slice_get}
use Rattle.std.proofs.lemmas.List.{length-replicate}
use Rattle.adfs_base.specs.Shape.{Extents, IsShape, pool_of}
use Rattle.fabric.specs.Queue.{Stock, empty_queue, full_stock}
use Rattle.fabric.specs.Shared.{IsShared, room_of, start}
use Rattle.fabric.specs.View.{shared_of, IsFabric}
use Rattle.fabric.specs.declared.plain.PlainFabric.TheInside.{Inside}

map-alike : {A B : Type 0} (f : A → B) (c : B) (xs : List A) → ((i : ℕ) (x : A) → slice_get xs i ≡ Some x → f x ≡ c) → map f xs ≡ replicate (length xs) c
map-alike f c [] each = refl
map-alike {A} {B} f c (x ∷ xs) each =
    ap (λ y. y ∷ map f xs) (each 0 x refl) ∙ ap (λ ys. c ∷ ys) (map-alike f c xs (λ i y e. each (suc i) y e))

pub alike : {A : Type 0} (n : ℕ) (x : A) (i : ℕ) (y : A) → slice_get (replicate n x) i ≡ Some y → y ≡ x
alike zero x i y e = cc
alike (suc n) x zero y e = cc
alike (suc n) x (suc i) y e = alike n x i y e

-- the parts of a new fabric
pub record IsNew (a : Inside) (roots : List ℕ) : Type 0 where
  pub shape : IsShape a.shape
  pub some_roots : length roots ≡ a.shape.machines
  pub same_roots : a.roots.items ≡ roots
  pub pool_count : length a.pools.items ≡ a.shape.machines
  pub pools : (m : ℕ) (p : Stock) → slice_get a.pools.items m ≡ Some p → p ≡ full_stock a.shape m
  pub inboxes : a.inboxes.items ≡ replicate (a.shape.machines * a.shape.stages) (empty_queue (room_of a.shape))
  pub used : a.used.items ≡ replicate (a.shape.machines * a.shape.stages * a.shape.machines) 0
  pub flying : a.flying.items ≡ replicate (a.shape.machines * a.shape.stages * a.shape.machines) 0
  pub cursors : a.cursors.items ≡ replicate a.shape.machines 0
  pub enrolled : a.enrolled.items ≡ replicate a.shape.machines a.shape.workers
  pub closed : a.closed ≡ 0

pools-full : (a : Inside) (roots : List ℕ) → IsNew a roots → map (λ p. p.count) a.pools.items ≡ replicate a.shape.machines (pool_of a.shape)
pools-full a roots new =
    map-alike (λ p. p.count) (pool_of a.shape) a.pools.items (λ m p e. ap (λ q. q.count) (new.pools m p e))
    ∙ ap (λ n. replicate n (pool_of a.shape)) new.pool_count

inboxes-empty : (a : Inside) (roots : List ℕ) → IsNew a roots → map (λ q. q.messages) a.inboxes.items ≡ replicate (a.shape.machines * a.shape.stages) []
inboxes-empty a roots new =
    let room = empty_queue (room_of a.shape) in
    map-alike (λ q. q.messages) [] a.inboxes.items (λ i q e. ap (λ u. u.messages) (alike (a.shape.machines * a.shape.stages) room i q (ap (λ qs. slice_get qs i) (sym new.inboxes) ∙ e)))
    ∙ ap (λ n. replicate n []) (ap length new.inboxes ∙ length-replicate (a.shape.machines * a.shape.stages) room)

pub new-is : (a : Inside) (roots : List ℕ) → IsNew a roots → shared_of a ≡ start a.shape roots
new-is a roots new =
    rw (new.same_roots, pools-full a roots new, inboxes-empty a roots new, new.used, new.flying, new.cursors, new.enrolled, new.closed) refl

pub start-shared : (shape : Extents) (roots : List ℕ) → IsShape shape → length roots ≡ shape.machines → IsShared (start shape roots)
start-shared shape roots is count =
    record {
      shape = is;
      roots = count;
      pools = length-replicate shape.machines (pool_of shape);
      inboxes = length-replicate (shape.machines * shape.stages) [];
      used = length-replicate (shape.machines * shape.stages * shape.machines) 0;
      flying = length-replicate (shape.machines * shape.stages * shape.machines) 0;
      cursors = length-replicate shape.machines 0;
      enrolled = length-replicate shape.machines shape.workers;
      closed = omega arith;
    }

pub new-kept : (a : Inside) (roots : List ℕ) → IsNew a roots → IsFabric a
new-kept a roots new =
    record {
      shared = subst IsShared (sym (new-is a roots new)) (start-shared a.shape roots new.shape new.some_roots);
      pools = λ m p e. let is = new.pools m p e in (ap (λ q. q.home) is, ap (λ q. q.size) is, ap (λ q. q.room) is);
      inboxes = λ i q e. ap (λ u. u.room) (alike (a.shape.machines * a.shape.stages) (empty_queue (room_of a.shape)) i q (ap (λ qs. slice_get qs i) (sym new.inboxes) ∙ e));
    }
