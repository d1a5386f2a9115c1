-- A plain fabric as contracts see it.
use Rattle.std.specs.Prelude.{◌≡◌, ℕ, map, slice_get, Some}
use Rattle.adfs_base.specs.Shape.{pool_of}
use Rattle.fabric.specs.Shared.{Shared, IsShared, room_of}
use Rattle.fabric.specs.Queue.{Queue, Stock}
use Rattle.fabric.specs.declared.plain.PlainFabric.TheInside.{Inside}

abbrev pub shared_of : Inside → Shared
shared_of a =
    record {
      shape = a.shape;
      roots = a.roots.items;
      pools = map (λ p. p.count) a.pools.items;
      inboxes = map (λ q. q.messages) a.inboxes.items;
      used = a.used.items;
      flying = a.flying.items;
      cursors = a.cursors.items;
      enrolled = a.enrolled.items;
      closed = a.closed;
    }

-- the tables have their sizes, and each pool and inbox its room
pub record IsFabric (a : Inside) : Type 0 where
  pub shared : IsShared (shared_of a)
  pub pools : (machine : ℕ) (p : Stock) → slice_get a.pools.items machine ≡ Some p →
      (p.home ≡ machine) × (p.size ≡ a.shape.buffer) × (p.room ≡ pool_of a.shape)
  pub inboxes : (at : ℕ) (q : Queue) → slice_get a.inboxes.items at ≡ Some q → q.room ≡ room_of a.shape
