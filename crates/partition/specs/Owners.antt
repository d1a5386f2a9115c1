-- Which machine has a vertex.
use Rattle.std.specs.Prelude.{◌≡◌, ℕ, ◌<◌, ◌/◌, ◌%◌, max, length, slice_index}
use Rattle.std.specs.Int.{div_ceil}
use Rattle.std.specs.List.{AllByRecursion}
use Rattle.partition.specs.declared.owner.Owner.{Owner}
use Rattle.partition.specs.declared.owner.Owner.TheVariants as owner

-- how many vertices a block has: as many as the vertices divided by the machines, rounded up, and at least one
abbrev pub block_size : ℕ → ℕ → ℕ
block_size vertices machines = max (div_ceil vertices machines) 1

-- the machine that has a vertex of a graph of so many vertices
abbrev pub machine_of : Owner → ℕ → ℕ → ℕ → ℕ
machine_of owner.Modulo vertices machines vertex = vertex % machines
machine_of owner.Block vertices machines vertex = vertex / block_size vertices machines
machine_of (owner.Listed list) vertices machines vertex = slice_index list vertex

-- A list has a machine for each vertex, and each machine that it names is there.
abbrev pub IsOwner : Owner → ℕ → ℕ → Type 0
IsOwner owner.Modulo vertices machines = Unit {0}
IsOwner owner.Block vertices machines = Unit {0}
IsOwner (owner.Listed list) vertices machines = (length list ≡ vertices) × AllByRecursion (λ machine. machine < machines) list
