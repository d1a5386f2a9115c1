-- What the front of a file shows of the whole file.
use Rattle.std.proofs.Common.{◌≡◌, ℕ, ◌+◌, ◌<◌, ◌≤◌, nat_lt, true, false, List, length, take, Option, Some, None, Ok, Err, IfSome, IsSomeAnd, arith, refl}
use Rattle.std.proofs.lemmas.Grind.{common_steps}
use Rattle.std.proofs.lemmas.List.{length-take, take_all}
use Rattle.adfs_base.specs.Files.{Files, file_of, Reads}
use Rattle.graph_tables.specs.declared.faults.Quantity.TheVariants as quantity
use Rattle.run_replies.specs.Outcome.{file_bytes}
use Rattle.run_status.specs.declared.status.Status.TheVariants.{Limit}

-- a short front is the whole
whole_read : (most : ℕ) (bytes file : List ℕ) → bytes ≡ take (most + 1) file → length bytes ≤ most → (file ≡ bytes) × (nat_lt most (length file) ≡ false)
whole_read most bytes file front short = (grind (arith, common_steps, length-take (most + 1) file, take_all), grind (arith, common_steps, length-take (most + 1) file))

long_read : (most : ℕ) (bytes file : List ℕ) → bytes ≡ take (most + 1) file → most < length bytes → nat_lt most (length file) ≡ true
long_read most bytes file front long = grind (arith, common_steps, length-take (most + 1) file)

found_in : (number : ℕ) (bytes : List ℕ) (found : Option (List ℕ)) → IsSomeAnd found (λ f. bytes ≡ take (268435456 + 1) f) → length bytes ≤ 268435456 → file_bytes number found ≡ Ok bytes
found_in number bytes None front short = absurd front
found_in number bytes (Some file) front short =
    let whole = whole_read 268435456 bytes file front short in
    rw (whole.1, whole.0) refl

long_in : (number : ℕ) (bytes : List ℕ) (found : Option (List ℕ)) → IsSomeAnd found (λ f. bytes ≡ take (268435456 + 1) f) → 268435456 < length bytes
    → file_bytes number found ≡ Err (Limit quantity.FileBytes 268435456)
long_in number bytes None front long = absurd front
long_in number bytes (Some file) front long = rw (long_read 268435456 bytes file front long) refl

-- the same where the files may be told
pub file_found : (number : ℕ) (files : Option Files) (name bytes : List ℕ) → Reads files name 268435456 bytes → length bytes ≤ 268435456
    → IfSome files (λ told. file_bytes number (file_of name told) ≡ Ok bytes)
file_found number None name bytes reads short = tt
file_found number (Some told) name bytes reads short = found_in number bytes (file_of name told) reads short

pub file_long : (number : ℕ) (files : Option Files) (name bytes : List ℕ) → Reads files name 268435456 bytes → 268435456 < length bytes
    → IfSome files (λ told. file_bytes number (file_of name told) ≡ Err (Limit quantity.FileBytes 268435456))
file_long number None name bytes reads long = tt
file_long number (Some told) name bytes reads long = long_in number bytes (file_of name told) reads long
