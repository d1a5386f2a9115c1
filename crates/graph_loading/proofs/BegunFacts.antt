-- A table that begins, and one that was loaded.
use Rattle.std.proofs.Common.{◌≡◌, refl}
