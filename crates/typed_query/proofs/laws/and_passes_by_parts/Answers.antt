use Rattle.std.proofs.Common.{◌≡◌, ◌&&◌, refl, true, false}
use Rattle.adfs_base.specs.declared.value.Value.{Value}
use Rattle.adfs_base.specs.declared.value.Value.TheVariants as value
use Rattle.typed_query.specs.Val.{conjunction, passes}
use Rattle.typed_query.proofs.laws.and_passes_by_parts.Goals as goal

by_parts : (a b : Value) → passes (conjunction a b) ≡ (passes a && passes b)
by_parts (value.Bool true) (value.Bool b) = refl
by_parts (value.Bool false) (value.Bool b) = refl
by_parts (value.Bool true) value.Null = refl
by_parts (value.Bool false) value.Null = refl
by_parts value.Null (value.Bool true) = refl
by_parts value.Null (value.Bool false) = refl
by_parts (value.Bool true) b = refl
by_parts (value.Bool false) b = refl
by_parts a b = refl

pub returns : goal.returns
returns c = by_parts
