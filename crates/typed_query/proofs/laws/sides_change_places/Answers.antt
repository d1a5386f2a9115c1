use Rattle.std.proofs.Common.{◌≡◌, refl, true, false}
use Rattle.adfs_base.specs.declared.value.Value.{Value}
use Rattle.adfs_base.specs.declared.value.Value.TheVariants as value
use Rattle.typed_query.specs.Val.{conjunction, disjunction}
use Rattle.typed_query.proofs.laws.sides_change_places.Goals as goal

and_turned : (a b : Value) → conjunction a b ≡ conjunction b a
and_turned (value.Bool true) (value.Bool true) = refl
and_turned (value.Bool true) (value.Bool false) = refl
and_turned (value.Bool true) value.Null = refl
and_turned (value.Bool true) b = refl
and_turned (value.Bool false) (value.Bool true) = refl
and_turned (value.Bool false) (value.Bool false) = refl
and_turned (value.Bool false) value.Null = refl
and_turned (value.Bool false) b = refl
and_turned value.Null (value.Bool true) = refl
and_turned value.Null (value.Bool false) = refl
and_turned value.Null value.Null = refl
and_turned value.Null b = refl
and_turned (value.Int x) (value.Bool true) = refl
and_turned (value.Int x) (value.Bool false) = refl
and_turned (value.Int x) value.Null = refl
and_turned (value.Int x) b = refl
and_turned (value.Text x) (value.Bool true) = refl
and_turned (value.Text x) (value.Bool false) = refl
and_turned (value.Text x) value.Null = refl
and_turned (value.Text x) b = refl
and_turned (value.Date x) (value.Bool true) = refl
and_turned (value.Date x) (value.Bool false) = refl
and_turned (value.Date x) value.Null = refl
and_turned (value.Date x) b = refl

or_turned : (a b : Value) → disjunction a b ≡ disjunction b a
or_turned (value.Bool true) (value.Bool true) = refl
or_turned (value.Bool true) (value.Bool false) = refl
or_turned (value.Bool true) value.Null = refl
or_turned (value.Bool true) b = refl
or_turned (value.Bool false) (value.Bool true) = refl
or_turned (value.Bool false) (value.Bool false) = refl
or_turned (value.Bool false) value.Null = refl
or_turned (value.Bool false) b = refl
or_turned value.Null (value.Bool true) = refl
or_turned value.Null (value.Bool false) = refl
or_turned value.Null value.Null = refl
or_turned value.Null b = refl
or_turned (value.Int x) (value.Bool true) = refl
or_turned (value.Int x) (value.Bool false) = refl
or_turned (value.Int x) value.Null = refl
or_turned (value.Int x) b = refl
or_turned (value.Text x) (value.Bool true) = refl
or_turned (value.Text x) (value.Bool false) = refl
or_turned (value.Text x) value.Null = refl
or_turned (value.Text x) b = refl
or_turned (value.Date x) (value.Bool true) = refl
or_turned (value.Date x) (value.Bool false) = refl
or_turned (value.Date x) value.Null = refl
or_turned (value.Date x) b = refl

pub returns : goal.returns
returns c = record { of_and = and_turned; of_or = or_turned }
