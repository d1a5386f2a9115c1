-- When two kinds are the same.
use Rattle.std.proofs.Common.{◌≡◌, true, refl, rules}
use denote.Enum.Bare.{same_true}
use Rattle.pgql_lexemes.specs.contracts.kind.Kind.{the_type}
use Rattle.pgql_lexemes.specs.declared.kind.Kind.{Kind}
use Rattle.pgql_lexemes.specs.declared.kind.Kind.TheVariants as k
use Rattle.pgql_lexemes.specs.Parsers.{same_kind}

pub same_is : (a b : Kind) → same_kind a b ≡ true → a ≡ b
unfolding same_kind
same_is a b e = same_true the_type (search rules) a b e

pub same_itself : (kind : Kind) → same_kind kind kind ≡ true
unfolding same_kind
same_itself k.Select = refl
same_itself kind = refl
