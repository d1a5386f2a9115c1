-- How tightly expressions bind.
use Rattle.pgql_tree.specs.declared.level.Level.{Level}
use Rattle.pgql_tree.specs.declared.level.Level.TheVariants.{Or, And, Not, Test, Sum, Product, Sign, Primary}

-- the next tighter level, which the right side of a chain's operator has
abbrev pub tighter : Level → Level
tighter Or = And
tighter And = Not
tighter Not = Test
tighter Test = Sum
tighter Sum = Product
tighter Product = Sign
tighter Sign = Primary
tighter Primary = Primary
