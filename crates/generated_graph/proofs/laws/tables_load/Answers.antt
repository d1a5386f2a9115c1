use Rattle.std.proofs.Common.{arith, refl, subst, sym}
use Rattle.std.specs.Prelude.{IsOk}
use Rattle.generated_graph.proofs.MadeTables.{tables_load}
use Rattle.generated_graph.proofs.laws.tables_load.Goals as goal

pub returns : goal.returns
returns c = λ seed vertices edges some few small. subst (λ r. IsOk r) (sym (tables_load seed vertices edges some few (omega arith))) refl
