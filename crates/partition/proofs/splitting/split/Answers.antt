use Rattle.std.proofs.Common.{length, sym, subst}
use Rattle.partition.specs.Owners.{IsOwner}
use Rattle.partition.proofs.splitting.split.Goals as goal

pub split_bare-requires-clause-owner : goal.split_bare-requires-clause-owner
split_bare-requires-clause-owner c = subst (λ vs. IsOwner c.args.owner.now (length vs) c.args.machines) (sym c.in_ok-bare.ensures.vertices) c.requires.owner

pub returns : goal.returns
returns c = record { parts = c.split_bare.ensures c.args.graph (sym c.in_ok-bare.ensures.vertices) (sym c.in_ok-bare.ensures.edges) }
