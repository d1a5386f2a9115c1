use Rattle.std.proofs.Common.{◌≡◌, ◌∙◌, sym}
use Rattle.pgql_lexemes.proofs.SameKind.{same_is}
use Rattle.pgql_lexemes.proofs.Taking.{took_token}
use Rattle.pgql_lexemes.proofs.input.Input.expect.Goals as goal

pub returns-then-same_kind-clause-kind : goal.returns-then-same_kind-clause-kind
returns-then-same_kind-clause-kind c =
    took_token (λ t. t.kind ≡ c.args.kind) c.args.self.now c.take.new.self c.in-Some.t c.take.result (sym c.in-Some.ensures)
    (same_is c.in-Some.t.kind c.args.kind (sym c.same_kind.ensures ∙ c.if-same_kind.true)) c.take.ensures
