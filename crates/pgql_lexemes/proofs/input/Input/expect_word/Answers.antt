use Rattle.std.proofs.Common.{◌≡◌, ◌∙◌, sym, true}
use Rattle.pgql_lexemes.specs.Words.{is_word}
use Rattle.pgql_lexemes.proofs.Taking.{took_token}
use Rattle.pgql_lexemes.proofs.input.Input.expect_word.Goals as goal

pub returns-then-is_word-clause-word : goal.returns-then-is_word-clause-word
returns-then-is_word-clause-word c =
    took_token (λ t. is_word t.kind ≡ true) c.args.self.now c.take.new.self c.in-Some.t c.take.result (sym c.in-Some.ensures)
    (sym c.is_word.ensures ∙ c.if-is_word.true) c.take.ensures
