use Rattle.std.proofs.Common.{◌∙◌, sym, ap, arith, [], slice_index_or}
use Rattle.std.specs.Cmp.Lexicographic.{slice_cmp}
use Rattle.std.specs.Ordering.{is_eq, nat_cmp}
use Rattle.value_text.specs.Texts.{text_at}
use Rattle.typed_query.proofs.SameTexts.{equal_itself, texts_differ}
use Rattle.typed_query.proofs.evaluate.is_same_text.Goals as goal

pub returns-then-a-b : goal.returns-then-a-b
returns-then-a-b c =
    let own = text_at c.args.texts.now c.args.a in
    sym (equal_itself own) ∙ ap (λ b. is_eq (slice_cmp nat_cmp own (text_at c.args.texts.now b))) c.if-a-b.true

pub returns-then-b-len : goal.returns-then-b-len
returns-then-b-len c = sym (texts_differ c.args.texts.now c.args.a c.args.b c.len.ensures.distinct (omega arith) (omega arith) c.if-a-b.false)
