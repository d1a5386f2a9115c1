use Rattle.std.proofs.Common.{rules}
use Rattle.std.proofs.lemmas.Fn.{dedup_same}
use Rattle.answer_rows.specs.Arranged.{has_row}
use Rattle.answer_rows.proofs.arrange.drop_doubles.Goals as goal

pub returns : goal.returns
returns c =
    dedup_same _ (has_row c.args.texts.now) _ (λ x y b f x' y' called. search rules) c.args.matches.now.items c.dedup_by.new.self.items c.dedup_by.ensures.filtered
