use Rattle.std.proofs.Common.{◌≡◌, ℕ, ◌+◌, List, [], ◌∷◌, ◌++◌, map, sym, ap, arith, rules, ◌∙◌}
use Rattle.std.specs.List.{range_with_len}
use Rattle.std.proofs.lemmas.List.{map-append}
use Rattle.match_context.specs.Words.{number_in}
use Rattle.pgql_meaning.proofs.Extensions.{range_more}
use Rattle.result_collect.proofs.rows.numbers_in.Goals as goal

-- one number more
more : (f : ℕ → ℕ) (n value : ℕ) (old new : List ℕ) → old ≡ map f (range_with_len 0 n) → value ≡ f n → new ≡ old ++ value ∷ [] → new ≡ map f (range_with_len 0 (n + 1))
more f n value old new is_old is_value is_new =
    is_new ∙ rw (is_old, is_value) (sym (ap (map f) (range_more 0 n) ∙ map-append f (range_with_len 0 n) ((0 + n) ∷ []) ∙ ap (λ k. map f (range_with_len 0 n) ++ f k ∷ []) (omega arith)))

pub loop-variable-preserved : goal.loop-variable-preserved
loop-variable-preserved c =
    let pushed : c.push.new.self.items ≡ c.loop-variable.numbers.items ++ c.number.result ∷ [] = search rules in
    more (number_in c.args.context.now.words) c.loop-variable.variable c.number.result c.loop-variable.numbers.items c.push.new.self.items c.loop-variable.invariant c.number.ensures pushed
