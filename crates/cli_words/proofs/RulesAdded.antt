-- A line to which the rules of a list are added one after the other.
use Rattle.std.proofs.Common.{◌≡◌, ℕ, ◌+◌, ◌<◌, add-one, drop, drop-cons, length, List, ◌∷◌, map, sym, subst}
use Rattle.std.specs.List.{fold, slice_index_or}
use Rattle.clap.specs.Words.{App, Rule, with_rule}

split_at : {X : Type 0} (xs : List X) (i : ℕ) (d : X) → i < length xs → drop i xs ≡ slice_index_or xs i d ∷ drop (i + 1) xs
split_at xs i d below = rw (add-one, drop-cons xs i d)

-- with the next rule, those that are left make what all of them made at first
pub rule_added : {X : Type 0} (rule : X → Rule) (xs : List X) (i : ℕ) (d : X) (line new whole : App) → i < length xs
    → fold with_rule line (map rule (drop i xs)) ≡ whole → new ≡ with_rule line (rule (slice_index_or xs i d)) → fold with_rule new (map rule (drop (i + 1) xs)) ≡ whole
rule_added rule xs i d line new whole below so_far made =
    let step : fold with_rule line (map rule (slice_index_or xs i d ∷ drop (i + 1) xs)) ≡ whole = subst (λ ys. fold with_rule line (map rule ys) ≡ whole) (split_at xs i d below) so_far in
    subst (λ app. fold with_rule app (map rule (drop (i + 1) xs)) ≡ whole) (sym made) step
