-- What one answer does to the weight of a frame.
use Rattle.std.proofs.Common.{◌≡◌, ℕ, ◌+◌, ◌-◌, ◌<◌, List, [], ◌∷◌, refl, arith, zero, suc}
use Rattle.match_context.specs.declared.context.Context.{Context}
use Rattle.match_context.specs.Bags.{total}
use Rattle.match_context.specs.Laws.{WeightsFallByAnswers, RowsWeighAsLeaves}
use Rattle.match_context.specs.Leaves.{leaves, leaves_within, rows_of}
use Rattle.match_context.specs.Tree.{Tree, IsTree, Item, Below, Leaf, Pass, answer, later}
use Rattle.match_context.specs.Weight.{Scale, weigh, weight_within, weight, weight_from, weight_of, rows_scale}
use Rattle.match_context.proofs.Totals.{total-append}

weigh-answer : (s : Scale) (t : Tree) (k : ℕ) (xs : List Item) →
    weigh s (weight s t (k + 1)) xs ≡ weight_of s t k (answer xs) + weigh s (weight s t (k + 1)) (later xs)
weigh-answer s t k [] = omega arith
weigh-answer s t k (Below c m ∷ xs) = refl
weigh-answer s t k (Leaf c ∷ xs) = refl
weigh-answer s t k (Pass ∷ xs) = refl

-- one answer takes its weight out of the frame
pub weight_from-next : (s : Scale) (t : Tree) (k m : ℕ) (c : Context) (p : ℕ) → IsTree t →
    weight_from s t k m c p ≡ weight_of s t k (answer (t.ahead m k c p)) + weight_from s t k m (t.context_after m k c p) (t.place_after m k c p)
unfolding weight_from
weight_from-next s t k m c p law =
    rw (law.rest m k c p) (weigh-answer s t k (t.ahead m k c p))

within-unfold : (s : Scale) (t : Tree) (n d k m : ℕ) (c : Context) → n ≡ suc d →
    weight_within s t n k m c ≡ weigh s (weight_within s t d (k + 1)) (t.ahead m k c 0)
within-unfold s t n d k m c e = rw e refl

-- a context weighs what is ahead of it from place 0 on
pub weight-unfold : (s : Scale) (t : Tree) (k m : ℕ) (c : Context) → k < t.stages → weight s t k m c ≡ weight_from s t k m c 0
unfolding weight weight_from
weight-unfold s t k m c h = within-unfold s t (t.stages - k) (t.stages - (k + 1)) k m c (omega arith)

-- the answers' rows, where those of each child weigh what the child does
weigh-rows : (h : Context → ℕ) (f : ℕ → Context → ℕ) (g : ℕ → Context → List Context) →
    ((m : ℕ) (c : Context) → f m c ≡ total h (g m c)) → (xs : List Item) → weigh (rows_scale h) f xs ≡ total h (rows_of g xs)
weigh-rows h f g same [] = refl
weigh-rows h f g same (Below c m ∷ xs) =
    let child = same m c in
    let rest = weigh-rows h f g same xs in
    let parts = total-append h (g m c) (rows_of g xs) in
    omega arith
weigh-rows h f g same (Leaf c ∷ xs) = let rest = weigh-rows h f g same xs in omega arith
weigh-rows h f g same (Pass ∷ xs) = let rest = weigh-rows h f g same xs in omega arith

within-rows : (h : Context → ℕ) (t : Tree) (n k m : ℕ) (c : Context) → weight_within (rows_scale h) t n k m c ≡ total h (leaves_within t n k m c)
within-rows h t zero k m c = refl
within-rows h t (suc d) k m c = weigh-rows h _ _ (within-rows h t d (k + 1)) (t.ahead m k c 0)

-- where rows alone weigh, a context weighs what its leaves do
pub weight-rows : (h : Context → ℕ) (t : Tree) (k m : ℕ) (c : Context) → weight (rows_scale h) t k m c ≡ total h (leaves t k m c)
unfolding weight leaves
weight-rows h t k m c = within-rows h t (t.stages - k) k m c

pub weights_fall_by_answers : WeightsFallByAnswers
weights_fall_by_answers = record { next = weight_from-next; whole = weight-unfold }

pub rows_weigh_as_leaves : RowsWeighAsLeaves
rows_weigh_as_leaves = weight-rows
