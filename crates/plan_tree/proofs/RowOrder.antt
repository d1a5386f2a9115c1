-- Rows in another order stand for the matches in another order.
use Rattle.std.proofs.Common.{◌≡◌, ℕ, zero, suc, ◌<◌, Bool, true, false, List, [], ◌∷◌, map, count_by, Some, All, refl, sym, ap, ap₂, ◌∙◌, subst, arith}
use Rattle.std.specs.Prelude.{slice_get, remove}
use Rattle.std.specs.Str.{bytes_eq}
use Rattle.std.specs.List.Sorted.{IsPermutation}
use Rattle.std.proofs.lemmas.List.Recursion.{is_sum_by}
use Rattle.std.proofs.lemmas.List.Sorted.{All-permutation, IsPermutation-cons, IsPermutation-map, IsPermutation-refl, IsPermutation-remove, IsPermutation-sym, IsPermutation-trans}
use Rattle.std.proofs.lemmas.Option.{get_or_from_slice_get, slice_get_within}
use Rattle.std.proofs.lemmas.Slice.Eq.{bytes_eq-Decides}
use Rattle.graph_tables.specs.Graph.{PropertyGraph}
use Rattle.match_context.specs.Bags.{total}
use Rattle.match_context.specs.Leaves.{tree_leaves}
use Rattle.match_context.specs.declared.context.Context.{Context}
use Rattle.match_context.proofs.Bags.{bags_are_permutations}
use Rattle.match_context.proofs.Totals.{total-remove}
use Rattle.pgql_meaning.specs.Answer.{all_matches}
use Rattle.pgql_meaning.specs.Captured.{captured}
use Rattle.result_collect.specs.Contexts.{StandForEach, numbers_in, values_in}
use Rattle.typed_expr.specs.declared.query.Query.{Query}
use Rattle.plan_tree.specs.Laws.{RowsAreAll, SameCounts, over_parts}
use Rattle.plan_tree.specs.PlanTree.{tree_of}
use Rattle.plan_tree.proofs.AllLeaves.{leaves_are_all}
use Rattle.plan_tree.proofs.Bags.{bit}
use Rattle.plan_tree.proofs.KindsTold.{kinds_are_told}

-- a list of numbers that is counted stands somewhere
stands : (x : List ℕ) (ys : List (List ℕ)) → 0 < total (λ y. bit (bytes_eq x y)) ys → (i : ℕ) × (slice_get ys i ≡ Some x)
stands x [] some = absurd (omega arith)
stands x (y ∷ ys) some = at_answer (bytes_eq x y) refl (stands x ys) where
  at_answer : (b : Bool) → bytes_eq x y ≡ b → (0 < total (λ z. bit (bytes_eq x z)) ys → (i : ℕ) × (slice_get ys i ≡ Some x))
      → (i : ℕ) × (slice_get (y ∷ ys) i ≡ Some x)
  at_answer true is later = (0, ap Some (sym ((bytes_eq-Decides x y).0 is)))
  at_answer false is later = let none : bit (bytes_eq x y) ≡ 0 = ap bit is in let found = later (omega (arith, none, some)) in (suc found.0, found.1)

-- two lists in which each test passes as often are one in another order
permutation-from_counts : (xs ys : List (List ℕ)) → ((t : List ℕ → Bool) → total (λ x. bit (t x)) xs ≡ total (λ y. bit (t y)) ys) → IsPermutation xs ys
permutation-from_counts [] [] same = IsPermutation-refl []
permutation-from_counts [] (y ∷ ys) same = let e = same (λ _. true) in absurd (omega arith)
permutation-from_counts (x ∷ xs) ys same =
    let e = same (bytes_eq x) in
    let me : bit (bytes_eq x x) ≡ 1 = ap bit ((bytes_eq-Decides x x).1 refl) in
    let at = stands x ys (omega arith) in
    let within = slice_get_within ys at.0 x at.1 in
    let out = IsPermutation-remove ys at.0 x within (sym (get_or_from_slice_get ys at.0 x x at.1)) in
    let rest = permutation-from_counts xs (remove ys at.0) (λ t. let a = same t in let b = total-remove (λ y. bit (t y)) ys at.0 x at.1 in omega arith) in
    IsPermutation-trans (x ∷ xs) (x ∷ remove ys at.0) ys (IsPermutation-cons x xs (remove ys at.0) rest) (IsPermutation-sym ys (x ∷ remove ys at.0) out)

count_by-total : (t : List ℕ → Bool) (xs : List (List ℕ)) → total (λ x. bit (t x)) xs ≡ count_by t xs
count_by-total t xs = is_sum_by (total (λ x. bit (t x))) (λ x. bit (t x)) refl (λ _ _. refl) xs

permutation-from_same : (xs ys : List (List ℕ)) → SameCounts xs ys → IsPermutation xs ys
permutation-from_same xs ys same = permutation-from_counts xs ys (λ t. count_by-total t xs ∙ same t ∙ sym (count_by-total t ys))

module _ (g : PropertyGraph) (q : Query) where
  -- the values of a context are those of the assignment whose numbers it has
  abbrev Says : Context → Type 0
  Says context = values_in q context ≡ captured g q (numbers_in q context)

  numbers-are : (contexts : List Context) (ms : List (List ℕ)) → StandForEach g q contexts ms → map (numbers_in q) contexts ≡ ms
  numbers-are [] [] each = refl
  numbers-are [] (m ∷ ms) each = absurd each
  numbers-are (c ∷ cs) [] each = absurd each
  numbers-are (c ∷ cs) (m ∷ ms) each = ap₂ (λ n ns. n ∷ ns) each.0.numbers (numbers-are cs ms each.1)

  all-say : (contexts : List Context) (ms : List (List ℕ)) → StandForEach g q contexts ms → All Says contexts
  all-say [] ms each k d below = absurd (omega arith)
  all-say (c ∷ cs) [] each k d below = absurd each
  all-say (c ∷ cs) (m ∷ ms) each zero d below = each.0.values ∙ sym (ap (captured g q) each.0.numbers)
  all-say (c ∷ cs) (m ∷ ms) each (suc k) d below = all-say cs ms each.1 k d (omega arith)

  stand-so : (contexts : List Context) → All Says contexts → StandForEach g q contexts (map (numbers_in q) contexts)
  stand-so [] all = tt
  stand-so (c ∷ cs) all = (record { numbers = refl; values = all 0 c (omega arith) }, stand-so cs (λ k d below. all (suc k) d (omega arith)))

pub rows_are_all : RowsAreAll
rows_are_all texts schema g q owner machines some owned ends few_vertices few_edges shown formed room kinds rows same =
    let all = leaves_are_all texts g q owner machines some owned ends few_vertices few_edges shown formed room (kinds_are_told texts schema g q shown kinds) in
    let leaves = tree_leaves (tree_of (over_parts texts g q owner machines)) in
    let order = IsPermutation-sym rows leaves ((bags_are_permutations rows leaves).0 same) in (
      map (numbers_in q) rows,
      stand-so g q rows (All-permutation (Says g q) leaves rows order (all-say g q leaves all.0 all.1)),
      IsPermutation-trans (all_matches texts g q) all.0 (map (numbers_in q) rows) (permutation-from_same (all_matches texts g q) all.0 (λ t. sym (all.2 t)))
          (subst (λ ms. IsPermutation ms (map (numbers_in q) rows)) (numbers-are g q leaves all.0 all.1) (IsPermutation-map (numbers_in q) leaves rows order)),
    )
