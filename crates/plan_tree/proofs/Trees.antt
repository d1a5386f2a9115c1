-- The tree of a plan over the parts of a graph is a staged tree.
use Rattle.std.proofs.Common.{◌≡◌, ℕ, zero, suc, ◌+◌, ◌<◌, Bool, true, false, cond, ◌&&◌, ◌==◌, eqb, List, [], ◌∷◌, length, map, drop, Option, Some, None}
use Rattle.std.proofs.Common.{refl, sym, ap, ◌∙◌, subst, arith}
use Rattle.std.specs.Prelude.{slice_get, slice_index}
use Rattle.std.specs.List.{AllByRecursion}
use Rattle.std.specs.Option.{option_and_then, option_map_or}
use Rattle.std.proofs.lemmas.Bool.{ltb-true, ne_eqb}
use Rattle.std.proofs.lemmas.List.FromFn.{length-map-range_with_len}
use Rattle.graph_tables.specs.Graph.{EndsIn, PropertyGraph, Vertex}
use Rattle.match_context.specs.Tree.{AreItems, Below, IsItem, Item, Pass, Tree, later}
use Rattle.match_context.specs.declared.context.Context.{Context}
use Rattle.partition.specs.Parts.{Entry, MachinePart, entries_of, lists_of, owners_in, part_of, part_with, parts_of, vertices_of}
use Rattle.partition.specs.Owners.{machine_of}
use Rattle.partition.specs.declared.owner.Owner.{Owner}
use Rattle.typed_expr.specs.declared.query.Query.{Query}
use Rattle.stage_plan.specs.Laws.{EndsWithOutput}
use Rattle.stage_plan.specs.Plans.{plan_of}
use Rattle.stage_plan.specs.Walk.{Walk, rooted, stages_from, stages_of, walk_after}
use Rattle.stage_plan.specs.declared.hop.Hop.{Hop}
use Rattle.stage_plan.specs.declared.hop.Hop.TheVariants as hop
use Rattle.stage_plan.specs.declared.stage.Stage.{Stage}
use Rattle.stage_plan.proofs.Whole.{plans_are_whole}
use Rattle.plan_tree.specs.Answers.{ahead, arrived, child_or_pass, entries_in, hop_items, if_any, is_vertex, items_after, items_of, others, place_after, place_in, to_bound, to_neighbour}
use Rattle.plan_tree.specs.Answers.{words_after, words_or}
use Rattle.plan_tree.specs.Told.{all_told}
use Rattle.plan_tree.specs.Laws.{PlansMakeTrees, over_parts}
use Rattle.plan_tree.specs.PlanTree.{taken, tree_of}
use Rattle.plan_tree.proofs.AllLeaves.{get-range, length-stages, owned-in}
use Rattle.plan_tree.proofs.PartLaws.{IsEntryOf, entries-all}
use Rattle.plan_tree.proofs.Tells.{all-get, get-low}

drop-later : (n : ℕ) (xs : List Item) (y : Item) (ys : List Item) → drop n xs ≡ y ∷ ys → drop (suc n) xs ≡ ys
drop-later zero [] y ys is = cc
drop-later zero (x ∷ xs) y ys is = ap later is
drop-later (suc n) [] y ys is = cc
drop-later (suc n) (x ∷ xs) y ys is = drop-later n xs y ys is

-- the answers after the first are ahead afterwards
module _ (texts : List (List ℕ)) (q : Query) (part : MachinePart) (stage : Stage) where
  rest-of : (words : List ℕ) (place : ℕ)
      → ahead texts q part stage (words_after texts q part stage words place) (place_after texts q part stage words place) ≡ later (ahead texts q part stage words place)
  rest-of words place = at_ahead (ahead texts q part stage words place) refl where
    at_arrived : (o : Option (List ℕ)) → arrived texts q part stage words ≡ o → (x : Item) (xs : List Item) → items_after (items_of texts q part stage) o ≡ x ∷ xs
        → drop 1 (items_of texts q part stage (words_or words o)) ≡ xs
    at_arrived None is x xs found = cc
    at_arrived (Some here) is x xs found = drop-later 0 (items_of texts q part stage here) x xs found

    at_place : (p : ℕ) (x : Item) (xs : List Item)
        → cond (eqb p 0) (items_after (items_of texts q part stage) (arrived texts q part stage words)) (drop p (items_of texts q part stage words)) ≡ x ∷ xs
        → ahead texts q part stage (cond (eqb p 0) (words_or words (arrived texts q part stage words)) words) (p + 1) ≡ xs
    at_place zero x xs found = at_arrived (arrived texts q part stage words) refl x xs found
    at_place (suc p) x xs found =
        let more : eqb (suc p) 0 ≡ false = ne_eqb (suc p) 0 (λ e. omega arith) in
        let after : eqb (suc p + 1) 0 ≡ false = ne_eqb (suc p + 1) 0 (λ e. omega arith) in
        let all = items_after (items_of texts q part stage) (arrived texts q part stage words) in
        ap (λ b. ahead texts q part stage (cond b (words_or words (arrived texts q part stage words)) words) (suc p + 1)) more
        ∙ ap (λ b. cond b all (drop (suc p + 1) (items_of texts q part stage words))) after
        ∙ ap (λ n. drop n (items_of texts q part stage words)) (let e : suc p + 1 ≡ suc (suc p) = omega arith in e)
        ∙ drop-later (suc p) (items_of texts q part stage words) x xs
        (sym (ap (λ b. cond b all (drop (suc p) (items_of texts q part stage words))) more) ∙ found)

    at_ahead : (ahead_here : List Item) → ahead texts q part stage words place ≡ ahead_here
        → ahead texts q part stage (if_any ahead_here words (cond (place == 0) (words_or words (arrived texts q part stage words)) words)) (if_any ahead_here place (place + 1)) ≡ later ahead_here
    at_ahead [] is = is
    at_ahead (x ∷ xs) is = at_place place x xs is

are-dropped : (tree : Tree) (k n : ℕ) (xs : List Item) → AreItems tree k xs → AreItems tree k (drop n xs)
are-dropped tree k zero xs are = are
are-dropped tree k (suc n) [] are = are
are-dropped tree k (suc n) (x ∷ xs) are = are-dropped tree k n xs are.1

are-mapped : {X : Type 0} (tree : Tree) (k : ℕ) (f : X → Item) (xs : List X) → AllByRecursion (λ x. IsItem tree k (f x)) xs → AreItems tree k (map f xs)
are-mapped tree k f [] all = tt
are-mapped tree k f (x ∷ xs) all = (all.0, are-mapped tree k f xs all.1)

All-map : {X : Type 0} (P R : X → Type 0) (xs : List X) → ((x : X) → P x → R x) → AllByRecursion P xs → AllByRecursion R xs
All-map P R [] each all = tt
All-map P R (x ∷ xs) each all = (each x all.0, All-map P R xs each all.1)

All-of : {X Y : Type 0} (P : Y → Type 0) (f : X → Y) (xs : List X) → ((x : X) → P (f x)) → AllByRecursion P (map f xs)
All-of P f [] each = tt
All-of P f (x ∷ xs) each = (each x, All-of P f xs each)

-- where the hop of a stage may stand
abbrev StandsAt : ℕ → ℕ → Hop → Type 0
StandsAt k stages (hop.Root variable) = Unit {0}
StandsAt k stages (hop.Neighbour out edge to) = k + 1 < stages
StandsAt k stages (hop.Edge out edge to) = k + 1 < stages
StandsAt k stages (hop.Inspect variable) = k + 1 < stages
StandsAt k stages hop.Output = k + 1 ≡ stages

further : (k stages : ℕ) (taken : Hop) → StandsAt k stages taken → StandsAt (k + 1) (suc stages) taken
further k stages (hop.Root variable) stands = tt
further k stages (hop.Neighbour out edge to) stands = omega arith
further k stages (hop.Edge out edge to) stands = omega arith
further k stages (hop.Inspect variable) stands = omega arith
further k stages hop.Output stands = omega arith

hop_in : Option Stage → Hop
hop_in None = hop.Output
hop_in (Some s) = s.hop

some-hops : (hops : List Hop) → EndsWithOutput hops → 0 + 1 < suc (length hops)
some-hops [] ends = absurd ends
some-hops (h ∷ hops) ends = omega arith

-- the first stage has the first hop, and the others those after it
first-or-later : (q : Query) (taken : Hop) (hops : List Hop) (w : Walk) (k : ℕ) (stage : Stage) → slice_get (stages_from q w (taken ∷ hops)) k ≡ Some stage
    → StandsAt 0 (suc (length hops)) taken
    → ((k : ℕ) → slice_get (stages_from q (walk_after q w taken) hops) k ≡ Some stage → StandsAt k (length hops) stage.hop)
    → StandsAt k (suc (length hops)) stage.hop
unfolding hop_in
first-or-later q taken hops w zero stage found here behind = subst (StandsAt 0 (suc (length hops))) (ap hop_in found) here
first-or-later q taken hops w (suc k) stage found here behind =
    subst (λ n. StandsAt n (suc (length hops)) stage.hop) (let e : k + 1 ≡ suc k = omega arith in e) (further k (length hops) stage.hop (behind k found))

stands-at : (q : Query) (hops : List Hop) (w : Walk) (k : ℕ) (stage : Stage) → EndsWithOutput hops → slice_get (stages_from q w hops) k ≡ Some stage
    → StandsAt k (length hops) stage.hop
stands-at q [] w k stage ends found = absurd ends
stands-at q (hop.Root v ∷ hops) w k stage ends found = absurd ends
stands-at q (hop.Output ∷ taken ∷ hops) w k stage ends found = absurd ends
stands-at q (hop.Output ∷ []) w k stage ends found =
    first-or-later q hop.Output [] w k stage found (let e : 0 + 1 ≡ suc 0 = omega arith in e) (λ k found. cc)
stands-at q (hop.Neighbour out e y ∷ hops) w k stage ends found =
    first-or-later q (hop.Neighbour out e y) hops w k stage found (some-hops hops ends) (λ k found. stands-at q hops (walk_after q w (hop.Neighbour out e y)) k stage ends found)
stands-at q (hop.Edge out e y ∷ hops) w k stage ends found =
    first-or-later q (hop.Edge out e y) hops w k stage found (some-hops hops ends) (λ k found. stands-at q hops (walk_after q w (hop.Edge out e y)) k stage ends found)
stands-at q (hop.Inspect v ∷ hops) w k stage ends found =
    first-or-later q (hop.Inspect v) hops w k stage found (some-hops hops ends) (λ k found. stands-at q hops (walk_after q w (hop.Inspect v)) k stage ends found)

-- each child of a hop is of the next stage, on a machine that there is
module _ (texts : List (List ℕ)) (g : PropertyGraph) (q : Query) (owners : List ℕ) (machines m : ℕ) (tree : Tree) (k : ℕ)
    (ends : AllByRecursion (EndsIn g.vertices) g.edges) (sizes : length owners ≡ length g.vertices) (count : tree.machines ≡ machines)
    (owned : (n : ℕ) → n < length g.vertices → slice_index owners n < machines) where
  abbrev part : MachinePart
  part = part_with owners machines g m

  entries-there : (out : Bool) (v : ℕ) → AllByRecursion (λ (x : Entry). x.machine < tree.machines) (entries_of owners out g.edges v)
  entries-there out v = All-map (IsEntryOf g owners) (λ (x : Entry). x.machine < tree.machines) (entries_of owners out g.edges v)
      (λ x entry. subst (λ n. x.machine < n) (sym count) (subst (λ n. n < machines) (sym entry.owned) (owned x.other entry.other_in)))
      (entries-all g owners out v ends)

  -- the entries of each list lead to machines that there are
  entries-owned : (out : Bool) (number : ℕ) → AllByRecursion (λ (x : Entry). x.machine < tree.machines) (entries_in out part number)
  entries-owned out number = at_place (place_in part number) where
    all : (b : Bool) → AllByRecursion (AllByRecursion (λ (x : Entry). x.machine < tree.machines)) (lists_of b part)
    all true = All-of (AllByRecursion (λ (x : Entry). x.machine < tree.machines)) (λ (v : ℕ × Vertex). entries_of owners true g.edges v.0) (vertices_of owners m g.vertices)
        (λ v. entries-there true v.0)
    all false = All-of (AllByRecursion (λ (x : Entry). x.machine < tree.machines)) (λ (v : ℕ × Vertex). entries_of owners false g.edges v.0) (vertices_of owners m g.vertices)
        (λ v. entries-there false v.0)

    at_list : (o : Option (List Entry)) (p : ℕ) → slice_get (lists_of out part) p ≡ o → AllByRecursion (λ (x : Entry). x.machine < tree.machines) (option_map_or (λ entries. entries) o [])
    at_list None p found = tt
    at_list (Some list) p found = all-get (AllByRecursion (λ (x : Entry). x.machine < tree.machines)) (lists_of out part) p list (all out) found

    at_place : (o : Option ℕ) → AllByRecursion (λ (x : Entry). x.machine < tree.machines) (option_map_or (λ entries. entries) (option_and_then (slice_get (lists_of out part)) o) [])
    at_place None = tt
    at_place (Some p) = at_list (slice_get (lists_of out part) p) p refl

  is-child : (o : Option (List ℕ)) (machine : ℕ) → k + 1 < tree.stages → machine < tree.machines → IsItem tree k (child_or_pass o machine)
  is-child None machine next there = tt
  is-child (Some words) machine next there = (next, there)

  are-hop : (stage : Stage) (words : List ℕ) (taken : Hop) → StandsAt k tree.stages taken → AreItems tree k (hop_items texts q part stage words taken)
  are-hop stage words (hop.Root v) stands = tt
  are-hop stage words (hop.Neighbour out e y) stands = at_answer (all_told texts q words (others q e stage.passage.reads)) where
    at_answer : (b : Bool) → AreItems tree k (cond b (map (to_neighbour texts q stage.passage e y words) (entries_in out part (slice_index words (1 + stage.current)))) [])
    at_answer true = are-mapped tree k (to_neighbour texts q stage.passage e y words) (entries_in out part (slice_index words (1 + stage.current)))
        (All-map (λ (x : Entry). x.machine < tree.machines) (λ x. IsItem tree k (to_neighbour texts q stage.passage e y words x)) (entries_in out part (slice_index words (1 + stage.current)))
        (λ x there. is-child _ x.machine stands there) (entries-owned out (slice_index words (1 + stage.current))))
    at_answer false = tt
  are-hop stage words (hop.Edge out e y) stands = at_answer (is_vertex part (slice_index words (1 + y)) && all_told texts q words (others q e stage.passage.reads)) where
    one : (x : Entry) → x.machine < tree.machines → (b : Bool) (o : Option (List ℕ)) → IsItem tree k (cond b (child_or_pass o x.machine) Pass)
    one x there true o = is-child o x.machine stands there
    one x there false o = tt

    at_answer : (b : Bool) → AreItems tree k (cond b (map (to_bound texts q stage.passage e y words) (entries_in out part (slice_index words (1 + stage.current)))) [])
    at_answer true = are-mapped tree k (to_bound texts q stage.passage e y words) (entries_in out part (slice_index words (1 + stage.current)))
        (All-map (λ (x : Entry). x.machine < tree.machines) (λ x. IsItem tree k (to_bound texts q stage.passage e y words x)) (entries_in out part (slice_index words (1 + stage.current)))
        (λ x there. one x there _ _) (entries-owned out (slice_index words (1 + stage.current))))
    at_answer false = tt
  are-hop stage words (hop.Inspect v) stands = at_answer (is_vertex part (slice_index words (1 + v))) refl where
    at_answer : (b : Bool) → is_vertex part (slice_index words (1 + v)) ≡ b
        → AreItems tree k (cond b (Below (record { words = words }) (slice_index owners (slice_index words (1 + v))) ∷ []) [])
    at_answer true is = (
      (
        stands,
        subst (λ n. slice_index owners (slice_index words (1 + v)) < n) (sym count)
            (owned (slice_index words (1 + v)) (subst (λ n. slice_index words (1 + v) < n) sizes (ltb-true (slice_index words (1 + v)) (length owners) is))),
      ),
      tt,
    )
    at_answer false is = tt
  are-hop stage words hop.Output stands = (stands, tt)

  are-ahead : (stage : Stage) (words : List ℕ) (place : ℕ) → StandsAt k tree.stages stage.hop → AreItems tree k (ahead texts q part stage words place)
  are-ahead stage words place stands = at_place (place == 0) where
    at_arrived : (o : Option (List ℕ)) → AreItems tree k (items_after (items_of texts q part stage) o)
    at_arrived None = tt
    at_arrived (Some here) = are-hop stage here stage.hop stands

    at_place : (b : Bool) → AreItems tree k (cond b (items_after (items_of texts q part stage) (arrived texts q part stage words)) (drop place (items_of texts q part stage words)))
    at_place true = at_arrived (arrived texts q part stage words)
    at_place false = are-dropped tree k place (items_of texts q part stage words) (are-hop stage words stage.hop stands)

abbrev tree_for : List (List ℕ) → PropertyGraph → Query → Owner → ℕ → Tree
tree_for texts g q o machines = tree_of (over_parts texts g q o machines)

pub plans_make_trees : PlansMakeTrees
plans_make_trees texts g q o machines some is_owner ends formed = record { items = items; rest = rest } where
  count : (tree_for texts g q o machines).machines ≡ machines
  count = length-map-range_with_len (λ m. part_of g o machines m) 0 machines

  stages_are : (plan_of q).stages ≡ stages_from q (rooted q 0) (plans_are_whole q formed).path
  stages_are = ap (stages_of q) (plans_are_whole q formed).begins

  stages_count : (tree_for texts g q o machines).stages ≡ length (plans_are_whole q formed).path
  stages_count = ap length stages_are ∙ length-stages q (rooted q 0) (plans_are_whole q formed).path

  items : (machine stage : ℕ) (context : Context) (place : ℕ) → AreItems (tree_for texts g q o machines) stage ((tree_for texts g q o machines).ahead machine stage context place)
  items machine stage context place = at_part (slice_get (parts_of g o machines) machine) refl (slice_get (plan_of q).stages stage) refl where
    part_low : (p : MachinePart) → slice_get (parts_of g o machines) machine ≡ Some p → machine < machines
    part_low p found = subst (λ n. machine < n) count (get-low (parts_of g o machines) machine p found)

    part_is : (p : MachinePart) → slice_get (parts_of g o machines) machine ≡ Some p → Some p ≡ Some (part_with (owners_in o (length g.vertices) machines) machines g machine)
    part_is p found =
        sym found ∙ get-range (λ m. part_of g o machines m) 0 machines machine (part_low p found)
        ∙ ap (λ k. Some (part_of g o machines k)) (let e : 0 + machine ≡ machine = omega arith in e)

    at_part : (p : Option MachinePart) → slice_get (parts_of g o machines) machine ≡ p → (s : Option Stage) → slice_get (plan_of q).stages stage ≡ s
        → AreItems (tree_for texts g q o machines) stage (taken (λ part here. ahead texts q part here context.words place) [] p s)
    at_part None is_part s is_stage = tt
    at_part (Some p) is_part None is_stage = tt
    at_part (Some p) is_part (Some s) is_stage =
        subst (λ r. AreItems (tree_for texts g q o machines) stage (taken (λ part here. ahead texts q part here context.words place) [] r (Some s))) (sym (part_is p is_part))
        (are-ahead texts g q (owners_in o (length g.vertices) machines) machines machine (tree_for texts g q o machines) stage ends
        (length-map-range_with_len (λ v. machine_of o (length g.vertices) machines v) 0 (length g.vertices)) count
        (λ n below. owned-in o (length g.vertices) machines n some is_owner below) s context.words place
        (subst (λ n. StandsAt stage n s.hop) (sym stages_count)
        (stands-at q (plans_are_whole q formed).path (rooted q 0) stage s (plans_are_whole q formed).ends (sym (ap (λ xs. slice_get xs stage) stages_are) ∙ is_stage))))

  rest : (machine stage : ℕ) (context : Context) (place : ℕ)
      → (tree_for texts g q o machines).ahead machine stage ((tree_for texts g q o machines).context_after machine stage context place) ((tree_for texts g q o machines).place_after machine stage context place) ≡ later ((tree_for texts g q o machines).ahead machine stage context place)
  rest machine stage context place = at_part (slice_get (parts_of g o machines) machine) (slice_get (plan_of q).stages stage) where
    at_part : (p : Option MachinePart) (s : Option Stage)
        → taken (λ part here. ahead texts q part here (taken (λ part here. words_after texts q part here context.words place) context.words p s)
        (taken (λ part here. place_after texts q part here context.words place) place p s)) [] p s
        ≡ later (taken (λ part here. ahead texts q part here context.words place) [] p s)
    at_part None s = refl
    at_part (Some p) None = refl
    at_part (Some p) (Some s) = rest-of texts q p s context.words place
