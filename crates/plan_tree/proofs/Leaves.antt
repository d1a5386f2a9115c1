-- Below a context that tells of an assignment stand the rows that the plan's moves lead to from there.
use Rattle.std.proofs.Common.{◌≡◌, ℕ, zero, suc, ◌+◌, ◌<◌, ◌^◌, ◌%◌, ◌⊎◌, Bool, true, false, cond, ◌&&◌, ◌==◌, eqb, List, [], ◌∷◌, ◌++◌, length, map, get_or, set, Option, Some, None}
use Rattle.std.proofs.Common.{count_by, sum_by, filter, flat_map, refl, sym, ap, ap₂, ◌∙◌, subst, arith, inl, inr, true≢false, append-nil, length-set, get_or-set_same, get_or-set_other}
use Rattle.std.specs.Prelude.{slice_get, slice_index, nat_lt}
use Rattle.std.specs.List.{AllByRecursion, list_all, range_with_len}
use Rattle.std.proofs.lemmas.Bool.{and_parts, cases_eq, eqb-true, lt-ltb}
use Rattle.std.proofs.lemmas.List.{get_or_default}
use Rattle.element_store.specs.Words.{value_from}
use Rattle.graph_tables.specs.Graph.{Edge, EndsIn, PropertyGraph, without_ends}
use Rattle.match_context.specs.Leaves.{leaves_within, rows_of as rows_in}
use Rattle.match_context.specs.Tree.{Below, Item, Leaf, Pass, Tree}
use Rattle.match_context.specs.Words.{captured_in, number_in}
use Rattle.match_context.specs.declared.context.Context.{Context}
use Rattle.partition.specs.Parts.{Entry, MachinePart, entries_of, entry_of, other_end, part_with}
use Rattle.pgql_meaning.specs.Assignments.{ranges_of}
use Rattle.pgql_meaning.specs.Captured.{captured_value, element_of}
use Rattle.pgql_meaning.specs.Shown.{HasShown}
use Rattle.result_collect.specs.Contexts.{StandsFor, kind_of, values_from}
use Rattle.typed_expr.specs.declared.query.Capture.{Capture}
use Rattle.typed_expr.specs.declared.query.Query.{Query}
use Rattle.stage_plan.specs.Laws.{AreNamed, EndsWithOutput}
use Rattle.stage_plan.specs.Moves.{Close, Go, IsBound, IsOrdered, Move, ask_about, go_along, is_edge, moves_from}
use Rattle.stage_plan.specs.Plans.{Course}
use Rattle.stage_plan.specs.Walk.{Walk, arrived as arrived_walk, gains, learned, stage_of, stages_from, walk_after}
use Rattle.stage_plan.specs.declared.hop.Hop.{Hop}
use Rattle.stage_plan.specs.declared.hop.Hop.TheVariants as hop
use Rattle.stage_plan.specs.declared.stage.Stage.{Stage}
use Rattle.plan_tree.specs.Agreeing.{IsWithin}
use Rattle.plan_tree.specs.Answers.{ahead, along, arrived, child_or_pass, edge_in, entries_in, hop_items, items_after, items_of, others, to_bound, to_neighbour}
use Rattle.plan_tree.specs.Laws.{SameCounts}
use Rattle.plan_tree.specs.PlanTree.{PlanOverParts, taken, tree_of}
use Rattle.plan_tree.specs.Rows.{edges_at, rows_of}
use Rattle.plan_tree.specs.Told.{AreTold, with_number}
use Rattle.plan_tree.proofs.Agree.{IsWithin-bind, at, range_at, range_of_free}
use Rattle.plan_tree.proofs.Arrive.{ArrivesHere, Fits, along-edge, arrival, ordered-about}
use Rattle.plan_tree.proofs.Bags.{count_by-flat_map, sum_by-filter, sum_by-same}
use Rattle.plan_tree.proofs.Lead.{Lead, lead-append, lead-items, lead-none, lead-one, lead-same, rows_at}
use Rattle.plan_tree.proofs.PartLaws.{IsEntryOf, entries-all, entries-in, sum_by-entries}
use Rattle.plan_tree.proofs.Tells.{HasRoom, Tells, all_told-known, element-is, others-known, tells-number, uses-known, value-told}

-- numbers of elements fit into 32 bits
pub record HasNumbers (g : PropertyGraph) : Type 0 where
  pub few_vertices : length g.vertices < 2 ^ 32
  pub few_edges : length g.edges < 2 ^ 32

-- where the walk, the assignment and the machine stand together
pub record Stands (g : PropertyGraph) (q : Query) (owners : List ℕ) (w : Walk) (m : ℕ) (c : List ℕ) : Type 0 where
  pub sizes : length c ≡ length q.variables
  pub knowns : length w.known ≡ length q.variables
  pub current_in : at c w.current < length g.vertices
  pub current_own : slice_index owners (at c w.current) ≡ m
  pub arriving : ArrivesHere g q owners m c w.arriving
  pub within : IsWithin (learned w.arriving w.known) c (ranges_of g q.variables)

length-learned : (o : Option ℕ) (known : List Bool) → length (learned o known) ≡ length known
length-learned None known = refl
length-learned (Some v) known = length-set known v true

-- a variable that is free after another was bound was free before, and is another
free-before : (bound : List Bool) (e y : ℕ) → e < length bound → y < length bound → get_or (set bound e true) y true ≡ false
    → (get_or bound y false ≡ false) × (y ≡ e → ⊥)
free-before bound e y below_e below_y free = at_side (cases_eq y e) where
  at_side : (y ≡ e) ⊎ (y ≡ e → ⊥) → (get_or bound y false ≡ false) × (y ≡ e → ⊥)
  at_side (inl same) = absurd (true≢false (sym (get_or-set_same bound e true true below_e) ∙ ap (λ n. get_or (set bound e true) n true) (sym same) ∙ free))
  at_side (inr other) =
      (get_or_default bound y false true below_y ∙ sym (get_or-set_other bound e y true true other) ∙ free, other)

-- a bound number is below its range
bound-within : (bound : List Bool) (c rs : List ℕ) (v : ℕ) → IsWithin bound c rs → IsBound bound v → at c v < get_or rs v 0
bound-within [] [] [] v within is = absurd (true≢false (sym is))
bound-within (b ∷ bound) (n ∷ c) (r ∷ rs) zero within is = within.0 is
bound-within (b ∷ bound) (n ∷ c) (r ∷ rs) (suc v) within is = bound-within bound c rs v within.1 is
bound-within [] [] (r ∷ rs) v within is = absurd within
bound-within [] (n ∷ c) rs v within is = absurd within
bound-within (b ∷ bound) [] rs v within is = absurd within
bound-within (b ∷ bound) (n ∷ c) [] v within is = absurd within

pub bound_in-graph : (g : PropertyGraph) (q : Query) (bound : List Bool) (c : List ℕ) (v : ℕ) → IsWithin bound c (ranges_of g q.variables) → IsBound bound v
    → v < length q.variables → is_edge q v ≡ false → at c v < length g.vertices
bound_in-graph g q bound c v within is there vertex =
    subst (λ r. at c v < r) (range_at g q.variables v there ∙ ap (λ b. cond b (length g.edges) (length g.vertices)) vertex)
    (bound-within bound c (ranges_of g q.variables) v within is)

-- a list's items, counted with those of another that has the same
counted-same : {X Y : Type 0} (f : X → List (List ℕ)) (h : Y → List (List ℕ)) (xs : List X) (ys : List Y)
    → ((t : List ℕ → Bool) → sum_by (λ x. count_by t (f x)) xs ≡ sum_by (λ y. count_by t (h y)) ys) → SameCounts (flat_map f xs) (flat_map h ys)
counted-same f h xs ys same t = count_by-flat_map t f xs ∙ same t ∙ sym (count_by-flat_map t h ys)

All-both : {X : Type 0} (P R : X → Type 0) (xs : List X) → ((x : X) → P x → R x) → AllByRecursion P xs → AllByRecursion R xs
All-both P R [] each all = tt
All-both P R (x ∷ xs) each all = (each x all.0, All-both P R xs each all.1)

module _ (texts : List (List ℕ)) (g : PropertyGraph) (q : Query) (owners : List ℕ) (machines : ℕ) (plan : Course) (parts : List MachinePart)
    (ends : AllByRecursion (EndsIn g.vertices) g.edges) (shown : HasShown texts g) (told : AreTold g q) (room : HasRoom q) (few : HasNumbers g)
    (all : length owners ≡ length g.vertices) (owned : (n : ℕ) → n < length g.vertices → slice_index owners n < machines)
    (parts_are : (m : ℕ) → m < machines → slice_get parts m ≡ Some (part_with owners machines g m))
    (named : (p : ℕ) (x : Capture) → slice_get q.captures p ≡ Some x → x.variable < length q.variables) where
  abbrev pub over : PlanOverParts
  over = record { texts = texts; query = q; plan = plan; parts = parts }

  abbrev pub tree : Tree
  tree = tree_of over

  abbrev part : ℕ → MachinePart
  part m = part_with owners machines g m

  abbrev context : List ℕ → Context
  context words = record { words = words }

  abbrev rows : List Move → List ℕ → List (List ℕ)
  rows ms c = rows_of texts g q ms c

  -- what is ahead at a stage
  ahead-is : (m k : ℕ) (stage : Stage) (words : List ℕ) → m < machines → slice_get plan.stages k ≡ Some stage
      → tree.ahead m k (context words) 0 ≡ items_after (items_of texts q (part m) stage) (arrived texts q (part m) stage words)
  ahead-is m k stage words below is = ap₂ (taken (λ part here. ahead texts q part here words 0) []) (parts_are m below) is

  lead-as : (xs ys : List Context) (ls bs : List (List ℕ)) → xs ≡ ys → ls ≡ bs → Lead g q ys bs → Lead g q xs ls
  lead-as xs ys ls bs same_contexts same_rows here = subst (λ zs. Lead g q zs ls) (sym same_contexts) (subst (Lead g q ys) (sym same_rows) here)

  -- one goes on exactly where one has arrived
  arrive-lead : (below : ℕ → Context → List Context) (items : List ℕ → List Item) (known : List Bool) (c : List ℕ) (result : Option (List ℕ)) (asked rest : List (List ℕ))
      → (fit : Fits g q known c result asked rest) → Lead g q (rows_in below (items fit.words)) rest → Lead g q (rows_in below (items_after items result)) asked
  arrive-lead below items known c result asked rest fit later = at_answer fit.fits fit.result_is fit.rows_are where
    at_answer : (b : Bool) → result ≡ cond b (Some fit.words) None → asked ≡ cond b rest [] → Lead g q (rows_in below (items_after items result)) asked
    at_answer true is rows_are =
        lead-as (rows_in below (items_after items result)) (rows_in below (items fit.words)) asked rest (ap (λ r. rows_in below (items_after items r)) is) rows_are later
    at_answer false is rows_are =
        lead-as (rows_in below (items_after items result)) [] asked [] (ap (λ r. rows_in below (items_after items r)) is) rows_are (lead-none g q)

  -- and goes along an edge exactly where it fits
  along-lead : (below : ℕ → Context → List Context) (machine : ℕ) (known : List Bool) (c : List ℕ) (result : Option (List ℕ)) (asked rest : List (List ℕ))
      → (fit : Fits g q known c result asked rest) → Lead g q (below machine (context fit.words)) rest → Lead g q (rows_at g q below (child_or_pass result machine)) asked
  along-lead below machine known c result asked rest fit later = at_answer fit.fits fit.result_is fit.rows_are where
    at_answer : (b : Bool) → result ≡ cond b (Some fit.words) None → asked ≡ cond b rest [] → Lead g q (rows_at g q below (child_or_pass result machine)) asked
    at_answer true is rows_are =
        lead-as (rows_at g q below (child_or_pass result machine)) (below machine (context fit.words)) asked rest (ap (λ r. rows_at g q below (child_or_pass r machine)) is) rows_are later
    at_answer false is rows_are =
        lead-as (rows_at g q below (child_or_pass result machine)) [] asked [] (ap (λ r. rows_at g q below (child_or_pass r machine)) is) rows_are (lead-none g q)

  -- what is to be shown of the stages after a hop
  abbrev Later : ℕ → Walk → List Hop → Type 0
  Later k w hops = (m : ℕ) (c words : List ℕ) → m < machines → IsOrdered q (learned w.arriving w.known) (moves_from q w hops)
      → Stands g q owners w m c → Tells g q w.known c words
      → Lead g q (leaves_within tree (length hops) (k + 1) m (context words)) (rows (moves_from q w hops) c)

  neighbour : (out : Bool) (e y : ℕ) (hops : List Hop) (w : Walk) (k m : ℕ) (c here : List ℕ) → m < machines
      → IsOrdered q (arrived_walk q w).known (Go out w.current e y ∷ ask_about q (arrived_walk q w) (Some e) (moves_from q (walk_after q w (hop.Neighbour out e y)) hops))
      → w.current < length q.variables → Stands g q owners w m c → Tells g q (arrived_walk q w).known c here → Later k (walk_after q w (hop.Neighbour out e y)) hops
      → Lead g q (rows_in (leaves_within tree (length hops) (k + 1)) (hop_items texts q (part m) (stage_of q w (hop.Neighbour out e y)) here (hop.Neighbour out e y)))
      (rows (Go out w.current e y ∷ ask_about q (arrived_walk q w) (Some e) (moves_from q (walk_after q w (hop.Neighbour out e y)) hops)) c)
  neighbour out e y hops w k m c here below ordered current stands tells later =
      let w1 = arrived_walk q w in
      let next = walk_after q w (hop.Neighbour out e y) in
      let ms = moves_from q next hops in
      let gained = gains q w1 (Some e) in
      let reads = others q e gained.reads in
      let at_current : get_or here (1 + w.current) 0 ≡ at c w.current = tells.numbers w.current current in
      let item : Entry → Item = to_neighbour texts q gained e y here in
      let below_here = leaves_within tree (length hops) (k + 1) in
      let behind : List ℕ → List (List ℕ) = λ numbers. rows (ask_about q w1 (Some e) ms) numbers in
      let child : ℕ → ℕ → List ℕ = λ edge other. set (set c e edge) y other in
      let found = entries_of owners out g.edges (at c w.current) in
      let free_e = ordered.0.1.0 in
      let free_y = ordered.0.1.1 in
      let sizes : length w1.known ≡ length q.variables = length-learned w.arriving w.known ∙ stands.knowns in
      let low_e : e < length q.variables = subst (λ n. e < n) sizes free_e.is_there in
      let low_y : y < length w1.known = subst (λ n. y < n) (length-set w1.known e true) free_y.is_there in
      let apart = free-before w1.known e y free_e.is_there low_y free_y.not_bound in
      let unknown_e : get_or w1.known e false ≡ false = get_or_default w1.known e false true free_e.is_there ∙ free_e.not_bound in
      let next_ordered : IsOrdered q (learned next.arriving next.known) ms = ordered-about q (learned next.arriving next.known) w1 (Some e) ms ordered.1 in
      lead-as
      (rows_in below_here (hop_items texts q (part m) (stage_of q w (hop.Neighbour out e y)) here (hop.Neighbour out e y)))
      (rows_in below_here (map item found))
      (flat_map (λ (n : ℕ × Edge). behind (child n.0 (other_end out n.1))) (edges_at g out (at c w.current)))
      (flat_map (λ (n : ℕ × Edge). behind (child n.0 (other_end out n.1))) (edges_at g out (at c w.current)))
      (ap₂ (λ b es. rows_in below_here (cond b (map item es) []))
      (all_told-known texts g q w1.known c here reads told shown tells (others-known q w1.known e gained.reads (uses-known q (set w1.known e true) w1.waiting)))
      (ap (entries_in out (part m)) at_current ∙ entries-in g owners machines m (at c w.current) stands.current_in all stands.current_own out))
      refl
      (lead-same g q (rows_in below_here (map item found)) (flat_map (λ (x : Entry). behind (child x.edge x.other)) found)
      (flat_map (λ (n : ℕ × Edge). behind (child n.0 (other_end out n.1))) (edges_at g out (at c w.current)))
      (counted-same (λ (x : Entry). behind (child x.edge x.other)) (λ (n : ℕ × Edge). behind (child n.0 (other_end out n.1))) found (edges_at g out (at c w.current))
      (λ t. sum_by-entries g owners out (at c w.current) (λ x. count_by t (behind (child x.edge x.other)))))
      (lead-items g q below_here item (λ (x : Entry). behind (child x.edge x.other)) found
      (All-both (IsEntryOf g owners) (λ x. Lead g q (rows_at g q below_here (item x)) (behind (child x.edge x.other))) found
      (λ x entry.
      let numbers = child x.edge x.other in
      let tells_e = tells-number g q w1.known c here e x.edge room tells stands.sizes low_e unknown_e in
      let tells_y = tells-number g q w1.known (set c e x.edge) (with_number e x.edge here) y x.other room tells_e (length-set c e x.edge ∙ stands.sizes)
      (subst (λ n. y < n) sizes low_y) apart.0 in
      let size : length numbers ≡ length q.variables = length-set (set c e x.edge) y x.other ∙ length-set c e x.edge ∙ stands.sizes in
      let at_e : at numbers e ≡ x.edge =
      get_or-set_other (set c e x.edge) y e x.other 0 (λ same. apart.1 (sym same))
      ∙ get_or-set_same c e x.edge 0 (subst (λ n. e < n) (sym stands.sizes) low_e) in
      let at_y : at numbers y ≡ x.other =
      get_or-set_same (set c e x.edge) y x.other 0 (subst (λ n. y < n) (sizes ∙ sym stands.sizes ∙ sym (length-set c e x.edge)) low_y) in
      let element : element_of g q numbers e ≡ Some (edge_in x) =
      element-is g q numbers e low_e size
      ∙ ap₂ (λ b n. cond b (slice_get (without_ends g.edges) n) (slice_get g.vertices (at numbers e))) free_e.kind at_e ∙ entry.element in
      let fit = along-edge texts g q told shown room w1 e (edge_in x) numbers (with_number y x.other (with_number e x.edge here)) ms tells_y low_e sizes element in
      let in_graph : at numbers y < length g.vertices = subst (λ n. n < length g.vertices) (sym at_y) entry.other_in in
      let own : slice_index owners (at numbers y) ≡ x.machine = ap (slice_index owners) at_y ∙ sym entry.owned in
      let within_e = IsWithin-bind w1.known c (ranges_of g q.variables) e x.edge stands.within
      (subst (λ r. x.edge < r) (sym (range_of_free g q w1.known c true e stands.within free_e)) entry.edge_in) in
      let there : Stands g q owners next x.machine numbers = record {
        sizes = size;
        knowns = length-set w1.known e true ∙ sizes;
        current_in = in_graph;
        current_own = own;
        arriving = record { is_there = subst (λ n. y < n) sizes low_y; is_vertex = free_y.kind; in_graph = in_graph; own = own };
        within = IsWithin-bind (set w1.known e true) (set c e x.edge) (ranges_of g q.variables) y x.other within_e
            (subst (λ r. x.other < r) (sym (range_of_free g q (set w1.known e true) (set c e x.edge) false y within_e free_y)) entry.other_in);
      } in
      along-lead below_here x.machine (set w1.known e true) numbers
      (along texts q gained e (edge_in x) (with_number y x.other (with_number e x.edge here))) (behind numbers) (rows ms numbers) fit
      (later x.machine numbers fit.words (subst (λ n. n < machines) (sym entry.owned) (owned x.other entry.other_in)) next_ordered there fit.tells))
      (entries-all g owners out (at c w.current) ends))))

  bound : (out : Bool) (e y : ℕ) (hops : List Hop) (w : Walk) (k m : ℕ) (c here : List ℕ) → m < machines
      → IsOrdered q (arrived_walk q w).known (Close out w.current e y ∷ ask_about q (arrived_walk q w) (Some e) (moves_from q (walk_after q w (hop.Edge out e y)) hops))
      → w.current < length q.variables → y < length q.variables → is_edge q y ≡ false
      → Stands g q owners w m c → Tells g q (arrived_walk q w).known c here → Later k (walk_after q w (hop.Edge out e y)) hops
      → Lead g q (rows_in (leaves_within tree (length hops) (k + 1)) (hop_items texts q (part m) (stage_of q w (hop.Edge out e y)) here (hop.Edge out e y)))
      (rows (Close out w.current e y ∷ ask_about q (arrived_walk q w) (Some e) (moves_from q (walk_after q w (hop.Edge out e y)) hops)) c)
  bound out e y hops w k m c here below ordered current there_y vertex_y stands tells later =
      let w1 = arrived_walk q w in
      let next = walk_after q w (hop.Edge out e y) in
      let ms = moves_from q next hops in
      let gained = gains q w1 (Some e) in
      let reads = others q e gained.reads in
      let at_current : get_or here (1 + w.current) 0 ≡ at c w.current = tells.numbers w.current current in
      let at_bound : get_or here (1 + y) 0 ≡ at c y = tells.numbers y there_y in
      let item : Entry → Item = to_bound texts q gained e y here in
      let below_here = leaves_within tree (length hops) (k + 1) in
      let behind : List ℕ → List (List ℕ) = λ numbers. rows (ask_about q w1 (Some e) ms) numbers in
      let child : ℕ → List ℕ = λ edge. set c e edge in
      let found = entries_of owners out g.edges (at c w.current) in
      let along_it : Entry → List (List ℕ) = λ x. cond (eqb x.other (at c y)) (behind (child x.edge)) [] in
      let free_e = ordered.0.1.0 in
      let bound_y = ordered.0.1.1 in
      let sizes : length w1.known ≡ length q.variables = length-learned w.arriving w.known ∙ stands.knowns in
      let low_e : e < length q.variables = subst (λ n. e < n) sizes free_e.is_there in
      let unknown_e : get_or w1.known e false ≡ false = get_or_default w1.known e false true free_e.is_there ∙ free_e.not_bound in
      let apart : y ≡ e → ⊥ = λ same. true≢false (sym bound_y ∙ ap (λ n. get_or w1.known n false) same ∙ unknown_e) in
      let y_in : at c y < length g.vertices = bound_in-graph g q w1.known c y stands.within bound_y there_y vertex_y in
      let next_ordered : IsOrdered q (learned next.arriving next.known) ms = ordered-about q (learned next.arriving next.known) w1 (Some e) ms ordered.1 in
      lead-as
      (rows_in below_here (hop_items texts q (part m) (stage_of q w (hop.Edge out e y)) here (hop.Edge out e y)))
      (rows_in below_here (map item found))
      (flat_map (λ (n : ℕ × Edge). behind (child n.0)) (filter (λ n. other_end out n.1 == at c y) (edges_at g out (at c w.current))))
      (flat_map (λ (n : ℕ × Edge). behind (child n.0)) (filter (λ n. other_end out n.1 == at c y) (edges_at g out (at c w.current))))
      (ap₂ (λ b es. rows_in below_here (cond b (map item es) []))
      (ap₂ (λ a b. a && b)
      (ap (λ n. nat_lt n (length owners)) at_bound ∙ lt-ltb (at c y) (length owners) (subst (λ n. at c y < n) (sym all) y_in))
      (all_told-known texts g q w1.known c here reads told shown tells (others-known q w1.known e gained.reads (uses-known q (set w1.known e true) w1.waiting))))
      (ap (entries_in out (part m)) at_current ∙ entries-in g owners machines m (at c w.current) stands.current_in all stands.current_own out))
      refl
      (lead-same g q (rows_in below_here (map item found)) (flat_map along_it found)
      (flat_map (λ (n : ℕ × Edge). behind (child n.0)) (filter (λ n. other_end out n.1 == at c y) (edges_at g out (at c w.current))))
      (counted-same along_it (λ (n : ℕ × Edge). behind (child n.0)) found (filter (λ n. other_end out n.1 == at c y) (edges_at g out (at c w.current)))
      (λ t. sum_by-entries g owners out (at c w.current) (λ x. count_by t (along_it x))
      ∙ sum_by-same (λ (n : ℕ × Edge). count_by t (along_it (entry_of owners out n))) (λ n. cond (other_end out n.1 == at c y) (count_by t (behind (child n.0))) 0)
      (edges_at g out (at c w.current)) (λ n. counted t (other_end out n.1 == at c y) (behind (child n.0)))
      ∙ sym (sum_by-filter (λ (n : ℕ × Edge). count_by t (behind (child n.0))) (λ n. other_end out n.1 == at c y) (edges_at g out (at c w.current)))))
      (lead-items g q below_here item along_it found
      (All-both (IsEntryOf g owners) (λ x. Lead g q (rows_at g q below_here (item x)) (along_it x)) found
      (λ x entry.
      let numbers = child x.edge in
      let tells_e = tells-number g q w1.known c here e x.edge room tells stands.sizes low_e unknown_e in
      let size : length numbers ≡ length q.variables = length-set c e x.edge ∙ stands.sizes in
      let at_e : at numbers e ≡ x.edge = get_or-set_same c e x.edge 0 (subst (λ n. e < n) (sym stands.sizes) low_e) in
      let element : element_of g q numbers e ≡ Some (edge_in x) =
      element-is g q numbers e low_e size
      ∙ ap₂ (λ b n. cond b (slice_get (without_ends g.edges) n) (slice_get g.vertices (at numbers e))) free_e.kind at_e ∙ entry.element in
      let fit = along-edge texts g q told shown room w1 e (edge_in x) numbers (with_number e x.edge here) ms tells_e low_e sizes element in
      where_other (eqb x.other (at c y)) (eqb x.other (get_or here (1 + y) 0)) (ap (eqb x.other) (sym at_bound)) below_here
      (child_or_pass (along texts q gained e (edge_in x) (with_number e x.edge here)) x.machine) (behind numbers)
      (λ is.
      let at_y : at numbers y ≡ x.other = get_or-set_other c e y x.edge 0 apart ∙ sym (eqb-true x.other (at c y) is) in
      let there : Stands g q owners next x.machine numbers = record {
        sizes = size;
        knowns = length-set w1.known e true ∙ sizes;
        current_in = subst (λ n. n < length g.vertices) (sym at_y) entry.other_in;
        current_own = ap (slice_index owners) at_y ∙ sym entry.owned;
        arriving = tt;
        within = IsWithin-bind w1.known c (ranges_of g q.variables) e x.edge stands.within
            (subst (λ r. x.edge < r) (sym (range_of_free g q w1.known c true e stands.within free_e)) entry.edge_in);
      } in
      along-lead below_here x.machine (set w1.known e true) numbers
      (along texts q gained e (edge_in x) (with_number e x.edge here)) (behind numbers) (rows ms numbers) fit
      (later x.machine numbers fit.words (subst (λ n. n < machines) (sym entry.owned) (owned x.other entry.other_in)) next_ordered there fit.tells)))
      (entries-all g owners out (at c w.current) ends))))
    where
      counted : (t : List ℕ → Bool) (b : Bool) (xs : List (List ℕ)) → count_by t (cond b xs []) ≡ cond b (count_by t xs) 0
      counted t true xs = refl
      counted t false xs = refl

      where_other : (b d : Bool) → b ≡ d → (below : ℕ → Context → List Context) (item : Item) (behind : List (List ℕ))
          → (b ≡ true → Lead g q (rows_at g q below item) behind) → Lead g q (rows_at g q below (cond d item Pass)) (cond b behind [])
      where_other true true same below item behind lead = lead refl
      where_other false false same below item behind lead = lead-none g q
      where_other true false same below item behind lead = absurd (true≢false same)
      where_other false true same below item behind lead = absurd (true≢false (sym same))

  inspect : (v : ℕ) (hops : List Hop) (w : Walk) (k m : ℕ) (c here : List ℕ) → m < machines
      → IsOrdered q (arrived_walk q w).known (moves_from q (walk_after q w (hop.Inspect v)) hops)
      → v < length q.variables → is_edge q v ≡ false → IsBound (arrived_walk q w).known v
      → Stands g q owners w m c → Tells g q (arrived_walk q w).known c here → Later k (walk_after q w (hop.Inspect v)) hops
      → Lead g q (rows_in (leaves_within tree (length hops) (k + 1)) (hop_items texts q (part m) (stage_of q w (hop.Inspect v)) here (hop.Inspect v)))
      (rows (moves_from q (walk_after q w (hop.Inspect v)) hops) c)
  inspect v hops w k m c here below ordered there vertex is_bound stands tells later =
      let w1 = arrived_walk q w in
      let next = walk_after q w (hop.Inspect v) in
      let ms = moves_from q next hops in
      let below_here = leaves_within tree (length hops) (k + 1) in
      let at_v : get_or here (1 + v) 0 ≡ at c v = tells.numbers v there in
      let v_in : at c v < length g.vertices = bound_in-graph g q w1.known c v stands.within is_bound there vertex in
      let machine = slice_index owners (at c v) in
      let stands_next : Stands g q owners next machine c = record {
        sizes = stands.sizes;
        knowns = length-learned w.arriving w.known ∙ stands.knowns;
        current_in = v_in;
        current_own = refl;
        arriving = tt;
        within = stands.within;
      } in
      lead-as
      (rows_in below_here (hop_items texts q (part m) (stage_of q w (hop.Inspect v)) here (hop.Inspect v)))
      (below_here machine (context here) ++ []) (rows ms c) (rows ms c ++ [])
      (ap₂ (λ b n. rows_in below_here (cond b (Below (context here) (slice_index owners n) ∷ []) []))
      (ap (λ n. nat_lt n (length owners)) at_v ∙ lt-ltb (at c v) (length owners) (subst (λ n. at c v < n) (sym all) v_in)) at_v)
      (sym (append-nil (rows ms c)))
      (lead-append g q (below_here machine (context here)) [] (rows ms c) []
      (later machine c here (owned (at c v) v_in) ordered stands_next tells) (lead-none g q))

  -- a row stands for the assignment of which it tells
  stands-for : (known : List Bool) (c words : List ℕ) → length c ≡ length q.variables → length known ≡ length q.variables
      → list_all (λ b. b) known ≡ true → IsWithin known c (ranges_of g q.variables) → Tells g q known c words → StandsFor g q (context words) c
  stands-for known c words sizes knowns all_known within tells = record {
    numbers = numbers-are c 0 (length q.variables) sizes (λ v low.
        ap (number_in words) (let same : 0 + v ≡ v = omega arith in same) ∙ ap (λ n. n % 2 ^ 32) (tells.numbers v low) ∙ small (at c v) (low_at v low));
    values = values-are q.captures 0 (λ p x found. (let same : 0 + p ≡ p = omega arith in
        ap (λ j. value_from (kind_of x.what) (captured_in words (length q.variables) j)) same
        ∙ ap (value_from (kind_of x.what)) (tells.captures p x found (is_known x.variable (known_low p x found)))
        ∙ value-told g q c p x told found));
  } where
    is_known : (v : ℕ) → v < length known → get_or known v false ≡ true
    is_known v low = go known v low all_known where
      go : (known : List Bool) (v : ℕ) → v < length known → list_all (λ b. b) known ≡ true → get_or known v false ≡ true
      go [] v low each = absurd (omega arith)
      go (b ∷ bs) zero low each = (and_parts b (list_all (λ b. b) bs) each).0
      go (b ∷ bs) (suc v) low each = go bs v (omega arith) (and_parts b (list_all (λ b. b) bs) each).1

    known_low : (p : ℕ) (x : Capture) → slice_get q.captures p ≡ Some x → x.variable < length known
    known_low p x found = subst (λ n. x.variable < n) (sym knowns) (named p x found)

    low_at : (v : ℕ) → v < length q.variables → at c v < 2 ^ 32
    low_at v low = at_kind (is_edge q v) refl (bound-within known c (ranges_of g q.variables) v within (is_known v (subst (λ n. v < n) (sym knowns) low))) where
      at_kind : (b : Bool) → is_edge q v ≡ b → at c v < get_or (ranges_of g q.variables) v 0 → at c v < 2 ^ 32
      at_kind true is below =
          let range = range_at g q.variables v low ∙ ap (λ b. cond b (length g.edges) (length g.vertices)) is in
          let most = few.few_edges in omega arith
      at_kind false is below =
          let range = range_at g q.variables v low ∙ ap (λ b. cond b (length g.edges) (length g.vertices)) is in
          let most = few.few_vertices in omega arith

    small : (n : ℕ) → n < 2 ^ 32 → n % 2 ^ 32 ≡ n
    small n low = omega arith

    numbers-are : (c : List ℕ) (k n : ℕ) → length c ≡ n → ((v : ℕ) → v < n → number_in words (k + v) ≡ at c v) → map (number_in words) (range_with_len k n) ≡ c
    numbers-are [] k zero size each = refl
    numbers-are (x ∷ c) k (suc n) size each =
        ap₂ (λ y ys. y ∷ ys) (ap (number_in words) (let e : k ≡ k + 0 = omega arith in e) ∙ each 0 (omega arith))
        (numbers-are c (k + 1) n (omega arith) (λ v low. ap (number_in words) (let e : k + 1 + v ≡ k + suc v = omega arith in e) ∙ each (suc v) (omega arith)))
    numbers-are [] k (suc n) size each = absurd (omega arith)
    numbers-are (x ∷ c) k zero size each = absurd (omega arith)

    values-are : (cs : List Capture) (k : ℕ)
        → ((p : ℕ) (x : Capture) → slice_get cs p ≡ Some x → value_from (kind_of x.what) (captured_in words (length q.variables) (k + p)) ≡ captured_value g q c x)
        → values_from words (length q.variables) k cs ≡ map (captured_value g q c) cs
    values-are [] k each = refl
    values-are (x ∷ cs) k each =
        ap₂ (λ y ys. y ∷ ys) (ap (λ j. value_from (kind_of x.what) (captured_in words (length q.variables) j)) (let e : k ≡ k + 0 = omega arith in e) ∙ each 0 x refl)
        (values-are cs (k + 1) (λ p y found. ap (λ j. value_from (kind_of y.what) (captured_in words (length q.variables) j)) (let e : k + 1 + p ≡ k + suc p = omega arith in e) ∙ each (suc p) y found))

  output : (w : Walk) (c here : List ℕ) (below : ℕ → Context → List Context) → IsOrdered q (arrived_walk q w).known [] → (m : ℕ) → Stands g q owners w m c
      → Tells g q (arrived_walk q w).known c here → Lead g q (rows_in below (Leaf (context here) ∷ [])) (rows [] c)
  output w c here below ordered m stands tells =
      lead-one g q (context here) c
      (stands-for (arrived_walk q w).known c here stands.sizes (length-learned w.arriving w.known ∙ stands.knowns) ordered stands.within tells)

  -- where a context has arrived, one hop leads on
  at_hop : (taken : Hop) (hops : List Hop) (w : Walk) (k m : ℕ) (c words : List ℕ)
      → slice_get plan.stages (k + 0) ≡ Some (stage_of q w taken) → m < machines → Stands g q owners w m c → Tells g q w.known c words
      → ((here : List ℕ) → Tells g q (arrived_walk q w).known c here
      → Lead g q (rows_in (leaves_within tree (length hops) (k + 1)) (hop_items texts q (part m) (stage_of q w taken) here taken))
      (rows (go_along q (arrived_walk q w) taken (moves_from q (walk_after q w taken) hops)) c))
      → Lead g q (leaves_within tree (suc (length hops)) k m (context words)) (rows (moves_from q w (taken ∷ hops)) c)
  at_hop taken hops w k m c words is below stands tells here =
      let ms = go_along q (arrived_walk q w) taken (moves_from q (walk_after q w taken) hops) in
      let below_here = leaves_within tree (length hops) (k + 1) in
      let fit = arrival texts g q told shown room owners machines m w w.arriving c words ms all tells stands.sizes stands.knowns stands.arriving in
      let stage = stage_of q w taken in
      lead-as (rows_in below_here (tree.ahead m k (context words) 0)) (rows_in below_here (items_after (items_of texts q (part m) stage) (arrived texts q (part m) stage words)))
      (rows (moves_from q w (taken ∷ hops)) c) (rows (moves_from q w (taken ∷ hops)) c)
      (ap (rows_in below_here) (ahead-is m k stage words below (ap (slice_get plan.stages) (let e : k ≡ k + 0 = omega arith in e) ∙ is))) refl
      (arrive-lead below_here (items_of texts q (part m) stage) (learned w.arriving w.known) c (arrived texts q (part m) stage words)
      (rows (moves_from q w (taken ∷ hops)) c) (rows ms c) fit (here fit.words fit.tells))

  next_stages : (k : ℕ) (taken : Hop) (hops : List Hop) (w : Walk) → ((j : ℕ) → slice_get plan.stages (k + j) ≡ slice_get (stages_from q w (taken ∷ hops)) j)
      → (j : ℕ) → slice_get plan.stages (k + 1 + j) ≡ slice_get (stages_from q (walk_after q w taken) hops) j
  next_stages k taken hops w stages j = ap (slice_get plan.stages) (let e : k + 1 + j ≡ k + suc j = omega arith in e) ∙ stages (suc j)

  -- the rows below a context are those that the moves lead to
  pub lead : (hops : List Hop) (w : Walk) (k m : ℕ) (c words : List ℕ)
      → ((j : ℕ) → slice_get plan.stages (k + j) ≡ slice_get (stages_from q w hops) j) → EndsWithOutput hops → AreNamed q w hops → m < machines
      → IsOrdered q (learned w.arriving w.known) (moves_from q w hops) → Stands g q owners w m c → Tells g q w.known c words
      → Lead g q (leaves_within tree (length hops) k m (context words)) (rows (moves_from q w hops) c)
  lead [] w k m c words stages ends_well names below ordered stands tells = absurd ends_well
  lead (hop.Root v ∷ hops) w k m c words stages ends_well names below ordered stands tells = absurd ends_well
  lead (hop.Neighbour out e y ∷ hops) w k m c words stages ends_well names below ordered stands tells =
      at_hop (hop.Neighbour out e y) hops w k m c words (stages 0) below stands tells
      (λ here tells_here. neighbour out e y hops w k m c here below
      (ordered-about q (arrived_walk q w).known w w.arriving (go_along q (arrived_walk q w) (hop.Neighbour out e y) (moves_from q (walk_after q w (hop.Neighbour out e y)) hops)) ordered)
      names.0.1.0 stands tells_here
      (λ m c words below ordered stands tells. lead hops (walk_after q w (hop.Neighbour out e y)) (k + 1) m c words (next_stages k (hop.Neighbour out e y) hops w stages) ends_well names.1 below ordered stands tells))
  lead (hop.Edge out e y ∷ hops) w k m c words stages ends_well names below ordered stands tells =
      at_hop (hop.Edge out e y) hops w k m c words (stages 0) below stands tells
      (λ here tells_here. bound out e y hops w k m c here below
      (ordered-about q (arrived_walk q w).known w w.arriving (go_along q (arrived_walk q w) (hop.Edge out e y) (moves_from q (walk_after q w (hop.Edge out e y)) hops)) ordered)
      names.0.1.0 names.0.1.1.1.0 names.0.1.1.1.1 stands tells_here
      (λ m c words below ordered stands tells. lead hops (walk_after q w (hop.Edge out e y)) (k + 1) m c words (next_stages k (hop.Edge out e y) hops w stages) ends_well names.1 below ordered stands tells))
  lead (hop.Inspect v ∷ hops) w k m c words stages ends_well names below ordered stands tells =
      at_hop (hop.Inspect v) hops w k m c words (stages 0) below stands tells
      (λ here tells_here. inspect v hops w k m c here below
      (ordered-about q (arrived_walk q w).known w w.arriving (go_along q (arrived_walk q w) (hop.Inspect v) (moves_from q (walk_after q w (hop.Inspect v)) hops)) ordered)
      names.0.1.1.0.0 names.0.1.1.0.1 names.0.1.1.1 stands tells_here
      (λ m c words below ordered stands tells. lead hops (walk_after q w (hop.Inspect v)) (k + 1) m c words (next_stages k (hop.Inspect v) hops w stages) ends_well names.1 below ordered stands tells))
  lead (hop.Output ∷ taken ∷ hops) w k m c words stages ends_well names below ordered stands tells = absurd ends_well
  lead (hop.Output ∷ []) w k m c words stages ends_well names below ordered stands tells =
      at_hop hop.Output [] w k m c words (stages 0) below stands tells
      (λ here tells_here. output w c here (leaves_within tree 0 (k + 1)) (ordered-about q (arrived_walk q w).known w w.arriving [] ordered) m stands tells_here)
