-- What is taken of a frame in one go is what `next` would give, place by place.
use Rattle.std.proofs.Common.{◌≡◌, ℕ, zero, suc, ◌+◌, ◌-◌, ◌<◌, ◌≤◌, Bool, true, false, cond, ◌==◌, ◌&&◌, List, [], ◌∷◌, length, get_or, drop, map, Option, Some, None, refl, sym, ap, ap₂, subst, ◌∙◌, arith}
use Rattle.std.specs.Prelude.{◌⊎◌, slice_get, slice_index, unwrap_or}
use Rattle.std.proofs.Common.{inl, inr}
use Rattle.std.proofs.lemmas.Bool.{cases_lt, ne_eqb}
use Rattle.std.proofs.Math.Bool.{and-false, and-true}
use Rattle.std.specs.Option.{option_and_then, option_map}
use Rattle.match_context.specs.Passes.{Passes, found_of, with_child}
use Rattle.match_context.specs.Tree.{Below, Item, Leaf, Pass, after, answer}
use Rattle.match_context.specs.declared.context.Context.{Context}
use Rattle.match_context.specs.declared.expand.Found.{Found}
use Rattle.match_context.specs.declared.expand.Found.TheVariants as found
use Rattle.match_context.specs.declared.expand.Next.{Next}
use Rattle.match_context.specs.declared.expand.Next.TheVariants.{Child, Skip, End}
use Rattle.match_context.specs.declared.frame.Frame.{Frame}
use Rattle.partition.specs.Parts.{Entry, MachinePart, link_of_entry, entry_at, lists_of}
use Rattle.partition.specs.declared.link.Link.{Link}
use Rattle.pgql_meaning.specs.Fits.{has_labels, is_in_lists}
use Rattle.typed_expr.specs.declared.query.Query.{Query}
use Rattle.value_text.specs.Texts.{text_at}
use Rattle.stage_plan.specs.Walk.{captures_of}
use Rattle.stage_plan.specs.declared.hop.Hop.TheVariants as hop
use Rattle.stage_plan.specs.declared.stage.Gains.{Gains}
use Rattle.stage_plan.specs.declared.stage.Stage.{Stage}
use Rattle.plan_tree.specs.Answers.{ahead, all_hold, arrived, edge_in, entries_in, if_any, is_vertex, items_after, items_of, labels_of, others, place_after, place_in, to_bound, to_neighbour, words_after, words_or}
use Rattle.plan_tree.specs.PlanTree.{PlanOverParts, taken, tree_of}
use Rattle.plan_tree.specs.Told.{all_told, written}
use Rattle.hop_kernels.specs.Entries.{after_answer, answer_along}
use Rattle.hop_kernels.specs.Fitting.{GainsFit, HasRoom, IsThere}
use Rattle.hop_kernels.specs.LabelTests.{is_labelled}
use Rattle.hop_kernels.specs.Seeks.{GoesAlong, IsFirstSought, IsSought, answer_by, child_words, ends_at, is_end, kept_context, leads}
use Rattle.hop_kernels.specs.Spots.{entry_in, no_entry}
use Rattle.hop_kernels.proofs.EntryLists.{answer_at, bound-ahead, bound-at, entries-found, entry-is, if_any-answer, neighbour-ahead}
use Rattle.hop_kernels.proofs.SeenWords.{along-is}

-- ---- entries

-- whether a child comes of an entry, by what is read of it
pub leads-of : (texts : List (List ℕ)) (q : Query) (gains : Gains) (edge : ℕ) (end : Option ℕ) (words : List ℕ) (e : Entry) (link : Link) (a b c : Bool) → link_of_entry e ≡ link
    → ends_at end link.other ≡ a → is_in_lists (text_at texts link.label) (labels_of q edge) ≡ b
    → all_hold texts q (written q (edge_in e) (captures_of q edge) words) gains.conjuncts ≡ c
    → leads texts q gains edge end words e ≡ (a && (b && c))
leads-of texts q gains edge end words e link a b c is ends labelled hold =
    ap₂ (λ x y. x && (y && all_hold texts q (written q (edge_in e) (captures_of q edge) words) gains.conjuncts))
    (ap (λ (l : Link). ends_at end l.other) is ∙ ends) (ap (λ (l : Link). is_in_lists (text_at texts l.label) (labels_of q edge)) is ∙ labelled)
    ∙ ap (λ z. a && (b && z)) hold

-- an entry of a list by its place
pub link-at : (out : Bool) (part : MachinePart) (place i : ℕ) (links : List Link) (d : Link) → option_map (map link_of_entry) (slice_get (lists_of out part) place) ≡ Some links → i < length links
    → option_map link_of_entry (entry_at out part place i) ≡ Some (get_or links i d)
link-at out part place i links d is below = at_list (slice_get (lists_of out part) place) is where
  at_entries : (es : List Entry) (k : ℕ) → k < length (map link_of_entry es) → option_map link_of_entry (slice_get es k) ≡ Some (get_or (map link_of_entry es) k d)
  at_entries [] k less = absurd (omega arith)
  at_entries (e ∷ es) zero less = refl
  at_entries (e ∷ es) (suc k) less = at_entries es k (omega arith)

  at_list : (o : Option (List Entry)) → option_map (map link_of_entry) o ≡ Some links → option_map link_of_entry (option_and_then (λ (list : List Entry). slice_get list i) o) ≡ Some (get_or links i d)
  at_list None e = cc e
  at_list (Some es) e =
      let same : map link_of_entry es ≡ links = cc e in
      at_entries es i (subst (λ (ls : List Link). i < length ls) (sym same) below) ∙ ap (λ (ls : List Link). Some (get_or ls i d)) same

-- no entry past the end
pub link-past : (out : Bool) (part : MachinePart) (place i : ℕ) (links : List Link) → option_map (map link_of_entry) (slice_get (lists_of out part) place) ≡ Some links → length links ≤ i
    → entry_at out part place i ≡ None
link-past out part place i links is past = at_list (slice_get (lists_of out part) place) is where
  at_entries : (es : List Entry) (k : ℕ) → length (map link_of_entry es) ≤ k → slice_get es k ≡ None
  at_entries [] k less = refl
  at_entries (e ∷ es) zero less = absurd (omega arith)
  at_entries (e ∷ es) (suc k) less = at_entries es k (omega arith)

  at_list : (o : Option (List Entry)) → option_map (map link_of_entry) o ≡ Some links → option_and_then (λ (list : List Entry). slice_get list i) o ≡ None
  at_list None e = refl
  at_list (Some es) e =
      let same : map link_of_entry es ≡ links = cc e in
      at_entries es i (subst (λ (ls : List Link). length ls ≤ i) (sym same) past)

-- no child comes of an entry whose other end isn't the bound one
pub other-end : (texts : List (List ℕ)) (q : Query) (gains : Gains) (edge end : ℕ) (words : List ℕ) (out : Bool) (part : MachinePart) (place i : ℕ) (links : List Link) (d : Link)
    → option_map (map link_of_entry) (slice_get (lists_of out part) place) ≡ Some links → i < length links → ((get_or links i d).other ≡ end → ⊥)
    → leads texts q gains edge (Some end) words (entry_in out part place i) ≡ false
other-end texts q gains edge end words out part place i links d is below differs =
    leads-of texts q gains edge (Some end) words (entry_in out part place i) (get_or links i d) false _ _ (entry-is (entry_at out part place i) (get_or links i d) (link-at out part place i links d is below))
    (ne_eqb (get_or links i d).other end differs) refl refl

-- no child comes of an entry whose label isn't right
pub other-label : (texts : List (List ℕ)) (q : Query) (gains : Gains) (edge : ℕ) (end : Option ℕ) (words : List ℕ) (out : Bool) (part : MachinePart) (place i : ℕ) (links : List Link) (d : Link)
    → option_map (map link_of_entry) (slice_get (lists_of out part) place) ≡ Some links → i < length links → is_labelled texts q edge (get_or links i d) ≡ false
    → leads texts q gains edge end words (entry_in out part place i) ≡ false
other-label texts q gains edge end words out part place i links d is below differs =
    leads-of texts q gains edge end words (entry_in out part place i) (get_or links i d) _ false _ (entry-is (entry_at out part place i) (get_or links i d) (link-at out part place i links d is below))
    refl differs refl
    ∙ and-false (ends_at end (get_or links i d).other)

-- where no conjunct is asked, a child comes of an entry with the right label where it ends right
pub leads-freely : (texts : List (List ℕ)) (q : Query) (gains : Gains) (edge : ℕ) (end : Option ℕ) (words : List ℕ) (out : Bool) (part : MachinePart) (place i : ℕ) (links : List Link) (d : Link) (ends : Bool)
    → option_map (map link_of_entry) (slice_get (lists_of out part) place) ≡ Some links → i < length links → gains.conjuncts ≡ [] → is_labelled texts q edge (get_or links i d) ≡ true
    → ends_at end (get_or links i d).other ≡ ends
    → leads texts q gains edge end words (entry_in out part place i) ≡ ends
leads-freely texts q gains edge end words out part place i links d ends is below free labelled are =
    leads-of texts q gains edge end words (entry_in out part place i) (get_or links i d) ends true true (entry-is (entry_at out part place i) (get_or links i d) (link-at out part place i links d is below))
    are labelled (ap (all_hold texts q (written q (edge_in (entry_in out part place i)) (captures_of q edge) words)) free)
    ∙ and-true ends

-- an entry is passed over, and those after it whose labels aren't right
pub passed-on : (texts : List (List ℕ)) (q : Query) (gains : Gains) (edge : ℕ) (end : Option ℕ) (words : List ℕ) (out : Bool) (part : MachinePart) (place : ℕ) (links : List Link) (d : Link) (from at next : ℕ)
    → option_map (map link_of_entry) (slice_get (lists_of out part) place) ≡ Some links → next ≤ length links
    → ((i : ℕ) → from ≤ i → i < at → leads texts q gains edge end words (entry_in out part place i) ≡ false)
    → leads texts q gains edge end words (entry_in out part place at) ≡ false
    → ((i : ℕ) (e : Link) → at + 1 ≤ i → i < next → is_labelled texts q edge (get_or links i e) ≡ false)
    → (i : ℕ) → from ≤ i → i < next → leads texts q gains edge end words (entry_in out part place i) ≡ false
passed-on texts q gains edge end words out part place links d from at next is within before here wrong i low below =
    elim (cases_lt i at) [
      | inl less ↦ before i low less
      | inr more ↦ elim (cases_lt at i) [
        | inl after ↦ other-label texts q gains edge end words out part place i links d is (omega (arith, below, within)) (wrong i d (omega (arith, after)) below)
        | inr most ↦
            let same : at ≡ i = omega (arith, more, most) in
            subst (λ n. leads texts q gains edge end words (entry_in out part place n) ≡ false) same here
      ]
    ]

-- what is found by halves: nothing before the first entry of the bound end, nor after the last of them
pub by_halves : (texts : List (List ℕ)) (q : Query) (gains : Gains) (edge end : ℕ) (aim : Option ℕ) (words : List ℕ) (out : Bool) (part : MachinePart) (place : ℕ) (links : List Link) (d : Link)
    (from first last at : ℕ) → aim ≡ Some end → option_map (map link_of_entry) (slice_get (lists_of out part) place) ≡ Some links
    → first ≤ length links → ((i : ℕ) (e : Link) → from ≤ i → i < first → (get_or links i e).other < end)
    → ((i : ℕ) (e : Link) → last ≤ i → i < length links → end < (get_or links i e).other)
    → ((i : ℕ) → first ≤ i → i < at → leads texts q gains edge aim words (entry_in out part place i) ≡ false)
    → (i : ℕ) → from ≤ i → (i < at) ⊎ ((last ≤ i) × (i < length links)) → leads texts q gains edge aim words (entry_in out part place i) ≡ false
by_halves texts q gains edge end aim words out part place links d from first last at is_end is within before beyond passed i after (inr past) =
    let above : end < (get_or links i d).other = beyond i d past.0 past.1 in
    ap (λ o. leads texts q gains edge o words (entry_in out part place i)) is_end
    ∙ other-end texts q gains edge end words out part place i links d is past.1 (λ e. omega (arith, above, e))
by_halves texts q gains edge end aim words out part place links d from first last at is_end is within before beyond passed i after (inl below) =
    elim (cases_lt i first) [
      | inl less ↦
          let low : (get_or links i d).other < end = before i d after less in
          ap (λ o. leads texts q gains edge o words (entry_in out part place i)) is_end
          ∙ other-end texts q gains edge end words out part place i links d is (omega (arith, less, within)) (λ e. omega (arith, low, e))
      | inr more ↦ passed i more below
    ]

-- ---- what was sought

-- nothing is ahead
pub sought-end : (items : List Item) (old : Frame) → answer (drop old.place items) ≡ End → IsSought items old 0 found.End old
sought-end items old is =
    let here : old.place + 0 ≡ old.place = omega arith in
    let none : answer (drop (old.place + 0) items) ≡ End = ap (λ p. answer (drop p items)) here ∙ is in
    record {
      passed_over = λ i from below. absurd (omega arith);
      found_is = sym (ap found_of none);
      leaves = sym (ap (λ a. with_child a (record old { place = after_answer a (old.place + 0) (old.place + 0 + 1) })) none ∙ ap (λ p. record old { place = p }) here);
    }

-- what is ahead at the first place that isn't passed over
pub sought-at : (items : List Item) (old : Frame) (at passed : ℕ) (a : Next) (what : Found) (new : Frame) → old.place ≤ at → passed ≡ at - old.place
    → ((i : ℕ) → old.place ≤ i → i < at → answer (drop i items) ≡ Skip) → answer (drop at items) ≡ a → what ≡ found_of a
    → new ≡ with_child a (record old { place = after_answer a at (at + 1) }) → IsSought items old passed what new
sought-at items old at passed a what new from count skips ahead is leaves =
    let here : old.place + passed ≡ at = omega arith in
    let next : answer (drop (old.place + passed) items) ≡ a = ap (λ p. answer (drop p items)) here ∙ ahead in
    record {
      passed_over = λ i low below. skips i low (omega arith);
      found_is = is ∙ sym (ap found_of next);
      leaves = leaves ∙ sym (ap₂ (λ b p. with_child b (record old { place = after_answer b p (p + 1) })) next here);
    }

-- ---- along a list

-- an entry that is there
entry-there : (o : Option Entry) (link : Link) → option_map link_of_entry o ≡ Some link → o ≡ Some (unwrap_or o no_entry)
entry-there None link e = cc e
entry-there (Some e) link is = refl

-- along a list: what comes of an entry, and of the place past the last
module _ (texts : List (List ℕ)) (q : Query) (part : MachinePart) (stage : Stage) (out : Bool) (edge : ℕ) (to end : Option ℕ) (words : List ℕ) (place : ℕ) (links : List Link)
    (along : GoesAlong texts q part stage out edge to end words) (stands : place_in part (slice_index words (1 + stage.current)) ≡ Some place)
    (are : option_map (map link_of_entry) (slice_get (lists_of out part) place) ≡ Some links) where
  at_place : (i : ℕ) (o : Option Entry) → entry_at out part place i ≡ o → answer (drop i (items_of texts q part stage words)) ≡ answer_by texts q stage.passage edge to end words o
  at_place i o is =
      along i ∙ ap (answer_by texts q stage.passage edge to end words) (entries-found out part (slice_index words (1 + stage.current)) place i stands ∙ is)

  at_entry : (i : ℕ) (d : Link) (b : Bool) → i < length links → leads texts q stage.passage edge end words (entry_in out part place i) ≡ b
      → answer (drop i (items_of texts q part stage words))
      ≡ cond b (Child (record { words = child_words q stage.passage edge to words (entry_in out part place i) }) (entry_in out part place i).machine) Skip
  at_entry i d b below is =
      at_place i (Some (entry_in out part place i)) (entry-there (entry_at out part place i) (get_or links i d) (link-at out part place i links d are below))
      ∙ ap (λ c. cond c (Child (record { words = child_words q stage.passage edge to words (entry_in out part place i) }) (entry_in out part place i).machine) Skip) is

  pub along-end : (at : ℕ) → length links ≤ at → answer (drop at (items_of texts q part stage words)) ≡ End
  along-end at past = at_place at None (link-past out part place at links are past)

  -- the list's end is reached
  pub sought-past : (old : Frame) (at : ℕ) (d : Link) → old.place ≤ at → at ≡ length links
      → ((i : ℕ) → old.place ≤ i → i < at → leads texts q stage.passage edge end words (entry_in out part place i) ≡ false)
      → IsSought (items_of texts q part stage words) old (at - old.place) found.End (record old { place = at })
  sought-past old at d from last passed =
      sought-at (items_of texts q part stage words) old at (at - old.place) End found.End (record old { place = at }) from refl
      (λ i low below. at_entry i d false (omega (arith, below, last)) (passed i low below)) (along-end at (omega (arith, last))) refl refl

  -- a child comes of an entry
  pub sought-child : (old new : Frame) (at : ℕ) (d : Link) → old.place ≤ at → at < length links
      → ((i : ℕ) → old.place ≤ i → i < at → leads texts q stage.passage edge end words (entry_in out part place i) ≡ false)
      → leads texts q stage.passage edge end words (entry_in out part place at) ≡ true
      → new ≡ record old { place = at; wait = Some (record { words = child_words q stage.passage edge to words (entry_in out part place at) }, (get_or links at d).machine) }
      → IsSought (items_of texts q part stage words) old (at - old.place) found.Child (record new { place = new.place + 1 })
  sought-child old new at d from below passed leading is =
      let child : Context = record { words = child_words q stage.passage edge to words (entry_in out part place at) } in
      let machine : (get_or links at d).machine ≡ (entry_in out part place at).machine =
      ap (λ (l : Link). l.machine) (sym (entry-is (entry_at out part place at) (get_or links at d) (link-at out part place at links d are below))) in
      sought-at (items_of texts q part stage words) old at (at - old.place) (Child child (entry_in out part place at).machine) found.Child (record new { place = new.place + 1 }) from refl
      (λ i low less. at_entry i d false (omega (arith, less, below)) (passed i low less)) (at_entry at d true below leading) refl
      (ap {A = Frame} (λ (f : Frame). record f { place = f.place + 1 }) is ∙ ap (λ m. record old { place = at + 1; wait = Some (child, m) }) machine)

-- ---- hops

module _ (texts : List (List ℕ)) (q : Query) (part : MachinePart) (stage : Stage) (words : List ℕ) (out : Bool) (edge to : ℕ) (room : HasRoom q) (size : length words ≡ 40)
    (fit : GainsFit q (Some edge) stage.passage) (edge_there : edge < length q.variables) where
  along-answer : (there : Option ℕ) (e : Entry) → IsThere q there
      → answer_along texts q stage.passage edge there words e ≡ answer_by texts q stage.passage edge there None words (Some e)
  along-answer there e end_there = along-is texts q stage.passage edge there words e _ _ room size fit edge_there end_there refl refl

  -- a hop to a new vertex
  pub neighbour-along : to < length q.variables → stage.hop ≡ hop.Neighbour out edge to → all_told texts q words (others q edge stage.passage.reads) ≡ true
      → GoesAlong texts q part stage out edge (Some to) None words
  neighbour-along to_there is told number =
      neighbour-ahead texts q part stage words out edge to number is told ∙ at_entry (slice_get (entries_in out part (slice_index words (1 + stage.current))) number)
    where
      at_entry : (o : Option Entry) → answer_at (to_neighbour texts q stage.passage edge to words) o ≡ answer_by texts q stage.passage edge (Some to) None words o
      at_entry None = refl
      at_entry (Some e) = along-answer (Some to) e to_there

  -- a hop to a vertex that is bound
  pub bound-along : stage.hop ≡ hop.Edge out edge to → is_vertex part (slice_index words (1 + to)) ≡ true → all_told texts q words (others q edge stage.passage.reads) ≡ true
      → GoesAlong texts q part stage out edge None (Some (slice_index words (1 + to))) words
  bound-along is vertex told number =
      bound-ahead texts q part stage words out edge to number is vertex told ∙ at_entry (slice_get (entries_in out part (slice_index words (1 + stage.current))) number)
    where
      by_end : (e : Entry) (b : Bool) → cond b (answer_along texts q stage.passage edge None words e) Skip
          ≡ cond (b && (has_labels texts (labels_of q edge) (edge_in e) && all_hold texts q (written q (edge_in e) (captures_of q edge) words) stage.passage.conjuncts))
          (Child (record { words = child_words q stage.passage edge None words e }) e.machine) Skip
      by_end e true = along-answer None e tt
      by_end e false = refl

      at_entry : (o : Option Entry) → answer_at (to_bound texts q stage.passage edge to words) o
          ≡ answer_by texts q stage.passage edge None (Some (slice_index words (1 + to))) words o
      at_entry None = refl
      at_entry (Some e) = bound-at texts q stage.passage edge to words e (e.other == slice_index words (1 + to)) refl ∙ by_end e (e.other == slice_index words (1 + to))

-- ---- places of a tree

module _ (over : PlanOverParts) (machine : ℕ) (part : MachinePart) (stage : Stage) (part_there : slice_get over.parts machine ≡ Some part) where
  abbrev items : List ℕ → List Item
  items words = items_of over.texts over.query part stage words

  abbrev in_tree : {X : Type 0} → (MachinePart → Stage → X) → X → ℕ → X
  in_tree f none number = taken f none (slice_get over.parts machine) (slice_get over.plan.stages number)

  in_tree-is : {X : Type 0} (f : MachinePart → Stage → X) (none : X) (number : ℕ) → slice_get over.plan.stages number ≡ Some stage → in_tree f none number ≡ f part stage
  in_tree-is f none number stage_there = ap₂ (λ a b. taken f none a b) part_there stage_there

  -- the answer at a place of a frame, and what it leaves
  answer-tree : (old : Frame) → slice_get over.plan.stages old.stage ≡ Some stage
      → answer ((tree_of over).ahead machine old.stage old.context old.place) ≡ answer (ahead over.texts over.query part stage old.context.words old.place)
  answer-tree old there = ap answer (in_tree-is (λ here s. ahead over.texts over.query here s old.context.words old.place) [] old.stage there)

  after-tree : (old : Frame) → slice_get over.plan.stages old.stage ≡ Some stage
      → after (tree_of over) machine old ≡ record old {
        context = record { words = words_after over.texts over.query part stage old.context.words old.place };
        place = place_after over.texts over.query part stage old.context.words old.place;
      }
  after-tree old there =
      ap₂ (λ ws p. record old { context = record { words = ws }; place = p })
      (in_tree-is (λ here s. words_after over.texts over.query here s old.context.words old.place) old.context.words old.stage there)
      (in_tree-is (λ here s. place_after over.texts over.query here s old.context.words old.place) old.place old.stage there)

  -- at a later place
  not_first : (place : ℕ) → 0 < place → (place == 0) ≡ false
  not_first place some = ne_eqb place 0 (λ e. omega (arith, some, e))

  ahead-later : (words : List ℕ) (place : ℕ) → 0 < place → ahead over.texts over.query part stage words place ≡ drop place (items words)
  ahead-later words place some =
      ap (λ b. cond b (items_after (items_of over.texts over.query part stage) (arrived over.texts over.query part stage words)) (drop place (items words))) (not_first place some)

  same_either_way : (is : List Item) (words : List ℕ) → if_any is words words ≡ words
  same_either_way [] words = refl
  same_either_way (i ∷ is) words = refl

  words-later : (words : List ℕ) (place : ℕ) → 0 < place → words_after over.texts over.query part stage words place ≡ words
  words-later words place some =
      ap₂ (λ is later. if_any is words later) (ahead-later words place some)
      (ap (λ b. cond b (words_or words (arrived over.texts over.query part stage words)) words) (not_first place some))
      ∙ same_either_way (drop place (items words)) words

  after-later : (old : Frame) → slice_get over.plan.stages old.stage ≡ Some stage → 0 < old.place
      → after (tree_of over) machine old ≡ record old { place = after_answer (answer (drop old.place (items old.context.words))) old.place (old.place + 1) }
  after-later old there some =
      after-tree old there
      ∙ ap₂ (λ ws p. record old { context = record { words = ws }; place = p }) (words-later old.context.words old.place some)
      (ap (λ is. if_any is old.place (old.place + 1)) (ahead-later old.context.words old.place some)
      ∙ if_any-answer (drop old.place (items old.context.words)) old.place (old.place + 1))

  pub passes-later : (passed : ℕ) (old : Frame) (what : Found) (new : Frame) → slice_get over.plan.stages old.stage ≡ Some stage → 0 < old.place
      → IsSought (items old.context.words) old passed what new → Passes (tree_of over) machine old passed what new
  passes-later zero old what new there some sought =
      let here : old.place + 0 ≡ old.place = omega arith in
      let now : answer ((tree_of over).ahead machine old.stage old.context old.place) ≡ answer (drop old.place (items old.context.words)) =
      answer-tree old there ∙ ap answer (ahead-later old.context.words old.place some) in (
        sought.found_is ∙ ap (λ p. found_of (answer (drop p (items old.context.words)))) here ∙ sym (ap found_of now),
        sought.leaves
            ∙ ap (λ p. with_child (answer (drop p (items old.context.words))) (record old { place = after_answer (answer (drop p (items old.context.words))) p (p + 1) })) here
            ∙ sym (ap₂ (λ a f. with_child a f) now (after-later old there some)),
      )
  passes-later (suc passed) old what new there some sought =
      let is = items old.context.words in
      let skip : answer (drop old.place is) ≡ Skip = sought.passed_over old.place (omega arith) (omega arith) in
      let next : Frame = record old { place = old.place + 1 } in
      let one : after (tree_of over) machine old ≡ next = after-later old there some ∙ ap (λ a. record old { place = after_answer a old.place (old.place + 1) }) skip in
      let count : old.place + suc passed ≡ (old.place + 1) + passed = omega arith in
      let later : IsSought is next passed what new = record {
        passed_over = λ i low below. sought.passed_over i (omega arith) (omega arith);
        found_is = sought.found_is ∙ ap (λ p. found_of (answer (drop p is))) count;
        leaves = sought.leaves ∙ ap (λ p. with_child (answer (drop p is)) (record old { place = after_answer (answer (drop p is)) p (p + 1) })) count;
      } in (
        answer-tree old there ∙ ap answer (ahead-later old.context.words old.place some) ∙ skip,
        subst (λ f. Passes (tree_of over) machine f passed what new) (sym one) (passes-later passed next what new there (omega arith) later),
      )

  -- ---- at the first place

  module _ (frame : Frame) (there : slice_get over.plan.stages frame.stage ≡ Some stage) (passed : ℕ) (what : Found) (new : Frame) where
    abbrev start : Frame
    start = record frame { place = 0 }

    abbrev before : List ℕ
    before = frame.context.words

    abbrev reached : Option (List ℕ) → Frame
    reached o = record start {
      context = record { words = if_any (items_after items o) before (words_or before o) };
      place = if_any (items_after items o) 0 1;
    }

    answer-first : (o : Option (List ℕ)) → arrived over.texts over.query part stage before ≡ o
        → answer ((tree_of over).ahead machine start.stage start.context start.place) ≡ answer (items_after items o)
    answer-first o is = answer-tree start there ∙ ap (λ o. answer (items_after items o)) is

    after-first : (o : Option (List ℕ)) → arrived over.texts over.query part stage before ≡ o → after (tree_of over) machine start ≡ reached o
    after-first o is = after-tree start there ∙ ap reached is

    -- where nothing was passed over
    taken-first : (words : List ℕ) (is : List Item) (left : Frame) → what ≡ found_of (answer is)
        → left ≡ with_child (answer is) (record start { context = record { words = words }; place = after_answer (answer is) 0 1 })
        → new ≡ kept_context start 0 what left
        → new ≡ with_child (answer is) (record start { context = record { words = if_any is before words }; place = if_any is 0 1 })
    taken-first words [] left found leaves kept = kept ∙ ap (λ w. kept_context start 0 w left) found ∙ ap {A = Frame} (λ (f : Frame). record f { context = frame.context }) leaves
    taken-first words (Below context to ∷ is) left found leaves kept = kept ∙ ap (λ w. kept_context start 0 w left) found ∙ leaves
    taken-first words (Leaf context ∷ is) left found leaves kept = kept ∙ ap (λ w. kept_context start 0 w left) found ∙ leaves
    taken-first words (Pass ∷ is) left found leaves kept = kept ∙ ap (λ w. kept_context start 0 w left) found ∙ leaves

    -- where the first place was passed over
    skipped-first : (words : List ℕ) (is : List Item) → answer is ≡ Skip
        → record start { context = record { words = if_any is before words }; place = if_any is 0 1 } ≡ record start { context = record { words = words }; place = 1 }
    skipped-first words [] skip = cc skip
    skipped-first words (i ∷ is) skip = refl

    passes-zero : IsFirstSought over.texts over.query part stage start passed what new (arrived over.texts over.query part stage before) → Passes (tree_of over) machine start passed what new
    passes-zero = by (arrived over.texts over.query part stage before) refl passed where
      by : (o : Option (List ℕ)) → arrived over.texts over.query part stage before ≡ o → (count : ℕ)
          → IsFirstSought over.texts over.query part stage start count what new o → Passes (tree_of over) machine start count what new
      by None is count sought =
          subst (λ n. Passes (tree_of over) machine start n what new) (sym sought.0) (
            sought.1 ∙ sym (ap found_of (answer-first None is)),
            sought.2 ∙ sym (ap₂ (λ a f. with_child a f) (answer-first None is) (after-first None is)),
          )
      by (Some words) is zero sought = (
        sought.1.found_is ∙ sym (ap found_of (answer-first (Some words) is)),
        taken-first words (items words) sought.0 sought.1.found_is sought.1.leaves sought.2
            ∙ sym (ap₂ (λ a f. with_child a f) (answer-first (Some words) is) (after-first (Some words) is)),
      )
      by (Some words) is (suc count) sought =
          let next : Frame = record start { context = record { words = words }; place = 1 } in
          let skip : answer (items words) ≡ Skip = sought.1.passed_over 0 (omega arith) (omega arith) in
          let one : after (tree_of over) machine start ≡ next = after-first (Some words) is ∙ skipped-first words (items words) skip in
          let more : 0 + suc count ≡ 1 + count = omega arith in
          let kept : kept_context start (suc count) what sought.0 ≡ sought.0 =
          ap {A = Bool} (λ b. cond (b && is_end what) (record sought.0 { context = frame.context }) sought.0) (ne_eqb (suc count) 0 (λ e. omega (arith, e))) in
          let later : IsSought (items words) next count what sought.0 = record {
            passed_over = λ i low below. sought.1.passed_over i (omega arith) (omega arith);
            found_is = sought.1.found_is ∙ ap (λ p. found_of (answer (drop p (items words)))) more;
            leaves = sought.1.leaves ∙ ap (λ p. with_child (answer (drop p (items words))) (record next { place = after_answer (answer (drop p (items words))) p (p + 1) })) more;
          } in (
            answer-first (Some words) is ∙ skip,
            subst (λ f. Passes (tree_of over) machine f count what new) (sym one)
                (subst (λ n. Passes (tree_of over) machine next count what n) (sym (sought.2 ∙ kept)) (passes-later count next what sought.0 there (omega arith) later)),
          )

  pub passes-first : (old : Frame) (passed : ℕ) (what : Found) (new : Frame) → slice_get over.plan.stages old.stage ≡ Some stage → old.place ≡ 0
      → IsFirstSought over.texts over.query part stage old passed what new (arrived over.texts over.query part stage old.context.words) → Passes (tree_of over) machine old passed what new
  passes-first old passed what new there first sought =
      let same : old ≡ record old { place = 0 } = ap (λ p. record old { place = p }) first in
      subst (λ f. Passes (tree_of over) machine f passed what new) (sym same)
      (passes-zero old there passed what new
      (subst (λ f. IsFirstSought over.texts over.query part stage f passed what new (arrived over.texts over.query part stage f.context.words)) same sought))
