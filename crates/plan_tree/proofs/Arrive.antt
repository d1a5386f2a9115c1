-- A context that tells of an assignment fits exactly where the assignment passes what is asked there.
use Rattle.std.proofs.Common.{◌≡◌, ℕ, zero, suc, ◌<◌, Bool, true, false, cond, ◌&&◌, List, [], ◌∷◌, length, set, Option, Some, None}
use Rattle.std.proofs.Common.{refl, sym, ap, ap₂, ◌∙◌, subst, arith}
use Rattle.std.specs.Prelude.{slice_get, slice_index}
use Rattle.element_store.specs.Elements.{Element}
use Rattle.graph_tables.specs.Graph.{PropertyGraph, without_ends}
use Rattle.partition.specs.Parts.{part_with}
use Rattle.pgql_meaning.specs.Captured.{element_of}
use Rattle.pgql_meaning.specs.Fits.{Holds, has_labels, meets}
use Rattle.pgql_meaning.specs.Shown.{HasShown}
use Rattle.typed_expr.specs.declared.query.Query.{Query}
use Rattle.stage_plan.specs.Moves.{IsOrdered, Move, ask_about, ask_conjuncts, is_edge}
use Rattle.stage_plan.specs.Walk.{Walk, captures_of, conjunct_at, gains, gains_of, learned, uses, whole}
use Rattle.plan_tree.specs.Answers.{along, arrived_at, arrived_by, labels_of, tested, vertex_in}
use Rattle.plan_tree.specs.Rows.{rows_of}
use Rattle.plan_tree.specs.Told.{AreTold, written}
use Rattle.plan_tree.proofs.Agree.{at}
use Rattle.plan_tree.proofs.PartLaws.{vertex-in}
use Rattle.plan_tree.proofs.Tells.{HasRoom, Tells, all_hold-meet, all_told-known, conjuncts_meet, element-is, labels-meet, tells-written, uses-known}

-- The result is there, with words that tell of the assignment, exactly where the rows that are asked for are those after.
pub record Fits (g : PropertyGraph) (q : Query) (known : List Bool) (c : List ℕ) (result : Option (List ℕ)) (asked rest : List (List ℕ)) : Type 0 where
  pub fits : Bool
  pub words : List ℕ
  pub tells : Tells g q known c words
  pub result_is : result ≡ cond fits (Some words) None
  pub rows_are : asked ≡ cond fits rest []

-- the vertex on which one arrives is one of the machine's
pub record IsHere (g : PropertyGraph) (q : Query) (owners : List ℕ) (m : ℕ) (c : List ℕ) (v : ℕ) : Type 0 where
  pub is_there : v < length q.variables
  pub is_vertex : is_edge q v ≡ false
  pub in_graph : at c v < length g.vertices
  pub own : slice_index owners (at c v) ≡ m

abbrev pub ArrivesHere : PropertyGraph → Query → List ℕ → ℕ → List ℕ → Option ℕ → Type 0
ArrivesHere g q owners m c None = Unit {0}
ArrivesHere g q owners m c (Some v) = IsHere g q owners m c v

rows-conjuncts : (texts : List (List ℕ)) (g : PropertyGraph) (q : Query) (numbers : List ℕ) (ms : List Move) (c : List ℕ)
    → rows_of texts g q (ask_conjuncts q numbers ms) c ≡ cond (conjuncts_meet texts g q c numbers) (rows_of texts g q ms c) []
rows-conjuncts texts g q [] ms c = refl
rows-conjuncts texts g q (n ∷ ns) ms c =
    ap (λ rows. cond (meets texts g q c (Holds (conjunct_at q n))) rows []) (rows-conjuncts texts g q ns ms c)
    ∙ at_answer (meets texts g q c (Holds (conjunct_at q n))) (conjuncts_meet texts g q c ns)
  where
    at_answer : (b d : Bool) → cond b (cond d (rows_of texts g q ms c) []) [] ≡ cond (b && d) (rows_of texts g q ms c) []
    at_answer true d = refl
    at_answer false d = refl

module _ (texts : List (List ℕ)) (g : PropertyGraph) (q : Query) (told : AreTold g q) (shown : HasShown texts g) (room : HasRoom q) where
  tested-is : (known : List Bool) (c words captured waiting : List ℕ) → Tells g q known c words
      → tested texts q (gains_of q captured (whole q known waiting)) words ≡ cond (conjuncts_meet texts g q c (whole q known waiting)) (Some words) None
  tested-is known c words captured waiting tells =
      ap₂ (λ a b. cond (a && b) (Some words) None)
      (all_told-known texts g q known c words (uses q (whole q known waiting)) told shown tells (uses-known q known waiting))
      (all_hold-meet texts g q known c words waiting told tells)

  nested : {X : Type 0} (b d : Bool) (x none : X) → cond b (cond d x none) none ≡ cond (b && d) x none
  nested true d x none = refl
  nested false d x none = refl

  pub arrival : (owners : List ℕ) (machines m : ℕ) (w : Walk) (o : Option ℕ) (c words : List ℕ) (ms : List Move) → length owners ≡ length g.vertices
      → Tells g q w.known c words → length c ≡ length q.variables → length w.known ≡ length q.variables → ArrivesHere g q owners m c o
      → Fits g q (learned o w.known) c (arrived_by texts q (part_with owners machines g m) (gains q w o) words o)
      (rows_of texts g q (ask_about q w o ms) c) (rows_of texts g q ms c)
  arrival owners machines m w None c words ms all tells sizes knowns here = record {
    fits = conjuncts_meet texts g q c (whole q w.known w.waiting);
    words = words;
    tells = tells;
    result_is = tested-is w.known c words [] w.waiting tells;
    rows_are = rows-conjuncts texts g q (whole q w.known w.waiting) ms c;
  }
  arrival owners machines m w (Some v) c words ms all tells sizes knowns here =
      at_vertex (slice_get g.vertices (at c v)) refl
    where
      get_from : {X : Type 0} (xs : List X) (j : ℕ) → j < length xs → slice_get xs j ≡ None → ⊥
      get_from [] j below is = absurd (omega arith)
      get_from (x ∷ xs) zero below is = cc
      get_from (x ∷ xs) (suc j) below is = get_from xs j (omega arith) is

      at_vertex : (o : Option Element) → slice_get g.vertices (at c v) ≡ o
          → Fits g q (learned (Some v) w.known) c (arrived_by texts q (part_with owners machines g m) (gains q w (Some v)) words (Some v))
          (rows_of texts g q (ask_about q w (Some v) ms) c) (rows_of texts g q ms c)
      at_vertex None found = absurd (get_from g.vertices (at c v) here.in_graph found)
      at_vertex (Some e) found =
          let known = set w.known v true in
          let element : element_of g q c v ≡ Some e =
          element-is g q c v here.is_there sizes ∙ ap (λ b. cond b (slice_get (without_ends g.edges) (at c v)) (slice_get g.vertices (at c v))) here.is_vertex ∙ found in
          let after = written q e (captures_of q v) words in
          let tells_after : Tells g q known c after = tells-written g q w.known c words v e room tells (subst (λ n. v < n) (sym knowns) here.is_there) element in
          let meet = conjuncts_meet texts g q c (whole q known w.waiting) in
          let labels = has_labels texts (labels_of q v) e in
          record {
            fits = labels && meet;
            words = after;
            tells = tells_after;
            result_is =
                ap (arrived_at texts q (gains q w (Some v)) v words)
                (ap (vertex_in (part_with owners machines g m)) (tells.numbers v here.is_there)
                ∙ vertex-in g owners machines m (at c v) here.in_graph all here.own ∙ found)
                ∙ ap (λ o. cond labels o None) (tested-is known c after (captures_of q v) w.waiting tells_after)
                ∙ nested labels meet (Some after) None;
            rows_are =
                ap₂ (λ b rows. cond b rows []) (labels-meet texts g q c v e here.is_there element) (rows-conjuncts texts g q (whole q known w.waiting) ms c)
                ∙ nested labels meet (rows_of texts g q ms c) [];
          }

  pub along-edge : (w : Walk) (edge : ℕ) (e : Element) (c words : List ℕ) (ms : List Move) → Tells g q w.known c words → edge < length q.variables
      → length w.known ≡ length q.variables → element_of g q c edge ≡ Some e
      → Fits g q (set w.known edge true) c (along texts q (gains q w (Some edge)) edge e words)
      (rows_of texts g q (ask_about q w (Some edge) ms) c) (rows_of texts g q ms c)
  along-edge w edge e c words ms tells there knowns element =
      let known = set w.known edge true in
      let after = written q e (captures_of q edge) words in
      let tells_after : Tells g q known c after = tells-written g q w.known c words edge e room tells (subst (λ n. edge < n) (sym knowns) there) element in
      let meet = conjuncts_meet texts g q c (whole q known w.waiting) in
      let labels = has_labels texts (labels_of q edge) e in
      record {
        fits = labels && meet;
        words = after;
        tells = tells_after;
        result_is = ap (λ b. cond (labels && b) (Some after) None) (all_hold-meet texts g q known c after w.waiting told tells_after);
        rows_are =
            ap₂ (λ b rows. cond b rows []) (labels-meet texts g q c edge e there element) (rows-conjuncts texts g q (whole q known w.waiting) ms c)
            ∙ nested labels meet (rows_of texts g q ms c) [];
      }

ordered-conjuncts : (q : Query) (bound : List Bool) (numbers : List ℕ) (ms : List Move) → IsOrdered q bound (ask_conjuncts q numbers ms) → IsOrdered q bound ms
ordered-conjuncts q bound [] ms ordered = ordered
ordered-conjuncts q bound (n ∷ ns) ms ordered = ordered-conjuncts q bound ns ms ordered.1

-- what is ordered stays so after what is asked
pub ordered-about : (q : Query) (bound : List Bool) (w : Walk) (o : Option ℕ) (ms : List Move) → IsOrdered q bound (ask_about q w o ms) → IsOrdered q bound ms
ordered-about q bound w None ms ordered = ordered-conjuncts q bound (whole q w.known w.waiting) ms ordered
ordered-about q bound w (Some v) ms ordered = ordered-conjuncts q bound (whole q (set w.known v true) w.waiting) ms ordered.1
