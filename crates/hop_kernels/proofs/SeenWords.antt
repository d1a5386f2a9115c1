-- What one sees of captures is what the words say once they are written.
use Rattle.std.proofs.Common.{◌≡◌, ℕ, zero, suc, ◌+◌, ◌<◌, ◌⊎◌, Bool, true, false, cond, ◌&&◌, ◌||◌, ◌==◌, eqb, List, [], ◌∷◌, length, get_or, set, drop}
use Rattle.std.proofs.Common.{Option, Some, None, refl, sym, ap, ap₂, ◌∙◌, subst, arith, inl, inr, length-set, get_or-set_same, get_or-set_other, slice_index_or}
use Rattle.std.specs.Prelude.{slice_get}
use Rattle.std.specs.Int.{bit_at}
use Rattle.std.specs.List.{AllByRecursion, list_all}
use Rattle.std.specs.Option.{option_map_or}
use Rattle.std.proofs.lemmas.Bool.{cases_eq, eq-eqb, ne_eqb, or_right}
use Rattle.adfs_base.specs.declared.value.Value.{Value}
use Rattle.adfs_base.specs.declared.value.Value.TheVariants as value
use Rattle.element_store.specs.Elements.{Element}
use Rattle.element_store.specs.Words.{value_from}
use Rattle.match_context.specs.Words.{captured_in}
use Rattle.match_context.specs.declared.expand.Next.TheVariants.{Child, Skip}
use Rattle.partition.specs.Parts.{Entry, MachinePart}
use Rattle.pgql_meaning.specs.Fits.{has_labels}
use Rattle.result_collect.specs.Contexts.{kind_of, values_from}
use Rattle.typed_expr.specs.Parts.{captures}
use Rattle.typed_expr.specs.Val.{passes}
use Rattle.typed_expr.specs.declared.query.Capture.{Capture}
use Rattle.typed_expr.specs.declared.query.Query.{Query}
use Rattle.stage_plan.specs.Walk.{captures_of, conjunct_at, uses}
use Rattle.stage_plan.specs.declared.stage.Gains.{Gains}
use Rattle.plan_tree.specs.Answers.{all_hold, child_or_pass, edge_in, is_of, labels_of}
use Rattle.plan_tree.specs.Told.{all_told, with_capture, is_told, values, with_number, word_at, written}
use Rattle.plan_tree.proofs.Tells.{places-in, places-low, values-at}
use Rattle.plan_tree.proofs.Values.{All-front, All-rest, IsSame, val-same}
use Rattle.plan_tree.proofs.Words.{captured-written, stands_in}
use Rattle.hop_kernels.proofs.EntryLists.{drop-here}
use Rattle.hop_kernels.specs.Entries.{answer_along}
use Rattle.hop_kernels.specs.Fitting.{GainsFit, HasRoom, IsThere}
use Rattle.hop_kernels.specs.Looks.{all_pass, one_answer, told_seen, value_seen, with_end, with_values, word_seen, words_seen}
use Rattle.hop_kernels.specs.Spots.{element_in}
use Rattle.hop_kernels.specs.declared.look.Look.{Look}

-- a variable's captures are those whose places are its own
pub stands-of : (q : Query) (v p : ℕ) → p < length q.captures → stands_in p (captures_of q v) ≡ is_of q v p
stands-of q v p below = at_capture (slice_get q.captures p) refl where
  at_capture : (o : Option Capture) → slice_get q.captures p ≡ o → stands_in p (captures_of q v) ≡ option_map_or (λ (c : Capture). c.variable == v) o false
  at_capture None found = absurd (none_below q.captures p below found) where
    none_below : (cs : List Capture) (i : ℕ) → i < length cs → slice_get cs i ≡ None → ⊥
    none_below [] i below is = absurd (omega arith)
    none_below (c ∷ cs) zero below is = cc
    none_below (c ∷ cs) (suc i) below is = none_below cs i (omega arith) is
  at_capture (Some x) found =
      ap (λ n. stands_in n (captures_of q v)) (let e : p ≡ 0 + p = omega arith in e) ∙ places-in q.captures 0 v p x found

pub captures-low : (q : Query) (v : ℕ) → AllByRecursion (λ p. p < length q.captures) (captures_of q v)
captures-low q v = subst (λ n. AllByRecursion (λ p. p < n) (captures_of q v)) (let e : 0 + length q.captures ≡ length q.captures = omega arith in e) (places-low q.captures 0 v)

-- the word of a capture is as it is seen
pub word-seen : (q : Query) (part : MachinePart) (look : Option Look) (words : List ℕ) (p : ℕ) → HasRoom q → length words ≡ 40 → p < length q.captures
    → captured_in (words_seen q part look words) (length q.variables) p ≡ word_seen q part look words p
word-seen q part None words p room size below = refl
word-seen q part (Some look) words p room size below =
    captured-written q (element_in part look.spot) (captures_of q look.variable) words p (omega arith) (omega arith) (captures-low q look.variable) below
    ∙ ap (λ b. cond b (word_at q (element_in part look.spot) p) (captured_in words (length q.variables) p)) (stands-of q look.variable p below)

-- the captures at these places stand for values where they are seen to
pub all_told-seen : (texts : List (List ℕ)) (q : Query) (part : MachinePart) (look : Option Look) (words ps : List ℕ) → HasRoom q → length words ≡ 40
    → AllByRecursion (λ p. p < length q.captures) ps
    → list_all (told_seen texts q part look words) ps ≡ all_told texts q (words_seen q part look words) ps
all_told-seen texts q part look words [] room size all = refl
all_told-seen texts q part look words (p ∷ ps) room size all =
    ap₂ (λ a b. a && b)
    (ap (λ o. option_map_or (λ (c : Capture). is_told texts (kind_of c.what) o) (slice_get q.captures p) true) (sym (word-seen q part look words p room size all.0)))
    (all_told-seen texts q part look words ps room size all.1)

-- a list of values that are put at places
pub with-values-at : (q : Query) (part : MachinePart) (look : Option Look) (words ps : List ℕ) (vs : List Value) (p : ℕ) → p < length vs
    → slice_index_or (with_values q part look words ps vs) p value.Null ≡ cond (stands_in p ps) (value_seen q part look words p) (slice_index_or vs p value.Null)
with-values-at q part look words [] vs p below = refl
with-values-at q part look words (x ∷ xs) vs p below =
    with-values-at q part look words xs (set vs x (value_seen q part look words x)) p (subst (λ n. p < n) (sym (length-set vs x (value_seen q part look words x))) below)
    ∙ at_side (cases_eq p x) (stands_in p xs)
  where
    at_side : (p ≡ x) ⊎ (p ≡ x → ⊥) → (b : Bool)
        → cond b (value_seen q part look words p) (slice_index_or (set vs x (value_seen q part look words x)) p value.Null)
        ≡ cond (eqb p x || b) (value_seen q part look words p) (slice_index_or vs p value.Null)
    at_side (inl same) true = ap (λ c. cond (c || true) (value_seen q part look words p) (slice_index_or vs p value.Null)) (sym (eq-eqb p x same))
    at_side (inl same) false =
        ap (λ n. slice_index_or (set vs n (value_seen q part look words n)) p value.Null) (sym same)
        ∙ get_or-set_same vs p (value_seen q part look words p) value.Null below
        ∙ ap (λ c. cond (c || false) (value_seen q part look words p) (slice_index_or vs p value.Null)) (sym (eq-eqb p x same))
    at_side (inr other) true = ap (λ c. cond (c || true) (value_seen q part look words p) (slice_index_or vs p value.Null)) (sym (ne_eqb p x other))
    at_side (inr other) false =
        get_or-set_other vs x p (value_seen q part look words x) value.Null other
        ∙ ap (λ c. cond (c || false) (value_seen q part look words p) (slice_index_or vs p value.Null)) (sym (ne_eqb p x other))

-- each place of a list stands in it
all-stand : (xs ys : List ℕ) → ((p : ℕ) → stands_in p xs ≡ true → stands_in p ys ≡ true) → AllByRecursion (λ p. stands_in p ys ≡ true) xs
all-stand [] ys within = tt
all-stand (x ∷ xs) ys within = (
  within x (ap (λ b. b || stands_in x xs) (eq-eqb x x refl)),
  all-stand xs ys (λ p stands. within p (or_right (eqb p x) (stands_in p xs) stands)),
)

All-two : (P R S : ℕ → Type 0) (xs : List ℕ) → ((x : ℕ) → P x → R x → S x) → AllByRecursion P xs → AllByRecursion R xs → AllByRecursion S xs
All-two P R S [] each all more = tt
All-two P R S (x ∷ xs) each all more = (each x all.0 more.0, All-two P R S xs each all.1 more.1)

value-at : (q : Query) (words : List ℕ) (p : ℕ)
    → slice_index_or (values q words) p value.Null ≡ option_map_or (λ (c : Capture). value_from (kind_of c.what) (captured_in words (length q.variables) p)) (slice_get q.captures p) value.Null
value-at q words p =
    values-at words (length q.variables) 0 p q.captures
    ∙ ap (λ j. option_map_or (λ (c : Capture). value_from (kind_of c.what) (captured_in words (length q.variables) j)) (slice_get q.captures p) value.Null) (let e : 0 + p ≡ p = omega arith in e)

-- the values that are seen at places are those that the words say
values-same : (q : Query) (part : MachinePart) (look : Option Look) (words ps : List ℕ) (vs : List Value) → HasRoom q → length words ≡ 40 → length vs ≡ 39
    → AllByRecursion (λ p. p < length q.captures) ps
    → AllByRecursion (IsSame (with_values q part look words ps vs) (values q (words_seen q part look words))) ps
values-same q part look words ps vs room size count all =
    All-two (λ p. p < length q.captures) (λ p. stands_in p ps ≡ true) (IsSame (with_values q part look words ps vs) (values q (words_seen q part look words))) ps
    (λ p below stands.
    with-values-at q part look words ps vs p (omega arith)
    ∙ ap (λ b. cond b (value_seen q part look words p) (slice_index_or vs p value.Null)) stands
    ∙ ap (λ o. option_map_or (λ (c : Capture). value_from (kind_of c.what) o) (slice_get q.captures p) value.Null) (sym (word-seen q part look words p room size below))
    ∙ sym (value-at q (words_seen q part look words) p))
    all (all-stand ps ps (λ p stands. stands))

pass-same : (texts : List (List ℕ)) (q : Query) (us vs : List Value) (ns : List ℕ) → AllByRecursion (IsSame us vs) (uses q ns)
    → all_pass texts q us ns ≡ all_pass texts q vs ns
pass-same texts q us vs [] all = refl
pass-same texts q us vs (n ∷ ns) all =
    ap₂ (λ a b. a && b)
    (ap passes (val-same texts us vs (conjunct_at q n) (All-front (IsSame us vs) (captures (conjunct_at q n)) (uses q ns) all)))
    (pass-same texts q us vs ns (All-rest (IsSame us vs) (captures (conjunct_at q n)) (uses q ns) all))

-- conjuncts are true of what is seen where they are true of what the words say
pub all_hold-seen : (texts : List (List ℕ)) (q : Query) (part : MachinePart) (look : Option Look) (words ps ns : List ℕ) (vs : List Value) → HasRoom q → length words ≡ 40
    → length vs ≡ 39 → ps ≡ uses q ns → AllByRecursion (λ p. p < length q.captures) ps
    → all_pass texts q (with_values q part look words ps vs) ns ≡ all_hold texts q (words_seen q part look words) ns
all_hold-seen texts q part look words ps ns vs room size count are all =
    pass-same texts q (with_values q part look words ps vs) (values q (words_seen q part look words)) ns
    (subst (AllByRecursion (IsSame (with_values q part look words ps vs) (values q (words_seen q part look words)))) are (values-same q part look words ps vs room size count all))

-- the number of an element changes no capture
captured-number : (words : List ℕ) (n v i j : ℕ) → v < n → captured_in (with_number v i words) n j ≡ captured_in words n j
captured-number words n v i j below =
    ap₂ (λ a b. cond (eqb (bit_at a j) 1) None (Some b)) (get_or-set_other words (1 + v) 0 i 0 (λ e. omega arith))
    (get_or-set_other words (1 + v) (1 + n + j) i 0 (λ e. omega arith))

captured-end : (q : Query) (words : List ℕ) (to : Option ℕ) (other j : ℕ) → IsThere q to → captured_in (with_end to other words) (length q.variables) j ≡ captured_in words (length q.variables) j
captured-end q words None other j there = refl
captured-end q words (Some v) other j there = captured-number words (length q.variables) v other j there

pub length-end : (to : Option ℕ) (other : ℕ) (words : List ℕ) → length (with_end to other words) ≡ length words
length-end None other words = refl
length-end (Some v) other words = length-set words (1 + v) other

values-as : (cs : List Capture) (us vs : List ℕ) (n k : ℕ) → ((j : ℕ) → j < k + length cs → captured_in us n j ≡ captured_in vs n j) → values_from us n k cs ≡ values_from vs n k cs
values-as [] us vs n k same = refl
values-as (c ∷ cs) us vs n k same =
    ap₂ (λ v rest. v ∷ rest) (ap (value_from (kind_of c.what)) (same k (omega arith))) (values-as cs us vs n (k + 1) (λ j below. same j (omega arith)))

-- conjuncts are true along an edge whatever numbers are bound
pub all_hold-bound : (texts : List (List ℕ)) (q : Query) (e : Element) (edge number other : ℕ) (to : Option ℕ) (words ns : List ℕ) → HasRoom q → length words ≡ 40
    → edge < length q.variables → IsThere q to
    → all_hold texts q (written q e (captures_of q edge) (with_end to other (with_number edge number words))) ns ≡ all_hold texts q (written q e (captures_of q edge) words) ns
all_hold-bound texts q e edge number other to words ns room size there end_there =
    let bound = with_end to other (with_number edge number words) in
    let bound_size : length bound ≡ 40 = length-end to other (with_number edge number words) ∙ length-set words (1 + edge) number ∙ size in
    ap (λ us. all_pass texts q us ns)
    (values-as q.captures (written q e (captures_of q edge) bound) (written q e (captures_of q edge) words) (length q.variables) 0
    (λ j below.
    captured-written q e (captures_of q edge) bound j (omega arith) (omega arith) (captures-low q edge) (omega arith)
    ∙ ap (cond (stands_in j (captures_of q edge)) (word_at q e j))
    (captured-end q (with_number edge number words) to other j end_there ∙ captured-number words (length q.variables) edge number j there)
    ∙ sym (captured-written q e (captures_of q edge) words j (omega arith) (omega arith) (captures-low q edge) (omega arith))))

-- what comes of an entry: the child, where the label is right and what can be tested then holds
pub along-is : (texts : List (List ℕ)) (q : Query) (gains : Gains) (edge : ℕ) (to : Option ℕ) (words : List ℕ) (entry : Entry) (labels hold : Bool) → HasRoom q → length words ≡ 40
    → GainsFit q (Some edge) gains → edge < length q.variables → IsThere q to
    → has_labels texts (labels_of q edge) (edge_in entry) ≡ labels → all_hold texts q (written q (edge_in entry) (captures_of q edge) words) gains.conjuncts ≡ hold
    → answer_along texts q gains edge to words entry
    ≡ cond (labels && hold) (Child (record { words = written q (edge_in entry) gains.captures (with_end to entry.other (with_number edge entry.edge words)) }) entry.machine) Skip
along-is texts q gains edge to words entry labels hold room size fit there end_there labels_are hold_is =
    let bound = with_end to entry.other (with_number edge entry.edge words) in
    let element = edge_in entry in
    ap₂ (λ a b. one_answer (child_or_pass (cond (a && b) (Some (written q element gains.captures bound)) None) entry.machine)) labels_are
    (ap (λ places. all_hold texts q (written q element places bound) gains.conjuncts) fit.captures_are
    ∙ all_hold-bound texts q element edge entry.edge entry.other to words gains.conjuncts room size there end_there ∙ hold_is)
    ∙ at_answer (labels && hold) (written q element gains.captures bound)
  where
    at_answer : (b : Bool) (child : List ℕ) → one_answer (child_or_pass (cond b (Some child) None) entry.machine) ≡ cond b (Child (record { words = child }) entry.machine) Skip
    at_answer true child = refl
    at_answer false child = refl

pub put-step : (q : Query) (part : MachinePart) (look : Option Look) (words ps : List ℕ) (vs all : List Value) (i : ℕ) (v : Value) → i < length ps
    → v ≡ value_seen q part look words (get_or ps i 0) → with_values q part look words (drop i ps) vs ≡ all
    → with_values q part look words (drop (i + 1) ps) (set vs (get_or ps i 0) v) ≡ all
put-step q part look words ps vs all i v below is before =
    ap (λ u. with_values q part look words (drop (i + 1) ps) (set vs (get_or ps i 0) u)) is
    ∙ sym (ap (λ xs. with_values q part look words xs vs) (drop-here ps i below)) ∙ before

pub write-step : (q : Query) (e : Element) (ps words all after : List ℕ) (i : ℕ) (w : Option ℕ) → i < length ps → w ≡ word_at q e (get_or ps i 0)
    → after ≡ with_capture (length q.variables) (get_or ps i 0) w words → written q e (drop i ps) words ≡ all → written q e (drop (i + 1) ps) after ≡ all
write-step q e ps words all after i w below is put before =
    ap (written q e (drop (i + 1) ps)) (put ∙ ap (λ u. with_capture (length q.variables) (get_or ps i 0) u words) is)
    ∙ sym (ap (λ xs. written q e xs words) (drop-here ps i below)) ∙ before
