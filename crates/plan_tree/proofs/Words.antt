-- A captured value that is written is read as written, and all else in the words as before.
use Rattle.std.proofs.Common.{◌≡◌, ℕ, ◌+◌, ◌-◌, ◌^◌, ◌<◌, ◌≤◌, ◌⊎◌, max, min, Bool, true, false, cond, ◌||◌, eqb, List, [], ◌∷◌, length, get_or, set, bit_and, bit_or}
use Rattle.std.proofs.Common.{Option, Some, None, refl, sym, ap, ◌∙◌, subst, arith, inl, inr, length-set, get_or-set_same, get_or-set_other, w64}
use Rattle.std.specs.Int.{bit_at}
use Rattle.std.specs.List.{AllByRecursion, list_any}
use Rattle.std.proofs.Math.Pow.{pow-lt}
use Rattle.std.proofs.lemmas.Nat.Bits.{bit_at_or, bit_at_and, bit_at-pow_same, bit_at-pow_other, bit_at_not, bit_at-lt}
use Rattle.std.proofs.lemmas.Bool.{eqb-true, eqb-false, eq-eqb, ne_eqb, cases_eq}
use Rattle.element_store.specs.Elements.{Element}
use Rattle.match_context.specs.Words.{captured_in}
use Rattle.typed_expr.specs.declared.query.Query.{Query}
use Rattle.plan_tree.specs.Told.{with_capture, word_at, written}

pow_fits : (i : ℕ) → i < 64 → 2 ^ i < 2 ^ 64
pow_fits i below = pow-lt {i = i} {j = 64} below

cleared : (n i j : ℕ) → i < 64 → j < 64 → bit_at (bit_and n (2 ^ 64 - 1 - 2 ^ i)) j ≡ cond (eqb j i) 0 (bit_at n j)
cleared n i j low_i low_j = at_side (cases_eq j i) where
  with_not : bit_at (bit_and n (2 ^ 64 - 1 - 2 ^ i)) j ≡ min (bit_at n j) (1 - bit_at (2 ^ i) j)
  with_not = bit_at_and n (2 ^ 64 - 1 - 2 ^ i) j ∙ ap (min (bit_at n j)) (bit_at_not w64 (2 ^ i) j (pow_fits i low_i) low_j)

  at_side : (j ≡ i) ⊎ (j ≡ i → ⊥) → bit_at (bit_and n (2 ^ 64 - 1 - 2 ^ i)) j ≡ cond (eqb j i) 0 (bit_at n j)
  at_side (inl same) =
      let one : bit_at (2 ^ i) j ≡ 1 = ap (bit_at (2 ^ i)) same ∙ bit_at-pow_same i in
      with_not ∙ (let z : min (bit_at n j) (1 - bit_at (2 ^ i) j) ≡ 0 = omega arith in z) ∙ sym (ap (λ b. cond b 0 (bit_at n j)) (eq-eqb j i same))
  at_side (inr other) =
      let none : bit_at (2 ^ i) j ≡ 0 = bit_at-pow_other i j other in
      with_not ∙ (let low = bit_at-lt n j in let z : min (bit_at n j) (1 - bit_at (2 ^ i) j) ≡ bit_at n j = omega arith in z)
      ∙ sym (ap (λ b. cond b 0 (bit_at n j)) (ne_eqb j i other))

raised : (n i j : ℕ) → bit_at (bit_or n (2 ^ i)) j ≡ cond (eqb j i) 1 (bit_at n j)
raised n i j = at_side (cases_eq j i) where
  at_side : (j ≡ i) ⊎ (j ≡ i → ⊥) → bit_at (bit_or n (2 ^ i)) j ≡ cond (eqb j i) 1 (bit_at n j)
  at_side (inl same) =
      let one : bit_at (2 ^ i) j ≡ 1 = ap (bit_at (2 ^ i)) same ∙ bit_at-pow_same i in
      let low = bit_at-lt n j in
      bit_at_or n (2 ^ i) j ∙ (let z : max (bit_at n j) (bit_at (2 ^ i) j) ≡ 1 = omega arith in z) ∙ sym (ap (λ b. cond b 1 (bit_at n j)) (eq-eqb j i same))
  at_side (inr other) =
      let none : bit_at (2 ^ i) j ≡ 0 = bit_at-pow_other i j other in
      bit_at_or n (2 ^ i) j ∙ (let z : max (bit_at n j) (bit_at (2 ^ i) j) ≡ bit_at n j = omega arith in z) ∙ sym (ap (λ b. cond b 1 (bit_at n j)) (ne_eqb j i other))

pub captured-with : (variables : ℕ) (words : List ℕ) (i j : ℕ) (o : Option ℕ) → variables + i + 1 < length words → i < 64 → j < 64
    → captured_in (with_capture variables i o words) variables j ≡ cond (eqb j i) o (captured_in words variables j)
captured-with variables words i j None room low_i low_j =
    let w = with_capture variables i None words in
    ap (λ n. cond (eqb n 1) None (Some (get_or w (1 + variables + j) 0)))
    (ap (λ n. bit_at n j) (first variables words i (bit_or (get_or words 0 0) (2 ^ i)) 0 (omega arith)) ∙ raised (get_or words 0 0) i j)
    ∙ at_answer (eqb j i) refl
  where
    first : (variables : ℕ) (words : List ℕ) (i x y : ℕ) → 0 < length words → get_or (set (set words 0 x) (1 + variables + i) y) 0 0 ≡ x
    first variables words i x y room =
        get_or-set_other (set words 0 x) (1 + variables + i) 0 y 0 (λ e. omega arith) ∙ get_or-set_same words 0 x 0 room

    at_answer : (b : Bool) → eqb j i ≡ b
        → cond (eqb (cond b 1 (bit_at (get_or words 0 0) j)) 1) None (Some (get_or (with_capture variables i None words) (1 + variables + j) 0))
        ≡ cond b None (captured_in words variables j)
    at_answer true is = refl
    at_answer false is =
        ap (λ n. cond (eqb (bit_at (get_or words 0 0) j) 1) None (Some n))
        (get_or-set_other (set words 0 (bit_or (get_or words 0 0) (2 ^ i))) (1 + variables + i) (1 + variables + j) 0 0 (λ e. eqb-false j i is (omega arith))
        ∙ get_or-set_other words 0 (1 + variables + j) (bit_or (get_or words 0 0) (2 ^ i)) 0 (λ e. omega arith))
captured-with variables words i j (Some x) room low_i low_j =
    let w = with_capture variables i (Some x) words in
    ap (λ n. cond (eqb n 1) None (Some (get_or w (1 + variables + j) 0)))
    (ap (λ n. bit_at n j) (first variables words i (bit_and (get_or words 0 0) (2 ^ 64 - 1 - 2 ^ i)) x (omega arith)) ∙ cleared (get_or words 0 0) i j low_i low_j)
    ∙ at_answer (eqb j i) refl
  where
    first : (variables : ℕ) (words : List ℕ) (i x y : ℕ) → 0 < length words → get_or (set (set words 0 x) (1 + variables + i) y) 0 0 ≡ x
    first variables words i x y room =
        get_or-set_other (set words 0 x) (1 + variables + i) 0 y 0 (λ e. omega arith) ∙ get_or-set_same words 0 x 0 room

    at_answer : (b : Bool) → eqb j i ≡ b
        → cond (eqb (cond b 0 (bit_at (get_or words 0 0) j)) 1) None (Some (get_or (with_capture variables i (Some x) words) (1 + variables + j) 0))
        ≡ cond b (Some x) (captured_in words variables j)
    at_answer true is =
        ap Some (ap (λ k. get_or (with_capture variables i (Some x) words) (1 + variables + k) 0) (eqb-true j i is)
        ∙ get_or-set_same (set words 0 (bit_and (get_or words 0 0) (2 ^ 64 - 1 - 2 ^ i))) (1 + variables + i) x 0
        (subst (λ n. 1 + variables + i < n) (sym (length-set words 0 (bit_and (get_or words 0 0) (2 ^ 64 - 1 - 2 ^ i)))) (omega arith)))
    at_answer false is =
        ap (λ n. cond (eqb (bit_at (get_or words 0 0) j) 1) None (Some n))
        (get_or-set_other (set words 0 (bit_and (get_or words 0 0) (2 ^ 64 - 1 - 2 ^ i))) (1 + variables + i) (1 + variables + j) x 0 (λ e. eqb-false j i is (omega arith))
        ∙ get_or-set_other words 0 (1 + variables + j) (bit_and (get_or words 0 0) (2 ^ 64 - 1 - 2 ^ i)) 0 (λ e. omega arith))

length-two : (words : List ℕ) (i j x y : ℕ) → length (set (set words i x) j y) ≡ length words
length-two words i j x y = length-set (set words i x) j y ∙ length-set words i x

pub length-with : (variables i : ℕ) (o : Option ℕ) (words : List ℕ) → length (with_capture variables i o words) ≡ length words
length-with variables i None words = length-two words 0 (1 + variables + i) (bit_or (get_or words 0 0) (2 ^ i)) 0
length-with variables i (Some x) words = length-two words 0 (1 + variables + i) (bit_and (get_or words 0 0) (2 ^ 64 - 1 - 2 ^ i)) x

-- the numbers stand in front of the captured values
number-with : (variables i : ℕ) (o : Option ℕ) (words : List ℕ) (v : ℕ) → v < variables → get_or (with_capture variables i o words) (1 + v) 0 ≡ get_or words (1 + v) 0
number-with variables i None words v below =
    get_or-set_other (set words 0 (bit_or (get_or words 0 0) (2 ^ i))) (1 + variables + i) (1 + v) 0 0 (λ e. omega arith)
    ∙ get_or-set_other words 0 (1 + v) (bit_or (get_or words 0 0) (2 ^ i)) 0 (λ e. omega arith)
number-with variables i (Some x) words v below =
    get_or-set_other (set words 0 (bit_and (get_or words 0 0) (2 ^ 64 - 1 - 2 ^ i))) (1 + variables + i) (1 + v) x 0 (λ e. omega arith)
    ∙ get_or-set_other words 0 (1 + v) (bit_and (get_or words 0 0) (2 ^ 64 - 1 - 2 ^ i)) 0 (λ e. omega arith)

abbrev pub stands_in : ℕ → List ℕ → Bool
stands_in place places = list_any (λ p. eqb place p) places

module _ (q : Query) (element : Element) where
  pub length-written : (places words : List ℕ) → length (written q element places words) ≡ length words
  length-written [] words = refl
  length-written (p ∷ ps) words =
      length-written ps (with_capture (length q.variables) p (word_at q element p) words) ∙ length-with (length q.variables) p (word_at q element p) words

  pub number-written : (places words : List ℕ) (v : ℕ) → v < length q.variables → get_or (written q element places words) (1 + v) 0 ≡ get_or words (1 + v) 0
  number-written [] words v below = refl
  number-written (p ∷ ps) words v below =
      number-written ps (with_capture (length q.variables) p (word_at q element p) words) v below
      ∙ number-with (length q.variables) p (word_at q element p) words v below

  -- the captures that are written are the element's, and the others as before
  pub captured-written : (places words : List ℕ) (j : ℕ) → 1 + length q.variables + length q.captures ≤ length words → length words ≤ 64
      → AllByRecursion (λ p. p < length q.captures) places → j < length q.captures
      → captured_in (written q element places words) (length q.variables) j
      ≡ cond (stands_in j places) (word_at q element j) (captured_in words (length q.variables) j)
  captured-written [] words j room few all below = refl
  captured-written (p ∷ ps) words j room few all below =
      let size = length-with (length q.variables) p (word_at q element p) words in
      let low = all.0 in
      captured-written ps (with_capture (length q.variables) p (word_at q element p) words) j (omega arith) (omega arith) all.1 below
      ∙ ap (cond (stands_in j ps) (word_at q element j))
      (captured-with (length q.variables) words p j (word_at q element p) (omega arith) (omega arith) (omega arith))
      ∙ at_answer (eqb j p) refl (stands_in j ps)
    where
      at_answer : (b : Bool) → eqb j p ≡ b → (s : Bool)
          → cond s (word_at q element j) (cond b (word_at q element p) (captured_in words (length q.variables) j))
          ≡ cond (b || s) (word_at q element j) (captured_in words (length q.variables) j)
      at_answer true is true = refl
      at_answer true is false = ap (word_at q element) (sym (eqb-true j p is))
      at_answer false is s = refl
