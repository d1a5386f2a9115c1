-- Each kind of change keeps what a view saw and marked.
use Rattle.std.proofs.Common.{◌≡◌, ℕ, List, [], ◌+◌, ◌<◌, ◌≤◌, length, get_or, set, sym, ap, arith, subst, ◌∙◌}
use Rattle.std.proofs.lemmas.List.{get_or-set_same, get_or-set_other}
use mathlib.Core.Option.{some}
use native.Mathlib.Decide.{dec_le}
use lib.ListN.{get_elem?}
use Rattle.stage_credits.specs.declared.view.View.{View}
use Rattle.stage_credits.specs.declared.setup.Setup.{Setup}
use Rattle.stage_credits.specs.Layout.{units, stage_start, word_count, enrolled_of, closed_word}
use Rattle.stage_credits.specs.Lists.{times}
use Rattle.stage_credits.specs.Rule.{Each, IsWordOf, MarksAreZero, MarksStay}
use Rattle.stage_credits.proofs.Frames.{StaysBetween, get_or-put, Each-put, Each-map, stage_start-le}

pub MarksStay-same : (setup : Setup) (words after : List ℕ) (views : List View) (id : ℕ) (v w : View) → get_elem? views id ≡ some v
    → StaysBetween 0 (units setup) words after → StaysBetween (enrolled_of setup 0) (word_count setup) words after → w.closed ≡ v.closed → w.marks ≡ v.marks
    → MarksStay setup words views → MarksStay setup after (set views id w)
MarksStay-same setup words after views id v w at used_stay rest_stay same_closed same_marks kept =
    let c : get_or after (closed_word setup) 0 ≡ get_or words (closed_word setup) 0 = rest_stay (closed_word setup) (omega arith) (omega arith) in record {
      saw = Each-map (λ u. u.closed ≤ get_or words (closed_word setup) 0) (λ u. u.closed ≤ get_or after (closed_word setup) 0) (set views id w) (λ u le. omega arith)
          (Each-put (λ u. u.closed ≤ get_or words (closed_word setup) 0) views id w (let s = kept.saw id v at in omega arith) kept.saw);
      zero_yet =
          Each-map (MarksAreZero setup words) (MarksAreZero setup after) (set views id w)
          (λ u q word marked. let z = q word marked in (z.0, stays word z.0 (dec_le 1 u.closed) ∙ z.1))
          (Each-put (MarksAreZero setup words) views id w
          (λ word marked. let z = kept.zero_yet id v at word (let e : times word w.marks ≡ times word v.marks = ap (times word) same_marks in omega arith) in
          (subst (λ (n : ℕ). IsWordOf setup n word) (sym same_closed) z.0, z.1))
          kept.zero_yet);
    }
  where
    stays : {n : ℕ} (word : ℕ) → IsWordOf setup n word → Dec (1 ≤ n) → get_or after word 0 ≡ get_or words word 0
    stays {n = n} word is (yes d) = let i = is.used d in used_stay word (omega arith) i.2.below
    stays {n = n} word is (no d) = let i = is.enrolled (omega arith) in rest_stay word (omega (arith, i.2)) (omega (arith, i.1, i.2))

-- a `used` word becomes n. Where it rises it is above the closed stages
pub MarksStay-used : (setup : Setup) (words : List ℕ) (views : List View) (id i n : ℕ) (v w : View) → get_elem? views id ≡ some v → length words ≡ word_count setup → i < units setup
    → (get_or words i 0 < n → 1 ≤ get_or words (closed_word setup) 0 → stage_start setup (get_or words (closed_word setup) 0 + 1) ≤ i)
    → w.closed ≡ v.closed → w.marks ≡ v.marks → MarksStay setup words views → MarksStay setup (set words i n) (set views id w)
MarksStay-used setup words views id i n v w at count in_range above same_closed same_marks kept =
    let there : i < length words = omega arith in
    let closed = get_or words (closed_word setup) 0 in
    let c : get_or (set words i n) (closed_word setup) 0 ≡ closed = get_or-set_other words i (closed_word setup) n 0 (omega arith) in
    let Both : View → Type 0 = λ u. (u.closed ≤ closed) × MarksAreZero setup words u in
    let old : Each Both views = λ j u e. (kept.saw j u e, kept.zero_yet j u e) in
    let mine : Both w = (
      let s = kept.saw id v at in omega arith,
      λ word marked. let z = kept.zero_yet id v at word (let e : times word w.marks ≡ times word v.marks = ap (times word) same_marks in omega arith) in
          (subst (λ (m : ℕ). IsWordOf setup m word) (sym same_closed) z.0, z.1),
    ) in
    let all : Each Both (set views id w) = Each-put Both views id w mine old in record {
      saw = λ j u e. let b = all j u e in omega (arith, b.0);
      zero_yet = λ j u e word marked.
          let b = all j u e in
          let z = b.1 word marked in (
            z.0,
            get_or-put (λ k m. IsWordOf setup u.closed k → get_or words k 0 ≡ 0 → m ≡ 0) words i n word there
                (λ is none. calm u.closed b.0 is none (dec_le n (get_or words i 0)) (dec_le 1 u.closed))
                (λ ne is none. none) z.0 z.1,
          );
    }
  where
    calm : (saw : ℕ) → saw ≤ get_or words (closed_word setup) 0 → IsWordOf setup saw i → get_or words i 0 ≡ 0 → Dec (n ≤ get_or words i 0) → Dec (1 ≤ saw) → n ≡ 0
    calm saw le is none (yes d) e = omega arith
    calm saw le is none (no d) (no e) = let f = is.enrolled (omega arith) in absurd (omega (arith, f.2))
    calm saw le is none (no d) (yes e) =
        let f = is.used e in
        let a = above (omega arith) (omega arith) in
        let s = stage_start-le setup (saw + 1) (get_or words (closed_word setup) 0 + 1) (omega arith) in
        absurd (omega (arith, f.1, a, s))

-- a view sees more
pub MarksStay-saw : (setup : Setup) (words : List ℕ) (views : List View) (id : ℕ) (w : View) → w.closed ≤ get_or words (closed_word setup) 0 → MarksAreZero setup words w
    → MarksStay setup words views → MarksStay setup words (set views id w)
MarksStay-saw setup words views id w saw marked kept = record {
  saw = Each-put (λ u. u.closed ≤ get_or words (closed_word setup) 0) views id w saw kept.saw;
  zero_yet = Each-put (MarksAreZero setup words) views id w marked kept.zero_yet;
}

-- a word other than `closed` falls
pub MarksStay-falls : (setup : Setup) (words : List ℕ) (views : List View) (id i n : ℕ) (v w : View) → get_elem? views id ≡ some v → length words ≡ word_count setup
    → i < closed_word setup → n ≤ get_or words i 0
    → w.closed ≡ v.closed → w.marks ≡ v.marks → MarksStay setup words views → MarksStay setup (set words i n) (set views id w)
MarksStay-falls setup words views id i n v w at count in_range falls same_closed same_marks kept =
    let there : i < length words = omega arith in
    let c : get_or (set words i n) (closed_word setup) 0 ≡ get_or words (closed_word setup) 0 = get_or-set_other words i (closed_word setup) n 0 (omega arith) in
    let down : (k : ℕ) → get_or words k 0 ≡ 0 → get_or (set words i n) k 0 ≡ 0 = λ k z.
    get_or-put (λ j m. get_or words j 0 ≡ 0 → m ≡ 0) words i n k there (λ y. omega arith) (λ ne y. y) z in
    let mine : MarksAreZero setup words w = λ word marked. let z = kept.zero_yet id v at word (let e : times word w.marks ≡ times word v.marks = ap (times word) same_marks in omega arith) in
    (subst (λ (m : ℕ). IsWordOf setup m word) (sym same_closed) z.0, z.1) in record {
      saw = Each-map (λ u. u.closed ≤ get_or words (closed_word setup) 0) (λ u. u.closed ≤ get_or (set words i n) (closed_word setup) 0) (set views id w) (λ u le. omega arith)
          (Each-put (λ u. u.closed ≤ get_or words (closed_word setup) 0) views id w (let s = kept.saw id v at in omega arith) kept.saw);
      zero_yet = Each-map (MarksAreZero setup words) (MarksAreZero setup (set words i n)) (set views id w) (λ u q word marked. let z = q word marked in (z.0, down word z.1))
          (Each-put (MarksAreZero setup words) views id w mine kept.zero_yet);
    }

-- `closed` goes up by 1
pub MarksStay-close : (setup : Setup) (words : List ℕ) (views : List View) (id closed : ℕ) (w : View) → length words ≡ word_count setup
    → get_or words (closed_word setup) 0 ≡ closed → w.closed ≤ closed + 1 → w.marks ≡ []
    → MarksStay setup words views → MarksStay setup (set words (closed_word setup) (closed + 1)) (set views id w)
MarksStay-close setup words views id closed w count is_closed saw no_marks kept =
    let x = closed_word setup in
    let c : get_or (set words x (closed + 1)) x 0 ≡ closed + 1 = get_or-set_same words x (closed + 1) 0 (omega arith) in
    let after = set words x (closed + 1) in
    let other : (k : ℕ) → k < x → get_or after k 0 ≡ get_or words k 0 = λ k low. get_or-set_other words x k (closed + 1) 0 (omega arith) in record {
      saw = Each-put (λ u. u.closed ≤ get_or after x 0) views id w (omega arith)
          (Each-map (λ u. u.closed ≤ get_or words x 0) (λ u. u.closed ≤ get_or after x 0) views (λ u le. omega arith) kept.saw);
      zero_yet = Each-put (MarksAreZero setup after) views id w (λ word marked. let e : times word w.marks ≡ 0 = ap (times word) no_marks in absurd (omega arith))
          (Each-map (MarksAreZero setup words) (MarksAreZero setup after) views
          (λ u q word marked. let z = q word marked in (z.0, other word (in_front word z.0 (dec_le 1 u.closed)) ∙ z.1)) kept.zero_yet);
    }
  where
    in_front : {n : ℕ} (word : ℕ) → IsWordOf setup n word → Dec (1 ≤ n) → word < closed_word setup
    in_front {n = n} word is (yes d) = let i = is.used d in omega (arith, i.2.below)
    in_front {n = n} word is (no d) = let i = is.enrolled (omega arith) in omega (arith, i.1, i.2)
