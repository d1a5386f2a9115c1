-- Each kind of change keeps closed stages empty.
use Rattle.std.proofs.Common.{◌≡◌, ℕ, List, ◌+◌, ◌<◌, ◌≤◌, length, get_or, set, refl, sym, arith, subst, ◌∙◌}
use Rattle.std.proofs.lemmas.List.{get_or-set_same, get_or-set_other}
use native.Mathlib.Decide.{dec_le}
use Rattle.stage_credits.specs.declared.view.View.{View}
use Rattle.stage_credits.specs.declared.setup.Setup.{Setup}
use Rattle.stage_credits.specs.Layout.{units, stage_start, target_of, IsUnit, word_count, enrolled_of, closed_word}
use Rattle.stage_credits.specs.Rule.{IsWordOf, StagesClose}
use Rattle.stage_credits.proofs.Frames.{StaysBetween, get_or-put, stage_start-le}

pub StagesClose-same : (setup : Setup) (words after : List ℕ) (views : List View) (id : ℕ) (w : View)
    → StaysBetween 0 (units setup) words after → StaysBetween (enrolled_of setup 0) (word_count setup) words after
    → StagesClose setup words views → StagesClose setup after (set views id w)
StagesClose-same setup words after views id w used_stay rest_stay kept =
    let c : get_or after (closed_word setup) 0 ≡ get_or words (closed_word setup) 0 = rest_stay (closed_word setup) (omega arith) (omega arith) in record {
      within = let k = kept.within in omega arith;
      enrolled = λ some m b. rest_stay (enrolled_of setup m) (omega arith) (omega arith) ∙ kept.enrolled (omega arith) m b;
      used = λ i below low. used_stay i (omega arith) (omega arith) ∙ kept.used i below (subst (λ (n : ℕ). i < stage_start setup n) c low);
    }

-- a `used` word becomes n. Where it rises it is above the closed stages
pub StagesClose-used : (setup : Setup) (words : List ℕ) (views : List View) (id i n : ℕ) (w : View) → length words ≡ word_count setup → i < units setup
    → (get_or words i 0 < n → 1 ≤ get_or words (closed_word setup) 0 → stage_start setup (get_or words (closed_word setup) 0 + 1) ≤ i)
    → StagesClose setup words views → StagesClose setup (set words i n) (set views id w)
StagesClose-used setup words views id i n w count in_range above kept =
    let there : i < length words = omega arith in
    let closed = get_or words (closed_word setup) 0 in
    let c : get_or (set words i n) (closed_word setup) 0 ≡ closed = get_or-set_other words i (closed_word setup) n 0 (omega arith) in record {
      within = let k = kept.within in omega arith;
      enrolled = λ some m b. get_or-set_other words i (enrolled_of setup m) n 0 (omega arith) ∙ kept.enrolled (omega arith) m b;
      used = λ j below low.
          let low' : j < stage_start setup closed = subst (λ (k : ℕ). j < stage_start setup k) c low in
          get_or-put (λ k m. k < units setup → k < stage_start setup closed → m ≡ 0) words i n j there
          (λ b l. calm kept b l (dec_le n (get_or words i 0)) (dec_le 1 closed))
          (λ ne b l. kept.used j b l) below low';
    }
  where
    calm : StagesClose setup words views → i < units setup → i < stage_start setup (get_or words (closed_word setup) 0) → Dec (n ≤ get_or words i 0)
        → Dec (1 ≤ get_or words (closed_word setup) 0) → n ≡ 0
    calm kept b l (yes d) e = let z = kept.used i b l in omega arith
    calm kept b l (no d) (yes e) =
        let a = above (omega arith) e in
        let s = stage_start-le setup (get_or words (closed_word setup) 0) (get_or words (closed_word setup) 0 + 1) (omega arith) in
        absurd (omega arith)
    calm kept b l (no d) (no e) = let z : get_or words (closed_word setup) 0 ≡ 0 = omega arith in
        let l' : i < stage_start setup 0 = subst (λ (k : ℕ). i < stage_start setup k) z l in absurd (omega arith)

-- a word other than `closed` falls
pub StagesClose-falls : (setup : Setup) (words : List ℕ) (views : List View) (id i n : ℕ) (w : View) → length words ≡ word_count setup → i < closed_word setup → n ≤ get_or words i 0
    → StagesClose setup words views → StagesClose setup (set words i n) (set views id w)
StagesClose-falls setup words views id i n w count in_range falls kept =
    let there : i < length words = omega arith in
    let c : get_or (set words i n) (closed_word setup) 0 ≡ get_or words (closed_word setup) 0 = get_or-set_other words i (closed_word setup) n 0 (omega arith) in
    let down : (k : ℕ) → get_or words k 0 ≡ 0 → get_or (set words i n) k 0 ≡ 0 = λ k z.
    get_or-put (λ j m. get_or words j 0 ≡ 0 → m ≡ 0) words i n k there (λ y. omega arith) (λ ne y. y) z in record {
      within = let k = kept.within in omega arith;
      enrolled = λ begun m b. down (enrolled_of setup m) (kept.enrolled (omega arith) m b);
      used = λ j below low. down j (kept.used j below (subst (λ (k : ℕ). j < stage_start setup k) c low));
    }

-- `closed` goes up by 1, and the words of the stage are 0
pub StagesClose-close : (setup : Setup) (words : List ℕ) (views : List View) (id closed : ℕ) (w : View) → length words ≡ word_count setup
    → get_or words (closed_word setup) 0 ≡ closed → closed < setup.shape.stages → ((word : ℕ) → IsWordOf setup closed word → get_or words word 0 ≡ 0)
    → ((i : ℕ) → i < units setup → ¬ IsUnit setup i → get_or words i 0 ≡ 0)
    → StagesClose setup words views → StagesClose setup (set words (closed_word setup) (closed + 1)) (set views id w)
StagesClose-close setup words views id closed w count is_closed not_last zeros unused kept =
    let x = closed_word setup in
    let there : x < length words = omega arith in
    let c : get_or (set words x (closed + 1)) x 0 ≡ closed + 1 = get_or-set_same words x (closed + 1) 0 there in
    let other : (k : ℕ) → k < x → get_or (set words x (closed + 1)) k 0 ≡ get_or words k 0 = λ k low. get_or-set_other words x k (closed + 1) 0 (omega arith) in record {
      within = omega arith;
      enrolled = λ begun m b. other (enrolled_of setup m) (omega arith) ∙ none_enrolled m b (dec_le 1 closed);
      used = λ j below low. other j (omega arith) ∙ none_used j below (subst (λ (k : ℕ). j < stage_start setup k) c low) (dec_le (stage_start setup closed) j) (dec_le 1 closed);
    }
  where
    none_enrolled : (m : ℕ) → m < setup.shape.machines → Dec (1 ≤ closed) → get_or words (enrolled_of setup m) 0 ≡ 0
    none_enrolled m b (yes d) = kept.enrolled (omega arith) m b
    none_enrolled m b (no d) = zeros (enrolled_of setup m) (record { enrolled = λ e. (m, b, refl); used = λ e. absurd (omega arith) })

    -- of the stage that closes now
    at_stage : (j : ℕ) → j < units setup → j < stage_start setup (closed + 1) → stage_start setup closed ≤ j → 1 ≤ closed → Dec (target_of j + 1 ≤ setup.shape.machines) → get_or words j 0 ≡ 0
    at_stage j below low from late (no d) = unused j below (λ is. absurd (omega (arith, is.target)))
    at_stage j below low from late (yes d) =
        let s = stage_start-le setup 1 closed late in
        zeros j (record { enrolled = λ h. absurd (omega arith); used = λ h. (from, low, record { late = omega arith; below = below; target = omega arith }) })

    none_used : (j : ℕ) → j < units setup → j < stage_start setup (closed + 1) → Dec (stage_start setup closed ≤ j) → Dec (1 ≤ closed) → get_or words j 0 ≡ 0
    none_used j below low (no d) e = kept.used j below (subst (λ (k : ℕ). j < stage_start setup k) (sym is_closed) (omega arith))
    none_used j below low (yes d) (yes e) = at_stage j below low d e (dec_le (target_of j + 1) setup.shape.machines)
    none_used j below low (yes d) (no e) =
        let z : closed ≡ 0 = omega arith in
        let l : j < stage_start setup 1 = subst (λ (k : ℕ). j < stage_start setup (k + 1)) z low in unused j below (λ is. absurd (omega (arith, is.late)))
