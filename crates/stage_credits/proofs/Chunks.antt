-- Each kind of change keeps the sums of the chunks.
use Rattle.std.proofs.Common.{◌≡◌, ◌≢◌, ℕ, Bool, true, false, List, ◌+◌, ◌<◌, ◌≤◌, ◌==◌, ◌&&◌, length, get_or, set, refl, sym, ap, arith, subst, ◌∙◌, nat_lt, nat_le}
use Rattle.std.proofs.lemmas.List.{get_or-set_same, get_or-set_other}
use Rattle.std.proofs.lemmas.Bool.Decides.{nat_tests}
use Rattle.std.specs.Prelude.{sum_by}
use mathlib.Core.Option.{some}
use mathlib.Core.Logic.{dite}
use native.Mathlib.Decide.{ℕ_discrete, dec_le}
use lib.ListN.{get_elem?}
use Rattle.stage_credits.specs.declared.view.View.{View}
use Rattle.stage_credits.specs.declared.setup.Setup.{Setup}
use Rattle.stage_credits.specs.Layout.{word_count, cursor_of, enrolled_of, closed_word, roots_of}
use Rattle.stage_credits.specs.Lists.{one_if, times}
use Rattle.stage_credits.specs.Rule.{covers, SawEnds, ChunksAddUp}
use Rattle.stage_credits.proofs.Sums.{sum_by-put}
use Rattle.stage_credits.proofs.Frames.{StaysBetween, Each-put, Each-map, sum_by-same}

pub ChunksAddUp-same : (setup : Setup) (words after : List ℕ) (views : List View) (id : ℕ) (v w : View) → get_elem? views id ≡ some v
    → StaysBetween (cursor_of setup 0) (closed_word setup) words after → w.chunks ≡ v.chunks → w.ended ≡ v.ended
    → ChunksAddUp setup words views → ChunksAddUp setup after (set views id w)
ChunksAddUp-same setup words after views id v w at stays same_chunks same_ended kept =
    let cursor : (m : ℕ) → m < setup.shape.machines → get_or after (cursor_of setup m) 0 ≡ get_or words (cursor_of setup m) 0 = λ m below. stays (cursor_of setup m) (omega arith) (omega arith) in
    let sums : (m place : ℕ) → sum_by (λ u. covers m place u.chunks) (set views id w) ≡ sum_by (λ u. covers m place u.chunks) views =
    λ m place. sum_by-same (λ u. covers m place u.chunks) views id v w at (ap (covers m place) same_chunks) in record {
      below = λ m place b lt. let c = cursor m b in sums m place ∙ kept.below m place b (omega arith);
      above = λ m place b le. let c = cursor m b in sums m place ∙ kept.above m place b (omega arith);
      within = λ m b. let c = cursor m b in let k = kept.within m b in omega arith;
      retired = λ m b lt. let f = stays (enrolled_of setup m) (omega arith) (omega arith) in cursor m b ∙ kept.retired m b (omega arith);
      ended =
          let Q : List ℕ → View → Type 0 = SawEnds setup in
          let old : Q words w = λ m b saw. kept.ended id v at m b (let e : times m w.ended ≡ times m v.ended = ap (times m) same_ended in omega arith) in
          Each-map (Q words) (Q after) (set views id w) (λ u q m b saw. cursor m b ∙ q m b saw) (Each-put (Q words) views id w old kept.ended);
    }

-- a view may see the end of a machine
pub ChunksAddUp-saw : (setup : Setup) (words : List ℕ) (views : List View) (id : ℕ) (v w : View) → get_elem? views id ≡ some v → w.chunks ≡ v.chunks
    → SawEnds setup words w
    → ChunksAddUp setup words views → ChunksAddUp setup words (set views id w)
ChunksAddUp-saw setup words views id v w at same_chunks saw kept =
    let sums : (m place : ℕ) → sum_by (λ u. covers m place u.chunks) (set views id w) ≡ sum_by (λ u. covers m place u.chunks) views =
    λ m place. sum_by-same (λ u. covers m place u.chunks) views id v w at (ap (covers m place) same_chunks) in record {
      below = λ m place b lt. sums m place ∙ kept.below m place b lt;
      above = λ m place b le. sums m place ∙ kept.above m place b le;
      within = kept.within;
      retired = kept.retired;
      ended = Each-put (SawEnds setup words) views id w saw kept.ended;
    }

-- an enrolled word falls, at a machine whose end was seen
pub ChunksAddUp-retire : (setup : Setup) (words : List ℕ) (views : List View) (id machine n : ℕ) (v w : View) → get_elem? views id ≡ some v
    → length words ≡ word_count setup → machine < setup.shape.machines
    → w.chunks ≡ v.chunks → w.ended ≡ v.ended → 0 < times machine v.ended
    → ChunksAddUp setup words views → ChunksAddUp setup (set words (enrolled_of setup machine) n) (set views id w)
ChunksAddUp-retire setup words views id machine n v w at count machine_in same_chunks same_ended saw kept =
    let x = enrolled_of setup machine in
    let after = set words x n in
    let cursor : (m : ℕ) → m < setup.shape.machines → get_or after (cursor_of setup m) 0 ≡ get_or words (cursor_of setup m) 0 =
    λ m below. get_or-set_other words x (cursor_of setup m) n 0 (omega arith) in
    let sums : (m place : ℕ) → sum_by (λ u. covers m place u.chunks) (set views id w) ≡ sum_by (λ u. covers m place u.chunks) views =
    λ m place. sum_by-same (λ u. covers m place u.chunks) views id v w at (ap (covers m place) same_chunks) in record {
      below = λ m place b lt. let c = cursor m b in sums m place ∙ kept.below m place b (omega arith);
      above = λ m place b le. let c = cursor m b in sums m place ∙ kept.above m place b (omega arith);
      within = λ m b. let c = cursor m b in let k = kept.within m b in omega arith;
      retired = λ m b lt.
          cursor m b ∙ dite (ℕ_discrete m machine)
          (λ (e : m ≡ machine). subst (λ (j : ℕ). get_or words (cursor_of setup j) 0 ≡ roots_of setup j) (sym e) (kept.ended id v at machine machine_in saw))
          (λ (ne : m ≢ machine). let f = get_or-set_other words x (enrolled_of setup m) n 0 (λ e. ne (omega arith)) in kept.retired m b (omega arith));
      ended =
          let Q : List ℕ → View → Type 0 = SawEnds setup in
          let old : Q words w = λ m b seen. kept.ended id v at m b (let e : times m w.ended ≡ times m v.ended = ap (times m) same_ended in omega arith) in
          Each-map (Q words) (Q after) (set views id w) (λ u q m b seen. cursor m b ∙ q m b seen) (Each-put (Q words) views id w old kept.ended);
    }

in_chunk : (machine lo hi m place : ℕ) → machine ≡ m → lo ≤ place → place < hi → one_if ((machine == m) && (nat_le lo place && nat_lt place hi)) ≡ 1
in_chunk machine lo hi m place same from to =
    let a : (machine == m) ≡ true = grind (arith, nat_tests) in
    let b : nat_le lo place ≡ true = grind (arith, nat_tests) in
    let c : nat_lt place hi ≡ true = grind (arith, nat_tests) in
    rw (a, b, c) refl

other_machine : (machine lo hi m place : ℕ) → machine ≢ m → one_if ((machine == m) && (nat_le lo place && nat_lt place hi)) ≡ 0
other_machine machine lo hi m place ne = let a : (machine == m) ≡ false = grind (arith, nat_tests) in rw a refl

before_chunk : (machine lo hi m place : ℕ) → place < lo → one_if ((machine == m) && (nat_le lo place && nat_lt place hi)) ≡ 0
before_chunk machine lo hi m place low = let b : nat_le lo place ≡ false = grind (arith, nat_tests) in rw b (go (machine == m))
  where
    go : (b : Bool) → one_if (b && false) ≡ 0
    go true = refl
    go false = refl

after_chunk : (machine lo hi m place : ℕ) → hi ≤ place → one_if ((machine == m) && (nat_le lo place && nat_lt place hi)) ≡ 0
after_chunk machine lo hi m place high = let b : nat_lt place hi ≡ false = grind (arith, nat_tests) in rw b (go (machine == m) (nat_le lo place))
  where
    go : (b c : Bool) → one_if (b && (c && false)) ≡ 0
    go true true = refl
    go true false = refl
    go false c = refl

-- the cursor goes from lo to hi
pub ChunksAddUp-claim : (setup : Setup) (words : List ℕ) (views : List View) (id machine lo hi : ℕ) (v w : View) → get_elem? views id ≡ some v
    → length words ≡ word_count setup → machine < setup.shape.machines
    → get_or words (cursor_of setup machine) 0 ≡ lo → lo < hi → hi ≤ roots_of setup machine
    → ((m place : ℕ) → covers m place w.chunks ≡ one_if ((machine == m) && (nat_le lo place && nat_lt place hi)) + covers m place v.chunks) → w.ended ≡ v.ended
    → ChunksAddUp setup words views → ChunksAddUp setup (set words (cursor_of setup machine) hi) (set views id w)
ChunksAddUp-claim setup words views id machine lo hi v w at count machine_in is_lo up in_roots more same_ended kept =
    let x = cursor_of setup machine in
    let there : x < length words = omega arith in
    let after = set words x hi in
    let here : get_or after x 0 ≡ hi = get_or-set_same words x hi 0 there in
    let other : (m : ℕ) → m ≢ machine → get_or after (cursor_of setup m) 0 ≡ get_or words (cursor_of setup m) 0 = λ m ne. get_or-set_other words x (cursor_of setup m) hi 0 (λ e. ne (omega arith)) in
    let enrolled : (m : ℕ) → get_or after (enrolled_of setup m) 0 ≡ get_or words (enrolled_of setup m) 0 = λ m. get_or-set_other words x (enrolled_of setup m) hi 0 (omega arith) in
    let sums : (m place : ℕ) → sum_by (λ u. covers m place u.chunks) (set views id w) ≡ sum_by (λ u. covers m place u.chunks) views + one_if ((machine == m) && (nat_le lo place && nat_lt place hi)) =
    λ m place. let s = sum_by-put (λ u. covers m place u.chunks) views id v w at in let e = more m place in omega arith in
    let Below : ℕ → Type 0 = λ m. (place : ℕ) → m < setup.shape.machines → place < get_or after (cursor_of setup m) 0 → sum_by (λ u. covers m place u.chunks) (set views id w) ≡ 1 in
    let Above : ℕ → Type 0 = λ m. (place : ℕ) → m < setup.shape.machines → get_or after (cursor_of setup m) 0 ≤ place → sum_by (λ u. covers m place u.chunks) (set views id w) ≡ 0 in
    let below_here : Below machine = λ place b lt. let s = sums machine place in
    dite (dec_le lo place)
    (λ (d : lo ≤ place). let k = kept.above machine place machine_in (omega arith) in let t = in_chunk machine lo hi machine place refl d (omega arith) in omega arith)
    (λ (d : ¬ (lo ≤ place)). let k = kept.below machine place machine_in (omega arith) in let t = before_chunk machine lo hi machine place (omega arith) in omega arith) in
    let above_here : Above machine = λ place b le. let s = sums machine place in
    let k = kept.above machine place machine_in (omega arith) in let t = after_chunk machine lo hi machine place (omega arith) in omega arith in
    let by_machine : (Q : ℕ → Type 0) (m : ℕ) → Q machine → (m ≢ machine → Q m) → Q m = λ Q m q n. dite (ℕ_discrete m machine) (λ (e : m ≡ machine). subst Q (sym e) q) n in record {
      below = λ m place b lt.
          by_machine Below m below_here
          (λ ne pl bm l. let o = other m ne in let s = sums m pl in let t = other_machine machine lo hi m pl (λ e. ne (sym e)) in let k = kept.below m pl bm (omega arith) in omega arith)
          place b lt;
      above = λ m place b le.
          by_machine Above m above_here
          (λ ne pl bm l. let o = other m ne in let s = sums m pl in let t = other_machine machine lo hi m pl (λ e. ne (sym e)) in let k = kept.above m pl bm (omega arith) in omega arith)
          place b le;
      within = λ m b. by_machine (λ j. get_or after (cursor_of setup j) 0 ≤ roots_of setup j) m (omega arith) (λ ne. let o = other m ne in let k = kept.within m b in omega arith);
      retired = λ m b lt.
          by_machine (λ j. get_or words (cursor_of setup j) 0 ≡ roots_of setup j → get_or after (cursor_of setup j) 0 ≡ roots_of setup j) m
          (λ at_end. absurd (omega arith)) (λ ne at_end. other m ne ∙ at_end) (let f = enrolled m in kept.retired m b (omega arith));
      ended =
          let Q : List ℕ → View → Type 0 = SawEnds setup in
          let old : Q words w = λ m b seen. kept.ended id v at m b (let e : times m w.ended ≡ times m v.ended = ap (times m) same_ended in omega arith) in
          Each-map (Q words) (Q after) (set views id w)
          (λ u q m b seen. by_machine (λ j. get_or words (cursor_of setup j) 0 ≡ roots_of setup j → get_or after (cursor_of setup j) 0 ≡ roots_of setup j) m
          (λ at_end. absurd (omega arith)) (λ ne at_end. other m ne ∙ at_end) (q m b seen))
          (Each-put (Q words) views id w old kept.ended);
    }
