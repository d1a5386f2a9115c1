-- A step keeps the whole rule: one lemma for each group of words.
use Rattle.std.proofs.Common.{◌≡◌, ◌≢◌, ℕ, List, [], ◌+◌, ◌<◌, ◌≤◌, ◌==◌, ◌&&◌, length, get_or, set, arith, ◌∙◌, nat_lt, nat_le}
use Rattle.std.proofs.lemmas.List.{length-set, set-get_or}
use mathlib.Core.Option.{some}
use lib.ListN.{get_elem?}
use Rattle.stage_credits.specs.declared.view.View.{View}
use Rattle.stage_credits.specs.declared.setup.Setup.{Setup}
use Rattle.stage_credits.specs.Layout.{units, stage_start, IsUnit, limit_at, word_count, cursor_of, enrolled_of, closed_word, roots_of}
use Rattle.stage_credits.specs.Lists.{one_if, times}
use Rattle.stage_credits.specs.Rule.{IsSound, IsWordOf, MarksAreZero, SawEnds, units_held, covers}
use Rattle.stage_credits.proofs.Frames.{stay, stay_above, stay_below}
use Rattle.stage_credits.proofs.Units.{UnitsAddUp-same, UnitsAddUp-used, UnitsAddUp-flying}
use Rattle.stage_credits.proofs.Workers.{WorkersAddUp-same, WorkersAddUp-retire}
use Rattle.stage_credits.proofs.Chunks.{ChunksAddUp-same, ChunksAddUp-saw, ChunksAddUp-retire, ChunksAddUp-claim}
use Rattle.stage_credits.proofs.Stages.{StagesClose-same, StagesClose-used, StagesClose-falls, StagesClose-close}
use Rattle.stage_credits.proofs.Marks.{MarksStay-same, MarksStay-used, MarksStay-saw, MarksStay-falls, MarksStay-close}

-- the views differ in their units and their trail at most
pub record SameBesideUnits (v w : View) : Type 0 where
  pub workers : w.workers ≡ v.workers
  pub enrolled : w.enrolled ≡ v.enrolled
  pub chunks : w.chunks ≡ v.chunks
  pub ended : w.ended ≡ v.ended
  pub closed : w.closed ≡ v.closed
  pub marks : w.marks ≡ v.marks

-- the view's trail grows, and no word changes
pub IsSound-look : (setup : Setup) (words : List ℕ) (views : List View) (id i : ℕ) (v w : View) → get_elem? views id ≡ some v → 0 < length v.workers
    → SameBesideUnits v w → ((k : ℕ) → units_held k w ≡ units_held k v) → IsSound setup words views → IsSound setup (set words i (get_or words i 0)) (set views id w)
IsSound-look setup words views id i v w at some_one side same kept = rw (set-get_or words i 0) (record {
  shape = kept.shape;
  counted = kept.counted;
  units_add_up = UnitsAddUp-same setup words words views id v w at (stay _ _ words) same kept.units_add_up;
  workers_add_up = WorkersAddUp-same setup words words views id v w at (stay _ _ words) some_one side.workers side.enrolled kept.workers_add_up;
  chunks_add_up = ChunksAddUp-same setup words words views id v w at (stay _ _ words) side.chunks side.ended kept.chunks_add_up;
  stages_close = StagesClose-same setup words words views id w (stay _ _ words) (stay _ _ words) kept.stages_close;
  marks_stay = MarksStay-same setup words words views id v w at (stay _ _ words) (stay _ _ words) side.closed side.marks kept.marks_stay;
})

-- a `used` word becomes n
pub IsSound-used : (setup : Setup) (words : List ℕ) (views : List View) (id i n : ℕ) (v w : View) → get_elem? views id ≡ some v → 0 < length v.workers
    → SameBesideUnits v w → IsUnit setup i → n + units_held i v ≡ get_or words i 0 + units_held i w → ((k : ℕ) → k ≢ i → units_held k w ≡ units_held k v) → n ≤ limit_at setup i
    → (get_or words i 0 < n → 1 ≤ get_or words (closed_word setup) 0 → stage_start setup (get_or words (closed_word setup) 0 + 1) ≤ i)
    → IsSound setup words views → IsSound setup (set words i n) (set views id w)
IsSound-used setup words views id i n v w at some_one side is_unit change others within above kept =
    let in_range : i < units setup = is_unit.below in record {
      shape = kept.shape;
      counted = length-set words i n ∙ kept.counted;
      units_add_up = UnitsAddUp-used setup words views id i n v w at kept.counted is_unit change others within kept.units_add_up;
      workers_add_up = WorkersAddUp-same setup words (set words i n) views id v w at (stay_above _ _ i n words (omega arith)) some_one side.workers side.enrolled kept.workers_add_up;
      chunks_add_up = ChunksAddUp-same setup words (set words i n) views id v w at (stay_above _ _ i n words (omega arith)) side.chunks side.ended kept.chunks_add_up;
      stages_close = StagesClose-used setup words views id i n w kept.counted in_range above kept.stages_close;
      marks_stay = MarksStay-used setup words views id i n v w at kept.counted in_range above side.closed side.marks kept.marks_stay;
    }

-- a `flying` word becomes n
pub IsSound-flying : (setup : Setup) (words : List ℕ) (views : List View) (id i n : ℕ) (v w : View) → get_elem? views id ≡ some v → 0 < length v.workers
    → SameBesideUnits v w → IsUnit setup i → n + units_held i w ≡ get_or words (units setup + i) 0 + units_held i v → ((k : ℕ) → k ≢ i → units_held k w ≡ units_held k v)
    → IsSound setup words views → IsSound setup (set words (units setup + i) n) (set views id w)
IsSound-flying setup words views id i n v w at some_one side is_unit change others kept =
    let in_range : i < units setup = is_unit.below in
    let x = units setup + i in
    let low = stay_below 0 (units setup) x n words (omega arith) in
    let rest = stay_above (enrolled_of setup 0) (word_count setup) x n words (omega arith) in record {
      shape = kept.shape;
      counted = length-set words x n ∙ kept.counted;
      units_add_up = UnitsAddUp-flying setup words views id i n v w at kept.counted is_unit change others kept.units_add_up;
      workers_add_up = WorkersAddUp-same setup words (set words x n) views id v w at (stay_above _ _ x n words (omega arith)) some_one side.workers side.enrolled kept.workers_add_up;
      chunks_add_up = ChunksAddUp-same setup words (set words x n) views id v w at (stay_above _ _ x n words (omega arith)) side.chunks side.ended kept.chunks_add_up;
      stages_close = StagesClose-same setup words (set words x n) views id w low rest kept.stages_close;
      marks_stay = MarksStay-same setup words (set words x n) views id v w at low rest side.closed side.marks kept.marks_stay;
    }

-- no word changes, and the view may see the end of a machine, what is closed, or a word at 0
pub IsSound-saw : (setup : Setup) (words : List ℕ) (views : List View) (id i : ℕ) (v w : View) → get_elem? views id ≡ some v → 0 < length v.workers
    → w.workers ≡ v.workers → w.enrolled ≡ v.enrolled → w.chunks ≡ v.chunks → ((k : ℕ) → units_held k w ≡ units_held k v)
    → SawEnds setup words w → w.closed ≤ get_or words (closed_word setup) 0 → MarksAreZero setup words w
    → IsSound setup words views → IsSound setup (set words i (get_or words i 0)) (set views id w)
IsSound-saw setup words views id i v w at some_one workers enrolled chunks same ends closed marked kept = rw (set-get_or words i 0) (record {
  shape = kept.shape;
  counted = kept.counted;
  units_add_up = UnitsAddUp-same setup words words views id v w at (stay _ _ words) same kept.units_add_up;
  workers_add_up = WorkersAddUp-same setup words words views id v w at (stay _ _ words) some_one workers enrolled kept.workers_add_up;
  chunks_add_up = ChunksAddUp-saw setup words views id v w at chunks ends kept.chunks_add_up;
  stages_close = StagesClose-same setup words words views id w (stay _ _ words) (stay _ _ words) kept.stages_close;
  marks_stay = MarksStay-saw setup words views id w closed marked kept.marks_stay;
})

-- the cursor of a machine goes from lo to hi
pub IsSound-claim : (setup : Setup) (words : List ℕ) (views : List View) (id machine lo hi : ℕ) (v w : View) → get_elem? views id ≡ some v → 0 < length v.workers → machine < setup.shape.machines
    → w.workers ≡ v.workers → w.enrolled ≡ v.enrolled → w.ended ≡ v.ended → w.closed ≡ v.closed → w.marks ≡ v.marks → ((k : ℕ) → units_held k w ≡ units_held k v)
    → ((m place : ℕ) → covers m place w.chunks ≡ one_if ((machine == m) && (nat_le lo place && nat_lt place hi)) + covers m place v.chunks)
    → get_or words (cursor_of setup machine) 0 ≡ lo → lo < hi → hi ≤ roots_of setup machine
    → IsSound setup words views → IsSound setup (set words (cursor_of setup machine) hi) (set views id w)
IsSound-claim setup words views id machine lo hi v w at some_one machine_in workers enrolled ended closed marks same more is_lo up in_roots kept =
    let x = cursor_of setup machine in
    let rest = stay_above (enrolled_of setup 0) (word_count setup) x hi words (omega arith) in
    let low = stay_below 0 (units setup) x hi words (omega arith) in record {
      shape = kept.shape;
      counted = length-set words x hi ∙ kept.counted;
      units_add_up = UnitsAddUp-same setup words (set words x hi) views id v w at (stay_below _ _ x hi words (omega arith)) same kept.units_add_up;
      workers_add_up = WorkersAddUp-same setup words (set words x hi) views id v w at (stay_above _ _ x hi words (omega arith)) some_one workers enrolled kept.workers_add_up;
      chunks_add_up = ChunksAddUp-claim setup words views id machine lo hi v w at kept.counted machine_in is_lo up in_roots more ended kept.chunks_add_up;
      stages_close = StagesClose-same setup words (set words x hi) views id w low rest kept.stages_close;
      marks_stay = MarksStay-same setup words (set words x hi) views id v w at low rest closed marks kept.marks_stay;
    }

-- a worker of the machine retires
pub IsSound-retire : (setup : Setup) (words : List ℕ) (views : List View) (id machine n : ℕ) (v w : View) → get_elem? views id ≡ some v → 0 < length v.workers → machine < setup.shape.machines
    → w.workers ≡ v.workers → w.chunks ≡ v.chunks → w.ended ≡ v.ended → w.closed ≡ v.closed → w.marks ≡ v.marks → ((k : ℕ) → units_held k w ≡ units_held k v)
    → n + 1 ≡ get_or words (enrolled_of setup machine) 0 → times machine w.enrolled + 1 ≡ times machine v.enrolled → ((k : ℕ) → k ≢ machine → times k w.enrolled ≡ times k v.enrolled)
    → 0 < times machine v.ended → IsSound setup words views → IsSound setup (set words (enrolled_of setup machine) n) (set views id w)
IsSound-retire setup words views id machine n v w at some_one machine_in workers chunks ended closed marks same down less others saw kept =
    let x = enrolled_of setup machine in record {
      shape = kept.shape;
      counted = length-set words x n ∙ kept.counted;
      units_add_up = UnitsAddUp-same setup words (set words x n) views id v w at (stay_below _ _ x n words (omega arith)) same kept.units_add_up;
      workers_add_up = WorkersAddUp-retire setup words views id machine n v w at kept.counted machine_in some_one workers down less others kept.workers_add_up;
      chunks_add_up = ChunksAddUp-retire setup words views id machine n v w at kept.counted machine_in chunks ended saw kept.chunks_add_up;
      stages_close = StagesClose-falls setup words views id x n w kept.counted (omega arith) (omega arith) kept.stages_close;
      marks_stay = MarksStay-falls setup words views id x n v w at kept.counted (omega arith) (omega arith) closed marks kept.marks_stay;
    }

-- the stage closes
pub IsSound-close : (setup : Setup) (words : List ℕ) (views : List View) (id closed : ℕ) (v w : View) → get_elem? views id ≡ some v → 0 < length v.workers
    → w.workers ≡ v.workers → w.enrolled ≡ v.enrolled → w.chunks ≡ v.chunks → w.ended ≡ v.ended → w.closed ≤ closed + 1 → w.marks ≡ [] → ((k : ℕ) → units_held k w ≡ units_held k v)
    → get_or words (closed_word setup) 0 ≡ closed → closed < setup.shape.stages → v.closed ≡ closed → ((word : ℕ) → IsWordOf setup closed word → 0 < times word v.marks)
    → IsSound setup words views → IsSound setup (set words (closed_word setup) (closed + 1)) (set views id w)
IsSound-close setup words views id closed v w at some_one workers enrolled chunks ended saw no_marks same is_closed not_last at_stage all_marked kept =
    let x = closed_word setup in
    let zeros : (word : ℕ) → IsWordOf setup closed word → get_or words word 0 ≡ 0 = λ word is. (kept.marks_stay.zero_yet id v at word (all_marked word is)).1 in record {
      shape = kept.shape;
      counted = length-set words x (closed + 1) ∙ kept.counted;
      units_add_up = UnitsAddUp-same setup words (set words x (closed + 1)) views id v w at (stay_below _ _ x (closed + 1) words (omega arith)) same kept.units_add_up;
      workers_add_up = WorkersAddUp-same setup words (set words x (closed + 1)) views id v w at (stay_below _ _ x (closed + 1) words (omega arith)) some_one workers enrolled kept.workers_add_up;
      chunks_add_up = ChunksAddUp-same setup words (set words x (closed + 1)) views id v w at (stay_below _ _ x (closed + 1) words (omega arith)) chunks ended kept.chunks_add_up;
      stages_close = StagesClose-close setup words views id closed w kept.counted is_closed not_last zeros kept.units_add_up.unused kept.stages_close;
      marks_stay = MarksStay-close setup words views id closed w kept.counted is_closed saw no_marks kept.marks_stay;
    }
