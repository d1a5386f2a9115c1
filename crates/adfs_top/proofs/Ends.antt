-- What was put by a run that came to its puts, and by one that didn't.
use Rattle.std.proofs.Common.{◌≡◌, ℕ, ◌+◌, ◌<◌, ◌++◌, List, [], ◌∷◌, codes, length, length-append, lit<, map, take, drop, slice_index_or, ap, sym, ◌∙◌, Option, Some, None, Result, Ok, Err, IsOk, Bool, true, false, ◌⊎◌, inl, inr, IfSome, subst, refl, arith, Global, Vec}
use Rattle.std.specs.Fmt.{decimal}
use Rattle.std.specs.List.{flat_map}
use Rattle.std.proofs.lemmas.List.{get_or-map, length-map, take-map}
use Rattle.adfs_base.specs.Bytes.{TookFront}
use Rattle.cli_words.specs.declared.options.Options.{Options}
use Rattle.generated_reply.specs.Summary.{made_text}
use Rattle.graph_tables.specs.Graph.{PropertyGraph}
use Rattle.graph_tables.specs.Properties.{SchemaLists}
use Rattle.query_replies.specs.Faults.{refusal_of_planning, refusal_of_syntax, refusal_of_typing}
use Rattle.query_replies.specs.Replies.{Answering, AreAnswers, Meaningful, Meaningless, Reading, Unread, plan_in_words, rows_over, text_by, text_of}
use Rattle.query_replies.specs.declared.answers.Replies.{Replies}
use Rattle.pgql_meaning.specs.Answer.{answer_of}
use Rattle.result_collect.specs.Refusals as refusal_texts
use Rattle.result_collect.specs.Refusals.{name_of, refusal_text}
use Rattle.result_collect.specs.Replies as reply_texts
use Rattle.result_collect.specs.Replies.{names_text, row_text}
use Rattle.result_collect.specs.declared.refusal.Refusal.{Refusal}
use Rattle.result_collect.specs.declared.refusal.Refusal.TheVariants.{At, NeedsMore, TooWide}
use Rattle.run_replies.specs.Causes.{FailsAt, StoreCause, WordsGive}
use Rattle.run_replies.specs.Jobs.{Job, schema_of, without_texts}
use Rattle.run_replies.specs.Outcome.{Answers, Generated, Help, IsDoneBy, Plans, Taken, Traced, Work}
use Rattle.run_replies.specs.Parts.{IsBeforePuts, RepliesGive}
use Rattle.run_replies.specs.Traces.{AnswersFirst, IsRefusedBy, IsToldOf, IsTraceOf}
use Rattle.trace_text.specs.Headers.{header_lines, with_feeds}
use Rattle.trace_text.specs.declared.header.Header.{Header}
use Rattle.stage_plan.specs.PlanText as plan_texts
use Rattle.stage_plan.specs.PlanText.{hop_lines}
use Rattle.stage_plan.specs.Plans.{Course, plan_of, planned}
use Rattle.stage_plan.specs.declared.fault.PlanFault.{PlanFault}
use Rattle.typed_query.specs.declared.query.Query.{Query}
use Rattle.adfs_top.specs.Puts.{AreFull, EndsPuts, Puts, PutsNothing, Told, TookPart, after_puts}
use Rattle.run_status.specs.declared.status.Status.{Status}
use Rattle.run_status.specs.declared.status.Status.TheVariants as variant
use Rattle.run_status.specs.declared.status.Status.TheVariants.{Done, Limit, Missing, NoMemory, NotBuilt, OwnerFault, ReadFault, ReplayRefused, SomeRefused, Usage, WriteFault}

-- ---- one put after the other

-- a put that fails, after those of the texts before it
pub stops_at : (texts : List (Vec ℕ Global)) (i : ℕ) (text : Vec ℕ Global) (piece : List ℕ) (old mid new : Told)
    → i < length texts → text ≡ slice_index_or texts i text → piece ≡ text.items
    → mid ≡ after_puts old (map (λ t. t.items) (take i texts)) → TookFront mid.0 piece new.0 → new.1 ≡ mid.1
    → TookPart old (map (λ t. t.items) texts) new
stops_at texts i text piece old mid new inside is value whole front pieces =
    let all = map (λ (t : Vec ℕ Global). t.items) texts in
    let at : slice_index_or all i [] ≡ piece = get_or-map (λ (t : Vec ℕ Global). t.items) texts i text [] inside ∙ ap (λ (t : Vec ℕ Global). t.items) (sym is) ∙ sym value in
    let mid_is : mid ≡ after_puts old (take i all) = whole ∙ ap (after_puts old) (sym (take-map (λ (t : Vec ℕ Global). t.items) i texts)) in
    let front_mid : TookFront (after_puts old (take i all)).0 piece new.0 = subst (λ m. TookFront m.0 piece new.0) mid_is front in (
      i,
      subst (λ n. i < n) (sym (length-map texts (λ t. t.items))) inside,
      subst (λ p. TookFront (after_puts old (take i all)).0 p new.0) (sym at) front_mid,
      pieces ∙ ap (λ (m : Told). m.1) mid_is,
    )

-- ---- no reply is empty

begun : (x : ℕ) (xs : List ℕ) → 0 < length (x ∷ xs)
begun x xs = omega arith

query_begun : (rest : List ℕ) → 0 < length (codes "query " ++ rest)
query_begun rest = begun 113 (codes "uery " ++ rest)

front_begun : (front rest : List ℕ) → 0 < length front → 0 < length (front ++ rest)
front_begun front rest begins = grind (arith, length-append)

refused_begun : (number : ℕ) (why : List ℕ) → 0 < length (refusal_texts.refused number why)
refused_begun number why = query_begun (decimal number ++ (codes " refused " ++ why))

refusal_begun : (number : ℕ) (refusal : Refusal) → 0 < length (refusal_text number refusal)
refusal_begun number (At code at) = refused_begun number (decimal code ++ (codes " " ++ (name_of code ++ (codes " at " ++ (decimal at ++ 10 ∷ [])))))
refusal_begun number (TooWide words) = refused_begun number (codes "47 TooWide words " ++ (decimal words ++ 10 ∷ []))
refusal_begun number (NeedsMore need pool) = refused_begun number (codes "52 NeedsMore need " ++ (decimal need ++ (codes " pool " ++ (decimal pool ++ 10 ∷ []))))

-- what is answered begins so, whatever is asked
begun_by : (answer : List ℕ) (number : ℕ) (plan : Result Course PlanFault) → 0 < length answer → 0 < length (text_by answer number plan)
begun_by answer number (Ok plan) begins = begins
begun_by answer number (Err e) begins = refusal_begun number (refusal_of_planning e)

abbrev IsBegun : Answering → Type 0
IsBegun answering = (texts : List (List ℕ)) (number : ℕ) (query : Query) → 0 < length (answering texts number query)

answer_begun : (answering : Answering) (texts : List (List ℕ)) (number : ℕ) (reading : Reading) → IsBegun answering → 0 < length (text_of answering texts number reading)
answer_begun answering texts number (Unread e) begins = refusal_begun number (refusal_of_syntax e)
answer_begun answering texts number (Meaningless tree e) begins = refusal_begun number (refusal_of_typing e)
answer_begun answering texts number (Meaningful tree query) begins = begun_by (answering texts number query) number (planned query) (begins texts number query)

full_answers : (answering : Answering) → IsBegun answering → (schema : SchemaLists) (file : List ℕ) (number : ℕ) (places : List (ℕ × ℕ)) (old new replies : List (List ℕ)) (refused : Bool)
    → AreAnswers answering schema file number places old new replies refused → AreFull replies
full_answers answering begins schema file number [] old new [] refused are = tt
full_answers answering begins schema file number [] old new (reply ∷ replies) refused are = absurd are
full_answers answering begins schema file number (place ∷ places) old new [] refused are = absurd are
full_answers answering begins schema file number (place ∷ places) old new (reply ∷ replies) refused are = (
  subst (λ text. 0 < length text) (sym are.3.reply_is) (answer_begun answering are.0 number are.3.reading begins),
  full_answers answering begins schema file (number + 1) places are.0 new replies are.2 are.4,
)

rows_begun : (graph : PropertyGraph) → IsBegun (rows_over graph)
rows_begun graph texts number query =
    let rows = answer_of texts graph query in
    front_begun (reply_texts.head_text number (length rows)) (names_text query ++ flat_map (row_text texts) rows)
    (query_begun (decimal number ++ (codes " rows " ++ (decimal (length rows) ++ 10 ∷ []))))

plan_begun : IsBegun plan_in_words
plan_begun texts number query =
    let plan = plan_of query in
    front_begun (plan_texts.head_text number (length plan.stages) plan.words) (hop_lines query 0 plan.hops)
    (query_begun (decimal number ++ (codes " stages " ++ (decimal (length plan.stages) ++ (codes " words " ++ (decimal plan.words ++ 10 ∷ []))))))

-- one text alone
one_full : (text : List ℕ) (replies : List (List ℕ)) → replies ≡ text ∷ [] → 0 < length text → AreFull replies
one_full text replies are begins = subst AreFull (sym are) (begins, tt)

refused_full : (job : Job) (place : ℕ × ℕ) (line : List ℕ) → IsRefusedBy job place line → 0 < length line
refused_full job place line refused =
    let answer = refused.refusal plan_in_words in
    subst (λ text. 0 < length text) (sym answer.reply_is) (answer_begun plan_in_words refused.texts 1 answer.reading plan_begun)

trace_full : (header : Header) (job : Job) (place : ℕ × ℕ) (text : List ℕ) → IsTraceOf header job place text → 0 < length text
trace_full header job place text trace =
    subst (λ text. 0 < length text) (sym trace.trace.text_is)
    (front_begun (with_feeds (header_lines header)) (trace.trace.run ++ _) (begun 97 (codes "dfs-trace 1" ++ 10 ∷ with_feeds (drop 1 (header_lines header)))))

told_full : (header : Header) (bytes : List ℕ) (job : Job) (place : ℕ × ℕ) (text : List ℕ) → IsToldOf header bytes job place text → 0 < length text
told_full header bytes job place text told = subst (λ text. 0 < length text) (sym told.text_is) (front_begun (codes "replayed ") _ (begun 114 (codes "eplayed ")))

first_full : (job : Job) (IsDue : ℕ × ℕ → List ℕ → Type 0) → ((place : ℕ × ℕ) (text : List ℕ) → IsDue place text → 0 < length text) → (places : List (ℕ × ℕ)) (replies : List (List ℕ)) (refused : Bool)
    → AnswersFirst job IsDue places replies refused → AreFull replies
first_full job IsDue begins [] replies refused done = subst AreFull (sym done.0) tt
first_full job IsDue begins (place ∷ later) replies refused done = one_full done.0 replies done.1 (by done.2)
  where
    by : ((refused ≡ true) × IsRefusedBy job place done.0) ⊎ ((refused ≡ false) × IsDue place done.0) → 0 < length done.0
    by (inl line) = refused_full job place done.0 line.1
    by (inr due) = begins place done.0 due.1

full_work : (work : Work) (replies : List (List ℕ)) (refused : Bool) → IsDoneBy work replies refused → AreFull replies
full_work Help replies refused done = subst AreFull (sym done.0) (lit< tt, tt)
full_work (Answers job) replies refused done =
    full_answers (rows_over (without_texts job.graph)) (rows_begun (without_texts job.graph)) (schema_of job.graph) job.file 1 job.places job.graph.texts done.0 replies refused done.1
full_work (Plans job) replies refused done = full_answers plan_in_words plan_begun (schema_of job.graph) job.file 1 job.places job.graph.texts done.0 replies refused done.1
full_work (Traced header job) replies refused done = first_full job (IsTraceOf header job) (trace_full header job) job.places replies refused done
full_work (Taken header bytes job) replies refused done = first_full job (IsToldOf header bytes job) (told_full header bytes job) job.places replies refused done
full_work (Generated vertices edges graph) replies refused done =
    one_full done.text replies done.replies_are (subst (λ text. 0 < length text) (sym done.brief.after)
    (front_begun (made_text vertices edges) done.brief.rows (front_begun (codes "generated ") _ (begun 103 (codes "enerated ")))))

-- ---- how a run ends

-- a run that came to its puts
puts_of : (status : Status) (replies : Replies) (outcome : Result Work Status) (old new : Told) → RepliesGive (Ok replies) outcome → EndsPuts status replies old new
    → Puts status outcome old new
puts_of Done replies outcome old new gives ends =
    (gives.0, map (λ text. text.items) replies.texts.items, gives.1, subst (IsDoneBy gives.0 (map (λ text. text.items) replies.texts.items)) ends.0 gives.2, full_work gives.0 (map (λ text. text.items) replies.texts.items) replies.refused gives.2, ends.1)
puts_of SomeRefused replies outcome old new gives ends =
    (gives.0, map (λ text. text.items) replies.texts.items, gives.1, subst (IsDoneBy gives.0 (map (λ text. text.items) replies.texts.items)) ends.0 gives.2, full_work gives.0 (map (λ text. text.items) replies.texts.items) replies.refused gives.2, ends.1)
puts_of WriteFault replies outcome old new gives ends = (gives.0, map (λ text. text.items) replies.texts.items, replies.refused, gives.1, gives.2, full_work gives.0 (map (λ text. text.items) replies.texts.items) replies.refused gives.2, ends)
puts_of (Usage word) replies outcome old new gives ends = absurd ends
puts_of (variant.TableFault file row column code cell) replies outcome old new gives ends = absurd ends
puts_of (OwnerFault e) replies outcome old new gives ends = absurd ends
puts_of (ReadFault file) replies outcome old new gives ends = absurd ends
puts_of (Missing file) replies outcome old new gives ends = absurd ends
puts_of NoMemory replies outcome old new gives ends = absurd ends
puts_of (Limit quantity number) replies outcome old new gives ends = absurd ends
puts_of (ReplayRefused line code guard) replies outcome old new gives ends = absurd ends
puts_of (NotBuilt what) replies outcome old new gives ends = absurd ends

pub puts_told : {F : Type 0} (files : Option F) (status : Status) (replies : Replies) (outcome : F → Result Work Status) (old new : Told)
    → IfSome files (λ told. RepliesGive (Ok replies) (outcome told)) → EndsPuts status replies old new → IfSome files (λ told. Puts status (outcome told) old new)
puts_told None status replies outcome old new gives ends = tt
puts_told (Some told) status replies outcome old new gives ends = puts_of status replies (outcome told) old new gives ends

-- a run that didn't
ended : (status : Status) (outcome : Result Work Status) (old : Told) → IsBeforePuts status → RepliesGive (Err status) outcome → Puts status outcome old old
ended Done outcome old before gives = absurd before
ended SomeRefused outcome old before gives = absurd before
ended WriteFault outcome old before gives = absurd before
ended (ReadFault file) outcome old before gives = refl
ended NoMemory outcome old before gives = refl
ended (Usage word) outcome old before gives = (gives, refl)
ended (variant.TableFault file row column code cell) outcome old before gives = (gives, refl)
ended (OwnerFault e) outcome old before gives = (gives, refl)
ended (Missing file) outcome old before gives = (gives, refl)
ended (Limit quantity number) outcome old before gives = (gives, refl)
ended (ReplayRefused line code guard) outcome old before gives = (gives, refl)
ended (NotBuilt what) outcome old before gives = (gives, refl)

pub ended_told : {F : Type 0} (files : Option F) (status : Status) (outcome : F → Result Work Status) (old : Told)
    → IsBeforePuts status → IfSome files (λ told. RepliesGive (Err status) (outcome told)) → IfSome files (λ told. Puts status (outcome told) old old)
ended_told None status outcome old before gives = tt
ended_told (Some told) status outcome old before gives = ended status (outcome told) old before gives

pub ended_quiet : (status : Status) (old : Told) → IsBeforePuts status → PutsNothing status old old
ended_quiet Done old before = absurd before
ended_quiet SomeRefused old before = absurd before
ended_quiet WriteFault old before = absurd before
ended_quiet status old before = refl

-- such a run has no other status
pub ends_store : {F : Type 0} (status : Status) (replies : Replies) (old new : Told) (files : Option F) (faults faults_now misses misses_now : ℕ) → EndsPuts status replies old new
    → StoreCause status files faults faults_now misses misses_now
ends_store Done replies old new files faults faults_now misses misses_now ends = tt
ends_store SomeRefused replies old new files faults faults_now misses misses_now ends = tt
ends_store WriteFault replies old new files faults faults_now misses misses_now ends = tt
ends_store (Usage word) replies old new files faults faults_now misses misses_now ends = absurd ends
ends_store (variant.TableFault file row column code cell) replies old new files faults faults_now misses misses_now ends = absurd ends
ends_store (OwnerFault e) replies old new files faults faults_now misses misses_now ends = absurd ends
ends_store (ReadFault file) replies old new files faults faults_now misses misses_now ends = absurd ends
ends_store (Missing file) replies old new files faults faults_now misses misses_now ends = absurd ends
ends_store NoMemory replies old new files faults faults_now misses misses_now ends = absurd ends
ends_store (Limit quantity number) replies old new files faults faults_now misses misses_now ends = absurd ends
ends_store (ReplayRefused line code guard) replies old new files faults faults_now misses misses_now ends = absurd ends
ends_store (NotBuilt what) replies old new files faults faults_now misses misses_now ends = absurd ends

pub ends_quiet : (status : Status) (replies : Replies) (old new : Told) → EndsPuts status replies old new → PutsNothing status old new
ends_quiet Done replies old new ends = tt
ends_quiet SomeRefused replies old new ends = tt
ends_quiet WriteFault replies old new ends = tt
ends_quiet (Usage word) replies old new ends = absurd ends
ends_quiet (variant.TableFault file row column code cell) replies old new ends = absurd ends
ends_quiet (OwnerFault e) replies old new ends = absurd ends
ends_quiet (ReadFault file) replies old new ends = absurd ends
ends_quiet (Missing file) replies old new ends = absurd ends
ends_quiet NoMemory replies old new ends = absurd ends
ends_quiet (Limit quantity number) replies old new ends = absurd ends
ends_quiet (ReplayRefused line code guard) replies old new ends = absurd ends
ends_quiet (NotBuilt what) replies old new ends = absurd ends

pub ends_place : (Reaches : ℕ → Type 0) (status : Status) (replies : Replies) (old new : Told) → EndsPuts status replies old new → FailsAt Reaches status
ends_place Reaches (ReadFault file) replies old new ends = absurd ends
ends_place Reaches (Missing file) replies old new ends = absurd ends
ends_place Reaches status replies old new ends = tt

pub ends_words : (status : Status) (replies : Replies) (old new : Told) (words : Result Options Status) → IsOk words → EndsPuts status replies old new → WordsGive status words
ends_words (Usage word) replies old new words ok ends = absurd ends
ends_words (NotBuilt what) replies old new words ok ends = absurd ends
ends_words NoMemory replies old new words ok ends = tt
ends_words status replies old new words ok ends = ok
