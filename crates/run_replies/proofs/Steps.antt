-- A run whose first step went well, by what its second step gave.
use Rattle.std.proofs.Common.{◌≡◌, ℕ, ◌≤◌, map, ap, ◌∙◌, Option, Some, None, Result, Ok, Err, inl, inr, IfOk, IfSome, IfErr, MatchOption, arith, subst, refl}
use Rattle.adfs_base.specs.Counts.{Rose}
use Rattle.adfs_base.specs.Files.{Files}
use Rattle.adfs_base.specs.declared.no_memory.NoMemory.{NoMemory as OutOfMemory}
use Rattle.generated_reply.specs.Summary.{Summarizes}
use Rattle.graph_tables.specs.Graph.{PropertyGraph}
use Rattle.graph_tables.specs.declared.faults.TableFault.{TableFault}
use Rattle.query_replies.specs.declared.answers.Replies.{Replies}
use Rattle.run_replies.specs.Causes.{FailsAt, StoreCause}
use Rattle.run_replies.specs.Jobs.{Job}
use Rattle.run_replies.specs.Outcome.{Generated, IsDoneBy, Work}
use Rattle.run_replies.specs.Parts.{IsOfBytes, IsOfFiles, IsOfWords, PartGives, RepliesGive}
use Rattle.run_replies.specs.Reaching.{Then}
use Rattle.run_replies.specs.Stores.{ReadsFiles, Tells}
use Rattle.run_replies.specs.Telling.{with_memory}
use Rattle.run_status.specs.Faults.{with_status}
use Rattle.run_status.specs.Steps.{◌>>~◌}
use Rattle.run_status.specs.declared.status.Status.{Status}
use Rattle.run_status.specs.declared.status.Status.TheVariants as variant
use Rattle.run_status.specs.declared.status.Status.TheVariants.{Done, Limit, Missing, NoMemory, NotBuilt, OwnerFault, ReadFault, ReplayRefused, SomeRefused, Usage, WriteFault}

-- ---- what the steps give

-- a step that fails, before another
part_fails : {X Y Z W : Type 0} (view : X → Y) (seen : Z → W) (status : Status) (part : Result Y Status) (next : Y → Result W Status)
    → PartGives view (Err status) part → PartGives seen (Err status) (part >>~ next)
part_fails view seen Done part next gives = rw gives refl
part_fails view seen SomeRefused part next gives = rw gives refl
part_fails view seen (Usage word) part next gives = rw gives refl
part_fails view seen (variant.TableFault file row column code cell) part next gives = rw gives refl
part_fails view seen (OwnerFault e) part next gives = rw gives refl
part_fails view seen (ReadFault file) part next gives = tt
part_fails view seen (Missing file) part next gives = rw gives refl
part_fails view seen WriteFault part next gives = rw gives refl
part_fails view seen NoMemory part next gives = tt
part_fails view seen (Limit quantity number) part next gives = rw gives refl
part_fails view seen (ReplayRefused line code guard) part next gives = rw gives refl
part_fails view seen (NotBuilt what) part next gives = rw gives refl

replies_fail : {X Y : Type 0} (view : X → Y) (status : Status) (part : Result Y Status) (next : Y → Result Work Status)
    → PartGives view (Err status) part → RepliesGive (Err status) (part >>~ next)
replies_fail view Done part next gives = rw gives refl
replies_fail view SomeRefused part next gives = rw gives refl
replies_fail view (Usage word) part next gives = rw gives refl
replies_fail view (variant.TableFault file row column code cell) part next gives = rw gives refl
replies_fail view (OwnerFault e) part next gives = rw gives refl
replies_fail view (ReadFault file) part next gives = tt
replies_fail view (Missing file) part next gives = rw gives refl
replies_fail view WriteFault part next gives = rw gives refl
replies_fail view NoMemory part next gives = tt
replies_fail view (Limit quantity number) part next gives = rw gives refl
replies_fail view (ReplayRefused line code guard) part next gives = inl (rw gives refl)
replies_fail view (NotBuilt what) part next gives = rw gives refl

-- the same where the files may be told
pub part_fails_told : {X Y Z W F : Type 0} (view : X → Y) (seen : Z → W) (files : Option F) (status : Status) (part : F → Result Y Status) (next : F → Y → Result W Status)
    → IfSome files (λ told. PartGives view (Err status) (part told)) → IfSome files (λ told. PartGives seen (Err status) (part told >>~ next told))
part_fails_told view seen None status part next gives = tt
part_fails_told view seen (Some told) status part next gives = part_fails view seen status (part told) (next told) gives

pub replies_fail_told : {X Y F : Type 0} (view : X → Y) (files : Option F) (status : Status) (part : F → Result Y Status) (next : F → Y → Result Work Status)
    → IfSome files (λ told. PartGives view (Err status) (part told)) → IfSome files (λ told. RepliesGive (Err status) (part told >>~ next told))
replies_fail_told view None status part next gives = tt
replies_fail_told view (Some told) status part next gives = replies_fail view status (part told) (next told) gives

pub words_fail_told : {X Y F : Type 0} (view : X → Y) (files : Option F) (status : Status) (part : Result Y Status) (next : F → Y → Result Work Status)
    → PartGives view (Err status) part → IfSome files (λ told. RepliesGive (Err status) (part >>~ next told))
words_fail_told view None status part next gives = tt
words_fail_told view (Some told) status part next gives = replies_fail view status part (next told) gives

-- a step that goes well, before another that reads no file
part_goes_on : {Y Z W : Type 0} (seen : Z → W) (part : Result Y Status) (x : Y) (next : Y → Result W Status) (result : Result Z Status)
    → part ≡ Ok x → PartGives seen result (next x) → PartGives seen result (part >>~ next)
part_goes_on seen part x next result is gives = rw is gives

pub part_then_told : {Y Z W F : Type 0} (seen : Z → W) (files : Option F) (part : F → Result Y Status) (x : Y) (next : Y → Result W Status) (result : Result Z Status)
    → IfSome files (λ told. part told ≡ Ok x) → PartGives seen result (next x) → IfSome files (λ told. PartGives seen result (part told >>~ next))
part_then_told seen None part x next result is gives = tt
part_then_told seen (Some told) part x next result is gives = part_goes_on seen (part told) x next result is gives

-- and before one that reads files too
pub part_goes_on_told : {Y Z W F : Type 0} (seen : Z → W) (files left : Option F) (part : F → Result Y Status) (x : Y) (next : F → Y → Result W Status) (result : Result Z Status) → left ≡ files
    → IfSome files (λ told. part told ≡ Ok x) → IfSome left (λ told. PartGives seen result (next told x)) → IfSome files (λ told. PartGives seen result (part told >>~ next told))
part_goes_on_told seen None left part x next result kept is gives = tt
part_goes_on_told seen (Some told) left part x next result kept is gives =
    part_goes_on seen (part told) x (next told) result is (subst (λ f. IfSome f (λ told'. PartGives seen result (next told' x))) kept gives)

replies_go_on : {Y : Type 0} (part : Result Y Status) (x : Y) (next : Y → Result Work Status) (result : Result Replies Status) → part ≡ Ok x → RepliesGive result (next x) → RepliesGive result (part >>~ next)
replies_go_on part x next result is gives = rw is gives

pub replies_go_on_told : {Y F : Type 0} (files left : Option F) (part : F → Result Y Status) (x : Y) (next : F → Y → Result Work Status) (result : Result Replies Status) → left ≡ files
    → IfSome files (λ told. part told ≡ Ok x) → IfSome left (λ told. RepliesGive result (next told x)) → IfSome files (λ told. RepliesGive result (part told >>~ next told))
replies_go_on_told None left part x next result kept is gives = tt
replies_go_on_told (Some told) left part x next result kept is gives =
    replies_go_on (part told) x (next told) result is (subst (λ f. IfSome f (λ told'. RepliesGive result (next told' x))) kept gives)

-- the same where the words come first, which rest on no file
pub words_go_on_told : {Y F : Type 0} (files : Option F) (part : Result Y Status) (x : Y) (next : F → Y → Result Work Status) (result : Result Replies Status)
    → part ≡ Ok x → IfSome files (λ told. RepliesGive result (next told x)) → IfSome files (λ told. RepliesGive result (part >>~ next told))
words_go_on_told None part x next result is gives = tt
words_go_on_told (Some told) part x next result is gives = replies_go_on part x (next told) result is gives

-- what is made of a job that was loaded
pub work_given : {F : Type 0} (files : Option F) (part : F → Result Job Status) (job : Job) (work : Job → Work) (result : Result Replies Status)
    → IfSome files (λ told. part told ≡ Ok job) → RepliesGive result (Ok (work job)) → IfSome files (λ told. RepliesGive result (part told >>~ λ job'. Ok (work job')))
work_given None part job work result is gives = tt
work_given (Some told) part job work result is gives = replies_go_on (part told) job (λ job'. Ok (work job')) result is gives

-- whatever files are told
pub any_files : {F : Type 0} (files : Option F) (result : Result Replies Status) (part : Result Work Status) → RepliesGive result part → IfSome files (λ told. RepliesGive result part)
any_files None result part gives = tt
any_files (Some told) result part gives = gives

-- replies that do the work, unless memory ran out
pub made : (work : Work) (replies : Result Replies OutOfMemory) → IfOk replies (λ found. IsDoneBy work (map (λ text. text.items) found.texts.items) found.refused)
    → RepliesGive (with_memory replies) (Ok work)
made work (Ok found) done = (work, refl, done)
made work (Err e) done = tt

-- ---- causes

-- what rose since the middle rose since the start
Rose-earlier : (start middle now : ℕ) → start ≤ middle → Rose middle now → Rose start now
Rose-earlier start middle now later rose = omega (arith, later, rose)

missing_earlier : {F : Type 0} (files : Option F) (start middle now : ℕ) → start ≤ middle
    → MatchOption files (Rose middle now) (λ _. Unit {0}) → MatchOption files (Rose start now) (λ _. Unit {0})
missing_earlier None start middle now later rose = Rose-earlier start middle now later rose
missing_earlier (Some f) start middle now later rose = tt

StoreCause-earlier : {F : Type 0} (status : Status) (files : Option F) (faults faults_middle faults_now misses misses_middle misses_now : ℕ)
    → faults ≤ faults_middle → misses ≤ misses_middle
    → StoreCause status files faults_middle faults_now misses_middle misses_now → StoreCause status files faults faults_now misses misses_now
StoreCause-earlier (ReadFault file) files faults faults_middle faults_now misses misses_middle misses_now more_faults more_misses cause =
    Rose-earlier faults faults_middle faults_now more_faults cause
StoreCause-earlier (Missing file) files faults faults_middle faults_now misses misses_middle misses_now more_faults more_misses cause =
    missing_earlier files misses misses_middle misses_now more_misses cause
StoreCause-earlier status files faults faults_middle faults_now misses misses_middle misses_now more_faults more_misses cause = tt

cause_earlier : {X F : Type 0} (result : Result X Status) (files left : Option F) (faults faults_middle faults_now misses misses_middle misses_now : ℕ)
    → left ≡ files → faults ≤ faults_middle → misses ≤ misses_middle
    → IfErr result (λ status. StoreCause status left faults_middle faults_now misses_middle misses_now)
    → IfErr result (λ status. StoreCause status files faults faults_now misses misses_now)
cause_earlier (Ok x) files left faults faults_middle faults_now misses misses_middle misses_now kept more_faults more_misses cause = tt
cause_earlier (Err status) files left faults faults_middle faults_now misses misses_middle misses_now kept more_faults more_misses cause =
    StoreCause-earlier status files faults faults_middle faults_now misses misses_middle misses_now more_faults more_misses
    (subst (λ f. StoreCause status f faults_middle faults_now misses_middle misses_now) kept cause)

-- ---- bytes, which no store causes

bytes_cause : {F : Type 0} (status : Status) (files : Option F) (faults faults_now misses misses_now : ℕ) → IsOfBytes status → StoreCause status files faults faults_now misses misses_now
bytes_cause (ReadFault file) files faults faults_now misses misses_now is = absurd is
bytes_cause (Missing file) files faults faults_now misses misses_now is = absurd is
bytes_cause status files faults faults_now misses misses_now is = tt

bytes_files : (status : Status) → IsOfBytes status → IsOfFiles status
bytes_files Done is = is
bytes_files SomeRefused is = is
bytes_files (Usage word) is = is
bytes_files WriteFault is = is
bytes_files (NotBuilt what) is = is
bytes_files status is = tt

-- ---- files that are named

-- a file of these is one of those
named_among : (These Those : ℕ → Type 0) (status : Status) → ((file : ℕ) → These file → Those file) → FailsAt These status → FailsAt Those status
named_among These Those (ReadFault file) among at = among file at
named_among These Those (Missing file) among at = among file at
named_among These Those status among at = tt

-- what bytes cause names none
bytes_at : (Reaches : ℕ → Type 0) (status : Status) → IsOfBytes status → FailsAt Reaches status
bytes_at Reaches (ReadFault file) is = absurd is
bytes_at Reaches (Missing file) is = absurd is
bytes_at Reaches status is = tt

-- a step after one that gave this
named_after : {A X : Type 0} (First : Option Files → ℕ → Type 0) (step : Files → Result A Status) (Next : A → Option Files → ℕ → Type 0) (given : A) (files left : Option Files) (result : Result X Status)
    → left ≡ files → IfSome files (λ told. step told ≡ Ok given) → IfErr result (FailsAt (Next given left)) → IfErr result (FailsAt (Then First step Next files))
named_after First step Next given files left (Ok x) kept gave at = tt
named_after First step Next given files left (Err status) kept gave at =
    named_among (Next given left) (Then First step Next files) status (λ file reached. inr (given, gave, subst (λ f. Next given f file) kept reached)) at

-- ---- steps that read files

pub reads_ok : {X : Type 0} (Reaches : Option Files → ℕ → Type 0) (old new : Tells) (x : X) → new.0 ≡ old.0 → old.1 ≤ new.1 → old.2 ≤ new.2 → ReadsFiles Reaches old new (Ok x)
reads_ok Reaches old new x kept faults misses = record { kept = kept; faults = faults; misses = misses; cause = tt; status = tt; place = tt }

-- a step after one that went well
pub reads_after : {A X Y : Type 0} (First : Option Files → ℕ → Type 0) (step : Files → Result A Status) (Next : A → Option Files → ℕ → Type 0) (given : A) (old middle new : Tells)
    (first : Result X Status) (result : Result Y Status) → IfSome old.0 (λ told. step told ≡ Ok given) → ReadsFiles First old middle first → ReadsFiles (Next given) middle new result
    → ReadsFiles (Then First step Next) old new result
reads_after First step Next given old middle new first result gave before here = record {
  kept = here.kept ∙ before.kept;
  faults = omega (arith, before.faults, here.faults);
  misses = omega (arith, before.misses, here.misses);
  cause = cause_earlier result old.0 middle.0 old.1 middle.1 new.1 old.2 middle.2 new.2 before.kept before.faults before.misses here.cause;
  status = here.status;
  place = named_after First step Next given old.0 middle.0 result before.kept gave here.place;
}

-- a step that fails as one before it did, which reaches no more files
pub reads_failed : {X Y : Type 0} (Those These : Option Files → ℕ → Type 0) (old new : Tells) (status : Status) → ((file : ℕ) → These old.0 file → Those old.0 file)
    → ReadsFiles {X = X} These old new (Err status) → ReadsFiles {X = Y} Those old new (Err status)
reads_failed Those These old new status among before = record {
  kept = before.kept;
  faults = before.faults;
  misses = before.misses;
  cause = before.cause;
  status = before.status;
  place = named_among (These old.0) (Those old.0) status among before.place;
}

-- two steps, of which the first fails
pub reads_stopped : {A X Y : Type 0} (First : Option Files → ℕ → Type 0) (step : Files → Result A Status) (Next : A → Option Files → ℕ → Type 0) (old new : Tells) (status : Status)
    → ReadsFiles {X = X} First old new (Err status) → ReadsFiles {X = Y} (Then First step Next) old new (Err status)
reads_stopped {A} {X} {Y} First step Next old new status before = reads_failed {X = X} {Y = Y} (Then First step Next) First old new status (λ file at. inl at) before

-- a step that reaches no more files than it says
pub reads_among : {X : Type 0} (Those These : Option Files → ℕ → Type 0) (old new : Tells) (result : Result X Status) → ((file : ℕ) → These old.0 file → Those old.0 file)
    → ReadsFiles These old new result → ReadsFiles Those old new result
reads_among Those These old new (Ok x) among before = reads_ok Those old new x before.kept before.faults before.misses
reads_among Those These old new (Err status) among before = reads_failed Those These old new status among before

-- a step on what was read
pub reads_then : {X Y : Type 0} (Those These : Option Files → ℕ → Type 0) (old new : Tells) (first : Result X Status) (result : Result Y Status)
    → ReadsFiles These old new first → IfErr result IsOfBytes → ReadsFiles Those old new result
reads_then Those These old new first (Ok y) before is = reads_ok Those old new y before.kept before.faults before.misses
reads_then Those These old new first (Err status) before is = record {
  kept = before.kept;
  faults = before.faults;
  misses = before.misses;
  cause = bytes_cause status old.0 old.1 new.1 old.2 new.2 is;
  status = bytes_files status is;
  place = bytes_at (Those old.0) status is;
}

-- a step that reads nothing
pub reads_nothing : {X : Type 0} (Reaches : Option Files → ℕ → Type 0) (old : Tells) (result : Result X Status) → IfErr result IsOfBytes → ReadsFiles Reaches old old result
reads_nothing Reaches old (Ok x) is = reads_ok Reaches old old x refl (omega arith) (omega arith)
reads_nothing Reaches old (Err status) is = record {
  kept = refl;
  faults = omega arith;
  misses = omega arith;
  cause = bytes_cause status old.0 old.1 old.1 old.2 old.2 is;
  status = bytes_files status is;
  place = bytes_at (Reaches old.0) status is;
}

-- ---- what was made of what was read

pub memory_bytes : (replies : Result Replies OutOfMemory) → IfErr (with_memory replies) IsOfBytes
memory_bytes (Ok found) = tt
memory_bytes (Err e) = tt

-- words read no file
pub words_cause : {F : Type 0} (status : Status) (files : Option F) (faults faults_now misses misses_now : ℕ) → IsOfWords status → StoreCause status files faults faults_now misses misses_now
words_cause (ReadFault file) files faults faults_now misses misses_now is = absurd is
words_cause (Missing file) files faults faults_now misses misses_now is = absurd is
words_cause status files faults faults_now misses misses_now is = tt

-- the summary of the due graph
pub generated_gives : (vertices edges : ℕ) (due : Result PropertyGraph TableFault) (graph : PropertyGraph) (replies : Replies) → due ≡ Ok graph
    → Summarizes graph vertices edges (map (λ text. text.items) replies.texts.items) replies.refused
    → RepliesGive (Ok replies) (with_status due >>~ λ graph'. Ok (Generated vertices edges graph'))
generated_gives vertices edges due graph replies is sums =
    (Generated vertices edges graph, ap (λ (d : Result PropertyGraph TableFault). with_status d >>~ λ graph'. Ok (Generated vertices edges graph')) is, sums)
