-- What steps on files do to their store, one after another.
use Rattle.std.proofs.Common.{◌≡◌, ◌∙◌, refl, arith, ℕ, ◌<◌, ◌≤◌, ◌+◌, Bool, true, false, cond, List, length, Option, Some, None, MatchOption, IfSome, OnOk, Result, Ok, Err, nat_le}
use Rattle.std.proofs.lemmas.Bool.Decides.{nat_tests}
use Rattle.adfs_base.specs.Counts.{Rose}
use Rattle.adfs_base.specs.Files.{Files, Lacks, Reads, file_of}
use Rattle.adfs_base.specs.declared.store.Loaded.{Loaded}
use Rattle.adfs_base.specs.declared.store.Loaded.TheVariants as loaded
use Rattle.graph_tables.specs.Faults.{FailsAt, GivesFault, HasCause, Loads, fault_of}
use Rattle.graph_tables.specs.declared.faults.TableFault.{TableFault}
use Rattle.graph_tables.specs.declared.faults.TableKind.TheVariants as kind
use Rattle.graph_loading.specs.Loaded.{file_bytes, most_of_file}
use Rattle.graph_loading.specs.Steps.{LacksAt, ReadsFiles, file_answer}
use Rattle.graph_tables.proofs.FaultFacts.{cause_since, no_cause, no_missing, own_cause, own_place, place_among}
use Rattle.graph_loading.proofs.LoadFacts.{too_long, whole}

lacking_among : (first last low high : ℕ) (e : TableFault) → low ≤ first → last ≤ high → LacksAt first last e → LacksAt low high e
lacking_among first last low high e a b h = λ is. ((h is).0, omega (arith, (h is).1), omega (arith, (h is).2))

module _ {S : Type 0} (files : S → Option Files) (faults misses : S → ℕ) where
  -- a step on bytes failed, after loads that went well
  pub failed_after : {X Y Z : Type 0} (old new : S) (first last low high : ℕ) (x : X) (e : TableFault) (given : Result Y TableFault)
      → ReadsFiles files faults misses old new first last (Ok x) → GivesFault e e.kind given → ReadsFiles {X = Z} files faults misses old new low high (Err e)
  failed_after old new first last low high x e given went h = record {
    kept = went.kept;
    cause = own_cause (files old) _ _ _ _ e given went.cause.faults_stay went.cause.misses_stay h;
    place = own_place low high e given h;
    lacking = λ is. absurd (no_missing e e.kind given h is);
  }

  -- a load failed, after loads that went well
  pub then_failed : {X Y Z : Type 0} (old mid new : S) (first last first2 last2 low high : ℕ) (x : X) (e : TableFault) → low ≤ first2 → last2 ≤ high
      → ReadsFiles files faults misses old mid first last (Ok x) → ReadsFiles {X = Y} files faults misses mid new first2 last2 (Err e) → ReadsFiles {X = Z} files faults misses old new low high (Err e)
  then_failed old mid new first last first2 last2 low high x e a b went failed = record {
    kept = failed.kept ∙ went.kept;
    cause = cause_since (files old) (faults old) (faults mid) (faults new) (misses old) (misses mid) (misses new) e went.cause.faults_stay went.cause.misses_stay (rw went.kept at failed.cause);
    place = place_among first2 last2 low high e a b failed.place;
    lacking = lacking_among first2 last2 low high e a b failed.lacking;
  }

  -- loads that went well
  pub then_done : {X Y Z : Type 0} (old mid new : S) (first last first2 last2 low high : ℕ) (x : X) (y : Y) (z : Z)
      → ReadsFiles files faults misses old mid first last (Ok x) → ReadsFiles files faults misses mid new first2 last2 (Ok y) → ReadsFiles files faults misses old new low high (Ok z)
  then_done old mid new first last first2 last2 low high x y z went more = record {
    kept = more.kept ∙ went.kept;
    cause = no_cause (files old) (faults old) (faults new) (misses old) (misses new) z (omega (arith, went.cause.faults_stay, more.cause.faults_stay)) (omega (arith, went.cause.misses_stay, more.cause.misses_stay));
    place = tt;
    lacking = tt;
  }

  pub still_done : {X Y : Type 0} (old new : S) (first last low high : ℕ) (x : X) (y : Y) → ReadsFiles files faults misses old new first last (Ok x) → ReadsFiles files faults misses old new low high (Ok y)
  still_done old new first last low high x y went = record {
    kept = went.kept;
    cause = no_cause (files old) (faults old) (faults new) (misses old) (misses new) y went.cause.faults_stay went.cause.misses_stay;
    place = tt;
    lacking = tt;
  }

  pub nothing_read : {X : Type 0} (s : S) (low high : ℕ) (x : X) → ReadsFiles files faults misses s s low high (Ok x)
  nothing_read s low high x = record {
    kept = refl;
    cause = no_cause (files s) (faults s) (faults s) (misses s) (misses s) x (omega arith) (omega arith);
    place = tt;
    lacking = tt;
  }

  module _ (old new : S) (name : List ℕ) (file len : ℕ) (kept : files new ≡ files old) (more_faults : faults old ≤ faults new) (more_misses : misses old ≤ misses new) where
    failed_as : (e : TableFault) → (e.kind ≡ kind.ReadFault → ⊥) → (e.kind ≡ kind.Missing → ⊥) → ReadsFiles {X = Unit {0}} files faults misses old new file file (Err e)
    failed_as e a b = record {
      kept = kept;
      cause = record { faults_stay = more_faults; misses_stay = more_misses; failed = λ is. absurd (a is); missing = λ is. absurd (b is) };
      place = λ is. absurd (a is);
      lacking = λ is. absurd (b is);
    }

    told_or_rose : (told : Option Files) → Lacks told name (misses old) (misses new) → MatchOption told (Rose (misses old) (misses new)) (λ _. Unit {0})
    told_or_rose None h = h
    told_or_rose (Some f) h = tt

    pub load_answered : (a : Loaded) → (a ≡ loaded.Missing → Lacks (files old) name (misses old) (misses new)) → (a ≡ loaded.Failed → Rose (faults old) (faults new)) → ReadsFiles files faults misses old new file file (file_answer file a len)
    load_answered loaded.Whole lacks rose = by (nat_le len most_of_file)
      where
        by : (b : Bool) → ReadsFiles files faults misses old new file file (cond {A = Result (Unit {0}) TableFault} b (Ok tt) (Err (fault_of file kind.TooLong)))
        by true = record { kept = kept; cause = no_cause (files old) (faults old) (faults new) (misses old) (misses new) tt more_faults more_misses; place = tt; lacking = tt }
        by false = failed_as (fault_of file kind.TooLong) (λ is. cc is) (λ is. cc is)
    load_answered loaded.Missing lacks rose = record {
      kept = kept;
      cause = record { faults_stay = more_faults; misses_stay = more_misses; failed = λ is. cc is; missing = λ is. told_or_rose (files old) (lacks refl) };
      place = λ is. cc is;
      lacking = λ is. (refl, omega arith, omega arith);
    }
    load_answered loaded.Failed lacks rose = record {
      kept = kept;
      cause = record { faults_stay = more_faults; misses_stay = more_misses; failed = λ is. rose refl; missing = λ is. cc is };
      place = λ is. (refl, omega arith, omega arith);
      lacking = λ is. cc is;
    }
    load_answered loaded.NoMemory lacks rose = failed_as (fault_of 0 kind.NoMemory) (λ is. cc is) (λ is. cc is)

-- the bytes of a file, by what a load of it answered
pub file_given : (told : Option Files) (name bytes : List ℕ) (file misses misses_now : ℕ) (a : Loaded) → (a ≡ loaded.Whole → Reads told name most_of_file bytes) → (a ≡ loaded.Missing → Lacks told name misses misses_now)
    → IfSome told (λ files. Loads (λ _. bytes) (file_answer file a (length bytes)) (file_bytes file (file_of name files)))
file_given told name bytes file misses misses_now loaded.Whole reads lacks = by (nat_le (length bytes) most_of_file) refl
  where
    by : (b : Bool) → nat_le (length bytes) most_of_file ≡ b → IfSome told (λ files. Loads (λ (u : Unit {0}). bytes) (cond {A = Result (Unit {0}) TableFault} b (Ok tt) (Err (fault_of file kind.TooLong))) (file_bytes file (file_of name files)))
    by true e = let short : length bytes ≤ most_of_file = grind (arith, nat_tests) in whole told name file bytes (reads refl) short
    by false e = let long : most_of_file < length bytes = grind (arith, nat_tests) in too_long told name file bytes (fault_of file kind.TooLong) refl (reads refl) long
file_given None name bytes file misses misses_now loaded.Missing reads lacks = tt
file_given (Some files) name bytes file misses misses_now loaded.Missing reads lacks = rw (lacks refl) refl
file_given None name bytes file misses misses_now loaded.Failed reads lacks = tt
file_given (Some files) name bytes file misses misses_now loaded.Failed reads lacks = refl
file_given None name bytes file misses misses_now loaded.NoMemory reads lacks = tt
file_given (Some files) name bytes file misses misses_now loaded.NoMemory reads lacks = refl

pub short_when_whole : (file len : ℕ) (a : Loaded) → OnOk (file_answer file a len) (len ≤ most_of_file)
short_when_whole file len loaded.Whole = by (nat_le len most_of_file) refl
  where
    by : (b : Bool) → nat_le len most_of_file ≡ b → OnOk (cond {A = Result (Unit {0}) TableFault} b (Ok tt) (Err (fault_of file kind.TooLong))) (len ≤ most_of_file)
    by true e = grind (arith, nat_tests)
    by false e = tt
short_when_whole file len loaded.Missing = tt
short_when_whole file len loaded.Failed = tt
short_when_whole file len loaded.NoMemory = tt
