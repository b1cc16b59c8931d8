-- What a command has done, by what its own call says of the values that the command has.
use Rattle.zeb_engine.proofs.Cited.{◌≡◌, ◌∙◌, ℕ, Bool, List, Option, Some, Result, Err, OnOk, inr, String, Vec, map, string_bytes, refl, sym, ap, subst, Global, Ghosts, Held, state, State, HasCleanDisk, Survives, nothing_still, Work, Posting, Format, Conditions, Limits, Reply, Refusal, DbName, name_bytes, Analyse, Change, Check, Find, Init, Scan, Upgrade, Commanded, Commits, Trees, UpgradeDoes, Directive, Kind, NoneFailed, NamesFailed, HasFailedAt, IsRefusedOver, conditions, version_of, CommandDone, ReadersDone, FindDoes, ScanDoes, FindReads, ScanReads, FoundFrom, ScannedFrom, OnlyAnswers, ServesBy, Always, Serves, checked, IsAnalysis, ReadsAlone, TellsReady, no_work, NoReadFault, ready, upgraded, ChecksTables}
use Rattle.zeb_change.specs.declared.refusals.Refusal.TheVariants as refusal
use Rattle.zeb_engine.proofs.ChangeElders.{few_elder}
use Rattle.zeb_engine.proofs.ChangeReasons.{few_reasons}
use Rattle.zeb_engine.proofs.CommandedConnections.{reads_command}
use Rattle.zeb_engine.proofs.CommitCrashes.{ends_commit, survives_as}
use Rattle.zeb_engine.proofs.OverTables.{IsFew}
use Rattle.zeb_engine.proofs.Readers.{as_able, no_file_failed}
use Rattle.zeb_engine.proofs.ReadyCommands.{analysis_serves, ends_serve}
use Rattle.zeb_engine.proofs.StoreCauses.{analysis_caused}

-- a call that commits nothing commits nothing else
pub nothing_commits : (old new : State) (P : Trees → Type 0) → Survives old new (λ _. ⊥) → Survives old new P
nothing_commits old new P quiet = survives_as old new (λ _. ⊥) P (λ clean db none. absurd none) quiet

-- a refusal of another call that is passed on
pub unread_as : {A T : Type 0} (why : Refusal) → NoReadFault {T = A} (Err why) → NoReadFault {T = T} (Err why)
unread_as why unread file is = let same : why ≡ refusal.ReadFault file = cc in unread file (ap Err same)

-- an init that wants memory before it begins
pub unbegun_init : {S : Type 0} (g : Ghosts S) (format : Format) (row_work : ℕ) (block_rows : List Posting → ℕ) (c : Conditions) (held : Held S) → Survives (state g held) (state g held) (λ _. ⊥)
    → CommandDone g format row_work block_rows c Init held held (Err refusal.Memory) no_work
unbegun_init g format row_work block_rows c held quiet = record {
  call = record { accepted = λ clean. tt; refused = λ clean. nothing_still (state g held); endures = λ clean other db left. left };
  survives = nothing_commits (state g held) (state g held) _ quiet;
  step = λ clean before keeps. (before, inr (inr refl, refl), keeps);
  does = λ clean settled. tt;
  answers = (λ file is. cc, inr refl);
  counts = record { counted = refl; none = λ _. refl };
}

-- an upgrade, by what it does to any tables
pub upgrade_done : {S : Type 0} (g : Ghosts S) (format : Format) (row_work : ℕ) (block_rows : List Posting → ℕ) (c : Conditions) (old new : Held S) (answer : Result Reply Refusal) → Commanded (state g old) (state g new) answer
    → Survives (state g old) (state g new) (Commits Always (upgraded c) (state g old)) → (HasCleanDisk (state g new) → Serves Always (upgraded c) (state g old) (state g new) answer)
    → (HasCleanDisk (state g new) → UpgradeDoes c (state g old) (state g new) answer) → NoReadFault answer → CommandDone g format row_work block_rows c Upgrade old new answer no_work
upgrade_done g format row_work block_rows c old new answer call commits serves does unread = record {
  call = call;
  survives = ends_commit (upgraded c) (state g old) (state g new) commits;
  step = λ clean. ends_serve (upgraded c) (state g old) (state g new) answer (serves clean);
  does = λ clean settled. does clean;
  answers = unread;
  counts = record { counted = refl; none = λ _. refl };
}

module _ (format : Format) (row_work : ℕ) (block_rows : List Posting → ℕ) (c : Conditions) {S : Type 0} {g : Ghosts S} {old new : Held S} {answer : Result Reply Refusal} (reads : ReadsAlone g old new answer)
    (unread : NoReadFault answer) (begun work : Work) (fresh : begun ≡ no_work) where
  -- a check
  pub check_done : (HasCleanDisk (state g new) → Serves Always (checked c) (state g old) (state g new) answer) → TellsReady g c.version c.profile old new answer
      → (HasCleanDisk (state g new) → ChecksTables c.version c.profile (state g old) answer) → CommandDone g format row_work block_rows c Check old new answer begun
  check_done serves texts told = record {
    call = reads_command (state g old) (state g new) answer reads.opened reads.same reads.crash;
    survives = reads.crash;
    step = λ clean. ends_serve (checked c) (state g old) (state g new) answer (serves clean);
    does = λ clean settled. record { looks = record { nothing = reads.same clean; caused = reads.caused clean }; ready = texts clean; told = told clean };
    answers = unread;
    counts = record { counted = fresh; none = λ _. fresh };
  }

  abbrev FindSaid : (name text : List ℕ) (first count : ℕ) → Type 0
  FindSaid name text first count =
      (HasCleanDisk (state g new) → ServesBy (λ before. OnlyAnswers (FoundFrom c name text first count (ready c before)) before) (state g old) (state g new) answer)
      × (HasCleanDisk (state g new) → FindDoes format c name text first count (state g old) (state g new) answer)
      × (HasCleanDisk (state g new) → OnOk answer (FindReads format row_work block_rows c.profile name text (state g old) begun work))

  -- a find of a query that has these bytes
  pub find_done : (database : DbName) (query : String Global) (first count : ℕ) (text : List ℕ) → string_bytes query ≡ text → (row_work ≡ 0 → work ≡ begun) → FindSaid (name_bytes database) text first count
      → CommandDone g format row_work block_rows c (Find database query first count) old new answer work
  find_done database query first count text is unworked says =
      let said = subst (λ (t : List ℕ). FindSaid (name_bytes database) t first count) (sym is) says in
      record {
        call = reads_command (state g old) (state g new) answer reads.opened reads.same reads.crash;
        survives = reads.crash;
        step = said.0;
        does = λ clean settled. said.1 clean;
        answers = unread;
        counts = record {
          counted = λ clean. subst (λ (w : Work). OnOk answer (FindReads format row_work block_rows c.profile (name_bytes database) (string_bytes query) (state g old) w work)) fresh (said.2 clean);
          none = λ none. unworked none ∙ fresh;
        };
      }

  abbrev ScanSaid : (name text : List ℕ) (number position : ℕ) → Type 0
  ScanSaid name text number position =
      (HasCleanDisk (state g new) → ServesBy (λ before. OnlyAnswers (ScannedFrom c name text number position (ready c before)) before) (state g old) (state g new) answer)
      × (HasCleanDisk (state g new) → ScanDoes format c name text number position (state g old) (state g new) answer)
      × (HasCleanDisk (state g new) → OnOk answer (ScanReads format row_work number position (state g old) begun work))

  -- a scan
  pub scan_done : (database : DbName) (query : String Global) (number position : ℕ) (text : List ℕ) → string_bytes query ≡ text → (row_work ≡ 0 → work ≡ begun) → ScanSaid (name_bytes database) text number position
      → CommandDone g format row_work block_rows c (Scan database query number position) old new answer work
  scan_done database query number position text is unworked says =
      let said = subst (λ (t : List ℕ). ScanSaid (name_bytes database) t number position) (sym is) says in
      record {
        call = reads_command (state g old) (state g new) answer reads.opened reads.same reads.crash;
        survives = reads.crash;
        step = said.0;
        does = λ clean settled. said.1 clean;
        answers = unread;
        counts = record {
          counted = λ clean. subst (λ (w : Work). OnOk answer (ScanReads format row_work number position (state g old) w work)) fresh (said.2 clean);
          none = λ none. unworked none ∙ fresh;
        };
      }

-- a change by the bytes of files
pub files_done : {S R : Type 0} {g : Ghosts S} {remaining : R → Option (List ℕ)} {may_fail has_failed : R → Bool} {before after : List R} {row_work : ℕ} {c : Conditions} {kind : Kind} {old new : Held S} {answer : Result Reply Refusal} {work : Work}
    (format : Format) (block_rows : List Posting → ℕ) (name : DbName) (files : Vec (Vec ℕ Global) Global)
    → ReadersDone g remaining may_fail has_failed before after format row_work c kind (name_bytes name) old new answer work → NoneFailed has_failed after → map remaining before ≡ map Some (map (λ file. file.items) files.items)
    → CommandDone g format row_work block_rows c (Change kind name files) old new answer work
files_done {g = g} {has_failed = has_failed} {after = after} {old = old} {new = new} format block_rows name files done fine told =
    let texts = map (λ file. file.items) files.items in
    record {
      call = done.call;
      survives = survives_as (state g old) (state g new) _ _ (λ clean db made. made texts told fine) done.survives;
      step = λ clean. done.step clean texts told fine;
      does = λ clean settled. let did = done.does clean in record { ready = did.ready; told = did.told texts told fine; leaves = did.leaves; loses = did.loses texts told };
      answers = λ file is. no_file_failed has_failed after fine file (done.faults.fault file is);
      counts = record { counted = λ clean. done.counts.costs clean texts told; none = done.counts.none };
    }

-- one that wants memory before it begins
pub unbegun_done : {S : Type 0} (g : Ghosts S) (format : Format) (row_work : ℕ) (block_rows : List Posting → ℕ) (profile : List Directive) (limits : Limits) (kind : Kind) (name : DbName) (files : Vec (Vec ℕ Global) Global) (held : Held S)
    (work : Work) → work ≡ no_work → Survives (state g held) (state g held) (λ _. ⊥)
    → CommandDone g format row_work block_rows (conditions (version_of format) profile limits) (Change kind name files) held held (Err refusal.Memory) work
unbegun_done g format row_work block_rows profile limits kind name files held work fresh commits =
    let s = state g held in
    let texts = map (λ file. file.items) files.items in
    let failed : IsFew refusal.Memory = inr (inr refl) in
    record {
      call = record { accepted = λ clean. tt; refused = λ clean. nothing_still s; endures = λ clean other db left. left };
      survives = nothing_commits s s _ commits;
      step = λ clean before keeps. (before, inr (inr refl, refl), keeps);
      does = λ clean settled. record {
        ready = λ store. tt;
        told = λ store ready. (
          few_elder profile (name_bytes name) texts {T = Reply} s.now.trees refusal.Memory (Err refusal.Memory) refl failed,
          tt,
          few_reasons profile kind limits (name_bytes name) texts {T = Reply} s.now.trees refusal.Memory (Err refusal.Memory) refl failed,
        );
        leaves = λ store. tt;
        loses = λ store. tt;
      };
      answers = λ file is. cc;
      counts = record { counted = λ clean. tt; none = λ _. fresh };
    }

-- a change of which a reader had failed before
pub faulty_done : {S R : Type 0} (g : Ghosts S) (remaining : R → Option (List ℕ)) (may_fail has_failed : R → Bool) (format : Format) (row_work : ℕ) (c : Conditions) (kind : Kind) (name : List ℕ) (held : Held S) (readers : List R)
    (why : Refusal) → NamesFailed has_failed readers why → (work : Work) → work ≡ no_work → Survives (state g held) (state g held) (λ _. ⊥)
    → ReadersDone g remaining may_fail has_failed readers readers format row_work c kind name held held (Err why) work
faulty_done g remaining may_fail has_failed format row_work c kind name held readers why named work fresh commits =
    let s = state g held in
    record {
      call = record { accepted = λ clean. tt; refused = λ clean. nothing_still s; endures = λ clean other db left. left };
      survives = nothing_commits s s _ commits;
      step = λ clean texts told fine. absurd (no_file_failed has_failed readers fine named.0 named.1);
      does = λ clean. record {
        ready = λ store. subst (IsRefusedOver c.version c.profile s.now.trees) (sym named.3) tt;
        told = λ texts told fine. absurd (no_file_failed has_failed readers fine named.0 named.1);
        leaves = λ store. tt;
        loses = λ texts told store. tt;
        honest = λ is before keeps. let same : why ≡ refusal.Damaged = cc in let e = sym named.3 ∙ same in cc;
      };
      faults = record {
        sound = inr named;
        fault = λ file is. let same : why ≡ refusal.ReadFault file = cc in let e = sym named.3 ∙ same in let at : named.0 ≡ file = cc in subst (HasFailedAt has_failed readers) at named.1;
        able = as_able may_fail has_failed readers;
      };
      counts = record { costs = λ clean texts told. tt; none = λ none. fresh };
    }

-- an analysis, on a connection that is as it was
pub analysis_done : {S : Type 0} (g : Ghosts S) (format : Format) (row_work : ℕ) (block_rows : List Posting → ℕ) (c : Conditions) (held : Held S) (answer : Result Reply Refusal) (work : Work) → work ≡ no_work
    → (files : Vec (Vec ℕ Global) Global) (given : List (Vec ℕ Global)) → given ≡ files.items → Survives (state g held) (state g held) (λ _. ⊥) → IsAnalysis c (map (λ file. file.items) given) answer → NoReadFault answer
    → CommandDone g format row_work block_rows c (Analyse files) held held answer work
analysis_done g format row_work block_rows c held answer work fresh files given same commits told unread =
    let analysed = subst (λ (these : List (Vec ℕ Global)). IsAnalysis c (map (λ file. file.items) these) answer) same told in
    let s = state g held in
    record {
      call = refl;
      survives = commits;
      step = λ clean. analysis_serves answer files c s analysed;
      does = λ clean settled. record { nothing = nothing_still s; caused = analysis_caused c (map (λ file. file.items) files.items) s s answer analysed };
      answers = (unread, analysed);
      counts = record { counted = fresh; none = λ _. fresh };
    }
