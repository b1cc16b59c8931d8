-- What a command has done that begins with a look whether the register is ready: where it is refused there, and where it goes on.
use Rattle.zeb_engine.proofs.Cited.{◌≡◌, ℕ, Bool, List, [], Option, Result, Ok, Err, IsTrue, string_bytes, inl, inr, refl, sym, ap, subst, Database, Trees, Held, state, HasCleanDisk, Survives, Ghosts, Directive, Posting, Work, Format, version_of, IsStore, store_same, nothing_then, quiet_then, clean_before, Refusal, NeverUnready, NoReadFault, why_of, Reply, StaysOpen, Answer, refused, TellsUnlessHidden, UnlessHidden, CreateOver, DropOver, HidesDatabase, FindOver, HidesFind, ScanOver, HidesTerms, StatOver, HidesRegisters, DumpOver, HidesRecords, Command, Init, Create, Drop, Find, Scan, Check, Stat, Dump, Limits, Conditions, conditions, name_bytes, Holdings, Base, Keeps, Turn, Outcome, Step, Ends, CountedFrom, checked_from, dumped_from, FoundFrom, ScannedFrom, ServesBy, Does, AnswersAnyway, CommandDone, ReadersDone, NoneFailed, Kind, TakesFiles, splits_of, Commanded, CommandedBy, CommitsBy, MayCommit, Commits, Always, Serves, IsReady, Transacts, LooksReady, ReadsAlone, TellsReady, IsUnready, no_work, OnlyLooks, changed_by_files, created, dropped, ready, turned}
use Rattle.zeb_change.specs.declared.refusals.Refusal.TheVariants as refusal
use Rattle.zeb_engine.specs.Counts.{Counted}
use Rattle.zeb_engine.proofs.ChangeElders.{few_elder}
use Rattle.zeb_engine.proofs.ChangeReasons.{few_reasons}
use Rattle.zeb_engine.proofs.CheckAnswers.{unready_tells}
use Rattle.zeb_engine.proofs.CommandedConnections.{commanded_then, reads_command}
use Rattle.zeb_engine.proofs.CommandsDone.{nothing_commits}
use Rattle.zeb_engine.proofs.CommitCrashes.{ends_commit, survives_after}
use Rattle.zeb_engine.proofs.HiddenRows.{hidden_after, unready_hidden}
use Rattle.zeb_engine.proofs.NoDamageAnswered.{start_honest}
use Rattle.zeb_engine.proofs.OverTables.{IsFew}
use Rattle.zeb_engine.proofs.Readers.{as_able}
use Rattle.zeb_engine.proofs.ReadyCommands.{ends_serve, ready_kept}
use Rattle.zeb_engine.proofs.ReadyTexts.{ready_then, unready_fails}
use Rattle.zeb_engine.proofs.ServesLemmas.{keeps_still, on_ok}
use Rattle.zeb_engine.proofs.StoreCauses.{accepted_leaves, cause_after}
use Rattle.zeb_engine.proofs.TurnedOutcomes.{turn_refused}

-- ---- the register isn't ready

-- the commands that look first whether it is
abbrev pub NeedsReady : Command → Type 0
NeedsReady (Create name) = Unit {0}
NeedsReady (Drop name) = Unit {0}
NeedsReady (Find name query first count) = Unit {0}
NeedsReady Check = Unit {0}
NeedsReady (Stat name) = Unit {0}
NeedsReady (Dump name) = Unit {0}
NeedsReady (Scan name query number position) = Unit {0}
NeedsReady other = ⊥

module _ (format : Format) (row_work : ℕ) (block_rows : List Posting → ℕ) (limits : Limits) {S : Type 0} {g : Ghosts S} {profile : List Directive} {old mid : Held S} {why : Refusal}
    (looked : LooksReady g (version_of format) profile old mid (Err why)) where
  -- the session's conditions
  abbrev here : Conditions
  here = conditions (version_of format) profile limits

  pub turn_step : (turn : Turn) (before : Holdings) → ready here before ≡ Err (why_of why) → Ends (turned here turn before) (refused (why_of why)) before
  turn_step turn before is = let same = turn_refused here before turn (why_of why) is in (sym (ap (λ (o : Outcome). o.0) same), sym (ap (λ (o : Outcome). o.1) same))

  -- what a step that tells the register's refusal comes to
  pub refused_serves : (Told : Holdings → Answer → Holdings → Type 0) → ((before : Holdings) → ready here before ≡ Err (why_of why) → Told before (refused (why_of why)) before)
      → HasCleanDisk (state g mid) → ServesBy Told (state g old) (state g mid) (Err why)
  refused_serves Told tells clean before keeps =
      let still = keeps_still before (state g old) (state g mid) (looked.reads.same clean) keeps in
      elim (looked.held clean limits before keeps) [
        | inl failed ↦ (before, inr (failed, refl), still)
        | inr is ↦ (before, inl (tells before is), still)
      ]

  unready_step : (command : Command) → NeedsReady command → (before : Holdings) → ready here before ≡ Err (why_of why) → Step here command before (refused (why_of why)) before
  unready_step (Create name) needs before is = turn_step (created (name_bytes name)) before is
  unready_step (Drop name) needs before is = turn_step (dropped (name_bytes name)) before is
  unready_step (Find name query first count) needs before is =
      (subst (λ (r : Result (List Base) _). FoundFrom here (name_bytes name) (string_bytes query) first count r (refused (why_of why))) (sym is) refl, refl)
  unready_step Check needs before is = (sym (ap checked_from is), refl)
  unready_step (Stat name) needs before is = (subst (λ (r : Result (List Base) _). CountedFrom here (name_bytes name) r (refused (why_of why))) (sym is) refl, refl)
  unready_step (Dump name) needs before is = (sym (ap (dumped_from (name_bytes name)) is), refl)
  unready_step (Scan name query number position) needs before is =
      (subst (λ (r : Result (List Base) _). ScannedFrom here (name_bytes name) (string_bytes query) number position r (refused (why_of why))) (sym is) refl, refl)
  unready_step _ needs before is = absurd needs

  pub unread : NoReadFault {T = Reply} (Err why)
  unread file is = let same : why ≡ refusal.ReadFault file = cc in absurd (subst IsUnready same looked.few)

  pub call : Commanded {T = Reply} (state g old) (state g mid) (Err why)
  call = reads_command (state g old) (state g mid) (Err why) (λ clean. tt) looked.reads.same looked.reads.crash

  hidden : HasCleanDisk (state g mid) → (Over : Trees → Answer → Type 0) (Hides : Trees → Type 0) → UnlessHidden (version_of format) profile Over Hides (state g old) (Err why)
  hidden clean Over Hides = unready_hidden Over Hides (version_of format) profile (state g old) why looked.few (looked.texts clean) (looked.whole clean)

  looks : HasCleanDisk (state g mid) → OnlyLooks {T = Reply} (state g old) (state g mid) (Err why)
  looks clean = record { nothing = looked.reads.same clean; caused = looked.reads.caused clean }

  unready_does : HasCleanDisk (state g mid) → (command : Command) → NeedsReady command → Does format here command (state g old) (state g mid) (Err why)
  unready_does clean (Create name) needs = record {
    ready = looked.texts clean;
    told = hidden clean (CreateOver (name_bytes name)) (HidesDatabase (name_bytes name));
    makes = λ store. tt;
  }
  unready_does clean (Drop name) needs = record {
    ready = looked.texts clean;
    told = hidden clean (DropOver (name_bytes name)) (HidesDatabase (name_bytes name));
    drops = λ store. tt;
  }
  unready_does clean (Find name query first count) needs = record {
    looks = looks clean;
    ready = looked.texts clean;
    alone = (
      λ store content has. tt,
      λ texts store content storable has. inl (unready_fails (version_of format) profile (state g old).now.trees texts why looked.few (looked.texts clean store) (looked.whole clean store texts)),
    );
    told = hidden clean (FindOver format profile (name_bytes name) (string_bytes query) first count) (HidesFind format profile (name_bytes name) (string_bytes query) first count);
  }
  unready_does clean Check needs = record {
    looks = looks clean;
    ready = looked.texts clean;
    told = λ store texts.
        unready_tells here (state g old) store texts looked.settled {X = Unit {0}} (λ (bases : List Base) x. IsTrue (state g old).is_open × IsTrue (state g mid).is_open) why
        (looked.held clean limits) looked.few (looked.texts clean store);
  }
  unready_does clean (Stat name) needs = record {
    looks = looks clean;
    ready = looked.texts clean;
    alone = λ store content has. tt;
    told = hidden clean (StatOver format profile (name_bytes name)) (HidesRegisters format profile (name_bytes name));
  }
  unready_does clean (Dump name) needs = record {
    looks = looks clean;
    ready = looked.texts clean;
    told = hidden clean (DumpOver (name_bytes name)) (HidesRecords (name_bytes name));
  }
  unready_does clean (Scan name query number position) needs = record {
    looks = looks clean;
    ready = looked.texts clean;
    alone = λ store content has. tt;
    told = hidden clean (ScanOver format profile (name_bytes name) (string_bytes query) number position) (HidesTerms format profile (name_bytes name) (string_bytes query) number position);
  }
  unready_does clean Init needs = absurd needs
  unready_does clean _ needs = absurd needs

  module _ (work : Work) (fresh : work ≡ no_work) where
    -- what it did to the connection, what it answers anyhow, and what it has counted
    abbrev Besides : Command → Type 0
    Besides command = CommandedBy {T = Reply} g command old mid (Err why) × AnswersAnyway here command (Err why) × Counted format row_work block_rows here command (state g old) (state g mid) (Err why) work

    besides : (command : Command) → NeedsReady command → Besides command
    besides (Create name) needs = (call, unread, fresh)
    besides (Drop name) needs = (call, unread, fresh)
    besides (Find name query first count) needs = (call, unread, λ clean. tt)
    besides Check needs = (call, unread, fresh)
    besides (Stat name) needs = (call, unread, tt)
    besides (Dump name) needs = (call, unread, fresh)
    besides (Scan name query number position) needs = (call, unread, λ clean. tt)
    besides _ needs = absurd needs

    pub unready_done : (command : Command) → NeedsReady command → CommandDone g format row_work block_rows here command old mid (Err why) work
    unready_done command needs =
        let s = state g old in
        let also = besides command needs in
        record {
          call = also.0;
          survives = nothing_commits s (state g mid) (MayCommit format here command s) looked.reads.crash;
          step = refused_serves (Step here command) (unready_step command needs);
          does = λ clean settled. unready_does clean command needs;
          answers = also.1;
          counts = record { counted = also.2; none = λ _. fresh };
        }

  -- a change by readers of which none had failed
  pub unready_readers : {R : Type 0} (remaining : R → Option (List ℕ)) (may_fail has_failed : R → Bool) (readers : List R) → NoneFailed has_failed readers → (kind : Kind) (name : List ℕ) (work : Work) → work ≡ no_work
      → ReadersDone g remaining may_fail has_failed readers readers format row_work here kind name old mid (Err why) work
  unready_readers remaining may_fail has_failed readers none kind name work fresh =
      let s = state g old in
      record {
        call = call;
        survives = nothing_commits s (state g mid) _ looked.reads.crash;
        step = λ clean texts told fine. refused_serves (TakesFiles here kind name texts) (turn_step (changed_by_files here kind name (splits_of texts))) clean;
        does = λ clean. record {
          ready = looked.texts clean;
          told = λ texts told fine store is.
              let failed : IsFew why = inr (unready_fails (version_of format) profile s.now.trees is why looked.few (looked.texts clean store) (looked.whole clean store is)) in
              (few_elder profile name texts {T = Reply} s.now.trees why (Err why) refl failed, tt, few_reasons profile kind limits name texts {T = Reply} s.now.trees why (Err why) refl failed);
          leaves = λ store. tt;
          loses = λ texts told store. tt;
          honest = λ is before keeps. start_honest why here before kind name (elim (looked.held clean limits before keeps) [
            | inl failed ↦ inl failed
            | inr said ↦ inr (turn_refused here before (changed_by_files here kind name (splits_of [])) (why_of why) said)
          ]) cc;
        };
        faults = record { sound = inl none; fault = λ file is. absurd (unread file is); able = as_able may_fail has_failed readers };
        counts = record { costs = λ clean texts told. tt; none = λ _. fresh };
      }

-- ---- the register is ready, and the command goes on

module _ {S : Type 0} {g : Ghosts S} {version : List ℕ} {profile : List Directive} {old mid : Held S} (looked : LooksReady g version profile old mid (Ok tt)) (new : Held S) where
  -- a call that reads
  pub reads_after : {T : Type 0} (result : Result T Refusal) → ReadsAlone g mid new result → ReadsAlone g old new result
  reads_after result reads =
      let first = clean_before (state g mid) (state g new) reads.crash in
      record {
        idle = reads.idle;
        same = λ clean. nothing_then (state g old) (state g mid) (state g new) (looked.reads.same (first clean)) (reads.same clean);
        opened = λ clean.
            on_ok result (StaysOpen (state g mid) (state g new)) (StaysOpen (state g old) (state g new)) (λ stays. ((looked.reads.opened (first clean)).0, stays.1)) (reads.opened clean);
        crash = quiet_then (state g old) (state g mid) (state g new) looked.reads.crash reads.crash;
        caused = λ clean.
            let leaves = accepted_leaves (state g old) (state g mid) looked.reads.crash (looked.reads.opened (first clean)) (looked.reads.same (first clean)) in
            cause_after (state g old) (state g mid) (state g new) leaves result (reads.caused clean);
      }

  module _ (first : HasCleanDisk (state g new) → HasCleanDisk (state g mid)) where
    -- a call that writes
    pub commanded_after : {T : Type 0} (result : Result T Refusal) → Commanded (state g mid) (state g new) result → Commanded (state g old) (state g new) result
    commanded_after result did = commanded_then (state g old) (state g mid) (state g new) result first looked.reads.crash looked.reads.opened looked.reads.same did

    pub texts_after : {T : Type 0} (result : Result T Refusal) → NeverUnready result → TellsReady g version profile old new result
    texts_after result never clean = ready_then version profile {X = Unit {0}} (state g old) tt (looked.texts (first clean)) result never

    -- what is done to the rows that are shown still
    pub rows_behind : (DoesRows : (old new : Database) → Result Reply Refusal → Type 0) (result : Result Reply Refusal) → Transacts DoesRows (state g mid) (state g new) result
        → HasCleanDisk (state g new) → IsStore (state g old) → DoesRows (state g old).now (state g new).now result
    rows_behind DoesRows result did clean store =
        let same = (looked.reads.same (first clean) (looked.reads.opened (first clean)).1).1 in
        subst (λ (d : Database). DoesRows d (state g new).now result) same (did.rows clean (store_same (state g old) (state g mid) same store))

    -- what is told of the tables that are shown still
    pub told_behind : (Over : Trees → Answer → Type 0) (Hides : Trees → Type 0) (result : Result Reply Refusal) → (HasCleanDisk (state g new) → IsStore (state g mid) → TellsUnlessHidden Over Hides (state g mid).now.trees result)
        → HasCleanDisk (state g new) → UnlessHidden version profile Over Hides (state g old) result
    told_behind Over Hides result told clean store texts =
        hidden_after Over Hides (state g old) (state g mid) result (looked.reads.same (first clean)) (looked.reads.opened (first clean)) (told clean) store

    module _ (limits : Limits) where
      abbrev under_them : Conditions
      under_them = conditions version profile limits

      -- what is held is held behind the look, and its databases are known
      pub held_behind : HasCleanDisk (state g new) → (before : Holdings) → Keeps (state g old) before
          → (bases : List Base) × (ready under_them before ≡ Ok bases) × (IsTrue (state g old).is_open × IsTrue (state g mid).is_open) × Keeps (state g mid) before
      held_behind clean before keeps = ready_kept under_them (state g old) (state g mid) before (looked.held (first clean) limits before keeps) (looked.reads.same (first clean)) keeps

      -- a command that changes the databases
      pub turn_serves : (turn : Turn) (result : Result Reply Refusal) → (HasCleanDisk (state g new) → IsTrue (state g mid).is_open → Serves (IsReady under_them) (turned under_them turn) (state g mid) (state g new) result)
          → HasCleanDisk (state g new) → ServesBy (λ before. Ends (turned under_them turn before)) (state g old) (state g new) result
      turn_serves turn result serves clean = ends_serve (turned under_them turn) (state g old) (state g new) result (λ before fits keeps.
          let at = held_behind clean before keeps in serves clean at.2.1 before (λ _. (at.0, at.1)) at.3)

      pub turn_commits : (turn : Turn) (P : Trees → Type 0) → (IsTrue (state g mid).is_open → (db : Trees) → P db → Commits (IsReady under_them) (turned under_them turn) (state g mid) db) → Survives (state g mid) (state g new) P
          → Survives (state g old) (state g new) (CommitsBy (λ before. Ends (turned under_them turn before)) (state g old))
      turn_commits turn P so survives = ends_commit (turned under_them turn) (state g old) (state g new) (survives_after (state g old) (state g mid) (state g new) P (Commits Always (turned under_them turn) (state g old)) looked.reads.crash survives
          (λ clean db made before fits keeps. let at = held_behind clean before keeps in so at.2.1 db made before (λ _. (at.0, at.1)) at.3))
