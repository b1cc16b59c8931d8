-- Lines that are run over a connection, which is then closed: what is said of the words that ask for that.
use Rattle.zeb_program.proofs.Cited.{Held, state, HasCleanDisk, ◌≡◌, ◌≢◌, ◌⊎◌, ◌++◌, ℕ, Bool, false, true, List, [], inl, inr, refl, subst, sym, Option, Result, Ok, Err, IfOk, IfSome, IsErr, MatchResult, String, AllocError, Global, Conditions, Closed, ClosesBelow, Ends, EndsUnfailed, KnownSink, closing_lines, Directive, DoesBatch, DoesPart, RunsIn, RunsText, ServesIn, ServesText, StopsPart, StopsText, OpensUnder, TakesIn, AreConditionsIn, BeginsRegister, IsAtEnd, LeavesAt, LeavesByShell, used, RunsLines, on_store, StopsLines, part_on_store, RunsShell, shell_ran, StopsShell, shell_part, ShowsBatch, ShowsShell, Starved, Unreadable, LineFault, closing_status, greater, Status, Failed, Format, Unsaid}
use Rattle.zeb_program.specs.PrivateShell.{EndsInput, TellsInput}
use Rattle.zeb_program.specs.Registers.{ClosesStore, FromStore, HasStore, Places}
use Rattle.zeb_program.proofs.ShellTextLemmas.{read_by, read_sound, served_all, served_part}
use Rattle.zeb_program.proofs.ShownLemmas.{batch_done, runs_text, shell_all, shell_done, shell_stops, some_so, stops_part}
use Rattle.zeb_program.proofs.WordRunLemmas.{from_taken}

-- ---- a batch

module _ {S W V : Type 0} (at : Places S) (config : String Global) (format : Format) (profile : List Directive) (text : List ℕ) (c : Conditions) (held : Held S) (old new : KnownSink W) (fault_old fault_new : KnownSink V) (r : Result Status AllocError)
    (may : HasStore at profile ⊎ BeginsRegister text) (under : AreConditionsIn format profile c) (takes : TakesIn at Unsaid format profile held)
    (runs : RunsIn at.store at.leaves at.sees format c 0 text held old new fault_old fault_new r) where
  abbrev Whole : Type 0
  Whole = HasCleanDisk (state at.store runs.last)

  abbrev Shown : Result Status AllocError → Type 0
  Shown answered = Whole → ShowsBatch at.store at.sees format c 0 text held runs.last runs.lines.0 answered

  abbrev Closes : Result Status AllocError → Type 0
  Closes answered = ClosesBelow at.store at.leaves runs.last [] runs.ends.0 answered r

  abbrev Ran : Result Status AllocError → Type 0
  Ran it = MatchResult it (RunsLines at config profile text runs.lines.0 runs.ends.0) (λ error. StopsLines at profile text runs.lines.0 runs.ends.0)

  pub run_kept : Ends old new fault_old fault_new (RunsLines at config profile text) (StopsLines at profile text) r
  run_kept = (runs.lines.0, runs.ends.0, both runs.answered runs.lines.1 runs.ends.1, runs.lines.2, runs.ends.2)
    where
      both : (answered : Result Status AllocError) → Shown answered → Closes answered → Ran r
      both (Ok top) lines (closed, is, (closes, told)) = subst Ran (sym is)
          (on_store format c top closed under may
          (from_taken at Unsaid format profile closed held runs.last (RunsText at.store at.sees format c 0 text runs.lines.0 top) takes runs.clean
          (λ whole. runs_text at.store at.sees format c held runs.lines.0 0 text runs.last top (lines whole)) closes) told)
      both (Err e) lines (closed, is, (closes, told)) = subst Ran (sym is)
          (part_on_store format c closed under may
          (from_taken at Unsaid format profile closed held runs.last (StopsPart at.store at.sees format c 0 text runs.lines.0) takes runs.clean
          (λ whole. stops_part at.store at.sees format c held runs.lines.0 0 text runs.last (lines whole)) closes) told)

  abbrev Left : (Said : List ℕ → Type 0) → Result Status AllocError → Type 0
  Left Said it = LeavesAt at Unsaid profile it Said (BeginsRegister text) (λ format c. DoesBatch at.store at.sees format c 0 text it)

  -- what becomes of the store, whatever is written
  pub left_lines : (Said : List ℕ → Type 0) → LeavesAt at Unsaid profile r Said (BeginsRegister text) (λ format c. DoesBatch at.store at.sees format c 0 text r)
  left_lines Said = left runs.answered runs.lines.1 runs.ends.1
    where
      left : (answered : Result Status AllocError) → Shown answered → Closes answered → Left Said r
      left (Ok top) lines (closed, is, (closes, told)) = subst (Left Said) (sym is)
          (used format c closed may under
          (from_taken at Unsaid format profile closed held runs.last (DoesBatch at.store at.sees format c 0 text (Ok (greater top (closing_status closed)))) takes runs.clean
          (λ whole. batch_done at.store at.sees format c held runs.lines.0 0 text runs.last (Ok top) (lines whole)) closes))
      left (Err e) lines (closed, is, (closes, told)) = subst (Left Said) (sym is)
          (used format c closed may under
          (from_taken at Unsaid format profile closed held runs.last (DoesBatch at.store at.sees format c 0 text (Err e)) takes runs.clean
          (λ whole. batch_done at.store at.sees format c held runs.lines.0 0 text runs.last (Err e) (lines whole)) closes))

-- ---- a shell

module _ {S W V : Type 0} (at : Places S) (config : String Global) (format : Format) (c : Conditions) (given left : Option (List ℕ)) (read_failed : Bool) (held : Held S) (old new : KnownSink W) (fault_old fault_new : KnownSink V) (r : Result Status AllocError)
    (opens : OpensUnder at config format c held) (serves : ServesIn at.store at.leaves at.sees format c given left read_failed held old new fault_old fault_new r) where
  abbrev Served : Type 0
  Served = HasCleanDisk (state at.store serves.last)

  abbrev Bytes : List ℕ
  Bytes = serves.lines.0

  abbrev Seen : Result Status LineFault → Type 0
  Seen answered = Served → IfSome given (λ text. ShowsShell at.store at.sees format c text left new.failed held serves.last Bytes answered)

  -- how the lines ended by this status of theirs, or by want of memory, and how the register was closed behind them
  abbrev Ending : Result Status AllocError → Type 0
  Ending ended = ClosesBelow at.store at.leaves serves.last serves.first serves.ends.0 ended r

  abbrev Both : Result Status AllocError → Type 0
  Both it = MatchResult it (λ status. (status ≢ Failed → IsAtEnd left ⊎ (Bytes ≡ [])) × RunsShell at config given left read_failed Bytes serves.ends.0 status) (λ error. StopsShell at config given left Bytes serves.ends.0)

  from_served : (closed : Closed) (P : List ℕ → Held S → Held S → Type 0) → (Served → IfSome given (λ text. P text held serves.last)) → ClosesStore at.store at.leaves serves.last closed
      → FromStore at Unsaid format opens.0 closed (λ first last. IfSome given (λ text. P text first last))
  from_served closed P does closes = from_taken at Unsaid format opens.0 closed held serves.last (λ first last. IfSome given (λ text. P text first last)) opens.3 serves.clean does closes

  -- a status of the lines
  ran : (top : Status) → (Served → IfSome given (λ text. ServesText at.store at.sees format c text left read_failed Bytes serves.first top held serves.last))
      → ((closed : Closed) → greater top (closing_status closed) ≢ Failed → IsAtEnd left ⊎ (Bytes ≡ [])) → Ending (Ok top) → Both r
  ran top does whole (closed, is, (closes, told)) = subst Both (sym is)
      (whole closed, shell_ran opens.0 format c serves.first top closed opens.1 opens.2 (from_served closed (λ text. ServesText at.store at.sees format c text left read_failed Bytes serves.first top) does closes) told)

  -- or want of memory
  broke : (ended : Result Status AllocError) → IsErr ended → (Served → IfSome given (λ text. StopsText at.store at.sees format c Starved text left Bytes held serves.last)) → serves.first ≡ [] → Ending ended → Both r
  broke (Ok status) is does silent closes = absurd (cc is)
  broke (Err e) is does silent (closed, same, (closes, told)) = subst Both (sym same)
      (shell_part opens.0 format c closed opens.1 opens.2 (from_served closed (λ text. StopsText at.store at.sees format c Starved text left Bytes) does closes)
      (subst (λ it. serves.ends.0 ≡ it ++ closing_lines closed) silent told))

  both : (answered : Result Status LineFault) (ended : Result Status AllocError) → Seen answered → EndsInput read_failed new.failed left answered → TellsInput answered serves.first ended → Ending ended → new.failed ≡ false → Both r
  both (Ok top) ended lines reads (is, silent) closes sound =
      ran top
      (λ whole. served_all at.store at.sees format c Bytes given left read_failed new.failed held serves.last serves.first top
      (some_so given _ _ (λ text. shell_all at.store at.sees format c held Bytes text left new.failed serves.last top sound) (lines whole))
      reads.1 sound (read_sound read_failed (Ok top) top reads.0 refl) silent)
      (λ closed other. inl (at_end reads.1)) (subst Ending is closes)
    where
      at_end : ((top ≡ Failed) × (new.failed ≡ true)) ⊎ IsAtEnd left → IsAtEnd left
      at_end (inl fails) = absurd (cc (sound, fails.1))
      at_end (inr end) = end
  both (Err (Unreadable cause)) ended lines reads (is, told) closes sound =
      ran Failed
      (λ whole. served_part at.store at.sees format c Bytes cause given left read_failed held serves.last serves.first
      (some_so given _ _ (λ text. shell_stops at.store at.sees format c held Bytes text left new.failed serves.last (Unreadable cause)) (lines whole))
      (read_by {T = Status} read_failed (Err (Unreadable cause)) cause reads.0 refl) told)
      (λ closed other. absurd (other refl)) (subst Ending is closes)
  both (Err Starved) ended lines reads (is, silent) closes sound =
      broke ended is (λ whole. some_so given _ _ (λ text. shell_stops at.store at.sees format c held Bytes text left new.failed serves.last Starved) (lines whole)) silent closes

  pub shell_served : EndsUnfailed old new fault_old fault_new (λ bytes told status. (status ≢ Failed → IsAtEnd left ⊎ (bytes ≡ [])) × RunsShell at config given left read_failed bytes told status) (StopsShell at config given left) r
  shell_served = (Bytes, serves.ends.0, (λ sound _. both serves.answered serves.ended serves.lines.1 serves.reads serves.tells serves.ends.1 sound), serves.lines.2, serves.ends.2)

  -- what becomes of the store, whatever is written
  pub left_served : (Said : List ℕ → Type 0) → LeavesByShell at config given r Said
  left_served Said = behind serves.ended serves.ends.1
    where
      gone : (closed : Closed) → ClosesStore at.store at.leaves serves.last closed → LeavesByShell at config given r Said
      gone closed closes = inr (
        opens.0,
        opens.1,
        used format c closed (inr tt) opens.2 (from_served closed (λ text. DoesPart at.store at.sees format c 0 text)
            (λ whole. some_so given _ _ (λ text. shell_done at.store at.sees format c held Bytes text left new.failed serves.last serves.answered) (serves.lines.1 whole)) closes),
      )

      behind : (ended : Result Status AllocError) → Ending ended → LeavesByShell at config given r Said
      behind (Ok top) (closed, is, (closes, told)) = gone closed closes
      behind (Err e) (closed, is, (closes, told)) = gone closed closes

  -- a failed read ends in `Failed`
  pub shell_reads : read_failed ≡ true → IfOk r (λ status. status ≡ Failed)
  shell_reads failed = read serves.answered serves.ended serves.reads serves.tells serves.ends.1
    where
      read : (answered : Result Status LineFault) (ended : Result Status AllocError) → EndsInput read_failed new.failed left answered → TellsInput answered serves.first ended → Ending ended → IfOk r (λ status. status ≡ Failed)
      read (Ok top) ended reads tells closes = absurd (cc (reads.0.1 failed))
      read (Err (Unreadable cause)) ended reads (is, told) closes = let it = subst Ending is closes in subst (λ r. IfOk r (λ status. status ≡ Failed)) (sym it.1) refl
      read (Err Starved) (Ok status) reads (is, silent) closes = absurd (cc is)
      read (Err Starved) (Err e) reads tells (closed, is, rest) = subst (λ r. IfOk r (λ status. status ≡ Failed)) (sym is) tt
