-- What comes of words, from the profile that they name and the register in the store at its path.
use Rattle.zeb_program.proofs.Cited.{Held, state, HasCleanDisk, State, ◌≡◌, ◌≢◌, ◌⊎◌, ◌++◌, ℕ, Bool, true, List, [], inl, inr, refl, subst, sym, option_map, AllocError, Global, Conditions, Refusal, Init, Reply, Holdings, nothing_yet, Holding, Tells, Closed, StoreCause, Directive, closing_lines, leaving_lines, DoesOnNothing, DoesTask, Explains, ExplainsUnread, NamesRegister, refusal_cause, IsOpeningFault, CarriesOut, StandsFor, ExplainsRun, GivesClosed, GivesFor, OpensUnder, RunsOnNothing, ServesHeld, ServesOnNothing, TakesIn, ReadsProfile, AreConditionsIn, AreScriptConditions, HoldsNothing, BeginsRegister, AnswersFrom, ServesTask, closing_status, AnswersOn, AnswersTask, ReadsWhole, paths_of, TellsUnanswered, WarnsOf, warning_bytes, TellsApart, Performs, ReadsAt, RunsLines, on_store, in_memory, no_memory, no_register, StopsLines, part_in_memory, no_line, Cause, Failure, Fault, Told, Status, Served, Task, Ask, Format, packed_blocks, LayoutChoice, Unsaid, Shows, ShowsBatch, ⊤}
use Rattle.std.specs.Prelude.{Option, Some, None, Result, Ok, Err, IfOk, IfErr, MatchResult, String, string_bytes}
use Rattle.sqlite.specs.Files.{file_state, over_files}
use Rattle.sqlite.specs.Store.{Ghosts}
use Rattle.zeb_program.specs.declared.faults.Fault.TheVariants as fault
use Rattle.zeb_program.specs.declared.performing.Performed.{Performed}
use Rattle.zeb_program.specs.declared.performing.Unopened.{Unopened}
use Rattle.zeb_program.specs.declared.tasks.Served.TheVariants.{Replied, Shown}
use Rattle.zeb_program.specs.FaultAnswers.{GivesAnswer, IsOpeningFailure, IsUnreadWhole, Reaches}
use Rattle.zeb_program.specs.FaultLines.{TellsCaused}
use Rattle.zeb_program.specs.Registers.{ClosesStore, FromStore, HasStore, LacksStore, kept, none, Places, nothing_met}
use Rattle.zeb_program.specs.ScriptAnswers.{MemoryConnection}
use Rattle.zeb_program.specs.WordRuns.{ServesUnder, answered, unopened, none_made, IsOwnOr, StopsOpening, StopsReading, StopsTask, not_opened, not_read, StopsShell, shell_silent}
use Rattle.zeb_paths.specs.declared.paths.Asked.TheVariants.{Text}
use Rattle.zeb_program.proofs.ExplanationLemmas.{fails_so, opening_explained}
use Rattle.zeb_program.proofs.ScriptAnswerLemmas.{part_from_nothing, run_from_nothing}
use Rattle.zeb_program.proofs.TaskLemmas.{over_nothing, task_serves}

-- what is said of a store's tables
pub from_kept : {S : Type 0} (at : Places S) (choice : LayoutChoice) (format : Format) (profile : List Directive) (closed : Closed) (P Q : Held S → Held S → Type 0) → ((first last : Held S) → P first last → Q first last)
    → FromStore at choice format profile closed P → FromStore at choice format profile closed Q
from_kept at choice format profile closed P Q so from = record {
  opened = from.opened;
  taken = from.taken;
  last = from.last;
  opens = from.opens;
  takes = from.takes;
  used = from.used;
  does = λ clean. so from.taken from.last (from.does clean);
  ends = from.ends;
}

-- of the store that was taken over, and then closed
pub from_taken : {S : Type 0} (at : Places S) (choice : LayoutChoice) (format : Format) (profile : List Directive) (closed : Closed) (held last : Held S) (P : Held S → Held S → Type 0) → TakesIn at choice format profile held
    → (HasCleanDisk (state at.store last) → HasCleanDisk (state at.store held)) → (HasCleanDisk (state at.store last) → P held last) → ClosesStore at.store at.leaves last closed → FromStore at choice format profile closed P
from_taken at choice format profile closed held last P takes clean does ends = record {
  opened = takes.0.0;
  taken = held;
  last = last;
  opens = takes.0.1;
  takes = λ whole. takes.0.2 (clean whole);
  used = λ whole. takes.1 (clean whole);
  does = does;
  ends = ends;
}

-- ---- a task

-- a task on the register in the store
pub answered_kept : {S : Type 0} (at : Places S) (choice : LayoutChoice) (format : Format) (profile : List Directive) (task : Task) (tells : List ℕ → Option (List ℕ)) (c : Conditions) (held : Held S) (closed : Closed) (answer : Result Reply Fault)
    → tells ≡ at.tells → HasStore at profile ⊎ (task ≡ Ask Init) → AreConditionsIn format profile c → TakesIn at choice format profile held
    → ServesHeld at.store at.leaves tells at.sees format c task held closed answer → ServesUnder at choice profile task closed answer
answered_kept at choice format profile task tells c held closed answer same may under takes serves =
    let s = subst (λ t. ServesHeld at.store at.leaves t at.sees format c task held closed answer) same serves in
    answered s.own s.is format c under (kept may (from_taken at choice format profile closed held s.last (DoesTask at.store at.tells at.sees format c task s.own) takes s.clean s.does s.ends))

-- carried out in a session, which is then closed
pub served_held : {S : Type 0} (g : Ghosts S) (leaves : Closed → S → Type 0) (at : Tells) (format : Format) (c : Conditions) (task : Task) (held last : Held S) (closed : Closed) (own answer : Result Reply Fault)
    → (HasCleanDisk (state g last) → HasCleanDisk (state g held)) → CarriesOut at format c task (state g held) (state g last) own
    → ClosesStore g leaves last closed → IsOwnOr answer own → ServesHeld g leaves at.bytes at format c task held closed answer
served_held g leaves at format c task held last closed own answer clean done ends is = record {
  own = own;
  is = is;
  last = last;
  clean = clean;
  does = λ whole. record { over = done.over whole; reaches = done.reaches; serves = task_serves at format c task (state g held) (state g last) own (done.over whole) };
  ends = ends;
}

-- what comes of it, by its parts
pub gives_for : (r : Result Told Failure) (P Q : Result Reply Fault → Type 0) → ((answer : Result Reply Fault) → P answer → Q answer) → GivesFor r P → GivesFor r Q
gives_for (Ok told) P Q so h = (h.0, h.1, so (Ok h.0) h.2)
gives_for (Err failure) P Q so h = so (Err failure.fault) h

-- a failure, by another reason
pub why_for : {A : Type 0} (r : Result A Failure) (P Q : Failure → Type 0) → ((failure : Failure) → P failure → Q failure) → IfErr r P → IfErr r Q
why_for (Ok told) P Q so h = tt
why_for (Err failure) P Q so h = so failure h

-- by how the register is closed
pub gives_closed : (r : Performed) (P Q : Closed → Result Reply Fault → Type 0) (Why Then : Option StoreCause → Failure → Type 0) → ((closed : Closed) (answer : Result Reply Fault) → P closed answer → Q closed answer)
    → ((met : Option StoreCause) (failure : Failure) → Why met failure → Then met failure) → GivesClosed r P Why → GivesClosed r Q Then
gives_closed r P Q Why Then so then h = (gives_for r.told (P r.closed) (Q r.closed) (so r.closed) h.0, why_for r.told (Why r.closed.cause) (Then r.closed.cause) (then r.closed.cause) h.1)

-- where no store was opened
pub without_store : (P : Closed → Result Reply Fault → Type 0) (Why : Option StoreCause → Failure → Type 0) (r : Performed) (told : Result Told Failure) → r.told ≡ told → r.closed ≡ nothing_met → GivesFor told (P nothing_met) → IfErr told (Why None) → GivesClosed r P Why
without_store P Why r told is closed gives why =
    subst (λ it. GivesFor r.told (P it) × IfErr r.told (Why it.cause)) (sym closed) (subst (λ it. GivesFor it (P nothing_met) × IfErr it (Why None)) (sym is) (gives, why))

-- what is so where a command begins a register
pub begun_or : (A B : Type 0) (begins : Bool) → A ⊎ (begins ≡ true) → (begins ≡ true → B) → A ⊎ B
begun_or A B begins (inl a) so = inl a
begun_or A B begins (inr is) so = inr (so is)

-- a register wasn't opened
pub unopened_register : {S : Type 0} (at : Places S) (choice : LayoutChoice) (profile : List Directive) (task : Task) (why : Fault) (cause : Option Cause) (closed : Closed) → HasStore at profile ⊎ (task ≡ Ask Init) → IsOpeningFault at profile why cause closed
    → ServesUnder at choice profile task closed (Err why) × Explains at.sees at.explains (paths_of task) closed.cause why cause
unopened_register at choice profile task (fault.Refused why) cause closed may (failing, told) =
    (unopened may failing, opening_explained at.sees at.explains (paths_of task) closed.cause why cause told (fails_so at profile why closed failing))
unopened_register at choice profile task (fault.Profile file why) cause closed may is = absurd is
unopened_register at choice profile task (fault.Unreadable path) cause closed may is = absurd is
unopened_register at choice profile task fault.Memory cause closed may is = absurd is

-- a task on nothing, where no store stands
pub on_nothing : {S : Type 0} (at : Places S) (choice : LayoutChoice) (profile : List Directive) (task : Task) (tells : List ℕ → Option (List ℕ)) (answer : Result Reply Fault) → tells ≡ at.tells → LacksStore at profile → ¬ (task ≡ Ask Init) → at.untouched
    → ServesOnNothing tells at.sees profile task answer → ServesUnder at choice profile task nothing_met answer
on_nothing at choice profile task tells answer same lacks other still (inl (own, is, c, under, does)) =
    answered own is packed_blocks c under (none refl lacks other still refl (subst (λ t. DoesOnNothing t at.sees c task own) same does))
on_nothing at choice profile task tells answer same lacks other still (inr (why, failure, is)) = subst (ServesUnder at choice profile task nothing_met) (sym is) (none_made lacks other still failure refl)

-- what is answered on what a connection keeps is the answer on it
given_answer : (r : Result Reply Fault) (P Q : Result Reply Refusal → Type 0) → ((answer : Result Reply Refusal) → P answer → Q answer) → GivesAnswer P r → GivesAnswer Q r
given_answer (Ok reply) P Q so h = so (Ok reply) h
given_answer (Err (fault.Profile file why)) P Q so h = h
given_answer (Err (fault.Unreadable path)) P Q so h = h
given_answer (Err (fault.Refused why)) P Q so h = so (Err why) h
given_answer (Err fault.Memory) P Q so h = tt

served_on : (told : List ℕ → Option (List ℕ)) (c : Conditions) (task : Task) (held last : State) (r : Result Reply Fault) (before : Holdings) → ServesTask told c task held last r → Holding held before → AnswersOn told c task r before
served_on told c task held last r before serves keeps files known = go (serves files known)
  where
    go : AnswersFrom held last r (AnswersTask c task files) ⊎ (ReadsWhole task × IsUnreadWhole told r)
        → GivesAnswer (λ answer. (later : Holdings) × AnswersTask c task files before answer later) r ⊎ (ReadsWhole task × IsUnreadWhole told r)
    go (inl from) = inl (given_answer r (λ answer. (later : Holdings) × AnswersTask c task files before answer later × Holding last later) (λ answer. (later : Holdings) × AnswersTask c task files before answer later)
        (λ answer h. (h.0, h.1)) (from before keeps))
    go (inr unread) = inr unread

-- a task on a register in memory
pub served_nothing : (at : Tells) (profile : List Directive) (task : Task) (c : Conditions) (held last : State) (own answer : Result Reply Fault) → AreScriptConditions profile c → HoldsNothing held
    → HasCleanDisk last → CarriesOut at packed_blocks c task held last own → IsOwnOr answer own → ServesOnNothing at.bytes at profile task answer
served_nothing at profile task c held last own answer under empty clean done is =
    inl (
      own,
      is,
      c,
      under,
      record {
        over = over_nothing at packed_blocks c task held last own empty (done.over clean);
        reaches = done.reaches;
        answers = served_on at.bytes c task held last own nothing_yet (task_serves at packed_blocks c task held last own (done.over clean)) empty.1;
      },
    )

-- ---- what is told of a task

-- of one that is answered
pub told_done : {S : Type 0} (at : Places S) (choice : LayoutChoice) (config : String Global) (task : Task) (status : Status) (r : Performed) (told : Told) (Why : Option StoreCause → Failure → Type 0)
    → r.told ≡ Ok told → GivesClosed r (Performs at choice config task) Why → status ≡ closing_status r.closed → WarnsOf at.tells at.sees task (option_map string_bytes told.warning)
    → TellsApart at choice config task told.text.items (warning_bytes (option_map string_bytes told.warning) ++ closing_lines r.closed) status
told_done at choice config task status r told Why is gives closing warns =
    let comes = subst (λ it. GivesFor it (Performs at choice config task r.closed)) is gives.0 in
    inl (r.closed, closing, (comes.0, comes.2, comes.1), (option_map string_bytes told.warning, warns, refl))

-- it warns as is said of what is told
pub told_warns : (tells : List ℕ → Option (List ℕ)) (at : Tells) (task : Task) (r : Result Told Failure) (told : Told) → r ≡ Ok told → IfOk r (λ it. WarnsOf tells at task (option_map string_bytes it.warning)) → WarnsOf tells at task (option_map string_bytes told.warning)
told_warns tells at task r told is warns = subst (λ it. IfOk it (λ that. WarnsOf tells at task (option_map string_bytes that.warning))) is warns

-- the path of the register in the profile at a path of the same bytes
renamed : (told : Option (List ℕ)) (config named : String Global) (why : Fault) → why ≢ fault.Memory → ReadsProfile told named (Err why) → (other : Fault) × (other ≢ fault.Memory) × ReadsProfile told config (Err other)
renamed told config named (fault.Profile file why) other read = (fault.Profile config why, λ same. (let bad : fault.Profile config why ≡ fault.Memory = same in cc), (refl, read.1, read.2, read.3))
renamed told config named (fault.Unreadable file) other read = (fault.Unreadable config, λ same. (let bad : fault.Unreadable config ≡ fault.Memory = same in cc), (refl, read.1))
renamed told config named (fault.Refused why) other read = absurd read
renamed told config named fault.Memory other read = absurd (other refl)

named_so : (tells : List ℕ → Option (List ℕ)) (config named : String Global) (why : Fault) (register : Option (String Global)) → string_bytes named ≡ string_bytes config → NamesRegister (tells (string_bytes named)) named why register
    → NamesRegister (tells (string_bytes config)) config why register
named_so tells config named why None same names = λ is.
    let n = names is in
    renamed (tells (string_bytes config)) config named n.0 n.1 (subst (λ bytes. ReadsProfile (tells bytes) named (Err n.0)) same n.2)
named_so tells config named why (Some path) same names = subst (λ bytes. NamesRegister (tells bytes) config why (Some path)) same names

pub unanswered_so : (tells : List ℕ → Option (List ℕ)) (config named : String Global) (why : Fault) (cause : Option Cause) (closed : Closed) (bytes : List ℕ) (status : Status) → string_bytes named ≡ string_bytes config
    → TellsUnanswered (tells (string_bytes named)) named why cause closed bytes status → TellsUnanswered (tells (string_bytes config)) config why cause closed bytes status
unanswered_so tells config named why cause closed bytes status same (first, lines, is, greater, (register, names, placed), are) =
    (first, lines, is, greater, (register, named_so tells config named why register same names, placed), are)

-- of one that has no answer
module _ {S : Type 0} (at : Places S) (choice : LayoutChoice) (config : String Global) (task : Task) (r : Performed) (failure : Failure) (is : r.told ≡ Err failure) (gives : GivesClosed r (Performs at choice config task) (ExplainsRun at config task)) (told : List ℕ) where
  pub told_why : (named : String Global) (status : Status) → string_bytes named ≡ string_bytes config
      → TellsUnanswered (at.sees.bytes (string_bytes named)) named failure.fault failure.cause r.closed told status → TellsApart at choice config task [] told status
  told_why named status same tells =
      let comes = subst (λ it. GivesFor it (Performs at choice config task r.closed)) is gives.0 in
      let why = subst (λ it. IfErr it (ExplainsRun at config task r.closed.cause)) is gives.1 in
      inr (refl, (failure.fault, failure.cause, r.closed, comes, why, unanswered_so at.sees.bytes config named failure.fault failure.cause r.closed told status same tells))

  -- or for whose lines memory ran out
  pub stopped_told : told ≡ leaving_lines r.closed → StopsTask at choice config task told
  stopped_told left = inr (failure.fault, r.closed, subst (λ it. GivesFor it (Performs at choice config task r.closed)) is gives.0, left)

-- ---- the lines of the input

-- on one in memory
pub ran_on_nothing : (at : Tells) (profile : List Directive) (n : ℕ) (text bytes : List ℕ) (c : Conditions) (first last : MemoryConnection) (r : Result Status AllocError) → AreScriptConditions profile c → HoldsNothing (file_state first)
    → ShowsBatch over_files at packed_blocks c n text first last bytes r → RunsOnNothing at profile n text bytes [] r
ran_on_nothing at profile n text bytes c first last (Ok status) under empty lines = inl (run_from_nothing at c profile first last n text bytes under empty status lines, refl)
ran_on_nothing at profile n text bytes c first last (Err e) under empty lines = (inl (part_from_nothing at c profile first last n text bytes under empty e lines), refl)

-- or none was opened, for this refusal
pub refused_on_nothing : (at : Tells) (profile : List Directive) (n : ℕ) (text told : List ℕ) (why : Refusal) (failure : Failure) (r : Result Status AllocError) → IsOpeningFailure why → (failure.fault ≡ fault.Refused why) × (failure.cause ≡ None)
    → Shows (TellsCaused failure.fault failure.cause) ⊤ told r → RunsOnNothing at profile n text [] told r
refused_on_nothing at profile n text told why failure (Ok status) is same tells =
    let named = subst (λ it. TellsCaused it failure.cause told status) same.0 tells in
    inr (why, is, refl, subst (λ it. TellsCaused (fault.Refused why) it told status) same.1 named)
refused_on_nothing at profile n text told why failure (Err e) is same (silent, _) = (inr refl, silent)

module _ {S : Type 0} (at : Places S) (config : String Global) (profile : List Directive) (text bytes told : List ℕ) where
  pub run_none : (r : Result Status AllocError) → LacksStore at profile → ¬ BeginsRegister text → at.untouched → RunsOnNothing at.sees profile 0 text bytes told r
      → MatchResult r (RunsLines at config profile text bytes told) (λ error. StopsLines at profile text bytes told)
  run_none (Ok status) lacks unmade still (inl (ran, quiet)) = in_memory lacks unmade still quiet ran
  run_none (Ok status) lacks unmade still (inr (why, is, silent, tells)) = no_memory lacks unmade still is silent tells
  run_none (Err e) lacks unmade still (stopped, quiet) = part_in_memory lacks unmade still quiet stopped

  -- by the profile in a file of a path with the same bytes
  pub lines_named : (named : String Global) (status : Status) → string_bytes named ≡ string_bytes config → RunsLines at named profile text bytes told status → RunsLines at config profile text bytes told status
  lines_named named _ same (on_store format c here closed under may from closes) = on_store format c here closed under may from closes
  lines_named named status same (in_memory lacks unmade still quiet opened) = in_memory lacks unmade still quiet opened
  lines_named named status same (no_memory lacks unmade still failure quiet tells) = no_memory lacks unmade still failure quiet tells
  lines_named named status same (no_register {why = why} {closed = closed} may failure quiet tells) =
      no_register may failure quiet (unanswered_so at.sees.bytes config named (fault.Refused why) (refusal_cause why closed.cause) closed told status same tells)

-- or none is opened
module _ {S : Type 0} (at : Places S) (profile : List Directive) (text : List ℕ) (may : HasStore at profile ⊎ BeginsRegister text) (told : List ℕ) where
  pub run_unopened : (config : String Global) (why : Fault) (cause : Option Cause) (closed : Closed) (status : Status) → IsOpeningFault at profile why cause closed
      → TellsUnanswered (at.sees.bytes (string_bytes config)) config why cause closed told status → RunsLines at config profile text [] told status
  run_unopened config (fault.Refused why) cause closed status (fails, is) tells =
      no_register may fails refl (subst (λ it. TellsUnanswered (at.sees.bytes (string_bytes config)) config (fault.Refused why) it closed told status) is tells)
  run_unopened config (fault.Profile file why) cause closed status is tells = absurd is
  run_unopened config (fault.Unreadable path) cause closed status is tells = absurd is
  run_unopened config fault.Memory cause closed status is tells = absurd is

  pub stop_unopened : (why : Fault) (cause : Option Cause) (closed : Closed) → IsOpeningFault at profile why cause closed → told ≡ leaving_lines closed → StopsLines at profile text [] told
  stop_unopened (fault.Refused why) cause closed (fails, is) left = no_line may fails refl left
  stop_unopened (fault.Profile file why) cause closed is left = absurd is
  stop_unopened (fault.Unreadable path) cause closed is left = absurd is
  stop_unopened fault.Memory cause closed is left = absurd is

-- ---- a shell

-- no register is opened for it
pub stops_opening : {S : Type 0} (at : Places S) (config : String Global) (profile : List Directive) (why : Fault) (cause : Option Cause) (closed : Closed) → ReadsAt at config (Ok profile) → IsOpeningFault at profile why cause closed → StopsOpening at config why cause closed
stops_opening at config profile (fault.Refused why) cause closed read (fails, is) = not_opened profile read fails is
stops_opening at config profile (fault.Profile file why) cause closed read is = absurd is
stops_opening at config profile (fault.Unreadable path) cause closed read is = absurd is
stops_opening at config profile fault.Memory cause closed read is = absurd is

-- there is no memory for the name of the profile's file
pub stop_unnamed : {S : Type 0} (at : Places S) (config : String Global) (given : Option (List ℕ)) → at.untouched → StopsShell at config given given [] []
stop_unnamed at config given still = shell_silent {fault = fault.Memory} {cause = None} (not_read still tt refl) refl refl refl

-- ---- what functions give on

-- under the profile in a file
pub opens_under : {S B E : Type 0} (at : Places S) (config : String Global) (profile : List Directive) (r : Result B E) (held : B → Held S) (format : B → Format) (c : B → Conditions) → ReadsAt at config (Ok profile)
    → IfOk r (λ it. AreConditionsIn (format it) profile (c it)) → IfOk r (λ it. TakesIn at Unsaid (format it) profile (held it)) → IfOk r (λ it. OpensUnder at config (format it) (c it) (held it))
opens_under at config profile (Ok session) held format c read under takes = (profile, read, under, takes)
opens_under at config profile (Err failure) held format c read under takes = tt

pub stops_so : {S B : Type 0} (at : Places S) (config : String Global) (profile : List Directive) (r : Result B Unopened) → ReadsAt at config (Ok profile) → IfErr r (λ it. IsOpeningFault at profile it.failure.fault it.failure.cause it.closed)
    → IfErr r (λ it. StopsOpening at config it.failure.fault it.failure.cause it.closed)
stops_so at config profile (Ok session) read failed = tt
stops_so at config profile (Err it) read failed = stops_opening at config profile it.failure.fault it.failure.cause it.closed read failed

-- a profile that isn't read
pub profile_fault : {S : Type 0} (at : Places S) (config : String Global) (given : Option (List ℕ)) (failed : Bool) (failure : Failure) → ReadsAt at config (Err failure.fault) → ExplainsUnread at.explains Text failure.fault failure.cause
    → StopsReading at config given failed failure.fault failure.cause
profile_fault at config given failed failure read told = inl (read, told)

-- what a task is answered names paths as what it stands for does
pub replied_reaches : (at : Tells) (Whole : Type 0) (named : List (List ℕ)) (r : Result Served Fault) (own : Result Reply Fault) → StandsFor r own → Reaches at Whole named r → Reaches at Whole named own
replied_reaches at Whole named (Ok (Replied reply)) own stands h = subst (Reaches at Whole named) (sym stands) h
replied_reaches at Whole named (Ok (Shown lines unmarked)) own stands h = subst (Reaches at Whole named) (sym stands.1) h
replied_reaches at Whole named (Err why) own stands h = subst (Reaches at Whole named) (sym stands) h
