-- What becomes of the register's store, by what a task, a batch and a shell say of it.
use Rattle.zeb_program.proofs.Cited.{Held, ◌≡◌, ◌∙◌, ◌⊎◌, ℕ, Bool, List, [], ap, inl, inr, refl, subst, sym, AllocError, Global, Conditions, Init, Reply, Closed, StoreCause, Directive, DoesBatch, DoesShell, DoesTask, starved_line, EndsLeaving, LeavesAt, unused, failed, used, LeavesByBatch, LeavesByShell, LeavesByTask, LeavesStore, LeavesUnder, OpensNone, TellsOrStarves, TellsRefused, IsOpeningFault, GivesClosed, GivesFor, BeginsRegister, KnownSink, Sends, Sent, TellsStarved, status_code, IsToldSince, TellsLineOf, IsOwnOr, Performs, ReadsAt, unread, performed, ServesUnder, answered, unopened, none_made, StopsOpening, StopsReading, not_read, not_opened, Cause, Failure, Fault, Told, Status, Failed, Task, Ask, Format, LayoutChoice, Unsaid}
use Rattle.std.specs.Prelude.{IfErr, IsErr, Option, Result, Ok, Err, String, ⊤}
use Rattle.zeb_program.specs.Errands.{choice_of}
use Rattle.zeb_program.specs.LeftStores.{left_alone, left_by_task, left_by_batch, left_by_shell}
use Rattle.zeb_program.specs.Registers.{HasStore, Places, kept, none}
use Rattle.zeb_program.specs.declared.faults.Fault.TheVariants as fault
use Rattle.zeb_program.specs.declared.performing.Performed.{Performed}
use Rattle.zeb_program.proofs.SinkLemmas.{sent_still}
use Rattle.zeb_program.proofs.ToldLemmas.{told_further, told_last}
use Rattle.zeb_program.proofs.WordRunLemmas.{from_kept}

-- what is passed on by `?` is no status
pub starved : {T : Type 0} (r : Result T AllocError) (e : AllocError) → r ≡ Err e → IsErr r
starved r e is = subst (λ it. IsErr it) (sym is) refl

-- ---- a store that is opened, or not

module _ {S : Type 0} (at : Places S) (choice : LayoutChoice) (profile : List Directive) (ended : Result Status AllocError) (Said : List ℕ → Type 0) (Makes : Type 0) (Does : Format → Conditions → Held S → Held S → Type 0) where
  pub left_unopened : (why : Fault) (cause : Option Cause) (closed : Closed) → HasStore at profile ⊎ Makes → IsOpeningFault at profile why cause closed → TellsOrStarves ended Said why
      → LeavesAt at choice profile ended Said Makes Does
  left_unopened (fault.Refused why) cause closed may is told = failed may is.0 told
  left_unopened (fault.Profile file why) cause closed may is told = absurd is
  left_unopened (fault.Unreadable path) cause closed may is told = absurd is
  left_unopened fault.Memory cause closed may is told = absurd is

-- or none is, for this fault
left_none : {S : Type 0} (at : Places S) (ended : Result Status AllocError) (Said : List ℕ → Type 0) (Why : Fault → Type 0) (why : Fault) → at.untouched → Why why → TellsOrStarves ended Said why
    → OpensNone at ended Said Why
left_none at ended Said Why why still is (inl out) = (still, inl out)
left_none at ended Said Why why still is (inr told) = (still, inr (why, is, told))

-- ---- a task

-- where memory ran out behind an answer, no other is told
own_told : (ended : Result Status AllocError) (Said : List ℕ → Type 0) (answer own : Result Reply Fault) → IsOwnOr answer own → TellsRefused ended Said answer → TellsRefused ended Said own
own_told ended Said answer own (inl same) told = subst (λ it. TellsRefused ended Said it) same told
own_told ended Said answer own (inr same) told = any own (out (subst (λ it. TellsRefused ended Said it) same told))
  where
    out : TellsOrStarves ended Said fault.Memory → IsErr ended
    out (inl is) = is
    out (inr (line, status, tells, said)) = absurd tells

    any : (it : Result Reply Fault) → IsErr ended → TellsRefused ended Said it
    any (Ok reply) is = tt
    any (Err why) is = inl is

module _ {S : Type 0} (at : Places S) (choice : LayoutChoice) (task : Task) (ended : Result Status AllocError) (Said : List ℕ → Type 0) where
  abbrev DoesAny : Format → Conditions → Held S → Held S → Type 0
  DoesAny format c first last = (own : Result Reply Fault) × TellsRefused ended Said own × DoesTask at.store at.tells at.sees format c task own first last

  under_task : (profile : List Directive) (closed : Closed) (answer : Result Reply Fault) → ServesUnder at choice profile task closed answer → TellsRefused ended Said answer
      → LeavesAt at choice profile ended Said (task ≡ Ask Init) DoesAny
  under_task profile closed answer (answered own is format c under (kept may from)) told =
      used format c closed may under
      (from_kept at choice format profile closed (DoesTask at.store at.tells at.sees format c task own) (DoesAny format c) (λ first last done. (own, own_told ended Said answer own is told, done)) from)
  under_task profile closed answer (answered own is format c under (none blocks lacks other still whole said)) told = unused still lacks other
  under_task profile closed _ (unopened may fails) told = failed may fails told
  under_task profile closed answer (none_made lacks other still failure whole) told = unused still lacks other

  by_task : (config : String Global) (closed : Closed) (answer : Result Reply Fault) → Performs at choice config task closed answer → TellsRefused ended Said answer
      → LeavesByTask at choice config task ended Said
  by_task config closed _ (unread {fault = why} still read whole) told = inl (left_none at ended Said (λ it. ReadsAt at config (Err it)) why still read told)
  by_task config closed answer (performed profile read serves) told = inr (profile, read, under_task profile closed answer serves told)

  told_task : (config : String Global) (closed : Closed) (given : Result Told Failure) → GivesFor given (Performs at choice config task closed) → IfErr given (λ failure. TellsOrStarves ended Said failure.fault)
      → LeavesByTask at choice config task ended Said
  told_task config closed (Ok told) gives says = by_task config closed (Ok gives.0) gives.2 tt
  told_task config closed (Err failure) gives says = by_task config closed (Err failure.fault) gives says

  -- one that is answered
  pub left_answered : (config : String Global) (r : Performed) (told : Told) (Why : Option StoreCause → Failure → Type 0) → r.told ≡ Ok told → GivesClosed r (Performs at choice config task) Why
      → LeavesByTask at choice config task ended Said
  left_answered config r told Why is gives = told_task config r.closed r.told gives.0 (subst (λ it. IfErr it (λ failure. TellsOrStarves ended Said failure.fault)) (sym is) tt)

  -- or isn't
  pub left_refused : (config : String Global) (r : Performed) (failure : Failure) (Why : Option StoreCause → Failure → Type 0) → r.told ≡ Err failure → GivesClosed r (Performs at choice config task) Why
      → TellsOrStarves ended Said failure.fault → LeavesByTask at choice config task ended Said
  left_refused config r failure Why is gives told =
      told_task config r.closed r.told gives.0 (subst (λ it. IfErr it (λ failure. TellsOrStarves ended Said failure.fault)) (sym is) told)

-- ---- the lines of the input

-- of a batch, of which none is run
pub left_unread : {S : Type 0} (at : Places S) (config : String Global) (given : Option (List ℕ)) (broke : Bool) (why : Fault) (cause : Option Cause) (ended : Result Status AllocError) (Said : List ℕ → Type 0)
    → at.untouched → StopsReading at config given broke why cause → TellsOrStarves ended Said why → LeavesByBatch at config given ended Said
left_unread at config given broke why cause ended Said still stops told =
    inl (left_none at ended Said (λ it. (lost : Bool) × (known : Option Cause) × StopsReading at config given lost it known) why still (broke, cause, stops) told)

-- of a shell, for which no register is opened
pub left_unserved : {S : Type 0} (at : Places S) (config : String Global) (given : Option (List ℕ)) (why : Fault) (cause : Option Cause) (closed : Closed) (ended : Result Status AllocError) (Said : List ℕ → Type 0)
    → StopsOpening at config why cause closed → TellsOrStarves ended Said why → LeavesByShell at config given ended Said
left_unserved at config given why cause _ ended Said (not_read still read explains) told = inl (left_none at ended Said (λ it. ReadsAt at config (Err it)) why still read told)
left_unserved at config given _ cause closed ended Said (not_opened profile read fails is) told = inr (profile, read, failed (inr tt) fails told)

-- ---- what is told stays so

module _ {S : Type 0} (at : Places S) (ended : Result Status AllocError) (Said Heard : List ℕ → Type 0) (stays : (line : List ℕ) → Said line → Heard line) where
  line_kept : (why : Fault) → TellsLineOf Said why → TellsLineOf Heard why
  line_kept why (line, status, tells, said) = (line, status, tells, stays line said)

  told_kept : (why : Fault) → TellsOrStarves ended Said why → TellsOrStarves ended Heard why
  told_kept why (inl out) = inl out
  told_kept why (inr told) = inr (line_kept why told)

  refused_kept : (own : Result Reply Fault) → TellsRefused ended Said own → TellsRefused ended Heard own
  refused_kept (Ok reply) told = tt
  refused_kept (Err why) told = told_kept why told

  none_kept : (Why : Fault → Type 0) → OpensNone at ended Said Why → OpensNone at ended Heard Why
  none_kept Why (still, inl out) = (still, inl out)
  none_kept Why (still, inr (why, is, told)) = (still, inr (why, is, line_kept why told))

  at_kept : (choice : LayoutChoice) (profile : List Directive) (Makes : Type 0) (Does Did : Format → Conditions → Held S → Held S → Type 0)
      → ((format : Format) (c : Conditions) (first last : Held S) → Does format c first last → Did format c first last)
      → LeavesAt at choice profile ended Said Makes Does → LeavesAt at choice profile ended Heard Makes Did
  at_kept choice profile Makes Does Did so (unused still lacks unmade) = unused still lacks unmade
  at_kept choice profile Makes Does Did so (failed {why = why} may fails told) = failed may fails (told_kept (fault.Refused why) told)
  at_kept choice profile Makes Does Did so (used format c closed may under from) =
      used format c closed may under (from_kept at choice format profile closed (Does format c) (Did format c) (so format c) from)

  under_kept : (choice : LayoutChoice) (config : String Global) (Makes : Type 0) (Does Did : Format → Conditions → Held S → Held S → Type 0)
      → ((format : Format) (c : Conditions) (first last : Held S) → Does format c first last → Did format c first last)
      → LeavesUnder at choice config ended Said Makes Does → LeavesUnder at choice config ended Heard Makes Did
  under_kept choice config Makes Does Did so (inl nothing) = inl (none_kept (λ it. ReadsAt at config (Err it)) nothing)
  under_kept choice config Makes Does Did so (inr (profile, read, left)) = inr (profile, read, at_kept choice profile Makes Does Did so left)

  task_kept : (choice : LayoutChoice) (config : String Global) (task : Task) → LeavesByTask at choice config task ended Said → LeavesByTask at choice config task ended Heard
  task_kept choice config task left =
      under_kept choice config (task ≡ Ask Init) (DoesAny at choice task ended Said) (DoesAny at choice task ended Heard)
      (λ format c first last done. (done.0, refused_kept done.0 done.1, done.2)) left

  batch_kept : (config : String Global) (given : Option (List ℕ)) → LeavesByBatch at config given ended Said → LeavesByBatch at config given ended Heard
  batch_kept config given (inl nothing) = inl (none_kept (λ it. (lost : Bool) × (known : Option Cause) × StopsReading at config given lost it known) nothing)
  batch_kept config given (inr (text, is, profile, read, left)) = inr (
    text,
    is,
    profile,
    read,
    at_kept Unsaid profile (BeginsRegister text) (λ format c. DoesBatch at.store at.sees format c 0 text ended) (λ format c. DoesBatch at.store at.sees format c 0 text ended) (λ format c first last done. done) left,
  )

  shell_kept : (config : String Global) (given : Option (List ℕ)) → LeavesByShell at config given ended Said → LeavesByShell at config given ended Heard
  shell_kept config given left =
      under_kept Unsaid config ⊤ (λ format c. DoesShell at.store at.sees format c given) (λ format c. DoesShell at.store at.sees format c given) (λ format c first last done. done) left

  store_kept : (words : List (List ℕ)) (given : Option (List ℕ)) → LeavesStore at words given ended Said → LeavesStore at words given ended Heard
  store_kept words given (left_alone usage nameless said still) = left_alone usage nameless (λ is. stays starved_line (said is)) still
  store_kept words given (left_by_task named task names is left) = left_by_task named task names is (task_kept (choice_of named.act) named.config task left)
  store_kept words given (left_by_batch named names is left) = left_by_batch named names is (batch_kept named.config given left)
  store_kept words given (left_by_shell named names is left) = left_by_shell named names is (shell_kept named.config given left)

-- ---- the end of a run

-- where memory ran out for the program itself, that is told behind what was written, and is the status
pub ends_leaving : {V S : Type 0} (at : Places S) (words : List (List ℕ)) (given : Option (List ℕ)) (old mid next new : KnownSink V) (first : List ℕ) (r : Result Status AllocError) (met last : Status) (code : ℕ)
    → LeavesStore at words given r (IsToldSince old mid) → Sent old mid first → Sends mid next (λ told. TellsStarved r told met) → Sent next new []
    → (last ≡ met) ⊎ (last ≡ Failed) → code ≡ status_code last → EndsLeaving at words given code (IsToldSince old new)
ends_leaving at words given old mid next new first r met last code left sent tells passed ends is = go r left tells.1
  where
    all : Sent mid new tells.0
    all = sent_still mid next new tells.0 tells.2 passed

    kept : (r : Result Status AllocError) → LeavesStore at words given r (IsToldSince old mid) → LeavesStore at words given r (IsToldSince old new)
    kept r left = store_kept at r (IsToldSince old mid) (IsToldSince old new) (λ line said. told_further old mid new tells.0 all line said) words given left

    number : met ≡ Failed → (last ≡ met) ⊎ (last ≡ Failed) → code ≡ status_code Failed
    number out (inl it) = is ∙ ap status_code (it ∙ out)
    number out (inr it) = is ∙ ap status_code it

    go : (r : Result Status AllocError) → LeavesStore at words given r (IsToldSince old mid) → TellsStarved r tells.0 met → EndsLeaving at words given code (IsToldSince old new)
    go (Ok status) left same = (Ok status, kept (Ok status) left, tt)
    go (Err e) left (out, line) = (Err e, kept (Err e) left, (number out ends, told_last old mid new first starved_line sent (subst (λ it. Sent mid new it) line all)))
