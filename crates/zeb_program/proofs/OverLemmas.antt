-- What is written for a command, a change by a path and a line is their answer on any tables.
use Rattle.zeb_program.proofs.Cited.{◌≡◌, arith, inl, inr, ℕ, Bool, List, Vec, ap, map, refl, subst, sym, ◌≢◌, Option, Some, Result, Ok, Err, IfErr, OnErr, OnOk, String, string_bytes, Global, State, Survives, Trees, Directive, ChangesNothing, Format, version_of, Conditions, Refusal, Damaged, Store, Kind, Limits, Holdings, name_bytes, HasLines, IsAnalysed, answer_of, CommitsBy, Endures, TakesFiles, ServesBy, Command, Reply, Fault, ChangesBy, AnalysesOver, LeavesAlone, PathsLast, PathsLeave, PathsOver, ServesOver, TaskOver, AreTold, ◌⊎◌, MatchResult, OutOfMemory, ReadFault, GoesByTexts, Tells, AreFilesOf, ChangesOver, IsAnalysisOver, IsUntoldNth, IsUnread, IsUnreadAt, FindsAll, FindsFiles, Task}
use Rattle.sqlite.proofs.StateLemmas.{survives_weaker}
use Rattle.zeb_change.specs.Reading.{NoneFailed}
use Rattle.zeb_image.specs.Image.{Keeps}
use Rattle.zeb_image.specs.declared.names.DbName.{DbName}
use Rattle.zeb_engine.specs.Changing.{ChangesReady, LeavesWhole, LosesNamed}
use Rattle.zeb_engine.specs.Transactions.{EnduresRefusal, IsDurable, LeavesNoMore}
use Rattle.zeb_program.specs.declared.faults.Fault.TheVariants as fault
use Rattle.zeb_program.specs.declared.tasks.Task.TheVariants.{Ask, Change, Analyse}
use Rattle.zeb_program.specs.FaultAnswers.{GivesAnswer, IsUnreadable, NamesUntold, Reaches}
use Rattle.zeb_program.specs.PrivateAnalyses.{ReadsFiles}
use Rattle.zeb_program.specs.declared.analyses.AnalysedFiles.{AnalysedFiles}

-- where nothing is done nothing changes
pub still : (s : State) → ChangesNothing s s
still s = λ is_open. (is_open, refl, refl)

pub alone : (s : State) → LeavesAlone s s
alone s = (still s, λ db left. left)

survives_still : (s : State) (Commits : Trees → Type 0) → Survives s s Commits
survives_still s Commits = record { clean = omega (arith); shield = λ h. h; counts = omega (arith); limit = refl; closes = λ _ is_open. inl is_open; crash = λ _ db left. inl left }

-- ---- a change by paths

-- an answer of the register as the program gives it
abbrev pub given : Result Reply Refusal → Result Reply Fault
given (Ok reply) = Ok reply
given (Err refusal) = Err (fault.Refused refusal)

pub gives : (P : Result Reply Refusal → Type 0) (r : Result Reply Refusal) → P r → GivesAnswer P (given r)
gives P (Ok reply) p = p
gives P (Err refusal) p = p

-- an answer that is passed on as it is
passed : (r : Result Reply Refusal) (told : Result Reply Fault) → MatchResult r (λ reply. told ≡ Ok reply) (λ refusal. told ≡ Err (fault.Refused refusal)) → told ≡ given r
passed (Ok reply) told is = is
passed (Err refusal) told is = is

pub as_given : (P : Result Reply Fault → Type 0) (r : Result Reply Refusal) (told : Result Reply Fault) → MatchResult r (λ reply. told ≡ Ok reply) (λ refusal. told ≡ Err (fault.Refused refusal)) → P (given r) → P told
as_given P r told is so = subst P (sym (passed r told is)) so

-- it tells of no path
pub given_read : (r : Result Reply Refusal) → IfErr (given r) (λ why. ¬ IsUnread why)
given_read (Ok reply) = tt
given_read (Err refusal) = λ unread. unread

pub given_still : (P : Type 0) (r : Result Reply Refusal) → IfErr (given r) (λ why. IsUnread why → P)
given_still P (Ok reply) = tt
given_still P (Err refusal) = λ unread. absurd unread

pub given_reaches : (at : Tells) (Whole : Type 0) (named : List (List ℕ)) (r : Result Reply Refusal) → FindsAll at named → Reaches at Whole named (given r)
given_reaches at Whole named (Ok reply) found = found
given_reaches at Whole named (Err refusal) found = tt

pub given_refused : (P : Type 0) (r : Result Reply Refusal) → OnErr r P → OnErr (given r) P
given_refused P (Ok reply) p = p
given_refused P (Err refusal) p = p

given_untold : (told : List ℕ → Option (List ℕ)) (r : Result Reply Refusal) → IfErr (given r) (NamesUntold told)
given_untold told (Ok reply) = tt
given_untold told (Err refusal) = tt

given_durable : (P : Type 0) (r : Result Reply Refusal) → P → OnOk (given r) P
given_durable P (Ok reply) p = p
given_durable P (Err refusal) p = tt

given_endures : (old new : State) (r : Result Reply Refusal) → IfErr r (EnduresRefusal old new) → IfErr (given r) (λ why. why ≢ fault.Refused Store → LeavesNoMore old new)
given_endures old new (Ok reply) endures = tt
given_endures old new (Err refusal) endures = λ other. endures (λ is. other (ap fault.Refused is))

damaged : (r : Result Reply Refusal) → given r ≡ Err (fault.Refused Damaged) → r ≡ Err Damaged
damaged (Ok reply) is = absurd (cc is)
damaged (Err refusal) is = cc is

blamed : (r : Result Reply Refusal) (file : ℕ) → given r ≡ Err (fault.Refused (ReadFault file)) → r ≡ Err (ReadFault file)
blamed (Ok reply) file is = absurd (cc is)
blamed (Err refusal) file is = cc is

-- files that are told, where a walk gives just the named paths
pub told_either : (at : Tells) (paths files : List (List ℕ)) → AreFilesOf at paths paths files → AreTold at.bytes paths files
told_either at paths files (inl known) = known
told_either at paths files (inr known) = known

module _ (at : Tells) (format : Format) (profile : List Directive) (kind : Kind) (limits : Limits) (name : List ℕ) (paths walked : List (List ℕ)) (s : State) where
  -- the readers of the files were given to the register
  pub changed_over : {R : Type 0} (remaining : R → Option (List ℕ)) (has_failed : R → Bool) (before after : List R) (r : Result Reply Refusal)
      → ((files : List (List ℕ)) → AreFilesOf at paths walked files → (map remaining before ≡ map Some files) × NoneFailed has_failed after)
      → GoesByTexts (version_of format) profile s r
      → ((texts : List (List ℕ)) → map remaining before ≡ map Some texts → NoneFailed has_failed after → ChangesReady (version_of format) profile kind limits name texts s r)
      → (r ≡ Err Damaged → (held : Holdings) → ¬ Keeps s held)
      → ((file : ℕ) → r ≡ Err (ReadFault file) → IsUntoldNth at.bytes walked file)
      → PathsOver at format profile kind limits name paths walked s (given r)
  changed_over remaining has_failed before after r all ready elder honest blames = record {
    ready = inr (gives (GoesByTexts (version_of format) profile s) r ready);
    changes = λ files known. let tell = all files known in gives (ChangesReady (version_of format) profile kind limits name files s) r (elder files tell.0 tell.1);
    untold = given_untold at.bytes r;
    honest = λ is. honest (damaged r is);
    blames = λ file is. blames file (blamed r file is);
  }

  -- a path couldn't be read, or memory ran out in the program itself
  unread_over : (why : Fault) → IsUnread why → NamesUntold at.bytes why → ((files : List (List ℕ)) → AreFilesOf at paths walked files → why ≡ fault.Memory) → PathsOver at format profile kind limits name paths walked s (Err why)
  unread_over (fault.Unreadable path) unread untold memory = record { ready = inl tt; untold = untold; changes = λ files known. absurd (cc (memory files known)); honest = λ is. absurd (cc is); blames = λ file is. absurd (cc is) }
  unread_over fault.Memory unread untold memory = record { ready = inr tt; untold = tt; changes = λ files known. tt; honest = λ is. absurd (cc is); blames = λ file is. absurd (cc is) }
  unread_over _ unread untold memory = absurd unread

-- what is left of the tables
module _ (at : Tells) (c : Conditions) (kind : Kind) (name : List ℕ) (paths walked : List (List ℕ)) (old new : State) where
  -- and by a crash
  pub changed_last : {R : Type 0} (remaining : R → Option (List ℕ)) (has_failed : R → Bool) (before after : List R) (r : Result Reply Refusal)
      → ((files : List (List ℕ)) → AreFilesOf at paths walked files → (map remaining before ≡ map Some files) × NoneFailed has_failed after)
      → Survives old new (λ db. (texts : List (List ℕ)) → map remaining before ≡ map Some texts → NoneFailed has_failed after → CommitsBy (TakesFiles c kind name texts) old db)
      → ((texts : List (List ℕ)) → map remaining before ≡ map Some texts → NoneFailed has_failed after → Endures (TakesFiles c kind name texts) old new r)
      → IsDurable new → IfErr r (EnduresRefusal old new) → PathsLast at c kind name paths walked old new (given r)
  changed_last remaining has_failed before after r all survives crash durable endures = record {
    survives = survives_weaker old new _ _ (λ _ db commits files known. let tell = all files known in commits files tell.0 tell.1) survives;
    crash = λ files known. let tell = all files known in gives (Endures (TakesFiles c kind name files) old new) r (crash files tell.0 tell.1);
    accepted = given_durable (IsDurable new) r durable;
    refused = given_endures old new r endures;
  }

  -- the readers of the files were given to the register
  pub changed_leaves : {R : Type 0} (remaining : R → Option (List ℕ)) (has_failed : R → Bool) (before after : List R) (r : Result Reply Refusal)
      → ((files : List (List ℕ)) → AreFilesOf at paths walked files → (map remaining before ≡ map Some files) × NoneFailed has_failed after)
      → OnErr r (ChangesNothing old new)
      → ((texts : List (List ℕ)) → map remaining before ≡ map Some texts → NoneFailed has_failed after → ServesBy (TakesFiles c kind name texts) old new r)
      → LeavesWhole c.version c.profile kind name old new r
      → ((texts : List (List ℕ)) → map remaining before ≡ map Some texts → LosesNamed c.profile name texts old new r)
      → PathsLast at c kind name paths walked old new (given r) → PathsLeave at c kind name paths walked old new (given r)
  changed_leaves remaining has_failed before after r all nothing serves loses named lasts = record {
    refused = given_refused (ChangesNothing old new) r nothing;
    loses = inr (gives (LeavesWhole c.version c.profile kind name old new) r loses);
    serves = λ files known held keeps.
        let tell = all files known in
        gives (λ answer. (later : Holdings) × ChangesBy c kind name files held answer later × Keeps new later) r (serves files tell.0 tell.1 held keeps);
    named = λ files known. gives (LosesNamed c.profile name files old new) r (named files (all files known).0);
    lasts = lasts;
  }

-- a path couldn't be read, or memory ran out in the program itself
module _ (at : Tells) (c : Conditions) (kind : Kind) (name : List ℕ) (paths walked : List (List ℕ)) (s : State) where
  unread_last : (why : Fault) → ((files : List (List ℕ)) → AreFilesOf at paths walked files → why ≡ fault.Memory) → PathsLast at c kind name paths walked s s (Err why)
  unread_last why memory = record {
    survives = survives_still s (λ db. (files : List (List ℕ)) → AreFilesOf at paths walked files → CommitsBy (TakesFiles c kind name files) s db);
    crash = λ files known. subst (λ it. GivesAnswer (Endures (TakesFiles c kind name files) s s) (Err it)) (sym (memory files known)) tt;
    accepted = tt;
    refused = λ _ db left. left;
  }

  unread_leaves : (why : Fault) → IsUnread why → ((files : List (List ℕ)) → AreFilesOf at paths walked files → why ≡ fault.Memory) → PathsLeave at c kind name paths walked s s (Err why)
  unread_leaves (fault.Unreadable path) unread memory = record {
    refused = still s;
    loses = inl tt;
    serves = λ files known. absurd (cc (memory files known));
    named = λ files known. absurd (cc (memory files known));
    lasts = unread_last (fault.Unreadable path) memory;
  }
  unread_leaves fault.Memory unread memory = record {
    refused = still s;
    loses = inr tt;
    serves = λ files known held keeps. tt;
    named = λ files known. tt;
    lasts = unread_last fault.Memory memory;
  }
  unread_leaves (fault.Profile file why) unread memory = absurd unread
  unread_leaves (fault.Refused refusal) unread memory = absurd unread

-- both, of the files that a walk gives
pub changed_paths : (at : Tells) (format : Format) (c : Conditions) (kind : Kind) (name : List ℕ) (paths walked : List (List ℕ)) (old new : State) (r : Result Reply Refusal) → FindsFiles at paths walked
    → PathsOver at format c.profile kind c.limits name paths walked old (given r) → PathsLeave at c kind name paths walked old new (given r) → ChangesOver at format c kind name paths old new (given r)
changed_paths at format c kind name paths walked old new r found over leaves = record {
  walked = walked;
  found = inr (gives (λ answer. FindsFiles at paths walked) r found);
  over = over;
  leaves = leaves;
}

-- a path couldn't be read, or memory ran out in the program itself
pub unread_paths : (at : Tells) (format : Format) (c : Conditions) (kind : Kind) (name : List ℕ) (paths : List (List ℕ)) (s : State) (why : Fault) → IsUnread why → NamesUntold at.bytes why
    → ((files : List (List ℕ)) → AreTold at.bytes paths files → why ≡ fault.Memory) → ChangesOver at format c kind name paths s s (Err why)
unread_paths at format c kind name paths s why unread untold memory = record {
  walked = paths;
  found = lost why unread;
  over = unread_over at format c.profile kind c.limits name paths paths s why unread untold never;
  leaves = unread_leaves at c kind name paths paths s why unread never;
}
  where
    never : (files : List (List ℕ)) → AreFilesOf at paths paths files → why ≡ fault.Memory
    never files known = memory files (told_either at paths files known)

    lost : (it : Fault) → IsUnread it → IsUnreadable (Err it) ⊎ GivesAnswer (λ answer. FindsFiles at paths paths) (Err it)
    lost (fault.Unreadable path) is = inl tt
    lost fault.Memory is = inr tt
    lost (fault.Profile file why) is = absurd is
    lost (fault.Refused refusal) is = absurd is

-- ---- an analysis by paths

module _ (at : Tells) (profile : List Directive) (limit : ℕ) (paths : List (List ℕ)) (analysed : AnalysedFiles) (read : ReadsFiles at profile limit paths analysed) where
  over_texts : (answer : Result Reply Refusal) → IsAnalysed profile limit read.texts (answer_of answer) ⊎ (answer ≡ Err OutOfMemory) → IsAnalysisOver at profile limit paths answer
  over_texts answer is = record { texts = read.texts; analysed = is; short = read.short; these = read.these; walked = read.walked; found = read.found; read = read.read }

  -- the reply has the analyses of these texts
  pub analysed_over : (reply : Reply) → IsAnalysed profile limit read.texts (answer_of (Ok reply)) → AnalysesOver at profile limit paths (Ok reply)
  analysed_over reply is = inr (over_texts (Ok reply) (inl is))

  -- one of their records is refused, or memory ran out
  pub unshown_over : (why : Refusal) → HasLines profile limit read.texts (Err why) → AnalysesOver at profile limit paths (Err (fault.Refused why))
  unshown_over why (inl is) = inr (over_texts (Err why) (inl is))
  unshown_over why (inr is) = inr (over_texts (Err why) (inr (ap Err is)))

module _ (at : Tells) (profile : List Directive) (limit : ℕ) (paths : List (List ℕ)) where
  -- a path couldn't be read, or memory ran out in the program itself
  pub unanalysed_over : (why : Fault) → IsUnreadAt at.bytes why → AnalysesOver at profile limit paths (Err why)
  unanalysed_over (fault.Unreadable path) unread = inl unread
  unanalysed_over fault.Memory unread = inr tt
  unanalysed_over _ unread = absurd unread

-- ---- a task

module _ (at : Tells) (format : Format) (c : Conditions) (task : Task) (old new : State) (r : Result Reply Fault) where
  pub asked_task_over : (order : Command) → task ≡ Ask order → GivesAnswer (ServesOver format c order old new) r → OnErr r (ChangesNothing old new) → TaskOver at format c task old new r
  asked_task_over order is serves nothing = subst (λ t. TaskOver at format c t old new r) (sym is) (record { answer = serves; refused = nothing; reads = λ reads. absurd reads })

  -- the paths as a slice are those of the task
  pub changed_task_over : (kind : Kind) (database : DbName) (paths : Vec (String Global) Global) (named : List (String Global)) → task ≡ Change kind database paths → named ≡ paths.items
      → ChangesOver at format c kind (name_bytes database) (map string_bytes named) old new r → TaskOver at format c task old new r
  changed_task_over kind database paths named is same over = subst (λ t. TaskOver at format c t old new r) (sym is) (record {
    answer = subst (λ items. ChangesOver at format c kind (name_bytes database) (map string_bytes items) old new r) same over;
    refused = over.leaves.refused;
    reads = λ reads. absurd reads;
  })

  pub analysed_task_over : (paths : Vec (String Global) Global) (named : List (String Global)) → task ≡ Analyse paths → named ≡ paths.items
      → AnalysesOver at c.profile c.limits.records (map string_bytes named) r → new ≡ old → TaskOver at format c task old new r
  analysed_task_over paths named is same over left = subst (λ t. TaskOver at format c t old new r) (sym is) (record {
    answer = subst (λ items. AnalysesOver at c.profile c.limits.records (map string_bytes items) r) same over;
    refused = refused r;
    reads = λ _. subst (LeavesAlone old) (sym left) (alone old);
  })
    where
      nothing : ChangesNothing old new
      nothing = subst (ChangesNothing old) (sym left) (still old)

      refused : (answer : Result Reply Fault) → OnErr answer (ChangesNothing old new)
      refused (Ok reply) = tt
      refused (Err why) = nothing
