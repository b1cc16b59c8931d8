-- What a task is answered.
use Rattle.zeb_program.proofs.Cited.{State, ChangesNothing, ServesOver, ◌≡◌, ◌⊎◌, [], ap, inl, inr, ℕ, List, map, refl, subst, sym, Vec, Global, Conditions, Refusal, Kind, IsAnalysed, IsFailure, answer_of, GoesByTexts, IsReadyFor, IsRefusedOver, KeepsText, Command, Reply, Holdings, nothing_yet, AnalysesOver, IsAnalysisOver, IsRefusedUnbegun, IsUntoldNth, OverNothing, TaskOver, IsUnread, HoldsNothing, AnswersFrom, ServesTask, AnalysesFiles, AnswersCommand, AreTold, ReadsWhole, paths_of, FindsAll, FindsFiles, Fault, Served, Task, Format, version_of}
use Rattle.std.specs.Prelude.{⊤, codes, IfErr, Result, Ok, Err, String, string_bytes}
use Rattle.zeb_change.specs.declared.refusals.Refusal.TheVariants.{Damaged, Memory as OutOfMemory, NotInitialised, OldFormat, ProfileChanged, ReadFault, Store}
use Rattle.zeb_image.specs.Image.{Keeps}
use Rattle.zeb_paths.specs.Walks.{Tells, at_end}
use Rattle.zeb_image.specs.declared.names.DbName.{DbName}
use Rattle.zeb_engine.proofs.Ready.{none_there}
use Rattle.zeb_engine.proofs.ServesLemmas.{keeps_still}
use Rattle.zeb_program.specs.FaultAnswers.{GivesAnswer, IsUnreadWhole, IsUnreadable, NamesMet, Reaches}
use Rattle.zeb_program.specs.declared.faults.Fault.TheVariants as fault
use Rattle.zeb_program.specs.declared.tasks.Task.TheVariants.{Ask, Change, Analyse}

-- ---- one command

-- what is said of its answer on any tables is said of it on those that keep what a register holds
command_serves : (format : Format) (c : Conditions) (order : Command) (old new : State) (r : Result Reply Fault) → GivesAnswer (ServesOver format c order old new) r → AnswersFrom old new r (AnswersCommand c order)
command_serves format c order old new (Ok reply) over before keeps = let served = over.0 before keeps in (served.0, (served.0, served.1, refl), served.2)
command_serves format c order old new (Err (fault.Refused why)) over before keeps = let served = over.0 before keeps in (served.0, (served.0, served.1, refl), served.2)
command_serves format c order old new (Err fault.Memory) over before keeps = tt
command_serves format c order old new (Err (fault.Profile named why)) over before keeps = absurd over
command_serves format c order old new (Err (fault.Unreadable path)) over before keeps = absurd over

-- ---- an analysis

-- so it is of an analysis
module _ (c : Conditions) (at : Tells) (paths files : List (List ℕ)) (known : AreTold at.bytes paths files) (old new : State) (still : ChangesNothing old new) where
  analysed : (answer : Result Reply Refusal) (before : Holdings) → IsAnalysisOver at c.profile c.limits.records paths answer → AnalysesFiles c files before answer before
  analysed answer before over = by over.analysed
    where
      by : IsAnalysed c.profile c.limits.records over.texts (answer_of answer) ⊎ (answer ≡ Err OutOfMemory) → AnalysesFiles c files before answer before
      by (inl is) = inl (subst (λ texts. IsAnalysed c.profile c.limits.records texts (answer_of answer)) (over.these files known) is, refl)
      by (inr is) = inr (subst (λ (it : Result Reply Refusal). IsFailure (answer_of it)) (sym is) (inr refl), refl)

  analysis_serves : (r : Result Reply Fault) → AnalysesOver at c.profile c.limits.records paths r → AnswersFrom old new r (AnalysesFiles c files) ⊎ (⊤ × IsUnreadWhole at.bytes r)
  analysis_serves r (inl unread) = inr (tt, unread)
  analysis_serves (Ok reply) (inr over) = inl (λ before keeps. (before, analysed (Ok reply) before over, keeps_still before old new still keeps))
  analysis_serves (Err (fault.Refused refusal)) (inr over) = inl (λ before keeps. (before, analysed (Err refusal) before over, keeps_still before old new still keeps))
  analysis_serves (Err fault.Memory) (inr over) = inl (λ before keeps. tt)
  analysis_serves (Err (fault.Profile named why)) (inr over) = absurd over
  analysis_serves (Err (fault.Unreadable path)) (inr over) = absurd over

-- ---- a task

-- and of each task, where the bytes of the files at its paths are told
pub task_serves : (at : Tells) (format : Format) (c : Conditions) (task : Task) (old new : State) (r : Result Reply Fault) → TaskOver at format c task old new r → ServesTask at.bytes c task old new r
task_serves at format c (Ask command) old new r over files known = inl (command_serves format c command old new r over.answer)
task_serves at format c (Change kind database paths) old new r over files known = inl (over.answer.leaves.serves files (inl known))
task_serves at format c (Analyse paths) old new r over files known = analysis_serves c at (map string_bytes paths.items) files known old new (over.reads tt).0 r over.answer

-- ---- the path that can't be read

-- a fault that isn't that names none
met_read : (at : Tells) (Whole : Type 0) (named : List (List ℕ)) (why : Fault) → ¬ IsUnread why → NamesMet at Whole named why
met_read at Whole named (fault.Unreadable path) not = absurd (not tt)
met_read at Whole named (fault.Profile file why) not = tt
met_read at Whole named (fault.Refused why) not = tt
met_read at Whole named fault.Memory not = tt

-- a task that names no path
pub asked_reaches : (at : Tells) (task : Task) (command : Command) (r : Result Reply Fault) → task ≡ Ask command → IfErr r (λ why. ¬ IsUnread why) → Reaches at (ReadsWhole task) (paths_of task) r
asked_reaches at task command (Ok reply) is h = subst (λ t. FindsAll at (paths_of t)) (sym is) ([], ([], [], refl, at_end))
asked_reaches at task command (Err why) is h = met_read at (ReadsWhole task) (paths_of task) why h

-- the paths that a task names
pub change_reaches : (at : Tells) (task : Task) (kind : Kind) (database : DbName) (paths : Vec (String Global) Global) (named : List (String Global)) (r : Result Reply Fault) → task ≡ Change kind database paths → named ≡ paths.items
    → Reaches at ⊥ (map string_bytes named) r → Reaches at (ReadsWhole task) (paths_of task) r
change_reaches at task kind database paths named r is same h = subst (λ t. Reaches at (ReadsWhole t) (paths_of t) r) (sym is) (subst (λ items. Reaches at ⊥ (map string_bytes items) r) same h)

pub analysis_reaches : (at : Tells) (task : Task) (paths : Vec (String Global) Global) (named : List (String Global)) (r : Result Served Fault) → task ≡ Analyse paths → named ≡ paths.items
    → Reaches at ⊤ (map string_bytes named) r → Reaches at (ReadsWhole task) (paths_of task) r
analysis_reaches at task paths named r is same h = subst (λ t. Reaches at (ReadsWhole t) (paths_of t) r) (sym is) (subst (λ items. Reaches at ⊤ (map string_bytes items) r) same h)

-- ---- on a register that holds nothing yet

-- such a register keeps no text, and so it isn't ready
no_version : (s : State) (text : List ℕ) → HoldsNothing s → KeepsText s.now.trees (codes "version") text → ⊥
no_version s text empty there = none_there s.now.trees (codes "version") text (empty.1 empty.0).0.1.0.0 there

-- a refusal, as the program tells it
abbrev told_refusal : Refusal → Result Reply Fault
told_refusal why = Err (fault.Refused why)

-- so a change by the files that a walk gives is refused
module _ (at : Tells) (format : Format) (c : Conditions) (paths walked : List (List ℕ)) (s : State) (empty : HoldsNothing s) where
  unready : IsReadyFor (version_of format) c.profile s.now.trees → ⊥
  unready ready = no_version s (version_of format) empty ready.has_version

  unbegun : (why : Refusal) → IsRefusedOver (version_of format) c.profile s.now.trees why → (why ≡ Damaged → ⊥) → FindsFiles at paths walked → ((file : ℕ) → why ≡ ReadFault file → IsUntoldNth at.bytes walked file)
      → IsRefusedUnbegun at paths (Err why)
  unbegun NotInitialised over whole found blames = tt
  unbegun OldFormat over whole found blames = absurd (no_version s over.0.0 empty over.0.1)
  unbegun ProfileChanged over whole found blames = absurd (no_version s (version_of format) empty over.0)
  unbegun Damaged over whole found blames = absurd (whole refl)
  unbegun (ReadFault file) over whole found blames = (walked, found, blames file refl)
  unbegun Store over whole found blames = tt
  unbegun OutOfMemory over whole found blames = tt
  unbegun _ over whole found blames = absurd (unready over)

  none_begun : (result : Result Reply Fault) → IsUnreadable result ⊎ GivesAnswer (GoesByTexts (version_of format) c.profile s) result → IsUnreadable result ⊎ GivesAnswer (λ answer. FindsFiles at paths walked) result
      → (result ≡ Err (fault.Refused Damaged) → (before : Holdings) → ¬ Keeps s before) → ((file : ℕ) → result ≡ Err (fault.Refused (ReadFault file)) → IsUntoldNth at.bytes walked file)
      → IsUnreadable result ⊎ GivesAnswer (IsRefusedUnbegun at paths) result
  none_begun result (inl unread) found honest blames = inl unread
  none_begun (Ok reply) (inr goes) found honest blames = absurd (unready (goes (empty.1 empty.0).0.0))
  none_begun (Err (fault.Refused why)) (inr goes) (inl gap) honest blames = absurd gap
  none_begun (Err (fault.Refused why)) (inr goes) (inr found) honest blames = inr (unbegun why (goes (empty.1 empty.0).0.0) (λ is. honest (ap told_refusal is) nothing_yet empty.1) found
      (λ file is. blames file (ap told_refusal is)))
  none_begun (Err fault.Memory) (inr goes) found honest blames = inr tt
  none_begun (Err (fault.Profile file why)) (inr goes) found honest blames = absurd goes
  none_begun (Err (fault.Unreadable path)) (inr goes) found honest blames = absurd goes

pub over_nothing : (at : Tells) (format : Format) (c : Conditions) (task : Task) (old new : State) (result : Result Reply Fault) → HoldsNothing old → TaskOver at format c task old new result → OverNothing at c task result
over_nothing at format c (Ask command) old new result empty over = tt
over_nothing at format c (Change kind database paths) old new result empty over =
    let told = over.answer.over in
    none_begun at format c (map string_bytes paths.items) over.answer.walked old empty result told.ready over.answer.found told.honest told.blames
over_nothing at format c (Analyse paths) old new result empty over = over.answer
