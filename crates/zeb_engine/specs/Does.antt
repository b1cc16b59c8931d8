-- What each command does on any tables, whatever these hold: one case a command.
use Rattle.sqlite.specs.State.{State}
use Rattle.std.specs.Prelude.{◌≡◌, [], Err, IfErr, OnErr, OnOk, Result, map, string_bytes}
use Rattle.zeb_change.specs.Conditions.{Conditions}
use Rattle.zeb_change.specs.Reading.{NoReadFault}
use Rattle.zeb_change.specs.Refused.{why_of}
use Rattle.zeb_change.specs.declared.refusals.Refusal.{Refusal}
use Rattle.zeb_change.specs.declared.refusals.Refusal.TheVariants.{Damaged}
use Rattle.zeb_engine.specs.Analysed.{IsAnalysis}
use Rattle.zeb_engine.specs.Answers.{IsFailure, refused}
use Rattle.zeb_engine.specs.Causes.{OnlyLooks}
use Rattle.zeb_engine.specs.Changing.{ChangeDoes}
use Rattle.zeb_engine.specs.Checking.{CheckDoes}
use Rattle.zeb_engine.specs.Counting.{StatDoes}
use Rattle.zeb_engine.specs.Dumping.{DumpDoes}
use Rattle.zeb_engine.specs.Finding.{FindDoes}
use Rattle.zeb_engine.specs.Making.{CreateDoes, DropDoes}
use Rattle.zeb_engine.specs.Reindexing.{ReindexDoes}
use Rattle.zeb_engine.specs.Scanning.{ScanDoes}
use Rattle.zeb_engine.specs.Steps.{holding}
use Rattle.zeb_engine.specs.Upgrading.{UpgradeDoes}
use Rattle.zeb_engine.specs.declared.commands.Command.{Command}
use Rattle.zeb_engine.specs.declared.commands.Command.TheVariants.{Analyse, Change, Check, Create, Drop, Dump, Find, Init, Reindex, Scan, Stat, Upgrade}
use Rattle.zeb_engine.specs.declared.replies.Reply.{Reply}
use Rattle.zeb_image.specs.Holdings.{Holdings}
use Rattle.zeb_image.specs.Image.{Keeps}
use Rattle.zeb_image.specs.NameOf.{name_bytes}
use Rattle.zeb_register.specs.Calls.{ChangesNothing}
use Rattle.zeb_register.specs.Formats.{Format}
use Rattle.zeb_register.specs.Store.{IsStore}

-- an accepted init leaves a register without a database, whatever rows the tables of the store had
abbrev pub InitLeaves : Conditions → (old new : State) → Type 0
InitLeaves c old new = IsStore old → Keeps new (holding c [])

-- what a command does on any tables of a store, one case a command
abbrev pub Does : Format → Conditions → Command → (old new : State) → Result Reply Refusal → Type 0
Does format c Init old new answer = OnOk answer (InitLeaves c old new)
Does format c (Create name) old new answer = CreateDoes c (name_bytes name) old new answer
Does format c (Drop name) old new answer = DropDoes c (name_bytes name) old new answer
Does format c (Change kind name files) old new answer = ChangeDoes c kind (name_bytes name) (map (λ file. file.items) files.items) old new answer
Does format c (Find name query first count) old new answer = FindDoes format c (name_bytes name) (string_bytes query) first count old new answer
Does format c Check old new answer = CheckDoes c old new answer
Does format c Reindex old new answer = ReindexDoes format c old new answer
Does format c Upgrade old new answer = UpgradeDoes c old new answer
Does format c (Stat name) old new answer = StatDoes format c (name_bytes name) old new answer
Does format c (Dump name) old new answer = DumpDoes c (name_bytes name) old new answer
Does format c (Scan name query number position) old new answer = ScanDoes format c (name_bytes name) (string_bytes query) number position old new answer
Does format c (Analyse files) old new answer = OnlyLooks old new answer

-- all that is said of a command on any tables: refused, it changes nothing; what it does (`Does`); and damage is told only where the
-- tables are no image
pub record CommandOverTables (format : Format) (c : Conditions) (command : Command) (old new : State) (answer : Result Reply Refusal) : Type 0 where
  -- refused, it changes nothing
  pub refused : OnErr answer (ChangesNothing old new)
  pub does : Does format c command old new answer
  -- damage is told only of tables that are the image of no holding
  pub honest : answer ≡ Err Damaged → (before : Holdings) → ¬ Keeps old before

-- only a failure refuses an init
abbrev pub IsDoneOrFails : Result Reply Refusal → Type 0
IsDoneOrFails answer = IfErr answer (λ refusal. IsFailure (refused (why_of refusal)))

-- none is refused for a reader that failed, since its files are there as bytes
abbrev pub AnswersAnyway : Conditions → Command → Result Reply Refusal → Type 0
AnswersAnyway c Init answer = NoReadFault answer × IsDoneOrFails answer
AnswersAnyway c (Create name) answer = NoReadFault answer
AnswersAnyway c (Drop name) answer = NoReadFault answer
AnswersAnyway c (Change kind name files) answer = NoReadFault answer
AnswersAnyway c (Find name query first count) answer = NoReadFault answer
AnswersAnyway c Check answer = NoReadFault answer
AnswersAnyway c Reindex answer = NoReadFault answer
AnswersAnyway c Upgrade answer = NoReadFault answer
AnswersAnyway c (Stat name) answer = NoReadFault answer
AnswersAnyway c (Dump name) answer = NoReadFault answer
AnswersAnyway c (Scan name query number position) answer = NoReadFault answer
AnswersAnyway c (Analyse files) answer = NoReadFault answer × IsAnalysis c (map (λ file. file.items) files.items) answer
