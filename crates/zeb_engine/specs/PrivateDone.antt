-- What only the contracts of private functions speak of; no public clause reaches it.
-- What the call that carries a command out has done, before it is seen that no transaction is open.
use Rattle.std.specs.Prelude.{Bool, ℕ, List, Option, Result}
use Rattle.sqlite.specs.Held.{Held, state}
use Rattle.sqlite.specs.State.{HasCleanDisk, Survives}
use Rattle.sqlite.specs.Store.{Ghosts}
use Rattle.zeb_register.specs.declared.registers.Work.{Work}
use Rattle.zeb_register.specs.Content.{Posting}
use Rattle.zeb_register.specs.Formats.{Format}
use Rattle.zeb_change.specs.Conditions.{Conditions}
use Rattle.zeb_change.specs.declared.refusals.Refusal.{Refusal}
use Rattle.zeb_change.specs.declared.settings.Kind.{Kind}
use Rattle.zeb_engine.specs.declared.commands.Command.{Command}
use Rattle.zeb_engine.specs.declared.replies.Reply.{Reply}
use Rattle.zeb_engine.specs.Counts.{CommandCounts}
use Rattle.zeb_engine.specs.Crashes.{CommitsBy, MayCommit}
use Rattle.zeb_engine.specs.Does.{AnswersAnyway, Does}
use Rattle.zeb_engine.specs.FromReaders.{Give, NamesFaults, ReadersChange, ReadersCount}
use Rattle.zeb_engine.specs.PrivateConnections.{IsSettled}
use Rattle.zeb_engine.specs.Steps.{TakesFiles}
use Rattle.zeb_engine.specs.Transactions.{Commanded, CommandedBy}
use Rattle.zeb_engine.specs.Works.{ServesBy, ServesCommand}

pub record CommandDone {S : Type 0} (g : Ghosts S) (format : Format) (row_work : ℕ) (block_rows : List Posting → ℕ) (c : Conditions) (command : Command)
    (old new : Held S) (answer : Result Reply Refusal) (work : Work) : Type 0 where
  pub call : CommandedBy g command old new answer
  pub survives : Survives (state g old) (state g new) (MayCommit format c command (state g old))
  pub step : HasCleanDisk (state g new) → ServesCommand c command (state g old) (state g new) answer
  pub does : HasCleanDisk (state g new) → IsSettled (state g new) → Does format c command (state g old) (state g new) answer
  pub answers : AnswersAnyway c command answer
  pub counts : CommandCounts format row_work block_rows c command (state g old) (state g new) answer work

-- the same of a change by readers
pub record ReadersDone {S R : Type 0} (g : Ghosts S) (remaining : R → Option (List ℕ)) (may_fail has_failed : R → Bool) (before after : List R) (format : Format) (row_work : ℕ)
    (c : Conditions) (kind : Kind) (name : List ℕ) (old new : Held S) (answer : Result Reply Refusal) (work : Work) : Type 0 where
  pub call : Commanded (state g old) (state g new) answer
  pub survives : Survives (state g old) (state g new) (λ db. Give remaining has_failed before after (λ texts. CommitsBy (TakesFiles c kind name texts) (state g old) db))
  pub step : HasCleanDisk (state g new)
      → Give remaining has_failed before after (λ texts. ServesBy (TakesFiles c kind name texts) (state g old) (state g new) answer)
  pub does : HasCleanDisk (state g new) → ReadersChange remaining has_failed before after c kind name (state g old) (state g new) answer
  pub faults : NamesFaults may_fail has_failed before after answer
  pub counts : ReadersCount remaining has_failed before after c kind name (state g old) (state g new) answer format row_work work
