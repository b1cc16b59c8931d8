-- What the engine's work does to a connection, whatever it does to rows.
use Rattle.std.specs.Prelude.{◌≡◌, ◌≢◌, List, IfErr, IsTrue, OnErr, OnOk, Result}
use Rattle.std.specs.List.{AllByRecursion}
use Rattle.sqlite.specs.Held.{Held, state}
use Rattle.sqlite.specs.State.{State, HasCleanDisk}
use Rattle.sqlite.specs.Store.{Ghosts}
use Rattle.sqlite.specs.Tree.{Trees}
use Rattle.zeb_register.specs.Calls.{ChangesNothing}
use Rattle.zeb_engine.specs.Adopting.{StaysOpen}
use Rattle.zeb_engine.specs.declared.commands.Command.{Command}
use Rattle.zeb_engine.specs.declared.commands.Command.TheVariants.{Init, Check, Reindex, Upgrade, Create, Drop, Stat, Dump, Change, Find, Scan, Analyse}
use Rattle.zeb_change.specs.declared.refusals.Refusal.{Refusal}
use Rattle.zeb_change.specs.declared.refusals.Refusal.TheVariants.{Store}

-- Outside a transaction, while the connection is open: a crash leaves the rows that are shown, and no others.
abbrev pub IsDurable : State → Type 0
IsDurable s = IsTrue s.is_open → (db : Trees) → s.may_leave db → db ≡ s.now.trees

-- A crash leaves nothing that it did not leave before.
abbrev pub LeavesNoMore : State → State → Type 0
LeavesNoMore old new = (db : Trees) → new.may_leave db → old.may_leave db

-- A refusal lets a crash leave nothing more, but for a failed store: a commit that failed may still have reached the disk.
abbrev pub EnduresRefusal : State → State → Refusal → Type 0
EnduresRefusal old new refusal = refusal ≢ Store → LeavesNoMore old new

-- A command on a connection: accepted, the connection was open and is; refused, nothing is changed, and but for a failed store a crash
-- leaves nothing more than before.
pub record Commanded {T : Type 0} (old new : State) (result : Result T Refusal) : Type 0 where
  pub accepted : HasCleanDisk new → OnOk result (StaysOpen old new)
  pub refused : HasCleanDisk new → OnErr result (ChangesNothing old new)
  pub endures : HasCleanDisk new → IfErr result (EnduresRefusal old new)

-- the commands that ask the store: all but an analysis, which reads its files alone
abbrev pub AsksStore : Command → Type 0
AsksStore Init = Unit {0}
AsksStore (Create name) = Unit {0}
AsksStore (Drop name) = Unit {0}
AsksStore (Change kind name files) = Unit {0}
AsksStore (Find name query first count) = Unit {0}
AsksStore Check = Unit {0}
AsksStore Reindex = Unit {0}
AsksStore Upgrade = Unit {0}
AsksStore (Stat name) = Unit {0}
AsksStore (Dump name) = Unit {0}
AsksStore (Scan name query number position) = Unit {0}
AsksStore (Analyse files) = ⊥

-- no command of a list asks the store
abbrev pub NoneAsks : List Command → Type 0
NoneAsks = AllByRecursion (λ command. ¬ AsksStore command)

-- One of the commands on a connection. An analysis leaves the connection as it is, open or shut, whatever it answers.
abbrev pub CommandedBy : {S T : Type 0} → Ghosts S → Command → Held S → Held S → Result T Refusal → Type 0
CommandedBy g Init old new result = Commanded (state g old) (state g new) result
CommandedBy g (Create name) old new result = Commanded (state g old) (state g new) result
CommandedBy g (Drop name) old new result = Commanded (state g old) (state g new) result
CommandedBy g (Change kind name files) old new result = Commanded (state g old) (state g new) result
CommandedBy g (Find name query first count) old new result = Commanded (state g old) (state g new) result
CommandedBy g Check old new result = Commanded (state g old) (state g new) result
CommandedBy g Reindex old new result = Commanded (state g old) (state g new) result
CommandedBy g Upgrade old new result = Commanded (state g old) (state g new) result
CommandedBy g (Stat name) old new result = Commanded (state g old) (state g new) result
CommandedBy g (Dump name) old new result = Commanded (state g old) (state g new) result
CommandedBy g (Scan name query number position) old new result = Commanded (state g old) (state g new) result
CommandedBy g (Analyse files) old new result = new ≡ old

-- What the command has done to the connection, and that no transaction is open: what is shown is what was committed.
pub record CommandHolds {S T : Type 0} (g : Ghosts S) (command : Command) (old new : Held S) (result : Result T Refusal) : Type 0 where
  pub call : CommandedBy g command old new result
  pub durable : HasCleanDisk (state g new) → IsDurable (state g new)

-- the same of a call that asks the store
pub record CallHolds {T : Type 0} (old new : State) (result : Result T Refusal) : Type 0 where
  pub call : Commanded old new result
  pub durable : HasCleanDisk new → IsDurable new
