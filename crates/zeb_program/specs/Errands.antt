-- What an act on a database asks for (the commands are those of the Zebra manual, zebraidx, and this program's own): a task of a register,
-- or that the lines of the input be run. There is one case for each command that words name.
use Rattle.std.specs.Prelude.{◌≡◌, true, false}
use Rattle.zeb_image.specs.declared.names.DbName.{DbName}
use Rattle.zeb_engine.specs.declared.commands.Command.TheVariants as command
use Rattle.zeb_change.specs.declared.settings.Kind.TheVariants as kind
use Rattle.zeb_words.specs.declared.words.LayoutChoice.{LayoutChoice}
use Rattle.zeb_words.specs.declared.words.LayoutChoice.TheVariants.{Unsaid}
use Rattle.zeb_words.specs.declared.words.Act.{Act}
use Rattle.zeb_words.specs.declared.words.Act.TheVariants.{Init, Create, Drop, Update, Delete, Adelete, Stat, Dump, Check, Reindex, Upgrade, Find, Scan, Batch, Shell}
use Rattle.zeb_program.specs.declared.tasks.Task.{Task}
use Rattle.zeb_program.specs.declared.tasks.Task.TheVariants.{Ask, Change, Analyse}

-- the layout that an act asks for: `init` and `upgrade` alone may ask for one
abbrev pub choice_of : Act → LayoutChoice
choice_of (Init choice) = choice
choice_of (Upgrade choice) = choice
choice_of _ = Unsaid

-- the task that an act on a database names: one command with its database, query and numbers, a change of its kind by
-- paths, or, for an update that only shows what it would do, an analysis; a batch and a shell name none
abbrev pub IsTaskOf : DbName → Act → Task → Type 0
IsTaskOf database (Init choice) task = task ≡ Ask command.Init
IsTaskOf database (Create name) task = task ≡ Ask (command.Create name)
IsTaskOf database (Drop name) task = task ≡ Ask (command.Drop name)
IsTaskOf database Check task = task ≡ Ask command.Check
IsTaskOf database Reindex task = task ≡ Ask command.Reindex
IsTaskOf database (Upgrade choice) task = task ≡ Ask command.Upgrade
IsTaskOf database Stat task = task ≡ Ask (command.Stat database)
IsTaskOf database Dump task = task ≡ Ask (command.Dump database)
IsTaskOf database (Update paths false) task = task ≡ Change kind.Update database paths
IsTaskOf database (Update paths true) task = task ≡ Analyse paths
IsTaskOf database (Delete paths) task = task ≡ Change kind.Delete database paths
IsTaskOf database (Adelete paths) task = task ≡ Change kind.Adelete database paths
IsTaskOf database (Find query first count) task = task ≡ Ask (command.Find database query first count)
IsTaskOf database (Scan query number position) task = task ≡ Ask (command.Scan database query number position)
IsTaskOf database Batch task = ⊥
IsTaskOf database Shell task = ⊥
