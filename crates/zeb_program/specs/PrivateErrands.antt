-- What only the contracts of private functions speak of; no public clause reaches it.
-- What an act on a database asks for: a task of a register, or that the lines of the input be run (this program's own).
use Rattle.std.specs.Prelude.{◌≡◌}
use Rattle.zeb_image.specs.declared.names.DbName.{DbName}
use Rattle.zeb_words.specs.declared.words.Act.{Act}
use Rattle.zeb_words.specs.declared.words.Act.TheVariants.{Batch, Shell}
use Rattle.zeb_program.specs.declared.tasks.Errand.{Errand}
use Rattle.zeb_program.specs.declared.tasks.Errand.TheVariants as errand
use Rattle.zeb_program.specs.Errands.{IsTaskOf}

-- what an act asks for: the task that it names; only a batch and a shell ask that the lines of the input are run
abbrev pub IsErrandOf : DbName → Act → Errand → Type 0
IsErrandOf database act (errand.Task task) = IsTaskOf database act task
IsErrandOf database act errand.Batch = act ≡ Batch
IsErrandOf database act errand.Shell = act ≡ Shell
