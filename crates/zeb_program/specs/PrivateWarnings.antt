-- What only the contracts of private functions speak of; no public clause reaches it.
-- What is warned of with what a task is answered.
use Rattle.std.specs.Prelude.{⊤, ℕ, List, Option, None}
use Rattle.zeb_program.specs.TaskAnswers.{ReadsWhole}
use Rattle.zeb_program.specs.Warnings.{warning_of}
use Rattle.zeb_program.specs.declared.tasks.Served.{Served}
use Rattle.zeb_program.specs.declared.tasks.Served.TheVariants.{Replied, Shown}
use Rattle.zeb_program.specs.declared.tasks.Task.{Task}

-- only an analysis is answered by lines
abbrev pub IsServedFor : Task → Served → Type 0
IsServedFor task (Replied reply) = ⊤
IsServedFor task (Shown lines unmarked) = ReadsWhole task

-- what is warned of with what a task is answered
abbrev pub warned_in : Served → Option (List ℕ)
warned_in (Replied reply) = None
warned_in (Shown lines unmarked) = warning_of unmarked.items lines.records
