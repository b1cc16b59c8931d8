-- What the lines of a batch, and a task, do to tables, and what is written or answered (this program's own).
use Rattle.std.specs.Prelude.{◌⊎◌, ℕ, List, Option, IfSome, Result}
use Rattle.sqlite.specs.State.{State}
use Rattle.zeb_change.specs.Conditions.{Conditions}
use Rattle.zeb_change.specs.declared.refusals.Refusal.{Refusal}
use Rattle.zeb_engine.specs.declared.replies.Reply.{Reply}
use Rattle.zeb_image.specs.Holdings.{Holdings}
use Rattle.zeb_image.specs.Image.{Keeps}
use Rattle.zeb_program.specs.declared.faults.Fault.{Fault}
use Rattle.zeb_program.specs.declared.tasks.Task.{Task}
use Rattle.zeb_program.specs.FaultAnswers.{GivesAnswer, IsUnreadWhole}
use Rattle.zeb_program.specs.TaskAnswers.{AnswersTask, AreTold, ReadsWhole, paths_of}

-- As far as it is known what a register holds that tables keep, they lead to tables that keep what it holds then, as far as that is known; P is
-- so of both.
abbrev pub LeadsOn : State → State → (Option Holdings → Option Holdings → Type 0) → Type 0
LeadsOn old new P = (before : Option Holdings) → IfSome before (Keeps old) → (later : Option Holdings) × IfSome later (Keeps new) × P before later

-- as far as it is known what a register holds that tables keep, P is so of it; of the tables then nothing is said
abbrev pub Stops : State → (Option Holdings → Type 0) → Type 0
Stops old P = (before : Option Holdings) → IfSome before (Keeps old) → P before

-- From tables that keep what a register holds, an answer leads to tables that keep what it holds then.
abbrev pub AnswersFrom : State → State → Result Reply Fault → (Holdings → Result Reply Refusal → Holdings → Type 0) → Type 0
AnswersFrom old new result P =
    (before : Holdings) → Keeps old before → GivesAnswer (λ answer. (later : Holdings) × P before answer later × Keeps new later) result

-- The answer to a task; of one that names paths it is said where the bytes of the files there are told. A file that is read whole may have
-- too many bytes.
abbrev pub ServesTask : (List ℕ → Option (List ℕ)) → Conditions → Task → State → State → Result Reply Fault → Type 0
ServesTask told c task old new result =
    (files : List (List ℕ)) → AreTold told (paths_of task) files → AnswersFrom old new result (AnswersTask c task files) ⊎ (ReadsWhole task × IsUnreadWhole told result)
