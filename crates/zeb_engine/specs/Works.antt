-- What commands do to a connection, and to what its tables hold.
use Rattle.std.specs.Prelude.{◌≡◌, ℕ, List, [], ◌∷◌, Result, IsTrue, OnOk}
use Rattle.std.specs.List.{AllByRecursion}
use Rattle.std.specs.Result.{IsErr}
use Rattle.sqlite.specs.Held.{Held, state}
use Rattle.sqlite.specs.State.{State}
use Rattle.sqlite.specs.Store.{Ghosts}
use Rattle.zeb_register.specs.declared.registers.Work.{Work}
use Rattle.zeb_register.specs.Calls.{ChangesNothing}
use Rattle.zeb_register.specs.Content.{Posting}
use Rattle.zeb_register.specs.Formats.{Format}
use Rattle.zeb_engine.specs.declared.commands.Command.{Command}
use Rattle.zeb_engine.specs.declared.replies.Reply.{Reply}
use Rattle.zeb_change.specs.declared.refusals.Refusal.{Refusal}
use Rattle.zeb_engine.specs.Answers.{Answer, answer_of}
use Rattle.zeb_change.specs.Conditions.{Conditions}
use Rattle.zeb_image.specs.Holdings.{Holdings}
use Rattle.zeb_image.specs.Image.{Keeps}
use Rattle.zeb_engine.specs.Steps.{TellsOrFails, Run, Step}
use Rattle.zeb_engine.specs.Counts.{CommandCounts}
use Rattle.zeb_engine.specs.Does.{AnswersAnyway, CommandOverTables}
use Rattle.zeb_engine.specs.Transactions.{AsksStore, IsDurable, NoneAsks}

-- where the tables were the image of what was held, a call answers and leaves what `Told` says, or fails and leaves what was held; and
-- the tables are then the image of what is left
abbrev pub ServesBy : (Told : Holdings → Answer → Holdings → Type 0) → State → State → Result Reply Refusal → Type 0
ServesBy Told old new result = (before : Holdings) → Keeps old before → (later : Holdings) × TellsOrFails Told before (answer_of result) later × Keeps new later

-- where the tables were the image of what was held, a command answers and leaves what its definition says, or fails and leaves what was
-- held; and the tables are then the image of what is left
abbrev pub ServesCommand : Conditions → Command → State → State → Result Reply Refusal → Type 0
ServesCommand c command = ServesBy (Step c command)

-- where the tables were the image of what was held, the answers are those of a run of the commands, in which any may fail and change
-- nothing, and the tables are then the image of what the run leaves
abbrev pub Runs : Conditions → List Command → List Answer → State → State → Type 0
Runs c commands answers old new =
    (before : Holdings) → Keeps old before → (last : Holdings) × Run c before commands answers last × Keeps new last

-- where a command of a list that asks the store is accepted, the connection was open, and where none behind it asks
-- the store, it is open still
abbrev pub FindOpen : List Command → List (Result Reply Refusal) → State → State → Type 0
FindOpen [] [] old new = Unit {0}
FindOpen (command ∷ commands) (result ∷ results) old new =
    (AsksStore command → OnOk result (IsTrue old.is_open × (NoneAsks commands → IsTrue new.is_open))) × FindOpen commands results old new
FindOpen [] (result ∷ results) old new = ⊥
FindOpen (command ∷ commands) [] old new = ⊥

-- Each of the commands does so, one after the other, from one connection to the next, and has counted so much. In the end so much is counted
-- as the last of them has.
module _ {S : Type 0} (g : Ghosts S) (Does : Command → Result Reply Refusal → State → State → Work → Type 0) where
  -- `Does` is said of each of the commands, one after the other, from the connection that the one before it left; what is counted in
  -- the end is what the last one has counted
  abbrev pub InTurn : List Command → List (Result Reply Refusal) → Held S → Work → Held S → Work → Type 0
  InTurn [] [] old before new after = (new ≡ old) × (after ≡ before)
  InTurn (command ∷ commands) (result ∷ results) old before new after =
      (mid : Held S) × (work : Work) × Does command result (state g old) (state g mid) work × InTurn commands results mid work new after
  InTurn [] (result ∷ results) old before new after = ⊥
  InTurn (command ∷ commands) [] old before new after = ⊥

-- what is said of one of the commands: how it is answered, what it does to the tables, and what it has counted, as of a command alone
pub record CommandTurns (format : Format) (row_work : ℕ) (block_rows : List Posting → ℕ) (c : Conditions) (command : Command)
    (answer : Result Reply Refusal) (old new : State) (work : Work) : Type 0 where
  pub step : ServesCommand c command old new answer
  pub tables : CommandOverTables format c command old new answer
  pub answers : AnswersAnyway c command answer
  pub counts : CommandCounts format row_work block_rows c command old new answer work

-- what a run has done to the connection
pub record RunHolds (commands : List Command) (answers : List (Result Reply Refusal)) (old new : State) : Type 0 where
  -- no transaction is open: what is shown is what was committed
  pub durable : IsDurable new
  pub asked : FindOpen commands answers old new
  -- where each command is refused nothing changes, whatever the tables hold
  pub refused : AllByRecursion IsErr answers → ChangesNothing old new
