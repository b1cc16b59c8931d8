-- What only the contracts of private functions speak of; no public clause reaches it.
-- What commands do to a connection, and to what its tables hold.
use Rattle.std.specs.Prelude.{◌≡◌, ◌⊎◌, List, Result, Ok, IsTrue}
use Rattle.sqlite.specs.Tree.{Trees}
use Rattle.sqlite.specs.State.{State}
use Rattle.zeb_engine.specs.declared.replies.Reply.{Reply}
use Rattle.zeb_change.specs.declared.refusals.Refusal.{Refusal}
use Rattle.zeb_engine.specs.Answers.{answer_of, IsFailure}
use Rattle.zeb_change.specs.Conditions.{Conditions}
use Rattle.zeb_image.specs.Holdings.{Holdings}
use Rattle.zeb_change.specs.Base.{Base}
use Rattle.zeb_image.specs.Image.{Keeps}
use Rattle.zeb_engine.specs.Steps.{Outcome, ready}

-- nothing had to be found out before a call: any tables and holdings fit
abbrev pub Always : Trees → Holdings → Type 0
Always trees before = Unit {0}

-- the register is ready
abbrev pub IsReady : Conditions → Trees → Holdings → Type 0
IsReady c trees before = (bases : List Base) × (ready c before ≡ Ok bases)

-- a command that takes holdings to an outcome: it answers that and the tables hold what it leaves, or it fails and they hold what they held
abbrev pub Serves : (Fits : Trees → Holdings → Type 0) → (Holdings → Outcome) → State → State → Result Reply Refusal → Type 0
Serves Fits outcome old new result =
    (before : Holdings) → (IsTrue old.is_open → Fits old.now.trees before) → Keeps old before
    → (((outcome before).0 ≡ answer_of result) × Keeps new (outcome before).1) ⊎ (IsFailure (answer_of result) × Keeps new before)
