-- When a command on any tables of a store is answered by what they tell, and when it may be refused as damage.
use Rattle.sqlite.specs.State.{State}
use Rattle.sqlite.specs.Tree.{Trees}
use Rattle.std.specs.Prelude.{◌≡◌, ◌⊎◌, Err, List, Result, ℕ, ℤ}
use Rattle.zeb_change.specs.declared.refusals.Refusal.{Refusal}
use Rattle.zeb_change.specs.declared.refusals.Refusal.TheVariants.{Damaged}
use Rattle.zeb_engine.specs.Answers.{Answer, IsFailure, answer_of}
use Rattle.zeb_engine.specs.Readiness.{IsReadyFor}
use Rattle.zeb_engine.specs.declared.replies.Reply.{Reply}
use Rattle.zeb_profile.specs.declared.directives.Directive.{Directive}
use Rattle.zeb_register.specs.Catalog.{AreCountedDatabases}
use Rattle.zeb_register.specs.Store.{HasDatabase, IsStore}

-- the last number of the database of this name is below 0
abbrev pub HidesDatabase : (name : List ℕ) → Trees → Type 0
HidesDatabase name trees = ¬ AreCountedDatabases trees name

-- that is so, or a database has this name and something of it can't be read
abbrev pub HidesOf : (Hides : ℤ → Type 0) → (name : List ℕ) → Trees → Type 0
HidesOf Hides name trees = HidesDatabase name trees ⊎ ((id : ℤ) × (last : ℤ) × HasDatabase trees id name last × Hides id)

-- It is answered so, accepted or refused; or such rows can't be read, and it is refused as damage; or the store or the memory failed.
abbrev pub TellsUnlessHidden : (Over : Trees → Answer → Type 0) → (Hides : Trees → Type 0) → Trees → Result Reply Refusal → Type 0
TellsUnlessHidden Over Hides trees result = Over trees (answer_of result) ⊎ (((result ≡ Err Damaged) × Hides trees) ⊎ IsFailure (answer_of result))

-- on the tables of a store that keep the session's version and profile a command is answered as `Over` says, accepted or refused; or it
-- tells damage, and something can't be read, as `Hides` says; or the store or the memory failed
abbrev pub UnlessHidden : (version : List ℕ) → List Directive → (Over : Trees → Answer → Type 0) → (Hides : Trees → Type 0) → State
    → Result Reply Refusal → Type 0
UnlessHidden version profile Over Hides s result =
    IsStore s → IsReadyFor version profile s.now.trees → TellsUnlessHidden Over Hides s.now.trees result
