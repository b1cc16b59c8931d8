-- A create and a drop on any tables of a store: what they go by, and what they make and take away.
use Rattle.sqlite.specs.State.{State}
use Rattle.sqlite.specs.Tree.{Trees}
use Rattle.std.specs.Prelude.{◌≡◌, ◌⊎◌, List, None, OnOk, Result, pos, ℕ, ℤ}
use Rattle.zeb_change.specs.Conditions.{Conditions}
use Rattle.zeb_change.specs.Refused.{exists}
use Rattle.zeb_change.specs.declared.refusals.Refusal.{Refusal}
use Rattle.zeb_engine.specs.Answers.{Answer, done, refused}
use Rattle.zeb_engine.specs.Asking.{IsSaid, IsSaidOrMissed, OfDatabase}
use Rattle.zeb_engine.specs.Hidden.{HidesDatabase, UnlessHidden}
use Rattle.zeb_engine.specs.Readiness.{GoesByTexts}
use Rattle.zeb_engine.specs.declared.replies.Reply.{Reply}
use Rattle.zeb_register.specs.Catalog.{IsDatabaseOf, PutsDatabase}
use Rattle.zeb_register.specs.Content.{TakesWhole}
use Rattle.zeb_register.specs.Sql.{KeepsOthers}
use Rattle.zeb_register.specs.Store.{HasDatabase, IsStore, databases_tree}
use Rattle.zeb_register.specs.Tables.{store_schema}

-- its last number is one of 0 or more, and this is answered
abbrev pub CountedAnswers : Answer → OfDatabase
CountedAnswers told id last answer = ((given : ℕ) × (last ≡ pos given)) × (answer ≡ told)

-- no database has the name, and a create is accepted; or one has it, and the answer tells so
abbrev pub CreateOver : (name : List ℕ) → Trees → Answer → Type 0
CreateOver name trees answer = (IsDatabaseOf trees name None × (answer ≡ done)) ⊎ IsSaid (CountedAnswers (refused exists)) name trees answer

-- no database has the name, and the answer tells so; or one has it, and a drop is accepted
abbrev pub DropOver : (name : List ℕ) → Trees → Answer → Type 0
DropOver name trees = IsSaidOrMissed (CountedAnswers done) name trees

-- The database of the name is there, with a last number of 0 and an id that no other has. Each other database is as it was, and each other
-- table has the rows that it had, that of the records too.
pub record MakesDatabase (name : List ℕ) (old new : State) : Type 0 where
  pub store : IsStore new
  pub id : ℤ
  pub databases : PutsDatabase id name (pos 0) databases_tree old.now.trees new.now.trees
  pub others : KeepsOthers store_schema databases_tree old.now.trees new.now.trees

-- A database had the name, and none has it any more. Its records are gone, and its rows in the registers; each other database is as it was, and
-- so is each record and each row of another one.
pub record DropsDatabase (name : List ℕ) (old new : State) : Type 0 where
  pub id : ℤ
  pub last : ℤ
  pub there : HasDatabase old.now.trees id name last
  pub none : IsDatabaseOf new.now.trees name None
  pub taken : TakesWhole id old new

-- on the tables of a store, where it is accepted
abbrev pub OnAccepted : {T : Type 0} → (Leaves : State → State → Type 0) → (old new : State) → Result T Refusal → Type 0
OnAccepted Leaves old new result = IsStore old → OnOk result (Leaves old new)

-- what a create does on any tables of a store: it goes by the texts of the store and then by the row of its name, tells damage only
-- where this can't be read, and once it is accepted makes the database and changes no other row
pub record CreateDoes (c : Conditions) (name : List ℕ) (old new : State) (answer : Result Reply Refusal) : Type 0 where
  -- the texts of the store tell whether the register was ready; and so it is of each command that goes by its databases
  pub ready : GoesByTexts c.version c.profile old answer
  -- it goes by the row of the name, and is refused as damage only where this can't be read
  pub told : UnlessHidden c.version c.profile (CreateOver name) (HidesDatabase name) old answer
  -- accepted, it makes the database, and changes no other row
  pub makes : OnAccepted (MakesDatabase name) old new answer

-- what a drop does on any tables of a store: it goes by the texts of the store and then by the row of its name, tells damage only where
-- this can't be read, and once it is accepted takes the database with all its rows and changes no other
pub record DropDoes (c : Conditions) (name : List ℕ) (old new : State) (answer : Result Reply Refusal) : Type 0 where
  pub ready : GoesByTexts c.version c.profile old answer
  pub told : UnlessHidden c.version c.profile (DropOver name) (HidesDatabase name) old answer
  -- accepted, it takes the database with all rows of it, and changes no other row
  pub drops : OnAccepted (DropsDatabase name) old new answer
