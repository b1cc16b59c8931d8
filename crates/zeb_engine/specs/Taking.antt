-- What a session does to the store that it takes over, and what it leaves where it doesn't.
use Rattle.std.specs.Prelude.{◌≡◌, IsTrue}
use Rattle.sqlite.specs.State.{IsLive, Opens, State}
use Rattle.zeb_register.specs.Calls.{ChangesNothing}
use Rattle.zeb_register.specs.Sql.{KeepsTables}
use Rattle.zeb_register.specs.Tables.{store_schema}
use Rattle.zeb_change.specs.declared.refusals.Refusal.{Refusal}
use Rattle.zeb_image.specs.Holdings.{Holdings}
use Rattle.zeb_image.specs.Image.{Keeps}
use Rattle.zeb_engine.specs.Adopting.{HasOwnTables, StaysOpen}
use Rattle.zeb_engine.specs.Crashes.{Bears, Stands}
use Rattle.zeb_engine.specs.Transactions.{EnduresRefusal, IsDurable}

-- what a session does to the store that it takes over: it has the store's six tables then and no others, keeps each row and what it
-- held, and is open with no transaction
pub record TakesOver (old new : State) : Type 0 where
  -- what is taken over has this store's tables and no others, on a connection that was open and is, with no transaction open
  pub ours : HasOwnTables new
  pub stays : StaysOpen old new
  pub durable : IsDurable new
  -- a store that has all its tables is as it was; and whatever tables it has, each is there still, with the rows that it had
  pub there : old.now.schema ≡ store_schema → ChangesNothing old new
  pub rows : IsTrue new.is_open → KeepsTables old.now new.now
  -- what it held it keeps, and where it had no table yet it is the store that holds nothing
  pub keeps : (before : Holdings) → Bears old before → Keeps new before
  -- so it keeps what the disk stands for that an open has found
  pub reopened : IsLive old → Opens old → (before : Holdings) → Stands old.now.trees before → Keeps new before

-- nothing changes, and but for a failed store a crash leaves nothing more than before
pub record GivesBack (old new : State) (refusal : Refusal) : Type 0 where
  pub nothing : ChangesNothing old new
  pub endures : EnduresRefusal old new refusal
