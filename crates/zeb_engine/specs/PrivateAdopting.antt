-- What only the contracts of private functions speak of; no public clause reaches it.
-- What a store is before it is taken over, and once it is.
use Rattle.std.specs.Prelude.{◌≡◌, ◌⊎◌, IsTrue, Result, Ok, Err}
use Rattle.sqlite.specs.Held.{Held, state}
use Rattle.sqlite.specs.State.{State, IsLive}
use Rattle.sqlite.specs.Store.{Ghosts}
use Rattle.zeb_register.specs.Calls.{ChangesNothing}
use Rattle.zeb_register.specs.Sql.{KeepsTables}
use Rattle.zeb_change.specs.declared.refusals.Refusal.{Refusal}
use Rattle.zeb_change.specs.declared.refusals.Refusal.TheVariants.{Memory, Store}
use Rattle.zeb_engine.specs.Adopting.{HasOtherTables}
use Rattle.zeb_register.specs.Tables.{no_schema, store_schema}
use Rattle.zeb_register.specs.Store.{IsStore, LacksLists, LacksRegisters}

-- the store's tables are there, committed and without a row, and the connection is open
pub record HoldsNothing (s : State) : Type 0 where
  pub is_open : IsTrue s.is_open
  pub store : IsStore s
  pub lists : LacksLists s.now.trees
  pub registers : LacksRegisters s.now.trees
  pub settled : s.committed ≡ s.now

-- the store has no table yet or this store's six, and the rows of an open one obey their rules
pub record MayBeTaken (s : State) : Type 0 where
  pub tables : (s.now.schema ≡ no_schema) ⊎ (s.now.schema ≡ store_schema)
  pub live : IsLive s

-- what the making of absent tables leaves: a store that had none is empty, and one that had its own is as it was; whatever tables there were, they
-- have their rows
pub record MakesTables (old new : State) : Type 0 where
  pub made : old.now.schema ≡ no_schema → HoldsNothing new
  pub there : old.now.schema ≡ store_schema → ChangesNothing old new
  pub rows : IsTrue new.is_open → KeepsTables old.now new.now

-- only a store that may be taken is; one of other tables is found failed, and nothing is done to it
abbrev pub TakesOwn : {S : Type 0} → Ghosts S → (old new : Held S) → Result (Unit {0}) Refusal → Type 0
TakesOwn g old new (Ok done) = MayBeTaken (state g old)
TakesOwn g old new (Err refusal) =
    ((refusal ≡ Store) ⊎ (refusal ≡ Memory)) × (HasOtherTables (state g old) → (refusal ≡ Store) × (new ≡ old))
