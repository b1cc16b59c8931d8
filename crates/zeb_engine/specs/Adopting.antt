-- What a store is once it is taken over, and why it is not.
use Rattle.std.specs.Prelude.{◌≡◌, ◌≢◌, IsTrue}
use Rattle.sqlite.specs.Effect.{IsDatabase}
use Rattle.sqlite.specs.State.{State}
use Rattle.zeb_register.specs.Tables.{no_schema, store_schema}

-- the connection was open and is
abbrev pub StaysOpen : State → State → Type 0
StaysOpen old new = IsTrue old.is_open × IsTrue new.is_open

-- The store has tables, views or triggers, and not just this store's six tables. Triggers count among the views of a schema, and so do tables
-- that can't be read.
abbrev pub HasOtherTables : State → Type 0
HasOtherTables s = (s.now.schema ≢ no_schema) × (s.now.schema ≢ store_schema)

-- the store has this store's six tables and nothing else, and their rows obey their rules
pub record HasOwnTables (s : State) : Type 0 where
  pub is : s.now.schema ≡ store_schema
  pub sound : IsDatabase s.now
