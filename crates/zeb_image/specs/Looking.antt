-- What a look at whole tables does to a connection.
use Rattle.std.specs.Prelude.{IsTrue}
use Rattle.sqlite.specs.State.{State, IsUnchanged}

-- The connection was open, and is as it was where the tables were read to their end. Where a row can't be read the look ends early.
abbrev pub Looks : Type 0 → State → State → Type 0
Looks whole old new = IsTrue old.is_open × (whole → IsUnchanged old new)
