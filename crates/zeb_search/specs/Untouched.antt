-- What an accepted call that reads leaves of a connection. A call that finds nothing to read asks nothing of the store, and so it may be
-- accepted on a closed connection too.
use Rattle.std.specs.Prelude.{◌≡◌, IsTrue}
use Rattle.sqlite.specs.State.{State, IsUnchanged}

-- what is seen is as it was, and so is all else of the connection where it was open
abbrev pub IsUntouched : State → State → Type 0
IsUntouched old new = (new.now ≡ old.now) × (IsTrue old.is_open → IsUnchanged old new)
