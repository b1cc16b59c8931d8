-- What only the contracts of private functions speak of; no public clause reaches it.
-- What was sent to one sink (this program's own).
use Rattle.std.specs.Prelude.{ℕ, List}
use Rattle.zeb_program.specs.Sinks.{KnownSink, Sent}

-- some bytes were sent that are so
abbrev pub Sends : {W : Type 0} → KnownSink W → KnownSink W → (List ℕ → Type 0) → Type 0
Sends old new P = (bytes : List ℕ) × P bytes × Sent old new bytes
