-- What contracts see of a sink, and what was sent to one (this program's own).
use Rattle.std.specs.Prelude.{◌≡◌, ℕ, Bool, false, Option, List}
use Rattle.std.specs.Io.KnownBytes.{Appends}

-- its writer, whether a write has failed, and what is known of the bytes that the writer got
pub record KnownSink (W : Type 0) : Type 0 where
  pub writer : W
  pub failed : Bool
  pub known : Option (List ℕ)

-- these bytes were sent: unless a write has failed by then, none had before, and the writer got them
pub record Sent {W : Type 0} (old new : KnownSink W) (bytes : List ℕ) : Type 0 where
  pub sound : new.failed ≡ false → old.failed ≡ false
  pub gets : new.failed ≡ false → Appends old.known new.known bytes

-- some bytes were sent to the output, and some to the fault output, that are so together
abbrev pub SendsBoth : {W V : Type 0} → (old new : KnownSink W) → (fault_old fault_new : KnownSink V) → (List ℕ → List ℕ → Type 0) → Type 0
SendsBoth old new fault_old fault_new P = (bytes told : List ℕ) × P bytes told × Sent old new bytes × Sent fault_old fault_new told
