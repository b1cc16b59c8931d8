-- What only the contracts of private functions speak of; no public clause reaches it.
-- How a run ends (this program's own).
use Rattle.std.specs.Prelude.{◌≡◌, ◌⊎◌, ◌==◌, ℕ, Bool, false, true, List, [], length, Result, Ok, Err}
use Rattle.std.specs.declared.alloc.AllocError.{AllocError}
use Rattle.zeb_paths.specs.Walks.{Tells}
use Rattle.zeb_program.specs.FixedLines.{starved_line}
use Rattle.zeb_program.specs.ScriptAnswers.{AnswersScript, EndsEarly, hint_of}
use Rattle.zeb_program.specs.Sinks.{KnownSink, Sent}
use Rattle.zeb_program.specs.declared.program.ScriptEnd.{ScriptEnd}
use Rattle.zeb_program.specs.declared.statuses.Status.{Status}
use Rattle.zeb_program.specs.declared.statuses.Status.TheVariants.{Failed}

-- the last status is the one that was met, or `Failed` where a write has failed
abbrev pub IsLastStatus : (failed fault_failed : Bool) → (met last : Status) → Type 0
IsLastStatus failed fault_failed met last =
    ((last ≡ met) ⊎ (last ≡ Failed)) × (failed ≡ false → fault_failed ≡ false → last ≡ met) × (failed ≡ true → last ≡ Failed) × (fault_failed ≡ true → last ≡ Failed)

-- nothing is written, and unless a write has failed, nothing is held back any more
abbrev pub PassesOn : {W : Type 0} → KnownSink W → KnownSink W → List ℕ → Type 0
PassesOn old new held_back = Sent old new [] × (new.failed ≡ false → held_back ≡ [])

-- a script is answered, and ends so; or it ends early, where memory ran out
abbrev pub AnswersAs : Tells → List ℕ → (bytes : List ℕ) → Result ScriptEnd AllocError → Type 0
AnswersAs at text bytes (Ok end) = AnswersScript at text bytes end.status × (end.is_empty ≡ (length text == 0))
AnswersAs at text bytes (Err error) = EndsEarly at text bytes

-- what is told of a run of words that ended so, and its status: that memory ran out, or nothing
abbrev pub TellsStarved : Result Status AllocError → (told : List ℕ) → Status → Type 0
TellsStarved (Ok met) told status = (status ≡ met) × (told ≡ [])
TellsStarved (Err error) told status = (status ≡ Failed) × (told ≡ starved_line)

-- of a script: what is expected in place of an empty one, or that memory ran out
abbrev pub TellsEnd : Result ScriptEnd AllocError → (told : List ℕ) → Status → Type 0
TellsEnd (Ok end) told status = (status ≡ end.status) × (told ≡ hint_of end.is_empty)
TellsEnd (Err error) told status = (status ≡ Failed) × (told ≡ starved_line)
