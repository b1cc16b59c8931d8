-- Work inside a transaction, one step after the other.
use Rattle.zeb_change.proofs.Cited.{◌∙◌, State, KeepsCommit, GoesOn, Continues}

pub kept_then : (old mid new : State) → Continues old mid → KeepsCommit mid new → KeepsCommit old new
kept_then old mid new one two = record {
  was_open = λ h. one.kept.was_open (two.was_open h);
  committed = λ h. two.committed h ∙ one.kept.committed (two.was_open h);
}

pub continues_then : (old mid new : State) → Continues old mid → Continues mid new → Continues old new
continues_then old mid new one two = record { kept = kept_then old mid new one two.kept; mode = two.mode; stays_open = λ h. two.stays_open (one.stays_open h) }

pub goes_on : (old new : State) → GoesOn old new → Continues old new
goes_on old new on = record {
  kept = record { was_open = λ _. on.was_open; committed = λ _. on.committed_is };
  mode = on.mode;
  stays_open = λ _. on.is_open;
}
