use Rattle.zeb_change.proofs.Cited.{◌≡◌, ◌<◌, false, ℕ, get_or}
use Rattle.zeb_change.proofs.files.check_readers.Given as goal

abbrev pub invariant-loop-index : goal.invariant-loop-index
invariant-loop-index g l = record { fine : (j : ℕ) → j < l.index → (d : g.row.R.Denot) → g.R.Source.has_failed (get_or l.readers j d) ≡ false }
