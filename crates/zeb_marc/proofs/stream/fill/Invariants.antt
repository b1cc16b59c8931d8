-- What was filled are the first bytes of what the source told.
use Rattle.zeb_marc.proofs.Cited.{◌≡◌, ◌≤◌, ◌-◌, List, ℕ, Some, length, take, drop}
use Rattle.zeb_marc.specs.Reading.{StaysAble}
use Rattle.zeb_marc.proofs.stream.fill.Given as goal

abbrev pub invariant-loop-filled : goal.invariant-loop-filled
invariant-loop-filled g l = record {
  fails : g.R.Source.has_failed l.source ≡ g.R.Source.has_failed l.fn.source;
  able : StaysAble g.R.Source.may_fail g.R.Source.has_failed l.fn.source l.source;
  within : l.filled ≤ length l.part;
  told : (text : List ℕ) → g.R.Source.remaining l.fn.source ≡ Some text → (l.filled ≤ length text) × (take l.filled l.part ≡ take l.filled text) × (g.R.Source.remaining l.source ≡ Some (drop l.filled text));
}

abbrev pub decreases-loop-filled : goal.decreases-loop-filled
decreases-loop-filled g l = length l.initial.part - l.filled
