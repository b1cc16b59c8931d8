-- As many separators as were counted begin what the source told.
use Rattle.zeb_marc.proofs.Cited.{◌≡◌, ◌≤◌, List, ℕ, Some, drop, prefix_len, is_separator}
use Rattle.zeb_marc.specs.Reading.{StaysAble}
use Rattle.zeb_marc.proofs.stream.skip_separators.Given as goal

abbrev pub invariant-loop : goal.invariant-loop
invariant-loop g l = record {
  fails : g.R.Source.has_failed l.source ≡ g.R.Source.has_failed l.fn.source;
  able : StaysAble g.R.Source.may_fail g.R.Source.has_failed l.fn.source l.source;
  told : (text : List ℕ) → g.R.Source.remaining l.fn.source ≡ Some text → (g.R.Source.remaining l.source ≡ Some (drop l.counter text)) × (l.counter ≤ prefix_len is_separator text);
}
