use Rattle.zeb_register.proofs.Cited.{◌≤◌}
use Rattle.zeb_register.proofs.KeyRuns.{IsCountedTo}
use Rattle.zeb_register.proofs.key_runs.run_from.Given as goal

abbrev pub invariant-loop-end : goal.invariant-loop-end
invariant-loop-end l = record {
  few : l.records ≤ l.end;
  counted : IsCountedTo l.key l.postings l.at l.end l.records l.newest;
}
