-- The bytes of the entries so far, which fit, and the last term.
use Rattle.zeb_leaf.proofs.Cited.{◌≡◌, ◌-◌, ◌^◌, ◌≤◌, length, take, leaf_bytes, first_place, last_place, min}
use Rattle.zeb_leaf.proofs.parting.fitting.Given as goal

abbrev pub invariant-loop-count : goal.invariant-loop-count
invariant-loop-count l = record {
  taken : l.len ≡ min (length (leaf_bytes (take l.count l.entries))) (2 ^ 64 - 1);
  before : l.before ≡ (last_place first_place (take l.count l.entries)).term;
  fits : 2 ≤ l.count → length (leaf_bytes (take l.count l.entries)) ≤ l.most;
}
