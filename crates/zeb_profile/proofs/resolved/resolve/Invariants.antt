use Rattle.zeb_profile.proofs.Cited.{◌≡◌, ◌++◌, map, into_iter_items, line_value, resolved, directives_in}
use Rattle.zeb_profile.proofs.resolved.resolve.Given as goal

abbrev pub invariant-loop-line : goal.invariant-loop-line
invariant-loop-line l = record {
  items : into_iter_items l.initial.line-iterator ≡ l.yielded ++ into_iter_items l.line-iterator;
  added : map line_value l.lines.items ≡ map (resolved l.indexes.names.items) (directives_in l.yielded);
}
