use Rattle.zeb_extract.proofs.Cited.{◌≡◌, ◌++◌, length, into_iter_items, numbered_terms}
use Rattle.zeb_extract.proofs.entries.add_terms.Given as goal

abbrev pub invariant-loop-term : goal.invariant-loop-term
invariant-loop-term l = record {
  count : l.pos ≡ length l.yielded;
  items : into_iter_items l.initial.term-iterator ≡ l.yielded ++ into_iter_items l.term-iterator;
  added : l.found.items ≡ l.initial.found.items ++ numbered_terms (l.index, l.register) l.seq l.yielded;
}
