-- The entries so far were written.
use Rattle.zeb_leaf.proofs.Cited.{◌≡◌, take, draft_of}
use Rattle.zeb_leaf.proofs.writing.spell_leaf.Given as goal

abbrev pub invariant-loop-entry : goal.invariant-loop-entry
invariant-loop-entry l = l.writer ≡ draft_of (take l.entry-index l.entries)
