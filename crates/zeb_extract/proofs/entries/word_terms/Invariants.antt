use Rattle.zeb_extract.proofs.Cited.{◌≡◌, map, string_bytes, take}
use Rattle.zeb_extract.proofs.entries.word_terms.Given as goal

abbrev pub invariant-loop-word : goal.invariant-loop-word
invariant-loop-word l = l.terms.items ≡ map string_bytes (take l.word-index l.words)
