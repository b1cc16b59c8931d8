use Rattle.zeb_text.proofs.Cited.{length, map, chars, string_bytes, belongs_to_word}
use Rattle.zeb_text.proofs.RunsSoFar.{RunsSoFar}
use Rattle.zeb_text.proofs.cutting.runs.Given as goal

abbrev pub invariant-loop-c : goal.invariant-loop-c
invariant-loop-c l =
    RunsSoFar (belongs_to_word l.cut) (chars l.text) (length l.yielded) (map string_bytes l.found.items) (string_bytes l.run)
