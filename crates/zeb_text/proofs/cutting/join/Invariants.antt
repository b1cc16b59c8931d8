use Rattle.zeb_text.proofs.Cited.{◌≡◌, map, take, string_bytes, joined_text}
use Rattle.zeb_text.proofs.cutting.join.Given as goal

abbrev pub invariant-loop-at : goal.invariant-loop-at
invariant-loop-at l = string_bytes l.joined ≡ joined_text (map string_bytes (take l.at l.words))
