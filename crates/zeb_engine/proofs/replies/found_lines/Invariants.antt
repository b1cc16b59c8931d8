use Rattle.zeb_engine.proofs.Cited.{◌≡◌, ◌++◌, take, string_bytes, flat_map, hits_text, hit_line}
use Rattle.zeb_engine.proofs.replies.found_lines.Given as goal

abbrev pub invariant-loop-hit : goal.invariant-loop-hit
invariant-loop-hit l = string_bytes l.text ≡ hits_text l.fn.hits ++ flat_map hit_line (take l.hit-index l.shown)
