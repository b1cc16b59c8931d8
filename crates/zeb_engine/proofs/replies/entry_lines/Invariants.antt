use Rattle.zeb_engine.proofs.Cited.{◌≡◌, take, string_bytes, flat_map, entry_line}
use Rattle.zeb_engine.proofs.replies.entry_lines.Given as goal

abbrev pub invariant-loop-entry : goal.invariant-loop-entry
invariant-loop-entry l = string_bytes l.text ≡ flat_map (entry_line l.fn.register) (take l.entry-index l.entries)
