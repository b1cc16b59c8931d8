use Rattle.zeb_engine.proofs.Cited.{◌≡◌, map, take, string_bytes, flat_map, record_lines}
use Rattle.zeb_engine.proofs.replies.analysed_lines.Given as goal

abbrev pub invariant-loop-record : goal.invariant-loop-record
invariant-loop-record l = string_bytes l.text ≡ flat_map (record_lines (map string_bytes l.names)) (take l.record-index l.records)
