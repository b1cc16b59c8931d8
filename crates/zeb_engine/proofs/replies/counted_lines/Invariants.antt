use Rattle.zeb_engine.proofs.Cited.{◌≡◌, ◌++◌, take, string_bytes, flat_map, records_text, holding_line}
use Rattle.zeb_engine.proofs.replies.counted_lines.Given as goal

abbrev pub invariant-loop-holding : goal.invariant-loop-holding
invariant-loop-holding l = string_bytes l.text ≡ records_text l.fn.records l.fn.last ++ flat_map holding_line (take l.holding-index l.holdings)
