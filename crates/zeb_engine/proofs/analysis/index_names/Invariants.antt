use Rattle.zeb_engine.proofs.Cited.{◌≡◌, map, take, string_bytes, index_names}
use Rattle.zeb_engine.proofs.analysis.index_names.Given as goal

abbrev pub invariant-loop-index : goal.invariant-loop-index
invariant-loop-index l = map string_bytes l.names.items ≡ take l.index (index_names l.fn.profile)
