-- The places so far stand behind the list.
use Rattle.zeb_register.proofs.Cited.{◌≡◌, ◌++◌, map, take, posting_at}
use Rattle.zeb_register.proofs.record_parts.with_places.Given as goal

abbrev pub invariant-loop-place : goal.invariant-loop-place
invariant-loop-place l = l.list.items ≡ l.fn.list.items ++ map (posting_at l.sysno) (take l.place-index l.places)
