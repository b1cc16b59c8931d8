use Rattle.zeb_register.proofs.Cited.{◌≡◌, ◌↔◌, ◌≤◌, ◌++◌, List, length, map, drop, KeyPosting, with_key}
use Rattle.zeb_register.proofs.packed_agreeing.part_end.Given as goal

abbrev pub invariant-loop-posting : goal.invariant-loop-posting
invariant-loop-posting l =
    (l.end ≤ length l.postings)
    × ((rest : List KeyPosting) → (drop l.at l.postings ≡ map (with_key l.key) l.initial.posting-iterator ++ rest) ↔ (drop l.end l.postings ≡ map (with_key l.key) l.posting-iterator ++ rest))
