-- The postings from here on are those of the list that are left, where those from the start are those of the list.
use Rattle.zeb_leaves.proofs.Cited.{◌≡◌, ◌↔◌, ◌≤◌, ◌++◌, List, length, map, drop, key_in, with_key, KeyPosting}
use Rattle.zeb_leaves.proofs.agreeing_entries.part_end.Given as goal

abbrev pub invariant-loop-posting : goal.invariant-loop-posting
invariant-loop-posting l =
    (l.end ≤ length l.postings)
    × ((rest : List KeyPosting) → (drop l.at l.postings ≡ map (with_key (key_in l.leaf.index l.leaf.register l.term)) l.part ++ rest)
    ↔ (drop l.end l.postings ≡ map (with_key (key_in l.leaf.index l.leaf.register l.term)) (drop l.posting-index l.part) ++ rest))
