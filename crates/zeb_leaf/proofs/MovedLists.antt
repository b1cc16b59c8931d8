-- Entries that are moved up to a changed block, and what is put there.
use Rattle.zeb_leaf.proofs.Cited.{◌≡◌, List, ◌++◌, ◌∙◌, ap, append_assoc, Entry, puts, IsRestBehind, Merges, MovesBelow, BlockChange}

pub one_merges : (c : BlockChange) (left mid rest old was new : List Entry) → MovesBelow c.term c.block left mid old was → IsRestBehind c.term c.block mid rest → new ≡ was ++ puts c → Merges c left old new rest
one_merges c left mid rest old was new moves behind put = record {
  below = moves.below;
  parted = record { rest = mid; whole = moves.whole; lower = moves.lower; next = moves.next; left = behind };
  put = put ∙ ap (λ (l : List Entry). l ++ puts c) moves.put ∙ append_assoc old moves.below (puts c);
}
