-- The pieces that one leaf covers and the changes of blocks that they make: one for each, of its block and in their order.
use Rattle.zeb_leaves.proofs.Cited.{◌≡◌, ◌∙◌, ◌/◌, ◌∷◌, ℕ, List, [], refl, sym, ap, subst, inl, inr, Ordering, Less, Equal, nat_cmp, nat_cmp_total, slice_cmp, ordering_then, tied_itself, AllByRecursion, Has, all_from, all_has, Entry, IsEntry, register_code, Key, AreChanges, change_cmp, puts, key_cmp, BlockChange, IsPiece, TurnAllEntries, TurnsEntries, block_of, piece_cmp, ArePiecesIn, IsUnitAmong, IsTouched, KeyChanges}
use Rattle.std.specs.List.Sorted.{IsStrictlySortedBy}
use Rattle.zeb_register.proofs.ContentLemmas.{same_key}
use Rattle.zeb_leaves.proofs.MergedSayings.{has_of}
use Rattle.zeb_leaves.proofs.PiecesInTurn.{block_touched}
use Rattle.zeb_leaves.proofs.TurnedLeaves.{IsFree}

-- a piece has a change, and a change a piece
pub change_of : (own : List Entry) (pieces : List KeyChanges) (changes : List BlockChange) → TurnAllEntries own pieces changes → (p : KeyChanges) → Has pieces p → (c : BlockChange) × Has changes c × TurnsEntries own p c
change_of own [] changes turned p here = absurd here
change_of own (q ∷ pieces) changes turned p (inl same) =
    (turned.0, subst (λ (l : List BlockChange). Has l turned.0) (sym turned.2) (inl refl), subst (λ (z : KeyChanges). TurnsEntries own z turned.0) (sym same) turned.3)
change_of own (q ∷ pieces) changes turned p (inr later) =
    let it = change_of own pieces turned.1 turned.4 p later in
    (it.0, subst (λ (l : List BlockChange). Has l it.0) (sym turned.2) (inr it.1), it.2)

pub piece_for : (own : List Entry) (pieces : List KeyChanges) (changes : List BlockChange) → TurnAllEntries own pieces changes → (c : BlockChange) → Has changes c → (p : KeyChanges) × Has pieces p × TurnsEntries own p c
piece_for own [] changes turned c here = absurd (subst (λ (l : List BlockChange). Has l c) turned here)
piece_for own (q ∷ pieces) changes turned c here = elim (subst (λ (l : List BlockChange). Has l c) turned.2 here) [
  | inl same ↦ (q, inl refl, subst (TurnsEntries own q) (sym same) turned.3)
  | inr later ↦ let it = piece_for own pieces turned.1 turned.4 c later in (it.0, inr it.1, it.2)
]

-- ---- their order

then_less : (x y s n : Ordering) → x ≡ Equal → y ≡ Equal → ordering_then (ordering_then x (ordering_then y s)) n ≡ Less → ordering_then s n ≡ Less
then_less x y s n first second less = sym (ap (λ o. ordering_then (ordering_then o (ordering_then y s)) n) first ∙ ap (λ o. ordering_then (ordering_then Equal (ordering_then o s)) n) second) ∙ less

-- pieces of one register rise as their blocks do
pub piece_less : (p q : KeyChanges) → p.key.now.index ≡ q.key.now.index → p.key.now.register ≡ q.key.now.register → piece_cmp p q ≡ Less → key_cmp p.key.now.term (block_of p.changes.now) q.key.now.term (block_of q.changes.now) ≡ Less
piece_less p q index register less =
    then_less (nat_cmp p.key.now.index q.key.now.index) (nat_cmp (register_code p.key.now.register) (register_code q.key.now.register)) (slice_cmp nat_cmp p.key.now.term q.key.now.term) (nat_cmp (block_of p.changes.now) (block_of q.changes.now))
    (subst (λ i. nat_cmp p.key.now.index i ≡ Equal) index (tied_itself nat_cmp_total p.key.now.index))
    (subst (λ r. nat_cmp (register_code p.key.now.register) r ≡ Equal) (ap register_code register) (tied_itself nat_cmp_total (register_code p.key.now.register)))
    less

change_less : (own : List Entry) (p q : KeyChanges) (c d : BlockChange) → TurnsEntries own p c → TurnsEntries own q d → key_cmp p.key.now.term (block_of p.changes.now) q.key.now.term (block_of q.changes.now) ≡ Less → change_cmp c d ≡ Less
change_less own p q c d one two less = (λ i. key_cmp (one.term i) (one.block i) (two.term i) (two.block i)) ∙ less

changes_rise : (own : List Entry) (pieces : List KeyChanges) (changes : List BlockChange) → IsStrictlySortedBy piece_cmp pieces → ((p q : KeyChanges) → Has pieces p → Has pieces q → (p.key.now.index ≡ q.key.now.index) × (p.key.now.register ≡ q.key.now.register))
    → TurnAllEntries own pieces changes → IsStrictlySortedBy change_cmp changes
unfolding IsStrictlySortedBy
changes_rise own [] changes up same turned = subst (IsStrictlySortedBy change_cmp) (sym turned) tt
changes_rise own (p ∷ pieces) changes up same turned = subst (IsStrictlySortedBy change_cmp) (sym turned.2) (
  all_from (λ d. change_cmp turned.0 d ≡ Less) turned.1 (λ d here.
      let it = piece_for own pieces turned.1 turned.4 d here in
      let register = same p it.0 (inl refl) (inr it.1) in
      change_less own p it.0 turned.0 d turned.3 it.2 (piece_less p it.0 register.0 register.1 (all_has (λ q. piece_cmp p q ≡ Less) pieces it.0 up.0 it.1))),
  changes_rise own pieces turned.1 up.1 (λ q r here there. same q r (inr here) (inr there)) turned.4,
)

module _ (key : Key) (Own : List ℕ → ℕ → Type 0) (own : List Entry) (pieces : List KeyChanges) (changes : List BlockChange) (are : ArePiecesIn key Own pieces) (turned : TurnAllEntries own pieces changes) where
  -- the changes are of different blocks, and rise
  pub changes_are : AreChanges changes
  changes_are = record {
    rising = changes_rise own pieces changes are.are.rising (λ p q here there. (are.index p here ∙ sym (are.index q there), are.register p here ∙ sym (are.register q there))) turned;
    each = all_from (λ c. AllByRecursion IsEntry (puts c)) changes (λ c here. (piece_for own pieces changes turned c here).2.each);
  }

  -- no change is of the block of a unit that no piece touches
  pub unit_free : (k : Key) (n : ℕ) → k.index ≡ key.index → k.register ≡ key.register → ¬ IsUnitAmong pieces k n → IsFree changes k.term (n / 256)
  unit_free k n index register none c here at =
      let it = piece_for own pieces changes turned c (has_of changes c here) in
      let p = it.0 in
      let key_is : k ≡ p.key.now = same_key k p.key.now (index ∙ sym (are.index p it.1)) (ap register_code (register ∙ sym (are.register p it.1))) (sym at.0 ∙ it.2.term) in
      none (p, it.1, (key_is, subst (IsTouched p.changes.now) (sym it.2.block ∙ at.1) (block_touched p (all_has IsPiece pieces p are.are.each it.1))))
