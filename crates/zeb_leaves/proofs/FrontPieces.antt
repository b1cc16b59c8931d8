-- The pieces at the front of all: so many as one leaf covers, or as begin a register.
use Rattle.zeb_leaves.proofs.Cited.{Row, State, Has, ◌≡◌, ◌≢◌, ◌∙◌, ◌+◌, ◌≤◌, ◌∷◌, ℕ, ℤ, suc, List, [], Some, None, Option, length, drop, refl, sym, ap, subst, inl, inr, Less, Greater, arith, AllByRecursion, all_has, Trees, Entry, Covers, IsLeafIn, IsNextBehind, IsPartMalformed, IsStore, IsUncovered, Key, blocks_tree, key_in, leaf_key, own_key, ◌-◌, true, false, get_or, take, take-append-drop, take_rest, key_cmp, IfToldPutsEntries, IsEndAt, ArePieces, LackTurn, block_of, piece_cmp, ArePiecesIn, EndsLeaf, ShowsKey, ShowsNone, End, ShowsOwn, packed_leaves, LacksLeave, PutsKeys, Changes, KeyChanges, RegisterOf}
use Rattle.std.specs.List.Sorted.{IsStrictlySortedBy}
use Rattle.zeb_register.proofs.KeyOrder.{key_order}
use Rattle.zeb_register.proofs.TermLists.{has_taken}
use Rattle.zeb_leaves.proofs.OneCover.{up_to_then}
use Rattle.zeb_leaves.proofs.OwnLeaves.{Within}
use Rattle.zeb_leaves.proofs.OwnedEntries.{covered_range, owns_shown}
use Rattle.zeb_leaves.proofs.PieceChanges.{piece_less}
use Rattle.zeb_leaves.proofs.PiecesKept.{In, front_so}
use Rattle.zeb_leaves.proofs.PiecesOfRuns.{front_pieces}
use Rattle.zeb_leaves.proofs.PiecesPut.{first_pieces_lack, leaf_pieces_lack, malformed_lacks}
use Rattle.zeb_leaves.proofs.PiecesWritten.{first_written, leaf_written, store_distinct}
use Rattle.zeb_leaves.proofs.PutTables.{IsCovered, OwnsEntries}
use Rattle.zeb_leaves.proofs.SpanRuns.{below_or, up_not_less}
use Rattle.zeb_leaves.specs.PrivateTurning.{BeginInRegister, CoversFirst, IsBelow, IsTextOf}
use Rattle.zeb_leaves.specs.PrivateTurnedLeaves.{AreOfOne, LeafLacksTurn, TurnsInto, TurnsLeaf}

-- ---- where what a leaf covers ends

-- it ends at the own key of the leaf that is next behind a key that it covers
pub ends_leaf : (Leaves : Row → Type 0) (key leaf : Row) → Covers Leaves key leaf → (next : Option Row) (end : End) → IsNextBehind Leaves key next → IsEndAt next end → EndsLeaf Leaves leaf end
ends_leaf Leaves key leaf covers None None behind ends = λ other there. covers.greatest other there (behind other there)
ends_leaf Leaves key leaf covers None (Some end) behind ends = absurd ends
ends_leaf Leaves key leaf covers (Some next) None behind ends = absurd ends
ends_leaf Leaves key leaf covers (Some next) (Some end) behind ends = (
  next,
  behind.0,
  ends,
  λ up. behind.1 (up_to_then (own_key next) (own_key leaf) key up covers.up_to),
  λ other there. elim (below_or key (own_key other)) [
    | inl less ↦ inr (behind.2 other there (λ up. up_not_less key (own_key other) up less))
    | inr up ↦ inl (covers.greatest other there up)
  ],
)

-- ---- pieces at the front

abbrev pub one_key : RegisterOf → Key
one_key at = key_in at.index at.register []

abbrev piece_key : KeyChanges → Row
piece_key p = leaf_key p.key.now.term (block_of p.changes.now)

-- the first of the pieces and so many more are of the register, with terms that are text
pub record AreAtFront (at : RegisterOf) (pieces : List KeyChanges) (more : ℕ) : Type 0 where
  pub begins : BeginInRegister at pieces
  pub others : AllByRecursion (IsTextOf at) (take more (drop 1 pieces))

-- those behind the first, as the code cuts them
abbrev behind_first : List KeyChanges → List KeyChanges
behind_first pieces = take (length pieces - 1) (drop 1 pieces)

behind_is : (pieces : List KeyChanges) → behind_first pieces ≡ drop 1 pieces
behind_is pieces = take_rest pieces 1

pub below_front : (end : End) (pieces : List KeyChanges) (more : ℕ) → AllByRecursion (IsBelow end) (take more (behind_first pieces)) → AllByRecursion (IsBelow end) (take more (drop 1 pieces))
below_front end pieces more below = subst (λ l. AllByRecursion (IsBelow end) (take more l)) (behind_is pieces) below

pub at_front : (at : RegisterOf) (pieces : List KeyChanges) (more : ℕ) → BeginInRegister at pieces → AllByRecursion (IsTextOf at) (take more (behind_first pieces)) → AreAtFront at pieces more
at_front at pieces more begins others = record { begins = begins; others = subst (λ l. AllByRecursion (IsTextOf at) (take more l)) (behind_is pieces) others }

pub all_within : (pieces : List KeyChanges) (more : ℕ) → pieces ≢ [] → more ≤ length (behind_first pieces) → (1 ≤ 1 + more) × (1 + more ≤ length pieces)
all_within [] more some few = absurd (some refl)
all_within (p ∷ ps) more some few = let all = ap length (behind_is (p ∷ ps)) in (omega arith, omega (arith, few, all))

module _ (at : RegisterOf) (p : KeyChanges) (ps : List KeyChanges) (more : ℕ) (front : AreAtFront at (p ∷ ps) more) where
  text_of : (q : KeyChanges) → Has (p ∷ take more ps) q → IsTextOf at q
  text_of q (inl same) = subst (IsTextOf at) (sym same) front.begins.first.0
  text_of q (inr later) = all_has (IsTextOf at) (take more ps) q front.others later

  front_in : (Own : List ℕ → ℕ → Type 0) → ((q : KeyChanges) → Has (p ∷ take more ps) q → Own q.key.now.term (block_of q.changes.now)) → ArePiecesIn (one_key at) Own (take (1 + more) (p ∷ ps))
  front_in Own own =
      let next : suc more ≡ 1 + more = omega arith in
      subst (λ n. ArePiecesIn (one_key at) Own (take n (p ∷ ps))) next (record {
        some = λ none. cc;
        are = front_pieces (p ∷ take more ps) (drop more ps) (subst (λ (l : List KeyChanges). ArePieces (p ∷ l)) (sym (take-append-drop more ps)) front.begins.are);
        index = λ q here. (text_of q here).0.0;
        register = λ q here. (text_of q here).0.1;
        text = λ q here. (text_of q here).1;
        own = own;
      })

  -- they rise
  above_first : (q : KeyChanges) → Has (take more ps) q → key_cmp p.key.now.term (block_of p.changes.now) q.key.now.term (block_of q.changes.now) ≡ Less
  unfolding IsStrictlySortedBy
  above_first q later =
      let one = text_of p (inl refl) in
      let other = text_of q (inr later) in
      piece_less p q (one.0.0 ∙ sym other.0.0) (one.0.1 ∙ sym other.0.1) (all_has (λ z. piece_cmp p z ≡ Less) ps q front.begins.are.rising.0 (has_taken more ps q later))

  -- the first is malformed, so that it lacks leave
  first_lacks : (trees : Trees) → IsPartMalformed (IsLeafIn trees at) p.key.now.term (block_of p.changes.now) → LacksLeave packed_leaves at.db.0 (p ∷ ps) trees
  first_lacks trees bad =
      let here = (text_of p (inl refl)).0 in
      malformed_lacks at.db.0 (p ∷ ps) trees p (inl refl) front.begins.are.each.0
      (subst (λ (f : Row). IsPartMalformed (In f trees) p.key.now.term (block_of p.changes.now)) (front_so at.db.0 (one_key at) at.db.0 p.key.now refl here.0 here.1) bad)

front_anywhere : (at : RegisterOf) (pieces : List KeyChanges) (more : ℕ) → AreAtFront at pieces more → ArePiecesIn (one_key at) (λ term block. Unit {0}) (take (1 + more) pieces)
front_anywhere at [] more front = absurd (front.begins.some refl)
front_anywhere at (p ∷ ps) more front = front_in at p ps more front (λ term block. Unit {0}) (λ q here. tt)

pub front_of_one : (at : RegisterOf) (pieces : List KeyChanges) (more : ℕ) → AreAtFront at pieces more → AreOfOne (take (1 + more) pieces)
front_of_one at pieces more front = (one_key at, front_anywhere at pieces more front)

-- what one of the first of them lacks, one of them lacks
lacks_more : (db : ℤ) (n : ℕ) (pieces : List KeyChanges) (trees : Trees) → LacksLeave packed_leaves db (take n pieces) trees → LacksLeave packed_leaves db pieces trees
lacks_more db n pieces trees it = (it.0, has_taken n pieces it.0 it.1, it.2, it.3)

-- ---- the first, as the code reads it

module _ (pieces : List KeyChanges) (some : pieces ≢ []) (p : KeyChanges) (is : p ≡ get_or pieces 0 p) where
  whole_is : (ps : List KeyChanges) × (pieces ≡ p ∷ ps)
  whole_is = from pieces some is
    where
      from : (all : List KeyChanges) → all ≢ [] → p ≡ get_or all 0 p → (ps : List KeyChanges) × (all ≡ p ∷ ps)
      from [] none same = absurd (none refl)
      from (q ∷ qs) none same = (qs, ap (λ z. z ∷ qs) (sym same))

  module _ (term : List ℕ) (block : ℕ) (term_is : term ≡ p.key.now.term) (block_is : block ≡ block_of p.changes.now) where
    key_read : leaf_key term block ≡ piece_key p
    key_read i = leaf_key (term_is i) (block_is i)

    pub covers_first : (Leaves : Row → Type 0) (leaf : Row) → CoversFirst Leaves leaf pieces → Covers Leaves (leaf_key term block) leaf
    covers_first Leaves leaf covers = subst (λ (k : Row). Covers Leaves k leaf) (sym key_read) (subst (CoversFirst Leaves leaf) whole_is.1 covers)

    pub covers_read : (Leaves : Row → Type 0) (leaf : Row) → Covers Leaves (leaf_key term block) leaf → CoversFirst Leaves leaf pieces
    covers_read Leaves leaf covers = subst (CoversFirst Leaves leaf) (sym whole_is.1) (subst (λ (k : Row). Covers Leaves k leaf) key_read covers)

    -- where the register has leaves, and none covers it
    pub uncovered_lacks : (trees : Trees) (at : RegisterOf) → ArePieces pieces → IsTextOf at p → IsUncovered (IsLeafIn trees at) (leaf_key term block) → LacksLeave packed_leaves at.db.0 pieces trees
    uncovered_lacks trees at are of bad =
        let front : AreAtFront at (p ∷ whole_is.0) 0 = record { begins = record { some = λ none. cc; are = subst ArePieces whole_is.1 are; first = (of, tt) }; others = tt } in
        subst (λ l. LacksLeave packed_leaves at.db.0 l trees) (sym whole_is.1) (first_lacks at p whole_is.0 0 front trees (inl (inr (subst (IsUncovered (IsLeafIn trees at)) key_read bad))))

-- ---- those that one leaf covers

module _ (Leaves : Row → Type 0) (leaf : Row) (term : List ℕ) (block : ℕ) (own : ShowsKey leaf term block) where
  below_end : (end : End) (q : KeyChanges) → IsBelow end q → Within end q.key.now.term (block_of q.changes.now)
  below_end None q below = tt
  below_end (Some end) q below = key_order q.key.now.term end.0 (block_of q.changes.now) end.1 ∙ below

  -- a later one below the end is covered
  covers_later : (end : End) → EndsLeaf Leaves leaf end → (p q : KeyChanges) → Covers Leaves (piece_key p) leaf → key_cmp p.key.now.term (block_of p.changes.now) q.key.now.term (block_of q.changes.now) ≡ Less → IsBelow end q → Covers Leaves (piece_key q) leaf
  covers_later end ends p q covers above below =
      let range = covered_range Leaves leaf covers.is term block own end ends in
      let from = ((range p.key.now.term (block_of p.changes.now)).0 covers).0 in
      (range q.key.now.term (block_of q.changes.now)).1 (
        up_to_then (leaf_key term block) (piece_key p) (piece_key q) from (λ over. let e : Less ≡ Greater = sym (key_order p.key.now.term q.key.now.term (block_of p.changes.now) (block_of q.changes.now) ∙ above) ∙ over in cc),
        below_end end q below,
      )

-- the leaf is there
covering_there : (Leaves : Row → Type 0) (leaf : Row) (pieces : List KeyChanges) → pieces ≢ [] → CoversFirst Leaves leaf pieces → Leaves leaf
covering_there Leaves leaf [] some covers = absurd (some refl)
covering_there Leaves leaf (p ∷ ps) some covers = covers.is

-- and shows no entries, so that the first lacks leave
hidden_lacks : (trees : Trees) (at : RegisterOf) (leaf : Row) (pieces : List KeyChanges) (more : ℕ) → AreAtFront at pieces more → CoversFirst (IsLeafIn trees at) leaf pieces → ShowsNone leaf → LacksLeave packed_leaves at.db.0 pieces trees
hidden_lacks trees at leaf [] more front covers none = absurd (front.begins.some refl)
hidden_lacks trees at leaf (p ∷ ps) more front covers none = first_lacks at p ps more front trees (inl (inl (leaf, covers, none)))

front_covered : (trees : Trees) (at : RegisterOf) (leaf : Row) (term : List ℕ) (block : ℕ) (end : End) (pieces : List KeyChanges) (more : ℕ) → ShowsKey leaf term block → AreAtFront at pieces more → AllByRecursion (IsBelow end) (take more (drop 1 pieces))
    → EndsLeaf (IsLeafIn trees at) leaf end → CoversFirst (IsLeafIn trees at) leaf pieces → ArePiecesIn (one_key at) (IsCovered trees at.db.0 (one_key at) leaf) (take (1 + more) pieces)
front_covered trees at leaf term block end [] more own front below ends covers = absurd (front.begins.some refl)
front_covered trees at leaf term block end (p ∷ ps) more own front below ends covers = front_in at p ps more front (IsCovered trees at.db.0 (one_key at) leaf) each
  where
    each : (q : KeyChanges) → Has (p ∷ take more ps) q → Covers (IsLeafIn trees at) (piece_key q) leaf
    each q (inl same) = subst (λ (z : KeyChanges). Covers (IsLeafIn trees at) (piece_key z) leaf) (sym same) covers
    each q (inr later) = covers_later (IsLeafIn trees at) leaf term block own end ends p q covers (above_first at p ps more front q later) (all_has (IsBelow end) (take more ps) q below later)

-- ---- in a store

module _ (s : State) (store : IsStore s) (at : RegisterOf) (pieces : List KeyChanges) where
  abbrev Leaves : Row → Type 0
  Leaves = IsLeafIn s.now.trees at

  -- a leaf has a key
  pub key_shown : (leaf : Row) → pieces ≢ [] → CoversFirst Leaves leaf pieces → ¬ ((term : List ℕ) (block : ℕ) → ¬ ShowsKey leaf term block)
  key_shown leaf some covers hides = let it = (store_distinct s store at.db.0 (one_key at)).shaped leaf (covering_there Leaves leaf pieces some covers) in hides it.0 it.1 (ap own_key it.3)

  module _ (more : ℕ) (front : AreAtFront at pieces more) where
    module _ (leaf : Row) (term : List ℕ) (block : ℕ) (end : End) (key_is : ShowsKey leaf term block) (below : AllByRecursion (IsBelow end) (take more (drop 1 pieces)))
        (ends : EndsLeaf Leaves leaf end) (covers : CoversFirst Leaves leaf pieces) where
      there : Leaves leaf
      there = covering_there Leaves leaf pieces front.begins.some covers

      owned : (own : List Entry) → ShowsOwn term block end leaf own → OwnsEntries Leaves leaf own
      owned own shows = owns_shown Leaves leaf there term block key_is end ends own shows

      covered : ArePiecesIn (one_key at) (IsCovered s.now.trees at.db.0 (one_key at) leaf) (take (1 + more) pieces)
      covered = front_covered s.now.trees at leaf term block end pieces more key_is front below ends covers

      pub leaf_front_lacks : LeafLacksTurn term block end leaf (take (1 + more) pieces) → LacksLeave packed_leaves at.db.0 pieces s.now.trees
      leaf_front_lacks (inl none) = hidden_lacks s.now.trees at leaf pieces more front covers none
      leaf_front_lacks (inr it) = lacks_more at.db.0 (1 + more) pieces s.now.trees
          (leaf_pieces_lack s.now.trees at.db.0 (one_key at) leaf (take (1 + more) pieces) it.0 (store_distinct s store at.db.0 (one_key at)) covered (owned it.0 it.1) it.2)

      pub leaf_front_put : (t : State) (news : List Entry) → TurnsLeaf term block end leaf (take (1 + more) pieces) news → Changes blocks_tree (IfToldPutsEntries true at term block news) s t
          → IsStore t × PutsKeys packed_leaves at.db.0 (take (1 + more) pieces) s.now.trees t.now.trees
      leaf_front_put t news it done =
          (done.layout, leaf_written at s t store done.layout (take (1 + more) pieces) it.2.changes it.0 news it.2.turned it.2.merged term block leaf there key_is covered (owned it.0 it.1) done)

    module _ (none : (leaf : Row) → ¬ Leaves leaf) where
      pub first_front_lacks : LackTurn [] (take (1 + more) pieces) → LacksLeave packed_leaves at.db.0 pieces s.now.trees
      first_front_lacks lacks = lacks_more at.db.0 (1 + more) pieces s.now.trees
          (first_pieces_lack s.now.trees at.db.0 (one_key at) (take (1 + more) pieces) none (front_anywhere at pieces more front) lacks)

      pub first_front_put : (t : State) (news : List Entry) → TurnsInto [] (take (1 + more) pieces) news → Changes blocks_tree (IfToldPutsEntries false at [] 0 news) s t
          → IsStore t × PutsKeys packed_leaves at.db.0 (take (1 + more) pieces) s.now.trees t.now.trees
      first_front_put t news it done =
          (done.layout, first_written at s t store done.layout (take (1 + more) pieces) it.changes [] news it.turned it.merged none (front_anywhere at pieces more front) refl done)
