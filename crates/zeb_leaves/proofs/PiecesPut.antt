-- Where a leaf's entries are turned as pieces say, merged, and put in its place, the pieces are put; and where the entries lack a turn, a piece
-- lacks leave.
use Rattle.zeb_leaves.proofs.Cited.{Row, ◌≡◌, ◌↔◌, ◌/◌, ◌∷◌, ℕ, ℤ, List, [], refl, sym, subst, all_from, all_has, Has, Trees, Posting, Entry, IsLeafOf, IsPartMalformed, LeavesRead, LeavesReadBlock, Key, PartReads, SayPart, places_in, AreMerged, BlockChange, AreDistinct, BeginsLeavesOf, ReplacesLeafOf, IsPiece, LackTurn, TurnAllEntries, TurnsEntries, block_of, ArePiecesIn, one_unit, unit_unread, packed_leaves, IsInBlock, units_of, LacksLeave, PutsKeys, TurnsAny, TurnsKey, IsTouched, KeyChanges, RecordChange}
use Rattle.zeb_leaves.proofs.BlockTurns.{over, turns_so}
use Rattle.zeb_leaves.proofs.MergedSayings.{now_says, of_has}
use Rattle.zeb_leaves.proofs.PieceChanges.{change_of, changes_are}
use Rattle.zeb_leaves.proofs.PiecesInTurn.{block_touched, touched_block}
use Rattle.zeb_leaves.proofs.PiecesKept.{In, front_so, units_kept}
use Rattle.zeb_leaves.proofs.PutTables.{IsCovered, KeepsBesideLeaves, OwnsEntries}
use Rattle.zeb_leaves.proofs.TurnedLeaves.{TurnsLeaves, begun_turns, none_says, own_says, replaced_turns}

-- the leaves of the register say of each block that is Own just what the entries say
abbrev Says : Trees → ℤ → Key → (List ℕ → ℕ → Type 0) → List Entry → Type 0
Says trees db key Own own = (term : List ℕ) (block : ℕ) → Own term block → (part : List Posting) → PartReads (IsLeafOf trees db key) term block part ↔ SayPart own term block part

module _ (db : ℤ) (key : Key) (Own : List ℕ → ℕ → Type 0) (pieces : List KeyChanges) (are : ArePiecesIn key Own pieces) where
  is_piece : (p : KeyChanges) → Has pieces p → IsPiece p
  is_piece p here = all_has IsPiece pieces p are.are.each here

  -- the register of a piece is the key's
  piece_reads : (trees : Trees) (p : KeyChanges) → Has pieces p → (block : ℕ) (part : List Posting) → PartReads (IsLeafOf trees db key) p.key.now.term block part → LeavesReadBlock trees db p.key.now block part
  piece_reads trees p here block part =
      subst (λ (f : Row). PartReads (In f trees) p.key.now.term block part) (front_so db key db p.key.now refl (are.index p here) (are.register p here))

  reads_piece : (trees : Trees) (p : KeyChanges) → Has pieces p → (block : ℕ) (part : List Posting) → LeavesReadBlock trees db p.key.now block part → PartReads (IsLeafOf trees db key) p.key.now.term block part
  reads_piece trees p here block part =
      subst (λ (f : Row). PartReads (In f trees) p.key.now.term block part) (sym (front_so db key db p.key.now refl (are.index p here) (are.register p here)))

  -- so the units that it touches read as the part of its block says
  units_read : (trees : Trees) (p : KeyChanges) → Has pieces p → (part : List Posting) → PartReads (IsLeafOf trees db key) p.key.now.term (block_of p.changes.now) part
      → (n : ℕ) → IsTouched p.changes.now (n / 256) → LeavesRead trees db p.key.now n (places_in n part)
  units_read trees p here part reads n touch =
      let at = touched_block p (is_piece p here) (n / 256) touch in
      (part, subst (λ block. LeavesReadBlock trees db p.key.now block part) (sym at) (piece_reads trees p here (block_of p.changes.now) part reads), refl)

  -- ---- the pieces are put

  module _ (a b : Trees) (own news : List Entry) (changes : List BlockChange) (turned : TurnAllEntries own pieces changes) (merged : AreMerged changes own news) (leaves : TurnsLeaves (IsLeafOf a db key) (IsLeafOf b db key) Own changes own news)
      (beside : KeepsBesideLeaves db key a b) where
    piece_put : (p : KeyChanges) → Has pieces p → TurnsKey packed_leaves db p.key.now p.changes.now a b
    piece_put p here = record {
      text = are.text p here;
      stored = (is_piece p here).stored;
      were = units_of turns.part 0;
      are = units_of turns.next 0;
      allowed = record { count = tt; found = units_read a p here turns.part ((leaves.was term block (are.own p here) turns.part).1 turns.said); turns = turns.turns };
      put = units_read b p here turns.next (leaves.is term block (are.own p here) turns.next next_said);
      counted = tt;
    }
      where
        term : List ℕ
        term = p.key.now.term

        block : ℕ
        block = block_of p.changes.now

        c : BlockChange
        c = (change_of own pieces changes turned p here).0

        turns : TurnsEntries own p c
        turns = (change_of own pieces changes turned p here).2

        next_said : SayPart news p.key.now.term (block_of p.changes.now) turns.next
        next_said =
            let said = (now_says changes own news merged (changes_are key Own own pieces changes are turned) c (of_has changes c (change_of own pieces changes turned p here).1) turns.next).0 turns.puts_next in
            subst (λ (t : List ℕ). SayPart news t (block_of p.changes.now) turns.next) turns.term (subst (λ (n : ℕ). SayPart news c.term n turns.next) turns.block said)

    any_turned : (k : Key) (list : List RecordChange) → TurnsKey packed_leaves db k list a b → TurnsAny packed_leaves db k list a b
    any_turned k [] turns = tt
    any_turned k (change ∷ list) turns = turns

    pub pieces_put : PutsKeys packed_leaves db pieces a b
    pieces_put = record {
      each = all_from (λ (p : KeyChanges). TurnsAny packed_leaves db p.key.now p.changes.now a b) pieces (λ p here. any_turned p.key.now p.changes.now (piece_put p here));
      rows = units_kept a b db key beside Own own news pieces changes are turned leaves;
      lists = beside.lists;
    }

  -- ---- a piece lacks leave

  pub pieces_lack : (trees : Trees) (own : List Entry) → Says trees db key Own own → LackTurn own pieces → LacksLeave packed_leaves db pieces trees
  pieces_lack trees own says lacks = (
    p,
    here,
    (is_piece p here).stored,
    λ were may allows.
        let touch = block_touched p (is_piece p here) in
        let first = allows.found touch.0.sysno (touch.0, touch.1, refl) in
        let part = first.0 in
        let reads = reads_piece trees p here block part (subst (λ m. LeavesReadBlock trees db p.key.now m part) touch.2 first.1) in
        lacks.2 part ((says p.key.now.term block (are.own p here) part).0 reads) (over block may (units_of part 0))
        (turns_so block p.changes.now were may (units_of part 0)
        (λ change in_it. all_has (IsInBlock block) p.changes.now change (is_piece p here).inside in_it)
        (λ n at.
        let near = subst (IsTouched p.changes.now) (sym at) touch in
        one_unit trees db p.key.now n (places_in n part) (were.places n) (units_read trees p here part reads n near) (allows.found n near))
        refl allows.turns),
  )
    where
      p : KeyChanges
      p = lacks.0

      here : Has pieces p
      here = lacks.1

      block : ℕ
      block = block_of p.changes.now

-- a piece whose block is malformed
pub malformed_lacks : (db : ℤ) (pieces : List KeyChanges) (trees : Trees) (p : KeyChanges) → Has pieces p → IsPiece p → IsPartMalformed (IsLeafOf trees db p.key.now) p.key.now.term (block_of p.changes.now) → LacksLeave packed_leaves db pieces trees
malformed_lacks db pieces trees p here is bad = (
  p,
  here,
  is.stored,
  λ were may allows.
      let touch = block_touched p is in
      let n = touch.0.sysno in
      unit_unread trees db p.key.now n (were.places n) (subst (IsPartMalformed (IsLeafOf trees db p.key.now) p.key.now.term) (sym touch.2) bad) (allows.found n (touch.0, touch.1, refl)),
)

-- ---- in the place of a leaf, and as the first of a register

module _ (a b : Trees) (db : ℤ) (key : Key) (pieces : List KeyChanges) (changes : List BlockChange) (own news : List Entry) (beside : KeepsBesideLeaves db key a b) where
  pub leaf_pieces_put : (was : Row) → ArePiecesIn key (IsCovered a db key was) pieces → OwnsEntries (IsLeafOf a db key) was own → TurnAllEntries own pieces changes → AreMerged changes own news → ReplacesLeafOf a b db key was news → PutsKeys packed_leaves db pieces a b
  leaf_pieces_put was are owns turned merged by = pieces_put db key (IsCovered a db key was) pieces are a b own news changes turned merged
      (replaced_turns (IsLeafOf a db key) (IsLeafOf b db key) was own news changes by.replaces by.before by.after owns merged) beside

  pub first_pieces_put : ((leaf : Row) → ¬ IsLeafOf a db key leaf) → ArePiecesIn key (λ term block. Unit {0}) pieces → own ≡ [] → TurnAllEntries own pieces changes → AreMerged changes own news → BeginsLeavesOf b db key news → PutsKeys packed_leaves db pieces a b
  first_pieces_put none are is turned merged by = pieces_put db key (λ term block. Unit {0}) pieces are a b own news changes turned merged
      (subst (λ (l : List Entry). TurnsLeaves (IsLeafOf a db key) (IsLeafOf b db key) (λ term block. Unit {0}) changes l news) (sym is)
      (begun_turns (IsLeafOf a db key) (IsLeafOf b db key) news changes by.begins none by.after (subst (λ (l : List Entry). AreMerged changes l news) is merged))) beside

pub leaf_pieces_lack : (trees : Trees) (db : ℤ) (key : Key) (was : Row) (pieces : List KeyChanges) (own : List Entry) → AreDistinct (IsLeafOf trees db key) → ArePiecesIn key (IsCovered trees db key was) pieces → OwnsEntries (IsLeafOf trees db key) was own
    → LackTurn own pieces → LacksLeave packed_leaves db pieces trees
leaf_pieces_lack trees db key was pieces own old are owns = pieces_lack db key (IsCovered trees db key was) pieces are trees own (own_says (IsLeafOf trees db key) was own old owns)

pub first_pieces_lack : (trees : Trees) (db : ℤ) (key : Key) (pieces : List KeyChanges) → ((leaf : Row) → ¬ IsLeafOf trees db key leaf) → ArePiecesIn key (λ term block. Unit {0}) pieces → LackTurn [] pieces → LacksLeave packed_leaves db pieces trees
first_pieces_lack trees db key pieces none are = pieces_lack db key (λ term block. Unit {0}) pieces are trees [] (λ term block own. none_says (IsLeafOf trees db key) none term block)
