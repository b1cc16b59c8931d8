-- Pieces of a run that are put in turn, told of the tables before all and after all.
use Rattle.zeb_leaves.proofs.Cited.{◌≡◌, ◌↔◌, ◌∙◌, ◌/◌, ◌++◌, ◌∷◌, ℕ, ℤ, List, [], refl, sym, ap, subst, inl, inr, Less, Equal, nat_cmp, nat_cmp_total, tied_itself, Result, Ok, Err, Has, all_from, all_has, has_either, has_left, has_right, Trees, Key, LeavesRead, Place, ordering_then, key_total, ArePieces, IsPiece, block_of, piece_cmp, kept_then, cut_rises, Answered, packed_leaves, IsInBlock, IsUnitAmong, LacksLeave, PutsKeys, TurnsAny, AllowsChanges, IsTouched, KeyUnits, RegFault, KeyChanges, RecordChange}
use Rattle.zeb_keys.specs.Order.{key_order}

-- ---- a piece and its block

-- it touches its block alone
pub touched_block : (piece : KeyChanges) → IsPiece piece → (block : ℕ) → IsTouched piece.changes.now block → block ≡ block_of piece.changes.now
touched_block piece is block it = sym it.2 ∙ all_has (IsInBlock (block_of piece.changes.now)) piece.changes.now it.0 is.inside it.1

-- and it does touch it
pub block_touched : (piece : KeyChanges) → IsPiece piece → IsTouched piece.changes.now (block_of piece.changes.now)
block_touched piece is = of piece.changes.now (λ none. is.some none)
  where
    of : (changes : List RecordChange) → ¬ (changes ≡ []) → IsTouched changes (block_of changes)
    of [] some = absurd (some refl)
    of (change ∷ changes) some = (change, inl refl, refl)

-- pieces of one key and one block tie
pieces_tie : (p q : KeyChanges) → p.key.now ≡ q.key.now → block_of p.changes.now ≡ block_of q.changes.now → piece_cmp p q ≡ Equal
pieces_tie p q key block =
    ap (λ k. ordering_then k (nat_cmp (block_of p.changes.now) (block_of q.changes.now))) (subst (λ (k : Key). key_order p.key.now k ≡ Equal) key (tied_itself key_total p.key.now))
    ∙ subst (λ n. nat_cmp (block_of p.changes.now) n ≡ Equal) block (tied_itself nat_cmp_total (block_of p.changes.now))

module _ (xs ys : List KeyChanges) (pieces : ArePieces (xs ++ ys)) where
  pub front_is : (x : KeyChanges) → Has xs x → IsPiece x
  front_is x here = all_has IsPiece (xs ++ ys) x pieces.each (has_left xs ys x here)

  pub back_is : (y : KeyChanges) → Has ys y → IsPiece y
  back_is y here = all_has IsPiece (xs ++ ys) y pieces.each (has_right xs ys y here)

  -- no two touch one block of one key
  pub touch_apart : (x y : KeyChanges) → Has xs x → Has ys y → x.key.now ≡ y.key.now → (block : ℕ) → IsTouched x.changes.now block → IsTouched y.changes.now block → ⊥
  touch_apart x y here there key block left right =
      let less : piece_cmp x y ≡ Less = cut_rises piece_cmp xs ys pieces.rising x y here there in
      let same = sym (touched_block x (front_is x here) block left) ∙ touched_block y (back_is y there) block right in
      let e : Less ≡ Equal = sym less ∙ pieces_tie x y key same in
      cc

  front_not : (x : KeyChanges) → Has xs x → (n : ℕ) → IsTouched x.changes.now (n / 256) → ¬ IsUnitAmong ys x.key.now n
  front_not x here n it other = touch_apart x other.0 here other.1 other.2.0 (n / 256) it other.2.1

  back_not : (y : KeyChanges) → Has ys y → (n : ℕ) → IsTouched y.changes.now (n / 256) → ¬ IsUnitAmong xs y.key.now n
  back_not y here n it other = touch_apart other.0 y other.1 here (sym other.2.0) (n / 256) other.2.1 it

-- ---- units that the changes of a key touch, and that read alike

abbrev AreTouchedAlike : ℤ → Key → List RecordChange → Trees → Trees → Type 0
AreTouchedAlike db key changes one two = (n : ℕ) → IsTouched changes (n / 256) → (places : List Place) → LeavesRead one db key n places ↔ LeavesRead two db key n places

module _ (db : ℤ) (key : Key) (one two : Trees) where
  allows_at : (changes : List RecordChange) → AreTouchedAlike db key changes one two → (were are : KeyUnits) → AllowsChanges packed_leaves db key changes one were are → AllowsChanges packed_leaves db key changes two were are
  allows_at changes alike were are allows = record {
    count = tt;
    found = λ n it. (alike n it (were.places n)).0 (allows.found n it);
    turns = allows.turns;
  }

  turns_from : (changes : List RecordChange) → AreTouchedAlike db key changes one two → (new : Trees) → TurnsAny packed_leaves db key changes one new → TurnsAny packed_leaves db key changes two new
  turns_from [] alike new turns = tt
  turns_from (change ∷ changes) alike new turns = record {
    text = turns.text;
    stored = turns.stored;
    were = turns.were;
    are = turns.are;
    allowed = allows_at (change ∷ changes) alike turns.were turns.are turns.allowed;
    put = turns.put;
    counted = tt;
  }

  turns_to : (changes : List RecordChange) → AreTouchedAlike db key changes one two → (old : Trees) → TurnsAny packed_leaves db key changes old one → TurnsAny packed_leaves db key changes old two
  turns_to [] alike old turns = tt
  turns_to (change ∷ changes) alike old turns = record {
    text = turns.text;
    stored = turns.stored;
    were = turns.were;
    are = turns.are;
    allowed = turns.allowed;
    put = λ n it. (alike n it (turns.are.places n)).0 (turns.put n it);
    counted = tt;
  }

-- ---- pieces before others

module _ (db : ℤ) (xs ys : List KeyChanges) (pieces : ArePieces (xs ++ ys)) (a b : Trees) (one : PutsKeys packed_leaves db xs a b) where
  -- what the later ones touch reads as it did
  later_alike : (y : KeyChanges) → Has ys y → AreTouchedAlike db y.key.now y.changes.now b a
  later_alike y here n it places = let same = one.rows.reads db y.key.now n (λ of. back_not xs ys pieces y here n it of.1) places in (same.1, same.0)

  pub puts_in_turn : (c : Trees) → PutsKeys packed_leaves db ys b c → PutsKeys packed_leaves db (xs ++ ys) a c
  puts_in_turn c two = record {
    each = all_from (λ (z : KeyChanges). TurnsAny packed_leaves db z.key.now z.changes.now a c) (xs ++ ys) (λ z here. elim (has_either xs ys z here) [
      | inl front ↦ turns_to db z.key.now b c z.changes.now (λ n it. two.rows.reads db z.key.now n (λ of. front_not xs ys pieces z front n it of.1)) a
          (all_has (λ (z : KeyChanges). TurnsAny packed_leaves db z.key.now z.changes.now a b) xs z one.each front)
      | inr back ↦ turns_from db z.key.now b a z.changes.now (later_alike z back) c
          (all_has (λ (z : KeyChanges). TurnsAny packed_leaves db z.key.now z.changes.now b c) ys z two.each back)
    ]);
    rows = kept_then db (IsUnitAmong xs) (IsUnitAmong ys) (IsUnitAmong (xs ++ ys)) (λ key n it. (it.0, has_left xs ys it.0 it.1, it.2)) (λ key n it. (it.0, has_right xs ys it.0 it.1, it.2)) a b c one.rows two.rows;
    lists = (two.lists.0 ∙ one.lists.0, two.lists.1 ∙ one.lists.1, two.lists.2 ∙ one.lists.2);
  }

  -- a piece that lacks leave behind them lacked it before
  pub lacks_in_turn : LacksLeave packed_leaves db ys b → LacksLeave packed_leaves db (xs ++ ys) a
  lacks_in_turn it =
      let back : AreTouchedAlike db it.0.key.now it.0.changes.now a b = λ n touch places. let same = later_alike it.0 it.1 n touch places in (same.1, same.0) in
      (it.0, has_right xs ys it.0 it.1, it.2, λ were are allows. it.3 were are (allows_at db it.0.key.now a b it.0.changes.now back were are allows))

-- what a call answers for the later ones leads to what it answers for all
pub answered_in_turn : (db : ℤ) (xs ys : List KeyChanges) → ArePieces (xs ++ ys) → (a b c : Trees) (result : Result (Unit {0}) RegFault) → PutsKeys packed_leaves db xs a b → Answered packed_leaves db ys b c result → Answered packed_leaves db (xs ++ ys) a c result
answered_in_turn db xs ys pieces a b c (Ok done) one rest = puts_in_turn db xs ys pieces a b one c rest
answered_in_turn db xs ys pieces a b c (Err fault) one rest = λ damaged. lacks_in_turn db xs ys pieces a b one (rest damaged)
