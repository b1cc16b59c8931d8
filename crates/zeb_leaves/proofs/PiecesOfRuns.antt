-- A run of keys and its pieces: where these are put, the run is, and where one lacks leave, a key of the run does.
use Rattle.zeb_leaves.proofs.Cited.{◌≡◌, ◌≢◌, ◌∙◌, ◌/◌, ◌++◌, ◌∷◌, ℕ, ℤ, List, [], refl, sym, ap, subst, inl, inr, Less, eqb_tells, Result, Ok, Err, AllByRecursion, Has, all_from, all_has, has_either, has_left, has_right, Trees, Key, LeavesRead, IsUtf8, ArePieces, ArePiecesOf, IsPiece, PartsRun, all_changes, block_of, piece_cmp, kept_wider, Answers, packed_leaves, IsInBlock, IsRunRefusedAs, IsUnitAmong, LacksLeave, PutsKeys, TurnsAny, TurnsKey, AllowsChanges, IsStorableChange, IsTouched, KeyUnits, RegFault, KeyChanges, RecordChange}
use Rattle.std.specs.List.Sorted.{IsStrictlySortedBy}
use Rattle.zeb_register.proofs.ContentTurns.{turns_kept}
use Rattle.zeb_leaves.proofs.BlockTurns.{Turns, over, over_in, over_out, turns_beside, turns_over, turns_parted, turns_then}
use Rattle.zeb_leaves.proofs.PiecesInTurn.{block_touched, touch_apart}

-- ---- parts of pieces

pub rest_pieces : (p : KeyChanges) (ps : List KeyChanges) → ArePieces (p ∷ ps) → ArePieces ps
unfolding IsStrictlySortedBy
rest_pieces p ps pieces = record { each = pieces.each.1; rising = pieces.rising.1 }

pub front_pieces : (xs ys : List KeyChanges) → ArePieces (xs ++ ys) → ArePieces xs
unfolding IsStrictlySortedBy
front_pieces [] ys pieces = record { each = tt; rising = tt }
front_pieces (x ∷ xs) ys pieces =
    let rest = front_pieces xs ys (rest_pieces x (xs ++ ys) pieces) in
    record {
      each = (pieces.each.0, rest.each);
      rising = (all_from (λ z. piece_cmp x z ≡ Less) xs (λ z here. all_has (λ z. piece_cmp x z ≡ Less) (xs ++ ys) z pieces.rising.0 (has_left xs ys z here)), rest.rising);
    }

pub back_pieces : (xs ys : List KeyChanges) → ArePieces (xs ++ ys) → ArePieces ys
back_pieces [] ys pieces = pieces
back_pieces (x ∷ xs) ys pieces = back_pieces xs ys (rest_pieces x (xs ++ ys) pieces)

-- a change of all is one of a piece, and back
piece_of : (own : List KeyChanges) (change : RecordChange) → Has (all_changes own) change → (q : KeyChanges) × Has own q × Has q.changes.now change
piece_of [] change here = absurd here
piece_of (p ∷ ps) change here = elim (has_either p.changes.now (all_changes ps) change here) [
  | inl first ↦ (p, inl refl, first)
  | inr later ↦ let it = piece_of ps change later in (it.0, inr it.1, it.2)
]

of_piece : (own : List KeyChanges) (q : KeyChanges) → Has own q → (change : RecordChange) → Has q.changes.now change → Has (all_changes own) change
of_piece [] q there change here = absurd there
of_piece (p ∷ ps) q (inl same) change here = has_left p.changes.now (all_changes ps) change (subst (λ (z : KeyChanges). Has z.changes.now change) same here)
of_piece (p ∷ ps) q (inr later) change here = has_right p.changes.now (all_changes ps) change (of_piece ps q later change here)

-- a piece has a change, so that it is turned
pub piece_turned : (db : ℤ) (old new : Trees) (piece : KeyChanges) → IsPiece piece → TurnsAny packed_leaves db piece.key.now piece.changes.now old new → TurnsKey packed_leaves db piece.key.now piece.changes.now old new
piece_turned db old new piece is = of piece.changes.now is.some
  where
    of : (changes : List RecordChange) → changes ≢ [] → TurnsAny packed_leaves db piece.key.now changes old new → TurnsKey packed_leaves db piece.key.now changes old new
    of [] some turns = absurd (some refl)
    of (change ∷ changes) some turns = turns

-- ---- a key in its pieces

-- the changes of the first piece, and those of the others, which lie in other blocks
module _ (p : KeyChanges) (ps : List KeyChanges) (pieces : ArePieces (p ∷ ps)) (key : Key) (keys : (q : KeyChanges) → Has (p ∷ ps) q → q.key.now ≡ key) where
  abbrev block : ℕ
  block = block_of p.changes.now

  inside : (change : RecordChange) → Has p.changes.now change → change.sysno / 256 ≡ block
  inside change here = all_has (IsInBlock block) p.changes.now change pieces.each.0.inside here

  other_block : (q : KeyChanges) → Has ps q → (b : ℕ) → IsTouched q.changes.now b → b ≢ block
  other_block q here b touch same =
      touch_apart (p ∷ []) ps pieces p q (inl refl) here (keys p (inl refl) ∙ sym (keys q (inr here))) block (block_touched p pieces.each.0) (subst (IsTouched q.changes.now) same touch)

  outside : (change : RecordChange) → Has (all_changes ps) change → change.sysno / 256 ≢ block
  outside change here = let it = piece_of ps change here in other_block it.0 it.1 (change.sysno / 256) (change, it.2, refl)

  -- units that the one reads in its block, and the others beside it
  both_read : (trees : Trees) (db : ℤ) (one two : KeyUnits) → ((n : ℕ) → IsTouched p.changes.now (n / 256) → LeavesRead trees db key n (one.places n)) → ((n : ℕ) → IsTouched (all_changes ps) (n / 256) → LeavesRead trees db key n (two.places n))
      → (n : ℕ) → IsTouched (all_changes (p ∷ ps)) (n / 256) → LeavesRead trees db key n ((over block one two).places n)
  both_read trees db one two first rest n it = elim (eqb_tells (n / 256) block) [
    | inl near ↦ subst (LeavesRead trees db key n) (sym (over_in block one two n near.1)) (first n (subst (IsTouched p.changes.now) (sym near.1) (block_touched p pieces.each.0)))
    | inr far ↦ subst (LeavesRead trees db key n) (sym (over_out block one two n far.1)) (rest n (elim (has_either p.changes.now (all_changes ps) it.0 it.1) [
      | inl here ↦ absurd (far.1 (sym it.2 ∙ inside it.0 here))
      | inr later ↦ (it.0, later, it.2)
    ]))
  ]

module _ (db : ℤ) (old new : Trees) (key : Key) where
  -- the key is turned, if it has changes
  record IsTurned (changes : List RecordChange) : Type 0 where
    text : changes ≢ [] → IsUtf8 key.term
    stored : AllByRecursion IsStorableChange changes
    were : KeyUnits
    are : KeyUnits
    allowed : AllowsChanges packed_leaves db key changes old were are
    put : (n : ℕ) → IsTouched changes (n / 256) → LeavesRead new db key n (are.places n)

  turned_any : (changes : List RecordChange) → IsTurned changes → TurnsAny packed_leaves db key changes old new
  turned_any [] it = tt
  turned_any (change ∷ changes) it =
      record { text = it.text (λ none. cc); stored = it.stored; were = it.were; are = it.are; allowed = it.allowed; put = it.put; counted = tt }

  abbrev nothing : KeyUnits
  nothing = record { places = λ n. []; records = 0 }

  all_stored : (own : List KeyChanges) → ArePieces own → AllByRecursion IsStorableChange (all_changes own)
  all_stored own pieces = all_from IsStorableChange (all_changes own) (λ change here.
      let it = piece_of own change here in
      all_has IsStorableChange it.0.changes.now change (all_has IsPiece own it.0 pieces.each it.1).stored it.2)

  pieces_turned : (own : List KeyChanges) → ArePieces own → ((q : KeyChanges) → Has own q → q.key.now ≡ key) → ((q : KeyChanges) → Has own q → TurnsKey packed_leaves db q.key.now q.changes.now old new) → IsTurned (all_changes own)
  pieces_turned [] pieces keys turns = record {
    text = λ some. absurd (some refl);
    stored = tt;
    were = nothing;
    are = nothing;
    allowed = record { count = tt; found = λ n it. absurd it.1; turns = (λ n. refl, refl) };
    put = λ n it. absurd it.1;
  }
  pieces_turned (p ∷ ps) pieces keys turns =
      let b = block_of p.changes.now in
      let first = subst (λ (k : Key). TurnsKey packed_leaves db k p.changes.now old new) (keys p (inl refl)) (turns p (inl refl)) in
      let rest = pieces_turned ps (rest_pieces p ps pieces) (λ q here. keys q (inr here)) (λ q here. turns q (inr here)) in
      record {
        text = λ some. first.text;
        stored = all_stored (p ∷ ps) pieces;
        were = over b first.were rest.were;
        are = over b first.are rest.are;
        allowed = record {
          count = tt;
          found = both_read p ps pieces key keys old db first.were rest.were first.allowed.found rest.allowed.found;
          turns = turns_then p.changes.now (all_changes ps) (over b first.were rest.were) (over b first.are rest.were) (over b first.are rest.are)
              (turns_over b p.changes.now first.were first.are rest.were (inside p ps pieces key keys) first.allowed.turns)
              (turns_beside b (all_changes ps) first.are rest.were rest.are (outside p ps pieces key keys) rest.allowed.turns);
        };
        put = both_read p ps pieces key keys new db first.are rest.are first.put rest.put;
      }

  -- what all of them turn each of them turns, from units that are the same in its block
  record TurnsOne (q : KeyChanges) (were : KeyUnits) : Type 0 where
    mid : KeyUnits
    end : KeyUnits
    turns : Turns q.changes.now mid end
    same : (n : ℕ) → IsTouched q.changes.now (n / 256) → mid.places n ≡ were.places n

  one_turned : (own : List KeyChanges) → ArePieces own → ((q : KeyChanges) → Has own q → q.key.now ≡ key) → (q : KeyChanges) → Has own q → (were are : KeyUnits) → Turns (all_changes own) were are → TurnsOne q were
  one_turned [] pieces keys q here were are turns = absurd here
  one_turned (p ∷ ps) pieces keys q (inl same) were are turns =
      let it = turns_parted p.changes.now (all_changes ps) were are turns in
      subst (λ (z : KeyChanges). TurnsOne z were) (sym same) (record { mid = were; end = it.0; turns = it.1; same = λ n touch. refl })
  one_turned (p ∷ ps) pieces keys q (inr later) were are turns =
      let it = turns_parted p.changes.now (all_changes ps) were are turns in
      let rest = one_turned ps (rest_pieces p ps pieces) (λ z here. keys z (inr here)) q later it.0 are it.2 in
      record {
        mid = rest.mid;
        end = rest.end;
        turns = rest.turns;
        same = λ n touch. rest.same n touch ∙ turns_kept packed_leaves p.changes.now were it.0 it.1 n (λ change here at.
            other_block p ps pieces key keys q later (n / 256) touch (ap (λ m. m / 256) (sym at) ∙ inside p ps pieces key keys change here));
      }

-- ---- a run in its pieces

-- the key of the run that a piece is of
record HasOwner (run : List KeyChanges) (q : KeyChanges) : Type 0 where
  one : KeyChanges
  is : Has run one
  own : List KeyChanges
  pieces : ArePieces own
  there : Has own q
  of : ArePiecesOf one own

owner : (run pieces : List KeyChanges) → PartsRun run pieces → ArePieces pieces → (q : KeyChanges) → Has pieces q → HasOwner run q
owner [] pieces parts are q here = absurd (subst (λ (l : List KeyChanges). Has l q) parts here)
owner (one ∷ run) pieces parts are q here =
    let whole = subst ArePieces parts.2 are in
    elim (has_either parts.0 parts.1 q (subst (λ (l : List KeyChanges). Has l q) parts.2 here)) [
      | inl own ↦ record { one = one; is = inl refl; own = parts.0; pieces = front_pieces parts.0 parts.1 whole; there = own; of = parts.3 }
      | inr rest ↦
          let it = owner run parts.1 parts.4 (back_pieces parts.0 parts.1 whole) q rest in
          record { one = it.one; is = inr it.is; own = it.own; pieces = it.pieces; there = it.there; of = it.of }
    ]

module _ (db : ℤ) (old new : Trees) where
  run_turned : (run pieces : List KeyChanges) → PartsRun run pieces → ArePieces pieces → ((q : KeyChanges) → Has pieces q → TurnsKey packed_leaves db q.key.now q.changes.now old new)
      → AllByRecursion (λ (one : KeyChanges). TurnsAny packed_leaves db one.key.now one.changes.now old new) run
  run_turned [] pieces parts are turns = tt
  run_turned (one ∷ run) pieces parts are turns =
      let whole = subst ArePieces parts.2 are in
      let there = λ (q : KeyChanges) (here : Has (parts.0 ++ parts.1) q). subst (λ (l : List KeyChanges). Has l q) (sym parts.2) here in
      let key = one.key.now in
      let its = pieces_turned db old new key parts.0 (front_pieces parts.0 parts.1 whole) parts.3.key (λ q here. turns q (there q (has_left parts.0 parts.1 q here))) in (
        subst (λ (changes : List RecordChange). TurnsAny packed_leaves db key changes old new) parts.3.changes (turned_any db old new key (all_changes parts.0) its),
        run_turned run parts.1 parts.4 (back_pieces parts.0 parts.1 whole) (λ q here. turns q (there q (has_right parts.0 parts.1 q here))),
      )

module _ (db : ℤ) (run pieces : List KeyChanges) (parts : PartsRun run pieces) (are : ArePieces pieces) where
  -- what a piece touches its key touches
  touched_of : (q : KeyChanges) (it : HasOwner run q) (block : ℕ) → IsTouched q.changes.now block → IsTouched it.one.changes.now block
  touched_of q it block touch = subst (λ (changes : List RecordChange). IsTouched changes block) it.of.changes (touch.0, of_piece it.own q it.there touch.0 touch.1, touch.2)

  among : (key : Key) (n : ℕ) → IsUnitAmong pieces key n → IsUnitAmong run key n
  among key n unit =
      let it = owner run pieces parts are unit.0 unit.1 in
      (it.one, it.is, (unit.2.0 ∙ it.of.key unit.0 it.there, touched_of unit.0 it (n / 256) unit.2.1))

  pub run_put : (old new : Trees) → PutsKeys packed_leaves db pieces old new → PutsKeys packed_leaves db run old new
  run_put old new puts = record {
    each = run_turned db old new run pieces parts are (λ q here.
        piece_turned db old new q (all_has IsPiece pieces q are.each here) (all_has (λ (z : KeyChanges). TurnsAny packed_leaves db z.key.now z.changes.now old new) pieces q puts.each here));
    rows = kept_wider db (IsUnitAmong pieces) (IsUnitAmong run) among old new puts.rows;
    lists = puts.lists;
  }

  pub run_lacks : (trees : Trees) → LacksLeave packed_leaves db pieces trees → LacksLeave packed_leaves db run trees
  run_lacks trees lacks = (
    it.one,
    it.is,
    subst (AllByRecursion IsStorableChange) it.of.changes (all_stored db trees trees key it.own it.pieces),
    λ were are allows.
        let one = one_turned db trees trees key it.own it.pieces it.of.key q it.there were are (subst (λ (changes : List RecordChange). Turns changes were are) (sym it.of.changes) allows.turns) in
        lacks.3 one.mid one.end record {
          count = tt;
          found = λ n touch.
              let read = allows.found n (touched_of q it (n / 256) touch) in
              let here : LeavesRead trees db q.key.now n (were.places n) = subst (λ (k : Key). LeavesRead trees db k n (were.places n)) (sym (it.of.key q it.there)) read in
              subst (LeavesRead trees db q.key.now n) (sym (one.same n touch)) here;
          turns = one.turns;
        },
  )
    where
      q : KeyChanges
      q = lacks.0

      it : HasOwner run q
      it = owner run pieces parts are q lacks.1

      key : Key
      key = it.one.key.now

  -- what a call answers for the pieces it answers for the run
  pub run_answered : (old new : Trees) (Held : Type 0) (result : Result (Unit {0}) RegFault) → Answers (IsRunRefusedAs packed_leaves db pieces old) (λ done. Held × PutsKeys packed_leaves db pieces old new) result
      → Answers (IsRunRefusedAs packed_leaves db run old) (λ done. Held × PutsKeys packed_leaves db run old new) result
  run_answered old new Held (Ok done) it = (it.0, run_put old new it.1)
  run_answered old new Held (Err fault) told = λ damaged. run_lacks old (told damaged)
