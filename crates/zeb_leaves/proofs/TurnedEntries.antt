-- What entries say of a block before and after a piece is changed, and the changes of several pieces.
use Rattle.zeb_leaves.proofs.Cited.{Has, all_has, ◌≡◌, ◌∙◌, ◌*◌, ◌/◌, ◌+◌, ◌<◌, ◌≤◌, ◌∷◌, ℕ, Option, Some, None, List, [], length, drop, refl, sym, ap, subst, inl, inr, arith, Less, nat_cmp, AllByRecursion, LiesIn, Posting, eqb_tells, Entry, IsEntry, entry_cmp, IsAt, SayPart, SaysPart, HasRecordOf, IsCount, is_less, none_rises, get_or, drop_more, IsUtf8, entry_with, BlockChange, HasPostings, IsPiece, LacksTurn, TurnAllEntries, TurnsEntries, block_of, some_count, one_say, one_entry, packed_leaves, units_of, IsStorableChange, KeyUnits, TurnsPlaces, TurnsUnit, TurnsUnits, KeyChanges, RecordChange}
use Rattle.std.specs.List.Sorted.{IsStrictlySortedBy}
use Rattle.std.specs.Prelude.{◌^◌}
use Rattle.zeb_leaf.specs.declared.merging.NewBlock.{NewBlock}

-- ---- what entries say of a block

pub said_by : (entries : List Entry) (term : List ℕ) (block : ℕ) (part : List Posting) (e : Entry) → IsStrictlySortedBy entry_cmp entries → Has entries e → IsAt term block e
    → SaysPart e part → SayPart entries term block part
said_by entries term block part e up here at says = record {
  said = λ d has is. subst (λ (x : Entry). SaysPart x part) (one_entry entries e d up here has (at.0 ∙ sym is.0) (at.1 ∙ sym is.1)) says;
  there = λ some. (e, here, at);
}

pub said_none : (entries : List Entry) (term : List ℕ) (block : ℕ) → ((e : Entry) → Has entries e → ¬ IsAt term block e) → SayPart entries term block []
said_none entries term block none = record { said = λ e here at. absurd (none e here at); there = λ some. absurd (some refl) }

-- what they say lies in the block
pub said_lies : (entries : List Entry) (term : List ℕ) (block : ℕ) (part : List Posting) → SayPart entries term block part → LiesIn block part
said_lies entries term block [] says = record { rising = none_rises; numbered = tt; inside = tt }
said_lies entries term block (p ∷ part) says =
    let e = says.there (λ none. let is : ◌≡◌ {A = List Posting} (p ∷ part) [] = none in cc) in
    subst (λ b. LiesIn b (p ∷ part)) e.2.1 (says.said e.0 e.1 e.2).spelled.lies

-- ---- changes of records, one after the other

pub turned_unit : (change : RecordChange) (old new : List Posting) → TurnsPlaces change old new → TurnsUnit packed_leaves change (units_of old 0) (units_of new 0)
turned_unit change old new turns = record { found = turns.found; put = turns.put; kept = turns.kept; count = tt }

-- units with the same places can be turned in the same way
abbrev pub CanTurn : List RecordChange → KeyUnits → Type 0
CanTurn changes were = (are : KeyUnits) × TurnsUnits packed_leaves changes were are

pub can_from : (changes : List RecordChange) (one two : KeyUnits) → ((n : ℕ) → two.places n ≡ one.places n) → CanTurn changes one → CanTurn changes two
can_from [] one two same can = (two, ((λ n. refl), refl))
can_from (change ∷ changes) one two same can = (can.0, (can.1.0, from, can.1.2))
  where
    from : TurnsUnit packed_leaves change two can.1.0
    from = record { found = same change.sysno ∙ can.1.1.found; put = can.1.1.put; kept = λ n other. can.1.1.kept n other ∙ sym (same n); count = tt }

-- a change comes from the same units to the same places
pub same_turned : (change : RecordChange) (old mid new : KeyUnits) → TurnsUnit packed_leaves change old mid → TurnsUnit packed_leaves change old new → (n : ℕ) → new.places n ≡ mid.places n
same_turned change old mid new left right n = elim (eqb_tells n change.sysno) [
  | inl same ↦ subst (λ m. new.places m ≡ mid.places m) (sym same.1) (right.put ∙ sym left.put)
  | inr other ↦ right.kept n other.1 ∙ sym (left.kept n other.1)
]

-- ---- what is put

pub puts_said : (term : List ℕ) (block : ℕ) (next : List Posting) (new : Option NewBlock) → HasPostings block next new → SayPart (entry_with term block new) term block next
puts_said term block next None none = subst (SayPart [] term block) (sym none) (said_none [] term block (λ e here. absurd here))
puts_said term block next (Some new) has = record {
  said = λ e here at. elim here [
    | inl same ↦ subst (λ (d : Entry). SaysPart d next) (sym same) (record { spelled = has.0; counted = has.1 })
    | inr none ↦ absurd none
  ];
  there = λ some. (record { term = term; block = block; records = new.records; bytes = new.bytes }, inl refl, (refl, refl));
}

-- rising numbers from one on and below another
few_between : (ns : List ℕ) (low most : ℕ) → IsStrictlySortedBy nat_cmp ns → ((n : ℕ) → Has ns n → (low ≤ n) × (n < most)) → low ≤ most → low + length ns ≤ most
unfolding IsStrictlySortedBy
few_between [] low most up between few = omega (arith, few)
few_between (n ∷ ns) low most up between few =
    let first = between n (inl refl) in
    let rest = few_between ns (n + 1) most up.1 (λ m h. let above : n < m = is_less n m (all_has (λ z. nat_cmp n z ≡ Less) ns m up.0 h) in (omega (arith, above), (between m (inr h)).1)) (omega (arith, first.1)) in
    omega (arith, first.0, rest)

-- a block has at most 256 records
few_records : (block : ℕ) (list : List Posting) (records : ℕ) → LiesIn block list → IsCount (HasRecordOf list) records → records ≤ 256
few_records block list records lies count =
    let all = few_between count.numbers (256 * block) (256 * block + 256) count.rising (λ n h.
    let p = (count.each n).0 h in
    let at : p.0.sysno / 256 ≡ block = all_has (λ (q : Posting). q.sysno / 256 ≡ block) list p.0 lies.inside p.1 in
    (omega (arith, at, p.2), omega (arith, at, p.2))) (omega arith) in
    omega (arith, all, count.count_is)

pub puts_entries : (term : List ℕ) (block : ℕ) (next : List Posting) (new : Option NewBlock) → IsUtf8 term → length term < 2 ^ 64 → block < 2 ^ 56 → HasPostings block next new
    → AllByRecursion IsEntry (entry_with term block new)
puts_entries term block next None text long small has = tt
puts_entries term block [] (Some new) text long small has = absurd (has.0.some refl)
puts_entries term block (p ∷ next) (Some new) text long small has = (
  record {
    text = text;
    term = long;
    block = small;
    records = (some_count (HasRecordOf (p ∷ next)) new.records p.sysno has.1 (p, inl refl, refl), few_records block (p ∷ next) new.records has.0.lies has.1);
    bytes = has.2;
  },
  tt,
)

-- ---- a piece

-- the block of changes that can be stored is small
pub small_block : (changes : List RecordChange) → AllByRecursion IsStorableChange changes → block_of changes < 2 ^ 56
small_block [] stored = omega arith
small_block (change ∷ changes) stored = omega (arith, stored.0.sysno.1)

-- what entries say of a block is what they say of that of the piece, where it is this one
pub said_at : (entries : List Entry) (piece : KeyChanges) (term : List ℕ) (block : ℕ) (part : List Posting) → term ≡ piece.key.now.term → block ≡ block_of piece.changes.now
    → SayPart entries term block part → SayPart entries piece.key.now.term (block_of piece.changes.now) part
said_at entries piece term block part is at said = subst (λ t. SayPart entries t (block_of piece.changes.now) part) is (subst (λ b. SayPart entries term b part) at said)

pub entries_turned : (entries : List Entry) (piece : KeyChanges) (part next : List Posting) (term : List ℕ) (block : ℕ) (new : Option NewBlock) → term ≡ piece.key.now.term
    → block ≡ block_of piece.changes.now → IsPiece piece → IsUtf8 term → length term < 2 ^ 64
    → SayPart entries piece.key.now.term (block_of piece.changes.now) part → TurnsUnits packed_leaves piece.changes.now (units_of part 0) (units_of next 0) → HasPostings block next new
    → TurnsEntries entries piece (record { term = term; block = block; new = new })
entries_turned entries piece part next term block new is at are text long said turns has = record {
  part = part;
  next = next;
  said = said;
  turns = turns;
  term = is;
  block = at;
  puts_next = puts_said term block next new has;
  each = puts_entries term block next new text long (subst (λ b. b < 2 ^ 56) (sym at) (small_block piece.changes.now are.stored)) has;
}

-- where what entries say can't be turned so, nothing that they say can
pub lacks_turn : (entries : List Entry) (piece : KeyChanges) (part : List Posting) → SayPart entries piece.key.now.term (block_of piece.changes.now) part → ((are : KeyUnits) → ¬ TurnsUnits packed_leaves piece.changes.now (units_of part 0) are)
    → LacksTurn entries piece
lacks_turn entries piece part said never other also are turns =
    never are (subst (λ (l : List Posting). TurnsUnits packed_leaves piece.changes.now (units_of l 0) are) (one_say entries piece.key.now.term (block_of piece.changes.now) other part also said) turns)

-- ---- several pieces

-- the change of the next piece, and those of the pieces behind it
pub turn_next : (entries : List Entry) (pieces : List KeyChanges) (i : ℕ) (piece : KeyChanges) (change : BlockChange) (more : List BlockChange) → i < length pieces
    → piece ≡ get_or pieces i piece → TurnsEntries entries piece change → TurnAllEntries entries (drop (i + 1) pieces) more
    → TurnAllEntries entries (drop i pieces) (change ∷ more)
turn_next entries pieces i piece change more within is turns all =
    let here : drop i pieces ≡ piece ∷ drop (i + 1) pieces = drop_more pieces i piece within ∙ ap (λ x. x ∷ drop (i + 1) pieces) (sym is) in
    subst (λ l. TurnAllEntries entries l (change ∷ more)) (sym here) (change, more, refl, turns, all)
