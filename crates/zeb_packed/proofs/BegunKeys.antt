-- The rows that changes make of a key which has none, block by block.
use Rattle.zeb_packed.proofs.Cited.{packed_blocks, ◌≡◌, ◌≢◌, ◌∙◌, ◌/◌, ◌++◌, ◌<◌, ◌≤◌, ℕ, ℤ, List, [], ◌∷◌, map, refl, sym, ap, ap₂, subst, inl, inr, arith, Has, has_either, has_right, AllByRecursion, Row, Trees, HasRow, blocks_tree, dict_tree, Posting, Key, block_row, dict_row, IsUtf8, TurnsBlock, TurnsBlocks, AllowsBlocks, AllowsBlock, units_of, BlockReads, CountsAs, places_in, IsStorableChange, KeyUnits, LacksBlock, NumbersRise, PutsUnits, RecordChange, TurnsUnits, one_block_read, Known, AreApart, AreLacking, BeginsBlocks, BeginsKey, GainsAll, LeavesPlaces, SpellsNew, new_block_row, new_count_row, NewBlock, NewCount, NewRows}
use Rattle.zeb_packed.proofs.HeldTables.{block_is, block_of}
use Rattle.zeb_packed.proofs.KeyCounts.{count_told}
use Rattle.zeb_packed.proofs.PackedReads.{lacks_reads}
use Rattle.zeb_packed.proofs.UnitRuns.{first_least, lacks_each, lacks_so}

-- ---- changes that leave places

has_places : (n : ℕ) (list : List Posting) → places_in n list ≢ [] → list ≢ []
has_places n [] some none = some refl
has_places n (p ∷ list) some none = cc

-- some record has places then, and one is counted
pub places_left : (run : List RecordChange) (a b : KeyUnits) → run ≢ [] → AllByRecursion LeavesPlaces run → TurnsUnits packed_blocks run a b → ((n : ℕ) × (b.places n ≢ [])) × (1 ≤ b.records)
places_left [] a b some leaves turns = absurd (some refl)
places_left (x ∷ []) a b some leaves turns =
    let n = x.sysno in
    let put : turns.0.places n ≢ [] = λ none. leaves.0 (sym turns.1.put ∙ none) in
    ((n, λ none. put (sym (turns.2.0 n) ∙ none)), subst (λ r. 1 ≤ r) (sym turns.2.1) (turns.1.count.has n refl put))
places_left (x ∷ y ∷ run) a b some leaves turns = places_left (y ∷ run) turns.0 b (λ none. cc) leaves.1 turns.2

pub list_left : (run : List RecordChange) (a : KeyUnits) (list : List Posting) (records : ℕ) → run ≢ [] → AllByRecursion LeavesPlaces run → TurnsUnits packed_blocks run a (units_of list records) → list ≢ []
list_left run a list records some leaves turns =
    let it = (places_left run a (units_of list records) some leaves turns).0 in has_places it.0 list it.1

-- ---- the row of one block

module _ (db : ℤ) (key : Key) (block : ℕ) (old now : Trees) where
  -- a block that no row is of lacks one beside rows of other blocks too
  pub lacks_beside : (blocks : List NewBlock) → GainsAll (map (new_block_row db) blocks) blocks_tree old now → ((one : NewBlock) → Has blocks one → one.block ≢ block) → LacksBlock db key block old → LacksBlock db key block now
  lacks_beside blocks gains other lacks row there in_it = elim ((gains row).0 there) [
    | inl was ↦ lacks row was in_it
    | inr put ↦ let it = block_of db blocks row put in other it.0 it.1 (sym (block_is db key it.0.key.now block it.0.block row it.0.bytes.items in_it it.2).1)
  ]

  pub block_turned : (one : NewBlock) (run : List RecordChange) (records after : ℕ) → one.key.now ≡ key → one.block ≡ block → SpellsNew block run records after one.bytes.items → GainsAll (map (new_block_row db) (one ∷ [])) blocks_tree old now
      → LacksBlock db key block old → TurnsBlock db key block run records after old now
  block_turned one run records after own number new gains lacks = record {
    part = [];
    next = new.list;
    reads = lacks_reads old db key block lacks;
    turns = new.turns;
    lies = new.spells.lies;
    row = λ row. (
      λ h. elim ((gains row).0 h) [
        | inl was ↦ inl (was, λ in_it. lacks row was in_it)
        | inr put ↦ elim put [ inl is ↦ inr (one.bytes.items, new.spells, is ∙ same) | inr none ↦ absurd none ]
      ],
      λ h. (gains row).1 (elim h [
        | inl was ↦ inl was.0
        | inr it ↦ inr (inl (it.2 ∙ ap (block_row db key block) (it.1.spelled ∙ sym new.spells.spelled) ∙ sym same))
      ]),
    );
  }
    where
      same : new_block_row db one ≡ block_row db key block one.bytes.items
      same = ap₂ (λ (k : Key) (b : ℕ). block_row db k b one.bytes.items) own number

-- ---- without a row more

module _ (db : ℤ) (key : Key) (changes : List RecordChange) (These : ℕ → Type 0) (records : ℕ) (old now : Trees) (gains : GainsAll [] blocks_tree old now) where
  was_there : (row : Row) → HasRow now blocks_tree row → HasRow old blocks_tree row
  was_there row h = elim ((gains row).0 h) [ inl was ↦ was | inr none ↦ absurd none ]

  block_was : (block : ℕ) (part : List Posting) → BlockReads now db key block part → BlockReads old db key block part
  block_was block part reads = record {
    spelled = λ row of. reads.spelled row ((gains _).1 (inl of.0), of.1);
    there = λ some. let it = reads.there some in (it.0, (was_there _ it.1.0, it.1.1));
  }

  block_still : (block : ℕ) (part : List Posting) → BlockReads old db key block part → BlockReads now db key block part
  block_still block part reads = record {
    spelled = λ row of. reads.spelled row (was_there _ of.0, of.1);
    there = λ some. let it = reads.there some in (it.0, ((gains _).1 (inl it.1.0), it.1.1));
  }

  pub turns_back : (after : ℕ) (end : Trees) → TurnsBlocks db key changes These records after now end → TurnsBlocks db key changes These records after old end
  turns_back after end turned = record {
    were = turned.were;
    are = turned.are;
    found = λ n it. let reads = turned.found n it in (reads.0, block_was (n / 256) reads.0 reads.1, reads.2);
    put = turned.put;
    turns = turned.turns;
    lacks = lacks_so db key These changes now old (λ b is lack row there. lack row ((gains row).1 (inl there))) turned.lacks;
    rows = record {
      stays = λ row not_it there. turned.rows.stays row not_it ((gains row).1 (inl there));
      comes = λ row there. elim (turned.rows.comes row there) [ inl was ↦ inl (was_there row was.0, was.1) | inr put ↦ inr put ];
    };
  }

  pub allows_still : AllowsBlocks db key changes These records old → AllowsBlocks db key changes These records now
  allows_still allows = record {
    were = allows.were;
    are = allows.are;
    found = λ n it. let reads = allows.found n it in (reads.0, block_still (n / 256) reads.0 reads.1, reads.2);
    turns = allows.turns;
    lacks = lacks_so db key These changes old now (λ b is lack row there. lack row (was_there row there)) allows.lacks;
  }

-- where the block has no row, what its row allows is what no postings allow
pub none_allows : (db : ℤ) (key : Key) (block : ℕ) (run : List RecordChange) (records : ℕ) (trees : Trees) → LacksBlock db key block trees → AllowsBlock db key block run records trees
    → (are : KeyUnits) × TurnsUnits packed_blocks run (units_of [] records) are
none_allows db key block run records trees lacks allows =
    let same = one_block_read trees db key block allows.0 [] allows.2 (lacks_reads trees db key block lacks) in
    (allows.1, subst (λ l. TurnsUnits packed_blocks run (units_of l records) allows.1) same allows.3)

-- ---- blocks that rise

-- the first change, if there is one, is of a record of this block or of one behind it
abbrev pub IsFrom : ℕ → List RecordChange → Type 0
IsFrom low [] = Unit {0}
IsFrom low (change ∷ changes) = low ≤ change.sysno / 256

pub from_none : (low : ℕ) (changes : List RecordChange) → low ≡ 0 → IsFrom low changes
from_none low [] none = tt
from_none low (x ∷ changes) none = omega (arith, none)

module _ (block low : ℕ) (run rest : List RecordChange) (some : run ≢ []) (inside : (change : RecordChange) → Has run change → change.sysno / 256 ≡ block) (from : IsFrom low (run ++ rest)) where
  pub run_from : low ≤ block
  run_from = of run some inside from
    where
      of : (l : List RecordChange) → l ≢ [] → ((change : RecordChange) → Has l change → change.sysno / 256 ≡ block) → IsFrom low (l ++ rest) → low ≤ block
      of [] some inside from = absurd (some refl)
      of (x ∷ l) some inside from = omega (arith, from, inside x (inl refl))

  pub next_from : (next : ℕ) → NumbersRise (run ++ rest) → ((y : RecordChange) (ys : List RecordChange) → rest ≡ y ∷ ys → y.sysno / 256 ≢ block) → ((b : ℕ) → low ≤ b → block < b → next ≤ b) → IsFrom next rest
  next_from next rise whole most = of run rest some inside rise whole
    where
      of : (l r : List RecordChange) → l ≢ [] → ((change : RecordChange) → Has l change → change.sysno / 256 ≡ block) → NumbersRise (l ++ r) → ((y : RecordChange) (ys : List RecordChange) → r ≡ y ∷ ys → y.sysno / 256 ≢ block) → IsFrom next r
      of [] r some inside rise whole = absurd (some refl)
      of (x ∷ l) [] some inside rise whole = tt
      of (x ∷ l) (y ∷ ys) some inside rise whole =
          let here : x.sysno / 256 ≡ block = inside x (inl refl) in
          let least : x.sysno ≤ y.sysno = first_least x (l ++ y ∷ ys) rise y (has_right l (y ∷ ys) y (inl refl)) in
          let other : y.sysno / 256 ≢ block = whole y ys refl in
          let above : block < y.sysno / 256 = omega (arith, here, least, other) in
          most (y.sysno / 256) (omega (arith, run_from, above)) above

-- ---- rows that are apart

pub apart_joined : (one two : List NewBlock) → AreApart one → AreApart two → ((x y : NewBlock) → Has one x → Has two y → ¬ ((y.key.now ≡ x.key.now) × (y.block ≡ x.block))) → AreApart (one ++ two)
apart_joined [] two first second cross = second
apart_joined (x ∷ one) two first second cross = (
  λ y here. elim (has_either one two y here) [ inl left ↦ first.0 y left | inr right ↦ cross x y (inl refl) right ],
  apart_joined one two first.1 second (λ z y left right. cross z y (inr left) right),
)

-- ---- the rows of the key

module _ (key : Key) (changes : List RecordChange) (known : Known) (blocks : List NewBlock) (after : ℕ) (text : IsUtf8 key.term) (stored : AllByRecursion IsStorableChange changes) (rise : NumbersRise changes)
    (leaves : AllByRecursion LeavesPlaces changes) (some : changes ≢ []) (none : known.records ≡ 0) (clear : known.clear_from ≡ 0) (begun : BeginsBlocks key changes known blocks after) (count : NewCount) (own : count.key.now ≡ key) (is_after : count.records ≡ after) where
  units_begun : (db : ℤ) (old new : Trees) → CountsAs old db key 0 → AreLacking db blocks old → GainsAll (map (new_block_row db) blocks) blocks_tree old new → GainsAll (map (new_count_row db) (count ∷ [])) dict_tree old new
      → new 7 ≡ old 7 → (new 0 ≡ old 0) × (new 2 ≡ old 2) × (new 4 ≡ old 4) → PutsUnits packed_blocks db key changes old new
  units_begun db old new counts lacking rows dict postings lists = record {
    text = text;
    stored = stored;
    were = record { places = one.were; records = 0 };
    are = record { places = one.are; records = after };
    allowed = record {
      count = record { is = counts; lacks = λ zero block touch. lacks_each db key (λ b. known.clear_from ≤ b) changes old rise one.lacks block touch (omega (arith, clear)) };
      found = one.found;
      turns = turns;
    };
    put = one.put;
    rows = record {
      blocks = one.rows;
      dict = λ row. (
        λ h. elim ((dict row).0 h) [
          | inl was ↦ inl (was, count_told old db key 0 counts row was)
          | inr put ↦ elim put [ inl is ↦ inr (counted, is ∙ same) | inr none ↦ absurd none ]
        ],
        λ h. (dict row).1 (elim h [ inl was ↦ inl was.0 | inr it ↦ inr (inl (it.1 ∙ sym same)) ]),
      );
      postings = postings;
    };
    lists = lists;
  }
    where
      one : TurnsBlocks db key changes (λ b. known.clear_from ≤ b) known.records after old new
      one = begun.turns db old new lacking rows

      turns : TurnsUnits packed_blocks changes (record { places = one.were; records = 0 }) (record { places = one.are; records = after })
      turns = subst (λ r. TurnsUnits packed_blocks changes (record { places = one.were; records = r }) (record { places = one.are; records = after })) none one.turns

      counted : after ≢ 0
      counted zero = let least = (places_left changes (record { places = one.were; records = 0 }) (record { places = one.are; records = after }) some leaves turns).1 in absurd (omega (arith, least, zero))

      same : new_count_row db count ≡ dict_row db key after
      same = ap₂ (λ (k : Key) (r : ℕ). dict_row db k r) own is_after

  -- these and one row of `dict`
  pub key_begun : (made : NewRows) → made.blocks.items ≡ blocks → made.counts.items ≡ count ∷ [] → BeginsKey key changes made
  key_begun made blocks_are counts_are = record {
    stored = stored;
    apart = subst AreApart (sym blocks_are) begun.apart;
    own = λ one here. begun.own one (subst (λ (l : List NewBlock). Has l one) blocks_are here);
    counts = λ one here. elim (subst (λ (l : List NewCount). Has l one) counts_are here) [ inl is ↦ ap (λ (c : NewCount). c.key.now) is ∙ own | inr none ↦ absurd none ];
    puts = λ db old new lacks lacking gains. units_begun db old new lacks (λ one here. lacking one (subst (λ (l : List NewBlock). Has l one) (sym blocks_are) here))
        (subst (λ (l : List NewBlock). GainsAll (map (new_block_row db) l) blocks_tree old new) blocks_are gains.blocks) (subst (λ (l : List NewCount). GainsAll (map (new_count_row db) l) dict_tree old new) counts_are gains.dict) gains.postings gains.lists;
  }
