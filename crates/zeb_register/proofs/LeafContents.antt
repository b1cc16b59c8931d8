-- Tables hold a content in leaves just where each unit reads as it says, and no row and no entry stands beside.
use Rattle.zeb_register.proofs.Cited.{Row, column, ◌↔◌, Trees, Int, Has, ◌≡◌, ◌∙◌, ◌++◌, ◌∷◌, ◌/◌, ℕ, ℤ, pos, List, [], map, refl, sym, ap, subst, inl, inr, arith, nat_eq, Posting, Key, Content, HasRisingLists, posted, posting_cmp, HasKey, IsCount, part_in, register_front, KeepsRegisters, LacksRegisters, Place, all_has, ◌*◌, Entry, places_in, AreLeavesAlone, HoldsLeaves, IsLeafAlone, AreLeavesMiscounted, AreLeavesWhole, HasMalformedLeaf, IsLeafMalformed, IsLeafOf, LeavesCount, LeavesRead, LeavesReadBlock, HasRecordOf, PartReads, SaysPart}
use Rattle.zeb_register.proofs.BlockUnits.{none_rises}
use Rattle.zeb_register.proofs.ContentChanges.{posting_total}
use Rattle.zeb_register.proofs.CountLemmas.{count_so}
use Rattle.zeb_register.proofs.KeyPlaces.{in_place, own_part, place_in, place_of}
use Rattle.zeb_register.proofs.OccurringLemmas.{key_posted}
use Rattle.zeb_register.proofs.PackedLemmas.{in_part, not_empty, part_in_block, part_in_list}
use Rattle.zeb_register.proofs.RisingLists.{kept_rises, same_list}
use Rattle.zeb_register.proofs.TermsAmong.{records_count}
use Rattle.std.specs.List.Sorted.{IsStrictlySortedBy}
use Rattle.zeb_register.proofs.LeafReadings.{lacks_sum, one_part_read, one_records_sum, part_unread}
use Rattle.zeb_register.proofs.LeafSums.{records_summed}

-- ---- one reading, one count

pub one_unit : (trees : Trees) (db : ℤ) (key : Key) (sysno : ℕ) (one two : List Place) → LeavesRead trees db key sysno one → LeavesRead trees db key sysno two → one ≡ two
one_unit trees db key sysno one two left right =
    left.2 ∙ ap (places_in sysno) (one_part_read (IsLeafOf trees db key) key.term (sysno / 256) left.0 right.0 left.1 right.1) ∙ sym right.2

pub unit_unread : (trees : Trees) (db : ℤ) (key : Key) (sysno : ℕ) (places : List Place) → IsLeafMalformed trees db key sysno → ¬ LeavesRead trees db key sysno places
unit_unread trees db key sysno places bad reads = part_unread (IsLeafOf trees db key) key.term (sysno / 256) reads.0 bad reads.1

pub one_leaf_count : (trees : Trees) (db : ℤ) (key : Key) (one two : ℕ) → LeavesCount trees db key one → LeavesCount trees db key two → one ≡ two
one_leaf_count trees db key = one_records_sum (IsLeafOf trees db key) key.term

pub leaf_uncounted : (trees : Trees) (db : ℤ) (key : Key) (records : ℕ) → AreLeavesMiscounted trees db key → ¬ LeavesCount trees db key records
leaf_uncounted trees db key = lacks_sum (IsLeafOf trees db key) key.term

pub whole_sound : (trees : Trees) (db : ℤ) (key : Key) → AreLeavesWhole trees db key → ¬ HasMalformedLeaf trees db key
whole_sound trees db key whole bad = let it = whole bad.0 in part_unread (IsLeafOf trees db key) key.term bad.0 it.0 bad.1 it.1

-- ---- one content

posting_too : (trees : Trees) (one two : Content) → HoldsLeaves trees one → HoldsLeaves trees two → (db : ℤ) (key : Key) (p : Posting) → Has (one db key) p → Has (two db key) p
posting_too trees one two left right db key p here =
    let block = p.sysno / 256 in
    let same = one_part_read (IsLeafOf trees db key) key.term block (part_in block (one db key)) (part_in block (two db key)) (left.reads db key block) (right.reads db key block) in
    part_in_list block (two db key) p (subst (λ (l : List Posting). Has l p) same (in_part block (one db key) p here refl))

pub leaves_hold_one : (trees : Trees) (one two : Content) → HoldsLeaves trees one → HoldsLeaves trees two → one ≡ two
leaves_hold_one trees one two left right = λ i db key. same db key i
  where
    same : (db : ℤ) (key : Key) → one db key ≡ two db key
    same db key = same_list posting_total (one db key) (two db key) (left.rising db key) (right.rising db key) (posting_too trees one two left right db key) (posting_too trees two one right left db key)

-- ---- the tables of the registers tell it

-- the leaves of a register in a table
abbrev leaf_in : ℤ → Key → List Row → Row → Type 0
leaf_in db key table row = ((id : ℤ) × Has table (Int id ∷ (register_front db key.index key.register ++ row))) × (block : ℕ) × (column row 1 ≡ Int (pos block))

pub leaves_stay : (old new : Trees) (content : Content) → KeepsRegisters old new → HoldsLeaves old content → HoldsLeaves new content
leaves_stay old new content kept holds = record {
  rising = holds.rising;
  reads = λ db key block. subst (λ (table : List Row). PartReads (leaf_in db key table) key.term block (part_in block (content db key))) (sym kept.1) (holds.reads db key block);
  alone = record {
    blocks = λ row there. holds.alone.blocks row (there.0, subst (λ (table : List Row). Has table (Int there.0 ∷ row)) kept.1 there.1);
    leaves = λ db key leaf.
        subst (λ (table : List Row). leaf_in db key table leaf → IsLeafAlone (leaf_in db key table) leaf) (sym kept.1) (holds.alone.leaves db key leaf);
    alone = (kept.0 ∙ holds.alone.alone.0, kept.2 ∙ holds.alone.alone.1);
  };
}

-- a register without a leaf reads as no postings
pub none_reads : (Leaves : Row → Type 0) → ((leaf : Row) → ¬ Leaves leaf) → (term : List ℕ) (block : ℕ) → PartReads Leaves term block []
none_reads Leaves none term block = (
  [],
  record { shown = λ leaf covers. absurd (none leaf covers.is); covered = inr (refl, none) },
  record { said = λ e here at. absurd here; there = λ some. absurd (some refl) },
)

-- tables without a row hold no posting
pub leaves_empty : (trees : Trees) → LacksRegisters trees → HoldsLeaves trees (λ db key. [])
unfolding IsStrictlySortedBy
leaves_empty trees none = record {
  rising = λ db key. tt;
  reads = λ db key. none_reads (IsLeafOf trees db key) (no_leaf db key) key.term;
  alone = record {
    blocks = λ row there. absurd (subst (λ (table : List Row). Has table (Int there.0 ∷ row)) none.1 there.1);
    leaves = λ db key leaf there. absurd (no_leaf db key leaf there);
    alone = (none.0, none.2);
  };
}
  where
    no_leaf : (db : ℤ) (key : Key) (leaf : Row) → ¬ IsLeafOf trees db key leaf
    no_leaf db key leaf there = subst (λ (table : List Row). Has table (Int there.0.0 ∷ (register_front db key.index key.register ++ leaf))) none.1 there.0.1

-- ---- the units and the counts of what is held

module _ (trees : Trees) (content : Content) where
  pub held_unit : HoldsLeaves trees content → (db : ℤ) (key : Key) (sysno : ℕ) → LeavesRead trees db key sysno (places_in sysno (content db key))
  held_unit holds db key sysno = (part_in (sysno / 256) (content db key), holds.reads db key (sysno / 256), ap (map place_of) (own_part sysno (content db key)))

  pub held_whole : HoldsLeaves trees content → (db : ℤ) (key : Key) → AreLeavesWhole trees db key
  held_whole holds db key block = (part_in block (content db key), holds.reads db key block)

  list_counted : HoldsLeaves trees content → (db : ℤ) (key : Key) (records : ℕ) → IsCount (HasRecordOf (content db key)) records → LeavesCount trees db key records
  list_counted holds db key = records_summed (IsLeafOf trees db key) key.term (content db key) (holds.reads db key)

  -- a key's count is the content's
  pub held_count : HoldsLeaves trees content → (db : ℤ) (key : Key) (records : ℕ) → LeavesCount trees db key records ↔ IsCount (HasKey (posted content db) key) records
  held_count holds db key records = (
    λ counts.
        let same = one_leaf_count trees db key _ records (list_counted holds db key _ (records_count (content db key))) counts in
        subst (IsCount (HasKey (posted content db) key)) same (count_so _ (HasKey (posted content db) key) _ (λ n. ((key_posted content db key n).1, (key_posted content db key n).0)) (records_count (content db key))),
    λ count. list_counted holds db key records (count_so (HasKey (posted content db) key) _ records (key_posted content db key) count),
  )

  -- ---- and back

  module _ (rising : HasRisingLists content) (units : (db : ℤ) (key : Key) (sysno : ℕ) → LeavesRead trees db key sysno (places_in sysno (content db key))) (db : ℤ) (key : Key) (block : ℕ) where
    abbrev list : List Posting
    list = content db key

    unit : LeavesRead trees db key (256 * block) (places_in (256 * block) list)
    unit = units db key (256 * block)

    number : (256 * block) / 256 ≡ block
    number = omega arith

    reads : LeavesReadBlock trees db key block unit.0
    reads = subst (λ b. LeavesReadBlock trees db key b unit.0) number unit.1

    says_so : (p : Posting) → Has unit.0 p → (e : Entry) × SaysPart e unit.0 × (e.block ≡ block)
    says_so p here =
        let e = reads.2.there (not_empty unit.0 p here) in
        (e.0, reads.2.said e.0 e.1 e.2, e.2.1)

    near : (p : Posting) → Has unit.0 p → p.sysno / 256 ≡ block
    near p here =
        let it = says_so p here in
        all_has (λ (q : Posting). q.sysno / 256 ≡ it.0.block) unit.0 p it.1.spelled.lies.inside here ∙ it.2

    -- the places of a record of the block
    places : (n : ℕ) → n / 256 ≡ block → places_in n list ≡ places_in n unit.0
    places n in_it =
        let other = units db key n in
        let here : LeavesReadBlock trees db key block other.0 = subst (λ b. LeavesReadBlock trees db key b other.0) in_it other.1 in
        other.2 ∙ ap (places_in n) (one_part_read (IsLeafOf trees db key) key.term block other.0 unit.0 here reads)

    rises : (part : List Posting) → unit.0 ≡ part → IsStrictlySortedBy posting_cmp unit.0
    rises [] is = subst (IsStrictlySortedBy posting_cmp) (sym is) none_rises
    rises (p ∷ part) is = (says_so p (subst (λ l. Has l p) (sym is) (inl refl))).1.spelled.lies.rising

    same : unit.0 ≡ part_in block list
    same = same_list posting_total unit.0 (part_in block list) (rises unit.0 refl) (kept_rises posting_total (λ q. nat_eq (q.sysno / 256) block) list (rising db key))
        (λ p h. in_part block list p (in_place list p (subst (λ l. Has l (place_of p)) (sym (places p.sysno (near p h))) (place_in unit.0 p h))) (near p h))
        (λ p h. in_place unit.0 p (subst (λ l. Has l (place_of p)) (places p.sysno (part_in_block block list p h)) (place_in list p (part_in_list block list p h))))

    pub block_by_units : LeavesReadBlock trees db key block (part_in block list)
    block_by_units = subst (LeavesReadBlock trees db key block) same reads

  pub held_by_units : HasRisingLists content → ((db : ℤ) (key : Key) (sysno : ℕ) → LeavesRead trees db key sysno (places_in sysno (content db key))) → AreLeavesAlone trees → HoldsLeaves trees content
  held_by_units rising units alone = record { rising = rising; reads = block_by_units rising units; alone = alone }
