-- Sets with the same leaves say the same, and of a key those do that agree on the leaf that covers it.
use Rattle.zeb_register.proofs.Cited.{Row, ◌↔◌, ℕ, List, inl, inr, Posting, Entry, Covers, HasEntriesAt, LacksEntriesAt, leaf_key, IsLeafAlone}
use Rattle.zeb_register.specs.Readings.{IsEntryOf, IsPartMalformed, LacksSum, PartReads, SumsRecords}

-- the same leaves cover the key, and where one set has a leaf so has the other
pub record AgreeAt (L M : Row → Type 0) (key : Row) : Type 0 where
  pub covers : (leaf : Row) → Covers L key leaf ↔ Covers M key leaf
  pub some : ((leaf : Row) × L leaf) ↔ ((leaf : Row) × M leaf)

pub agree_back : (L M : Row → Type 0) (key : Row) → AgreeAt L M key → AgreeAt M L key
agree_back L M key agree = record {
  covers = λ leaf. ((agree.covers leaf).1, (agree.covers leaf).0);
  some = (agree.some.1, agree.some.0);
}

-- ---- one block

module _ (L M : Row → Type 0) (term : List ℕ) (block : ℕ) (agree : AgreeAt L M (leaf_key term block)) where
  pub entries_there : (entries : List Entry) → HasEntriesAt L (leaf_key term block) entries → HasEntriesAt M (leaf_key term block) entries
  entries_there entries at = record {
    shown = λ leaf covers. at.shown leaf ((agree.covers leaf).1 covers);
    covered = elim at.covered [ inl it ↦ inl (it.0, (agree.covers it.0).0 it.1) | inr none ↦ inr (none.0, λ leaf there. (let it = agree.some.1 (leaf, there) in none.1 it.0 it.1)) ];
  }

  pub lacks_there : LacksEntriesAt L (leaf_key term block) → LacksEntriesAt M (leaf_key term block)
  lacks_there (inl it) = inl (it.0, (agree.covers it.0).0 it.1, it.2)
  lacks_there (inr it) = let some = agree.some.0 (it.0, it.1) in inr (some.0, some.1, λ leaf covers. it.2 leaf ((agree.covers leaf).1 covers))

  pub part_there : (part : List Posting) → PartReads L term block part → PartReads M term block part
  part_there part reads = (reads.0, entries_there reads.0 reads.1, reads.2)

  pub malformed_there : IsPartMalformed L term block → IsPartMalformed M term block
  malformed_there (inl lacks) = inl (lacks_there lacks)
  malformed_there (inr it) = inr (it.0, it.1, (agree.covers it.0).0 it.2, it.3, it.4)

-- ---- all blocks of a term

module _ (L M : Row → Type 0) (term : List ℕ) (agree : (block : ℕ) → AgreeAt L M (leaf_key term block)) where
  entry_there : (e : Entry) → IsEntryOf L term e ↔ IsEntryOf M term e
  entry_there e = (
    λ is. (is.0, is.1, is.2, ((agree e.block).covers is.1).0 is.3, is.4, is.5),
    λ is. (is.0, is.1, is.2, ((agree e.block).covers is.1).1 is.3, is.4, is.5),
  )

  pub sums_there : (records : ℕ) → SumsRecords L term records → SumsRecords M term records
  sums_there records sums = record {
    whole = λ block. (let it = sums.whole block in (it.0, entries_there L M term block (agree block) it.0 it.1));
    own = sums.own;
    rising = sums.rising;
    each = λ e. (λ h. (entry_there e).0 ((sums.each e).0 h), λ is. (sums.each e).1 ((entry_there e).1 is));
    sum = sums.sum;
  }

  pub lacks_sum_there : LacksSum L term → LacksSum M term
  lacks_sum_there lacks = (lacks.0, lacks_there L M term lacks.0 (agree lacks.0) lacks.1)

-- ---- sets with the same leaves

module _ (L M : Row → Type 0) (so : (leaf : Row) → L leaf ↔ M leaf) where
  covers_so : (key leaf : Row) → Covers L key leaf → Covers M key leaf
  covers_so key leaf covers = record {
    is = (so leaf).0 covers.is;
    up_to = covers.up_to;
    greatest = λ other there. covers.greatest other ((so other).1 there);
  }

  covers_back : (key leaf : Row) → Covers M key leaf → Covers L key leaf
  covers_back key leaf covers = record {
    is = (so leaf).1 covers.is;
    up_to = covers.up_to;
    greatest = λ other there. covers.greatest other ((so other).0 there);
  }

  agree_so : (key : Row) → AgreeAt L M key
  agree_so key = record {
    covers = λ leaf. (covers_so key leaf, covers_back key leaf);
    some = (λ it. (it.0, (so it.0).0 it.1), λ it. (it.0, (so it.0).1 it.1));
  }

  pub part_so : (term : List ℕ) (block : ℕ) (part : List Posting) → PartReads L term block part → PartReads M term block part
  part_so term block = part_there L M term block (agree_so (leaf_key term block))

  pub alone_so : (leaf : Row) → IsLeafAlone L leaf → IsLeafAlone M leaf
  alone_so leaf alone = record {
    entries = alone.entries;
    shown = alone.shown;
    within = λ e here. covers_so _ leaf (alone.within e here);
    small = alone.small;
  }
