-- Putting the postings of a block at the end of a list, one after the other.
use Rattle.zeb_blocks.proofs.Cited.{◌≡◌, ◌≢◌, ◌+◌, ◌/◌, ℕ, ◌<◌, ◌≤◌, List, [], ◌∷◌, ◌++◌, length, refl, sym, ◌∙◌, ap, arith, append_assoc, append-nil, Posting, BlockSpells, gaps_of, start_of, Follows, SpellsFrom, last_from}
use Rattle.zeb_blocks.specs.Blocks.{bytes_of, spelled_from}
use Rattle.zeb_blocks.specs.PrivateRecords.{records_after}
use Rattle.zeb_blocks.specs.Records.{record_count}
use Rattle.zeb_blocks.proofs.CountedRecords.{few_records, one_more}
use Rattle.zeb_blocks.proofs.Counting.{IsReadUpTo, counted_damaged, counted_more, counted_none}
use Rattle.zeb_blocks.proofs.Rising.{lies_from}
use Rattle.zeb_blocks.proofs.Steps.{NoPosting}
use Rattle.zeb_blocks.proofs.Taking.{empty_block}

-- a list has grown by the postings that stand before what is left, which are of so many records
pub record IsWalked (start : Posting) (bytes : List ℕ) (old new : List Posting) (last : Posting) (left : List ℕ) (records : ℕ) : Type 0 where
  pub count : ℕ
  pub counted : IsReadUpTo start bytes count last left
  pub pushed : new ≡ old ++ counted.list
  pub of : records ≡ record_count counted.list

pub walked_none : (start : Posting) (bytes : List ℕ) (old : List Posting) → IsWalked start bytes old old start bytes 0
unfolding counted_none record_count
walked_none start bytes old = record { count = 0; counted = counted_none start bytes; pushed = sym (append-nil old); of = refl }

pub walked_more : (start : Posting) (bytes : List ℕ) (old new : List Posting) (last p : Posting) (left behind : List ℕ) (records : ℕ) → IsWalked start bytes old new last left records → Follows last p
    → left ≡ bytes_of (gaps_of last p) ++ behind → IsWalked start bytes old (new ++ p ∷ []) p behind (records_after records last.sysno p.sysno)
unfolding counted_more
walked_more start bytes old new last p left behind records so_far next is = record {
  count = _;
  counted = counted_more start bytes so_far.count last p left behind so_far.counted next is;
  pushed = ap (λ (l : List Posting). l ++ p ∷ []) so_far.pushed ∙ append_assoc old so_far.counted.list (p ∷ []);
  of = rw (so_far.of, ← so_far.counted.end) (sym (one_more start p so_far.counted.list));
}

-- each posting has a byte at least, and each record a posting
pub walked_few : (start : Posting) (bytes : List ℕ) (old new : List Posting) (last : Posting) (left : List ℕ) (records : ℕ) → IsWalked start bytes old new last left records → records + length left ≤ length bytes
walked_few start bytes old new last left records so_far = omega (arith, so_far.of, few_records so_far.counted.list, so_far.counted.counted, so_far.counted.room)

-- where nothing is left, the bytes spell what was put there
pub walked_all : (start : Posting) (bytes : List ℕ) (old new : List Posting) (last : Posting) (left : List ℕ) (records : ℕ) → IsWalked start bytes old new last left records → length left ≡ 0
    → (list : List Posting) × SpellsFrom start list bytes × (last_from start list ≡ last) × (records ≡ record_count list) × (new ≡ old ++ list)
walked_all start bytes old new last (byte ∷ left) records all none = absurd (omega arith)
walked_all start bytes old new last [] records all none =
    let it = all.counted in
    (it.list, record { follow = it.follow; spelled = it.spelled ∙ append-nil (spelled_from start it.list) }, it.end, all.of, all.pushed)

pub walked_damaged : (start : Posting) (bytes : List ℕ) (old new : List Posting) (last : Posting) (left : List ℕ) (records : ℕ) → IsWalked start bytes old new last left records → 0 < length left → NoPosting last left
    → (list : List Posting) → ¬ SpellsFrom start list bytes
walked_damaged start bytes old new last left records so_far = counted_damaged start bytes so_far.count last left so_far.counted

-- ---- a whole block

some_postings : (start : Posting) (list : List Posting) (bytes : List ℕ) → SpellsFrom start list bytes → length bytes ≢ 0 → list ≢ []
unfolding spelled_from
some_postings start [] bytes spells some none = some (ap length spells.spelled)
some_postings start (p ∷ list) bytes spells some none = cc

pub block_spelled : (block : ℕ) (list : List Posting) (bytes : List ℕ) → SpellsFrom (start_of block) list bytes → length bytes ≢ 0 → (last_from (start_of block) list).sysno / 256 ≡ block → BlockSpells block list bytes
block_spelled block list bytes spells some inside = record {
  some = some_postings (start_of block) list bytes spells some;
  lies = lies_from block list spells.follow inside;
  spelled = spells.spelled;
}

-- no bytes spell no list
pub nothing_spelled : (block : ℕ) (bytes : List ℕ) → length bytes ≡ 0 → (list : List Posting) → ¬ BlockSpells block list bytes
unfolding spelled_from
nothing_spelled block [] none = empty_block block [] record { follow = tt; spelled = refl }
nothing_spelled block (byte ∷ bytes) none = absurd (omega arith)
