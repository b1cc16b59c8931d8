-- Leaves that have the same entry of a block as others: what these say of it they say, and count it as these.
use Rattle.zeb_leaves.proofs.Cited.{Row, Has, ◌↔◌, ℕ, List, [], refl, sym, subst, inl, inr, Posting, Entry, Covers, HasEntriesAt, LacksEntriesAt, leaf_key, IsAt, IsEntryOf, IsPartMalformed, LacksSum, PartReads, SayPart, SumsRecords, AreDistinct, lacks_none, one_entries, leaf_there}
use Rattle.zeb_leaves.proofs.MergedSayings.{same_says}
use Rattle.zeb_leaves.proofs.OneCover.{entries_at}

-- two lists have the same entries of the block
abbrev pub HaveAlike : List ℕ → ℕ → List Entry → List Entry → Type 0
HaveAlike term block one two = (e : Entry) → IsAt term block e → Has one e ↔ Has two e

-- where the one has entries at a key, the other has such as have the same of it, and where the one lacks them the other does
pub record Takes (One Two : Row → Type 0) (term : List ℕ) (block : ℕ) : Type 0 where
  pub has : (entries : List Entry) → HasEntriesAt One (leaf_key term block) entries → (others : List Entry) × HasEntriesAt Two (leaf_key term block) others × HaveAlike term block entries others
  pub lacks : LacksEntriesAt One (leaf_key term block) → LacksEntriesAt Two (leaf_key term block)

-- both have entries at the key
pub takes_by : (One Two : Row → Type 0) (term : List ℕ) (block : ℕ) (own others : List Entry) → HasEntriesAt One (leaf_key term block) own → HasEntriesAt Two (leaf_key term block) others → HaveAlike term block own others → Takes One Two term block
takes_by One Two term block own others at also alike = record {
  has = λ entries has. (others, also, subst (λ (l : List Entry). HaveAlike term block l others) (one_entries One (leaf_key term block) own entries at has) alike);
  lacks = λ lacks. absurd (lacks_none One (leaf_key term block) own lacks at);
}

-- the same leaves
covers_so : (L M : Row → Type 0) → ((leaf : Row) → L leaf ↔ M leaf) → (key leaf : Row) → Covers L key leaf → Covers M key leaf
covers_so L M so key leaf covers = record { is = (so leaf).0 covers.is; up_to = covers.up_to; greatest = λ other there. covers.greatest other ((so other).1 there) }

module _ (L M : Row → Type 0) (so : (leaf : Row) → L leaf ↔ M leaf) (term : List ℕ) (block : ℕ) where
  abbrev key : Row
  key = leaf_key term block

  back : (leaf : Row) → Covers M key leaf → Covers L key leaf
  back = covers_so M L (λ leaf. ((so leaf).1, (so leaf).0)) key

  at_so : (entries : List Entry) → HasEntriesAt L key entries → HasEntriesAt M key entries
  at_so entries at = record {
    shown = λ leaf covers. at.shown leaf (back leaf covers);
    covered = elim at.covered [ inl it ↦ inl (it.0, covers_so L M so key it.0 it.1) | inr none ↦ inr (none.0, λ leaf there. none.1 leaf ((so leaf).1 there)) ];
  }

  pub takes_so : Takes L M term block
  takes_so = record {
    has = λ entries at. (entries, at_so entries at, λ e is. (λ h. h, λ h. h));
    lacks = λ lacks. elim lacks [
      | inl it ↦ inl (it.0, covers_so L M so key it.0 it.1, it.2)
      | inr it ↦ inr (it.0, (so it.0).0 it.1, λ leaf covers. it.2 leaf (back leaf covers))
    ];
  }

-- ---- one block

module _ (One Two : Row → Type 0) (term : List ℕ) (block : ℕ) (takes : Takes One Two term block) where
  pub part_taken : (part : List Posting) → PartReads One term block part → PartReads Two term block part
  part_taken part reads =
      let it = takes.has reads.0 reads.1 in
      (it.0, it.1, (same_says reads.0 it.0 term block (λ e is. (it.2 e is).0) (λ e is. (it.2 e is).1) part).0 reads.2)

  pub malformed_taken : AreDistinct One → IsPartMalformed One term block → IsPartMalformed Two term block
  malformed_taken one (inl lacks) = inl (takes.lacks lacks)
  malformed_taken one (inr bad) = elim it.1.covered [
    | inl cover ↦ inr (cover.0, it.0, cover.1, it.1.shown cover.0 cover.1, none)
    | inr gone ↦ absurd (none [] (subst (λ (l : List Entry). SayPart l term block []) (sym gone.0) (record { said = λ e here is. absurd here; there = λ some. absurd (some refl) })))
  ]
    where
      it : (others : List Entry) × HasEntriesAt Two (leaf_key term block) others × HaveAlike term block bad.1 others
      it = takes.has bad.1 (entries_at One one.shaped one.one (leaf_key term block) bad.0 bad.1 bad.2 bad.3)

      none : (part : List Posting) → ¬ SayPart it.0 term block part
      none part says = bad.4 part ((same_says bad.1 it.0 term block (λ e is. (it.2 e is).0) (λ e is. (it.2 e is).1) part).1 says)

-- ---- a term, all of whose blocks are so

pub entry_taken : (One Two : Row → Type 0) → AreDistinct One → (term : List ℕ) → ((block : ℕ) → Takes One Two term block) → (e : Entry) → IsEntryOf One term e → IsEntryOf Two term e
entry_taken One Two one term takes e is =
    let key = leaf_key term e.block in
    let it = (takes e.block).has is.2 (entries_at One one.shaped one.one key is.1 is.2 is.3 is.4) in
    let here = (it.2 e (is.0, refl)).0 is.5 in
    let cover = leaf_there Two key it.0 e here it.1 in
    (is.0, cover.0, it.0, cover.1, it.1.shown cover.0 cover.1, here)

module _ (One Two : Row → Type 0) (term : List ℕ) (takes : (block : ℕ) → Takes One Two term block) where
  -- its entries are the same ones, spread over other leaves perhaps, and so is their sum
  pub sum_taken : AreDistinct One → AreDistinct Two → ((block : ℕ) → Takes Two One term block) → (records : ℕ) → SumsRecords One term records → SumsRecords Two term records
  sum_taken one two back records sums = record {
    whole = λ block. let w = sums.whole block in let it = (takes block).has w.0 w.1 in (it.0, it.1);
    own = sums.own;
    rising = sums.rising;
    each = λ e. (λ h. entry_taken One Two one term takes e ((sums.each e).0 h), λ is. (sums.each e).1 (entry_taken Two One two term back e is));
    sum = sums.sum;
  }

  pub lacks_taken : LacksSum One term → LacksSum Two term
  lacks_taken lacks = (lacks.0, (takes lacks.0).lacks lacks.1)
