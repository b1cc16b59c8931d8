-- The leaves of a register of which others have the place of one, or which are its first: what each block of the register is before and after,
-- where the entries of the one are merged with changes.
use Rattle.zeb_leaves.proofs.Cited.{Row, ◌≡◌, ◌↔◌, ◌⊎◌, ◌∷◌, ℕ, List, [], refl, sym, subst, inl, inr, Posting, Entry, Covers, HasEntriesAt, LacksEntriesAt, leaf_key, own_key, IsLeafAlone, PartReads, SayPart, Contains, AreMerged, BlockChange, AreDistinct, BeginsLeaves, ReplacesLeaf, one_entries}
use Rattle.zeb_leaves.proofs.AlikeEntries.{HaveAlike, Takes, takes_by}
use Rattle.zeb_leaves.proofs.MergedSayings.{same_says, still_have}
use Rattle.zeb_leaves.proofs.OneCover.{entries_at, up_to_then}
use Rattle.zeb_leaves.proofs.PartedLeaves.{Found, not_up}
use Rattle.zeb_leaves.proofs.PutTables.{OwnsEntries}
use Rattle.zeb_leaves.proofs.ReplacedLeaves.{alone_stays, covered_before, entries_before, entries_stay, first_alone, first_covers, first_found, first_new, first_reads, found, found_covers, lacks_before, lacks_still, own_reads}
use Rattle.zeb_leaves.proofs.SpanRuns.{below_or}

-- no change is of the block
abbrev pub IsFree : List BlockChange → List ℕ → ℕ → Type 0
IsFree changes term block = (c : BlockChange) → Contains changes c → ¬ ((c.term ≡ term) × (c.block ≡ block))

-- A block of which the entries are changed reads as the old ones say before, and as the new ones say after. Each that no change is of has the
-- same entry before and after.
pub record TurnsLeaves (Old New : Row → Type 0) (Own : List ℕ → ℕ → Type 0) (changes : List BlockChange) (own news : List Entry) : Type 0 where
  pub was : (term : List ℕ) (block : ℕ) → Own term block → (part : List Posting) → PartReads Old term block part ↔ SayPart own term block part
  pub is : (term : List ℕ) (block : ℕ) → Own term block → (part : List Posting) → SayPart news term block part → PartReads New term block part
  pub on : (term : List ℕ) (block : ℕ) → IsFree changes term block → Takes Old New term block
  pub back : (term : List ℕ) (block : ℕ) → IsFree changes term block → Takes New Old term block
  pub alone : ((leaf : Row) → Old leaf → IsLeafAlone Old leaf) → (leaf : Row) → New leaf → IsLeafAlone New leaf

-- a key that some leaf covers, a certain one covers or not
told_cover : (Leaves : Row → Type 0) (key leaf was : Row) → Covers Leaves key leaf → Leaves was → Covers Leaves key was ⊎ ¬ Covers Leaves key was
told_cover Leaves key leaf was covers there = elim (below_or (own_key was) (own_key leaf)) [
  | inl less ↦ inr (λ also. not_up (own_key was) (own_key leaf) less (also.greatest leaf covers.is covers.up_to))
  | inr low ↦ elim (below_or key (own_key was)) [
    | inl above ↦ inr (λ also. not_up key (own_key was) above also.up_to)
    | inr up ↦ inl record { is = there; up_to = up; greatest = λ other is below. up_to_then (own_key other) (own_key leaf) (own_key was) (covers.greatest other is below) low }
  ]
]

-- what one of several leaves has of a key
found_alike : (term : List ℕ) (block : ℕ) (leaves : List Row) (entries : List Entry) (it : Found (leaf_key term block) leaves entries) → HaveAlike term block entries it.own
found_alike term block leaves entries it e at = (λ h. it.has e (λ i. leaf_key (at.0 i) (at.1 i)) h, it.from e)

alike_then : (term : List ℕ) (block : ℕ) (one two three : List Entry) → HaveAlike term block one two → HaveAlike term block two three → HaveAlike term block one three
alike_then term block one two three left right e at = (λ h. (right e at).0 ((left e at).0 h), λ h. (left e at).1 ((right e at).1 h))

alike_back : (term : List ℕ) (block : ℕ) (one two : List Entry) → HaveAlike term block one two → HaveAlike term block two one
alike_back term block one two alike e at = ((alike e at).1, (alike e at).0)

-- ---- what a leaf says

module _ (Old : Row → Type 0) (was : Row) (own : List Entry) (old : AreDistinct Old) (owns : OwnsEntries Old was own) (term : List ℕ) (block : ℕ) (covers : Covers Old (leaf_key term block) was) where
  was_at : HasEntriesAt Old (leaf_key term block) owns.shown
  was_at = entries_at Old old.shaped old.one (leaf_key term block) was owns.shown covers owns.shows

  own_alike : HaveAlike term block owns.shown own
  own_alike e at = (
    λ h. (owns.each e).1 (h, subst (λ (k : Row). Covers Old k was) (λ i. leaf_key (sym at.0 i) (sym at.1 i)) covers),
    λ h. ((owns.each e).0 h).0,
  )

  pub own_says : (part : List Posting) → PartReads Old term block part ↔ SayPart own term block part
  own_says part = (
    λ reads.
        let same = one_entries Old (leaf_key term block) reads.0 owns.shown reads.1 was_at in
        (says part).0 (subst (λ (l : List Entry). SayPart l term block part) same reads.2),
    λ said. (owns.shown, was_at, (says part).1 said),
  )
    where
      says : (p : List Posting) → SayPart owns.shown term block p ↔ SayPart own term block p
      says = same_says owns.shown own term block (λ e at. (own_alike e at).0) (λ e at. (own_alike e at).1)

-- where there is no leaf, nothing is said
module _ (Old : Row → Type 0) (none : (leaf : Row) → ¬ Old leaf) (term : List ℕ) (block : ℕ) where
  none_at : HasEntriesAt Old (leaf_key term block) []
  none_at = record { shown = λ leaf covers. absurd (none leaf covers.is); covered = inr (refl, none) }

  pub none_says : (part : List Posting) → PartReads Old term block part ↔ SayPart [] term block part
  none_says part = (
    λ reads. subst (λ (l : List Entry). SayPart l term block part) (one_entries Old (leaf_key term block) reads.0 [] reads.1 none_at) reads.2,
    λ said. ([], none_at, said),
  )

-- ---- a leaf is replaced

module _ (Old New : Row → Type 0) (was : Row) (own news : List Entry) (changes : List BlockChange) (by : ReplacesLeaf Old New was news) (old : AreDistinct Old) (new : AreDistinct New) (owns : OwnsEntries Old was own) (merged : AreMerged changes own news) where
  module _ (term : List ℕ) (block : ℕ) (covers : Covers Old (leaf_key term block) was) where
    abbrev it : Found (leaf_key term block) (by.first ∷ by.more) news
    it = found Old New was news by (leaf_key term block) covers

    abbrev before : HasEntriesAt Old (leaf_key term block) owns.shown
    before = was_at Old was own old owns term block covers

    is_at : HasEntriesAt New (leaf_key term block) it.own
    is_at = entries_at New new.shaped new.one (leaf_key term block) it.leaf it.own (found_covers Old New was news by (leaf_key term block) covers) it.shown

    free_alike : IsFree changes term block → HaveAlike term block owns.shown it.own
    free_alike free =
        alike_then term block owns.shown own it.own (own_alike Old was own old owns term block covers)
        (alike_then term block own news it.own (still_have changes own news merged term block free) (found_alike term block (by.first ∷ by.more) news it))

  abbrev Told : Row → Type 0
  Told key = Covers Old key was ⊎ ¬ Covers Old key was

  told_old : (key : Row) → ((entries : List Entry) → HasEntriesAt Old key entries → Told key) × (LacksEntriesAt Old key → Told key)
  told_old key = (
    λ entries at. elim at.covered [ inl it ↦ told_cover Old key it.0 was it.1 by.is | inr none ↦ absurd (none.1 was by.is) ],
    λ lacks. elim lacks [ inl it ↦ told_cover Old key it.0 was it.1 by.is | inr it ↦ inr (λ covers. it.2 was covers) ],
  )

  told_new : (key : Row) → ((entries : List Entry) → HasEntriesAt New key entries → Told key) × (LacksEntriesAt New key → Told key)
  told_new key = (
    λ entries at. elim at.covered [ inl it ↦ by_new it.0 it.1 | inr none ↦ absurd (none.1 by.first (first_new Old New was news by)) ],
    λ lacks. elim lacks [ inl it ↦ by_new it.0 it.1 | inr it ↦ inr (λ covers. it.2 (found Old New was news by key covers).leaf (found_covers Old New was news by key covers)) ],
  )
    where
      by_new : (leaf : Row) → Covers New key leaf → Told key
      by_new leaf covers = elim (covered_before Old New was news by key leaf covers) [ inl before ↦ told_cover Old key leaf was before by.is | inr is ↦ inl is ]

  module _ (term : List ℕ) (block : ℕ) (free : IsFree changes term block) where
    abbrev key : Row
    key = leaf_key term block

    takes_on : Told key → Takes Old New term block
    takes_on (inl covers) = takes_by Old New term block owns.shown (it term block covers).own (before term block covers) (is_at term block covers) (free_alike term block covers free)
    takes_on (inr beside) = record {
      has = λ entries at. (entries, entries_stay Old New was news by old key beside entries at, λ e is. (λ h. h, λ h. h));
      lacks = lacks_still Old New was news by old key beside;
    }

    takes_back : Told key → Takes New Old term block
    takes_back (inl covers) =
        takes_by New Old term block (it term block covers).own owns.shown (is_at term block covers) (before term block covers)
        (alike_back term block owns.shown (it term block covers).own (free_alike term block covers free))
    takes_back (inr beside) = record {
      has = λ entries at. (entries, entries_before Old New was news by old key beside entries at, λ e is. (λ h. h, λ h. h));
      lacks = lacks_before Old New was news by old key beside;
    }

  pub replaced_turns : TurnsLeaves Old New (λ term block. Covers Old (leaf_key term block) was) changes own news
  replaced_turns = record {
    was = own_says Old was own old owns;
    is = own_reads Old New was news by new;
    on = λ term block free. record {
      has = λ entries at. (takes_on term block free ((told_old (leaf_key term block)).0 entries at)).has entries at;
      lacks = λ lacks. (takes_on term block free ((told_old (leaf_key term block)).1 lacks)).lacks lacks;
    };
    back = λ term block free. record {
      has = λ entries at. (takes_back term block free ((told_new (leaf_key term block)).0 entries at)).has entries at;
      lacks = λ lacks. (takes_back term block free ((told_new (leaf_key term block)).1 lacks)).lacks lacks;
    };
    alone = alone_stays Old New was news by old;
  }

-- ---- a register gets its first leaves

module _ (Old New : Row → Type 0) (news : List Entry) (changes : List BlockChange) (by : BeginsLeaves New news) (none : (leaf : Row) → ¬ Old leaf) (new : AreDistinct New) (merged : AreMerged changes [] news) where
  module _ (term : List ℕ) (block : ℕ) where
    abbrev first : Found (leaf_key term block) (by.first ∷ by.more) news
    first = first_found New news by term block

    first_at : HasEntriesAt New (leaf_key term block) first.own
    first_at = entries_at New new.shaped new.one (leaf_key term block) first.leaf first.own (first_covers New news by term block) first.shown

    none_alike : IsFree changes term block → HaveAlike term block [] first.own
    none_alike free = alike_then term block [] news first.own (still_have changes [] news merged term block free) (found_alike term block (by.first ∷ by.more) news first)

  pub begun_turns : TurnsLeaves Old New (λ term block. Unit {0}) changes [] news
  begun_turns = record {
    was = λ term block own. none_says Old none term block;
    is = λ term block own. first_reads New news by term block new;
    on = λ term block free. takes_by Old New term block [] (first term block).own (none_at Old none term block) (first_at term block) (none_alike term block free);
    back = λ term block free. takes_by New Old term block (first term block).own [] (first_at term block) (none_at Old none term block) (alike_back term block [] (first term block).own (none_alike term block free));
    alone = λ alone leaf there. first_alone New news by leaf there;
  }
