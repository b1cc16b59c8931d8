-- A leaf whose place others take: they cover what it covered, and each other key is covered as before.
use Rattle.zeb_leaves.proofs.Cited.{Row, row_cmp, Has, ◌≡◌, ◌≢◌, ◌↔◌, ◌⊎◌, ◌∙◌, ◌∷◌, ℕ, List, [], refl, sym, ap, subst, inl, inr, false, Less, Greater, Posting, Entry, Covers, HasEntriesAt, IsUpTo, LacksEntriesAt, leaf_key, own_key, IsLeafAlone, IsPartMalformed, PartReads, SayPart, IsAt, nat_cmp, slice_cmp, is_lt, AreDistinct, ArePartedFrom, BeginsLeaves, ReplacesLeaf}
use Rattle.zeb_leaves.proofs.OneCover.{entries_at, same_key, up_to_then}
use Rattle.zeb_leaves.proofs.PartedLeaves.{Found, From, find, key_at, less_is_up, owns, parts_from, parts_keys}
use Rattle.zeb_leaves.proofs.SpanRuns.{below_or, flipped_back, from_term, up_itself}

-- ---- a block that one of them covers

module _ (New : Row → Type 0) where
  module _ (term : List ℕ) (block : ℕ) (leaves : List Row) (entries : List Entry) (it : Found (leaf_key term block) leaves entries) (covers : Covers New (leaf_key term block) it.leaf) where
    key_is : (e : Entry) → IsAt term block e → key_at e ≡ leaf_key term block
    key_is e at = λ i. leaf_key (at.0 i) (at.1 i)

    say_own : (part : List Posting) → SayPart entries term block part → SayPart it.own term block part
    say_own part says = record {
      said = λ e here at. says.said e (it.from e here) at;
      there = λ some. let one = says.there some in (one.0, it.has one.0 (key_is one.0 one.2) one.1, one.2);
    }

    say_all : (part : List Posting) → SayPart it.own term block part → SayPart entries term block part
    say_all part says = record {
      said = λ e here at. says.said e (it.has e (key_is e at) here) at;
      there = λ some. let one = says.there some in (one.0, it.from one.0 one.1, one.2);
    }

    pub found_malformed : ((part : List Posting) → ¬ SayPart entries term block part) → IsPartMalformed New term block
    found_malformed none = inr (it.leaf, it.own, covers, it.shown, λ part says. none part (say_all part says))

  pub found_reads : (new : AreDistinct New) (term : List ℕ) (block : ℕ) (leaves : List Row) (entries : List Entry) (it : Found (leaf_key term block) leaves entries) → Covers New (leaf_key term block) it.leaf
      → (part : List Posting) → SayPart entries term block part → PartReads New term block part
  found_reads new term block leaves entries it covers part says = (
    it.own,
    entries_at New new.shaped new.one (leaf_key term block) it.leaf it.own covers it.shown,
    say_own term block leaves entries it covers part says,
  )

-- ---- a leaf is replaced

module _ (Old New : Row → Type 0) (was : Row) (entries : List Entry) (by : ReplacesLeaf Old New was entries) where
  from_was : From (own_key was) entries
  from_was e here = (by.within e here).up_to

  abbrev news : List Row
  news = by.first ∷ by.more

  first_key : own_key by.first ≡ own_key was
  first_key = of by.more by.parts
    where
      of : (more : List Row) → ArePartedFrom (own_key was) by.first more entries → own_key by.first ≡ own_key was
      of [] parts = parts.own_is
      of (next ∷ more) parts = parts.4.own_is

  -- the new leaves aren't below the old one
  over_was : (leaf : Row) → Has news leaf → row_cmp (own_key was) (own_key leaf) ≢ Greater
  over_was = parts_from (own_key was) by.first by.more entries by.parts from_was

  -- what the old leaf covered, one of the new ones covers
  module _ (key : Row) (covers : Covers Old key was) where
    pub found : Found key news entries
    found = find key (own_key was) by.first by.more entries by.parts by.rising from_was covers.up_to

    pub found_covers : Covers New key found.leaf
    found_covers = record {
      is = (by.rows found.leaf).1 (inr found.is);
      up_to = found.up_to;
      greatest = λ other there up. elim ((by.rows other).0 there) [
        | inl old ↦ up_to_then (own_key other) (own_key was) (own_key found.leaf) (covers.greatest other old.0 up) (over_was found.leaf found.is)
        | inr new ↦ found.greatest other new up
      ];
    }

  -- each other leaf covers what it covered
  module _ (old : AreDistinct Old) where
    own_is : (leaf : Row) (there : Old leaf) → own_key leaf ≡ leaf_key (old.shaped leaf there).0 (old.shaped leaf there).1
    own_is leaf there = ap own_key (old.shaped leaf there).3

    -- two old leaves that are up to each other have one key
    level : (x y : Row) → Old x → Old y → row_cmp (own_key x) (own_key y) ≢ Greater → row_cmp (own_key y) (own_key x) ≢ Greater → own_key x ≡ own_key y
    level x y here there low up =
        let a = old.shaped x here in
        let b = old.shaped y there in
        own_is x here ∙ same_key a.0 b.0 a.1 b.1
        (λ above. low (ap (λ (k : Row). row_cmp k (own_key y)) (own_is x here) ∙ ap (row_cmp (leaf_key a.0 a.1)) (own_is y there) ∙ above))
        (λ above. up (ap (λ (k : Row). row_cmp k (own_key x)) (own_is y there) ∙ ap (row_cmp (leaf_key b.0 b.1)) (own_is x here) ∙ above))
        ∙ sym (own_is y there)

    -- a new leaf isn't above an old one that the old one is up to
    under : (leaf : Row) → Old leaf → own_key leaf ≢ own_key was → row_cmp (own_key was) (own_key leaf) ≢ Greater → (new : Row) → Has news new → row_cmp (own_key new) (own_key leaf) ≢ Greater
    under leaf there other low new here = elim (parts_keys (own_key was) by.first by.more entries by.parts new here) [
      | inl same ↦ subst (λ (k : Row). row_cmp k (own_key leaf) ≢ Greater) (sym same) low
      | inr it ↦ elim (below_or (key_at it.0) (own_key leaf)) [
        | inl below ↦ subst (λ (k : Row). row_cmp k (own_key leaf) ≢ Greater) (sym it.2) (less_is_up (key_at it.0) (own_key leaf) below)
        | inr over ↦ absurd (other (level leaf was there by.is ((by.within it.0 it.1).greatest leaf there over) low))
      ]
    ]

    pub still_covers : (key leaf : Row) → Covers Old key leaf → own_key leaf ≢ own_key was → Covers New key leaf
    still_covers key leaf covers other = record {
      is = (by.rows leaf).1 (inl (covers.is, other));
      up_to = covers.up_to;
      greatest = λ one there up. elim ((by.rows one).0 there) [
        | inl also ↦ covers.greatest one also.0 up
        | inr new ↦
            let low = covers.greatest was by.is (up_to_then (own_key was) (own_key one) key (over_was one new) up) in
            under leaf covers.is other low one new
      ];
    }

  -- an old leaf has the key of the one that is replaced, or it is a new leaf
  key_or_new : (other : Row) → Old other → ((row_cmp (own_key other) (own_key was) ≢ Greater) × (row_cmp (own_key was) (own_key other) ≢ Greater)) ⊎ New other
  key_or_new other there = elim (below_or (own_key was) (own_key other)) [
    | inl above ↦ inr ((by.rows other).1 (inl (there, λ same. not_itself (own_key was) (own_key other) above (sym same))))
    | inr low ↦ elim (below_or (own_key other) (own_key was)) [
      | inl below ↦ inr ((by.rows other).1 (inl (there, λ same. not_itself (own_key other) (own_key was) below same)))
      | inr high ↦ inl (low, high)
    ]
  ]
    where
      not_itself : (x y : Row) → row_cmp x y ≡ Less → x ≡ y → ⊥
      not_itself x y less same = up_itself x (subst (λ (r : Row). row_cmp r x ≡ Greater) (sym same) (flipped_back x y less))

  pub first_new : New by.first
  first_new = (by.rows by.first).1 (inr (inl refl))

  -- and no other leaf covers more
  pub covered_before : (key leaf : Row) → Covers New key leaf → Covers Old key leaf ⊎ Covers Old key was
  covered_before key leaf covers = elim ((by.rows leaf).0 covers.is) [
    | inl old ↦ inl record { is = old.0; up_to = covers.up_to; greatest = stays }
    | inr new ↦ inr record { is = by.is; up_to = up_to_then (own_key was) (own_key leaf) key (over_was leaf new) covers.up_to; greatest = before new }
  ]
    where
      stays : (other : Row) → Old other → IsUpTo key other → IsUpTo (own_key leaf) other
      stays other there up = elim (key_or_new other there) [
        | inr new ↦ covers.greatest other new up
        | inl level ↦
            let low = up_to_then (own_key was) (own_key other) key level.1 up in
            let first = covers.greatest by.first first_new (subst (λ (k : Row). row_cmp k key ≢ Greater) (sym first_key) low) in
            up_to_then (own_key other) (own_key was) (own_key leaf) level.0 (subst (λ (k : Row). row_cmp k (own_key leaf) ≢ Greater) first_key first)
      ]

      before : Has news leaf → (other : Row) → Old other → IsUpTo key other → IsUpTo (own_key was) other
      before new other there up = elim (key_or_new other there) [
        | inl level ↦ level.0
        | inr also ↦
            let low = covers.greatest other also up in
            elim (parts_keys (own_key was) by.first by.more entries by.parts leaf new) [
              | inl same ↦ subst (λ (k : Row). row_cmp (own_key other) k ≢ Greater) same low
              | inr it ↦ (by.within it.0 it.1).greatest other there (subst (λ (k : Row). row_cmp (own_key other) k ≢ Greater) it.2 low)
            ]
      ]

  -- the blocks that it covered
  module _ (new : AreDistinct New) (term : List ℕ) (block : ℕ) (covers : Covers Old (leaf_key term block) was) where
    pub own_reads : (part : List Posting) → SayPart entries term block part → PartReads New term block part
    own_reads = found_reads New new term block news entries (found (leaf_key term block) covers) (found_covers (leaf_key term block) covers)

    pub own_malformed : ((part : List Posting) → ¬ SayPart entries term block part) → IsPartMalformed New term block
    own_malformed = found_malformed New term block news entries (found (leaf_key term block) covers) (found_covers (leaf_key term block) covers)

  -- ---- each other block

  module _ (old : AreDistinct Old) (key : Row) (beside : ¬ Covers Old key was) where
    other_key : (leaf : Row) → Covers Old key leaf → own_key leaf ≢ own_key was
    other_key leaf covers same = beside (subst (Covers Old key) (old.one leaf was covers.is by.is same) covers)

    covers_still : (leaf : Row) → Covers Old key leaf → Covers New key leaf
    covers_still leaf covers = still_covers old key leaf covers (other_key leaf covers)

    covers_back : (leaf : Row) → Covers New key leaf → Covers Old key leaf
    covers_back leaf covers = elim (covered_before key leaf covers) [ inl before ↦ before | inr is ↦ absurd (beside is) ]

    pub entries_stay : (list : List Entry) → HasEntriesAt Old key list → HasEntriesAt New key list
    entries_stay list at = record {
      shown = λ leaf covers. at.shown leaf (covers_back leaf covers);
      covered = elim at.covered [ inl it ↦ inl (it.0, covers_still it.0 it.1) | inr none ↦ absurd (none.1 was by.is) ];
    }

    pub entries_before : (list : List Entry) → HasEntriesAt New key list → HasEntriesAt Old key list
    entries_before list at = record {
      shown = λ leaf covers. at.shown leaf (covers_still leaf covers);
      covered = elim at.covered [ inl it ↦ inl (it.0, covers_back it.0 it.1) | inr none ↦ absurd (none.1 by.first first_new) ];
    }

    pub lacks_still : LacksEntriesAt Old key → LacksEntriesAt New key
    lacks_still (inl it) = inl (it.0, covers_still it.0 it.1, it.2)
    lacks_still (inr it) = inr (by.first, first_new, λ leaf covers. it.2 leaf (covers_back leaf covers))

    pub lacks_before : LacksEntriesAt New key → LacksEntriesAt Old key
    lacks_before (inl it) = inl (it.0, covers_back it.0 it.1, it.2)
    lacks_before (inr it) = inr (was, by.is, λ leaf covers. it.2 leaf (covers_still leaf covers))

  module _ (old : AreDistinct Old) (term : List ℕ) (block : ℕ) (beside : ¬ Covers Old (leaf_key term block) was) where
    pub part_stays : (part : List Posting) → PartReads Old term block part ↔ PartReads New term block part
    part_stays part = (
      λ reads. (reads.0, entries_stay old (leaf_key term block) beside reads.0 reads.1, reads.2),
      λ reads. (reads.0, entries_before old (leaf_key term block) beside reads.0 reads.1, reads.2),
    )

    still_malformed : IsPartMalformed Old term block → IsPartMalformed New term block
    still_malformed (inl lacks) = inl (lacks_still old (leaf_key term block) beside lacks)
    still_malformed (inr it) = inr (it.0, it.1, covers_still old (leaf_key term block) beside it.0 it.2, it.3, it.4)

    malformed_before : IsPartMalformed New term block → IsPartMalformed Old term block
    malformed_before (inl lacks) = inl (lacks_before old (leaf_key term block) beside lacks)
    malformed_before (inr it) = inr (it.0, it.1, covers_back old (leaf_key term block) beside it.0 it.2, it.3, it.4)

    pub malformed_stays : IsPartMalformed Old term block ↔ IsPartMalformed New term block
    malformed_stays = (still_malformed, malformed_before)

  -- ---- each leaf covers its entries still

  module _ (old : AreDistinct Old) (alone : (leaf : Row) → Old leaf → IsLeafAlone Old leaf) where
    old_alone : (leaf : Row) → Old leaf → own_key leaf ≢ own_key was → IsLeafAlone New leaf
    old_alone leaf there other =
        let it = alone leaf there in
        record { entries = it.entries; shown = it.shown; within = λ e here. still_covers old (key_at e) leaf (it.within e here) other; small = it.small }

    new_alone : (leaf : Row) → Has news leaf → IsLeafAlone New leaf
    new_alone leaf here =
        let it = owns (own_key was) by.first by.more entries by.parts by.rising from_was leaf here in
        record {
          entries = it.own;
          shown = it.part.shown;
          within = λ e mine. record {
            is = (by.rows leaf).1 (inr here);
            up_to = it.up_to e mine;
            greatest = λ other there up. elim ((by.rows other).0 there) [
              | inl before ↦ up_to_then (own_key other) (own_key was) (own_key leaf) ((by.within e (it.from e mine)).greatest other before.0 up) (over_was leaf here)
              | inr new ↦ it.greatest e mine other new up
            ];
          };
          small = it.part.small;
        }

    pub alone_stays : (leaf : Row) → New leaf → IsLeafAlone New leaf
    alone_stays leaf there = elim ((by.rows leaf).0 there) [ inl stays ↦ old_alone leaf stays.0 stays.1 | inr new ↦ new_alone leaf new ]

-- ---- a register that had no leaf

least_up : (term : List ℕ) (block : ℕ) → row_cmp (leaf_key [] 0) (leaf_key term block) ≢ Greater
least_up term block = from_term [] term block (none_below term)
  where
    none_below : (term : List ℕ) → is_lt (slice_cmp nat_cmp term []) ≡ false
    none_below [] = refl
    none_below (x ∷ term) = refl

module _ (New : Row → Type 0) (entries : List Entry) (by : BeginsLeaves New entries) where
  abbrev firsts : List Row
  firsts = by.first ∷ by.more

  from_least : From (leaf_key [] 0) entries
  from_least e here = least_up e.term e.block

  module _ (term : List ℕ) (block : ℕ) where
    pub first_found : Found (leaf_key term block) firsts entries
    first_found = find (leaf_key term block) (leaf_key [] 0) by.first by.more entries by.parts by.rising from_least (least_up term block)

    pub first_covers : Covers New (leaf_key term block) first_found.leaf
    first_covers = record {
      is = (by.rows first_found.leaf).1 first_found.is;
      up_to = first_found.up_to;
      greatest = λ other there up. first_found.greatest other ((by.rows other).0 there) up;
    }

    pub first_reads : AreDistinct New → (part : List Posting) → SayPart entries term block part → PartReads New term block part
    first_reads new = found_reads New new term block firsts entries first_found first_covers

    pub first_malformed : ((part : List Posting) → ¬ SayPart entries term block part) → IsPartMalformed New term block
    first_malformed = found_malformed New term block firsts entries first_found first_covers

  pub first_alone : (leaf : Row) → New leaf → IsLeafAlone New leaf
  first_alone leaf there =
      let it = owns (leaf_key [] 0) by.first by.more entries by.parts by.rising from_least leaf ((by.rows leaf).0 there) in
      record {
        entries = it.own;
        shown = it.part.shown;
        within = λ e mine. record { is = there; up_to = it.up_to e mine; greatest = λ other also up. it.greatest e mine other ((by.rows other).0 also) up };
        small = it.part.small;
      }
