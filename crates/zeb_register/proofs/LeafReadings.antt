-- What leaves say of a term they say in one way, and not where they are malformed.
use Rattle.zeb_register.proofs.Cited.{Row, Blob, ◌≡◌, ◌∙◌, ◌⊎◌, ℕ, List, [], ◌∷◌, length, sum_by, refl, sym, ap, subst, inl, inr, nat_cmp_total, nat_list_cmp_total, IsTotalOrder, on_total, then_total, Posting, entry_cmp, Entry, Covers, HasEntriesAt, LacksEntriesAt, ShowsEntries, leaf_key, IsPartMalformed, LacksSum, PartReads, SayPart, SaysPart, SumsRecords}
use Rattle.zeb_leaf.proofs.Walked.{empty_leaf, leaf_spells, same_list as one_leaf_list}
use Rattle.zeb_leaf.specs.Leaves.{IsLeaf}
use Rattle.zeb_leaf.specs.Walks.{first_place}
use Rattle.zeb_register.proofs.PackedLemmas.{one_spelled}
use Rattle.zeb_register.proofs.RisingLists.{same_list}

pub entries_total : IsTotalOrder entry_cmp
entries_total = then_total (on_total (λ (e : Entry). e.term) nat_list_cmp_total) (on_total (λ (e : Entry). e.block) nat_cmp_total)

-- ---- a leaf has one list of entries

shown_once : (bytes : List ℕ) (one two : List Entry) → (IsLeaf bytes one ⊎ ((bytes ≡ []) × (one ≡ []))) → (IsLeaf bytes two ⊎ ((bytes ≡ []) × (two ≡ []))) → one ≡ two
shown_once bytes one two (inl left) (inl right) = one_leaf_list first_place bytes one two (leaf_spells bytes one left) (leaf_spells bytes two right)
shown_once bytes one two (inl left) (inr none) = absurd (empty_leaf bytes (ap length none.0) one left)
shown_once bytes one two (inr none) (inl right) = absurd (empty_leaf bytes (ap length none.0) two right)
shown_once bytes one two (inr left) (inr right) = left.1 ∙ sym right.1

pub one_shown : (leaf : Row) (one two : List Entry) → ShowsEntries leaf one → ShowsEntries leaf two → one ≡ two
one_shown leaf one two left right =
    let b : Blob left.0 ≡ Blob right.0 = sym left.1 ∙ right.1 in
    let bytes : right.0 ≡ left.0 = cc in
    shown_once left.0 one two left.2 (subst (λ (d : List ℕ). IsLeaf d two ⊎ ((d ≡ []) × (two ≡ []))) bytes right.2)

-- ---- bytes and entries say one list of postings

pub one_said : (e : Entry) (one two : List Posting) → SaysPart e one → SaysPart e two → one ≡ two
one_said e one two left right = one_spelled e.block e.bytes one two left.spelled right.spelled

pub one_say : (entries : List Entry) (term : List ℕ) (block : ℕ) (one two : List Posting) → SayPart entries term block one → SayPart entries term block two → one ≡ two
one_say entries term block [] [] left right = refl
one_say entries term block (p ∷ one) two left right = let e = left.there (λ none. cc) in one_said e.0 (p ∷ one) two (left.said e.0 e.1 e.2) (right.said e.0 e.1 e.2)
one_say entries term block [] (q ∷ two) left right = let e = right.there (λ none. cc) in one_said e.0 [] (q ∷ two) (left.said e.0 e.1 e.2) (right.said e.0 e.1 e.2)

module _ (Leaves : Row → Type 0) where
  -- ---- a key has one list of entries, and none where it lacks them

  entries_by : (key : Row) (one two : List Entry) → HasEntriesAt Leaves key one → HasEntriesAt Leaves key two → ((leaf : Row) × Covers Leaves key leaf) ⊎ ((one ≡ []) × ((leaf : Row) → ¬ Leaves leaf))
      → ((leaf : Row) × Covers Leaves key leaf) ⊎ ((two ≡ []) × ((leaf : Row) → ¬ Leaves leaf)) → one ≡ two
  entries_by key one two left right (inl it) other = one_shown it.0 one two (left.shown it.0 it.1) (right.shown it.0 it.1)
  entries_by key one two left right (inr none) (inl it) = absurd (none.1 it.0 it.1.is)
  entries_by key one two left right (inr none) (inr also) = none.0 ∙ sym also.0

  pub one_entries : (key : Row) (one two : List Entry) → HasEntriesAt Leaves key one → HasEntriesAt Leaves key two → one ≡ two
  one_entries key one two left right = entries_by key one two left right left.covered right.covered

  pub lacks_none : (key : Row) (entries : List Entry) → LacksEntriesAt Leaves key → HasEntriesAt Leaves key entries → ⊥
  lacks_none key entries (inl it) has = it.2 entries (has.shown it.0 it.1)
  lacks_none key entries (inr it) has = elim has.covered [ inl other ↦ it.2 other.0 other.1 | inr none ↦ none.1 it.0 it.1 ]

  -- ---- a block reads in one way, and not where it is malformed

  pub one_part_read : (term : List ℕ) (block : ℕ) (one two : List Posting) → PartReads Leaves term block one → PartReads Leaves term block two → one ≡ two
  one_part_read term block one two left right =
      let same = one_entries (leaf_key term block) right.0 left.0 right.1 left.1 in
      one_say left.0 term block one two left.2 (subst (λ (entries : List Entry). SayPart entries term block two) same right.2)

  pub part_unread : (term : List ℕ) (block : ℕ) (part : List Posting) → IsPartMalformed Leaves term block → PartReads Leaves term block part → ⊥
  part_unread term block part (inl lacks) reads = lacks_none (leaf_key term block) reads.0 lacks reads.1
  part_unread term block part (inr it) reads =
      let same = one_shown it.0 reads.0 it.1 (reads.1.shown it.0 it.2) it.3 in
      it.4 part (subst (λ (entries : List Entry). SayPart entries term block part) same reads.2)

  -- ---- a term has one count, and none where a leaf lacks entries

  pub one_records_sum : (term : List ℕ) (one two : ℕ) → SumsRecords Leaves term one → SumsRecords Leaves term two → one ≡ two
  one_records_sum term one two left right =
      let same = same_list entries_total left.own right.own left.rising right.rising (λ e h. (right.each e).1 ((left.each e).0 h)) (λ e h. (left.each e).1 ((right.each e).0 h)) in
      left.sum ∙ ap (sum_by (λ (e : Entry). e.records)) same ∙ sym right.sum

  pub lacks_sum : (term : List ℕ) (records : ℕ) → LacksSum Leaves term → SumsRecords Leaves term records → ⊥
  lacks_sum term records lacks sums = let it = sums.whole lacks.0 in lacks_none (leaf_key term lacks.0) it.0 lacks.1 it.1
