-- Worked registers of two leaves: which of them covers what, and what they say.
use Rattle.zeb_register.proofs.Cited.{Row, row_cmp, Blob, Text, Has, row_cmp_total, ◌≡◌, ◌≢◌, ◌∙◌, ◌⊎◌, ◌∷◌, ◌/◌, ℕ, zero, suc, List, [], length, eqb_tells, refl, sym, ap, subst, inl, inr, arith, Less, Equal, Greater, nat_cmp, slice_cmp, ordering_then, ordering_reverse, tied_itself, codes, Posting, IsCount, part_in, IsUtf8, true, false, lit<, lit≤, IsUtf8-from_is_utf8, IsUtf8-nil, is_utf8-from_IsUtf8, IsEntry, entry_cmp, Entry, Covers, HasEntriesAt, IsUpTo, LacksEntriesAt, ShowsEntries, leaf_key, own_key, IsLeafAlone, HasRecordOf, IsAt, IsPartMalformed, PartReads, SayPart, SaysPart, SumsRecords}
use Rattle.std.specs.Str.{chars, is_utf8}
use Rattle.std.proofs.Math.Utf8.{encode}
use Rattle.zeb_leaf.specs.Leaves.{IsLeaf, leaf_bytes}
use Rattle.zeb_register.proofs.CountLemmas.{count_none, less_is, not_same, one_count}
use Rattle.zeb_register.proofs.PackedLemmas.{one_spelled}
use Rattle.std.specs.List.Sorted.{IsStrictlySortedBy}
use Rattle.zeb_blocks.specs.Worked.{at}
use Rattle.zeb_blocks.proofs.WorkedBlocks.{spelled_next_block, spelled_next_record, spelled_one}
use Rattle.zeb_leaf.specs.Worked.{entry}
use Rattle.zeb_leaf.proofs.WorkedLeaves.{no_cut}
use Rattle.zeb_register.specs.Worked.{cut_leaf, first_entries, first_leaf, leaf, miscounted_leaf, no_text_leaf, second_entries, second_leaf, stray_leaf}
use Rattle.zeb_register.proofs.KeyOrder.{key_order}
use Rattle.zeb_register.proofs.LeafReadings.{one_shown}
use Rattle.zeb_register.proofs.LeafSums.{one_entry, records_summed}

up_to_itself : (leaf : Row) → IsUpTo (own_key leaf) leaf
up_to_itself leaf above = let e : Equal ≡ Greater = sym (tied_itself row_cmp_total (own_key leaf)) ∙ above in cc

-- ---- two leaves, the first with the lower key

module _ (x y : Row) (rises : row_cmp (own_key x) (own_key y) ≡ Less) where
  abbrev Two : Row → Type 0
  Two = Has (x ∷ y ∷ [])

  module _ (key : Row) (over : row_cmp (own_key y) key ≡ Greater) where
    covers_first : IsUpTo key x → Covers Two key x
    covers_first up = record {
      is = inl refl;
      up_to = up;
      greatest = λ other here low. elim here [
        | inl same ↦ subst (λ z. IsUpTo (own_key x) z) (sym same) (up_to_itself x)
        | inr more ↦ elim more [ inl same ↦ absurd (low (ap (λ z. row_cmp (own_key z) key) same ∙ over)) | inr none ↦ absurd none ]
      ];
    }

    only_first : (leaf : Row) → Covers Two key leaf → leaf ≡ x
    only_first leaf covers = elim covers.is [
      | inl same ↦ same
      | inr more ↦ elim more [ inl same ↦ absurd (covers.up_to (ap (λ z. row_cmp (own_key z) key) same ∙ over)) | inr none ↦ absurd none ]
    ]

    entries_first : (entries : List Entry) → IsUpTo key x → ShowsEntries x entries → HasEntriesAt Two key entries
    entries_first entries up shows = record {
      shown = λ leaf covers. subst (λ z. ShowsEntries z entries) (sym (only_first leaf covers)) shows;
      covered = inl (x, covers_first up);
    }

  module _ (key : Row) (up : IsUpTo key y) where
    covers_second : Covers Two key y
    covers_second = record {
      is = inr (inl refl);
      up_to = up;
      greatest = λ other here low. elim here [
        | inl same ↦ λ above. let e : Less ≡ Greater = sym rises ∙ sym (ap (λ z. row_cmp (own_key z) (own_key y)) same) ∙ above in cc
        | inr more ↦ elim more [ inl same ↦ subst (λ z. IsUpTo (own_key y) z) (sym same) (up_to_itself y) | inr none ↦ absurd none ]
      ];
    }

    only_second : (leaf : Row) → Covers Two key leaf → leaf ≡ y
    only_second leaf covers = elim covers.is [
      | inl same ↦ absurd (covers.greatest y (inr (inl refl)) up (ap (λ z. row_cmp (own_key y) (own_key z)) same ∙ back))
      | inr more ↦ elim more [ inl same ↦ same | inr none ↦ absurd none ]
    ]
      where
        back : row_cmp (own_key y) (own_key x) ≡ Greater
        back = row_cmp_total.antisymm (own_key y) (own_key x) ∙ ap ordering_reverse rises

    entries_second : (entries : List Entry) → ShowsEntries y entries → HasEntriesAt Two key entries
    entries_second entries shows = record {
      shown = λ leaf covers. subst (λ z. ShowsEntries z entries) (sym (only_second leaf covers)) shows;
      covered = inl (y, covers_second);
    }

-- ---- what entries say

say_by : (entries : List Entry) (term : List ℕ) (block : ℕ) (part : List Posting) (e : Entry) → IsStrictlySortedBy entry_cmp entries → Has entries e → IsAt term block e → SaysPart e part → SayPart entries term block part
say_by entries term block part e up here at says = record {
  said = λ d has is. subst (λ (x : Entry). SaysPart x part) (one_entry entries e d up here has (at.0 ∙ sym is.0) (at.1 ∙ sym is.1)) says;
  there = λ some. (e, here, at);
}

say_none : (entries : List Entry) (term : List ℕ) (block : ℕ) → ((e : Entry) → Has entries e → ¬ IsAt term block e) → SayPart entries term block []
say_none entries term block none = record { said = λ e here at. absurd (none e here at); there = λ some. absurd (some refl) }

none_of_two : (d e : Entry) (term : List ℕ) (block : ℕ) → ¬ IsAt term block d → ¬ IsAt term block e → (z : Entry) → Has (d ∷ e ∷ []) z → ¬ IsAt term block z
none_of_two d e term block one two z (inl same) is = one (subst (IsAt term block) same is)
none_of_two d e term block one two z (inr (inl same)) is = two (subst (IsAt term block) same is)
none_of_two d e term block one two z (inr (inr none)) is = none

other_term : (d : Entry) (term : List ℕ) (block : ℕ) → (slice_cmp nat_cmp d.term term ≡ Less) ⊎ (slice_cmp nat_cmp term d.term ≡ Less) → ¬ IsAt term block d
other_term d term block (inl low) is = not_same d.term term low is.0
other_term d term block (inr low) is = not_same term d.term low (sym is.0)

-- ---- records of lists

one_record : (p : Posting) → IsCount (HasRecordOf (p ∷ [])) 1
unfolding IsStrictlySortedBy
one_record p = record {
  numbers = p.sysno ∷ [];
  rising = (tt, tt);
  each = λ n. (
    λ h. elim h [ inl same ↦ (p, inl refl, sym same) | inr none ↦ absurd none ],
    λ has. elim has.1 [ inl same ↦ inl (sym has.2 ∙ ap (λ (q : Posting). q.sysno) same) | inr none ↦ absurd none ],
  );
  count_is = refl;
}

two_records : (p q : Posting) → nat_cmp p.sysno q.sysno ≡ Less → IsCount (HasRecordOf (p ∷ q ∷ [])) 2
unfolding IsStrictlySortedBy
two_records p q less = record {
  numbers = p.sysno ∷ q.sysno ∷ [];
  rising = ((less, tt), (tt, tt));
  each = λ n. (
    λ h. elim h [ inl same ↦ (p, inl refl, sym same) | inr more ↦ elim more [ inl same ↦ (q, inr (inl refl), sym same) | inr none ↦ absurd none ] ],
    λ has. elim has.1 [
      | inl same ↦ inl (sym has.2 ∙ ap (λ (r : Posting). r.sysno) same)
      | inr more ↦ elim more [ inl same ↦ inr (inl (sym has.2 ∙ ap (λ (r : Posting). r.sysno) same)) | inr none ↦ absurd none ]
    ],
  );
  count_is = refl;
}

-- ---- leaves of two entries

leaf_of_two : (d e : Entry) → IsEntry d → IsEntry e → entry_cmp d e ≡ Less → IsLeaf (leaf_bytes (d ∷ e ∷ [])) (d ∷ e ∷ [])
unfolding IsStrictlySortedBy
leaf_of_two d e one two less = record { some = λ none. cc; rising = ((less, tt), (tt, tt)); each = (one, (two, tt)); spelled = refl }

shows_leaf : (term : List ℕ) (block : ℕ) (entries : List Entry) → IsUtf8 term → IsLeaf (leaf_bytes entries) entries → ShowsEntries (leaf term block entries) entries
shows_leaf term block entries text is = (leaf_bytes entries, refl, inl is, record { term = term; is = refl; text = text })

a_text : IsUtf8 (codes "a")
unfolding chars encode is_utf8
a_text = IsUtf8-from_is_utf8 (codes "a") refl

b_text : IsUtf8 (codes "b")
unfolding chars encode is_utf8
b_text = IsUtf8-from_is_utf8 (codes "b") refl

c_text : IsUtf8 (codes "c")
unfolding chars encode is_utf8
c_text = IsUtf8-from_is_utf8 (codes "c") refl

abbrev entry_a : Entry
entry_a = entry (codes "a") 0 1 (1 ∷ 2 ∷ 2 ∷ [])

abbrev entry_b : Entry
entry_b = entry (codes "b") 0 1 (1 ∷ 2 ∷ 2 ∷ [])

abbrev entry_b1 : Entry
entry_b1 = entry (codes "b") 1 1 (0 ∷ 2 ∷ 2 ∷ [])

abbrev entry_c : Entry
entry_c = entry (codes "c") 0 2 (1 ∷ 2 ∷ 2 ∷ 0xfe ∷ 1 ∷ 1 ∷ 1 ∷ [])

first_is : IsLeaf (leaf_bytes first_entries) first_entries
first_is = leaf_of_two entry_a entry_b (record { text = a_text; term = lit< tt; block = lit< tt; records = (lit≤ tt, lit≤ tt); bytes = lit< tt }) (record { text = b_text; term = lit< tt; block = lit< tt; records = (lit≤ tt, lit≤ tt); bytes = lit< tt }) refl

second_is : IsLeaf (leaf_bytes second_entries) second_entries
second_is = leaf_of_two entry_b1 entry_c (record { text = b_text; term = lit< tt; block = lit< tt; records = (lit≤ tt, lit≤ tt); bytes = lit< tt }) (record { text = c_text; term = lit< tt; block = lit< tt; records = (lit≤ tt, lit≤ tt); bytes = lit< tt }) refl

says_one : (term : List ℕ) → SaysPart (entry term 0 1 (1 ∷ 2 ∷ 2 ∷ [])) (at 1 2 2 ∷ [])
says_one term = record { spelled = spelled_one; counted = one_record (at 1 2 2) }

says_b1 : SaysPart entry_b1 (at 256 2 2 ∷ [])
says_b1 = record { spelled = spelled_next_block; counted = one_record (at 256 2 2) }

says_c : SaysPart entry_c (at 1 2 2 ∷ at 255 1 1 ∷ [])
says_c = record { spelled = spelled_next_record; counted = two_records (at 1 2 2) (at 255 1 1) refl }

-- ---- a first leaf, and a second one from block 1 of b on

module _ (x y : Row) (x_is : own_key x ≡ leaf_key [] 0) (y_is : own_key y ≡ leaf_key (codes "b") 1) where
  rising : row_cmp (own_key x) (own_key y) ≡ Less
  rising = ap (λ k. row_cmp k (own_key y)) x_is ∙ ap (row_cmp (leaf_key [] 0)) y_is ∙ key_order [] (codes "b") 0 1

  second_at : (term : List ℕ) (block : ℕ) → row_cmp (own_key y) (leaf_key term block) ≡ ordering_then (slice_cmp nat_cmp (codes "b") term) (nat_cmp 1 block)
  second_at term block = ap (λ k. row_cmp k (leaf_key term block)) y_is ∙ key_order (codes "b") term 1 block

  first_up : (term : List ℕ) (block : ℕ) → slice_cmp nat_cmp [] term ≡ Less → IsUpTo (leaf_key term block) x
  first_up term block low above =
      let e : Less ≡ Greater = sym (ap (λ k. row_cmp k (leaf_key term block)) x_is ∙ key_order [] term 0 block ∙ ap (λ o. ordering_then o (nat_cmp 0 block)) low) ∙ above in cc

  second_up : (term : List ℕ) (block : ℕ) → ordering_then (slice_cmp nat_cmp (codes "b") term) (nat_cmp 1 block) ≢ Greater → IsUpTo (leaf_key term block) y
  second_up term block low above = low (sym (second_at term block) ∙ above)

  over_a : (block : ℕ) → row_cmp (own_key y) (leaf_key (codes "a") block) ≡ Greater
  over_a block = second_at (codes "a") block

  over_b : row_cmp (own_key y) (leaf_key (codes "b") 0) ≡ Greater
  over_b = second_at (codes "b") 0

  up_b : (more : ℕ) → IsUpTo (leaf_key (codes "b") (suc more)) y
  up_b zero = second_up (codes "b") 1 (λ above. cc)
  up_b (suc more) = second_up (codes "b") (suc (suc more)) (λ above. let e : Less ≡ Greater = sym (less_is 1 (suc (suc more)) (omega arith)) ∙ above in cc)

  up_c : (block : ℕ) → IsUpTo (leaf_key (codes "c") block) y
  up_c block = second_up (codes "c") block (λ above. cc)

  -- which of them covers what
  pub first_covers_a : (block : ℕ) → Covers (Has (x ∷ y ∷ [])) (leaf_key (codes "a") block) x
  first_covers_a block = covers_first x y rising (leaf_key (codes "a") block) (over_a block) (first_up (codes "a") block refl)

  pub first_covers_b : Covers (Has (x ∷ y ∷ [])) (leaf_key (codes "b") 0) x
  first_covers_b = covers_first x y rising (leaf_key (codes "b") 0) over_b (first_up (codes "b") 0 refl)

  pub second_covers_b : (more : ℕ) → Covers (Has (x ∷ y ∷ [])) (leaf_key (codes "b") (suc more)) y
  second_covers_b more = covers_second x y rising (leaf_key (codes "b") (suc more)) (up_b more)

  pub second_covers_c : (block : ℕ) → Covers (Has (x ∷ y ∷ [])) (leaf_key (codes "c") block) y
  second_covers_c block = covers_second x y rising (leaf_key (codes "c") block) (up_c block)

  -- and what stands in them
  module _ (entries : List Entry) (shows : ShowsEntries x entries) where
    a_at : (block : ℕ) → HasEntriesAt (Has (x ∷ y ∷ [])) (leaf_key (codes "a") block) entries
    a_at block = entries_first x y rising (leaf_key (codes "a") block) (over_a block) entries (first_up (codes "a") block refl) shows

    b_at : HasEntriesAt (Has (x ∷ y ∷ [])) (leaf_key (codes "b") 0) entries
    b_at = entries_first x y rising (leaf_key (codes "b") 0) over_b entries (first_up (codes "b") 0 refl) shows

  module _ (entries : List Entry) (shows : ShowsEntries y entries) where
    b_behind : (more : ℕ) → HasEntriesAt (Has (x ∷ y ∷ [])) (leaf_key (codes "b") (suc more)) entries
    b_behind more = entries_second x y rising (leaf_key (codes "b") (suc more)) (up_b more) entries shows

    c_at : (block : ℕ) → HasEntriesAt (Has (x ∷ y ∷ [])) (leaf_key (codes "c") block) entries
    c_at block = entries_second x y rising (leaf_key (codes "c") block) (up_c block) entries shows

    d_at : (block : ℕ) → HasEntriesAt (Has (x ∷ y ∷ [])) (leaf_key (codes "d") block) entries
    d_at block = entries_second x y rising (leaf_key (codes "d") block) (second_up (codes "d") block (λ above. cc)) entries shows

-- a part of a list without a posting of another block
part_other : (block : ℕ) (p : Posting) (rest : List Posting) → p.sysno / 256 ≢ block → part_in block (p ∷ rest) ≡ part_in block rest
part_other block p rest differs = elim (eqb_tells (p.sysno / 256) block) [ inl same ↦ absurd (differs same.1) | inr other ↦ rw other.0 refl ]

other_block : (d : Entry) (term : List ℕ) (block : ℕ) → d.block ≢ block → ¬ IsAt term block d
other_block d term block differs is = differs is.1

first_shows : ShowsEntries first_leaf first_entries
first_shows = shows_leaf [] 0 first_entries IsUtf8-nil first_is

second_shows : ShowsEntries second_leaf second_entries
second_shows = shows_leaf (codes "b") 1 second_entries b_text second_is

-- ---- what the first leaf says, whatever the second one is

module _ (y : Row) (y_is : own_key y ≡ leaf_key (codes "b") 1) where
  pub reads_a : (block : ℕ) → PartReads (Has (first_leaf ∷ y ∷ [])) (codes "a") block (part_in block (at 1 2 2 ∷ []))
  reads_a zero = (first_entries, a_at first_leaf y refl y_is first_entries first_shows 0, say_by first_entries (codes "a") 0 (at 1 2 2 ∷ []) entry_a first_is.rising (inl refl) (refl, refl) (says_one (codes "a")))
  reads_a (suc more) = subst (PartReads (Has (first_leaf ∷ y ∷ [])) (codes "a") (suc more)) (sym (part_other (suc more) (at 1 2 2) [] (λ same. omega (arith, same)))) (
    first_entries,
    a_at first_leaf y refl y_is first_entries first_shows (suc more),
    say_none first_entries (codes "a") (suc more) (none_of_two entry_a entry_b (codes "a") (suc more) (other_block entry_a (codes "a") (suc more) (λ same. omega (arith, same))) (other_term entry_b (codes "a") (suc more) (inr refl))),
  )

  pub reads_b_first : PartReads (Has (first_leaf ∷ y ∷ [])) (codes "b") 0 (at 1 2 2 ∷ [])
  reads_b_first = (first_entries, b_at first_leaf y refl y_is first_entries first_shows, say_by first_entries (codes "b") 0 (at 1 2 2 ∷ []) entry_b first_is.rising (inr (inl refl)) (refl, refl) (says_one (codes "b")))

  pub counts_a : SumsRecords (Has (first_leaf ∷ y ∷ [])) (codes "a") 1
  counts_a = records_summed (Has (first_leaf ∷ y ∷ [])) (codes "a") (at 1 2 2 ∷ []) reads_a 1 (one_record (at 1 2 2))

-- ---- and what the second one says, whatever the first one is

module _ (x : Row) (x_is : own_key x ≡ leaf_key [] 0) where
  pub reads_c : (block : ℕ) → PartReads (Has (x ∷ second_leaf ∷ [])) (codes "c") block (part_in block (at 1 2 2 ∷ at 255 1 1 ∷ []))
  reads_c zero = (
    second_entries,
    c_at x second_leaf x_is refl second_entries second_shows 0,
    say_by second_entries (codes "c") 0 (at 1 2 2 ∷ at 255 1 1 ∷ []) entry_c second_is.rising (inr (inl refl)) (refl, refl) says_c,
  )
  reads_c (suc more) = subst (PartReads (Has (x ∷ second_leaf ∷ [])) (codes "c") (suc more)) (sym (part_other (suc more) (at 1 2 2) (at 255 1 1 ∷ []) (λ same. omega (arith, same)) ∙ part_other (suc more) (at 255 1 1) [] (λ same. omega (arith, same)))) (
    second_entries,
    c_at x second_leaf x_is refl second_entries second_shows (suc more),
    say_none second_entries (codes "c") (suc more) (none_of_two entry_b1 entry_c (codes "c") (suc more) (other_term entry_b1 (codes "c") (suc more) (inl refl)) (other_block entry_c (codes "c") (suc more) (λ same. omega (arith, same)))),
  )

  pub counts_c : SumsRecords (Has (x ∷ second_leaf ∷ [])) (codes "c") 2
  counts_c = records_summed (Has (x ∷ second_leaf ∷ [])) (codes "c") (at 1 2 2 ∷ at 255 1 1 ∷ []) reads_c 2 (two_records (at 1 2 2) (at 255 1 1) refl)

  pub reads_d : (block : ℕ) → PartReads (Has (x ∷ second_leaf ∷ [])) (codes "d") block []
  reads_d block = (
    second_entries,
    d_at x second_leaf x_is refl second_entries second_shows block,
    say_none second_entries (codes "d") block (none_of_two entry_b1 entry_c (codes "d") block (other_term entry_b1 (codes "d") block (inl refl)) (other_term entry_c (codes "d") block (inl refl))),
  )

-- ---- the two together

abbrev Worked : Row → Type 0
Worked = Has (first_leaf ∷ second_leaf ∷ [])

pub reads_b : (block : ℕ) → PartReads Worked (codes "b") block (part_in block (at 1 2 2 ∷ at 256 2 2 ∷ []))
reads_b zero = reads_b_first second_leaf refl
reads_b (suc zero) = (
  second_entries,
  b_behind first_leaf second_leaf refl refl second_entries second_shows 0,
  say_by second_entries (codes "b") 1 (at 256 2 2 ∷ []) entry_b1 second_is.rising (inl refl) (refl, refl) says_b1,
)
reads_b (suc (suc more)) = subst (PartReads Worked (codes "b") (suc (suc more))) (sym (part_other (suc (suc more)) (at 1 2 2) (at 256 2 2 ∷ []) (λ same. omega (arith, same)) ∙ part_other (suc (suc more)) (at 256 2 2) [] (λ same. omega (arith, same)))) (
  second_entries,
  b_behind first_leaf second_leaf refl refl second_entries second_shows (suc more),
  say_none second_entries (codes "b") (suc (suc more)) (none_of_two entry_b1 entry_c (codes "b") (suc (suc more)) (other_block entry_b1 (codes "b") (suc (suc more)) (λ same. omega (arith, same))) (other_term entry_c (codes "b") (suc (suc more)) (inr refl))),
)

pub counts_b : SumsRecords Worked (codes "b") 2
counts_b = records_summed Worked (codes "b") (at 1 2 2 ∷ at 256 2 2 ∷ []) reads_b 2 (two_records (at 1 2 2) (at 256 2 2) refl)

pub counts_d : SumsRecords Worked (codes "d") 0
counts_d = records_summed Worked (codes "d") [] (reads_d first_leaf refl) 0 (count_none (HasRecordOf []) (λ n has. has.1))

-- ---- leaves that no writer makes

pub stray_beside : ¬ IsLeafAlone (Has (stray_leaf ∷ second_leaf ∷ [])) stray_leaf
stray_beside alone =
    let is : IsLeaf (leaf_bytes (entry_a ∷ entry (codes "c") 0 1 (1 ∷ 2 ∷ 2 ∷ []) ∷ [])) (entry_a ∷ entry (codes "c") 0 1 (1 ∷ 2 ∷ 2 ∷ []) ∷ []) =
    leaf_of_two entry_a (entry (codes "c") 0 1 (1 ∷ 2 ∷ 2 ∷ [])) (record { text = a_text; term = lit< tt; block = lit< tt; records = (lit≤ tt, lit≤ tt); bytes = lit< tt }) (record { text = c_text; term = lit< tt; block = lit< tt; records = (lit≤ tt, lit≤ tt); bytes = lit< tt }) refl in
    let same = one_shown stray_leaf _ alone.entries (shows_leaf [] 0 _ IsUtf8-nil is) alone.shown in
    let covers = alone.within (entry (codes "c") 0 1 (1 ∷ 2 ∷ 2 ∷ [])) (subst (λ l. Has l (entry (codes "c") 0 1 (1 ∷ 2 ∷ 2 ∷ []))) same (inr (inl refl))) in
    covers.greatest second_leaf (inr (inl refl)) (up_c stray_leaf second_leaf refl refl 0) (key_order (codes "b") [] 1 0)

no_entries_cut : (entries : List Entry) → ¬ ShowsEntries cut_leaf entries
no_entries_cut entries shows = elim shows.2 [
  | inl is ↦ no_cut entries (subst (λ (b : List ℕ). IsLeaf b entries) bytes is)
  | inr none ↦ let e : 0 ≡ 8 = ap length (sym none.0 ∙ bytes) in omega (arith, e)
]
  where
    bytes : shows.0 ≡ 0 ∷ 1 ∷ 97 ∷ 0 ∷ 1 ∷ 3 ∷ 1 ∷ 2 ∷ []
    bytes = let e : Blob (0 ∷ 1 ∷ 97 ∷ 0 ∷ 1 ∷ 3 ∷ 1 ∷ 2 ∷ []) ≡ Blob shows.0 = shows.1 in cc

pub cut_lacks_b : LacksEntriesAt (Has (first_leaf ∷ cut_leaf ∷ [])) (leaf_key (codes "b") 1)
cut_lacks_b = inl (cut_leaf, second_covers_b first_leaf cut_leaf refl refl 0, no_entries_cut)

pub cut_lacks_c : LacksEntriesAt (Has (first_leaf ∷ cut_leaf ∷ [])) (leaf_key (codes "c") 0)
cut_lacks_c = inl (cut_leaf, second_covers_c first_leaf cut_leaf refl refl 0, no_entries_cut)

-- a leaf whose own term is no text
no_text : ¬ IsUtf8 (0x80 ∷ [])
unfolding chars encode is_utf8
no_text text = let both : false ≡ true = is_utf8-from_IsUtf8 (0x80 ∷ []) text in cc

pub no_text_lacks : LacksEntriesAt (Has (first_leaf ∷ no_text_leaf ∷ [])) (leaf_key (0xc3 ∷ 0xa9 ∷ []) 0)
no_text_lacks =
    let key = leaf_key (0xc3 ∷ 0xa9 ∷ []) 0 in
    let up : IsUpTo key no_text_leaf = λ above. let e : Less ≡ Greater = sym (key_order (0x80 ∷ []) (0xc3 ∷ 0xa9 ∷ []) 0 0) ∙ above in cc in
    inl (no_text_leaf, covers_second first_leaf no_text_leaf (key_order [] (0x80 ∷ []) 0 0) key up, λ entries shows. no_text (subst IsUtf8 (own shows.3.term shows.3.is) shows.3.text))
  where
    own : (term : List ℕ) → Text (0x80 ∷ []) ≡ Text term → term ≡ 0x80 ∷ []
    own term is = cc

pub uncovered_a : LacksEntriesAt (Has (second_leaf ∷ [])) (leaf_key (codes "a") 0)
uncovered_a = inr (
  second_leaf,
  inl refl,
  λ other covers. elim covers.is [
    | inl same ↦ covers.up_to (ap (λ z. row_cmp (own_key z) (leaf_key (codes "a") 0)) same ∙ over_a first_leaf second_leaf refl refl 0)
    | inr none ↦ none
  ],
)

pub miscounted_a : IsPartMalformed (Has (miscounted_leaf ∷ second_leaf ∷ [])) (codes "a") 0
miscounted_a =
    let e = entry (codes "a") 0 2 (1 ∷ 2 ∷ 2 ∷ []) in
    let is = leaf_of_two e entry_b (record { text = a_text; term = lit< tt; block = lit< tt; records = (lit≤ tt, lit≤ tt); bytes = lit< tt }) (record { text = b_text; term = lit< tt; block = lit< tt; records = (lit≤ tt, lit≤ tt); bytes = lit< tt }) refl in
    inr (
      miscounted_leaf,
      e ∷ entry_b ∷ [],
      first_covers_a miscounted_leaf second_leaf refl refl 0,
      shows_leaf [] 0 (e ∷ entry_b ∷ []) IsUtf8-nil is,
      λ part says.
          let said = says.said e (inl refl) (refl, refl) in
          let one = one_spelled 0 (1 ∷ 2 ∷ 2 ∷ []) part (at 1 2 2 ∷ []) said.spelled spelled_one in
          let few = one_count (HasRecordOf (at 1 2 2 ∷ [])) 2 1 (subst (λ (l : List Posting). IsCount (HasRecordOf l) 2) one said.counted) (one_record (at 1 2 2)) in
          omega (arith, few),
    )
