-- In a store each unit reads as some places or is malformed: none is neither. Each proof refutes that one is neither.
use Rattle.zeb_register.proofs.Cited.{Row, column, row_cmp, row_cmp_total, State, Trees, Int, ◌≡◌, ◌≢◌, ◌∙◌, ◌++◌, ◌/◌, ℕ, ℤ, pos, List, [], ◌∷◌, drop, refl, sym, ap, subst, inl, inr, Ordering, Less, Equal, Greater, nat_cmp, slice_cmp, ordering_then, ordering_reverse, Key, Place, Posting, IsStore, postings_tree, store_schema, register_front, Format, packed_blocks, packed_leaves, plain_rows, key_row, numbers_apart, texts_apart, Entry, place_cmp, places_in, posting_at, Covers, HasEntriesAt, ShowsEntries, leaf_key, own_key, IsLeafMalformed, IsLeafOf, LeavesRead, SpellsPart, BlockReads, IsMalformedAt, IsOfBlock, ReadsAs, IsRowMalformed, IsUnderNumber, RowsRead, ShowsPosting, PartReads}
use Rattle.std.specs.List.Sorted.{IsStrictlySortedBy}
use Rattle.zeb_register.proofs.ContentChanges.{place_total}
use Rattle.zeb_register.proofs.KeyOrder.{key_order}
use Rattle.zeb_register.proofs.KeyPlaces.{place_of}
use Rattle.zeb_register.proofs.LeafContents.{none_reads}
use Rattle.zeb_register.proofs.PostingStatements.{blocks, blocks_keys, blocks_static}
use Rattle.zeb_register.proofs.RisingLists.{one_has, one_rises, with_one}
use Rattle.zeb_register.proofs.RowLemmas.{code_at, text_of}
use Rattle.zeb_register.proofs.SharedKeys.{single}
use Rattle.zeb_register.proofs.ValueKinds.{codes_of}
use Rattle.zeb_register.proofs.Writes.{codes_there}
use Rattle.zeb_register.specs.Units.{is_malformed, reads_as}

-- ---- leaves

-- two keys that aren't above each other are one
same_pair : (o p : Ordering) → ordering_then o p ≢ Greater → ordering_reverse (ordering_then o p) ≢ Greater → (o ≡ Equal) × (p ≡ Equal)
same_pair Less p low up = absurd (up refl)
same_pair Greater p low up = absurd (low refl)
same_pair Equal Less low up = absurd (up refl)
same_pair Equal Greater low up = absurd (low refl)
same_pair Equal Equal low up = (refl, refl)

same_key : (s t : List ℕ) (b c : ℕ) → row_cmp (leaf_key s b) (leaf_key t c) ≢ Greater → row_cmp (leaf_key t c) (leaf_key s b) ≢ Greater → leaf_key s b ≡ leaf_key t c
same_key s t b c low up =
    let order = key_order s t b c in
    let both = same_pair (slice_cmp nat_cmp s t) (nat_cmp b c) (λ above. low (order ∙ above)) (λ above. up (row_cmp_total.antisymm (leaf_key t c) (leaf_key s b) ∙ ap ordering_reverse order ∙ above)) in
    ap (λ u. leaf_key u b) (texts_apart s t both.0) ∙ ap (leaf_key t) (numbers_apart b c both.1)

module _ (s : State) (store : IsStore s) (db : ℤ) (key : Key) where
  abbrev Leaves : Row → Type 0
  Leaves = IsLeafOf s.now.trees db key

  own_is : (leaf : Row) → Leaves leaf → (term : List ℕ) × (block : ℕ) × (own_key leaf ≡ leaf_key term block)
  own_is leaf there =
      let row : Row = Int there.0.0 ∷ (register_front db key.index key.register ++ leaf) in
      let typed = codes_there store_schema 4 blocks blocks_static s row store there.0.1 in
      let text = text_of (column row 4) (code_at row (codes_of blocks) 4 typed) in
      (text.0, there.1, λ i. text.1 i ∷ there.2 i ∷ [])

  one_cover : (at one other : Row) → Covers Leaves at one → Covers Leaves at other → one ≡ other
  one_cover at one other left right =
      let a = own_is one left.is in
      let b = own_is other right.is in
      let keys = same_key a.0 b.0 a.1 b.1
      (λ above. right.greatest one left.is left.up_to (ap (λ (k : Row). row_cmp k (own_key other)) a.2 ∙ ap (row_cmp (leaf_key a.0 a.1)) b.2 ∙ above))
      (λ above. left.greatest other right.is right.up_to (ap (λ (k : Row). row_cmp k (own_key one)) b.2 ∙ ap (row_cmp (leaf_key b.0 b.1)) a.2 ∙ above)) in
      let own : own_key one ≡ own_key other = a.2 ∙ keys ∙ sym b.2 in
      let term : column one 0 ≡ column other 0 = ap (λ (k : Row). column k 0) own in
      let block : column one 1 ≡ column other 1 = ap (λ (k : Row). column k 1) own in
      let front = register_front db key.index key.register in
      ap (drop 4) (single 4 blocks blocks_static ((1 ∷ 2 ∷ 3 ∷ 4 ∷ 5 ∷ []) ∷ []) blocks_keys s store left.is.0.0 right.is.0.0 (front ++ one) (front ++ other) left.is.0.1 right.is.0.1
      (inl (refl, (refl, (refl, (term, (block, tt)))))) (inl (refl, (refl, (refl, (sym term, (sym block, tt)))))))

  leaf_unit : (sysno : ℕ) → ¬ IsLeafMalformed s.now.trees db key sysno → ((places : List Place) → ¬ LeavesRead s.now.trees db key sysno places) → ⊥
  leaf_unit sysno sound unread = unread_part [] (none_reads Leaves (λ leaf there. with_leaf leaf there) key.term (sysno / 256))
    where
      unread_part : (part : List Posting) → ¬ PartReads Leaves key.term (sysno / 256) part
      unread_part part reads = unread (places_in sysno part) (part, reads, refl)

      with_entries : (leaf : Row) → Covers Leaves (leaf_key key.term (sysno / 256)) leaf → (entries : List Entry) → ¬ ShowsEntries leaf entries
      with_entries leaf covers entries shows =
          let here : HasEntriesAt Leaves (leaf_key key.term (sysno / 256)) entries = record {
            shown = λ other also. subst (λ (r : Row). ShowsEntries r entries) (one_cover (leaf_key key.term (sysno / 256)) leaf other covers also) shows;
            covered = inl (leaf, covers);
          } in
          sound (inr (leaf, entries, covers, shows, λ part says. unread_part part (entries, here, says)))

      with_cover : (leaf : Row) → ¬ Covers Leaves (leaf_key key.term (sysno / 256)) leaf
      with_cover leaf covers = sound (inl (inl (leaf, covers, with_entries leaf covers)))

      with_leaf : (leaf : Row) → ¬ Leaves leaf
      with_leaf leaf there = sound (inl (inr (leaf, there, with_cover)))

-- ---- packed rows

module _ (s : State) (store : IsStore s) (db : ℤ) (key : Key) where
  one_row : (block : ℕ) (one other : Row) → IsOfBlock s.now.trees db key block one → IsOfBlock s.now.trees db key block other → one ≡ other
  one_row block one other left right =
      let number : column one 0 ≡ column other 0 = left.1 ∙ sym right.1 in
      ap (drop 5) (single 4 blocks blocks_static ((1 ∷ 2 ∷ 3 ∷ 4 ∷ 5 ∷ []) ∷ []) blocks_keys s store left.0.0 right.0.0 (key_row db key ++ one) (key_row db key ++ other) left.0.1 right.0.1
      (inl (refl, (refl, (refl, (refl, (number, tt)))))) (inl (refl, (refl, (refl, (refl, (sym number, tt)))))))

  block_unit : (sysno : ℕ) → ¬ IsMalformedAt s.now.trees db key sysno → ((places : List Place) → ¬ ReadsAs s.now.trees db key sysno places) → ⊥
  block_unit sysno sound unread = unread_part [] (record { spelled = λ row of. absurd (with_row row of); there = λ some. absurd (some refl) })
    where
      unread_part : (part : List Posting) → ¬ BlockReads s.now.trees db key (sysno / 256) part
      unread_part part reads = unread (places_in sysno part) (part, reads, refl)

      with_row : (row : Row) → ¬ IsOfBlock s.now.trees db key (sysno / 256) row
      with_row row of = sound (
        row,
        of,
        λ part spells. unread_part part (record {
          spelled = λ other also. subst (λ (r : Row). SpellsPart r part) (one_row (sysno / 256) row other of also) spells;
          there = λ some. (row, of);
        }),
      )

-- ---- plain rows

places_apart : (p q : Place) → place_cmp p q ≡ Equal → p ≡ q
places_apart p q tie =
    let both = pair_equal (nat_cmp p.seq q.seq) (nat_cmp p.pos q.pos) tie in
    let seq = numbers_apart p.seq q.seq both.0 in
    let at = numbers_apart p.pos q.pos both.1 in
    λ i. record { seq = seq i; pos = at i }
  where
    pair_equal : (o r : Ordering) → ordering_then o r ≡ Equal → (o ≡ Equal) × (r ≡ Equal)
    pair_equal Less r tie' = absurd (let e : Less ≡ Equal = tie' in cc)
    pair_equal Greater r tie' = absurd (let e : Greater ≡ Equal = tie' in cc)
    pair_equal Equal r tie' = (refl, tie')

module _ (db : ℤ) (key : Key) (sysno : ℕ) where
  -- the places that some rows of the table show
  abbrev Read : List Row → List Place → Type 0
  Read rows = RowsRead (λ tree. rows) db key sysno

  abbrev Under : List Row → Row → Type 0
  Under rows = IsUnderNumber (λ tree. rows) db key sysno

  read_none : Read [] []
  unfolding IsStrictlySortedBy
  read_none = record { rising = tt; shown = λ row of. absurd of.0.1; there = λ place here. absurd here }

  -- a row more, which isn't the unit's
  read_beside : (r : Row) (rows : List Row) (places : List Place) → ((row : Row) (id : ℤ) → r ≡ Int id ∷ (key_row db key ++ row) → column row 0 ≢ Int (pos sysno)) → Read rows places → Read (r ∷ rows) places
  read_beside r rows places other reads = record {
    rising = reads.rising;
    shown = λ row of. elim of.0.1 [ inl same ↦ absurd (other row of.0.0 (sym same) of.1) | inr later ↦ reads.shown row ((of.0.0, later), of.1) ];
    there = λ place here. (let it = reads.there place here in (it.0, (it.1.0, inr it.1.1), it.2));
  }

  -- a row more, which shows a place
  read_more : (id : ℤ) (row : Row) (rows : List Row) (places : List Place) (p : Posting) → column row 0 ≡ Int (pos sysno) → ShowsPosting row p → Read rows places
      → Read ((Int id ∷ (key_row db key ++ row)) ∷ rows) (with_one place_total places_apart (place_of p) places)
  read_more id row rows places p number shows reads = record {
    rising = one_rises place_total places_apart (place_of p) places reads.rising;
    shown = λ other of. elim of.0.1 [
      | inl same ↦ (
          let is : row ≡ other = sym (ap (drop 5) same) in
          (place_of p, (one_has place_total places_apart (place_of p) places (place_of p)).1 (inr refl), subst (λ (x : Row). ShowsPosting x (posting_at sysno (place_of p))) is (number, shows.1, shows.2))
          )
      | inr later ↦ (
          let it = reads.shown other ((of.0.0, later), of.1) in
          (it.0, (one_has place_total places_apart (place_of p) places it.0).1 (inl it.1), it.2)
          )
    ];
    there = λ place here. elim ((one_has place_total places_apart (place_of p) places place).0 here) [
      | inl before ↦ (let it = reads.there place before in (it.0, (it.1.0, inr it.1.1), it.2))
      | inr same ↦ (row, (id, inl refl), subst (λ (x : Place). ShowsPosting row (posting_at sysno x)) (sym same) (number, shows.1, shows.2))
    ];
  }

  -- Rows none of which is malformed can't but show some places.
  rows_read : (rows : List Row) → ((row : Row) → Under rows row → ((p : Posting) → ¬ ShowsPosting row p) → ⊥) → ((places : List Place) → ¬ Read rows places) → ⊥
  rows_read [] sound unread = unread [] read_none
  rows_read (r ∷ rows) sound unread = rows_read rows (λ row of. sound row ((of.0.0, inr of.0.1), of.1)) (λ places reads.
      unread places (read_beside r rows places (λ row id is number. sound row ((id, inl (sym is)), number) (λ p shows.
      unread (with_one place_total places_apart (place_of p) places)
      (subst (λ (x : Row). Read (x ∷ rows) (with_one place_total places_apart (place_of p) places)) (sym is) (read_more id row rows places p number shows reads)))) reads))

row_unit : (trees : Trees) (db : ℤ) (key : Key) (sysno : ℕ) → ¬ IsRowMalformed trees db key sysno → ((places : List Place) → ¬ RowsRead trees db key sysno places) → ⊥
row_unit trees db key sysno sound unread = rows_read db key sysno (trees postings_tree) (λ row of none. sound (row, of, none))
    (λ places reads. unread places (record { rising = reads.rising; shown = reads.shown; there = reads.there }))

-- ---- each format

pub none_neither : (format : Format) (s : State) → IsStore s → (db : ℤ) (key : Key) (sysno : ℕ)
    → ¬ ((¬ is_malformed format s.now.trees db key sysno) × ((places : List Place) → ¬ reads_as format s.now.trees db key sysno places))
none_neither plain_rows s store db key sysno neither = row_unit s.now.trees db key sysno neither.0 neither.1
none_neither packed_blocks s store db key sysno neither = block_unit s store db key sysno neither.0 neither.1
none_neither packed_leaves s store db key sysno neither = leaf_unit s store db key sysno neither.0 neither.1
