-- The rows of a key, which spell a list, as its units.
use Rattle.zeb_packed.proofs.Cited.{◌≡◌, ◌∙◌, ◌<◌, ◌/◌, ℕ, ℤ, pos, List, [], ◌∷◌, map, length, drop, refl, sym, ap, ap₂, subst, inl, inr, Ordering, Less, Equal, Greater, nat_cmp, nat_eq, arith, ordering_then, Int, Row, column, row_cmp, State, Has, all_has, has_left, has_right, has_either, row_cmp_total, value_cmp-Int, Posting, Key, numbers_apart, Work, posting_cmp, SpellsPart, blocks_of, part_in, AreSpelled, IsListOf, IsRest, IsStore, blocks_tree, Works, posting_total, ints_order, some_posting, is_less, in_part, part_in_block, part_in_list, each_spelled, one_part, joined_rises, kept_rises, never_itself, same_list, BlockSpells, IsBlockMalformed, SpellsIn, BlockReads, IsOfBlock, IsOfKey, ListsUnits, own_part, packed_blocks, begins, one_more_block, posting_lower}
use Rattle.std.specs.List.Sorted.{IsStrictlySortedBy}
use Rattle.zeb_packed.proofs.PackedReads.{block_front}
use Rattle.zeb_packed.proofs.PackedSound.{one_block}

module _ (s : State) (store : IsStore s) (db : ℤ) (key : Key) where
  abbrev Ours : List Row → Type 0
  Ours rows = (row : Row) → Has rows row → IsOfKey s.now.trees db key row

  -- a posting that a row spells lies in its block
  lies_in : (row : Row) (part : List Posting) (spells : SpellsPart row part) (p : Posting) → Has part p → p.sysno / 256 ≡ spells.0
  lies_in row part spells p here = all_has (λ (q : Posting). q.sysno / 256 ≡ spells.0) part p spells.4.lies.inside here

  pub row_is : (row : Row) (block : ℕ) → column row 0 ≡ Int (pos block) → row ≡ Int (pos block) ∷ drop 1 row
  row_is row block at = begins row (Int (pos block)) at (λ none. cc)

  -- a block has one row
  one_row : (x y : Row) (block : ℕ) → IsOfBlock s.now.trees db key block x → IsOfBlock s.now.trees db key block y → x ≡ y
  one_row x y block left right =
      let a = row_is x block left.1 in
      let b = row_is y block right.1 in
      let same : drop 1 x ≡ drop 1 y = one_block s store db key block (drop 1 x) (drop 1 y) (subst (IsOfKey s.now.trees db key) a left.0) (subst (IsOfKey s.now.trees db key) b right.0) in
      a ∙ ap (λ (r : Row). Int (pos block) ∷ r) same ∙ sym b

  -- of two rows the lower has the lower block
  lower_block : (x y : Row) (b c : ℕ) → IsOfBlock s.now.trees db key b x → IsOfBlock s.now.trees db key c y → row_cmp x y ≡ Less → b < c
  lower_block x y b c left right less = from (nat_cmp b c) refl
    where
      whole : row_cmp x y ≡ ordering_then (nat_cmp b c) (row_cmp (drop 1 x) (drop 1 y))
      whole = ap₂ row_cmp (row_is x b left.1) (row_is y c right.1) ∙ ap (λ o. ordering_then o (row_cmp (drop 1 x) (drop 1 y))) (value_cmp-Int (pos b) (pos c) ∙ ints_order b c)

      from : (o : Ordering) → nat_cmp b c ≡ o → b < c
      from Less is = is_less b c is
      from Greater is = absurd (let e : Less ≡ Greater = sym less ∙ whole ∙ ap (λ o. ordering_then o (row_cmp (drop 1 x) (drop 1 y))) is in cc)
      from Equal is =
          let same : y ≡ x = one_row y x b (subst (λ n. IsOfBlock s.now.trees db key n y) (sym (numbers_apart b c is)) right) left in
          absurd (never_itself row_cmp_total x (subst (λ (r : Row). row_cmp x r ≡ Less) same less))

  -- a posting of the list is spelled by one of the rows
  posting_of : (rows : List Row) (list : List Posting) → AreSpelled rows list → (p : Posting) → Has list p → (row : Row) × (part : List Posting) × Has rows row × SpellsPart row part × Has part p
  posting_of [] list are p here = absurd (subst (λ l. Has l p) are here)
  posting_of (row ∷ rows) list are p here = elim (has_either are.0 are.1 p (subst (λ l. Has l p) are.4 here)) [
    | inl first ↦ (row, are.0, inl refl, are.2, first)
    | inr later ↦ let it = posting_of rows are.1 are.3 p later in (it.0, it.1, inr it.2, it.3, it.4)
  ]

  -- and what a row spells stands in the list
  posting_in : (rows : List Row) (list : List Posting) → AreSpelled rows list → (row : Row) (part : List Posting) → Has rows row → SpellsPart row part → (p : Posting) → Has part p → Has list p
  posting_in [] list are row part there spells p here = absurd there
  posting_in (r ∷ rows) list are row part (inl same) spells p here =
      let moved : SpellsPart r part = subst (λ (x : Row). SpellsPart x part) same spells in
      subst (λ l. Has l p) (sym are.4) (has_left are.0 are.1 p (subst (λ l. Has l p) (one_part r part are.0 moved are.2) here))
  posting_in (r ∷ rows) list are row part (inr later) spells p here =
      subst (λ l. Has l p) (sym are.4) (has_right are.0 are.1 p (posting_in rows are.1 are.3 row part later spells p here))

  -- what the rows behind a row spell lies in blocks above its own
  above : (row : Row) (rows : List Row) (part rest : List Posting) → Ours (row ∷ rows) → IsStrictlySortedBy row_cmp (row ∷ rows) → (spells : SpellsPart row part) → AreSpelled rows rest → (q : Posting) → Has rest q → spells.0 < q.sysno / 256
  unfolding IsStrictlySortedBy
  above row rows part rest ours up spells are q here =
      let it = posting_of rows rest are q here in
      let less = all_has (λ r. row_cmp row r ≡ Less) rows it.0 up.0 it.2 in
      let low = lower_block row it.0 spells.0 it.3.0 (ours row (inl refl), spells.2) (ours it.0 (inr it.2), it.3.2) less in
      omega (arith, low, lies_in it.0 it.1 it.3 q it.4)

  list_rises : (rows : List Row) (list : List Posting) → Ours rows → IsStrictlySortedBy row_cmp rows → AreSpelled rows list → IsStrictlySortedBy posting_cmp list
  unfolding IsStrictlySortedBy
  list_rises [] list ours up are = subst (IsStrictlySortedBy posting_cmp) (sym are) tt
  list_rises (row ∷ rows) list ours up are =
      subst (IsStrictlySortedBy posting_cmp) (sym are.4) (joined_rises posting_total are.0 are.1 are.2.4.lies.rising (list_rises rows are.1 (λ r h. ours r (inr h)) up.1 are.3) (λ p q here there.
      posting_lower p q (omega (arith, above row rows are.0 are.1 ours up are.2 are.3 q there, lies_in row are.0 are.2 p here))))

  list_blocks : (rows : List Row) (list : List Posting) → Ours rows → IsStrictlySortedBy row_cmp rows → AreSpelled rows list → length rows ≡ blocks_of list
  unfolding IsStrictlySortedBy
  list_blocks [] list ours up are = sym (ap blocks_of are)
  list_blocks (row ∷ rows) list ours up are =
      let more = one_more_block are.2.0 are.0 are.1 are.2.4.some (lies_in row are.0 are.2) (λ q there same. absurd (omega (arith, above row rows are.0 are.1 ours up are.2 are.3 q there, same))) in
      omega (arith, ap blocks_of are.4, more, list_blocks rows are.1 (λ r h. ours r (inr h)) up.1 are.3)

  module _ (rows : List Row) (list : List Posting) (listed : IsListOf (IsOfKey s.now.trees db key) rows) (are : AreSpelled rows list) where
    ours : Ours rows
    ours row here = (listed.each row).0 here

    rises : IsStrictlySortedBy posting_cmp list
    rises = list_rises rows list ours listed.rising are

    -- what a row spells is the part of the list in its block
    spells_its : (row : Row) → IsOfKey s.now.trees db key row → (block : ℕ) → column row 0 ≡ Int (pos block) → SpellsPart row (part_in block list)
    spells_its row there block at = subst (SpellsPart row) same it.1
      where
        it : (part : List Posting) × SpellsPart row part
        it = each_spelled rows list are row ((listed.each row).1 there)

        number : it.1.0 ≡ block
        number = let e : Int (pos it.1.0) ≡ Int (pos block) = sym it.1.2 ∙ at in cc

        same : it.0 ≡ part_in block list
        same = same_list posting_total it.0 (part_in block list) it.1.4.lies.rising (kept_rises posting_total (λ q. nat_eq (q.sysno / 256) block) list rises)
            (λ p h. in_part block list p (posting_in rows list are row it.0 ((listed.each row).1 there) it.1 p h) (lies_in row it.0 it.1 p h ∙ number))
            (λ p h.
            let found = posting_of rows list are p (part_in_list block list p h) in
            let near : found.3.0 ≡ block = sym (lies_in found.0 found.1 found.3 p found.4) ∙ part_in_block block list p h in
            let one : found.0 ≡ row = one_row found.0 row block (ours found.0 found.2, found.3.2 ∙ ap (λ (n : ℕ). Int (pos n)) near) (there, at) in
            subst (λ l. Has l p) (one_part row found.1 it.0 (subst (λ (r : Row). SpellsPart r found.1) one found.3) it.1) found.4)

    block_reads : (block : ℕ) → BlockReads s.now.trees db key block (part_in block list)
    block_reads block = record {
      spelled = λ row of. spells_its row of.0 block of.1;
      there = λ some.
          let p = some_posting (part_in block list) some in
          let found = posting_of rows list are p.0 (part_in_list block list p.0 p.1) in
          let near : found.3.0 ≡ block = sym (lies_in found.0 found.1 found.3 p.0 found.4) ∙ part_in_block block list p.0 p.1 in
          (found.0, (ours found.0 found.2, found.3.2 ∙ ap (λ (n : ℕ). Int (pos n)) near));
    }

    -- the rows of the key, listed and spelled, say its units
    pub units_listed : ListsUnits packed_blocks s.now.trees db key list
    units_listed = record {
      rising = rises;
      units = λ sysno. (part_in (sysno / 256) list, block_reads (sysno / 256), ap (map (λ (p : Posting). record { seq = p.seq; pos = p.pos })) (own_part sysno list));
      whole = λ row there. each_spelled rows list are row ((listed.each row).1 there);
    }

    -- they are as many as the list has blocks
    pub rows_many : length rows ≡ blocks_of list
    rows_many = list_blocks rows list ours listed.rising are

    pub blocks_counted : (old new : Work) → Works 0 0 (length rows) 0 old new → Works 0 0 (blocks_of list) 0 old new
    blocks_counted old new works = subst (λ k. Works 0 0 k 0 old new) rows_many works

  -- ---- one block, as a look shows it

  module _ (block : ℕ) (rest : Row) (here : IsRest blocks_tree (block_front db key block) s.now.trees rest) where
    pub shown_reads : (list : List Posting) → SpellsIn block rest list → BlockReads s.now.trees db key block list
    shown_reads list spells = record {
      spelled = λ row of. subst (λ (r : Row). SpellsPart r list) (one_row (Int (pos block) ∷ rest) row block (here, refl) of) (block, spells.0, refl, spells.1, spells.2);
      there = λ some. (Int (pos block) ∷ rest, (here, refl));
    }

    pub shown_malformed : ((list : List Posting) → ¬ SpellsIn block rest list) → IsBlockMalformed s.now.trees db key block
    shown_malformed bad = (
      Int (pos block) ∷ rest,
      (here, refl),
      λ part spells.
          let e : Int (pos block) ≡ Int (pos spells.0) = spells.2 in
          let same : spells.0 ≡ block = cc in
          bad part (spells.1, spells.3, subst (λ b. BlockSpells b part spells.1) same spells.4),
    )
