-- Packed tables hold a content just where each unit and each count reads as it says, and no row stands beside.
use Rattle.zeb_register.proofs.Cited.{◌≡◌, ◌≢◌, ◌↔◌, ◌∙◌, ◌≤◌, ◌/◌, ℕ, zero, suc, ℤ, pos, List, [], ◌∷◌, ◌++◌, length, nat_eq, refl, sym, ap, ap₂, subst, inl, arith, Int, Blob, Row, column, Trees, Has, all_has, Posting, BlockSpells, IsNumbered, Key, Content, IsStorable, posted, posting_cmp, HasKey, IsCount, IsInRecord, HasRow, blocks_tree, dict_tree, HoldsBlocks, IsBlockRow, IsDictRow, SpellsPart, block_row, part_in, key_row, packed_blocks, ◌*◌, places_in, BlockReads, CountsAs, IsMiscounted, ReadsAs, HoldsUnits}
use Rattle.std.specs.List.Sorted.{IsStrictlySortedBy}
use Rattle.zeb_register.proofs.BlockUnits.{held_units, none_rises, one_block_read}
use Rattle.zeb_register.proofs.ContentChanges.{posting_total}
use Rattle.zeb_register.proofs.ContentLemmas.{some_posting, told_apart}
use Rattle.zeb_register.proofs.CountLemmas.{count_none, count_so, count_upto, counted_none, one_count, some_count}
use Rattle.zeb_register.proofs.KeyPlaces.{in_place, place_in, place_of}
use Rattle.zeb_register.proofs.OccurringLemmas.{key_posted}
use Rattle.zeb_register.proofs.PackedLemmas.{block_rows, dict_there, in_part, not_empty, part_in_block, part_in_list}
use Rattle.zeb_register.proofs.RisingLists.{kept_rises, same_list}
use Rattle.zeb_register.proofs.TermsAmong.{records_count, records_of}

pub some_counted : (P : ℕ → Type 0) (count : ℕ) → IsCount P count → 1 ≤ count → (n : ℕ) × P n
some_counted P count it some = from it.numbers refl
  where
    from : (ns : List ℕ) → it.numbers ≡ ns → (n : ℕ) × P n
    from [] is = absurd (omega (arith, some, it.count_is, ap length is))
    from (m ∷ ns) is = (m, (it.each m).0 (subst (λ (l : List ℕ). Has l m) (sym is) (inl refl)))

pub one_counting : (trees : Trees) (db : ℤ) (key : Key) (a b : ℕ) → CountsAs trees db key a → CountsAs trees db key b → 1 ≤ a → a ≡ b
one_counting trees db key a b left right some =
    let row = left.there some in
    let e : Int (pos a) ≡ Int (pos b) = sym (left.said row.0 row.1).2 ∙ (right.said row.0 row.1).2 in
    cc

-- a key has one count
pub one_key_count : (trees : Trees) (db : ℤ) (key : Key) (a b : ℕ) → CountsAs trees db key a → CountsAs trees db key b → a ≡ b
one_key_count trees db key zero zero left right = refl
one_key_count trees db key (suc a) b left right = one_counting trees db key (suc a) b left right (omega arith)
one_key_count trees db key zero (suc b) left right = sym (one_counting trees db key (suc b) 0 right left (omega arith))

module _ (trees : Trees) (content : Content) where
  abbrev HasIt : ℤ → Key → ℕ → Type 0
  HasIt db key = HasKey (posted content db) key

  pub found_in : (db : ℤ) (key : Key) (n : ℕ) → HasIt db key n → (p : Posting) × Has (content db key) p × (p.sysno ≡ n)
  found_in db key n = (key_posted content db key n).0

  pub counted_list : (db : ℤ) (key : Key) → IsCount (HasIt db key) (records_of (content db key))
  counted_list db key = count_so (IsInRecord (content db key)) (HasIt db key) _ (λ m. ((key_posted content db key m).1, (key_posted content db key m).0)) (records_count (content db key))

  keys_same : (d e : ℤ) (k l : Key) → d ≡ e → k ≡ l → (n : ℕ) → HasIt d k n ↔ HasIt e l n
  keys_same d e k l same also n = (λ h. subst (λ x. HasIt x l n) same (subst (λ y. HasIt d y n) also h), λ h. subst (λ x. HasIt x k n) (sym same) (subst (λ y. HasIt e y n) (sym also) h))

  pub held_counts : IsStorable content → HoldsBlocks trees content → (db : ℤ) (key : Key) (records : ℕ) → IsCount (HasIt db key) records → CountsAs trees db key records
  held_counts storable holds db key records is = record {
    said = λ row there.
        let it = (holds.dict (key_row db key ++ row)).0 there in
        let same = told_apart it.0 db it.1 key row (Int (pos it.2) ∷ []) it.5 in
        let lists : content it.0 it.1 ≡ content db key = ap₂ content same.0 same.1 in
        let p = some_posting (content it.0 it.1) it.3 in
        let here : Has (content db key) p.0 = subst (λ l. Has l p.0) lists p.1 in
        let some : 1 ≤ records = some_count (HasIt db key) records p.0.sysno is ((key_posted content db key p.0.sysno).1 (p.0, here, refl)) in
        let number : it.2 ≡ records = one_count (HasIt db key) it.2 records (count_so (HasIt it.0 it.1) (HasIt db key) it.2 (keys_same it.0 db it.1 key same.0 same.1) it.4) is in
        (some, few, ap (λ (r : Row). column r 0) same.2 ∙ ap (λ (n : ℕ). Int (pos n)) number);
    there = λ some.
        let n = some_counted (HasIt db key) records is some in
        (_, dict_there trees content db key n.0 holds n.1);
  }
    where
      few : records ≤ 999999999
      few = count_upto (HasIt db key) records 999999999 is (λ m has. let p = found_in db key m has in subst (λ k. (1 ≤ k) × (k ≤ 999999999)) p.2 (storable db key p.0 p.1).sysno)

  -- a key's count is the content's
  pub count_of_blocks : HoldsBlocks trees content → (db : ℤ) (key : Key) (records : ℕ) → CountsAs trees db key records → IsCount (HasIt db key) records
  count_of_blocks holds db key zero counts =
      count_none (HasIt db key) (λ n has. absurd (omega (arith, (counts.said (Int (pos (records_of (content db key))) ∷ []) (dict_there trees content db key n holds has)).0)))
  count_of_blocks holds db key (suc more) counts =
      let row = counts.there (omega arith) in
      let it = (holds.dict (key_row db key ++ row.0)).0 row.1 in
      let same = told_apart it.0 db it.1 key row.0 (Int (pos it.2) ∷ []) it.5 in
      let e : Int (pos it.2) ≡ Int (pos (suc more)) = sym (ap (λ (r : Row). column r 0) same.2) ∙ (counts.said row.0 row.1).2 in
      let number : it.2 ≡ suc more = cc in
      subst (IsCount (HasIt db key)) number (count_so (HasIt it.0 it.1) (HasIt db key) it.2 (keys_same it.0 db it.1 key same.0 same.1) it.4)

  pub blocks_by_units : IsStorable content → HoldsBlocks trees content → HoldsUnits packed_blocks trees content
  blocks_by_units storable holds = record {
    rising = holds.rising;
    units = λ db key sysno. held_units trees content (block_rows trees content holds) db key sysno;
    counts = held_counts storable holds;
    alone = record {
      blocks = λ row there. let it = (holds.blocks row).0 there in (it.0, it.1, it.2, it.3, it.5);
      dict = λ row there. let it = (holds.dict row).0 there in (it.0, it.1, it.2, it.5);
      alone = holds.alone;
    };
  }

  -- where each block reads as the content's part in it, and each row is one of a block, the rows are those of the content
  module _ (reads : (db : ℤ) (key : Key) (block : ℕ) → BlockReads trees db key block (part_in block (content db key)))
      (forms : (row : Row) → HasRow trees blocks_tree row → (db : ℤ) × (key : Key) × (block : ℕ) × (bytes : List ℕ) × (row ≡ block_row db key block bytes)) where
    spells_block : (db : ℤ) (key : Key) (block : ℕ) (bytes : List ℕ) → HasRow trees blocks_tree (block_row db key block bytes) → BlockSpells block (part_in block (content db key)) bytes
    spells_block db key block bytes there =
        let it = (reads db key block).spelled (Int (pos block) ∷ Blob bytes ∷ []) (there, refl) in
        let e : Int (pos block) ≡ Int (pos it.0) = it.2 in
        let f : Blob bytes ≡ Blob it.1 = it.3 in
        let b : it.0 ≡ block = cc in
        let d : it.1 ≡ bytes = cc in
        subst (λ x. BlockSpells block (part_in block (content db key)) x) d (subst (λ k. BlockSpells k (part_in block (content db key)) it.1) b it.4)

    pub rows_held : (row : Row) → HasRow trees blocks_tree row ↔ IsBlockRow content row
    rows_held row = (
      λ there.
          let it = forms row there in
          (it.0, it.1, it.2, it.3, spells_block it.0 it.1 it.2 it.3 (subst (HasRow trees blocks_tree) it.4 there), it.4),
      λ it.
          let at = (reads it.0 it.1 it.2).there it.4.some in
          let form = forms (key_row it.0 it.1 ++ at.0) at.1.0 in
          let is : at.0 ≡ Int (pos form.2) ∷ Blob form.3 ∷ [] = (told_apart form.0 it.0 form.1 it.1 at.0 (Int (pos form.2) ∷ Blob form.3 ∷ []) form.4).2 in
          let e : Int (pos form.2) ≡ Int (pos it.2) = sym (ap (λ (r : Row). column r 0) is) ∙ at.1.1 in
          let b : form.2 ≡ it.2 = cc in
          let row' : at.0 ≡ Int (pos it.2) ∷ Blob form.3 ∷ [] = is ∙ ap (λ (n : ℕ). Int (pos n) ∷ Blob form.3 ∷ []) b in
          let there : HasRow trees blocks_tree (block_row it.0 it.1 it.2 form.3) = subst (λ (r : Row). HasRow trees blocks_tree (key_row it.0 it.1 ++ r)) row' at.1.0 in
          let bytes : form.3 ≡ it.3 = (spells_block it.0 it.1 it.2 form.3 there).spelled ∙ sym it.4.spelled in
          subst (HasRow trees blocks_tree) (sym it.5) (subst (λ d. HasRow trees blocks_tree (block_row it.0 it.1 it.2 d)) bytes there),
    )

  pub rows_numbered : ((db : ℤ) (key : Key) (block : ℕ) → BlockReads trees db key block (part_in block (content db key))) → (db : ℤ) (key : Key) (p : Posting) → Has (content db key) p → IsNumbered p
  rows_numbered all db key p here =
      let reads = all db key (p.sysno / 256) in
      let at = in_part (p.sysno / 256) (content db key) p here refl in
      let row = reads.there (not_empty _ p at) in
      all_has IsNumbered _ p (reads.spelled row.0 row.1).4.lies.numbered at

  module _ (holds : HoldsUnits packed_blocks trees content) where
    -- a block reads as the content's part in it
    pub block_of : (db : ℤ) (key : Key) (block : ℕ) → BlockReads trees db key block (part_in block (content db key))
    block_of db key block = subst (BlockReads trees db key block) same reads
      where
        list : List Posting
        list = content db key

        unit : ReadsAs trees db key (256 * block) (places_in (256 * block) list)
        unit = holds.units db key (256 * block)

        number : (256 * block) / 256 ≡ block
        number = omega arith

        reads : BlockReads trees db key block unit.0
        reads = subst (λ b. BlockReads trees db key b unit.0) number unit.1

        spelled_so : (p : Posting) → Has unit.0 p → (row : Row) × SpellsPart row unit.0 × (column row 0 ≡ Int (pos block))
        spelled_so p here = let row = reads.there (not_empty unit.0 p here) in (row.0, reads.spelled row.0 row.1, row.1.1)

        near : (p : Posting) → Has unit.0 p → p.sysno / 256 ≡ block
        near p here =
            let it = spelled_so p here in
            let e : Int (pos it.1.0) ≡ Int (pos block) = sym it.1.2 ∙ it.2 in
            let b : it.1.0 ≡ block = cc in
            all_has (λ (q : Posting). q.sysno / 256 ≡ it.1.0) unit.0 p it.1.4.lies.inside here ∙ b

        -- the places of a record of the block
        places : (n : ℕ) → n / 256 ≡ block → places_in n list ≡ places_in n unit.0
        places n in_it =
            let other = holds.units db key n in
            other.2 ∙ ap (places_in n) (one_block_read trees db key block other.0 unit.0 (subst (λ b. BlockReads trees db key b other.0) in_it other.1) reads)

        rises : (part : List Posting) → unit.0 ≡ part → IsStrictlySortedBy posting_cmp unit.0
        rises [] is = subst (IsStrictlySortedBy posting_cmp) (sym is) none_rises
        rises (p ∷ part) is = (spelled_so p (subst (λ l. Has l p) (sym is) (inl refl))).1.4.lies.rising

        same : unit.0 ≡ part_in block list
        same = same_list posting_total unit.0 (part_in block list) (rises unit.0 refl) (kept_rises posting_total (λ q. nat_eq (q.sysno / 256) block) list (holds.rising db key))
            (λ p h. in_part block list p (in_place list p (subst (λ l. Has l (place_of p)) (sym (places p.sysno (near p h))) (place_in unit.0 p h))) (near p h))
            (λ p h. in_place unit.0 p (subst (λ l. Has l (place_of p)) (places p.sysno (part_in_block block list p h)) (place_in list p (part_in_list block list p h))))

    dict_held : (row : Row) → HasRow trees dict_tree row ↔ IsDictRow content row
    dict_held row = (
      λ there.
          let it = holds.alone.dict row there in
          let n = records_of (content it.0 it.1) in
          let count = counted_list it.0 it.1 in
          let said = (holds.counts it.0 it.1 n count).said (Int (pos it.2) ∷ []) (subst (HasRow trees dict_tree) it.3 there) in
          let e : Int (pos it.2) ≡ Int (pos n) = said.2 in
          let number : n ≡ it.2 = cc in
          let has = some_counted (HasIt it.0 it.1) n count said.0 in
          let p = found_in it.0 it.1 has.0 has.1 in
          (it.0, it.1, it.2, not_empty (content it.0 it.1) p.0 p.1, subst (IsCount (HasIt it.0 it.1)) number count, it.3),
      λ it.
          let counts = holds.counts it.0 it.1 it.2 it.4 in
          let p = some_posting (content it.0 it.1) it.3 in
          let none : it.2 ≢ 0 = λ zero'. counted_none (HasIt it.0 it.1) it.2 p.0.sysno it.4 zero' ((key_posted content it.0 it.1 p.0.sysno).1 (p.0, p.1, refl)) in
          let at = counts.there (omega (arith, none)) in
          let form = holds.alone.dict (key_row it.0 it.1 ++ at.0) at.1 in
          let is : at.0 ≡ Int (pos form.2) ∷ [] = (told_apart form.0 it.0 form.1 it.1 at.0 (Int (pos form.2) ∷ []) form.3).2 in
          let e : Int (pos form.2) ≡ Int (pos it.2) = sym (ap (λ (r : Row). column r 0) is) ∙ (counts.said at.0 at.1).2 in
          let number : form.2 ≡ it.2 = cc in
          let row' : at.0 ≡ Int (pos it.2) ∷ [] = is ∙ ap (λ (n : ℕ). Int (pos n) ∷ []) number in
          subst (HasRow trees dict_tree) (sym it.5) (subst (λ (r : Row). HasRow trees dict_tree (key_row it.0 it.1 ++ r)) row' at.1),
    )

    pub units_by_blocks : HoldsBlocks trees content
    units_by_blocks = record {
      rising = holds.rising;
      numbered = rows_numbered block_of;
      blocks = rows_held block_of holds.alone.blocks;
      dict = dict_held;
      alone = holds.alone.alone;
    }

-- a miscounted key has no count
pub miscounted_none : (trees : Trees) (db : ℤ) (key : Key) (records : ℕ) → IsMiscounted trees db key → CountsAs trees db key records → ⊥
miscounted_none trees db key records bad counts = let it = counts.said bad.0 bad.1 in bad.2 (records, it.2, it.0, it.1)
