-- What follows of changes of a key's units in packed blocks: for tables that hold a content, and for rows whatever they say.
use Rattle.zeb_register.proofs.Cited.{true, HasRow, ◌≡◌, ◌≢◌, ◌↔◌, ◌∙◌, ◌/◌, ◌≤◌, ℕ, ℤ, zero, suc, pos, List, [], ◌∷◌, ◌++◌, nat_eq, refl, sym, ap, subst, inl, inr, arith, eqb_tells, AllByRecursion, Int, Blob, Row, column, Trees, Has, all_has, Posting, Key, Place, RecordChange, AreChangedAt, ArePlacesOf, Content, HasRisingLists, IsStorable, posted, posting_at, HasKey, IsCount, HoldsBlocks, block_row, part_in, key_row, HoldsBlockRows, IsInRecord, KeepsMalformed, KeepsRowsBeside, blocks_tree, dict_tree, postings_tree, ap₂, length, not, ◌==◌, packed_blocks, IsRest, OldsRise, places_in, BlockReads, CountsAs, IsOfBlock, ReadsAs, units_of, KeepsBut, IsTold, IsBlockAmong, IsBlockIn, IsOwnBlock, AllowsChanges, IsStorableChange, IsTouched, KeyUnits, LacksBlock, PutsUnits}
use Rattle.zeb_register.proofs.ContentChanges.{posting_total, told_spot, with_list}
use Rattle.zeb_register.proofs.ContentLemmas.{told_apart}
use Rattle.zeb_register.proofs.CountLemmas.{count_none, count_so, counted_none}
use Rattle.zeb_register.proofs.ListChanges.{content_changed, content_rises}
use Rattle.zeb_register.proofs.Malformed.{key_begins, table_same}
use Rattle.zeb_register.proofs.OccurringLemmas.{key_posted}
use Rattle.zeb_register.proofs.PackedLemmas.{block_rows, dict_there, in_part, not_empty, part_in_block, part_in_list}
use Rattle.zeb_register.proofs.RisingLists.{kept_rises, same_list}
use Rattle.zeb_register.proofs.TermsAmong.{records_count, records_of}
use Rattle.zeb_register.proofs.BlockUnits.{held_block, held_units, one_block_read, one_reading, read_rises}
use Rattle.zeb_register.proofs.KeyPlaces.{in_place, place_in, place_of}
use Rattle.zeb_register.proofs.ContentTurns.{AreUnitsIn, InRange, count_turned, list_kept, list_there, list_turned, touched, units_turned}
use Rattle.zeb_register.proofs.PackedChanges.{blocks_changed}
use Rattle.zeb_register.proofs.BlockContents.{counted_list, held_counts, rows_held, rows_numbered}

-- ---- rows of the key, and others

one_pos : (m n : ℕ) → Int (pos m) ≡ Int (pos n) → m ≡ n
one_pos m n same = cc

module _ (db : ℤ) (key : Key) (changes : List RecordChange) (old new : Trees) (puts : PutsUnits packed_blocks db key changes old new) where
  pub rows_beside : KeepsRowsBeside (key_row db key) old new
  rows_beside = record {
    postings = table_same (key_row db key) postings_tree old new puts.rows.postings;
    blocks = λ row apart. (
      λ h. elim (puts.rows.blocks.comes row h) [ inl was ↦ was.0 | inr own ↦ absurd (apart (Int (pos own.0) ∷ Blob own.1 ∷ []) own.3) ],
      λ h. puts.rows.blocks.stays row (λ in_it. let it = key_begins db key row in_it.2.0 in_it.2.1 in_it.2.2 in_it.2.3 in apart it.0 it.1) h,
    );
    dict = λ row apart. (
      λ h. elim ((puts.rows.dict row).0 h) [ inl was ↦ was.0 | inr own ↦ absurd (apart (Int (pos puts.are.records) ∷ []) own.1) ],
      λ h. (puts.rows.dict row).1 (inl (h, λ in_it. let it = key_begins db key row in_it.0 in_it.1 in_it.2 in_it.3 in apart it.0 it.1)),
    );
  }

  pub malformed_kept : KeepsMalformed old new
  malformed_kept = record {
    blocks = λ row bad there. puts.rows.blocks.stays row (λ among.
        let in_it = among.2 in
        let it = key_begins db key row in_it.0 in_it.1 in_it.2 in_it.3 in
        let at = subst (λ (r : Row). column r 4 ≡ Int (pos among.0)) it.1 in_it.4 in
        let number = among.1.0.sysno in
        let reads = puts.allowed.found number (among.1.0, among.1.1, refl) in
        bad (db, key, it.0, reads.0, it.1, puts.text, reads.1.spelled it.0 (subst (HasRow old blocks_tree) it.1 there, at ∙ ap (λ (n : ℕ). Int (pos n)) (sym among.1.2)))) there;
    dict = λ row bad there. (puts.rows.dict row).1 (inl (
      there,
      λ in_it.
          let it = key_begins db key row in_it.0 in_it.1 in_it.2 in_it.3 in
          let said = puts.allowed.count.is.said it.0 (subst (HasRow old dict_tree) it.1 there) in
          bad (db, key, it.0, it.1, puts.text, (puts.were.records, said.2, said.0, said.1)),
    ));
  }

-- ---- rows of a key that no change touches

pub keeps_reads : (db : ℤ) (key : Key) (changes : List RecordChange) (block : ℕ) (old new : Trees) (part : List Posting) → ¬ IsTouched changes block
    → KeepsBut (IsBlockAmong db key changes) (IsOwnBlock db key changes) blocks_tree old new → BlockReads old db key block part → BlockReads new db key block part
keeps_reads db key changes block old new part none keeps reads = record {
  spelled = λ row of. elim (keeps.comes (key_row db key ++ row) of.0) [
    | inl was ↦ reads.spelled row (was.0, of.1)
    | inr own ↦
        let is : row ≡ Int (pos own.0) ∷ Blob own.1 ∷ [] = (told_apart db db key key row (Int (pos own.0) ∷ Blob own.1 ∷ []) own.3).2 in
        let same = one_pos own.0 block (sym (ap (λ (r : Row). column r 0) is) ∙ of.1) in
        absurd (none (subst (IsTouched changes) same own.2))
  ];
  there = λ some.
      let it = reads.there some in
      (it.0, (keeps.stays (key_row db key ++ it.0) (λ among. none (subst (IsTouched changes) (one_pos among.0 block (sym among.2.4 ∙ it.1.1)) among.1)) it.1.0, it.1.1));
}

-- ---- what the rows of a key are read as

module _ (trees : Trees) (db : ℤ) (key : Key) (block : ℕ) where
  pub reads_told : (list : List Posting) → BlockReads trees db key block list → IsTold (not (length list == 0)) (IsBlockIn db key block) blocks_tree trees
  reads_told [] reads = λ row there in_it.
      let it = key_begins db key row in_it.0 in_it.1 in_it.2 in_it.3 in
      let at = subst (λ (r : Row). column r 4 ≡ Int (pos block)) it.1 in_it.4 in
      (reads.spelled it.0 (subst (λ (r : Row). (id : ℤ) × Has (trees blocks_tree) (Int id ∷ r)) it.1 there, at)).4.some refl
  reads_told (p ∷ list) reads = elim (eqb_tells (length (p ∷ list)) 0) [
    | inl none ↦ absurd (omega (arith, none.1))
    | inr some ↦
        let row = reads.there (λ none. cc) in
        let there : IsTold true (IsBlockIn db key block) blocks_tree trees = (key_row db key ++ row.0, row.1.0, (refl, refl, refl, refl, row.1.1)) in
        subst (λ b. IsTold (not b) (IsBlockIn db key block) blocks_tree trees) (sym some.0) there
  ]

pub some_or : (list : List Posting) → ((p : Posting) → ¬ Has list p) → [] ≡ list
some_or [] none = refl
some_or (p ∷ list) none = absurd (none p (inl refl))

module _ (trees : Trees) (content : Content) (db : ℤ) (key : Key) (holds : HoldsBlocks trees content) where
  dict_row_is : (row : Row) → IsRest dict_tree (key_row db key) trees row → (records : ℕ) × (row ≡ Int (pos records) ∷ []) × IsCount (HasKey (posted content db) key) records × (content db key ≡ [] → ⊥)
  dict_row_is row there =
      let it = (holds.dict _).0 there in
      let same = told_apart it.0 db it.1 key row (Int (pos it.2) ∷ []) it.5 in (
        it.2,
        same.2,
        subst (λ k. IsCount (HasKey (posted content db) k) it.2) same.1 (subst (λ d. IsCount (HasKey (posted content d) it.1) it.2) same.0 it.4),
        λ none. it.3 (ap₂ content same.0 same.1 ∙ none),
      )

  pub row_counts : (row : Row) (records : ℕ) → IsRest dict_tree (key_row db key) trees row → column row 0 ≡ Int (pos records) → IsCount (HasKey (posted content db) key) records
  row_counts row records there shown =
      let it = dict_row_is row there in
      let same : Int (pos it.0) ≡ Int (pos records) = ap (λ (r : Row). column r 0) (sym it.1) ∙ shown in
      let number : it.0 ≡ records = cc in
      subst (IsCount (HasKey (posted content db) key)) number it.2

-- ---- tables that hold a content

module _ (db : ℤ) (key : Key) (changes : List RecordChange) (old : Trees) (content : Content) (holds : HoldsBlocks old content) where
  abbrev list : List Posting
  list = content db key

  abbrev In : ℕ → Type 0
  In n = IsTouched changes (n / 256)

  -- a unit reads as the places of the content
  pub places_of : (n : ℕ) (places : List Place) → ReadsAs old db key n places → ArePlacesOf n places list
  places_of n places reads place =
      let its : places ≡ places_in n list = one_reading old db key n places (places_in n list) reads (held_units old content (block_rows old content holds) db key n) in (
        λ h. in_place list (posting_at n place) (subst (λ l. Has l place) its h),
        λ h. subst (λ l. Has l place) (sym its) (place_in list (posting_at n place) h),
      )

  pub count_of : (records : ℕ) → CountsAs old db key records → IsCount (IsInRecord list) records
  count_of zero counts = count_none (IsInRecord list) (λ n has.
      let there = dict_there old content db key n holds ((key_posted content db key n).1 has) in
      let said = counts.said _ there in
      omega (arith, said.0))
  count_of (suc records) counts =
      let row = counts.there (omega arith) in
      count_so (HasKey (posted content db) key) (IsInRecord list) (suc records) (key_posted content db key) (row_counts old content db key holds row.0 (suc records) row.1 (counts.said row.0 row.1).2)

  -- the rows allow each change of the content
  uncounted : records_of list ≡ 0 → (block : ℕ) → LacksBlock db key block old
  uncounted none block =
      let empty : [] ≡ part_in block list = some_or (part_in block list) (λ p h. counted_none (IsInRecord list) (records_of list) p.sysno (records_count list) none (p, part_in_list block list p h, refl)) in
      reads_told old db key block [] (subst (BlockReads old db key block) (sym empty) (held_block old content (block_rows old content holds) db key block))

  pub allows_held : IsStorable content → AllByRecursion IsStorableChange changes → OldsRise changes → (after : Content) → AreChangedAt db key changes content after → (were : KeyUnits) × (are : KeyUnits) × AllowsChanges packed_blocks db key changes old were are
  allows_held storable stored rise after change =
      let range : InRange list = λ n has. subst (λ m. (1 ≤ m) × (m ≤ 999999999)) has.2 (storable db key has.0 has.1).sysno in
      let turns = units_turned packed_blocks changes list (after db key) (records_of list) stored rise range (holds.rising db key) (records_count list) change.list in (
        units_of list (records_of list),
        turns.0,
        record {
          count = record {
            is = held_counts old content storable holds db key (records_of list) (counted_list old content db key);
            lacks = λ none block touch. uncounted none block;
          };
          found = λ n it. held_units old content (block_rows old content holds) db key n;
          turns = turns.1;
        },
      )

  module _ (new : Trees) (puts : PutsUnits packed_blocks db key changes old new) where
    are_in_list : AreUnitsIn In puts.were list
    are_in_list n it = places_of n (puts.were.places n) (puts.allowed.found n it)

    pub change_there : (after : Content) × AreChangedAt db key changes content after
    change_there =
        let made = list_there packed_blocks In changes puts.were puts.are list (λ change here. (change, here, refl)) (holds.rising db key) puts.allowed.turns are_in_list in
        (with_list db key made.0 content, content_changed db key changes content made.0 made.1)

    module _ (after : Content) (change : AreChangedAt db key changes content after) where
      abbrev then' : List Posting
      then' = after db key

      next : AreUnitsIn In puts.are then'
      next = list_turned packed_blocks In changes puts.were puts.are list then' puts.allowed.turns change.list are_in_list

      counted_next : IsCount (IsInRecord then') puts.are.records
      counted_next = count_turned changes puts.were puts.are list then' puts.allowed.turns change.list (count_of puts.were.records puts.allowed.count.is)

      rises : HasRisingLists after
      rises = content_rises db key changes content after holds.rising change

      -- a block that is touched reads as the content says
      module _ (block : ℕ) (touch : IsTouched changes block) where
        abbrev reads_new : ReadsAs new db key touch.0.sysno (puts.are.places touch.0.sysno)
        reads_new = puts.put touch.0.sysno (touch.0, touch.1, refl)

        abbrev part : List Posting
        part = reads_new.0

        reads : BlockReads new db key block part
        reads = subst (λ b. BlockReads new db key b part) touch.2 reads_new.1

        near : (p : Posting) → Has part p → p.sysno / 256 ≡ block
        near p here =
            let row = reads.there (not_empty part p here) in
            let spells = reads.spelled row.0 row.1 in
            all_has (λ (q : Posting). q.sysno / 256 ≡ spells.0) part p spells.4.lies.inside here ∙ one_pos spells.0 block (sym spells.2 ∙ row.1.1)

        -- the unit of a record of the block
        unit_is : (n : ℕ) → n / 256 ≡ block → puts.are.places n ≡ places_in n part
        unit_is n at =
            let it = puts.put n (touch.0, touch.1, touch.2 ∙ sym at) in
            it.2 ∙ ap (places_in n) (one_block_read new db key block it.0 part (subst (λ b. BlockReads new db key b it.0) at it.1) reads)

        pub touched_reads : BlockReads new db key block (part_in block then')
        touched_reads = subst (BlockReads new db key block) same reads
          where
            same : part ≡ part_in block then'
            same = same_list posting_total part (part_in block then') (read_rises new db key block part reads) (kept_rises posting_total (λ q. nat_eq (q.sysno / 256) block) then' (rises db key))
                (λ p h.
                let at = near p h in
                let placed' = subst (λ l. Has l (place_of p)) (sym (unit_is p.sysno at)) (place_in part p h) in
                in_part block then' p ((next p.sysno (touch.0, touch.1, touch.2 ∙ sym at) (place_of p)).0 placed') at)
                (λ p h.
                let at = part_in_block block then' p h in
                let placed' = (next p.sysno (touch.0, touch.1, touch.2 ∙ sym at) (place_of p)).1 (part_in_list block then' p h) in
                in_place part p (subst (λ l. Has l (place_of p)) (unit_is p.sysno at) placed'))

      untouched_part : (block : ℕ) → ¬ IsTouched changes block → part_in block list ≡ part_in block then'
      untouched_part block none =
          same_list posting_total (part_in block list) (part_in block then') (kept_rises posting_total (λ q. nat_eq (q.sysno / 256) block) list (holds.rising db key)) (kept_rises posting_total (λ q. nat_eq (q.sysno / 256) block) then' (rises db key))
          (λ p h. let at = part_in_block block list p h in in_part block then' p ((list_kept changes list then' change.list p (stays p at)).1 (part_in_list block list p h)) at)
          (λ p h. let at = part_in_block block then' p h in in_part block list p ((list_kept changes list then' change.list p (stays p at)).0 (part_in_list block then' p h)) at)
        where
          stays : (p : Posting) → p.sysno / 256 ≡ block → (x : RecordChange) → Has changes x → x.sysno ≢ p.sysno
          stays p at x here same = none (x, here, ap (λ n. n / 256) same ∙ at)

      other_row : (d : ℤ) (k : Key) → ¬ ((d ≡ db) × (k ≡ key)) → (block : ℕ) (row : Row) → IsOfBlock new d k block row ↔ IsOfBlock old d k block row
      other_row d k other block row = (
        λ of. (
          elim (puts.rows.blocks.comes (key_row d k ++ row) of.0) [
            | inl was ↦ was.0
            | inr own ↦ let it = told_apart db d key k row (Int (pos own.0) ∷ Blob own.1 ∷ []) own.3 in absurd (other (sym it.0, sym it.1))
          ],
          of.1,
        ),
        λ of. (
          puts.rows.blocks.stays (key_row d k ++ row) (λ among.
              let it = key_begins db key (key_row d k ++ row) among.2.0 among.2.1 among.2.2 among.2.3 in
              let same = told_apart db d key k row it.0 it.1 in
              other (sym same.0, sym same.1)) of.0,
          of.1,
        ),
      )

      all_read : (d : ℤ) (k : Key) (block : ℕ) → BlockReads new d k block (part_in block (after d k))
      all_read d k block = elim (told_spot d db k key) [
        | inl same ↦ subst (λ x. BlockReads new x k block (part_in block (after x k))) (sym same.0) (subst (λ x. BlockReads new db x block (part_in block (after db x))) (sym same.1) own)
        | inr other ↦
            let was = held_block old content (block_rows old content holds) d k block in
            let moved : BlockReads new d k block (part_in block (content d k)) = record {
              spelled = λ row of. was.spelled row ((other_row d k other block row).0 of);
              there = λ some. let it = was.there some in (it.0, (other_row d k other block it.0).1 it.1);
            } in
            subst (λ l. BlockReads new d k block (part_in block l)) (sym (change.others d k other)) moved
      ]
        where
          own : BlockReads new db key block (part_in block then')
          own = elim (touched changes block) [
            | inl touch ↦ touched_reads block touch
            | inr none ↦
                let was = keeps_reads db key changes block old new (part_in block list) none puts.rows.blocks (held_block old content (block_rows old content holds) db key block) in
                subst (BlockReads new db key block) (untouched_part block none) was
          ]

      forms : (row : Row) → HasRow new blocks_tree row → (d : ℤ) × (k : Key) × (block : ℕ) × (bytes : List ℕ) × (row ≡ block_row d k block bytes)
      forms row there = elim (puts.rows.blocks.comes row there) [
        | inl was ↦ let it = (holds.blocks row).0 was.0 in (it.0, it.1, it.2, it.3, it.5)
        | inr own ↦ (db, key, own.0, own.1, own.3)
      ]

      pub content_held : HoldsBlocks new after
      content_held =
          let rows : HoldsBlockRows new after = record { rising = rises; numbered = rows_numbered new after all_read; blocks = rows_held new after all_read forms } in
          blocks_changed db key changes content after change puts.are.records counted_next old new holds puts.rows.dict rows puts.rows.postings
