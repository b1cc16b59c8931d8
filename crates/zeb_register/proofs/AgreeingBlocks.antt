-- What is expected of whole tables, with packed blocks.
use Rattle.zeb_register.proofs.Cited.{Row, State, Trees, Int, Blob, Has, ◌≡◌, ◌≢◌, ◌↔◌, ◌∙◌, ℕ, ℤ, pos, List, [], ◌∷◌, ◌++◌, drop, refl, sym, ap, subst, inl, Posting, BlockSpells, Key, Blocks, Dict, ListedDatabase, Expected, ExpectedDatabase, AreDatabases, posted, AreExpected, IsOrdered, packed_blocks, HasKey, HoldsBlocks, part_in, BelongsTo, TableHolds, IsBlockRest, IsDictRest, IsThere, ListsAgree, key_shown, list_under, with_key, IsInRecord, HasRow, IsStore, blocks_tree, dict_tree, postings_tree}
use Rattle.zeb_register.proofs.CountLemmas.{count_so}
use Rattle.zeb_register.proofs.ExpectedStatements.{owner_row}
use Rattle.zeb_register.proofs.AgreeingTables.{content, content_at, content_there, content_up, id_is, posted_as, put_together, there_is, there_of}
use Rattle.zeb_register.proofs.AgreeingRows.{empty_belongs, no_postings, same_row}
use Rattle.zeb_register.proofs.OccurringLemmas.{key_posted}
use Rattle.zeb_register.proofs.PackedLemmas.{part_in_list}
use Rattle.zeb_register.proofs.PostingStatements.{blocks, blocks_static, dict, dict_static}

-- a list that isn't empty has a posting
some_in : (list : List Posting) → list ≢ [] → (p : Posting) × Has list p
some_in [] some = absurd (some refl)
some_in (p ∷ list) some = (p, inl refl)

module _ (s : State) (store : IsStore s) (expected : Expected) (ordered : IsOrdered expected) where
  abbrev databases : List ExpectedDatabase
  databases = expected.databases.items

  abbrev trees : Trees
  trees = s.now.trees

  abbrev pub BlocksAgree : Type 0
  BlocksAgree = TableHolds Blocks databases trees × (TableHolds Dict databases trees × BelongsTo postings_tree [] trees)

  module _ (are : AreExpected packed_blocks trees expected) where
    list_at : (id : ℤ) (d : ExpectedDatabase) (key : Key) → IsThere trees databases id d → are.content id key ≡ list_under key d.postings.items
    list_at = content_at s store expected ordered packed_blocks are are.held.rising

    count_at : (id : ℤ) (d : ExpectedDatabase) (key : Key) (there : IsThere trees databases id d) (n : ℕ) → HasKey (posted are.content id) key n ↔ IsInRecord (list_under key d.postings.items) n
    count_at id d key there n = (
      λ h. subst (λ l. IsInRecord l n) (list_at id d key there) ((key_posted are.content id key n).0 h),
      λ h. (key_posted are.content id key n).1 (subst (λ l. IsInRecord l n) (sym (list_at id d key there)) h),
    )

    -- a key with a posting is one of a database that is there
    database_of : (id : ℤ) (key : Key) → are.content id key ≢ [] → (d : ExpectedDatabase) × IsThere trees databases id d
    database_of id key some =
        let p = some_in (are.content id key) some in
        let at = (are.posted id key p.0).0 p.1 in
        (at.0, there_is s store expected ordered packed_blocks are id at.0 at.1)

    pub blocks_agree : BlocksAgree
    blocks_agree = (
      (
        λ id d there. (
          λ x here. are.held.numbered id x.key x.posting ((are.posted id x.key x.posting).1 (d, (there.0, id_is s store expected ordered packed_blocks are id d there), here)),
          λ row. (
            λ h.
                let it = (are.held.blocks (Int id ∷ row)).0 h in
                let same = same_row id it.0 it.1 (Int (pos it.2) ∷ Blob it.3 ∷ []) row it.5 in
                let list : are.content it.0 it.1 ≡ list_under it.1 d.postings.items = ap (λ (i : ℤ). are.content i it.1) (sym same.0) ∙ list_at id d it.1 there in
                (it.1, it.2, it.3, subst (λ l. BlockSpells it.2 (part_in it.2 l) it.3) list it.4, same.1),
            λ h. (are.held.blocks (Int id ∷ row)).1 (id, h.0, h.1, h.2, subst (λ l. BlockSpells h.1 (part_in h.1 l) h.2) (sym (list_at id d h.0 there)) h.3, ap (λ (x : Row). Int id ∷ x) h.4),
          ),
        ),
        λ id owns.
            let it = (are.held.blocks (Int id ∷ owns.0)).0 owns.1 in
            let same = same_row id it.0 it.1 (Int (pos it.2) ∷ Blob it.3 ∷ []) owns.0 it.5 in
            let d = database_of it.0 it.1 (λ none. it.4.some (ap (part_in it.2) none)) in
            (d.0, subst (λ (i : ℤ). IsThere trees databases i d.0) (sym same.0) d.1),
      ),
      (
        (
          λ id d there row. (
            λ h.
                let it = (are.held.dict (Int id ∷ row)).0 h in
                let same = same_row id it.0 it.1 (Int (pos it.2) ∷ []) row it.5 in
                let list : are.content it.0 it.1 ≡ list_under it.1 d.postings.items = ap (λ (i : ℤ). are.content i it.1) (sym same.0) ∙ list_at id d it.1 there in
                let there' = subst (λ (i : ℤ). IsThere trees databases i d) same.0 there in
                (it.1, it.2, (λ none. it.3 (list ∙ none)), count_so _ _ it.2 (count_at it.0 d it.1 there') it.4, same.1),
            λ h.
                let list = list_at id d h.0 there in
                (are.held.dict (Int id ∷ row)).1 (id, h.0, h.1, (λ none. h.2 (sym list ∙ none)), count_so _ _ h.1 (λ n. ((count_at id d h.0 there n).1, (count_at id d h.0 there n).0)) h.3, ap (λ (x : Row). Int id ∷ x) h.4),
          ),
          λ id owns.
              let it = (are.held.dict (Int id ∷ owns.0)).0 owns.1 in
              let same = same_row id it.0 it.1 (Int (pos it.2) ∷ []) owns.0 it.5 in
              let d = database_of it.0 it.1 it.3 in
              (d.0, subst (λ (i : ℤ). IsThere trees databases i d.0) (sym same.0) d.1),
        ),
        empty_belongs postings_tree trees are.held.alone,
      ),
    )

  module _ (listed : List ListedDatabase) (are : AreDatabases trees listed) (lists : ListsAgree trees expected) (rows : BlocksAgree) where
    list_there : (id : ℤ) (d : ExpectedDatabase) (key : Key) → IsThere trees databases id d → content s store expected ordered listed are lists id key ≡ list_under key d.postings.items
    list_there = content_there s store expected ordered listed are lists

    from_content : (id : ℤ) (key : Key) (p : Posting) → Has (content s store expected ordered listed are lists id key) p → (d : ExpectedDatabase) × (there : IsThere trees databases id d) × Has d.postings.items (with_key key p)
    from_content id key p h =
        let at = (posted_as s store expected ordered listed are lists id key p).0 h in
        (at.0, there_of s store expected ordered listed are lists id at.0 at.1, at.2)

    counted : (id : ℤ) (d : ExpectedDatabase) (key : Key) (there : IsThere trees databases id d) (n : ℕ) → HasKey (posted (content s store expected ordered listed are lists) id) key n ↔ IsInRecord (list_under key d.postings.items) n
    counted id d key there n = (
      λ h. subst (λ l. IsInRecord l n) (list_there id d key there) ((key_posted (content s store expected ordered listed are lists) id key n).0 h),
      λ h. (key_posted (content s store expected ordered listed are lists) id key n).1 (subst (λ l. IsInRecord l n) (sym (list_there id d key there)) h),
    )

    held : HoldsBlocks trees (content s store expected ordered listed are lists)
    held = record {
      rising = content_up s store expected ordered listed are lists;
      numbered = λ id key p h. let at = from_content id key p h in (rows.0.0 id at.0 at.1).0 (with_key key p) at.2;
      blocks = λ row. (
        λ h.
            let it = owner_row 4 blocks blocks_static _ refl s (Int h.0 ∷ row) store h.1 in
            let same : row ≡ Int it.1 ∷ it.2 = ap (drop 1) it.3 in
            let has : HasRow trees blocks_tree (Int it.1 ∷ it.2) = subst (HasRow trees blocks_tree) same h in
            let d = rows.0.1 it.1 (it.2, has) in
            let r = ((rows.0.0 it.1 d.0 d.1).1 it.2).0 has in
            (it.1, r.0, r.1, r.2, subst (λ l. BlockSpells r.1 (part_in r.1 l) r.2) (sym (list_there it.1 d.0 r.0 d.1)) r.3, same ∙ ap (λ (x : Row). Int it.1 ∷ x) r.4),
        λ it.
            let p = some_in (part_in it.2 (content s store expected ordered listed are lists it.0 it.1)) it.4.some in
            let at = from_content it.0 it.1 p.0 (part_in_list it.2 (content s store expected ordered listed are lists it.0 it.1) p.0 p.1) in
            let row' : Row = key_shown it.1 ++ Int (pos it.2) ∷ Blob it.3 ∷ [] in
            let rest : IsBlockRest at.0.postings.items row' = (it.1, it.2, it.3, subst (λ l. BlockSpells it.2 (part_in it.2 l) it.3) (list_there it.0 at.0 it.1 at.1) it.4, refl) in
            subst (HasRow trees blocks_tree) (sym it.5) (((rows.0.0 it.0 at.0 at.1).1 row').1 rest),
      );
      dict = λ row. (
        λ h.
            let it = owner_row 5 dict dict_static _ refl s (Int h.0 ∷ row) store h.1 in
            let same : row ≡ Int it.1 ∷ it.2 = ap (drop 1) it.3 in
            let has : HasRow trees dict_tree (Int it.1 ∷ it.2) = subst (HasRow trees dict_tree) same h in
            let d = rows.1.0.1 it.1 (it.2, has) in
            let r = (rows.1.0.0 it.1 d.0 d.1 it.2).0 has in
            let list = list_there it.1 d.0 r.0 d.1 in
            (it.1, r.0, r.1, (λ none. r.2 (sym list ∙ none)), count_so _ _ r.1 (λ n. ((counted it.1 d.0 r.0 d.1 n).1, (counted it.1 d.0 r.0 d.1 n).0)) r.3, same ∙ ap (λ (x : Row). Int it.1 ∷ x) r.4),
        λ it.
            let p = some_in (content s store expected ordered listed are lists it.0 it.1) it.3 in
            let at = from_content it.0 it.1 p.0 p.1 in
            let list = list_there it.0 at.0 it.1 at.1 in
            let row' : Row = key_shown it.1 ++ Int (pos it.2) ∷ [] in
            let rest : IsDictRest at.0.postings.items row' = (it.1, it.2, (λ none. it.3 (list ∙ none)), count_so _ _ it.2 (counted it.0 at.0 it.1 at.1) it.4, refl) in
            subst (HasRow trees dict_tree) (sym it.5) ((rows.1.0.0 it.0 at.0 at.1 row').1 rest),
      );
      alone = no_postings s store rows.1.1;
    }

    pub blocks_expected : AreExpected packed_blocks trees expected
    blocks_expected = put_together s store expected ordered listed are lists packed_blocks held
