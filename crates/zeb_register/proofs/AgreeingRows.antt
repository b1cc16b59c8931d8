-- What is expected of whole tables, with a row for each posting.
use Rattle.zeb_register.proofs.Cited.{Row, column, State, Trees, Int, has_mapped, mapped_has, Has, ◌≡◌, ◌∙◌, ℕ, ℤ, List, [], ◌∷◌, ◌++◌, map, drop, refl, sym, ap, subst, inl, Table, Key, Postings, ListedDatabase, Expected, ExpectedDatabase, AreDatabases, AreExpected, IsOrdered, plain_rows, HoldsRows, key_row, posting_row, BelongsTo, TableHolds, IsThere, LacksPacked, ListsAgree, key_shown, posting_shown, with_key, HasRow, IsStore, blocks_tree, dict_tree, postings_tree, store_schema}
use Rattle.zeb_register.proofs.ExpectedStatements.{owner_row}
use Rattle.zeb_register.proofs.AgreeingTables.{as_expected, content, content_up, id_is, one_of, posted_as, put_together, there_is, there_of}
use Rattle.zeb_register.proofs.PostingStatements.{blocks, blocks_static, dict, dict_static, postings, postings_static}
use Rattle.zeb_register.proofs.ValueKinds.{IsPlainTable, codes_of}

-- the row of a posting is that of its key behind its database
pub same_row : (id db : ℤ) (key : Key) (rest row : Row) → Int id ∷ row ≡ key_row db key ++ rest → (id ≡ db) × (row ≡ key_shown key ++ rest)
same_row id db key rest row same = ((let e : Int id ≡ Int db = ap (λ (r : Row). column r 0) same in let f : id ≡ db = cc in f), ap (drop 1) same)

-- ---- tables without rows

pub empty_belongs : (tree : ℕ) (trees : Trees) → trees tree ≡ [] → BelongsTo tree [] trees
empty_belongs tree trees none id owns = absurd (subst (λ rows. Has rows (Int owns.1.0 ∷ Int id ∷ owns.0)) none owns.1.1)

pub belongs_empty : (at : ℕ) (table : Table) (static : IsPlainTable store_schema at table) (more : List ℕ) → codes_of table ≡ 1 ∷ 1 ∷ more → (s : State) → IsStore s → BelongsTo table.tree [] s.now.trees → s.now.trees table.tree ≡ []
belongs_empty at table static more codes s store belongs = from (s.now.trees table.tree) refl
  where
    from : (rows : List Row) → s.now.trees table.tree ≡ rows → s.now.trees table.tree ≡ []
    from [] is = is
    from (r ∷ rows) is =
        let it = owner_row at table static more codes s r store (subst (λ l. Has l r) (sym is) (inl refl)) in
        let here : Has (s.now.trees table.tree) (Int it.0 ∷ Int it.1 ∷ it.2) = subst (λ l. Has l (Int it.0 ∷ Int it.1 ∷ it.2)) (sym is) (inl (sym it.3)) in
        absurd (belongs it.1 (it.2, (it.0, here))).1

pub no_blocks : (s : State) → IsStore s → BelongsTo blocks_tree [] s.now.trees → s.now.trees 9 ≡ []
no_blocks = belongs_empty 4 blocks blocks_static _ refl

pub no_dict : (s : State) → IsStore s → BelongsTo dict_tree [] s.now.trees → s.now.trees 11 ≡ []
no_dict = belongs_empty 5 dict dict_static _ refl

pub no_postings : (s : State) → IsStore s → BelongsTo postings_tree [] s.now.trees → s.now.trees 7 ≡ []
no_postings = belongs_empty 3 postings postings_static _ refl

module _ (s : State) (store : IsStore s) (expected : Expected) (ordered : IsOrdered expected) where
  abbrev databases : List ExpectedDatabase
  databases = expected.databases.items

  abbrev trees : Trees
  trees = s.now.trees

  abbrev pub RowsAgree : Type 0
  RowsAgree = TableHolds Postings databases trees × LacksPacked trees

  pub rows_agree : AreExpected plain_rows trees expected → RowsAgree
  rows_agree are = (
    (
      λ id d there row. (
        λ h.
            let it = (are.held.each (Int id ∷ row)).0 h in
            let same = same_row id it.0 it.1 (posting_row it.2) row it.4 in
            let at = (are.posted it.0 it.1 it.2).0 it.3 in
            let there' = subst (λ (i : ℤ). IsThere trees databases i d) same.0 there in
            let here : Has d.postings.items (with_key it.1 it.2) = subst (λ (e : ExpectedDatabase). Has e.postings.items (with_key it.1 it.2)) (one_of s store expected ordered plain_rows are it.0 d at.0 there' at.1) at.2 in
            subst (Has (map posting_shown d.postings.items)) (sym same.1) (mapped_has posting_shown d.postings.items (with_key it.1 it.2) here),
        λ h.
            let p = has_mapped posting_shown d.postings.items row h in
            let has = (are.posted id p.0.key p.0.posting).1 (d, (there.0, id_is s store expected ordered plain_rows are id d there), p.1) in
            (are.held.each (Int id ∷ row)).1 (id, p.0.key, p.0.posting, has, ap (λ (x : Row). Int id ∷ x) p.2),
      ),
      λ id owns.
          let it = (are.held.each (Int id ∷ owns.0)).0 owns.1 in
          let same = same_row id it.0 it.1 (posting_row it.2) owns.0 it.4 in
          let at = (are.posted it.0 it.1 it.2).0 it.3 in
          (at.0, subst (λ (i : ℤ). IsThere trees databases i at.0) (sym same.0) (there_is s store expected ordered plain_rows are it.0 at.0 at.1)),
    ),
    (empty_belongs blocks_tree trees are.held.alone.0, empty_belongs dict_tree trees are.held.alone.1),
  )

  module _ (listed : List ListedDatabase) (are : AreDatabases trees listed) (lists : ListsAgree trees expected) (rows : RowsAgree) where
    held : HoldsRows trees (content s store expected ordered listed are lists)
    held = record {
      rising = content_up s store expected ordered listed are lists;
      each = λ row. (
        λ h.
            let it = owner_row 3 postings postings_static _ refl s (Int h.0 ∷ row) store h.1 in
            let same : row ≡ Int it.1 ∷ it.2 = ap (drop 1) it.3 in
            let has : HasRow trees postings_tree (Int it.1 ∷ it.2) = subst (HasRow trees postings_tree) same h in
            let d = rows.0.1 it.1 (it.2, has) in
            let p = has_mapped posting_shown d.0.postings.items it.2 ((rows.0.0 it.1 d.0 d.1 it.2).0 has) in
            let posted = (posted_as s store expected ordered listed are lists it.1 p.0.key p.0.posting).1 (d.0, as_expected s store expected ordered listed are lists it.1 d.0 d.1, p.1) in
            (it.1, p.0.key, p.0.posting, posted, same ∙ ap (λ (x : Row). Int it.1 ∷ x) p.2),
        λ it.
            let at = (posted_as s store expected ordered listed are lists it.0 it.1 it.2).0 it.3 in
            let there = there_of s store expected ordered listed are lists it.0 at.0 at.1 in
            let has = (rows.0.0 it.0 at.0 there (posting_shown (with_key it.1 it.2))).1 (mapped_has posting_shown at.0.postings.items (with_key it.1 it.2) at.2) in
            subst (HasRow trees postings_tree) (sym it.4) has,
      );
      alone = (no_blocks s store rows.1.0, no_dict s store rows.1.1);
    }

    pub rows_expected : AreExpected plain_rows trees expected
    rows_expected = put_together s store expected ordered listed are lists plain_rows held
