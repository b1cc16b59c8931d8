-- Tables that have held rows beside their own.
use Rattle.zeb_packed.proofs.Cited.{◌≡◌, ◌↔◌, ◌⊎◌, ◌∙◌, ◌++◌, ◌==◌, ℕ, ℤ, pos, if◌then◌else◌, List, [], ◌∷◌, map, drop, refl, sym, ap, subst, inl, inr, Int, Row, Trees, Has, has_either, has_left, has_right, has_mapped, mapped_has, map-append, blocks_tree, Key, IsBlockIn, IsDictIn, told_apart, key_row, block_row, Blob, column, GainsAll, GainsRows, new_block_row, new_count_row, NewBlock, NewCount, NewRows, key_begins}

-- ---- tables are there that have the rows

abbrev rows_with : (rows table : List Row) → List Row
rows_with rows table = map (λ (row : Row). Int (pos 0) ∷ row) rows ++ table

rows_gained : (rows table : List Row) (row : Row) → ((id : ℤ) × Has (rows_with rows table) (Int id ∷ row)) ↔ (((id : ℤ) × Has table (Int id ∷ row)) ⊎ Has rows row)
rows_gained rows table row = (
  λ h. elim (has_either (map (λ (r : Row). Int (pos 0) ∷ r) rows) table (Int h.0 ∷ row) h.1) [
    | inl put ↦ let it = has_mapped (λ (r : Row). Int (pos 0) ∷ r) rows (Int h.0 ∷ row) put in inr (subst (Has rows) (sym (ap (drop 1) it.2)) it.1)
    | inr was ↦ inl (h.0, was)
  ],
  λ h. elim h [
    | inl was ↦ (was.0, has_right (map (λ (r : Row). Int (pos 0) ∷ r) rows) table (Int was.0 ∷ row) was.1)
    | inr there ↦ (pos 0, has_left (map (λ (r : Row). Int (pos 0) ∷ r) rows) table (Int (pos 0) ∷ row) (mapped_has (λ (r : Row). Int (pos 0) ∷ r) rows row there))
  ],
)

-- the tables with rows of blocks
abbrev pub with_blocks : ℤ → List NewBlock → Trees → Trees
with_blocks db blocks trees tree = if tree == 9 then rows_with (map (new_block_row db) blocks) (trees tree) else trees tree

pub blocks_gained : (db : ℤ) (blocks : List NewBlock) (trees : Trees) → GainsAll (map (new_block_row db) blocks) blocks_tree trees (with_blocks db blocks trees)
blocks_gained db blocks trees row = rows_gained (map (new_block_row db) blocks) (trees 9) row

-- the tables with all rows that are held
abbrev pub with_rows : ℤ → NewRows → Trees → Trees
with_rows db held trees tree =
    if tree == 9 then rows_with (map (new_block_row db) held.blocks.items) (trees tree)
    else (if tree == 11 then rows_with (map (new_count_row db) held.counts.items) (trees tree) else trees tree)

pub rows_are_gained : (db : ℤ) (held : NewRows) (trees : Trees) → GainsRows db held trees (with_rows db held trees)
rows_are_gained db held trees = record {
  blocks = λ row. rows_gained (map (new_block_row db) held.blocks.items) (trees 9) row;
  dict = λ row. rows_gained (map (new_count_row db) held.counts.items) (trees 11) row;
  postings = refl;
  lists = (refl, refl, refl);
}

-- ---- some rows, and then more

pub gained_more : {X : Type 0} (row_of : X → Row) (one two : List X) (tree : ℕ) (old mid new : Trees) → GainsAll (map row_of two) tree old mid → GainsAll (map row_of (one ++ two)) tree old new → GainsAll (map row_of one) tree mid new
gained_more {X} row_of one two tree old mid new some all row =
    let parted : (r : Row) → Has (map row_of (one ++ two)) r ↔ (Has (map row_of one) r ⊎ Has (map row_of two) r) = λ r. (
      λ h. has_either (map row_of one) (map row_of two) r (subst (λ l. Has l r) (map-append row_of one two) h),
      λ h. subst (λ l. Has l r) (sym (map-append row_of one two)) (elim h [ inl left ↦ has_left (map row_of one) (map row_of two) r left | inr right ↦ has_right (map row_of one) (map row_of two) r right ]),
    ) in (
      λ h. elim ((all row).0 h) [
        | inl was ↦ inl ((some row).1 (inl was))
        | inr put ↦ elim ((parted row).0 put) [ inl left ↦ inr left | inr right ↦ inl ((some row).1 (inr right)) ]
      ],
      λ h. (all row).1 (elim h [
        | inl was ↦ elim ((some row).0 was) [ inl first ↦ inl first | inr right ↦ inr ((parted row).1 (inr right)) ]
        | inr left ↦ inr ((parted row).1 (inl left))
      ]),
    )

-- the rows behind the others
pub gained_last : {X : Type 0} (row_of : X → Row) (one two : List X) (tree : ℕ) (old mid new : Trees) → GainsAll (map row_of one) tree old mid → GainsAll (map row_of (one ++ two)) tree old new → GainsAll (map row_of two) tree mid new
gained_last {X} row_of one two tree old mid new some all row =
    let parted : (r : Row) → Has (map row_of (one ++ two)) r ↔ (Has (map row_of one) r ⊎ Has (map row_of two) r) = λ r. (
      λ h. has_either (map row_of one) (map row_of two) r (subst (λ l. Has l r) (map-append row_of one two) h),
      λ h. subst (λ l. Has l r) (sym (map-append row_of one two)) (elim h [ inl left ↦ has_left (map row_of one) (map row_of two) r left | inr right ↦ has_right (map row_of one) (map row_of two) r right ]),
    ) in (
      λ h. elim ((all row).0 h) [
        | inl was ↦ inl ((some row).1 (inl was))
        | inr put ↦ elim ((parted row).0 put) [ inl left ↦ inl ((some row).1 (inr left)) | inr right ↦ inr right ]
      ],
      λ h. (all row).1 (elim h [
        | inl was ↦ elim ((some row).0 was) [ inl first ↦ inl first | inr left ↦ inr ((parted row).1 (inl left)) ]
        | inr right ↦ inr ((parted row).1 (inr right))
      ]),
    )

-- ---- of which key a held row is

pub block_of : (db : ℤ) (blocks : List NewBlock) (row : Row) → Has (map (new_block_row db) blocks) row → (one : NewBlock) × Has blocks one × (row ≡ new_block_row db one)
block_of db blocks row h = has_mapped (new_block_row db) blocks row h

pub count_of : (db : ℤ) (counts : List NewCount) (row : Row) → Has (map (new_count_row db) counts) row → (one : NewCount) × Has counts one × (row ≡ new_count_row db one)
count_of db counts row h = has_mapped (new_count_row db) counts row h

-- a row with the first columns of a key, which is one of another key's rows too
pub key_is : (db : ℤ) (key other : Key) (row rest : Row) → IsDictIn db key row → row ≡ key_row db other ++ rest → key ≡ other
key_is db key other row rest of is =
    let it = key_begins db key row of.0 of.1 of.2 of.3 in
    (told_apart db db key other rest it.0 (sym is ∙ it.1)).1

-- a row with the columns of a block is one of that block
pub block_is : (db : ℤ) (key other : Key) (block n : ℕ) (row : Row) (bytes : List ℕ) → IsBlockIn db key block row → row ≡ block_row db other n bytes → (key ≡ other) × (block ≡ n)
block_is db key other block n row bytes of is = (
  key_is db key other row (Int (pos n) ∷ Blob bytes ∷ []) (of.0, of.1, of.2, of.3) is,
  same (sym of.4 ∙ ap (λ (r : Row). column r 4) is),
)
  where
    same : Int (pos block) ≡ Int (pos n) → block ≡ n
    same e = cc
