-- What is malformed in the registers and is so still, and rows beside those of one key that are there still.
use Rattle.zeb_register.proofs.Cited.{Database, Row, column, Trees, Int, Null, Text, Has, ◌≡◌, ◌∷◌, ◌++◌, [], ℕ, ℤ, pos, List, ap, sym, subst, Key, register_code, key_row, KeepsBeside, KeepsMalformed, KeepsRowsBeside, HasRow, KeepsRegisters, blocks_tree, dict_tree, postings_tree, Format, keeps_malformed, packed_blocks, packed_leaves, plain_rows, IsLeafMalformed}

pub row_same : (tree : ℕ) (old new : Trees) → new tree ≡ old tree → (row : Row) → HasRow old tree row → HasRow new tree row
row_same tree old new same row there = (there.0, subst (λ (rows : List Row). Has rows (Int there.0 ∷ row)) (sym same) there.1)

-- ---- what is malformed

rows_same : (old new : Trees) → new blocks_tree ≡ old blocks_tree → new dict_tree ≡ old dict_tree → KeepsMalformed old new
rows_same old new blocks dict = record {
  blocks = λ row bad there. row_same blocks_tree old new blocks row there;
  dict = λ row bad there. row_same dict_tree old new dict row there;
}

-- the tables of the packed registers are as they were
pub malformed_same : (format : Format) (old new : Trees) → new blocks_tree ≡ old blocks_tree → new dict_tree ≡ old dict_tree → keeps_malformed format old new
malformed_same plain_rows = rows_same
malformed_same packed_blocks = rows_same
malformed_same packed_leaves = λ old new blocks dict db key n bad. subst (λ (table : List Row). IsLeafMalformed (λ (tree : ℕ). table) db key n) (sym blocks) bad

rows_then : (a b c : Trees) → KeepsMalformed a b → KeepsMalformed b c → KeepsMalformed a c
rows_then a b c one two = record {
  blocks = λ row bad there. two.blocks row bad (one.blocks row bad there);
  dict = λ row bad there. two.dict row bad (one.dict row bad there);
}

pub malformed_then : (format : Format) (a b c : Trees) → keeps_malformed format a b → keeps_malformed format b c → keeps_malformed format a c
malformed_then plain_rows = rows_then
malformed_then packed_blocks = rows_then
malformed_then packed_leaves = λ a b c one two db key n bad. two db key n (one db key n bad)

-- of a store that a call only read
pub malformed_seen : (format : Format) (old new : Database) → new ≡ old → keeps_malformed format old.trees new.trees
malformed_seen format old new same = malformed_same format old.trees new.trees (ap (λ (d : Database). d.trees blocks_tree) same) (ap (λ (d : Database). d.trees dict_tree) same)

-- ---- rows beside those that begin with some columns

-- the table is as it was
pub table_same : (front : Row) (tree : ℕ) (old new : Trees) → new tree ≡ old tree → KeepsBeside front tree old new
table_same front tree old new same row other = (row_same tree new old (sym same) row, row_same tree old new same row)

pub table_then : (front : Row) (tree : ℕ) (a b c : Trees) → KeepsBeside front tree a b → KeepsBeside front tree b c → KeepsBeside front tree a c
table_then front tree a b c one two row other = (λ there. (one row other).0 ((two row other).0 there), λ there. (two row other).1 ((one row other).1 there))

-- the tables of the registers are as they were
pub beside_same : (front : Row) (old new : Trees) → KeepsRegisters old new → KeepsRowsBeside front old new
beside_same front old new same = record {
  postings = table_same front postings_tree old new same.0;
  blocks = table_same front blocks_tree old new same.1;
  dict = table_same front dict_tree old new same.2;
}

pub beside_then : (front : Row) (a b c : Trees) → KeepsRowsBeside front a b → KeepsRowsBeside front b c → KeepsRowsBeside front a c
beside_then front a b c one two = record {
  postings = table_then front postings_tree a b c one.postings two.postings;
  blocks = table_then front blocks_tree a b c one.blocks two.blocks;
  dict = table_then front dict_tree a b c one.dict two.dict;
}

-- of a store that a call only read
pub beside_seen : (front : Row) (old new : Database) → new ≡ old → KeepsRowsBeside front old.trees new.trees
beside_seen front old new same = beside_same front old.trees new.trees (
  ap (λ (d : Database). d.trees postings_tree) same,
  ap (λ (d : Database). d.trees blocks_tree) same,
  ap (λ (d : Database). d.trees dict_tree) same,
)

-- a row with the key's first columns begins with them
pub key_begins : (db : ℤ) (key : Key) (row : Row) → column row 0 ≡ Int db → column row 1 ≡ Int (pos key.index) → column row 2 ≡ Int (pos (register_code key.register)) → column row 3 ≡ Text key.term
    → (rest : Row) × (row ≡ key_row db key ++ rest)
key_begins db key [] one two three four = absurd (let e : Null ≡ Int db = one in cc)
key_begins db key (a ∷ []) one two three four = absurd (let e : Null ≡ Int (pos key.index) = two in cc)
key_begins db key (a ∷ b ∷ []) one two three four = absurd (let e : Null ≡ Int (pos (register_code key.register)) = three in cc)
key_begins db key (a ∷ b ∷ c ∷ []) one two three four = absurd (let e : Null ≡ Text key.term = four in cc)
key_begins db key (a ∷ b ∷ c ∷ d ∷ rest) one two three four = (rest, λ i. one i ∷ two i ∷ three i ∷ four i ∷ rest)
