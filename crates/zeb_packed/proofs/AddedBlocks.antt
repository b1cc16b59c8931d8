-- A row of a block that could be put stood alone: the key had none for the block.
use Rattle.zeb_packed.proofs.Cited.{◌≡◌, ◌∙◌, ℕ, ℤ, Ok, Err, Result, OnOk, true, false, List, [], ◌∷◌, refl, sym, ap, inl, inr, both_ways, tied_itself, is_eq, Error, Int, next_rowid, Row, column, Chosen, Executes, ExecutesInside, State, rowid, some_from, next_is_free, value_cmp_total, IsNumberedRow, IsStore, blocks_tree, store_schema, IsTold, block_columns, blocks, blocks_keys, blocks_static, single, inserts, keyed_there, value_cmp}
use Rattle.zeb_packed.proofs.PackedRowStatements.{add_block_is, add_block_plain, add_block_terms, add_block_text}

-- ---- a row that is put is the first of its block

add_block_alone : (db idx reg : ℤ) (term : List ℕ) (block : ℤ) (bytes : List ℕ) (old new : State) (count : ℕ) → IsStore old → Executes add_block_text (block_columns db idx reg term block bytes) old new (Ok count)
    → IsTold false (IsNumberedRow db idx reg term block) blocks_tree old.now.trees
add_block_alone db idx reg term block bytes old new count store ran row here in_it =
    let columns = block_columns db idx reg term block bytes in
    let rows = old.now.trees blocks_tree in
    let next = next_rowid rows in
    let done = (inserts store_schema 4 blocks blocks_static add_block_text columns add_block_terms 7 columns add_block_is add_block_plain refl refl old new count store ran).0 in
    let was = (done.rows (Int here.0 ∷ row)).1 (inl here.1) in
    let made = (done.rows (Int next ∷ columns)).1 (inr refl) in
    let same = single 4 blocks blocks_static ((1 ∷ 2 ∷ 3 ∷ 4 ∷ 5 ∷ []) ∷ []) blocks_keys new done.layout here.0 next row columns was made
    (inl (in_it.0, (in_it.1, (in_it.2, (in_it.3, (in_it.4, tt)))))) (inl (sym in_it.0, (sym in_it.1, (sym in_it.2, (sym in_it.3, (sym in_it.4, tt)))))) in
    let tie : is_eq (value_cmp (Int here.0) (Int next)) ≡ true = ap (λ (r : Row). is_eq (value_cmp (column r 0) (Int next))) same ∙ ap is_eq (tied_itself value_cmp_total (Int next)) in
    let keyed = keyed_there store_schema 4 blocks blocks_static old store in
    both_ways _ (next_is_free Chosen rows columns keyed.0 keyed.1) (some_from (λ x. is_eq (value_cmp (rowid x) (Int next))) rows (Int here.0 ∷ row) here.1 tie)

pub alone_where_added : (db idx reg : ℤ) (term : List ℕ) (block : ℤ) (bytes : List ℕ) (old new : State) (result : Result ℕ Error) → IsStore old → ExecutesInside 0 add_block_text (block_columns db idx reg term block bytes) old new result
    → OnOk result (IsTold false (IsNumberedRow db idx reg term block) blocks_tree old.now.trees)
alone_where_added db idx reg term block bytes old new (Err e) store ran = tt
alone_where_added db idx reg term block bytes old new (Ok count) store ran = add_block_alone db idx reg term block bytes old new count store ran.0
