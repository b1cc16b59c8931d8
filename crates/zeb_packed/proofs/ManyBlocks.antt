-- Rows of `blocks` that are put at once, each of which is the first of its block.
use Rattle.zeb_packed.proofs.Cited.{◌≡◌, ◌∙◌, ℕ, ℤ, true, Ok, List, [], ◌∷◌, length, map, refl, sym, ap, inl, inr, AllByRecursion, mapped_has, tied_itself, is_eq, Int, Insert, Values, Term, Row, column, Executes, State, value_cmp_total, command_of, IsPlain, IsStore, Changes, blocks_tree, store_schema, blocks, blocks_keys, blocks_static, single, value_cmp, AreLacking, AreValuesOf, new_block_row, NewBlock, ADD_BLOCKS, MANY, keeps_all}
use Rattle.sqlite.specs.Listing.{understood}
use Rattle.sqlite_tied.specs.Compute.{everything}
use Rattle.zeb_packed.proofs.ManyRows.{GainsNumbered, fresh_apart, has_shown, inserts_many, new_rows, rows_shown, rows_terms}

abbrev pub add_text : List ℕ
add_text = ADD_BLOCKS.now

abbrev add_terms : List Term
add_terms = rows_terms 6 MANY 0

add_is : command_of (understood store_schema add_text) ≡ Insert 4 (Values add_terms 7)
unfolding understood everything
add_is = refl

add_plain : IsPlain (understood store_schema add_text)
unfolding understood everything
add_plain = (refl, refl)

rows_long : (db : ℤ) (news : List NewBlock) → AllByRecursion (λ (r : Row). length r ≡ 6) (map (new_block_row db) news)
rows_long db [] = tt
rows_long db (one ∷ news) = (refl, rows_long db news)

rows_kept : (db : ℤ) (news : List NewBlock) → AllByRecursion (λ (r : Row). keeps_all blocks.columns r ≡ true) (map (new_block_row db) news)
rows_kept db [] = tt
rows_kept db (one ∷ news) = (refl, rows_kept db news)

pub adds_blocks : (db : ℤ) (news : List NewBlock) (params : Row) → AreValuesOf (new_block_row db) news params → (old new : State) (count : ℕ) → IsStore old → Executes add_text params old new (Ok count)
    → Changes blocks_tree (GainsNumbered (map (new_block_row db) news)) old new
adds_blocks db news params are old new count store ran =
    inserts_many store_schema 4 blocks blocks_static add_text params add_terms 7 (map (new_block_row db) news) add_is add_plain (rows_shown (new_block_row db) 6 news params are (rows_long db news)) (rows_kept db news) old new count store ran

-- no block had a row
pub blocks_lacked : (db : ℤ) (news : List NewBlock) (params : Row) → AreValuesOf (new_block_row db) news params → (old new : State) (count : ℕ) → IsStore old → Executes add_text params old new (Ok count) → AreLacking db news old.now.trees
blocks_lacked db news params are old new count store ran one among row here in_it =
    let rows = map (new_block_row db) news in
    let table = old.now.trees blocks_tree in
    let columns = new_block_row db one in
    let done = adds_blocks db news params are old new count store ran in
    let put = has_shown rows table columns (mapped_has (new_block_row db) news one among) in
    let was = (done.rows.each (Int here.0 ∷ row)).1 (inl here.1) in
    let made = (done.rows.each (Int put.0 ∷ columns)).1 (inr put.1) in
    let same = single 4 blocks blocks_static ((1 ∷ 2 ∷ 3 ∷ 4 ∷ 5 ∷ []) ∷ []) blocks_keys new done.layout here.0 put.0 row columns was made
    (inl (in_it.0, (in_it.1, (in_it.2, (in_it.3, (in_it.4, tt)))))) (inl (sym in_it.0, (sym in_it.1, (sym in_it.2, (sym in_it.3, (sym in_it.4, tt)))))) in
    let tie : is_eq (value_cmp (Int here.0) (Int put.0)) ≡ true = ap (λ (r : Row). is_eq (value_cmp (column r 0) (Int put.0))) same ∙ ap is_eq (tied_itself value_cmp_total (Int put.0)) in
    fresh_apart (new_rows table rows) table (Int put.0 ∷ columns) (Int here.0 ∷ row) done.rows.fresh put.1 here.1 tie
