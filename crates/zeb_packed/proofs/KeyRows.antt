-- Which row a key has for a block, and what it spells.
use Rattle.zeb_packed.proofs.Cited.{◌≡◌, ℕ, Result, RegFault, ℤ, pos, false, List, [], ◌∷◌, ◌++◌, slice_get, None, sym, subst, Int, Text, Row, Trees, Key, register_code, KeyOf, IsOfNumbered, numbered_columns, IsNumberedRow, IsBlockIn, IsTold, block_key, HasRow, IsListOf, IsRest, blocks_tree, none_is}
use Rattle.zeb_packed.specs.PrivatePackedChanges.{TellsNone}

-- ---- what a row of the key is

-- a row of a block follows the key and the block
after_block : (db idx reg : ℤ) (term : List ℕ) (block : ℤ) (row : Row) → IsNumberedRow db idx reg term block row → (rest : Row) × (row ≡ block_key db idx reg term block ++ rest)
after_block db idx reg term block [] is = absurd (let e = is.0 in cc)
after_block db idx reg term block (a ∷ []) is = absurd (let e = is.1 in cc)
after_block db idx reg term block (a ∷ b ∷ []) is = absurd (let e = is.2 in cc)
after_block db idx reg term block (a ∷ b ∷ c ∷ []) is = absurd (let e = is.3 in cc)
after_block db idx reg term block (a ∷ b ∷ c ∷ d ∷ []) is = absurd (let e = is.4 in cc)
after_block db idx reg term block (a ∷ b ∷ c ∷ d ∷ e ∷ rest) is = (rest, same is.0 is.1 is.2 is.3 is.4)
  where
    same : a ≡ Int db → b ≡ Int idx → c ≡ Int reg → d ≡ Text term → e ≡ Int block → a ∷ b ∷ c ∷ d ∷ e ∷ rest ≡ block_key db idx reg term block ++ rest
    same one two three four five = cc

-- ---- what is read

-- where none is shown, none is there
pub absent_shown : (trees : Trees) (at : KeyOf) (stored number : ℤ) → stored ≡ number → (rows : List Row) → IsListOf (IsRest blocks_tree (numbered_columns at stored) trees) rows → slice_get rows 0 ≡ None
    → IsTold false (IsOfNumbered at number) blocks_tree trees
absent_shown trees at stored number is rows listed none = λ row here in_it.
    let key = at.key.now in
    let it = after_block at.db.0 (pos key.index) (pos (register_code key.register)) key.term number row in_it in
    none_is (IsRest blocks_tree (numbered_columns at stored) trees) rows it.0 listed none
    (subst (λ n. HasRow trees blocks_tree (numbered_columns at n ++ it.0)) (sym is) (subst (HasRow trees blocks_tree) it.1 here))

-- a block's number as it is stored
pub none_told : {A : Type 0} (db : ℤ) (key : Key) (block : ℕ) (number : ℤ) (trees : Trees) (r : Result A RegFault) → number ≡ pos block → TellsNone (IsNumberedRow db (pos key.index) (pos (register_code key.register)) key.term number) trees r
    → TellsNone (IsBlockIn db key block) trees r
none_told db key block number trees r is told = subst (λ n. TellsNone (IsNumberedRow db (pos key.index) (pos (register_code key.register)) key.term n) trees r) is told
