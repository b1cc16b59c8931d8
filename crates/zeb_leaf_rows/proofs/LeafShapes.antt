-- The rows of `blocks` in a store, behind their register: each has a text, an integer and a blob.
use Rattle.zeb_leaf_rows.proofs.Cited.{Row, column, Int, Text, Blob, ◌≡◌, ◌∙◌, ◌++◌, ◌∷◌, ℕ, ℤ, pos, List, [], map, drop, ap, IsRest, IsStore, State, blocks_tree, store_schema}
use Rattle.zeb_register.proofs.PostingStatements.{blocks, blocks_static, register_of}
use Rattle.zeb_register.proofs.RowLemmas.{blob_of, code_at, int_of, spread, text_of}
use Rattle.zeb_register.proofs.ValueKinds.{code, codes_of}
use Rattle.zeb_register.proofs.Writes.{codes_there}

abbrev pub leaf_row : List ℕ → ℕ → List ℕ → Row
leaf_row term block bytes = Text term ∷ Int (pos block) ∷ Blob bytes ∷ []

-- a row of a text, an integer and a blob
pub three_shown : (row : Row) → map code row ≡ 3 ∷ 1 ∷ 4 ∷ [] → (t : List ℕ) × (n : ℤ) × (b : List ℕ) × (row ≡ Text t ∷ Int n ∷ Blob b ∷ [])
three_shown row typed =
    let t = text_of (column row 0) (code_at row (3 ∷ 1 ∷ 4 ∷ []) 0 typed) in
    let n = int_of (column row 1) (code_at row (3 ∷ 1 ∷ 4 ∷ []) 1 typed) in
    let b = blob_of (column row 2) (code_at row (3 ∷ 1 ∷ 4 ∷ []) 2 typed) in
    (t.0, n.0, b.0, spread row (3 ∷ 1 ∷ 4 ∷ []) typed ∙ (λ i. t.1 i ∷ n.1 i ∷ b.1 i ∷ []))

module _ (s : State) (store : IsStore s) where
  pub shown_row : (db idx reg : ℤ) (row : Row) → IsRest blocks_tree (register_of db idx reg) s.now.trees row → (t : List ℕ) × (n : ℤ) × (b : List ℕ) × (row ≡ Text t ∷ Int n ∷ Blob b ∷ [])
  shown_row db idx reg row there =
      let typed : map code (Int there.0 ∷ (register_of db idx reg ++ row)) ≡ codes_of blocks = codes_there store_schema 4 blocks blocks_static s (Int there.0 ∷ (register_of db idx reg ++ row)) store there.1 in
      three_shown row (ap (drop 4) typed)
