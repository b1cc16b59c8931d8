-- What is written of a key in packed tables: a row of `blocks` for each block, and one of `dict`.
use Rattle.zeb_packed.proofs.Cited.{◌≡◌, ◌≢◌, ◌↔◌, ◌∙◌, ◌==◌, ℕ, ℤ, Bool, true, false, IsTrue, List, [], ◌∷◌, length, sym, ap, refl, subst, inl, inr, arith, eqb-true, Int, Row, State, Trees, Has, Posting, BlockSpells, Key, Alters, OnlyReads, block_row, dict_row, IsBlockIn, IsTold, PutsCount, IfTold, PutsBlock, IsDictIn, Gains, Renews, HasRow, Loses, Replaces, blocks_tree, dict_tree, alters_so, changes_after, changes_none, reads_goes, store_same}

pub none_of : {X : Type 0} (list : List X) → (length list == 0) ≡ true → list ≡ []
none_of [] is = refl
none_of (p ∷ list) is = absurd (omega (arith, eqb-true (length (p ∷ list)) 0 is))

-- a row more, where none was P
gained_alone : (P : Row → Type 0) (row : Row) (tree : ℕ) (old new : Trees) → Gains row tree old new → ((r : Row) → HasRow old tree r → ¬ P r) → Replaces P row tree old new
gained_alone P row tree old new gained none columns = (
  λ h. elim ((gained columns).0 h) [ inl was ↦ inl (was, none columns was) | inr same ↦ inr same ],
  λ h. (gained columns).1 (elim h [ inl was ↦ inl was.0 | inr same ↦ inr same ]),
)

module _ (db : ℤ) (key : Key) (block : ℕ) (list : List Posting) (is_there : Bool) (a b : State) where
  abbrev Writes : ℕ → Trees → Trees → Type 0
  Writes = IfTold is_there (IsBlockIn db key block) (PutsBlock db key block list)

  pub puts_no_list : list ≡ [] → Alters blocks_tree (Loses (IsBlockIn db key block)) a b → Alters blocks_tree Writes a b
  puts_no_list none = alters_so blocks_tree (Loses (IsBlockIn db key block)) Writes a b (λ lost told row. (
    λ h. inl ((lost row).0 h),
    λ h. elim h [ inl was ↦ (lost row).1 was | inr put ↦ absurd (put.1.some none) ],
  ))

  replaced : (bytes : List ℕ) → BlockSpells block list bytes → Replaces (IsBlockIn db key block) (block_row db key block bytes) blocks_tree a.now.trees b.now.trees → PutsBlock db key block list blocks_tree a.now.trees b.now.trees
  replaced bytes spells put row = (
    λ h. elim ((put row).0 h) [ inl was ↦ inl was | inr same ↦ inr (bytes, spells, same) ],
    λ h. (put row).1 (elim h [ inl was ↦ inl was | inr it ↦ inr (it.2 ∙ ap (block_row db key block) (it.1.spelled ∙ sym spells.spelled)) ]),
  )

  pub puts_renewed : is_there ≡ true → (bytes : List ℕ) → BlockSpells block list bytes → Alters blocks_tree (Renews (IsBlockIn db key block) (block_row db key block bytes)) a b → Alters blocks_tree Writes a b
  puts_renewed is bytes spells = alters_so blocks_tree (Renews (IsBlockIn db key block) (block_row db key block bytes)) Writes a b
      (λ renews told. replaced bytes spells (renews (subst (λ t. IsTold t (IsBlockIn db key block) blocks_tree a.now.trees) is told)))

  pub puts_inserted : is_there ≡ false → (bytes : List ℕ) → BlockSpells block list bytes → Alters blocks_tree (Gains (block_row db key block bytes)) a b → Alters blocks_tree Writes a b
  puts_inserted is bytes spells = alters_so blocks_tree (Gains (block_row db key block bytes)) Writes a b (λ gained told. replaced bytes spells (gained_alone (IsBlockIn db key block) (block_row db key block bytes) blocks_tree a.now.trees b.now.trees gained (subst (λ t. IsTold t (IsBlockIn db key block) blocks_tree a.now.trees) is told)))

-- where the key has no row for the block, there is nothing to write of an empty list
module _ (db : ℤ) (key : Key) (block : ℕ) (list : List Posting) (a b : State) where
  abbrev Begins : ℕ → Trees → Trees → Type 0
  Begins = IfTold false (IsBlockIn db key block) (PutsBlock db key block list)

  pub puts_nothing : list ≡ [] → OnlyReads a b → IsTrue a.in_transaction → Alters blocks_tree Begins a b
  puts_nothing none reads inside = record {
    on = reads_goes a b reads;
    rows = λ store. changes_after blocks_tree Begins a b b reads inside (changes_none blocks_tree Begins b
        (λ told row. (λ h. inl (h, told row h), λ h. elim h [ inl was ↦ was.0 | inr put ↦ absurd (put.1.some none) ])) (store_same a b reads.now_is store));
  }

module _ (db : ℤ) (key : Key) (records : ℕ) (is_there : Bool) (a b : State) where
  abbrev Counts : ℕ → Trees → Trees → Type 0
  Counts = IfTold is_there (IsDictIn db key) (PutsCount db key records)

  pub puts_no_number : records ≡ 0 → Alters dict_tree (Loses (IsDictIn db key)) a b → Alters dict_tree Counts a b
  puts_no_number none = alters_so dict_tree (Loses (IsDictIn db key)) Counts a b (λ lost told row. (
    λ h. inl ((lost row).0 h),
    λ h. elim h [ inl was ↦ (lost row).1 was | inr put ↦ absurd (put.0 none) ],
  ))

  number_put : records ≢ 0 → Replaces (IsDictIn db key) (dict_row db key records) dict_tree a.now.trees b.now.trees → PutsCount db key records dict_tree a.now.trees b.now.trees
  number_put some put row = (
    λ h. elim ((put row).0 h) [ inl was ↦ inl was | inr same ↦ inr (some, same) ],
    λ h. (put row).1 (elim h [ inl was ↦ inl was | inr it ↦ inr it.1 ]),
  )

  pub number_renewed : is_there ≡ true → records ≢ 0 → Alters dict_tree (Renews (IsDictIn db key) (dict_row db key records)) a b → Alters dict_tree Counts a b
  number_renewed is some = alters_so dict_tree (Renews (IsDictIn db key) (dict_row db key records)) Counts a b (λ renews told. number_put some (renews (subst (λ t. IsTold t (IsDictIn db key) dict_tree a.now.trees) is told)))

  pub number_inserted : is_there ≡ false → records ≢ 0 → Alters dict_tree (Gains (dict_row db key records)) a b → Alters dict_tree Counts a b
  number_inserted is some = alters_so dict_tree (Gains (dict_row db key records)) Counts a b (λ gained told. number_put some (gained_alone (IsDictIn db key) (dict_row db key records) dict_tree a.now.trees b.now.trees gained (subst (λ t. IsTold t (IsDictIn db key) dict_tree a.now.trees) is told)))

-- ---- the same rows

pub told_as : (is_there : Bool) (P : Row → Type 0) (tree : ℕ) (one two : Trees) → ((row : Row) → HasRow two tree row ↔ HasRow one tree row) → IsTold is_there P tree one → IsTold is_there P tree two
told_as true P tree one two same told = (told.0, (same told.0).1 told.1, told.2)
told_as false P tree one two same told = λ row here. told row ((same row).0 here)

pub has_as : (tree : ℕ) (one two : Trees) → one tree ≡ two tree → (row : Row) → HasRow one tree row ↔ HasRow two tree row
has_as tree one two same row = (
  λ h. (h.0, subst (λ rows. Has rows (Int h.0 ∷ row)) same h.1),
  λ h. (h.0, subst (λ rows. Has rows (Int h.0 ∷ row)) (sym same) h.1),
)
