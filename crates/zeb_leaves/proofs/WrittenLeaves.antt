-- What is written of leaves: one row in the place of another, and then one row more after the other.
use Rattle.zeb_leaves.proofs.Cited.{Row, Trees, State, has_either, has_left, has_right, ◌≡◌, ◌⊎◌, ◌∙◌, ◌+◌, ◌<◌, ◌++◌, ◌∷◌, ℕ, ℤ, true, false, List, [], length, refl, sym, ap, subst, inl, inr, blocks_tree, Bool, get_or, take, take_more, NewLeaf, GainsLeaves, IfToldPuts, IsLeafWith, IsNewRow, leaf_columns, new_row, alters_so, changes_then, Alters, Gains, Renews, Changes, RegisterOf}

module _ (at : RegisterOf) where
  -- ---- one leaf more

  none_gained : (tree : ℕ) (a : Trees) → GainsLeaves at [] tree a a
  none_gained tree a row = (λ there. inl there, λ h. elim h [ inl there ↦ there | inr none ↦ absurd none.1 ])

  pub gains_none : (a : State) (tree : ℕ) → GainsLeaves at [] tree a.now.trees a.now.trees
  gains_none a tree = none_gained tree a.now.trees

  last_row : (leaves : List NewLeaf) (leaf : NewLeaf) (row : Row) → IsNewRow at (leaves ++ leaf ∷ []) row → IsNewRow at leaves row ⊎ (row ≡ new_row at leaf)
  last_row leaves leaf row it = elim (has_either leaves (leaf ∷ []) it.0 it.1) [
    | inl before ↦ inl (it.0, before, it.2)
    | inr last ↦ elim last [ inl same ↦ inr (it.2 ∙ ap (new_row at) same) | inr none ↦ absurd none ]
  ]

  gained_more : (leaves : List NewLeaf) (leaf : NewLeaf) (tree : ℕ) (a b c : Trees) → GainsLeaves at leaves tree a b → Gains (new_row at leaf) tree b c → GainsLeaves at (leaves ++ leaf ∷ []) tree a c
  gained_more leaves leaf tree a b c before more row = (
    λ h. elim ((more row).0 h) [
      | inl there ↦ elim ((before row).0 there) [ inl old ↦ inl old | inr new ↦ inr (new.0, has_left leaves (leaf ∷ []) new.0 new.1, new.2) ]
      | inr same ↦ inr (leaf, has_right leaves (leaf ∷ []) leaf (inl refl), same)
    ],
    λ h. (more row).1 (elim h [
      | inl old ↦ inl ((before row).1 (inl old))
      | inr new ↦ elim (last_row leaves leaf row new) [ inl there ↦ inl ((before row).1 (inr there)) | inr same ↦ inr same ]
    ]),
  )

  pub gains_more : (leaves : List NewLeaf) (i : ℕ) (leaf : NewLeaf) (a b c : State) → i < length leaves → leaf ≡ get_or leaves i leaf → Changes blocks_tree (GainsLeaves at (take i leaves)) a b → Changes blocks_tree (Gains (new_row at leaf)) b c
      → Changes blocks_tree (GainsLeaves at (take (i + 1) leaves)) a c
  gains_more leaves i leaf a b c within is before done =
      let more : take (i + 1) leaves ≡ take i leaves ++ leaf ∷ [] = take_more leaves i leaf within ∙ ap (λ (x : NewLeaf). take i leaves ++ x ∷ []) (sym is) in
      subst (λ (l : List NewLeaf). Changes blocks_tree (GainsLeaves at l) a c) (sym more)
      (changes_then blocks_tree (GainsLeaves at (take i leaves)) (Gains (new_row at leaf)) (GainsLeaves at (take i leaves ++ leaf ∷ [])) a b c
      (gained_more (take i leaves) leaf blocks_tree a.now.trees b.now.trees c.now.trees) before done)

  -- ---- a leaf in the place of another

  module _ (term : List ℕ) (number : ℤ) (bytes : List ℕ) where
    abbrev Own : Row → Type 0
    Own = IsLeafWith at term number

    abbrev row_is : Row
    row_is = leaf_columns at term number bytes

    pub put_there : (a b : State) → Alters blocks_tree (Renews Own row_is) a b → Alters blocks_tree (IfToldPuts true at term number bytes []) a b
    put_there a b = alters_so blocks_tree (Renews Own row_is) (IfToldPuts true at term number bytes []) a b (λ renews told row.
        let replaced = renews told row in (
          λ h. elim (replaced.0 h) [ inl was ↦ inl was | inr same ↦ inr (inl same) ],
          λ h. replaced.1 (elim h [ inl was ↦ inl was | inr new ↦ elim new [ inl same ↦ inr same | inr none ↦ absurd none.1 ] ]),
        ))

    pub put_new : (a b : State) → Alters blocks_tree (Gains row_is) a b → Alters blocks_tree (IfToldPuts false at term number bytes []) a b
    put_new a b = alters_so blocks_tree (Gains row_is) (IfToldPuts false at term number bytes []) a b (λ gains told row. (
      λ h. elim ((gains row).0 h) [ inl was ↦ inl (was, told row was) | inr same ↦ inr (inl same) ],
      λ h. (gains row).1 (elim h [ inl was ↦ inl was.0 | inr new ↦ elim new [ inl same ↦ inr same | inr none ↦ absurd none.1 ] ]),
    ))

    put_then : (is_there : Bool) (leaves : List NewLeaf) (tree : ℕ) (a b c : Trees) → IfToldPuts is_there at term number bytes [] tree a b → GainsLeaves at leaves tree b c → IfToldPuts is_there at term number bytes leaves tree a c
    put_then is_there leaves tree a b c put gains told row =
        let first = put told row in (
          λ h. elim ((gains row).0 h) [
            | inl there ↦ elim (first.0 there) [
              | inl was ↦ inl was
              | inr one ↦ inr (elim one [ inl same ↦ inl same | inr none ↦ absurd none.1 ])
            ]
            | inr new ↦ inr (inr new)
          ],
          λ h. (gains row).1 (elim h [
            | inl was ↦ inl (first.1 (inl was))
            | inr one ↦ elim one [ inl same ↦ inl (first.1 (inr (inl same))) | inr new ↦ inr new ]
          ]),
        )

    pub all_put : (is_there : Bool) (leaves : List NewLeaf) (a b c : State) → Changes blocks_tree (IfToldPuts is_there at term number bytes []) a b → Changes blocks_tree (GainsLeaves at leaves) b c
        → Changes blocks_tree (IfToldPuts is_there at term number bytes leaves) a c
    all_put is_there leaves a b c = changes_then blocks_tree (IfToldPuts is_there at term number bytes []) (GainsLeaves at leaves) (IfToldPuts is_there at term number bytes leaves) a b c
        (put_then is_there leaves blocks_tree a.now.trees b.now.trees c.now.trees)
