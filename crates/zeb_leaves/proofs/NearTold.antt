-- What calls that list the terms nearest to a text answer, by the leaves that they found.
use Rattle.zeb_leaves.proofs.Cited.{Row, ◌≡◌, ◌≤◌, ◌∷◌, ℕ, List, [], Option, Some, None, arith, State, TermCount, IsLeafIn, IsStore, IsUncovered, leaf_key, inl, inr, Trees, IfSome, Vec, HidesBeside, IsSide, ListsBeside, CountRows, HideRows, AreLeavesFrom, IsLeafFrom, IsRowFrom, list_so, packed_leaves, IsListOf, HidesFrom, ListsFrom, ListsNearest, RegisterOf}
use Rattle.std.specs.List.Sorted.{IsStrictlySortedBy}
use Rattle.std.specs.declared.alloc.Global.{Global}
use Rattle.zeb_leaf_rows.proofs.CoveringLeaves.{Leaves, leaf_shape}
use Rattle.zeb_leaves.proofs.FirstTerms.{first_hides, first_told, none_first, uncovered_start}
use Rattle.zeb_leaves.proofs.OneLeaf.{one_leaf}
use Rattle.zeb_leaves.proofs.TermsTold.{row_so}
use Rattle.zeb_leaves.specs.declared.near_terms.Side.{Side}
use Rattle.zeb_leaves.specs.declared.near_terms.Side.TheVariants.{From}

-- ---- no terms are asked for, or there are none on that side

pub none_asked : (trees : Trees) (at : RegisterOf) (IsOn : List ℕ → Type 0) (IsNearer : List ℕ → List ℕ → Type 0) (n : ℕ) → ((term : List ℕ) → IsOn term → n ≡ 0)
    → ListsNearest packed_leaves trees at.db.0 at.index at.register IsOn IsNearer n []
unfolding IsStrictlySortedBy
none_asked trees at IsOn IsNearer n never = record {
  few = omega arith;
  are = record {
    rising = tt;
    each = λ t h. absurd h;
    others = λ term asked none. absurd (elim asked.1 [ inl fewer ↦ omega (arith, fewer, never term asked.0) | inr t ↦ t.1 ]);
  };
}

-- ---- the first terms from a text on

module _ (s : State) (store : IsStore s) (at : RegisterOf) (start : List ℕ) (n : ℕ) (one : 1 ≤ n) where
  abbrev These : Row → Type 0
  These = Leaves s store at.db.0 at.index at.register

  module _ (leaf : Row) (behind : List Row) (listed : IsListOf (IsRowFrom at start s.now.trees) behind) where
    abbrev side : Side
    side = From leaf

    are : IsSide at start n side s.now.trees → AreLeavesFrom These start (leaf ∷ behind)
    are covers = (covers, list_so (IsRowFrom at start s.now.trees) (IsLeafFrom These start) behind (row_so s store at start) listed)

    pub first_found : (found : Option (Vec TermCount Global)) → IfSome found (λ counts. CountRows n start 0 leaf behind [] counts.items) → IfSome found (λ list. IsSide at start n side s.now.trees → ListsBeside at start n side s.now.trees list.items)
    first_found None told = tt
    first_found (Some list) told = λ covers. first_told s.now.trees at start n one (leaf_shape s store at.db.0 at.index at.register) (one_leaf s store at.db.0 at.index at.register) leaf behind (are covers) list.items told

    pub first_hidden : HideRows n start 0 leaf behind [] → IsSide at start n side s.now.trees → HidesBeside at start n side s.now.trees
    first_hidden bad covers = first_hides s.now.trees at start n one (leaf_shape s store at.db.0 at.index at.register) (one_leaf s store at.db.0 at.index at.register) leaf behind (are covers) bad

  pub leafless_from : ((leaf : Row) → ¬ IsLeafIn s.now.trees at leaf) → ListsFrom packed_leaves s.now.trees at.db.0 at.index at.register start n []
  leafless_from none = none_first s.now.trees at start n one (leaf_shape s store at.db.0 at.index at.register) (one_leaf s store at.db.0 at.index at.register) none

  pub uncovered_from : IsUncovered (IsLeafIn s.now.trees at) (leaf_key start 0) → HidesFrom packed_leaves s.now.trees at.db.0 at.index at.register start n
  uncovered_from none = uncovered_start s.now.trees at start n one (inr none)
