-- The rows of neighbouring terms, which spell a list, as the units of these terms.
use Rattle.zeb_packed.proofs.Cited.{◌∙◌, ℕ, List, [], ◌∷◌, ◌++◌, drop, map, ap, subst, Text, Row, State, Has, has_mapped, mapped_has, Posting, Key, RegisterOf, IsBetween, IsRestBetween, two_behind, register_columns, key_in, SpellsPart, AreSpelled, packed_blocks, IsListOf, IsRest, IsStore, blocks_tree, all_spelled, each_spelled, spelled_by, spelled_too, SomeMalformed, has_under, shown_row, under, under_has, under_listed, IsMalformed, HasMalformedBetween, ListsBetween}
use Rattle.zeb_packed.proofs.UnitLists.{units_listed}

module _ (s : State) (store : IsStore s) (at : RegisterOf) (first last : List ℕ) (rows : List Row) (are : IsListOf (IsRestBetween blocks_tree (register_columns at) first (last ++ 0 ∷ []) s.now.trees) rows) where
  abbrev key : List ℕ → Key
  key term = key_in at.index at.register term

  abbrev its : List ℕ → List Row
  its = under blocks_tree s.now.trees at first last rows are

  there : (term : List ℕ) (x : Row) → Has (its term) x → Has rows (Text term ∷ x)
  there = has_under blocks_tree s.now.trees at first last rows are

  module _ (list : List Posting) (spelled : AreSpelled (map two_behind rows) list) where
    own : (term : List ℕ) → (l : List Posting) × AreSpelled (its term) l
    own term = all_spelled (its term) (λ x h. each_spelled (map two_behind rows) list spelled (two_behind (Text term ∷ x)) (mapped_has two_behind rows (Text term ∷ x) (there term x h)))

    listed_of : (p : Posting) → Has list p → (term : List ℕ) × IsBetween first last term × Has (own term).0 p
    listed_of p here =
        let from = spelled_by (map two_behind rows) list spelled p here in
        let row = has_mapped two_behind rows from.0 from.1 in
        let it = shown_row blocks_tree s.now.trees at first last rows are row.0 row.1 in
        let x = drop 1 row.0 in
        let inside = under_has blocks_tree s.now.trees at first last rows are it.0 x (subst (Has rows) it.2 row.1) in
        let spells : SpellsPart x from.2.0 = subst (λ (r : Row). SpellsPart r from.2.0) (row.2 ∙ ap two_behind it.2) from.2.1 in
        (it.0, it.1, spelled_too (its it.0) (own it.0).0 (own it.0).1 x from.2.0 p inside spells from.2.2)

    of_listed : (p : Posting) → (term : List ℕ) × IsBetween first last term × Has (own term).0 p → Has list p
    of_listed p of =
        let from = spelled_by (its of.0) (own of.0).0 (own of.0).1 p of.2 in
        let here = mapped_has two_behind rows (Text of.0 ∷ from.0) (there of.0 from.0 from.1) in
        spelled_too (map two_behind rows) list spelled (two_behind (Text of.0 ∷ from.0)) from.2.0 p here from.2.1 from.2.2

    -- the rows of the terms, listed and spelled, say their units
    pub blocks_listed : ListsBetween packed_blocks s.now.trees at first last list
    blocks_listed = record {
      lists = λ term. (own term).0;
      units = λ term between. units_listed s store at.db.0 (key term) (its term) (own term).0 (under_listed blocks_tree s.now.trees at first last rows are term between) (own term).1;
      each = λ p. (listed_of p, of_listed p);
    }

  -- one that spells no postings is of one of the terms
  pub malformed_between : SomeMalformed (map two_behind rows) → HasMalformedBetween packed_blocks s.now.trees at first last
  malformed_between bad =
      let row = has_mapped two_behind rows bad.0 bad.1 in
      let it = shown_row blocks_tree s.now.trees at first last rows are row.0 row.1 in
      (it.0, it.1, (drop 1 row.0, subst (λ (r : Row). IsRest blocks_tree (register_columns at) s.now.trees r) it.2 it.3, subst IsMalformed (row.2 ∙ ap two_behind it.2) bad.2))
