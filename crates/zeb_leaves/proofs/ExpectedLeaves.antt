-- What is expected of whole tables, in leaves.
use Rattle.zeb_leaves.proofs.Cited.{Row, State, Trees, Int, Blob, Has, ◌≡◌, ◌⊎◌, ◌∙◌, ◌∷◌, ℕ, ℤ, pos, List, [], drop, refl, sym, ap, subst, inl, inr, integers_apart, told_by, Posting, Key, HasRow, HoldsLeaves, IsLeafOf, IsRest, IsStore, PartReads, Content, blocks_tree, part_in, int_cmp_total, string_bytes, HasLeaves, HoldsPostings, rest_shown, content, content_at, content_there, content_up, posted_as, put_together, there_is, there_of, owner_row, blocks, blocks_static, IsThere, LacksPostingsAndDict, ListsAgree, AreExpected, IsOrdered, packed_leaves, list_under, HasDatabase, ListedDatabase, ExpectedDatabase, KeyPosting}
use Rattle.zeb_register.proofs.AgreeingRows.{same_row}
use Rattle.zeb_register.specs.Catalog.{AreDatabases}
use Rattle.zeb_register.specs.declared.expected.Expected.{Expected}

-- Each database that is there has under its id leaves that hold its postings. Those under any other id, of which nothing is expected, hold none.
-- `postings` and `dict` have no row.
pub record LeavesAgree (trees : Trees) (databases : List ExpectedDatabase) : Type 0 where
  pub there : (id : ℤ) (database : ExpectedDatabase) → IsThere trees databases id database → HasLeaves id database.postings.items trees
  pub others : (id : ℤ) → ((database : ExpectedDatabase) → ¬ IsThere trees databases id database) → HasLeaves id [] trees
  pub lacks : LacksPostingsAndDict trees

none_listed : (list : List Posting) → ((p : Posting) → ¬ Has list p) → list ≡ []
none_listed [] none = refl
none_listed (p ∷ list) none = absurd (none p (inl refl))

module _ (s : State) (store : IsStore s) (expected : Expected) (ordered : IsOrdered expected) where
  abbrev databases : List ExpectedDatabase
  databases = expected.databases.items

  abbrev trees : Trees
  trees = s.now.trees

  abbrev Rests : ℤ → Row → Type 0
  Rests id = IsRest blocks_tree (Int id ∷ []) trees

  -- the leaves of a database, where each block reads as the list says
  module _ (are : AreExpected packed_leaves trees expected) (id : ℤ) where
    each : (row : Row) → Rests id row → (key : Key) × (block : ℕ) × (bytes : List ℕ) × (row ≡ rest_shown key block bytes)
    each row h =
        let it = are.held.alone.blocks (Int id ∷ row) h in
        (it.1, it.2, it.3, (same_row id it.0 it.1 (Int (pos it.2) ∷ Blob it.3 ∷ []) row it.4).1)

    reads_as : (key : Key) (list : List Posting) → are.content id key ≡ list → (block : ℕ) → PartReads (IsLeafOf trees id key) key.term block (part_in block list)
    reads_as key list same block = subst (λ l. PartReads (IsLeafOf trees id key) key.term block (part_in block l)) same (are.held.reads id key block)

    held_there : (d : ExpectedDatabase) → IsThere trees databases id d → HoldsPostings (Rests id) d.postings.items
    held_there d there = record {
      each = each;
      alone = are.held.alone.leaves id;
      reads = λ key. reads_as key (list_under key d.postings.items) (content_at s store expected ordered packed_leaves are are.held.rising id d key there);
    }

    held_beside : ((d : ExpectedDatabase) → ¬ IsThere trees databases id d) → HoldsPostings (Rests id) []
    held_beside none = record {
      each = each;
      alone = are.held.alone.leaves id;
      reads = λ key. reads_as key [] (none_listed (are.content id key) (λ p h.
          let at = (are.posted id key p).0 h in
          none at.0 (there_is s store expected ordered packed_leaves are id at.0 at.1)));
    }

  pub leaves_agree : AreExpected packed_leaves trees expected → LeavesAgree trees databases
  leaves_agree are = record {
    there = held_there are;
    others = held_beside are;
    lacks = are.held.alone.alone;
  }

  module _ (listed : List ListedDatabase) (are : AreDatabases trees listed) (lists : ListsAgree trees expected) (rows : LeavesAgree trees databases) where
    abbrev all : Content
    all = content s store expected ordered listed are lists

    -- a database is expected under the id, or none
    listed_or : (some : List ListedDatabase) (id : ℤ) → ((l : ListedDatabase) × Has some l × (id ≡ l.id.0)) ⊎ ((l : ListedDatabase) → Has some l → id ≡ l.id.0 → ⊥)
    listed_or [] id = inr (λ l h is. h)
    listed_or (x ∷ some) id = elim (told_by int_cmp_total integers_apart id x.id.0) [
      | inl same ↦ inl (x, inl refl, same)
      | inr other ↦ elim (listed_or some id) [
        | inl it ↦ inl (it.0, inr it.1, it.2)
        | inr none ↦ inr (λ l h is. elim h [ inl same ↦ other (is ∙ ap (λ (y : ListedDatabase). y.id.0) same) | inr later ↦ none l later is ])
      ]
    ]

    there_or : (id : ℤ) → ((d : ExpectedDatabase) × IsThere trees databases id d) ⊎ ((d : ExpectedDatabase) → ¬ IsThere trees databases id d)
    there_or id = elim (listed_or listed id) [
      | inl it ↦
          let has : HasDatabase trees id (string_bytes it.0.name) (pos it.0.last) = (are.each id (string_bytes it.0.name) (pos it.0.last)).1 (it.0, it.1, it.2, refl, refl) in
          let d = (lists.names (string_bytes it.0.name) (pos it.0.last)).0 (id, has) in
          inl (d.0, (d.1, subst (λ (l : ℤ). HasDatabase trees id (string_bytes d.0.name) l) d.3 (subst (λ (n : List ℕ). HasDatabase trees id n (pos it.0.last)) d.2 has)))
      | inr none ↦ inr (λ d there. let l = (are.each id (string_bytes d.name) (pos d.last)).0 there.1 in none l.0 l.1 l.2)
    ]

    -- what the leaves under an id hold
    of_id : (id : ℤ) → (postings : List KeyPosting) × HoldsPostings (Rests id) postings × ((key : Key) → all id key ≡ list_under key postings)
    of_id id = elim (there_or id) [
      | inl it ↦ (it.0.postings.items, rows.there id it.0 it.1, λ key. content_there s store expected ordered listed are lists id it.0 key it.1)
      | inr none ↦ (
        [],
        rows.others id none,
        λ key. none_listed (all id key) (λ p h.
            let at = (posted_as s store expected ordered listed are lists id key p).0 h in
            none at.0 (there_of s store expected ordered listed are lists id at.0 at.1)),
      )
    ]

    held : HoldsLeaves trees all
    held = record {
      rising = content_up s store expected ordered listed are lists;
      reads = λ id key block.
          let it = of_id id in
          subst (λ l. PartReads (IsLeafOf trees id key) key.term block (part_in block l)) (sym (it.2 key)) (it.1.reads key block);
      alone = record {
        blocks = λ row h.
            let it = owner_row 4 blocks blocks_static _ refl s (Int h.0 ∷ row) store h.1 in
            let same : row ≡ Int it.1 ∷ it.2 = ap (drop 1) it.3 in
            let has : HasRow trees blocks_tree (Int it.1 ∷ it.2) = subst (HasRow trees blocks_tree) same h in
            let r = (of_id it.1).1.each it.2 has in
            (it.1, r.0, r.1, r.2, same ∙ ap (λ (x : Row). Int it.1 ∷ x) r.3);
        leaves = λ id. (of_id id).1.alone;
        alone = rows.lacks;
      };
    }

    pub leaves_expected : AreExpected packed_leaves trees expected
    leaves_expected = put_together s store expected ordered listed are lists packed_leaves held
