-- The leaves under each id, by the ids with which rows begin and by the list of the databases that are there.
use Rattle.zeb_leaves.proofs.Cited.{Row, State, Trees, column, Int, Has, ◌≡◌, ◌⊎◌, ◌↔◌, ◌∙◌, ◌∷◌, ℤ, pos, Option, List, [], map, refl, sym, ap, subst, inl, inr, integers_apart, told_by, int_cmp_total, IsRest, IsStore, blocks_tree, Bool, ◌+ℤ◌, EachHasLeaves, HasLeaves, IsEmptyBeside, OthersAreEmpty, owner_row, blocks, blocks_static, IsLeastFrom, IsListedId, IsThere, LacksPostingsAndDict, Owns, expected_name, listed_name, ListedDatabase, ExpectedDatabase, KeyPosting}
use Rattle.std.specs.Bool.{IsTrue}
use Rattle.sqlite_rules.proofs.ListLemmas.{has_got}
use Rattle.std.specs.List.Sorted.{IsStrictlySortedBy}
use Rattle.zeb_leaves.proofs.ExpectedLeaves.{LeavesAgree}
use Rattle.zeb_leaves.proofs.OwnKeys.{own_keys}
use Rattle.zeb_leaves.proofs.WalkedHold.{walked_hold}
use Rattle.zeb_register.proofs.ExpectedDatabases.{pair_there, there_pair}
use Rattle.zeb_register.proofs.ListsInStep.{got_alike, got_had}
use Rattle.zeb_register.specs.Catalog.{AreDatabases}

-- ---- ids with which no row begins

module _ (s : State) (store : IsStore s) where
  abbrev trees : Trees
  trees = s.now.trees

  abbrev Begins : List Row → ℤ → Type 0
  Begins rows id = (rest : Row) × (i : ℤ) × Has rows (Int i ∷ Int id ∷ rest)

  begins_or : (rows : List Row) → ((r : Row) → Has rows r → Has (trees blocks_tree) r) → (id : ℤ) → Begins rows id ⊎ (¬ Begins rows id)
  begins_or [] all id = inr (λ h. h.2)
  begins_or (r ∷ rows) all id =
      let it = owner_row 4 blocks blocks_static _ refl s r store (all r (inl refl)) in
      elim (told_by int_cmp_total integers_apart id it.1) [
        | inl same ↦ inl (it.2, it.0, inl (subst (λ (d : ℤ). Int it.0 ∷ Int d ∷ it.2 ≡ r) (sym same) (sym it.3)))
        | inr other ↦ elim (begins_or rows (λ x h. all x (inr h)) id) [
          | inl later ↦ inl (later.0, later.1, inr later.2)
          | inr none ↦ inr (λ h. elim h.2 [
            | inl here ↦ other (let e : Int id ≡ Int it.1 = ap (λ (x : Row). column x 1) (here ∙ it.3) in let f : id ≡ it.1 = cc in f)
            | inr later ↦ none (h.0, h.1, later)
          ])
        ]
      ]

  -- without a row they hold nothing
  no_leaves : (id : ℤ) → ¬ Owns blocks_tree trees id → HasLeaves id [] trees
  unfolding IsStrictlySortedBy
  no_leaves id none =
      walked_hold (IsRest blocks_tree (Int id ∷ []) trees) [] (record { each = λ row. (λ h. absurd h, λ h. absurd (none (row, h))); rising = tt }) (own_keys s store id) [] tt refl

  pub others_empty : (listed : List ListedDatabase) → ((id : ℤ) → Owns blocks_tree trees id → IsEmptyBeside listed trees id) → OthersAreEmpty listed trees
  others_empty listed all id = elim (begins_or (trees blocks_tree) (λ r h. h) id) [
    | inl it ↦ all id (it.0, (it.1, it.2))
    | inr none ↦ λ other. no_leaves id (λ owns. none (owns.0, owns.1.0, owns.1.1))
  ]

-- ---- the databases that are there

module _ (s : State) (store : IsStore s) (databases : List ExpectedDatabase) (listed : List ListedDatabase) (are : AreDatabases s.now.trees listed) (named : map listed_name listed ≡ map expected_name databases) where
  -- an id that one of them has is that of an expected database
  listed_there : (id : ℤ) → IsListedId listed id → (d : ExpectedDatabase) × IsThere s.now.trees databases id d
  listed_there id l =
      let k = got_had listed l.0 l.1 in
      let d = got_alike expected_name listed_name databases listed (sym named) k.0 l.0 k.1 in
      (d.0, subst (λ (i : ℤ). IsThere s.now.trees databases i d.0) (sym l.2) (there_pair s store databases listed are named l.0 d.0 (k.0, k.1, d.1)))

  pub by_names : LacksPostingsAndDict s.now.trees → OthersAreEmpty listed s.now.trees → EachHasLeaves listed databases s.now.trees → LeavesAgree s.now.trees databases
  by_names lacks others each = record {
    there = λ id d there.
        let it = pair_there s store databases listed are named id d there in
        subst (λ (i : ℤ). HasLeaves i d.postings.items s.now.trees) (sym it.2) (each it.0 d it.1);
    others = λ id none. others id (λ l. let it = listed_there id l in none it.0 it.1);
    lacks = lacks;
  }

  pub by_list : LeavesAgree s.now.trees databases → OthersAreEmpty listed s.now.trees × EachHasLeaves listed databases s.now.trees
  by_list agree = (
    λ id other. agree.others id (λ d there. let it = pair_there s store databases listed are named id d there in other (it.0, has_got listed it.1.0 it.0 it.1.1, it.2)),
    λ one d pair. agree.there one.id.0 d (there_pair s store databases listed are named one d pair),
  )

-- what is told of the id and the postings that were looked at
pub told_leaves : (trees : Trees) (db id : ℤ) (seen postings : List KeyPosting) (agree : Bool) → db ≡ id → seen ≡ postings → (IsTrue agree ↔ HasLeaves db seen trees) → IsTrue agree ↔ HasLeaves id postings trees
told_leaves trees db id seen postings agree same all value =
    subst (λ (i : ℤ). IsTrue agree ↔ HasLeaves i postings trees) same (subst (λ (l : List KeyPosting). IsTrue agree ↔ HasLeaves db l trees) all value)

-- the id behind one
pub next_there : (trees : Trees) (start id : ℤ) (found : Option ℤ) → start ≡ id +ℤ pos 1 → IsLeastFrom (Owns blocks_tree trees) start found → IsLeastFrom (Owns blocks_tree trees) (id +ℤ pos 1) found
next_there trees start id found is least = subst (λ (z : ℤ). IsLeastFrom (Owns blocks_tree trees) z found) is least
