-- The databases that are there beside the expected ones, by names and last numbers.
use Rattle.zeb_register.proofs.Cited.{State, Trees, has_got, has_mapped, mapped_has, Has, ◌≡◌, ◌↔◌, ◌∙◌, ℕ, ℤ, pos, List, map, Some, string_bytes, refl, sym, ap, ap₂, subst, Ordering, nat_cmp, IsUtf8, IsUtf8-string_bytes, IsTotalOrder, on_total, slice_cmp, nat_list_cmp_total, ListedDatabase, ExpectedDatabase, AreDatabases, AreReadableDatabases, listed_order, name_order, AsExpected, BelongsThere, BelongsTo, EachAsExpected, EachThere, HasNames, HoldsExpected, TableHolds, IsPair, IsThere, expected_name, listed_name, tree_of, HasDatabase, IsStore}
use Rattle.std.specs.List.Sorted.{IsStrictlySortedBy}
use Rattle.zeb_register.specs.declared.agreeing.Table.{Table}
use Rattle.zeb_register.proofs.ListsInStep.{got_alike, got_had}
use Rattle.zeb_register.proofs.DatabaseStatements.{one_name}
use Rattle.zeb_register.proofs.RisingLists.{same_list}
use Rattle.zeb_register.proofs.Scans.{strictly_mapped}

abbrev pair_order : List ℕ × ℕ → List ℕ × ℕ → Ordering
pair_order p q = slice_cmp nat_cmp p.0 q.0

pair_total : IsTotalOrder pair_order
pair_total = on_total (λ (p : List ℕ × ℕ). p.0) nat_list_cmp_total

abbrev pair : List ℕ → ℕ → List ℕ × ℕ
pair name last = (name, last)

first_of : {p q : List ℕ × ℕ} → p ≡ q → p.0 ≡ q.0
first_of same = ap (λ p. p.0) same

second_of : {p q : List ℕ × ℕ} → p ≡ q → p.1 ≡ q.1
second_of same = ap (λ p. p.1) same

module _ (trees : Trees) (databases : List ExpectedDatabase) where
  -- names that are expected can be read
  pub names_readable : HasNames trees databases → AreReadableDatabases trees
  names_readable has id name last there =
      let d = (has name last).0 (id, there) in
      ((d.0.last, d.3), subst IsUtf8 (sym d.2) (IsUtf8-string_bytes d.0.name))

  module _ (listed : List ListedDatabase) (are : AreDatabases trees listed) where
    pub listed_there : (l : ListedDatabase) → Has listed l → HasDatabase trees l.id.0 (string_bytes l.name) (pos l.last)
    listed_there l here = (are.each l.id.0 (string_bytes l.name) (pos l.last)).1 (l, here, refl, refl, refl)

    pub names_there : map listed_name listed ≡ map expected_name databases → HasNames trees databases
    names_there same name last = (
      λ there.
          let l = (are.each there.0 name last).0 there.1 in
          let d = has_mapped expected_name databases (listed_name l.0) (subst (λ z. Has z (listed_name l.0)) same (mapped_has listed_name listed l.0 l.1)) in
          (d.0, d.1, l.3 ∙ first_of d.2, l.4 ∙ ap pos (second_of d.2)),
      λ is.
          let l = has_mapped listed_name listed (expected_name is.0) (subst (λ z. Has z (expected_name is.0)) (sym same) (mapped_has expected_name databases is.0 is.1)) in
          (l.0.id.0, (are.each l.0.id.0 name last).1 (l.0, l.1, refl, is.2 ∙ first_of l.2, is.3 ∙ ap pos (second_of l.2))),
    )

    pub names_same : IsStrictlySortedBy name_order databases → HasNames trees databases → map listed_name listed ≡ map expected_name databases
    names_same up has = same_list pair_total (map listed_name listed) (map expected_name databases) (strictly_mapped listed_order pair_order listed_name listed (λ a b here there less. less) are.rising)
        (strictly_mapped name_order pair_order expected_name databases (λ a b here there less. less) up)
        (λ z h.
        let l = has_mapped listed_name listed z h in
        let d = (has (string_bytes l.0.name) (pos l.0.last)).0 (l.0.id.0, listed_there l.0 l.1) in
        subst (Has (map expected_name databases)) (sym (l.2 ∙ ap₂ pair d.2 (let p : pos l.0.last ≡ pos d.0.last = d.3 in let e : l.0.last ≡ d.0.last = cc in e))) (mapped_has expected_name databases d.0 d.1))
        (λ z h.
        let d = has_mapped expected_name databases z h in
        let there = (has (string_bytes d.0.name) (pos d.0.last)).1 (d.0, d.1, refl, refl) in
        let l = (are.each there.0 (string_bytes d.0.name) (pos d.0.last)).0 there.1 in
        subst (Has (map listed_name listed)) (sym (d.2 ∙ ap₂ pair l.3 (let p : pos d.0.last ≡ pos l.0.last = l.4 in let e : d.0.last ≡ l.0.last = cc in e))) (mapped_has listed_name listed l.0 l.1))

-- ---- a database under its id

module _ (s : State) (store : IsStore s) (databases : List ExpectedDatabase) where
  abbrev There : ℤ → ExpectedDatabase → Type 0
  There = IsThere s.now.trees databases

  module _ (listed : List ListedDatabase) (are : AreDatabases s.now.trees listed) (named : map listed_name listed ≡ map expected_name databases) where
    moved : (l : ListedDatabase) (d : ExpectedDatabase) → Has listed l → listed_name l ≡ expected_name d → HasDatabase s.now.trees l.id.0 (string_bytes d.name) (pos d.last)
    moved l d here same =
        subst (λ (k : ℕ). HasDatabase s.now.trees l.id.0 (string_bytes d.name) (pos k)) (second_of same)
        (subst (λ (n : List ℕ). HasDatabase s.now.trees l.id.0 n (pos l.last)) (first_of same) (listed_there s.now.trees databases listed are l here))

    pub there_pair : (one : ListedDatabase) (d : ExpectedDatabase) → IsPair listed databases one d → There one.id.0 d
    there_pair one d it =
        let x = got_alike listed_name expected_name listed databases named it.0 d it.2 in
        let same : x.0 ≡ one = let e : Some x.0 ≡ Some one = sym x.1 ∙ it.1 in cc in
        (has_got databases it.0 d it.2, moved one d (has_got listed it.0 one it.1) (ap listed_name (sym same) ∙ x.2))

    pub pair_there : (id : ℤ) (d : ExpectedDatabase) → There id d → (one : ListedDatabase) × IsPair listed databases one d × (id ≡ one.id.0)
    pair_there id d there =
        let k = got_had databases d there.0 in
        let x = got_alike listed_name expected_name listed databases named k.0 d k.1 in
        (x.0, (k.0, x.1, k.1), one_name s id x.0.id.0 (string_bytes d.name) (pos d.last) (pos d.last) store there.1 (moved x.0 d (has_got listed k.0 x.0 x.1) x.2))

    pub each_there : (table : Table) → EachAsExpected table listed databases s.now.trees → EachThere (AsExpected table) databases s.now.trees
    each_there table each id d there =
        let it = pair_there id d there in
        subst (λ (i : ℤ). AsExpected table i d s.now.trees) (sym it.2) (each it.0 d it.1)

    pub each_pair : (table : Table) → EachThere (AsExpected table) databases s.now.trees → EachAsExpected table listed databases s.now.trees
    each_pair table each one d it = each one.id.0 d (there_pair one d it)

    pub belongs_there : (tree : ℕ) → BelongsTo tree listed s.now.trees → BelongsThere tree databases s.now.trees
    belongs_there tree belongs id owns =
        let l = belongs id owns in
        let k = got_had listed l.0 l.1 in
        let d = got_alike expected_name listed_name databases listed (sym named) k.0 l.0 k.1 in
        (d.0, (has_got databases k.0 d.0 d.1, subst (λ (i : ℤ). HasDatabase s.now.trees i (string_bytes d.0.name) (pos d.0.last)) (sym l.2) (moved l.0 d.0 l.1 (sym d.2))))

    pub belongs_listed : (tree : ℕ) → BelongsThere tree databases s.now.trees → BelongsTo tree listed s.now.trees
    belongs_listed tree belongs id owns =
        let d = belongs id owns in
        let it = pair_there id d.0 d.1 in
        (it.0, has_got listed it.1.0 it.0 it.1.1, it.2)

    -- a table holds what is expected by the list of databases exactly where it does by their names
    pub expected_there : (table : Table) → HoldsExpected table listed databases s.now.trees ↔ TableHolds table databases s.now.trees
    expected_there table = (
      λ h. (each_there table h.0, belongs_there (tree_of table) h.1),
      λ h. (each_pair table h.0, belongs_listed (tree_of table) h.1),
    )
