-- Registers made anew from the lists of databases: they make an image of these, and lists of what can be held are sound and can be read.
use Rattle.zeb_image.proofs.Cited.{◌≡◌, ◌≢◌, ◌⊎◌, ◌↔◌, ◌∙◌, ℕ, ℤ, pos, List, [], ◌∷◌, ◌++◌, map, inl, inr, refl, sym, ap, subst, string_bytes, IsUtf8, Less, arith, Contains, nat_cmp, slice_cmp, State, Trees, Has, all_has, has_left, has_right, has_mapped, mapped_has, Directive, Occurrence, ListedDatabase, AreDatabases, AreReadableDatabases, Content, posted, Format, holds_in, HasDatabase, HasRecord, IsStore, KeepsLists, registers_rise, one_last, Base, Kept, OccursIn, occurs, AreBases, AreListsOf, IsImageOf, AreReadableLists, AreSound, IsSound}
use Rattle.std.specs.List.Sorted.{IsStrictlySortedBy}
use Rattle.zeb_image.proofs.Bases.{less_differs}
use Rattle.zeb_image.proofs.Ids.{ids_told}
use Rattle.zeb_image.proofs.NameTexts.{name_text}
use Rattle.zeb_image.proofs.RebuiltPostings.{ArePostedIn, database_still, record_still}

-- ---- the list of databases

pub same_databases : (old new : Trees) → KeepsLists old new → (list : List ListedDatabase) → AreDatabases new list → AreDatabases old list
same_databases old new keeps list are = record {
  each = λ id name last.
      let still = database_still old new keeps id name last in
      (λ there. (are.each id name last).0 (still.0 there), λ listed. still.1 ((are.each id name last).1 listed));
  rising = are.rising;
}

pub readable_databases : (old new : Trees) → KeepsLists old new → AreReadableDatabases old → AreReadableDatabases new
readable_databases old new keeps are id name last there = are id name last ((database_still old new keeps id name last).1 there)

abbrev pub id_in : ListedDatabase → ℤ
id_in database = database.id.0

told_in : (ids : List ℤ) (id : ℤ) → Has ids id ⊎ ¬ Has ids id
told_in [] id = inr (λ h. h)
told_in (first ∷ ids) id = elim (ids_told id first) [
  | inl same ↦ inl (inl same)
  | inr other ↦ elim (told_in ids id) [ inl there ↦ inl (inr there) | inr none ↦ inr (λ h. elim h [ inl same ↦ other same | inr later ↦ none later ]) ]
]

abbrev name_in : ListedDatabase → List ℕ
name_in database = string_bytes database.name

abbrev AreRisingNames : List ListedDatabase → Type 0
AreRisingNames = IsStrictlySortedBy (λ (a b : ListedDatabase). slice_cmp nat_cmp (string_bytes a.name) (string_bytes b.name))

-- names that rise are told apart
name_before : (done rest : List ListedDatabase) (d e : ListedDatabase) → AreRisingNames (done ++ d ∷ rest) → Has done e → name_in e ≢ name_in d
unfolding IsStrictlySortedBy
name_before [] rest d e up there = absurd there
name_before (first ∷ done) rest d e up (inl same) = λ names.
    less_differs (name_in first) (name_in d) (all_has (λ z. slice_cmp nat_cmp (name_in first) (name_in z) ≡ Less) (done ++ d ∷ rest) d up.0 (has_right done (d ∷ rest) d (inl refl)))
    (ap name_in (sym same) ∙ names)
name_before (first ∷ done) rest d e up (inr later) = name_before done rest d e up.1 later

module _ (s : State) (store : IsStore s) (list : List ListedDatabase) (are : AreDatabases s.now.trees list) where
  pub listed_there : (d : ListedDatabase) → Has list d → HasDatabase s.now.trees d.id.0 (name_in d) (pos d.last)
  listed_there d there = (are.each d.id.0 (name_in d) (pos d.last)).1 (d, there, refl, refl, refl)

  -- no id comes twice
  pub new_id : (done rest : List ListedDatabase) (d : ListedDatabase) → list ≡ done ++ d ∷ rest → ¬ Has (map id_in done) d.id.0
  new_id done rest d split there =
      let it = has_mapped id_in done d.id.0 there in
      let in_list : (x : ListedDatabase) → Has (done ++ d ∷ rest) x → Has list x = λ x h. subst (λ l. Has l x) (sym split) h in
      let left : Has (done ++ d ∷ rest) it.0 = has_left done (d ∷ rest) it.0 it.1 in
      let other = subst (λ x. HasDatabase s.now.trees x (name_in it.0) (pos it.0.last)) (sym it.2) (listed_there it.0 (in_list it.0 left)) in
      name_before done rest d it.0 (subst AreRisingNames split are.rising) it.1 (one_last s store d.id.0 _ _ _ _ other (listed_there d (in_list d (has_right done (d ∷ rest) d (inl refl))))).0

  -- each database has its id there
  pub listed_id : (id : ℤ) (name : List ℕ) (last : ℤ) → HasDatabase s.now.trees id name last → Has (map id_in list) id
  listed_id id name last there = let it = (are.each id name last).0 there in subst (Has (map id_in list)) (sym it.2) (mapped_has id_in list it.0 it.1)

-- ---- the lists of databases

module _ (profile : List Directive) (lists : Trees) (bases : List Base) (these : AreListsOf lists bases) where
  -- what follows from the lists is an image
  pub rebuilt : (other : Format) (new : Trees) → KeepsLists lists new → (ids : List ℤ) → ((id : ℤ) (name : List ℕ) (last : ℤ) → HasDatabase lists id name last → Has ids id)
      → (content : Content) → holds_in other new content → ArePostedIn profile lists ids content → IsImageOf other profile new bases
  rebuilt other new keeps ids all content held are = record {
    lists = record {
      id_of = these.id_of;
      records_of = these.records_of;
      distinct = these.distinct;
      listed = λ id name last.
          let still = database_still lists new keeps id name last in
          (λ there. (these.listed id name last).0 (still.1 there), λ base. still.0 ((these.listed id name last).1 base));
      of_base = these.of_base;
      of_none = these.of_none;
      kept = λ id sysno ident bytes.
          let still = record_still lists new keeps id sysno ident bytes in
          (λ there. (these.kept id sysno ident bytes).0 (still.1 there), λ kept. still.0 ((these.kept id sysno ident bytes).1 kept));
    };
    content = content;
    held = held;
    posted = record { rising = registers_rise other new content held; each = each };
  }
    where
      known : (id : ℤ) (kept : Kept) → Contains (these.records_of id) kept → Has ids id
      known id kept there = elim (told_in ids id) [
        | inl here ↦ here
        | inr none ↦ absurd (these.of_none id (λ base in_bases same. none (all id base.name (pos base.last) ((these.listed id base.name (pos base.last)).1 (base, in_bases, same, refl, refl)))) kept there)
      ]

      each : (id : ℤ) (n : ℕ) (o : Occurrence) → posted content id n o ↔ occurs profile (these.records_of id) n o
      each id n o = (
        λ there.
            let row = ((are.each id n o).0 there).1 in
            let it = (these.kept id (pos n) row.0 row.1).0 row.2 in
            let number : n ≡ it.0.sysno = (let e = it.2 in cc) in
            (it.0, it.1, sym number, subst (λ b. OccursIn profile (record { sysno = n; ident = row.0; bytes = b }) o) it.4 row.3),
        λ there.
            let kept = there.0 in
            let row : HasRecord lists id (pos n) kept.ident kept.bytes = (these.kept id (pos n) kept.ident kept.bytes).1 (kept, there.1, ap pos (sym there.2), refl, refl) in
            (are.each id n o).1 (known id kept there.1, (kept.ident, kept.bytes, row, there.3)),
      )

  -- a row of a listed database is one of its records
  row_kept : (base : Base) → Contains bases base → (id : ℤ) → id ≡ these.id_of base.name → (sysno : ℤ) (ident bytes : List ℕ) → HasRecord lists id sysno ident bytes
      → (kept : Kept) × Contains base.records kept × (sysno ≡ pos kept.sysno) × (ident ≡ kept.ident) × (bytes ≡ kept.bytes)
  row_kept base in_bases id same sysno ident bytes there =
      let it = (these.kept id sysno ident bytes).0 there in
      (it.0, subst (λ l. Contains l it.0) (ap these.records_of same ∙ these.of_base base in_bases) it.1, it.2, it.3, it.4)

  -- the lists of databases that can be held under a profile are sound under it
  pub lists_sound : AreBases profile bases → AreSound profile lists
  lists_sound are id name last listed n ident bytes there =
      let base = (these.listed id name last).0 listed in
      let it = row_kept base.0 base.1 id base.2 (pos n) ident bytes there in
      let is = are.each base.0 base.1 in
      let number : n ≡ it.0.sysno = (let e = it.2 in cc) in
      let same : it.0 ≡ record { sysno = n; ident = ident; bytes = bytes } = λ i. record { sysno = sym number i; ident = sym it.3 i; bytes = sym it.4 i } in
      subst (IsSound profile) same (record {
        record_is = is.sound it.0 it.1;
        number = (is.from_one it.0 it.1, omega (arith, is.to_last it.0 it.1, is.few));
      })

  pub lists_readable : AreBases profile bases → AreReadableLists lists
  lists_readable are = record {
    databases = λ id name last listed.
        let base = (these.listed id name last).0 listed in
        ((base.0.last, base.4), subst IsUtf8 (sym base.3) (name_text base.0.name (are.named base.0 base.1)));
    records = λ id name last listed sysno ident bytes there.
        let base = (these.listed id name last).0 listed in
        let it = row_kept base.0 base.1 id base.2 sysno ident bytes there in
        ((it.0.sysno, it.2), subst IsUtf8 (sym it.3) ((are.each base.0 base.1).sound it.0 it.1).text);
  }
