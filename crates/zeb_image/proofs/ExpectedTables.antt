-- Tables that hold just what is expected, with the databases that are there, are the image of these.
use Rattle.zeb_image.proofs.Cited.{◌≡◌, ◌∙◌, ℕ, ℤ, pos, List, [], ◌∷◌, map, Less, refl, sym, ap, subst, subst₂, inl, inr, string_bytes, slice_cmp, nat_cmp, IsUtf8-string_bytes, State, Has, all_has, contains_had, has_contained, has_mapped, mapped_has, Directive, canonical_text, IsProfile, Expected, ExpectedDatabase, AreExpected, name_order, Format, version_of, IsStore, registers_rise, strictly_mapped, Base, Kept, IsBase, with_records, at_id, at_other, told_id, AreBases, HasTexts, IsImageOf, IsImageUnder, IsDatabaseName, IsExpectation, kept_of}
use Rattle.std.specs.List.Sorted.{IsStrictlySortedBy}
use Rattle.zeb_image.proofs.Bases.{less_differs}
use Rattle.zeb_image.proofs.CheckedTables.{base_of, listed_there, made_base, names_rise}

-- ---- records by the ids of their databases

abbrev pub records_at : (List ℕ → ℤ) → List Base → ℤ → List Kept
records_at id_of [] id = []
records_at id_of (b ∷ bases) id = with_records (id_of b.name) b.records (records_at id_of bases) id

module _ (id_of : List ℕ → ℤ) where
  abbrev AreApart : List Base → Type 0
  AreApart bases = (a b : Base) → Has bases a → Has bases b → id_of a.name ≡ id_of b.name → a ≡ b

  found_at : (bases : List Base) → AreApart bases → (b : Base) → Has bases b → (id : ℤ) → id ≡ id_of b.name → records_at id_of bases id ≡ b.records
  found_at [] one b there id same = absurd there
  found_at (first ∷ rest) one b there id same = elim (told_id id (id_of first.name)) [
    | inl is ↦ at_id (id_of first.name) (records_at id_of rest) first.records id is ∙ ap (λ (x : Base). x.records) (one first b (inl refl) there (sym is ∙ same))
    | inr differs ↦ elim there [
      | inl is_first ↦ absurd (differs (same ∙ ap (λ (x : Base). id_of x.name) is_first))
      | inr later ↦ at_other (id_of first.name) (records_at id_of rest) first.records id differs ∙ found_at rest (λ a c here below. one a c (inr here) (inr below)) b later id same
    ]
  ]

  at_has : (bases : List Base) (id : ℤ) (k : Kept) → Has (records_at id_of bases id) k → (b : Base) × Has bases b × (id ≡ id_of b.name) × Has b.records k
  at_has [] id k there = absurd there
  at_has (first ∷ rest) id k there = elim (told_id id (id_of first.name)) [
    | inl is ↦ (first, inl refl, is, subst (λ (l : List Kept). Has l k) (at_id (id_of first.name) (records_at id_of rest) first.records id is) there)
    | inr differs ↦
        let it = at_has rest id k (subst (λ (l : List Kept). Has l k) (at_other (id_of first.name) (records_at id_of rest) first.records id differs) there) in
        (it.0, inr it.1, it.2, it.3)
  ]

-- one database of a name
one_named : (ds : List ExpectedDatabase) → IsStrictlySortedBy name_order ds → (a b : ExpectedDatabase) → Has ds a → Has ds b → string_bytes a.name ≡ string_bytes b.name → a ≡ b
unfolding IsStrictlySortedBy
one_named [] up a b here there same = absurd here
one_named (first ∷ rest) up a b (inl is) (inl are) same = is ∙ sym are
one_named (first ∷ rest) up a b (inl is) (inr later) same =
    absurd (less_differs (string_bytes first.name) (string_bytes b.name) (all_has (λ d. name_order first d ≡ Less) rest b up.0 later) (ap (λ (d : ExpectedDatabase). string_bytes d.name) (sym is) ∙ same))
one_named (first ∷ rest) up a b (inr later) (inl are) same =
    absurd (less_differs (string_bytes first.name) (string_bytes a.name) (all_has (λ d. name_order first d ≡ Less) rest a up.0 later) (ap (λ (d : ExpectedDatabase). string_bytes d.name) (sym are) ∙ sym same))
one_named (first ∷ rest) up a b (inr here) (inr there) same = one_named rest up.1 a b here there same

-- ---- the image

module _ (format : Format) (profile : List Directive) (s : State) (store : IsStore s) (expected : Expected) (is : IsExpectation format profile s.now.trees expected) where
  abbrev pub bases_of : List Base
  bases_of = map base_of expected.databases.items

  made_bases : AreBases profile bases_of
  made_bases = record {
    rising = strictly_mapped name_order (λ (a b : Base). slice_cmp nat_cmp a.name b.name) base_of expected.databases.items (λ a b here there less. less) (names_rise profile s expected.databases.items is.databases);
    each = λ b there.
        let z = has_mapped base_of expected.databases.items b (has_contained bases_of b there) in
        let l = listed_there profile s expected.databases.items is.databases z.0 z.1 in
        subst (IsBase profile) (sym z.2) (made_base profile s store l.0 z.0 l.1);
    named = λ b there.
        let z = has_mapped base_of expected.databases.items b (has_contained bases_of b there) in
        subst (λ (x : Base). IsDatabaseName x.name) (sym z.2) (listed_there profile s expected.databases.items is.databases z.0 z.1).1.named;
  }

  module _ (agrees : AreExpected format s.now.trees expected) where
    one_base : AreApart agrees.id_of bases_of
    one_base a b here there same =
        let ds = expected.databases.items in
        let y = has_mapped base_of ds a here in
        let z = has_mapped base_of ds b there in
        let ids : agrees.id_of (string_bytes y.0.name) ≡ agrees.id_of (string_bytes z.0.name) = ap (λ (x : Base). agrees.id_of x.name) (sym y.2) ∙ same ∙ ap (λ (x : Base). agrees.id_of x.name) z.2 in
        y.2 ∙ ap base_of (one_named ds (names_rise profile s ds is.databases) y.0 z.0 y.1 z.1 (agrees.distinct y.0 z.0 y.1 z.1 ids)) ∙ sym z.2

    made_image : IsImageOf format profile s.now.trees bases_of
    made_image =
        let ds = expected.databases.items in
        let id_of = agrees.id_of in
        let all = records_at id_of bases_of in
        let at : (d : ExpectedDatabase) (id : ℤ) → Has ds d → id ≡ id_of (string_bytes d.name) → all id ≡ map kept_of d.records.items =
        λ d id there same. found_at id_of bases_of one_base (base_of d) (mapped_has base_of ds d there) id same in
        record {
          lists = record {
            id_of = id_of;
            records_of = all;
            distinct = λ a b here there same. ap (λ (x : Base). x.name) (one_base a b (has_contained bases_of a here) (has_contained bases_of b there) same);
            listed = λ id name last. (
              λ row. let it = (agrees.listed id name last).0 row in (base_of it.0, contains_had bases_of (base_of it.0) (mapped_has base_of ds it.0 it.1.0), it.1.1, it.2, it.3),
              λ h.
                  let z = has_mapped base_of ds h.0 (has_contained bases_of h.0 h.1) in
                  (agrees.listed id name last).1 (z.0, (z.1, h.2 ∙ ap (λ (x : Base). id_of x.name) z.2), h.3 ∙ ap (λ (x : Base). x.name) z.2, h.4 ∙ ap (λ (x : Base). pos x.last) z.2),
            );
            of_base = λ b there. found_at id_of bases_of one_base b (has_contained bases_of b there) (id_of b.name) refl;
            of_none = λ id none k there. (let it = at_has id_of bases_of id k (has_contained (all id) k there) in none it.0 (contains_had bases_of it.0 it.1) it.2);
            kept = λ id sysno ident bytes. (
              λ row.
                  let it = (agrees.kept id sysno ident bytes).0 row in
                  (kept_of it.1, contains_had (all id) (kept_of it.1) (subst (λ (l : List Kept). Has l (kept_of it.1)) (sym (at it.0 id it.2.0 it.2.1)) (mapped_has kept_of it.0.records.items it.1 it.3)), it.4, it.5, it.6),
              λ h.
                  let b = at_has id_of bases_of id h.0 (has_contained (all id) h.0 h.1) in
                  let z = has_mapped base_of ds b.0 b.1 in
                  let r = has_mapped kept_of z.0.records.items h.0 (subst (λ (x : Base). Has x.records h.0) z.2 b.3) in
                  (agrees.kept id sysno ident bytes).1 (
                    z.0,
                    r.0,
                    (z.1, b.2 ∙ ap (λ (x : Base). id_of x.name) z.2),
                    r.1,
                    h.2 ∙ ap (λ (k : Kept). pos k.sysno) r.2,
                    h.3 ∙ ap (λ (k : Kept). k.ident) r.2,
                    h.4 ∙ ap (λ (k : Kept). k.bytes) r.2,
                  ),
            );
          };
          content = agrees.content;
          held = agrees.held;
          posted = record {
            rising = registers_rise format s.now.trees agrees.content agrees.held;
            each = λ id n o. (
              λ there.
                  let it = (agrees.posted id o.key (record { sysno = n; seq = o.seq; pos = o.pos })).0 there in
                  let l = listed_there profile s ds is.databases it.0 it.1.0 in
                  let found = (l.1.postings (record { key = o.key; posting = record { sysno = n; seq = o.seq; pos = o.pos } })).0 it.2 in
                  (found.0, contains_had (all id) found.0 (subst (λ (l : List Kept). Has l found.0) (sym (at it.0 id it.1.0 it.1.1)) (has_contained (map kept_of it.0.records.items) found.0 found.1)), found.2, found.3),
              λ h.
                  let b = at_has id_of bases_of id h.0 (has_contained (all id) h.0 h.1) in
                  let z = has_mapped base_of ds b.0 b.1 in
                  let l = listed_there profile s ds is.databases z.0 z.1 in
                  let in_it : Has (map kept_of z.0.records.items) h.0 = subst (λ (x : Base). Has x.records h.0) z.2 b.3 in
                  (agrees.posted id o.key (record { sysno = n; seq = o.seq; pos = o.pos })).1 (
                    z.0,
                    (z.1, b.2 ∙ ap (λ (x : Base). id_of x.name) z.2),
                    (l.1.postings (record { key = o.key; posting = record { sysno = n; seq = o.seq; pos = o.pos } })).1 (h.0, contains_had (map kept_of z.0.records.items) h.0 in_it, h.2, h.3),
                  ),
            );
          };
        }

    made_texts : HasTexts s.now.trees (version_of format) (canonical_text profile) (string_bytes expected.identifier)
    made_texts = subst₂ (λ (v t : List ℕ). HasTexts s.now.trees v t (string_bytes expected.identifier)) is.version is.text (record {
      readable = (IsUtf8-string_bytes expected.version, IsUtf8-string_bytes expected.profile, IsUtf8-string_bytes expected.identifier);
      each = agrees.texts;
    })

    pub image_made : ∥ IsProfile profile ∥₁ → IsImageUnder profile s.now.trees (version_of format) (canonical_text profile) bases_of
    image_made sound = record {
      sound = sound;
      text_is = refl;
      pattern = string_bytes expected.identifier;
      pattern_is = is.pattern;
      texts = made_texts;
      are = made_bases;
      format = format;
      version_is = refl;
      image = made_image;
    }
