-- Tables that are an image can be read and held, and hold just what is expected.
use Rattle.zeb_image.proofs.Cited.{◌≡◌, ◌≢◌, ◌⊎◌, ◌∙◌, ◌≤◌, ℕ, ℤ, pos, List, [], ◌∷◌, map, Option, Some, refl, sym, ap, subst, subst₂, inl, inr, string_bytes, IsUtf8, Contains, option_map, State, Has, contains_had, has_contained, has_mapped, mapped_has, Directive, canonical_text, pattern_text, identifier_pattern, Occurrence, ListedDatabase, Expected, ExpectedDatabase, Record, AreExpected, Format, version_of, HasDatabase, HasRecord, IsStore, Base, Kept, OccursIn, IsKept, told_id, AreBases, HasTexts, IsImageOf, IsDatabaseName, CanAllBeHeld, IsExpectation, IsMadeOf, kept_of}
use Rattle.zeb_image.proofs.CheckedRecords.{number_inside}
use Rattle.zeb_image.proofs.NameTexts.{name_text}
use Rattle.zeb_image.proofs.CheckedTables.{listed_there, made_there, record_there, row_there, same_kept}

some_inside : (a b : List ℕ) → ◌≡◌ {A = Option (List ℕ)} (Some a) (Some b) → a ≡ b
some_inside a b same = cc

-- the database of an id, if there is one
based : (id_of : List ℕ → ℤ) (bases : List Base) (id : ℤ) → ((b : Base) × Has bases b × (id ≡ id_of b.name)) ⊎ ((b : Base) → Has bases b → id ≢ id_of b.name)
based id_of [] id = inr (λ b there. absurd there)
based id_of (first ∷ rest) id = elim (told_id id (id_of first.name)) [
  | inl is ↦ inl (first, inl refl, is)
  | inr differs ↦ elim (based id_of rest id) [
    | inl found ↦ inl (found.0, inr found.1, found.2)
    | inr none ↦ inr (λ b there same. elim there [ inl is ↦ differs (same ∙ ap (λ (x : Base). id_of x.name) is) | inr later ↦ none b later same ])
  ]
]

module _ (format : Format) (profile : List Directive) (s : State) (bases : List Base) (are : AreBases profile bases) (image : IsImageOf format profile s.now.trees bases) where
  -- ---- what is there can be read and held

  pub image_sound : CanAllBeHeld profile s.now.trees
  image_sound = record {
    readable = λ id name last row. (let it = (image.lists.listed id name last).0 row in ((it.0.last, it.4), subst IsUtf8 (sym it.3) (name_text it.0.name (are.named it.0 it.1))));
    each = λ id name last row.
        let it = (image.lists.listed id name (pos last)).0 row in
        let base = are.each it.0 it.1 in
        let same : last ≡ it.0.last = number_inside last it.0.last it.4 in
        record {
          named = subst IsDatabaseName (sym it.3) (are.named it.0 it.1);
          few = subst (λ (n : ℕ). n ≤ 999999999) (sym same) base.few;
          records = λ sysno ident bytes r.
              let k = (image.lists.kept id sysno ident bytes).0 r in
              let there : Contains it.0.records k.0 = subst (λ (l : List Kept). Contains l k.0) (ap image.lists.records_of it.2 ∙ image.lists.of_base it.0 it.1) k.1 in (
                k.0.sysno,
                k.2,
                record {
                  from_one = base.from_one k.0 there;
                  to_last = subst (λ (n : ℕ). k.0.sysno ≤ n) (sym same) (base.to_last k.0 there);
                  is = subst (IsKept profile) (same_kept k.0 (record { sysno = k.0.sysno; ident = ident; bytes = bytes }) refl (sym k.3) (sym k.4)) (base.sound k.0 there);
                },
              );
        };
  }

  -- ---- and is what is expected

  module _ (store : IsStore s) (expected : Expected) (is : IsExpectation format profile s.now.trees expected) where
    -- a database has the id of its name
    named_id : (l : ListedDatabase) (d : ExpectedDatabase) → HasDatabase s.now.trees l.id.0 (string_bytes d.name) (pos d.last)
        → (b : Base) × Contains bases b × (l.id.0 ≡ image.lists.id_of (string_bytes d.name)) × (string_bytes d.name ≡ b.name)
    named_id l d row = let it = (image.lists.listed l.id.0 (string_bytes d.name) (pos d.last)).0 row in (it.0, it.1, it.2 ∙ ap image.lists.id_of (sym it.3), it.3)

    -- a kept record is in an expected database
    kept_there : (id : ℤ) (k : Kept) → Contains (image.lists.records_of id) k
        → (d : ExpectedDatabase) × (l : ListedDatabase) × Has expected.databases.items d × IsMadeOf profile s.now.trees l d × (id ≡ l.id.0) × (id ≡ image.lists.id_of (string_bytes d.name))
        × ((r : Record) × Has d.records.items r × (k ≡ kept_of r))
    kept_there id k there = elim (based image.lists.id_of bases id) [
      | inl found ↦
          let b = found.0 in
          let row = (image.lists.listed id b.name (pos b.last)).1 (b, contains_had bases b found.1, found.2, refl, refl) in
          let it = made_there profile s expected.databases.items is.databases id b.name (pos b.last) row in
          let kept : HasRecord s.now.trees id (pos k.sysno) k.ident k.bytes = (image.lists.kept id (pos k.sysno) k.ident k.bytes).1 (k, there, refl, refl, refl) in
          let r = record_there profile s store it.1 it.0 it.3 (pos k.sysno) k.ident k.bytes (subst (λ (i : ℤ). HasRecord s.now.trees i (pos k.sysno) k.ident k.bytes) it.4 kept) in
          (it.0, it.1, it.2, it.3, it.4, found.2 ∙ ap image.lists.id_of it.5, (r.0, r.1, same_kept k (kept_of r.0) (number_inside k.sysno r.0.sysno r.2) r.3 r.4))
      | inr none ↦ absurd (image.lists.of_none id (λ b h. none b (has_contained bases b h)) k there)
    ]

    -- and the other way round
    there_kept : (id : ℤ) (l : ListedDatabase) (d : ExpectedDatabase) (made : IsMadeOf profile s.now.trees l d) (r : Record) → id ≡ l.id.0 → Has d.records.items r → Contains (image.lists.records_of id) (kept_of r)
    there_kept id l d made r same there =
        let row = subst (λ (i : ℤ). HasRecord s.now.trees i (pos r.sysno) (string_bytes r.ident) r.bytes.items) (sym same) (row_there profile s store l d made r there) in
        let k = (image.lists.kept id (pos r.sysno) (string_bytes r.ident) r.bytes.items).0 row in
        subst (Contains (image.lists.records_of id)) (sym (same_kept (kept_of r) k.0 (number_inside r.sysno k.0.sysno k.2) k.3 k.4)) k.1

    module _ (pattern : List ℕ) (pattern_is : option_map pattern_text (identifier_pattern profile) ≡ Some pattern) (texts : HasTexts s.now.trees (version_of format) (canonical_text profile) pattern) where
      told_texts : HasTexts s.now.trees (string_bytes expected.version) (string_bytes expected.profile) (string_bytes expected.identifier)
      told_texts =
          let same : pattern ≡ string_bytes expected.identifier = some_inside pattern (string_bytes expected.identifier) (sym pattern_is ∙ is.pattern) in
          subst₂ (λ (v t : List ℕ). HasTexts s.now.trees v t (string_bytes expected.identifier)) (sym is.version) (sym is.text)
          (subst (HasTexts s.now.trees (version_of format) (canonical_text profile)) same texts)

      pub image_expected : AreExpected format s.now.trees expected
      image_expected =
          let ds = expected.databases.items in
          let there = listed_there profile s ds is.databases in
          record {
            texts = told_texts.each;
            id_of = image.lists.id_of;
            distinct = λ one two here below same.
                let l = there one here in
                let m = there two below in
                let a = named_id l.0 one l.2 in
                let b = named_id m.0 two m.2 in
                a.3 ∙ image.lists.distinct a.0 b.0 a.1 b.1 (ap image.lists.id_of (sym a.3) ∙ same ∙ ap image.lists.id_of b.3) ∙ sym b.3;
            listed = λ id name last. (
              λ row.
                  let it = made_there profile s ds is.databases id name last row in
                  let own : HasDatabase s.now.trees it.1.id.0 (string_bytes it.0.name) (pos it.0.last) =
                  subst (λ (i : ℤ). HasDatabase s.now.trees i (string_bytes it.0.name) (pos it.0.last)) it.4
                  (subst₂ (λ (n : List ℕ) (m : ℤ). HasDatabase s.now.trees id n m) it.5 it.6 row) in
                  (it.0, (it.2, it.4 ∙ (named_id it.1 it.0 own).2), it.5, it.6),
              λ h.
                  let l = there h.0 h.1.0 in
                  let ids : l.0.id.0 ≡ id = (named_id l.0 h.0 l.2).2 ∙ sym h.1.1 in
                  subst (λ (i : ℤ). HasDatabase s.now.trees i name last) ids (subst₂ (λ (n : List ℕ) (m : ℤ). HasDatabase s.now.trees l.0.id.0 n m) (sym h.2) (sym h.3) l.2),
            );
            kept = λ id sysno ident bytes. (
              λ row.
                  let k = (image.lists.kept id sysno ident bytes).0 row in
                  let at = kept_there id k.0 k.1 in
                  let r = at.6 in
                  (at.0, r.0, (at.2, at.5), r.1, k.2 ∙ ap (λ (x : Kept). pos x.sysno) r.2, k.3 ∙ ap (λ (x : Kept). x.ident) r.2, k.4 ∙ ap (λ (x : Kept). x.bytes) r.2),
              λ h.
                  let l = there h.0 h.2.0 in
                  let ids : id ≡ l.0.id.0 = h.2.1 ∙ sym (named_id l.0 h.0 l.2).2 in
                  (image.lists.kept id sysno ident bytes).1 (kept_of h.1, there_kept id l.0 h.0 l.1 h.1 ids h.3, h.4, h.5, h.6),
            );
            content = image.content;
            held = image.held;
            posted = λ id key p. (
              λ h.
                  let o : Occurrence = record { key = key; seq = p.seq; pos = p.pos } in
                  let found = (image.posted.each id p.sysno o).0 h in
                  let at = kept_there id found.0 found.1 in
                  let r = at.6 in (
                    at.0,
                    (at.2, at.5),
                    (at.3.postings (record { key = key; posting = p })).1 (
                      kept_of r.0,
                      contains_had (map kept_of at.0.records.items) (kept_of r.0) (mapped_has kept_of at.0.records.items r.0 r.1),
                      ap (λ (x : Kept). x.sysno) (sym r.2) ∙ found.2,
                      subst (λ (x : Kept). OccursIn profile x o) r.2 found.3,
                    ),
                  ),
              λ h.
                  let o : Occurrence = record { key = key; seq = p.seq; pos = p.pos } in
                  let l = there h.0 h.1.0 in
                  let ids : id ≡ l.0.id.0 = h.1.1 ∙ sym (named_id l.0 h.0 l.2).2 in
                  let found = (l.1.postings (record { key = key; posting = p })).0 h.2 in
                  let r = has_mapped kept_of h.0.records.items found.0 (has_contained (map kept_of h.0.records.items) found.0 found.1) in
                  (image.posted.each id p.sysno o).1 (
                    kept_of r.0,
                    there_kept id l.0 h.0 l.1 r.0 ids r.1,
                    ap (λ (x : Kept). x.sysno) (sym r.2) ∙ found.2,
                    subst (λ (x : Kept). OccursIn profile x o) r.2 found.3,
                  ),
            );
          }
