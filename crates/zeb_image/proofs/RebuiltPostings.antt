-- Registers made anew: the postings of one record more, of one database more, and of all.
use Rattle.zeb_image.proofs.Cited.{◌≡◌, ◌≢◌, ◌⊎◌, ◌↔◌, ℕ, ℤ, pos, ◌+◌, ◌<◌, List, [], ◌∷◌, ◌++◌, Some, None, inl, inr, sym, subst, arith, Option, string_bytes, nat_cmp_total, cases_lt, Int, Null, Text, Row, Trees, Has, has_left, has_right, has_either, Directive, Occurrence, numbers_apart, Record, Content, posted, AreReadable, IsFirstFrom, HasDatabase, HasRecord, KeepsLists, record_row, told_by, OccursIn, kept_of, IsPosted, IsRecordPosted, LacksDatabase, LacksRecord, RowOccurs, AreSoundIn, IsSound}
use Rattle.zeb_image.proofs.Ids.{ids_told}

-- ---- lists that are as they were

pub record_still : (old new : Trees) → KeepsLists old new → (id sysno : ℤ) (ident bytes : List ℕ) → HasRecord old id sysno ident bytes ↔ HasRecord new id sysno ident bytes
record_still old new keeps id sysno ident bytes = (
  λ there. (there.0, subst (λ rows. Has rows (Int there.0 ∷ record_row id sysno ident bytes)) (sym keeps.2) there.1),
  λ there. (there.0, subst (λ rows. Has rows (Int there.0 ∷ record_row id sysno ident bytes)) keeps.2 there.1),
)

pub database_still : (old new : Trees) → KeepsLists old new → (id : ℤ) (name : List ℕ) (last : ℤ) → HasDatabase old id name last ↔ HasDatabase new id name last
database_still old new keeps id name last = (
  λ there. subst (λ (rows : List Row). Has rows (Int id ∷ Null ∷ Text name ∷ Int last ∷ [])) (sym keeps.1) there,
  λ there. subst (λ (rows : List Row). Has rows (Int id ∷ Null ∷ Text name ∷ Int last ∷ [])) keeps.1 there,
)

pub first_still : (old new : Trees) → KeepsLists old new → (id : ℤ) (start : ℕ) (found : Option Record) → IsFirstFrom new id start found → IsFirstFrom old id start found
first_still old new keeps id start None none = λ n there. none n (there.0, there.1, (record_still old new keeps id (pos n) there.0 there.1).0 there.2)
first_still old new keeps id start (Some found) first = (
  (record_still old new keeps id (pos found.sysno) (string_bytes found.ident) found.bytes.items).1 first.0,
  first.1,
  λ n there. first.2 n (there.0, there.1, (record_still old new keeps id (pos n) there.0 there.1).0 there.2),
)

pub readable_still : (old new : Trees) → KeepsLists old new → (id : ℤ) → AreReadable old id → AreReadable new id
readable_still old new keeps id are sysno ident bytes there = are sysno ident bytes ((record_still old new keeps id sysno ident bytes).1 there)

module _ (old new : Trees) (keeps : KeepsLists old new) (profile : List Directive) (id : ℤ) where
  pub sound_still : AreSoundIn profile new id → AreSoundIn profile old id
  sound_still sound n ident bytes there = sound n ident bytes ((record_still old new keeps id (pos n) ident bytes).0 there)

  pub sound_then : AreSoundIn profile old id → AreSoundIn profile new id
  sound_then sound n ident bytes there = sound n ident bytes ((record_still old new keeps id (pos n) ident bytes).1 there)

  pub posted_still : (before after : Content) → IsPosted profile new id before after → IsPosted profile old id before after
  posted_still before after is = record {
    part = λ n o. (
      λ h. let row = (is.part n o).0 h in (row.0, row.1, (record_still old new keeps id (pos n) row.0 row.1).1 row.2, row.3),
      λ row. (is.part n o).1 (row.0, row.1, (record_still old new keeps id (pos n) row.0 row.1).0 row.2, row.3),
    );
    others = is.others;
  }

told_number : (a b : ℕ) → (a ≡ b) ⊎ (a ≢ b)
told_number a b = told_by nat_cmp_total numbers_apart a b

-- a database's records below a number have their postings; those of each other database are as they were
pub record IsPostedBelow (profile : List Directive) (lists : Trees) (id : ℤ) (next : ℕ) (before after : Content) : Type 0 where
  pub part : (n : ℕ) (o : Occurrence) → posted after id n o ↔ ((n < next) × RowOccurs profile lists id n o)
  pub others : (d : ℤ) (n : ℕ) (o : Occurrence) → d ≢ id → posted after d n o ↔ posted before d n o

module _ (profile : List Directive) (lists : Trees) where
  -- ---- the records of one database

  module _ (id : ℤ) where
    pub none_posted : (content : Content) → LacksDatabase id content → IsPostedBelow profile lists id 0 content content
    none_posted content lacks = record {
      part = λ n o. (λ h. absurd (lacks n o h), λ h. absurd (omega (arith, h.0)));
      others = λ d n o differs. (λ h. h, λ h. h);
    }

    module _ (next : ℕ) (before mid : Content) (below : IsPostedBelow profile lists id next before mid) where
      pub all_posted : IsFirstFrom lists id next None → IsPosted profile lists id before mid
      all_posted none = record {
        part = λ n o. (λ h. ((below.part n o).0 h).1, λ h. (below.part n o).1 (none n (h.0, h.1, h.2), h));
        others = below.others;
      }

      module _ (found : Record) (first : IsFirstFrom lists id next (Some found)) where
        pub first_lacks : LacksRecord id found.sysno mid
        first_lacks o there = let it = (below.part found.sysno o).0 there in omega (arith, it.0, first.1)

        module _ (one : (i j a b : List ℕ) → HasRecord lists id (pos found.sysno) i a → HasRecord lists id (pos found.sysno) j b → (i ≡ j) × (a ≡ b))
            (after : Content) (is : IsRecordPosted id found.sysno (OccursIn profile (kept_of found)) mid after) where
          of_found : (n : ℕ) (o : Occurrence) → n ≡ found.sysno → posted after id n o ↔ ((n < found.sysno + 1) × RowOccurs profile lists id n o)
          of_found n o same = (
            λ h.
                let occurs = (is.part o).0 (subst (λ m. posted after id m o) same h) in
                (omega (arith, same), subst (λ m. RowOccurs profile lists id m o) (sym same) ((kept_of found).ident, (kept_of found).bytes, first.0, occurs)),
            λ h.
                let row = subst (λ m. RowOccurs profile lists id m o) same h.1 in
                let bytes = (one row.0 (kept_of found).ident row.1 (kept_of found).bytes row.2 first.0).1 in
                let occurs : OccursIn profile (kept_of found) o =
                subst (λ b. OccursIn profile (record { sysno = found.sysno; ident = (kept_of found).ident; bytes = b }) o) bytes row.3 in
                subst (λ m. posted after id m o) (sym same) ((is.part o).1 occurs),
          )

          of_other : (n : ℕ) (o : Occurrence) → n ≢ found.sysno → posted after id n o ↔ ((n < found.sysno + 1) × RowOccurs profile lists id n o)
          of_other n o differs =
              let still = is.others id n o (λ h. differs h.1) in (
                λ h. let it = (below.part n o).0 (still.0 h) in (omega (arith, it.0, first.1), it.1),
                λ h. still.1 ((below.part n o).1 (lower n (h.1.0, h.1.1, h.1.2) differs h.0, h.1)),
              )
            where
              lower : (n : ℕ) → ((ident : List ℕ) × (bytes : List ℕ) × HasRecord lists id (pos n) ident bytes) → n ≢ found.sysno → n < found.sysno + 1 → n < next
              lower n row differs small = elim (cases_lt n next) [
                | inl less ↦ less
                | inr not_less ↦ (let more = first.2 n row not_less in absurd (differs (omega (arith, more, small))))
              ]

          pub next_posted : IsPostedBelow profile lists id (found.sysno + 1) before after
          next_posted = record {
            part = λ n o. elim (told_number n found.sysno) [ inl same ↦ of_found n o same | inr differs ↦ of_other n o differs ];
            others = λ d n o differs.
                let now = is.others d n o (λ h. differs h.0) in
                let was = below.others d n o differs in
                (λ h. was.0 (now.0 h), λ h. now.1 (was.1 h));
          }

    -- ---- records that were looked at

    abbrev pub AreSoundBelow : ℕ → Type 0
    AreSoundBelow next = (n : ℕ) (ident bytes : List ℕ) → n < next → HasRecord lists id (pos n) ident bytes → IsSound profile (record { sysno = n; ident = ident; bytes = bytes })

    pub all_sound : (next : ℕ) → AreSoundBelow next → IsFirstFrom lists id next None → AreSoundIn profile lists id
    all_sound next sound none n ident bytes there = sound n ident bytes (none n (ident, bytes, there)) there

    pub next_sound : (next : ℕ) → AreSoundBelow next → (found : Record) → IsFirstFrom lists id next (Some found)
        → ((i j a b : List ℕ) → HasRecord lists id (pos found.sysno) i a → HasRecord lists id (pos found.sysno) j b → (i ≡ j) × (a ≡ b))
        → IsSound profile (kept_of found) → AreSoundBelow (found.sysno + 1)
    next_sound next sound found first one is n ident bytes small there = elim (told_number n found.sysno) [
      | inl same ↦
          let row = subst (λ m. HasRecord lists id (pos m) ident bytes) same there in
          let alike = one (kept_of found).ident ident (kept_of found).bytes bytes first.0 row in
          let kept_is : kept_of found ≡ record { sysno = n; ident = ident; bytes = bytes } = λ i. record { sysno = sym same i; ident = alike.0 i; bytes = alike.1 i } in
          subst (IsSound profile) kept_is is
      | inr differs ↦ elim (cases_lt n next) [
        | inl less ↦ sound n ident bytes less there
        | inr not_less ↦ (let more = first.2 n (ident, bytes, there) not_less in absurd (differs (omega (arith, more, small))))
      ]
    ]

  -- ---- databases

  -- just the records of these databases have their postings
  pub record ArePostedIn (ids : List ℤ) (content : Content) : Type 0 where
    pub each : (id : ℤ) (n : ℕ) (o : Occurrence) → posted content id n o ↔ (Has ids id × RowOccurs profile lists id n o)

  pub nothing_posted : ArePostedIn [] (λ _ _. [])
  nothing_posted = record { each = λ id n o. (λ h. absurd h, λ h. absurd h.0) }

  module _ (ids : List ℤ) (before : Content) (are : ArePostedIn ids before) (id : ℤ) (new : ¬ Has ids id) where
    pub new_lacks : LacksDatabase id before
    new_lacks n o there = new ((are.each id n o).0 there).0

    pub more_posted : (after : Content) → IsPosted profile lists id before after → ArePostedIn (ids ++ id ∷ []) after
    more_posted after is = record { each = λ d n o. elim (ids_told d id) [ inl same ↦ here d n o same | inr differs ↦ there d n o differs ] }
      where
        here : (d : ℤ) (n : ℕ) (o : Occurrence) → d ≡ id → posted after d n o ↔ (Has (ids ++ id ∷ []) d × RowOccurs profile lists d n o)
        here d n o same = (
          λ h. (has_right ids (id ∷ []) d (inl same), subst (λ x. RowOccurs profile lists x n o) (sym same) ((is.part n o).0 (subst (λ x. posted after x n o) same h))),
          λ h. subst (λ x. posted after x n o) (sym same) ((is.part n o).1 (subst (λ x. RowOccurs profile lists x n o) same h.1)),
        )

        there : (d : ℤ) (n : ℕ) (o : Occurrence) → d ≢ id → posted after d n o ↔ (Has (ids ++ id ∷ []) d × RowOccurs profile lists d n o)
        there d n o differs =
            let still = is.others d n o differs in
            let was = are.each d n o in (
              λ h. let it = was.0 (still.0 h) in (has_left ids (id ∷ []) d it.0, it.1),
              λ h. elim (has_either ids (id ∷ []) d h.0) [
                | inl before ↦ still.1 (was.1 (before, h.1))
                | inr last ↦ elim last [ inl same ↦ absurd (differs same) | inr none ↦ absurd none ]
              ],
            )
