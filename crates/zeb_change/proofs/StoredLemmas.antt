-- The table of records, of which one database's are put in the place of those that it had.
use Rattle.zeb_change.proofs.Cited.{◌≡◌, ◌≢◌, ◌⊎◌, ◌↔◌, ◌∙◌, ℕ, ℤ, pos, Bool, true, false, List, Option, Some, None, inl, inr, refl, sym, ap, ap₂, subst, Contains, int_eq, Decides-int_eq, Int, Text, Blob, Row, column, Trees, Has, has_contained, contains_had, Elder, Loses, Replaces, records_tree, record_row, HasRecord, HasNumber, SharesRecord, IsElderOf, Base, Kept, AreKept, IsElderAs, with_records}
use Rattle.zeb_change.proofs.KeptLemmas.{none_found, one_found}
use Rattle.zeb_change.proofs.KeptChanges.{IsPutIn, IsTakenFrom}

same_id : (other id : ℤ) → ((other ≡ id) × (int_eq other id ≡ true)) ⊎ ((other ≢ id) × (int_eq other id ≡ false))
same_id other id = go (int_eq other id) refl
  where
    go : (b : Bool) → int_eq other id ≡ b → ((other ≡ id) × (int_eq other id ≡ true)) ⊎ ((other ≢ id) × (int_eq other id ≡ false))
    go true e = inl ((Decides-int_eq other id).0 e, e)
    go false e = inr (λ same. (let t : true ≡ false = sym ((Decides-int_eq other id).1 same) ∙ e in cc), e)

-- the database, or another
pub told_id : (other id : ℤ) → (other ≡ id) ⊎ (other ≢ id)
told_id other id = elim (same_id other id) [ inl same ↦ inl same.0 | inr differs ↦ inr differs.0 ]

module _ (id : ℤ) (records_of : ℤ → List Kept) where
  pub at_id : (records : List Kept) (other : ℤ) → other ≡ id → with_records id records records_of other ≡ records
  at_id records other same = rw ((Decides-int_eq other id).1 same) refl

  pub at_other : (records : List Kept) (other : ℤ) → other ≢ id → with_records id records records_of other ≡ records_of other
  at_other records other differs = elim (same_id other id) [
    | inl same ↦ absurd (differs same.0)
    | inr other_one ↦ rw other_one.1 refl
  ]

  -- which record has a row
  abbrev IsRowOf : (ℤ → List Kept) → ℤ → ℤ → List ℕ → List ℕ → Type 0
  IsRowOf all i sysno ident bytes = (kept : Kept) × Contains (all i) kept × (sysno ≡ pos kept.sysno) × (ident ≡ kept.ident) × (bytes ≡ kept.bytes)

  module _ (old new : Trees) (before after : List Kept) (are : AreKept old (with_records id before records_of)) where
    was_there : (i sysno : ℤ) (ident bytes : List ℕ) → i ≡ id → HasRecord old i sysno ident bytes → IsRowOf (λ _. before) i sysno ident bytes
    was_there i sysno ident bytes same there =
        let it = (are i sysno ident bytes).0 there in
        (it.0, subst (λ l. Contains l it.0) (at_id before i same) it.1, it.2, it.3, it.4)

    there_was : (i sysno : ℤ) (ident bytes : List ℕ) → i ≡ id → IsRowOf (λ _. before) i sysno ident bytes → HasRecord old i sysno ident bytes
    there_was i sysno ident bytes same it =
        (are i sysno ident bytes).1 (it.0, subst (λ l. Contains l it.0) (sym (at_id before i same)) it.1, it.2, it.3, it.4)

    is_there : (i sysno : ℤ) (ident bytes : List ℕ) → i ≡ id → IsRowOf (λ _. after) i sysno ident bytes → IsRowOf (with_records id after records_of) i sysno ident bytes
    is_there i sysno ident bytes same it = (it.0, subst (λ l. Contains l it.0) (sym (at_id after i same)) it.1, it.2, it.3, it.4)

    there_is : (i sysno : ℤ) (ident bytes : List ℕ) → i ≡ id → IsRowOf (with_records id after records_of) i sysno ident bytes → IsRowOf (λ _. after) i sysno ident bytes
    there_is i sysno ident bytes same it = (it.0, subst (λ l. Contains l it.0) (at_id after i same) it.1, it.2, it.3, it.4)

    -- of another database
    elsewhere : (i sysno : ℤ) (ident bytes : List ℕ) → i ≢ id → HasRecord old i sysno ident bytes ↔ IsRowOf (with_records id after records_of) i sysno ident bytes
    elsewhere i sysno ident bytes differs =
        let same : with_records id before records_of i ≡ with_records id after records_of i = at_other before i differs ∙ sym (at_other after i differs) in (
          λ there. let it = (are i sysno ident bytes).0 there in (it.0, subst (λ l. Contains l it.0) same it.1, it.2, it.3, it.4),
          λ it. (are i sysno ident bytes).1 (it.0, subst (λ l. Contains l it.0) (sym same) it.1, it.2, it.3, it.4),
        )

    module _ (kept : Kept) (put : IsPutIn kept before after)
        (rows : Replaces (SharesRecord id (pos kept.sysno) kept.ident) (record_row id (pos kept.sysno) kept.ident kept.bytes) records_tree old new) where
      row_parts : (i sysno : ℤ) (ident bytes : List ℕ) → record_row i sysno ident bytes ≡ record_row id (pos kept.sysno) kept.ident kept.bytes
          → (i ≡ id) × (sysno ≡ pos kept.sysno) × (ident ≡ kept.ident) × (bytes ≡ kept.bytes)
      row_parts i sysno ident bytes same =
          let one : Int i ≡ Int id = ap (λ (r : Row). column r 0) same in
          let two : Int sysno ≡ Int (pos kept.sysno) = ap (λ (r : Row). column r 1) same in
          let three : Text ident ≡ Text kept.ident = ap (λ (r : Row). column r 2) same in
          let four : Blob bytes ≡ Blob kept.bytes = ap (λ (r : Row). column r 3) same in
          (cc, cc, cc, cc)

      put_there : (i sysno : ℤ) (ident bytes : List ℕ) → HasRecord new i sysno ident bytes → IsRowOf (with_records id after records_of) i sysno ident bytes
      put_there i sysno ident bytes there = elim ((rows (record_row i sysno ident bytes)).0 there) [
        | inl was ↦ elim (told_id i id) [
          | inl same ↦
              let it = was_there i sysno ident bytes same was.0 in
              let other : it.0.sysno ≢ kept.sysno = λ number. was.1 (inl (ap Int same, ap Int (it.2 ∙ ap pos number))) in
              is_there i sysno ident bytes same (it.0, contains_had after it.0 ((put.each it.0).1 (inl (has_contained before it.0 it.1, other))), it.2, it.3, it.4)
          | inr differs ↦ (elsewhere i sysno ident bytes differs).0 was.0
        ]
        | inr same ↦
            let parts = row_parts i sysno ident bytes same in
            is_there i sysno ident bytes parts.0 (kept, contains_had after kept ((put.each kept).1 (inr refl)), parts.1, parts.2, parts.3)
      ]

      apart : (k : Kept) (i sysno : ℤ) (ident bytes : List ℕ) → Has before k → k.sysno ≢ kept.sysno → sysno ≡ pos k.sysno → ident ≡ k.ident
          → ¬ SharesRecord id (pos kept.sysno) kept.ident (record_row i sysno ident bytes)
      apart k i sysno ident bytes was other number name shares = elim shares [
        | inl numbers ↦ (let e : Int sysno ≡ Int (pos kept.sysno) = numbers.1 in let f : pos k.sysno ≡ pos kept.sysno = cc in other (cc))
        | inr names ↦ (let e : Text ident ≡ Text kept.ident = names.1 in other (put.owner k was (cc)))
      ]

      there_put : (i sysno : ℤ) (ident bytes : List ℕ) → IsRowOf (with_records id after records_of) i sysno ident bytes → HasRecord new i sysno ident bytes
      there_put i sysno ident bytes row = elim (told_id i id) [
        | inl same ↦
            let it = there_is i sysno ident bytes same row in
            elim ((put.each it.0).0 (has_contained after it.0 it.1)) [
              | inl was ↦ (rows (record_row i sysno ident bytes)).1 (inl (there_was i sysno ident bytes same (it.0, contains_had before it.0 was.0, it.2, it.3, it.4), apart it.0 i sysno ident bytes was.0 was.1 it.2 it.3))
              | inr is ↦ (rows (record_row i sysno ident bytes)).1 (inr (
                  ap₂ (λ j n. record_row j n ident bytes) same (it.2 ∙ ap (λ (k : Kept). pos k.sysno) is)
                  ∙ ap₂ (λ t b. record_row id (pos kept.sysno) t b) (it.3 ∙ ap (λ (k : Kept). k.ident) is) (it.4 ∙ ap (λ (k : Kept). k.bytes) is)))
            ]
        | inr differs ↦ (rows (record_row i sysno ident bytes)).1 (inl (
          (elsewhere i sysno ident bytes differs).1 row,
          λ shares. elim shares [
            | inl numbers ↦ (let e : Int i ≡ Int id = numbers.0 in differs (cc))
            | inr names ↦ (let e : Int i ≡ Int id = names.0 in differs (cc))
          ],
        ))
      ]

      -- the table after a record was put
      pub put_kept : AreKept new (with_records id after records_of)
      put_kept i sysno ident bytes = (put_there i sysno ident bytes, there_put i sysno ident bytes)

    module _ (number : ℕ) (taken : IsTakenFrom number before after) (rows : Loses (HasNumber id (pos number)) records_tree old new) where
      taken_there : (i sysno : ℤ) (ident bytes : List ℕ) → HasRecord new i sysno ident bytes → IsRowOf (with_records id after records_of) i sysno ident bytes
      taken_there i sysno ident bytes there =
          let was = (rows (record_row i sysno ident bytes)).0 there in
          elim (told_id i id) [
            | inl same ↦
                let it = was_there i sysno ident bytes same was.0 in
                let other : it.0.sysno ≢ number = λ is. was.1 (ap Int same, ap Int (it.2 ∙ ap pos is)) in
                is_there i sysno ident bytes same (it.0, contains_had after it.0 ((taken it.0).1 (has_contained before it.0 it.1, other)), it.2, it.3, it.4)
            | inr differs ↦ (elsewhere i sysno ident bytes differs).0 was.0
          ]

      there_taken : (i sysno : ℤ) (ident bytes : List ℕ) → IsRowOf (with_records id after records_of) i sysno ident bytes → HasRecord new i sysno ident bytes
      there_taken i sysno ident bytes row = elim (told_id i id) [
        | inl same ↦
            let it = there_is i sysno ident bytes same row in
            let was = (taken it.0).0 (has_contained after it.0 it.1) in
            (rows (record_row i sysno ident bytes)).1 (
              there_was i sysno ident bytes same (it.0, contains_had before it.0 was.0, it.2, it.3, it.4),
              λ numbers. let e : Int sysno ≡ Int (pos number) = numbers.1 in let f : pos it.0.sysno ≡ pos number = sym it.2 ∙ cc in was.1 (cc),
            )
        | inr differs ↦ (rows (record_row i sysno ident bytes)).1 ((elsewhere i sysno ident bytes differs).1 row, λ numbers. let e : Int i ≡ Int id = numbers.0 in differs (cc))
      ]

      -- the table after a record was taken
      pub take_kept : AreKept new (with_records id after records_of)
      take_kept i sysno ident bytes = (taken_there i sysno ident bytes, there_taken i sysno ident bytes)

  -- ---- the record with an identifier

  module _ (trees : Trees) (base : Base) (are : AreKept trees (with_records id base.records records_of)) where
    has_record : (kept : Kept) → Has base.records kept → HasRecord trees id (pos kept.sysno) kept.ident kept.bytes
    has_record kept there = there_was trees trees base.records base.records are id (pos kept.sysno) kept.ident kept.bytes refl (kept, contains_had base.records kept there, refl, refl, refl)

    pub record_has : (sysno : ℤ) (ident bytes : List ℕ) → HasRecord trees id sysno ident bytes → IsRowOf (λ _. base.records) id sysno ident bytes
    record_has sysno ident bytes there = was_there trees trees base.records base.records are id sysno ident bytes refl there

    pub elder_is : (ident : List ℕ) → ((a b : Kept) → Has base.records a → Has base.records b → a.ident ≡ b.ident → a ≡ b) → (found : Option Elder) → IsElderOf trees id ident found → IsElderAs ident base found
    elder_is ident single None none = none_found ident base (λ kept there same. none (pos kept.sysno) kept.bytes (subst (λ i. HasRecord trees id (pos kept.sysno) i kept.bytes) same (has_record kept there)))
    elder_is ident single (Some elder) there =
        let it = record_has (pos elder.sysno) ident elder.bytes.items there in
        (it.0, one_found ident base it.0 (has_contained base.records it.0 it.1) (sym it.3) single, (let e = it.2 in cc), sym it.4)
