-- A database in which one record is put, or from which one is taken, is a database.
use Rattle.zeb_change.proofs.Cited.{◌≡◌, ◌≢◌, ◌⊎◌, ◌∙◌, ℕ, ℤ, ◌+◌, ◌≤◌, ◌<◌, not, List, [], Some, None, inl, inr, refl, sym, ap, subst, arith, Contains, nat_cmp, Less, nat_tests, IsStrictlySortedBy-filter, Has, has_contained, contains_had, Directive, Base, Kept, has_ident, kept_as, with_new, with_bytes, without_ident, IsKept, IsBase, HaveSystemNumbers, with_records}
use Rattle.zeb_change.proofs.KeptLemmas.{AreRisingKept, push_rises, kept_found}
use Rattle.zeb_change.proofs.KeptChanges.{IsPutIn, IsTakenFrom, kept_of, new_put, bytes_put, bytes_rise, ident_taken}
use Rattle.zeb_change.proofs.StoredLemmas.{told_id, at_id, at_other}

lower : (a b last : ℕ) → a ≤ last → b ≡ last + 1 → nat_cmp a b ≡ Less
lower a b last = grind (arith, nat_tests)

module _ (profile : List Directive) (base : Base) (is : IsBase profile base) where
  pub one_ident : (a b : Kept) → Has base.records a → Has base.records b → a.ident ≡ b.ident → a ≡ b
  one_ident a b here there same = is.single a b (contains_had base.records a here) (contains_had base.records b there) same

  pub within_last : (k : Kept) → Has base.records k → k.sysno ≤ base.last
  within_last k here = is.to_last k (contains_had base.records k here)

  module _ (kept : Kept) (last : ℕ) (records : List Kept) (put : IsPutIn kept base.records records) where
    was_or_is : (k : Kept) → Contains records k → (Contains base.records k × (k.sysno ≢ kept.sysno)) ⊎ (k ≡ kept)
    was_or_is k there = elim ((put.each k).0 (has_contained records k there)) [
      | inl was ↦ inl (contains_had base.records k was.0, was.1)
      | inr same ↦ inr same
    ]

    never_both : (a b : Kept) → Contains base.records a → a.sysno ≢ kept.sysno → b ≡ kept → a.ident ≡ b.ident → ⊥
    never_both a b was other same idents = other (put.owner a (has_contained base.records a was) (idents ∙ ap (λ (k : Kept). k.ident) same))

    one_of : (a b : Kept) → Contains records a → Contains records b → a.ident ≡ b.ident → a ≡ b
    one_of a b here there same = elim (was_or_is a here) [
      | inl was_a ↦ elim (was_or_is b there) [
        | inl was_b ↦ is.single a b was_a.0 was_b.0 same
        | inr is_b ↦ absurd (never_both a b was_a.0 was_a.1 is_b same)
      ]
      | inr is_a ↦ elim (was_or_is b there) [
        | inl was_b ↦ absurd (never_both b a was_b.0 was_b.1 is_a (sym same))
        | inr is_b ↦ is_a ∙ sym is_b
      ]
    ]

    pub put_base : AreRisingKept records → 1 ≤ kept.sysno → kept.sysno ≤ last → base.last ≤ last → last ≤ 999999999 → IsKept profile kept → IsBase profile (record base { last = last; records = records })
    put_base rising from to more few sound = record {
      rising = rising;
      from_one = λ k h. elim (was_or_is k h) [ inl was ↦ is.from_one k was.0 | inr same ↦ subst (λ (x : Kept). 1 ≤ x.sysno) (sym same) from ];
      to_last = λ k h. elim (was_or_is k h) [ inl was ↦ (let below = is.to_last k was.0 in omega (arith, below)) | inr same ↦ subst (λ (x : Kept). x.sysno ≤ last) (sym same) to ];
      few = few;
      single = one_of;
      sound = λ k h. elim (was_or_is k h) [ inl was ↦ is.sound k was.0 | inr same ↦ subst (IsKept profile) (sym same) sound ];
    }

  pub taken_base : (sysno : ℕ) (records : List Kept) → IsTakenFrom sysno base.records records → AreRisingKept records → IsBase profile (record base { records = records })
  taken_base sysno records taken rising =
      let was : (k : Kept) → Contains records k → Contains base.records k = λ k h. contains_had base.records k ((taken k).0 (has_contained records k h)).0 in
      record {
        rising = rising;
        from_one = λ k h. is.from_one k (was k h);
        to_last = λ k h. is.to_last k (was k h);
        few = is.few;
        single = λ a b here there same. is.single a b (was a here) (was b there) same;
        sound = λ k h. is.sound k (was k h);
      }

  pub new_base : (ident bytes : List ℕ) → kept_as ident base ≡ None → base.last < 999999999 → IsKept profile (kept_of (base.last + 1) ident bytes) → IsBase profile (with_new ident bytes base)
  new_base ident bytes none few sound =
      put_base (kept_of (base.last + 1) ident bytes) (base.last + 1) (with_new ident bytes base).records (new_put ident bytes base within_last none)
      (push_rises base.records (kept_of (base.last + 1) ident bytes) is.rising (λ k here. lower k.sysno (base.last + 1) base.last (within_last k here) refl))
      (omega arith) (omega arith) (omega arith) (omega arith) sound

  module _ (ident : List ℕ) (elder : Kept) (found : kept_as ident base ≡ Some elder) where
    elder_there : Contains base.records elder
    elder_there = contains_had base.records elder (kept_found ident base elder found).0

    pub bytes_base : (bytes : List ℕ) → IsKept profile (kept_of elder.sysno ident bytes) → IsBase profile (with_bytes ident bytes base)
    bytes_base bytes sound =
        put_base (kept_of elder.sysno ident bytes) base.last (with_bytes ident bytes base).records (bytes_put ident bytes base elder is.rising one_ident found)
        (bytes_rise ident bytes base elder is.rising one_ident found) (is.from_one elder elder_there) (is.to_last elder elder_there) (omega arith) is.few sound

    pub ident_base : IsBase profile (without_ident ident base)
    ident_base =
        taken_base elder.sysno (without_ident ident base).records (ident_taken ident [] base elder is.rising one_ident found)
        (IsStrictlySortedBy-filter (λ (a b : Kept). nat_cmp a.sysno b.sysno) (λ kept. not (has_ident ident kept)) base.records is.rising)

-- ---- numbers

pub base_numbered : (profile : List Directive) (base : Base) → IsBase profile base → (kept : Kept) → Contains base.records kept → (1 ≤ kept.sysno) × (kept.sysno ≤ 999999999)
base_numbered profile base is kept there = (is.from_one kept there, (let last = is.to_last kept there in let few = is.few in omega arith))

-- the records of a database in place of those that it had
pub with_numbered : (profile : List Directive) (id : ℤ) (records_of : ℤ → List Kept) (base : Base) → IsBase profile base → HaveSystemNumbers records_of → HaveSystemNumbers (with_records id base.records records_of)
with_numbered profile id records_of base is others other kept there = elim (told_id other id) [
  | inl same ↦ base_numbered profile base is kept (subst (λ (l : List Kept). Contains l kept) (at_id id records_of base.records other same) there)
  | inr differs ↦ others other kept (subst (λ (l : List Kept). Contains l kept) (at_other id records_of base.records other differs) there)
]
