-- A list of kept records in which one is put, or from which one is taken.
use Rattle.zeb_change.proofs.Cited.{◌≡◌, ◌≢◌, ◌⊎◌, ◌↔◌, ◌∙◌, ℕ, ◌+◌, ◌≤◌, true, false, not, List, [], ◌∷◌, map, Some, None, inl, inr, refl, sym, ap, subst, arith, if◌then◌else◌, Has, has_left, has_right, has_either, has_filtered, has_kept, has_mapped, mapped_has, Base, Kept, has_ident, kept_as, with_new, with_bytes, without_ident}
use Rattle.zeb_change.proofs.KeptLemmas.{AreRisingKept, is_ident, has_same, same_has, other_ident, kept_found, none_kept, one_number, map_rises}

-- the record stands in the place of the one with its number, which alone may have had its identifier
pub record IsPutIn (kept : Kept) (old new : List Kept) : Type 0 where
  pub each : (k : Kept) → Has new k ↔ ((Has old k × (k.sysno ≢ kept.sysno)) ⊎ (k ≡ kept))
  pub owner : (k : Kept) → Has old k → k.ident ≡ kept.ident → k.sysno ≡ kept.sysno

-- the record with this number is taken
abbrev pub IsTakenFrom : ℕ → List Kept → List Kept → Type 0
IsTakenFrom sysno old new = (k : Kept) → Has new k ↔ (Has old k × (k.sysno ≢ sysno))

-- each record of another number is as it was
pub others_put : (kept : Kept) (old new : List Kept) → IsPutIn kept old new → (k : Kept) → k.sysno ≢ kept.sysno → Has new k ↔ Has old k
others_put kept old new put k other = (
  λ there. elim ((put.each k).0 there) [
    | inl was ↦ was.0
    | inr same ↦ absurd (other (ap (λ (x : Kept). x.sysno) same))
  ],
  λ there. (put.each k).1 (inl (there, other)),
)

pub others_taken : (sysno : ℕ) (old new : List Kept) → IsTakenFrom sysno old new → (k : Kept) → k.sysno ≢ sysno → Has new k ↔ Has old k
others_taken sysno old new taken k other = (λ there. ((taken k).0 there).0, λ there. (taken k).1 (there, other))

abbrev pub kept_of : ℕ → List ℕ → List ℕ → Kept
kept_of sysno ident bytes = record { sysno = sysno; ident = ident; bytes = bytes }

-- ---- a record is added

pub new_put : (ident bytes : List ℕ) (base : Base) → ((k : Kept) → Has base.records k → k.sysno ≤ base.last) → kept_as ident base ≡ None
    → IsPutIn (kept_of (base.last + 1) ident bytes) base.records (with_new ident bytes base).records
new_put ident bytes base to_last none =
    let kept = kept_of (base.last + 1) ident bytes in
    record {
      each = λ k. (
        λ there. elim (has_either base.records (kept ∷ []) k there) [
          | inl was ↦ inl (was, λ same. let below = to_last k was in omega (arith, same))
          | inr last ↦ elim last [ inl same ↦ inr same | inr h ↦ absurd h ]
        ],
        λ h. elim h [
          | inl was ↦ has_left base.records (kept ∷ []) k was.0
          | inr same ↦ has_right base.records (kept ∷ []) k (inl same)
        ],
      );
      owner = λ k was same. absurd (none_kept ident base k none was same);
    }

-- ---- a record's bytes are replaced

module _ (ident bytes : List ℕ) (base : Base) (elder : Kept) (rising : AreRisingKept base.records)
    (single : (a b : Kept) → Has base.records a → Has base.records b → a.ident ≡ b.ident → a ≡ b) (found : kept_as ident base ≡ Some elder) where
  abbrev pub renewed : Kept → Kept
  renewed kept = if has_ident ident kept then record kept { bytes = bytes } else kept

  elder_in : Has base.records elder
  elder_in = (kept_found ident base elder found).0

  elder_ident : elder.ident ≡ ident
  elder_ident = (kept_found ident base elder found).1

  is_elder : (k : Kept) → Has base.records k → k.ident ≡ ident → k ≡ elder
  is_elder k was same = single k elder was elder_in (same ∙ sym elder_ident)

  renewed_elder : renewed elder ≡ kept_of elder.sysno ident bytes
  renewed_elder = rw (same_has ident elder elder_ident) (ap (λ i. kept_of elder.sysno i bytes) elder_ident)

  renewed_other : (k : Kept) → has_ident ident k ≡ false → renewed k ≡ k
  renewed_other k other = rw other refl

  not_elder : (k : Kept) → Has base.records k → k.sysno ≢ elder.sysno → has_ident ident k ≡ false
  not_elder k was other = elim (is_ident ident k) [
    | inl same ↦ absurd (other (ap (λ (x : Kept). x.sysno) (is_elder k was (has_same ident k same))))
    | inr differs ↦ differs
  ]

  other_number : (k : Kept) → Has base.records k → has_ident ident k ≡ false → k.sysno ≢ elder.sysno
  other_number k was differs same = other_ident ident k differs (ap (λ (x : Kept). x.ident) (one_number base.records rising k elder was elder_in same) ∙ elder_ident)

  pub bytes_put : IsPutIn (kept_of elder.sysno ident bytes) base.records (with_bytes ident bytes base).records
  bytes_put = record {
    each = λ k. (
      λ there.
          let x = has_mapped renewed base.records k there in
          elim (is_ident ident x.0) [
            | inl same ↦ inr (x.2 ∙ ap renewed (is_elder x.0 x.1 (has_same ident x.0 same)) ∙ renewed_elder)
            | inr differs ↦
                let same : k ≡ x.0 = x.2 ∙ renewed_other x.0 differs in
                inl (subst (Has base.records) (sym same) x.1, subst (λ (y : Kept). y.sysno ≢ elder.sysno) (sym same) (other_number x.0 x.1 differs))
          ],
      λ h. elim h [
        | inl was ↦ subst (Has (map renewed base.records)) (renewed_other k (not_elder k was.0 was.1)) (mapped_has renewed base.records k was.0)
        | inr same ↦ subst (Has (map renewed base.records)) (renewed_elder ∙ sym same) (mapped_has renewed base.records elder elder_in)
      ],
    );
    owner = λ k was same. ap (λ (x : Kept). x.sysno) (is_elder k was same);
  }

  renewed_number : (k : Kept) → (renewed k).sysno ≡ k.sysno
  renewed_number k = elim (is_ident ident k) [ inl agrees ↦ rw agrees refl | inr differs ↦ rw differs refl ]

  pub bytes_rise : AreRisingKept (with_bytes ident bytes base).records
  bytes_rise = map_rises renewed renewed_number base.records rising

  -- ---- a record is taken

  pub ident_taken : IsTakenFrom elder.sysno base.records (without_ident ident base).records
  ident_taken k = (
    λ there.
        let it = has_filtered (λ kept. not (has_ident ident kept)) base.records k there in (
          it.0,
          elim (is_ident ident k) [
            | inl agrees ↦ absurd (let e : false ≡ true = sym (rw agrees refl) ∙ it.1 in cc)
            | inr differs ↦ other_number k it.0 differs
          ],
        ),
    λ h. has_kept (λ kept. not (has_ident ident kept)) base.records k h.0 (rw (not_elder k h.0 h.1) refl),
  )
