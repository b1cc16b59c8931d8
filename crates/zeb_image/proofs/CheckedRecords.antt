-- The records of a database, taken one after the other: whether they can be kept, and their postings.
use Rattle.zeb_image.proofs.Cited.{◌≡◌, ◌↔◌, ◌∙◌, ℕ, ℤ, pos, List, [], ◌∷◌, ◌++◌, map, refl, sym, ap, subst, inl, inr, string_bytes, Contains, Int, Trees, Has, contains_had, has_contained, has_either, has_left, has_right, has_mapped, mapped_has, Directive, Occurrence, KeyPosting, Record, AreReadable, record_shown, IsListOf, IsRest, records_tree, Kept, OccursIn, AreRecordsPostings, CanBeHeld, CanKeep, CanKeepAll, kept_of, occurrence_of, posting_of}

-- a record that is added is the only new one
pub one_more : {X : Type 0} (xs : List X) (x z : X) → Has (xs ++ x ∷ []) z → (P : X → Type 0) → (Has xs z → P z) → P x → P z
one_more xs x z h P before here = elim (has_either xs (x ∷ []) z h) [
  | inl there ↦ before there
  | inr last ↦ elim last [ inl same ↦ subst P (sym same) here | inr none ↦ absurd none ]
]

module _ (profile : List Directive) where
  pub one_kept : (last : ℕ) (before : List Record) (r : Record) → CanKeepAll profile last before → CanKeep profile last (kept_of r) → CanKeepAll profile last (before ++ r ∷ [])
  one_kept last before r all this z h = one_more before r z h (λ (x : Record). CanKeep profile last (kept_of x)) (all z) this

  module _ (before : List Record) (r : Record) (postings after : List KeyPosting) (found : List Occurrence) (are : AreRecordsPostings profile before postings)
      (each : (o : Occurrence) → Contains found o ↔ OccursIn profile (kept_of r) o) (grown : after ≡ postings ++ map (posting_of r.sysno) found) where
    same_posting : (it : KeyPosting) → r.sysno ≡ it.posting.sysno → posting_of r.sysno (occurrence_of it) ≡ it
    same_posting it same = λ i. record { key = it.key; posting = record { sysno = same i; seq = it.posting.seq; pos = it.posting.pos } }

    pub one_posted : AreRecordsPostings profile (before ++ r ∷ []) after
    one_posted it = (
      λ there. elim (has_either postings (map (posting_of r.sysno) found) it (subst (λ (l : List KeyPosting). Has l it) grown there)) [
        | inl was ↦
            let is = (are it).0 was in
            let z = has_mapped kept_of before is.0 (has_contained (map kept_of before) is.0 is.1) in
            (is.0, contains_had (map kept_of (before ++ r ∷ [])) is.0 (subst (Has (map kept_of (before ++ r ∷ []))) (sym z.2) (mapped_has kept_of (before ++ r ∷ []) z.0 (has_left before (r ∷ []) z.0 z.1))), is.2, is.3)
        | inr new ↦
            let o = has_mapped (posting_of r.sysno) found it new in (
              kept_of r,
              contains_had (map kept_of (before ++ r ∷ [])) (kept_of r) (mapped_has kept_of (before ++ r ∷ []) r (has_right before (r ∷ []) r (inl refl))),
              ap (λ (x : KeyPosting). x.posting.sysno) (sym o.2),
              subst (λ (x : KeyPosting). OccursIn profile (kept_of r) (occurrence_of x)) (sym o.2) ((each o.0).0 (contains_had found o.0 o.1)),
            )
      ],
      λ is.
          let z = has_mapped kept_of (before ++ r ∷ []) is.0 (has_contained (map kept_of (before ++ r ∷ [])) is.0 is.1) in
          subst (λ (l : List KeyPosting). Has l it) (sym grown) (elim (has_either before (r ∷ []) z.0 z.1) [
            | inl was ↦ has_left postings (map (posting_of r.sysno) found) it ((are it).1 (is.0, contains_had (map kept_of before) is.0 (subst (Has (map kept_of before)) (sym z.2) (mapped_has kept_of before z.0 was)), is.2, is.3))
            | inr last ↦ elim last [
              | inl same ↦
                  let its : is.0 ≡ kept_of r = z.2 ∙ ap kept_of same in
                  let in_it = (each (occurrence_of it)).1 (subst (λ (k : Kept). OccursIn profile k (occurrence_of it)) its is.3) in
                  let number : r.sysno ≡ it.posting.sysno = ap (λ (k : Kept). k.sysno) (sym its) ∙ is.2 in
                  has_right postings (map (posting_of r.sysno) found) it (subst (Has (map (posting_of r.sysno) found)) (same_posting it number) (mapped_has (posting_of r.sysno) found (occurrence_of it) (has_contained found (occurrence_of it) in_it)))
              | inr none ↦ absurd none
            ]
          ]),
    )

-- ---- a database that can be held

pub number_inside : (m n : ℕ) → pos m ≡ pos n → m ≡ n
number_inside m n same = cc

module _ (profile : List Directive) (trees : Trees) (id : ℤ) (name : List ℕ) (last : ℕ) (sound : CanBeHeld profile trees id name last) where
  pub sound_readable : AreReadable trees id
  sound_readable sysno ident bytes row = let it = sound.records sysno ident bytes row in ((it.0, it.1), it.2.is.text)

  pub sound_kept : (records : List Record) → IsListOf (IsRest records_tree (Int id ∷ []) trees) (map record_shown records) → CanKeepAll profile last records
  sound_kept records are r there =
      let it = sound.records (pos r.sysno) (string_bytes r.ident) r.bytes.items ((are.each (record_shown r)).0 (mapped_has record_shown records r there)) in
      subst (λ (n : ℕ). CanKeep profile last (record { sysno = n; ident = string_bytes r.ident; bytes = r.bytes.items })) (sym (number_inside r.sysno it.0 it.1)) it.2
