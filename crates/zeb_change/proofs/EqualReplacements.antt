-- A record that is replaced by the same bytes: it has the occurrences that it had, so no key is changed.
use Rattle.zeb_change.proofs.Cited.{◌≡◌, ◌∙◌, ℕ, List, [], ◌∷◌, Option, Some, None, Ok, map, if◌then◌else◌, inl, inr, refl, sym, ap, subst, Has, contains_had, Directive, Occurrence, Elder, same_list, place_total, ChangedKey, AreTheSame, occurrence_at, AreChangedKeys, key_in, new_in, old_in, Updated, Conditions, updated, Base, Kept, kept_as, has_ident, IsBase, IsElderAs, elder_bytes}
use Rattle.zeb_change.proofs.BaseLemmas.{one_ident}
use Rattle.zeb_change.proofs.KeptLemmas.{has_same, kept_found, tests}

-- no key is changed where the occurrences are the same
pub none_changed : (elder newer : List Occurrence) (changed : List ChangedKey) → AreChangedKeys elder newer changed → AreTheSame elder newer → changed ≡ []
none_changed elder newer [] are same = refl
none_changed elder newer (c ∷ changed) are same =
    let there = contains_had (c ∷ changed) c (inl refl) in
    let old = are.old c there in
    let new = are.new c there in
    absurd (are.differ c there (same_list place_total (old_in c) (new_in c) old.rising new.rising
    (λ place h. (new.each place).1 ((same (occurrence_at (key_in c) place)).0 ((old.each place).0 h)))
    (λ place h. (old.each place).1 ((same (occurrence_at (key_in c) place)).1 ((new.each place).0 h)))))

-- the same bytes in the place of a record's leave each record
same_records : (ident bytes : List ℕ) (records : List Kept) → ((kept : Kept) → Has records kept → kept.ident ≡ ident → kept.bytes ≡ bytes)
    → map (λ kept. if has_ident ident kept then record kept { bytes = bytes } else kept) records ≡ records
same_records ident bytes [] alike = refl
same_records ident bytes (first ∷ rest) alike =
    let later = same_records ident bytes rest (λ kept there. alike kept (inr there)) in
    elim (tests (has_ident ident first)) [
      | inl passes ↦ rw passes (subst (λ (b : List ℕ). record first { bytes = b } ∷ map (λ kept. if has_ident ident kept then record kept { bytes = bytes } else kept) rest ≡ first ∷ rest)
          (alike first (inl refl) (has_same ident first passes)) (ap (λ (them : List Kept). first ∷ them) later))
      | inr fails ↦ rw fails (ap (λ (them : List Kept). first ∷ them) later)
    ]

-- where the elder has the record's bytes, the database is left as it is
pub updated_alike : (profile : List Directive) (c : Conditions) (base : Base) → IsBase profile base → (ident bytes : List ℕ) (found : Option Elder)
    → IsElderAs ident base found → elder_bytes found ≡ Some bytes → updated c ident bytes base (kept_as ident base) ≡ Ok (base, Updated)
updated_alike profile c base is ident bytes None none same = absurd (cc)
updated_alike profile c base is ident bytes (Some elder) (kept, is_kept, number, its_bytes) same =
    let there = kept_found ident base kept is_kept in
    let one : Some elder.bytes.items ≡ Some bytes = same in
    let alike : kept.bytes ≡ bytes = cc in
    let records = same_records ident bytes base.records (λ other in_it called. ap (λ (k : Kept). k.bytes) (one_ident profile base is other kept in_it there.0 (called ∙ sym there.1)) ∙ alike) in
    subst (λ (k : Option Kept). updated c ident bytes base k ≡ Ok (base, Updated)) (sym is_kept)
    (ap (λ (them : List Kept). Ok (record base { records = them }, Updated)) records)
