-- Lemmas on the entries of a directory.
use Rattle.zeb_marc.proofs.Cited.{◌≡◌, ℕ, ◌-◌, ◌<◌, ◌≤◌, Bool, true, false, cond, Some, None, List, [], ◌∷◌, ◌++◌, length, take, drop, map, sym, ltb, leb, refl, ap, ◌∙◌, ◌&&◌, arith, flat_map, ltb-true, leb-true, eqb-true, MarcFault, EntryDigits, EntryTag, EntryRange, FieldEnd, Check, check, first_failing, Entry, entries_of, end_of, entry_checks, directory_checks, field_of, fields_in, entry_of}
use Rattle.std.proofs.Common.{◌==◌, slice_index}
use Rattle.zeb_marc.specs.Leader.{number_of}
use Rattle.zeb_marc.specs.Directory.{has_digits, has_tag_bytes, is_in_area}

-- a directory of twelve bytes or more begins with an entry
pub entries_of-more : (directory : List ℕ) → 12 ≤ length directory → entries_of directory ≡ entry_of (take 12 directory) ∷ entries_of (drop 12 directory)
entries_of-more (a ∷ b ∷ c ∷ d ∷ e ∷ f ∷ g ∷ h ∷ i ∷ j ∷ k ∷ l ∷ rest) long = refl
entries_of-more [] long = absurd (omega arith)
entries_of-more (a ∷ []) long = absurd (omega arith)
entries_of-more (a ∷ b ∷ []) long = absurd (omega arith)
entries_of-more (a ∷ b ∷ c ∷ []) long = absurd (omega arith)
entries_of-more (a ∷ b ∷ c ∷ d ∷ []) long = absurd (omega arith)
entries_of-more (a ∷ b ∷ c ∷ d ∷ e ∷ []) long = absurd (omega arith)
entries_of-more (a ∷ b ∷ c ∷ d ∷ e ∷ f ∷ []) long = absurd (omega arith)
entries_of-more (a ∷ b ∷ c ∷ d ∷ e ∷ f ∷ g ∷ []) long = absurd (omega arith)
entries_of-more (a ∷ b ∷ c ∷ d ∷ e ∷ f ∷ g ∷ h ∷ []) long = absurd (omega arith)
entries_of-more (a ∷ b ∷ c ∷ d ∷ e ∷ f ∷ g ∷ h ∷ i ∷ []) long = absurd (omega arith)
entries_of-more (a ∷ b ∷ c ∷ d ∷ e ∷ f ∷ g ∷ h ∷ i ∷ j ∷ []) long = absurd (omega arith)
entries_of-more (a ∷ b ∷ c ∷ d ∷ e ∷ f ∷ g ∷ h ∷ i ∷ j ∷ k ∷ []) long = absurd (omega arith)

-- and a shorter one has none
pub entries_of-short : (directory : List ℕ) → length directory < 12 → entries_of directory ≡ []
entries_of-short (a ∷ b ∷ c ∷ d ∷ e ∷ f ∷ g ∷ h ∷ i ∷ j ∷ k ∷ l ∷ rest) short = absurd (omega arith)
entries_of-short [] short = refl
entries_of-short (a ∷ []) short = refl
entries_of-short (a ∷ b ∷ []) short = refl
entries_of-short (a ∷ b ∷ c ∷ []) short = refl
entries_of-short (a ∷ b ∷ c ∷ d ∷ []) short = refl
entries_of-short (a ∷ b ∷ c ∷ d ∷ e ∷ []) short = refl
entries_of-short (a ∷ b ∷ c ∷ d ∷ e ∷ f ∷ []) short = refl
entries_of-short (a ∷ b ∷ c ∷ d ∷ e ∷ f ∷ g ∷ []) short = refl
entries_of-short (a ∷ b ∷ c ∷ d ∷ e ∷ f ∷ g ∷ h ∷ []) short = refl
entries_of-short (a ∷ b ∷ c ∷ d ∷ e ∷ f ∷ g ∷ h ∷ i ∷ []) short = refl
entries_of-short (a ∷ b ∷ c ∷ d ∷ e ∷ f ∷ g ∷ h ∷ i ∷ j ∷ []) short = refl
entries_of-short (a ∷ b ∷ c ∷ d ∷ e ∷ f ∷ g ∷ h ∷ i ∷ j ∷ k ∷ []) short = refl

-- where the first list passes, the second decides
pub first_failing-append_pass : (first second : List Check) → first_failing first ≡ None → first_failing (first ++ second) ≡ first_failing second
first_failing-append_pass [] second e = refl
first_failing-append_pass (c ∷ first) second e =
    elim c.passes as (λ p. cond p (first_failing first) (Some c.fault) ≡ None → cond p (first_failing (first ++ second)) (Some c.fault) ≡ first_failing second) [
      | true ↦ λ e'. first_failing-append_pass first second e'
      | false ↦ λ e'. absurd cc
    ] e

-- and where it doesn't, its fault counts
pub first_failing-append_fail : (first second : List Check) (fault : MarcFault) → first_failing first ≡ Some fault → first_failing (first ++ second) ≡ Some fault
first_failing-append_fail [] second fault e = absurd cc
first_failing-append_fail (c ∷ first) second fault e =
    elim c.passes as (λ p. cond p (first_failing first) (Some c.fault) ≡ Some fault → cond p (first_failing (first ++ second)) (Some c.fault) ≡ Some fault) [
      | true ↦ λ e'. first_failing-append_fail first second fault e'
      | false ↦ λ e'. e'
    ] e

-- a list of checks passes where its first check and the others do
pub first_failing-cons : (c : Check) (checks : List Check) → first_failing (c ∷ checks) ≡ None → (c.passes ≡ true) × (first_failing checks ≡ None)
first_failing-cons c checks e =
    elim c.passes as (λ p. cond p (first_failing checks) (Some c.fault) ≡ None → (p ≡ true) × (first_failing checks ≡ None)) [
      | true ↦ λ e'. (refl, e')
      | false ↦ λ e'. absurd cc
    ] e

-- what an entry says that passes its checks
pub record IsSoundEntry (area : List ℕ) (entry : Entry) : Type 0 where
  pub digits : has_digits entry ≡ true
  pub tag : has_tag_bytes entry.tag ≡ true
  pub begins : number_of entry.start < end_of entry
  pub within : end_of entry ≤ length area
  pub ended : slice_index area (end_of entry - 1) ≡ 30

pub both_true : (a b : Bool) → (a && b) ≡ true → (a ≡ true) × (b ≡ true)
both_true true b e = (refl, e)
both_true false b e = absurd cc

in_area_bounds : (area : List ℕ) (entry : Entry) → is_in_area area entry ≡ true → (number_of entry.start < end_of entry) × (end_of entry ≤ length area)
unfolding is_in_area
in_area_bounds area entry e =
    let p = both_true (ltb (number_of entry.start) (end_of entry)) (leb (end_of entry) (length area)) e in
    (ltb-true _ _ p.0, leb-true _ _ p.1)

pub IsSoundEntry-from_checks : (area : List ℕ) (entry : Entry) → first_failing (entry_checks area entry) ≡ None → IsSoundEntry area entry
IsSoundEntry-from_checks area entry e =
    let a = first_failing-cons (check (has_digits entry) EntryDigits) (check (has_tag_bytes entry.tag) EntryTag ∷ check (is_in_area area entry) EntryRange ∷ check (slice_index area (end_of entry - 1) == 30) FieldEnd ∷ []) e in
    let b = first_failing-cons (check (has_tag_bytes entry.tag) EntryTag) (check (is_in_area area entry) EntryRange ∷ check (slice_index area (end_of entry - 1) == 30) FieldEnd ∷ []) a.1 in
    let c = first_failing-cons (check (is_in_area area entry) EntryRange) (check (slice_index area (end_of entry - 1) == 30) FieldEnd ∷ []) b.1 in
    let d = first_failing-cons (check (slice_index area (end_of entry - 1) == 30) FieldEnd) [] c.1 in
    let bounds = in_area_bounds area entry c.0 in
    record { digits = a.0; tag = b.0; begins = bounds.0; within = bounds.1; ended = eqb-true _ _ d.0 }

-- the checks of a directory: those of its first entry, and then those of the others
pub directory_checks-more : (area directory : List ℕ) → 12 ≤ length directory → directory_checks area directory ≡ entry_checks area (entry_of (take 12 directory)) ++ directory_checks area (drop 12 directory)
directory_checks-more area directory long = ap (λ (entries : List Entry). flat_map (entry_checks area) entries) (entries_of-more directory long)

pub directory_checks-short : (area directory : List ℕ) → length directory < 12 → directory_checks area directory ≡ []
directory_checks-short area directory short = ap (λ (entries : List Entry). flat_map (entry_checks area) entries) (entries_of-short directory short)

-- the fault of a directory's first entry is the directory's
pub directory_fails : (area directory : List ℕ) (fault : MarcFault) → 12 ≤ length directory → first_failing (entry_checks area (entry_of (take 12 directory))) ≡ Some fault → first_failing (directory_checks area directory) ≡ Some fault
directory_fails area directory fault long e = ap first_failing (directory_checks-more area directory long) ∙ first_failing-append_fail (entry_checks area (entry_of (take 12 directory))) (directory_checks area (drop 12 directory)) fault e

-- where that entry has none, the others decide
pub directory_passes : (area directory : List ℕ) → 12 ≤ length directory → first_failing (entry_checks area (entry_of (take 12 directory))) ≡ None → first_failing (directory_checks area directory) ≡ first_failing (directory_checks area (drop 12 directory))
directory_passes area directory long e = ap first_failing (directory_checks-more area directory long) ∙ first_failing-append_pass (entry_checks area (entry_of (take 12 directory))) (directory_checks area (drop 12 directory)) e

-- where two lists of checks pass in a row, each does
pub first_failing-append_none : (first second : List Check) → first_failing (first ++ second) ≡ None → (first_failing first ≡ None) × (first_failing second ≡ None)
first_failing-append_none [] second e = (refl, e)
first_failing-append_none (c ∷ first) second e =
    elim c.passes as (λ p. cond p (first_failing (first ++ second)) (Some c.fault) ≡ None → (cond p (first_failing first) (Some c.fault) ≡ None) × (first_failing second ≡ None)) [
      | true ↦ λ e'. first_failing-append_none first second e'
      | false ↦ λ e'. absurd cc
    ] e

-- the first entry of a sound directory is sound, and so are the others
pub first_is_sound : (area directory : List ℕ) → 12 ≤ length directory → first_failing (directory_checks area directory) ≡ None → first_failing (entry_checks area (entry_of (take 12 directory))) ≡ None
first_is_sound area directory long e = (first_failing-append_none (entry_checks area (entry_of (take 12 directory))) (directory_checks area (drop 12 directory)) (sym (ap first_failing (directory_checks-more area directory long)) ∙ e)).0

pub others_are_sound : (area directory : List ℕ) → 12 ≤ length directory → first_failing (directory_checks area directory) ≡ None → first_failing (directory_checks area (drop 12 directory)) ≡ None
others_are_sound area directory long e = (first_failing-append_none (entry_checks area (entry_of (take 12 directory))) (directory_checks area (drop 12 directory)) (sym (ap first_failing (directory_checks-more area directory long)) ∙ e)).1

-- the fields of a directory: that of its first entry, and then those of the others
pub fields_in-more : (area directory : List ℕ) → 12 ≤ length directory → fields_in area directory ≡ field_of area (entry_of (take 12 directory)) ∷ fields_in area (drop 12 directory)
fields_in-more area directory long = ap (λ (entries : List Entry). map (field_of area) entries) (entries_of-more directory long)

pub fields_in-short : (area directory : List ℕ) → length directory < 12 → fields_in area directory ≡ []
fields_in-short area directory short = ap (λ (entries : List Entry). map (field_of area) entries) (entries_of-short directory short)
