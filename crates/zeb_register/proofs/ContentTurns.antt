-- A key's list as changes make it of a content, and its units as they are turned, in each format.
use Rattle.zeb_register.proofs.Cited.{true, length, drop, ◌≡◌, ◌≢◌, ◌∙◌, ◌+◌, ◌/◌, ◌==◌, ◌≤◌, ℕ, zero, suc, List, [], ◌∷◌, filter, nat_eq, refl, sym, ap, subst, inl, inr, arith, eqb-true, eqb_tells, AllByRecursion, Has, has_filtered, has_mapped, Posting, Place, RecordChange, AreListChanges, ArePlacesOf, IsListChanged, place_cmp, posting_at, posting_cmp, IsCount, IsInRecord, false, ◌⊎◌, ◌↔◌, Format, packed_blocks, packed_leaves, plain_rows, OldsRise, places_in, units_of, CountsOn, IsBlockCounted, IsStorableChange, IsTouched, KeyUnits, TurnsUnit, TurnsUnits, turns_count}
use Rattle.zeb_register.proofs.ContentChanges.{at_sysno}
use Rattle.zeb_register.proofs.CountLemmas.{count_upto, counted_none, one_count}
use Rattle.zeb_register.proofs.ListChanges.{list_changed}
use Rattle.zeb_register.proofs.TermsAmong.{records_count, records_of}
use Rattle.std.specs.List.Sorted.{IsStrictlySortedBy}
use Rattle.zeb_register.proofs.PackedChanges.{count_changed, in_record}
use Rattle.zeb_register.proofs.RisingPlaces.{are_in, same_places}
use Rattle.zeb_register.proofs.KeyPlaces.{place_of}

-- ---- which units are turned, and which blocks are touched

pub turns_kept : (format : Format) (changes : List RecordChange) (a b : KeyUnits) → TurnsUnits format changes a b → (n : ℕ) → ((change : RecordChange) → Has changes change → change.sysno ≢ n) → b.places n ≡ a.places n
turns_kept format [] a b turns n others = turns.0 n
turns_kept format (change ∷ changes) a b turns n others =
    turns_kept format changes turns.0 b turns.2 n (λ x here. others x (inr here)) ∙ turns.1.kept n (λ same. others change (inl refl) (sym same))

pub touched : (changes : List RecordChange) (block : ℕ) → IsTouched changes block ⊎ ¬ IsTouched changes block
touched [] block = inr (λ it. it.1)
touched (change ∷ changes) block = from (eqb_tells (change.sysno / 256) block) (touched changes block)
  where
    untouched : change.sysno / 256 ≢ block → ¬ IsTouched changes block → (x : RecordChange) → Has (change ∷ changes) x → x.sysno / 256 ≢ block
    untouched other none x (inl same) at = other (subst (λ (y : RecordChange). y.sysno / 256 ≡ block) same at)
    untouched other none x (inr later) at = none (x, later, at)

    from : ((change.sysno / 256 == block) ≡ true) × (change.sysno / 256 ≡ block) ⊎ ((change.sysno / 256 == block) ≡ false) × (change.sysno / 256 ≢ block) → IsTouched changes block ⊎ ¬ IsTouched changes block
        → IsTouched (change ∷ changes) block ⊎ ¬ IsTouched (change ∷ changes) block
    from (inl same) rest = inl (change, inl refl, same.1)
    from (inr other) (inl later) = inl (later.0, inr later.1, later.2)
    from (inr other) (inr none) = inr (λ it. untouched other.1 none it.0 it.1 it.2)

-- ---- changes that are left

pub none_left : (i : ℕ) (changes : List RecordChange) → length changes ≤ i → drop i changes ≡ []
none_left zero [] all = refl
none_left zero (x ∷ changes) all = absurd (omega (arith, all))
none_left (suc i) [] all = refl
none_left (suc i) (x ∷ changes) all = none_left i changes (omega (arith, all))

-- ---- units, and lists

-- these records have the places in the list that the units have
abbrev pub AreUnitsIn : (ℕ → Type 0) → KeyUnits → List Posting → Type 0
AreUnitsIn P units list = (sysno : ℕ) → P sysno → ArePlacesOf sysno (units.places sysno) list

-- ---- from the units to the list

module _ (format : Format) (P : ℕ → Type 0) where
  -- a change of the list goes with that of the units
  step : (change : RecordChange) (old new : KeyUnits) (one two : List Posting) → TurnsUnit format change old new → IsListChanged change.sysno change.new.now one two → AreUnitsIn P old one → AreUnitsIn P new two
  step change old new one two turns is are n p place = elim (eqb_tells n change.sysno) [
    | inl same ↦
        let moved : ArePlacesOf n change.new.now two = subst (λ m. ArePlacesOf m change.new.now two) (sym same.1) is.part in
        let own : new.places n ≡ change.new.now = ap new.places same.1 ∙ turns.put in
        subst (λ l. ArePlacesOf n l two) (sym own) moved place
    | inr other ↦
        let was = subst (λ l. ArePlacesOf n l one) (sym (turns.kept n other.1)) (are n p) in
        (λ h. (is.others (posting_at n place) other.1).1 ((was place).0 h), λ h. (was place).1 ((is.others (posting_at n place) other.1).0 h))
  ]

  pub list_turned : (changes : List RecordChange) (old new : KeyUnits) (one two : List Posting) → TurnsUnits format changes old new → AreListChanges changes one two → AreUnitsIn P old one → AreUnitsIn P new two
  list_turned [] old new one two turns same are = λ n p.
      subst (λ l. ArePlacesOf n (new.places n) l) (sym same) (subst (λ l. ArePlacesOf n l one) (sym (turns.0 n)) (are n p))
  list_turned (change ∷ changes) old new one two turns are_changes are =
      let mid = are_changes.0 in
      list_turned changes turns.0 new mid two turns.2 are_changes.3 (step change old turns.0 one mid turns.1 are_changes.2 are)

  -- such a list can be made
  pub list_there : (changes : List RecordChange) (old new : KeyUnits) (one : List Posting) → ((change : RecordChange) → Has changes change → P change.sysno) → IsStrictlySortedBy posting_cmp one → TurnsUnits format changes old new → AreUnitsIn P old one
      → (two : List Posting) × AreListChanges changes one two
  list_there [] old new one all up turns are = (one, refl)
  list_there (change ∷ changes) old new one all up turns are =
      let mid = at_sysno change.sysno change.new.now one in
      let is = list_changed change.sysno change.new.now one up in
      let found = subst (λ l. ArePlacesOf change.sysno l one) turns.1.found (are change.sysno (all change (inl refl))) in
      let rest = list_there changes turns.0 new mid (λ c h. all c (inr h)) is.rising turns.2 (step change old turns.0 one mid turns.1 is are) in
      (rest.0, (mid, found, is, rest.1))

-- the count goes along
pub count_turned : (changes : List RecordChange) (old new : KeyUnits) (one two : List Posting) → TurnsUnits packed_blocks changes old new → AreListChanges changes one two → IsCount (IsInRecord one) old.records → IsCount (IsInRecord two) new.records
count_turned [] old new one two turns same count =
    subst (λ l. IsCount (IsInRecord l) new.records) (sym same) (subst (IsCount (IsInRecord one)) (sym turns.1) count)
count_turned (change ∷ changes) old new one two turns are_changes count =
    let mid = are_changes.0 in
    count_turned changes turns.0 new mid two turns.2 are_changes.3
    (count_changed change.sysno change.new.now one mid are_changes.2 change.old.now change.new.now old.records turns.0.records are_changes.1 are_changes.2.part turns.1.count.counted count)

-- what no change is of stays in the list
pub list_kept : (changes : List RecordChange) (one two : List Posting) → AreListChanges changes one two → (p : Posting) → ((x : RecordChange) → Has changes x → x.sysno ≢ p.sysno) → Has two p ↔ Has one p
list_kept [] one two same p others = (subst (λ l. Has l p) same, subst (λ l. Has l p) (sym same))
list_kept (x ∷ xs) one two are p others =
    let rest = list_kept xs are.0 two are.3 p (λ y h. others y (inr h)) in
    let first = are.2.others p (λ same. others x (inl refl) (sym same)) in
    (λ h. first.0 (rest.0 h), λ h. rest.1 (first.1 h))

-- ---- from the list to the units

has_some : (n : ℕ) (list : List Posting) → places_in n list ≢ [] → IsInRecord list n
has_some n list some = from (places_in n list) refl some
  where
    from : (places : List Place) → places_in n list ≡ places → places ≢ [] → IsInRecord list n
    from [] is none = absurd (none refl)
    from (p ∷ places) is none =
        let it = has_mapped place_of (filter (λ q. q.sysno == n) list) p (subst (λ l. Has l p) (sym is) (inl refl)) in
        let kept = has_filtered (λ q. nat_eq q.sysno n) list it.0 it.1 in
        (it.0, kept.0, eqb-true it.0.sysno n kept.1)

list_counted : (block : ℕ) (list : List Posting) (records : ℕ) → IsCount (IsInRecord list) records → IsBlockCounted block (units_of list records)
list_counted block list zero count n at some = absurd (counted_none (IsInRecord list) 0 n count refl (has_some n list some))
list_counted block list (suc records) count n at some = omega arith

abbrev pub InRange : List Posting → Type 0
InRange list = (n : ℕ) → IsInRecord list n → (1 ≤ n) × (n ≤ 999999999)

module _ (change : RecordChange) (one two : List Posting) (found : ArePlacesOf change.sysno change.old.now one) (is : IsListChanged change.sysno change.new.now one two) (was : ℕ) (count : IsCount (IsInRecord one) was) where
  counts_on : (old new : List Place) → ArePlacesOf change.sysno old one → ArePlacesOf change.sysno new two → CountsOn old new was (records_of two)
  counts_on [] [] from to = same_as was (count_changed change.sysno change.new.now one two is [] [] was was from to refl count)
    where
      same_as : (n : ℕ) → IsCount (IsInRecord two) n → records_of two ≡ n
      same_as n it = one_count (IsInRecord two) (records_of two) n (records_count two) it
  counts_on [] (q ∷ new) from to = one_count (IsInRecord two) (records_of two) (was + 1) (records_count two) (count_changed change.sysno change.new.now one two is [] (q ∷ new) was (was + 1) from to refl count)
  counts_on (p ∷ old) (q ∷ new) from to = one_count (IsInRecord two) (records_of two) was (records_count two) (count_changed change.sysno change.new.now one two is (p ∷ old) (q ∷ new) was was from to refl count)
  counts_on (p ∷ old) [] from to = by was refl
    where
      by : (n : ℕ) → was ≡ n → was ≡ records_of two + 1
      by zero none = absurd (counted_none (IsInRecord one) was change.sysno count none (in_record one (p ∷ old) change.sysno p from (inl refl)))
      by (suc n) more =
          let less : was ≡ n + 1 = omega (arith, more) in
          let same = one_count (IsInRecord two) (records_of two) n (records_count two) (count_changed change.sysno change.new.now one two is (p ∷ old) [] was n from to less count) in
          omega (arith, more, same)

  in_range : (1 ≤ change.sysno) × (change.sysno ≤ 999999999) → InRange one → InRange two
  in_range own all n has = elim (eqb_tells n change.sysno) [
    | inl same ↦ subst (λ m. (1 ≤ m) × (m ≤ 999999999)) (sym same.1) own
    | inr other ↦ all n (has.0, (is.others has.0 (λ at. other.1 (sym has.2 ∙ at))).0 has.1, has.2)
  ]

  turned_count : (format : Format) → (1 ≤ change.sysno) × (change.sysno ≤ 999999999) → InRange one → turns_count format change (units_of one was) (units_of two (records_of two))
  turned_count plain_rows own all = tt
  turned_count packed_leaves own all = tt
  turned_count packed_blocks own all = record {
    counted = counts_on change.old.now change.new.now found is.part;
    few = count_upto (IsInRecord two) (records_of two) 999999999 (records_count two) (in_range own all);
    had = list_counted (change.sysno / 256) one was count;
    has = list_counted (change.sysno / 256) two (records_of two) (records_count two);
  }

  pub unit_turned : (format : Format) → (1 ≤ change.sysno) × (change.sysno ≤ 999999999) → InRange one → IsStrictlySortedBy posting_cmp one → IsStrictlySortedBy place_cmp change.old.now → IsStrictlySortedBy place_cmp change.new.now
      → TurnsUnit format change (units_of one was) (units_of two (records_of two))
  unit_turned format own all up rising new_rising = record {
    found = sym (are_in change.sysno change.old.now one rising up found);
    put = sym (are_in change.sysno change.new.now two new_rising is.rising is.part);
    kept = λ n other. same_places n two one is.rising up (λ p at. is.others p (λ same. other (sym at ∙ same)));
    count = turned_count format own all;
  }

pub units_turned : (format : Format) (changes : List RecordChange) (one two : List Posting) (was : ℕ) → AllByRecursion IsStorableChange changes → OldsRise changes → InRange one → IsStrictlySortedBy posting_cmp one → IsCount (IsInRecord one) was
    → AreListChanges changes one two → (are : KeyUnits) × TurnsUnits format changes (units_of one was) are
units_turned format [] one two was stored rise all up count are = (units_of one was, (λ n. refl, refl))
units_turned format (change ∷ changes) one two was stored rise all up count are =
    let mid = are.0 in
    let own = stored.0.sysno in
    let rest = units_turned format changes mid two (records_of mid) stored.1 rise.1 (in_range change one mid are.1 are.2 was count own all) are.2.rising (records_count mid) are.3 in
    (rest.0, (units_of mid (records_of mid), unit_turned change one mid are.1 are.2 was count format own all up rise.0 stored.0.places.0, rest.1))
