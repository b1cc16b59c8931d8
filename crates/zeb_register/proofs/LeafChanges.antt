-- What follows of changes of a key's units in leaves: for tables that hold a content, and for rows whatever they say.
use Rattle.zeb_register.proofs.Cited.{◌≡◌, ◌⊎◌, ◌∙◌, ◌/◌, ◌≤◌, ℕ, ℤ, List, [], ◌∷◌, refl, sym, ap, ap₂, subst, inl, inr, int_cmp_total, key_total, keys_apart, AllByRecursion, Has, Row, Trees, Posting, Key, Place, RecordChange, AreChangedAt, AreListChanges, ArePlacesOf, Content, HasRisingLists, IsStorable, packed_leaves, place_cmp, posting_at, posting_cmp, OldsRise, places_in, HoldsLeaves, HasUnit, KeepsUnits, IsLeafMalformed, IsLeafOf, LeavesRead, units_of, PartReads, KeepsMalformedUnits, AllowsChanges, IsStorableChange, IsTouched, IsUnitTouched, KeyUnits, PutsUnits}
use Rattle.std.specs.List.Sorted.{IsStrictlySortedBy}
use Rattle.zeb_register.proofs.BlockUnits.{none_rises}
use Rattle.zeb_register.proofs.ContentChanges.{integers_apart, told_spot, with_list}
use Rattle.zeb_register.proofs.ContentTurns.{AreUnitsIn, InRange, list_kept, list_there, list_turned, touched, units_turned}
use Rattle.zeb_register.proofs.KeyPlaces.{place_in, placed_at, places_rising}
use Rattle.zeb_register.proofs.KeptLeaves.{alone_kept}
use Rattle.zeb_register.proofs.LeafContents.{held_by_units, held_unit, one_unit, unit_unread}
use Rattle.zeb_register.proofs.ListChanges.{changes_rise, content_changed, content_rises}
use Rattle.zeb_register.proofs.RisingLists.{told_by}
use Rattle.zeb_register.proofs.RisingPlaces.{are_in, same_places}
use Rattle.zeb_register.proofs.TermsAmong.{records_count, records_of}

-- what a block reads as rises
part_rises : (Leaves : Row → Type 0) (term : List ℕ) (block : ℕ) (part : List Posting) → PartReads Leaves term block part → IsStrictlySortedBy posting_cmp part
part_rises Leaves term block [] reads = none_rises
part_rises Leaves term block (p ∷ part) reads = let e = reads.2.there (λ none. cc) in (reads.2.said e.0 e.1 e.2).spelled.lies.rising

-- and so do the places of a unit
unit_rises : (trees : Trees) (db : ℤ) (key : Key) (n : ℕ) (places : List Place) → LeavesRead trees db key n places → IsStrictlySortedBy place_cmp places
unit_rises trees db key n places reads =
    subst (IsStrictlySortedBy place_cmp) (sym reads.2) (places_rising n reads.0 (part_rises (IsLeafOf trees db key) key.term (n / 256) reads.0 reads.1))

-- ---- units that are kept, and those that are changed

module _ (db : ℤ) (Changed : Key → ℕ → Type 0) (told : (key : Key) (n : ℕ) → Changed key n ⊎ ¬ Changed key n) (old new : Trees) (kept : KeepsUnits db Changed old new) where
  told_unit : (d : ℤ) (key : Key) (n : ℕ) → HasUnit db Changed d key n ⊎ ¬ HasUnit db Changed d key n
  told_unit d key n = elim (told_by int_cmp_total integers_apart d db) [
    | inr other ↦ inr (λ it. other it.0)
    | inl same ↦ elim (told key n) [ inl it ↦ inl (same, it) | inr none ↦ inr (λ it. none it.1) ]
  ]

  -- where the changed units could be read, no malformed one is changed
  pub malformed_units : ((key : Key) (n : ℕ) → Changed key n → (places : List Place) × LeavesRead old db key n places) → KeepsMalformedUnits old new
  malformed_units reads d key n bad = elim (told_unit d key n) [
    | inl it ↦ let read = reads key n it.1 in absurd (unit_unread old db key n read.0 (subst (λ (e : ℤ). IsLeafMalformed old e key n) it.0 bad) read.1)
    | inr other ↦ (kept.malformed d key n other).0 bad
  ]

  -- where they read as a content says, and it says of the others what was said before, the tables hold it
  pub units_held : (before after : Content) → HoldsLeaves old before → HasRisingLists after → ((key : Key) (n : ℕ) → Changed key n → LeavesRead new db key n (places_in n (after db key)))
      → ((d : ℤ) (key : Key) (n : ℕ) → ¬ HasUnit db Changed d key n → places_in n (before d key) ≡ places_in n (after d key)) → HoldsLeaves new after
  units_held before after holds rising put same = held_by_units new after rising (λ d key n. elim (told_unit d key n) [
    | inl it ↦ subst (λ (e : ℤ). LeavesRead new e key n (places_in n (after e key))) (sym it.0) (put key n it.1)
    | inr other ↦ subst (LeavesRead new d key n) (same d key n other) ((kept.reads d key n other (places_in n (before d key))).0 (held_unit old before holds d key n))
  ]) (alone_kept db Changed old new kept holds.alone)

-- a list that is changed has the same places in a record whose block no change touches
pub untouched_places : (changes : List RecordChange) (one two : List Posting) → IsStrictlySortedBy posting_cmp one → IsStrictlySortedBy posting_cmp two → AreListChanges changes one two → (n : ℕ) → ¬ IsTouched changes (n / 256) → places_in n one ≡ places_in n two
untouched_places changes one two up down made n none = same_places n one two up down (λ p at.
    let it = list_kept changes one two made p (λ x here same. none (x, here, ap (λ m. m / 256) (same ∙ at))) in
    (it.1, it.0))

-- ---- the units of one key

module _ (db : ℤ) (key : Key) (changes : List RecordChange) (old : Trees) (content : Content) (holds : HoldsLeaves old content) where
  abbrev list : List Posting
  list = content db key

  abbrev In : ℕ → Type 0
  In n = IsTouched changes (n / 256)

  -- a unit reads as the places of the content
  places_of : (n : ℕ) (places : List Place) → LeavesRead old db key n places → ArePlacesOf n places list
  places_of n places reads place =
      let its : places ≡ places_in n list = one_unit old db key n places (places_in n list) reads (held_unit old content holds db key n) in (
        λ h. placed_at n list place (subst (λ l. Has l place) its h),
        λ h. subst (λ l. Has l place) (sym its) (place_in list (posting_at n place) h),
      )

  pub allows_held : IsStorable content → AllByRecursion IsStorableChange changes → OldsRise changes → (after : Content) → AreChangedAt db key changes content after → (were : KeyUnits) × (are : KeyUnits) × AllowsChanges packed_leaves db key changes old were are
  allows_held storable stored rise after change =
      let range : InRange list = λ n has. subst (λ m. (1 ≤ m) × (m ≤ 999999999)) has.2 (storable db key has.0 has.1).sysno in
      let turns = units_turned packed_leaves changes list (after db key) (records_of list) stored rise range (holds.rising db key) (records_count list) change.list in
      (units_of list (records_of list), turns.0, record { count = tt; found = λ n it. held_unit old content holds db key n; turns = turns.1 })

  module _ (were are : KeyUnits) (allowed : AllowsChanges packed_leaves db key changes old were are) where
    are_in_list : AreUnitsIn In were list
    are_in_list n it = places_of n (were.places n) (allowed.found n it)

    pub list_made : (then' : List Posting) × AreListChanges changes list then'
    list_made = list_there packed_leaves In changes were are list (λ change here. (change, here, refl)) (holds.rising db key) allowed.turns are_in_list

    -- a unit that is put reads as the changed list says
    pub unit_after : (new : Trees) → ((n : ℕ) → In n → LeavesRead new db key n (are.places n)) → (then' : List Posting) → AreListChanges changes list then' → (n : ℕ) → In n → LeavesRead new db key n (places_in n then')
    unit_after new put then' made n it =
        let next = list_turned packed_leaves In changes were are list then' allowed.turns made are_in_list in
        let up = changes_rise changes list then' (holds.rising db key) made in
        subst (LeavesRead new db key n) (are_in n (are.places n) then' (unit_rises new db key n (are.places n) (put n it)) up (next n it)) (put n it)

-- ---- a call on one key

pub told_touched : (key : Key) (changes : List RecordChange) (k : Key) (n : ℕ) → IsUnitTouched key changes k n ⊎ ¬ IsUnitTouched key changes k n
told_touched key changes k n = elim (told_by key_total keys_apart k key) [
  | inr other ↦ inr (λ it. other it.0)
  | inl same ↦ elim (touched changes (n / 256)) [ inl it ↦ inl (same, it) | inr none ↦ inr (λ it. none it.1) ]
]

module _ (db : ℤ) (key : Key) (changes : List RecordChange) (old new : Trees) (puts : PutsUnits packed_leaves db key changes old new) where
  pub malformed_kept : KeepsMalformedUnits old new
  malformed_kept = malformed_units db (IsUnitTouched key changes) (told_touched key changes) old new puts.rows
      (λ k n it. (puts.were.places n, subst (λ (l : Key). LeavesRead old db l n (puts.were.places n)) (sym it.0) (puts.allowed.found n it.1)))

  pub change_there : (content : Content) → HoldsLeaves old content → (after : Content) × AreChangedAt db key changes content after
  change_there content holds =
      let made = list_made db key changes old content holds puts.were puts.are puts.allowed in
      (with_list db key made.0 content, content_changed db key changes content made.0 made.1)

  module _ (before after : Content) (holds : HoldsLeaves old before) (change : AreChangedAt db key changes before after) where
    rises : HasRisingLists after
    rises = content_rises db key changes before after holds.rising change

    kept_places : (d : ℤ) (k : Key) (n : ℕ) → ¬ HasUnit db (IsUnitTouched key changes) d k n → places_in n (before d k) ≡ places_in n (after d k)
    kept_places d k n other = elim (told_spot d db k key) [
      | inr apart ↦ ap (places_in n) (sym (change.others d k apart))
      | inl spot ↦
          ap (places_in n) (ap₂ before spot.0 spot.1)
          ∙ untouched_places changes (before db key) (after db key) (holds.rising db key) (rises db key) change.list n (λ it. other (spot.0, (spot.1, it)))
          ∙ sym (ap (places_in n) (ap₂ after spot.0 spot.1))
    ]

    pub content_held : HoldsLeaves new after
    content_held = units_held db (IsUnitTouched key changes) (told_touched key changes) old new puts.rows before after holds rises
        (λ k n it. subst (λ (l : Key). LeavesRead new db l n (places_in n (after db l))) (sym it.0)
        (unit_after db key changes old before holds puts.were puts.are puts.allowed new puts.put (after db key) change.list n it.1)) kept_places
