-- One record's change of what is held of a block, as a change of its units.
use Rattle.zeb_packed.proofs.Cited.{packed_blocks, ◌≡◌, ◌≢◌, ◌∙◌, ◌/◌, ◌≤◌, ℕ, List, [], ◌∷◌, refl, sym, subst, inl, inr, arith, eqb_tells, Has, all_has, LiesIn, Posting, RecordChange, units_of, places_in, CountsOn, IsBlockCounted, IsStorableChange, KeyUnits, TurnsUnit, place_in, TurnsPlaces}
use Rattle.zeb_register.proofs.KeyPlaces.{place_of}
use Rattle.zeb_packed.proofs.UnitTurns.{counts_same}

has_none : (sysno : ℕ) (list : List Posting) → places_in sysno list ≢ [] → list ≢ []
has_none sysno [] some = absurd (some refl)
has_none sysno (p ∷ list) some = λ none. cc

counted_in : (block : ℕ) (list : List Posting) (records : ℕ) → (list ≢ [] → 1 ≤ records) → IsBlockCounted block (units_of list records)
counted_in block list records counted n at some = counted (has_none n list some)

module _ (change : RecordChange) (block : ℕ) (one : List Posting) (was : ℕ) (inside : change.sysno / 256 ≡ block) (lies : LiesIn block one) (stored : IsStorableChange change) where
  -- some record of the block has the key where its list has a posting
  some_unit : (list : List Posting) → LiesIn block list → list ≢ [] → (n : ℕ) × (n / 256 ≡ change.sysno / 256) × (places_in n list ≢ [])
  some_unit [] where_ some = absurd (some refl)
  some_unit (p ∷ list) where_ some = (
    p.sysno,
    all_has (λ (q : Posting). q.sysno / 256 ≡ block) (p ∷ list) p where_.inside (inl refl) ∙ sym inside,
    λ none. absurd (subst (λ l. Has l (place_of p)) none (place_in (p ∷ list) p (inl refl))),
  )

  -- no change is made of a record with other places
  pub not_found : places_in change.sysno one ≢ change.old.now → (are : KeyUnits) → ¬ TurnsUnit packed_blocks change (units_of one was) are
  not_found other are turns = other turns.found

  pub not_counted : was ≡ 0 → one ≢ [] → (are : KeyUnits) → ¬ TurnsUnit packed_blocks change (units_of one was) are
  not_counted none some are turns = let it = some_unit one lies some in omega (arith, turns.count.had it.0 it.1 it.2, none)

  pub not_followed : ((after : ℕ) → CountsOn change.old.now change.new.now was after → ¬ (after ≤ 999999999)) → (are : KeyUnits) → ¬ TurnsUnit packed_blocks change (units_of one was) are
  not_followed never are turns = never are.records turns.count.counted turns.count.few

  module _ (two : List Posting) (after : ℕ) (turned : TurnsPlaces change one two) (then' : LiesIn block two) (counts : CountsOn change.old.now change.new.now was after) where
    pub unit_turned : after ≤ 999999999 → (one ≢ [] → 1 ≤ was) → (two ≢ [] → 1 ≤ after) → TurnsUnit packed_blocks change (units_of one was) (units_of two after)
    unit_turned few had has = record {
      found = turned.found;
      put = turned.put;
      kept = turned.kept;
      count = record {
        counted = counts;
        few = few;
        had = counted_in (change.sysno / 256) one was had;
        has = counted_in (change.sysno / 256) two after has;
      };
    }

    pub not_left : after ≡ 0 → two ≢ [] → (are : KeyUnits) → ¬ TurnsUnit packed_blocks change (units_of one was) are
    not_left none some are turns =
        let it = some_unit two then' some in
        let count : are.records ≡ after = counts_same change.old.now change.new.now was are.records after turns.count.counted counts in
        let unit : are.places it.0 ≡ places_in it.0 two = elim (eqb_tells it.0 change.sysno) [
          | inl own' ↦ subst (λ n. are.places n ≡ places_in n two) (sym own'.1) (turns.put ∙ sym turned.put)
          | inr other ↦ turns.kept it.0 other.1 ∙ sym (turned.kept it.0 other.1)
        ] in
        omega (arith, turns.count.has it.0 it.1 (λ no. it.2 (sym unit ∙ no)), count, none)
