-- What is said of a run of one key is said of the changes of that key.
use Rattle.zeb_leaves.proofs.Cited.{◌≡◌, ◌≢◌, ℕ, ℤ, List, [], ◌∷◌, Result, Ok, Err, refl, subst, inl, inr, Trees, Has, Key, AllByRecursion, kept_wider, Answers, packed_leaves, IsRun, IsRunRefusedAs, IsUnitAmong, PutsKeys, TurnsAny, KeepsLists, AllowsChanges, IsRefusedAs, IsStorableChange, IsUnitTouched, KeyUnits, NumbersRise, PutsAny, RegFault, KeyChanges, RecordChange}
use Rattle.std.specs.List.Sorted.{IsStrictlySortedBy}
use Rattle.zeb_register.specs.KeptUnits.{KeepsUnits}

pub one_run : (one : KeyChanges) → NumbersRise one.changes.now → IsRun (one ∷ [])
unfolding IsStrictlySortedBy
one_run one rises = record { keys = (tt, tt); numbers = (rises, tt) }

only_one : (one x : KeyChanges) → Has (one ∷ []) x → x ≡ one
only_one one x (inl same) = same
only_one one x (inr none) = absurd none

some_put : (db : ℤ) (key : Key) (changes : List RecordChange) (old new : Trees) → changes ≢ [] → TurnsAny packed_leaves db key changes old new → KeepsUnits db (IsUnitTouched key changes) old new → KeepsLists old new
    → PutsAny packed_leaves db key changes old new
some_put db key [] old new some turns rows lists = absurd (some refl)
some_put db key (change ∷ changes) old new some turns rows lists = record {
  text = turns.text;
  stored = turns.stored;
  were = turns.were;
  are = turns.are;
  allowed = turns.allowed;
  put = turns.put;
  rows = rows;
  lists = lists;
}

module _ (db : ℤ) (one : KeyChanges) (some : one.changes.now ≢ []) (stored : AllByRecursion IsStorableChange one.changes.now) (old new : Trees) where
  touched : (key : Key) (n : ℕ) → IsUnitAmong (one ∷ []) key n → IsUnitTouched one.key.now one.changes.now key n
  touched key n it = subst (λ (x : KeyChanges). IsUnitTouched x.key.now x.changes.now key n) (only_one one it.0 it.1) it.2

  -- what a call answers for the run it answers for the key
  pub one_answered : (Held : Type 0) (result : Result (Unit {0}) RegFault) → Answers (IsRunRefusedAs packed_leaves db (one ∷ []) old) (λ done. Held × PutsKeys packed_leaves db (one ∷ []) old new) result
      → Answers (IsRefusedAs packed_leaves db one.key.now one.changes.now old) (λ done. Held × PutsAny packed_leaves db one.key.now one.changes.now old new) result
  one_answered Held (Ok done) it = (
    it.0,
    some_put db one.key.now one.changes.now old new some it.1.each.0 (kept_wider db (IsUnitAmong (one ∷ [])) (IsUnitTouched one.key.now one.changes.now) touched old new it.1.rows) it.1.lists,
  )
  one_answered Held (Err fault) told = (
    λ not. absurd (not stored),
    λ damaged.
        let it = told damaged in
        (stored, subst (λ (x : KeyChanges). (were are : KeyUnits) → ¬ AllowsChanges packed_leaves db x.key.now x.changes.now old were are) (only_one one it.0 it.1) it.3),
  )
