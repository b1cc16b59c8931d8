-- Why the store may have failed, one call after the other.
use Rattle.zeb_register.proofs.Cited.{State, HasCleanDisk, IsUnchanged, Survives, ◌≡◌, ◌∙◌, true, false, IsTrue, IsSome, Result, Ok, Err, Error, inl, inr, sym, subst, arith, cases_Bool, RegFault, Store, MayRefuse, IsReasoned, IsReasonedError, IsStore}
use Rattle.zeb_register.proofs.Calls.{store_same}

-- a call behind others that have left an open connection open
pub may_after : (old mid new : State) → Survives old mid (λ _. ⊥) → (IsTrue old.is_open → IsTrue mid.is_open)
    → (IsTrue mid.is_open → MayRefuse mid new) → MayRefuse old new
may_after old mid new survives opened caused = elim (cases_Bool old.is_open) [
  | inl was_open ↦ elim (caused (opened was_open)) [
    | inl shut ↦ absurd (let e : true ≡ false = sym (opened was_open) ∙ shut in cc)
    | inr (inl more) ↦ inr (inl (omega (arith, more, survives.counts)))
    | inr (inr limit) ↦ inr (inr (subst IsSome survives.limit limit))
  ]
  | inr shut ↦ inl shut
]

-- a call on the tables of a store behind others that changed nothing
pub reasoned_after : {A : Type 0} (old mid new : State) (result : Result A RegFault) → Survives old mid (λ _. ⊥) → (HasCleanDisk mid → IsUnchanged old mid) → Survives mid new (λ _. ⊥)
    → IsReasoned mid new result → result ≡ Err Store → HasCleanDisk new → IsStore old → MayRefuse old new
reasoned_after old mid new result first same next reasoned told clean store =
    let clean_mid : HasCleanDisk mid = omega (arith, clean, next.clean) in
    let before = (same clean_mid).0 in
    may_after old mid new first (λ _. before.is_open) (λ _. reasoned clean (store_same old mid before.now_is store) told)

-- a call that is refused as the store is, behind others that changed nothing
pub failed_after : {A : Type 0} (old mid new : State) (result : Result A Error) → Survives old mid (λ _. ⊥) → (HasCleanDisk mid → IsUnchanged old mid) → Survives mid new (λ _. ⊥)
    → IsReasonedError mid new result → IsReasonedError old new result
failed_after old mid new (Ok _) first same next reasoned = λ clean store. tt
failed_after old mid new (Err e) first same next reasoned = λ clean store told.
    let clean_mid : HasCleanDisk mid = omega (arith, clean, next.clean) in
    let before = (same clean_mid).0 in
    may_after old mid new first (λ _. before.is_open) (λ _. reasoned clean (store_same old mid before.now_is store) told)
