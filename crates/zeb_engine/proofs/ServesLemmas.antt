-- How a command ends that was refused, and what follows where it began with a look at the tables.
use Rattle.zeb_engine.proofs.Cited.{◌≡◌, ◌⊎◌, ◌∙◌, Result, Ok, Err, OnOk, inl, inr, sym, ap, subst, IsTrue, Trees, State, ChangesNothing, Refusal, refused, IsFailure, why_of, Holdings, Keeps, Outcome, Serves}
use Rattle.zeb_engine.proofs.Ready.{image_still}

pub keeps_still : (before : Holdings) (old new : State) → ChangesNothing old new → Keeps old before → Keeps new before
keeps_still before old new nothing keeps is_open =
    let same = nothing is_open in
    let was = keeps same.0 in
    (image_still before old new same.1 was.0, same.2 ∙ was.1 ∙ sym same.1)

module _ (outcome : Holdings → Outcome) where
  -- nothing was changed, and a refusal is a failure or what the outcome says
  pub early_serves : (F : Trees → Holdings → Type 0) (old new : State) (refusal : Refusal) → ChangesNothing old new
      → ((before : Holdings) → (IsTrue old.is_open → F old.now.trees before) → Keeps old before → IsFailure (refused (why_of refusal)) ⊎ (outcome before ≡ (refused (why_of refusal), before)))
      → Serves F outcome old new (Err refusal)
  early_serves F old new refusal nothing told before fits keeps = elim (told before fits keeps) [
    | inl failed ↦ inr (failed, keeps_still before old new nothing keeps)
    | inr step ↦ inl (ap (λ (o : Outcome). o.0) step, subst (Keeps new) (sym (ap (λ (o : Outcome). o.1) step)) (keeps_still before old new nothing keeps))
  ]

pub on_ok : {A E : Type 0} (r : Result A E) (P Q : Type 0) → (P → Q) → OnOk r P → OnOk r Q
on_ok (Ok x) P Q so p = so p
on_ok (Err e) P Q so p = p
