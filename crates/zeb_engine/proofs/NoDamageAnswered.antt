-- Damage is no answer of a command that is served, from tables that hold something.
use Rattle.zeb_engine.proofs.Cited.{◌≡◌, ◌≢◌, ◌⊎◌, ◌∙◌, ℕ, List, [], Result, Err, inl, inr, ap, subst, State, Command, Kind, Refusal, Damaged, Reply, answer_of, refused, IsFailure, damaged, why_of, Conditions, Holdings, Keeps, Outcome, splits_of, ServesCommand, changed_by_files, turned}
use Rattle.zeb_engine.proofs.OwnAnswers.{IsOwnAnswer, answers_own, change_own, turned_own}
use Rattle.zeb_engine.proofs.StepLemmas.{step_told}

no_failure : IsFailure (refused damaged) → ⊥
no_failure (inl same) = cc
no_failure (inr same) = cc

module _ (c : Conditions) (old new : State) (result : Result Reply Refusal) (is : result ≡ Err Damaged) (before : Holdings) (keeps : Keeps old before) where
  pub command_honest : (command : Command) → ServesCommand c command old new result → ⊥
  command_honest command serves = let served = serves before keeps in elim served.1 [
    | inl step ↦ subst IsOwnAnswer (ap answer_of is) (answers_own c command before (answer_of result) (step_told c command before (answer_of result) served.0 step).0)
    | inr failed ↦ no_failure (subst IsFailure (ap answer_of is) failed.0)
  ]

module _ (refusal : Refusal) where
  pub failure_honest : IsFailure (refused (why_of refusal)) → refusal ≢ Damaged
  failure_honest failed is = no_failure (subst (λ r. IsFailure (refused (why_of r))) is failed)

  -- a change that a failure refuses, or the definition before any file
  pub start_honest : (c : Conditions) (before : Holdings) (kind : Kind) (name : List ℕ) → IsFailure (refused (why_of refusal)) ⊎ (turned c (changed_by_files c kind name (splits_of [])) before ≡ (refused (why_of refusal), before)) → refusal ≢ Damaged
  start_honest c before kind name (inl failed) = failure_honest failed
  start_honest c before kind name (inr told) = λ is.
      subst IsOwnAnswer (ap (λ (o : Outcome). o.0) told ∙ ap (λ r. refused (why_of r)) is) (turned_own c (changed_by_files c kind name (splits_of [])) before (change_own c kind name []))
