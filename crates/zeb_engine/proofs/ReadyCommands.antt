-- What a session's commands come to after a look at whether the register is ready.
use Rattle.zeb_engine.proofs.Cited.{◌≡◌, ◌⊎◌, ℕ, List, Result, Ok, Err, IsTrue, Vec, map, inl, inr, refl, sym, ap, subst, Global, State, ChangesNothing, Analyse, Reply, Refusal, Answer, answer_of, IsFailure, Why, Meets, Conditions, Holdings, Base, Keeps, Outcome, Ends, OnlyAnswers, ServesBy, ServesCommand, Always, Serves, IsAnalysis, ready}
use Rattle.zeb_engine.proofs.ServesLemmas.{keeps_still}

pub ready_met : {X : Type 0} (Good : List Base → X → Type 0) (said : Result (List Base) Why) (x : X) → Meets Good said (Ok x) → (bases : List Base) × (said ≡ Ok bases) × Good bases x
ready_met Good (Ok bases) x met = (bases, refl, met)
ready_met Good (Err why) x met = absurd met

-- a register that is ready: its databases, an open connection, and what is held still after the look
pub ready_kept : (c : Conditions) (old mid : State) (before : Holdings) → Meets {A = List Base} {X = Unit {0}} (λ bases x. IsTrue old.is_open × IsTrue mid.is_open) (ready c before) (Ok tt)
    → ChangesNothing old mid → Keeps old before → (bases : List Base) × (ready c before ≡ Ok bases) × (IsTrue old.is_open × IsTrue mid.is_open) × Keeps mid before
ready_kept c old mid before met nothing keeps =
    let it = ready_met {X = Unit {0}} (λ (bases : List Base) x. IsTrue old.is_open × IsTrue mid.is_open) (ready c before) tt met in (it.0, it.1, it.2, keeps_still before old mid nothing keeps)

-- an answer that is described
pub asks_serve : (Says : Holdings → Answer → Type 0) (old new : State) (result : Result Reply Refusal)
    → ((before : Holdings) → Keeps old before → (Says before (answer_of result) × Keeps new before) ⊎ (IsFailure (answer_of result) × Keeps new before)) → ServesBy (λ before. OnlyAnswers (Says before) before) old new result
asks_serve Says old new result asks before keeps = elim (asks before keeps) [
  | inl told ↦ (before, inl (told.0, refl), told.1)
  | inr failed ↦ (before, inr (failed.0, refl), failed.1)
]

-- an outcome that is computed
pub ends_serve : (does : Holdings → Outcome) (old new : State) (result : Result Reply Refusal) → Serves Always does old new result → ServesBy (λ before. Ends (does before)) old new result
ends_serve does old new result serves before keeps = elim (serves before (λ _. tt) keeps) [
  | inl step ↦ ((does before).1, inl (sym step.0, refl), step.1)
  | inr failed ↦ (before, inr (failed.0, refl), failed.1)
]

-- ---- an analysis

-- on a connection that is as it was
pub analysis_serves : (result : Result Reply Refusal) (files : Vec (Vec ℕ Global) Global) (c : Conditions) (s : State) → IsAnalysis c (map (λ file. file.items) files.items) result → ServesCommand c (Analyse files) s s result
analysis_serves result files c s (inl is) before keeps = (before, inl (is, refl), keeps)
analysis_serves result files c s (inr is) before keeps = (before, inr (subst IsFailure (sym (ap answer_of is)) (inr refl), refl), keeps)
