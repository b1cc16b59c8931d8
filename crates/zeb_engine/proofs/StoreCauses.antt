-- Why the store may have failed, one call after the other.
use Rattle.zeb_engine.proofs.Cited.{◌≡◌, ◌⊎◌, ◌∙◌, ℕ, List, IsTrue, Result, Ok, Err, ap, inl, inr, refl, subst, sym, State, HasCleanDisk, Survives, QueryFault, ChangesNothing, MayRefuse, IsReasoned, IsStore, RegFault, store_same, may_after, Refusal, Conditions, query_refusal, register_refusal, out_of_memory, store_failed, why_of, StaysOpen, IsAnalysed, answer_of, refused, HasStoreCause, Reply}
use Rattle.zeb_query.specs.declared.faults.QueryFault.TheVariants as query
use Rattle.zeb_register.specs.declared.RegFault.TheVariants as register
use Rattle.zeb_change.specs.declared.refusals.Refusal.TheVariants as refusal
use Rattle.zeb_engine.proofs.OwnAnswers.{IsOwn, analysed_own}

-- a fault of the tables that is answered as a failed store is one
pub fault_caused : {X : Type 0} (fault : RegFault) → (fault ≡ register.Store → X) → why_of (register_refusal fault) ≡ store_failed → X
fault_caused register.Store caused is = caused refl
fault_caused _ caused is = absurd cc

-- this refusal, where it is a failed store, has a cause
abbrev pub HasCauseFor : State → State → Refusal → Type 0
HasCauseFor old new why = IsStore old → why_of why ≡ store_failed → MayRefuse old new

-- a query is never refused as a failed store
pub query_caused : (old new : State) (fault : QueryFault) → HasCauseFor old new (query_refusal fault)
query_caused old new (query.Diagnostic number place addinfo) store is = absurd cc
query_caused old new query.Memory store is = absurd cc

-- nor is an analysis
pub analysis_caused : (c : Conditions) (texts : List (List ℕ)) (old new : State) (result : Result Reply Refusal)
    → IsAnalysed c.profile c.limits.records texts (answer_of result) ⊎ (result ≡ Err refusal.Memory) → HasStoreCause old new result
analysis_caused c texts old new (Ok reply) told store = tt
analysis_caused c texts old new (Err why) (inl said) store = λ is. absurd (subst IsOwn is (analysed_own c texts (refused (why_of why)) said))
analysis_caused c texts old new (Err why) (inr memory) store = λ is. absurd (let same : why ≡ refusal.Memory = cc in let e : out_of_memory ≡ store_failed = sym (ap why_of same) ∙ is in cc)

-- ---- calls behind others

-- the calls before changed nothing, and left an open connection open
pub record LeavesAll (old mid : State) : Type 0 where
  pub survives : Survives old mid (λ _. ⊥)
  pub opened : IsTrue old.is_open → IsTrue mid.is_open
  pub nothing : ChangesNothing old mid

pub accepted_leaves : (old mid : State) → Survives old mid (λ _. ⊥) → StaysOpen old mid → ChangesNothing old mid → LeavesAll old mid
accepted_leaves old mid survives stays nothing = record { survives = survives; opened = λ _. stays.1; nothing = nothing }

module _ (old mid new : State) (leaves : LeavesAll old mid) where
  pub refusal_after : (why : Refusal) → HasCauseFor mid new why → HasCauseFor old new why
  refusal_after why caused store is =
      may_after old mid new leaves.survives leaves.opened (λ is_open. caused (store_same old mid (leaves.nothing is_open).1 store) is)

  pub cause_after : {T : Type 0} (result : Result T Refusal) → HasStoreCause mid new result → HasStoreCause old new result
  cause_after (Ok x) caused store = tt
  cause_after (Err why) caused store = refusal_after why caused store

  -- the fault of a call on the tables
  pub fault_after : {A : Type 0} (fault : RegFault) → HasCleanDisk new → IsReasoned {A = A} mid new (Err fault) → HasCauseFor old new (register_refusal fault)
  fault_after fault clean reasoned = refusal_after (register_refusal fault) (λ store. fault_caused fault (λ is. reasoned clean store (ap Err is)))
