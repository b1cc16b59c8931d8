-- A command that asks, a create and a drop on any tables of a store, step by step: which rows they are refused for.
use Rattle.zeb_engine.proofs.Cited.{◌≡◌, ◌≢◌, ◌⊎◌, ℕ, ℤ, List, Result, Err, ap, subst, inl, inr, Contents, State, Trees, Directive, IsReadable, ChangesNothing, HasDatabase, IsStore, store_same, Refusal, why_of, Reply, StaysOpen, IsSaidOrMissed, OfDatabase, HidesDatabase, HidesOf, TellsUnlessHidden, UnlessHidden, Answer, IsFailure, IsUnready, MissesDatabase, IsReadyFor, IsRefusedOver, refused}
use Rattle.zeb_change.specs.declared.refusals.Refusal.TheVariants as refusal
use Rattle.zeb_engine.proofs.ReadyTexts.{unready_fails}

module _ (Over : Trees → Answer → Type 0) (Hides : Trees → Type 0) where
  -- after a look at whether the register is ready
  pub hidden_after : (old mid : State) (result : Result Reply Refusal) → ChangesNothing old mid → StaysOpen old mid
      → (IsStore mid → TellsUnlessHidden Over Hides mid.now.trees result) → IsStore old → TellsUnlessHidden Over Hides old.now.trees result
  hidden_after old mid result nothing opened told store =
      let same = nothing opened.1 in
      subst (λ (d : Contents). TellsUnlessHidden Over Hides d.trees result) same.1 (told (store_same old mid same.1 store))

  -- a register that is ready is refused there by a failure alone
  pub unready_hidden : (version : List ℕ) (profile : List Directive) (s : State) (why : Refusal) → IsUnready why
      → (IsStore s → IsRefusedOver version profile s.now.trees why)
      → (IsStore s → IsReadyFor version profile s.now.trees → ◌≢◌ {A = Result (Unit {0}) Refusal} (Err why) (Err refusal.Damaged))
      → UnlessHidden version profile Over Hides s (Err why)
  unready_hidden version profile s why few texts whole store is =
      inr (inr (unready_fails version profile s.now.trees is why few (texts store) (whole store is)))

-- ---- the database of a name

-- none has the name, or its last number is below 0
pub misses_hidden : (Tells : OfDatabase) (name : List ℕ) (Hides : Trees → Type 0) (trees : Trees) → (HidesDatabase name trees → Hides trees)
    → (why : Refusal) → IsFailure (refused (why_of why)) ⊎ MissesDatabase trees name why
    → TellsUnlessHidden (λ t. IsSaidOrMissed Tells name t) Hides trees (Err why)
misses_hidden Tells name Hides trees hides why (inl failed) = inr (inr failed)
misses_hidden Tells name Hides trees hides why (inr (inl none)) = inl (inl (none.0, ap refused none.1))
misses_hidden Tells name Hides trees hides why (inr (inr damaged)) = inr (inl (ap Err damaged.0, hides damaged.1))

-- something of a database that has the name can't be read
pub hidden_of : (Over : Trees → Answer → Type 0) (Hides : Trees → ℤ → Type 0) (name : List ℕ) (trees : Trees) (id last : ℤ)
    → HasDatabase trees id name last → (why : Refusal) → IsFailure (refused (why_of why)) ⊎ ((why ≡ refusal.Damaged) × Hides trees id)
    → TellsUnlessHidden Over (λ t. HidesOf (Hides t) name t) trees (Err why)
hidden_of Over Hides name trees id last row why (inl failed) = inr (inr failed)
hidden_of Over Hides name trees id last row why (inr damaged) = inr (inl (ap Err damaged.0, inr (id, last, row, damaged.1)))

-- the same of a query that is read
pub hidden_read : (text : List ℕ) → IsReadable text → (Over : Trees → Answer → Type 0) (Hides : Trees → ℤ → Type 0) (name : List ℕ) (trees : Trees) (id last : ℤ)
    → HasDatabase trees id name last → (why : Refusal) → IsFailure (refused (why_of why)) ⊎ ((why ≡ refusal.Damaged) × Hides trees id)
    → TellsUnlessHidden Over (λ t. IsReadable text × HidesOf (Hides t) name t) trees (Err why)
hidden_read text readable Over Hides name trees id last row why (inl failed) = inr (inr failed)
hidden_read text readable Over Hides name trees id last row why (inr damaged) = inr (inl (ap Err damaged.0, (readable, inr (id, last, row, damaged.1))))
