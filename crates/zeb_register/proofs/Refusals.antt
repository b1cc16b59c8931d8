-- Why a query that fits the tables is refused.
use Rattle.zeb_register.proofs.Cited.{IsPlain, command_of, Select, RefusesToRead, reads_listing, IsSourceOf, Row, Query, State, HasCause, IsTooLate, store_error, Term, Trees, Error, Compiled, CompileError, Program, QueryOverflows, StoreError, ◌≡◌, ◌⊎◌, ◌∙◌, ◌≤◌, ℕ, List, length, Ok, Err, Result, IsTrue, inl, inr, None, true, false, sym, ap, subst, subst₂, append-nil, Store, fault_of, store_schema, IsStore, MayRefuse, IsReasonedError, IsSilent, LooksUp}
use Rattle.sqlite.specs.Listing.{understood}
use Rattle.sqlite.specs.State.{FailsToQuery, IsNotRun}
use Rattle.sqlite_value.specs.declared.keys.Key.{Key}
use Rattle.sqlite.specs.Effect.{IsShown}
use Rattle.sqlite_trees.specs.declared.error.StoreError.TheVariants as cause
use Rattle.zeb_register.proofs.StatementForms.{Condition, reading_by, alone}

-- the text is one statement with so many parameters
abbrev pub IsWhole : List ℕ → ℕ → Result Compiled CompileError → Type 0
IsWhole sql count (Ok c) = (length sql ≤ c.tail) × (count ≡ length c.names)
IsWhole sql count (Err e) = ⊥

-- the types of the parameters fit the query
abbrev pub IsFit : Program → Row → Type 0
IsFit p params = (trees : Trees) → ¬ IsShown (λ (r : Row). r) (record { schema = store_schema; trees = trees }) p params None

-- no sum of the query overflows
abbrev pub IsSure : Query → Row → Type 0
IsSure q params = (trees : Trees) → ¬ QueryOverflows q trees params

-- on the tables of a store a failure of it at this query has a reason
abbrev pub IsReasonedQuery : List ℕ → Row → Type 1
IsReasonedQuery sql params = (old new : State) (e : Error) → IsStore old → fault_of e ≡ Store → FailsToQuery sql params old new e → MayRefuse old new

-- a query inside a transaction that goes on fails as any other
pub not_late : (sql : List ℕ) (params : Row) (old new : State) (e : Error) → IsTrue old.in_transaction → FailsToQuery sql params old new e ⊎ IsTooLate sql params old new e → FailsToQuery sql params old new e
not_late sql params old new e inside (inl failed) = failed
not_late sql params old new e inside (inr late) = absurd (let ended : true ≡ false = sym inside ∙ late.3 in cc)

-- a failure of the store has a cause, or what the statement writes is too big for it
pub by_cause : (old new : State) (TooBig : Type 0) (kind : StoreError) → fault_of (store_error kind) ≡ Store → HasCause old new TooBig kind → MayRefuse old new ⊎ TooBig
by_cause old new TooBig cause.OutOfMemory told h = absurd cc
by_cause old new TooBig cause.Io told h = inl (inr (inl h))
by_cause old new TooBig cause.Corrupt told h = inl (inr (inl h))
by_cause old new TooBig cause.Full told h = inl (inr (inl h))
by_cause old new TooBig cause.Broken told h = inl (inl h)
by_cause old new TooBig cause.Unstorable told h = inr h

pub without_size : (old new : State) (kind : StoreError) → fault_of (store_error kind) ≡ Store → HasCause old new ⊥ kind → MayRefuse old new
without_size old new kind told h = elim (by_cause old new ⊥ kind told h) [ inl why ↦ why | inr none ↦ absurd none ]

module _ (sql : List ℕ) (params : Row) (query : Query) (names : List (List ℕ))
    (is : command_of (understood store_schema sql) ≡ Select (alone query) names)
    (plain : IsPlain (understood store_schema sql)) (unlisted : reads_listing store_schema sql ≡ false)
    (whole : IsWhole sql (length params) (understood store_schema sql))
    (fit : IsFit (alone query) params) (sure : IsSure query params)
    (old new : State) (store : IsStore old) where
  pub why_query_refused : (e : Error) → fault_of e ≡ Store → FailsToQuery sql params old new e → MayRefuse old new
  unfolding FailsToQuery IsNotRun
  why_query_refused e told (inl (inl (inl none, same))) = absurd (subst IsPlain (ap (λ s. understood s sql) (sym store.is) ∙ none.1) plain)
  why_query_refused e told (inl (inl (inr unfit, same))) =
      let known = ap (λ s. understood s sql) (sym store.is) ∙ unfit.1 in
      let fits = subst (IsWhole sql (length params)) known whole in
      elim unfit.2 [
        | inl more ↦ absurd (more.0 fits.0)
        | inr (inl count) ↦ absurd (count.0 fits.1)
        | inr (inr clock) ↦ absurd (clock.0 (subst IsPlain known plain).1)
      ]
  why_query_refused e told (inl (inr failed)) = without_size old new failed.0 (ap fault_of (sym failed.1) ∙ told) failed.2
  why_query_refused e told (inr h) =
      let known = sym h.1.is ∙ ap (λ s. understood s sql) store.is in
      let bare = subst IsPlain (sym known) plain in
      let it = rw (bare.0, bare.1, append-nil params) at h.2 in
      let db : it.0 ≡ old.now = subst (λ b. IsSourceOf b old.now it.0) (ap (λ s. reads_listing s sql) store.is ∙ unlisted) it.1 in
      elim (subst₂ (λ k d. RefusesToRead old.step_limit k d params e) (ap command_of known ∙ is) db it.2) [
        | inl mistyped ↦ absurd (fit old.now.trees (subst (λ s. IsShown (λ (r : Row). r) (record { schema = s; trees = old.now.trees }) (alone query) params None) store.is mistyped.1))
        | inr (inl over) ↦ absurd (sure _ over.1)
        | inr (inr stopped) ↦ inr (inr stopped.1)
      ]

-- the rows of one table, which the query sums nothing of
module _ (sql : List ℕ) (params : Row) (tree : ℕ) (wheres : List Condition) (project : List Term) (keys : List (Term × Key)) (limit : Term) (names : List (List ℕ))
    (is : command_of (understood store_schema sql) ≡ Select (alone (reading_by tree wheres project keys limit)) names)
    (plain : IsPlain (understood store_schema sql)) (unlisted : reads_listing store_schema sql ≡ false)
    (whole : IsWhole sql (length params) (understood store_schema sql))
    (fit : IsFit (alone (reading_by tree wheres project keys limit)) params)
    (old new : State) (store : IsStore old) where
  pub why_refused : (e : Error) → fault_of e ≡ Store → FailsToQuery sql params old new e → MayRefuse old new
  why_refused = why_query_refused sql params (reading_by tree wheres project keys limit) names is plain unlisted whole fit (λ trees over. elim over [ inl none ↦ none | inr some ↦ some.4 ]) old new store

-- ---- a query on the tables of a store, with what it is compiled to

pub record IsQuery (sql : List ℕ) (params : Row) (tree : ℕ) (wheres : List Condition) (project : List Term) (keys : List (Term × Key)) (limit : Term) (names : List (List ℕ)) : Type 0 where
  pub is : command_of (understood store_schema sql) ≡ Select (alone (reading_by tree wheres project keys limit)) names
  pub plain : IsPlain (understood store_schema sql)
  pub unlisted : reads_listing store_schema sql ≡ false
  pub silent : IsSilent sql
  pub whole : IsWhole sql (length params) (understood store_schema sql)
  pub fit : IsFit (alone (reading_by tree wheres project keys limit)) params

pub refused : {sql : List ℕ} {params : Row} {tree : ℕ} {wheres : List Condition} {project : List Term} {keys : List (Term × Key)} {limit : Term} {names : List (List ℕ)} → IsQuery sql params tree wheres project keys limit names → IsReasonedQuery sql params
refused {sql} {params} {tree} {wheres} {project} {keys} {limit} {names} q old new e store told failed = why_refused sql params tree wheres project keys limit names q.is q.plain q.unlisted q.whole q.fit old new store e told failed

pub why_failed : {A : Type 0} {rows : A → List Row} {sql : List ℕ} {params : Row} → IsReasonedQuery sql params → (old new : State) (r : Result A Error) → LooksUp rows sql params old new r → IsReasonedError old new r
why_failed reasoned old new (Ok x) looks clean store = tt
why_failed reasoned old new (Err e) looks clean store = λ told. reasoned old new e store told (looks.err clean)
