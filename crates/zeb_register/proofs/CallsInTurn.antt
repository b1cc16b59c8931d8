-- From one statement to the next.
use Rattle.zeb_register.proofs.Cited.{survives_then, timed, Row, State, Executes, ExecutesInside, IsUnchanged, KeepsCommit, RunsCommand, Survives, shows_rows, store_error, Error, ExecuteReturnedResults, SqliteFailure, ConstraintViolation, Compiled, Constraint, StoreError, ◌≡◌, refl, sym, ℕ, ◌∙◌, inl, inr, List, IsTrue, Bool, true, false, Result, Ok, Err, IfErr, arith, MatchBool, store_schema, OnlyReads, IsMade, IsEmptyStore}
use Rattle.sqlite.specs.State.{ExecutesIn, IsNotRun}
use Rattle.sqlite_trees.specs.declared.error.StoreError.TheVariants as cause
use Rattle.zeb_register.proofs.CreateTable.{made_layout}

pub quiet_then : (a b c : State) → Survives a b (λ _. ⊥) → Survives b c (λ _. ⊥) → Survives a c (λ _. ⊥)
quiet_then a b c p q = survives_then a b c (λ _. ⊥) (λ _. ⊥) (λ _. ⊥) (λ _ db none. none) (λ _ db none. none) p q

pub quiet_still : (s : State) → Survives s s (λ _. ⊥)
quiet_still s = record { clean = omega arith; shield = λ h. h; counts = omega arith; limit = refl; closes = λ _ was. inl was; crash = λ _ db may. inl may }

pub made_store : (s : State) → IsMade store_schema s → IsEmptyStore s
made_store s made = (made_layout store_schema s made, made.inside, made.empty)

-- a statement inside a transaction commits nothing
pub inside_keeps : (sql : List ℕ) (params : Row) (old new : State) (r : Result ℕ Error) → ExecutesInside 0 sql params old new r → KeepsCommit old new
inside_keeps sql params old new (Ok count) h = record { was_open = λ _. h.1.was_open; committed = λ _. h.1.committed_is }
inside_keeps sql params old new (Err e) (inl h) = elim h.1 [
  | inl same ↦ record { was_open = λ _. same.0.was_open; committed = λ _. same.0.committed_is }
  | inr back ↦ record { was_open = back.was_open; committed = λ now. (back.undone now).1 }
]
inside_keeps sql params old new (Err e) (inr h) = record { was_open = λ _. h.2.0.was_open; committed = λ _. h.2.0.committed_is }

-- ---- statements that a rule of the tables refuses

not_by_store : (cause : StoreError) (rule : Constraint) → ¬ (SqliteFailure (ConstraintViolation rule) ≡ store_error cause)
not_by_store cause.OutOfMemory rule is = cc
not_by_store cause.Io rule is = cc
not_by_store cause.Corrupt rule is = cc
not_by_store cause.Full rule is = cc
not_by_store cause.Broken rule is = cc
not_by_store cause.Unstorable rule is = cc

not_run : (old new : State) (sql : List ℕ) (params : Row) (e : Error) (rule : Constraint) → e ≡ SqliteFailure (ConstraintViolation rule) → IsNotRun old new sql params e → IsUnchanged old new
unfolding IsNotRun
not_run old new sql params e rule is (inl kept) = kept.1
not_run old new sql params e rule is (inr failed) = absurd (not_by_store failed.0 rule (sym is ∙ failed.1))

commanded : (old new : State) (sql : List ℕ) (c : Compiled) (params : Row) (e : Error) (rule : Constraint) → e ≡ SqliteFailure (ConstraintViolation rule) → RunsCommand old new sql c params (Err e) → IsUnchanged old new
commanded old new sql c params e rule is (inl kept) = kept.1
commanded old new sql c params e rule is (inr failed) = absurd (not_by_store failed.0 rule (sym is ∙ failed.1))

abbrev ShowsNone : State → State → Result ℕ Error → Type 0
ShowsNone old new r = (r ≡ Err ExecuteReturnedResults) × IsUnchanged old new

either_way : (old new : State) (A B : Type 0) (is : Bool) → (A → IsUnchanged old new) → (B → IsUnchanged old new) → MatchBool is A B → IsUnchanged old new
either_way old new A B true one two h = one h
either_way old new A B false one two h = two h

executed : (sql : List ℕ) (params : Row) (old new : State) (e : Error) (rule : Constraint) → e ≡ SqliteFailure (ConstraintViolation rule) → Executes sql params old new (Err e) → IsUnchanged old new
unfolding ExecutesIn
executed sql params old new e rule is (inl unread) = not_run old new sql params e rule is unread
executed sql params old new e rule is (inr ran) =
    let given = timed params ran.0.formats ran.1.now in
    either_way old new (ShowsNone old new (Err e)) (RunsCommand old new sql ran.0 given (Err e)) (shows_rows false ran.0) (λ h. h.1) (commanded old new sql ran.0 given e rule is) ran.2

pub violated : (sql : List ℕ) (params : Row) (old new : State) (r : Result ℕ Error) → ExecutesInside 0 sql params old new r → IsTrue old.in_transaction
    → IfErr r (λ e. (rule : Constraint) → e ≡ SqliteFailure (ConstraintViolation rule) → OnlyReads old new)
violated sql params old new (Ok count) ran inside = tt
violated sql params old new (Err e) ran inside = λ rule is.
    let same : IsUnchanged old new = elim ran [ inl it ↦ executed sql params old new e rule is it.0 | inr late ↦ late.2 ] in
    record { was_open = same.0.was_open; is_open = same.0.is_open; now_is = same.0.now_is; committed_is = same.0.committed_is; mode = same.0.mode ∙ inside }
