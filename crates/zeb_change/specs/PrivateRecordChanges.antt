-- What only the contracts of private functions speak of; no public clause reaches it.
-- What the parts of a change do with one record, and when they fail.
use Rattle.std.specs.Prelude.{◌≡◌, ◌+◌, ◌<◌, ◌≤◌, ℕ, ℤ, List, Option, Some, None, Result}
use Rattle.sqlite.specs.State.{State}
use Rattle.zeb_marc.specs.Records.{first_fault}
use Rattle.zeb_register.specs.declared.kept.Elder.{Elder}
use Rattle.zeb_change.specs.declared.pending.Pending.{Pending}
use Rattle.zeb_change.specs.declared.records.Progress.{Progress}
use Rattle.zeb_change.specs.declared.refusals.Refusal.{Refusal}
use Rattle.zeb_change.specs.declared.settings.Kind.{Kind}
use Rattle.zeb_change.specs.declared.settings.Kind.TheVariants.{Update, Delete, Adelete}
use Rattle.zeb_change.specs.declared.settings.Limits.{Limits}
use Rattle.zeb_change.specs.declared.settings.Setting.{Setting}
use Rattle.zeb_change.specs.declared.tally.Fate.{Fate}
use Rattle.zeb_change.specs.RecordChanges.{Point, Answers, TellsFailure, IsInserted, IsSupplanted, IsWithdrawn, IsFull, IsUnsound, Turns, RefusesTurn}

-- ---- how far a change is, and what calls do to that

-- the same of a connection
abbrev pub point : State → Pending → ℕ → Point
point s pending last = record { tables = s.now; pending = pending; last = last }

-- the database stays, the last number rises by one at most and not above the limit, and the counts of work stay
pub record Steps (limits : Limits) (old new : Progress) : Type 0 where
  pub database : new.database ≡ old.database
  pub work : new.work ≡ old.work
  pub next : new.last ≤ old.last + 1
  pub most : (most : ℕ) → old.last ≤ most → limits.numbers ≤ most → new.last ≤ most

-- ---- one record, whose elder is known

-- the limits leave a number, and the store or the memory failed
abbrev pub FailsFree : Limits → (last : ℕ) → Refusal → Type 0
FailsFree limits last refusal = (last < limits.numbers) × TellsFailure refusal

-- the elder's bytes are a record, and the store or the memory failed: of other bytes it is told that they are damaged
abbrev pub FailsWhole : Elder → Refusal → Type 0
FailsWhole elder refusal = (first_fault elder.bytes.items ≡ None) × TellsFailure refusal

-- what a call does that keeps a record without an elder, with one, or that withdraws its elder
abbrev pub Inserts : Setting → ℤ → (ident bytes : List ℕ) → Point → Point → Result Fate Refusal → Type 0
Inserts setting db ident bytes old new =
    Answers (FailsFree setting.limits old.last) (IsFull setting.limits old.last) (IsInserted setting db ident bytes old new)

abbrev pub Supplants : Setting → ℤ → (ident bytes : List ℕ) → Elder → Point → Point → Result Fate Refusal → Type 0
Supplants setting db ident bytes elder old new =
    Answers (FailsWhole elder) (IsUnsound setting.profile.now ident elder) (IsSupplanted setting db ident bytes elder old new)

abbrev pub Withdraws : Setting → ℤ → (ident : List ℕ) → Elder → Point → Point → Result Fate Refusal → Type 0
Withdraws setting db ident elder old new =
    Answers (FailsWhole elder) (IsUnsound setting.profile.now ident elder) (IsWithdrawn setting db ident elder old new)

-- The store or the memory failed. Where the elder's bytes are no record, or the kind and the limits leave nothing to be done, neither is told.
abbrev pub FailsTurn : Setting → Option Elder → Kind → (last : ℕ) → Refusal → Type 0
FailsTurn setting (Some elder) kind last refusal = FailsWhole elder refusal
FailsTurn setting None Update last refusal = FailsFree setting.limits last refusal
FailsTurn setting None Delete last refusal = ⊥
FailsTurn setting None Adelete last refusal = ⊥

-- what a change of this kind does with the nth record of a file, which is sound, beside this elder
abbrev pub TurnsRecord : Setting → ℤ → (file nth : ℕ) → (ident bytes : List ℕ) → Kind → Option Elder → Point → Point → Result Fate Refusal → Type 0
TurnsRecord setting db file nth ident bytes kind elder old new =
    Answers (FailsTurn setting elder kind old.last) (RefusesTurn setting file nth ident elder kind old.last)
    (Turns setting db ident bytes kind elder old new)
