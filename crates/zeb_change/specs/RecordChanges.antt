-- What a change does with one record, in rows, on any tables of a store: what it answers, and what becomes of the table of records, of the
-- notes and of the last number. This project's own rules.
use Rattle.std.specs.Prelude.{◌≡◌, ◌≢◌, ◌⊎◌, ◌+◌, ◌<◌, ◌≤◌, ℕ, ℤ, pos, IsTrue, List, [], ◌∷◌, Option, Some, None, Result, Ok, Err}
use Rattle.std.specs.Borrow.{MutBor}
use Rattle.std.specs.List.{AllByRecursion}
use Rattle.sqlite.specs.Effect.{Database, IsDatabase}
use Rattle.sqlite.specs.Held.{Held, state}
use Rattle.sqlite.specs.State.{HasCleanDisk, State}
use Rattle.sqlite.specs.Tree.{Trees}
use Rattle.sqlite_trees.specs.declared.store.Store.{Ghosts}
use Rattle.zeb_profile.specs.declared.directives.Directive.{Directive}
use Rattle.zeb_keys.specs.declared.keys.Occurrence.{Occurrence}
use Rattle.zeb_register.specs.declared.kept.Elder.{Elder}
use Rattle.zeb_register.specs.Kept.{IsElderOf}
use Rattle.zeb_register.specs.Sql.{IsKeyed, KeepsOthers, Loses, Replaces}
use Rattle.zeb_register.specs.Store.{HasNumber, IsStore, SharesRecord, record_row, records_tree}
use Rattle.zeb_register.specs.Tables.{store_schema}
use Rattle.zeb_change.specs.declared.pending.Pending.{Pending}
use Rattle.zeb_change.specs.declared.refusals.Refusal.{Refusal}
use Rattle.zeb_change.specs.declared.refusals.Refusal.TheVariants.{Damaged, DatabaseFull, Unknown}
use Rattle.zeb_change.specs.declared.settings.Kind.{Kind}
use Rattle.zeb_change.specs.declared.settings.Kind.TheVariants.{Update, Delete, Adelete}
use Rattle.zeb_change.specs.declared.settings.Limits.{Limits}
use Rattle.zeb_change.specs.declared.settings.Setting.{Setting}
use Rattle.zeb_change.specs.declared.tally.Fate.{Fate}
use Rattle.zeb_change.specs.declared.tally.Fate.TheVariants.{Inserted, Updated, Deleted, PassedOver}
use Rattle.zeb_change.specs.Elders.{KeepsWhole}
use Rattle.zeb_change.specs.NotedKeys.{NotesKeys}
use Rattle.zeb_change.specs.Occurs.{AreOccurrencesOf}
use Rattle.zeb_change.specs.Reasons.{IsAtFault}
use Rattle.zeb_change.specs.Refused.{IsFailing, why_of}
use Rattle.zeb_change.specs.Stored.{IsKept}

-- ---- how far a change is, and what calls do to that

-- the tables, the notes of keys that are not written yet, and the last number
pub record Point : Type 0 where
  pub tables : Database
  pub pending : Pending
  pub last : ℕ

-- this is said of a call inside a transaction on the tables of a store
abbrev pub OnRows : State → State → Type 0 → Type 0
OnRows old new Said = HasCleanDisk new → IsTrue old.in_transaction → IsStore old → Said

-- the same, of a connection that a transaction borrows
abbrev pub OnRowsOf : {S : Type 0} → Ghosts S → (old new : MutBor (Held S)) → Type 0 → Type 0
OnRowsOf store old new Said = OnRows (state store old.now) (state store new.now) Said

-- a call is done, or it fails so, or it is refused so
abbrev pub Answers : {T : Type 0} → (Fails Refused : Refusal → Type 0) → (Done : T → Type 0) → Result T Refusal → Type 0
Answers Fails Refused Done (Ok x) = Done x
Answers Fails Refused Done (Err refusal) = Fails refusal ⊎ Refused refusal

-- the store or the memory failed
abbrev pub TellsFailure : Refusal → Type 0
TellsFailure refusal = IsFailing (why_of refusal)

-- ---- rows

-- the tables are those of a store
pub record AreStores (db : Database) : Type 0 where
  pub is : db.schema ≡ store_schema
  pub sound : IsDatabase db
  pub keyed : AllByRecursion (λ t. IsKeyed (db.trees t.tree)) store_schema.tables

-- the table of records is written so, and no other
pub record WritesRecords (Rows : ℕ → Trees → Trees → Type 0) (old new : Database) : Type 0 where
  pub store : AreStores new
  pub rows : Rows records_tree old.trees new.trees
  pub others : KeepsOthers store_schema records_tree old.trees new.trees

-- ---- notes

-- the occurrences of the record with these bytes, none where there is no record
abbrev pub HasOccurrences : List Directive → Option (List ℕ) → List Occurrence → Type 0
HasOccurrences profile None occurrences = occurrences ≡ []
HasOccurrences profile (Some bytes) occurrences = AreOccurrencesOf profile bytes occurrences

-- the keys of the record with this number are noted, where its bytes become others
pub record NotesRecord (profile : List Directive) (sysno : ℕ) (elder newer : Option (List ℕ)) (old new : Pending) : Type 0 where
  pub were : List Occurrence
  pub are : List Occurrence
  pub had : HasOccurrences profile elder were
  pub has : HasOccurrences profile newer are
  pub keys : NotesKeys sysno were are old new

-- ---- one record, whose elder is known

-- the table of records is written so, and the record's keys are noted
pub record Moves (Rows : ℕ → Trees → Trees → Type 0) (profile : List Directive) (sysno : ℕ) (elder newer : Option (List ℕ)) (old new : Point) : Type 0 where
  pub rows : WritesRecords Rows old.tables new.tables
  pub noted : NotesRecord profile sysno elder newer old.pending new.pending

-- its row is put under this number, in place of those that have its number or its identifier
abbrev pub Puts : List Directive → ℤ → ℕ → (ident : List ℕ) → (elder : Option (List ℕ)) → (bytes : List ℕ) → Point → Point → Type 0
Puts profile db sysno ident elder bytes =
    Moves (Replaces (SharesRecord db (pos sysno) ident) (record_row db (pos sysno) ident bytes)) profile sysno elder (Some bytes)

-- the row with this number is taken out
abbrev pub Takes : List Directive → ℤ → ℕ → (elder : List ℕ) → Point → Point → Type 0
Takes profile db sysno elder = Moves (Loses (HasNumber db (pos sysno))) profile sysno (Some elder) None

-- these bytes are a record of ISO 2709 in which the profile finds the identifier
abbrev pub IsSound : List Directive → (ident bytes : List ℕ) → Type 0
IsSound profile ident bytes = IsKept profile (record { sysno = 0; ident = ident; bytes = bytes })

-- it is kept under the number after the last
abbrev pub IsInserted : Setting → ℤ → (ident bytes : List ℕ) → Point → Point → Fate → Type 0
IsInserted setting db ident bytes old new fate =
    (fate ≡ Inserted) × (old.last < setting.limits.numbers) × (new.last ≡ old.last + 1)
    × Puts setting.profile.now db (old.last + 1) ident None bytes old new

-- it takes the place of its elder, which was sound; where that has the same bytes, nothing changes
abbrev pub IsSupplanted : Setting → ℤ → (ident bytes : List ℕ) → Elder → Point → Point → Fate → Type 0
IsSupplanted setting db ident bytes elder old new fate =
    ((elder.bytes.items ≡ bytes) × (fate ≡ Updated) × (new ≡ old))
    ⊎ ((elder.bytes.items ≢ bytes) × (fate ≡ Updated) × (new.last ≡ old.last) × IsSound setting.profile.now ident elder.bytes.items
    × Puts setting.profile.now db elder.sysno ident (Some elder.bytes.items) bytes old new)

-- its elder, which was sound, is kept no longer
abbrev pub IsWithdrawn : Setting → ℤ → (ident : List ℕ) → Elder → Point → Point → Fate → Type 0
IsWithdrawn setting db ident elder old new fate =
    (fate ≡ Deleted) × (new.last ≡ old.last) × IsSound setting.profile.now ident elder.bytes.items
    × Takes setting.profile.now db elder.sysno elder.bytes.items old new

-- the limits leave no number
abbrev pub IsFull : Limits → (last : ℕ) → Refusal → Type 0
IsFull limits last refusal = (refusal ≡ DatabaseFull) × (limits.numbers ≤ last)

-- its elder isn't sound
abbrev pub IsUnsound : List Directive → (ident : List ℕ) → Elder → Refusal → Type 0
IsUnsound profile ident elder refusal = (refusal ≡ Damaged) × ¬ IsSound profile ident elder.bytes.items

-- what becomes of a sound record that is accepted: an update puts it in its elder's place, or without one under the number after the
-- last; a delete and an adelete take its elder out; and without one an adelete passes over it, and no delete is accepted
abbrev pub Turns : Setting → ℤ → (ident bytes : List ℕ) → Kind → Option Elder → Point → Point → Fate → Type 0
Turns setting db ident bytes Update None old new fate = IsInserted setting db ident bytes old new fate
Turns setting db ident bytes Update (Some elder) old new fate = IsSupplanted setting db ident bytes elder old new fate
Turns setting db ident bytes Delete (Some elder) old new fate = IsWithdrawn setting db ident elder old new fate
Turns setting db ident bytes Delete None old new fate = ⊥
Turns setting db ident bytes Adelete (Some elder) old new fate = IsWithdrawn setting db ident elder old new fate
Turns setting db ident bytes Adelete None old new fate = (fate ≡ PassedOver) × (new ≡ old)

-- why a sound record is refused: its elder isn't sound; or it has none, and the limits leave an update no number, or a delete doesn't
-- know its identifier; an adelete without one is never refused so
abbrev pub RefusesTurn : Setting → (file nth : ℕ) → (ident : List ℕ) → Option Elder → Kind → (last : ℕ) → Refusal → Type 0
RefusesTurn setting file nth ident (Some elder) kind last refusal = IsUnsound setting.profile.now ident elder refusal
RefusesTurn setting file nth ident None Update last refusal = IsFull setting.limits last refusal
RefusesTurn setting file nth ident None Delete last refusal = refusal ≡ Unknown file nth
RefusesTurn setting file nth ident None Adelete last refusal = ⊥

-- ---- one record of a file

-- the record is sound, and this becomes of it and of its elder, the record that the database keeps under its identifier
pub record Accepts (setting : Setting) (db : ℤ) (bytes : List ℕ) (old new : Point) (fate : Fate) : Type 0 where
  pub ident : List ℕ
  pub sound : IsSound setting.profile.now ident bytes
  pub elder : Option Elder
  pub there : IsElderOf old.tables.trees db ident elder
  pub done : Turns setting db ident bytes setting.kind elder old new fate

-- The record is sound, and is refused so: as damage where what the database keeps under its identifier isn't whole, or where it keeps nothing.
pub record RefusesSound (setting : Setting) (db : ℤ) (file nth : ℕ) (bytes : List ℕ) (old : Point) (refusal : Refusal) : Type 0 where
  pub ident : List ℕ
  pub sound : IsSound setting.profile.now ident bytes
  pub why : ((refusal ≡ Damaged) × ¬ KeepsWhole setting.profile.now old.tables.trees db ident)
      ⊎ (IsElderOf old.tables.trees db ident None × RefusesTurn setting file nth ident None setting.kind old.last refusal)

-- what a change does with the nth record of a file
abbrev pub ChangesRecord : Setting → ℤ → (file nth : ℕ) → (bytes : List ℕ) → Point → Point → Result Fate Refusal → Type 0
ChangesRecord setting db file nth bytes old new =
    Answers TellsFailure
    (λ refusal. IsAtFault setting.profile.now file nth (bytes ∷ []) None refusal ⊎ RefusesSound setting db file nth bytes old refusal)
    (Accepts setting db bytes old new)
