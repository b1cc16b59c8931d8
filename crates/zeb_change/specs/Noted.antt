-- Changes of keys that are noted and not yet written: what the registers hold once they are.
use Rattle.std.specs.Prelude.{◌≡◌, ◌≢◌, ◌+◌, ℕ, ℤ, List, [], ◌∷◌, length, Option, Some, None, IsTrue, Result, Err, OnOk}
use Rattle.std.specs.Borrow.{MutBor}
use Rattle.std.specs.BTreeMap.{get}
use Rattle.std.specs.List.Sorted.{IsStrictlySortedBy}
use Rattle.sqlite.specs.declared.types.Value.TheVariants.{Int}
use Rattle.sqlite.specs.Held.{Held, state}
use Rattle.sqlite.specs.State.{HasCleanDisk, State, Survives}
use Rattle.sqlite.specs.Tree.{Trees}
use Rattle.sqlite_trees.specs.declared.store.Store.{Ghosts}
use Rattle.zeb_keys.specs.declared.keys.Key.{Key}
use Rattle.zeb_keys.specs.Order.{key_order}
use Rattle.zeb_register.specs.declared.faults.RegFault.{RegFault}
use Rattle.zeb_register.specs.declared.faults.RegFault.TheVariants.{Damaged}
use Rattle.zeb_register.specs.declared.registers.Work.{Work}
use Rattle.zeb_register.specs.Content.{ArePlacesOf, Content, IsListChanged, IsStorable, Posting, place_cmp}
use Rattle.zeb_register.specs.Formats.{Format, holds_in}
use Rattle.zeb_register.specs.Sound.{KeepsRowsBeside, keeps_malformed}
use Rattle.zeb_register.specs.Store.{IsStore, KeepsLists}
use Rattle.zeb_register.specs.Tallies.{works_for}
use Rattle.zeb_change.specs.declared.key_notes.KeyNotes.{KeyNotes}
use Rattle.zeb_change.specs.declared.pending.Pending.{Pending}
use Rattle.zeb_change.specs.Inside.{StaysInside}
use Rattle.zeb_change.specs.NoteWords.{KeyChange, words_of_changes}

-- ---- what is noted

-- the changes of a key, in the order in which they were noted
pub record IsNotedIn (notes : KeyNotes) (changes : List KeyChange) : Type 0 where
  pub count : notes.count ≡ length changes
  pub words : notes.words.items ≡ words_of_changes changes

abbrev pub AreNoted : Option KeyNotes → List KeyChange → Type 0
AreNoted None changes = changes ≡ []
AreNoted (Some notes) changes = IsNotedIn notes changes

-- what is noted of a key
abbrev pub notes_at : Pending → Key → Option KeyNotes
notes_at pending key = get key_order pending.notes key

abbrev pub changes_among : List (Key × KeyNotes) → ℕ
changes_among [] = 0
changes_among (entry ∷ entries) = entry.1.count + changes_among entries

-- how many changes are noted
abbrev pub noted_count : Pending → ℕ
noted_count pending = changes_among pending.notes.entries

-- no change is noted
abbrev pub IsNothingNoted : Pending → Type 0
IsNothingNoted pending = pending.notes.entries ≡ []

-- ---- what the changes make of contents

-- changes of one list in turn, each of which says what stood there, rising
abbrev pub AreTurns : List KeyChange → List Posting → List Posting → Type 0
AreTurns [] old new = new ≡ old
AreTurns (change ∷ changes) old new =
    (next : List Posting) × IsStrictlySortedBy place_cmp change.old × ArePlacesOf change.sysno change.old old
    × IsListChanged change.sysno change.new old next × AreTurns changes next new

-- the changes that are noted make the one list of the other
abbrev pub LeadsList : Option KeyNotes → List Posting → List Posting → Type 0
LeadsList notes old new = (changes : List KeyChange) × AreNoted notes changes × AreTurns changes old new

-- the noted changes make the content ahead of the one behind, in one database
pub record LeadsTo (db : ℤ) (pending : Pending) (behind ahead : Content) : Type 0 where
  pub each : (key : Key) → LeadsList (notes_at pending key) (behind db key) (ahead db key)
  pub others : (d : ℤ) (key : Key) → d ≢ db → ahead d key ≡ behind d key

-- the registers hold this content once the noted changes are written
pub record WillHold (format : Format) (trees : Trees) (db : ℤ) (pending : Pending) (ahead : Content) : Type 0 where
  pub behind : Content
  pub held : holds_in format trees behind
  pub storable : IsStorable behind
  pub leads : LeadsTo db pending behind ahead

-- ---- what is written of them

-- So many changes came up. Those that were written are counted, and the others are noted.
abbrev pub IsDueFor : Format → (row_work n : ℕ) → (old new : Trees) → (work worked : Work) → (before after : Pending) → Type 0
IsDueFor format row_work n old new work worked before after =
    (written : ℕ) × works_for format row_work written old new work worked × (written + noted_count after ≡ noted_count before + n)

-- Some of what is noted is written, and the rest is noted still: the registers will hold what they would have held.
abbrev pub IsSettled : (format : Format) → ℕ → ℤ → State → State → Pending → Pending → Work → Work → Type 0
IsSettled format row_work db old new before after work worked =
    IsStore new × KeepsLists old.now.trees new.now.trees
    × ((ahead : Content) → IsStorable ahead → WillHold format old.now.trees db before ahead
    → WillHold format new.now.trees db after ahead × IsDueFor format row_work 0 old.now.trees new.now.trees work worked before after)

-- each row of the registers that isn't the database's is as it was, and what is malformed, a row or in leaves a unit, is so still
pub record KeepsUnwritten (format : Format) (db : ℤ) (old new : Trees) : Type 0 where
  pub beside : KeepsRowsBeside (Int db ∷ []) old new
  pub malformed : keeps_malformed format old new

-- What a call does that writes noted changes. It tells damage only of registers that don't hold what the changes say stood there.
pub record Settles {T : Type 0} (format : Format) (row_work : ℕ) (db : ℤ) (old new : State) (before after : Pending) (work worked : Work) (result : Result T RegFault) : Type 0 where
  pub stays : HasCleanDisk new → IsTrue old.in_transaction → StaysInside old new result
  pub written : HasCleanDisk new → IsTrue old.in_transaction → IsStore old
      → OnOk result (IsSettled format row_work db old new before after work worked)
  pub honest : HasCleanDisk new → IsTrue old.in_transaction → IsStore old → result ≡ Err Damaged
      → (ahead : Content) → IsStorable ahead → ¬ WillHold format old.now.trees db before ahead
  pub crash : Survives old new (λ _. ⊥)

-- the same, of a connection that a transaction borrows, and goes on to borrow
pub record SettlesOf {S T : Type 0} (store : Ghosts S) (format : Format) (row_work : ℕ) (db : ℤ) (old new : MutBor (Held S)) (before after : Pending) (work worked : Work) (result : Result T RegFault) : Type 0 where
  pub same : new.ghost_name ≡ old.ghost_name
  pub does : Settles format row_work db (state store old.now) (state store new.now) before after work worked result
