-- What only the contracts of private functions speak of; no public clause reaches it.
-- A change is noted; keys are taken out with their changes, and given to a layout.
use Rattle.std.specs.Prelude.{◌≡◌, ◌≢◌, ◌+◌, ℕ, List, [], ◌∷◌, ◌++◌, length, map, None}
use Rattle.std.specs.List.{AllZip}
use Rattle.std.specs.List.Sorted.{IsStableByKey, IsStrictlySortedBy}
use Rattle.std.specs.Ordering.{nat_cmp}
use Rattle.zeb_keys.specs.Order.{key_order}
use Rattle.zeb_keys.specs.declared.keys.Key.{Key}
use Rattle.zeb_register.specs.declared.registers.RecordChange.{RecordChange}
use Rattle.zeb_register.specs.UnitChanges.{NumbersRise}
use Rattle.zeb_change.specs.declared.key_notes.KeyNotes.{KeyNotes}
use Rattle.zeb_change.specs.declared.pending.Pending.{Pending}
use Rattle.zeb_change.specs.declared.pending.TakenKey.{TakenKey}
use Rattle.zeb_change.specs.NoteWords.{KeyChange}
use Rattle.zeb_change.specs.Noted.{AreNoted, IsNotedIn, notes_at, noted_count}
use Rattle.zeb_change.specs.PrivateNoteWords.{counts_in, places_in}

-- a change as a layout takes it
abbrev pub change_in : RecordChange → KeyChange
change_in change = record { sysno = change.sysno; old = change.old.now; new = change.new.now }

-- no change of the key is noted
abbrev pub IsNotNoted : Key → Pending → Type 0
IsNotNoted key pending = notes_at pending key ≡ None

-- one change more is noted, the last of its key
pub record IsNotedAlso (key : Key) (change : KeyChange) (old new : Pending) : Type 0 where
  pub here : (changes : List KeyChange) → AreNoted (notes_at old key) changes → AreNoted (notes_at new key) (changes ++ change ∷ [])
  pub others : (k : Key) → k ≢ key → notes_at new k ≡ notes_at old k
  pub count : noted_count new ≡ noted_count old + 1

-- each key is below the next one
abbrev pub DoKeysRise : List (Key × KeyNotes) → Type 0
DoKeysRise entries = IsStrictlySortedBy key_order (map (λ (entry : Key × KeyNotes). entry.0) entries)

-- the least key's changes are noted no longer
pub record IsTakenOut (key : Key) (notes : KeyNotes) (old new : Pending) : Type 0 where
  pub first : old.notes.entries ≡ (key, notes) ∷ new.notes.entries
  pub rising : DoKeysRise old.notes.entries

-- the key that was noted, and its changes
pub record IsTakenFrom (entry : Key × KeyNotes) (taken : TakenKey) : Type 0 where
  pub key : taken.key ≡ entry.0
  pub many : length taken.counts.items ≡ entry.1.count
  pub told : (changes : List KeyChange) → IsNotedIn entry.1 changes → (taken.counts.items ≡ map counts_in changes) × (taken.places.items ≡ places_in changes)

-- the changes of these keys, the least ones, are noted no longer
pub record AreTakenOut (taken : List TakenKey) (old new : Pending) : Type 0 where
  pub entries : List (Key × KeyNotes)
  pub first : old.notes.entries ≡ entries ++ new.notes.entries
  pub each : AllZip IsTakenFrom entries taken
  pub rising : taken ≢ [] → DoKeysRise old.notes.entries

-- the changes as a layout takes them, one for one
abbrev pub AreGivenAs : List KeyChange → List RecordChange → Type 0
AreGivenAs [] [] = Unit {0}
AreGivenAs [] (first ∷ given) = ⊥
AreGivenAs (change ∷ changes) [] = ⊥
AreGivenAs (change ∷ changes) (first ∷ given) =
    (first.sysno ≡ change.sysno) × (first.old.now ≡ change.old) × (first.new.now ≡ change.new) × AreGivenAs changes given

-- the number of a change's record
abbrev pub number_in : RecordChange → ℕ
number_in change = change.sysno

-- the changes as a layout takes them; those of one record stand in the order in which they were noted
pub record AreGivenInOrder (changes : List KeyChange) (given : List RecordChange) : Type 0 where
  pub noted : List RecordChange
  pub same : AreGivenAs changes noted
  pub stable : IsStableByKey number_in nat_cmp noted given

-- a taken key, and its changes as a layout takes them
pub record IsGivenFrom (taken : TakenKey) (key : Key) (given : List RecordChange) : Type 0 where
  pub same : key ≡ taken.key
  pub many : length given ≡ length taken.counts.items
  pub rising : NumbersRise given
  pub told : (changes : List KeyChange) → taken.counts.items ≡ map counts_in changes → taken.places.items ≡ places_in changes → AreGivenInOrder changes given
