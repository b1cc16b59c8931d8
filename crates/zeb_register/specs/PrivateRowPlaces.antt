-- What only the contracts of private functions speak of; no public clause reaches it.
-- The places of one record as rows of `postings` show them.
use Rattle.std.specs.Prelude.{◌≡◌, ◌↔◌, ◌⊎◌, ℕ, ℤ, pos, List, [], ◌∷◌, ◌++◌}
use Rattle.sqlite.specs.declared.types.Value.TheVariants.{Int}
use Rattle.sqlite.specs.Order.{Row, column}
use Rattle.sqlite.specs.Tree.{Trees}
use Rattle.sqlite.specs.State.{State}
use Rattle.sqlite_rules.specs.Lists.{Has}
use Rattle.zeb_keys.specs.declared.keys.Key.{Key}
use Rattle.zeb_keys.specs.Registers.{register_code}
use Rattle.zeb_register.specs.declared.registers.Place.{Place}
use Rattle.zeb_register.specs.Sql.{HasRow, Loses}
use Rattle.zeb_register.specs.Store.{IsStore, IsOfDatabase, postings_tree, blocks_tree, dict_tree, KeepsLists}
use Rattle.zeb_register.specs.PrivateKeyColumns.{IsNumberedRow}
use Rattle.zeb_register.specs.Content.{posting_at}
use Rattle.zeb_register.specs.PlainRows.{key_row, posting_row}
use Rattle.zeb_register.specs.PlainUnits.{ShowsNone}

-- the first columns of a row
abbrev pub first_two : Row → Row
first_two row = column row 0 ∷ column row 1 ∷ []

abbrev pub first_three : Row → Row
first_three row = column row 0 ∷ column row 1 ∷ column row 2 ∷ []

-- one of the rows shows no posting
abbrev pub SomeShowsNone : List Row → Type 0
SomeShowsNone rows = (row : Row) × Has rows row × ShowsNone row

-- ---- one record's places

abbrev pub place_row : Place → Row
place_row place = Int (pos place.seq) ∷ Int (pos place.pos) ∷ []

-- a row of two numbers of 0 or more
abbrev pub IsTwoNumbers : Row → Type 0
IsTwoNumbers row = (a : ℕ) × (b : ℕ) × (row ≡ Int (pos a) ∷ Int (pos b) ∷ [])

abbrev pub posting_columns : ℤ → Key → ℕ → Place → Row
posting_columns db key sysno place = key_row db key ++ posting_row (posting_at sysno place)

-- a posting of the key in the record
abbrev pub IsPlaceIn : ℤ → Key → ℕ → Row → Type 0
IsPlaceIn db key sysno = IsNumberedRow db (pos key.index) (pos (register_code key.register)) key.term (pos sysno)

-- the table has these postings too
abbrev pub GainsPlaces : ℤ → Key → ℕ → List Place → Trees → Trees → Type 0
GainsPlaces db key sysno places old new =
    (row : Row) → HasRow new postings_tree row ↔ (HasRow old postings_tree row ⊎ ((place : Place) × Has places place × (row ≡ posting_columns db key sysno place)))

-- each table but `postings` is as it was
abbrev pub KeepsBesidePostings : Trees → Trees → Type 0
KeepsBesidePostings old new = KeepsLists old new × (new 9 ≡ old 9) × (new 11 ≡ old 11)

-- these postings are put, and nothing else is changed
pub record Puts (db : ℤ) (key : Key) (sysno : ℕ) (places : List Place) (old new : State) : Type 0 where
  pub store : IsStore new
  pub rows : GainsPlaces db key sysno places old.now.trees new.now.trees
  pub others : KeepsBesidePostings old.now.trees new.now.trees

-- the rows of the database are taken out of the tables of the registers, and the lists are as they were
pub record DropsRegisters (db : ℤ) (old new : State) : Type 0 where
  pub store : IsStore new
  pub lists : KeepsLists old.now.trees new.now.trees
  pub postings : Loses (IsOfDatabase db) postings_tree old.now.trees new.now.trees
  pub blocks : Loses (IsOfDatabase db) blocks_tree old.now.trees new.now.trees
  pub dict : Loses (IsOfDatabase db) dict_tree old.now.trees new.now.trees
