-- What only the contracts of private functions speak of; no public clause reaches it.
-- What is read of an answer of at most one row.
use Rattle.std.specs.Prelude.{◌≡◌, ◌<◌, ℕ, ℤ, pos, List, [], ◌∷◌, length, IsUtf8, Option, Some, None, String, string_bytes}
use Rattle.std.specs.declared.alloc.Global.{Global}
use Rattle.sqlite.specs.declared.types.Value.TheVariants.{Int, Text, Blob}
use Rattle.sqlite.specs.Order.{Row, column}
use Rattle.sqlite.specs.Values.{IsInt}
use Rattle.sqlite_rules.specs.Lists.{Has}
use Rattle.zeb_register.specs.declared.catalog.Database.{Database}
use Rattle.zeb_register.specs.declared.catalog.DatabaseId.{DatabaseId}
use Rattle.zeb_register.specs.declared.kept.Elder.{Elder}
use Rattle.zeb_register.specs.declared.kept.Record.{Record}
use Rattle.zeb_register.specs.Kept.{record_shown}
use Rattle.zeb_register.specs.PrivateRowPlaces.{first_three}

-- the first row shows what is found, or there is no row
abbrev pub ShowsFound : {A : Type 0} → (Row → A → Type 0) → List Row → Option A → Type 0
ShowsFound Shows rows None = rows ≡ []
ShowsFound Shows rows (Some found) = (row : Row) × (rest : List Row) × (rows ≡ row ∷ rest) × Shows row found

-- each row is as it should be
abbrev pub AreShown : (Row → Type 0) → List Row → Type 0
AreShown Shown rows = (row : Row) → Has rows row → Shown row

abbrev pub ShowsElder : Row → Elder → Type 0
ShowsElder row elder = (column row 0 ≡ Int (pos elder.sysno)) × (column row 1 ≡ Blob elder.bytes.items)

abbrev pub IsElderShown : Row → Type 0
IsElderShown row = (n : ℕ) × (bytes : List ℕ) × (row ≡ Int (pos n) ∷ Blob bytes ∷ [])

abbrev pub ShowsText : Row → String Global → Type 0
ShowsText row text = column row 0 ≡ Text (string_bytes text)

abbrev pub IsTextShown : Row → Type 0
IsTextShown row = (0 < length row) × ((text : List ℕ) × (column row 0 ≡ Text text) × IsUtf8 text)

abbrev pub ShowsRecord : Row → Record → Type 0
ShowsRecord row record' = record_shown record' ≡ first_three row

abbrev pub ShowsDatabase : Row → Database → Type 0
ShowsDatabase row database = (column row 0 ≡ Int database.id.0) × (column row 1 ≡ Int (pos database.last))

-- the row of a database whose last number is 0 or more
abbrev pub IsCountedRow : Row → Type 0
IsCountedRow row = (id : ℤ) × (n : ℕ) × (row ≡ Int id ∷ Int (pos n) ∷ [])

abbrev pub ShowsId : Row → DatabaseId → Type 0
ShowsId row id = column row 0 ≡ Int id.0

abbrev pub BeginsWithId : Row → Type 0
BeginsWithId row = IsInt (column row 0)
