-- What plain rows say, unit by unit, on any rows: of a key in one record its places, a row for each, and of a key how many records have it.
use Rattle.std.specs.Prelude.{◌≡◌, ◌++◌, ℕ, ℤ, pos, List, []}
use Rattle.std.specs.List.Sorted.{IsStrictlySortedBy}
use Rattle.sqlite.specs.declared.types.Value.TheVariants.{Int}
use Rattle.sqlite.specs.Order.{Row, column}
use Rattle.sqlite.specs.Tree.{Trees}
use Rattle.sqlite_rules.specs.Lists.{Has}
use Rattle.zeb_blocks.specs.declared.postings.Posting.{Posting}
use Rattle.zeb_keys.specs.declared.keys.Key.{Key}
use Rattle.zeb_register.specs.declared.registers.Place.{Place}
use Rattle.zeb_register.specs.Content.{place_cmp, posting_at}
use Rattle.zeb_register.specs.Occurring.{IsCount}
use Rattle.zeb_register.specs.PlainRows.{key_row, posting_row}
use Rattle.zeb_register.specs.Sql.{HasRow}
use Rattle.zeb_register.specs.Store.{IsRest, blocks_tree, dict_tree, postings_tree}

-- a row of the key's postings, shown by its columns behind the key
abbrev pub IsUnderKey : Trees → ℤ → Key → Row → Type 0
IsUnderKey trees db key = IsRest postings_tree (key_row db key) trees

-- a row of the key's postings has this record's number
abbrev pub IsUnderNumber : Trees → ℤ → Key → ℕ → Row → Type 0
IsUnderNumber trees db key sysno row = IsUnderKey trees db key row × (column row 0 ≡ Int (pos sysno))

-- the row shows the posting
abbrev pub ShowsPosting : Row → Posting → Type 0
ShowsPosting row p = (column row 0 ≡ Int (pos p.sysno)) × (column row 1 ≡ Int (pos p.seq)) × (column row 2 ≡ Int (pos p.pos))

-- a row shows no posting
abbrev pub ShowsNone : Row → Type 0
ShowsNone row = (p : Posting) → ¬ ShowsPosting row p

-- ---- a unit: a database, a key and a record's number

-- in plain rows a key has just these places in a record, rising, a row for each
pub record RowsRead (trees : Trees) (db : ℤ) (key : Key) (sysno : ℕ) (places : List Place) : Type 0 where
  pub rising : IsStrictlySortedBy place_cmp places
  pub shown : (row : Row) → IsUnderNumber trees db key sysno row → (place : Place) × Has places place × ShowsPosting row (posting_at sysno place)
  pub there : (place : Place) → Has places place → (row : Row) × IsUnderKey trees db key row × ShowsPosting row (posting_at sysno place)

-- a row of the key in a record shows no posting
abbrev pub IsRowMalformed : Trees → ℤ → Key → ℕ → Type 0
IsRowMalformed trees db key sysno = (row : Row) × IsUnderNumber trees db key sysno row × ShowsNone row

-- a row of the key shows no posting; where it is of no record, it is so too
abbrev pub HasShownNone : Trees → ℤ → Key → Type 0
HasShownNone trees db key = (row : Row) × IsUnderKey trees db key row × ShowsNone row

-- each row of the key shows a posting
abbrev pub AreAllShown : Trees → ℤ → Key → Type 0
AreAllShown trees db key = (row : Row) → IsUnderKey trees db key row → (p : Posting) × ShowsPosting row p

-- ---- how many records have a key: no row keeps it, its postings tell it

-- a record has a row of the key
abbrev pub HasRowIn : Trees → ℤ → Key → ℕ → Type 0
HasRowIn trees db key sysno = (row : Row) × IsUnderNumber trees db key sysno row

-- so many records have a row of the key, and each row of the key shows a posting
pub record RowsCount (trees : Trees) (db : ℤ) (key : Key) (records : ℕ) : Type 0 where
  pub count : IsCount (HasRowIn trees db key) records
  pub shown : AreAllShown trees db key

-- ---- each row of the registers is that of a posting

-- each row of `postings` is that of a posting, and `blocks` and `dict` have none
pub record AreRowsAlone (trees : Trees) : Type 0 where
  pub postings : (row : Row) → HasRow trees postings_tree row → (db : ℤ) × (key : Key) × (p : Posting) × (row ≡ key_row db key ++ posting_row p)
  pub alone : (trees blocks_tree ≡ []) × (trees dict_tree ≡ [])
