-- The tables beside what is expected of them: three texts, and databases with their records and postings.
use Rattle.std.specs.Prelude.{◌≡◌, ◌↔◌, ◌⊎◌, ℕ, ℤ, pos, List, codes, string_bytes}
use Rattle.std.specs.declared.cmp.Ordering.{Ordering}
use Rattle.std.specs.Ordering.{nat_cmp, ordering_then}
use Rattle.std.specs.Cmp.Lexicographic.{slice_cmp}
use Rattle.std.specs.List.Sorted.{IsStrictlySortedBy}
use Rattle.sqlite.specs.Tree.{Trees}
use Rattle.sqlite_rules.specs.Lists.{Has}
use Rattle.zeb_keys.specs.declared.keys.Key.{Key}
use Rattle.zeb_keys.specs.Order.{key_order}
use Rattle.zeb_register.specs.declared.kept.Record.{Record}
use Rattle.zeb_register.specs.declared.expected.KeyPosting.{KeyPosting}
use Rattle.zeb_register.specs.declared.expected.ExpectedDatabase.{ExpectedDatabase}
use Rattle.zeb_register.specs.declared.expected.Expected.{Expected}
use Rattle.zeb_register.specs.Content.{Content, Posting, posting_cmp}
use Rattle.zeb_register.specs.Formats.{Format, holds_in}
use Rattle.zeb_register.specs.Sql.{HasRow}
use Rattle.zeb_register.specs.Store.{HasDatabase, HasRecord, entry, meta_tree}

-- ---- order

abbrev pub name_order : ExpectedDatabase → ExpectedDatabase → Ordering
name_order a b = slice_cmp nat_cmp (string_bytes a.name) (string_bytes b.name)

abbrev pub number_order : Record → Record → Ordering
number_order a b = nat_cmp a.sysno b.sysno

-- by key, then system number and place
abbrev pub key_posting_order : KeyPosting → KeyPosting → Ordering
key_posting_order a b = ordering_then (key_order a.key b.key) (posting_cmp a.posting b.posting)

-- what is expected has databases by rising names, and in each records by rising numbers, and postings by rising keys, those of one key by rising
-- number and place
pub record IsOrdered (expected : Expected) : Type 0 where
  pub names : IsStrictlySortedBy name_order expected.databases.items
  pub records : (database : ExpectedDatabase) → Has expected.databases.items database → IsStrictlySortedBy number_order database.records.items
  pub postings : (database : ExpectedDatabase) → Has expected.databases.items database → IsStrictlySortedBy key_posting_order database.postings.items

-- ---- what is expected of each table

-- the text that is expected under the name
abbrev pub IsTextOf : Expected → List ℕ → List ℕ → Type 0
IsTextOf expected name value =
    ((name ≡ codes "version") × (value ≡ string_bytes expected.version))
    ⊎ (((name ≡ codes "profile") × (value ≡ string_bytes expected.profile)) ⊎ ((name ≡ codes "identifier") × (value ≡ string_bytes expected.identifier)))

-- the database is expected, under the id that its name has
abbrev pub IsExpectedAs : Expected → (List ℕ → ℤ) → ℤ → ExpectedDatabase → Type 0
IsExpectedAs expected id_of id database = Has expected.databases.items database × (id ≡ id_of (string_bytes database.name))

-- a database of this name and this last number is expected under the id
abbrev pub IsDatabaseExpected : Expected → (List ℕ → ℤ) → ℤ → List ℕ → ℤ → Type 0
IsDatabaseExpected expected id_of id name last =
    (database : ExpectedDatabase) × IsExpectedAs expected id_of id database × (name ≡ string_bytes database.name) × (last ≡ pos database.last)

-- a record is expected in the database with the id
abbrev pub IsRecordExpected : Expected → (List ℕ → ℤ) → ℤ → ℤ → List ℕ → List ℕ → Type 0
IsRecordExpected expected id_of id sysno ident bytes =
    (database : ExpectedDatabase) × (kept : Record) × IsExpectedAs expected id_of id database × Has database.records.items kept
    × (sysno ≡ pos kept.sysno) × (ident ≡ string_bytes kept.ident) × (bytes ≡ kept.bytes.items)

-- a posting is expected under the key in the database with the id
abbrev pub IsPostingExpected : Expected → (List ℕ → ℤ) → ℤ → Key → Posting → Type 0
IsPostingExpected expected id_of id key p =
    (database : ExpectedDatabase) × IsExpectedAs expected id_of id database × Has database.postings.items (record { key = key; posting = p })

-- The tables hold what is expected, in this format, and nothing else: the three texts; the databases, each under an id of its own; their
-- records; and in the registers their postings.
pub record AreExpected (format : Format) (trees : Trees) (expected : Expected) : Type 0 where
  pub texts : (name value : List ℕ) → HasRow trees meta_tree (entry name value) ↔ IsTextOf expected name value
  pub id_of : List ℕ → ℤ
  pub distinct : (one two : ExpectedDatabase) → Has expected.databases.items one → Has expected.databases.items two
      → id_of (string_bytes one.name) ≡ id_of (string_bytes two.name) → string_bytes one.name ≡ string_bytes two.name
  pub listed : (id : ℤ) (name : List ℕ) (last : ℤ) → HasDatabase trees id name last ↔ IsDatabaseExpected expected id_of id name last
  pub kept : (id sysno : ℤ) (ident bytes : List ℕ) → HasRecord trees id sysno ident bytes ↔ IsRecordExpected expected id_of id sysno ident bytes
  pub content : Content
  pub held : holds_in format trees content
  pub posted : (id : ℤ) (key : Key) (p : Posting) → Has (content id key) p ↔ IsPostingExpected expected id_of id key p
