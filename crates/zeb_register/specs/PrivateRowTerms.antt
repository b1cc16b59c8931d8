-- What only the contracts of private functions speak of; no public clause reaches it.
-- Terms as rows of `postings` show them. zeb_packed speaks of them too.
use Rattle.std.specs.Prelude.{◌≡◌, ◌≢◌, ◌⊎◌, ◌+◌, ◌<◌, ℕ, ℤ, pos, List, [], ◌∷◌, ◌++◌, length, IsUtf8, Option, Some, None, String, string_bytes}
use Rattle.std.specs.declared.alloc.Global.{Global}
use Rattle.sqlite.specs.declared.types.Value.TheVariants.{Int, Text}
use Rattle.sqlite.specs.Order.{Row, column}
use Rattle.sqlite.specs.Tree.{Trees}
use Rattle.sqlite.specs.State.{State}
use Rattle.sqlite_rules.specs.Lists.{Has}
use Rattle.zeb_blocks.specs.declared.postings.Posting.{Posting}
use Rattle.zeb_register.specs.declared.registers.TermCount.{TermCount}
use Rattle.zeb_register.specs.Calls.{OnlyReads}
use Rattle.zeb_register.specs.PlainUnits.{ShowsPosting}
use Rattle.zeb_register.specs.PrivateBetweenRows.{three_behind}
use Rattle.zeb_register.specs.Sql.{HasRow}
use Rattle.zeb_register.specs.Store.{IsStore, postings_tree, key_of}

-- the record of this number has a posting in the list
abbrev pub IsInRecord : List Posting → ℕ → Type 0
IsInRecord list sysno = (p : Posting) × Has list p × (p.sysno ≡ sysno)

-- a posting of the register under the term
abbrev pub HasTerm : Trees → ℤ → ℤ → ℤ → List ℕ → Type 0
HasTerm trees db idx reg term = (rest : Row) × HasRow trees postings_tree (key_of db idx reg term ++ rest)

-- at most one row, and it shows that of the terms that are P to which no other is nearer
abbrev pub ShowsNearest : (P : List ℕ → Type 0) → (IsNearer : List ℕ → List ℕ → Type 0) → List Row → Type 0
ShowsNearest P IsNearer [] = (term : List ℕ) → ¬ P term
ShowsNearest P IsNearer (row ∷ rows) = (rows ≡ []) × ((term : List ℕ) × (row ≡ Text term ∷ []) × P term × ((other : List ℕ) → P other → ¬ IsNearer other term))

-- rows are read inside a transaction, and nothing is changed
abbrev pub ReadsInside : (Trees → List Row → Type 0) → State → State → List Row → Type 0
ReadsInside P old new rows = OnlyReads old new × (IsStore old → P old.now.trees rows)

-- ---- terms as rows show them

-- a row of a term, a record's number and more
abbrev pub ShowsOccurrence : Row → List ℕ → ℕ → Type 0
ShowsOccurrence row term sysno = (column row 0 ≡ Text term) × (column row 1 ≡ Int (pos sysno))

-- a row of a term of UTF-8 and a posting
abbrev pub IsOccurrenceRow : Row → Type 0
IsOccurrenceRow row = (0 < length row) × (term : List ℕ) × (p : Posting) × (column row 0 ≡ Text term) × ShowsPosting (three_behind row) p × IsUtf8 term

abbrev pub SomeIsNoOccurrence : List Row → Type 0
SomeIsNoOccurrence rows = (row : Row) × Has rows row × ¬ IsOccurrenceRow row

-- one of the rows shows the term in the record of this number
abbrev pub IsShown : List Row → List ℕ → ℕ → Type 0
IsShown rows term sysno = (row : Row) × Has rows row × ShowsOccurrence row term sysno

abbrev pub term_with : List ℕ → ℕ → TermCount
term_with term records = record { term = term; records = records }

-- one occurrence more is counted: of the last term and its newest number, of the last term and another number, or of another term
abbrev pub IsCountedIn : ℕ → List ℕ → ℕ → List TermCount → List TermCount → Type 0
IsCountedIn newest term sysno old new =
    ((front : List TermCount) × (last : TermCount) × (old ≡ front ++ last ∷ []) × (last.term ≡ term)
    × (((sysno ≡ newest) × (new ≡ old)) ⊎ ((sysno ≢ newest) × (new ≡ front ++ term_with last.term (last.records + 1) ∷ []))))
    ⊎ (((front : List TermCount) (last : TermCount) → old ≡ front ++ last ∷ [] → last.term ≢ term) × (new ≡ old ++ term_with term 1 ∷ []))

-- the term that the first of the rows shows
abbrev pub ShowsTerm : List Row → Option (String Global) → Type 0
ShowsTerm rows None = rows ≡ []
ShowsTerm rows (Some term) = (row : Row) × (rest : List Row) × (rows ≡ row ∷ rest) × (column row 0 ≡ Text (string_bytes term))

abbrev pub IsTermRow : Row → Type 0
IsTermRow row = (0 < length row) × ((term : List ℕ) × (column row 0 ≡ Text term) × IsUtf8 term)

-- ---- of the terms that are P the one nearest to a text

-- it is found, or there is none
abbrev pub FindsNearest : (P : List ℕ → Type 0) → (IsNearer : List ℕ → List ℕ → Type 0) → Option (String Global) → Type 0
FindsNearest P IsNearer None = (term : List ℕ) → ¬ P term
FindsNearest P IsNearer (Some nearest) = P (string_bytes nearest) × ((other : List ℕ) → P other → ¬ IsNearer other (string_bytes nearest))

-- it isn't UTF-8
abbrev pub HidesText : (P : List ℕ → Type 0) → (IsNearer : List ℕ → List ℕ → Type 0) → Type 0
HidesText P IsNearer = (term : List ℕ) × P term × ((other : List ℕ) → P other → ¬ IsNearer other term) × ¬ IsUtf8 term
