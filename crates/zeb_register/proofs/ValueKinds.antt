-- Which type each value of a row has, as a number, and which conditions compare values of one type.
use Rattle.zeb_register.proofs.Cited.{Kind, is_null, Row, column, Schema, Term, lit, col, Value, Null, Int, Text, works, shares, is_key, kind_of, kind_code, agree, Column, Enforced, zero, suc, ◌≡◌, ◌⊎◌, None, Some, slice_get, ℕ, ◌+◌, Bool, true, false, not, ◌&&◌, ◌||◌, ◌==◌, if◌then◌else◌, List, [], ◌∷◌, Option, list_all, list_any, AllByRecursion, nat_lt, slice_index_or, plain, Table}
use Rattle.sqlite.specs.Kind.TheVariants as kind
use Rattle.zeb_register.proofs.StatementForms.{Condition, equals, at_least, less_than}

-- 0 NULL, 1 an integer, 2 a float, 3 a text, 4 a blob
abbrev pub code : Value → ℕ
code v = kind_code (kind_of v)

abbrev pub codes_from : Option ℕ → ℕ → List Column → List ℕ
codes_from key at [] = []
codes_from key at (c ∷ cs) = (if is_key key at then 0 else kind_code c.kind) ∷ codes_from key (at + 1) cs

-- the codes of each row of the table
abbrev pub codes_of : Table → List ℕ
codes_of table = 1 ∷ codes_from table.key 0 table.columns

abbrev pub is_empty : {X : Type 0} → List X → Bool
is_empty [] = true
is_empty (x ∷ xs) = false

-- each column is STRICT, of a type and NOT NULL, or it is the rowid and not the last
abbrev pub are_whole : Option ℕ → ℕ → List Column → Bool
are_whole key at [] = true
are_whole key at (c ∷ cs) = (if is_key key at then not (is_empty cs) else c.is_strict && c.not_null && not (kind_code c.kind == 0)) && are_whole key (at + 1) cs

abbrev pub is_whole : Table → Bool
is_whole table = are_whole table.key 0 table.columns

abbrev pub is_exact : ℕ → Bool
is_exact n = (n == 1) || (n == 3) || (n == 4)

abbrev pub fits : List ℕ → Row → Condition → Bool
fits codes params (equals place from) = is_exact (slice_index_or codes place 0) && (slice_index_or codes place 0 == code (column params from))
fits codes params (at_least place from) = is_exact (slice_index_or codes place 0) && (slice_index_or codes place 0 == code (column params from))
fits codes params (less_than place from) = is_exact (slice_index_or codes place 0) && (slice_index_or codes place 0 == code (column params from))

abbrev pub are_fit : Table → Row → List Condition → Bool
are_fit table params = list_all (fits (codes_of table) params)

-- the table is at this place of the schema, no foreign key acts on its rows, it has no AUTOINCREMENT or default that reads the time, and the values of each row are of known types
pub record IsPlainTable (schema : Schema) (at : ℕ) (table : Table) : Type 0 where
  pub there : slice_get schema.tables at ≡ Some table
  pub whole : is_whole table ≡ true
  pub free : (olds news : List Row) → works schema Enforced 0 table.tree olds news ≡ []
  pub uncounted : table.is_counted ≡ false
  pub unstamped : table.stamps.terms ≡ []

-- the column stores the value as it is
abbrev pub keeps : Kind → Value → Bool
keeps kind.Integer Null = true
keeps kind.Integer (Int n) = true
keeps kind.Text Null = true
keeps kind.Text (Text t) = true
keeps kind.Blob v = true
keeps kind.Any v = true
keeps k v = false

abbrev pub keeps_all : List Column → Row → Bool
keeps_all [] vs = true
keeps_all (c ∷ cs) [] = true
keeps_all (c ∷ cs) (v ∷ vs) = keeps c.kind v && keeps_all cs vs

-- NULL is given to no column that is NOT NULL, but for the rowid
abbrev pub fills : Option ℕ → ℕ → List Column → Row → Bool
fills key at [] vs = true
fills key at (c ∷ cs) [] = true
fills key at (c ∷ cs) (v ∷ vs) = (is_key key at || not (is_null v)) && fills key (at + 1) cs vs

-- the row of a table is stored as it is given
abbrev pub is_stored : Table → Row → Bool
is_stored table columns = keeps_all table.columns columns && fills table.key 0 table.columns columns

-- the two rows have one key, of these keys
abbrev pub SharesKey : List (List ℕ) → Row → Row → Type 0
SharesKey [] r s = ⊥
SharesKey (key ∷ keys) r s = AllByRecursion (λ p. column r p ≡ column s p) key ⊎ SharesKey keys r s

abbrev pub are_comparable : List ℕ → List ℕ → List ℕ → Bool
are_comparable codes others = list_all (λ p. is_exact (slice_index_or codes p 0) && (slice_index_or codes p 0 == slice_index_or others p 0))

-- these are the places of the unique keys of the table
pub record HasKeys (schema : Schema) (table : Table) (keys : List (List ℕ)) : Type 0 where
  pub are : (r new : Row) → list_any (shares None table new r) schema.indexes ≡ list_any (λ key. agree plain key r key new) keys
  pub comparable : list_all (are_comparable (codes_of table) (codes_of table)) keys ≡ true

abbrev pub is_at : ℕ → Condition → Bool
is_at p (equals place from) = place == p
is_at p (at_least place from) = false
is_at p (less_than place from) = false

-- each place of the key is told by a condition or is in ORDER BY, so no two rows of an answer tie
abbrev pub covers : List Condition → List ℕ → List ℕ → Bool
covers wheres order = list_all (λ p. list_any (is_at p) wheres || list_any (λ q. q == p) order)

-- the type of a term's value over a row of these types, where it is a literal, a parameter or a column of the row
abbrev pub term_code : List ℕ → Row → Term → ℕ
term_code codes params (lit v) = code v
term_code codes params (col zero at) = code (column params at)
term_code codes params (col (suc slot) at) = slice_index_or codes at 0
term_code codes params t = 2

abbrev pub is_plain_term : Term → Bool
is_plain_term (lit v) = true
is_plain_term (col slot at) = nat_lt slot 2
is_plain_term t = false

abbrev pub holds_code : ℕ → ℕ → Bool
holds_code kind n = not (kind == 2) && ((n == 0) || (is_exact n && (n == kind)))

-- the columns store what the terms give as it is
abbrev pub store_all : List ℕ → Row → List Column → List Term → Bool
store_all codes params [] [] = true
store_all codes params [] (t ∷ ts) = false
store_all codes params (c ∷ cs) [] = true
store_all codes params (c ∷ cs) (t ∷ ts) = (is_plain_term t && holds_code (kind_code c.kind) (term_code codes params t)) && store_all codes params cs ts
