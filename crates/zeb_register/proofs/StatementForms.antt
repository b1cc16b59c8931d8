-- The forms of statement that are used here: which rows a WHERE passes, and which list a SELECT shows.
use Rattle.zeb_register.proofs.Cited.{Binary, Row, column, value_cmp, Query, inner, end, Output, output_cmp, key_cmp, limited, as_count, Term, lit, col, op2, eval, eval_all, holds, Int, Program, Compare, Eq, Ge, Lt, ◌≡◌, ℕ, zero, suc, Bool, true, false, List, [], ◌∷◌, map, filter, pos, negsuc, None, Ordering, AllByRecursion, list_all, is_lt, IsPermutation, IsSorted}
use Rattle.sqlite_value.specs.declared.keys.Key.{Key}

-- ---- WHERE: conditions on the places of a row, whose rowid is at place 0, by parameters from 0 on

pub data Condition : Type 0 where
  equals : ℕ → ℕ → Condition
  at_least : ℕ → ℕ → Condition
  less_than : ℕ → ℕ → Condition

abbrev pub term_of : Condition → Term
term_of (equals place from) = op2 (Compare Eq Binary) (col 1 place) (col 0 from)
term_of (at_least place from) = op2 (Compare Ge Binary) (col 1 place) (col 0 from)
term_of (less_than place from) = op2 (Compare Lt Binary) (col 1 place) (col 0 from)

abbrev pub Meets : Row → Row → Condition → Type 0
Meets params row (equals place from) = column row place ≡ column params from
Meets params row (at_least place from) = is_lt (value_cmp (column row place) (column params from)) ≡ false
Meets params row (less_than place from) = is_lt (value_cmp (column row place) (column params from)) ≡ true

-- so many places from one on are equal to the parameters from one on
abbrev pub keyed_from : ℕ → ℕ → ℕ → List Condition
keyed_from place from zero = []
keyed_from place from (suc n) = equals place from ∷ keyed_from (suc place) (suc from) n

abbrev pub MeetsAll : Row → Row → List Condition → Type 0
MeetsAll params row = AllByRecursion (Meets params row)

abbrev pub passes : List Condition → Row → Row → Bool
passes wheres params row = list_all (holds (params ∷ row ∷ [])) (map term_of wheres)

-- ---- SELECT project FROM the table WHERE wheres ORDER BY order LIMIT limit

abbrev pub ascending : Key
ascending = record { collation = Binary; descending = false }

abbrev pub descending : Key
descending = record { collation = Binary; descending = true }

abbrev pub rising : List ℕ → List (Term × Key)
rising = map (λ place. (col 1 place, ascending))

abbrev pub shows : List ℕ → List Term
shows = map (col 1)

abbrev pub no_limit : Term
no_limit = lit (Int (negsuc 0))

abbrev pub one_row : Term
one_row = lit (Int (pos 1))

abbrev pub reading_by : ℕ → List Condition → List Term → List (Term × Key) → Term → Query
reading_by tree wheres project keys limit = record {
  from = inner tree end;
  filter = map term_of wheres;
  group = None;
  project = project;
  distinct = false;
  collations = [];
  order = keys;
  limit = limit;
  offset = lit (Int (pos 0));
}

abbrev pub reading : ℕ → List Condition → List Term → List ℕ → Term → Query
reading tree wheres project order = reading_by tree wheres project (rising order)

abbrev pub alone : Query → Program
alone q = record { lets = []; body = q }

-- what a row is sorted by, and what it shows
abbrev pub shown_of : List Term → List (Term × Key) → Row → Row → Output
shown_of project keys params row = (eval_all (map (λ k. k.0) keys) (params ∷ row ∷ []), eval_all project (params ∷ row ∷ []))

-- the order of ORDER BY
abbrev pub ordering : List ℕ → Row → Row → Ordering
ordering places r s = key_cmp 0 (map (λ _. ascending) places) (map (column r) places) (map (column s) places)

-- the rows that pass, each shown once, in order, and then cut to the limit
pub record IsReading (db : List Row) (wheres : List Condition) (project : List Term) (keys : List (Term × Key)) (limit : Term) (params : Row) (rows : List Row) : Type 0 where
  pub ordered : List Output
  pub same : IsPermutation (map (shown_of project keys params) (filter (passes wheres params) db)) ordered
  pub sorted : IsSorted (output_cmp (reading_by 0 wheres project keys limit)) ordered
  pub shown : rows ≡ limited (as_count (eval limit (params ∷ []))) (map (λ (o : Output). o.1) ordered)
