-- On which records of a database a query holds by the tables alone: by the postings that the registers hold, and by the numbers of the
-- records that are kept.
use Rattle.std.specs.Prelude.{ℕ, ℤ, pos, List}
use Rattle.sqlite.specs.Tree.{Trees}
use Rattle.zeb_query.specs.Plans.{PlanValue, TermOf, PairOf, NearOf, TermPlanValue, RecordNumberOf}
use Rattle.zeb_register.specs.Content.{Content, posted}
use Rattle.zeb_register.specs.Kept.{AreReadableIdents}
use Rattle.zeb_register.specs.Store.{HasRecord}
use Rattle.zeb_search.specs.Holds.{TreeHolds}

-- in the tables the record of a number has this identifier
abbrev pub has_ident_in : Trees → ℤ → ℕ → List ℕ → Type 0
has_ident_in trees db n ident = (bytes : List ℕ) × HasRecord trees db (pos n) ident bytes

-- a record of this number is kept
abbrev pub is_kept_in : Trees → ℤ → ℕ → Type 0
is_kept_in trees db n = (ident : List ℕ) × has_ident_in trees db n ident

-- a plan holds on the record of a number by the registers' postings and the table of records
abbrev pub HoldsIn : Trees → Content → ℤ → PlanValue → ℕ → Type 0
HoldsIn trees content db = TreeHolds (posted content db) (is_kept_in trees db)

-- the identifier of each record that a term names by its number is UTF-8
abbrev pub TermNamesReadable : Trees → ℤ → TermPlanValue → Type 0
TermNamesReadable trees db (RecordNumberOf number) = AreReadableIdents trees db (pos number)
TermNamesReadable trees db other = Unit {0}

-- the same of each term of a plan
abbrev pub NamesReadable : Trees → ℤ → PlanValue → Type 0
NamesReadable trees db (TermOf plan) = TermNamesReadable trees db plan
NamesReadable trees db (PairOf operator left right) = NamesReadable trees db left × NamesReadable trees db right
NamesReadable trees db (NearOf index left right separation) = Unit {0}
