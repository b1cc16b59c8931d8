-- What only the contracts of private functions speak of; no public clause reaches it.
-- Rows of the terms from one text to another, as one statement shows them. zeb_packed speaks of them too.
use Rattle.std.specs.Prelude.{◌≡◌, ℕ, List, [], ◌∷◌, true, false}
use Rattle.std.specs.Ordering.{is_lt}
use Rattle.sqlite.specs.declared.types.Value.TheVariants.{Text}
use Rattle.sqlite.specs.Order.{Row, column, value_cmp}
use Rattle.sqlite.specs.Tree.{Trees}
use Rattle.sqlite_rules.specs.Lists.{Has}
use Rattle.zeb_register.specs.PlainUnits.{ShowsNone}
use Rattle.zeb_register.specs.Store.{IsRest}

-- a row that follows these columns in some row of a table, and whose text is not below the first one and is below the end
abbrev pub IsRestBetween : ℕ → Row → (first end : List ℕ) → Trees → Row → Type 0
IsRestBetween tree front first end trees row =
    IsRest tree front trees row × (is_lt (value_cmp (column row 0) (Text first)) ≡ false) × (is_lt (value_cmp (column row 0) (Text end)) ≡ true)

-- the two columns behind the text
abbrev pub two_behind : Row → Row
two_behind row = column row 1 ∷ column row 2 ∷ []

-- the three columns behind the text
abbrev pub three_behind : Row → Row
three_behind row = column row 1 ∷ column row 2 ∷ column row 3 ∷ []

-- one of the rows shows no posting behind its text
abbrev pub SomeShowsNoneBehind : List Row → Type 0
SomeShowsNoneBehind rows = (row : Row) × Has rows row × ShowsNone (three_behind row)
