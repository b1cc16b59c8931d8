-- Version 1, the layout with one row of `postings` for each posting: which rows hold a content.
use Rattle.std.specs.Prelude.{◌≡◌, ◌↔◌, ℕ, ℤ, pos, List, [], ◌∷◌, ◌++◌}
use Rattle.sqlite.specs.declared.types.Value.TheVariants.{Int}
use Rattle.sqlite.specs.Order.{Row}
use Rattle.sqlite.specs.Tree.{Trees}
use Rattle.sqlite_rules.specs.Lists.{Has}
use Rattle.zeb_keys.specs.declared.keys.Key.{Key}
use Rattle.zeb_keys.specs.declared.Register.{Register}
use Rattle.zeb_keys.specs.Registers.{register_code}
use Rattle.zeb_blocks.specs.declared.postings.Posting.{Posting}
use Rattle.zeb_register.specs.Sql.{HasRow}
use Rattle.zeb_register.specs.Store.{postings_tree, key_of}
use Rattle.zeb_register.specs.Content.{Content, HasRisingLists}

abbrev pub key_row : ℤ → Key → Row
key_row db key = key_of db (pos key.index) (pos (register_code key.register)) key.term

-- the columns with which the rows of a register begin
abbrev pub register_front : ℤ → ℕ → Register → Row
register_front db index register = Int db ∷ Int (pos index) ∷ Int (pos (register_code register)) ∷ []

abbrev pub posting_row : Posting → Row
posting_row p = Int (pos p.sysno) ∷ Int (pos p.seq) ∷ Int (pos p.pos) ∷ []

-- the row of a posting of the content
abbrev pub IsPostingRow : Content → Row → Type 0
IsPostingRow content row = (db : ℤ) × (key : Key) × (p : Posting) × Has (content db key) p × (row ≡ key_row db key ++ posting_row p)

-- the tables of the registers hold the content: a row of `postings` for each posting and no other, and no row of `blocks`, whose tree has
-- the number 9, or of `dict`, whose tree has 11
pub record HoldsRows (trees : Trees) (content : Content) : Type 0 where
  pub rising : HasRisingLists content
  pub each : (row : Row) → HasRow trees postings_tree row ↔ IsPostingRow content row
  pub alone : (trees 9 ≡ []) × (trees 11 ≡ [])

-- no list has a row of `blocks`
abbrev pub no_rows : List Posting → ℕ
no_rows list = 0
