-- What only the contracts of private functions speak of; no public clause reaches it.
-- What the steps below a find read and find, whatever rows the tables have.
use Rattle.std.specs.Prelude.{◌≢◌, ◌⊎◌, ℕ, ℤ, [], List}
use Rattle.sqlite.specs.Tree.{Trees}
use Rattle.sqlite_rules.specs.Lists.{Has}
use Rattle.zeb_text.specs.Symbols.{Symbol}
use Rattle.zeb_keys.specs.declared.keys.Key.{Key}
use Rattle.zeb_register.specs.declared.registers.RegisterOf.{RegisterOf}
use Rattle.zeb_register.specs.Between.{IsBetween}
use Rattle.zeb_register.specs.Content.{Posting}
use Rattle.zeb_register.specs.Formats.{Format}
use Rattle.zeb_register.specs.Occurring.{key_in}
use Rattle.zeb_register.specs.Units.{has_malformed}
use Rattle.zeb_search.specs.Finds.{Follow, HasAll, Occurs, ReadsWords}
use Rattle.zeb_search.specs.PrivateLists.{ArePostings}

-- ---- the lists of keys

module _ (format : Format) (trees : Trees) (of : RegisterOf) (keys : List Key) (IsJoint : Type 0) where
  -- its key is one of them; or, where several are read at once, it stands between two of them
  abbrev pub IsReachedBy : List ℕ → Type 0
  IsReachedBy term = Has keys (key_in of.index of.register term)
      ⊎ (IsJoint × (first : Key) × (last : Key) × Has keys first × Has keys last × IsBetween first.term last.term term)

  -- the list has all postings of each key, and no others but of entries that are reached
  pub record ListsKeys (list : List Posting) : Type 0 where
    pub all : (key : Key) → Has keys key → HasAll format trees of.db.0 key list
    pub each : (p : Posting) → Has list p → (term : List ℕ) × IsReachedBy term × Occurs format trees of.db.0 (key_in of.index of.register term) p

  -- a row of an entry that is reached is malformed, or of no unit
  abbrev pub HidesKeys : Type 0
  HidesKeys = (term : List ℕ) × IsReachedBy term × has_malformed format trees of.db.0 (key_in of.index of.register term)

-- the postings, rising, from each of which on the words match the patterns
abbrev pub PlacesFound : Format → Trees → ℤ → ℕ → List (List Symbol) → List Posting → Type 0
PlacesFound format trees db index patterns places =
    (lists : List (List Posting)) × ReadsWords format trees db index patterns lists × ArePostings (λ p. (lists ≢ []) × Follow lists p.sysno p.seq p.pos) places
