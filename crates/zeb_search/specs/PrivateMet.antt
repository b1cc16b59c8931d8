-- What only the contracts of private functions speak of; no public clause reaches it.
-- Which counts of a register a step of a search has met, and which terms and keys it has found.
use Rattle.std.specs.Prelude.{◌≡◌, ◌⊎◌, ◌≤◌, ℕ, ℤ, IsTrue, List}
use Rattle.sqlite.specs.Tree.{Trees}
use Rattle.sqlite_rules.specs.Lists.{Has}
use Rattle.zeb_keys.specs.declared.Register.{Register}
use Rattle.zeb_keys.specs.declared.keys.Key.{Key}
use Rattle.zeb_register.specs.declared.registers.RegisterOf.{RegisterOf}
use Rattle.zeb_register.specs.declared.registers.TermCount.{TermCount}
use Rattle.zeb_register.specs.Formats.{Format}
use Rattle.zeb_register.specs.Occurring.{key_in}
use Rattle.zeb_register.specs.Terms.{shows_count}
use Rattle.zeb_register.specs.Units.{counts_as}
use Rattle.zeb_search.specs.declared.keys.FoundKeys.{FoundKeys}
use Rattle.zeb_search.specs.declared.terms.Wanted.{Wanted}
use Rattle.zeb_search.specs.Finds.{IsCounted}
use Rattle.zeb_search.specs.Lists.{Rise}
use Rattle.zeb_search.specs.PrivateTerms.{IsAmong, IsWanted, NamesEntry, StandsWithin, TermsRise}

-- the count of the key can be shown, and this is so where some record has it
abbrev pub IsShownWith : Format → Trees → ℤ → Key → Type 0 → Type 0
IsShownWith format trees db key IsThere = (records : ℕ) × shows_count format trees db key records × (1 ≤ records → IsThere)

-- The terms rise, each with its count, and each entry that is asked for is shown with its term among them; so is each that stands between
-- two of them.
pub record HasMet (format : Format) (trees : Trees) (db : ℤ) (index : ℕ) (register : Register) (wanted : Wanted) (terms : List TermCount) : Type 0 where
  pub of : (t : TermCount) → Has terms t → (1 ≤ t.records) × counts_as format trees db (key_in index register t.term) t.records
  pub rising : TermsRise terms
  pub each : (term : List ℕ) → IsWanted wanted term → IsShownWith format trees db (key_in index register term) (IsAmong terms term)
  pub whole : (s t : TermCount) → Has terms s → Has terms t → (term : List ℕ) → StandsWithin s.term t.term term
      → IsShownWith format trees db (key_in index register term) (IsAmong terms term)

-- keys of the register, each once and in the order of their terms
pub record AreKeysIn (of : RegisterOf) (keys : List Key) : Type 0 where
  pub rising : Rise (λ (key : Key). key.term) keys
  pub each : (key : Key) → Has keys key → key ≡ key_in of.index of.register key.term

module _ (format : Format) (trees : Trees) (of : RegisterOf) (wanted : Wanted) (found : FoundKeys) where
  abbrev pub IsAmongKeys : List ℕ → Type 0
  IsAmongKeys term = Has found.keys.items (key_in of.index of.register term)

  abbrev pub IsShownAmong : List ℕ → Type 0
  IsShownAmong term = IsShownWith format trees of.db.0 (key_in of.index of.register term) (IsAmongKeys term)

  -- Some record is counted for each of the keys. Each entry that is asked for is shown with its key among them; so is each that stands
  -- between two neighbours.
  pub record MeetsCounts : Type 0 where
    pub counted : (key : Key) → Has found.keys.items key → IsCounted format trees of.db.0 key
    pub each : (term : List ℕ) → IsWanted wanted term → IsShownAmong term
    pub neighbours : IsTrue found.are_neighbours → (first last : Key) → Has found.keys.items first → Has found.keys.items last
        → (term : List ℕ) → StandsWithin first.term last.term term → IsShownAmong term

  -- the entry that is asked for by its name is there, and no neighbours are known
  pub record MeetsName : Type 0 where
    pub each : (term : List ℕ) → IsWanted wanted term → IsAmongKeys term
    pub alone : ¬ IsTrue found.are_neighbours

  -- these keys of the register are asked for, by their name or by what the counts show
  pub record AreMet : Type 0 where
    pub are : AreKeysIn of found.keys.items
    pub asked : (key : Key) → Has found.keys.items key → IsWanted wanted key.term
    pub met : (NamesEntry wanted × MeetsName) ⊎ ((¬ NamesEntry wanted) × MeetsCounts)
