-- What only the contracts of private functions speak of; no public clause reaches it.
-- The terms that one step of a search asks for.
use Rattle.std.specs.Prelude.{◌≡◌, ◌↔◌, ◌⊎◌, ◌++◌, ◌≤◌, ℕ, IsTrue, List, [], ◌∷◌, Option, Some, None, String, length, string_bytes}
use Rattle.std.specs.declared.alloc.Global.{Global}
use Rattle.sqlite_rules.specs.Lists.{Has}
use Rattle.zeb_keys.specs.declared.Register.{Register}
use Rattle.zeb_keys.specs.declared.keys.Key.{Key}
use Rattle.zeb_register.specs.declared.registers.RegisterOf.{RegisterOf}
use Rattle.zeb_register.specs.declared.registers.TermCount.{TermCount}
use Rattle.zeb_register.specs.Between.{term_list}
use Rattle.zeb_register.specs.Content.{Content, Posting}
use Rattle.zeb_register.specs.Occurring.{key_in}
use Rattle.zeb_search.specs.declared.keys.FoundKeys.{FoundKeys}
use Rattle.zeb_search.specs.declared.terms.Wanted.{Wanted}
use Rattle.zeb_search.specs.declared.terms.Wanted.TheVariants as wanted
use Rattle.zeb_search.specs.Comparing.{Precedes, StandsInOrder}
use Rattle.zeb_search.specs.SearchCounts.{HasNoStar, IsOneKey}
use Rattle.zeb_search.specs.Holds.{Fits, IsNumberAt}
use Rattle.zeb_search.specs.Lists.{Rise}

-- the entry is asked for
abbrev pub IsWanted : Wanted → List ℕ → Type 0
IsWanted wanted.All term = Unit {0}
IsWanted (wanted.Matching pattern) term = Fits pattern.now term
IsWanted (wanted.Number relation number) term = IsNumberAt relation number term
IsWanted (wanted.Text relation start) term = StandsInOrder relation term start.now

-- one entry is asked for, by its name
abbrev pub NamesEntry : Wanted → Type 0
NamesEntry wanted.All = ⊥
NamesEntry (wanted.Matching pattern) = HasNoStar pattern.now
NamesEntry (wanted.Number relation number) = IsOneKey relation number
NamesEntry (wanted.Text relation start) = ⊥

-- the text comes neither before the first one nor behind the last one
abbrev pub StandsWithin : (first last : List ℕ) → List ℕ → Type 0
StandsWithin first last text = (¬ Precedes text first) × (¬ Precedes last text)

abbrev pub TermsRise : List TermCount → Type 0
TermsRise = Rise (λ (t : TermCount). t.term)

-- these are the keys of those of the terms that are asked for, in the order of the terms
pub record AreTaken (index : ℕ) (register : Register) (wanted : Wanted) (terms : List TermCount) (keys : List Key) : Type 0 where
  pub each : (key : Key) → Has keys key ↔ ((t : TermCount) × Has terms t × (IsWanted wanted t.term × (key ≡ key_in index register t.term)))
  pub rising : TermsRise terms → Rise (λ (key : Key). key.term) keys

-- the entry is one of the terms
abbrev pub IsAmong : List TermCount → List ℕ → Type 0
IsAmong terms term = (t : TermCount) × Has terms t × (t.term ≡ term)

-- of the terms each that stands between two that are asked for is asked for too
abbrev pub StandTogether : Wanted → List TermCount → Type 0
StandTogether wanted terms =
    (s t u : TermCount) → Has terms s → Has terms t → Has terms u → IsWanted wanted s.term → IsWanted wanted t.term
    → StandsWithin s.term t.term u.term → IsWanted wanted u.term

-- each entry of the register that stands between two of the keys, and that some record has, has its key among them
abbrev pub AreNeighbours : Content → RegisterOf → List Key → Type 0
AreNeighbours content of keys =
    (first last : Key) → Has keys first → Has keys last → (term : List ℕ) (p : Posting) → StandsWithin first.term last.term term
    → Has (term_list content of term) p → Has keys (key_in of.index of.register term)

-- keys of the register, each once, and neighbours where they are several
pub record AreRun (content : Content) (of : RegisterOf) (keys : List Key) : Type 0 where
  pub rising : Rise (λ (key : Key). key.term) keys
  pub each : (key : Key) → Has keys key → key ≡ key_in of.index of.register key.term
  pub neighbours : 2 ≤ length keys → AreNeighbours content of keys

-- keys of the register, each once, and neighbours where this is said of them
pub record AreFound (content : Content) (of : RegisterOf) (found : FoundKeys) : Type 0 where
  pub rising : Rise (λ (key : Key). key.term) found.keys.items
  pub each : (key : Key) → Has found.keys.items key → key ≡ key_in of.index of.register key.term
  pub neighbours : IsTrue found.are_neighbours → AreNeighbours content of found.keys.items

-- no entry that is asked for comes before the text
abbrev pub BeginsAt : Wanted → List ℕ → Type 0
BeginsAt wanted start = (term : List ℕ) → IsWanted wanted term → ¬ Precedes term start

-- no entry that is asked for comes behind the text
abbrev pub EndsAt : Wanted → List ℕ → Type 0
EndsAt wanted end = (term : List ℕ) → IsWanted wanted term → ¬ Precedes end term

-- The next page begins right behind the last term of this one. There is no next one where the page is empty, or where no entry that is
-- asked for comes behind one of its terms.
abbrev pub LeadsTo : Wanted → List TermCount → Option (String Global) → Type 0
LeadsTo wanted page None = (page ≡ []) ⊎ ((t : TermCount) × Has page t × EndsAt wanted t.term)
LeadsTo wanted page (Some next) = (front : List TermCount) × (t : TermCount) × (page ≡ front ++ t ∷ []) × (string_bytes next ≡ t.term ++ 0 ∷ [])
