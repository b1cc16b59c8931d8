-- On which records a term holds, by the values of its attributes, row by row (ANSI/NISO Z39.50-2003, attribute set Bib-1). Each row has
-- the values for which it stands, in the words of the tables of `zeb_query`, and what a record has to have. No plan is named.
-- Own rules of this project: that structure 107 asks for a system number, that a find takes no other values than these, which register is
-- searched, and that a term without words holds on no record but where its words aren't compared.
use Rattle.std.specs.Prelude.{◌≡◌, ◌≢◌, ◌⊎◌, ◌↔◌, ℕ, List, [], None, Some, true, false, chars}
use Rattle.std.specs.Str.Parse.{digits_value}
use Rattle.sqlite_rules.specs.Lists.{Has}
use Rattle.zeb_keys.specs.declared.Register.TheVariants as register
use Rattle.zeb_keys.specs.declared.keys.Occurrence.{Occurrence}
use Rattle.zeb_profile.specs.declared.Profile.{Profile}
use Rattle.zeb_text.specs.Symbols.{Symbol}
use Rattle.zeb_text.specs.Truncation.{joined_patterns}
use Rattle.zeb_text.specs.Words.{words_of}
use Rattle.zeb_query.specs.declared.attributes.Asked.TheVariants.{Always, Compared}
use Rattle.zeb_query.specs.declared.attributes.Completeness.TheVariants.{Complete, Incomplete}
use Rattle.zeb_query.specs.declared.attributes.Structure.{Structure}
use Rattle.zeb_query.specs.declared.attributes.Structure.TheVariants.{FreeForm, Numeric, Phrase, WordList}
use Rattle.zeb_query.specs.declared.plans.Relation.{Relation}
use Rattle.zeb_query.specs.declared.plans.Relation.TheVariants.{Equal}
use Rattle.zeb_query.specs.declared.values.Subject.{Subject}
use Rattle.zeb_query.specs.declared.values.Subject.TheVariants.{Entries, Record}
use Rattle.zeb_query.specs.declared.values.Values.{Values}
use Rattle.zeb_query.specs.Attributes.{HoldingValue, asks_number, completeness_of, index_used, is_equality, is_first, is_local_number, joined_words, patterns_asked, position_of, register_of, relation_of, structure_of, truncation_of}
use Rattle.zeb_search.specs.Comparing.{StandsInOrder}
use Rattle.zeb_search.specs.Holds.{Fits, HasEntry, HasMatch, HasPhrase, IsNumberAt}

-- a list as a set of occurrences: the record of a number has the occurrence that stands with this number in it
abbrev pub occurs_in : List (ℕ × Occurrence) → ℕ → Occurrence → Type 0
occurs_in occurrences n occurrence = Has occurrences (n, occurrence)

-- ---- the values of the attributes

-- structure 107; or another one that is kept, and the index of the use attribute
abbrev pub IsNamed : Profile → HoldingValue → Subject → Type 0
IsNamed profile h Record = is_local_number h.structure ≡ true
IsNamed profile h (Entries index structure) =
    (is_local_number h.structure ≡ false)
    × ((structure_of h.structure ≡ Some structure) × (index_used profile h.use_attribute ≡ Some index))

-- Each value is what the table of its type has for the attribute that holds, or for the default where none does: no attribute has a value
-- that isn't kept, and none is of another set or another type.
pub record AreKept (profile : Profile) (h : HoldingValue) (v : Values) : Type 0 where
  pub set : h.other_set ≡ None
  pub kind : h.other_kind ≡ None
  pub subject : IsNamed profile h v.subject
  pub relation : relation_of h.relation ≡ Some v.relation
  pub position : position_of h.position ≡ Some v.position
  pub truncation : truncation_of h.truncation ≡ Some v.truncation
  pub completeness : completeness_of h.completeness ≡ Some v.completeness

-- ---- the rows, by their values

-- structure 107
abbrev pub NamesRecord : Values → Type 0
NamesRecord v = v.subject ≡ Record

-- relation 103, and another structure, with this index
abbrev pub AlwaysMatches : ℕ → Values → Type 0
AlwaysMatches index v = (v.relation ≡ Always) × ((structure : Structure) × (v.subject ≡ Entries index structure))

-- structure 109, and a relation that compares
abbrev pub ComparesNumbers : ℕ → Relation → Values → Type 0
ComparesNumbers index relation v = (v.relation ≡ Compared relation) × (v.subject ≡ Entries index Numeric)

-- another structure than these two
abbrev pub NamesTexts : ℕ → Values → Type 0
NamesTexts index v = (structure : Structure) × (asks_number structure ≡ false) × (v.subject ≡ Entries index structure)

-- such a structure, and a relation that compares, but for equality: 1, 2, 4 or 5
abbrev pub ComparesTexts : ℕ → Relation → Values → Type 0
ComparesTexts index relation v = (is_equality relation ≡ false) × ((v.relation ≡ Compared relation) × NamesTexts index v)

-- such a structure, relation 3 and completeness 2 or 3
abbrev pub MatchesWhole : ℕ → Values → Type 0
MatchesWhole index v = (v.relation ≡ Compared Equal) × ((v.completeness ≡ Complete) × NamesTexts index v)

-- this structure, relation 3 and completeness 1
abbrev pub MatchesWords : Structure → ℕ → Values → Type 0
MatchesWords structure index v = (v.relation ≡ Compared Equal) × ((v.completeness ≡ Incomplete) × (v.subject ≡ Entries index structure))

-- one of the rows stands for the values
abbrev pub HasRow : Values → Type 0
HasRow v =
    NamesRecord v
    ⊎ ((index : ℕ)
    × (AlwaysMatches index v
    ⊎ (((relation : Relation) × ComparesNumbers index relation v)
    ⊎ (((relation : Relation) × ComparesTexts index relation v)
    ⊎ (MatchesWhole index v
    ⊎ (MatchesWords WordList index v
    ⊎ (MatchesWords FreeForm index v
    ⊎ MatchesWords Phrase index v)))))))

-- ---- the rows, and what a record has to have

-- `Holds` is so of the records that the rows say, where `O` is what records have and `IsKept` says which of them are kept
pub record HoldsByAttributes (O : ℕ → Occurrence → Type 0) (IsKept : ℕ → Type 0) (v : Values) (text : List ℕ) (Holds : ℕ → Type 0) : Type 0 where
  -- the record of the system number that the term spells
  pub system_number : NamesRecord v → (n : ℕ) → Holds n ↔ ((n ≡ digits_value 10 text) × IsKept n)
  -- any entry in the searched register of the index
  pub any_entry : (index : ℕ) → AlwaysMatches index v → (n : ℕ) → Holds n ↔ HasEntry O index (register_of v) (λ _. Unit {0}) n
  -- a number in the relation to the one that the term spells
  pub number : (index : ℕ) (relation : Relation) → ComparesNumbers index relation v → (n : ℕ)
      → Holds n ↔ HasEntry O index register.Number (IsNumberAt relation (digits_value 10 text)) n
  -- an entry that comes before or after the term's words, or is the same, as the relation says
  pub ordered : (index : ℕ) (relation : Relation) → ComparesTexts index relation v → (n : ℕ)
      → Holds n ↔ ((words_of (chars text) ≢ []) × HasEntry O index (register_of v) (λ term. StandsInOrder relation term (joined_words text)) n)
  -- a whole text that matches the term's words, one after another
  pub whole : (index : ℕ) → MatchesWhole index v → (n : ℕ)
      → Holds n ↔ ((patterns_asked v text ≢ []) × HasEntry O index register.Phrase (Fits (joined_patterns (patterns_asked v text))) n)
  -- each of the term's words, wherever it stands
  pub each_word : (index : ℕ) → MatchesWords WordList index v → (n : ℕ)
      → Holds n ↔ ((patterns_asked v text ≢ [])
      × ((pattern : List Symbol) → Has (patterns_asked v text) pattern → HasMatch O index pattern n))
  -- some of the term's words
  pub some_word : (index : ℕ) → MatchesWords FreeForm index v → (n : ℕ)
      → Holds n ↔ ((pattern : List Symbol) × Has (patterns_asked v text) pattern × HasMatch O index pattern n)
  -- the term's words one after another in one unit, from its first word on for positions 1 and 2
  pub phrase : (index : ℕ) → MatchesWords Phrase index v → (n : ℕ)
      → Holds n ↔ ((patterns_asked v text ≢ []) × HasPhrase O index (patterns_asked v text) (is_first v.position) n)
