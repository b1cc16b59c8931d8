-- What a search counts of the rows of the packed tables.
use Rattle.std.specs.Prelude.{◌≡◌, ◌+◌, ◌<◌, ◌≤◌, ◌^◌, ℕ, List}
use Rattle.std.specs.List.{Contains}
use Rattle.sqlite_rules.specs.Lists.{Has}
use Rattle.zeb_text.specs.Symbols.{Symbol, Star}
use Rattle.zeb_query.specs.declared.plans.Relation.{Relation}
use Rattle.zeb_query.specs.declared.plans.Relation.TheVariants as relation
use Rattle.zeb_query.specs.Plans.{PlanValue, TermOf, PairOf, NearOf, TermPlanValue, RecordNumberOf, NoWordsOf, AlwaysOf, NumberOf, OrderedOf, CompleteOf, PhraseOf, AllWordsOf, AnyWordOf}
use Rattle.zeb_register.specs.declared.registers.Work.{Work}
use Rattle.zeb_register.specs.Tallies.{Rises}

-- ---- plans that name each entry that they ask for

-- the pattern is a text
abbrev pub HasNoStar : List Symbol → Type 0
HasNoStar pattern = ¬ Contains pattern Star

-- none of several patterns has a star
abbrev pub AreWithoutStars : List (List Symbol) → Type 0
AreWithoutStars patterns = (pattern : List Symbol) → Has patterns pattern → HasNoStar pattern

-- just the number itself is asked for, and it has a key
abbrev pub IsOneKey : Relation → ℕ → Type 0
IsOneKey asked number = (asked ≡ relation.Equal) × (number < 10 ^ 18)

-- the term asks for texts that it names, and for no other entry
abbrev pub TermNamesEntries : TermPlanValue → Type 0
TermNamesEntries (RecordNumberOf number) = Unit {0}
TermNamesEntries (NoWordsOf index register) = Unit {0}
TermNamesEntries (AlwaysOf index register) = ⊥
TermNamesEntries (NumberOf index relation number) = IsOneKey relation number
TermNamesEntries (OrderedOf index register relation start) = ⊥
TermNamesEntries (CompleteOf index pattern) = HasNoStar pattern
TermNamesEntries (PhraseOf index patterns first) = AreWithoutStars patterns
TermNamesEntries (AllWordsOf index patterns) = AreWithoutStars patterns
TermNamesEntries (AnyWordOf index patterns) = AreWithoutStars patterns

-- each term of the plan asks for no entry but such as it names
abbrev pub NamesEntries : PlanValue → Type 0
NamesEntries (TermOf plan) = TermNamesEntries plan
NamesEntries (PairOf operator left right) = NamesEntries left × NamesEntries right
NamesEntries (NearOf index left right separation) = HasNoStar left × HasNoStar right

-- ---- counts

-- No row is counted as written; of `dict` at most so many as read, and of `blocks` at most so many.
pub record CountsAtMost (most_terms most_blocks : ℕ) (old new : Work) : Type 0 where
  pub no_term : Rises 0 old.dict_written new.dict_written
  pub no_block : Rises 0 old.block_written new.block_written
  pub terms : new.dict_read ≤ old.dict_read + most_terms
  pub blocks : new.block_read ≤ old.block_read + most_blocks

-- The same by bounds that are told: `Terms` says how many rows of `dict` the terms have that are gone through, `Rows` how many rows of `blocks` the
-- lists have.
abbrev pub CountsRows : (Terms Rows : ℕ → Type 0) → (before after : Work) → Type 0
CountsRows Terms Rows before after = (most_terms : ℕ) × (most_blocks : ℕ) × Terms most_terms × Rows most_blocks × CountsAtMost most_terms most_blocks before after
