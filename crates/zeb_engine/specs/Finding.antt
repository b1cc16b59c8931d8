-- What a find answers of the records that have a set of occurrences. Such a set says of a record's number and an occurrence whether the
-- record has it. Read with the bytes of all kept records, from nothing, it tells what a find answers; read with the postings of the
-- registers, what it answers by the registers alone.
use Rattle.sqlite.specs.State.{State}
use Rattle.sqlite.specs.Tree.{Trees}
use Rattle.sqlite_rules.specs.Lists.{Has}
use Rattle.std.specs.Fmt.{decimal}
use Rattle.std.specs.Option.{option_map}
use Rattle.std.specs.Prelude.{◌≡◌, ℕ, ◌-◌, List, Some, Result, Ok, Err, length, map, find, take, drop, nat_eq, nat_lt, ◌&&◌, if◌then◌else◌, ◌⊎◌, ℤ, pos, IfErr, ◌<◌, ◌^◌}
use Rattle.zeb_change.specs.Base.{Kept}
use Rattle.zeb_change.specs.Conditions.{Conditions}
use Rattle.zeb_change.specs.Refused.{Why, diagnostic, why_of}
use Rattle.zeb_change.specs.declared.refusals.Refusal.{Refusal}
use Rattle.zeb_change.specs.declared.refusals.Refusal.TheVariants.{Damaged}
use Rattle.zeb_engine.specs.Answers.{Answer, found, refused, IsFailure}
use Rattle.zeb_engine.specs.Asking.{OfDatabase, Alone, Said, IsAsked}
use Rattle.zeb_engine.specs.Causes.{OnlyLooks}
use Rattle.zeb_engine.specs.Hidden.{HidesOf, UnlessHidden}
use Rattle.zeb_engine.specs.Readiness.{IsReadyFor, GoesByTexts}
use Rattle.zeb_engine.specs.declared.replies.Reply.{Reply}
use Rattle.zeb_keys.specs.declared.keys.Occurrence.{Occurrence}
use Rattle.zeb_profile.specs.declared.directives.Directive.{Directive}
use Rattle.zeb_query.specs.Checks.{Refusal as QueryRefusal}
use Rattle.zeb_query.specs.Grammar.{QueryValue, SpellsQuery}
use Rattle.zeb_query.specs.Places.{IsReadable}
use Rattle.zeb_query.specs.Plans.{PlanValue, plan_of}
use Rattle.zeb_register.specs.Catalog.{AreCountedDatabases}
use Rattle.zeb_register.specs.Content.{Content, IsStorable, posted, Posting}
use Rattle.zeb_register.specs.Formats.{Format, holds_in, version_of}
use Rattle.zeb_register.specs.Kept.{AreReadableIdents}
use Rattle.zeb_register.specs.Store.{IsStore, HasDatabase}
use Rattle.zeb_register.specs.declared.registers.Work.{Work}
use Rattle.zeb_search.specs.DictRows.{PlanDict}
use Rattle.zeb_search.specs.Finds.{PlanFinds, PlanHides}
use Rattle.zeb_search.specs.Holds.{TreeHolds}
use Rattle.zeb_search.specs.ListRows.{PlanRows}
use Rattle.zeb_search.specs.Lists.{AreNumbers}
use Rattle.zeb_search.specs.Registers.{has_ident_in, is_kept_in, HoldsIn, NamesReadable}
use Rattle.zeb_search.specs.SearchCounts.{CountsAtMost}

-- ---- kept records

-- the record of this number has the identifier
abbrev pub has_name : List Kept → ℕ → List ℕ → Type 0
has_name records n ident = option_map (λ kept. kept.ident) (find (λ kept. nat_eq kept.sysno n) records) ≡ Some ident

-- ---- what is shown

-- those from the first-th on, at most count; a first past the last is diagnostic 13, which names it, but a first of 1 is none
abbrev pub asked_of : List ℕ → ℕ → ℕ → Result (List ℕ) Why
asked_of hits first count =
    if nat_lt 1 first && nat_lt (length hits) first then Err (diagnostic 13 0 (decimal first)) else Ok (take count (drop (first - 1) hits))

-- the records of these numbers, in their order, each with its identifier
pub record AreShown (Named : ℕ → List ℕ → Type 0) (numbers : List ℕ) (shown : List (ℕ × List ℕ)) : Type 0 where
  pub in_order : map (λ hit. hit.0) shown ≡ numbers
  pub named : (hit : ℕ × List ℕ) → Has shown hit → Named hit.0 hit.1

-- ---- the answer

-- `Named` tells the identifier of each record
module _ (Named : ℕ → List ℕ → Type 0) where
  abbrev pub IsShown : List ℕ → Result (List ℕ) Why → Answer → Type 0
  IsShown hits (Err why) answer = answer ≡ refused why
  IsShown hits (Ok asked) answer = (shown : List (ℕ × List ℕ)) × AreShown Named asked shown × (answer ≡ found (length hits) shown)

  -- `AreHits` tells which numbers the hits of a plan are
  module _ (AreHits : PlanValue → List ℕ → Type 0) where
    -- all hits are counted, and those that are asked for are shown
    abbrev pub IsFoundBy : PlanValue → ℕ → ℕ → Answer → Type 0
    IsFoundBy plan first count answer = (hits : List ℕ) × AreHits plan hits × IsShown hits (asked_of hits first count) answer

    -- a query that has no plan is refused by its first diagnostic
    abbrev pub IsPlannedBy : Result PlanValue QueryRefusal → ℕ → ℕ → Answer → Type 0
    IsPlannedBy (Err e) first count answer = answer ≡ refused (diagnostic e.number e.place e.addinfo)
    IsPlannedBy (Ok plan) first count answer = IsFoundBy plan first count answer

    -- the answer to a query's text: the text spells one query
    abbrev pub IsAnsweredBy : List Directive → List ℕ → ℕ → ℕ → Answer → Type 0
    IsAnsweredBy profile text first count answer = (query : QueryValue) × SpellsQuery text query × IsPlannedBy (plan_of profile query) first count answer

-- the same over a set of occurrences `O`: the hits are the numbers of the records on which the plan holds
module _ (O : ℕ → Occurrence → Type 0) (Named : ℕ → List ℕ → Type 0) where
  -- the record of this number has an identifier, and so it is kept
  abbrev pub IsNamed : ℕ → Type 0
  IsNamed n = (ident : List ℕ) × Named n ident

  abbrev pub AreHits : PlanValue → List ℕ → Type 0
  AreHits plan = AreNumbers (TreeHolds O IsNamed plan)

  -- the hits are just the numbers on which the plan holds, rising; they are counted, and those that are asked for are shown, or a first
  -- above 1 and past the last hit is diagnostic 13
  abbrev pub IsFound : PlanValue → ℕ → ℕ → Answer → Type 0
  IsFound = IsFoundBy Named AreHits

  abbrev pub IsPlanned : Result PlanValue QueryRefusal → ℕ → ℕ → Answer → Type 0
  IsPlanned = IsPlannedBy Named AreHits

  -- a find over a set of occurrences: the text spells a query, and one without a plan is refused by its first
  -- diagnostic. The hits are just the numbers on which its plan holds, rising. They are counted, and those asked for
  -- shown with their identifiers, or a first above 1 and past the last hit is diagnostic 13
  abbrev pub IsAnswered : List Directive → List ℕ → ℕ → ℕ → Answer → Type 0
  IsAnswered = IsAnsweredBy Named AreHits

-- ---- a command on any tables of a store

-- what a find answers by the definition, read with the postings and with the identifiers in the table of records
abbrev pub FindSays : List Directive → List ℕ → ℕ → ℕ → Said
FindSays profile text first count trees content db last = IsAnswered (posted content db) (has_ident_in trees db) profile text first count

-- the record of this number can be shown: it is kept, and its identifier is UTF-8
abbrev pub CanBeShown : Trees → ℤ → ℕ → Type 0
CanBeShown trees db n = is_kept_in trees db n × AreReadableIdents trees db (pos n)

-- the record of one of these numbers can't
abbrev pub HidesOne : Trees → ℤ → List ℕ → Type 0
HidesOne trees db numbers = (n : ℕ) × Has numbers n × (¬ CanBeShown trees db n)

-- the record of one of the hits that are asked for can't
abbrev pub HidesHit : Trees → Content → ℤ → PlanValue → (first count : ℕ) → Type 0
HidesHit trees content db plan first count =
    (hits : List ℕ) × (asked : List ℕ) × AreNumbers (HoldsIn trees content db plan) hits × (asked_of hits first count ≡ Ok asked)
    × HidesOne trees db asked

-- the text spells a query that has this plan
abbrev pub IsPlanOf : List Directive → List ℕ → PlanValue → Type 0
IsPlanOf profile text plan = (query : QueryValue) × SpellsQuery text query × (plan_of profile query ≡ Ok plan)

-- Damage in what a find reads of the rows once its query is read: the last number of the database is below 0; or the query has a plan,
-- and a record that this names by its number has an identifier that isn't UTF-8, or a hit can't be shown.
abbrev pub MeetsDamage : List Directive → (name text : List ℕ) → (first count : ℕ) → Trees → Content → Type 0
MeetsDamage profile name text first count trees content =
    (IsReadable text × (¬ AreCountedDatabases trees name))
    ⊎ ((id : ℤ) × (last : ℤ) × (plan : PlanValue) × HasDatabase trees id name last × IsPlanOf profile text plan
    × ((¬ NamesReadable trees id plan) ⊎ HidesHit trees content id plan first count))

-- over which tables and which content a find is refused so
abbrev pub RefusesFind : List Directive → (name text : List ℕ) → (first count : ℕ) → Trees → Content → Refusal → Type 0
RefusesFind profile name text first count trees content refusal =
    IsAsked (FindSays profile text first count trees content) name text trees (refused (why_of refusal))
    ⊎ ((refusal ≡ Damaged) × MeetsDamage profile name text first count trees content)

-- on the tables of a store that hold a content which every layout can store, a refusal is so, or the store or the memory failed
abbrev pub RefusedAlone : Format → (Refuses : Trees → Content → Refusal → Type 0) → State → Result Reply Refusal → Type 0
RefusedAlone format Refuses s result =
    IsStore s → (content : Content) → IsStorable content → holds_in format s.now.trees content
    → IfErr result (λ refusal. IsFailure (refused (why_of refusal)) ⊎ Refuses s.now.trees content refusal)

-- what a find is answered; why it is refused is said of a register that is ready
abbrev pub FindAlone : Format → List Directive → (name text : List ℕ) → (first count : ℕ) → State → Result Reply Refusal → Type 0
FindAlone format profile name text first count s result =
    Alone format (FindSays profile text first count) name s result
    × (IsReadyFor (version_of format) profile s.now.trees → RefusedAlone format (RefusesFind profile name text first count) s result)

-- The hits are those that the units and counts tell which the plan asks for. Those that are wanted are shown, each the number and the
-- identifier of a record that the database keeps.
abbrev pub FindTells : Format → List Directive → (text : List ℕ) → (first count : ℕ) → Trees → OfDatabase
FindTells format profile text first count trees db last = IsAnsweredBy (has_ident_in trees db) (PlanFinds format trees db) profile text first count

-- on any tables a find is answered by the first refusal of the definition, or by the hits that the units and counts tell
abbrev pub FindOver : Format → List Directive → (name text : List ℕ) → (first count : ℕ) → Trees → Answer → Type 0
FindOver format profile name text first count trees = IsAsked (FindTells format profile text first count trees) name text trees

-- Where a column can hold the number of each hit that is wanted, the record of one of them can't be shown.
abbrev pub HidesFound : Format → Trees → ℤ → PlanValue → (first count : ℕ) → Type 0
HidesFound format trees db plan first count =
    (hits : List ℕ) × (asked : List ℕ) × PlanFinds format trees db plan hits × (asked_of hits first count ≡ Ok asked)
    × (((n : ℕ) → Has asked n → n < 2 ^ 63) → HidesOne trees db asked)

-- something that the plan of the query asks for is malformed, or a row of a stray entry between two of these is, or a hit can't be shown
abbrev pub HidesPlan : Format → List Directive → (text : List ℕ) → (first count : ℕ) → Trees → ℤ → Type 0
HidesPlan format profile text first count trees id =
    (plan : PlanValue) × IsPlanOf profile text plan × (PlanHides format trees id plan ⊎ HidesFound format trees id plan first count)

-- a find of this text may tell damage: the text has no fault, and the last number of its database is below 0, something that its plan
-- asks for or a row of a stray entry is malformed, or a hit that is wanted can't be shown
abbrev pub HidesFind : Format → List Directive → (name text : List ℕ) → (first count : ℕ) → Trees → Type 0
HidesFind format profile name text first count trees = IsReadable text × HidesOf (HidesPlan format profile text first count trees) name trees

-- What counts over the plan of a query, in the database of the name: nothing as written; as read of `dict` no more rows than the
-- searched registers have distinct terms, once for each pattern with a star and for each term of the query that asks for entries which
-- it doesn't name; and of `blocks` no more than the lists have of the entries that it asks for.
abbrev pub PlanReads : (row_work : ℕ) → (block_rows : List Posting → ℕ) → PlanValue → List ℕ → Trees → Content → Work → Work → Type 0
PlanReads row_work block_rows plan name trees content before after =
    (id : ℤ) × (last : ℤ) × HasDatabase trees id name last
    × (most_terms : ℕ) × (most_blocks : ℕ) × PlanDict row_work content id plan most_terms × PlanRows block_rows content id plan most_blocks
    × CountsAtMost most_terms most_blocks before after

-- on the tables of a store that hold a content a find's text spells a query with a plan, and no more counts as read than that plan asks
-- for, and nothing as written (`PlanReads`)
abbrev pub FindReads : Format → (row_work : ℕ) → (block_rows : List Posting → ℕ) → List Directive → (name text : List ℕ) → State → Work → Work → Type 0
FindReads format row_work block_rows profile name text s before after =
    IsStore s → (content : Content) → holds_in format s.now.trees content
    → (plan : PlanValue) × IsPlanOf profile text plan × PlanReads row_work block_rows plan name s.now.trees content before after

-- what a find does on any tables of a store: it changes nothing, goes by the texts of the store, is answered by the postings where the
-- tables hold a content, and of a ready register is refused only by the definition, for damage in what it asks for or a stray entry, or
-- by a failure
pub record FindDoes (format : Format) (c : Conditions) (name query : List ℕ) (first count : ℕ) (old new : State) (answer : Result Reply Refusal) : Type 0 where
  -- nothing changes, and the store fails only for a cause; and so it is of each command that only asks
  pub looks : OnlyLooks old new answer
  pub ready : GoesByTexts c.version c.profile old answer
  -- Where the tables hold a content it is answered by the registers. Of a ready register it is refused by the definition, read so, or for
  -- damage in a row that it has to read, as where a hit has no record to show.
  pub alone : FindAlone format c.profile name query first count old answer
  -- Also where they hold none, it is refused by the definition, for damage in a row that it has to read, or by a failure; and answered, it
  -- counts the hits that the units and counts tell, and shows each that is wanted as a record that is kept under it.
  pub told : UnlessHidden c.version c.profile (FindOver format c.profile name query first count)
      (HidesFind format c.profile name query first count) old answer
