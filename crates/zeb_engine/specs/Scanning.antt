-- What a scan answers of a set of occurrences (Z39.50, Scan): the terms of a register around a start, each with the number of records that
-- have it. Read with the bytes of all kept records, from nothing, it tells what a scan answers; read with the postings of the registers,
-- what it answers by the registers alone.
use Rattle.sqlite.specs.State.{State}
use Rattle.sqlite.specs.Tree.{Trees}
use Rattle.std.specs.Prelude.{◌≡◌, ◌⊎◌, ℕ, ◌+◌, ◌-◌, List, ◌++◌, Result, Ok, Err, map, filter, take, ℤ, ◌≤◌, ◌*◌}
use Rattle.zeb_change.specs.Conditions.{Conditions}
use Rattle.zeb_change.specs.Refused.{diagnostic}
use Rattle.zeb_change.specs.declared.refusals.Refusal.{Refusal}
use Rattle.zeb_engine.specs.Answers.{Answer, scanned, refused}
use Rattle.zeb_engine.specs.Asking.{IsAsked, OfDatabase, Alone, Said}
use Rattle.zeb_engine.specs.Causes.{OnlyLooks}
use Rattle.zeb_engine.specs.Hidden.{UnlessHidden, HidesOf}
use Rattle.zeb_engine.specs.Readiness.{GoesByTexts}
use Rattle.zeb_engine.specs.declared.replies.Reply.{Reply}
use Rattle.zeb_keys.specs.declared.keys.Occurrence.{Occurrence}
use Rattle.zeb_profile.specs.declared.directives.Directive.{Directive}
use Rattle.zeb_query.specs.Checks.{Refusal as QueryRefusal}
use Rattle.zeb_query.specs.Grammar.{QueryValue, SpellsQuery}
use Rattle.zeb_query.specs.Places.{IsReadable}
use Rattle.zeb_query.specs.Plans.{ScanValue, scan_of}
use Rattle.zeb_register.specs.Content.{Content, posted}
use Rattle.zeb_register.specs.Formats.{Format, holds_in}
use Rattle.zeb_register.specs.Occurring.{AreTermsOf, is_before, is_from, last}
use Rattle.zeb_register.specs.Store.{IsStore}
use Rattle.zeb_register.specs.Terms.{HidesBefore, HidesFrom, ListsBefore, ListsFrom}
use Rattle.zeb_register.specs.declared.registers.TermCount.{TermCount}
use Rattle.zeb_register.specs.declared.registers.Work.{Work}
use Rattle.zeb_search.specs.SearchCounts.{CountsAtMost}

-- The position - 1 nearest terms below the start, as far as there are, and behind them the first ones that are not below it,
-- number - position + 1 of them.
abbrev pub around : ℕ → ℕ → List ℕ → List TermCount → List TermCount
around number position start all = last (position - 1) (filter (is_before start) all) ++ take (number + 1 - position) (filter (is_from start) all)

-- the terms around the start of a plan, among all that a set of occurrences `O` has in its register
pub record AreAround (O : ℕ → Occurrence → Type 0) (plan : ScanValue) (number position : ℕ) (terms : List TermCount) : Type 0 where
  pub all : List TermCount
  pub are : AreTermsOf O plan.index plan.register all
  pub is : terms ≡ around number position plan.start all

-- the text spells a query that has this plan for a scan
abbrev pub IsScanPlanOf : List Directive → List ℕ → ScanValue → Type 0
IsScanPlanOf profile text plan = (query : QueryValue) × SpellsQuery text query × (scan_of profile query ≡ Ok plan)

-- `AreTerms` tells which terms are answered of a plan
module _ (AreTerms : ScanValue → ℕ → ℕ → List TermCount → Type 0) where
  abbrev pub IsScannedFrom : ScanValue → ℕ → ℕ → Answer → Type 0
  IsScannedFrom plan number position answer =
      (terms : List TermCount) × AreTerms plan number position terms × (answer ≡ scanned plan.register (map (λ t. (t.term, t.records)) terms))

  -- a query that has no plan for a scan is refused by its first diagnostic
  abbrev pub IsScanPlannedBy : Result ScanValue QueryRefusal → ℕ → ℕ → Answer → Type 0
  IsScanPlannedBy (Err e) number position answer = answer ≡ refused (diagnostic e.number e.place e.addinfo)
  IsScanPlannedBy (Ok plan) number position answer = IsScannedFrom plan number position answer

  -- the answer to a query's text: the text spells one query
  abbrev pub IsScannedBy : List Directive → List ℕ → ℕ → ℕ → Answer → Type 0
  IsScannedBy profile text number position answer = (query : QueryValue) × SpellsQuery text query × IsScanPlannedBy (scan_of profile query) number position answer

-- the same over a set of occurrences: the terms are those around the start
module _ (O : ℕ → Occurrence → Type 0) where
  abbrev pub IsScanPlanned : Result ScanValue QueryRefusal → ℕ → ℕ → Answer → Type 0
  IsScanPlanned = IsScanPlannedBy (AreAround O)

  -- a scan over a set of occurrences: the text spells a query, and one without a plan for a scan is refused by its first diagnostic.
  -- Else it answers terms that some record has in the plan's register, each with how many records have it: the position - 1 nearest
  -- below the start, as far as there are, and behind them the first number + 1 - position that aren't below it
  abbrev pub IsScanned : List Directive → List ℕ → ℕ → ℕ → Answer → Type 0
  IsScanned = IsScannedBy (AreAround O)

-- ---- a command on any tables of a store

-- what a scan answers by the definition, read with the postings
abbrev pub ScanSays : List Directive → List ℕ → ℕ → ℕ → Said
ScanSays profile text number position trees content db last = IsScanned (posted content db) profile text number position

-- The terms are the last of the register below the start, and the first that aren't, as their counts say.
pub record TellsAround (format : Format) (trees : Trees) (db : ℤ) (plan : ScanValue) (number position : ℕ) (terms : List TermCount) : Type 0 where
  pub below : List TermCount
  pub rest : List TermCount
  pub before : ListsBefore format trees db plan.index plan.register plan.start (position - 1) below
  pub from : ListsFrom format trees db plan.index plan.register plan.start (number + 1 - position) rest
  pub joined : terms ≡ below ++ rest

-- a scan answers the terms around its start as the counts tell them, of the register that its query asks for, or is refused by its
-- query's meaning
abbrev pub ScanTells : Format → List Directive → (text : List ℕ) → (number position : ℕ) → Trees → OfDatabase
ScanTells format profile text number position trees db last = IsScannedBy (TellsAround format trees db) profile text number position

-- on any tables a scan is answered by the first refusal of the definition, or by the terms that the counts tell
abbrev pub ScanOver : Format → List Directive → (name text : List ℕ) → (number position : ℕ) → Trees → Answer → Type 0
ScanOver format profile name text number position trees = IsAsked (ScanTells format profile text number position trees) name text trees

-- the count of one of these terms can't be shown
abbrev pub HidesAround : Format → Trees → (db : ℤ) → ScanValue → (number position : ℕ) → Type 0
HidesAround format trees db plan number position =
    HidesBefore format trees db plan.index plan.register plan.start (position - 1)
    ⊎ HidesFrom format trees db plan.index plan.register plan.start (number + 1 - position)

-- the query has a plan for a scan, and so it is of the terms that this asks for
abbrev pub HidesPlanned : Format → List Directive → (text : List ℕ) → (number position : ℕ) → Trees → (db : ℤ) → Type 0
HidesPlanned format profile text number position trees db =
    (plan : ScanValue) × IsScanPlanOf profile text plan × HidesAround format trees db plan number position

-- the query is read, and then the database can't be, or such a count of it can't be shown
abbrev pub HidesTerms : Format → List Directive → (name text : List ℕ) → (number position : ℕ) → Trees → Type 0
HidesTerms format profile name text number position trees = IsReadable text × HidesOf (HidesPlanned format profile text number position trees) name trees

-- where the start is at one of the places that are asked for, at most as many terms count as read as are asked for and one more, and nothing else
abbrev pub ScanCounts : ℕ → ℕ → ℕ → Work → Work → Type 0
ScanCounts row_work number position before after = 1 ≤ position → position ≤ number → CountsAtMost (row_work * (number + 1)) 0 before after

-- so it is on the tables of a store that hold a content
abbrev pub ScanReads : Format → ℕ → ℕ → ℕ → State → Work → Work → Type 0
ScanReads format row_work number position s before after =
    IsStore s → (content : Content) → holds_in format s.now.trees content → ScanCounts row_work number position before after

-- what a scan does on any tables of a store: it changes nothing, goes by the texts of the store, is answered by the postings where the
-- tables hold a content, and of a ready register tells damage only where its database's last number or the count of a term that it asks
-- for can't be shown
pub record ScanDoes (format : Format) (c : Conditions) (name query : List ℕ) (number position : ℕ) (old new : State) (answer : Result Reply Refusal) : Type 0 where
  pub looks : OnlyLooks old new answer
  pub ready : GoesByTexts c.version c.profile old answer
  pub alone : Alone format (ScanSays c.profile query number position) name old answer
  -- Its terms are those that their counts say. It is refused as damage only where the row of the name can't be read, or the count of one of
  -- the terms that it asks for can't be shown.
  pub told : UnlessHidden c.version c.profile (ScanOver format c.profile name query number position)
      (HidesTerms format c.profile name query number position) old answer
