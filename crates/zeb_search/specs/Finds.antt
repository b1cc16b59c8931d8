-- What a search answers and when it is refused, whatever rows the tables have: step by step, by the units and the counts of the entries
-- that a step asks for. Where the tables hold a content, this is what `Holds` says of its postings.
use Rattle.std.specs.Prelude.{◌≡◌, ◌≢◌, ◌⊎◌, ◌+◌, ◌≤◌, ℕ, ℤ, Bool, true, pos, List, [], ◌∷◌}
use Rattle.sqlite.specs.Tree.{Trees}
use Rattle.sqlite_rules.specs.Lists.{Has}
use Rattle.zeb_text.specs.Symbols.{Symbol}
use Rattle.zeb_keys.specs.declared.Register.{Register}
use Rattle.zeb_keys.specs.declared.Register.TheVariants as register
use Rattle.zeb_keys.specs.declared.keys.Key.{Key}
use Rattle.zeb_query.specs.Plans.{PlanValue, TermOf, PairOf, NearOf, TermPlanValue, RecordNumberOf, NoWordsOf, AlwaysOf, NumberOf, OrderedOf, CompleteOf, PhraseOf, AllWordsOf, AnyWordOf}
use Rattle.zeb_query.specs.declared.plans.Separation.{Separation}
use Rattle.zeb_register.specs.declared.registers.Place.{Place}
use Rattle.zeb_register.specs.Between.{IsBetween}
use Rattle.zeb_register.specs.Content.{Posting}
use Rattle.zeb_register.specs.Formats.{Format}
use Rattle.zeb_register.specs.Kept.{AreReadableIdents}
use Rattle.zeb_register.specs.Occurring.{key_in}
use Rattle.zeb_register.specs.Terms.{HidesSome, shows_count}
use Rattle.zeb_register.specs.Units.{counts_as, has_malformed, is_whole, reads_as}
use Rattle.zeb_search.specs.Comparing.{AreSeparated, StandsInOrder}
use Rattle.zeb_search.specs.Holds.{AreJoined, Fits, IsNumberAt}
use Rattle.zeb_search.specs.Lists.{AreNumbers}
use Rattle.zeb_search.specs.Registers.{is_kept_in}
use Rattle.zeb_search.specs.SearchCounts.{HasNoStar, IsOneKey}

-- ---- lists of postings

-- the record has a posting of the list
abbrev pub HasPosting : List Posting → ℕ → Type 0
HasPosting list n = (p : Posting) × Has list p × (p.sysno ≡ n)

-- from this place of a unit on, a posting of each list stands behind the one before
abbrev pub Follow : List (List Posting) → (n seq at : ℕ) → Type 0
Follow [] n seq at = Unit {0}
Follow (list ∷ lists) n seq at = Has list (record { sysno = n; seq = seq; pos = at }) × Follow lists n seq (1 + at)

-- the record has such a place of some lists; `first` asks that it is the first of its unit
abbrev pub HasRun : List (List Posting) → Bool → ℕ → Type 0
HasRun lists first n = (lists ≢ []) × (seq : ℕ) × (at : ℕ) × (first ≡ true → at ≡ 1) × Follow lists n seq at

-- the record has a posting of each of some lists, and there is a list
abbrev pub HasEach : List (List Posting) → ℕ → Type 0
HasEach lists n = (lists ≢ []) × ((list : List Posting) → Has lists list → HasPosting list n)

-- the record has a posting of one of some lists
abbrev pub HasSome : List (List Posting) → ℕ → Type 0
HasSome lists n = (list : List Posting) × Has lists list × HasPosting list n

-- two postings of one record and one unit
abbrev pub ShareUnit : Posting → Posting → Type 0
ShareUnit p q = (p.sysno ≡ q.sysno) × (p.seq ≡ q.seq)

-- the record has a posting of each list in one unit, and the two are separated so
abbrev pub IsNear : Separation → List Posting → List Posting → ℕ → Type 0
IsNear separation left right n =
    (p : Posting) × (q : Posting) × Has left p × Has right q × (p.sysno ≡ n) × ShareUnit p q × AreSeparated separation p.pos q.pos

module _ (format : Format) (trees : Trees) (db : ℤ) where
  -- ---- one key

  -- the record of the posting has the key at its place: the unit reads as places among which this one is
  abbrev pub Occurs : Key → Posting → Type 0
  Occurs key p = (places : List Place) × reads_as format trees db key p.sysno places × Has places (record { seq = p.seq; pos = p.pos })

  -- the list has all postings of the key, and each row of the key is of a unit that reads
  pub record HasAll (key : Key) (list : List Posting) : Type 0 where
    pub whole : is_whole format trees db key
    pub has : (p : Posting) → Occurs key p → Has list p

  -- some record is counted for the key
  abbrev pub IsCounted : Key → Type 0
  IsCounted key = (records : ℕ) × (1 ≤ records) × counts_as format trees db key records

  -- ---- the entries of a register that are P, which a step asks for by their name, or by what the register's counts show

  module _ (IsNamed : Type 0) (index : ℕ) (register : Register) (P : List ℕ → Type 0) where
    -- the count shows the entry, and it is asked for
    abbrev pub IsShown : List ℕ → Type 0
    IsShown term = P term × IsCounted (key_in index register term)

    -- No record is counted for the entry, and it stands between two that are shown. No change leaves such an entry with a row; where there
    -- is one, its rows may be read with those beside it.
    abbrev pub IsStray : List ℕ → Type 0
    IsStray term = counts_as format trees db (key_in index register term) 0
        × (first : List ℕ) × (last : List ℕ) × IsShown first × IsShown last × IsBetween first last term

    -- the rows of the entry may be read
    abbrev pub IsReached : List ℕ → Type 0
    IsReached term = (IsNamed × P term) ⊎ ((¬ IsNamed) × (IsShown term ⊎ IsStray term))

    -- the list has all postings of each entry that is named; or of each that is shown, and all counts that are asked for can be shown
    abbrev pub HasAsked : List Posting → Type 0
    HasAsked list =
        (IsNamed × ((term : List ℕ) → P term → HasAll (key_in index register term) list))
        ⊎ ((¬ IsNamed) × ((term : List ℕ) → P term → (records : ℕ) × shows_count format trees db (key_in index register term) records
        × (1 ≤ records → HasAll (key_in index register term) list)))

    -- the list has these postings, and others at most of stray entries
    pub record ReadsEntries (list : List Posting) : Type 0 where
      pub asked : HasAsked list
      pub each : (p : Posting) → Has list p → (term : List ℕ) × IsReached term × Occurs (key_in index register term) p

    -- the numbers are those of the records that have one of these postings
    abbrev pub FindsEntries : List ℕ → Type 0
    FindsEntries hits = (list : List Posting) × ReadsEntries list × AreNumbers (HasPosting list) hits

    -- a row of an entry that may be read is malformed, or of no unit; or, where counts are read, one of the register can't be shown
    abbrev pub HidesEntries : Type 0
    HidesEntries = ((¬ IsNamed) × HidesSome format trees db index register)
        ⊎ ((term : List ℕ) × IsReached term × has_malformed format trees db (key_in index register term))

  -- ---- words

  -- the words of an index that a pattern matches
  abbrev pub ReadsWord : ℕ → List Symbol → List Posting → Type 0
  ReadsWord index pattern = ReadsEntries (HasNoStar pattern) index register.Word (Fits pattern)

  -- the same, pattern by pattern
  abbrev pub ReadsWords : ℕ → List (List Symbol) → List (List Posting) → Type 0
  ReadsWords index [] [] = Unit {0}
  ReadsWords index (pattern ∷ patterns) (list ∷ lists) = ReadsWord index pattern list × ReadsWords index patterns lists
  ReadsWords index patterns lists = ⊥

  abbrev pub HidesWord : ℕ → List Symbol → Type 0
  HidesWord index pattern = HidesEntries (HasNoStar pattern) index register.Word (Fits pattern)

  abbrev pub HidesWords : ℕ → List (List Symbol) → Type 0
  HidesWords index patterns = (pattern : List Symbol) × Has patterns pattern × HidesWord index pattern

  -- the numbers are those that are Q by such lists
  abbrev pub FindsWords : (Q : List (List Posting) → ℕ → Type 0) → ℕ → List (List Symbol) → List ℕ → Type 0
  FindsWords Q index patterns hits = (lists : List (List Posting)) × ReadsWords index patterns lists × AreNumbers (Q lists) hits

  -- ---- terms and plans

  -- the numbers are those that one term of a plan finds
  abbrev pub TermFinds : TermPlanValue → List ℕ → Type 0
  TermFinds (RecordNumberOf number) hits = AreNumbers (λ n. (n ≡ number) × is_kept_in trees db n) hits
  TermFinds (NoWordsOf index register) hits = AreNumbers (λ _. ⊥) hits
  TermFinds (AlwaysOf index register) hits = FindsEntries ⊥ index register (λ _. Unit {0}) hits
  TermFinds (NumberOf index relation number) hits = FindsEntries (IsOneKey relation number) index register.Number (IsNumberAt relation number) hits
  TermFinds (OrderedOf index register relation start) hits = FindsEntries ⊥ index register (λ term. StandsInOrder relation term start) hits
  TermFinds (CompleteOf index pattern) hits = FindsEntries (HasNoStar pattern) index register.Phrase (Fits pattern) hits
  TermFinds (PhraseOf index patterns first) hits = FindsWords (λ lists. HasRun lists first) index patterns hits
  TermFinds (AllWordsOf index patterns) hits = FindsWords HasEach index patterns hits
  TermFinds (AnyWordOf index patterns) hits = FindsWords HasSome index patterns hits

  -- something that the term asks for is malformed, or a row of a stray entry between two of these is
  abbrev pub TermHides : TermPlanValue → Type 0
  TermHides (RecordNumberOf number) = ¬ AreReadableIdents trees db (pos number)
  TermHides (NoWordsOf index register) = ⊥
  TermHides (AlwaysOf index register) = HidesEntries ⊥ index register (λ _. Unit {0})
  TermHides (NumberOf index relation number) = HidesEntries (IsOneKey relation number) index register.Number (IsNumberAt relation number)
  TermHides (OrderedOf index register relation start) = HidesEntries ⊥ index register (λ term. StandsInOrder relation term start)
  TermHides (CompleteOf index pattern) = HidesEntries (HasNoStar pattern) index register.Phrase (Fits pattern)
  TermHides (PhraseOf index patterns first) = HidesWords index patterns
  TermHides (AllWordsOf index patterns) = HidesWords index patterns
  TermHides (AnyWordOf index patterns) = HidesWords index patterns

  -- the same of a plan
  abbrev pub PlanFinds : PlanValue → List ℕ → Type 0
  PlanFinds (TermOf plan) hits = TermFinds plan hits
  PlanFinds (PairOf operator left right) hits = (lefts : List ℕ) × (rights : List ℕ) × PlanFinds left lefts × PlanFinds right rights
      × AreNumbers (λ n. AreJoined operator (Has lefts n) (Has rights n)) hits
  PlanFinds (NearOf index left right separation) hits = (lefts : List Posting) × (rights : List Posting)
      × ReadsWord index left lefts × ReadsWord index right rights × AreNumbers (IsNear separation lefts rights) hits

  -- an entry that a plan asks for, or a stray one, has a malformed row; or a count can't be shown in a register whose counts it reads; or a record
  -- that it asks for by number has an identifier that isn't UTF-8
  abbrev pub PlanHides : PlanValue → Type 0
  PlanHides (TermOf plan) = TermHides plan
  PlanHides (PairOf operator left right) = PlanHides left ⊎ PlanHides right
  PlanHides (NearOf index left right separation) = HidesWords index (left ∷ right ∷ [])
