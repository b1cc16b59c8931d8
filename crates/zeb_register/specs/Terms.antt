-- What calls tell of the terms of a register by their counts, on any rows of a store and in each format.
use Rattle.std.specs.Prelude.{◌≡◌, ◌≢◌, ◌↔◌, ◌⊎◌, ◌<◌, ◌≤◌, ◌*◌, ℕ, ℤ, List, [], ◌∷◌, Result, Vec, length, sum_by, IsUtf8}
use Rattle.std.specs.declared.alloc.Global.{Global}
use Rattle.std.specs.declared.cmp.Ordering.TheVariants.{Less}
use Rattle.std.specs.Ordering.{nat_cmp}
use Rattle.std.specs.Cmp.Lexicographic.{slice_cmp}
use Rattle.std.specs.List.Sorted.{IsStrictlySortedBy}
use Rattle.sqlite.specs.State.{State}
use Rattle.sqlite.specs.Tree.{Trees}
use Rattle.sqlite_rules.specs.Lists.{Has}
use Rattle.zeb_blocks.specs.declared.postings.Posting.{Posting}
use Rattle.zeb_keys.specs.declared.Register.{Register}
use Rattle.zeb_keys.specs.declared.keys.Key.{Key}
use Rattle.zeb_register.specs.declared.faults.RegFault.{RegFault}
use Rattle.zeb_register.specs.declared.registers.Place.{Place}
use Rattle.zeb_register.specs.declared.registers.RegisterOf.{RegisterOf}
use Rattle.zeb_register.specs.declared.registers.TermCount.{TermCount}
use Rattle.zeb_register.specs.declared.registers.Totals.{Totals}
use Rattle.zeb_register.specs.declared.registers.Work.{Work}
use Rattle.zeb_register.specs.Answers.{LooksInto}
use Rattle.zeb_register.specs.Formats.{Format}
use Rattle.zeb_register.specs.Occurring.{Spot, capped, key_in, spot_cmp, term_cmp}
use Rattle.zeb_register.specs.Units.{ListsUnits, counts_as, has_malformed, is_whole, reads_as}
use Rattle.zeb_register.specs.Tallies.{Works}
use Rattle.zeb_register.specs.Content.{posting_at}

-- so many records have the key, and where some have, its term is UTF-8
abbrev pub shows_count : Format → Trees → ℤ → Key → ℕ → Type 0
shows_count format trees db key records = counts_as format trees db key records × (1 ≤ records → IsUtf8 key.term)

-- one text comes before the other in the order of their bytes
abbrev pub Comes : List ℕ → List ℕ → Type 0
Comes text other = slice_cmp nat_cmp text other ≡ Less

module _ (format : Format) (trees : Trees) (db : ℤ) (index : ℕ) (register : Register) where
  -- the terms are those asked for that some record has, in the order of their bytes, each with its count
  pub record ListsCounts (IsAsked : List ℕ → Type 0) (terms : List TermCount) : Type 0 where
    pub rising : IsStrictlySortedBy term_cmp terms
    pub each : (t : TermCount) → Has terms t → IsAsked t.term × (1 ≤ t.records) × shows_count format trees db (key_in index register t.term) t.records
    pub others : (term : List ℕ) → IsAsked term → ((t : TermCount) → Has terms t → t.term ≢ term) → counts_as format trees db (key_in index register term) 0

  -- no count of the term can be shown
  abbrev pub HidesCount : List ℕ → Type 0
  HidesCount term = (records : ℕ) → ¬ shows_count format trees db (key_in index register term) records

  -- ---- all terms

  -- the list has all terms of the register that some record has, in the order of their bytes, with their counts
  abbrev pub ListsAll : List TermCount → Type 0
  ListsAll = ListsCounts (λ _. Unit {0})

  -- the count of some term can't be shown
  abbrev pub HidesSome : Type 0
  HidesSome = (term : List ℕ) × HidesCount term

  -- ---- the n terms on one side of a text that are nearest to it, or all where they are fewer

  module _ (IsOn : List ℕ → Type 0) (IsNearer : List ℕ → List ℕ → Type 0) (n : ℕ) where
    -- a term is asked for where fewer than n are listed, or one of these isn't nearer
    abbrev pub IsNearest : List TermCount → List ℕ → Type 0
    IsNearest terms term = IsOn term × ((length terms < n) ⊎ ((t : TermCount) × Has terms t × ¬ IsNearer t.term term))

    -- the n terms on one side of a text that are nearest to it, or all where they are fewer
    pub record ListsNearest (terms : List TermCount) : Type 0 where
      pub few : length terms ≤ n
      pub are : ListsCounts (IsNearest terms) terms

    -- the term is nearer than another, some record has it, and so many records can be shown
    abbrev pub IsShownNearer : List ℕ → TermCount → Type 0
    IsShownNearer term t = IsOn t.term × IsNearer t.term term × (1 ≤ t.records)
        × shows_count format trees db (key_in index register t.term) t.records

    -- the count of one of them can't be shown, and those of fewer than n nearer ones can
    pub record HidesNearest : Type 0 where
      pub term : List ℕ
      pub on : IsOn term
      pub hidden : HidesCount term
      pub few : (terms : List TermCount) → IsStrictlySortedBy term_cmp terms
          → ((t : TermCount) → Has terms t → IsShownNearer term t) → length terms < n

  -- the first n terms that don't come before the start
  abbrev pub ListsFrom : (start : List ℕ) → ℕ → List TermCount → Type 0
  ListsFrom start = ListsNearest (λ term. ¬ Comes term start) Comes

  -- the count of a term that doesn't come before the start can't be shown, and fewer than n terms nearer to the start have a count that can
  abbrev pub HidesFrom : (start : List ℕ) → ℕ → Type 0
  HidesFrom start = HidesNearest (λ term. ¬ Comes term start) Comes

  -- the last n terms that come before the start
  abbrev pub ListsBefore : (start : List ℕ) → ℕ → List TermCount → Type 0
  ListsBefore start = ListsNearest (λ term. Comes term start) (λ one other. Comes other one)

  -- the count of a term that comes before the start can't be shown, and fewer than n terms between the two have a count that can
  abbrev pub HidesBefore : (start : List ℕ) → ℕ → Type 0
  HidesBefore start = HidesNearest (λ term. Comes term start) (λ one other. Comes other one)

  -- ---- how many terms some record has, and how many postings they have

  -- the lists of these terms are those of their units
  abbrev pub AreListed : List TermCount → List (List Posting) → Type 0
  AreListed [] [] = Unit {0}
  AreListed (t ∷ terms) (list ∷ lists) = ListsUnits format trees db (key_in index register t.term) list × AreListed terms lists
  AreListed terms lists = ⊥

  -- Each row of these terms is of a unit. Each place that these units have stands once among the spots, and no other does.
  pub record SumsUp (totals : Totals) : Type 0 where
    pub all : List TermCount
    pub are : ListsAll all
    pub terms : totals.terms ≡ capped (length all)
    pub whole : (t : TermCount) → Has all t → is_whole format trees db (key_in index register t.term)
    pub spots : List Spot
    pub rising : IsStrictlySortedBy spot_cmp spots
    pub under : (spot : Spot) → Has spots spot → (t : TermCount) × Has all t × (t.term ≡ spot.0)
    pub told : (t : TermCount) → Has all t → (sysno : ℕ) (places : List Place) → reads_as format trees db (key_in index register t.term) sysno places
        → (place : Place) → Has spots (t.term, posting_at sysno place) ↔ Has places place
    pub occurrences : totals.occurrences ≡ capped (length spots)

  -- the count of a term can't be shown, or a row of one that some record has is malformed
  abbrev pub HidesSums : Type 0
  HidesSums = (term : List ℕ) × (HidesCount term ⊎ ((¬ counts_as format trees db (key_in index register term) 0) × has_malformed format trees db (key_in index register term)))

-- ---- a call that changes nothing tells the terms, or is refused

-- a call that changes nothing tells all terms of the register, or is refused as Damaged only where a term's count can't be shown
abbrev pub TellsAll : Format → RegisterOf → State → State → Result (Vec TermCount Global) RegFault → Type 0
TellsAll format at = LooksInto (λ trees. HidesSome format trees at.db.0 at.index at.register)
    (λ (trees : Trees) (list : Vec TermCount Global). ListsAll format trees at.db.0 at.index at.register list.items)

-- a call that changes nothing tells the first n terms that don't come before the start, or is refused as Damaged only where a count can't be shown
-- on the way to the last of them
abbrev pub TellsFrom : Format → RegisterOf → (start : List ℕ) → ℕ → State → State → Result (Vec TermCount Global) RegFault → Type 0
TellsFrom format at start n = LooksInto (λ trees. HidesFrom format trees at.db.0 at.index at.register start n)
    (λ (trees : Trees) (list : Vec TermCount Global). ListsFrom format trees at.db.0 at.index at.register start n list.items)

-- a call that changes nothing tells the last n terms that come before the start, or is refused as Damaged only where a count can't be shown on the
-- way to the first of them
abbrev pub TellsBefore : Format → RegisterOf → (start : List ℕ) → ℕ → State → State → Result (Vec TermCount Global) RegFault → Type 0
TellsBefore format at start n = LooksInto (λ trees. HidesBefore format trees at.db.0 at.index at.register start n)
    (λ (trees : Trees) (list : Vec TermCount Global). ListsBefore format trees at.db.0 at.index at.register start n list.items)

-- a call that changes nothing tells the totals of a register, or is refused as Damaged only where a term's count can't be shown, or a row of a term
-- that some record has is malformed
abbrev pub TellsTotals : Format → RegisterOf → State → State → Result Totals RegFault → Type 0
TellsTotals format at = LooksInto (λ trees. HidesSums format trees at.db.0 at.index at.register) (λ trees totals. SumsUp format trees at.db.0 at.index at.register totals)

-- each count that is read counts once, and each row of the lists of these terms
abbrev pub WorksThrough : Format → (row_work : ℕ) → (rows : List Posting → ℕ) → RegisterOf → Trees → Work → Work → Type 0
WorksThrough format row_work rows at trees old new = (terms : List TermCount) (lists : List (List Posting)) → ListsAll format trees at.db.0 at.index at.register terms
    → AreListed format trees at.db.0 at.index at.register terms lists → Works (row_work * length terms) 0 (sum_by rows lists) 0 old new
