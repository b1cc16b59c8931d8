-- What a register has of a set of occurrences: its terms, each with the number of records that have it (Z39.50, Scan), and how many
-- terms and occurrences there are. A set of occurrences says of a record's number and an occurrence whether the record has it: by the
-- postings of the registers, or by the bytes of kept records. No table is named here.
use Rattle.std.specs.Prelude.{◌≡◌, ◌↔◌, ◌-◌, ◌^◌, ℕ, Bool, not, List, filter, take, drop, length, min}
use Rattle.std.specs.declared.cmp.Ordering.{Ordering}
use Rattle.std.specs.Ordering.{nat_cmp, ordering_then, is_lt}
use Rattle.std.specs.Cmp.Lexicographic.{slice_cmp}
use Rattle.std.specs.List.Sorted.{IsStrictlySortedBy}
use Rattle.sqlite_rules.specs.Lists.{Has}
use Rattle.zeb_keys.specs.declared.keys.Key.{Key}
use Rattle.zeb_keys.specs.declared.keys.Occurrence.{Occurrence}
use Rattle.zeb_keys.specs.declared.Register.{Register}
use Rattle.zeb_blocks.specs.declared.postings.Posting.{Posting}
use Rattle.zeb_register.specs.declared.registers.TermCount.{TermCount}
use Rattle.zeb_register.specs.declared.registers.Totals.{Totals}
use Rattle.zeb_register.specs.Content.{posting_cmp}

-- just so many numbers are P
pub record IsCount (P : ℕ → Type 0) (count : ℕ) : Type 0 where
  pub numbers : List ℕ
  pub rising : IsStrictlySortedBy nat_cmp numbers
  pub each : (n : ℕ) → Has numbers n ↔ P n
  pub count_is : count ≡ length numbers

-- a term's key in a register of an index
abbrev pub key_in : ℕ → Register → List ℕ → Key
key_in index register term = record { index = index; register = register; term = term }

-- the record of this number has the key somewhere
abbrev pub HasKey : (ℕ → Occurrence → Type 0) → Key → ℕ → Type 0
HasKey O key n = (o : Occurrence) × O n o × (o.key ≡ key)

abbrev pub term_cmp : TermCount → TermCount → Ordering
term_cmp s t = slice_cmp nat_cmp s.term t.term

-- these are the terms that P has with some number, each once and in the order of their bytes, with how many numbers P has with them
pub record AreCounts (P : List ℕ → ℕ → Type 0) (terms : List TermCount) : Type 0 where
  pub rising : IsStrictlySortedBy term_cmp terms
  pub found : (term : List ℕ) (n : ℕ) → P term n → (t : TermCount) × Has terms t × (t.term ≡ term)
  pub some : (t : TermCount) → Has terms t → (n : ℕ) × P t.term n
  pub counts : (t : TermCount) → Has terms t → IsCount (P t.term) t.records

-- a term, and a place where a record has it
abbrev pub Spot : Type 0
Spot = List ℕ × Posting

abbrev pub spot_cmp : Spot → Spot → Ordering
spot_cmp a b = ordering_then (slice_cmp nat_cmp a.0 b.0) (posting_cmp a.1 b.1)

abbrev pub is_before : List ℕ → TermCount → Bool
is_before start t = is_lt (slice_cmp nat_cmp t.term start)

abbrev pub is_from : List ℕ → TermCount → Bool
is_from start t = not (is_before start t)

abbrev pub last : {X : Type 0} → ℕ → List X → List X
last n xs = drop (length xs - n) xs

-- the greatest value that stands for all above it
abbrev pub capped : ℕ → ℕ
capped n = min n (2 ^ 64 - 1)

-- one register of a set of occurrences
module _ (O : ℕ → Occurrence → Type 0) (index : ℕ) (register : Register) where
  -- the record of this number has the term there
  abbrev pub TermIn : List ℕ → ℕ → Type 0
  TermIn term = HasKey O (key_in index register term)

  -- the terms that some record has there, each once and in the order of their bytes, with the number of records that have it
  abbrev pub AreTermsOf : List TermCount → Type 0
  AreTermsOf = AreCounts TermIn

  -- the first n of the terms that are not below the start
  pub record AreTermsFrom (start : List ℕ) (n : ℕ) (terms : List TermCount) : Type 0 where
    pub all : List TermCount
    pub are : AreTermsOf all
    pub is : terms ≡ take n (filter (is_from start) all)

  -- the last n of the terms that are below the start
  pub record AreTermsBefore (start : List ℕ) (n : ℕ) (terms : List TermCount) : Type 0 where
    pub all : List TermCount
    pub are : AreTermsOf all
    pub is : terms ≡ last n (filter (is_before start) all)

  -- the record of the place's number has the term there at this place
  abbrev pub HasSpot : Spot → Type 0
  HasSpot spot = O spot.1.sysno (record { key = key_in index register spot.0; seq = spot.1.seq; pos = spot.1.pos })

  -- all such places, each once
  pub record AreSpotsOf (spots : List Spot) : Type 0 where
    pub rising : IsStrictlySortedBy spot_cmp spots
    pub each : (spot : Spot) → Has spots spot ↔ HasSpot spot

  -- how many terms are there, and how many occurrences
  pub record AreTotals (totals : Totals) : Type 0 where
    pub all : List TermCount
    pub are : AreTermsOf all
    pub terms : totals.terms ≡ capped (length all)
    pub spots : List Spot
    pub stand : AreSpotsOf spots
    pub occurrences : totals.occurrences ≡ capped (length spots)
