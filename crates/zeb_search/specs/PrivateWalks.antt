-- What only the contracts of private functions speak of; no public clause reaches it.
-- How postings stand to each other, as a walk over two lists of them meets them.
use Rattle.std.specs.Prelude.{◌≡◌, ◌⊎◌, ◌+◌, ◌-◌, ◌<◌, ◌≤◌, ℕ, Bool, false, List, Option, Some, None}
use Rattle.sqlite_rules.specs.Lists.{Has}
use Rattle.zeb_register.specs.Content.{Posting}
use Rattle.zeb_search.specs.declared.lists.Words.{Words}

abbrev pub words_between : (least greatest : ℕ) → Words
words_between least greatest = record { least = least; greatest = Some greatest }

abbrev pub words_from : (least : ℕ) → Words
words_from least = record { least = least; greatest = None }

-- the number is not above the greatest one, where there is one
abbrev pub IsUpTo : Option ℕ → ℕ → Type 0
IsUpTo None words = Unit {0}
IsUpTo (Some greatest) words = words ≤ greatest

-- the number of words is one of these
abbrev pub IsWithin : Words → ℕ → Type 0
IsWithin range words = (range.least ≤ words) × IsUpTo range.greatest words

abbrev pub IsWithinSome : Option Words → ℕ → Type 0
IsWithinSome None words = ⊥
IsWithinSome (Some range) words = IsWithin range words

-- q stands before the place that is `least` words behind p
abbrev pub IsBefore : (least : ℕ) → (q p : Posting) → Type 0
IsBefore least q p = (q.sysno < p.sysno) ⊎ ((q.sysno ≡ p.sysno) × ((q.seq < p.seq) ⊎ ((q.seq ≡ p.seq) × (q.pos < p.pos + least))))

-- q stands behind p in the same unit, so many words
abbrev pub IsBehind : Words → (q p : Posting) → Type 0
IsBehind range q p = (q.sysno ≡ p.sysno) × (q.seq ≡ p.seq) × (p.pos ≤ q.pos) × IsWithin range (q.pos - p.pos)

-- one of the others stands so behind the posting
abbrev pub HasWithin : Words → List Posting → Posting → Type 0
HasWithin range others p = (q : Posting) × Has others q × IsBehind range q p

-- the record has one of the postings behind which one of the others stands so
abbrev pub IsFollowed : Words → (postings others : List Posting) → ℕ → Type 0
IsFollowed range postings others n = (p : Posting) × (Has postings p × HasWithin range others p) × (p.sysno ≡ n)

-- the same of the right list behind the left one, and, where the order doesn't matter, the other way round
abbrev pub IsNearBy : Bool → Words → (left right : List Posting) → ℕ → Type 0
IsNearBy ordered range left right n = IsFollowed range left right n ⊎ ((ordered ≡ false) × IsFollowed range right left n)
