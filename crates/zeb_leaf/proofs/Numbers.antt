-- How many bytes numbers and entries take.
use Rattle.zeb_leaf.proofs.Cited.{◌≡◌, ℕ, zero, suc, ◌+◌, ◌-◌, ◌/◌, ◌%◌, ◌<◌, ◌≤◌, List, [], ◌∷◌, ◌++◌, length, drop, refl, ap, inl, inr, arith, cases_lt, length-append, length-drop, Entry, shared_of, behind_entry, last_place, Walk, Steps, groups-one, groups-high, length-uleb, uleb-low}
use Rattle.zeb_blocks.specs.Numbers.{groups, uleb}
use Rattle.zeb_leaf.specs.Leaves.{counted, entry_bytes, entries_bytes}
use Rattle.zeb_leaf.proofs.OneEntry.{shared-le}

pub length-counted : (xs : List ℕ) → length (counted xs) ≡ length (uleb (length xs)) + length xs
unfolding counted
length-counted xs = length-append (uleb (length xs)) xs

pub entry_length : (before : List ℕ) (e : Entry) → length (entry_bytes before e)
    ≡ length (uleb (shared_of before e.term)) + (length (uleb (length e.term - shared_of before e.term)) + (length e.term - shared_of before e.term))
    + length (uleb e.block) + length (uleb e.records) + (length (uleb (length e.bytes)) + length e.bytes)
unfolding entry_bytes
entry_length before e =
    let n = shared_of before e.term in
    let rest = length-counted (drop n e.term) in
    let long : length (drop n e.term) ≡ length e.term - n = length-drop n e.term in
    let same = ap (λ (k : ℕ). length (uleb k) + k) long in
    omega (arith, length-append (uleb n) (counted (drop n e.term) ++ (uleb e.block ++ (uleb e.records ++ counted e.bytes))), length-append (counted (drop n e.term)) (uleb e.block ++ (uleb e.records ++ counted e.bytes)), length-append (uleb e.block) (uleb e.records ++ counted e.bytes), length-append (uleb e.records) (counted e.bytes), length-counted e.bytes)

-- ---- at most

pub entry_at_most : (before : List ℕ) (e : Entry) → length (entry_bytes before e) ≤ 50 + length e.term + length e.bytes
entry_at_most before e =
    let n = shared_of before e.term in
    omega (arith, entry_length before e, length-uleb n, length-uleb (length e.term - n), length-uleb e.block, length-uleb e.records, length-uleb (length e.bytes))

-- ---- at least

groups_last : (n : ℕ) → length (groups zero n) ≡ 1
unfolding groups
groups_last n = refl

groups_some : (more n : ℕ) → 1 ≤ length (groups more n)
groups_some zero n = omega (arith, groups_last n)
groups_some (suc more) n = elim (cases_lt n 128) [
  | inl low ↦ omega (arith, ap length (groups-one (suc more) n low))
  | inr high ↦ omega (arith, ap length (groups-high more n high))
]

pub uleb_some : (n : ℕ) → 1 ≤ length (uleb n)
unfolding uleb
uleb_some n = groups_some 9 n

pub entry_at_least : (before : List ℕ) (e : Entry) → 5 + length e.term ≤ length (entry_bytes before e) + length before
entry_at_least before e =
    let n = shared_of before e.term in
    omega (arith, entry_length before e, shared-le before e.term, uleb_some n, uleb_some (length e.term - n), uleb_some e.block, uleb_some e.records, uleb_some (length e.bytes))

pub entry_some : (before : List ℕ) (e : Entry) → 5 ≤ length (entry_bytes before e)
entry_some before e =
    let n = shared_of before e.term in
    omega (arith, entry_length before e, uleb_some n, uleb_some (length e.term - n), uleb_some e.block, uleb_some e.records, uleb_some (length e.bytes))

pub entries_some : (before : List ℕ) (e : Entry) (list : List Entry) → 5 ≤ length (entries_bytes before (e ∷ list))
unfolding entries_bytes
entries_some before e list = omega (arith, entry_some before e, length-append (entry_bytes before e) (entries_bytes e.term list))

-- a step leaves fewer bytes
pub step_shorter : (old new : Walk) (e : Entry) → Steps old e new → length new.left < length old.left
step_shorter old new e step = omega (arith, ap length step.spelled, length-append (entry_bytes old.place.term e) new.left, entry_some old.place.term e)

-- what the last term of entries has, they tell, or the term before them does
pub entries_at_least : (before : List ℕ) (e : Entry) (list : List Entry) → 5 + length (last_place (behind_entry e) list).term ≤ length (entries_bytes before (e ∷ list)) + length before
unfolding entries_bytes
entries_at_least before e [] = omega (arith, entry_at_least before e, length-append (entry_bytes before e) [])
entries_at_least before e (f ∷ list) = omega (arith, entry_at_least before e, entries_at_least e.term f list, length-append (entry_bytes before e) (entries_bytes e.term (f ∷ list)))

-- ---- an entry that is told whole

groups_part : (more n : ℕ) → length (groups more (n / 128)) ≤ length (groups (suc more) n)
groups_part more n = elim (cases_lt n 128) [
  | inl low ↦ let none : n / 128 < 128 = omega arith in omega (arith, ap length (groups-one more (n / 128) none), groups_some (suc more) n)
  | inr high ↦ omega (arith, ap length (groups-high more n high))
]

-- what a sum has above its lowest group, with what is carried
carried : (n a b carry : ℕ) → carry ≤ 1 → n ≡ a + b + carry → (more : ℕ) × (more ≤ 1) × (n / 128 ≡ a / 128 + b / 128 + more)
carried n a b carry small sum = ((a % 128 + b % 128 + carry) / 128, omega arith, omega arith)

-- a sum takes no more bytes than its parts
groups_joined : (more n a b carry : ℕ) → carry ≤ 1 → n ≡ a + b + carry → length (groups more n) ≤ length (groups more a) + length (groups more b)
groups_joined zero n a b carry small sum = omega (arith, groups_last n, groups_some zero a, groups_some zero b)
groups_joined (suc more) n a b carry small sum =
    let (next, few, is) = carried n a b carry small sum in
    let behind = groups_joined more (n / 128) (a / 128) (b / 128) next few is in
    elim (cases_lt n 128) [
      | inl low ↦ omega (arith, ap length (groups-one (suc more) n low), groups_some (suc more) a, groups_some (suc more) b)
      | inr high ↦ let whole = ap length (groups-high more n high) in elim (cases_lt a 128) [
        | inr a_high ↦ omega (arith, whole, behind, ap length (groups-high more a a_high), groups_part more b)
        | inl a_low ↦ elim (cases_lt b 128) [
          | inr b_high ↦ omega (arith, whole, behind, ap length (groups-high more b b_high), groups_part more a)
          | inl b_low ↦
              let one : n / 128 < 128 = omega arith in
              omega (arith, whole, ap length (groups-one more (n / 128) one), groups_some (suc more) a, groups_some (suc more) b)
        ]
      ]
    ]

uleb_joined : (n a b : ℕ) → n ≡ a + b → length (uleb n) ≤ length (uleb a) + length (uleb b)
unfolding uleb
uleb_joined n a b sum = groups_joined 9 n a b 0 (omega arith) (omega arith)

-- told whole, an entry takes at most one byte more than it shares
entry_whole : (before : List ℕ) (e : Entry) → length (entry_bytes [] e) ≤ length (entry_bytes before e) + length before + 1
entry_whole before e =
    let n = shared_of before e.term in
    let within = shared-le before e.term in
    let nothing : length e.term - 0 ≡ length e.term = omega arith in
    let alone = rw nothing at (entry_length [] e) in
    let zero_byte = ap length (uleb-low 0 (omega arith)) in
    let joined = uleb_joined (length e.term) n (length e.term - n) (omega (arith, within.1)) in
    omega (arith, alone, entry_length before e, within.0, within.1, zero_byte, joined)

pub entries_whole : (before : List ℕ) (e : Entry) (list : List Entry) → length (entries_bytes [] (e ∷ list)) ≤ length (entries_bytes before (e ∷ list)) + length before + 1
unfolding entries_bytes
entries_whole before e list = omega (arith, entry_whole before e, length-append (entry_bytes before e) (entries_bytes e.term list), length-append (entry_bytes [] e) (entries_bytes e.term list))
