-- Where each block of a term reads as a list's part in it, the term's entries sum up to the records of the list.
use Rattle.zeb_register.proofs.Cited.{Row, Has, all_from, all_has, has_either, has_left, has_right, has_mapped, mapped_has, ◌≡◌, ◌≢◌, ◌↔◌, ◌∙◌, ◌/◌, ◌<◌, ◌++◌, ◌∷◌, ℕ, List, [], length, map, refl, sym, ap, subst, inl, inr, arith, Less, Equal, nat_cmp, nat_cmp_total, nat_list_cmp_total, slice_cmp, ordering_then, sum_by, tied_itself, length-append, Posting, numbers_apart, IsCount, part_in, sum_by-cons, ◌≤◌, IsEntry, entry_cmp, Entry, Covers, HasEntriesAt, ShowsEntries, leaf_key}
use Rattle.zeb_register.proofs.ContentLemmas.{some_posting}
use Rattle.zeb_register.proofs.CountLemmas.{is_less, less_is, one_count}
use Rattle.zeb_register.proofs.PackedLemmas.{in_part, not_empty, part_in_block, part_in_list}
use Rattle.zeb_register.proofs.RisingLists.{all_rise, all_there, joined_rises, with_all}
use Rattle.zeb_register.specs.Readings.{HasRecordOf, IsAt, IsEntryOf, PartReads, SaysPart, SumsRecords}
use Rattle.std.specs.List.Sorted.{IsStrictlySortedBy}
use Rattle.zeb_register.proofs.LeafReadings.{one_shown}

-- ---- entries of one term

-- of two entries of a term the one of the lower block comes first
pub entry_below : (term : List ℕ) (d e : Entry) → d.term ≡ term → e.term ≡ term → d.block < e.block → entry_cmp d e ≡ Less
entry_below term d e one two low =
    let terms : slice_cmp nat_cmp d.term e.term ≡ Equal = ap (λ t. slice_cmp nat_cmp t e.term) (one ∙ sym two) ∙ tied_itself nat_list_cmp_total e.term in
    ap (λ o. ordering_then o (nat_cmp d.block e.block)) terms ∙ less_is d.block e.block low

entry_level : (d e : Entry) → d.term ≡ e.term → d.block ≡ e.block → entry_cmp d e ≡ Equal
entry_level d e term block =
    ap (λ t. ordering_then (slice_cmp nat_cmp t e.term) (nat_cmp d.block e.block)) term ∙ ap (λ o. ordering_then o (nat_cmp d.block e.block)) (tied_itself nat_list_cmp_total e.term)
    ∙ ap (λ b. nat_cmp b e.block) block ∙ tied_itself nat_cmp_total e.block

-- rising entries have one at most for a block of a term
pub one_entry : (entries : List Entry) (d e : Entry) → IsStrictlySortedBy entry_cmp entries → Has entries d → Has entries e → d.term ≡ e.term → d.block ≡ e.block → d ≡ e
unfolding IsStrictlySortedBy
one_entry [] d e up here there term block = absurd here
one_entry (x ∷ xs) d e up (inl one) (inl two) term block = one ∙ sym two
one_entry (x ∷ xs) d e up (inl one) (inr later) term block =
    let less : entry_cmp d e ≡ Less = subst (λ (y : Entry). entry_cmp y e ≡ Less) (sym one) (all_has (λ z. entry_cmp x z ≡ Less) xs e up.0 later) in
    let tie = entry_level d e term block in
    absurd (cc)
one_entry (x ∷ xs) d e up (inr later) (inl two) term block =
    let less : entry_cmp e d ≡ Less = subst (λ (y : Entry). entry_cmp y d ≡ Less) (sym two) (all_has (λ z. entry_cmp x z ≡ Less) xs d up.0 later) in
    let tie = entry_level e d (sym term) (sym block) in
    absurd (cc)
one_entry (x ∷ xs) d e up (inr one) (inr two) term block = one_entry xs d e up.1 one two term block

none_rise : IsStrictlySortedBy entry_cmp []
unfolding IsStrictlySortedBy
none_rise = tt

-- what a leaf shows rises
pub shown_rises : (leaf : Row) (entries : List Entry) → ShowsEntries leaf entries → IsStrictlySortedBy entry_cmp entries
shown_rises leaf entries shows = elim shows.2 [ inl is ↦ is.rising | inr none ↦ subst (IsStrictlySortedBy entry_cmp) (sym none.1) none_rise ]

-- a key that has an entry is covered
pub leaf_there : (Leaves : Row → Type 0) (key : Row) (entries : List Entry) (e : Entry) → Has entries e → HasEntriesAt Leaves key entries → (leaf : Row) × Covers Leaves key leaf
leaf_there Leaves key entries e here at = elim at.covered [ inl it ↦ it | inr none ↦ absurd (subst (λ l. Has l e) none.0 here) ]

module _ (Leaves : Row → Type 0) (term : List ℕ) (list : List Posting) (reads : (block : ℕ) → PartReads Leaves term block (part_in block list)) where
  -- an entry of the term stands in what its block is read from
  held_in : (block : ℕ) (e : Entry) → e.block ≡ block → (is : IsEntryOf Leaves term e) → Has (reads block).0 e × ShowsEntries is.1 (reads block).0
  held_in block e at is =
      let covers : Covers Leaves (leaf_key term block) is.1 = subst (λ (b : ℕ). Covers Leaves (leaf_key term b) is.1) at is.3 in
      let shows = (reads block).1.shown is.1 covers in
      let same = one_shown is.1 is.2 (reads block).0 is.4 shows in
      (subst (λ (l : List Entry). Has l e) same is.5, shows)

  only_entry : (block : ℕ) (d e : Entry) → d.block ≡ block → e.block ≡ block → IsEntryOf Leaves term d → IsEntryOf Leaves term e → d ≡ e
  only_entry block d e one two left right =
      let first = held_in block d one left in
      let second = held_in block e two right in
      one_entry (reads block).0 d e (shown_rises left.1 (reads block).0 first.1) first.0 second.0 (left.0 ∙ sym right.0) (one ∙ sym two)

  -- it says the list's part in its block
  entry_says : (e : Entry) → IsEntryOf Leaves term e → SaysPart e (part_in e.block list)
  entry_says e is = (reads e.block).2.said e (held_in e.block e refl is).0 (is.0, refl)

  -- a block in which the list has a posting has one
  entry_in : (block : ℕ) → part_in block list ≢ [] → (e : Entry) × (e.block ≡ block) × IsEntryOf Leaves term e × SaysPart e (part_in block list)
  entry_in block some =
      let it = reads block in
      let found = it.2.there some in
      let e = found.0 in
      let at : IsAt term block e = found.2 in
      let leaf = leaf_there Leaves (leaf_key term block) it.0 e found.1 it.1 in
      let covers : Covers Leaves (leaf_key term e.block) leaf.0 = subst (λ (b : ℕ). Covers Leaves (leaf_key term b) leaf.0) (sym at.1) leaf.1 in
      (e, at.1, (at.0, leaf.0, it.0, covers, it.1.shown leaf.0 leaf.1, found.1), it.2.said e found.1 at)

  -- the entries of rising blocks, and the numbers of the records that the list has there
  record Gathered (blocks : List ℕ) : Type 0 where
    entries : List Entry
    rising : IsStrictlySortedBy entry_cmp entries
    each : (e : Entry) → Has entries e ↔ (Has blocks e.block × IsEntryOf Leaves term e)
    numbers : List ℕ
    up : IsStrictlySortedBy nat_cmp numbers
    are : (n : ℕ) → Has numbers n ↔ (Has blocks (n / 256) × HasRecordOf list n)
    sum : length numbers ≡ sum_by (λ (e : Entry). e.records) entries

  gathered_none : Gathered []
  unfolding IsStrictlySortedBy
  gathered_none = record {
    entries = [];
    rising = tt;
    each = λ e. (λ h. absurd h, λ h. absurd h.0);
    numbers = [];
    up = tt;
    are = λ n. (λ h. absurd h, λ h. absurd h.0);
    sum = refl;
  }

  module _ (block : ℕ) (blocks : List ℕ) (above : (b : ℕ) → Has blocks b → block < b) (some : part_in block list ≢ []) (rest : Gathered blocks) where
    abbrev first : Entry
    first = (entry_in block some).0

    abbrev says : SaysPart first (part_in block list)
    says = (entry_in block some).3

    abbrev numbers_here : List ℕ
    numbers_here = says.counted.numbers

    first_below : (d : Entry) → Has rest.entries d → entry_cmp first d ≡ Less
    first_below d here =
        let it = (rest.each d).0 here in
        let is = entry_in block some in
        entry_below term first d is.2.0 it.1.0 (omega (arith, is.1, above d.block it.0))

    more_rise : IsStrictlySortedBy entry_cmp (first ∷ rest.entries)
    unfolding IsStrictlySortedBy
    more_rise = (all_from (λ d. entry_cmp first d ≡ Less) rest.entries first_below, rest.rising)

    more_each : (e : Entry) → Has (first ∷ rest.entries) e ↔ (Has (block ∷ blocks) e.block × IsEntryOf Leaves term e)
    more_each e = (
      λ h. elim h [
        | inl same ↦ let is = entry_in block some in (inl (ap (λ (d : Entry). d.block) same ∙ is.1), subst (IsEntryOf Leaves term) (sym same) is.2)
        | inr later ↦ let it = (rest.each e).0 later in (inr it.0, it.1)
      ],
      λ h. elim h.0 [
        | inl same ↦ let is = entry_in block some in inl (only_entry block e first same is.1 h.1 is.2)
        | inr later ↦ inr ((rest.each e).1 (later, h.1))
      ],
    )

    number_near : (n : ℕ) → Has numbers_here n → (n / 256 ≡ block) × HasRecordOf list n
    number_near n here =
        let p = (says.counted.each n).0 here in
        (ap (λ m. m / 256) (sym p.2) ∙ part_in_block block list p.0 p.1, (p.0, part_in_list block list p.0 p.1, p.2))

    numbers_rise : IsStrictlySortedBy nat_cmp (numbers_here ++ rest.numbers)
    numbers_rise = joined_rises nat_cmp_total numbers_here rest.numbers says.counted.rising rest.up (λ m n here there.
        less_is m n (omega (arith, (number_near m here).0, above (n / 256) ((rest.are n).0 there).0)))

    numbers_are : (n : ℕ) → Has (numbers_here ++ rest.numbers) n ↔ (Has (block ∷ blocks) (n / 256) × HasRecordOf list n)
    numbers_are n = (
      λ h. elim (has_either numbers_here rest.numbers n h) [
        | inl here ↦ let it = number_near n here in (inl it.0, it.1)
        | inr later ↦ let it = (rest.are n).0 later in (inr it.0, it.1)
      ],
      λ h. elim h.0 [
        | inl same ↦ let p = h.1 in has_left numbers_here rest.numbers n ((says.counted.each n).1 (p.0, in_part block list p.0 p.1 (ap (λ m. m / 256) p.2 ∙ same), p.2))
        | inr later ↦ has_right numbers_here rest.numbers n ((rest.are n).1 (later, h.1))
      ],
    )

    gathered_more : Gathered (block ∷ blocks)
    gathered_more = record {
      entries = first ∷ rest.entries;
      rising = more_rise;
      each = more_each;
      numbers = numbers_here ++ rest.numbers;
      up = numbers_rise;
      are = numbers_are;
      sum = omega (arith, length-append numbers_here rest.numbers, says.counted.count_is, rest.sum, sum_by-cons (λ (e : Entry). e.records) first rest.entries);
    }

  gathered : (blocks : List ℕ) → IsStrictlySortedBy nat_cmp blocks → ((b : ℕ) → Has blocks b → part_in b list ≢ []) → Gathered blocks
  unfolding IsStrictlySortedBy
  gathered [] up some = gathered_none
  gathered (block ∷ blocks) up some =
      gathered_more block blocks (λ b h. is_less block b (all_has (λ c. nat_cmp block c ≡ Less) blocks b up.0 h)) (some block (inl refl)) (gathered blocks up.1 (λ b h. some b (inr h)))

  -- ---- the blocks in which the list has a posting

  abbrev block_of : Posting → ℕ
  block_of p = p.sysno / 256

  own_blocks : List ℕ
  own_blocks = with_all nat_cmp_total numbers_apart (map block_of list) []

  own_rise : IsStrictlySortedBy nat_cmp own_blocks
  unfolding own_blocks IsStrictlySortedBy
  own_rise = all_rise nat_cmp_total numbers_apart (map block_of list) [] tt

  own_has : (p : Posting) → Has list p → Has own_blocks (block_of p)
  unfolding own_blocks
  own_has p here = (all_there nat_cmp_total numbers_apart (map block_of list) [] (block_of p)).1 (inr (mapped_has block_of list p here))

  own_some : (block : ℕ) → Has own_blocks block → part_in block list ≢ []
  unfolding own_blocks
  own_some block here = elim ((all_there nat_cmp_total numbers_apart (map block_of list) [] block).0 here) [
    | inl none ↦ absurd none
    | inr put ↦ let p = has_mapped block_of list block put in not_empty (part_in block list) p.0 (in_part block list p.0 p.1 (sym p.2))
  ]

  all_gathered : Gathered own_blocks
  all_gathered = gathered own_blocks own_rise own_some

  entry_block : (e : Entry) → IsEntryOf Leaves term e → Has own_blocks e.block
  entry_block e is =
      let p = some_posting (part_in e.block list) (entry_says e is).spelled.some in
      subst (Has own_blocks) (part_in_block e.block list p.0 p.1) (own_has p.0 (part_in_list e.block list p.0 p.1))

  record_block : (n : ℕ) → HasRecordOf list n → Has own_blocks (n / 256)
  record_block n has = subst (λ m. Has own_blocks (m / 256)) has.2 (own_has has.0 has.1)

  all_counted : IsCount (HasRecordOf list) (sum_by (λ (e : Entry). e.records) all_gathered.entries)
  all_counted = record {
    numbers = all_gathered.numbers;
    rising = all_gathered.up;
    each = λ n. (λ h. ((all_gathered.are n).0 h).1, λ has. (all_gathered.are n).1 (record_block n has, has));
    count_is = sym all_gathered.sum;
  }

  pub records_summed : (records : ℕ) → IsCount (HasRecordOf list) records → SumsRecords Leaves term records
  records_summed records count = record {
    whole = λ block. ((reads block).0, (reads block).1);
    own = all_gathered.entries;
    rising = all_gathered.rising;
    each = λ e. (λ h. ((all_gathered.each e).0 h).1, λ is. (all_gathered.each e).1 (entry_block e is, is));
    sum = one_count (HasRecordOf list) records _ count all_counted;
  }

-- ---- a term with an entry is of some record

sum_above : (own : List Entry) (e : Entry) → Has own e → e.records ≤ sum_by (λ (d : Entry). d.records) own
sum_above [] e here = absurd here
sum_above (d ∷ own) e (inl same) = omega (arith, ap (λ (x : Entry). x.records) same, sum_by-cons (λ (x : Entry). x.records) d own)
sum_above (d ∷ own) e (inr later) = omega (arith, sum_above own e later, sum_by-cons (λ (x : Entry). x.records) d own)

pub entry_counted : (Leaves : Row → Type 0) (term : List ℕ) (e : Entry) (records : ℕ) → IsEntryOf Leaves term e → SumsRecords Leaves term records → 1 ≤ records
entry_counted Leaves term e records is sums =
    let shown : IsEntry e = elim is.4.2 [ inl leaf ↦ all_has IsEntry is.2 e leaf.each is.5 | inr none ↦ absurd (subst (λ (l : List Entry). Has l e) none.1 is.5) ] in
    omega (arith, shown.records.0, sum_above sums.own e ((sums.each e).1 is), sums.sum)
