-- Rows of the terms from one text to another, as the postings of a content.
use Rattle.zeb_register.proofs.Cited.{Row, column, row_cmp, value_cmp, Trees, Value, Blob, Int, Text, all_has, has_either, has_filtered, has_kept, has_left, has_right, has_mapped, mapped_has, Has, row_cmp_total, value_cmp_total, value_cmp-Text, ◌≡◌, ◌≢◌, ◌↔◌, ◌∙◌, ◌+◌, ◌<◌, ℕ, pos, Bool, true, false, not, List, [], ◌∷◌, ◌++◌, length, map, filter, take, drop, get_or, refl, sym, ap, ap₂, subst, inl, inr, Ordering, Less, Equal, Greater, nat_cmp, arith, is_eq, cases_Bool, tied_itself, length-map, map-append, take_more, length-filter_both, sum_by-cons, slice_cmp, nat_list_cmp_total, sum_by, is_lt, ordering_then, Posting, BlockSpells, Key, register_code, RegisterOf, AreKeysBetween, IsBetween, term_list, IsRestBetween, two_behind, Content, register_columns, key_in, HoldsBlocks, SpellsPart, blocks_of, part_in, AreSpelled, key_row, IsListOf, IsRest, blocks_tree}
use Rattle.std.specs.List.Sorted.{IsStrictlySortedBy}
use Rattle.zeb_register.proofs.ContentLemmas.{same_key, some_posting}
use Rattle.zeb_register.proofs.PackedLemmas.{part_in_list}
use Rattle.zeb_register.proofs.PackedLists.{key_blocks, key_spelled, one_part, spelled_behind}
use Rattle.zeb_register.proofs.RisingLists.{kept_rises, never_itself}
use Rattle.zeb_register.proofs.RowLemmas.{same_bytes}
use Rattle.zeb_register.proofs.Scans.{strictly_mapped, tied}
use Rattle.zeb_register.proofs.TermLists.{above_least, least_above}

-- ---- texts up to a last one

less_is : (o : Ordering) → is_lt o ≡ true → o ≡ Less
less_is Less h = refl
less_is Equal h = absurd (cc)
less_is Greater h = absurd (cc)

-- a text is below the least one above another where it is not above that one
pub up_to : (last text : List ℕ) → (is_lt (slice_cmp nat_cmp text (last ++ 0 ∷ [])) ≡ true) ↔ (is_lt (slice_cmp nat_cmp last text) ≡ false)
up_to last text = (
  λ below. elim (cases_Bool (is_lt (slice_cmp nat_cmp last text))) [
    | inl lower ↦ absurd (let e : true ≡ false = sym below ∙ above_least text last (less_is (slice_cmp nat_cmp last text) lower) in cc)
    | inr other ↦ other
  ],
  λ up. elim (cases_Bool (is_lt (slice_cmp nat_cmp text (last ++ 0 ∷ [])))) [
    | inl is ↦ is
    | inr other ↦ absurd (let e : true ≡ false = sym (ap is_lt (least_above text last other)) ∙ up in cc)
  ],
)

-- the two conditions of a statement say that a row's term is between
abbrev Meets : (first last : List ℕ) → Row → Type 0
Meets first last row = (is_lt (value_cmp (column row 0) (Text first)) ≡ false) × (is_lt (value_cmp (column row 0) (Text (last ++ 0 ∷ []))) ≡ true)

met : (first last term : List ℕ) (row : Row) → column row 0 ≡ Text term → Meets first last row ↔ IsBetween first last term
met first last term row is =
    let one : value_cmp (column row 0) (Text first) ≡ slice_cmp nat_cmp term first = ap (λ v. value_cmp v (Text first)) is ∙ value_cmp-Text term first in
    let two : value_cmp (column row 0) (Text (last ++ 0 ∷ [])) ≡ slice_cmp nat_cmp term (last ++ 0 ∷ []) = ap (λ v. value_cmp v (Text (last ++ 0 ∷ []))) is ∙ value_cmp-Text term (last ++ 0 ∷ []) in (
      λ h. (sym (ap is_lt one) ∙ h.0, (up_to last term).0 (sym (ap is_lt two) ∙ h.1)),
      λ h. (ap is_lt one ∙ h.0, ap is_lt two ∙ (up_to last term).1 h.1),
    )

-- ---- rows that spell lists behind their terms

pub spelled_row : (rows : List Row) (i : ℕ) (row : Row) (list part : List Posting) → i < length rows → row ≡ get_or rows i row → AreSpelled (map two_behind (take i rows)) list → SpellsPart (two_behind row) part
    → AreSpelled (map two_behind (take (i + 1) rows)) (list ++ part)
spelled_row rows i row list part within is are spells =
    let more : take (i + 1) rows ≡ take i rows ++ row ∷ [] = take_more rows i row within ∙ ap (λ r. take i rows ++ r ∷ []) (sym is) in
    let mapped : map two_behind (take (i + 1) rows) ≡ map two_behind (take i rows) ++ two_behind row ∷ [] = ap (map two_behind) more ∙ map-append two_behind (take i rows) (row ∷ []) in
    subst (λ (rs : List Row). AreSpelled rs (list ++ part)) (sym mapped) (spelled_behind (map two_behind (take i rows)) (two_behind row) list part are spells)

-- a posting that they spell is one of a row's part
pub spelled_by : (rows : List Row) (list : List Posting) → AreSpelled rows list → (p : Posting) → Has list p → (row : Row) × Has rows row × ((part : List Posting) × SpellsPart row part × Has part p)
spelled_by [] list are p here = absurd (subst (λ (l : List Posting). Has l p) are here)
spelled_by (row ∷ rows) list are p here = elim (has_either are.0 are.1 p (subst (λ (l : List Posting). Has l p) are.4 here)) [
  | inl first ↦ (row, inl refl, (are.0, are.2, first))
  | inr later ↦ let it = spelled_by rows are.1 are.3 p later in (it.0, inr it.1, it.2)
]

-- what a row spells is among what they spell
pub spelled_too : (rows : List Row) (list : List Posting) → AreSpelled rows list → (row : Row) (part : List Posting) (p : Posting) → Has rows row → SpellsPart row part → Has part p → Has list p
spelled_too [] list are row part p here spells inside = absurd here
spelled_too (r ∷ rows) list are row part p (inl same) spells inside =
    let is : part ≡ are.0 = one_part r part are.0 (subst (λ (x : Row). SpellsPart x part) same spells) are.2 in
    subst (λ (l : List Posting). Has l p) (sym are.4) (has_left are.0 are.1 p (subst (λ (l : List Posting). Has l p) is inside))
spelled_too (r ∷ rows) list are row part p (inr later) spells inside =
    subst (λ (l : List Posting). Has l p) (sym are.4) (has_right are.0 are.1 p (spelled_too rows are.1 are.3 row part p later spells inside))

-- ---- rows of blocks

module _ (trees : Trees) (content : Content) (at : RegisterOf) (holds : HoldsBlocks trees content) where
  -- a row that begins with the text of the key, and goes on as one of its rows
  abbrev IsUnder : Key → Row → Type 0
  IsUnder key row = (x : Row) × (row ≡ Text key.term ∷ x) × IsRest blocks_tree (key_row at.db.0 key) trees x

  abbrev IsUnderOne : List Key → Row → Type 0
  IsUnderOne keys row = (key : Key) × Has keys key × IsUnder key row

  tail_less : (v : Value) (x y : Row) → row_cmp (v ∷ x) (v ∷ y) ≡ Less → row_cmp x y ≡ Less
  tail_less v x y less = sym (ap (λ o. ordering_then o (row_cmp x y)) (tied_itself value_cmp_total v)) ∙ less

  -- the rows of the first key and those of the others
  module _ (key : Key) (keys : List Key) (up : IsStrictlySortedBy (slice_cmp nat_cmp) (map (λ (k : Key). k.term) (key ∷ keys))) (rows : List Row) (rise : IsStrictlySortedBy row_cmp rows) (each : (row : Row) → Has rows row ↔ IsUnderOne (key ∷ keys) row) where
    starts : Row → Bool
    starts row = is_eq (value_cmp (column row 0) (Text key.term))

    other : Row → Bool
    other row = not (starts row)

    starts_with : (term : List ℕ) (x row : Row) → row ≡ Text term ∷ x → starts row ≡ true → term ≡ key.term
    unfolding starts
    starts_with term x row is yes' =
        let head : value_cmp (column row 0) (Text key.term) ≡ slice_cmp nat_cmp term key.term = ap (λ (r : Row). value_cmp (column r 0) (Text key.term)) is ∙ value_cmp-Text term key.term in
        same_bytes term key.term (tied (slice_cmp nat_cmp term key.term) (sym (ap is_eq head) ∙ yes'))

    starts_so : (x row : Row) → row ≡ Text key.term ∷ x → starts row ≡ true
    unfolding starts
    starts_so x row is = ap (λ (r : Row). is_eq (value_cmp (column r 0) (Text key.term))) is ∙ ap is_eq (value_cmp-Text key.term key.term ∙ tied_itself nat_list_cmp_total key.term)

    -- a later key has another term
    later_differs : (k : Key) → Has keys k → k.term ≢ key.term
    unfolding IsStrictlySortedBy
    later_differs k here same =
        let low : slice_cmp nat_cmp key.term k.term ≡ Less = all_has (λ t. slice_cmp nat_cmp key.term t ≡ Less) (map (λ (l : Key). l.term) keys) k.term up.0 (mapped_has (λ (l : Key). l.term) keys k here) in
        never_itself nat_list_cmp_total key.term (subst (λ t. slice_cmp nat_cmp key.term t ≡ Less) same low)

    of_first : (row : Row) → Has (filter starts rows) row → IsUnder key row
    of_first row here =
        let kept = has_filtered starts rows row here in
        let it = (each row).0 kept.0 in
        elim it.1 [
          | inl same ↦ subst (λ (k : Key). IsUnder k row) same it.2
          | inr later ↦ absurd (later_differs it.0 later (starts_with it.0.term it.2.0 row it.2.1 kept.1))
        ]

    first_listed : IsListOf (IsRest blocks_tree (key_row at.db.0 key) trees) (map (drop 1) (filter starts rows))
    first_listed = record {
      each = λ x. (
        λ h.
            let row = has_mapped (drop 1) (filter starts rows) x h in
            let it = of_first row.0 row.1 in
            subst (IsRest blocks_tree (key_row at.db.0 key) trees) (sym (row.2 ∙ ap (drop 1) it.1)) it.2,
        λ rest.
            let row : Row = Text key.term ∷ x in
            mapped_has (drop 1) (filter starts rows) row (has_kept starts rows row ((each row).1 (key, inl refl, (x, refl, rest))) (starts_so x row refl)),
      );
      rising = strictly_mapped row_cmp row_cmp (drop 1) (filter starts rows) (λ a b here there less.
          let p = of_first a here in
          let q = of_first b there in
          rw (p.1, q.1) (tail_less (Text key.term) p.0 q.0 (rw (p.1, q.1) at less))) (kept_rises row_cmp_total starts rows rise);
    }

    others_each : (row : Row) → Has (filter other rows) row ↔ IsUnderOne keys row
    unfolding other
    others_each row = (
      λ h.
          let kept = has_filtered other rows row h in
          let it = (each row).0 kept.0 in
          elim it.1 [
            | inl same ↦
                let yes' = starts_so it.2.0 row (it.2.1 ∙ ap (λ (k : Key). Text k.term ∷ it.2.0) same) in
                absurd (let e : false ≡ true = sym (ap not yes') ∙ kept.1 in cc)
            | inr later ↦ (it.0, later, it.2)
          ],
      λ it. has_kept other rows row ((each row).1 (it.0, inr it.1, it.2)) (elim (cases_Bool (starts row)) [
        | inl yes' ↦ absurd (later_differs it.0 it.1 (starts_with it.0.term it.2.0 row it.2.1 yes'))
        | inr no' ↦ ap not no'
      ]),
    )

    first_many : length (filter starts rows) ≡ blocks_of (content at.db.0 key)
    first_many =
        let list = content at.db.0 key in
        sym (length-map (filter starts rows) (drop 1)) ∙ key_blocks trees content at.db.0 key holds (map (drop 1) (filter starts rows)) first_listed list (key_spelled trees content at.db.0 key holds (map (drop 1) (filter starts rows)) first_listed)

    both_many : length (filter starts rows) + length (filter other rows) ≡ length rows
    unfolding other
    both_many = length-filter_both starts other (λ r. refl) rows

  -- as many rows as the lists of the keys have blocks
  rows_many : (keys : List Key) (rows : List Row) → IsStrictlySortedBy (slice_cmp nat_cmp) (map (λ (k : Key). k.term) keys) → IsStrictlySortedBy row_cmp rows → ((row : Row) → Has rows row ↔ IsUnderOne keys row)
      → length rows ≡ sum_by (λ key. blocks_of (content at.db.0 key)) keys
  unfolding IsStrictlySortedBy
  rows_many [] [] up rise each = refl
  rows_many [] (row ∷ rows) up rise each = absurd ((each row).0 (inl refl)).1
  rows_many (key ∷ keys) rows up rise each =
      let rest = rows_many keys (filter (other key keys up rows rise each) rows) up.1 (kept_rises row_cmp_total (other key keys up rows rise each) rows rise) (others_each key keys up rows rise each) in
      let more = sum_by-cons (λ (k : Key). blocks_of (content at.db.0 k)) key keys in
      omega (arith, more, rest, first_many key keys up rows rise each, both_many key keys up rows rise each)

  module _ (first last : List ℕ) (rows : List Row) (are : IsListOf (IsRestBetween blocks_tree (register_columns at) first (last ++ 0 ∷ []) trees) rows) where
    -- a row by its term and its block
    abbrev IsOf : Row → List ℕ → Type 0
    IsOf row term =
        IsBetween first last term × ((block : ℕ) × (bytes : List ℕ) × (row ≡ Text term ∷ Int (pos block) ∷ Blob bytes ∷ []) × BlockSpells block (part_in block (term_list content at term)) bytes)

    row_of : (row : Row) → Has rows row → (term : List ℕ) × IsOf row term
    row_of row here =
        let there = (are.each row).0 here in
        let it = (holds.blocks (register_columns at ++ row)).0 there.0 in
        let one : Int at.db.0 ≡ Int it.0 = ap (λ (r : Row). column r 0) it.5 in
        let two : Int (pos at.index) ≡ Int (pos it.1.index) = ap (λ (r : Row). column r 1) it.5 in
        let three : Int (pos (register_code at.register)) ≡ Int (pos (register_code it.1.register)) = ap (λ (r : Row). column r 2) it.5 in
        let base : it.0 ≡ at.db.0 = cc in
        let same : it.1 ≡ key_in at.index at.register it.1.term = same_key it.1 (key_in at.index at.register it.1.term) (cc) (cc) refl in
        let list : content it.0 it.1 ≡ term_list content at it.1.term = ap₂ content base same in
        let is : row ≡ Text it.1.term ∷ Int (pos it.2) ∷ Blob it.3 ∷ [] = ap (drop 3) it.5 in
        (it.1.term, ((met first last it.1.term row (ap (λ (r : Row). column r 0) is)).0 (there.1, there.2), (it.2, it.3, is, subst (λ (l : List Posting). BlockSpells it.2 (part_in it.2 l) it.3) list it.4)))

    -- a row of a term between is one of the rows
    row_there : (term : List ℕ) (x : Row) → IsBetween first last term → IsRest blocks_tree (key_row at.db.0 (key_in at.index at.register term)) trees x → Has rows (Text term ∷ x)
    row_there term x between rest =
        let meets = (met first last term (Text term ∷ x) refl).1 between in
        (are.each (Text term ∷ x)).1 (rest, meets.0, meets.1)

    -- there are as many of them as the lists of the keys have blocks
    pub blocks_many : (keys : List Key) → AreKeysBetween content at first last keys → length rows ≡ sum_by (λ key. blocks_of (content at.db.0 key)) keys
    blocks_many keys known = rows_many keys rows known.rising are.rising (λ row. (
      λ here.
          let it = row_of row here in
          let key = key_in at.index at.register it.0 in
          let p = some_posting (part_in it.1.1.0 (term_list content at it.0)) it.1.1.3.some in
          let has = known.all it.0 p.0 it.1.0 (part_in_list it.1.1.0 (term_list content at it.0) p.0 p.1) in
          (key, has, (Int (pos it.1.1.0) ∷ Blob it.1.1.1 ∷ [], it.1.1.2, subst (λ (r : Row). IsRest blocks_tree (register_columns at) trees r) it.1.1.2 ((are.each row).0 here).0)),
      λ under.
          let is = known.each under.0 under.1 in
          let rest = subst (λ (k : Key). IsRest blocks_tree (key_row at.db.0 k) trees under.2.0) is.0 under.2.2 in
          subst (Has rows) (sym under.2.1) (row_there under.0.term under.2.0 is.1 rest),
    ))
