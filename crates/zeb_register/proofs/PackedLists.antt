-- Rows of a key's blocks as its list of postings.
use Rattle.zeb_register.proofs.Cited.{Row, column, row_cmp, Trees, Int, Blob, all_has, has_left, has_right, has_either, Has, row_cmp_total, value_cmp-Int, ◌≡◌, ◌∙◌, ◌<◌, ◌+◌, ◌/◌, ℕ, ℤ, pos, List, [], ◌∷◌, ◌++◌, length, take, get_or, refl, sym, ap, ap₂, subst, inl, inr, Ordering, Less, Equal, Greater, nat_cmp, arith, ◌≢◌, ◌==◌, if◌then◌else◌, Bool, append_assoc, append-nil, eq-eqb, eqb_tells, take_more, ordering_then, Posting, BlockSpells, spelled_from, start_of, Key, numbers_apart, Content, posting_cmp, HoldsBlocks, SpellsPart, blocks_of, part_in, AreSpelled, key_in, key_row, IsListOf, IsRest, blocks_tree}
use Rattle.std.specs.List.Sorted.{IsStrictlySortedBy}
use Rattle.zeb_register.proofs.ContentChanges.{posting_total}
use Rattle.zeb_register.proofs.ContentLemmas.{ints_order, told_apart}
use Rattle.zeb_register.proofs.CountLemmas.{is_less}
use Rattle.zeb_register.proofs.PackedLemmas.{block_rows, block_spells, block_there, in_part, not_empty, one_spelled, part_in_block, part_in_list}
use Rattle.zeb_register.proofs.RisingLists.{joined_rises, never_itself, same_list}
use Rattle.zeb_register.proofs.TermRows.{natural_of}

-- a key's rows are those of its columns
pub key_listed : (trees : Trees) (db : ℤ) (key : Key) (term : List ℕ) → term ≡ key.term → (rows : List Row)
    → IsListOf (IsRest blocks_tree (key_row db (key_in key.index key.register term)) trees) rows → IsListOf (IsRest blocks_tree (key_row db key) trees) rows
key_listed trees db key term same rows = subst (λ t. IsListOf (IsRest blocks_tree (key_row db (key_in key.index key.register t)) trees) rows) same

-- ---- rows that spell lists

-- a row spells one part at most
pub one_part : (row : Row) (one two : List Posting) → SpellsPart row one → SpellsPart row two → one ≡ two
one_part row one two left right =
    let a : Int (pos left.0) ≡ Int (pos right.0) = sym left.2 ∙ right.2 in
    let b : Blob left.1 ≡ Blob right.1 = sym left.3 ∙ right.3 in
    let block : left.0 ≡ right.0 = cc in
    let bytes : left.1 ≡ right.1 = cc in
    let moved : BlockSpells left.0 two right.1 = subst (λ (k : ℕ). BlockSpells k two right.1) (sym block) right.4 in
    one_spelled left.0 left.1 one two left.4 (subst (λ (d : List ℕ). BlockSpells left.0 two d) (sym bytes) moved)

-- rows spell one list at most
pub one_spelled_list : (rows : List Row) (one two : List Posting) → AreSpelled rows one → AreSpelled rows two → one ≡ two
one_spelled_list [] one two left right = left ∙ sym right
one_spelled_list (row ∷ rows) one two left right =
    left.4 ∙ ap₂ (λ part rest. part ++ rest) (one_part row left.0 right.0 left.2 right.2) (one_spelled_list rows left.1 right.1 left.3 right.3) ∙ sym right.4

pub spelled_behind : (rows : List Row) (row : Row) (list part : List Posting) → AreSpelled rows list → SpellsPart row part → AreSpelled (rows ++ row ∷ []) (list ++ part)
spelled_behind [] row list part are spells = (part, [], spells, refl, ap (λ l. l ++ part) are ∙ sym (append-nil part))
spelled_behind (r ∷ rows) row list part are spells =
    (are.0, are.1 ++ part, are.2, spelled_behind rows row are.1 part are.3 spells, ap (λ l. l ++ part) are.4 ∙ append_assoc are.0 are.1 part)

pub spelled_more : (rows : List Row) (i : ℕ) (row : Row) (list part : List Posting) → i < length rows → row ≡ get_or rows i row → AreSpelled (take i rows) list → SpellsPart row part → AreSpelled (take (i + 1) rows) (list ++ part)
spelled_more rows i row list part within is are spells =
    let more : take (i + 1) rows ≡ take i rows ++ row ∷ [] = take_more rows i row within ∙ ap (λ r. take i rows ++ r ∷ []) (sym is) in
    subst (λ (rs : List Row). AreSpelled rs (list ++ part)) (sym more) (spelled_behind (take i rows) row list part are spells)

-- each of them spells a part
pub each_spelled : (rows : List Row) (list : List Posting) → AreSpelled rows list → (row : Row) → Has rows row → (part : List Posting) × SpellsPart row part
each_spelled [] list are row here = absurd here
each_spelled (r ∷ rows) list are row (inl same) = (are.0, subst (λ (x : Row). SpellsPart x are.0) (sym same) are.2)
each_spelled (r ∷ rows) list are row (inr later) = each_spelled rows are.1 are.3 row later

-- where each of them spells a part they spell a list
pub all_spelled : (rows : List Row) → ((row : Row) → Has rows row → (part : List Posting) × SpellsPart row part) → (list : List Posting) × AreSpelled rows list
all_spelled [] each = ([], refl)
all_spelled (row ∷ rows) each =
    let first = each row (inl refl) in
    let rest = all_spelled rows (λ r h. each r (inr h)) in
    (first.0 ++ rest.0, (first.0, rest.0, first.1, rest.1, refl))

-- ---- the rows of a key

block_at : Row → ℕ
block_at row = natural_of (column row 0)

abbrev IsKeyRow : List Posting → Row → Type 0
IsKeyRow list row = (block : ℕ) × (bytes : List ℕ) × (row ≡ Int (pos block) ∷ Blob bytes ∷ []) × BlockSpells block (part_in block list) bytes

block_shown : (block : ℕ) (bytes : List ℕ) → block_at (Int (pos block) ∷ Blob bytes ∷ []) ≡ block
unfolding block_at natural_of
block_shown block bytes = refl

block_is : (list : List Posting) (row : Row) (it : IsKeyRow list row) → block_at row ≡ it.0
block_is list row it = ap block_at it.2 ∙ block_shown it.0 it.1

-- the parts of a list in the blocks of rows, one behind the other
gathered : List Posting → List Row → List Posting
gathered list [] = []
gathered list (row ∷ rows) = part_in (block_at row) list ++ gathered list rows

pub posting_lower : (p q : Posting) → p.sysno < q.sysno → posting_cmp p q ≡ Less
posting_lower p q low = ap (λ o. ordering_then o (ordering_then (nat_cmp p.seq q.seq) (nat_cmp p.pos q.pos))) (let e : nat_cmp p.sysno q.sysno ≡ Less = grind arith in e)

module _ (list : List Posting) where
  part_spelled : (row : Row) → IsKeyRow list row → SpellsPart row (part_in (block_at row) list)
  part_spelled row it =
      (it.0, it.1, ap (λ (r : Row). column r 0) it.2, ap (λ (r : Row). column r 1) it.2, subst (λ (k : ℕ). BlockSpells it.0 (part_in k list) it.1) (sym (block_is list row it)) it.3)

  gathered_spelled : (rows : List Row) → ((row : Row) → Has rows row → IsKeyRow list row) → AreSpelled rows (gathered list rows)
  unfolding gathered
  gathered_spelled [] known = refl
  gathered_spelled (row ∷ rows) known = (part_in (block_at row) list, gathered list rows, part_spelled row (known row (inl refl)), gathered_spelled rows (λ r h. known r (inr h)), refl)

  gathered_from : (rows : List Row) (p : Posting) → Has (gathered list rows) p → (row : Row) × Has rows row × Has (part_in (block_at row) list) p
  unfolding gathered
  gathered_from [] p here = absurd here
  gathered_from (row ∷ rows) p here = elim (has_either (part_in (block_at row) list) (gathered list rows) p here) [
    | inl first ↦ (row, inl refl, first)
    | inr later ↦ let it = gathered_from rows p later in (it.0, inr it.1, it.2)
  ]

  gathered_has : (rows : List Row) (row : Row) (p : Posting) → Has rows row → Has (part_in (block_at row) list) p → Has (gathered list rows) p
  unfolding gathered
  gathered_has [] row p here inside = absurd here
  gathered_has (r ∷ rows) row p (inl same) inside =
      has_left (part_in (block_at r) list) (gathered list rows) p (subst (λ (x : Row). Has (part_in (block_at x) list) p) same inside)
  gathered_has (r ∷ rows) row p (inr later) inside = has_right (part_in (block_at r) list) (gathered list rows) p (gathered_has rows row p later inside)

  -- of two rows the lower has the lower block
  lower_block : (x y : Row) → IsKeyRow list x → IsKeyRow list y → row_cmp x y ≡ Less → block_at x < block_at y
  lower_block x y one two less = from (nat_cmp one.0 two.0) refl
    where
      whole : row_cmp x y ≡ ordering_then (nat_cmp one.0 two.0) (row_cmp (Blob one.1 ∷ []) (Blob two.1 ∷ []))
      whole = ap₂ row_cmp one.2 two.2 ∙ ap (λ o. ordering_then o (row_cmp (Blob one.1 ∷ []) (Blob two.1 ∷ []))) (value_cmp-Int (pos one.0) (pos two.0) ∙ ints_order one.0 two.0)

      from : (o : Ordering) → nat_cmp one.0 two.0 ≡ o → block_at x < block_at y
      from Less is = let low : one.0 < two.0 = is_less one.0 two.0 is in omega (arith, low, block_is list x one, block_is list y two)
      from Greater is = absurd (let e : Less ≡ Greater = sym less ∙ whole ∙ ap (λ o. ordering_then o (row_cmp (Blob one.1 ∷ []) (Blob two.1 ∷ []))) is in cc)
      from Equal is =
          let number : one.0 ≡ two.0 = numbers_apart one.0 two.0 is in
          let bytes : one.1 ≡ two.1 = one.3.spelled ∙ ap (λ (k : ℕ). spelled_from (start_of k) (part_in k list)) number ∙ sym two.3.spelled in
          let same : y ≡ x = two.2 ∙ ap₂ (λ (k : ℕ) (d : List ℕ). Int (pos k) ∷ Blob d ∷ []) (sym number) (sym bytes) ∙ sym one.2 in
          absurd (never_itself row_cmp_total x (subst (λ (r : Row). row_cmp x r ≡ Less) same less))

  gathered_rises : (rows : List Row) → ((row : Row) → Has rows row → IsKeyRow list row) → IsStrictlySortedBy row_cmp rows → IsStrictlySortedBy posting_cmp (gathered list rows)
  unfolding gathered IsStrictlySortedBy
  gathered_rises [] known up = tt
  gathered_rises (row ∷ rows) known up =
      let it = known row (inl refl) in
      let rising : IsStrictlySortedBy posting_cmp (part_in (block_at row) list) = subst (λ (k : ℕ). IsStrictlySortedBy posting_cmp (part_in k list)) (sym (block_is list row it)) it.3.lies.rising in
      joined_rises posting_total (part_in (block_at row) list) (gathered list rows) rising (gathered_rises rows (λ r h. known r (inr h)) up.1) (λ p q here there.
      let later = gathered_from rows q there in
      let low = lower_block row later.0 it (known later.0 (inr later.1)) (all_has (λ r. row_cmp row r ≡ Less) rows later.0 up.0 later.1) in
      let one : p.sysno / 256 ≡ block_at row = part_in_block (block_at row) list p here in
      let two : q.sysno / 256 ≡ block_at later.0 = part_in_block (block_at later.0) list q later.2 in
      posting_lower p q (omega (arith, low, one, two)))

-- ---- how many rows a list has

abbrev one_unless : Bool → ℕ
one_unless b = if b then 0 else 1

same_block : (p q : Posting) → p.sysno / 256 ≡ q.sysno / 256 → one_unless (p.sysno / 256 == q.sysno / 256) ≡ 0
same_block p q is = ap one_unless (eq-eqb (p.sysno / 256) (q.sysno / 256) is)

other_block : (p q : Posting) → p.sysno / 256 ≢ q.sysno / 256 → one_unless (p.sysno / 256 == q.sysno / 256) ≡ 1
other_block p q differ = elim (eqb_tells (p.sysno / 256) (q.sysno / 256)) [ inl yes' ↦ absurd (differ yes'.1) | inr no' ↦ ap one_unless no'.0 ]

-- the postings of one block before those of others
pub one_more_block : (block : ℕ) (part rest : List Posting) → part ≢ [] → ((p : Posting) → Has part p → p.sysno / 256 ≡ block) → ((q : Posting) → Has rest q → q.sysno / 256 ≢ block)
    → blocks_of (part ++ rest) ≡ blocks_of rest + 1
one_more_block block [] rest some inside outside = absurd (some refl)
one_more_block block (p ∷ []) [] some inside outside = refl
one_more_block block (p ∷ []) (q ∷ rest) some inside outside =
    omega (arith, other_block p q (λ same. outside q (inl refl) (sym same ∙ inside p (inl refl))))
one_more_block block (p ∷ q ∷ part) rest some inside outside =
    omega (arith, same_block p q (inside p (inl refl) ∙ sym (inside q (inr (inl refl)))), one_more_block block (q ∷ part) rest (λ none. not_empty (q ∷ part) q (inl refl) none) (λ r h. inside r (inr h)) outside)

gathered_blocks : (list : List Posting) (rows : List Row) → ((row : Row) → Has rows row → IsKeyRow list row) → IsStrictlySortedBy row_cmp rows → length rows ≡ blocks_of (gathered list rows)
unfolding gathered IsStrictlySortedBy
gathered_blocks list [] known up = refl
gathered_blocks list (row ∷ rows) known up =
    let it = known row (inl refl) in
    let part = part_in (block_at row) list in
    let some : part ≢ [] = λ none. it.3.some (ap (λ (k : ℕ). part_in k list) (sym (block_is list row it)) ∙ none) in
    let more = one_more_block (block_at row) part (gathered list rows) some (part_in_block (block_at row) list) (λ q there same.
    let later = gathered_from list rows q there in
    let low = lower_block list row later.0 it (known later.0 (inr later.1)) (all_has (λ r. row_cmp row r ≡ Less) rows later.0 up.0 later.1) in
    let at : q.sysno / 256 ≡ block_at later.0 = part_in_block (block_at later.0) list q later.2 in
    absurd (omega (arith, low, at, same))) in
    omega (arith, more, gathered_blocks list rows (λ r h. known r (inr h)) up.1)

module _ (trees : Trees) (content : Content) (db : ℤ) (key : Key) (holds : HoldsBlocks trees content) (rows : List Row) (are : IsListOf (IsRest blocks_tree (key_row db key) trees) rows) where
  abbrev list : List Posting
  list = content db key

  known : (row : Row) → Has rows row → IsKeyRow list row
  known row here =
      let there = (are.each row).0 here in
      let found = (holds.blocks (key_row db key ++ row)).0 there in
      let is : row ≡ Int (pos found.2) ∷ Blob found.3 ∷ [] = (told_apart found.0 db found.1 key row (Int (pos found.2) ∷ Blob found.3 ∷ []) found.5).2 in
      (found.2, found.3, is, block_spells trees content db key found.2 found.3 (block_rows trees content holds) (subst (λ (r : Row). IsRest blocks_tree (key_row db key) trees r) is there))

  there_too : (p : Posting) → Has list p → Has (gathered list rows) p
  there_too p here =
      let row : Row = Int (pos (p.sysno / 256)) ∷ Blob (spelled_from (start_of (p.sysno / 256)) (part_in (p.sysno / 256) list)) ∷ [] in
      let there : Has rows row = (are.each row).1 (block_there trees content db key p (block_rows trees content holds) here) in
      let block : block_at row ≡ p.sysno / 256 = block_shown (p.sysno / 256) _ in
      gathered_has list rows row p there (in_part (block_at row) list p here (sym block))

  gathered_is : gathered list rows ≡ list
  gathered_is = same_list posting_total (gathered list rows) list (gathered_rises list rows known are.rising) (holds.rising db key) (λ p h. let it = gathered_from list rows p h in part_in_list (block_at it.0) list p it.2) there_too

  -- the rows spell the list of the key, and no other
  pub key_spelled : AreSpelled rows list
  key_spelled = subst (AreSpelled rows) gathered_is (gathered_spelled list rows known)

  pub key_read : (found : List Posting) → AreSpelled rows found → found ≡ list
  key_read found spelled = one_spelled_list rows found list spelled key_spelled

  -- there are as many of them as the list has blocks
  pub key_blocks : (found : List Posting) → AreSpelled rows found → length rows ≡ blocks_of found
  key_blocks found spelled = gathered_blocks list rows known are.rising ∙ ap blocks_of (gathered_is ∙ sym (key_read found spelled))
