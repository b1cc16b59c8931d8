-- Rows of packed blocks as the postings of a content.
use Rattle.zeb_register.proofs.Cited.{Row, column, State, Trees, Int, Blob, all_from, has_filtered, has_kept, mapped_has, Has, ◌≡◌, ◌≢◌, ◌↔◌, ◌∙◌, ◌/◌, ℕ, ℤ, pos, List, [], ◌∷◌, ◌++◌, map, refl, sym, ap, ap₂, subst, inl, nat_eq, arith, eqb-true, eq-eqb, Posting, BlockSpells, IsNumbered, LiesIn, spelled_from, start_of, one_list_spelled, spells_start, Key, Register, TermCount, Content, HasRisingLists, IsWithout, posted, posting_cmp, AreTermsOf, HasKey, key_in, HoldsBlocks, IsBlockRow, IsDictRow, block_row, dict_row, part_in, HoldsBlockRows, key_row, DropsRegisters, IsInRecord, HasRow, Loses, Changes, IsOfDatabase, KeepsRegisters, LacksRegisters, TakesDatabase, blocks_tree, databases_tree, dict_tree, postings_tree, records_tree}
use Rattle.std.specs.List.Sorted.{IsStrictlySortedBy}
use Rattle.zeb_register.proofs.ContentChanges.{posting_total}
use Rattle.zeb_register.proofs.ContentLemmas.{told_apart}
use Rattle.zeb_register.proofs.CountLemmas.{count_so}
use Rattle.zeb_register.proofs.OccurringLemmas.{key_posted}
use Rattle.zeb_register.proofs.PlaceLemmas.{none_left}
use Rattle.zeb_register.proofs.RisingLists.{same_list, kept_rises}
use Rattle.zeb_register.proofs.TermRows.{text_of}
use Rattle.zeb_register.proofs.TermsAmong.{terms_among, records_count, records_of}

-- ---- the part of a list in a block

pub in_part : (block : ℕ) (list : List Posting) (p : Posting) → Has list p → p.sysno / 256 ≡ block → Has (part_in block list) p
in_part block list p here is = has_kept (λ q. nat_eq (q.sysno / 256) block) list p here (eq-eqb (p.sysno / 256) block is)

pub part_in_list : (block : ℕ) (list : List Posting) (p : Posting) → Has (part_in block list) p → Has list p
part_in_list block list p here = (has_filtered (λ q. nat_eq (q.sysno / 256) block) list p here).0

pub part_in_block : (block : ℕ) (list : List Posting) (p : Posting) → Has (part_in block list) p → p.sysno / 256 ≡ block
part_in_block block list p here = eqb-true (p.sysno / 256) block (has_filtered (λ q. nat_eq (q.sysno / 256) block) list p here).1

pub part_lies : (block : ℕ) (list : List Posting) → IsStrictlySortedBy posting_cmp list → ((p : Posting) → Has list p → IsNumbered p) → LiesIn block (part_in block list)
part_lies block list up numbered = record {
  rising = kept_rises posting_total (λ q. nat_eq (q.sysno / 256) block) list up;
  numbered = all_from IsNumbered (part_in block list) (λ p here. numbered p (part_in_list block list p here));
  inside = all_from (λ p. p.sysno / 256 ≡ block) (part_in block list) (part_in_block block list);
}

-- a list that has a posting isn't empty
pub not_empty : (list : List Posting) (p : Posting) → Has list p → list ≢ []
not_empty list p here none = subst (λ (l : List Posting). Has l p) none here

-- bytes spell one list of a block at most
pub one_spelled : (block : ℕ) (bytes : List ℕ) (one two : List Posting) → BlockSpells block one bytes → BlockSpells block two bytes → one ≡ two
one_spelled block bytes one two left right = one_list_spelled (start_of block) bytes one two (spells_start block one bytes left) (spells_start block two bytes right)

-- ---- what the rows say of the content

pub block_rows : (trees : Trees) (content : Content) → HoldsBlocks trees content → HoldsBlockRows trees content
block_rows trees content holds = record { rising = holds.rising; numbered = holds.numbered; blocks = holds.blocks }

-- a key has a row for the block of each of its postings
pub block_there : (trees : Trees) (content : Content) (db : ℤ) (key : Key) (p : Posting) → HoldsBlockRows trees content → Has (content db key) p
    → let block = p.sysno / 256 in HasRow trees blocks_tree (block_row db key block (spelled_from (start_of block) (part_in block (content db key))))
block_there trees content db key p holds here =
    let block = p.sysno / 256 in
    let part = part_in block (content db key) in
    (holds.blocks _).1 (
      db,
      key,
      block,
      spelled_from (start_of block) part,
      record {
        some = not_empty part p (in_part block (content db key) p here refl);
        lies = part_lies block (content db key) (holds.rising db key) (holds.numbered db key);
        spelled = refl;
      },
      refl,
    )

-- a row of a key and a block spells the postings of the key there
pub block_spells : (trees : Trees) (content : Content) (db : ℤ) (key : Key) (block : ℕ) (bytes : List ℕ) → HoldsBlockRows trees content → HasRow trees blocks_tree (block_row db key block bytes)
    → BlockSpells block (part_in block (content db key)) bytes
block_spells trees content db key block bytes holds there =
    let found = (holds.blocks (block_row db key block bytes)).0 there in
    let same = told_apart found.0 db found.1 key (Int (pos block) ∷ Blob bytes ∷ []) (Int (pos found.2) ∷ Blob found.3 ∷ []) found.5 in
    let one : Int (pos block) ≡ Int (pos found.2) = ap (λ (r : Row). column r 0) same.2 in
    let two : Blob bytes ≡ Blob found.3 = ap (λ (r : Row). column r 1) same.2 in
    let number : found.2 ≡ block = cc in
    let spelling : found.3 ≡ bytes = cc in
    let lists : content found.0 found.1 ≡ content db key = ap₂ content same.0 same.1 in
    let spells : BlockSpells found.2 (part_in found.2 (content found.0 found.1)) found.3 = found.4 in
    let here : BlockSpells block (part_in block (content found.0 found.1)) found.3 = subst (λ (b : ℕ). BlockSpells b (part_in b (content found.0 found.1)) found.3) number spells in
    let list : BlockSpells block (part_in block (content db key)) found.3 = subst (λ (l : List Posting). BlockSpells block (part_in block l) found.3) lists here in
    subst (λ (d : List ℕ). BlockSpells block (part_in block (content db key)) d) spelling list

-- ---- the tables tell the content

posting_also : (trees : Trees) (one two : Content) (db : ℤ) (key : Key) → HoldsBlocks trees one → HoldsBlocks trees two → (p : Posting) → Has (one db key) p → Has (two db key) p
posting_also trees one two db key left right p here =
    let block = p.sysno / 256 in
    let row = block_there trees one db key p (block_rows trees one left) here in
    let bytes = spelled_from (start_of block) (part_in block (one db key)) in
    let same : part_in block (one db key) ≡ part_in block (two db key) =
    one_spelled block bytes _ _ (block_spells trees one db key block bytes (block_rows trees one left) row) (block_spells trees two db key block bytes (block_rows trees two right) row) in
    part_in_list block (two db key) p (subst (λ (l : List Posting). Has l p) same (in_part block (one db key) p here refl))

pub blocks_hold_one : (trees : Trees) (one two : Content) (db : ℤ) (key : Key) → HoldsBlocks trees one → HoldsBlocks trees two → one db key ≡ two db key
blocks_hold_one trees one two db key left right =
    same_list posting_total (one db key) (two db key) (left.rising db key) (right.rising db key) (posting_also trees one two db key left right) (posting_also trees two one db key right left)

-- tables without a row hold no posting
pub blocks_empty : (trees : Trees) → LacksRegisters trees → HoldsBlocks trees (λ db key. [])
unfolding IsStrictlySortedBy
blocks_empty trees none = record {
  rising = λ db key. tt;
  numbered = λ db key p here. absurd here;
  blocks = λ row. (λ h. absurd (subst (λ rows. Has rows (Int h.0 ∷ row)) none.1 h.1), λ h. absurd (h.4.some refl));
  dict = λ row. (λ h. absurd (subst (λ rows. Has rows (Int h.0 ∷ row)) none.2 h.1), λ h. absurd (h.3 refl));
  alone = none.0;
}

-- what the tables hold is told by the tables of the registers alone
pub blocks_stay : (old new : Trees) (content : Content) → KeepsRegisters old new → HoldsBlocks old content → HoldsBlocks new content
blocks_stay old new content kept holds = record {
  rising = holds.rising;
  numbered = holds.numbered;
  blocks = λ row. (
    λ h. (holds.blocks row).0 (h.0, subst (λ rows. Has rows (Int h.0 ∷ row)) kept.1 h.1),
    λ h. let there = (holds.blocks row).1 h in (there.0, subst (λ rows. Has rows (Int there.0 ∷ row)) (sym kept.1) there.1),
  );
  dict = λ row. (
    λ h. (holds.dict row).0 (h.0, subst (λ rows. Has rows (Int h.0 ∷ row)) kept.2 h.1),
    λ h. let there = (holds.dict row).1 h in (there.0, subst (λ rows. Has rows (Int there.0 ∷ row)) (sym kept.2) there.1),
  );
  alone = kept.0 ∙ holds.alone;
}

-- ---- each register has a list of its terms

-- a key that a record has has a row of `dict`
pub dict_there : (trees : Trees) (content : Content) (db : ℤ) (key : Key) (n : ℕ) → HoldsBlocks trees content → HasKey (posted content db) key n
    → HasRow trees dict_tree (dict_row db key (records_of (content db key)))
dict_there trees content db key n holds has =
    let p = (key_posted content db key n).0 has in
    (holds.dict _).1 (
      db,
      key,
      records_of (content db key),
      not_empty (content db key) p.0 p.1,
      count_so (IsInRecord (content db key)) (HasKey (posted content db) key) (records_of (content db key)) (λ m. ((key_posted content db key m).1, (key_posted content db key m).0)) (records_count (content db key)),
      refl,
    )

text_at : Row → List ℕ
text_at row = text_of (column row 4)

text_is : (id : ℤ) (db : ℤ) (key : Key) (rest : Row) → text_at (Int id ∷ key_row db key ++ rest) ≡ key.term
unfolding text_at text_of
text_is id db key rest = refl

pub blocks_have_terms : (trees : Trees) (content : Content) (db : ℤ) (index : ℕ) (register : Register) → HoldsBlocks trees content → (terms : List TermCount) × AreTermsOf (posted content db) index register terms
blocks_have_terms trees content db index register holds = terms_among content db index register (map text_at (trees dict_tree)) (λ term n in_it.
    let key = key_in index register term in
    let rest : Row = Int (pos (records_of (content db key))) ∷ [] in
    let row = dict_there trees content db key n holds in_it in
    subst (Has (map text_at (trees dict_tree))) (text_is row.0 db key rest) (mapped_has text_at (trees dict_tree) (Int row.0 ∷ key_row db key ++ rest) row.1))

-- ---- a database taken

-- a row that begins with a key of another database
row_elsewhere : (d db : ℤ) (key : Key) (rest row : Row) → d ≢ db → row ≡ key_row d key ++ rest → ¬ IsOfDatabase db row
row_elsewhere d db key rest row other is in_it =
    let one : Int d ≡ Int db = sym (ap (λ (r : Row). column r 0) is) ∙ in_it in
    other (let e : d ≡ db = cc in e)

key_elsewhere : (d db : ℤ) (key : Key) (rest row : Row) → ¬ IsOfDatabase db row → row ≡ key_row d key ++ rest → d ≢ db
key_elsewhere d db key rest row other is same = other (ap (λ (r : Row). column r 0) is ∙ ap Int same)

-- records have the key by one list as by the other
pub keys_as : (one two : Content) (db : ℤ) (key : Key) → one db key ≡ two db key → (n : ℕ) → HasKey (posted one db) key n ↔ HasKey (posted two db) key n
keys_as one two db key same n = (
  λ h. (key_posted two db key n).1 (subst (λ (l : List Posting). IsInRecord l n) same ((key_posted one db key n).0 h)),
  λ h. (key_posted one db key n).1 (subst (λ (l : List Posting). IsInRecord l n) (sym same) ((key_posted two db key n).0 h)),
)

module _ (db : ℤ) (before after : Content) (up : HasRisingLists before) (without : IsWithout db before after) where
  -- the list of a key in another database stays
  list_stays : (d : ℤ) (key : Key) → d ≢ db → after d key ≡ before d key
  list_stays d key other = same_list posting_total (after d key) (before d key) (without.rising d key) (up d key) (λ p h. ((without.left d key p).0 h).0) (λ p h. (without.left d key p).1 (h, other))

  -- a database with a posting isn't the one that was taken
  not_taken : (d : ℤ) (key : Key) (p : Posting) → Has (after d key) p → d ≢ db
  not_taken d key p here = ((without.left d key p).0 here).1

  no_list : (key : Key) → after db key ≡ []
  no_list key = from (after db key) refl
    where
      from : (list : List Posting) → after db key ≡ list → after db key ≡ []
      from [] is = is
      from (p ∷ ps) is = absurd (not_taken db key p (subst (λ (l : List Posting). Has l p) (sym is) (inl refl)) refl)

  -- a key that has a posting left is of another database, and has its list from before
  some_stays : (d : ℤ) (key : Key) → after d key ≢ [] → (d ≢ db) × (after d key ≡ before d key)
  some_stays d key some =
      let other : d ≢ db = λ same. some (ap (λ (e : ℤ). after e key) same ∙ no_list key) in
      (other, list_stays d key other)

  block_left : (row : Row) → IsBlockRow after row ↔ (IsBlockRow before row × ¬ IsOfDatabase db row)
  block_left row = (
    λ it.
        let list = some_stays it.0 it.1 (λ none. it.4.some (ap (part_in it.2) none)) in
        ((it.0, it.1, it.2, it.3, subst (λ (l : List Posting). BlockSpells it.2 (part_in it.2 l) it.3) list.1 it.4, it.5), row_elsewhere it.0 db it.1 _ row list.0 it.5),
    λ both.
        let it = both.0 in
        let other = key_elsewhere it.0 db it.1 _ row both.1 it.5 in
        (it.0, it.1, it.2, it.3, subst (λ (l : List Posting). BlockSpells it.2 (part_in it.2 l) it.3) (sym (list_stays it.0 it.1 other)) it.4, it.5),
  )

  dict_left : (row : Row) → IsDictRow after row ↔ (IsDictRow before row × ¬ IsOfDatabase db row)
  dict_left row = (
    λ it.
        let list = some_stays it.0 it.1 it.3 in (
          (it.0, it.1, it.2, (λ none. it.3 (list.1 ∙ none)), count_so (HasKey (posted after it.0) it.1) (HasKey (posted before it.0) it.1) it.2 (keys_as after before it.0 it.1 list.1) it.4, it.5),
          row_elsewhere it.0 db it.1 _ row list.0 it.5,
        ),
    λ both.
        let it = both.0 in
        let other = key_elsewhere it.0 db it.1 _ row both.1 it.5 in
        let list = list_stays it.0 it.1 other in
        (it.0, it.1, it.2, (λ none. it.3 (sym list ∙ none)), count_so (HasKey (posted before it.0) it.1) (HasKey (posted after it.0) it.1) it.2 (keys_as before after it.0 it.1 (sym list)) it.4, it.5),
  )

-- rows of a table that has lost those of a database
rows_left : (P Q : Row → Type 0) (db : ℤ) (tree : ℕ) (old new later : Trees) → Loses (IsOfDatabase db) tree old new → later tree ≡ new tree → ((row : Row) → HasRow old tree row ↔ P row)
    → ((row : Row) → Q row ↔ (P row × ¬ IsOfDatabase db row)) → (row : Row) → HasRow later tree row ↔ Q row
rows_left P Q db tree old new later lost same each left row = (
  λ h.
      let was = (lost row).0 (h.0, subst (λ rows. Has rows (Int h.0 ∷ row)) same h.1) in
      (left row).1 ((each row).0 was.0, was.1),
  λ q.
      let it = (left row).0 q in
      let is = (lost row).1 ((each row).1 it.0, it.1) in
      (is.0, subst (λ rows. Has rows (Int is.0 ∷ row)) (sym same) is.1),
)

module _ (db : ℤ) (a b c d : State) (one : DropsRegisters db a b) (two : Changes records_tree (Loses (IsOfDatabase db)) b c) (three : Changes databases_tree (TakesDatabase db) c d) where
  pub blocks_without : (before after : Content) → HoldsBlocks a.now.trees before → IsWithout db before after → HoldsBlocks d.now.trees after
  blocks_without before after holds without =
      let same7 : d.now.trees 7 ≡ b.now.trees 7 = three.others.1.1.1.0 (λ e. absurd (omega (arith, e))) ∙ two.others.1.1.1.0 (λ e. absurd (omega (arith, e))) in
      let same9 : d.now.trees 9 ≡ b.now.trees 9 = three.others.1.1.1.1.0 (λ e. absurd (omega (arith, e))) ∙ two.others.1.1.1.1.0 (λ e. absurd (omega (arith, e))) in
      let same11 : d.now.trees 11 ≡ b.now.trees 11 = three.others.1.1.1.1.1.0 (λ e. absurd (omega (arith, e))) ∙ two.others.1.1.1.1.1.0 (λ e. absurd (omega (arith, e))) in
      record {
        rising = without.rising;
        numbered = λ e key p here. holds.numbered e key p ((without.left e key p).0 here).0;
        blocks = rows_left _ _ db blocks_tree a.now.trees b.now.trees d.now.trees one.blocks same9 holds.blocks (block_left db before after holds.rising without);
        dict = rows_left _ _ db dict_tree a.now.trees b.now.trees d.now.trees one.dict same11 holds.dict (dict_left db before after holds.rising without);
        alone = same7 ∙ none_left (IsOfDatabase db) postings_tree a.now.trees b.now.trees one.store.keyed.1.1.1.0 one.postings holds.alone;
      }
