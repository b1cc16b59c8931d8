-- The leaves of a database, where a walk over their rows takes the postings, hold these and nothing else.
use Rattle.zeb_leaves.proofs.Cited.{Row, column, row_cmp, Int, Text, Blob, Has, ◌≡◌, ◌≢◌, ◌⊎◌, ◌∙◌, ◌/◌, ◌∷◌, ℕ, pos, List, [], None, drop, refl, sym, ap, ap₂, subst, inl, inr, arith, Ordering, Less, Equal, Greater, nat_cmp, slice_cmp, ordering_then, all_has, Posting, posting_cmp, posting_total, same_list, kept_rises, in_part, part_in, part_in_block, part_in_list, register_code, Key, key_in, nat_eq, nat_tests, Entry, Covers, IsAt, IsLeafAlone, IsUpTo, PartReads, SayPart, SaysPart, ShowsEntries, leaf_key, own_key, some_posting, AreWalked, HoldsPostings, IsBeside, Leaf, LeavesIn, ShowsLeaf, entry_key, key_of, leaf_shown, own_of, under_has, under_rises, one_said, one_shown, one_entry, shown_rises, key_posting_order, list_under, with_key, IsListOf, KeyPosting}
use Rattle.std.specs.List.Sorted.{IsStrictlySortedBy}
use Rattle.zeb_leaves.proofs.DatabaseRows.{beside_told, front_of, leaves_less, leaves_up, shown_beside}
use Rattle.zeb_leaves.proofs.OneCover.{entries_at, one_cover}
use Rattle.zeb_leaves.proofs.OwnKeys.{HaveOwnKeys}
use Rattle.zeb_leaves.proofs.SaidLists.{near}
use Rattle.zeb_leaves.proofs.SpanRuns.{flipped, flipped_back, up_itself}
use Rattle.zeb_leaves.proofs.WalkedLeaves.{Stands, walked_begins, walked_ends, walked_leaf, walked_posting}
use Rattle.zeb_register.proofs.KeyOrder.{key_order}

-- ---- the greatest of some rows

pub greatest : (Q : Row → Type 0) (rows : List Row) → IsStrictlySortedBy row_cmp rows → ((r : Row) → Has rows r → Q r ⊎ ¬ Q r)
    → ((r : Row) × Has rows r × Q r × ((o : Row) → Has rows o → Q o → (o ≡ r) ⊎ (row_cmp o r ≡ Less))) ⊎ ((r : Row) → Has rows r → ¬ Q r)
unfolding IsStrictlySortedBy
greatest Q [] up told = inr (λ r h. absurd h)
greatest Q (x ∷ rows) up told = elim (greatest Q rows up.1 (λ r h. told r (inr h))) [
  | inl it ↦ inl (
    it.0,
    inr it.1,
    it.2,
    λ o h q. elim h [
      | inl same ↦ inr (subst (λ (z : Row). row_cmp z it.0 ≡ Less) (sym same) (all_has (λ z. row_cmp x z ≡ Less) rows it.0 up.0 it.1))
      | inr later ↦ it.3 o later q
    ],
  )
  | inr none ↦ elim (told x (inl refl)) [
    | inl here ↦ inl (x, inl refl, here, λ o h q. elim h [ inl same ↦ inl same | inr later ↦ absurd (none o later q) ])
    | inr not ↦ inr (λ r h q. elim h [ inl same ↦ not (subst Q same q) | inr later ↦ none r later q ])
  ]
]

-- the least key is up to each
least_up : (term : List ℕ) (block : ℕ) → row_cmp (leaf_key [] 0) (leaf_key term block) ≢ Greater
least_up term block above = from term (sym (key_order [] term 0 block) ∙ above)
  where
    from : (t : List ℕ) → ordering_then (slice_cmp nat_cmp [] t) (nat_cmp 0 block) ≡ Greater → ⊥
    from [] is = let e : nat_cmp 0 block ≡ Greater = is in grind (arith, nat_tests, e)
    from (x ∷ t) is = let e : Less ≡ Greater = is in cc

up_or : (x y : Row) → (row_cmp x y ≢ Greater) ⊎ (row_cmp x y ≡ Greater)
up_or x y = from (row_cmp x y) refl
  where
    from : (o : Ordering) → row_cmp x y ≡ o → (row_cmp x y ≢ Greater) ⊎ (row_cmp x y ≡ Greater)
    from Less is = inl (λ above. let e : Less ≡ Greater = sym is ∙ above in cc)
    from Equal is = inl (λ above. let e : Equal ≡ Greater = sym is ∙ above in cc)
    from Greater is = inr is

module _ (Rests : Row → Type 0) (rows : List Row) (are : IsListOf Rests rows) (own_keys : HaveOwnKeys Rests) (postings : List KeyPosting) (up : IsStrictlySortedBy key_posting_order postings) (walked : AreWalked None rows postings) where
  module _ (key : Key) where
    abbrev In : Row → Type 0
    In = LeavesIn Rests key

    abbrev front : Row → Row
    front = front_of key

    -- a leaf of the register, by what the walk says of it
    record Known (r : Row) : Type 0 where
      leaf : Leaf
      stands : Stands postings (front r) leaf
      beside : IsBeside leaf.key key
      is : r ≡ leaf_shown leaf.key leaf.block stands.shows.bytes

    known : (r : Row) → In r → Known r
    known r there =
        let it = walked_leaf None rows postings walked (front r) ((are.each (front r)).1 there.0) in
        record { leaf = it.0; stands = it.1; beside = shown_beside key r it.0 it.1.shows; is = ap (drop 2) it.1.shows.is }

    shown : (r : Row) (k : Known r) → ShowsEntries r k.leaf.entries
    shown r k = subst (λ (q : Row). ShowsEntries q k.leaf.entries) (sym k.is) k.stands.shows.shown

    own_is : (r : Row) (k : Known r) → own_key r ≡ own_of k.leaf
    own_is r k = ap own_key k.is

    beside_both : (x y : Row) (a : Known x) (b : Known y) → IsBeside a.leaf.key b.leaf.key
    beside_both x y a b = (a.beside.0 ∙ sym b.beside.0, a.beside.1 ∙ sym b.beside.1)

    -- a row that shows a leaf of the register, and the leaf
    rest_is : (row : Row) (leaf : Leaf) (shows : ShowsLeaf row leaf) → IsBeside leaf.key key → row ≡ front (leaf_shown leaf.key leaf.block shows.bytes)
    rest_is row leaf shows beside = shows.is ∙ ap₂ (λ (i c : ℕ). Int (pos i) ∷ Int (pos c) ∷ leaf_shown leaf.key leaf.block shows.bytes) beside.0 (ap register_code beside.1)

    leaf_in : (row : Row) (leaf : Leaf) → Has rows row → (shows : ShowsLeaf row leaf) → IsBeside leaf.key key → In (leaf_shown leaf.key leaf.block shows.bytes)
    leaf_in row leaf here shows beside = (subst Rests (rest_is row leaf shows beside) ((are.each row).0 here), leaf.block, refl)

    there_in : (r : Row) → In r → Has rows (front r)
    there_in r there = (are.each (front r)).1 there.0

    -- a leaf covers its entries
    within : (x : Row) (there : In x) (e : Entry) → Has (known x there).leaf.entries e → Covers In (entry_key e) x
    within x there e h =
        let k = known x there in
        record {
          is = there;
          up_to = λ above. k.stands.whole.from e h (sym (ap (λ q. row_cmp q (entry_key e)) (own_is x k)) ∙ above);
          greatest = λ o also low above.
              let l = known o also in
              let less : row_cmp (own_of k.leaf) (own_of l.leaf) ≡ Less = sym (ap₂ row_cmp (own_is x k) (own_is o l)) ∙ flipped (own_key o) (own_key x) above in
              let beside = beside_both x o k l in
              let order = leaves_less (front x) (front o) k.leaf l.leaf k.stands.shows l.stands.shows beside less in
              let ends = walked_ends None rows postings walked are.rising (front x) (front o) (there_in x there) (there_in o also) order k.leaf l.leaf k.stands.shows l.stands.shows beside e h in
              low (ap (λ q. row_cmp q (entry_key e)) (own_is o l) ∙ flipped_back (entry_key e) (own_of l.leaf) ends);
        }

    alone : (x : Row) → In x → IsLeafAlone In x
    alone x there =
        let k = known x there in
        record { entries = k.leaf.entries; shown = shown x k; within = within x there; small = k.stands.whole.small }

    -- ---- a key is covered by one leaf, where the register has one

    shaped : (x : Row) → In x → (t : List ℕ) × (b : ℕ) × (d : List ℕ) × (x ≡ Text t ∷ Int (pos b) ∷ Blob d ∷ [])
    shaped x there = let k = known x there in (k.leaf.key.term, k.leaf.block, k.stands.shows.bytes, k.is)

    one : (x y : Row) → In x → In y → own_key x ≡ own_key y → x ≡ y
    one x y left right own =
        let a = shaped x left in
        let b = shaped y right in
        let keys : leaf_key a.0 a.1 ≡ leaf_key b.0 b.1 = sym (ap own_key a.3) ∙ own ∙ ap own_key b.3 in
        let t : Text a.0 ≡ Text b.0 = ap (λ (k : Row). column k 0) keys in
        let n : Int (pos a.1) ≡ Int (pos b.1) = ap (λ (k : Row). column k 1) keys in
        let term : b.0 ≡ a.0 = cc in
        let block : b.1 ≡ a.1 = cc in
        let y_is : y ≡ Text a.0 ∷ Int (pos a.1) ∷ Blob b.2 ∷ [] = b.3 ∙ ap₂ (λ u (m : ℕ). Text u ∷ Int (pos m) ∷ Blob b.2 ∷ []) term block in
        let bytes = own_keys (key_in key.index key.register a.0) a.1 a.2 b.2 (subst (λ q. Rests (front q)) a.3 left.0) (subst (λ q. Rests (front q)) y_is right.0) in
        a.3 ∙ ap (λ d. Text a.0 ∷ Int (pos a.1) ∷ Blob d ∷ []) bytes ∙ sym y_is

    -- a row of the register whose leaf is up to a key
    abbrev IsUp : Row → Row → Type 0
    IsUp sought row = (r : Row) × (row ≡ front r) × IsUpTo sought r

    up_told : (sought row : Row) → Has rows row → IsUp sought row ⊎ ¬ IsUp sought row
    up_told sought row here =
        let it = walked_leaf None rows postings walked row here in
        elim (beside_told it.0.key key) [
          | inr other ↦ inr (λ is. other (shown_beside key is.0 it.0 (subst (λ (q : Row). ShowsLeaf q it.0) is.1 it.1.shows)))
          | inl beside ↦
              let is = rest_is row it.0 it.1.shows beside in
              let leaf = leaf_shown it.0.key it.0.block it.1.shows.bytes in
              elim (up_or (own_key leaf) sought) [
                | inl low ↦ inl (leaf, is, low)
                | inr above ↦ inr (λ also.
                    let same : leaf ≡ also.0 = ap (drop 2) (sym is ∙ also.1) in
                    also.2 (ap (λ q. row_cmp (own_key q) sought) (sym same) ∙ above))
              ]
        ]

    find : (sought : Row) → ((leaf : Row) × Covers In sought leaf) ⊎ ((leaf : Row) → In leaf → ¬ IsUpTo sought leaf)
    find sought = elim (greatest (IsUp sought) rows are.rising (up_told sought)) [
      | inr none ↦ inr (λ leaf there low. none (front leaf) (there_in leaf there) (leaf, refl, low))
      | inl it ↦
          let r = it.2.0 in
          let rests : Rests (front r) = subst Rests it.2.1 ((are.each it.0).0 it.1) in
          let shape = walked_leaf None rows postings walked (front r) ((are.each (front r)).1 rests) in
          let there : In r = (rests, shape.0.block, ap (λ (q : Row). column q 3) shape.1.shows.is) in
          inl (
            r,
            record {
              is = there;
              up_to = it.2.2;
              greatest = λ o also low. elim (it.3 (front o) (there_in o also) (o, refl, low)) [
                | inl same ↦
                    let e : o ≡ r = ap (drop 2) (same ∙ it.2.1) in
                    subst (λ (q : Row). row_cmp (own_key q) (own_key r) ≢ Greater) (sym e) (up_itself (own_key r))
                | inr less ↦ λ above.
                    let l = known o also in
                    let k = known r there in
                    leaves_up (front o) (front r) l.leaf k.leaf l.stands.shows k.stands.shows (beside_both o r l k) (sym (ap (row_cmp (front o)) it.2.1) ∙ less) (sym (ap₂ row_cmp (own_is o l) (own_is r k)) ∙ above)
              ];
            },
          )
    ]

    -- where no leaf is up to a key, the register has none
    no_leaf : (term : List ℕ) (block : ℕ) → ((leaf : Row) → In leaf → ¬ IsUpTo (leaf_key term block) leaf) → (leaf : Row) → ¬ In leaf
    no_leaf term block none leaf there =
        let k = known leaf there in
        elim (walked_begins None rows postings walked (front leaf) (there_in leaf there) k.leaf k.stands.shows) [
          | inl it ↦ let e = it.1 in absurd (cc)
          | inr it ↦
              let beside : IsBeside it.1.key key = (it.4.0 ∙ k.beside.0, it.4.1 ∙ k.beside.1) in
              none (leaf_shown it.1.key it.1.block it.3.bytes) (leaf_in it.0 it.1 it.2 it.3 beside)
              (λ above. least_up term block (sym (ap₂ (λ t b. row_cmp (leaf_key t b) (leaf_key term block)) it.5.0 it.5.1) ∙ above))
        ]

    -- ---- which entry says a posting

    record Sayer (p : Posting) : Type 0 where
      row : Row
      covers : Covers In (leaf_key key.term (p.sysno / 256)) row
      entries : List Entry
      shows : ShowsEntries row entries
      entry : Entry
      here : Has entries entry
      at : IsAt key.term (p.sysno / 256) entry
      part : List Posting
      says : SaysPart entry part
      has : Has part p

    sayer : (p : Posting) → Has postings (with_key key p) → Sayer p
    sayer p h =
        let it = walked_posting None rows postings walked (with_key key p) h in
        let leaf = it.1 in
        let said = it.4 in
        let beside : IsBeside leaf.key key = (sym (ap (λ (k : Key). k.index) said.5), sym (ap (λ (k : Key). k.register) said.5)) in
        let term : said.0.term ≡ key.term = sym (ap (λ (k : Key). k.term) said.5) in
        let block : said.0.block ≡ p.sysno / 256 = sym (near said.0 said.1 said.3 p said.4) in
        let r = leaf_shown leaf.key leaf.block it.3.bytes in
        let there = leaf_in it.0 leaf it.2 it.3 beside in
        let k = known r there in
        let same = one_shown r leaf.entries k.leaf.entries it.3.shown (shown r k) in
        let covers = within r there said.0 (subst (λ l. Has l said.0) same said.2) in
        record {
          row = r;
          covers = subst (λ (q : Row). Covers In q r) (ap₂ leaf_key term block) covers;
          entries = leaf.entries;
          shows = it.3.shown;
          entry = said.0;
          here = said.2;
          at = (term, block);
          part = said.1;
          says = said.3;
          has = said.4;
        }

    part_up : (block : ℕ) → IsStrictlySortedBy posting_cmp (part_in block (list_under key postings))
    part_up block = kept_rises posting_total (λ (p : Posting). nat_eq (p.sysno / 256) block) (list_under key postings) (under_rises key postings up)

    sayer_of : (block : ℕ) (p : Posting) → Has (part_in block (list_under key postings)) p → Sayer p
    sayer_of block p h = sayer p ((under_has key postings p).0 (part_in_list block (list_under key postings) p h))

    -- the leaf that covers a block says the postings of the key there
    module _ (block : ℕ) (r : Row) (covers : Covers In (leaf_key key.term block) r) where
      abbrev k : Known r
      k = known r covers.is

      abbrev part : List Posting
      part = part_in block (list_under key postings)

      -- an entry of this leaf says the posting
      here_said : (p : Posting) → Has part p → (e : Entry) × (own : List Posting) × Has k.leaf.entries e × IsAt key.term block e × SaysPart e own × Has own p
      here_said p h =
          let it = sayer_of block p h in
          let in_it = part_in_block block (list_under key postings) p h in
          let same = one_cover In shaped one (leaf_key key.term block) it.row r (subst (λ b. Covers In (leaf_key key.term b) it.row) in_it it.covers) covers in
          let entries = one_shown r it.entries k.leaf.entries (subst (λ (q : Row). ShowsEntries q it.entries) same it.shows) (shown r k) in
          (it.entry, it.part, subst (λ l. Has l it.entry) entries it.here, (it.at.0, it.at.1 ∙ in_it), it.says, it.has)

      part_said : (e : Entry) → Has k.leaf.entries e → IsAt key.term block e → SaysPart e part
      part_said e h at =
          let own = k.stands.said e h in
          let keys : key_of k.leaf.key e ≡ key = ap₂ (λ i g. key_in i g e.term) k.beside.0 k.beside.1 ∙ ap (key_in key.index key.register) at.0 in
          let same : own.0 ≡ part = same_list posting_total own.0 part own.1.spelled.lies.rising (part_up block)
          (λ p g. in_part block (list_under key postings) p ((under_has key postings p).1 (subst (λ (l : Key). Has postings (with_key l p)) keys (own.2 p g))) (near e own.0 own.1 p g ∙ at.1))
          (λ p g.
          let it = here_said p g in
          let entry = one_entry k.leaf.entries it.0 e (shown_rises r k.leaf.entries (shown r k)) it.2 h (it.3.0 ∙ sym at.0) (it.3.1 ∙ sym at.1) in
          subst (λ l. Has l p) (one_said e it.1 own.0 (subst (λ (d : Entry). SaysPart d it.1) entry it.4) own.1) it.5) in
          subst (SaysPart e) same own.1

      part_says : SayPart k.leaf.entries key.term block part
      part_says = record {
        said = part_said;
        there = λ some. let p = some_posting part some in let it = here_said p.0 p.1 in (it.0, it.2, it.3);
      }

    reads : (block : ℕ) → PartReads In key.term block (part_in block (list_under key postings))
    reads block = elim (find (leaf_key key.term block)) [
      | inl it ↦
          let k = known it.0 it.1.is in
          (k.leaf.entries, entries_at In shaped one (leaf_key key.term block) it.0 k.leaf.entries it.1 (shown it.0 k), part_says block it.0 it.1)
      | inr none ↦ (
        [],
        record { shown = λ leaf covers. absurd (none leaf covers.is covers.up_to); covered = inr (refl, no_leaf key.term block none) },
        record {
          said = λ e h at. absurd h;
          there = λ some.
              let p = some_posting (part_in block (list_under key postings)) some in
              let it = sayer_of block p.0 p.1 in
              absurd (no_leaf key.term block none it.row it.covers.is);
        },
      )
    ]

  pub walked_hold : HoldsPostings Rests postings
  walked_hold = record {
    each = λ row h. let it = walked_leaf None rows postings walked row ((are.each row).1 h) in (it.0.key, it.0.block, it.1.shows.bytes, it.1.shows.is);
    alone = alone;
    reads = reads;
  }
