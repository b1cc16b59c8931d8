-- The leaves of a database that hold postings and nothing else take these in a walk over their rows.
use Rattle.zeb_leaves.proofs.Cited.{Row, column, row_cmp, row_cmp_total, Int, Text, Has, all_has, has_either, has_left, has_right, ◌≡◌, ◌≢◌, ◌⊎◌, ◌∙◌, ◌≤◌, ◌/◌, ◌++◌, ◌∷◌, ℕ, zero, suc, pos, List, [], Option, Some, None, length, drop, refl, sym, ap, ap₂, subst, inl, inr, arith, Less, Greater, never_itself, same_list, joined_rises, in_part, not_empty, part_in, key_in, register_code, Entry, Covers, SaysPart, ShowsEntries, leaf_bytes, leaf_key, own_key, LEAF_BYTES, key_posting_total, under_has, one_shown, shown_rises, key_posting_order, list_under, IsListOf, KeyPosting}
use Rattle.std.specs.List.Sorted.{IsStrictlySortedBy}
use Rattle.zeb_leaves.proofs.DatabaseRows.{beside_told, front_of, leaves_between, leaves_up, one_leaf_shown, rows_lie, shown_beside}
use Rattle.zeb_leaves.proofs.GatheredPostings.{IsOf, leaf_from, leaf_has, leaf_part, leaf_rises, leaf_takes, part_of, postings_lower}
use Rattle.zeb_leaves.proofs.OneCover.{same_key}
use Rattle.zeb_leaves.proofs.OwnKeys.{HaveOwnKeys}
use Rattle.zeb_leaves.proofs.SpanRuns.{below_or, less_up}
use Rattle.zeb_leaves.specs.PrivateAgreeing.{AreWalked, Follows, HoldsPostings, IsBeside, IsFirst, Leaf, LeavesIn, ShowsLeaf, entry_key, key_of, leaf_shown, own_of, rest_shown}
use Rattle.zeb_register.proofs.KeyOrder.{greater_is, key_order}

-- no key is below the least one
least : (term : List ℕ) (block : ℕ) → row_cmp (leaf_key term block) (leaf_key [] 0) ≢ Greater → (term ≡ []) × (block ≡ 0)
least [] zero up = (refl, refl)
least [] (suc block) up = absurd (up (key_order [] [] (suc block) 0 ∙ greater_is (suc block) 0 (omega arith)))
least (x ∷ term) block up = absurd (up (key_order (x ∷ term) [] block 0))

module _ (Rests : Row → Type 0) (rows : List Row) (are : IsListOf Rests rows) (own_keys : HaveOwnKeys Rests) (postings : List KeyPosting) (up : IsStrictlySortedBy key_posting_order postings) (holds : HoldsPostings Rests postings) where
  -- ---- what a row shows

  record Leafed (row : Row) : Type 0 where
    leaf : Leaf
    shows : ShowsLeaf row leaf
    there : LeavesIn Rests leaf.key (leaf_shown leaf.key leaf.block shows.bytes)
    within : (e : Entry) → Has leaf.entries e → Covers (LeavesIn Rests leaf.key) (entry_key e) (leaf_shown leaf.key leaf.block shows.bytes)
    small : 2 ≤ length leaf.entries → length (leaf_bytes leaf.entries) ≤ LEAF_BYTES
    said : (e : Entry) → Has leaf.entries e → SaysPart e (part_of postings up leaf.key e)

  leafed : (row : Row) → Rests row → Leafed row
  leafed row h =
      let it = holds.each row h in
      let r = leaf_shown it.0 it.1 it.2 in
      let there : LeavesIn Rests it.0 r = (subst Rests it.3 h, it.1, refl) in
      let alone = holds.alone it.0 r there in
      record {
        leaf = record { key = it.0; block = it.1; entries = alone.entries };
        shows = record { bytes = it.2; is = it.3; shown = alone.shown };
        there = there;
        within = alone.within;
        small = alone.small;
        said = λ e g.
            let reads = holds.reads (key_of it.0 e) e.block in
            let same = one_shown r reads.0 alone.entries (reads.1.shown r (alone.within e g)) alone.shown in
            reads.2.said e (subst (λ l. Has l e) (sym same) g) (refl, refl);
      }

  -- ---- the first leaf of a register

  record First (row : Row) (leaf : Leaf) : Type 0 where
    first_row : Row
    there : Rests first_row
    first_leaf : Leaf
    shows : ShowsLeaf first_row first_leaf
    beside : IsBeside first_leaf.key leaf.key
    first : IsFirst first_leaf

  first_of : (row : Row) (h : Rests row) → First row (leafed row h).leaf
  first_of row h =
      let l = leafed row h in
      let key = key_in l.leaf.key.index l.leaf.key.register [] in
      elim (holds.reads key 0).1.covered [
        | inl it ↦
            let f = front_of key it.0 in
            let m = leafed f it.1.is.0 in
            let own : own_key it.0 ≡ own_of m.leaf = ap (λ (q : Row). own_key (drop 2 q)) m.shows.is in
            record {
              first_row = f;
              there = it.1.is.0;
              first_leaf = m.leaf;
              shows = m.shows;
              beside = shown_beside key it.0 m.leaf m.shows;
              first = least m.leaf.key.term m.leaf.block (λ above. it.1.up_to (ap (λ q. row_cmp q (leaf_key [] 0)) own ∙ above));
            }
        | inr none ↦ absurd (none.1 (leaf_shown l.leaf.key l.leaf.block l.shows.bytes) l.there)
      ]

  -- a leaf that is the first row of its register, or below that, is the first
  own_first : (row : Row) (leaf : Leaf) → ShowsLeaf row leaf → (f : First row leaf) → (row_cmp row f.first_row ≡ Less) ⊎ (f.first_row ≡ row) → IsFirst leaf
  own_first row leaf shows f (inr same) =
      let one = one_leaf_shown row f.first_leaf leaf (subst (λ (q : Row). ShowsLeaf q f.first_leaf) same f.shows) shows in
      subst IsFirst one f.first
  own_first row leaf shows f (inl less) =
      let low = leaves_up row f.first_row leaf f.first_leaf shows f.shows (sym f.beside.0, sym f.beside.1) less in
      least leaf.key.term leaf.block (λ above. low (ap (row_cmp (own_of leaf)) (ap₂ leaf_key f.first.0 f.first.1) ∙ above))

  -- ---- a leaf ends before each that follows it in its register

  ends : (x y : Row) (here : Rests x) (also : Rests y) → row_cmp x y ≡ Less → IsBeside (leafed x here).leaf.key (leafed y also).leaf.key → (e : Entry) → Has (leafed x here).leaf.entries e
      → row_cmp (entry_key e) (own_of (leafed y also).leaf) ≡ Less
  ends x y here also less beside e h = elim (below_or (entry_key e) (own_of (leafed y also).leaf)) [
    | inl low ↦ low
    | inr low ↦
        let a = leafed x here in
        let b = leafed y also in
        let r = leaf_shown b.leaf.key b.leaf.block b.shows.bytes in
        let y_in : y ≡ front_of a.leaf.key r = b.shows.is ∙ ap₂ (λ (i c : ℕ). Int (pos i) ∷ Int (pos c) ∷ r) (sym beside.0) (ap register_code (sym beside.1)) in
        let back : row_cmp (own_of b.leaf) (own_of a.leaf) ≢ Greater = (a.within e h).greatest r (subst Rests y_in also, b.leaf.block, refl) low in
        let keys = same_key a.leaf.key.term b.leaf.key.term a.leaf.block b.leaf.block (leaves_up x y a.leaf b.leaf a.shows b.shows beside less) back in
        let t : Text a.leaf.key.term ≡ Text b.leaf.key.term = ap (λ (k : Row). column k 0) keys in
        let n : Int (pos a.leaf.block) ≡ Int (pos b.leaf.block) = ap (λ (k : Row). column k 1) keys in
        let term : b.leaf.key.term ≡ a.leaf.key.term = cc in
        let block : b.leaf.block ≡ a.leaf.block = cc in
        let y_is : y ≡ rest_shown a.leaf.key a.leaf.block b.shows.bytes = y_in ∙ ap₂ (λ s (m : ℕ). rest_shown (key_of a.leaf.key (record { term = s; block = 0; records = 0; bytes = [] })) m b.shows.bytes) term block in
        let bytes = own_keys a.leaf.key a.leaf.block a.shows.bytes b.shows.bytes (subst Rests a.shows.is here) (subst Rests y_is also) in
        let same : x ≡ y = a.shows.is ∙ ap (rest_shown a.leaf.key a.leaf.block) bytes ∙ sym y_is in
        absurd (never_itself row_cmp_total x (subst (λ (q : Row). row_cmp x q ≡ Less) (sym same) less))
  ]

  -- ---- the rows that are left, behind a leaf

  -- each row is left, or isn't above the row of the leaf, which those that are left are
  abbrev Behind : Option Leaf → List Row → Type 0
  Behind None some = (o : Row) → Rests o → Has some o
  Behind (Some b) some =
      (x : Row) × (there : Rests x) × (b ≡ (leafed x there).leaf) × ((o : Row) → Has some o → row_cmp x o ≡ Less) × ((o : Row) → Rests o → Has some o ⊎ ((o ≡ x) ⊎ (row_cmp o x ≡ Less)))

  left_or : (row : Row) (some : List Row) → IsStrictlySortedBy row_cmp (row ∷ some) → (f : Row) → Has (row ∷ some) f → (row_cmp row f ≡ Less) ⊎ (f ≡ row)
  unfolding IsStrictlySortedBy
  left_or row some rising f (inl same) = inr same
  left_or row some rising f (inr later) = inl (all_has (λ q. row_cmp row q ≡ Less) some f rising.0 later)

  follows : (before : Option Leaf) (row : Row) (some : List Row) (h : Rests row) → IsStrictlySortedBy row_cmp (row ∷ some) → Behind before (row ∷ some) → Follows before (leafed row h).leaf
  follows None row some h rising behind =
      let l = leafed row h in
      let f = first_of row h in
      own_first row l.leaf l.shows f (left_or row some rising f.first_row (behind f.first_row f.there))
  follows (Some b) row some h rising behind =
      let l = leafed row h in
      let x = behind.0 in
      let a = leafed x behind.1 in
      let low : row_cmp x row ≡ Less = behind.3 row (inl refl) in
      let f = first_of row h in
      subst (λ (q : Leaf). Follows (Some q) l.leaf) (sym behind.2) (elim (beside_told a.leaf.key l.leaf.key) [
        | inl beside ↦ inl (record { beside = beside; ends = ends x row behind.1 h low beside })
        | inr other ↦ inr (
          other,
          elim (behind.4 f.first_row f.there) [
            | inl has ↦ own_first row l.leaf l.shows f (left_or row some rising f.first_row has)
            | inr below ↦ absurd (elim below [
              | inl same ↦
                  let one = one_leaf_shown x f.first_leaf a.leaf (subst (λ (q : Row). ShowsLeaf q f.first_leaf) same f.shows) a.shows in
                  other (subst (λ (q : Leaf). IsBeside q.key l.leaf.key) one f.beside)
              | inr less ↦
                  let it = leaves_between f.first_row x row f.first_leaf a.leaf l.leaf f.shows a.shows l.shows f.beside less low in
                  other (sym it.0 ∙ f.beside.0, sym it.1 ∙ f.beside.1)
            ])
          ],
        )
      ])

  behind_next : (before : Option Leaf) (row : Row) (some : List Row) (h : Rests row) → IsStrictlySortedBy row_cmp (row ∷ some) → Behind before (row ∷ some) → Behind (Some (leafed row h).leaf) some
  unfolding IsStrictlySortedBy
  behind_next before row some h rising behind = (row, h, refl, (λ o k. all_has (λ q. row_cmp row q ≡ Less) some o rising.0 k), from before behind)
    where
      left : (o : Row) → Has (row ∷ some) o → Has some o ⊎ ((o ≡ row) ⊎ (row_cmp o row ≡ Less))
      left o (inl same) = inr (inl same)
      left o (inr later) = inl later

      from : (b : Option Leaf) → Behind b (row ∷ some) → (o : Row) → Rests o → Has some o ⊎ ((o ≡ row) ⊎ (row_cmp o row ≡ Less))
      from None behind o g = left o (behind o g)
      from (Some b) behind o g = elim (behind.4 o g) [
        | inl has ↦ left o has
        | inr below ↦ inr (inr (elim below [
          | inl same ↦ subst (λ (q : Row). row_cmp q row ≡ Less) (sym same) (behind.3 row (inl refl))
          | inr less ↦ row_cmp_total.trans o behind.0 row less (behind.3 row (inl refl))
        ]))
      ]

  -- ---- what the rows say, one behind the other

  abbrev Known : List Row → Type 0
  Known some = (row : Row) → Has some row → Rests row

  gather : (some : List Row) → Known some → List KeyPosting
  gather [] known = []
  gather (row ∷ some) known =
      leaf_part postings up (leafed row (known row (inl refl))).leaf.key (leafed row (known row (inl refl))).leaf.entries ++ gather some (λ r k. known r (inr k))

  walk : (before : Option Leaf) (some : List Row) (known : Known some) → IsStrictlySortedBy row_cmp some → Behind before some → AreWalked before some (gather some known)
  unfolding gather IsStrictlySortedBy
  walk before [] known rising behind = refl
  walk before (row ∷ some) known rising behind =
      let h = known row (inl refl) in
      let l = leafed row h in
      let rest = gather some (λ r k. known r (inr k)) in (
        l.leaf,
        rest,
        record {
          shows = l.shows;
          whole = record { from = λ e g. (l.within e g).up_to; small = l.small };
          follows = follows before row some h rising behind;
          takes = leaf_takes postings up l.leaf.key l.leaf.entries rest l.said;
        },
        walk (Some l.leaf) some (λ r k. known r (inr k)) rising.1 (behind_next before row some h rising behind),
      )

  record From (some : List Row) (known : Known some) (x : KeyPosting) : Type 0 where
    row : Row
    here : Has some row
    there : Rests row
    entry : Entry
    has : Has (leafed row there).leaf.entries entry
    listed : Has postings x
    is : IsOf (leafed row there).leaf.key entry x

  gather_from : (some : List Row) (known : Known some) (x : KeyPosting) → Has (gather some known) x → From some known x
  unfolding gather
  gather_from [] known x h = absurd h
  gather_from (row ∷ some) known x h =
      let l = leafed row (known row (inl refl)) in
      elim (has_either (leaf_part postings up l.leaf.key l.leaf.entries) (gather some (λ r k. known r (inr k))) x h) [
        | inl front ↦
            let it = leaf_from postings up l.leaf.key l.leaf.entries x front in
            record { row = row; here = inl refl; there = known row (inl refl); entry = it.0; has = it.1; listed = it.2; is = it.3 }
        | inr later ↦
            let it = gather_from some (λ r k. known r (inr k)) x later in
            record { row = it.row; here = inr it.here; there = it.there; entry = it.entry; has = it.has; listed = it.listed; is = it.is }
      ]

  gather_has : (some : List Row) (known : Known some) (row : Row) → Has some row → (leaf : Leaf) → ShowsLeaf row leaf → (e : Entry) → Has leaf.entries e → (x : KeyPosting) → Has postings x → IsOf leaf.key e x → Has (gather some known) x
  unfolding gather
  gather_has [] known row here leaf shows e h x listed is = absurd here
  gather_has (r ∷ some) known row (inl same) leaf shows e h x listed is =
      let l = leafed r (known r (inl refl)) in
      let one = one_leaf_shown r leaf l.leaf (subst (λ (q : Row). ShowsLeaf q leaf) same shows) l.shows in
      has_left (leaf_part postings up l.leaf.key l.leaf.entries) (gather some (λ r k. known r (inr k))) x
      (leaf_has postings up l.leaf.key l.leaf.entries e (subst (λ (q : Leaf). Has q.entries e) one h) x listed (subst (λ (q : Leaf). IsOf q.key e x) one is))
  gather_has (r ∷ some) known row (inr later) leaf shows e h x listed is =
      let l = leafed r (known r (inl refl)) in
      has_right (leaf_part postings up l.leaf.key l.leaf.entries) (gather some (λ r k. known r (inr k))) x (gather_has some (λ r k. known r (inr k)) row later leaf shows e h x listed is)

  gather_rises : (some : List Row) (known : Known some) → IsStrictlySortedBy row_cmp some → IsStrictlySortedBy key_posting_order (gather some known)
  unfolding gather IsStrictlySortedBy
  gather_rises [] known rising = tt
  gather_rises (row ∷ some) known rising =
      let here = known row (inl refl) in
      let l = leafed row here in
      joined_rises key_posting_total (leaf_part postings up l.leaf.key l.leaf.entries) (gather some (λ r k. known r (inr k)))
      (leaf_rises postings up l.leaf.key l.leaf.entries (shown_rises (leaf_shown l.leaf.key l.leaf.block l.shows.bytes) l.leaf.entries l.shows.shown)) (gather_rises some (λ r k. known r (inr k)) rising.1) (λ a b first later.
      let one = leaf_from postings up l.leaf.key l.leaf.entries a first in
      let two = gather_from some (λ r k. known r (inr k)) b later in
      let m = leafed two.row two.there in
      let low = all_has (λ q. row_cmp row q ≡ Less) some two.row rising.0 two.here in
      postings_lower l.leaf.key m.leaf.key one.0 two.entry a b one.3 two.is (elim (rows_lie row two.row l.leaf m.leaf l.shows m.shows low) [
        | inl below ↦ inl below
        | inr it ↦
            let before = ends row two.row here two.there low it.0 one.0 one.1 in
            let entries = less_up (entry_key one.0) (own_of m.leaf) (entry_key two.entry) before (m.within two.entry two.has).up_to in
            inr (it.0, sym (key_order one.0.term two.entry.term one.0.block two.entry.block) ∙ entries)
      ]))

  known_rows : Known rows
  known_rows row here = (are.each row).0 here

  -- a posting is said by an entry of the leaf that covers its block
  listed_said : (x : KeyPosting) → Has postings x → Has (gather rows known_rows) x
  listed_said x h =
      let block = x.posting.sysno / 256 in
      let list = list_under x.key postings in
      let inside = in_part block list x.posting ((under_has x.key postings x.posting).1 h) refl in
      let reads = holds.reads x.key block in
      let e = reads.2.there (not_empty (part_in block list) x.posting inside) in
      elim reads.1.covered [
        | inr none ↦ absurd (subst (λ l. Has l e.0) none.0 e.1)
        | inl it ↦
            let row = front_of x.key it.0 in
            let l = leafed row it.1.is.0 in
            let r : it.0 ≡ leaf_shown l.leaf.key l.leaf.block l.shows.bytes = ap (drop 2) l.shows.is in
            let entries = one_shown it.0 reads.0 l.leaf.entries (reads.1.shown it.0 it.1) (subst (λ (q : Row). ShowsEntries q l.leaf.entries) (sym r) l.shows.shown) in
            let beside = shown_beside x.key it.0 l.leaf l.shows in
            let keys : x.key ≡ key_of l.leaf.key e.0 = sym (ap₂ (λ i g. key_in i g e.0.term) beside.0 beside.1 ∙ ap (key_in x.key.index x.key.register) e.2.0) in
            gather_has rows known_rows row ((are.each row).1 it.1.is.0) l.leaf l.shows e.0 (subst (λ q. Has q e.0) entries e.1) x h (keys, sym e.2.1)
      ]

  gather_is : gather rows known_rows ≡ postings
  gather_is = same_list key_posting_total (gather rows known_rows) postings (gather_rises rows known_rows are.rising) up (λ x h. (gather_from rows known_rows x h).listed) listed_said

  pub held_walked : AreWalked None rows postings
  held_walked = subst (AreWalked None rows) gather_is (walk None rows known_rows are.rising (λ o g. (are.each o).1 g))
