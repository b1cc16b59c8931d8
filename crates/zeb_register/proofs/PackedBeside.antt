-- The rows of `blocks` of a database beside the postings that are expected of it.
use Rattle.zeb_register.proofs.Cited.{Row, column, row_cmp, State, Int, Text, Blob, all_has, has_either, has_left, has_right, has_mapped, mapped_has, Has, row_cmp_total, value_cmp-Int, value_cmp-Text, ◌≡◌, ◌↔◌, ◌∙◌, ◌<◌, ◌≤◌, ◌+◌, ◌/◌, ℕ, zero, suc, ℤ, pos, length, drop, get_or, drop-cons, List, [], ◌∷◌, ◌++◌, map, refl, sym, ap, ap₂, subst, inl, inr, Ordering, Less, Equal, Greater, nat_cmp, ◌≢◌, arith, length-append, length-drop, tied_itself, slice_cmp, ordering_then, Posting, BlockSpells, IsNumbered, spelled_from, start_of, Key, register_code, key_order, key_total, keys_apart, numbers_apart, KeyPosting, posting_cmp, key_posting_order, part_in, AreBlocks, IsBlockBefore, IsBlockRest, key_shown, list_under, with_key, first_three, IsListOf, IsRest, IsStore, blocks_tree}
use Rattle.std.specs.List.Sorted.{IsStrictlySortedBy}
use Rattle.zeb_register.proofs.ContentChanges.{posting_total}
use Rattle.zeb_register.proofs.ContentLemmas.{ints_order, same_key}
use Rattle.zeb_register.proofs.CountLemmas.{is_less}
use Rattle.zeb_register.proofs.AgreeingTables.{key_posting_total, under_has, under_rises}
use Rattle.zeb_register.proofs.ExpectedLists.{then_joined}
use Rattle.zeb_register.proofs.PackedLemmas.{in_part, not_empty, one_spelled, part_in_block, part_in_list, part_lies}
use Rattle.zeb_register.proofs.PostingStatements.{blocks, blocks_static, blocks_keys}
use Rattle.zeb_register.proofs.RisingLists.{joined_rises, kept_rises, never_itself, same_list}
use Rattle.zeb_register.proofs.SharedKeys.{single}
use Rattle.zeb_register.proofs.Scans.{strictly_mapped}

abbrev rest_of : Key → ℕ → List ℕ → Row
rest_of key block bytes = key_shown key ++ Int (pos block) ∷ Blob bytes ∷ []

-- what a row is told by
pub same_rest : (k l : Key) (b c : ℕ) (x y : List ℕ) → rest_of k b x ≡ rest_of l c y → (k ≡ l) × (b ≡ c) × (x ≡ y)
same_rest k l b c x y same =
    let one : Int (pos k.index) ≡ Int (pos l.index) = ap (λ (r : Row). column r 0) same in
    let two : Int (pos (register_code k.register)) ≡ Int (pos (register_code l.register)) = ap (λ (r : Row). column r 1) same in
    let three : Text k.term ≡ Text l.term = ap (λ (r : Row). column r 2) same in
    let four : Int (pos b) ≡ Int (pos c) = ap (λ (r : Row). column r 3) same in
    let five : Blob x ≡ Blob y = ap (λ (r : Row). column r 4) same in
    (same_key k l (cc) (cc) (cc), (let e : b ≡ c = cc in e), (let e : x ≡ y = cc in e))

-- rows are in the order of their keys, and then of their blocks
rows_order : (k l : Key) (b c : ℕ) (x y : List ℕ)
    → row_cmp (rest_of k b x) (rest_of l c y)
    ≡ ordering_then (nat_cmp k.index l.index) (ordering_then (nat_cmp (register_code k.register) (register_code l.register)) (ordering_then (slice_cmp nat_cmp k.term l.term) (ordering_then (nat_cmp b c) (row_cmp (Blob x ∷ []) (Blob y ∷ [])))))
rows_order k l b c x y =
    rw (
      value_cmp-Int (pos k.index) (pos l.index),
      value_cmp-Int (pos (register_code k.register)) (pos (register_code l.register)),
      value_cmp-Text k.term l.term,
      value_cmp-Int (pos b) (pos c),
      ints_order k.index l.index,
      ints_order (register_code k.register) (register_code l.register),
      ints_order b c,
    ) refl

-- ---- a row takes its postings from the front in one way

append_told : {X : Type 0} (front left right : List X) → front ++ left ≡ front ++ right → left ≡ right
append_told [] left right same = same
append_told (x ∷ front) left right same = append_told front left right (let e : front ++ left ≡ front ++ right = cc in e)

pub one_before : (row : Row) (postings one two : List KeyPosting) → IsBlockBefore row postings one → IsBlockBefore row postings two → one ≡ two
one_before row postings one two left right =
    let told = same_rest left.0 right.0 left.1 right.1 left.2 right.2 (sym left.4 ∙ right.4) in
    let moved : BlockSpells left.1 right.3 right.2 = subst (λ (k : ℕ). BlockSpells k right.3 right.2) (sym told.1) right.5 in
    let part : left.3 ≡ right.3 = one_spelled left.1 left.2 left.3 right.3 left.5 (subst (λ (d : List ℕ). BlockSpells left.1 right.3 d) (sym told.2) moved) in
    append_told (map (with_key left.0) left.3) one two (sym left.6 ∙ right.6 ∙ ap₂ (λ (k : Key) (l : List Posting). map (with_key k) l ++ two) (sym told.0) (sym part))

-- ---- a row and what stands before the rest

pub rest_is : (key : Key) (block : ℕ) (bytes : List ℕ) (row : Row) → length row ≡ 5 → first_three row ≡ key_shown key → column row 3 ≡ Int (pos block) → column row 4 ≡ Blob bytes → row ≡ rest_of key block bytes
rest_is key block bytes row five front number value =
    columns row five ∙ ap (λ (r : Row). r ++ column row 3 ∷ column row 4 ∷ []) front ∙ ap₂ (λ n d. key_shown key ++ n ∷ d ∷ []) number value
  where
    columns : (r : Row) → length r ≡ 5 → r ≡ column r 0 ∷ column r 1 ∷ column r 2 ∷ column r 3 ∷ column r 4 ∷ []
    columns [] is = absurd (omega arith)
    columns (a ∷ []) is = absurd (omega arith)
    columns (a ∷ b ∷ []) is = absurd (omega arith)
    columns (a ∷ b ∷ c ∷ []) is = absurd (omega arith)
    columns (a ∷ b ∷ c ∷ d ∷ []) is = absurd (omega arith)
    columns (a ∷ b ∷ c ∷ d ∷ e ∷ []) is = refl
    columns (a ∷ b ∷ c ∷ d ∷ e ∷ f ∷ more) is = absurd (omega arith)

pub none_before : (row : Row) (postings rest : List KeyPosting) → postings ≡ [] → ¬ IsBlockBefore row postings rest
none_before row postings rest none it = from it.3 refl
  where
    from : (part : List Posting) → it.3 ≡ part → ⊥
    from [] is = it.5.some is
    from (p ∷ part) is = let e : [] ≡ with_key it.0 p ∷ (map (with_key it.0) part ++ rest) = sym none ∙ it.6 ∙ ap (λ l. map (with_key it.0) l ++ rest) is in cc

pub key_before : (row : Row) (x : KeyPosting) (more rest : List KeyPosting) → IsBlockBefore row (x ∷ more) rest → first_three row ≡ key_shown x.key
key_before row x more rest it = from it.3 refl
  where
    from : (part : List Posting) → it.3 ≡ part → first_three row ≡ key_shown x.key
    from [] is = absurd (it.5.some is)
    from (p ∷ part) is =
        let e : x ∷ more ≡ with_key it.0 p ∷ (map (with_key it.0) part ++ rest) = it.6 ∙ ap (λ l. map (with_key it.0) l ++ rest) is in
        let same : x ≡ with_key it.0 p = cc in
        ap first_three it.4 ∙ ap key_shown (ap (λ (y : KeyPosting). y.key) (sym same))

pub drop_got : {X : Type 0} (xs : List X) (i : ℕ) (x : X) → i < length xs → x ≡ get_or xs i x → drop i xs ≡ x ∷ drop (i + 1) xs
drop_got xs i x within is = drop-cons xs i x within ∙ ap₂ (λ y k. y ∷ drop k xs) (sym is) (let e : suc i ≡ i + 1 = omega arith in e)

pub drop_over : {X : Type 0} (xs : List X) (i : ℕ) → length xs ≤ i → drop i xs ≡ []
drop_over [] zero few = refl
drop_over [] (suc i) few = refl
drop_over (x ∷ xs) zero few = absurd (omega arith)
drop_over (x ∷ xs) (suc i) few = drop_over xs i (omega arith)

pub drop_none : {X : Type 0} (xs : List X) (i : ℕ) → drop i xs ≡ [] → length xs ≤ i
drop_none [] i none = omega arith
drop_none (x ∷ xs) zero none = absurd (cc)
drop_none (x ∷ xs) (suc i) none = let e = drop_none xs i none in omega arith

-- a front that isn't empty moves the place on
pub moved_on : {X : Type 0} (ps : List X) (front : List X) (at end : ℕ) → drop at ps ≡ front ++ drop end ps → front ≢ [] → at < end
moved_on ps [] at end is some = absurd (some refl)
moved_on ps (x ∷ front) at end is some =
    let long = ap length is ∙ length-append (x ∷ front) (drop end ps) in
    omega (arith, long, length-drop at ps, length-drop end ps)

pub map_none : {A B : Type 0} (f : A → B) (xs : List A) → map f xs ≡ [] → xs ≡ []
map_none f [] none = refl
map_none f (x ∷ xs) none = absurd (cc)

-- ---- what the rows spell, by its members

abbrev Spelt : Row → Type 0
Spelt row = (key : Key) × (block : ℕ) × (bytes : List ℕ) × (part : List Posting) × (row ≡ rest_of key block bytes) × BlockSpells block part bytes

covered : (rows : List Row) (postings : List KeyPosting) → AreBlocks rows postings → (x : KeyPosting) → Has postings x → (row : Row) × (it : Spelt row) × Has rows row × (x.key ≡ it.0) × Has it.3 x.posting
covered [] postings are x here = absurd (subst (λ l. Has l x) are here)
covered (row ∷ rows) postings are x here =
    let it = are.1 in
    elim (has_either (map (with_key it.0) it.3) are.0 x (subst (λ l. Has l x) it.6 here)) [
      | inl front ↦
          let p = has_mapped (with_key it.0) it.3 x front in
          (row, (it.0, it.1, it.2, it.3, it.4, it.5), inl refl, ap (λ (y : KeyPosting). y.key) p.2, subst (Has it.3) (sym (ap (λ (y : KeyPosting). y.posting) p.2)) p.1)
      | inr later ↦ let more = covered rows are.0 are.2 x later in (more.0, more.1, inr more.2, more.3, more.4)
    ]

covers : (rows : List Row) (postings : List KeyPosting) → AreBlocks rows postings → (row : Row) → Has rows row → (it : Spelt row) × ((p : Posting) → Has it.3 p → Has postings (with_key it.0 p))
covers [] postings are row here = absurd here
covers (r ∷ rows) postings are row (inl same) =
    let it = are.1 in (
      (it.0, it.1, it.2, it.3, same ∙ it.4, it.5),
      λ p h. subst (λ l. Has l (with_key it.0 p)) (sym it.6) (has_left (map (with_key it.0) it.3) are.0 (with_key it.0 p) (mapped_has (with_key it.0) it.3 p h)),
    )
covers (r ∷ rows) postings are row (inr later) =
    let it = are.1 in
    let more = covers rows are.0 are.2 row later in (
      more.0,
      λ p h. subst (λ l. Has l (with_key more.0.0 p)) (sym it.6) (has_right (map (with_key it.0) it.3) are.0 (with_key more.0.0 p) (more.1 p h)),
    )

module _ (s : State) (store : IsStore s) (id : ℤ) (postings : List KeyPosting) (up : IsStrictlySortedBy key_posting_order postings) (rows : List Row)
    (are : IsListOf (IsRest blocks_tree (Int id ∷ []) s.now.trees) rows) where
  -- no two rows have one key and one block
  one_bytes : (key : Key) (block : ℕ) (x y : List ℕ) → Has rows (rest_of key block x) → Has rows (rest_of key block y) → x ≡ y
  one_bytes key block x y here there =
      let a = (are.each (rest_of key block x)).0 here in
      let b = (are.each (rest_of key block y)).0 there in
      let same = single 4 blocks blocks_static ((1 ∷ 2 ∷ 3 ∷ 4 ∷ 5 ∷ []) ∷ []) blocks_keys s store a.0 b.0 (Int id ∷ rest_of key block x) (Int id ∷ rest_of key block y) a.1 b.1
      (inl (refl, (refl, (refl, (refl, (refl, tt)))))) (inl (refl, (refl, (refl, (refl, (refl, tt)))))) in
      let bytes : Blob x ≡ Blob y = ap (λ (r : Row). column r 6) same in
      let e : x ≡ y = cc in e

  part_up : (key : Key) (block : ℕ) → IsStrictlySortedBy posting_cmp (part_in block (list_under key postings))
  part_up key block = kept_rises posting_total _ (list_under key postings) (under_rises key postings up)

  -- ---- where the rows spell the postings

  module _ (all : AreBlocks rows postings) where
    part_is : (row : Row) (it : Spelt row) → Has rows row → ((p : Posting) → Has it.3 p → Has postings (with_key it.0 p)) → it.3 ≡ part_in it.1 (list_under it.0 postings)
    part_is row it here inside = same_list posting_total it.3 (part_in it.1 (list_under it.0 postings)) it.5.lies.rising (part_up it.0 it.1)
        (λ p h. in_part it.1 (list_under it.0 postings) p ((under_has it.0 postings p).1 (inside p h)) (all_has (λ (q : Posting). q.sysno / 256 ≡ it.1) it.3 p it.5.lies.inside h))
        (λ p h.
        let listed = (under_has it.0 postings p).0 (part_in_list it.1 (list_under it.0 postings) p h) in
        let other = covered rows postings all (with_key it.0 p) listed in
        let two = other.1 in
        let block : two.1 ≡ it.1 = sym (all_has (λ (q : Posting). q.sysno / 256 ≡ two.1) two.3 p two.5.lies.inside other.4) ∙ part_in_block it.1 (list_under it.0 postings) p h in
        let first : Has rows (rest_of it.0 it.1 it.2) = subst (Has rows) it.4 here in
        let second : Has rows (rest_of it.0 it.1 two.2) = subst (Has rows) (two.4 ∙ ap₂ (λ (k : Key) (b : ℕ). rest_of k b two.2) (sym other.3) block) other.2 in
        let bytes : two.2 ≡ it.2 = sym (one_bytes it.0 it.1 it.2 two.2 first second) in
        let spells : BlockSpells it.1 two.3 it.2 = subst (λ (d : List ℕ). BlockSpells it.1 two.3 d) bytes (subst (λ (b : ℕ). BlockSpells b two.3 two.2) block two.5) in
        subst (λ l. Has l p) (one_spelled it.1 it.2 two.3 it.3 spells it.5) other.4)

    pub blocks_rest : (row : Row) → IsRest blocks_tree (Int id ∷ []) s.now.trees row ↔ IsBlockRest postings row
    blocks_rest row = (
      λ h.
          let here = (are.each row).1 h in
          let it = covers rows postings all row here in
          (it.0.0, it.0.1, it.0.2, subst (λ l. BlockSpells it.0.1 l it.0.2) (part_is row it.0 here it.1) it.0.5, it.0.4),
      λ h. (are.each row).0 (from (part_in h.1 (list_under h.0 postings)) h refl),
    )
      where
        from : (part : List Posting) → (h : IsBlockRest postings row) → part_in h.1 (list_under h.0 postings) ≡ part → Has rows row
        from [] h is = absurd (h.3.some is)
        from (p ∷ part) h is =
            let p_in : Has (part_in h.1 (list_under h.0 postings)) p = subst (λ l. Has l p) (sym is) (inl refl) in
            let listed = (under_has h.0 postings p).0 (part_in_list h.1 (list_under h.0 postings) p p_in) in
            let other = covered rows postings all (with_key h.0 p) listed in
            let two = other.1 in
            let block : two.1 ≡ h.1 = sym (all_has (λ (q : Posting). q.sysno / 256 ≡ two.1) two.3 p two.5.lies.inside other.4) ∙ part_in_block h.1 (list_under h.0 postings) p p_in in
            let own = covers rows postings all other.0 other.2 in
            let told = same_rest own.0.0 two.0 own.0.1 two.1 own.0.2 two.2 (sym own.0.4 ∙ two.4) in
            let list = part_is other.0 own.0 other.2 own.1 in
            let bytes : own.0.2 ≡ h.2 = own.0.5.spelled ∙ ap₂ (λ b l. spelled_from (start_of b) l) (told.1 ∙ block) (list ∙ ap₂ (λ b k. part_in b (list_under k postings)) (told.1 ∙ block) (told.0 ∙ sym other.3)) ∙ sym h.3.spelled in
            subst (Has rows) (own.0.4 ∙ ap₂ (λ (k : Key) (b : ℕ). rest_of k b own.0.2) (told.0 ∙ sym other.3) (told.1 ∙ block) ∙ ap (rest_of h.0 h.1) bytes ∙ sym h.4) other.2

    pub all_numbered : (x : KeyPosting) → Has postings x → IsNumbered x.posting
    all_numbered x here = let it = covered rows postings all x here in all_has IsNumbered it.1.3 x.posting it.1.5.lies.numbered it.4

  -- ---- where the rows are those that are expected

  module _ (numbered : (x : KeyPosting) → Has postings x → IsNumbered x.posting) (holds : (row : Row) → IsRest blocks_tree (Int id ∷ []) s.now.trees row ↔ IsBlockRest postings row) where
    front : (row : Row) → IsBlockRest postings row → List KeyPosting
    front row it = map (with_key it.0) (part_in it.1 (list_under it.0 postings))

    gather : (some : List Row) → ((row : Row) → Has some row → IsBlockRest postings row) → List KeyPosting
    gather [] known = []
    gather (row ∷ some) known = front row (known row (inl refl)) ++ gather some (λ r h. known r (inr h))

    gather_are : (some : List Row) (known : (row : Row) → Has some row → IsBlockRest postings row) → AreBlocks some (gather some known)
    unfolding gather front
    gather_are [] known = refl
    gather_are (row ∷ some) known =
        let it = known row (inl refl) in
        (gather some (λ r h. known r (inr h)), (it.0, it.1, it.2, part_in it.1 (list_under it.0 postings), it.4, it.3, refl), gather_are some (λ r h. known r (inr h)))

    front_has : (row : Row) (it : IsBlockRest postings row) (x : KeyPosting) → Has (front row it) x ↔ (Has postings x × (x.key ≡ it.0) × (x.posting.sysno / 256 ≡ it.1))
    unfolding front
    front_has row it x = (
      λ h.
          let p = has_mapped (with_key it.0) (part_in it.1 (list_under it.0 postings)) x h in
          let listed = (under_has it.0 postings p.0).0 (part_in_list it.1 (list_under it.0 postings) p.0 p.1) in
          (subst (Has postings) (sym p.2) listed, ap (λ (y : KeyPosting). y.key) p.2, ap (λ (y : KeyPosting). y.posting.sysno / 256) p.2 ∙ part_in_block it.1 (list_under it.0 postings) p.0 p.1),
      λ h.
          let same : x ≡ with_key it.0 x.posting = ap (λ (k : Key). with_key k x.posting) h.1 in
          subst (Has (map (with_key it.0) (part_in it.1 (list_under it.0 postings)))) (sym same)
          (mapped_has (with_key it.0) (part_in it.1 (list_under it.0 postings)) x.posting (in_part it.1 (list_under it.0 postings) x.posting ((under_has it.0 postings x.posting).1 (subst (Has postings) same h.0)) h.2)),
    )

    front_rises : (row : Row) (it : IsBlockRest postings row) → IsStrictlySortedBy key_posting_order (front row it)
    unfolding front
    front_rises row it = strictly_mapped posting_cmp key_posting_order (with_key it.0) (part_in it.1 (list_under it.0 postings))
        (λ a b here there less. ap (λ o. ordering_then o (posting_cmp a b)) (tied_itself key_total it.0) ∙ less) (part_up it.0 it.1)

    gather_from : (some : List Row) (known : (row : Row) → Has some row → IsBlockRest postings row) (x : KeyPosting) → Has (gather some known) x → (row : Row) × (here : Has some row) × Has (front row (known row here)) x
    unfolding gather
    gather_from [] known x h = absurd h
    gather_from (row ∷ some) known x h = elim (has_either (front row (known row (inl refl))) (gather some (λ r k. known r (inr k))) x h) [
      | inl first ↦ (row, inl refl, first)
      | inr later ↦ let it = gather_from some (λ r k. known r (inr k)) x later in (it.0, inr it.1, it.2)
    ]

    gather_has : (some : List Row) (known : (row : Row) → Has some row → IsBlockRest postings row) (row : Row) (here : Has some row) (x : KeyPosting) → Has (front row (known row here)) x → Has (gather some known) x
    unfolding gather
    gather_has [] known row here x h = absurd here
    gather_has (r ∷ some) known row (inl same) x h =
        let it = known row (inl same) in
        let first = known r (inl refl) in
        let told = same_rest it.0 first.0 it.1 first.1 it.2 first.2 (sym it.4 ∙ same ∙ first.4) in
        let parts = (front_has row it x).0 h in
        has_left (front r first) (gather some (λ z k. known z (inr k))) x ((front_has r first x).1 (parts.0, parts.1 ∙ told.0, parts.2 ∙ told.1))
    gather_has (r ∷ some) known row (inr later) x h =
        has_right (front r (known r (inl refl))) (gather some (λ z k. known z (inr k))) x (gather_has some (λ z k. known z (inr k)) row later x h)

    -- of two rows the lower has the lower postings
    lower : (x y : Row) (one : IsBlockRest postings x) (two : IsBlockRest postings y) → row_cmp x y ≡ Less → (a b : KeyPosting) → a.key ≡ one.0 → a.posting.sysno / 256 ≡ one.1 → b.key ≡ two.0 → b.posting.sysno / 256 ≡ two.1 → key_posting_order a b ≡ Less
    lower x y one two less a b key_a block_a key_b block_b = from (key_order one.0 two.0) refl
      where
        tail : Ordering
        tail = ordering_then (nat_cmp one.1 two.1) (row_cmp (Blob one.2 ∷ []) (Blob two.2 ∷ []))

        whole : ordering_then (key_order one.0 two.0) tail ≡ Less
        whole =
            then_joined (nat_cmp one.0.index two.0.index) (nat_cmp (register_code one.0.register) (register_code two.0.register)) (slice_cmp nat_cmp one.0.term two.0.term) tail
            ∙ sym (rows_order one.0 two.0 one.1 two.1 one.2 two.2) ∙ sym (ap₂ row_cmp one.4 two.4) ∙ less

        keys : key_order a.key b.key ≡ key_order one.0 two.0
        keys = ap₂ key_order key_a key_b

        blocks_from : one.0 ≡ two.0 → (o : Ordering) → nat_cmp one.1 two.1 ≡ o → tail ≡ Less → posting_cmp a.posting b.posting ≡ Less
        blocks_from same Less is low =
            let under : one.1 < two.1 = is_less one.1 two.1 is in
            let below : a.posting.sysno < b.posting.sysno = omega (arith, under, block_a, block_b) in
            ap (λ o. ordering_then o (ordering_then (nat_cmp a.posting.seq b.posting.seq) (nat_cmp a.posting.pos b.posting.pos))) (let e : nat_cmp a.posting.sysno b.posting.sysno ≡ Less = grind arith in e)
        blocks_from same Greater is low = absurd (let e : Greater ≡ Less = sym (ap (λ o. ordering_then o (row_cmp (Blob one.2 ∷ []) (Blob two.2 ∷ []))) is) ∙ low in cc)
        blocks_from same Equal is low =
            let block : one.1 ≡ two.1 = numbers_apart one.1 two.1 is in
            let bytes : one.2 ≡ two.2 = one.3.spelled ∙ ap₂ (λ (c : ℕ) (k : Key). spelled_from (start_of c) (part_in c (list_under k postings))) block same ∙ sym two.3.spelled in
            let row : y ≡ x = two.4 ∙ ap₂ (λ (k : Key) (c : ℕ). rest_of k c two.2) (sym same) (sym block) ∙ ap (rest_of one.0 one.1) (sym bytes) ∙ sym one.4 in
            absurd (never_itself row_cmp_total x (subst (λ (r : Row). row_cmp x r ≡ Less) row less))

        from : (o : Ordering) → key_order one.0 two.0 ≡ o → key_posting_order a b ≡ Less
        from Less is = ap (λ o. ordering_then o (posting_cmp a.posting b.posting)) (keys ∙ is)
        from Greater is = absurd (let e : Greater ≡ Less = sym (ap (λ o. ordering_then o tail) is) ∙ whole in cc)
        from Equal is =
            ap (λ o. ordering_then o (posting_cmp a.posting b.posting)) (keys ∙ is) ∙ blocks_from (keys_apart one.0 two.0 is) (nat_cmp one.1 two.1) refl (sym (ap (λ o. ordering_then o tail) is) ∙ whole)

    gather_rises : (some : List Row) (known : (row : Row) → Has some row → IsBlockRest postings row) → IsStrictlySortedBy row_cmp some → IsStrictlySortedBy key_posting_order (gather some known)
    unfolding gather IsStrictlySortedBy
    gather_rises [] known rising = tt
    gather_rises (row ∷ some) known rising =
        let it = known row (inl refl) in
        joined_rises key_posting_total (front row it) (gather some (λ r k. known r (inr k))) (front_rises row it) (gather_rises some (λ r k. known r (inr k)) rising.1) (λ a b here there.
        let later = gather_from some (λ r k. known r (inr k)) b there in
        let one = (front_has row it a).0 here in
        let two = (front_has later.0 (known later.0 (inr later.1)) b).0 later.2 in
        lower row later.0 it (known later.0 (inr later.1)) (all_has (λ r. row_cmp row r ≡ Less) some later.0 rising.0 later.1) a b one.1 one.2 two.1 two.2)

    known_rows : (row : Row) → Has rows row → IsBlockRest postings row
    known_rows row here = (holds row).0 ((are.each row).0 here)

    gather_is : gather rows known_rows ≡ postings
    gather_is = same_list key_posting_total (gather rows known_rows) postings (gather_rises rows known_rows are.rising) up
        (λ x h. let it = gather_from rows known_rows x h in ((front_has it.0 (known_rows it.0 it.1) x).0 it.2).0)
        (λ x h.
        let block = x.posting.sysno / 256 in
        let list = list_under x.key postings in
        let inside : Has (part_in block list) x.posting = in_part block list x.posting ((under_has x.key postings x.posting).1 h) refl in
        let row = rest_of x.key block (spelled_from (start_of block) (part_in block list)) in
        let rest : IsBlockRest postings row = (
          x.key,
          block,
          spelled_from (start_of block) (part_in block list),
          record {
            some = not_empty (part_in block list) x.posting inside;
            lies = part_lies block list (under_rises x.key postings up) (λ p k. numbered (with_key x.key p) ((under_has x.key postings p).0 k));
            spelled = refl;
          },
          refl,
        ) in
        let here = (are.each row).1 ((holds row).1 rest) in
        let it = known_rows row here in
        let told = same_rest x.key it.0 block it.1 (spelled_from (start_of block) (part_in block list)) it.2 it.4 in
        gather_has rows known_rows row here x ((front_has row it x).1 (h, told.0, told.1)))

    pub blocks_all : AreBlocks rows postings
    blocks_all = subst (AreBlocks rows) gather_is (gather_are rows known_rows)
