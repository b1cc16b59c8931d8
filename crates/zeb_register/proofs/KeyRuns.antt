-- The rows of `dict` of a database beside the postings that are expected of it: each row beside the run of its key.
use Rattle.zeb_register.proofs.Cited.{Row, column, row_cmp, Int, Text, all_has, has_either, has_left, has_right, has_mapped, mapped_has, Has, row_cmp_total, value_cmp-Int, value_cmp-Text, ◌≡◌, ◌≢◌, ◌↔◌, ◌⊎◌, ◌∙◌, ◌<◌, ◌≤◌, ◌+◌, ℕ, pos, List, [], ◌∷◌, ◌++◌, map, take, drop, length, get_or, refl, sym, ap, ap₂, subst, inl, inr, Ordering, Less, Equal, Greater, nat_cmp, arith, nat_tests, tied_itself, slice_cmp, AllByRecursion, ordering_then, Posting, Key, register_code, key_order, key_total, keys_apart, numbers_apart, KeyPosting, posting_cmp, key_posting_order, IsCount, IsDictRest, TakeAll, key_shown, list_under, with_key, BeginsOther, IsFrontOf, IsRunBefore, IsRunFrom, dict_rest, first_three, IsInRecord}
use Rattle.std.specs.List.Sorted.{IsStrictlySortedBy}
use Rattle.zeb_register.proofs.ContentLemmas.{ints_order, same_key}
use Rattle.zeb_register.proofs.CountLemmas.{IsNewest, above_newest, count_more, count_none, count_so, has_end, less_is, is_less, newest_is, newest_stays, one_count}
use Rattle.zeb_register.proofs.AgreeingTables.{key_posting_total, under_has, under_rises}
use Rattle.zeb_register.proofs.PackedBeside.{drop_got, drop_over}
use Rattle.zeb_register.proofs.PackedLemmas.{not_empty}
use Rattle.zeb_register.proofs.RisingLists.{same_list}
use Rattle.zeb_register.proofs.TermRows.{taken_below, taken_more, up_to}

-- keys that are not in order are not the same
other_key : (k l : Key) → key_order k l ≡ Less → k ≢ l
other_key k l h same = let e : Less ≡ Equal = sym h ∙ ap (λ u. key_order u l) same ∙ tied_itself key_total l in cc

-- postings in order are of keys in order, or of one key and of records in order
key_up : (a b : KeyPosting) → key_posting_order a b ≡ Less → (key_order a.key b.key ≡ Less) ⊎ ((a.key ≡ b.key) × (a.posting.sysno ≤ b.posting.sysno))
key_up a b low = from (key_order a.key b.key) refl
  where
    from : (o : Ordering) → key_order a.key b.key ≡ o → (key_order a.key b.key ≡ Less) ⊎ ((a.key ≡ b.key) × (a.posting.sysno ≤ b.posting.sysno))
    from Less at = inl at
    from Equal at =
        let places : posting_cmp a.posting b.posting ≡ Less = sym (ap (λ o. ordering_then o (posting_cmp a.posting b.posting)) at) ∙ low in
        inr (keys_apart a.key b.key at, up_to a.posting.sysno b.posting.sysno _ places)
    from Greater at = absurd (let e : Greater ≡ Less = sym (ap (λ o. ordering_then o (posting_cmp a.posting b.posting)) at) ∙ low in cc)

-- ---- a run that is counted posting by posting

-- the postings from a place up to an end are of the key, and so many records have one of them, up to the newest
abbrev pub IsCountedTo : Key → List KeyPosting → ℕ → ℕ → ℕ → ℕ → Type 0
IsCountedTo key ps at end records newest =
    (run : List Posting) × (drop at ps ≡ map (with_key key) run ++ drop end ps) × ((q : Posting) → Has run q → Has (take end ps) (with_key key q))
    × (IsStrictlySortedBy key_posting_order ps → ((run ≡ []) × (records ≡ 0)) ⊎ ((records ≢ 0) × IsCount (IsInRecord run) records × IsNewest (IsInRecord run) newest))

pub counted_none : (key : Key) (ps : List KeyPosting) (at newest : ℕ) → IsCountedTo key ps at at 0 newest
counted_none key ps at newest = ([], refl, (λ q h. absurd h), λ up. inl (refl, refl))

joined : (key : Key) (run : List Posting) (p : Posting) (rest : List KeyPosting) → map (with_key key) run ++ with_key key p ∷ rest ≡ map (with_key key) (run ++ p ∷ []) ++ rest
joined key [] p rest = refl
joined key (q ∷ run) p rest = ap (λ l. with_key key q ∷ l) (joined key run p rest)

in_more : (run : List Posting) (p : Posting) (m : ℕ) → IsInRecord (run ++ p ∷ []) m ↔ (IsInRecord run m ⊎ (m ≡ p.sysno))
in_more run p m = (
  λ h. elim (has_end run p h.0 h.1) [ inl there ↦ inl (h.0, there, h.2) | inr same ↦ inr (sym h.2 ∙ ap (λ (x : Posting). x.sysno) same) ],
  λ h. elim h [ inl there ↦ (there.0, has_left run (p ∷ []) there.0 there.1, there.2) | inr same ↦ (p, has_right run (p ∷ []) p (inl refl), sym same) ],
)

no_records : (run : List Posting) → run ≡ [] → (n : ℕ) → ¬ IsInRecord run n
no_records run none n h = subst (λ l. Has l h.0) none h.1

module _ (key : Key) (ps : List KeyPosting) (at end records newest : ℕ) (p : KeyPosting) (within : end < length ps) (is : p ≡ get_or ps end p) (same : p.key ≡ key)
    (before : IsCountedTo key ps at end records newest) where
  abbrev run : List Posting
  run = before.0

  front : drop at ps ≡ map (with_key key) (run ++ p.posting ∷ []) ++ drop (end + 1) ps
  front = before.1 ∙ ap (λ l. map (with_key key) run ++ l) (drop_got ps end p within is ∙ ap (λ (k : Key). with_key k p.posting ∷ drop (end + 1) ps) same) ∙ joined key run p.posting (drop (end + 1) ps)

  inside : (q : Posting) → Has (run ++ p.posting ∷ []) q → Has (take (end + 1) ps) (with_key key q)
  inside q h = elim (has_end run p.posting q h) [
    | inl there ↦ (taken_more ps end p within is (with_key key q)).1 (inl (before.2 q there))
    | inr last ↦ (taken_more ps end p within is (with_key key q)).1 (inr (ap (with_key key) last ∙ ap (λ (k : Key). with_key k p.posting) (sym same)))
  ]

  upto : IsStrictlySortedBy key_posting_order ps → (m : ℕ) → IsInRecord run m → m ≤ p.posting.sysno
  upto up m h = elim (key_up (with_key key h.0) p (taken_below key_posting_total ps end p up within is (with_key key h.0) (before.2 h.0 h.1))) [
    | inl lower ↦ absurd (other_key key p.key lower (sym same))
    | inr tied ↦ omega (arith, h.2, tied.1)
  ]

  -- a record more
  pub counted_new : (records ≡ 0) ⊎ (p.posting.sysno ≢ newest) → IsCountedTo key ps at (end + 1) (records + 1) p.posting.sysno
  counted_new new = (
    run ++ p.posting ∷ [],
    front,
    inside,
    λ up.
        let count : IsCount (IsInRecord (run ++ p.posting ∷ [])) (records + 1) = elim (before.3 up) [
          | inl none ↦ subst (λ n. IsCount (IsInRecord (run ++ p.posting ∷ [])) (n + 1)) (sym none.1)
              (count_more (IsInRecord run) (IsInRecord (run ++ p.posting ∷ [])) 0 p.posting.sysno (count_none (IsInRecord run) (no_records run none.0)) (in_more run p.posting) (λ m h. absurd (no_records run none.0 m h)))
          | inr some ↦
              let differs : p.posting.sysno ≢ newest = elim new [ inl zero' ↦ absurd (some.0 zero') | inr other ↦ other ] in
              count_more (IsInRecord run) (IsInRecord (run ++ p.posting ∷ [])) records p.posting.sysno some.1 (in_more run p.posting) (above_newest (IsInRecord run) newest p.posting.sysno some.2 (upto up) differs)
        ] in
        inr ((λ none. omega (arith, none)), count, newest_is (IsInRecord run) (IsInRecord (run ++ p.posting ∷ [])) p.posting.sysno (in_more run p.posting) (upto up)),
  )

  -- the newest record again
  pub counted_again : records ≢ 0 → p.posting.sysno ≡ newest → IsCountedTo key ps at (end + 1) records newest
  counted_again some again = (
    run ++ p.posting ∷ [],
    front,
    inside,
    λ up. elim (before.3 up) [
      | inl none ↦ absurd (some none.1)
      | inr it ↦ inr (
        some,
        count_so (IsInRecord run) (IsInRecord (run ++ p.posting ∷ [])) records (newest_stays (IsInRecord run) (IsInRecord (run ++ p.posting ∷ [])) newest p.posting.sysno it.2 again (in_more run p.posting)) it.1,
        subst (IsNewest (IsInRecord (run ++ p.posting ∷ []))) again (newest_is (IsInRecord run) (IsInRecord (run ++ p.posting ∷ [])) p.posting.sysno (in_more run p.posting) (upto up)),
      )
    ],
  )

-- the run is counted
counted_run : (key : Key) (ps : List KeyPosting) (at end records newest : ℕ) → IsCountedTo key ps at end records newest → BeginsOther key (drop end ps) → IsRunFrom key ps at end records
counted_run key ps at end records newest it other = (
  it.0,
  (it.1, other),
  λ up. elim (it.3 up) [
    | inl none ↦ subst (IsCount (IsInRecord it.0)) (sym none.1) (count_none (IsInRecord it.0) (no_records it.0 none.0))
    | inr some ↦ some.1
  ],
)

pub run_ended : (key : Key) (ps : List KeyPosting) (at end records newest : ℕ) → IsCountedTo key ps at end records newest → length ps ≤ end → IsRunFrom key ps at end records
run_ended key ps at end records newest it over = counted_run key ps at end records newest it (subst (BeginsOther key) (sym (drop_over ps end over)) tt)

pub run_before : (key : Key) (ps : List KeyPosting) (at end records newest : ℕ) (p : KeyPosting) → end < length ps → p ≡ get_or ps end p → p.key ≢ key → IsCountedTo key ps at end records newest → IsRunFrom key ps at end records
run_before key ps at end records newest p within is other it = counted_run key ps at end records newest it (subst (BeginsOther key) (sym (drop_got ps end p within is)) other)

-- ---- a row beside the run of its key

-- what stands of a key at the front is told by the key
pub one_front : (key : Key) (one two : List Posting) (left right : List KeyPosting) → map (with_key key) one ++ left ≡ map (with_key key) two ++ right → BeginsOther key left → BeginsOther key right → (one ≡ two) × (left ≡ right)
one_front key [] [] left right same ends stops = (refl, same)
one_front key [] (p ∷ two) [] right same ends stops = absurd (cc)
one_front key [] (p ∷ two) (x ∷ left) right same ends stops = absurd (ends (let e : x ≡ with_key key p = cc in ap (λ (y : KeyPosting). y.key) e))
one_front key (p ∷ one) [] left [] same ends stops = absurd (cc)
one_front key (p ∷ one) [] left (x ∷ right) same ends stops = absurd (stops (let e : x ≡ with_key key p = cc in ap (λ (y : KeyPosting). y.key) e))
one_front key (p ∷ one) (q ∷ two) left right same ends stops =
    let first : with_key key p ≡ with_key key q = cc in
    let more = one_front key one two left right (let e : map (with_key key) one ++ left ≡ map (with_key key) two ++ right = cc in e) ends stops in
    (ap₂ (λ a l. a ∷ l) (ap (λ (y : KeyPosting). y.posting) first) more.0, more.1)

pub same_dict : (k l : Key) (m n : ℕ) → dict_rest k m ≡ dict_rest l n → (k ≡ l) × (m ≡ n)
same_dict k l m n same =
    let one : Int (pos k.index) ≡ Int (pos l.index) = ap (λ (r : Row). column r 0) same in
    let two : Int (pos (register_code k.register)) ≡ Int (pos (register_code l.register)) = ap (λ (r : Row). column r 1) same in
    let three : Text k.term ≡ Text l.term = ap (λ (r : Row). column r 2) same in
    let four : Int (pos m) ≡ Int (pos n) = ap (λ (r : Row). column r 3) same in
    (same_key k l (cc) (cc) (cc), (let e : m ≡ n = cc in e))

pub one_run : (row : Row) (ps one two : List KeyPosting) → IsRunBefore row ps one → IsRunBefore row ps two → one ≡ two
one_run row ps one two left right =
    let told = same_dict left.0 right.0 left.1 right.1 (sym left.3 ∙ right.3) in
    let moved : IsFrontOf left.0 right.2 ps two = subst (λ (k : Key). IsFrontOf k right.2 ps two) (sym told.0) right.6 in
    (one_front left.0 left.2 right.2 one two (sym left.6.0 ∙ moved.0) left.6.1 moved.1).1

-- no run stands before the end
pub none_run : (row : Row) (ps rest : List KeyPosting) → ps ≡ [] → ¬ IsRunBefore row ps rest
none_run row ps rest none it = from it.2 it.4 (sym none ∙ it.6.0)
  where
    from : (run : List Posting) → run ≢ [] → [] ≡ map (with_key it.0) run ++ rest → ⊥
    from [] some is = some refl
    from (p ∷ run) some is = cc

-- the row shows the key of the first posting
pub run_key : (row : Row) (x : KeyPosting) (more rest : List KeyPosting) (it : IsRunBefore row (x ∷ more) rest) → it.0 ≡ x.key
run_key row x more rest it = from it.2 it.4 it.6.0
  where
    from : (run : List Posting) → run ≢ [] → x ∷ more ≡ map (with_key it.0) run ++ rest → it.0 ≡ x.key
    from [] some is = absurd (some refl)
    from (p ∷ run) some is = let e : x ≡ with_key it.0 p = cc in ap (λ (y : KeyPosting). y.key) (sym e)

pub run_begins : (row : Row) (x : KeyPosting) (more rest : List KeyPosting) → IsRunBefore row (x ∷ more) rest → first_three row ≡ key_shown x.key
run_begins row x more rest it = ap first_three it.3 ∙ shown it.0 it.1 ∙ ap key_shown (run_key row x more rest it)
  where
    shown : (key : Key) (records : ℕ) → first_three (dict_rest key records) ≡ key_shown key
    shown key records = refl

-- what stands at the front of the key of the first posting isn't empty
pub some_front : (x : KeyPosting) (more rest : List KeyPosting) (run : List Posting) → IsFrontOf x.key run (x ∷ more) rest → run ≢ []
some_front x more [] run it none = let e : x ∷ more ≡ [] = it.0 ∙ ap (λ l. map (with_key x.key) l ++ []) none in cc
some_front x more (y ∷ rest) run it none =
    let e : x ∷ more ≡ y ∷ rest = it.0 ∙ ap (λ l. map (with_key x.key) l ++ y ∷ rest) none in
    let same : y ≡ x = cc in
    it.1 (ap (λ (z : KeyPosting). z.key) same)

pub dict_is : (key : Key) (records : ℕ) (row : Row) → length row ≡ 4 → first_three row ≡ key_shown key → column row 3 ≡ Int (pos records) → row ≡ dict_rest key records
dict_is key records row four front number = columns row four ∙ ap (λ (r : Row). r ++ column row 3 ∷ []) front ∙ ap (λ n. key_shown key ++ n ∷ []) number
  where
    columns : (r : Row) → length r ≡ 4 → r ≡ column r 0 ∷ column r 1 ∷ column r 2 ∷ column r 3 ∷ []
    columns [] is = absurd (omega arith)
    columns (a ∷ []) is = absurd (omega arith)
    columns (a ∷ b ∷ []) is = absurd (omega arith)
    columns (a ∷ b ∷ c ∷ []) is = absurd (omega arith)
    columns (a ∷ b ∷ c ∷ d ∷ []) is = refl
    columns (a ∷ b ∷ c ∷ d ∷ e ∷ more) is = absurd (omega arith)

-- a row shows how many records have the run of its key
pub run_shows : (row : Row) (x : KeyPosting) (more rest left : List KeyPosting) (records : ℕ) (run : List Posting) → IsRunBefore row (x ∷ more) rest → IsFrontOf x.key run (x ∷ more) left → IsCount (IsInRecord run) records → column row 3 ≡ Int (pos records)
run_shows row x more rest left records run it front count =
    let moved : IsFrontOf x.key it.2 (x ∷ more) rest = subst (λ (k : Key). IsFrontOf k it.2 (x ∷ more) rest) (run_key row x more rest it) it.6 in
    let one = (one_front x.key it.2 run rest left (sym moved.0 ∙ front.0) moved.1 front.1).0 in
    let many = one_count (IsInRecord run) it.1 records (subst (λ l. IsCount (IsInRecord l) it.1) one it.5) count in
    ap (λ (r : Row). column r 3) it.3 ∙ ap (λ n. Int (pos n)) many

-- ---- the rows of all runs

tied_or : (o : Ordering) → (o ≡ Equal) ⊎ (o ≢ Equal)
tied_or Equal = inl refl
tied_or Less = inr (λ is. cc)
tied_or Greater = inr (λ is. cc)

has_record : (one two : List Posting) → ((p : Posting) → Has one p ↔ Has two p) → (n : ℕ) → IsInRecord one n ↔ IsInRecord two n
has_record one two so n = (λ h. (h.0, (so h.0).0 h.1, h.2), λ h. (h.0, (so h.0).1 h.1, h.2))

some_of : (list : List Posting) → list ≢ [] → (p : Posting) × Has list p
some_of [] some = absurd (some refl)
some_of (p ∷ list) some = (p, inl refl)

rear : (xs ys : List KeyPosting) → IsStrictlySortedBy key_posting_order (xs ++ ys) → IsStrictlySortedBy key_posting_order ys
unfolding IsStrictlySortedBy
rear [] ys up = up
rear (x ∷ xs) ys up = rear xs ys up.1

each_all : {X : Type 0} (P : X → Type 0) (xs : List X) → ((x : X) → Has xs x → P x) → AllByRecursion P xs
each_all P [] each = tt
each_all P (x ∷ xs) each = (each x (inl refl), each_all P xs (λ y h. each y (inr h)))

-- one posting more at the front of a rising list that is counted
module _ (p : Posting) (list : List Posting) (n : ℕ) (it : IsCount (IsInRecord list) n) (low : AllByRecursion (λ x. posting_cmp p x ≡ Less) list) where
  later : (m : ℕ) → Has it.numbers m → p.sysno ≤ m
  later m h = let q = (it.each m).0 h in omega (arith, q.2, up_to p.sysno q.0.sysno _ (all_has (λ x. posting_cmp p x ≡ Less) list q.0 low q.1))

  each_new : (m : ℕ) → Has (p.sysno ∷ it.numbers) m ↔ IsInRecord (p ∷ list) m
  each_new m = (
    λ h. elim h [ inl same ↦ (p, inl refl, sym same) | inr there ↦ let q = (it.each m).0 there in (q.0, inr q.1, q.2) ],
    λ h. elim h.1 [ inl same ↦ inl (sym h.2 ∙ ap (λ (x : Posting). x.sysno) same) | inr there ↦ inr ((it.each m).1 (h.0, there, h.2)) ],
  )

  put : ((m : ℕ) → Has it.numbers m → p.sysno < m) → (n : ℕ) × IsCount (IsInRecord (p ∷ list)) n
  unfolding IsStrictlySortedBy
  put lower = (
    length (p.sysno ∷ it.numbers),
    record {
      numbers = p.sysno ∷ it.numbers;
      rising = (each_all (λ m. nat_cmp p.sysno m ≡ Less) it.numbers (λ m h. less_is p.sysno m (lower m h)), it.rising);
      each = each_new;
      count_is = refl;
    },
  )

  again : Has it.numbers p.sysno → (n : ℕ) × IsCount (IsInRecord (p ∷ list)) n
  again here = (
    n,
    record {
      numbers = it.numbers;
      rising = it.rising;
      each = λ m. (
        λ h. (each_new m).0 (inr h),
        λ h. elim ((each_new m).1 h) [ inl same ↦ subst (Has it.numbers) (sym same) here | inr there ↦ there ],
      );
      count_is = it.count_is;
    },
  )

  count_put : (n : ℕ) × IsCount (IsInRecord (p ∷ list)) n
  unfolding IsStrictlySortedBy
  count_put = from it.numbers refl
    where
      from : (numbers : List ℕ) → it.numbers ≡ numbers → (n : ℕ) × IsCount (IsInRecord (p ∷ list)) n
      from [] is = put (λ m h. absurd (subst (λ l. Has l m) is h))
      from (least ∷ more) is = compare (nat_cmp p.sysno least) refl
        where
          first : Has it.numbers least
          first = subst (λ l. Has l least) (sym is) (inl refl)

          rises : IsStrictlySortedBy nat_cmp (least ∷ more)
          rises = subst (IsStrictlySortedBy nat_cmp) is it.rising

          above : (m : ℕ) → Has it.numbers m → least ≤ m
          above m h = elim (subst (λ l. Has l m) is h) [ inl same ↦ omega (arith, same) | inr there ↦ omega (arith, is_less least m (all_has (λ z. nat_cmp least z ≡ Less) more m rises.0 there)) ]

          compare : (o : Ordering) → nat_cmp p.sysno least ≡ o → (n : ℕ) × IsCount (IsInRecord (p ∷ list)) n
          compare Less lower = put (λ m h. omega (arith, is_less p.sysno least lower, above m h))
          compare Equal tied = again (subst (Has it.numbers) (sym (numbers_apart p.sysno least tied)) first)
          compare Greater over = absurd (let e = later least first in grind (arith, nat_tests))

-- how many records a rising list has
count_of : (list : List Posting) → IsStrictlySortedBy posting_cmp list → (n : ℕ) × IsCount (IsInRecord list) n
unfolding IsStrictlySortedBy
count_of [] up = (0, count_none (IsInRecord []) (λ n h. absurd h.1))
count_of (p ∷ list) up = let before = count_of list up.1 in count_put p list before.0 before.1 up.0

module _ (key : Key) (run : List Posting) (rest : List KeyPosting) (some : run ≢ []) (other : BeginsOther key rest) (up : IsStrictlySortedBy key_posting_order (map (with_key key) run ++ rest)) where
  abbrev whole : List KeyPosting
  whole = map (with_key key) run ++ rest

  -- the keys of the rest are above
  above : (p : KeyPosting) → Has rest p → key_order key p.key ≡ Less
  unfolding IsStrictlySortedBy
  above p h = from run rest some other up h
    where
      from : (run : List Posting) (rest : List KeyPosting) → run ≢ [] → BeginsOther key rest → IsStrictlySortedBy key_posting_order (map (with_key key) run ++ rest) → Has rest p → key_order key p.key ≡ Less
      from [] rest some other up h = absurd (some refl)
      from (q ∷ run) [] some other up h = absurd h
      from (q ∷ run) (x ∷ rest) some other up h =
          let next = key_up (with_key key q) x (all_has (λ z. key_posting_order (with_key key q) z ≡ Less) (map (with_key key) run ++ x ∷ rest) x up.0 (has_right (map (with_key key) run) (x ∷ rest) x (inl refl))) in
          let lower : key_order key x.key ≡ Less = elim next [ inl less ↦ less | inr tied ↦ absurd (other (sym tied.0)) ] in
          let tail = rear (map (with_key key) run) (x ∷ rest) up.1 in
          elim h [
            | inl same ↦ subst (λ (z : KeyPosting). key_order key z.key ≡ Less) (sym same) lower
            | inr later ↦ elim (key_up x p (all_has (λ z. key_posting_order x z ≡ Less) rest p tail.0 later)) [
              | inl less ↦ key_total.trans key x.key p.key lower less
              | inr tied ↦ subst (λ (k : Key). key_order key k ≡ Less) tied.0 lower
            ]
          ]

  under_run : (p : Posting) → Has (list_under key whole) p ↔ Has run p
  under_run p = (
    λ h. elim (has_either (map (with_key key) run) rest (with_key key p) ((under_has key whole p).0 h)) [
      | inl front ↦ let q = has_mapped (with_key key) run (with_key key p) front in subst (Has run) (ap (λ (x : KeyPosting). x.posting) (sym q.2)) q.1
      | inr later ↦ absurd (other_key key key (above (with_key key p) later) refl)
    ],
    λ h. (under_has key whole p).1 (has_left (map (with_key key) run) rest (with_key key p) (mapped_has (with_key key) run p h)),
  )

  under_rest : (l : Key) → l ≢ key → (p : Posting) → Has (list_under l whole) p ↔ Has (list_under l rest) p
  under_rest l differs p = (
    λ h. elim (has_either (map (with_key key) run) rest (with_key l p) ((under_has l whole p).0 h)) [
      | inl front ↦ absurd (let q = has_mapped (with_key key) run (with_key l p) front in differs (ap (λ (x : KeyPosting). x.key) q.2))
      | inr later ↦ (under_has l rest p).1 later
    ],
    λ h. (under_has l whole p).1 (has_right (map (with_key key) run) rest (with_key l p) ((under_has l rest p).0 h)),
  )

  -- the row of the run, and those of the rest
  run_rest : (records : ℕ) → IsCount (IsInRecord run) records → (row : Row) → ((row ≡ dict_rest key records) ⊎ IsDictRest rest row) ↔ IsDictRest whole row
  run_rest records count row = (
    λ h. elim h [
      | inl same ↦
          let p = some_of run some in
          (key, records, not_empty (list_under key whole) p.0 ((under_run p.0).1 p.1), count_so (IsInRecord run) (IsInRecord (list_under key whole)) records (has_record run (list_under key whole) (λ q. ((under_run q).1, (under_run q).0))) count, same)
      | inr later ↦
          let p = some_of (list_under later.0 rest) later.2 in
          let differs : later.0 ≢ key = λ same. other_key key later.0 (above (with_key later.0 p.0) ((under_has later.0 rest p.0).0 p.1)) (sym same) in
          (later.0, later.1, not_empty (list_under later.0 whole) p.0 ((under_rest later.0 differs p.0).1 p.1), count_so _ _ later.1 (has_record (list_under later.0 rest) (list_under later.0 whole) (λ q. ((under_rest later.0 differs q).1, (under_rest later.0 differs q).0))) later.3, later.4)
    ],
    λ h. elim (tied_or (key_order h.0 key)) [
      | inl tied ↦
          let same = keys_apart h.0 key tied in
          let count' : IsCount (IsInRecord (list_under key whole)) h.1 = subst (λ (k : Key). IsCount (IsInRecord (list_under k whole)) h.1) same h.3 in
          let one : h.1 ≡ records = one_count (IsInRecord run) h.1 records (count_so _ _ h.1 (has_record (list_under key whole) run under_run) count') count in
          inl (h.4 ∙ ap₂ dict_rest same one)
      | inr apart ↦
          let differs : h.0 ≢ key = λ same. apart (ap (λ k. key_order k key) same ∙ tied_itself key_total key) in
          let p = some_of (list_under h.0 whole) h.2 in
          inr (h.0, h.1, not_empty (list_under h.0 rest) p.0 ((under_rest h.0 differs p.0).0 p.1), count_so _ _ h.1 (has_record (list_under h.0 whole) (list_under h.0 rest) (under_rest h.0 differs)) h.3, h.4)
    ],
  )

abbrev pub AreRuns : List Row → List KeyPosting → Type 0
AreRuns = TakeAll IsRunBefore

moved_up : (ps others : List KeyPosting) → ps ≡ others → IsStrictlySortedBy key_posting_order ps → IsStrictlySortedBy key_posting_order others
moved_up ps others is up = subst (IsStrictlySortedBy key_posting_order) is up

-- they are the rows that are expected
pub runs_rest : (rows : List Row) (ps : List KeyPosting) → IsStrictlySortedBy key_posting_order ps → AreRuns rows ps → (row : Row) → Has rows row ↔ IsDictRest ps row
runs_rest [] ps up are row = (λ h. absurd h, λ h. absurd (h.2 (ap (list_under h.0) are)))
runs_rest (r ∷ rows) ps up are row =
    let it = are.1 in
    let whole = map (with_key it.0) it.2 ++ are.0 in
    let up' = moved_up ps whole it.6.0 up in
    let tail = runs_rest rows are.0 (rear (map (with_key it.0) it.2) are.0 up') are.2 row in
    let told = run_rest it.0 it.2 are.0 it.4 it.6.1 up' it.1 it.5 row in (
      λ h. subst (λ l. IsDictRest l row) (sym it.6.0) (told.0 (elim h [ inl same ↦ inl (same ∙ it.3) | inr later ↦ inr (tail.0 later) ])),
      λ h. elim (told.1 (subst (λ l. IsDictRest l row) it.6.0 h)) [ inl same ↦ inl (same ∙ sym it.3) | inr later ↦ inr (tail.1 later) ],
    )

then_low : (a b c d : Ordering) → ordering_then a (ordering_then b c) ≡ Less → ordering_then a (ordering_then b (ordering_then c d)) ≡ Less
then_low Less b c d h = refl
then_low Greater b c d h = absurd (let e : Greater ≡ Less = h in cc)
then_low Equal Less c d h = refl
then_low Equal Greater c d h = absurd (let e : Greater ≡ Less = h in cc)
then_low Equal Equal Less d h = refl
then_low Equal Equal Equal d h = absurd (let e : Equal ≡ Less = h in cc)
then_low Equal Equal Greater d h = absurd (let e : Greater ≡ Less = h in cc)

rests_lower : (k l : Key) (m n : ℕ) → key_order k l ≡ Less → row_cmp (dict_rest k m) (dict_rest l n) ≡ Less
rests_lower k l m n less =
    let low = then_low (nat_cmp k.index l.index) (nat_cmp (register_code k.register) (register_code l.register)) (slice_cmp nat_cmp k.term l.term) (row_cmp (Int (pos m) ∷ []) (Int (pos n) ∷ [])) less in
    rw (
      value_cmp-Int (pos k.index) (pos l.index),
      value_cmp-Int (pos (register_code k.register)) (pos (register_code l.register)),
      value_cmp-Text k.term l.term,
      ints_order k.index l.index,
      ints_order (register_code k.register) (register_code l.register),
    ) low

pub runs_rise : (rows : List Row) (ps : List KeyPosting) → IsStrictlySortedBy key_posting_order ps → AreRuns rows ps → IsStrictlySortedBy row_cmp rows
unfolding IsStrictlySortedBy
runs_rise [] ps up are = tt
runs_rise (r ∷ rows) ps up are =
    let it = are.1 in
    let up' = moved_up ps (map (with_key it.0) it.2 ++ are.0) it.6.0 up in
    let tail = rear (map (with_key it.0) it.2) are.0 up' in (
      each_all (λ x. row_cmp r x ≡ Less) rows (λ x h.
          let rest = (runs_rest rows are.0 tail are.2 x).0 h in
          let p = some_of (list_under rest.0 are.0) rest.2 in
          let lower = above it.0 it.2 are.0 it.4 it.6.1 up' (with_key rest.0 p.0) ((under_has rest.0 are.0 p.0).0 p.1) in
          subst (λ y. row_cmp y x ≡ Less) (sym it.3) (subst (λ y. row_cmp (dict_rest it.0 it.1) y ≡ Less) (sym rest.4) (rests_lower it.0 rest.0 it.1 rest.1 lower))),
      runs_rise rows are.0 tail are.2,
    )

-- postings that rise have such rows
pub runs_there : (ps : List KeyPosting) → IsStrictlySortedBy key_posting_order ps → (rows : List Row) × AreRuns rows ps
unfolding IsStrictlySortedBy
runs_there [] up = ([], refl)
runs_there (p ∷ ps) up = let before = runs_there ps up.1 in from before.0 before.1
  where
    whole_up : IsStrictlySortedBy key_posting_order (p ∷ ps)
    whole_up = up

    -- a row for a run at the front
    with_run : (run : List Posting) (rest : List KeyPosting) (rows : List Row) → run ≢ [] → IsFrontOf p.key run (p ∷ ps) rest → AreRuns rows rest → (rows : List Row) × AreRuns rows (p ∷ ps)
    with_run run rest rows some front are =
        let count = count_of (list_under p.key (p ∷ ps)) (under_rises p.key (p ∷ ps) whole_up) in
        let up' = moved_up (p ∷ ps) (map (with_key p.key) run ++ rest) front.0 whole_up in
        let members : (q : Posting) → Has (list_under p.key (p ∷ ps)) q ↔ Has run q = subst (λ l. (q : Posting) → Has (list_under p.key l) q ↔ Has run q) (sym front.0) (under_run p.key run rest some front.1 up') in
        (dict_rest p.key count.0 ∷ rows, (rest, (p.key, count.0, run, refl, some, count_so _ _ count.0 (has_record (list_under p.key (p ∷ ps)) run members) count.1, front), are))

    alone : (rows : List Row) → AreRuns rows ps → BeginsOther p.key ps → (rows : List Row) × AreRuns rows (p ∷ ps)
    alone rows are other = with_run (p.posting ∷ []) ps rows (λ none. cc) (refl, other) are

    from : (rows : List Row) → AreRuns rows ps → (rows : List Row) × AreRuns rows (p ∷ ps)
    from [] are = alone [] are (subst (BeginsOther p.key) (sym are) tt)
    from (r ∷ rows) are = compare (key_order are.1.0 p.key) refl
      where
        it : IsRunBefore r ps are.0
        it = are.1

        begins : it.0 ≢ p.key → BeginsOther p.key ps
        begins differs = subst (BeginsOther p.key) (sym it.6.0) (first it.2 it.4)
          where
            first : (run : List Posting) → run ≢ [] → BeginsOther p.key (map (with_key it.0) run ++ are.0)
            first [] some = absurd (some refl)
            first (q ∷ run) some = differs

        compare : (o : Ordering) → key_order it.0 p.key ≡ o → (rows : List Row) × AreRuns rows (p ∷ ps)
        compare Equal tied =
            let same = keys_apart it.0 p.key tied in
            let front : IsFrontOf p.key it.2 ps are.0 = subst (λ (k : Key). IsFrontOf k it.2 ps are.0) same it.6 in
            with_run (p.posting ∷ it.2) are.0 rows (λ none. cc) (ap (λ l. p ∷ l) front.0, front.1) are.2
        compare Less apart = alone (r ∷ rows) are (begins (other_key it.0 p.key apart))
        compare Greater apart = alone (r ∷ rows) are (begins (λ same. let e : Greater ≡ Equal = sym apart ∙ ap (λ k. key_order k p.key) same ∙ tied_itself key_total p.key in cc))

-- rows that are those which are expected are the rows of all runs
pub runs_all : (rows : List Row) (ps : List KeyPosting) → IsStrictlySortedBy key_posting_order ps → IsStrictlySortedBy row_cmp rows → ((row : Row) → Has rows row ↔ IsDictRest ps row) → AreRuns rows ps
runs_all rows ps up rising holds =
    let there = runs_there ps up in
    let told = runs_rest there.0 ps up there.1 in
    subst (λ l. AreRuns l ps) (sym (same_list row_cmp_total rows there.0 rising (runs_rise there.0 ps up there.1) (λ r h. (told r).1 ((holds r).0 h)) (λ r h. (holds r).1 ((told r).0 h)))) there.1
