-- Rows of a register as the terms of a content.
use Rattle.zeb_register.proofs.Cited.{all_has, Row, column, value_cmp, row_cmp, Trees, Value, Null, Int, Real, Text, Blob, has_left, has_right, has_either, mapped_has, Has, row_cmp_total, value_cmp-Int, value_cmp-Text, ◌≡◌, ◌↔◌, ◌⊎◌, ◌∙◌, ◌<◌, ◌≤◌, ◌+◌, ℕ, ℤ, pos, negsuc, zero, suc, List, [], ◌∷◌, ◌++◌, length, map, take, drop, get_or, refl, sym, ap, ap₂, subst, inl, inr, Ordering, Less, Equal, Greater, nat_cmp, arith, take_more, slice_cmp, slice_set, ordering_then, Register, Posting, register_code, numbers_apart, TermCount, HasRow, postings_tree, key_of, Content, posted, posting_cmp, HoldsRows, posting_row, register_front, IsCount, AreTermsOf, Spot, TermIn, key_in, spot_cmp, IsInRecord, HasTerm, ShowsOccurrence, IsShown, cases_eq, eq-eqb, ne_eqb, ShowsPosting}
use Rattle.std.specs.List.Sorted.{IsStrictlySortedBy}
use Rattle.zeb_blocks.specs.Records.{record_count}
use Rattle.zeb_register.proofs.RisingLists.{front_rises, before_last}
use Rattle.zeb_register.proofs.RowLemmas.{same_bytes}
use Rattle.zeb_register.proofs.ContentLemmas.{ints_order}
use Rattle.zeb_register.proofs.CountLemmas.{is_less, count_first, count_none, count_so}
use Rattle.zeb_register.proofs.OccurringLemmas.{key_posted}
use Rattle.zeb_register.proofs.TermLists.{IsTerm}
use Rattle.zeb_register.proofs.TermsAmong.{terms_among}

-- ---- rows one after the other

pub int_at : (m n : ℕ) → value_cmp (Int (pos m)) (Int (pos n)) ≡ nat_cmp m n
int_at m n = value_cmp-Int (pos m) (pos n) ∙ ints_order m n

pub up_to : (m n : ℕ) (o : Ordering) → ordering_then (nat_cmp m n) o ≡ Less → m ≤ n
up_to m n o h = from (nat_cmp m n) refl h
  where
    from : (k : Ordering) → nat_cmp m n ≡ k → ordering_then (nat_cmp m n) o ≡ Less → m ≤ n
    from Less is h = omega (arith, is_less m n is)
    from Equal is h = omega (arith, numbers_apart m n is)
    from Greater is h = absurd (let e : Greater ≡ Less = rw is at h in cc)

-- an occurrence before another is of a lower term, or of the same term and no later record
pub occurrence_order : (x y : Row) (s t : List ℕ) (m n : ℕ) → row_cmp x y ≡ Less → ShowsOccurrence x s m → ShowsOccurrence y t n → (slice_cmp nat_cmp s t ≡ Less) ⊎ ((s ≡ t) × (m ≤ n))
occurrence_order [] y s t m n less left right = absurd (let e : Null ≡ Text s = left.0 in cc)
occurrence_order (v ∷ []) y s t m n less left right = absurd (let e : Null ≡ Int (pos m) = left.1 in cc)
occurrence_order (v ∷ w ∷ xs) [] s t m n less left right = absurd (let e : Null ≡ Text t = right.0 in cc)
occurrence_order (v ∷ w ∷ xs) (a ∷ []) s t m n less left right = absurd (let e : Null ≡ Int (pos n) = right.1 in cc)
occurrence_order (v ∷ w ∷ xs) (a ∷ b ∷ ys) s t m n less left right =
    let first : value_cmp v a ≡ slice_cmp nat_cmp s t = ap₂ value_cmp left.0 right.0 ∙ value_cmp-Text s t in
    let second : value_cmp w b ≡ nat_cmp m n = ap₂ value_cmp left.1 right.1 ∙ int_at m n in
    let both : ordering_then (slice_cmp nat_cmp s t) (ordering_then (nat_cmp m n) (row_cmp xs ys)) ≡ Less =
    sym (ap₂ (λ o p. ordering_then o (ordering_then p (row_cmp xs ys))) first second) ∙ less in
    from (slice_cmp nat_cmp s t) refl both
  where
    from : (o : Ordering) → slice_cmp nat_cmp s t ≡ o → ordering_then (slice_cmp nat_cmp s t) (ordering_then (nat_cmp m n) (row_cmp xs ys)) ≡ Less → (slice_cmp nat_cmp s t ≡ Less) ⊎ ((s ≡ t) × (m ≤ n))
    from Less is h = inl is
    from Equal is h = inr (same_bytes s t is, up_to m n (row_cmp xs ys) (rw is at h))
    from Greater is h = absurd (let e : Greater ≡ Less = rw is at h in cc)

take_front : {X : Type 0} (n : ℕ) (xs : List X) → xs ≡ take n xs ++ drop n xs
take_front zero xs = refl
take_front (suc n) [] = refl
take_front (suc n) (x ∷ xs) = ap (λ l. x ∷ l) (take_front n xs)

pub take_rises : {X : Type 0} {R : X → X → Ordering} (o : Rattle.std.specs.Cmp.IsTotalOrder R) (n : ℕ) (xs : List X) → IsStrictlySortedBy R xs → IsStrictlySortedBy R (take n xs)
take_rises o n xs up = front_rises o (take n xs) (drop n xs) (subst (IsStrictlySortedBy _) (take_front n xs) up)

-- what comes before an item is below it
pub taken_below : {X : Type 0} {R : X → X → Ordering} (o : Rattle.std.specs.Cmp.IsTotalOrder R) (xs : List X) (i : ℕ) (x : X) → IsStrictlySortedBy R xs → i < length xs → x ≡ get_or xs i x → (z : X) → Has (take i xs) z → R z x ≡ Less
taken_below {X} {R} o xs i x up within is z h =
    let whole : IsStrictlySortedBy R (take i xs ++ get_or xs i x ∷ []) = subst (IsStrictlySortedBy R) (take_more xs i x within) (take_rises o (i + 1) xs up) in
    subst (λ y. R z y ≡ Less) (sym is) (before_last o (take i xs) (get_or xs i x) whole z h)

pub taken_more : {X : Type 0} (xs : List X) (i : ℕ) (x : X) → i < length xs → x ≡ get_or xs i x → (z : X) → Has (take (i + 1) xs) z ↔ (Has (take i xs) z ⊎ (z ≡ x))
taken_more xs i x within is z =
    let more : take (i + 1) xs ≡ take i xs ++ get_or xs i x ∷ [] = take_more xs i x within in (
      λ h. elim (has_either (take i xs) (get_or xs i x ∷ []) z (subst (λ l. Has l z) more h)) [ inl there ↦ inl there | inr last ↦ elim last [ inl same ↦ inr (same ∙ sym is) | inr none ↦ absurd none ] ],
      λ h. subst (λ l. Has l z) (sym more) (elim h [ inl there ↦ has_left (take i xs) (get_or xs i x ∷ []) z there | inr same ↦ has_right (take i xs) (get_or xs i x ∷ []) z (inl (same ∙ is)) ]),
    )

pub shown_more : (rows : List Row) (i : ℕ) (r : Row) (term : List ℕ) (sysno : ℕ) → i < length rows → r ≡ get_or rows i r → ShowsOccurrence r term sysno
    → (t : List ℕ) (n : ℕ) → IsShown (take (i + 1) rows) t n ↔ (IsShown (take i rows) t n ⊎ ((t ≡ term) × (n ≡ sysno)))
shown_more rows i r term sysno within is shows t n = (
  λ h. elim ((taken_more rows i r within is h.0).0 h.1) [
    | inl there ↦ inl (h.0, there, h.2)
    | inr same ↦
        let one : Text t ≡ Text term = sym h.2.0 ∙ ap (λ (x : Row). column x 0) same ∙ shows.0 in
        let two : Int (pos n) ≡ Int (pos sysno) = sym h.2.1 ∙ ap (λ (x : Row). column x 1) same ∙ shows.1 in
        inr ((let e : t ≡ term = cc in e), (let e : n ≡ sysno = cc in e))
  ],
  λ h. elim h [
    | inl there ↦ (there.0, (taken_more rows i r within is there.0).1 (inl there.1), there.2)
    | inr same ↦ (r, (taken_more rows i r within is r).1 (inr refl), (shows.0 ∙ ap Text (sym same.0), shows.1 ∙ ap (λ (m : ℕ). Int (pos m)) (sym same.1)))
  ],
)

pub shown_after : (rows : List Row) (i : ℕ) (r : Row) (term : List ℕ) (sysno : ℕ) → IsStrictlySortedBy row_cmp rows → i < length rows → r ≡ get_or rows i r → ShowsOccurrence r term sysno
    → (t : List ℕ) (n : ℕ) → IsShown (take i rows) t n → (slice_cmp nat_cmp t term ≡ Less) ⊎ ((t ≡ term) × (n ≤ sysno))
shown_after rows i r term sysno up within is shows t n h = occurrence_order h.0 r t term n sysno (taken_below row_cmp_total rows i r up within is h.0 h.1) h.2 shows

take_whole : {X : Type 0} (xs : List X) → take (length xs) xs ≡ xs
take_whole [] = refl
take_whole (x ∷ xs) = ap (λ l. x ∷ l) (take_whole xs)

pub shown_whole : (rows : List Row) (t : List ℕ) (n : ℕ) → IsShown (take (length rows) rows) t n ↔ IsShown rows t n
shown_whole rows t n = (λ h. (h.0, subst (λ l. Has l h.0) (take_whole rows) h.1, h.2), λ h. (h.0, subst (λ l. Has l h.0) (sym (take_whole rows)) h.1, h.2))

-- ---- postings one after the other

posting_upto : (p q : Posting) → posting_cmp p q ≡ Less → p.sysno ≤ q.sysno
posting_upto p q h = up_to p.sysno q.sysno _ h

in_front : (p : Posting) (list : List Posting) (n : ℕ) → IsInRecord (p ∷ list) n ↔ ((n ≡ p.sysno) ⊎ IsInRecord list n)
in_front p list n = (
  λ h. elim h.1 [ inl first ↦ inl (sym h.2 ∙ ap (λ (q : Posting). q.sysno) first) | inr later ↦ inr (h.0, later, h.2) ],
  λ h. elim h [ inl same ↦ (p, inl refl, sym same) | inr later ↦ (later.0, inr later.1, later.2) ],
)

from_first : (p : Posting) (list : List Posting) → IsStrictlySortedBy posting_cmp (p ∷ list) → (n : ℕ) → IsInRecord list n → p.sysno ≤ n
unfolding IsStrictlySortedBy
from_first p list up n h = omega (arith, h.2, posting_upto p h.0 (all_has (λ q. posting_cmp p q ≡ Less) list h.0 up.0 h.1))

-- what is counted of a rising list is its records
pub records_counted : (list : List Posting) → IsStrictlySortedBy posting_cmp list → IsCount (IsInRecord list) (record_count list)
unfolding record_count IsStrictlySortedBy
records_counted [] up = count_none (IsInRecord []) (λ n h. absurd h.1)
records_counted (p ∷ []) up = count_first (IsInRecord []) (IsInRecord (p ∷ [])) 0 p.sysno (records_counted [] tt) (in_front p []) (λ n h. absurd h.1)
records_counted (p ∷ q ∷ list) up =
    let P = IsInRecord (q ∷ list) in
    let rest = records_counted (q ∷ list) up.1 in
    let means = in_front p (q ∷ list) in
    elim (cases_eq q.sysno p.sysno) [
      | inl same ↦ rw (eq-eqb q.sysno p.sysno same) (count_so P (IsInRecord (p ∷ q ∷ list)) (record_count (q ∷ list)) (λ n. (λ h. (means n).1 (inr h), λ h. elim ((means n).0 h) [ inl first ↦ (q, inl refl, same ∙ sym first) | inr later ↦ later ])) rest)
      | inr other ↦
          let above : p.sysno < q.sysno = omega (arith, other, from_first p (q ∷ list) up q.sysno (q, inl refl, refl)) in
          rw (ne_eqb q.sysno p.sysno other) (count_first P (IsInRecord (p ∷ q ∷ list)) (record_count (q ∷ list)) p.sysno rest means (λ n h. elim ((in_front q list n).0 h) [
            | inl first ↦ omega (arith, first, above)
            | inr later ↦ omega (arith, above, from_first q list up.1 n later)
          ]))
    ]

-- ---- the rows of one register

abbrev pub term_of_row : List ℕ → Posting → Row
term_of_row term p = Text term ∷ posting_row p

unfoldable pub text_of : Value → List ℕ
text_of (Text t) = t
text_of Null = []
text_of (Int n) = []
text_of (Real x) = []
text_of (Blob b) = []

unfoldable pub natural_of : Value → ℕ
natural_of (Int (pos n)) = n
natural_of (Int (negsuc n)) = 0
natural_of Null = 0
natural_of (Text t) = 0
natural_of (Real x) = 0
natural_of (Blob b) = 0

-- the place of a term that a row shows
pub spot_at : Row → Spot
spot_at row = (text_of (column row 0), record { sysno = natural_of (column row 1); seq = natural_of (column row 2); pos = natural_of (column row 3) })

pub spot_shows : (term : List ℕ) (row : Row) (p : Posting) → ShowsPosting row p → spot_at (Text term ∷ row) ≡ (term, p)
unfolding spot_at text_of natural_of
spot_shows term row p shows = λ i. (term, record { sysno = natural_of (shows.0 i); seq = natural_of (shows.1 i); pos = natural_of (shows.2 i) })

then_equal : (a b c : Ordering) → ordering_then a (ordering_then b (ordering_then c Equal)) ≡ ordering_then a (ordering_then b c)
then_equal Less b c = refl
then_equal Greater b c = refl
then_equal Equal Less c = refl
then_equal Equal Greater c = refl
then_equal Equal Equal Less = refl
then_equal Equal Equal Equal = refl
then_equal Equal Equal Greater = refl

posting_order : (p q : Posting) → row_cmp (posting_row p) (posting_row q) ≡ posting_cmp p q
posting_order p q = rw (int_at p.sysno q.sysno, int_at p.seq q.seq, int_at p.pos q.pos) (then_equal (nat_cmp p.sysno q.sysno) (nat_cmp p.seq q.seq) (nat_cmp p.pos q.pos))

pub spots_order : (s t : List ℕ) (p q : Posting) → row_cmp (term_of_row s p) (term_of_row t q) ≡ Less → spot_cmp (s, p) (t, q) ≡ Less
spots_order s t p q less = ap₂ ordering_then (sym (value_cmp-Text s t)) (sym (posting_order p q)) ∙ less

module _ (trees : Trees) (content : Content) (db : ℤ) (index : ℕ) (register : Register) (holds : HoldsRows trees content) where
  abbrev list_of : List ℕ → List Posting
  list_of term = content db (key_in index register term)

  abbrev term_in : List ℕ → ℕ → Type 0
  term_in = TermIn (posted content db) index register

  pub register_there : (term : List ℕ) (p : Posting) → Has (list_of term) p → HasRow trees postings_tree (register_front db index register ++ term_of_row term p)
  register_there term p here = (holds.each (register_front db index register ++ term_of_row term p)).1 (db, key_in index register term, p, here, refl)

  -- a term has a row where it has a posting
  pub term_there : (term : List ℕ) → IsTerm term_in term → HasTerm trees db (pos index) (pos (register_code register)) term
  term_there term some = let p = (key_posted content db (key_in index register term) some.0).0 some.1 in (posting_row p.0, register_there term p.0 p.1)

  -- ---- there is a list of the terms
  text_at : Row → List ℕ
  text_at row = text_of (column row 4)

  text_is : (id : ℤ) (term : List ℕ) (rest : Row) → text_at (Int id ∷ key_of db (pos index) (pos (register_code register)) term ++ rest) ≡ term
  unfolding text_at text_of
  text_is id term rest = refl

  pub held_terms : (terms : List TermCount) × AreTermsOf (posted content db) index register terms
  held_terms = terms_among content db index register (map text_at (trees postings_tree)) (λ term n in_it.
      let row = term_there term (n, in_it) in
      let whole = Int row.1.0 ∷ key_of db (pos index) (pos (register_code register)) term ++ row.0 in
      subst (Has (map text_at (trees postings_tree))) (text_is row.1.0 term row.0) (mapped_has text_at (trees postings_tree) whole row.1.1))

-- ---- the steps of the loops

pub got : {X : Type 0} (xs : List X) (i : ℕ) (d : X) → i < length xs → get_or xs i d ≡ get_or xs i (get_or xs i d)
got [] i d h = refl
got (x ∷ xs) zero d h = refl
got (x ∷ xs) (suc i) d h = got_more xs i d (get_or xs i d) (omega arith)
  where
    got_more : {X : Type 0} (xs : List X) (i : ℕ) (d e : X) → i < length xs → get_or xs i d ≡ get_or xs i e
    got_more [] i d e h = absurd (omega arith)
    got_more (x ∷ xs) zero d e h = refl
    got_more (x ∷ xs) (suc i) d e h = got_more xs i d e (omega arith)

-- the last of a list, by its place
pub last_view : {X : Type 0} (n : ℕ) (xs : List X) (x : X) → length xs ≡ suc n → x ≡ get_or xs n x → xs ≡ take n xs ++ x ∷ []
last_view n xs x long is =
    let within : n < length xs = omega (arith, long) in
    sym (take_whole xs) ∙ ap (λ k. take k xs) (let e : length xs ≡ n + 1 = omega (arith, long) in e) ∙ take_more xs n x within ∙ ap (λ y. take n xs ++ y ∷ []) (sym is)

pub last_set : {X : Type 0} (n : ℕ) (xs : List X) (y : X) → length xs ≡ suc n → slice_set xs n y ≡ take n xs ++ y ∷ []
last_set n [] y long = absurd (omega (arith, long))
last_set zero (x ∷ []) y long = refl
last_set zero (x ∷ z ∷ xs) y long = absurd (omega (arith, long))
last_set (suc n) (x ∷ xs) y long = ap (λ l. x ∷ l) (last_set n xs y (omega (arith, long)))
