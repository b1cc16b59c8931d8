-- Rows of postings as the postings of a content.
use Rattle.zeb_register.proofs.Cited.{Row, column, row_cmp, Trees, Int, Text, has_mapped, mapped_has, Has, row_cmp_total, value_cmp-Int, int_cmp, zero, suc, get_or, length, ◌<◌, ◌≡◌, ◌∙◌, ℕ, ℤ, pos, List, [], ◌∷◌, ◌++◌, map, drop, inl, inr, refl, sym, ap, ap₂, subst, Ordering, Less, Equal, Greater, arith, ◌≢◌, nat_cmp, nat_tests, AllByRecursion, ordering_then, Key, Register, Word, Phrase, Number, Posting, register_code, IsListOf, postings_tree, IsRest, Content, posting_cmp, key_row, posting_row, HoldsRows}
use Rattle.std.specs.List.Sorted.{IsStrictlySortedBy}
use Rattle.zeb_register.proofs.RisingLists.{same_list}

pub lower_then : (x y z : Ordering) → ordering_then x (ordering_then y z) ≡ Less → ordering_then x (ordering_then y (ordering_then z Equal)) ≡ Less
lower_then Less y z h = refl
lower_then Greater y z h = absurd (cc)
lower_then Equal Less z h = refl
lower_then Equal Greater z h = absurd (cc)
lower_then Equal Equal Less h = refl
lower_then Equal Equal Equal h = absurd (cc)
lower_then Equal Equal Greater h = absurd (cc)

pub ints_order : (a b : ℕ) → int_cmp (pos a) (pos b) ≡ nat_cmp a b
ints_order a b = grind (arith, nat_tests)

row_order : (p q : Posting) → posting_cmp p q ≡ Less → row_cmp (posting_row p) (posting_row q) ≡ Less
row_order p q h =
    rw (value_cmp-Int (pos p.sysno) (pos q.sysno), value_cmp-Int (pos p.seq) (pos q.seq), value_cmp-Int (pos p.pos) (pos q.pos), ints_order p.sysno q.sysno, ints_order p.seq q.seq, ints_order p.pos q.pos)
    (lower_then (nat_cmp p.sysno q.sysno) (nat_cmp p.seq q.seq) (nat_cmp p.pos q.pos) h)

pub one_list : (P : Row → Type 0) (xs ys : List Row) → IsListOf P xs → IsListOf P ys → xs ≡ ys
one_list P xs ys left right = same_list row_cmp_total xs ys left.rising right.rising (λ r h. (right.each r).1 ((left.each r).0 h)) (λ r h. (left.each r).1 ((right.each r).0 h))

-- ---- keys and postings as rows

same_register : (r s : Register) → register_code r ≡ register_code s → r ≡ s
same_register Word Word h = refl
same_register Word Phrase h = absurd (omega (arith, h))
same_register Word Number h = absurd (omega (arith, h))
same_register Phrase Word h = absurd (omega (arith, h))
same_register Phrase Phrase h = refl
same_register Phrase Number h = absurd (omega (arith, h))
same_register Number Word h = absurd (omega (arith, h))
same_register Number Phrase h = absurd (omega (arith, h))
same_register Number Number h = refl

abbrev key_by : ℕ → Register → List ℕ → Key
key_by index register term = record { index = index; register = register; term = term }

pub same_key : (k l : Key) → k.index ≡ l.index → register_code k.register ≡ register_code l.register → k.term ≡ l.term → k ≡ l
same_key k l index register term = ap₂ (λ i r. key_by i r k.term) index (same_register k.register l.register register) ∙ ap (λ t. key_by l.index l.register t) term

abbrev posting_by : ℕ → ℕ → ℕ → Posting
posting_by sysno seq place = record { sysno = sysno; seq = seq; pos = place }

pub same_posting : (p q : Posting) → posting_row p ≡ posting_row q → p ≡ q
same_posting p q h =
    let one : Int (pos p.sysno) ≡ Int (pos q.sysno) = ap (λ (r : Row). column r 0) h in
    let two : Int (pos p.seq) ≡ Int (pos q.seq) = ap (λ (r : Row). column r 1) h in
    let three : Int (pos p.pos) ≡ Int (pos q.pos) = ap (λ (r : Row). column r 2) h in
    let a : p.sysno ≡ q.sysno = cc in
    let b : p.seq ≡ q.seq = cc in
    let d : p.pos ≡ q.pos = cc in
    ap₂ (λ i j. posting_by i j p.pos) a b ∙ ap (λ k. posting_by q.sysno q.seq k) d

pub same_postings : (ps qs : List Posting) → map posting_row ps ≡ map posting_row qs → ps ≡ qs
same_postings [] [] h = refl
same_postings [] (q ∷ qs) h = absurd (cc)
same_postings (p ∷ ps) [] h = absurd (cc)
same_postings (p ∷ ps) (q ∷ qs) h =
    let first : posting_row p ≡ posting_row q = cc in
    let rest : map posting_row ps ≡ map posting_row qs = cc in
    ap₂ (λ a as'. a ∷ as') (same_posting p q first) (same_postings ps qs rest)

-- the two rows stand for one key of one database
pub told_apart : (d db : ℤ) (k key : Key) (x y : Row) → key_row db key ++ x ≡ key_row d k ++ y → (d ≡ db) × (k ≡ key) × (x ≡ y)
told_apart d db k key x y h =
    let one : Int db ≡ Int d = ap (λ (r : Row). column r 0) h in
    let two : Int (pos key.index) ≡ Int (pos k.index) = ap (λ (r : Row). column r 1) h in
    let three : Int (pos (register_code key.register)) ≡ Int (pos (register_code k.register)) = ap (λ (r : Row). column r 2) h in
    let four : Text key.term ≡ Text k.term = ap (λ (r : Row). column r 3) h in
    ((let e : d ≡ db = cc in e), same_key k key (cc) (cc) (cc), ap (drop 4) h)

all_rise : (p : Posting) (ps : List Posting) → AllByRecursion (λ q. posting_cmp p q ≡ Less) ps → AllByRecursion (λ r. row_cmp (posting_row p) r ≡ Less) (map posting_row ps)
all_rise p [] h = tt
all_rise p (q ∷ ps) h = (row_order p q h.0, all_rise p ps h.1)

pub rows_rise : (ps : List Posting) → IsStrictlySortedBy posting_cmp ps → IsStrictlySortedBy row_cmp (map posting_row ps)
unfolding IsStrictlySortedBy
rows_rise [] h = tt
rows_rise (p ∷ ps) h = (all_rise p ps h.0, rows_rise ps h.1)

-- the rows of a key are those of its list
pub list_held : (trees : Trees) (content : Content) (db : ℤ) (key : Key) → HoldsRows trees content → IsListOf (IsRest postings_tree (key_row db key) trees) (map posting_row (content db key))
list_held trees content db key holds = record {
  each = λ x. (
    λ h. let p = has_mapped posting_row (content db key) x h in (holds.each (key_row db key ++ x)).1 (db, key, p.0, p.1, ap (λ y. key_row db key ++ y) p.2),
    λ there.
        let p = (holds.each (key_row db key ++ x)).0 there in
        let same = told_apart p.0 db p.1 key x (posting_row p.2) p.4 in
        let here : Has (content db key) p.2 = subst (λ k. Has (content db k) p.2) same.1 (subst (λ d. Has (content d p.1) p.2) same.0 p.3) in
        subst (Has (map posting_row (content db key))) (sym same.2) (mapped_has posting_row (content db key) p.2 here),
  );
  rising = rows_rise (content db key) (holds.rising db key);
}

pub has_get : {X : Type 0} (xs : List X) (i : ℕ) (d : X) → i < length xs → Has xs (get_or xs i d)
has_get [] i d below = absurd (omega (arith, below))
has_get (x ∷ xs) zero d below = inl refl
has_get (x ∷ xs) (suc i) d below = inr (has_get xs i d (omega (arith, below)))

pub has_at : {X : Type 0} (xs : List X) (i : ℕ) (x : X) → x ≡ get_or xs i x → i < length xs → Has xs x
has_at [] i x is below = absurd (omega arith)
has_at (y ∷ ys) zero x is below = inl is
has_at (y ∷ ys) (suc i) x is below = inr (has_at ys i x is (omega arith))

-- the tables tell the content
pub one_content : (trees : Trees) (one two : Content) (db : ℤ) (key : Key) → HoldsRows trees one → HoldsRows trees two → one db key ≡ two db key
one_content trees one two db key left right = same_postings (one db key) (two db key) (one_list _ (map posting_row (one db key)) (map posting_row (two db key)) (list_held trees one db key left) (list_held trees two db key right))

-- a list that isn't empty has a posting
pub some_posting : (list : List Posting) → list ≢ [] → (p : Posting) × Has list p
some_posting [] some = absurd (some refl)
some_posting (p ∷ list) some = (p, inl refl)
