-- The rows of a STRICT table whose columns are never NULL, and the conditions that they meet.
use Rattle.zeb_register.proofs.Cited.{Binary, Kind, is_null, is_true, from_truth, Row, column, value_cmp, key_cmp, Schema, Term, lit, col, eval, eval_all, holds, Trees, rowid, is_int, Value, Null, Int, Real, Text, Blob, IsSound, some_has, some_from, test_has, keeps_at, aims, Has, is_key, kind_code, suits, are_typed, are_present, agree, guards, clashes, differ, Column, Datatype, NotNull, Unique, key_cmp_shift, Compare, Eq, Ge, Lt, first_key-plain, then_tied, value_cmp_total, value_cmp-Int, value_cmp-Text, value_cmp-Blob, first_key, ◌≡◌, ◌↔◌, inl, inr, ℕ, zero, suc, ◌+◌, Bool, true, false, cond, not, ◌&&◌, ◌||◌, List, [], ◌∷◌, drop, length, map, Some, None, Option, refl, sym, ap, ap₂, subst, ◌∙◌, arith, eqb, Ordering, Less, Equal, Greater, is_eq, true≢false, get_or, int_cmp, nat_cmp, ℤ, and_parts, and_from, or_cases, or_left, or_right, eqb-true, ltb-true, not-true, both_ways, tied_itself, int_ranked, is_eq-slice_cmp, bytes_eq-Decides, slice_cmp, AllByRecursion, list_all, list_any, range_with_len, is_lt, is_ge, Table, plain, shares_key}
use Rattle.sqlite.specs.Ops.{binary}
use Rattle.sqlite.specs.Kind.TheVariants as kind
use Rattle.zeb_register.proofs.StatementForms.{Condition, equals, at_least, less_than, term_of, Meets, MeetsAll, passes, ascending, ordering}
use Rattle.zeb_register.proofs.ValueKinds.{keeps, keeps_all, term_code, is_plain_term, holds_code, store_all, code, codes_from, codes_of, is_empty, are_whole, is_whole, is_exact, fits, are_comparable, SharesKey, HasKeys, is_at, covers}

-- ---- types

null_code : (v : Value) → is_null v ≡ true → code v ≡ 0
null_code Null h = refl
null_code (Int n) h = absurd cc
null_code (Real x) h = absurd cc
null_code (Text t) h = absurd cc
null_code (Blob b) h = absurd cc

exact_full : (v : Value) → is_exact (code v) ≡ true → is_null v ≡ false
exact_full Null h = absurd cc
exact_full (Int n) h = refl
exact_full (Real x) h = refl
exact_full (Text t) h = refl
exact_full (Blob b) h = refl

never_null : (c : Column) (v : Value) → is_null v ≡ false → ((is_null v || eqb (kind_code c.kind) 0) || eqb (kind_code c.kind) (code v)) ≡ true → not (eqb (kind_code c.kind) 0) ≡ true → code v ≡ kind_code c.kind
never_null c v full suits some =
    let none = not-true _ some in
    sym (eqb-true _ _ (rw (full, none) at suits))

column_code : (c : Column) (v : Value) (here last : Bool) → cond here (not last) ((c.is_strict && c.not_null) && not (eqb (kind_code c.kind) 0)) ≡ true → cond here (is_null v) (suits c v) ≡ true
    → ((here || not c.not_null) || not (is_null v)) ≡ true → code v ≡ cond here 0 (kind_code c.kind)
column_code c v true last whole typed present = null_code v typed
column_code c v false last whole typed present =
    let all : ((c.is_strict && c.not_null) ≡ true) × (not (eqb (kind_code c.kind) 0) ≡ true) = and_parts _ _ whole in
    let both : (c.is_strict ≡ true) × (c.not_null ≡ true) = and_parts _ _ all.0 in
    let there : is_null v ≡ false = not-true _ (rw both.1 at present) in
    never_null c v there (rw both.0 at typed) all.1

codes_typed : (key : Option ℕ) (at : ℕ) (cs : List Column) (vs row : Row) → are_whole key at cs ≡ true → are_typed key at cs vs ≡ true → are_present key at cs row ≡ true
    → ((k : ℕ) → column row (at + 1 + k) ≡ column vs k) → map code vs ≡ codes_from key at cs
codes_typed key at [] [] row whole typed present link = refl
codes_typed key at [] (v ∷ vs) row whole typed present link = absurd cc
codes_typed key at (c ∷ cs) [] row whole typed present link =
    let next : (k : ℕ) → column row (at + 1 + 1 + k) ≡ column [] k = λ k. ap (column row) (let e : at + 1 + 1 + k ≡ at + 1 + suc k = omega arith in e) ∙ link (suc k) in
    let value : column row (at + 1) ≡ Null = ap (column row) (let e : at + 1 ≡ at + 1 + 0 = omega arith in e) ∙ link 0 in
    let both = and_parts _ _ whole in
    let later : [] ≡ codes_from key (at + 1) cs = codes_typed key (at + 1) cs [] row both.1 (and_parts _ _ typed).1 (and_parts _ _ present).1 next in
    let there = and_parts ((is_key key at || not c.not_null) || not (is_null (column row (at + 1)))) _ present in
    absurd (lacks (is_key key at) c cs both.0 (rw value at there.0) later)
  where
    lacks : (here : Bool) (c : Column) (cs : List Column) → cond here (not (is_empty cs)) ((c.is_strict && c.not_null) && not (eqb (kind_code c.kind) 0)) ≡ true → ((here || not c.not_null) || false) ≡ true
        → [] ≡ codes_from key (at + 1) cs → ⊥
    lacks true c [] some present later = true≢false (sym some)
    lacks true c (d ∷ cs) some present later = cc
    lacks false c cs whole present later =
        let all : ((c.is_strict && c.not_null) ≡ true) × (not (eqb (kind_code c.kind) 0) ≡ true) = and_parts _ _ whole in
        let both : (c.is_strict ≡ true) × (c.not_null ≡ true) = and_parts _ _ all.0 in
        true≢false (sym (rw both.1 at present))
codes_typed key at (c ∷ cs) (v ∷ vs) row whole typed present link =
    let next : (k : ℕ) → column row (at + 1 + 1 + k) ≡ column vs k = λ k. ap (column row) (let e : at + 1 + 1 + k ≡ at + 1 + suc k = omega arith in e) ∙ link (suc k) in
    let value : column row (at + 1) ≡ v = ap (column row) (let e : at + 1 ≡ at + 1 + 0 = omega arith in e) ∙ link 0 in
    let both = and_parts _ _ whole in
    let suited = and_parts _ _ typed in
    let there = and_parts ((is_key key at || not c.not_null) || not (is_null (column row (at + 1)))) _ present in
    let here = column_code c v (is_key key at) (is_empty cs) both.0 suited.0 (rw value at there.0) in
    ap₂ (λ x xs. x ∷ xs) here (codes_typed key (at + 1) cs vs row both.1 suited.1 there.1 next)

-- the types of a row's values
pub row_codes : (schema : Schema) (db : Trees) (table : Table) (row : Row) → IsSound schema db → Has schema.tables table → is_whole table ≡ true → Has (db table.tree) row → is_int (rowid row) ≡ true
    → map code row ≡ codes_of table
row_codes schema db table [] sound listed whole has keyed = absurd cc
row_codes schema db table (v ∷ vs) sound listed whole has keyed =
    let typed = (and_parts (are_typed table.key 0 table.columns vs) _ (keeps_at Datatype schema db table (v ∷ vs) (sound.obeys.rules Datatype) listed has)).0 in
    let present = keeps_at NotNull schema db table (v ∷ vs) (sound.obeys.rules NotNull) listed has in
    ap₂ (λ x xs. x ∷ xs) (first v keyed) (codes_typed table.key 0 table.columns vs (v ∷ vs) whole typed present (λ k. ap (column (v ∷ vs)) (let e : 0 + 1 + k ≡ suc k = omega arith in e)))
  where
    first : (v : Value) → is_int v ≡ true → code v ≡ 1
    first Null h = absurd cc
    first (Int n) h = refl
    first (Real x) h = absurd cc
    first (Text t) h = absurd cc
    first (Blob b) h = absurd cc

-- ---- conditions

same_int : (m n : ℤ) → int_cmp m n ≡ Equal → m ≡ n
same_int m n h = int_ranked m n Equal (sym h)

pub same_bytes : (s t : List ℕ) → slice_cmp nat_cmp s t ≡ Equal → s ≡ t
same_bytes s t h = (bytes_eq-Decides s t).0 (sym (is_eq-slice_cmp s t) ∙ ap is_eq h)

-- values of one type that tie are the same
pub tied_is : (a b : Value) → is_exact (code a) ≡ true → code a ≡ code b → value_cmp a b ≡ Equal → a ≡ b
tied_is (Int m) (Int n) exact same tie = ap Int (same_int m n (sym (value_cmp-Int m n) ∙ tie))
tied_is (Text s) (Text t) exact same tie = ap Text (same_bytes s t (sym (value_cmp-Text s t) ∙ tie))
tied_is (Blob s) (Blob t) exact same tie = ap Blob (same_bytes s t (sym (value_cmp-Blob s t) ∙ tie))
tied_is a b exact same tie = absurd cc

value_code : (row : Row) (place : ℕ) → code (column row place) ≡ get_or (map code row) place 0
value_code [] place = none place
  where
    none : (place : ℕ) → code (column [] place) ≡ get_or [] place 0
    none zero = refl
    none (suc place) = refl
value_code (v ∷ row) zero = refl
value_code (v ∷ row) (suc place) = value_code row place

module _ (a b : Value) (fit : (is_exact (code a) && eqb (code a) (code b)) ≡ true) where
  whole : (is_null a ≡ false) × (is_null b ≡ false)
  whole =
      let parts = and_parts _ _ fit in
      (exact_full a parts.0, exact_full b (rw (← eqb-true _ _ parts.1) parts.0))

  equal_holds : (is_true (binary (Compare Eq Binary) a b) ≡ true) ↔ (a ≡ b)
  unfolding binary
  equal_holds =
      let parts = and_parts _ _ fit in (
        λ h. tied_is a b parts.0 (eqb-true _ _ parts.1) (tied (value_cmp a b) (rw (whole.0, whole.1) at h)),
        λ same. rw (whole.0, whole.1, ← same, tied_itself value_cmp_total a),
      )
    where
      tied : (o : Ordering) → is_true (from_truth (Some (is_eq o))) ≡ true → o ≡ Equal
      tied Less h = absurd cc
      tied Equal h = refl
      tied Greater h = absurd cc

  least_holds : (is_true (binary (Compare Ge Binary) a b) ≡ true) ↔ (is_lt (value_cmp a b) ≡ false)
  unfolding binary
  least_holds = (λ h. (at (value_cmp a b)).0 (rw (whole.0, whole.1) at h), λ low. rw (whole.0, whole.1) ((at (value_cmp a b)).1 low))
    where
      at : (o : Ordering) → (is_true (from_truth (Some (is_ge o))) ≡ true) ↔ (is_lt o ≡ false)
      at Less = (λ h. absurd cc, λ h. absurd cc)
      at Equal = (λ h. refl, λ h. refl)
      at Greater = (λ h. refl, λ h. refl)

  less_holds : (is_true (binary (Compare Lt Binary) a b) ≡ true) ↔ (is_lt (value_cmp a b) ≡ true)
  unfolding binary
  less_holds = (λ h. (at (value_cmp a b)).0 (rw (whole.0, whole.1) at h), λ low. rw (whole.0, whole.1) ((at (value_cmp a b)).1 low))
    where
      at : (o : Ordering) → (is_true (from_truth (Some (is_lt o))) ≡ true) ↔ (is_lt o ≡ true)
      at Less = (λ h. refl, λ h. refl)
      at Equal = (λ h. absurd cc, λ h. absurd cc)
      at Greater = (λ h. absurd cc, λ h. absurd cc)

meets_one : (codes : List ℕ) (params row : Row) (c : Condition) → map code row ≡ codes → fits codes params c ≡ true → (holds (params ∷ row ∷ []) (term_of c) ≡ true) ↔ Meets params row c
meets_one codes params row (equals place from) typed fit =
    let here : code (column row place) ≡ get_or codes place 0 = value_code row place ∙ ap (λ l. get_or l place 0) typed in
    equal_holds (column row place) (column params from) (rw here fit)
meets_one codes params row (at_least place from) typed fit =
    let here : code (column row place) ≡ get_or codes place 0 = value_code row place ∙ ap (λ l. get_or l place 0) typed in
    least_holds (column row place) (column params from) (rw here fit)
meets_one codes params row (less_than place from) typed fit =
    let here : code (column row place) ≡ get_or codes place 0 = value_code row place ∙ ap (λ l. get_or l place 0) typed in
    less_holds (column row place) (column params from) (rw here fit)

-- a row passes WHERE exactly where it meets each condition
pub meets : (codes : List ℕ) (params row : Row) (wheres : List Condition) → map code row ≡ codes → list_all (fits codes params) wheres ≡ true → (passes wheres params row ≡ true) ↔ MeetsAll params row wheres
meets codes params row [] typed fit = (λ h. tt, λ h. refl)
meets codes params row (c ∷ wheres) typed fit =
    let parts = and_parts _ _ fit in
    let here = meets_one codes params row c typed parts.0 in
    let later = meets codes params row wheres typed parts.1 in
    (λ h. let both = and_parts _ _ h in (here.0 both.0, later.0 both.1), λ h. and_from _ _ (here.1 h.0) (later.1 h.1))

-- ---- keys

agree_means : (codes : List ℕ) (key : List ℕ) (r s : Row) → map code r ≡ codes → map code s ≡ codes → are_comparable codes codes key ≡ true
    → (agree plain key r key s ≡ true) ↔ AllByRecursion (λ p. column r p ≡ column s p) key
agree_means codes [] r s here there fit = (λ h. tt, λ h. refl)
agree_means codes (p ∷ key) r s here there fit =
    let parts = and_parts _ _ fit in
    let left : code (column r p) ≡ get_or codes p 0 = value_code r p ∙ ap (λ l. get_or l p 0) here in
    let right : code (column s p) ≡ get_or codes p 0 = value_code s p ∙ ap (λ l. get_or l p 0) there in
    let one = equal_holds (column r p) (column s p) (rw (left, right) parts.0) in
    let later = agree_means codes key r s here there parts.1 in
    rw first_key-plain (λ h. let both = and_parts _ _ h in (one.0 both.0, later.0 both.1), λ h. and_from _ _ (one.1 h.0) (later.1 h.1))

-- the tests of the unique keys find the rows that share one
pub shares_means : (codes : List ℕ) (keys : List (List ℕ)) (r s : Row) → map code r ≡ codes → map code s ≡ codes → list_all (are_comparable codes codes) keys ≡ true
    → (list_any (λ key. agree plain key r key s) keys ≡ true) ↔ SharesKey keys r s
shares_means codes [] r s here there fit = (λ h. true≢false (sym h), λ h. absurd h)
shares_means codes (key ∷ keys) r s here there fit =
    let parts = and_parts _ _ fit in
    let one = agree_means codes key r s here there parts.0 in
    let later = shares_means codes keys r s here there parts.1 in (
      λ h. elim (or_cases _ _ h) [ inl this ↦ inl (one.0 this) | inr other ↦ inr (later.0 other) ],
      λ h. elim h [ inl this ↦ or_left _ _ (one.1 this) | inr other ↦ or_right _ _ (later.1 other) ],
    )

-- the test of the rowids
pub tied_rowid : (a b : Value) → (is_true (binary (Compare Eq (first_key plain).collation) a b) && true) ≡ true → is_eq (value_cmp a b) ≡ true
unfolding binary
tied_rowid a b h =
    let one : is_true (binary (Compare Eq (first_key plain).collation) a b) ≡ true = (and_parts _ _ h).0 in
    compared (is_null a || is_null b) (is_eq (value_cmp a b)) (rw first_key-plain at one)
  where
    compared : (null test : Bool) → is_true (cond null Null (from_truth (Some test))) ≡ true → test ≡ true
    compared true test h = absurd cc
    compared false true h = refl
    compared false false h = absurd cc

-- rows that tie in ORDER BY have the same values there
pub ordering_tied : (codes : List ℕ) (order : List ℕ) (r s : Row) → map code r ≡ codes → map code s ≡ codes → are_comparable codes codes order ≡ true → ordering order r s ≡ Equal
    → AllByRecursion (λ p. column r p ≡ column s p) order
ordering_tied codes [] r s here there fit tie = tt
ordering_tied codes (p ∷ order) r s here there fit tie =
    let parts = and_parts _ _ fit in
    let exact = and_parts _ _ parts.0 in
    let left : code (column r p) ≡ get_or codes p 0 = value_code r p ∙ ap (λ l. get_or l p 0) here in
    let right : code (column s p) ≡ get_or codes p 0 = value_code s p ∙ ap (λ l. get_or l p 0) there in
    let both : (value_cmp (column r p) (column s p) ≡ Equal) × (key_cmp 1 (map (λ _. ascending) order) (map (column r) (p ∷ order)) (map (column s) (p ∷ order)) ≡ Equal) = then_tied _ _ tie in (
      tied_is (column r p) (column s p) (rw left exact.0) (left ∙ sym right) both.0,
      ordering_tied codes order r s here there parts.1 (sym (key_cmp_shift (map (λ _. ascending) order) 0 (column r p) (column s p) (map (column r) order) (map (column s) order)) ∙ both.1),
    )

int_full : (v : Value) → is_int v ≡ true → is_null v ≡ false
int_full Null h = absurd cc
int_full (Int n) h = refl
int_full (Real x) h = absurd cc
int_full (Text t) h = absurd cc
int_full (Blob b) h = absurd cc

differs : (a b : Value) → is_int a ≡ true → is_int b ≡ true → value_cmp a b ≡ Less → differ a b ≡ true
unfolding binary
differs a b p q below = rw (int_full a p, int_full b q, below)

-- two rows of a table that share a key have one rowid
module _ (schema : Schema) (db : Trees) (table : Table) (keys : List (List ℕ)) (sound : IsSound schema db) (listed : Has schema.tables table) (has : HasKeys schema table keys) where
  pub shares_alone : (r s : Row) → Has (db table.tree) r → Has (db table.tree) s → is_int (rowid r) ≡ true → is_int (rowid s) ≡ true → map code r ≡ codes_of table → map code s ≡ codes_of table
      → SharesKey keys r s → value_cmp (rowid r) (rowid s) ≡ Less → ⊥
  shares_alone r s here there int other left right shares lower =
      let agreed = has.are r s ∙ (shares_means (codes_of table) keys r s left right has.comparable).1 shares in
      let i = some_has (shares_key None table s r) schema.indexes agreed in
      let parts = and_parts (guards i.0 table && aims None i.0.columns) _ i.2 in
      let guard = (and_parts (guards i.0 table) _ parts.0).0 in
      let lone = test_has (λ k. not (guards k table && clashes k.order k.columns (db table.tree) s)) schema.indexes i.0 (keeps_at Unique schema db table s (sound.obeys.rules Unique) listed there) i.1 in
      let clash = some_from (λ x. agree i.0.order i.0.columns x i.0.columns s && differ (rowid x) (rowid s)) (db table.tree) r here (and_from _ _ parts.1 (differs (rowid r) (rowid s) int other lower)) in
      both_ways _ (not-true _ lone) (and_from _ _ guard clash)

-- ---- what tells two rows of an answer apart

module _ (params r s : Row) where
  met_at : (p : ℕ) (wheres : List Condition) → MeetsAll params r wheres → MeetsAll params s wheres → list_any (is_at p) wheres ≡ true → column r p ≡ column s p
  met_at p [] a b h = absurd (true≢false (sym h))
  met_at p (equals place from ∷ wheres) a b h = elim (or_cases _ _ h) [
    | inl same ↦ subst (λ q. column r q ≡ column s q) (eqb-true _ _ same) (a.0 ∙ sym b.0)
    | inr later ↦ met_at p wheres a.1 b.1 later
  ]
  met_at p (at_least place from ∷ wheres) a b h = met_at p wheres a.1 b.1 h
  met_at p (less_than place from ∷ wheres) a b h = met_at p wheres a.1 b.1 h

  tied_at : (p : ℕ) (order : List ℕ) → AllByRecursion (λ q. column r q ≡ column s q) order → list_any (λ q. eqb q p) order ≡ true → column r p ≡ column s p
  tied_at p [] o h = absurd (true≢false (sym h))
  tied_at p (q ∷ order) o h = elim (or_cases _ _ h) [
    | inl same ↦ subst (λ q. column r q ≡ column s q) (eqb-true _ _ same) o.0
    | inr later ↦ tied_at p order o.1 later
  ]

  covered : (wheres : List Condition) (order key : List ℕ) → MeetsAll params r wheres → MeetsAll params s wheres → AllByRecursion (λ q. column r q ≡ column s q) order → covers wheres order key ≡ true
      → AllByRecursion (λ p. column r p ≡ column s p) key
  covered wheres order [] a b o h = tt
  covered wheres order (p ∷ key) a b o h =
      let parts = and_parts (list_any (is_at p) wheres || list_any (λ q. eqb q p) order) _ h in
      (elim (or_cases _ _ parts.0) [ inl met ↦ met_at p wheres a b met | inr tied ↦ tied_at p order o tied ], covered wheres order key a b o parts.1)

  pub covered_some : (wheres : List Condition) (order : List ℕ) (keys : List (List ℕ)) → MeetsAll params r wheres → MeetsAll params s wheres → AllByRecursion (λ q. column r q ≡ column s q) order
      → list_any (covers wheres order) keys ≡ true → SharesKey keys r s
  covered_some wheres order [] a b o h = absurd (true≢false (sym h))
  covered_some wheres order (key ∷ keys) a b o h = elim (or_cases _ _ h) [ inl this ↦ inl (covered wheres order key a b o this) | inr other ↦ inr (covered_some wheres order keys a b o other) ]

-- ---- what a value is, by its code

pub code_at : (row : Row) (codes : List ℕ) (place : ℕ) → map code row ≡ codes → code (column row place) ≡ get_or codes place 0
code_at row codes place is = value_code row place ∙ ap (λ l. get_or l place 0) is

pub null_of : (v : Value) → code v ≡ 0 → v ≡ Null
null_of Null h = refl
null_of v h = absurd (omega arith)

pub int_of : (v : Value) → code v ≡ 1 → (n : ℤ) × (v ≡ Int n)
int_of (Int n) h = (n, refl)
int_of v h = absurd (omega arith)

pub text_of : (v : Value) → code v ≡ 3 → (t : List ℕ) × (v ≡ Text t)
text_of (Text t) h = (t, refl)
text_of v h = absurd (omega arith)

-- a row whose first value is a text
pub text_first : (row : Row) (codes : List ℕ) → map code row ≡ 3 ∷ codes → (t : List ℕ) × (row ≡ Text t ∷ drop 1 row)
text_first [] codes h = absurd (cc)
text_first (v ∷ row) codes h =
    let first : code v ≡ 3 = cc in
    let it = text_of v first in
    (it.0, ap (λ (u : Value). u ∷ row) it.1)

pub blob_of : (v : Value) → code v ≡ 4 → (b : List ℕ) × (v ≡ Blob b)
blob_of (Blob b) h = (b, refl)
blob_of v h = absurd (omega arith)

-- ---- what UPDATE stores

pub int_kept : (v : Value) → code v ≡ 1 → keeps kind.Integer v ≡ true
int_kept (Int n) h = refl
int_kept v h = absurd (omega arith)

held_code : (c : Column) (v : Value) → holds_code (kind_code c.kind) (code v) ≡ true → keeps c.kind v ≡ true
held_code c v h = at c.kind v h
  where
    at : (k : Kind) (v : Value) → holds_code (kind_code k) (code v) ≡ true → keeps k v ≡ true
    at kind.Integer Null h = refl
    at kind.Integer (Int n) h = refl
    at kind.Text Null h = refl
    at kind.Text (Text t) h = refl
    at kind.Blob v h = refl
    at kind.Any v h = refl
    at kind.Integer (Real x) h = absurd cc
    at kind.Integer (Text t) h = absurd cc
    at kind.Integer (Blob b) h = absurd cc
    at kind.Text (Int n) h = absurd cc
    at kind.Text (Real x) h = absurd cc
    at kind.Text (Blob b) h = absurd cc
    at kind.Real v h = absurd cc

pub term_is : (codes : List ℕ) (params row : Row) (t : Term) → map code row ≡ codes → is_plain_term t ≡ true → code (eval t (params ∷ row ∷ [])) ≡ term_code codes params t
term_is codes params row (lit v) typed h = refl
term_is codes params row (col zero at) typed h = refl
term_is codes params row (col (suc zero) at) typed h = code_at row codes at typed
term_is codes params row (col (suc (suc slot)) at) typed h = absurd (omega (arith, ltb-true _ _ h))
term_is codes params row t typed h = absurd cc

pub stores : (codes : List ℕ) (params row : Row) (cs : List Column) (ts : List Term) → map code row ≡ codes → store_all codes params cs ts ≡ true → keeps_all cs (eval_all ts (params ∷ row ∷ [])) ≡ true
stores codes params row [] ts typed h = refl
stores codes params row (c ∷ cs) [] typed h = refl
stores codes params row (c ∷ cs) (t ∷ ts) typed h =
    let parts = and_parts (is_plain_term t && holds_code (kind_code c.kind) (term_code codes params t)) _ h in
    let one = and_parts (is_plain_term t) _ parts.0 in
    and_from (keeps c.kind (eval t (params ∷ row ∷ []))) _ (held_code c _ (rw (term_is codes params row t typed one.0) one.1)) (stores codes params row cs ts typed parts.1)

-- ---- a row as its columns

pub later_columns : (v : Value) (r : Row) (from n : ℕ) → map (column (v ∷ r)) (range_with_len (suc from) n) ≡ map (column r) (range_with_len from n)
later_columns v r from zero = refl
later_columns v r from (suc n) =
    ap (λ vs. column r from ∷ vs) (ap (λ k. map (column (v ∷ r)) (range_with_len k n)) (let e : suc from + 1 ≡ suc (from + 1) = omega arith in e) ∙ later_columns v r (from + 1) n)

-- so many values are the columns in turn
pub spread : (r : Row) (codes : List ℕ) → map code r ≡ codes → r ≡ map (column r) (range_with_len 0 (length codes))
spread [] [] is = refl
spread [] (c ∷ codes) is = absurd cc
spread (v ∷ r) [] is = absurd cc
spread (v ∷ r) (c ∷ codes) is =
    let later : map code r ≡ codes = cc in ap (λ vs. v ∷ vs) (spread r codes later ∙ sym (later_columns v r 0 (length codes)))
