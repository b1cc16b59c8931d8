-- What SELECT over one table answers.
use Rattle.zeb_register.proofs.Cited.{Database, Answers, Row, column, value_cmp, row_cmp, overlay, Output, output_cmp, end, IsAnswer, output, matches_as, Term, Env, eval_all, Trees, IsTable, IsAscending, rowid, Value, Null, ascending_filter, all_has, all_from, contains_had, has_filtered, has_kept, has_mapped, mapped_has, Has, output_cmp_total, map-map, all-permutation, ◌≡◌, ◌↔◌, inl, inr, ℕ, suc, ◌+◌, ◌^◌, get_or, arith, Ordering, Less, Equal, Greater, is_eq, ◌≢◌, Bool, true, false, List, [], ◌∷◌, map, refl, sym, ap, subst, ◌∙◌, leb, filter, cases_Bool, eq_by_cmp_equiv, IsPermutation-sym, sorted_far, ranks_by, IsDistinct-IsPermutation, IsTotalOrder, is_lt, eq_by_cmp, ordering_reverse, flat_map, IsPermutation, IsSorted}
use Rattle.std.specs.List.{IsDistinct}
use Rattle.std.specs.List.Sorted.{IsStrictlySortedBy}
use Rattle.sqlite_value.specs.declared.keys.Key.{Key}
use Rattle.zeb_register.proofs.StatementForms.{Condition, term_of, passes, reading, reading_by, alone, rising, ascending, ordering, shown_of, IsReading}

-- ---- sorted lists

sorted_tail : {X : Type 0} (R : X → X → Ordering) (x : X) (xs : List X) → IsSorted R (x ∷ xs) → IsSorted R xs
sorted_tail R x xs up = λ k d low within. ap (λ n. is_lt (R (get_or (x ∷ xs) n d) (get_or xs k d))) (let e : suc (k + 1) ≡ suc k + 1 = omega arith in e) ∙ up (suc k) d (omega arith) (omega arith)

-- what is sorted and has no ties rises
strictly : {X : Type 0} (R : X → X → Ordering) (o : IsTotalOrder R) (xs : List X) → IsSorted R xs → IsDistinct (eq_by_cmp R) xs → IsStrictlySortedBy R xs
unfolding IsStrictlySortedBy IsDistinct
strictly R o [] up apart = tt
strictly R o (x ∷ xs) up apart = (
  all_from (λ y. R x y ≡ Less) xs (λ y h.
      let k = contains_had xs y h in
      let far = sorted_far (λ a b. is_lt (R a b)) (ranks_by o (λ z. z)) (x ∷ xs) up 0 (suc k.0) y (omega arith) (omega (arith, k.1)) in
      below (R x y) (R y x) (o.antisymm y x) (all_has (λ z. eq_by_cmp R x z ≡ false) xs y apart.0 h) (rw k.2 at far)),
  strictly R o xs (sorted_tail R x xs up) apart.1,
)
  where
    below : (p q : Ordering) → q ≡ ordering_reverse p → is_eq p ≡ false → is_lt q ≡ false → p ≡ Less
    below Less q back other not_lower = refl
    below Equal q back other not_lower = absurd cc
    below Greater q back other not_lower = absurd (let e = rw back at not_lower in cc)

pub strictly_mapped : {X Y : Type 0} (R : X → X → Ordering) (S : Y → Y → Ordering) (f : X → Y) (xs : List X) → ((a b : X) → Has xs a → Has xs b → R a b ≡ Less → S (f a) (f b) ≡ Less) → IsStrictlySortedBy R xs → IsStrictlySortedBy S (map f xs)
unfolding IsStrictlySortedBy
strictly_mapped R S f [] so up = tt
strictly_mapped R S f (x ∷ xs) so up = (
  all_from (λ y. S (f x) y ≡ Less) (map f xs) (λ y h. let z = has_mapped f xs y h in rw z.2 (so x z.0 (inl refl) (inr z.1) (all_has (λ b. R x b ≡ Less) xs z.0 up.0 z.1))),
  strictly_mapped R S f xs (λ a b h k. so a b (inr h) (inr k)) up.1,
)

pub distinct_mapped : {X Y : Type 0} (L : X → X → Type 0) (e : Y → Y → Bool) (f : X → Y) (xs : List X) → ((a b : X) → Has xs a → Has xs b → L a b → e (f a) (f b) ≡ false) → IsAscending L xs → IsDistinct e (map f xs)
unfolding IsDistinct
distinct_mapped L e f [] so up = tt
distinct_mapped L e f (x ∷ xs) so up = (
  all_from (λ y. e (f x) y ≡ false) (map f xs) (λ y h. let z = has_mapped f xs y h in rw z.2 (so x z.0 (inl refl) (inr z.1) (all_has (L x) xs z.0 up.0 z.1))),
  distinct_mapped L e f xs (λ a b h k. so a b (inr h) (inr k)) up.1,
)

pub tied : (o : Ordering) → is_eq o ≡ true → o ≡ Equal
tied Less h = absurd cc
tied Equal h = refl
tied Greater h = absurd cc

keys_by : (order : List ℕ) → map (λ k. k.1) (rising order) ≡ map (λ _. ascending) order
keys_by [] = refl
keys_by (place ∷ order) = ap (λ ks. ascending ∷ ks) (keys_by order)

read_by : (params r : Row) (order : List ℕ) → eval_all (map (λ k. k.0) (rising order)) (params ∷ r ∷ []) ≡ map (column r) order
read_by params r [] = refl
read_by params r (place ∷ order) = ap (λ vs. column r place ∷ vs) (read_by params r order)

-- ---- answers

-- each row that passes, beside the parameters
pub matched : (wheres : List Condition) (params : Row) (lost : Value) (db : Trees) (rows : List Row)
    → flat_map (λ r. matches_as lost db (map term_of wheres) end (params ∷ r ∷ [])) rows ≡ map (λ r. params ∷ r ∷ []) (filter (passes wheres params) rows)
matched wheres params lost db [] = refl
matched wheres params lost db (r ∷ rows) = elim (cases_Bool (passes wheres params r)) [
  | inl is ↦ rw is (ap (λ (xs : List Env). (params ∷ r ∷ []) ∷ xs) (matched wheres params lost db rows))
  | inr is_not ↦ rw is_not (matched wheres params lost db rows)
]

-- with no table of a WITH, a tree is that of the store
pub plain : (db : Trees) (tree : ℕ) → overlay db [] tree ≡ db tree
plain db tree = elim (cases_Bool (leb (2 ^ 31) tree)) [ inl is ↦ rw is | inr is_not ↦ rw is_not ]

pub reads : (schema_db : Database) (tree : ℕ) (wheres : List Condition) (project : List Term) (keys : List (Term × Key)) (limit : Term) (params : Row) (rows : List Row)
    → Answers schema_db (alone (reading_by tree wheres project keys limit)) params rows → IsReading (schema_db.trees tree) wheres project keys limit params rows
reads schema_db tree wheres project keys limit params rows h =
    let db = schema_db.trees in
    let q = reading_by tree wheres project keys limit in
    let a : IsAnswer q (overlay db []) params rows = h.answer Null in
    let staged : a.staged ≡ map (λ r. params ∷ r ∷ []) (filter (passes wheres params) (db tree)) =
    a.grouped ∙ matched wheres params Null (overlay db []) (overlay db [] tree) ∙ ap (λ rs. map (λ r. params ∷ r ∷ []) (filter (passes wheres params) rs)) (plain db tree) in
    let kept : a.kept ≡ map (shown_of project keys params) (filter (passes wheres params) (db tree)) =
    a.distinct ∙ ap (map (output q)) staged ∙ map-map (output q) (λ r. params ∷ r ∷ []) _ in
    record { ordered = a.ordered; same = subst (λ k. IsPermutation k a.ordered) kept a.same; sorted = a.sorted; shown = a.shown }

has_permuted : {X : Type 0} (xs ys : List X) (x : X) → IsPermutation xs ys → Has ys x → Has xs x
has_permuted xs ys x same = all_has (Has xs) ys x (all-permutation (Has xs) xs ys same (all_from (Has xs) xs (λ e h. h)))

module _ (db : List Row) (wheres : List Condition) (project : List Term) (keys : List (Term × Key)) (limit : Term) (params : Row) (rows : List Row) (h : IsReading db wheres project keys limit params rows) where
  abbrev pub one : Row → Output
  one = shown_of project keys params

  abbrev pub all_shown : List Row
  all_shown = map (λ (o : Output). o.1) h.ordered

  pub origin : (o : Output) → Has h.ordered o → (r : Row) × Has db r × (passes wheres params r ≡ true) × (o ≡ one r)
  origin o there =
      let r = has_mapped one (filter (passes wheres params) db) o (has_permuted (map one (filter (passes wheres params) db)) h.ordered o h.same there) in
      let found = has_filtered (passes wheres params) db r.0 r.1 in
      (r.0, found.0, found.1, r.2)

  -- each row that passes has its place in the order
  pub in_order : (r : Row) → Has db r → passes wheres params r ≡ true → Has h.ordered (one r)
  in_order r here passed =
      has_permuted h.ordered (map one (filter (passes wheres params) db)) (one r) (IsPermutation-sym _ _ h.same)
      (mapped_has one (filter (passes wheres params) db) r (has_kept (passes wheres params) db r here passed))

  -- a row is shown exactly where it passes
  pub shows_each : (x : Row) → Has all_shown x ↔ ((r : Row) × Has db r × (passes wheres params r ≡ true) × (x ≡ eval_all project (params ∷ r ∷ [])))
  shows_each x = (
    λ there. let o = has_mapped (λ (k : Output). k.1) h.ordered x there in let r = origin o.0 o.1 in (r.0, r.1, r.2, o.2 ∙ ap (λ (k : Output). k.1) r.3),
    λ is.
        subst (Has all_shown) (sym is.3) (mapped_has (λ (k : Output). k.1) h.ordered (one is.0) (in_order is.0 is.1 is.2)),
  )

  -- where no two rows that pass tie in ORDER BY, what is shown is in an order that follows ORDER BY
  pub shows_sorted : (S : Row → Row → Ordering) → IsTable db
      → ((r s : Row) → Has db r → Has db s → passes wheres params r ≡ true → passes wheres params s ≡ true → value_cmp (rowid r) (rowid s) ≡ Less → output_cmp (reading_by 0 wheres project keys limit) (one r) (one s) ≢ Equal)
      → ((r s : Row) → output_cmp (reading_by 0 wheres project keys limit) (one r) (one s) ≡ Less → S (eval_all project (params ∷ r ∷ [])) (eval_all project (params ∷ s ∷ [])) ≡ Less) → IsStrictlySortedBy S all_shown
  shows_sorted S up apart follows =
      let R = output_cmp (reading_by 0 wheres project keys limit) in
      let total = output_cmp_total (reading_by 0 wheres project keys limit) in
      let kept = filter (passes wheres params) db in
      let distinct = distinct_mapped (λ a b. value_cmp (rowid a) (rowid b) ≡ Less) (eq_by_cmp R) one kept (λ a b here there lower.
      let r = has_filtered (passes wheres params) db a here in
      let s = has_filtered (passes wheres params) db b there in
      elim (cases_Bool (eq_by_cmp R (one a) (one b))) [
        | inl ties ↦ absurd (apart a b r.0 s.0 r.1 s.1 lower (tied (R (one a) (one b)) ties))
        | inr other ↦ other
      ]) (ascending_filter (λ a b. value_cmp (rowid a) (rowid b) ≡ Less) (passes wheres params) db up) in
      let apart_now = IsDistinct-IsPermutation (eq_by_cmp R) (eq_by_cmp_equiv total).symm (map one kept) h.ordered h.same distinct in
      strictly_mapped R S (λ (o : Output). o.1) h.ordered (λ a b here there lower.
      let r = origin a here in
      let s = origin b there in
      rw (r.3, s.3) (follows r.0 s.0 (rw (r.3, s.3) at lower))) (strictly R total h.ordered h.sorted apart_now)

-- the rows rise where ORDER BY does
module _ (db : List Row) (wheres : List Condition) (project : List Term) (order : List ℕ) (limit : Term) (params : Row) (rows : List Row) (h : IsReading db wheres project (rising order) limit params rows) where
  abbrev row_of : Row → Output
  row_of = shown_of project (rising order) params

  ordered_by : (r s : Row) → output_cmp (reading 0 wheres project order limit) (row_of r) (row_of s) ≡ ordering order r s
  ordered_by r s = rw (keys_by order, read_by params r order, read_by params s order)

  -- where no two rows that pass tie in ORDER BY, the rows rise
  pub shows_rising : IsTable db → ((r s : Row) → Has db r → Has db s → passes wheres params r ≡ true → passes wheres params s ≡ true → value_cmp (rowid r) (rowid s) ≡ Less → ordering order r s ≢ Equal)
      → ((r s : Row) → ordering order r s ≡ Less → row_cmp (eval_all project (params ∷ r ∷ [])) (eval_all project (params ∷ s ∷ [])) ≡ Less) → IsStrictlySortedBy row_cmp (all_shown db wheres project (rising order) limit params rows h)
  shows_rising up apart rises =
      shows_sorted db wheres project (rising order) limit params rows h row_cmp up (λ r s here there p q lower tie. apart r s here there p q lower (sym (ordered_by r s) ∙ tie)) (λ r s lower. rises r s (sym (ordered_by r s) ∙ lower))
