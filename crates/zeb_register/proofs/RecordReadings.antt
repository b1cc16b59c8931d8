-- The statements that count the records of a database and that read one after the other.
use Rattle.zeb_register.proofs.Cited.{IsPlain, command_of, one_permutation, reads_as, Binary, Select, Answers, Database, IsDatabase, reads_listing, Row, column, value_cmp, overlay, IsAnswer, Output, matches_as, output, State, Env, eval, holds, lit, rowid, Value, Null, Int, Real, Text, Blob, ascending_filter, all_has, any_has, has_filtered, has_got, has_kept, has_mapped, mapped_has, Has, count, Aggregate, Grouping, IsSummary, value_over, CountRows, counting, ◌≡◌, ◌↔◌, ◌∙◌, ℕ, ℤ, pos, true, false, List, [], ◌∷◌, ◌++◌, length, map, min, take, codes, refl, sym, ap, subst, inl, inr, None, Some, Less, Equal, arith, filter, int_cmp, cases_Bool, int_ranked, length-map, length_permutation, AllZip, Any, list_all, eq_by_cmp, IsPermutation, COUNT, FIRST_FROM, IsNumberOf, IsRestAtLeast, ShowsCount, IsListOf, HasRecord, IsStore, record_row, records_tree, store_schema}
use Rattle.sqlite.specs.Listing.{understood}
use Rattle.sqlite.specs.State.{Shown}
use Rattle.sqlite_tied.specs.Compute.{everything}
use Rattle.std.specs.List.{IsDistinct}
use Rattle.zeb_register.proofs.Calls.{IsSilent}
use Rattle.zeb_register.proofs.PrefixSelects.{IsAfter, lists_after, first_lower}
use Rattle.zeb_register.proofs.RecordStatements.{records, records_keys, records_static, row_of}
use Rattle.zeb_register.proofs.Refusals.{IsFit, IsReasonedQuery, IsSure, IsWhole, why_query_refused, IsQuery}
use Rattle.zeb_register.proofs.RowLemmas.{shares_alone}
use Rattle.zeb_register.proofs.Scans.{distinct_mapped, matched, plain, tied}
use Rattle.zeb_register.proofs.Selects.{list_so}
use Rattle.zeb_register.proofs.StatementForms.{Condition, alone, at_least, equals, keyed_from, no_limit, one_row, passes, reading, rising, shows}
use Rattle.zeb_register.proofs.Writes.{codes_there, keyed_there, meets_there}

-- ---- COUNT(*) over the rows of a table that meet conditions

-- the groups of a count: one, of all rows
one_summary : (g : Grouping) (order : List Env) (rows : List Row) → AllZip (IsSummary g) (order ∷ []) rows → (row : Row) × (rows ≡ row ∷ []) × IsSummary g order row
one_summary g order [] h = absurd h
one_summary g order (row ∷ []) h = (row, refl, h.0)
one_summary g order (row ∷ more ∷ rows) h = absurd h.1

one_value : (order : List Env) (a : Aggregate) (n : Value) (values : Row) → value_over order a ≡ Some n → AllZip (λ a v. value_over order a ≡ Some v) (a ∷ []) values → values ≡ n ∷ []
one_value order a n [] is h = absurd h
one_value order a n (v ∷ []) is h = let same : Some v ≡ Some n = sym h.0 ∙ is in let e : v ≡ n = cc in ap (λ x. x ∷ []) e
one_value order a n (v ∷ w ∷ values) is h = absurd h.1

abbrev row_count : Aggregate
row_count = record { op = CountRows; distinct = false; collation = Binary; argument = lit Null }

abbrev one_group : Grouping
one_group = record { keys = []; collations = []; aggregates = row_count ∷ []; having = [] }

pub counted : (now : Database) (tree : ℕ) (wheres : List Condition) (params : Row) (rows : List Row) → Answers now (alone (counting (reading tree wheres [] [] no_limit))) params rows
    → rows ≡ (count (length (filter (passes wheres params) (now.trees tree))) ∷ []) ∷ []
counted now tree wheres params rows h =
    let db = now.trees in
    let q = counting (reading tree wheres [] [] no_limit) in
    let a : IsAnswer q (overlay db []) params rows = h.answer Null in
    let kept = filter (passes wheres params) (db tree) in
    let found : matches_as Null (overlay db []) q.filter q.from (params ∷ []) ≡ map (λ (r : Row). params ∷ r ∷ []) kept =
    matched wheres params Null (overlay db []) (overlay db [] tree) ∙ ap (λ rs. map (λ (r : Row). params ∷ r ∷ []) (filter (passes wheres params) rs)) (plain db tree) in
    let all = matches_as Null (overlay db []) q.filter q.from (params ∷ []) in
    let order = a.grouped.grouping.0 in
    let many : length order ≡ length kept = length_permutation all order a.grouped.grouping.1 ∙ ap length found ∙ length-map kept (λ (r : Row). params ∷ r ∷ []) in
    let one = one_summary one_group order a.grouped.rows (subst (λ gs. AllZip (IsSummary one_group) gs a.grouped.rows) a.grouped.grouping.2 a.grouped.summaries) in
    let total : Value = count (length kept) in
    let values : one.2.0 ≡ total ∷ [] = one_value order row_count total one.2.0 (ap (λ n. Some (count n)) (length-map order (eval (lit Null)) ∙ many)) one.2.1 in
    let staged : a.staged ≡ (params ∷ (total ∷ []) ∷ []) ∷ [] = a.grouped.having ∙ ap (λ (rs : List Row). filter (λ (env : Env). list_all (holds env) []) (map (λ (r : Row). params ∷ r ∷ []) rs)) (one.1 ∙ ap (λ (r : Row). r ∷ []) (one.2.2 ∙ values)) in
    let shown : a.kept ≡ ([], total ∷ []) ∷ [] = a.distinct ∙ ap (map (output q)) staged in
    let ordered : a.ordered ≡ ([], total ∷ []) ∷ [] = one_permutation _ a.ordered (subst (λ k. IsPermutation k a.ordered) shown a.same) in
    a.shown ∙ ap (map (λ (o : Output). o.1)) ordered

-- ---- the records of a database

abbrev pub count_text : List ℕ
count_text = COUNT.now

abbrev in_base : List Condition
in_base = equals 1 0 ∷ []

count_is : command_of (understood store_schema count_text) ≡ Select (alone (counting (reading 4 in_base [] [] no_limit))) (codes "count(*)" ∷ [])
unfolding understood everything
count_is = refl

count_plain : IsPlain (understood store_schema count_text) × (reads_listing store_schema count_text ≡ false)
unfolding understood everything
count_plain = ((refl, refl), refl)

pub count_silent : IsSilent count_text
unfolding everything
count_silent = λ schema base. refl

count_whole : IsWhole count_text 1 (understood store_schema count_text)
unfolding understood everything
count_whole = (omega arith, refl)

count_fit : (db : ℤ) → IsFit (alone (counting (reading 4 in_base [] [] no_limit))) (Int db ∷ [])
unfolding everything
count_fit db trees mistyped = absurd (let t : true ≡ false = mistyped in cc)

-- a count of rows always has a value
count_sure : (db : ℤ) → IsSure (counting (reading 4 in_base [] [] no_limit)) (Int db ∷ [])
count_sure db trees (inl lost) =
    let group = any_has (λ envs. Any (λ a. value_over envs a ≡ None) (row_count ∷ [])) lost.0 lost.2 in
    let one = any_has (λ a. value_over group.0 a ≡ None) (row_count ∷ []) group.2 in
    elim one.1 [
      | inl same ↦ absurd (let e : Some (count (length (map (eval (lit Null)) group.0))) ≡ None = subst (λ a. value_over group.0 a ≡ None) same one.2 in cc)
      | inr none ↦ none
    ]
count_sure db trees (inr some) = some.4

pub count_refused : (db : ℤ) → IsReasonedQuery count_text (Int db ∷ [])
count_refused db old new e store told failed =
    why_query_refused count_text (Int db ∷ []) (counting (reading 4 in_base [] [] no_limit)) (codes "count(*)" ∷ []) count_is count_plain.0 count_plain.1 count_whole (count_fit db) (count_sure db) old new store e told failed

integer_of : Value → ℤ
integer_of (Int n) = n
integer_of Null = pos 0
integer_of (Real x) = pos 0
integer_of (Text t) = pos 0
integer_of (Blob b) = pos 0

sysno_at : Row → ℤ
sysno_at row = integer_of (column row 2)

sysno_shown : (id db sysno : ℤ) (ident bytes : List ℕ) → sysno_at (Int id ∷ record_row db sysno ident bytes) ≡ sysno
unfolding sysno_at integer_of
sysno_shown id db sysno ident bytes = refl

module _ (s : State) (db : ℤ) (store : IsStore s) where
  abbrev all : List Row
  all = s.now.trees 4

  abbrev kept : List Row
  kept = filter (passes in_base (Int db ∷ [])) all

  -- a row that is counted is a record of the database
  kept_is : (r : Row) → Has kept r → Has all r × ((id : ℤ) × (sysno : ℤ) × (ident : List ℕ) × (bytes : List ℕ) × (r ≡ Int id ∷ record_row db sysno ident bytes))
  kept_is r h =
      let found = has_filtered (passes in_base (Int db ∷ [])) all r h in
      let was = row_of r (codes_there store_schema 2 records records_static s r store found.0) in
      let met = (meets_there store_schema 2 records records_static s (Int db ∷ []) in_base store refl r found.0).0 found.1 in
      let same : was.1 ≡ db = let e : Int was.1 ≡ Int db = ap (λ (x : Row). column x 1) (sym was.5) ∙ met.0 in cc in
      (found.0, (was.0, was.2, was.3, was.4, was.5 ∙ ap (λ d. Int was.0 ∷ record_row d was.2 was.3 was.4) same))

  numbers_each : (z : ℤ) → Has (map sysno_at kept) z ↔ IsNumberOf s.now.trees db z
  numbers_each z = (
    λ h.
        let r = has_mapped sysno_at kept z h in
        let it = kept_is r.0 r.1 in
        let same : it.1.1 ≡ z = sym (r.2 ∙ ap sysno_at it.1.4 ∙ sysno_shown it.1.0 db it.1.1 it.1.2 it.1.3) in
        (it.1.2, it.1.3, subst (λ n. HasRecord s.now.trees db n it.1.2 it.1.3) same (it.1.0, subst (Has all) it.1.4 it.0)),
    λ h.
        let r : Row = Int h.2.0 ∷ record_row db z h.0 h.1 in
        let passed = (meets_there store_schema 2 records records_static s (Int db ∷ []) in_base store refl r h.2.1).1 (refl, tt) in
        subst (Has (map sysno_at kept)) (sysno_shown h.2.0 db z h.0 h.1) (mapped_has sysno_at kept r (has_kept (passes in_base (Int db ∷ [])) all r h.2.1 passed)),
  )

  -- no number is there twice
  numbers_apart : IsDistinct (eq_by_cmp int_cmp) (map sysno_at kept)
  numbers_apart =
      let sound = subst (λ t. IsDatabase (record { schema = t; trees = s.now.trees })) store.is store.sound in
      let keyed = keyed_there store_schema 2 records records_static s store in
      distinct_mapped (λ a b. value_cmp (rowid a) (rowid b) ≡ Less) (eq_by_cmp int_cmp) sysno_at kept (λ a b here there lower.
      let x = kept_is a here in
      let y = kept_is b there in
      let one : sysno_at a ≡ x.1.1 = ap sysno_at x.1.4 ∙ sysno_shown x.1.0 db x.1.1 x.1.2 x.1.3 in
      let two : sysno_at b ≡ y.1.1 = ap sysno_at y.1.4 ∙ sysno_shown y.1.0 db y.1.1 y.1.2 y.1.3 in
      elim (cases_Bool (eq_by_cmp int_cmp (sysno_at a) (sysno_at b))) [
        | inl ties ↦
            let same : x.1.1 ≡ y.1.1 = sym one ∙ int_ranked (sysno_at a) (sysno_at b) Equal (sym (tied (int_cmp (sysno_at a) (sysno_at b)) ties)) ∙ two in
            let first : column a 1 ≡ column b 1 = ap (λ (r : Row). column r 1) x.1.4 ∙ sym (ap (λ (r : Row). column r 1) y.1.4) in
            let second : column a 2 ≡ column b 2 = ap (λ (r : Row). column r 2) x.1.4 ∙ ap Int same ∙ sym (ap (λ (r : Row). column r 2) y.1.4) in
            absurd (shares_alone store_schema s.now.trees records ((1 ∷ 2 ∷ []) ∷ (1 ∷ 3 ∷ []) ∷ []) sound (has_got store_schema.tables 2 records records_static.there) records_keys a b x.0 y.0
            (all_has _ all a keyed.1 x.0) (all_has _ all b keyed.1 y.0) (codes_there store_schema 2 records records_static s a store x.0) (codes_there store_schema 2 records records_static s b store y.0)
            (inl (first, (second, tt))) lower)
        | inr other ↦ other
      ]) (ascending_filter (λ a b. value_cmp (rowid a) (rowid b) ≡ Less) (passes in_base (Int db ∷ [])) all keyed.0)

  pub shows_count : (new : State) (rows : List Row) → Shown count_text (Int db ∷ []) s new rows → ShowsCount db s.now.trees rows
  shows_count new rows shown =
      let read = reads_as count_text (Int db ∷ []) s new store_schema store.is (Select (alone (counting (reading 4 in_base [] [] no_limit))) (codes "count(*)" ∷ [])) count_is count_plain.0 count_plain.1 rows shown in (
        min (length kept) 9223372036854775807,
        record { numbers = map sysno_at kept; apart = numbers_apart; each = numbers_each; count_is = ap (λ n. min n 9223372036854775807) (sym (length-map kept sysno_at)) },
        counted s.now 4 in_base (Int db ∷ []) rows read,
      )

-- ---- one record after the other

abbrev pub from_text : List ℕ
from_text = FIRST_FROM.now

abbrev from_more : List Condition
from_more = at_least 2 1 ∷ []

abbrev from_names : List (List ℕ)
from_names = codes "sysno" ∷ codes "ident" ∷ codes "bytes" ∷ []

pub from_query : (db start : ℤ) → IsQuery from_text (Int db ∷ Int start ∷ []) 4 (keyed_from 1 0 1 ++ from_more) (shows (2 ∷ 3 ∷ 4 ∷ [])) (rising (2 ∷ [])) one_row from_names
unfolding understood everything
from_query db start = record { is = refl; plain = (refl, refl); unlisted = refl; silent = λ schema base. refl; whole = (omega arith, refl); fit = λ trees mistyped. absurd (let t : true ≡ false = mistyped in cc) }

pub lists_from : (db start : ℤ) (old new : State) (rows : List Row) → IsStore old → Shown from_text (Int db ∷ Int start ∷ []) old new rows
    → (all : List Row) × IsListOf (IsRestAtLeast records_tree (Int db ∷ []) start old.now.trees) all × (rows ≡ take 1 all)
lists_from db start old new rows store shown =
    let key = Int db ∷ [] in
    let rest = Int start ∷ [] in
    let P = IsAfter (old.now.trees 4) key rest from_more in
    let got = lists_after store_schema 2 records records_static _ records_keys from_text key rest from_more 3 (2 ∷ []) one_row from_names (from_query db start).is (from_query db start).plain (from_query db start).unlisted refl refl refl refl (λ r s lower. first_lower _ _ lower) old new rows store shown in
    (got.0, list_so P (IsRestAtLeast 4 key start old.now.trees) got.0 (λ x. (λ h. ((h.0, h.1), h.2.0), λ h. (h.0.0, h.0.1, (h.1, tt)))) got.1, got.2)
