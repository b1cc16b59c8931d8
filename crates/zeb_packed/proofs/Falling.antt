-- SELECT over one table, ordered by one column, the greatest first: the rows of the table that it lists.
use Rattle.zeb_packed.proofs.Cited.{◌≡◌, ◌∙◌, ◌+◌, ℕ, suc, true, false, List, [], ◌∷◌, ◌++◌, length, map, refl, sym, ap, subst, Ordering, Less, Equal, Greater, ordering_reverse, ordering_then, list_any, range_with_len, Row, column, row_cmp, Table, Schema, Term, col, eval, Select, IsDatabase, reads_listing, State, Shown, IsPlain, command_of, reads_as, value_cmp_total, Has, all_has, has_got, length-map, HasLayout, IsFallingListOf, Condition, keyed_from, passes, reading_by, alone, shows, descending, ordering, IsPlainTable, HasKeys, are_fit, are_comparable, code, codes_of, covers, covered_some, ordering_tied, shares_alone, reads, shows_each, shows_sorted, all_shown, IsSelected, shown_places, IsAfter, after_key, alone_first, keyed_there, codes_there, meets_there, value_cmp}
use Rattle.sqlite.specs.Query.{limited, as_count}
use Rattle.sqlite.specs.Listing.{understood}
use Rattle.sqlite_value.specs.declared.keys.Key.{Key}

abbrev pub falling : ℕ → List (Term × Key)
falling place = (col 1 place, descending) ∷ []

-- a tie is one from either side
tied_back : (o : Ordering) → ordering_then o Equal ≡ Equal → ordering_then (ordering_reverse o) Equal ≡ Equal
tied_back Less h = absurd (let e : Less ≡ Equal = h in cc)
tied_back Equal h = refl
tied_back Greater h = absurd (let e : Greater ≡ Equal = h in cc)

module _ (schema : Schema) (at : ℕ) (table : Table) (static : IsPlainTable schema at table) (keys : List (List ℕ)) (has : HasKeys schema table keys) where
  -- the conditions and the column tell two rows apart, and what is shown is in the order of the column
  falls : (sql : List ℕ) (params : Row) (wheres : List Condition) (show : List ℕ) (place : ℕ) (limit : Term) (names : List (List ℕ))
      → command_of (understood schema sql) ≡ Select (alone (reading_by table.tree wheres (shows show) (falling place) limit)) names → IsPlain (understood schema sql) → reads_listing schema sql ≡ false
      → are_fit table params wheres ≡ true → are_comparable (codes_of table) (codes_of table) (place ∷ []) ≡ true
      → list_any (covers wheres (place ∷ [])) keys ≡ true
      → ((r s : Row) → value_cmp (column r place) (column s place) ≡ Less → row_cmp (map (column r) show) (map (column s) show) ≡ Less)
      → (old new : State) (rows : List Row) → HasLayout schema old → Shown sql params old new rows
      → (all : List Row) × IsFallingListOf (IsSelected (old.now.trees table.tree) wheres params show) all × (rows ≡ limited (as_count (eval limit (params ∷ []))) all)
  falls sql params wheres show place limit names is bare unlisted fit comparable covered rises old new rows layout shown =
      let db = old.now.trees table.tree in
      let read = reads_as sql params old new schema layout.is (Select (alone (reading_by table.tree wheres (shows show) (falling place) limit)) names) is bare unlisted rows shown in
      let answer = reads old.now table.tree wheres (shows show) (falling place) limit params rows read in
      let each = shows_each db wheres (shows show) (falling place) limit params rows answer in
      let met = meets_there schema at table static old params wheres layout fit in
      let sound = subst (λ t. IsDatabase (record { schema = t; trees = old.now.trees })) layout.is layout.sound in
      let keyed = keyed_there schema at table static old layout in
      let int = λ (r : Row) (h : Has db r). all_has _ db r keyed.1 h in
      let codes = λ (r : Row) (h : Has db r). codes_there schema at table static old r layout h in
      let same = λ (r s : Row) (tie : ordering_then (value_cmp (column s place) (column r place)) Equal ≡ Equal).
      (let e : ordering (place ∷ []) r s ≡ Equal = ap (λ o. ordering_then o Equal) (value_cmp_total.antisymm (column r place) (column s place)) ∙ tied_back (value_cmp (column s place) (column r place)) tie in e) in
      let apart = λ (r s : Row) (here : Has db r) (there : Has db s) (p : passes wheres params r ≡ true) (q : passes wheres params s ≡ true) (lower : _) (tie : _).
      shares_alone schema old.now.trees table keys sound (has_got schema.tables at table static.there) has r s here there (int r here) (int s there) (codes r here) (codes s there)
      (covered_some params r s wheres (place ∷ []) keys ((met r here).0 p) ((met s there).0 q) (ordering_tied (codes_of table) (place ∷ []) r s (codes r here) (codes s there) comparable (same r s tie)) covered) lower in (
        all_shown db wheres (shows show) (falling place) limit params rows answer,
        record {
          each = λ x. (
            λ h. let r = (each x).0 h in (r.0, r.1, (met r.0 r.1).0 r.2, r.3 ∙ shown_places params r.0 show),
            λ h. (each x).1 (h.0, h.1, (met h.0 h.1).1 h.2, h.3 ∙ sym (shown_places params h.0 show)),
          );
          falling = shows_sorted db wheres (shows show) (falling place) limit params rows answer (λ x y. row_cmp y x) keyed.0 apart
              (λ r s lower. rw (shown_places params r show, shown_places params s show) (rises s r (alone_first (value_cmp (column s place) (column r place)) lower)));
        },
        answer.shown,
      )

  -- the same of the rows that begin with the key
  pub falls_after : (sql : List ℕ) (key rest : Row) (more : List Condition) (n place : ℕ) (limit : Term) (names : List (List ℕ))
      → let wheres = keyed_from 1 0 (length key) ++ more in let show = range_with_len (suc (length key)) n in
      command_of (understood schema sql) ≡ Select (alone (reading_by table.tree wheres (shows show) (falling place) limit)) names → IsPlain (understood schema sql) → reads_listing schema sql ≡ false
      → are_fit table (key ++ rest) wheres ≡ true → are_comparable (codes_of table) (codes_of table) (place ∷ []) ≡ true → list_any (covers wheres (place ∷ [])) keys ≡ true → length (codes_of table) ≡ suc (length key + n)
      → ((r s : Row) → value_cmp (column r place) (column s place) ≡ Less → row_cmp (map (column r) show) (map (column s) show) ≡ Less)
      → (old new : State) (rows : List Row) → HasLayout schema old → Shown sql (key ++ rest) old new rows
      → (all : List Row) × IsFallingListOf (IsAfter (old.now.trees table.tree) key rest more) all × (rows ≡ limited (as_count (eval limit ((key ++ rest) ∷ []))) all)
  falls_after sql key rest more n place limit names is bare unlisted fit comparable covered size rises old new rows layout shown =
      let wheres = keyed_from 1 0 (length key) ++ more in
      let show = range_with_len (suc (length key)) n in
      let db = old.now.trees table.tree in
      let got = falls sql (key ++ rest) wheres show place limit names is bare unlisted fit comparable covered rises old new rows layout shown in
      let so = λ (x : Row). after_key db key rest more n x (λ r here. (
        all_has _ db r (keyed_there schema at table static old layout).1 here,
        sym (length-map r code) ∙ ap length (codes_there schema at table static old r layout here) ∙ size,
      )) in (
        got.0,
        record { each = λ x. (λ h. (so x).0 ((got.1.each x).0 h), λ h. (got.1.each x).1 ((so x).1 h)); falling = got.1.falling },
        got.2,
      )
