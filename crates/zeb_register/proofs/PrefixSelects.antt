-- SELECT of the other columns WHERE the first columns are equal to parameters.
use Rattle.zeb_register.proofs.Cited.{IsPlain, command_of, Select, reads_listing, Row, column, row_cmp, limited, as_count, Schema, State, Term, eval, rowid, is_int, Value, Int, all_has, int_is, Has, ◌≡◌, ◌↔◌, ℕ, ℤ, zero, suc, ◌+◌, ◌≤◌, true, false, List, [], ◌∷◌, ◌++◌, length, map, refl, sym, ap, ap₂, subst, ◌∙◌, arith, Less, length-append, Ordering, Equal, Greater, length-map, list_any, range_with_len, ordering_then, Table, HasLayout, IsListOf, IsRest, IsStore, store_schema}
use Rattle.sqlite.specs.Edit.{id_in}
use Rattle.sqlite.specs.Listing.{understood}
use Rattle.sqlite.specs.State.{Shown}
use Rattle.zeb_register.proofs.Refusals.{IsQuery}
use Rattle.zeb_register.proofs.StatementForms.{Condition, MeetsAll, keyed_from, no_limit, reading, rising, alone, shows, ordering}
use Rattle.zeb_register.proofs.ValueKinds.{IsPlainTable, HasKeys, are_fit, are_comparable, code, codes_of, covers}
use Rattle.zeb_register.proofs.RowLemmas.{later_columns}
use Rattle.zeb_register.proofs.Writes.{keyed_there, codes_there}
use Rattle.zeb_register.proofs.Selects.{IsSelected, selects, list_so}

shift_both : (v w : Value) (params row : Row) (p f n : ℕ) → MeetsAll (v ∷ params) (w ∷ row) (keyed_from (suc p) (suc f) n) ↔ MeetsAll params row (keyed_from p f n)
shift_both v w params row p f zero = (λ h. h, λ h. h)
shift_both v w params row p f (suc n) = let later = shift_both v w params row (suc p) (suc f) n in (λ h. (h.0, later.0 h.1), λ h. (h.0, later.1 h.1))

shift_row : (w : Value) (params row : Row) (p f n : ℕ) → MeetsAll params (w ∷ row) (keyed_from (suc p) f n) ↔ MeetsAll params row (keyed_from p f n)
shift_row w params row p f zero = (λ h. h, λ h. h)
shift_row w params row p f (suc n) = let later = shift_row w params row (suc p) (suc f) n in (λ h. (h.0, later.0 h.1), λ h. (h.0, later.1 h.1))

front_is : (key rest row : Row) → length key ≤ length row → MeetsAll (key ++ rest) row (keyed_from 0 0 (length key)) → (x : Row) × (row ≡ key ++ x)
front_is [] rest row long h = (row, refl)
front_is (v ∷ key) rest [] long h = absurd (omega arith)
front_is (v ∷ key) rest (w ∷ row) long h =
    let later = front_is key rest row (omega arith) ((shift_both v w (key ++ rest) row 0 0 (length key)).0 h.1) in (later.0, ap₂ (λ y ys. y ∷ ys) h.0 later.1)

front_meets : (key rest x : Row) → MeetsAll (key ++ rest) (key ++ x) (keyed_from 0 0 (length key))
front_meets [] rest x = tt
front_meets (v ∷ key) rest x = (refl, (shift_both v v (key ++ rest) (key ++ x) 0 0 (length key)).1 (front_meets key rest x))

meets_append : (params row : Row) (cs ds : List Condition) → MeetsAll params row (cs ++ ds) ↔ (MeetsAll params row cs × MeetsAll params row ds)
meets_append params row [] ds = (λ h. (tt, h), λ h. h.1)
meets_append params row (c ∷ cs) ds = let later = meets_append params row cs ds in (λ h. let both = later.0 h.1 in ((h.0, both.0), both.1), λ h. (h.0.0, later.1 (h.0.1, h.1)))

columns_after : (front x : Row) (n : ℕ) → length x ≡ n → map (column (front ++ x)) (range_with_len (length front) n) ≡ x
columns_after [] [] zero is = refl
columns_after [] [] (suc n) is = absurd (omega arith)
columns_after [] (v ∷ x) zero is = absurd (omega arith)
columns_after [] (v ∷ x) (suc n) is = ap (λ vs. v ∷ vs) (later_columns v x 0 n ∙ columns_after [] x n (omega arith))
columns_after (w ∷ front) x n is = later_columns w (front ++ x) (length front) n ∙ columns_after front x n is

-- the rows of the table that begin with the key, by what comes after it
abbrev pub IsAfter : List Row → Row → Row → List Condition → Row → Type 0
IsAfter rows key rest more x = (id : ℤ) × Has rows (Int id ∷ (key ++ x)) × MeetsAll (key ++ rest) (Int id ∷ (key ++ x)) more

pub after_key : (rows : List Row) (key rest : Row) (more : List Condition) (n : ℕ) (x : Row) → ((r : Row) → Has rows r → (is_int (rowid r) ≡ true) × (length r ≡ suc (length key + n)))
    → IsSelected rows (keyed_from 1 0 (length key) ++ more) (key ++ rest) (range_with_len (suc (length key)) n) x ↔ IsAfter rows key rest more x
after_key rows key rest more n x known = (
  λ h. found h.0 h.1 h.2 h.3,
  λ h.
      let r = Int h.0 ∷ (key ++ x) in
      let long : length x ≡ n = omega (arith, (known r h.1).1, length-append key x) in (
        r,
        h.1,
        (meets_append (key ++ rest) r (keyed_from 1 0 (length key)) more).1 ((shift_row (Int h.0) (key ++ rest) (key ++ x) 0 0 (length key)).1 (front_meets key rest x), h.2),
        sym (later_columns (Int h.0) (key ++ x) (length key) n ∙ columns_after key x n long),
      ),
)
  where
    found : (r : Row) → Has rows r → MeetsAll (key ++ rest) r (keyed_from 1 0 (length key) ++ more) → x ≡ map (column r) (range_with_len (suc (length key)) n) → IsAfter rows key rest more x
    found [] here meets is = absurd (omega (arith, (known [] here).1))
    found (w ∷ columns) here meets is =
        let met = (meets_append (key ++ rest) (w ∷ columns) (keyed_from 1 0 (length key)) more).0 meets in
        let facts = known (w ∷ columns) here in
        let front = front_is key rest columns (omega (arith, facts.1)) ((shift_row w (key ++ rest) columns 0 0 (length key)).0 met.0) in
        let long : length front.0 ≡ n = omega (arith, facts.1, ap length front.1, length-append key front.0) in
        let last : x ≡ front.0 = is ∙ later_columns w columns (length key) n ∙ ap (λ c. map (column c) (range_with_len (length key) n)) front.1 ∙ columns_after key front.0 n long in
        let same : w ∷ columns ≡ Int (id_in w) ∷ (key ++ x) = ap₂ (λ y ys. y ∷ ys) (int_is w facts.0) (front.1 ∙ ap (λ y. key ++ y) (sym last)) in
        (id_in w, subst (Has rows) same here, subst (λ r. MeetsAll (key ++ rest) r more) same met.1)

module _ (schema : Schema) (at : ℕ) (table : Table) (static : IsPlainTable schema at table) (keys : List (List ℕ)) (has : HasKeys schema table keys) where
  pub lists_after : (sql : List ℕ) (key rest : Row) (more : List Condition) (n : ℕ) (order : List ℕ) (limit : Term) (names : List (List ℕ))
      → let wheres = keyed_from 1 0 (length key) ++ more in let show = range_with_len (suc (length key)) n in
      command_of (understood schema sql) ≡ Select (alone (reading table.tree wheres (shows show) order limit)) names → IsPlain (understood schema sql) → reads_listing schema sql ≡ false
      → are_fit table (key ++ rest) wheres ≡ true → are_comparable (codes_of table) (codes_of table) order ≡ true → list_any (covers wheres order) keys ≡ true → length (codes_of table) ≡ suc (length key + n)
      → ((r s : Row) → ordering order r s ≡ Less → row_cmp (map (column r) show) (map (column s) show) ≡ Less)
      → (old new : State) (rows : List Row) → HasLayout schema old → Shown sql (key ++ rest) old new rows
      → (all : List Row) × IsListOf (IsAfter (old.now.trees table.tree) key rest more) all × (rows ≡ limited (as_count (eval limit ((key ++ rest) ∷ []))) all)
  lists_after sql key rest more n order limit names is bare unlisted fit comparable covered size rises old new rows layout shown =
      let wheres = keyed_from 1 0 (length key) ++ more in
      let show = range_with_len (suc (length key)) n in
      let db = old.now.trees table.tree in
      let got = selects schema at table static keys has sql (key ++ rest) wheres show order limit names is bare unlisted fit comparable covered rises old new rows layout shown in (
        got.0,
        list_so (IsSelected db wheres (key ++ rest) show) (IsAfter db key rest more) got.0 (λ x. after_key db key rest more n x (λ r here. (
          all_has _ db r (keyed_there schema at table static old layout).1 here,
          sym (length-map r code) ∙ ap length (codes_there schema at table static old r layout here) ∙ size,
        ))) got.1,
        got.2,
      )

-- a query for all rows that begin with the key
module _ (at : ℕ) (table : Table) (static : IsPlainTable store_schema at table) (keys : List (List ℕ)) (has : HasKeys store_schema table keys) where
  pub lists_rest : (sql : List ℕ) (key : Row) (n : ℕ) (order : List ℕ) (names : List (List ℕ)) → let wheres = keyed_from 1 0 (length key) ++ [] in let show = range_with_len (suc (length key)) n in
      IsQuery sql (key ++ []) table.tree wheres (shows show) (rising order) no_limit names
      → are_fit table (key ++ []) wheres ≡ true → are_comparable (codes_of table) (codes_of table) order ≡ true → list_any (covers wheres order) keys ≡ true → length (codes_of table) ≡ suc (length key + n)
      → ((r s : Row) → ordering order r s ≡ Less → row_cmp (map (column r) show) (map (column s) show) ≡ Less)
      → (old new : State) (rows : List Row) → IsStore old → Shown sql (key ++ []) old new rows → IsListOf (IsRest table.tree key old.now.trees) rows
  lists_rest sql key n order names q fit comparable covered size rises old new rows store shown =
      let P = IsAfter (old.now.trees table.tree) key [] [] in
      let got = lists_after store_schema at table static keys has sql key [] [] n order no_limit names q.is q.plain q.unlisted fit comparable covered size rises old new rows store shown in
      list_so P (IsRest table.tree key old.now.trees) rows (λ x. (λ h. (h.0, h.1), λ h. (h.0, h.1, tt))) (subst (IsListOf P) (sym got.2) got.1)

pub alone_first : (o : Ordering) → ordering_then o Equal ≡ Less → o ≡ Less
alone_first Less h = refl
alone_first Equal h = absurd (let e : Equal ≡ Less = h in cc)
alone_first Greater h = absurd (let e : Greater ≡ Less = h in cc)

pub first_lower : (o p : Ordering) → ordering_then o Equal ≡ Less → ordering_then o p ≡ Less
first_lower o p lower = ap (λ q. ordering_then q p) (alone_first o lower)
