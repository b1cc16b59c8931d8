-- The statements on databases, each with what it is compiled to.
use Rattle.zeb_register.proofs.Cited.{BY_NAME, ADD, SET_LAST, TAKE, IsPlain, command_of, Update, Delete, Insert, next_rowid, IsDatabase, Row, column, value_cmp, Values, State, Executes, Term, lit, col, Trees, rowid, is_int, Null, Int, Text, has_got, tied_same, Has, value_cmp_total, ◌≡◌, ◌∙◌, arith, sym, ap, ap₂, subst, map, ℕ, List, [], ◌∷◌, codes, refl, false, true, ℤ, Ok, inl, inr, Ordering, Less, Equal, Greater, tied_itself, ordering_reverse, store_schema, databases_table, IsListOf, Table, IsStore, Changes, databases_tree, HasDatabase, TakesDatabase, AddsDatabase, SetsLast, IsDatabaseRow, PutsDatabase}
use Rattle.sqlite.specs.Listing.{understood}
use Rattle.sqlite.specs.State.{Shown}
use Rattle.sqlite_tied.specs.Compute.{everything}
use Rattle.zeb_register.proofs.StatementForms.{Condition, equals, reading, alone, shows, no_limit}
use Rattle.zeb_register.proofs.ValueKinds.{codes_of, IsPlainTable, HasKeys, code}
use Rattle.zeb_register.proofs.Writes.{next_free, GainsRow, LosesRows, RemakesRows, updates, changed_so, deletes, inserts, codes_there}
use Rattle.zeb_register.proofs.RowLemmas.{null_of, spread, code_at, int_of, text_of}
use Rattle.zeb_register.proofs.Selects.{IsSelected, selects, list_so}
use Rattle.zeb_register.proofs.Refusals.{IsQuery}
use Rattle.zeb_register.proofs.Writes.{keyed_there}
use Rattle.zeb_register.proofs.RowLemmas.{shares_alone}

abbrev pub databases : Table
databases = record databases_table { tree = 2 }

pub databases_static : IsPlainTable store_schema 1 databases
databases_static = record { there = refl; whole = refl; free = λ olds news. refl; uncounted = refl; unstamped = refl }

abbrev pub last_text : List ℕ
last_text = SET_LAST.now

last_is : command_of (understood store_schema last_text) ≡ Update 1 (alone (reading 2 (equals 0 0 ∷ []) (col 1 0 ∷ col 1 0 ∷ lit Null ∷ col 1 2 ∷ col 0 1 ∷ []) [] no_limit))
unfolding understood everything
last_is = refl

last_plain : IsPlain (understood store_schema last_text)
unfolding understood everything
last_plain = (refl, refl)

-- a row of the table, whose columns are known
pub database_row : (r : Row) → map code r ≡ codes_of databases → (id : ℤ) × (name : List ℕ) × (last : ℤ) × (r ≡ Int id ∷ Null ∷ Text name ∷ Int last ∷ [])
database_row r typed =
    let id = int_of (column r 0) (code_at r (codes_of databases) 0 typed) in
    let none = null_of (column r 1) (code_at r (codes_of databases) 1 typed) in
    let name = text_of (column r 2) (code_at r (codes_of databases) 2 typed) in
    let last = int_of (column r 3) (code_at r (codes_of databases) 3 typed) in
    let all : r ≡ column r 0 ∷ column r 1 ∷ column r 2 ∷ column r 3 ∷ [] = spread r (codes_of databases) typed in
    (id.0, name.0, last.0, all ∙ ap₂ (λ a b. a ∷ b ∷ column r 2 ∷ column r 3 ∷ []) id.1 none ∙ ap₂ (λ c d. Int id.0 ∷ Null ∷ c ∷ d ∷ []) name.1 last.1)

pub sets_last : (id last : ℤ) (old new : State) (count : ℕ) → IsStore old → Executes last_text (Int id ∷ Int last ∷ []) old new (Ok count) → Changes databases_tree (SetsLast id last) old new
sets_last id last old new count store ran =
    let params = Int id ∷ Int last ∷ [] in
    let wheres = equals 0 0 ∷ [] in
    let set = col 1 0 ∷ lit Null ∷ col 1 2 ∷ col 0 1 ∷ [] in
    let done = updates store_schema 1 databases databases_static last_text params wheres (col 1 0) (lit Null ∷ col 1 2 ∷ col 0 1 ∷ []) last_is last_plain refl refl refl old new count store ran in
    changed_so store_schema 2 (RemakesRows wheres set params) (SetsLast id last) old new (λ each i name n. (
      λ h. elim ((each (Int i ∷ Null ∷ Text name ∷ Int n ∷ [])).0 h) [
        | inl kept ↦ inl ((λ same. kept.1 (ap Int same, tt)), kept.0)
        | inr made ↦
            let was = database_row made.0 (codes_there store_schema 1 databases databases_static old made.0 store made.1) in
            let row : Int i ∷ Null ∷ Text name ∷ Int n ∷ [] ≡ Int was.0 ∷ Null ∷ Text was.1 ∷ Int last ∷ [] = made.3 ∙ ap (λ (r : Row). column r 0 ∷ Null ∷ column r 2 ∷ Int last ∷ []) was.3 in
            let key : Int was.0 ≡ Int id = ap (λ (r : Row). column r 0) (sym was.3) ∙ made.2.0 in
            let first : i ≡ was.0 = cc in
            let named : name ≡ was.1 = cc in
            let same : i ≡ id = cc in
            inr (same, (let e : n ≡ last = cc in e), (was.2, subst (Has (old.now.trees 2)) (was.3 ∙ ap₂ (λ a b. Int a ∷ Null ∷ Text b ∷ Int was.2 ∷ []) (sym first) (sym named)) made.1))
      ],
      λ h. (each (Int i ∷ Null ∷ Text name ∷ Int n ∷ [])).1 (elim h [
        | inl kept ↦ inl (kept.1, λ m. kept.0 (let e : i ≡ id = let f = m.0 in cc in e))
        | inr made ↦ inr (Int i ∷ Null ∷ Text name ∷ Int made.2.0 ∷ [], made.2.1, (ap Int made.0, tt), ap (λ k. Int i ∷ Null ∷ Text name ∷ Int k ∷ []) made.1)
      ]),
    )) done

-- ---- INSERT of a row whose rowid is its key

abbrev pub add_text : List ℕ
add_text = ADD.now

abbrev add_terms : List Term
add_terms = lit Null ∷ lit Null ∷ col 0 0 ∷ col 0 1 ∷ []

add_is : command_of (understood store_schema add_text) ≡ Insert 1 (Values add_terms 4)
unfolding understood everything
add_is = refl

add_plain : IsPlain (understood store_schema add_text)
unfolding understood everything
add_plain = (refl, refl)

pub adds : (name : List ℕ) (last : ℤ) (old new : State) (count : ℕ) → IsStore old → Executes add_text (Text name ∷ Int last ∷ []) old new (Ok count) → Changes databases_tree (AddsDatabase new.last_rowid name last) old new
adds name last old new count store ran =
    let columns = Null ∷ Text name ∷ Int last ∷ [] in
    let next = next_rowid (old.now.trees 2) in
    let done = inserts store_schema 1 databases databases_static add_text (Text name ∷ Int last ∷ []) add_terms 4 columns add_is add_plain refl refl old new count store ran in
    subst (λ id. Changes databases_tree (AddsDatabase id name last) old new) (sym done.1) (changed_so store_schema 2 (GainsRow columns) (AddsDatabase next name last) old new (λ each. (
      λ i n l. (
        λ h. elim ((each (Int i ∷ Null ∷ Text n ∷ Int l ∷ [])).0 h) [ inl was ↦ inl was | inr same ↦ inr ((let e : i ≡ next = cc in e), (let e : n ≡ name = cc in e), (let e : l ≡ last = cc in e)) ],
        λ h. (each (Int i ∷ Null ∷ Text n ∷ Int l ∷ [])).1 (elim h [ inl was ↦ inl was | inr same ↦ inr (ap₂ (λ a b. Int a ∷ Null ∷ Text b ∷ Int l ∷ []) same.0 same.1 ∙ ap (λ k. Int next ∷ Null ∷ Text name ∷ Int k ∷ []) same.2) ]),
      ),
      λ n l. next_free store_schema 1 databases databases_static old (Null ∷ Text n ∷ Int l ∷ []) store,
    )) done.0)

pub databases_keys : HasKeys store_schema databases ((2 ∷ []) ∷ [])
databases_keys = record { are = λ r new. refl; comparable = refl }

-- ---- the UPDATE by the rowid: what it takes, and why it is refused

-- ---- DELETE by the rowid

abbrev pub cut_text : List ℕ
cut_text = TAKE.now

cut_is : command_of (understood store_schema cut_text) ≡ Delete 1 (alone (reading 2 (equals 0 0 ∷ []) (shows (0 ∷ [])) [] no_limit))
unfolding understood everything
cut_is = refl

cut_plain : IsPlain (understood store_schema cut_text)
unfolding understood everything
cut_plain = (refl, refl)

pub cuts : (id : ℤ) (old new : State) (count : ℕ) → IsStore old → Executes cut_text (Int id ∷ []) old new (Ok count) → Changes databases_tree (TakesDatabase id) old new
cuts id old new count store ran =
    let wheres = equals 0 0 ∷ [] in
    changed_so store_schema 2 (LosesRows wheres (Int id ∷ [])) (TakesDatabase id) old new (λ each i name last. (
      λ h. let was = (each (Int i ∷ Null ∷ Text name ∷ Int last ∷ [])).0 h in (was.0, λ same. was.1 (ap Int same, tt)),
      λ h. (each (Int i ∷ Null ∷ Text name ∷ Int last ∷ [])).1 (h.0, λ m. h.1 (let e : i ≡ id = let f = m.0 in cc in e)),
    )) (deletes store_schema 1 databases databases_static cut_text (Int id ∷ []) wheres cut_is cut_plain refl old new count store ran)

-- ---- SELECT by name

abbrev pub named_text : List ℕ
named_text = BY_NAME.now

abbrev named_wheres : List Condition
named_wheres = equals 2 0 ∷ []

abbrev named_shows : List ℕ
named_shows = 0 ∷ 3 ∷ []

pub named_query : (name : List ℕ) → IsQuery named_text (Text name ∷ []) 2 named_wheres (shows named_shows) [] no_limit (codes "id" ∷ codes "last" ∷ [])
unfolding understood everything
named_query name = record { is = refl; plain = (refl, refl); unlisted = refl; silent = λ schema base. refl; whole = (omega arith, refl); fit = λ trees mistyped. absurd (let t : true ≡ false = mistyped in cc) }

pub lists_named : (name : List ℕ) (old new : State) (rows : List Row) → IsStore old → Shown named_text (Text name ∷ []) old new rows → IsListOf (IsDatabaseRow old.now.trees name) rows
lists_named name old new rows store shown =
    let db = old.now.trees 2 in
    let P = IsSelected db named_wheres (Text name ∷ []) named_shows in
    let got = selects store_schema 1 databases databases_static _ databases_keys named_text (Text name ∷ []) named_wheres named_shows [] no_limit _ (named_query name).is (named_query name).plain (named_query name).unlisted refl refl refl (λ r s lower. absurd cc) old new rows store shown in
    list_so P (IsDatabaseRow old.now.trees name) rows (λ x. (
      λ h.
          let was = database_row h.0 (codes_there store_schema 1 databases databases_static old h.0 store h.1) in
          let same : was.1 ≡ name = let e : Text was.1 ≡ Text name = ap (λ (r : Row). column r 2) (sym was.3) ∙ h.2.0 in cc in
          (was.0, was.2, h.3 ∙ ap (λ (r : Row). column r 0 ∷ column r 3 ∷ []) was.3, subst (Has db) (was.3 ∙ ap (λ n. Int was.0 ∷ Null ∷ Text n ∷ Int was.2 ∷ []) same) h.1),
      λ h. (Int h.0 ∷ Null ∷ Text name ∷ Int h.1 ∷ [], h.3, (refl, tt), h.2),
    )) (subst (IsListOf P) (sym got.2) got.1)

-- ---- one database of a name, and one of an id

pub one_id : (s : State) (id : ℤ) (n m : List ℕ) (l k : ℤ) → IsStore s → HasDatabase s.now.trees id n l → HasDatabase s.now.trees id m k → n ≡ m
one_id s id n m l k store here there =
    let a = Int id ∷ Null ∷ Text n ∷ Int l ∷ [] in
    let b = Int id ∷ Null ∷ Text m ∷ Int k ∷ [] in
    let same : a ≡ b = tied_same (s.now.trees 2) a b (keyed_there store_schema 1 databases databases_static s store).0 here there (tied_itself value_cmp_total (Int id)) in
    let named : Text n ≡ Text m = ap (λ (r : Row). column r 2) same in cc

abbrev whole : ℤ → List ℕ → ℤ → Row
whole id name last = Int id ∷ Null ∷ Text name ∷ Int last ∷ []

pub one_name : (s : State) (i j : ℤ) (name : List ℕ) (l k : ℤ) → IsStore s → HasDatabase s.now.trees i name l → HasDatabase s.now.trees j name k → i ≡ j
one_name s i j name l k store here there = from (value_cmp (Int i) (Int j)) refl
  where
    alone : (r t : Row) → Has (s.now.trees 2) r → Has (s.now.trees 2) t → is_int (rowid r) ≡ true → is_int (rowid t) ≡ true → column r 2 ≡ column t 2 → value_cmp (rowid r) (rowid t) ≡ Less → ⊥
    alone r t r_there t_there r_int t_int same lower =
        let sound = subst (λ c. IsDatabase (record { schema = c; trees = s.now.trees })) store.is store.sound in
        shares_alone store_schema s.now.trees databases ((2 ∷ []) ∷ []) sound (has_got store_schema.tables 1 databases databases_static.there) databases_keys r t r_there t_there r_int t_int
        (codes_there store_schema 1 databases databases_static s r store r_there) (codes_there store_schema 1 databases databases_static s t store t_there) (inl (same, tt)) lower

    from : (o : Ordering) → value_cmp (Int i) (Int j) ≡ o → i ≡ j
    from Less is = absurd (alone (whole i name l) (whole j name k) here there refl refl refl is)
    from Greater is = absurd (alone (whole j name k) (whole i name l) there here refl refl refl (value_cmp_total.antisymm (Int j) (Int i) ∙ ap ordering_reverse is))
    from Equal is =
        let same : whole i name l ≡ whole j name k = tied_same (s.now.trees 2) _ _ (keyed_there store_schema 1 databases databases_static s store).0 here there is in
        let ids : Int i ≡ Int j = ap (λ (r : Row). column r 0) same in cc

-- setting the last number of the database of the name, or making it
pub puts_set : (s : State) (new : Trees) (id last before : ℤ) (name : List ℕ) → IsStore s → HasDatabase s.now.trees id name before → SetsLast id last 2 s.now.trees new → PutsDatabase id name last 2 s.now.trees new
puts_set s new id last before name store there sets = record {
  each = λ i n l. (
    λ h. elim ((sets i n l).0 h) [
      | inl kept ↦ inl (kept.1, λ same. kept.0 (one_name s i id name l before store (subst (λ m. HasDatabase s.now.trees i m l) same kept.1) there))
      | inr made ↦ inr (made.0, one_id s id n name made.2.0 before store (subst (λ j. HasDatabase s.now.trees j n made.2.0) made.0 made.2.1) there, made.1)
    ],
    λ h. (sets i n l).1 (elim h [
      | inl kept ↦ inl ((λ same. kept.1 (one_id s id n name l before store (subst (λ j. HasDatabase s.now.trees j n l) same kept.0) there)), kept.0)
      | inr made ↦ inr (made.0, made.2, (before, subst (λ j. HasDatabase s.now.trees j n before) (sym made.0) (subst (λ m. HasDatabase s.now.trees id m before) (sym made.1) there)))
    ]),
  );
  kept = λ i l h. one_name s i id name l before store h there;
  own = λ n l h. one_id s id n name l before store h there;
}

pub puts_added : (old new : Trees) (id last : ℤ) (name : List ℕ) → ((i l : ℤ) → ¬ HasDatabase old i name l) → AddsDatabase id name last 2 old new → PutsDatabase id name last 2 old new
puts_added old new id last name none adds' = record {
  each = λ i n l. (
    λ h. elim ((adds'.0 i n l).0 h) [ inl was ↦ inl (was, λ same. none i l (subst (λ m. HasDatabase old i m l) same was)) | inr made ↦ inr made ],
    λ h. (adds'.0 i n l).1 (elim h [ inl was ↦ inl was.0 | inr made ↦ inr made ]),
  );
  kept = λ i l h. absurd (none i l h);
  own = λ n l h. absurd (adds'.1 n l h);
}
