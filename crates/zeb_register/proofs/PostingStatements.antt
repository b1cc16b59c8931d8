-- The statements on postings, each with what it is compiled to.
use Rattle.zeb_register.proofs.Cited.{UNDER_TERM, UNDER_NUMBER, REGISTER, PUT, IsPlain, command_of, Delete, Insert, Row, Values, State, Executes, Term, lit, col, Null, Int, ◌≡◌, arith, ℕ, List, [], ◌∷◌, codes, refl, true, false, ℤ, Ok, store_schema, postings_table, blocks_table, dict_table, Loses, IsListOf, Gains, whole_posting_row, place_key, IsNumberedRow, IsStore, Changes, postings_tree, key_of, IsRest, Table}
use Rattle.zeb_register.specs.declared.plain_changes.TheConstants.{TAKE}
use Rattle.sqlite.specs.Listing.{understood}
use Rattle.sqlite.specs.State.{Shown}
use Rattle.sqlite_tied.specs.Compute.{everything}
use Rattle.zeb_register.proofs.StatementForms.{Condition, equals, reading, alone, keyed_from, rising, shows, no_limit}
use Rattle.zeb_register.proofs.ValueKinds.{IsPlainTable, HasKeys}
use Rattle.zeb_register.proofs.Writes.{deletes, inserts, loses, gains}
use Rattle.zeb_register.proofs.PrefixSelects.{lists_rest}
use Rattle.zeb_register.proofs.Refusals.{IsQuery}

abbrev pub postings : Table
postings = record postings_table { tree = 7 }

pub postings_static : IsPlainTable store_schema 3 postings
postings_static = record { there = refl; whole = refl; free = λ olds news. refl; uncounted = refl; unstamped = refl }

-- ---- the same of the tables of packed registers

abbrev pub blocks : Table
blocks = record blocks_table { tree = 9 }

pub blocks_static : IsPlainTable store_schema 4 blocks
blocks_static = record { there = refl; whole = refl; free = λ olds news. refl; uncounted = refl; unstamped = refl }

abbrev pub dict : Table
dict = record dict_table { tree = 11 }

pub dict_static : IsPlainTable store_schema 5 dict
dict_static = record { there = refl; whole = refl; free = λ olds news. refl; uncounted = refl; unstamped = refl }

-- ---- INSERT

abbrev pub put_text : List ℕ
put_text = PUT.now

abbrev put_terms : List Term
put_terms = lit Null ∷ col 0 0 ∷ col 0 1 ∷ col 0 2 ∷ col 0 3 ∷ col 0 4 ∷ col 0 5 ∷ col 0 6 ∷ []

put_is : command_of (understood store_schema put_text) ≡ Insert 3 (Values put_terms 8)
unfolding understood everything
put_is = refl

put_plain : IsPlain (understood store_schema put_text)
unfolding understood everything
put_plain = (refl, refl)

pub puts : (db idx reg : ℤ) (term : List ℕ) (sysno seq place : ℤ) (old new : State) (count : ℕ) → IsStore old → Executes put_text (whole_posting_row db idx reg term sysno seq place) old new (Ok count)
    → Changes postings_tree (Gains (whole_posting_row db idx reg term sysno seq place)) old new
puts db idx reg term sysno seq place old new count store ran =
    let row = whole_posting_row db idx reg term sysno seq place in
    gains store_schema 7 old new row (inserts store_schema 3 postings postings_static put_text row put_terms 8 row put_is put_plain refl refl old new count store ran).0

pub postings_keys : HasKeys store_schema postings ((1 ∷ 2 ∷ 3 ∷ 4 ∷ 5 ∷ 6 ∷ 7 ∷ []) ∷ [])
postings_keys = record { are = λ r new. refl; comparable = refl }

-- ---- SELECT

abbrev pub key_text : List ℕ
key_text = UNDER_TERM.now

abbrev places : List ℕ
places = 5 ∷ 6 ∷ 7 ∷ []

abbrev key_names : List (List ℕ)
key_names = codes "sysno" ∷ codes "seq" ∷ codes "pos" ∷ []

pub key_query : (db idx reg : ℤ) (term : List ℕ) → IsQuery key_text (key_of db idx reg term) 7 (keyed_from 1 0 4) (shows places) (rising places) no_limit key_names
unfolding understood everything
key_query db idx reg term = record { is = refl; plain = (refl, refl); unlisted = refl; silent = λ schema base. refl; whole = (omega arith, refl); fit = λ trees mistyped. absurd (let t : true ≡ false = mistyped in cc) }

pub lists_key : (db idx reg : ℤ) (term : List ℕ) (old new : State) (rows : List Row) → IsStore old → Shown key_text (key_of db idx reg term) old new rows
    → IsListOf (IsRest postings_tree (key_of db idx reg term) old.now.trees) rows
lists_key db idx reg term = lists_rest 3 postings postings_static _ postings_keys key_text (key_of db idx reg term) 3 places key_names (key_query db idx reg term) refl refl refl refl (λ r s lower. lower)

abbrev pub spot_text : List ℕ
spot_text = UNDER_NUMBER.now

abbrev spots : List ℕ
spots = 6 ∷ 7 ∷ []

pub spot_query : (db idx reg : ℤ) (term : List ℕ) (sysno : ℤ) → IsQuery spot_text (place_key db idx reg term sysno) 7 (keyed_from 1 0 5) (shows spots) (rising spots) no_limit (codes "seq" ∷ codes "pos" ∷ [])
unfolding understood everything
spot_query db idx reg term sysno = record { is = refl; plain = (refl, refl); unlisted = refl; silent = λ schema base. refl; whole = (omega arith, refl); fit = λ trees mistyped. absurd (let t : true ≡ false = mistyped in cc) }

pub lists_spots : (db idx reg : ℤ) (term : List ℕ) (sysno : ℤ) (old new : State) (rows : List Row) → IsStore old → Shown spot_text (place_key db idx reg term sysno) old new rows
    → IsListOf (IsRest postings_tree (place_key db idx reg term sysno) old.now.trees) rows
lists_spots db idx reg term sysno = lists_rest 3 postings postings_static _ postings_keys spot_text (place_key db idx reg term sysno) 2 spots _ (spot_query db idx reg term sysno) refl refl refl refl (λ r s lower. lower)

abbrev pub register_text : List ℕ
register_text = REGISTER.now

abbrev alls : List ℕ
alls = 4 ∷ 5 ∷ 6 ∷ 7 ∷ []

abbrev register_names : List (List ℕ)
register_names = codes "term" ∷ codes "sysno" ∷ codes "seq" ∷ codes "pos" ∷ []

pub register_query : (db idx reg : ℤ) → IsQuery register_text (Int db ∷ Int idx ∷ Int reg ∷ []) 7 (keyed_from 1 0 3) (shows alls) (rising alls) no_limit register_names
unfolding understood everything
register_query db idx reg = record { is = refl; plain = (refl, refl); unlisted = refl; silent = λ schema base. refl; whole = (omega arith, refl); fit = λ trees mistyped. absurd (let t : true ≡ false = mistyped in cc) }

pub lists_register : (db idx reg : ℤ) (old new : State) (rows : List Row) → IsStore old → Shown register_text (Int db ∷ Int idx ∷ Int reg ∷ []) old new rows
    → IsListOf (IsRest postings_tree (Int db ∷ Int idx ∷ Int reg ∷ []) old.now.trees) rows
lists_register db idx reg = lists_rest 3 postings postings_static _ postings_keys register_text (Int db ∷ Int idx ∷ Int reg ∷ []) 4 alls _ (register_query db idx reg) refl refl refl refl (λ r s lower. lower)

-- ---- DELETE of a record's places

abbrev pub lift_text : List ℕ
lift_text = TAKE.now

abbrev lift_wheres : List Condition
lift_wheres = equals 1 0 ∷ equals 2 1 ∷ equals 3 2 ∷ equals 4 3 ∷ equals 5 4 ∷ []

lift_is : command_of (understood store_schema lift_text) ≡ Delete 3 (alone (reading 7 lift_wheres (shows (0 ∷ [])) [] no_limit))
unfolding understood everything
lift_is = refl

lift_plain : IsPlain (understood store_schema lift_text)
unfolding understood everything
lift_plain = (refl, refl)

pub lifts : (db idx reg : ℤ) (term : List ℕ) (sysno : ℤ) (old new : State) (count : ℕ) → IsStore old → Executes lift_text (place_key db idx reg term sysno) old new (Ok count)
    → Changes postings_tree (Loses (IsNumberedRow db idx reg term sysno)) old new
lifts db idx reg term sysno old new count store ran =
    loses store_schema 7 old new (place_key db idx reg term sysno) lift_wheres (IsNumberedRow db idx reg term sysno) (λ id columns. (
      λ m. (m.0, m.1.0, m.1.1.0, m.1.1.1.0, m.1.1.1.1.0),
      λ p. (p.0, (p.1, (p.2, (p.3, (p.4, tt))))),
    )) (deletes store_schema 3 postings postings_static lift_text (place_key db idx reg term sysno) lift_wheres lift_is lift_plain refl old new count store ran)

pub blocks_keys : HasKeys store_schema blocks ((1 ∷ 2 ∷ 3 ∷ 4 ∷ 5 ∷ []) ∷ [])
blocks_keys = record { are = λ r new. refl; comparable = refl }

pub dict_keys : HasKeys store_schema dict ((1 ∷ 2 ∷ 3 ∷ 4 ∷ []) ∷ [])
dict_keys = record { are = λ r new. refl; comparable = refl }

abbrev pub register_of : ℤ → ℤ → ℤ → Row
register_of db idx reg = Int db ∷ Int idx ∷ Int reg ∷ []
