-- The statements on one row of the packed tables, each with what it is compiled to.
use Rattle.zeb_packed.proofs.Cited.{◌≡◌, ◌∙◌, ℕ, ℤ, false, List, [], ◌∷◌, ap, ap₂, codes, drop, inl, inr, refl, sym, subst, Ok, Value, Null, Int, Text, Blob, Row, State, Executes, Shown, Select, Delete, Insert, Update, Values, Term, lit, col, reads_listing, IsPlain, command_of, block_columns, block_key, dict_columns, IsNumberedRow, IsRowOf, Gains, Renews, IsListOf, Loses, Changes, IsRest, IsStore, blocks_tree, dict_tree, key_of, store_schema, IsSilent, blocks_keys, dict_keys, blocks, blocks_static, dict, dict_static, IsAfter, lists_after, list_so, Condition, alone, equals, keyed_from, no_limit, reading, shows, RemakesRows, changed_so, deletes, gains, inserts, loses, updates}
use Rattle.sqlite.specs.Listing.{understood}
use Rattle.sqlite_tied.specs.Compute.{everything}

-- ---- SELECT

abbrev pub block_text : List ℕ
block_text = codes "SELECT data FROM blocks WHERE db = ?1 AND idx = ?2 AND reg = ?3 AND term = ?4 AND block = ?5"

block_is : command_of (understood store_schema block_text) ≡ Select (alone (reading 9 (keyed_from 1 0 5) (shows (6 ∷ [])) [] no_limit)) (codes "data" ∷ [])
unfolding understood everything
block_is = refl

block_plain : IsPlain (understood store_schema block_text) × (reads_listing store_schema block_text ≡ false)
unfolding understood everything
block_plain = ((refl, refl), refl)

pub block_silent : IsSilent block_text
unfolding everything
block_silent = λ schema base. refl

pub lists_block : (db idx reg : ℤ) (term : List ℕ) (block : ℤ) (old new : State) (rows : List Row) → IsStore old → Shown block_text (block_key db idx reg term block) old new rows
    → IsListOf (IsRest blocks_tree (block_key db idx reg term block) old.now.trees) rows
lists_block db idx reg term block old new rows store shown =
    let key = block_key db idx reg term block in
    let P = IsAfter (old.now.trees 9) key [] [] in
    let got = lists_after store_schema 4 blocks blocks_static _ blocks_keys block_text key [] [] 1 [] no_limit _ block_is block_plain.0 block_plain.1 refl refl refl refl (λ r s lower. absurd cc) old new rows store shown in
    list_so P (IsRest 9 key old.now.trees) rows (λ x. (λ h. (h.0, h.1), λ h. (h.0, h.1, tt))) (subst (IsListOf P) (sym got.2) got.1)

abbrev pub records_text : List ℕ
records_text = codes "SELECT records FROM dict WHERE db = ?1 AND idx = ?2 AND reg = ?3 AND term = ?4"

records_is : command_of (understood store_schema records_text) ≡ Select (alone (reading 11 (keyed_from 1 0 4) (shows (5 ∷ [])) [] no_limit)) (codes "records" ∷ [])
unfolding understood everything
records_is = refl

records_plain : IsPlain (understood store_schema records_text) × (reads_listing store_schema records_text ≡ false)
unfolding understood everything
records_plain = ((refl, refl), refl)

pub records_silent : IsSilent records_text
unfolding everything
records_silent = λ schema base. refl

pub lists_records : (db idx reg : ℤ) (term : List ℕ) (old new : State) (rows : List Row) → IsStore old → Shown records_text (key_of db idx reg term) old new rows
    → IsListOf (IsRest dict_tree (key_of db idx reg term) old.now.trees) rows
lists_records db idx reg term old new rows store shown =
    let key = key_of db idx reg term in
    let P = IsAfter (old.now.trees 11) key [] [] in
    let got = lists_after store_schema 5 dict dict_static _ dict_keys records_text key [] [] 1 [] no_limit _ records_is records_plain.0 records_plain.1 refl refl refl refl (λ r s lower. absurd cc) old new rows store shown in
    list_so P (IsRest 11 key old.now.trees) rows (λ x. (λ h. (h.0, h.1), λ h. (h.0, h.1, tt))) (subst (IsListOf P) (sym got.2) got.1)

-- ---- INSERT

abbrev pub add_block_text : List ℕ
add_block_text = codes "INSERT INTO blocks VALUES (?1, ?2, ?3, ?4, ?5, ?6)"

abbrev pub add_block_terms : List Term
add_block_terms = lit Null ∷ col 0 0 ∷ col 0 1 ∷ col 0 2 ∷ col 0 3 ∷ col 0 4 ∷ col 0 5 ∷ []

pub add_block_is : command_of (understood store_schema add_block_text) ≡ Insert 4 (Values add_block_terms 7)
unfolding understood everything
add_block_is = refl

pub add_block_plain : IsPlain (understood store_schema add_block_text)
unfolding understood everything
add_block_plain = (refl, refl)

pub adds_block : (db idx reg : ℤ) (term : List ℕ) (block : ℤ) (bytes : List ℕ) (old new : State) (count : ℕ) → IsStore old → Executes add_block_text (block_columns db idx reg term block bytes) old new (Ok count)
    → Changes blocks_tree (Gains (block_columns db idx reg term block bytes)) old new
adds_block db idx reg term block bytes old new count store ran =
    let row = block_columns db idx reg term block bytes in
    gains store_schema 9 old new row (inserts store_schema 4 blocks blocks_static add_block_text row add_block_terms 7 row add_block_is add_block_plain refl refl old new count store ran).0

abbrev pub add_dict_text : List ℕ
add_dict_text = codes "INSERT INTO dict VALUES (?1, ?2, ?3, ?4, ?5)"

abbrev add_dict_terms : List Term
add_dict_terms = lit Null ∷ col 0 0 ∷ col 0 1 ∷ col 0 2 ∷ col 0 3 ∷ col 0 4 ∷ []

add_dict_is : command_of (understood store_schema add_dict_text) ≡ Insert 5 (Values add_dict_terms 6)
unfolding understood everything
add_dict_is = refl

add_dict_plain : IsPlain (understood store_schema add_dict_text)
unfolding understood everything
add_dict_plain = (refl, refl)

pub adds_dict : (db idx reg : ℤ) (term : List ℕ) (records : ℤ) (old new : State) (count : ℕ) → IsStore old → Executes add_dict_text (dict_columns db idx reg term records) old new (Ok count)
    → Changes dict_tree (Gains (dict_columns db idx reg term records)) old new
adds_dict db idx reg term records old new count store ran =
    let row = dict_columns db idx reg term records in
    gains store_schema 11 old new row (inserts store_schema 5 dict dict_static add_dict_text row add_dict_terms 6 row add_dict_is add_dict_plain refl refl old new count store ran).0

-- ---- DELETE

abbrev pub remove_block_text : List ℕ
remove_block_text = codes "DELETE FROM blocks WHERE db = ?1 AND idx = ?2 AND reg = ?3 AND term = ?4 AND block = ?5"

abbrev block_wheres : List Condition
block_wheres = equals 1 0 ∷ equals 2 1 ∷ equals 3 2 ∷ equals 4 3 ∷ equals 5 4 ∷ []

remove_block_is : command_of (understood store_schema remove_block_text) ≡ Delete 4 (alone (reading 9 block_wheres (shows (0 ∷ [])) [] no_limit))
unfolding understood everything
remove_block_is = refl

remove_block_plain : IsPlain (understood store_schema remove_block_text)
unfolding understood everything
remove_block_plain = (refl, refl)

pub removes_block : (db idx reg : ℤ) (term : List ℕ) (block : ℤ) (old new : State) (count : ℕ) → IsStore old → Executes remove_block_text (block_key db idx reg term block) old new (Ok count)
    → Changes blocks_tree (Loses (IsNumberedRow db idx reg term block)) old new
removes_block db idx reg term block old new count store ran =
    let key = block_key db idx reg term block in
    loses store_schema 9 old new key block_wheres (IsNumberedRow db idx reg term block) (λ id columns. (
      λ m. (m.0, m.1.0, m.1.1.0, m.1.1.1.0, m.1.1.1.1.0),
      λ m. (m.0, (m.1, (m.2, (m.3, (m.4, tt))))),
    )) (deletes store_schema 4 blocks blocks_static remove_block_text key block_wheres remove_block_is remove_block_plain refl old new count store ran)

abbrev pub remove_dict_text : List ℕ
remove_dict_text = codes "DELETE FROM dict WHERE db = ?1 AND idx = ?2 AND reg = ?3 AND term = ?4"

abbrev dict_wheres : List Condition
dict_wheres = equals 1 0 ∷ equals 2 1 ∷ equals 3 2 ∷ equals 4 3 ∷ []

remove_dict_is : command_of (understood store_schema remove_dict_text) ≡ Delete 5 (alone (reading 11 dict_wheres (shows (0 ∷ [])) [] no_limit))
unfolding understood everything
remove_dict_is = refl

remove_dict_plain : IsPlain (understood store_schema remove_dict_text)
unfolding understood everything
remove_dict_plain = (refl, refl)

pub removes_dict : (db idx reg : ℤ) (term : List ℕ) (old new : State) (count : ℕ) → IsStore old → Executes remove_dict_text (key_of db idx reg term) old new (Ok count)
    → Changes dict_tree (Loses (IsRowOf db idx reg term)) old new
removes_dict db idx reg term old new count store ran =
    let key = key_of db idx reg term in
    loses store_schema 11 old new key dict_wheres (IsRowOf db idx reg term) (λ id columns. (
      λ m. (m.0, m.1.0, m.1.1.0, m.1.1.1.0),
      λ m. (m.0, (m.1, (m.2, (m.3, tt)))),
    )) (deletes store_schema 5 dict dict_static remove_dict_text key dict_wheres remove_dict_is remove_dict_plain refl old new count store ran)

-- ---- UPDATE

abbrev pub set_block_text : List ℕ
set_block_text = codes "UPDATE blocks SET data = ?6 WHERE db = ?1 AND idx = ?2 AND reg = ?3 AND term = ?4 AND block = ?5"

abbrev set_block : List Term
set_block = col 1 1 ∷ col 1 2 ∷ col 1 3 ∷ col 1 4 ∷ col 1 5 ∷ col 0 5 ∷ []

set_block_is : command_of (understood store_schema set_block_text) ≡ Update 4 (alone (reading 9 block_wheres (col 1 0 ∷ col 1 0 ∷ set_block) [] no_limit))
unfolding understood everything
set_block_is = refl

set_block_plain : IsPlain (understood store_schema set_block_text)
unfolding understood everything
set_block_plain = (refl, refl)

five_shown : (db idx reg : ℤ) (term : List ℕ) (block : ℤ) (bytes : List ℕ) (one two three four five : Value) → one ≡ Int db → two ≡ Int idx → three ≡ Int reg → four ≡ Text term → five ≡ Int block
    → one ∷ two ∷ three ∷ four ∷ five ∷ Blob bytes ∷ [] ≡ block_columns db idx reg term block bytes
five_shown db idx reg term block bytes one two three four five a b c d e =
    ap₂ (λ x y. x ∷ y ∷ three ∷ four ∷ five ∷ Blob bytes ∷ []) a b ∙ ap₂ (λ x y. Int db ∷ Int idx ∷ x ∷ y ∷ five ∷ Blob bytes ∷ []) c d ∙ ap (λ x. Int db ∷ Int idx ∷ Int reg ∷ Text term ∷ x ∷ Blob bytes ∷ []) e

pub sets_block : (db idx reg : ℤ) (term : List ℕ) (block : ℤ) (bytes : List ℕ) (old new : State) (count : ℕ) → IsStore old → Executes set_block_text (block_columns db idx reg term block bytes) old new (Ok count)
    → Changes blocks_tree (Renews (IsNumberedRow db idx reg term block) (block_columns db idx reg term block bytes)) old new
sets_block db idx reg term block bytes old new count store ran =
    let row = block_columns db idx reg term block bytes in
    let done = updates store_schema 4 blocks blocks_static set_block_text row block_wheres (col 1 0) set_block set_block_is set_block_plain refl refl refl old new count store ran in
    changed_so store_schema 9 (RemakesRows block_wheres (col 1 0 ∷ set_block) row) (Renews (IsNumberedRow db idx reg term block) row) old new (λ each there columns. (
      λ h. elim ((each (Int h.0 ∷ columns)).0 h.1) [
        | inl kept ↦ inl ((h.0, kept.0), λ p. kept.1 (p.0, (p.1, (p.2, (p.3, (p.4, tt))))))
        | inr made ↦
            let m = made.2 in
            inr (ap (drop 1) made.3 ∙ five_shown db idx reg term block bytes _ _ _ _ _ m.0 m.1.0 m.1.1.0 m.1.1.1.0 m.1.1.1.1.0)
      ],
      λ h. elim h [
        | inl kept ↦ (kept.0.0, (each (Int kept.0.0 ∷ columns)).1 (inl (kept.0.1, λ m. kept.1 (m.0, m.1.0, m.1.1.0, m.1.1.1.0, m.1.1.1.1.0))))
        | inr same ↦
            let id = there.1.0 in
            let p = there.2 in
            let is = ap (λ c. Int id ∷ c) (same ∙ sym (five_shown db idx reg term block bytes _ _ _ _ _ p.0 p.1 p.2 p.3 p.4)) in
            (id, (each (Int id ∷ columns)).1 (inr (Int id ∷ there.0, there.1.1, (p.0, (p.1, (p.2, (p.3, (p.4, tt))))), is)))
      ],
    )) done

abbrev pub set_dict_text : List ℕ
set_dict_text = codes "UPDATE dict SET records = ?5 WHERE db = ?1 AND idx = ?2 AND reg = ?3 AND term = ?4"

abbrev set_dict : List Term
set_dict = col 1 1 ∷ col 1 2 ∷ col 1 3 ∷ col 1 4 ∷ col 0 4 ∷ []

set_dict_is : command_of (understood store_schema set_dict_text) ≡ Update 5 (alone (reading 11 dict_wheres (col 1 0 ∷ col 1 0 ∷ set_dict) [] no_limit))
unfolding understood everything
set_dict_is = refl

set_dict_plain : IsPlain (understood store_schema set_dict_text)
unfolding understood everything
set_dict_plain = (refl, refl)

four_shown : (db idx reg : ℤ) (term : List ℕ) (records : ℤ) (one two three four : Value) → one ≡ Int db → two ≡ Int idx → three ≡ Int reg → four ≡ Text term → one ∷ two ∷ three ∷ four ∷ Int records ∷ [] ≡ dict_columns db idx reg term records
four_shown db idx reg term records one two three four a b c d =
    ap₂ (λ x y. x ∷ y ∷ three ∷ four ∷ Int records ∷ []) a b ∙ ap₂ (λ x y. Int db ∷ Int idx ∷ x ∷ y ∷ Int records ∷ []) c d

pub sets_dict : (db idx reg : ℤ) (term : List ℕ) (records : ℤ) (old new : State) (count : ℕ) → IsStore old → Executes set_dict_text (dict_columns db idx reg term records) old new (Ok count)
    → Changes dict_tree (Renews (IsRowOf db idx reg term) (dict_columns db idx reg term records)) old new
sets_dict db idx reg term records old new count store ran =
    let row = dict_columns db idx reg term records in
    let done = updates store_schema 5 dict dict_static set_dict_text row dict_wheres (col 1 0) set_dict set_dict_is set_dict_plain refl refl refl old new count store ran in
    changed_so store_schema 11 (RemakesRows dict_wheres (col 1 0 ∷ set_dict) row) (Renews (IsRowOf db idx reg term) row) old new (λ each there columns. (
      λ h. elim ((each (Int h.0 ∷ columns)).0 h.1) [
        | inl kept ↦ inl ((h.0, kept.0), λ p. kept.1 (p.0, (p.1, (p.2, (p.3, tt)))))
        | inr made ↦
            let m = made.2 in
            inr (ap (drop 1) made.3 ∙ four_shown db idx reg term records _ _ _ _ m.0 m.1.0 m.1.1.0 m.1.1.1.0)
      ],
      λ h. elim h [
        | inl kept ↦ (kept.0.0, (each (Int kept.0.0 ∷ columns)).1 (inl (kept.0.1, λ m. kept.1 (m.0, m.1.0, m.1.1.0, m.1.1.1.0))))
        | inr same ↦
            let id = there.1.0 in
            let p = there.2 in
            let is = ap (λ c. Int id ∷ c) (same ∙ sym (four_shown db idx reg term records _ _ _ _ p.0 p.1 p.2 p.3)) in
            (id, (each (Int id ∷ columns)).1 (inr (Int id ∷ there.0, there.1.1, (p.0, (p.1, (p.2, (p.3, tt)))), is)))
      ],
    )) done
