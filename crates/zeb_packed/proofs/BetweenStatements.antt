-- The statements that list rows of the terms from one text to another, each with what it is compiled to.
use Rattle.zeb_packed.proofs.Cited.{◌≡◌, ℕ, ℤ, true, false, arith, List, [], ◌∷◌, ◌++◌, codes, refl, sym, subst, Ordering, Less, Equal, Greater, ordering_then, Text, Row, column, State, Shown, Select, reads_listing, IsPlain, command_of, IsRestBetween, IsListOf, IsStore, blocks_tree, store_schema, IsSilent, blocks_keys, register_of, blocks, blocks_static, IsAfter, lists_after, IsFit, IsReasonedQuery, IsWhole, why_refused, list_so, alone, keyed_from, no_limit, reading, rising, shows, between, more, value_cmp}
use Rattle.sqlite.specs.Listing.{understood}
use Rattle.sqlite_tied.specs.Compute.{everything}

-- what is lower by two columns is lower by these and more
two_lower : (a b c : Ordering) → ordering_then a (ordering_then b Equal) ≡ Less → ordering_then a (ordering_then b c) ≡ Less
two_lower Less b c lower = refl
two_lower Greater b c lower = absurd (cc)
two_lower Equal Less c lower = refl
two_lower Equal Equal c lower = absurd (cc)
two_lower Equal Greater c lower = absurd (cc)

-- ---- blocks

abbrev pub blocks_text : List ℕ
blocks_text = codes "SELECT term, block, data FROM blocks WHERE db = ?1 AND idx = ?2 AND reg = ?3 AND term >= ?4 AND term < ?5 ORDER BY term, block"

abbrev blocks_shown : List ℕ
blocks_shown = 4 ∷ 5 ∷ 6 ∷ []

abbrev blocks_order : List ℕ
blocks_order = 4 ∷ 5 ∷ []

abbrev blocks_names : List (List ℕ)
blocks_names = codes "term" ∷ codes "block" ∷ codes "data" ∷ []

blocks_is : command_of (understood store_schema blocks_text) ≡ Select (alone (reading 9 (keyed_from 1 0 3 ++ more) (shows blocks_shown) blocks_order no_limit)) blocks_names
unfolding understood everything
blocks_is = refl

blocks_plain : IsPlain (understood store_schema blocks_text) × (reads_listing store_schema blocks_text ≡ false)
unfolding understood everything
blocks_plain = ((refl, refl), refl)

pub blocks_silent : IsSilent blocks_text
unfolding everything
blocks_silent = λ schema base. refl

blocks_whole : IsWhole blocks_text 5 (understood store_schema blocks_text)
unfolding understood everything
blocks_whole = (omega arith, refl)

blocks_fit : (db idx reg : ℤ) (first end : List ℕ) → IsFit (alone (reading 9 (keyed_from 1 0 3 ++ more) (shows blocks_shown) blocks_order no_limit)) (between db idx reg first end)
unfolding everything
blocks_fit db idx reg first end trees mistyped = absurd (let t : true ≡ false = mistyped in cc)

pub blocks_refused : (db idx reg : ℤ) (first end : List ℕ) → IsReasonedQuery blocks_text (between db idx reg first end)
blocks_refused db idx reg first end old new e store told failed =
    why_refused blocks_text (between db idx reg first end) 9 (keyed_from 1 0 3 ++ more) (shows blocks_shown) (rising blocks_order) no_limit blocks_names blocks_is blocks_plain.0 blocks_plain.1 blocks_whole (blocks_fit db idx reg first end) old new store e told failed

pub lists_blocks : (db idx reg : ℤ) (first end : List ℕ) (old new : State) (rows : List Row) → IsStore old → Shown blocks_text (between db idx reg first end) old new rows
    → IsListOf (IsRestBetween blocks_tree (register_of db idx reg) first end old.now.trees) rows
lists_blocks db idx reg first end old new rows store shown =
    let key = register_of db idx reg in
    let rest = Text first ∷ Text end ∷ [] in
    let P = IsAfter (old.now.trees 9) key rest more in
    let got = lists_after store_schema 4 blocks blocks_static _ blocks_keys blocks_text key rest more 3 blocks_order no_limit blocks_names blocks_is blocks_plain.0 blocks_plain.1 refl refl refl refl
    (λ r s lower. two_lower (value_cmp (column r 4) (column s 4)) (value_cmp (column r 5) (column s 5)) _ lower) old new rows store shown in
    list_so P (IsRestBetween 9 key first end old.now.trees) rows (λ x. (λ h. ((h.0, h.1), h.2.0, h.2.1.0), λ h. (h.0.0, h.0.1, (h.1, (h.2, tt))))) (subst (IsListOf P) (sym got.2) got.1)
