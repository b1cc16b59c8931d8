-- A statement that lists leaves, the greatest first: the rows that it lists.
use Rattle.zeb_leaves.proofs.Cited.{Row, column, row_cmp, row_cmp_total, Has, all_has, ◌≡◌, ◌∙◌, ◌++◌, ◌∷◌, ℕ, ℤ, true, List, [], refl, sym, ap, subst, Ordering, Less, Equal, Greater, ordering_then, ordering_reverse, IsStore, State, Shown, store_schema, IsDatabase, value_cmp, Term, eval, value_cmp_total, reverse, reverse-reverse, list_any, falling_keys, known, leaf_names, leaf_places, term_order, two_lower, blocks, blocks_keys, blocks_static, register_of, IsAfter, after_key, IsQuery, has_reversed, reversed_rises, covered_some, ordering_tied, shares_alone, all_shown, reads, shows_each, shows_sorted, shown_places, Condition, alone, keyed_from, ordering, passes, reading_by, shows, IsListOf}
use Rattle.sqlite.specs.Command.TheVariants.{Select}
use Rattle.sqlite.specs.Query.{as_count, limited}
use Rattle.sqlite.proofs.Callers.{reads_as}
use Rattle.zeb_register.proofs.Cited.{has_got}
use Rattle.zeb_register.proofs.ValueKinds.{are_fit, codes_of, covers}
use Rattle.zeb_register.proofs.Writes.{codes_there, keyed_there, meets_there}

-- the columns of a row of `blocks` that no other has
abbrev leaf_keys : List (List ℕ)
leaf_keys = (1 ∷ 2 ∷ 3 ∷ 4 ∷ 5 ∷ []) ∷ []

-- a tie is one from either side
tied_back : (a b : Ordering) → ordering_then a (ordering_then b Equal) ≡ Equal → ordering_then (ordering_reverse a) (ordering_then (ordering_reverse b) Equal) ≡ Equal
tied_back Less b h = absurd (let e : Less ≡ Equal = h in cc)
tied_back Greater b h = absurd (let e : Greater ≡ Equal = h in cc)
tied_back Equal Less h = absurd (let e : Less ≡ Equal = h in cc)
tied_back Equal Greater h = absurd (let e : Greater ≡ Equal = h in cc)
tied_back Equal Equal h = refl

tied : (r s : Row) → ordering term_order s r ≡ Equal → ordering term_order r s ≡ Equal
tied r s tie =
    ap (λ o. ordering_then o (ordering_then (value_cmp (column r 5) (column s 5)) Equal)) (value_cmp_total.antisymm (column r 4) (column s 4))
    ∙ ap (λ o. ordering_then (ordering_reverse (value_cmp (column s 4) (column r 4))) (ordering_then o Equal)) (value_cmp_total.antisymm (column r 5) (column s 5))
    ∙ tied_back (value_cmp (column s 4) (column r 4)) (value_cmp (column s 5) (column r 5)) tie

module _ (old : State) (store : IsStore old) (db idx reg : ℤ) (rest : Row) (more : List Condition) where
  abbrev table : List Row
  table = old.now.trees 9

  abbrev params : Row
  params = register_of db idx reg ++ rest

  abbrev wheres : List Condition
  wheres = keyed_from 1 0 3 ++ more

  abbrev Found : Row → Type 0
  Found = IsAfter table (register_of db idx reg) rest more

  -- all that meet the conditions, and of these it shows so many
  pub falling_shown : are_fit blocks params wheres ≡ true → list_any (covers wheres term_order) leaf_keys ≡ true → (limit : Term) (text : List ℕ) → IsQuery text params 9 wheres (shows leaf_places) falling_keys limit leaf_names → (new : State) (rows : List Row) → Shown text params old new rows
      → (rising : List Row) × IsListOf Found rising × (rows ≡ limited (as_count (eval limit (params ∷ []))) (reverse rising))
  falling_shown fit covered limit text q new rows shown =
      let read = reads_as text params old new store_schema store.is (Select (alone (reading_by 9 wheres (shows leaf_places) falling_keys limit)) leaf_names) q.is q.plain q.unlisted rows shown in
      let answer = reads old.now 9 wheres (shows leaf_places) falling_keys limit params rows read in
      let each = shows_each table wheres (shows leaf_places) falling_keys limit params rows answer in
      let met = meets_there store_schema 4 blocks blocks_static old params wheres store fit in
      let sound = subst (λ t. IsDatabase (record { schema = t; trees = old.now.trees })) store.is store.sound in
      let keyed = keyed_there store_schema 4 blocks blocks_static old store in
      let int = λ (r : Row) (h : Has table r). all_has _ table r keyed.1 h in
      let codes = λ (r : Row) (h : Has table r). codes_there store_schema 4 blocks blocks_static old r store h in
      let apart = λ (r s : Row) (here : Has table r) (there : Has table s) (p : passes wheres params r ≡ true) (q : passes wheres params s ≡ true) (lower : _) (tie : ordering term_order s r ≡ Equal).
      shares_alone store_schema old.now.trees blocks leaf_keys sound (has_got store_schema.tables 4 blocks blocks_static.there) blocks_keys r s here there (int r here) (int s there) (codes r here) (codes s there)
      (covered_some params r s wheres term_order leaf_keys ((met r here).0 p) ((met s there).0 q) (ordering_tied (codes_of blocks) term_order r s (codes r here) (codes s there) refl (tied r s tie)) covered) lower in
      let all = all_shown table wheres (shows leaf_places) falling_keys limit params rows answer in
      let falls = shows_sorted table wheres (shows leaf_places) falling_keys limit params rows answer (λ x y. row_cmp y x) keyed.0 apart
      (λ r s lower. two_lower (value_cmp (column s 4) (column r 4)) (value_cmp (column s 5) (column r 5)) _ lower) in (
        reverse all,
        record {
          each = λ x. (
            λ h.
                let r = (each x).0 ((has_reversed all x).0 h) in
                (after_key table (register_of db idx reg) rest more 3 x (known old store)).0 (r.0, r.1, (met r.0 r.1).0 r.2, r.3 ∙ shown_places params r.0 leaf_places),
            λ h.
                let r = (after_key table (register_of db idx reg) rest more 3 x (known old store)).1 h in
                (has_reversed all x).1 ((each x).1 (r.0, r.1, (met r.0 r.1).1 r.2, r.3 ∙ sym (shown_places params r.0 leaf_places))),
          );
          rising = reversed_rises row_cmp_total all falls;
        },
        answer.shown ∙ ap (limited (as_count (eval limit (params ∷ [])))) (sym (reverse-reverse all)),
      )
