-- Each register that is held in leaves has a list of its terms: they are among those of the entries of its leaves.
use Rattle.zeb_register.proofs.Cited.{Row, column, Trees, Int, Real, Null, Text, Blob, Has, has_left, has_right, mapped_has, ◌≡◌, ◌∙◌, ◌++◌, ◌∷◌, ◌/◌, ℕ, ℤ, pos, List, [], map, refl, sym, ap, subst, inl, inr, Key, Content, TermCount, Register, posted, part_in, register_front, blocks_tree, AreTermsOf, key_in, Entry, ShowsEntries, HoldsLeaves, IsLeafAlone, IsLeafOf}
use Rattle.zeb_register.proofs.OccurringLemmas.{key_posted}
use Rattle.zeb_register.proofs.PackedLemmas.{in_part, not_empty}
use Rattle.zeb_register.proofs.TermsAmong.{terms_among}
use Rattle.zeb_register.proofs.LeafReadings.{one_shown}
use Rattle.zeb_register.proofs.LeafSums.{leaf_there}

abbrev term_of : Entry → List ℕ
term_of e = e.term

module _ (trees : Trees) (content : Content) (holds : HoldsLeaves trees content) where
  -- the terms are those of entries that the row shows, and maybe more
  abbrev Among : Row → List (List ℕ) → Type 0
  Among row among = (id : ℤ) (db : ℤ) (key : Key) (leaf : Row) → row ≡ Int id ∷ (register_front db key.index key.register ++ leaf)
      → (entries : List Entry) → ShowsEntries leaf entries → (e : Entry) → Has entries e → Has among e.term

  row_terms : (row : Row) → Has (trees blocks_tree) row → (among : List (List ℕ)) × Among row among
  row_terms [] here = ([], λ id db key leaf is. absurd (cc))
  row_terms (Int n ∷ columns) here =
      let it = holds.alone.blocks columns (n, here) in
      let key : Key = it.1 in
      let own : Row = Text key.term ∷ Int (pos it.2) ∷ Blob it.3 ∷ [] in
      let alone : IsLeafAlone (IsLeafOf trees it.0 key) own = holds.alone.leaves it.0 key own ((n, subst (λ (r : Row). Has (trees blocks_tree) (Int n ∷ r)) it.4 here), it.2, refl) in (
        map term_of alone.entries,
        λ id db other leaf is entries shows e in_it.
            let bytes : column leaf 2 ≡ Blob it.3 = ap (λ (r : Row). column r 6) (sym is) ∙ ap (λ (r : Row). column r 5) it.4 in
            let term : column leaf 0 ≡ Text key.term = ap (λ (r : Row). column r 4) (sym is) ∙ ap (λ (r : Row). column r 3) it.4 in
            let also : ShowsEntries own entries = (shows.0, sym bytes ∙ shows.1, shows.2, record { term = shows.3.term; is = sym term ∙ shows.3.is; text = shows.3.text }) in
            let same = one_shown own entries alone.entries also alone.shown in
            mapped_has term_of alone.entries e (subst (λ (l : List Entry). Has l e) same in_it),
      )
  row_terms (Null ∷ columns) here = ([], λ id db key leaf is. absurd (cc))
  row_terms (Real x ∷ columns) here = ([], λ id db key leaf is. absurd (cc))
  row_terms (Text t ∷ columns) here = ([], λ id db key leaf is. absurd (cc))
  row_terms (Blob b ∷ columns) here = ([], λ id db key leaf is. absurd (cc))

  all_terms : (rows : List Row) → ((row : Row) → Has rows row → Has (trees blocks_tree) row) → (among : List (List ℕ)) × ((row : Row) → Has rows row → Among row among)
  all_terms [] known = ([], λ row here. absurd here)
  all_terms (row ∷ rows) known =
      let first = row_terms row (known row (inl refl)) in
      let rest = all_terms rows (λ r h. known r (inr h)) in (
        first.0 ++ rest.0,
        λ r here id db key leaf is entries shows e in_it. elim here [
          | inl same ↦ has_left first.0 rest.0 e.term (first.1 id db key leaf (sym same ∙ is) entries shows e in_it)
          | inr later ↦ has_right first.0 rest.0 e.term (rest.1 r later id db key leaf is entries shows e in_it)
        ],
      )

  leaf_among : (among : List (List ℕ)) → ((row : Row) → Has (trees blocks_tree) row → Among row among) → (db : ℤ) (key : Key) (leaf : Row) → IsLeafOf trees db key leaf
      → (entries : List Entry) → ShowsEntries leaf entries → (e : Entry) → Has entries e → Has among e.term
  leaf_among among known db key leaf there = known _ there.0.1 there.0.0 db key leaf refl

  pub leaves_have_terms : (db : ℤ) (index : ℕ) (register : Register) → (terms : List TermCount) × AreTermsOf (posted content db) index register terms
  leaves_have_terms db index register = terms_among content db index register all.0 (λ term n in_it.
      let key : Key = key_in index register term in
      let p = (key_posted content db key n).0 in_it in
      let block = p.0.sysno / 256 in
      let reads = holds.reads db key block in
      let e = reads.2.there (not_empty (part_in block (content db key)) p.0 (in_part block (content db key) p.0 p.1 refl)) in
      let leaf = leaf_there (IsLeafOf trees db key) _ reads.0 e.0 e.1 reads.1 in
      subst (Has all.0) e.2.0 (leaf_among all.0 all.1 db key leaf.0 leaf.1.is reads.0 (reads.1.shown leaf.0 leaf.1) e.0 e.1))
    where
      all : (among : List (List ℕ)) × ((row : Row) → Has (trees blocks_tree) row → Among row among)
      all = all_terms (trees blocks_tree) (λ row here. here)
