-- Tables that hold a content in leaves, without the rows of one database.
use Rattle.zeb_register.proofs.Cited.{Row, Trees, Int, Has, ◌≡◌, ◌≢◌, ◌↔◌, ◌++◌, ◌∷◌, ℕ, ℤ, List, [], refl, sym, ap, subst, inl, inr, int_cmp_total, Key, Posting, Content, IsWithout, part_in, register_front, IsOfDatabase, Loses, blocks_tree, dict_tree, postings_tree, State, Changes, DropsRegisters, TakesDatabase, databases_tree, records_tree, ◌∙◌, arith, HoldsLeaves, IsLeafOf, LeavesReadBlock}
use Rattle.zeb_register.proofs.ContentChanges.{integers_apart, posting_total}
use Rattle.zeb_register.proofs.RisingLists.{same_list, told_by}
use Rattle.zeb_register.proofs.LeafContents.{leaves_stay, none_reads}
use Rattle.zeb_register.proofs.PlaceLemmas.{none_left}
use Rattle.zeb_register.proofs.SameLeaves.{alone_so, part_so}

module _ (db : ℤ) (old new : Trees) (before after : Content) (holds : HoldsLeaves old before) (without : IsWithout db before after) (lost : Loses (IsOfDatabase db) blocks_tree old new) where
  -- a leaf that is left is of another database, and was there
  other_database : (d : ℤ) (key : Key) (leaf : Row) → IsLeafOf new d key leaf → d ≢ db
  other_database d key leaf there same = ((lost (register_front d key.index key.register ++ leaf)).0 there.0).1 (ap Int same)

  left : (d : ℤ) (key : Key) → d ≢ db → (leaf : Row) → IsLeafOf old d key leaf ↔ IsLeafOf new d key leaf
  left d key other leaf = (
    λ there. ((lost (register_front d key.index key.register ++ leaf)).1 (there.0, λ taken. let e : Int d ≡ Int db = taken in other (let f : d ≡ db = cc in f)), there.1, there.2),
    λ there. (((lost (register_front d key.index key.register ++ leaf)).0 there.0).0, there.1, there.2),
  )

  list_left : (d : ℤ) (key : Key) → d ≢ db → before d key ≡ after d key
  list_left d key other = same_list posting_total (before d key) (after d key) (holds.rising d key) (without.rising d key) (λ p h. (without.left d key p).1 (h, other)) (λ p h. ((without.left d key p).0 h).0)

  list_taken : (d : ℤ) (key : Key) → d ≡ db → after d key ≡ []
  list_taken d key same = from (after d key) refl
    where
      from : (list : List Posting) → after d key ≡ list → after d key ≡ []
      from [] is = is
      from (p ∷ list) is = absurd (((without.left d key p).0 (subst (λ l. Has l p) (sym is) (inl refl))).1 same)

  reads_left : (d : ℤ) (key : Key) (block : ℕ) → LeavesReadBlock new d key block (part_in block (after d key))
  reads_left d key block = elim (told_by int_cmp_total integers_apart d db) [
    | inl same ↦ subst (λ l. LeavesReadBlock new d key block (part_in block l)) (sym (list_taken d key same)) (none_reads (IsLeafOf new d key) (λ leaf there. other_database d key leaf there same) key.term block)
    | inr other ↦ subst (λ l. LeavesReadBlock new d key block (part_in block l)) (list_left d key other) (part_so (IsLeafOf old d key) (IsLeafOf new d key) (left d key other) key.term block _ (holds.reads d key block))
  ]

  pub leaves_without : new postings_tree ≡ [] → new dict_tree ≡ [] → HoldsLeaves new after
  leaves_without no_postings no_dict = record {
    rising = without.rising;
    reads = reads_left;
    alone = record {
      blocks = λ row there. holds.alone.blocks row ((lost row).0 there).0;
      leaves = λ d key leaf there.
          let other = other_database d key leaf there in
          alone_so (IsLeafOf old d key) (IsLeafOf new d key) (left d key other) leaf (holds.alone.leaves d key leaf ((left d key other leaf).1 there));
      alone = (no_postings, no_dict);
    };
  }

-- and what a call leaves that takes a database out
pub leaves_dropped : (db : ℤ) (a b c d : State) → DropsRegisters db a b → Changes records_tree (Loses (IsOfDatabase db)) b c → Changes databases_tree (TakesDatabase db) c d
    → (before after : Content) → HoldsLeaves a.now.trees before → IsWithout db before after → HoldsLeaves d.now.trees after
leaves_dropped db a b c d one two three before after holds without =
    let same7 : d.now.trees 7 ≡ b.now.trees 7 = three.others.1.1.1.0 (λ e. absurd (omega (arith, e))) ∙ two.others.1.1.1.0 (λ e. absurd (omega (arith, e))) in
    let same9 : d.now.trees 9 ≡ b.now.trees 9 = three.others.1.1.1.1.0 (λ e. absurd (omega (arith, e))) ∙ two.others.1.1.1.1.0 (λ e. absurd (omega (arith, e))) in
    let same11 : d.now.trees 11 ≡ b.now.trees 11 = three.others.1.1.1.1.1.0 (λ e. absurd (omega (arith, e))) ∙ two.others.1.1.1.1.1.0 (λ e. absurd (omega (arith, e))) in
    let no_postings = none_left (IsOfDatabase db) postings_tree a.now.trees b.now.trees one.store.keyed.1.1.1.0 one.postings holds.alone.alone.0 in
    let no_dict = none_left (IsOfDatabase db) dict_tree a.now.trees b.now.trees one.store.keyed.1.1.1.1.1.0 one.dict holds.alone.alone.1 in
    leaves_stay b.now.trees d.now.trees after (same7, same9, same11) (leaves_without db a.now.trees b.now.trees before after holds without one.blocks no_postings no_dict)
