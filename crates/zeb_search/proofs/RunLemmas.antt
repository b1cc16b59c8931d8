-- Keys that were found, read run by run.
use Rattle.zeb_search.proofs.Cited.{◌≡◌, ◌≤◌, ◌++◌, ℕ, IsTrue, List, length, inl, inr, subst, sym, Has, has_either, has_left, has_right, Key, RegisterOf, Content, key_in, FoundKeys, Rise, AreFound, AreRun}
use Rattle.zeb_search.proofs.RisingTexts.{back_rise, before_behind, front_rise}

abbrev text : Key → List ℕ
text key = key.term

module _ (content : Content) (of : RegisterOf) (found : FoundKeys) (done run behind : List Key) (whole : found.keys.items ≡ done ++ (run ++ behind)) (joined : 2 ≤ length run → IsTrue found.are_neighbours) (are : AreFound content of found) where
  rising : Rise text (done ++ (run ++ behind))
  rising = subst (Rise text) whole are.rising

  in_whole : (key : Key) → Has run key → Has found.keys.items key
  in_whole key here = subst (λ (l : List Key). Has l key) (sym whole) (has_right done (run ++ behind) key (has_left run behind key here))

  -- keys that stand next to each other among those that were found
  pub part_run : AreRun content of run
  part_run = record {
    rising = front_rise text run behind (back_rise text done (run ++ behind) rising);
    each = λ key here. are.each key (in_whole key here);
    neighbours = λ many first last one two term p within here.
        let key = key_in of.index of.register term in
        elim (has_either done (run ++ behind) key (subst (λ (l : List Key). Has l key) whole (are.neighbours (joined many) first last (in_whole first one) (in_whole last two) term p within here))) [
          | inl before ↦ absurd (within.0 (before_behind text done (run ++ behind) rising key first before (has_left run behind first one)))
          | inr rest ↦ elim (has_either run behind key rest) [
            | inl inside ↦ inside
            | inr later ↦ absurd (within.1 (before_behind text run behind (back_rise text done (run ++ behind) rising) last key two later))
          ]
        ];
  }
