-- What a step of a search has met: the counts of a register's terms, and the keys of those that are asked for.
use Rattle.zeb_search.proofs.Cited.{◌≡◌, ◌↔◌, ◌∙◌, ◌++◌, ◌∷◌, [], ℕ, List, ap, inl, inr, subst, subst₂, sym, IsTrue, Trees, Has, has_left, has_right, Key, RegisterOf, TermCount, Format, key_in, Rise, Wanted, AreKeysIn, AreMet, HasMet, AreTaken, FoundKeys, IsAmong, IsWanted, NamesEntry, StandTogether, StandsWithin, counts_as}
use Rattle.zeb_search.proofs.RisingTexts.{back_rise, front_rise, one_rises}

-- ---- keys

module _ (of : RegisterOf) (wanted : Wanted) (format : Format) (trees : Trees) where
  -- the keys of the terms that are asked for
  pub keys_met : (terms : List TermCount) (found : FoundKeys) → (¬ NamesEntry wanted) → HasMet format trees of.db.0 of.index of.register wanted terms
      → AreTaken of.index of.register wanted terms found.keys.items → (IsTrue found.are_neighbours → StandTogether wanted terms) → AreMet format trees of wanted found
  keys_met terms found unnamed met taken together = record {
    are = record { rising = taken.rising met.rising; each = λ key there. let from = term_of key there in from.2.1 ∙ ap (key_in of.index of.register) (sym (its_term key there)) };
    asked = λ key there. subst (IsWanted wanted) (sym (its_term key there)) (term_of key there).2.0;
    met = inr (
      unnamed,
      record {
        counted = λ key there.
            let from = term_of key there in
            let it = met.of from.0 from.1 in
            (from.0.records, it.0, subst (λ (k : Key). counts_as format trees of.db.0 k from.0.records) (sym from.2.1) it.1);
        each = λ term asked. let it = met.each term asked in (it.0, it.1, λ has. let among = it.2 has in its_key term among (subst (IsWanted wanted) (sym among.2) asked));
        neighbours = λ is first last one two term within.
            let s = term_of first one in
            let t = term_of last two in
            let moved : StandsWithin s.0.term t.0.term term = subst₂ (λ a b. StandsWithin a b term) (its_term first one) (its_term last two) within in
            let it = met.whole s.0 t.0 s.1 t.1 term moved in (
              it.0,
              it.1,
              λ has.
                  let among = it.2 has in
                  its_key term among (together is s.0 t.0 among.0 s.1 t.1 among.1 s.2.0 t.2.0 (subst (StandsWithin s.0.term t.0.term) (sym among.2) moved)),
            );
      },
    );
  }
    where
      term_of : (key : Key) → Has found.keys.items key → (t : TermCount) × Has terms t × (IsWanted wanted t.term × (key ≡ key_in of.index of.register t.term))
      term_of key there = (taken.each key).0 there

      its_term : (key : Key) (there : Has found.keys.items key) → key.term ≡ (term_of key there).0.term
      its_term key there = ap (λ (k : Key). k.term) (term_of key there).2.1

      its_key : (term : List ℕ) (among : IsAmong terms term) → IsWanted wanted among.0.term → Has found.keys.items (key_in of.index of.register term)
      its_key term among asked = (taken.each (key_in of.index of.register term)).1 (among.0, among.1, (asked, ap (key_in of.index of.register) (sym among.2)))

  -- the key of the one entry that is asked for
  pub named_met : (found : FoundKeys) (text : List ℕ) → NamesEntry wanted → ((term : List ℕ) → IsWanted wanted term ↔ (term ≡ text)) → found.keys.items ≡ key_in of.index of.register text ∷ []
      → ¬ IsTrue found.are_neighbours → AreMet format trees of wanted found
  named_met found text named one is alone = record {
    are = subst (AreKeysIn of) (sym is) (record {
      rising = one_rises (λ (key : Key). key.term) (key_in of.index of.register text);
      each = λ key there. its_own key (only key there);
    });
    asked = λ key there. (one key.term).1 (ap (λ (k : Key). k.term) (only key (subst (λ (l : List Key). Has l key) is there)));
    met = inl (named, record { each = λ term asked. subst (λ (l : List Key). Has l (key_in of.index of.register term)) (sym is) (inl (ap (key_in of.index of.register) ((one term).0 asked))); alone = alone });
  }
    where
      only : (key : Key) → Has (key_in of.index of.register text ∷ []) key → key ≡ key_in of.index of.register text
      only key there = elim there [ inl same ↦ same | inr none ↦ absurd none ]

      its_own : (key : Key) → key ≡ key_in of.index of.register text → key ≡ key_in of.index of.register key.term
      its_own key same = same ∙ ap (key_in of.index of.register) (sym (ap (λ (k : Key). k.term) same))

-- a part of such keys
pub part_in_order : (of : RegisterOf) (keys done run behind : List Key) → keys ≡ done ++ (run ++ behind) → AreKeysIn of keys → AreKeysIn of run
part_in_order of keys done run behind whole are = record {
  rising = front_rise (λ (key : Key). key.term) run behind (back_rise (λ (key : Key). key.term) done (run ++ behind) (subst (Rise (λ (key : Key). key.term)) whole are.rising));
  each = λ key here. are.each key (subst (λ (l : List Key). Has l key) (sym whole) (has_right done (run ++ behind) key (has_left run behind key here)));
}
