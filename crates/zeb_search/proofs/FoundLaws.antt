-- The keys that a step of a search has found, where the tables hold a content.
use Rattle.zeb_search.proofs.Cited.{ℕ, List, inl, inr, refl, Trees, Has, RegisterOf, Content, posted, Format, holds_in, TermIn, key_in, Wanted, AreFound, AreKeysOf, AreMet, FoundKeys, IsShownAmong, IsWanted, some_count, count_held}

module _ (format : Format) (trees : Trees) (of : RegisterOf) (wanted : Wanted) (found : FoundKeys) (met : AreMet format trees of wanted found) (content : Content) (holds : holds_in format trees content) where
  -- the key of an entry that some record has is there, where its count is shown with it
  among : (term : List ℕ) (n : ℕ) → TermIn (posted content of.db.0) of.index of.register term n → IsShownAmong format trees of wanted found term → Has found.keys.items (key_in of.index of.register term)
  among term n there it = it.2 (some_count (TermIn (posted content of.db.0) of.index of.register term) it.0 n (count_held format trees content holds of.db.0 (key_in of.index of.register term) it.0 it.1.0) there)

  pub keys_held : AreKeysOf (posted content of.db.0) of.index of.register (IsWanted wanted) found.keys.items
  keys_held = record {
    rising = met.are.rising;
    each = λ key here. (met.are.each key here, met.asked key here);
    all = λ term n there asked. elim met.met [ inl name ↦ name.1.each term asked | inr counts ↦ among term n there (counts.1.each term asked) ];
  }

  pub found_held : AreFound content of found
  found_held = record {
    rising = met.are.rising;
    each = met.are.each;
    neighbours = λ is first last one two term p within here. elim met.met [
      | inl name ↦ absurd (name.1.alone is)
      | inr counts ↦ among term p.sysno (record { key = key_in of.index of.register term; seq = p.seq; pos = p.pos }, here, refl) (counts.1.neighbours is first last one two term within)
    ];
  }
