-- The terms that a step of a search asks for.
use Rattle.zeb_search.proofs.Cited.{◌≡◌, ◌↔◌, ◌∙◌, ◌<◌, ◌^◌, ℕ, List, [], ◌∷◌, ◌++◌, arith, get_or, sym, ap, subst, subst₂, inl, inr, IsUtf8, chars, encode_utf8_all, Contains, get_or-map, length-map, encodes-chars, Relation, number_key, Matches, Symbol, Char, Star, literal, literal-same, same-literal, keys_order, Register, Key, numbers_apart, TermCount, key_in, Precedes, Stands, HasNoStar, Fits, IsNumberAt, Wanted, AreTaken, IsWanted}
use Rattle.zeb_search.proofs.Comparisons.{tied_back}
use Rattle.zeb_search.proofs.GatheredLists.{gathers_more, gathers_none, gathers_past}
use Rattle.zeb_search.proofs.RisingTexts.{before_last_text, front_rise, joined_rise, none_rises, one_rises}

pub same_number : (m n : ℕ) → m < 10 ^ 18 → n < 10 ^ 18 → number_key m ≡ number_key n → m ≡ n
same_number m n m_small n_small same = numbers_apart m n (sym (keys_order m n m_small n_small) ∙ tied_back (number_key m) (number_key n) same)

-- a key of a number is asked for where its number is
pub number_taken : (relation : Relation) (number value : ℕ) (term : List ℕ) (P : Type 0) → value < 10 ^ 18 → term ≡ number_key value → (P ↔ Stands relation value number) → P ↔ IsNumberAt relation number term
number_taken relation number value term P small is both = (
  λ p. (value, small, is, both.0 p),
  λ at. both.1 (subst (λ n. Stands relation n number) (same_number at.0 value at.1 small (sym at.2 ∙ is)) at.3),
)

-- a pattern without a star fits its own text alone
pub literal_wanted : (pattern : List Symbol) (text : List ℕ) → IsUtf8 text → pattern ≡ literal (chars text) → (term : List ℕ) → Fits pattern term ↔ (term ≡ text)
literal_wanted pattern text utf8 is term = (
  λ fits. sym (encodes-chars term fits.0) ∙ ap encode_utf8_all (literal-same (chars text) (chars term) (subst (λ p. Matches p (chars term)) is fits.1)) ∙ encodes-chars text utf8,
  λ same. (subst IsUtf8 (sym same) utf8, subst (λ p. Matches p (chars term)) (sym is) (same-literal (chars text) (chars term) (ap chars same))),
)

-- a text has no star
pub literal_plain : (pattern : List Symbol) (text : List ℕ) → pattern ≡ literal text → HasNoStar pattern
literal_plain pattern text is has =
    let there : Contains (literal text) Star = subst (λ (p : List Symbol). Contains p Star) is has in
    let char : Char (get_or text there.0 0) ≡ Star = sym (get_or-map Char text there.0 0 Star (omega (arith, there.1, length-map text Char))) ∙ there.2 in
    cc

-- the keys that are taken of terms, term by term
module _ (index : ℕ) (register : Register) (wanted : Wanted) where
  abbrev Gives : TermCount → Key → Type 0
  Gives t key = IsWanted wanted t.term × (key ≡ key_in index register t.term)

  pub none_taken : AreTaken index register wanted [] []
  none_taken = record { each = gathers_none Gives; rising = λ up. none_rises (λ (key : Key). key.term) }

  module _ (terms : List TermCount) (keys : List Key) (t : TermCount) where
    pub one_taken : IsWanted wanted t.term → AreTaken index register wanted terms keys → AreTaken index register wanted (terms ++ t ∷ []) (keys ++ key_in index register t.term ∷ [])
    one_taken asked taken =
        let key = key_in index register t.term in
        record {
          each = gathers_more Gives terms keys t (key ∷ []) taken.each (λ k. (λ h. elim h [ inl same ↦ (asked, same) | inr none ↦ absurd none ], λ gives. inl gives.1));
          rising = λ up. joined_rise (λ (k : Key). k.term) keys (key ∷ []) (taken.rising (front_rise (λ (s : TermCount). s.term) terms (t ∷ []) up)) (one_rises (λ (k : Key). k.term) key) (λ k last here there.
              let from = (taken.each k).0 here in
              let of : k.term ≡ from.0.term = ap (λ (x : Key). x.term) from.2.1 in
              let at : last.term ≡ t.term = elim there [ inl same ↦ ap (λ (x : Key). x.term) same | inr none ↦ absurd none ] in
              subst₂ Precedes (sym of) (sym at) (before_last_text (λ (s : TermCount). s.term) terms t up from.0 from.1));
        }

    pub one_left : ¬ IsWanted wanted t.term → AreTaken index register wanted terms keys → AreTaken index register wanted (terms ++ t ∷ []) keys
    one_left never taken = record {
      each = gathers_past Gives terms keys t taken.each (λ k gives. never gives.0);
      rising = λ up. taken.rising (front_rise (λ (s : TermCount). s.term) terms (t ∷ []) up);
    }
