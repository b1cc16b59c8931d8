-- Where the entries that are asked for begin and end, in the order of their bytes.
use Rattle.zeb_search.proofs.Cited.{◌≡◌, ◌⊎◌, ◌∙◌, ◌<◌, ◌≤◌, ◌^◌, ◌++◌, ℕ, min, Bool, true, false, not, IsTrue, MatchBool, None, List, [], ◌∷◌, sym, subst, inl, inr, arith, Ordering, IsUtf8, chars, encode_utf8_all, append-nil, FindsTextPrefix, HasPrefixMatch, nat_cmp, is_ge, slice_cmp, number_key, Matches, Symbol, Star, literal, keys_order, after_literal, cut_bytes, literal-same, Relation, is_less, less_is, Precedes, Stands, StandsInOrder, Fits, IsNumberAt}
use Rattle.zeb_query.specs.declared.plans.Relation.TheVariants as relation
use Rattle.zeb_search.proofs.Comparisons.{begins_between, ge_stands, never_after, never_before_itself, none_between, not_before_front, precedes_then}

-- ---- keys of numbers

pub key_after : (m n : ℕ) → m < 10 ^ 18 → n < 10 ^ 18 → Precedes (number_key m) (number_key n) → m < n
key_after m n m_small n_small h = is_less m n (sym (keys_order m n m_small n_small) ∙ h)

pub key_before : (m n : ℕ) → m < 10 ^ 18 → n < 10 ^ 18 → m < n → Precedes (number_key m) (number_key n)
key_before m n m_small n_small h = keys_order m n m_small n_small ∙ less_is m n h

-- no key of a number from here on comes before the key
keys_from : (least value : ℕ) → least < 10 ^ 18 → value < 10 ^ 18 → least ≤ value → ¬ Precedes (number_key value) (number_key least)
keys_from least value least_small small upto h = let low = key_after value least small least_small h in omega (arith, low, upto)

-- nor one of a number above it before the text behind the key
keys_above : (most value : ℕ) → most < 10 ^ 18 → value < 10 ^ 18 → most < value → ¬ Precedes (number_key value) (number_key most ++ 0 ∷ [])
keys_above most value most_small small above = none_between (number_key most) (number_key value) (key_before most value most_small small above)

-- a number's relation to a value, where it is one of two
stands_from : (r : Relation) (value number : ℕ) → (r ≡ relation.Equal) ⊎ (r ≡ relation.GreaterOrEqual) → Stands r value number → number ≤ value
stands_from r value number (inl is) h = let same : value ≡ number = subst (λ (q : Relation). Stands q value number) is h in omega (arith, same)
stands_from r value number (inr is) h = subst (λ (q : Relation). Stands q value number) is h

module _ (r : Relation) (number least : ℕ) (least_is : least ≡ min number 999999999999999999) (start : List ℕ) where
  pub keys_begin : (r ≡ relation.Equal) ⊎ (r ≡ relation.GreaterOrEqual) → start ≡ number_key least → (term : List ℕ) → IsNumberAt r number term → ¬ Precedes term start
  keys_begin which is term at h =
      let upto = stands_from r at.0 number which at.3 in
      keys_from least at.0 (omega (arith, least_is)) at.1 (omega (arith, least_is, upto)) (subst (λ (t : List ℕ). Precedes t (number_key least)) at.2 (subst (Precedes term) is h))

  pub keys_begin_above : r ≡ relation.Greater → start ≡ number_key least ++ 0 ∷ [] → (term : List ℕ) → IsNumberAt r number term → ¬ Precedes term start
  keys_begin_above which is term at h =
      let above : number < at.0 = subst (λ (q : Relation). Stands q at.0 number) which at.3 in
      keys_above least at.0 (omega (arith, least_is)) at.1 (omega (arith, least_is, above)) (subst (λ (t : List ℕ). Precedes t (number_key least ++ 0 ∷ [])) at.2 (subst (Precedes term) is h))

-- the key of a number behind a key is that of a greater one
pub number_behind : (r : Relation) (number value : ℕ) (term behind : List ℕ) → value < 10 ^ 18 → term ≡ number_key value → ((above : ℕ) → value < above → ¬ Stands r above number)
    → IsNumberAt r number behind → ¬ Precedes term behind
number_behind r number value term behind small is last at h =
    last at.0 (key_after value at.0 small at.1 (subst (λ (t : List ℕ). Precedes t (number_key at.0)) is (subst (Precedes term) at.2 h))) at.3

-- ---- texts in an order

module _ (r : Relation) (text start : List ℕ) where
  pub texts_begin : (r ≡ relation.Equal) ⊎ (r ≡ relation.GreaterOrEqual) → start ≡ text → (term : List ℕ) → StandsInOrder r term text → ¬ Precedes term start
  texts_begin (inl which) is term stands h =
      never_before_itself text (subst (λ (t : List ℕ). Precedes t text) (subst (λ (q : Relation). StandsInOrder q term text) which stands) (subst (Precedes term) is h))
  texts_begin (inr which) is term stands h = elim (subst (λ (q : Relation). StandsInOrder q term text) which stands) [
    | inl above ↦ never_after text term above (subst (Precedes term) is h)
    | inr same ↦ never_before_itself text (subst (λ (t : List ℕ). Precedes t text) same (subst (Precedes term) is h))
  ]

  pub texts_begin_above : r ≡ relation.Greater → start ≡ text ++ 0 ∷ [] → (term : List ℕ) → StandsInOrder r term text → ¬ Precedes term start
  texts_begin_above which is term stands h = none_between text term (subst (λ (q : Relation). StandsInOrder q term text) which stands) (subst (Precedes term) is h)

-- a relation that no greater text has
abbrev IsUpTo : Relation → Type 0
IsUpTo r = (r ≡ relation.Less) ⊎ ((r ≡ relation.LessOrEqual) ⊎ (r ≡ relation.Equal))

stands_below : (r : Relation) (text other : List ℕ) → IsUpTo r → StandsInOrder r text other → Precedes text other ⊎ (text ≡ other)
stands_below r text other (inl is) h = inl (subst (λ (q : Relation). StandsInOrder q text other) is h)
stands_below r text other (inr (inl is)) h = subst (λ (q : Relation). StandsInOrder q text other) is h
stands_below r text other (inr (inr is)) h = inr (subst (λ (q : Relation). StandsInOrder q text other) is h)

pub texts_end : (r : Relation) (text other : List ℕ) (o : Ordering) → IsUpTo r → o ≡ slice_cmp nat_cmp text other → IsTrue (is_ge o)
    → (behind : List ℕ) → Precedes text behind → ¬ StandsInOrder r behind other
texts_end r text other o which is high behind up stands =
    let below : Precedes text other = elim (stands_below r behind other which stands) [ inl low ↦ precedes_then text behind other up low | inr same ↦ subst (Precedes text) same up ] in
    elim ((ge_stands text other o is).0 high) [ inl above ↦ never_after text other below above | inr same ↦ never_before_itself other (subst (λ (t : List ℕ). Precedes t other) same below) ]

-- ---- patterns

-- what a pattern matches begins with the pattern's text before its first star
pub fits_begins : (pattern : List Symbol) (prefix term : List ℕ) → IsUtf8 prefix → (pattern ≡ literal (chars prefix)) ⊎ ((rest : List Symbol) × (pattern ≡ literal (chars prefix) ++ Star ∷ rest))
    → Fits pattern term → (rest : List ℕ) × (term ≡ prefix ++ rest)
fits_begins pattern prefix term utf8 (inl is) fits =
    let same : chars term ≡ chars prefix ++ [] = literal-same (chars prefix) (chars term) (subst (λ p. Matches p (chars term)) is fits.1) ∙ sym (append-nil (chars prefix)) in
    (encode_utf8_all [], cut_bytes term prefix [] [] fits.0 utf8 same)
fits_begins pattern prefix term utf8 (inr is) fits =
    let cut = after_literal (chars prefix) (Star ∷ is.0) (chars term) (subst (λ p. Matches p (chars term)) is.1 fits.1) in
    (encode_utf8_all cut.0, cut_bytes term prefix [] cut.0 fits.0 utf8 cut.1)

pub patterns_begin : (pattern : List Symbol) (prefix start : List ℕ) → IsUtf8 prefix → (pattern ≡ literal (chars prefix)) ⊎ ((rest : List Symbol) × (pattern ≡ literal (chars prefix) ++ Star ∷ rest))
    → start ≡ prefix → (term : List ℕ) → Fits pattern term → ¬ Precedes term start
patterns_begin pattern prefix start utf8 told is term fits h =
    let cut = fits_begins pattern prefix term utf8 told fits in
    not_before_front prefix cut.0 (subst (λ (t : List ℕ). Precedes t prefix) cut.1 (subst (Precedes term) is h))

pub patterns_end : (pattern : List Symbol) (prefix last : List ℕ) → IsUtf8 prefix → (pattern ≡ literal (chars prefix)) ⊎ ((rest : List Symbol) × (pattern ≡ literal (chars prefix) ++ Star ∷ rest))
    → ((rest : List ℕ) → ¬ Precedes last (prefix ++ rest)) → (term : List ℕ) → Fits pattern term → ¬ Precedes last term
patterns_end pattern prefix last utf8 told past term fits h =
    let cut = fits_begins pattern prefix term utf8 told fits in past cut.0 (subst (Precedes last) cut.1 h)

-- past a text that isn't at the front
pub past_front : (text front : List ℕ) (begins : Bool) → MatchBool begins (HasPrefixMatch (FindsTextPrefix front) text) (FindsTextPrefix front text None) → Precedes front text → IsTrue (not begins)
    → (rest : List ℕ) → ¬ Precedes text (front ++ rest)
past_front text front true cases up lacks rest down = cc
past_front text front false cases up lacks rest down = let more = begins_between front text rest up down in cases more.0 more.1
