-- Terms that stand next to each other in a register, and the postings of such a run.
use Rattle.zeb_search.proofs.Cited.{◌≡◌, ◌⊎◌, ◌∙◌, ◌+◌, ◌-◌, ◌≤◌, ℕ, suc, Bool, true, false, List, [], ◌∷◌, ◌++◌, Result, Ok, Err, Vec, OnOk, drop, get_or, length, map, take, refl, sym, ap, subst, subst₂, inl, inr, Ordering, Less, arith, nat_cmp, is_lt, slice_cmp, take-append-drop, Global, State, Has, all_has, has_either, has_right, mapped_has, Key, RegisterOf, TermCount, Work, AreKeysBetween, OnStore, TellsHeld, Content, Posting, posted, Format, holds_in, Works, RegFault, Precedes, CountsAtMost, CountsRows, NoRows, FoundKeys, Wanted, AreKeysOf, EntryRows, rows_under, Rise, AreRun, IsWanted, StandTogether, TermsRise, last_view}
use Rattle.std.specs.List.Sorted.{IsStrictlySortedBy}
use Rattle.zeb_search.proofs.Comparisons.{never_after, never_before_itself}
use Rattle.zeb_search.proofs.SearchCountLemmas.{counts_then, list_counts}
use Rattle.zeb_search.proofs.RisingTexts.{before_last_text, front_rise}

-- ---- a walk over terms

-- What a walk knows of the terms behind it: whether one of them was asked for, and whether behind that one another was not.
pub record IsWalked (wanted : Wanted) (terms : List TermCount) (has_begun has_ended : Bool) : Type 0 where
  pub none : has_begun ≡ false → (s : TermCount) → Has terms s → ¬ IsWanted wanted s.term
  pub run : has_ended ≡ false → (s u : TermCount) → Has terms s → Has terms u → IsWanted wanted s.term → ¬ Precedes u.term s.term → IsWanted wanted u.term
  pub together : StandTogether wanted terms

-- the same of a list and of tests that are the same
pub walked_as : (wanted : Wanted) (xs ys : List TermCount) (a b c d : Bool) → xs ≡ ys → a ≡ b → c ≡ d → IsWalked wanted ys b d → IsWalked wanted xs a c
walked_as wanted xs ys a b c d list begun ended walked =
    subst (λ (l : List TermCount). IsWalked wanted l a c) (sym list) (subst₂ (IsWalked wanted ys) (sym begun) (sym ended) walked)

-- the terms up to one of them rise
pub rise_up_to : (terms : List TermCount) (i : ℕ) (t : TermCount) → TermsRise terms → take (i + 1) terms ≡ take i terms ++ t ∷ [] → TermsRise (take i terms ++ t ∷ [])
rise_up_to terms i t up more =
    subst TermsRise more (front_rise (λ (s : TermCount). s.term) (take (i + 1) terms) (drop (i + 1) terms) (subst TermsRise (sym (take-append-drop (i + 1) terms)) up))

module _ (wanted : Wanted) where
  pub walked_none : IsWalked wanted [] false false
  walked_none = record { none = λ _ s here. absurd here; run = λ _ s u here. absurd here; together = λ s t u here. absurd here }

  module _ (terms : List TermCount) (t : TermCount) (up : TermsRise (terms ++ t ∷ [])) where
    before_it : (s : TermCount) → Has terms s → Precedes s.term t.term
    before_it = before_last_text (λ (s : TermCount). s.term) terms t up

    either : (s : TermCount) → Has (terms ++ t ∷ []) s → Has terms s ⊎ (s ≡ t)
    either s here = elim (has_either terms (t ∷ []) s here) [ inl before ↦ inl before | inr last ↦ elim last [ inl same ↦ inr same | inr none ↦ absurd none ] ]

    -- a term that is asked for
    pub walked_on : (begun : Bool) → IsWanted wanted t.term → IsWalked wanted terms begun false → IsWalked wanted (terms ++ t ∷ []) true false
    walked_on begun asked so_far = record { none = λ e. absurd (cc); run = λ _. run; together = λ s last u first there here one two within. run s u first here one within.0 }
      where
        run : (s u : TermCount) → Has (terms ++ t ∷ []) s → Has (terms ++ t ∷ []) u → IsWanted wanted s.term → ¬ Precedes u.term s.term → IsWanted wanted u.term
        run s u first here one low = elim (either u here) [
          | inr same ↦ subst (λ (v : TermCount). IsWanted wanted v.term) (sym same) asked
          | inl before ↦ elim (either s first) [
            | inl sooner ↦ so_far.run refl s u sooner before one low
            | inr same ↦ absurd (low (subst (λ (v : TermCount). Precedes u.term v.term) (sym same) (before_it u before)))
          ]
        ]

    -- one that isn't, before the first that is
    pub walked_before : ¬ IsWanted wanted t.term → (ended : Bool) → IsWalked wanted terms false ended → IsWalked wanted (terms ++ t ∷ []) false ended
    walked_before never ended so_far = record { none = λ _. none; run = λ _ s u first here one low. absurd (none s first one); together = λ s last u first there here one two within. absurd (none s first one) }
      where
        none : (s : TermCount) → Has (terms ++ t ∷ []) s → ¬ IsWanted wanted s.term
        none s here asked = elim (either s here) [ inl before ↦ so_far.none refl s before asked | inr same ↦ never (subst (λ (v : TermCount). IsWanted wanted v.term) same asked) ]

    -- one that isn't, behind it
    pub walked_past : ¬ IsWanted wanted t.term → (ended : Bool) → IsWalked wanted terms true ended → IsWalked wanted (terms ++ t ∷ []) true true
    walked_past never ended so_far = record {
      none = λ e. absurd (cc);
      run = λ e. absurd (cc);
      together = λ s last u first there here one two within. elim (either last there) [
        | inr same ↦ absurd (never (subst (λ (v : TermCount). IsWanted wanted v.term) same two))
        | inl late ↦ elim (either s first) [
          | inr same ↦ absurd (never (subst (λ (v : TermCount). IsWanted wanted v.term) same one))
          | inl sooner ↦ elim (either u here) [
            | inl before ↦ so_far.together s last u sooner late before one two within
            | inr same ↦ absurd (within.1 (subst (λ (v : TermCount). Precedes last.term v.term) (sym same) (before_it last late)))
          ]
        ]
      ];
    }

-- ---- the postings from the first key to the last

-- these keys begin with the one and end with the other
pub record HaveEnds (keys : List Key) (first last : Key) : Type 0 where
  pub rest : List Key
  pub begins : keys ≡ first ∷ rest
  pub front : List Key
  pub ends : keys ≡ front ++ last ∷ []

first_view : (keys : List Key) (first : Key) → 1 ≤ length keys → first ≡ get_or keys 0 first → (rest : List Key) × (keys ≡ first ∷ rest)
first_view [] first some is = absurd (omega (arith, some))
first_view (key ∷ keys) first some is = (keys, ap (λ k. k ∷ keys) (sym is))

-- as an index gets them of the slice
pub ends_got : (keys : List Key) (first last : Key) → 1 ≤ length keys → first ≡ get_or keys 0 first → last ≡ get_or keys (length keys - 1) last → HaveEnds keys first last
ends_got keys first last some at_first at_last =
    let begins = first_view keys first some at_first in
    let long : length keys ≡ suc (length keys - 1) = omega (arith, some) in
    record { rest = begins.0; begins = begins.1; front = take (length keys - 1) keys; ends = last_view (length keys - 1) keys last long at_last }

pub several : (keys : List Key) → 1 ≤ length keys → (length keys ≡ 1 → ⊥) → 2 ≤ length keys
several [] some more = absurd (omega (arith, some))
several (key ∷ []) some more = absurd (more refl)
several (key ∷ other ∷ keys) some more = omega arith

pub not_lower : (a b : List ℕ) → ¬ Precedes a b → is_lt (slice_cmp nat_cmp a b) ≡ false
not_lower a b never = by (slice_cmp nat_cmp a b) refl
  where
    by : (o : Ordering) → slice_cmp nat_cmp a b ≡ o → is_lt o ≡ false
    by Less is = absurd (never is)
    by _ is = refl

pub never_lower : (a b : List ℕ) → is_lt (slice_cmp nat_cmp a b) ≡ false → ¬ Precedes a b
never_lower a b low is = let e : true ≡ false = sym (ap is_lt is) ∙ low in cc

-- keys that rise stand between the first and the last
module _ (keys : List Key) (up : Rise (λ (key : Key). key.term) keys) (first last : Key) (at : HaveEnds keys first last) where
  pub from_first : (key : Key) → Has keys key → ¬ Precedes key.term first.term
  unfolding IsStrictlySortedBy
  from_first key here low =
      let rises : Rise (λ (k : Key). k.term) (first ∷ at.rest) = subst (Rise (λ (k : Key). k.term)) at.begins up in
      elim (subst (λ (l : List Key). Has l key) at.begins here) [
        | inl same ↦ never_before_itself first.term (subst (λ (k : Key). Precedes k.term first.term) same low)
        | inr later ↦ never_after first.term key.term (all_has (λ t. slice_cmp nat_cmp first.term t ≡ Less) (map (λ (k : Key). k.term) at.rest) key.term rises.0 (mapped_has (λ (k : Key). k.term) at.rest key later)) low
      ]

  pub up_to_last : (key : Key) → Has keys key → ¬ Precedes last.term key.term
  up_to_last key here low =
      elim (has_either at.front (last ∷ []) key (subst (λ (l : List Key). Has l key) at.ends here)) [
        | inl before ↦ never_after key.term last.term (before_last_text (λ (k : Key). k.term) at.front last (subst (Rise (λ (k : Key). k.term)) at.ends up) key before) low
        | inr end ↦ elim end [ inl same ↦ never_before_itself last.term (subst (λ (k : Key). Precedes last.term k.term) same low) | inr none ↦ absurd none ]
      ]

module _ (content : Content) (of : RegisterOf) (keys : List Key) (are : AreRun content of keys) (many : 2 ≤ length keys) (first last : Key) (at : HaveEnds keys first last) where
  pub keys_between : AreKeysBetween content of first.term last.term keys
  keys_between = record {
    rising = are.rising;
    each = λ key here. (are.each key here, (not_lower key.term first.term (from_first keys are.rising first last at key here), not_lower last.term key.term (up_to_last keys are.rising first last at key here)));
    all = λ term p between here.
        are.neighbours many first last (subst (λ (l : List Key). Has l first) (sym at.begins) (inl refl)) (subst (λ (l : List Key). Has l last) (sym at.ends) (has_right at.front (last ∷ []) last (inl refl)))
        term p (never_lower term first.term between.0, never_lower last.term term between.1) here;
  }

-- a call that reads the lists from the first key to the last, whose texts are these
module _ (format : Format) (of : RegisterOf) (keys : List Key) (many : 2 ≤ length keys) (first last : Key) (at : HaveEnds keys first last)
    (low high : List ℕ) (is_low : low ≡ first.term) (is_high : high ≡ last.term) (old new : State) where
  pub between_counted : (rows : List Posting → ℕ) (a b : Work) (result : Result (Vec Posting Global) RegFault)
      → TellsHeld (holds_in format) old new result (λ content _. (keys : List Key) → AreKeysBetween content of low high keys → Works 0 0 (rows_under rows content of.db.0 keys) 0 a b)
      → OnOk result (OnStore old new (λ trees. (content : Content) → holds_in format trees content → AreRun content of keys → CountsAtMost 0 (rows_under rows content of.db.0 keys) a b))
  between_counted rows a b (Err why) told = tt
  between_counted rows a b (Ok list) told = λ clean store content has are.
      let between = subst₂ (λ x y. AreKeysBetween content of x y keys) (sym is_low) (sym is_high) (keys_between content of keys are many first last at) in
      list_counts (rows_under rows content of.db.0 keys) a b (told clean store content has keys between)

-- ---- counts

counts_so : (k l m n : ℕ) (a b : Work) → k ≡ l → m ≡ n → CountsAtMost k m a b → CountsAtMost l n a b
counts_so k l m n a b one two = subst₂ (λ x y. CountsAtMost x y a b) one two

-- keys, and then their lists
pub found_counted : (D : ℕ → Type 0) (rows : List Posting → ℕ) (of : RegisterOf) (P : List ℕ → Type 0) (found : FoundKeys) (content : Content) (a b c : Work) → AreKeysOf (posted content of.db.0) of.index of.register P found.keys.items
    → CountsRows D NoRows a b → CountsAtMost 0 (rows_under rows content of.db.0 found.keys.items) b c → CountsRows D (EntryRows rows content of.db.0 of.index of.register P) a c
found_counted D rows of P found content a b c are x y =
    let n = rows_under rows content of.db.0 found.keys.items in
    let terms : x.0 + 0 ≡ x.0 = omega arith in
    let blocks : x.1 + n ≡ n = omega (arith, x.3) in
    (x.0, n, x.2, (found.keys.items, are, refl), counts_so (x.0 + 0) x.0 (x.1 + n) n a c terms blocks (counts_then x.0 0 x.1 n a b c x.4 y))
