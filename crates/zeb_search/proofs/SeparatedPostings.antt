-- The records in which postings of two lists are separated as a query asks, by the ranges of the numbers of words from the one to the other.
use Rattle.zeb_search.proofs.Cited.{◌≡◌, ◌∙◌, ◌↔◌, ◌⊎◌, ◌<◌, ℕ, ◌+◌, ◌-◌, Bool, true, false, cond, List, [], ◌++◌, Option, Some, None, Result, Ok, Err, is_ok, OnOk, refl, sym, subst, inl, inr, arith, Has, has_left, has_right, has_either, Separation, Posting, Words, AreApart, IsDistant, AreNumbers, ArePostings, HasPosting, IsNear, HasWithin, IsFollowed, IsNearBy, IsWithin, IsWithinSome}

-- ---- numbers that are added

pub on_added : {E : Type 0} (P : Type 0) (all some none : List ℕ) (result : Result (Unit {0}) E) → all ≡ cond (is_ok result) some none → (all ≡ some → P) → OnOk result P
on_added P all some none (Ok done) is told = told is
on_added P all some none (Err e) is told = tt

pub followed_added : (range : Words) (postings others found : List Posting) (numbers more all : List ℕ) → ArePostings (λ p. Has postings p × HasWithin range others p) found
    → AreNumbers (HasPosting found) more → all ≡ numbers ++ more → (n : ℕ) → Has all n ↔ (Has numbers n ⊎ IsFollowed range postings others n)
followed_added range postings others found numbers more all are records is n = (
  λ h. elim (has_either numbers more n (subst (λ l. Has l n) is h)) [
    | inl there ↦ inl there
    | inr new ↦ let record_of = (records.each n).0 new in inr (record_of.0, (are.each record_of.0).0 record_of.1, record_of.2)
  ],
  λ h. subst (λ l. Has l n) (sym is) (elim h [
    | inl there ↦ has_left numbers more n there
    | inr new ↦ has_right numbers more n ((records.each n).1 (new.0, (are.each new.0).1 new.1, new.2))
  ]),
)

-- ---- numbers of words, and the ranges that hold them

apart_from : (ordered : Bool) (words i j : ℕ) → 0 < words → i + words ≡ j → AreApart ordered words i j
apart_from true words i j some is = (some, is)
apart_from false words i j some is = (some, inl is)

apart_back : (ordered : Bool) (words i j : ℕ) → 0 < words → ordered ≡ false → j + words ≡ i → AreApart ordered words i j
apart_back true words i j some either is = absurd (cc)
apart_back false words i j some either is = (some, inr is)

apart_either : (ordered : Bool) (words i j : ℕ) → AreApart ordered words i j → (0 < words) × ((i + words ≡ j) ⊎ ((ordered ≡ false) × (j + words ≡ i)))
apart_either true words i j h = (h.0, inl h.1)
apart_either false words i j h = (h.0, elim h.1 [ inl is ↦ inl is | inr is ↦ inr (refl, is) ])

abbrev AsksFor : Separation → ℕ → Type 0
AsksFor separation words = (0 < words) × IsDistant separation.relation words separation.distance

module _ (separation : Separation) (left right : List Posting) (n : ℕ) where
  near_from : (range : Words) → ((words : ℕ) → IsWithin range words → AsksFor separation words) → IsNearBy separation.ordered range left right n → IsNear separation left right n
  near_from range told (inl (p, (in_left, (q, in_right, behind)), number)) =
      let words = q.pos - p.pos in
      let asked = told words behind.3 in
      (p, q, in_left, in_right, number, (sym behind.0, sym behind.1), (words, apart_from separation.ordered words p.pos q.pos asked.0 (omega (arith, behind.2)), asked.1))
  near_from range told (inr (either, (p, (in_right, (q, in_left, behind)), number))) =
      let words = q.pos - p.pos in
      let asked = told words behind.3 in
      (q, p, in_left, in_right, behind.0 ∙ number, (behind.0, behind.1), (words, apart_back separation.ordered words q.pos p.pos asked.0 either (omega (arith, behind.2)), asked.1))

  near_by : IsNear separation left right n → (words : ℕ) × AsksFor separation words × ((range : Words) → IsWithin range words → IsNearBy separation.ordered range left right n)
  near_by (p, q, in_left, in_right, number, unit, (words, apart, distant)) =
      let told = apart_either separation.ordered words p.pos q.pos apart in (
        words,
        (told.0, distant),
        λ range within. elim told.1 [
          | inl is ↦
              let same : q.pos - p.pos ≡ words = omega (arith, is) in
              inl (p, (in_left, (q, in_right, (sym unit.0, sym unit.1, omega (arith, is), rw same within))), number)
          | inr back ↦
              let same : p.pos - q.pos ≡ words = omega (arith, back.1) in
              inr (back.0, (q, (in_right, (p, in_left, (unit.0, unit.1, omega (arith, back.1), rw same within))), sym unit.0 ∙ number))
        ],
      )

abbrev pub IsNearByAny : Separation → (left right : List Posting) → ℕ → Option Words → Type 0
IsNearByAny separation left right n None = ⊥
IsNearByAny separation left right n (Some range) = IsNearBy separation.ordered range left right n

pub near_is : (separation : Separation) (left right : List Posting) (range : Words) (more : Option Words)
    → ((words : ℕ) → AsksFor separation words ↔ (IsWithin range words ⊎ IsWithinSome more words))
    → (n : ℕ) → (IsNearBy separation.ordered range left right n ⊎ IsNearByAny separation left right n more) ↔ IsNear separation left right n
near_is separation left right range None told n = (
  λ h. elim h [ inl near ↦ near_from separation left right n range (λ words within. (told words).1 (inl within)) near | inr none ↦ absurd none ],
  λ h. let by = near_by separation left right n h in elim ((told by.0).0 by.1) [ inl within ↦ inl (by.2 range within) | inr none ↦ absurd none ],
)
near_is separation left right range (Some more) told n = (
  λ h. elim h [
    | inl near ↦ near_from separation left right n range (λ words within. (told words).1 (inl within)) near
    | inr near ↦ near_from separation left right n more (λ words within. (told words).1 (inr within)) near
  ],
  λ h. let by = near_by separation left right n h in elim ((told by.0).0 by.1) [ inl within ↦ inl (by.2 range within) | inr within ↦ inr (by.2 more within) ],
)

pub same_numbers : (P Q : ℕ → Type 0) (numbers : List ℕ) → ((n : ℕ) → P n ↔ Q n) → AreNumbers P numbers → AreNumbers Q numbers
same_numbers P Q numbers same are = record {
  rising = are.rising;
  each = λ n. (λ h. (same n).0 ((are.each n).0 h), λ h. (are.each n).1 ((same n).1 h));
}

-- the numbers of the first range, and then those of the other one, if there is one
pub near_numbers : (separation : Separation) (left right : List Posting) (range : Words) (more : Option Words)
    → ((words : ℕ) → AsksFor separation words ↔ (IsWithin range words ⊎ IsWithinSome more words)) → (none some all numbers : List ℕ) → none ≡ []
    → ((n : ℕ) → Has some n ↔ (Has none n ⊎ IsNearBy separation.ordered range left right n))
    → ((n : ℕ) → Has all n ↔ (Has some n ⊎ IsNearByAny separation left right n more))
    → AreNumbers (Has all) numbers → AreNumbers (IsNear separation left right) numbers
near_numbers separation left right range more told none some all numbers empty first second are =
    same_numbers (Has all) (IsNear separation left right) numbers (λ n.
    let near = near_is separation left right range more told n in (
      λ h. near.0 (elim ((second n).0 h) [
        | inl there ↦ elim ((first n).0 there) [ inl nowhere ↦ absurd (subst (λ (l : List ℕ). Has l n) empty nowhere) | inr new ↦ inl new ]
        | inr new ↦ inr new
      ]),
      λ h. (second n).1 (elim (near.1 h) [ inl new ↦ inl ((first n).1 (inr new)) | inr new ↦ inr new ]),
    )) are
