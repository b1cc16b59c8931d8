-- The members of the list that is found are the occurrences.
use Rattle.zeb_extract.proofs.Cited.{◌≡◌, ℕ, ◌+◌, List, [], ◌∷◌, ◌++◌, length, map, refl, ap, sym, ◌∙◌, subst, ◌↔◌, arith, add-zero, append_assoc, false, ◌==◌, map-append, append-nil, Contains, enumerate_from, joined_text, UnitText, Register, Occurrence, Targets, joined, terms_of, text_of, IsOccurrence, occurrence_at, numbered_terms, listed_in, unit_listing, listing}
use Rattle.zeb_extract.proofs.Members.{Contains-map, from_map, Contains-flat_map, from_flat_map}

module _ (targets : Targets) (units : List UnitText) where
  listed_occurrence : (o : Occurrence) → IsOccurrence targets units o → Contains (listing targets units) o
  listed_occurrence o is =
      let target : ℕ × Register = (o.key.index, o.key.register) in
      let terms = terms_of o.key.register (text_of is.unit.text) in
      let here : Contains (numbered_terms target is.unit.seq terms) o =
      subst (λ n. Contains (numbered_terms target n terms) o) is.same_seq
      (Contains-map (occurrence_at target o.seq) (enumerate_from 1 terms) (o.pos, o.key.term) is.in_unit) in
      let in_targets : Contains (unit_listing targets is.unit) o =
      Contains-flat_map (listed_in is.unit) (targets is.unit.tag is.unit.code) target o is.in_target here in
      Contains-flat_map (unit_listing targets) units is.unit o is.in_record in_targets

  occurrence_listed : (o : Occurrence) → Contains (listing targets units) o → IsOccurrence targets units o
  occurrence_listed o h =
      let unit = from_flat_map (unit_listing targets) units o h in
      let target = from_flat_map (listed_in unit.0) (targets unit.0.tag unit.0.code) o unit.2 in
      let numbered = from_map (occurrence_at target.0 unit.0.seq) (enumerate_from 1 (terms_of target.0.1 (text_of unit.0.text))) o target.2 in
      subst (IsOccurrence targets units) numbered.2
      (record { unit = unit.0; in_record = unit.1; same_seq = refl; in_target = target.1; in_unit = numbered.1 })

  pub occurrences_are_listed : (o : Occurrence) → Contains (listing targets units) o ↔ IsOccurrence targets units o
  occurrences_are_listed o = (occurrence_listed o, listed_occurrence o)

-- one more term stands at the next number
enumerate_push : (n : ℕ) (terms : List (List ℕ)) (term : List ℕ)
    → enumerate_from n (terms ++ term ∷ []) ≡ enumerate_from n terms ++ (n + length terms, term) ∷ []
enumerate_push n [] term = ap (λ k. (k, term) ∷ []) (sym (add-zero n))
enumerate_push n (t ∷ ts) term =
    let e : n + 1 + length ts ≡ n + length (t ∷ ts) = omega arith in
    ap (λ l. (n, t) ∷ l) (enumerate_push (n + 1) ts term ∙ ap (λ k. enumerate_from (n + 1) ts ++ (k, term) ∷ []) e)

pub listed_push : (target : ℕ × Register) (seq pos : ℕ) (terms : List (List ℕ)) (term : List ℕ) → pos ≡ length terms
    → numbered_terms target seq (terms ++ term ∷ []) ≡ numbered_terms target seq terms ++ occurrence_at target seq (pos + 1, term) ∷ []
listed_push target seq pos terms term count =
    let e : 1 + length terms ≡ pos + 1 = omega arith in
    ap (map (occurrence_at target seq)) (enumerate_push 1 terms term)
    ∙ map-append (occurrence_at target seq) (enumerate_from 1 terms) ((1 + length terms, term) ∷ [])
    ∙ ap (λ k. numbered_terms target seq terms ++ occurrence_at target seq (k, term) ∷ []) e

-- a list that has grown by `more`, and then by one element
pub grown_by_one : {X : Type 0} (old found new more all : List X) (x : X) → found ≡ old ++ more → new ≡ found ++ x ∷ [] → all ≡ more ++ x ∷ [] → new ≡ old ++ all
grown_by_one old found new more all x e f g =
    f ∙ ap (λ l. l ++ x ∷ []) e ∙ append_assoc old more (x ∷ []) ∙ ap (λ l. old ++ l) (sym g)

-- what is found when no unit is left has just the occurrences as members, and so has each list with the same members
pub found_are_occurrences : (targets : Targets) (units left begun : List UnitText) (found ordered : List Occurrence)
    → found ++ listing targets left ≡ listing targets begun → left ≡ [] → begun ≡ units
    → ((o : Occurrence) → Contains ordered o ↔ Contains found o) → (o : Occurrence) → Contains ordered o ↔ IsOccurrence targets units o
found_are_occurrences targets units left begun found ordered e none all same o =
    let is : found ≡ listing targets units =
    sym (append-nil found) ∙ ap (λ l. found ++ listing targets l) (sym none) ∙ e ∙ ap (listing targets) all in
    let here : Contains found o ↔ IsOccurrence targets units o =
    subst (λ l. Contains l o ↔ IsOccurrence targets units o) (sym is) (occurrences_are_listed targets units o) in
    (λ h. here.0 ((same o).0 h), λ h. (same o).1 (here.1 h))

pub joined-some : {X : Type 0} (f : X → List ℕ) (words : List X) → false ≡ (length words == 0)
    → joined (map f words) ≡ joined_text (map f words) ∷ []
joined-some f [] e = absurd (cc)
joined-some f (w ∷ ws) e = refl

-- the joined words of some, where they are put into an empty list
pub only_joined : {X : Type 0} (f : X → List ℕ) (words : List X) (empty found : List (List ℕ)) (term text : List ℕ)
    → found ≡ empty ++ term ∷ [] → empty ≡ [] → term ≡ text → text ≡ joined_text (map f words) → false ≡ (length words == 0)
    → found ≡ joined (map f words)
only_joined f words empty found term text e none is text_is some =
    e ∙ ap (λ l. l ++ term ∷ []) none ∙ ap (λ t. t ∷ []) (is ∙ text_is) ∙ sym (joined-some f words some)
