-- What `==` answers at keys and at occurrences.
use Rattle.zeb_change.proofs.Cited.{◌≡◌, ◌≢◌, ◌∙◌, ◌&&◌, Bool, true, false, not, List, [], ◌∷◌, map, refl, sym, ap, ap₂, subst, nat_eq, bytes_eq, bytes_eq-Decides, Decides, pointwise, and_parts, and_from, eqb-true, eq-eqb, slice_eq-Decides, same_text, Register, Word, Phrase, Number, the_type, sameb, Key, Occurrence, AreOfKey, place_in}

same_register : (r s : Register) → sameb the_type r s ≡ true → r ≡ s
same_register Word Word e = refl
same_register Phrase Phrase e = refl
same_register Number Number e = refl
same_register _ _ e = absurd (cc)

same_parts : (a b : Key) → a.index ≡ b.index → a.register ≡ b.register → a.term ≡ b.term → a ≡ b
same_parts a b index register term = λ i. record { index = index i; register = register i; term = term i }

-- what `==` answers at keys
abbrev key_eq : Key → Key → Bool
key_eq a b = nat_eq a.index b.index && (sameb the_type a.register b.register && bytes_eq a.term b.term)

-- keys that are equal to `==` are equal
pub same_key : (a b : Key) → key_eq a b ≡ true → a ≡ b
same_key a b e =
    let registers = sameb the_type a.register b.register in
    let terms = bytes_eq a.term b.term in
    let first = and_parts (nat_eq a.index b.index) (registers && terms) e in
    let second = and_parts registers terms first.1 in
    let index : a.index ≡ b.index = eqb-true a.index b.index first.0 in
    same_parts a b index (same_register a.register b.register second.0) (same_text a.term b.term (sym second.1))

own_register : (r : Register) → sameb the_type r r ≡ true
own_register Word = refl
own_register Phrase = refl
own_register Number = refl

own_key : (a : Key) → key_eq a a ≡ true
own_key a = and_from (nat_eq a.index a.index) (sameb the_type a.register a.register && bytes_eq a.term a.term) (eq-eqb a.index a.index refl)
    (and_from (sameb the_type a.register a.register) (bytes_eq a.term a.term) (own_register a.register) ((bytes_eq-Decides a.term a.term).1 refl))

-- what `==` answers at occurrences
abbrev occurrence_eq : Occurrence → Occurrence → Bool
occurrence_eq a b = key_eq a.key b.key && (nat_eq a.seq b.seq && nat_eq a.pos b.pos)

occurrence_decides : (a b : Occurrence) → Decides (occurrence_eq a b) (a ≡ b)
occurrence_decides a b = (
  λ h.
      let both = and_parts (key_eq a.key b.key) (nat_eq a.seq b.seq && nat_eq a.pos b.pos) h in
      let place = and_parts (nat_eq a.seq b.seq) (nat_eq a.pos b.pos) both.1 in
      let key = same_key a.key b.key both.0 in
      λ i. record { key = key i; seq = eqb-true a.seq b.seq place.0 i; pos = eqb-true a.pos b.pos place.1 i },
  λ same. subst (λ (o : Occurrence). occurrence_eq a o ≡ true) same (and_from (key_eq a.key a.key) (nat_eq a.seq a.seq && nat_eq a.pos a.pos) (own_key a.key)
      (and_from (nat_eq a.seq a.seq) (nat_eq a.pos a.pos) (eq-eqb a.seq a.seq refl) (eq-eqb a.pos a.pos refl))),
)

-- occurrences of one key are the same where their places are
same_at : (key : Key) (old new : List Occurrence) → AreOfKey key old → AreOfKey key new → map place_in old ≡ map place_in new → old ≡ new
same_at key [] [] one two same = refl
same_at key [] (p ∷ new) one two same = absurd (cc)
same_at key (o ∷ old) [] one two same = absurd (cc)
same_at key (o ∷ old) (p ∷ new) one two same =
    let first : place_in o ≡ place_in p = cc in
    let rest : map place_in old ≡ map place_in new = cc in
    let keys : o.key ≡ p.key = one.0 ∙ sym two.0 in
    let is : o ≡ p = λ i. record { key = keys i; seq = (first i).seq; pos = (first i).pos } in
    ap₂ (λ (x : Occurrence) (l : List Occurrence). x ∷ l) is (same_at key old new one.1 two.1 rest)

module _ (key : Key) (old new : List Occurrence) (one : AreOfKey key old) (two : AreOfKey key new) where
  pub places_same : false ≡ not (pointwise occurrence_eq old new) → map place_in old ≡ map place_in new
  places_same e = ap (λ (l : List Occurrence). map place_in l) ((slice_eq-Decides occurrence_decides old new _ refl).0 (told _ e))
    where
      told : (b : Bool) → false ≡ not b → b ≡ true
      told true e = refl
      told false e = absurd (cc)

  pub places_differ : true ≡ not (pointwise occurrence_eq old new) → map place_in old ≢ map place_in new
  places_differ e same = let said = (slice_eq-Decides occurrence_decides old new _ refl).1 (same_at key old new one two same) in told _ e said
    where
      told : (b : Bool) → true ≡ not b → b ≡ true → ⊥
      told true e said = absurd (cc)
      told false e said = absurd (cc)
