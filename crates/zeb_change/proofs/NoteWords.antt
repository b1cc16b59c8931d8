-- Numbers, places and changes, taken from the front of the words in which they are noted.
use Rattle.zeb_change.proofs.Cited.{◌≡◌, ◌∙◌, ◌+◌, ◌*◌, ◌/◌, ◌%◌, ◌<◌, ◌≤◌, ℕ, List, [], ◌∷◌, ◌++◌, length, length-append, map, refl, sym, ap, inl, inr, arith, cases_lt, lt-ltb, le-ltb, append-nil, append_assoc, Place, KeyNotes, PlaceCounts, KeyChange, IsNotedIn, TakesChange, TakesNumber, TakesPlaces, counts_in, places_in}
use Rattle.zeb_change.specs.NoteWords.{change_words, number_words, place_words, words_of_changes}

-- ---- numbers

pub narrow : (n : ℕ) → n < 65535 → number_words n ≡ n ∷ []
unfolding number_words
narrow n low = rw (lt-ltb n 65535 low) refl

pub wide : (n : ℕ) → 65535 ≤ n → number_words n ≡ 65535 ∷ n % 65536 ∷ n / 65536 % 65536 ∷ n / 65536 / 65536 % 65536 ∷ n / 65536 / 65536 / 65536 ∷ []
unfolding number_words
wide n high = rw (le-ltb n 65535 high) refl

-- the number that its four words make
whole : (n : ℕ) → n % 65536 + 65536 * (n / 65536 % 65536 + 65536 * (n / 65536 / 65536 % 65536 + 65536 * (n / 65536 / 65536 / 65536))) ≡ n
whole n = omega arith

-- no word is left
pub takes_nothing : (words : List ℕ) (number : ℕ) (left : List ℕ) → length words ≡ 0 → TakesNumber words number left
takes_nothing words number left none n rest is = elim (cases_lt n 65535) [
  | inl low ↦ let e = rw (narrow n low) at is in absurd (omega (arith, none, ap length e))
  | inr high ↦ let e = rw (wide n high) at is in absurd (omega (arith, none, ap length e))
]

-- a word that isn't 65535 is its number
pub takes_narrow : (first : ℕ) (words left : List ℕ) → words ≡ first ∷ left → (first ≡ 65535 → ⊥) → TakesNumber words first left
takes_narrow first words left are low n rest is = elim (cases_lt n 65535) [
  | inl small ↦ let e : first ∷ left ≡ n ∷ rest = rw (narrow n small) at (sym are ∙ is) in (cc, cc)
  | inr high ↦
      let e : first ∷ left ≡ 65535 ∷ n % 65536 ∷ n / 65536 % 65536 ∷ n / 65536 / 65536 % 65536 ∷ n / 65536 / 65536 / 65536 ∷ rest =
      rw (wide n high) at (sym are ∙ is) in
      let same : first ≡ 65535 = cc in absurd (low same)
]

-- another is followed by four
pub takes_wide : (words behind : List ℕ) (number : ℕ) (left : List ℕ) → words ≡ 65535 ∷ behind
    → ((a b c d : ℕ) (rest : List ℕ) → behind ≡ a ∷ b ∷ c ∷ d ∷ rest → (number ≡ a + 65536 * (b + 65536 * (c + 65536 * d))) × (left ≡ rest))
    → TakesNumber words number left
takes_wide words behind number left are takes n rest is = elim (cases_lt n 65535) [
  | inl small ↦ let e : 65535 ∷ behind ≡ n ∷ rest = rw (narrow n small) at (sym are ∙ is) in let same : 65535 ≡ n = cc in absurd (omega (arith, same, small))
  | inr high ↦
      let e : 65535 ∷ behind ≡ 65535 ∷ n % 65536 ∷ n / 65536 % 65536 ∷ n / 65536 / 65536 % 65536 ∷ n / 65536 / 65536 / 65536 ∷ rest =
      rw (wide n high) at (sym are ∙ is) in
      let told = takes (n % 65536) (n / 65536 % 65536) (n / 65536 / 65536 % 65536) (n / 65536 / 65536 / 65536) rest (cc) in
      (told.0 ∙ whole n, told.1)
]

-- five words are put one after the other
pub five : (words : List ℕ) (a b c d e : ℕ) → ((((words ++ a ∷ []) ++ b ∷ []) ++ c ∷ []) ++ d ∷ []) ++ e ∷ [] ≡ words ++ a ∷ b ∷ c ∷ d ∷ e ∷ []
five [] a b c d e = refl
five (word ∷ words) a b c d e = ap (λ (l : List ℕ). word ∷ l) (five words a b c d e)

-- ---- places

pub no_places : (words : List ℕ) → words ≡ words ++ place_words []
unfolding place_words
no_places words = sym (append-nil words)

pub places_more : (places : List Place) (place : Place) → place_words (places ++ place ∷ []) ≡ (place_words places ++ number_words place.seq) ++ number_words place.pos
unfolding place_words
places_more [] place = ap (λ (l : List ℕ). number_words place.seq ++ l) (append-nil (number_words place.pos))
places_more (first ∷ places) place =
    let seq = number_words first.seq in
    let pos = number_words first.pos in
    let before = place_words places in
    let one = number_words place.seq in
    let two = number_words place.pos in
    ap (λ (l : List ℕ). seq ++ (pos ++ l)) (places_more places place)
    ∙ ap (λ (l : List ℕ). seq ++ l) (sym (append_assoc pos (before ++ one) two))
    ∙ sym (append_assoc seq (pos ++ (before ++ one)) two)
    ∙ ap (λ (l : List ℕ). (seq ++ l) ++ two) (sym (append_assoc pos before one))
    ∙ ap (λ (l : List ℕ). l ++ two) (sym (append_assoc seq (pos ++ before) one))

-- what is left to be taken of so many places, of which as many as are counted are taken
abbrev pub AreLeft : List ℕ → List ℕ → ℕ → ℕ → List Place → List Place → Type 0
AreLeft words left count taken old now =
    (places : List Place) (rest : List ℕ) → length places ≡ count → words ≡ place_words places ++ rest
    → (more : List Place) × (count ≡ taken + length more) × (left ≡ place_words more ++ rest) × (now ++ more ≡ old ++ places)

pub one_taken : (words left behind back : List ℕ) (count taken : ℕ) (old now after : List Place) (seq pos : ℕ) → taken < count → AreLeft words left count taken old now
    → TakesNumber left seq behind → TakesNumber behind pos back → after ≡ now ++ record { seq = seq; pos = pos } ∷ [] → AreLeft words back count (taken + 1) old after
unfolding place_words
one_taken words left behind back count taken old now after seq pos below so_far one two put places rest many is = by (so_far places rest many is)
  where
    by : ((more : List Place) × (count ≡ taken + length more) × (left ≡ place_words more ++ rest) × (now ++ more ≡ old ++ places))
        → (more : List Place) × (count ≡ (taken + 1) + length more) × (back ≡ place_words more ++ rest) × (after ++ more ≡ old ++ places)
    by ([], counted, left_is, both) = absurd (omega (arith, counted, below))
    by (place ∷ more, counted, left_is, both) =
        let first = one place.seq ((number_words place.pos ++ place_words more) ++ rest) (left_is ∙ append_assoc (number_words place.seq) (number_words place.pos ++ place_words more) rest) in
        let second = two place.pos (place_words more ++ rest) (first.1 ∙ append_assoc (number_words place.pos) (place_words more) rest) in
        let this : after ≡ now ++ place ∷ [] = put ∙ (λ i. now ++ record { seq = first.0 i; pos = second.0 i } ∷ []) in
        (more, omega (arith, counted), second.1, ap (λ (l : List Place). l ++ more) this ∙ append_assoc now (place ∷ []) more ∙ both)

pub all_taken : (words left : List ℕ) (count taken : ℕ) (old now : List Place) → count ≤ taken → AreLeft words left count taken old now → TakesPlaces words count left old now
unfolding place_words
all_taken words left count taken old now done so_far places rest many is = by (so_far places rest many is)
  where
    by : ((more : List Place) × (count ≡ taken + length more) × (left ≡ place_words more ++ rest) × (now ++ more ≡ old ++ places)) → (left ≡ rest) × (now ≡ old ++ places)
    by ([], counted, left_is, both) = (left_is, sym (append-nil now) ∙ both)
    by (place ∷ more, counted, left_is, both) = absurd (omega (arith, counted, done))

-- ---- changes

-- the words of a change, and those behind it
change_front : (change : KeyChange) (rest : List ℕ) → change_words change ++ rest
    ≡ number_words change.sysno ++ (number_words (length change.old) ++ (number_words (length change.new) ++ (place_words change.old ++ (place_words change.new ++ rest))))
unfolding change_words
change_front change rest =
    let sysno = number_words change.sysno in
    let old = number_words (length change.old) in
    let new = number_words (length change.new) in
    let before = place_words change.old in
    let after = place_words change.new in
    append_assoc sysno (old ++ (new ++ (before ++ after))) rest
    ∙ ap (λ (l : List ℕ). sysno ++ l) (append_assoc old (new ++ (before ++ after)) rest)
    ∙ ap (λ (l : List ℕ). sysno ++ (old ++ l)) (append_assoc new (before ++ after) rest)
    ∙ ap (λ (l : List ℕ). sysno ++ (old ++ (new ++ l))) (append_assoc before after rest)

pub takes_change : (words a b c d left : List ℕ) (sysno old new : ℕ) (before between after : List Place) (counts more : List PlaceCounts)
    → TakesNumber words sysno a → TakesNumber a old b → TakesNumber b new c → TakesPlaces c old d before between → TakesPlaces d new left between after
    → more ≡ counts ++ record { sysno = sysno; old = old; new = new } ∷ [] → TakesChange words left counts more before after
takes_change words a b c d left sysno old new before between after counts more one two three four five put change rest is =
    let first = one change.sysno _ (is ∙ change_front change rest) in
    let second = two (length change.old) _ first.1 in
    let third = three (length change.new) _ second.1 in
    let fourth = four change.old _ (sym second.0) third.1 in
    let fifth = five change.new rest (sym third.0) fourth.0 in (
      fifth.0,
      put ∙ (λ i. counts ++ record { sysno = first.0 i; old = second.0 i; new = third.0 i } ∷ []),
      fifth.1 ∙ ap (λ (l : List Place). l ++ change.new) fourth.1 ∙ append_assoc before change.old change.new,
    )

-- what is left to be taken of the changes of a key
abbrev pub AreUnread : KeyNotes → List ℕ → ℕ → List PlaceCounts → List Place → Type 0
AreUnread notes left taken counts places =
    (changes : List KeyChange) → IsNotedIn notes changes
    → (more : List KeyChange) × (notes.count ≡ taken + length more) × (left ≡ words_of_changes more)
    × (counts ++ map counts_in more ≡ map counts_in changes) × (places ++ places_in more ≡ places_in changes)

pub one_read : (notes : KeyNotes) (left behind : List ℕ) (taken : ℕ) (counts now : List PlaceCounts) (places after : List Place) → taken < notes.count
    → AreUnread notes left taken counts places → TakesChange left behind counts now places after → AreUnread notes behind (taken + 1) now after
unfolding words_of_changes
one_read notes left behind taken counts now places after below so_far takes changes noted = by (so_far changes noted)
  where
    by : ((more : List KeyChange) × (notes.count ≡ taken + length more) × (left ≡ words_of_changes more) × (counts ++ map counts_in more ≡ map counts_in changes)
        × (places ++ places_in more ≡ places_in changes))
        → (more : List KeyChange) × (notes.count ≡ (taken + 1) + length more) × (behind ≡ words_of_changes more) × (now ++ map counts_in more ≡ map counts_in changes)
        × (after ++ places_in more ≡ places_in changes)
    by ([], counted, left_is, many, all) = absurd (omega (arith, counted, below))
    by (change ∷ more, counted, left_is, many, all) =
        let told = takes change (words_of_changes more) left_is in (
          more,
          omega (arith, counted),
          told.0,
          ap (λ (l : List PlaceCounts). l ++ map counts_in more) told.1 ∙ append_assoc counts (counts_in change ∷ []) (map counts_in more) ∙ many,
          ap (λ (l : List Place). l ++ places_in more) told.2 ∙ append_assoc places (change.old ++ change.new) (places_in more)
              ∙ ap (λ (l : List Place). places ++ l) (append_assoc change.old change.new (places_in more)) ∙ all,
        )

-- one change more is noted
pub words_more : (changes : List KeyChange) (change : KeyChange) → words_of_changes (changes ++ change ∷ []) ≡ words_of_changes changes ++ change_words change
unfolding words_of_changes
words_more [] change = append-nil (change_words change)
words_more (first ∷ changes) change =
    ap (λ (l : List ℕ). change_words first ++ l) (words_more changes change) ∙ sym (append_assoc (change_words first) (words_of_changes changes) (change_words change))

pub one_noted : (change : KeyChange) → words_of_changes (change ∷ []) ≡ change_words change
unfolding words_of_changes
one_noted change = append-nil (change_words change)

-- a change's words are put one part after the other
pub parts_put : (words : List ℕ) (change : KeyChange)
    → ((((words ++ number_words change.sysno) ++ number_words (length change.old)) ++ number_words (length change.new)) ++ place_words change.old) ++ place_words change.new
    ≡ words ++ change_words change
unfolding change_words
parts_put words change =
    let sysno = number_words change.sysno in
    let old = number_words (length change.old) in
    let new = number_words (length change.new) in
    let before = place_words change.old in
    let after = place_words change.new in
    append_assoc (((words ++ sysno) ++ old) ++ new) before after
    ∙ append_assoc ((words ++ sysno) ++ old) new (before ++ after)
    ∙ append_assoc (words ++ sysno) old (new ++ (before ++ after))
    ∙ append_assoc words sysno (old ++ (new ++ (before ++ after)))

-- one change more
pub noted_more : (before after : KeyNotes) (changes : List KeyChange) (change : KeyChange) → after.count ≡ before.count + 1
    → after.words.items ≡ before.words.items ++ change_words change → IsNotedIn before changes → IsNotedIn after (changes ++ change ∷ [])
noted_more before after changes change one put noted = record {
  count = omega (arith, one, noted.count, length-append changes (change ∷ []));
  words = put ∙ ap (λ (l : List ℕ). l ++ change_words change) noted.words ∙ sym (words_more changes change);
}
