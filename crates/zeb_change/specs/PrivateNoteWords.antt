-- What only the contracts of private functions speak of; no public clause reaches it.
-- Notes are read: numbers, places and changes are taken from the front of words. Of words that don't begin so nothing is said.
use Rattle.std.specs.Prelude.{◌≡◌, ℕ, List, [], ◌∷◌, ◌++◌, length}
use Rattle.zeb_register.specs.declared.registers.Place.{Place}
use Rattle.zeb_change.specs.declared.key_notes.PlaceCounts.{PlaceCounts}
use Rattle.zeb_change.specs.NoteWords.{KeyChange, change_words, number_words, place_words}

-- the number is taken, and this is left
abbrev pub TakesNumber : List ℕ → ℕ → List ℕ → Type 0
TakesNumber words number left = (n : ℕ) (rest : List ℕ) → words ≡ number_words n ++ rest → (number ≡ n) × (left ≡ rest)

-- so many places are taken, and put behind others
abbrev pub TakesPlaces : List ℕ → ℕ → List ℕ → List Place → List Place → Type 0
TakesPlaces words count left old new =
    (taken : List Place) (rest : List ℕ) → length taken ≡ count → words ≡ place_words taken ++ rest → (left ≡ rest) × (new ≡ old ++ taken)

abbrev pub counts_in : KeyChange → PlaceCounts
counts_in change = record { sysno = change.sysno; old = length change.old; new = length change.new }

-- the places of the changes, one behind the other
abbrev pub places_in : List KeyChange → List Place
places_in [] = []
places_in (change ∷ changes) = change.old ++ (change.new ++ places_in changes)

-- a change is taken, and put behind others
abbrev pub TakesChange : List ℕ → List ℕ → List PlaceCounts → List PlaceCounts → List Place → List Place → Type 0
TakesChange words left old new places more =
    (change : KeyChange) (rest : List ℕ) → words ≡ change_words change ++ rest
    → (left ≡ rest) × (new ≡ old ++ counts_in change ∷ []) × (more ≡ places ++ (change.old ++ change.new))

-- so many places are cut off of others
abbrev pub IsCutOff : List Place → ℕ → List Place → List Place → Type 0
IsCutOff places count front back =
    (one two : List Place) → length one ≡ count → places ≡ one ++ two → (front ≡ one) × (back ≡ two)
