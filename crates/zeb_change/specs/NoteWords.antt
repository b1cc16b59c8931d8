-- How the changes of a key are noted: in words of 16 bits, one change behind the other. This coding is the project's own.
use Rattle.std.specs.Prelude.{ℕ, ◌/◌, ◌%◌, nat_lt, if◌then◌else◌, List, [], ◌∷◌, ◌++◌, length}
use Rattle.zeb_register.specs.declared.registers.Place.{Place}

-- what becomes of one key's places in one record: those that stood there, and those that stand there then
pub record KeyChange : Type 0 where
  pub sysno : ℕ
  pub old : List Place
  pub new : List Place

-- a number below 65535 is one word; another is the word 65535 and four words for its bits, the lowest first
unfoldable pub number_words : ℕ → List ℕ
number_words n =
    if nat_lt n 65535 then n ∷ []
    else 65535 ∷ n % 65536 ∷ n / 65536 % 65536 ∷ n / 65536 / 65536 % 65536 ∷ n / 65536 / 65536 / 65536 ∷ []

unfoldable pub place_words : List Place → List ℕ
place_words [] = []
place_words (place ∷ places) = number_words place.seq ++ (number_words place.pos ++ place_words places)

-- the record, how many places of it there are of either kind, and these places
unfoldable pub change_words : KeyChange → List ℕ
change_words change =
    number_words change.sysno ++ (number_words (length change.old) ++ (number_words (length change.new)
    ++ (place_words change.old ++ place_words change.new)))

-- the words of several changes, one change behind the other
unfoldable pub words_of_changes : List KeyChange → List ℕ
words_of_changes [] = []
words_of_changes (change ∷ changes) = change_words change ++ words_of_changes changes
