-- Words that are no flags.
use Rattle.zeb_words.proofs.Cited.{◌≡◌, ◌==◌, ℕ, Bool, refl, [], ◌∷◌, Some, None, true, false, ne_eqb, bytes_eq, long_of, short_of, IsPlain}
use Rattle.zeb_words.specs.Grammar.{Text}

-- what the parser makes of a word that is no flag
pub record IsNoFlag (word : Text) : Type 0 where
  pub ends : bytes_eq word (45 ∷ 45 ∷ []) ≡ false
  pub long : long_of word ≡ None
  pub short : short_of word ≡ None

pub no_flag : (word : Text) → IsPlain word → IsNoFlag word
no_flag [] plain = record { ends = refl; long = refl; short = refl }
no_flag (b ∷ []) plain = by (b == 45) refl
  where
    by : (is : Bool) → b == 45 ≡ is → IsNoFlag (b ∷ [])
    by true e = record { ends = rw e refl; long = rw e refl; short = rw e refl }
    by false e = record { ends = rw e refl; long = rw e refl; short = rw e refl }
no_flag (b ∷ c ∷ rest) plain =
    let e : b == 45 ≡ false = ne_eqb b 45 plain in
    record { ends = rw e refl; long = rw e refl; short = rw e refl }

-- what the parser makes of a word of letters behind a hyphen
pub record IsLetters (b : ℕ) (letters : Text) : Type 0 where
  pub ends : bytes_eq (45 ∷ b ∷ letters) (45 ∷ 45 ∷ []) ≡ false
  pub long : long_of (45 ∷ b ∷ letters) ≡ None
  pub short : short_of (45 ∷ b ∷ letters) ≡ Some (b ∷ letters)

pub are_letters : (b : ℕ) (letters : Text) → b == 45 ≡ false → IsLetters b letters
are_letters b letters e = record { ends = rw e refl; long = rw e refl; short = rw e refl }
