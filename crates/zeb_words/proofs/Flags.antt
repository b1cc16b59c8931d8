-- Flag words: which there are, and which faults come of them.
use Rattle.zeb_words.proofs.Cited.{eqb-true, drop, ◌≡◌, ◌==◌, ℕ, Bool, refl, sym, ap, subst, List, [], ◌∷◌, ◌++◌, Option, Some, None, true, false, length, slice_get, IsUtf8, encode_utf8_all, IsUtf8-past_char, chars_past_char, eqb-false, Rule, Held, arg_by_short, takes_values, attached_value, settle_fault, short_fault, long_fault, Kinds, IsPlain, chars}
use Rattle.std.specs.Char.{encode_utf8}
use Rattle.clap.specs.Faults.{flags_fault}
use Rattle.clap.specs.declared.error.kind.ErrorKind.TheVariants as kind
use Rattle.zeb_words.specs.Grammar.{Text}
use Rattle.zeb_words.proofs.Leads.{none_of_both}

-- ---- the kinds of words

-- a word is no flag, the word `--`, a long flag, or letters
pub data Kind : Text → Type 0 where
  flat : (word : Text) → IsPlain word → Kind word
  dashes : Kind (45 ∷ 45 ∷ [])
  long : (x : ℕ) (xs : Text) → Kind (45 ∷ 45 ∷ x ∷ xs)
  lettered : (b : ℕ) (letters : Text) → b == 45 ≡ false → Kind (45 ∷ b ∷ letters)

pub kind_of_word : (word : Text) → Kind word
kind_of_word [] = flat [] tt
kind_of_word (b ∷ []) = flat (b ∷ []) tt
kind_of_word (b ∷ c ∷ rest) = first (b == 45) refl
  where
    third : (rest : Text) → Kind (45 ∷ 45 ∷ rest)
    third [] = dashes
    third (x ∷ xs) = long x xs

    second : (is : Bool) → c == 45 ≡ is → Kind (45 ∷ c ∷ rest)
    second true e = subst (λ c. Kind (45 ∷ c ∷ rest)) (sym (eqb-true c 45 e)) (third rest)
    second false e = lettered c rest e

    first : (is : Bool) → b == 45 ≡ is → Kind (b ∷ c ∷ rest)
    first true e = subst (λ b. Kind (b ∷ c ∷ rest)) (sym (eqb-true b 45 e)) (second (c == 45) refl)
    first false e = flat (b ∷ c ∷ rest) (eqb-false b 45 e)

-- the first character of letters
pub record First (b : ℕ) (letters : Text) : Type 0 where
  pub char : ℕ
  pub rest : Text
  pub parts : b ∷ letters ≡ encode_utf8 char ++ rest
  pub text : IsUtf8 rest
  pub head : slice_get (chars (b ∷ letters)) 0 ≡ Some char

pub first_of_letters : (b : ℕ) (letters : Text) → IsUtf8 (b ∷ letters) → First b letters
first_of_letters b letters u = by u.0 u.1.1
  where
    by : (cs : List ℕ) → encode_utf8_all cs ≡ b ∷ letters → First b letters
    by [] e = cc
    by (x ∷ xs) e = record {
      char = x;
      rest = encode_utf8_all xs;
      parts = sym e;
      text = IsUtf8-past_char (b ∷ letters) (encode_utf8_all xs) x u (sym e);
      head = ap (λ l. slice_get l 0) (chars_past_char (b ∷ letters) (encode_utf8_all xs) x u (sym e));
    }

-- what follows a hyphen is a text
pub letters_text : (b : ℕ) (letters : Text) → IsUtf8 (45 ∷ b ∷ letters) → IsUtf8 (b ∷ letters)
unfolding encode_utf8
letters_text b letters u = IsUtf8-past_char (45 ∷ b ∷ letters) (b ∷ letters) 45 u refl

-- the fault of letters is that of the first
pub letters_fault : (c : List Rule) (b : ℕ) (letters : Text) (x : ℕ) (h : Held) → slice_get (chars (b ∷ letters)) 0 ≡ Some x
    → flags_fault c false (length (b ∷ letters)) (b ∷ letters) 0 h
    ≡ short_fault c false (arg_by_short c x) (drop (length (encode_utf8 x)) (b ∷ letters)) h
    (flags_fault c false (length letters) (drop (length (encode_utf8 x)) (b ∷ letters)) 0)
unfolding flags_fault
letters_fault c b letters x h head = rw head refl

-- what waits for a value refuses letters
pub unsettled : (c : List Rule) (a : Option Rule) (rest : Text) (h : Held) (next : Held → Kinds) → (settle_fault c false h ≡ [] → ⊥)
    → short_fault c false a rest h next ≡ [] → ⊥
unsettled c None rest h next bare fault = cc
unsettled c (Some a) rest h next bare fault = by (takes_values a) refl (attached_value rest) refl fault
  where
    by : (b : Bool) → takes_values a ≡ b → (v : Option Text) → attached_value rest ≡ v → short_fault c false (Some a) rest h next ≡ [] → ⊥
    by false e v is fault = bare (none_of_both _ _ (none_of_both _ _ (rw e at fault)).0).0
    by true e None is fault = bare (rw (e, is) at fault)
    by true e (Some v) is fault = bare (none_of_both _ _ (rw (e, is) at fault)).0

-- and long flags
pub unsettled_long : (c : List Rule) (a : Option Rule) (value : Option Text) (h : Held) → (settle_fault c false h ≡ [] → ⊥)
    → long_fault c false a value h ≡ [] → ⊥
unsettled_long c None value h bare fault = cc
unsettled_long c (Some a) value h bare fault = by (takes_values a) refl value fault
  where
    by : (b : Bool) → takes_values a ≡ b → (v : Option Text) → long_fault c false (Some a) v h ≡ [] → ⊥
    by false e None fault = bare (none_of_both _ _ (rw e at fault)).0
    by false e (Some v) fault =
        let bad : kind.TooManyValues ∷ [] ≡ [] = rw e at fault in
        cc
    by true e None fault = bare (rw e at fault)
    by true e (Some v) fault = bare (none_of_both _ _ (rw e at fault)).0
