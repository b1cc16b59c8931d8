-- How a pattern grows.
use Rattle.zeb_text.proofs.Cited.{◌≡◌, ℕ, ◌<◌, ◌≤◌, List, [], ◌∷◌, ◌++◌, length, refl, sym, ap, subst, ◌∙◌, arith, chars, IsUtf8, encode_utf8, Result, Ok, Err, OnOk, Contains, if◌then◌else◌, is_ok, IsScalar, append_assoc, append-nil, map-append, length-append, get_or_at, chars-append, chars-nil, chars_past_char, IsUtf8-encode, joined_patterns, Symbol, Char, Star, literal, starred}

pub starred-append : (texts : List (List ℕ)) (last more : List ℕ) → starred texts (last ++ more) ≡ starred texts last ++ literal more
starred-append [] last more = map-append Char last more
starred-append (text ∷ texts) last more =
    ap (λ rest. literal text ++ Star ∷ rest) (starred-append texts last more) ∙ sym (append_assoc (literal text) (Star ∷ starred texts last) (literal more))

pub starred-star : (texts : List (List ℕ)) (last : List ℕ) → starred (texts ++ last ∷ []) [] ≡ starred texts last ++ Star ∷ []
starred-star [] last = refl
starred-star (text ∷ texts) last =
    ap (λ rest. literal text ++ Star ∷ rest) (starred-star texts last) ∙ sym (append_assoc (literal text) (Star ∷ starred texts last) (Star ∷ []))

-- another text at the end
pub starred-text : (texts : List (List ℕ)) (last more : List ℕ) → IsUtf8 last → starred texts (chars (last ++ more)) ≡ starred texts (chars last) ++ literal (chars more)
starred-text texts last more utf8 = ap (starred texts) (chars-append last more utf8) ∙ starred-append texts (chars last) (chars more)

-- a character at the end
pub chars-encode : (c : ℕ) → IsScalar c → chars (encode_utf8 c) ≡ c ∷ []
chars-encode c scalar = chars_past_char (encode_utf8 c) [] c (IsUtf8-encode c scalar) (sym (append-nil (encode_utf8 c))) ∙ ap (λ rest. c ∷ rest) chars-nil

pub starred-char : (texts : List (List ℕ)) (last : List ℕ) (c : ℕ) → IsUtf8 last → IsScalar c → starred texts (chars (last ++ encode_utf8 c)) ≡ starred texts (chars last) ++ Char c ∷ []
starred-char texts last c utf8 scalar = starred-text texts last (encode_utf8 c) utf8 ∙ ap (λ text. starred texts (chars last) ++ literal text) (chars-encode c scalar)

-- one more text with a star after it
pub starred-piece : (texts : List (List ℕ)) (text : List ℕ) → starred (texts ++ text ∷ []) [] ≡ (starred texts [] ++ literal text) ++ Star ∷ []
starred-piece texts text = starred-star texts text ∙ ap (λ front. front ++ Star ∷ []) (starred-append texts [] text)

-- what a call left, where it answered `Ok`
pub on_ok : {T E A : Type 0} (P : A → Type 0) (r : Result T E) (x y z : A) → x ≡ (if is_ok r then y else z) → P y → OnOk r (P x)
on_ok P (Ok v) x y z e h = subst P (sym e) h
on_ok P (Err f) x y z e h = tt

-- a text with a star after it holds a star
pub Contains-star : (texts : List (List ℕ)) (last : List ℕ) → 0 < length texts → Contains (starred texts last) Star
Contains-star [] last some = absurd (omega arith)
Contains-star (text ∷ texts) last some =
    (length (literal text), omega (arith, length-append (literal text) (Star ∷ starred texts last)), get_or_at (literal text) Star (starred texts last) Star (length (literal text)) refl)

-- patterns with spaces between, one more pattern at the end
join-push : (x : List Symbol) (xs : List (List Symbol)) (y : List Symbol) → joined_patterns ((x ∷ xs) ++ y ∷ []) ≡ (joined_patterns (x ∷ xs) ++ Char 32 ∷ []) ++ y
join-push x [] y = sym (append_assoc x (Char 32 ∷ []) y)
join-push x (z ∷ zs) y =
    ap (λ rest. x ++ Char 32 ∷ rest) (join-push z zs y)
    ∙ sym (append_assoc x (Char 32 ∷ (joined_patterns (z ∷ zs) ++ Char 32 ∷ [])) y)
    ∙ ap (λ front. front ++ y) (sym (append_assoc x (Char 32 ∷ joined_patterns (z ∷ zs)) (Char 32 ∷ [])))

pub join-more : (xs : List (List Symbol)) (y : List Symbol) → 0 < length xs → joined_patterns (xs ++ y ∷ []) ≡ (joined_patterns xs ++ Char 32 ∷ []) ++ y
join-more [] y some = absurd (omega arith)
join-more (x ∷ xs) y some = join-push x xs y

pub join-first : (xs : List (List Symbol)) (y : List Symbol) → length xs ≤ 0 → joined_patterns (xs ++ y ∷ []) ≡ joined_patterns xs ++ y
join-first [] y none = refl
join-first (x ∷ xs) y none = absurd (omega arith)
