-- A text in ASCII folds to the same letters in lower case.
use Rattle.zeb_text.proofs.Cited.{◌≡◌, ℕ, ◌<◌, List, [], ◌∷◌, not, filter, map, refl, ap, sym, ◌∙◌, arith, nat_tests, true, All, All-nil, All-cons, All-head, All-tail, chars, encode_utf8_all, encode_ascii}
use Rattle.caseless.proofs.CaselessLemmas.{All-chars, canonical_key-ascii, default_case_fold-ascii}
use Rattle.std.proofs.lemmas.Str.{chars-IsAscii}
use Rattle.std.proofs.lemmas.Str.Ascii.{lowercase_ascii}
use Rattle.std.specs.Char.{to_ascii_lowercase}
use Rattle.std.specs.Prelude.{IsAscii}
use Rattle.zeb_text.specs.Folding.{folded, is_diacritical_mark}

all_lower : (cs : List ℕ) → All (λ c. c < 128) cs → All (λ c. c < 128) (map to_ascii_lowercase cs)
all_lower [] all = All-nil _
all_lower (c ∷ cs) all = All-cons (λ d. d < 128) _ _ (lowercase_ascii c (All-head (λ d. d < 128) c cs all)) (all_lower cs (All-tail (λ d. d < 128) c cs all))

no_mark : (c : ℕ) → c < 128 → not (is_diacritical_mark c) ≡ true
no_mark c below = grind (arith, nat_tests)

all_kept : (cs : List ℕ) → All (λ c. c < 128) cs → filter (λ c. not (is_diacritical_mark c)) cs ≡ cs
all_kept [] all = refl
all_kept (c ∷ cs) all = rw (no_mark c (All-head (λ d. d < 128) c cs all)) (ap (λ rest. c ∷ rest) (all_kept cs (All-tail (λ d. d < 128) c cs all)))

encoded : (cs : List ℕ) → All (λ c. c < 128) cs → encode_utf8_all cs ≡ cs
encoded [] all = refl
encoded (c ∷ cs) all = rw (encode_ascii c (All-head (λ d. d < 128) c cs all)) (ap (λ rest. c ∷ rest) (encoded cs (All-tail (λ d. d < 128) c cs all)))

pub folded_ascii : (bytes : List ℕ) → IsAscii bytes → map to_ascii_lowercase bytes ≡ encode_utf8_all (folded (chars bytes))
unfolding folded
folded_ascii bytes ascii =
    let all : All (λ c. c < 128) (chars bytes) = All-chars bytes ascii in
    let lower = all_lower (chars bytes) all in
    let same = canonical_key-ascii (chars bytes) all ∙ default_case_fold-ascii (chars bytes) all in
    ap (map to_ascii_lowercase) (sym (chars-IsAscii bytes ascii)) ∙ sym (encoded (map to_ascii_lowercase (chars bytes)) lower)
    ∙ ap encode_utf8_all (sym (ap (filter (λ c. not (is_diacritical_mark c))) same ∙ all_kept (map to_ascii_lowercase (chars bytes)) lower))
