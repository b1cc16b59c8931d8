-- What folding keeps.
use Rattle.zeb_text.proofs.Cited.{◌≡◌, ℕ, ◌<◌, true, not, List, [], ◌∷◌, filter, map, All, refl, sym, ap, ◌∙◌, arith, cases_Bool, nat_tests, inl, inr, nfd, default_case_fold, All-cons, All-head, All-nil, All-tail, is_diacritical_mark}
use Rattle.std.specs.Char.{to_ascii_lowercase}
use Rattle.caseless.specs.Caseless.{canonical_key}
use Rattle.caseless.proofs.CaselessLemmas.{default_case_fold-ascii, canonical_key-ascii}
use Rattle.zeb_text.specs.Folding.{folded}

abbrev kept : List ℕ → List ℕ
kept = filter (λ c. not (is_diacritical_mark c))

pub folded-by_key : (text : List ℕ) → folded text ≡ kept (canonical_key text)
unfolding folded
folded-by_key text = refl

-- dropping twice drops no more
kept_twice : (cs : List ℕ) → kept (kept cs) ≡ kept cs
kept_twice [] = refl
kept_twice (c ∷ cs) = elim (cases_Bool (not (is_diacritical_mark c))) [
  | inl stays ↦ rw (stays, stays) (ap (λ rest. c ∷ rest) (kept_twice cs))
  | inr goes ↦ rw goes (kept_twice cs)
]

pub folded_once : (text : List ℕ) → nfd (folded text) ≡ folded text → default_case_fold (folded text) ≡ folded text → folded (folded text) ≡ folded text
folded_once text decomposed caseless =
    let key : canonical_key (folded text) ≡ folded text = ap (λ cs. nfd (default_case_fold cs)) decomposed ∙ ap nfd caseless ∙ decomposed in
    folded-by_key (folded text) ∙ ap kept (key ∙ folded-by_key text) ∙ kept_twice (canonical_key text) ∙ sym (folded-by_key text)

-- ASCII has no marks
no_mark : (c : ℕ) → c < 128 → not (is_diacritical_mark c) ≡ true
no_mark c small = grind (arith, nat_tests)

kept-ascii : (cs : List ℕ) → All (λ c. c < 128) cs → kept cs ≡ cs
kept-ascii [] all = refl
kept-ascii (c ∷ cs) all =
    let plain : not (is_diacritical_mark c) ≡ true = no_mark c (All-head (λ d. d < 128) c cs all) in
    rw plain (ap (λ rest. c ∷ rest) (kept-ascii cs (All-tail (λ d. d < 128) c cs all)))

lower : (c : ℕ) → c < 128 → to_ascii_lowercase c < 128
lower c small = grind (arith, nat_tests)

All-lower : (cs : List ℕ) → All (λ c. c < 128) cs → All (λ c. c < 128) (map to_ascii_lowercase cs)
All-lower [] all = All-nil (λ c. c < 128)
All-lower (c ∷ cs) all = All-cons (λ d. d < 128) (to_ascii_lowercase c) (map to_ascii_lowercase cs) (lower c (All-head (λ d. d < 128) c cs all)) (All-lower cs (All-tail (λ d. d < 128) c cs all))

pub folded-ascii : (cs : List ℕ) → All (λ c. c < 128) cs → folded cs ≡ map to_ascii_lowercase cs
folded-ascii cs all =
    folded-by_key cs ∙ ap kept (canonical_key-ascii cs all ∙ default_case_fold-ascii cs all) ∙ kept-ascii (map to_ascii_lowercase cs) (All-lower cs all)
