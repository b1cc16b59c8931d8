-- How long a folded text is.
use Rattle.zeb_text.proofs.Cited.{ℕ, ◌*◌, ◌≤◌, not, List, [], ◌∷◌, length, encode_utf8, encode_utf8_all, arith, count_by-le-length, length-filter, length-encode, len_utf8_bounds, default_case_fold, length-default_case_fold, Nfd, nfd, length-normalize, is_diacritical_mark}
use Rattle.std.proofs.Common.{length-append}
use Rattle.zeb_text.specs.Folding.{folded}

-- a character takes four bytes at most
pub encoded_few : (cs : List ℕ) → length (encode_utf8_all cs) ≤ 4 * length cs
encoded_few [] = omega arith
encoded_few (c ∷ cs) = omega (arith, length-append (encode_utf8 c) (encode_utf8_all cs), length-encode c, (len_utf8_bounds c).1, encoded_few cs)

nfd_few : (cs : List ℕ) → length (nfd cs) ≤ 8 * length cs
nfd_few cs = let twice : length (nfd cs) ≤ 2 * length (encode_utf8_all cs) = length-normalize Nfd cs in omega (arith, twice, encoded_few cs)

fold_few : (cs : List ℕ) → length (default_case_fold cs) ≤ 8 * length cs
fold_few cs = omega (arith, length-default_case_fold cs, encoded_few cs)

pub folded_few : (text : List ℕ) → length (folded text) ≤ 512 * length text
unfolding folded
folded_few text =
    let marked = nfd (default_case_fold (nfd text)) in
    omega (
      arith,
      length-filter (λ c. not (is_diacritical_mark c)) marked,
      count_by-le-length (λ c. not (is_diacritical_mark c)) marked,
      nfd_few (default_case_fold (nfd text)),
      fold_few (nfd text),
      nfd_few text,
    )
