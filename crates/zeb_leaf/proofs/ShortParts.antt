-- The parts of an entry whose numbers take one byte each, but for the block's.
use Rattle.zeb_leaf.proofs.Cited.{◌≡◌, ℕ, ◌-◌, ◌^◌, ◌<◌, ◌≤◌, List, ◌∷◌, ◌++◌, length, take, drop, sym, ◌∙◌, ap, arith, slice_index, drop-cons, take-append-drop, take_rest, uleb-low, Parts, AreSmall}
use Rattle.zeb_blocks.specs.Numbers.{uleb}
use Rattle.zeb_leaf.specs.Leaves.{counted}
use Rattle.zeb_leaf.specs.PrivateTold.{parts_bytes}
use Rattle.zeb_leaf.proofs.Parts.{counted-append, parts-append}

pub two_first : (xs : List ℕ) → 2 ≤ length xs → xs ≡ slice_index xs 0 ∷ slice_index xs 1 ∷ drop 2 xs
two_first xs long = drop-cons xs 0 0 (omega (arith, long)) ∙ ap (λ (ys : List ℕ). slice_index xs 0 ∷ ys) (drop-cons xs 1 0 (omega (arith, long)))

-- what stands behind a place, cut
pub cut_behind : (xs front back : List ℕ) (place n : ℕ) → front ≡ take n (take (length xs - place) (drop place xs)) → back ≡ drop n (take (length xs - place) (drop place xs))
    → drop place xs ≡ front ++ back
cut_behind xs front back place n front_is back_is =
    sym ((λ i. front_is i ++ back_is i) ∙ take-append-drop n (take (length xs - place) (drop place xs)) ∙ take_rest xs place)

one_number : (n : ℕ) (rest : List ℕ) → n < 128 → uleb n ++ rest ≡ n ∷ rest
one_number n rest low = ap (λ (b : List ℕ). b ++ rest) (uleb-low n low)

one_counted : (n : ℕ) (xs rest : List ℕ) → length xs ≡ n → n < 128 → counted xs ++ rest ≡ n ∷ (xs ++ rest)
one_counted n xs rest long low = counted-append xs rest ∙ ap (λ (k : ℕ). uleb k ++ (xs ++ rest)) long ∙ one_number n (xs ++ rest) low

pub record AreShort (p : Parts) : Type 0 where
  pub shared : p.shared < 128
  pub suffix : length p.suffix < 128
  pub block : p.block < 2 ^ 14
  pub records : p.records < 128
  pub bytes : length p.bytes < 128

pub short_told : (bytes behind end rest : List ℕ) (p : Parts) → AreShort p → bytes ≡ p.shared ∷ length p.suffix ∷ (p.suffix ++ behind) → behind ≡ uleb p.block ++ end → end ≡ p.records ∷ length p.bytes ∷ (p.bytes ++ rest)
    → AreSmall p × (bytes ≡ parts_bytes p ++ rest)
short_told bytes behind end rest p short first second third =
    let small : AreSmall p = record {
      shared = omega (arith, short.shared);
      suffix = omega (arith, short.suffix);
      block = omega (arith, short.block);
      records = omega (arith, short.records);
      bytes = omega (arith, short.bytes);
    } in
    let last = one_counted (length p.bytes) p.bytes rest (λ i. length p.bytes) short.bytes in
    let records = one_number p.records _ short.records ∙ ap (λ (b : List ℕ). p.records ∷ b) last ∙ sym third in
    let back = ap (λ (b : List ℕ). uleb p.block ++ b) records ∙ sym second in
    let own = one_counted (length p.suffix) p.suffix _ (λ i. length p.suffix) short.suffix ∙ ap (λ (b : List ℕ). length p.suffix ∷ (p.suffix ++ b)) back in
    let whole = one_number p.shared _ short.shared ∙ ap (λ (b : List ℕ). p.shared ∷ b) own ∙ sym first in
    (small, sym (parts-append p rest ∙ whole))
