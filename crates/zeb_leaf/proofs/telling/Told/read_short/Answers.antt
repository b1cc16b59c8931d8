-- Numbers of one byte, and the block's.
use Rattle.zeb_leaf.proofs.Cited.{◌≡◌, ◌∙◌, ◌∷◌, ◌++◌, ℕ, List, length, sym, ap, arith, slice_index, Parts}
use Rattle.zeb_leaf.proofs.ShortParts.{AreShort, cut_behind, short_told, two_first}
use Rattle.zeb_leaf.proofs.telling.Told.read_short.Goals as goal

pub returns : goal.returns
returns c =
    let bytes = c.args.bytes.now in
    let suffix = c.in_ok-suffix.suffix.now in
    let behind = c.in_ok-suffix.behind_suffix.now in
    let end = c.in_ok-block.behind_block.now in
    let part = c.in_ok-bytes.bytes.now in
    let rest = c.in_ok-bytes.behind.now in
    let one = c.in_ok-suffix.ensures.cases in
    let two = c.in_ok-bytes.ensures.cases in
    let p : Parts = record { shared = c.from-3.result; suffix = suffix; block = c.in_ok-block.block; records = c.from-4.result; bytes = part } in
    let count : length suffix ≡ slice_index bytes 1 = one.3 ∙ c.from.ensures in
    let size : length part ≡ slice_index end 1 = two.3 ∙ c.from-2.ensures in
    let short : AreShort p = record {
      shared = omega (arith, c.from-3.ensures, c.if-shared-ge128.false);
      suffix = omega (arith, count, c.if-count-ge128.false);
      block = c.in_ok-block.ensures.0;
      records = omega (arith, c.from-4.ensures, c.if-records-ge128.false);
      bytes = omega (arith, size, c.if-size-ge128.false);
    } in
    let first : bytes ≡ p.shared ∷ length suffix ∷ (suffix ++ behind) =
    two_first bytes c.in-len2-up.len_at_least ∙ ap (λ (b : List ℕ). slice_index bytes 0 ∷ slice_index bytes 1 ∷ b) (cut_behind bytes suffix behind 2 c.from.result one.1 one.2)
    ∙ (λ i. sym c.from-3.ensures i ∷ sym count i ∷ (suffix ++ behind)) in
    let third : end ≡ p.records ∷ length part ∷ (part ++ rest) =
    two_first end c.in-len2-up-behind_block.len_at_least ∙ ap (λ (b : List ℕ). slice_index end 0 ∷ slice_index end 1 ∷ b) (cut_behind end part rest 2 c.from-2.result two.1 two.2)
    ∙ (λ i. sym c.from-4.ensures i ∷ sym size i ∷ (part ++ rest)) in
    short_told bytes behind end rest p short first c.in_ok-block.ensures.1 third
