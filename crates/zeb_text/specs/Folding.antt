-- Folding: the key of canonical caseless matching (The Unicode Standard, section 3.13, D145), without the combining
-- diacritical marks (the block U+0300 to U+036F). That these marks are dropped is this project's own rule. Texts are lists of code points.
use Rattle.std.specs.Prelude.{ℕ, Bool, ◌&&◌, not, List, filter, nat_le}
use Rattle.unicode_normalization.specs.Forms.{nfd}
use Rattle.caseless.specs.Caseless.{default_case_fold}

-- a character of the block Combining Diacritical Marks
abbrev pub is_diacritical_mark : ℕ → Bool
is_diacritical_mark c = nat_le 0x300 c && nat_le c 0x36F

-- NFD, default case folding, NFD, and the marks U+0300 to U+036F dropped (the Unicode Standard's canonical caseless
-- matching, D145; that marks are dropped is this project's own rule)
unfoldable pub folded : List ℕ → List ℕ
folded text = filter (λ c. not (is_diacritical_mark c)) (nfd (default_case_fold (nfd text)))
