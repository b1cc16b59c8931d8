-- How many rows of `blocks` lists have, those of one pattern more.
use Rattle.zeb_search.proofs.Cited.{◌++◌, ◌∷◌, ◌+◌, [], ℕ, ℤ, List, arith, refl, Symbol, Content, Posting, Fits, EntryRows, WordRows}
use Rattle.zeb_keys.specs.declared.Register.TheVariants as register

module _ (rows : List Posting → ℕ) (content : Content) (db : ℤ) (index : ℕ) where
  pub one_pattern : (pattern : List Symbol) (n : ℕ) → EntryRows rows content db index register.Word (Fits pattern) n → WordRows rows content db index (pattern ∷ []) n
  one_pattern pattern n entries = (n, 0, entries, refl, omega arith)

  -- one pattern more, in front and at the end
  pub pattern_before : (pattern : List Symbol) (patterns : List (List Symbol)) (m n : ℕ) → WordRows rows content db index patterns m → EntryRows rows content db index register.Word (Fits pattern) n
      → WordRows rows content db index (pattern ∷ patterns) (m + n)
  pattern_before pattern patterns m n words entries = (n, m, entries, words, omega arith)

  pub pattern_behind : (patterns : List (List Symbol)) (pattern : List Symbol) (m n : ℕ) → WordRows rows content db index patterns m → EntryRows rows content db index register.Word (Fits pattern) n
      → WordRows rows content db index (patterns ++ pattern ∷ []) (m + n)
  pattern_behind [] pattern m n words entries = (n, 0, entries, refl, omega (arith, words))
  pattern_behind (first ∷ patterns) pattern m n words entries =
      (words.0, words.1 + n, words.2, pattern_behind patterns pattern words.1 n words.3 entries, omega (arith, words.4))
