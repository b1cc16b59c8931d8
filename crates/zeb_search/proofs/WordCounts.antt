-- What steps of a search count that ask for words, one after the other.
use Rattle.zeb_search.proofs.Cited.{◌++◌, ◌∷◌, [], ℕ, ℤ, List, refl, Symbol, Work, Content, Posting, HasNoStar, CountsRows, EntryDict, WordDict, Fits, EntryRows, WordRows}
use Rattle.zeb_keys.specs.declared.Register.TheVariants as register
use Rattle.zeb_search.proofs.SearchCountLemmas.{rows_still, rows_then}
use Rattle.zeb_search.proofs.DictCounts.{dict_before, dict_behind, one_dict}
use Rattle.zeb_search.proofs.RowCounts.{one_pattern, pattern_before, pattern_behind}

module _ (row_work : ℕ) (rows : List Posting → ℕ) (db : ℤ) (index : ℕ) (content : Content) where
  abbrev terms_of : List (List Symbol) → ℕ → Type 0
  terms_of patterns = WordDict row_work content db index patterns

  abbrev lists_of : List (List Symbol) → ℕ → Type 0
  lists_of patterns = WordRows rows content db index patterns

  abbrev terms_at : List Symbol → ℕ → Type 0
  terms_at pattern = EntryDict row_work content db (HasNoStar pattern) index register.Word

  abbrev lists_at : List Symbol → ℕ → Type 0
  lists_at pattern = EntryRows rows content db index register.Word (Fits pattern)

  -- the words of each of the patterns, and those that one matches
  abbrev CountsWords : List (List Symbol) → Work → Work → Type 0
  CountsWords patterns = CountsRows (terms_of patterns) (lists_of patterns)

  abbrev CountsMatches : List Symbol → Work → Work → Type 0
  CountsMatches pattern = CountsRows (terms_at pattern) (lists_at pattern)

  pub no_words_counted : (w : Work) → CountsWords [] w w
  no_words_counted w = rows_still (terms_of []) (lists_of []) w refl refl

  pub one_word_counted : (pattern : List Symbol) (a b : Work) → CountsMatches pattern a b → CountsWords (pattern ∷ []) a b
  one_word_counted pattern a b x = (x.0, x.1, one_dict row_work content db index pattern x.0 x.2, one_pattern rows content db index pattern x.1 x.3, x.4)

  -- one pattern more, at the end and in front
  module _ (patterns : List (List Symbol)) (pattern : List Symbol) (a b c : Work) (before : CountsWords patterns a b) (here : CountsMatches pattern b c) where
    pub words_behind : CountsWords (patterns ++ pattern ∷ []) a c
    words_behind =
        rows_then (terms_of patterns) (terms_at pattern) (terms_of (patterns ++ pattern ∷ [])) (lists_of patterns) (lists_at pattern) (lists_of (patterns ++ pattern ∷ [])) a b c
        (dict_behind row_work content db index patterns pattern) (pattern_behind rows content db index patterns pattern) before here

    pub words_before : CountsWords (pattern ∷ patterns) a c
    words_before = rows_then (terms_of patterns) (terms_at pattern) (terms_of (pattern ∷ patterns)) (lists_of patterns) (lists_at pattern) (lists_of (pattern ∷ patterns)) a b c
        (dict_before row_work content db index pattern patterns) (pattern_before rows content db index pattern patterns) before here
