-- The terms of a register from one text to another, and their postings.
use Rattle.std.specs.Prelude.{◌≡◌, ℕ, List, false, map}
use Rattle.std.specs.Ordering.{nat_cmp, is_lt}
use Rattle.std.specs.Cmp.Lexicographic.{slice_cmp}
use Rattle.std.specs.List.Sorted.{IsStrictlySortedBy}
use Rattle.sqlite_rules.specs.Lists.{Has}
use Rattle.zeb_keys.specs.declared.keys.Key.{Key}
use Rattle.zeb_register.specs.declared.registers.RegisterOf.{RegisterOf}
use Rattle.zeb_register.specs.Content.{Content, Posting}
use Rattle.zeb_register.specs.Occurring.{key_in}

-- the text is not below the first one and not above the last one, in the order of their bytes
abbrev pub IsBetween : (first last : List ℕ) → List ℕ → Type 0
IsBetween first last text = (is_lt (slice_cmp nat_cmp text first) ≡ false) × (is_lt (slice_cmp nat_cmp last text) ≡ false)

-- what the content has under a term of the register
abbrev pub term_list : Content → RegisterOf → List ℕ → List Posting
term_list content at term = content at.db.0 (key_in at.index at.register term)

-- a posting that the content has under one of the terms of the register from the first text to the last
abbrev pub IsPostingBetween : Content → RegisterOf → (first last : List ℕ) → Posting → Type 0
IsPostingBetween content at first last p = (term : List ℕ) × IsBetween first last term × Has (term_list content at term) p

-- Keys of the register whose terms stand between the two, rising and each once. Each that has a posting is among them.
pub record AreKeysBetween (content : Content) (at : RegisterOf) (first last : List ℕ) (keys : List Key) : Type 0 where
  pub rising : IsStrictlySortedBy (slice_cmp nat_cmp) (map (λ (key : Key). key.term) keys)
  pub each : (key : Key) → Has keys key → (key ≡ key_in at.index at.register key.term) × IsBetween first last key.term
  pub all : (term : List ℕ) (p : Posting) → IsBetween first last term → Has (term_list content at term) p → Has keys (key_in at.index at.register term)
