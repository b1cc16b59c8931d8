-- The lines of a refusal, of an input that can't be read, and of words that aren't understood (this program's own).
use Rattle.std.specs.Prelude.{ℕ, List, [], ◌∷◌, ◌++◌, codes}
use Rattle.zeb_change.specs.declared.refusals.Refusal.{Refusal}
use Rattle.zeb_engine.specs.Refusals.{refusal_text}
use Rattle.zeb_words.specs.Misuses.{misuse_text}
use Rattle.zeb_words.specs.declared.misuses.Misuse.{Misuse}

abbrev pub refusal_line : Refusal → List ℕ
refusal_line why = refusal_text why ++ 10 ∷ []

-- of want of memory in the program itself
abbrev pub starved_line : List ℕ
starved_line = codes "zebraidx: out of memory" ++ 10 ∷ []

-- of what is expected in place of an empty input
abbrev pub expected_line : List ℕ
expected_line = codes "zebraidx: cause: an empty input, where a script is expected: a profile, a line '.', commands (see zebraidx help)" ++ 10 ∷ []

abbrev pub unreadable_line : List ℕ
unreadable_line = codes "zebraidx: cannot read input" ++ 10 ∷ []

abbrev pub usage_line : List ℕ
usage_line = codes "zebraidx: bad usage" ++ 10 ∷ []

-- of why words are misused
abbrev pub misuse_line : Misuse → List ℕ
misuse_line misuse = codes "zebraidx: cause: " ++ misuse_text misuse ++ 10 ∷ []
