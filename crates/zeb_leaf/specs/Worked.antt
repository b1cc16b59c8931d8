-- Worked leaves: what their entries are made of.
use Rattle.std.specs.Prelude.{ℕ, List}
use Rattle.zeb_leaf.specs.declared.entries.Entry.{Entry}

-- the entry with this term, block, number of records, and block's bytes
abbrev pub entry : List ℕ → ℕ → ℕ → List ℕ → Entry
entry term block records bytes = record { term = term; block = block; records = records; bytes = bytes }
