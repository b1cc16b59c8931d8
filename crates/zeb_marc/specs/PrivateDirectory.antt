-- What only the contracts of private functions speak of; no public clause reaches it.
-- A directory entry from its twelve bytes (ISO 2709, "Directory").
use Rattle.std.specs.Prelude.{ℕ, List, take, slice_range}
use Rattle.zeb_marc.specs.Directory.{Entry}

-- the entry that twelve bytes are
abbrev pub entry_of : List ℕ → Entry
entry_of bytes = record { tag = take 3 bytes; size = slice_range bytes 3 7; start = slice_range bytes 7 12 }
