-- Numbers as ULEB128 writes them (DWARF 5, 7.6): groups of seven bits, the lowest first, each in a byte; each byte but the last has
-- its high bit set, which adds 128.
use Rattle.std.specs.Prelude.{ℕ, zero, suc, ◌+◌, ◌/◌, ◌%◌, nat_lt, if◌then◌else◌, List, [], ◌∷◌}

-- a number in one byte, or in its lowest group and then the rest of it, in at most `more` bytes before the last
unfoldable pub groups : ℕ → ℕ → List ℕ
groups zero n = n ∷ []
groups (suc more) n = if nat_lt n 128 then n ∷ [] else (n % 128 + 128) ∷ groups more (n / 128)

-- the shortest form of a number below 2^70, which ten bytes hold
unfoldable pub uleb : ℕ → List ℕ
uleb n = groups 9 n
