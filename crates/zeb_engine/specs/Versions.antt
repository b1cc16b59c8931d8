-- The order of layouts, by the versions that stores keep of them: an upgrade goes from an earlier one to a later one.
use Rattle.std.specs.Prelude.{◌&&◌, ◌||◌, ℕ, Bool, List}
use Rattle.std.specs.Str.{bytes_eq}
use Rattle.zeb_register.specs.Formats.{packed_blocks, packed_leaves, plain_rows, version_of}

-- Plain rows are earlier than packed blocks, and both than packed leaves. No other text is earlier or later than one.
unfoldable pub is_earlier : (version own : List ℕ) → Bool
is_earlier version own =
    (bytes_eq version (version_of plain_rows) && (bytes_eq own (version_of packed_blocks) || bytes_eq own (version_of packed_leaves)))
    || (bytes_eq version (version_of packed_blocks) && bytes_eq own (version_of packed_leaves))

-- an upgrade to a layout takes its own version and the earlier ones
unfoldable pub is_taken : (version own : List ℕ) → Bool
is_taken version own = bytes_eq version own || is_earlier version own
