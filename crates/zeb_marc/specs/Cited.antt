-- What these definitions cite of std, of the crates below and of the program's types, passed on from one place. Declares nothing.
pub use Rattle.std.specs.Char.{is_ascii_alphanumeric, is_ascii_digit}
pub use Rattle.std.specs.List.{list_all, prefix_len}
pub use Rattle.zeb_marc.specs.declared.faults.MarcFault.{MarcFault}
pub use Rattle.zeb_marc.specs.declared.faults.MarcFault.TheVariants.{BaseAddress, DirectoryLength, EntryDigits, EntryRange, EntryTag, FieldEnd, LeaderCounts, LengthDigits, LengthRange, NoTerminator, ReadFault, TooManySeparators, Truncated}
