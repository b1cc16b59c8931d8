-- The names of a record's faults, as they are printed.
use Rattle.std.specs.Prelude.{ℕ, List, codes}
use Rattle.zeb_change.specs.declared.faults.RecordFault.{RecordFault}
use Rattle.zeb_change.specs.declared.faults.RecordFault.TheVariants.{LengthDigits, LengthRange, Truncated, NoTerminator, LeaderCounts, BaseAddress, DirectoryLength, EntryDigits, EntryTag, EntryRange, FieldEnd, TooManySeparators, NoIdentifier, BadIdentifier}

-- the name of each fault of a record, as it is printed
abbrev pub fault_name : RecordFault → List ℕ
fault_name LengthDigits = codes "LengthDigits"
fault_name LengthRange = codes "LengthRange"
fault_name Truncated = codes "Truncated"
fault_name NoTerminator = codes "NoTerminator"
fault_name LeaderCounts = codes "LeaderCounts"
fault_name BaseAddress = codes "BaseAddress"
fault_name DirectoryLength = codes "DirectoryLength"
fault_name EntryDigits = codes "EntryDigits"
fault_name EntryTag = codes "EntryTag"
fault_name EntryRange = codes "EntryRange"
fault_name FieldEnd = codes "FieldEnd"
fault_name TooManySeparators = codes "TooManySeparators"
fault_name NoIdentifier = codes "NoIdentifier"
fault_name BadIdentifier = codes "BadIdentifier"
