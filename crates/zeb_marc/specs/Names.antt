-- The names of the faults of a record, as they are printed. This project's own rule: ISO 2709 and MARC 21 name no faults.
use Rattle.std.specs.Prelude.{ℕ, List, codes}
use Rattle.zeb_marc.specs.Cited.{MarcFault, LengthDigits, LengthRange, Truncated, NoTerminator, LeaderCounts, BaseAddress, DirectoryLength, EntryDigits, EntryTag, EntryRange, FieldEnd, TooManySeparators, ReadFault}

-- the name of each fault, as it is printed
abbrev pub fault_name : MarcFault → List ℕ
fault_name LengthDigits = codes "LengthDigits"
fault_name LengthRange = codes "LengthRange"
fault_name Truncated = codes "Truncated"
fault_name NoTerminator = codes "NoTerminator"
fault_name LeaderCounts = codes "LeaderCounts"
fault_name BaseAddress = codes "BaseAddress"
fault_name DirectoryLength = codes "DirectoryLength"
fault_name EntryDigits = codes "EntryDigits"
fault_name EntryTag = codes "EntryTag"
fault_name EntryRange = codes "EntryRange"
fault_name FieldEnd = codes "FieldEnd"
fault_name TooManySeparators = codes "TooManySeparators"
fault_name ReadFault = codes "ReadFault"
