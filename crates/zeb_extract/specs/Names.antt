-- The names of the faults of an identifier, as they are printed (this project's own).
use Rattle.std.specs.Prelude.{ℕ, List, codes}
use Rattle.zeb_extract.specs.Cited.{IdentFault, NoIdentifier, BadIdentifier, Memory}

-- the name of an identifier's fault as it is printed
abbrev pub fault_name : IdentFault → List ℕ
fault_name NoIdentifier = codes "NoIdentifier"
fault_name BadIdentifier = codes "BadIdentifier"
fault_name Memory = codes "Memory"
