-- The text of a profile's fault, as it is printed (this project's own).
use Rattle.std.specs.Prelude.{ℕ, List, ◌++◌, codes, decimal}
use Rattle.zeb_profile.specs.Cited.{ProfileFault, ProfileFaultKind}
use Rattle.zeb_profile.specs.declared.faults.ProfileFaultKind.TheVariants.{Directive, Name, Register, Pattern, DuplicateTarget, DuplicateUse, UnknownIndex, NoIdentifier, TwoIdentifiers, TwoAlls, TwoStores, NoStore, TooManyIndexes, Memory}

-- the name of a profile's fault, as it is printed
abbrev pub fault_name : ProfileFaultKind → List ℕ
fault_name Directive = codes "Directive"
fault_name Name = codes "Name"
fault_name Register = codes "Register"
fault_name Pattern = codes "Pattern"
fault_name DuplicateTarget = codes "DuplicateTarget"
fault_name DuplicateUse = codes "DuplicateUse"
fault_name UnknownIndex = codes "UnknownIndex"
fault_name NoIdentifier = codes "NoIdentifier"
fault_name TwoIdentifiers = codes "TwoIdentifiers"
fault_name TwoAlls = codes "TwoAlls"
fault_name TwoStores = codes "TwoStores"
fault_name NoStore = codes "NoStore"
fault_name TooManyIndexes = codes "TooManyIndexes"
fault_name Memory = codes "Memory"

-- a fault with its line, behind the name of the file or the input
abbrev pub fault_text : ProfileFault → List ℕ
fault_text fault = codes "line " ++ decimal fault.line ++ codes ": " ++ fault_name fault.kind
