-- What only the contracts of private functions speak of; no public clause reaches it.
-- What is answered where a list of checks is made.
use Rattle.std.specs.Prelude.{◌≡◌, List, Some, None, Result, Ok, Err}
use Rattle.zeb_marc.specs.declared.faults.MarcFault.{MarcFault}
use Rattle.zeb_marc.specs.Leader.{Check, first_failing}

-- what is answered where these checks are made: the fault of the first that fails, if one does
abbrev pub Answers : {T : Type 0} → List Check → Result T MarcFault → Type 0
Answers checks (Ok x) = first_failing checks ≡ None
Answers checks (Err fault) = first_failing checks ≡ Some fault
