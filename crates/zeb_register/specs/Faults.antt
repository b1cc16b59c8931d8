-- Why a call on the tables is refused: which refusal a failure of the store is told as, and one of rows, and how each is printed.
use Rattle.std.specs.Prelude.{ℕ, List, codes}
use Rattle.sqlite.specs.declared.error.Error.{Error}
use Rattle.sqlite.specs.declared.error.Error.TheVariants.{SqliteFailure}
use Rattle.sqlite.specs.declared.error.ErrorCode.TheVariants.{OutOfMemory}
use Rattle.zeb_register.specs.declared.faults.RegFault.{RegFault}
use Rattle.zeb_register.specs.declared.faults.RegFault.TheVariants.{Damaged, Store, Memory}
use Rattle.zeb_register.specs.declared.faults.RowFault.{RowFault}
use Rattle.zeb_register.specs.declared.faults.RowFault.TheVariants.{Damaged as DamagedRow, Memory as NoMemory}

-- want of memory is told as such, and every other failure as one of the store
abbrev pub fault_of : Error → RegFault
fault_of (SqliteFailure OutOfMemory) = Memory
fault_of _ = Store

-- rows that tell nothing are told of a call as what they are: damage, or want of memory
abbrev pub fault_of_rows : RowFault → RegFault
fault_of_rows DamagedRow = Damaged
fault_of_rows NoMemory = Memory

-- the name of each refusal of the tables, as it is printed
abbrev pub fault_name : RegFault → List ℕ
fault_name Damaged = codes "Damaged"
fault_name Store = codes "Store"
fault_name Memory = codes "Memory"
