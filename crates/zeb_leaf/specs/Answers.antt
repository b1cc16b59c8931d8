-- What is answered of a leaf.
use Rattle.std.specs.Prelude.{ℕ, List, Result, Ok, Err}
use Rattle.zeb_leaf.specs.declared.entries.Entry.{Entry}
use Rattle.zeb_leaf.specs.declared.entries.Held.{Held}
use Rattle.zeb_leaf.specs.declared.entries.LeafFault.{LeafFault}
use Rattle.zeb_leaf.specs.declared.entries.LeafFault.TheVariants.{Malformed, Memory}

-- `Malformed` is told because of this; memory may run out in any call
abbrev pub IsTold : Type 0 → LeafFault → Type 0
IsTold Bad Malformed = Bad
IsTold Bad Memory = Unit {0}

-- an answer is what was done, or `Malformed` because of this, or want of memory
abbrev pub Answers : {T : Type 0} → Type 0 → (T → Type 0) → Result T LeafFault → Type 0
Answers Bad Done (Ok x) = Done x
Answers Bad Done (Err fault) = IsTold Bad fault

-- the entry of a term that has this beside it
abbrev pub entry_of : List ℕ → Held → Entry
entry_of term held = record { term = term; block = held.block; records = held.records; bytes = held.bytes.now }
