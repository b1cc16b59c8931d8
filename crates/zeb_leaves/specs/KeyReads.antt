-- What calls that read tell of keys in leaves, on any rows of a store, where zeb_register asks nothing of every layout.
use Rattle.std.specs.Prelude.{◌≡◌, ◌↔◌, ◌++◌, ℕ, ℤ, List, [], ◌∷◌, Result, Vec}
use Rattle.std.specs.declared.alloc.Global.{Global}
use Rattle.std.specs.List.Sorted.{IsStrictlySortedBy}
use Rattle.sqlite.specs.State.{State}
use Rattle.sqlite.specs.Tree.{Trees}
use Rattle.sqlite_rules.specs.Lists.{Has}
use Rattle.zeb_blocks.specs.declared.postings.Posting.{Posting}
use Rattle.zeb_keys.specs.declared.keys.Key.{Key}
use Rattle.zeb_leaf.specs.Order.{entry_cmp}
use Rattle.zeb_leaf.specs.declared.entries.Entry.{Entry}
use Rattle.zeb_register.specs.Between.{IsBetween}
use Rattle.zeb_register.specs.Clauses.{Tells}
use Rattle.zeb_register.specs.LeafUnits.{AreLeavesMiscounted, IsLeafOf, LeavesCount}
use Rattle.zeb_register.specs.Occurring.{key_in}
use Rattle.zeb_register.specs.Readings.{IsEntryOf, SaysPart}
use Rattle.zeb_register.specs.Answers.{LooksInto}
use Rattle.zeb_register.specs.declared.faults.RegFault.{RegFault}
use Rattle.zeb_register.specs.declared.registers.RegisterOf.{RegisterOf}

-- a call that changes nothing tells how many records have the key, or is refused as Damaged only where it has no count
abbrev pub CountsLeafKey : ℤ → Key → State → State → Result ℕ RegFault → Type 0
CountsLeafKey db key = LooksInto (λ trees. AreLeavesMiscounted trees db key) (λ trees records. LeavesCount trees db key records)

-- ---- neighbouring terms, in turn

-- entries say these postings, one behind the other
abbrev pub SayParts : List Entry → List Posting → Type 0
SayParts [] list = list ≡ []
SayParts (e ∷ entries) list = (part : List Posting) × (rest : List Posting) × SaysPart e part × SayParts entries rest × (list ≡ part ++ rest)

-- the entries of the terms from one text to another, each in the leaf that covers its block, as terms and blocks rise
pub record AreEntriesBetween (trees : Trees) (at : RegisterOf) (first last : List ℕ) (own : List Entry) : Type 0 where
  pub rising : IsStrictlySortedBy entry_cmp own
  pub each : (e : Entry) → Has own e ↔ (IsBetween first last e.term × IsEntryOf (IsLeafOf trees at.db.0 (key_in at.index at.register [])) e.term e)

-- an accepted call tells what these say, one behind the other: each block of each of the terms once
abbrev pub TellsInTurn : RegisterOf → (first last : List ℕ) → State → State → Result (Vec Posting Global) RegFault → Type 0
TellsInTurn at first last old new result =
    Tells old new result (λ (trees : Trees) (list : Vec Posting Global). (own : List Entry) × AreEntriesBetween trees at first last own × SayParts own list.items)
