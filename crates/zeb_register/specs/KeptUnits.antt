-- What a change in leaves leaves as it was. A leaf says units of many keys, and a change may part it: so what stays is told unit by unit, and
-- row by row only where a row is of no register that is changed.
use Rattle.std.specs.Prelude.{◌≡◌, ◌⊎◌, ◌↔◌, ◌++◌, ℕ, ℤ, pos, List}
use Rattle.sqlite.specs.declared.types.Value.TheVariants.{Int}
use Rattle.sqlite.specs.Order.{Row, column}
use Rattle.sqlite.specs.Tree.{Trees}
use Rattle.zeb_keys.specs.declared.keys.Key.{Key}
use Rattle.zeb_register.specs.declared.registers.Place.{Place}
use Rattle.zeb_register.specs.HeldLeaves.{AreAloneIn, IsAnyLeaf}
use Rattle.zeb_register.specs.LeafUnits.{AreLeavesMiscounted, IsLeafMalformed, LeavesCount, LeavesRead}
use Rattle.zeb_register.specs.PlainRows.{register_front}
use Rattle.zeb_register.specs.Sql.{HasRow}
use Rattle.zeb_register.specs.Store.{blocks_tree, dict_tree, postings_tree}

-- the unit is one of those that are changed, all of one database, each told by its key and the number of its record
abbrev pub HasUnit : ℤ → (Key → ℕ → Type 0) → ℤ → Key → ℕ → Type 0
HasUnit db Changed d key sysno = (d ≡ db) × Changed key sysno

-- the key has one of the units that are changed, all of one database, each told by its key and the number of its record
abbrev pub HasKeyUnit : ℤ → (Key → ℕ → Type 0) → ℤ → Key → Type 0
HasKeyUnit db Changed d key = (sysno : ℕ) × HasUnit db Changed d key sysno

-- the row is a leaf of a register of one of them
abbrev pub IsLeafAmong : ℤ → (Key → ℕ → Type 0) → Row → Type 0
IsLeafAmong db Changed row =
    (key : Key) × (sysno : ℕ) × Changed key sysno × (leaf : Row) × (block : ℕ)
    × (row ≡ register_front db key.index key.register ++ leaf) × (column leaf 1 ≡ Int (pos block))

-- Each other unit of any database reads as it did and is malformed where it was, and each key without one of them counts as it did. Where no
-- entry of a register stood beside what is read of it, none does, whatever other registers have. A row that comes is a leaf of some register, and
-- each row that isn't a leaf of a register with one of these units is as it was.
pub record KeepsUnits (db : ℤ) (Changed : Key → ℕ → Type 0) (old new : Trees) : Type 0 where
  pub reads : (d : ℤ) (key : Key) (sysno : ℕ) → ¬ HasUnit db Changed d key sysno → (places : List Place) → LeavesRead old d key sysno places ↔ LeavesRead new d key sysno places
  pub malformed : (d : ℤ) (key : Key) (sysno : ℕ) → ¬ HasUnit db Changed d key sysno → IsLeafMalformed old d key sysno ↔ IsLeafMalformed new d key sysno
  pub counts : (d : ℤ) (key : Key) → ¬ HasKeyUnit db Changed d key → (records : ℕ) → LeavesCount old d key records ↔ LeavesCount new d key records
  pub miscounted : (d : ℤ) (key : Key) → ¬ HasKeyUnit db Changed d key → AreLeavesMiscounted old d key ↔ AreLeavesMiscounted new d key
  pub alone : (d : ℤ) (key : Key) → AreAloneIn old d key → AreAloneIn new d key
  pub shaped : (row : Row) → HasRow new blocks_tree row → HasRow old blocks_tree row ⊎ IsAnyLeaf row
  pub blocks : (row : Row) → ¬ IsLeafAmong db Changed row → HasRow new blocks_tree row ↔ HasRow old blocks_tree row
  pub postings : new postings_tree ≡ old postings_tree
  pub dict : new dict_tree ≡ old dict_tree
