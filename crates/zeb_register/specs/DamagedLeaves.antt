-- What tables say alike that differ in the bytes of one leaf, one of them damaged perhaps: all that this leaf doesn't cover.
use Rattle.std.specs.Prelude.{◌≡◌, ◌≢◌, ◌↔◌, ◌++◌, ◌/◌, ℕ, ℤ, List}
use Rattle.sqlite.specs.Order.{Row}
use Rattle.sqlite.specs.Tree.{Trees}
use Rattle.zeb_keys.specs.declared.keys.Key.{Key}
use Rattle.zeb_register.specs.declared.registers.Place.{Place}
use Rattle.zeb_register.specs.Covering.{Covers, leaf_key, own_key}
use Rattle.zeb_register.specs.LeafUnits.{AreLeavesMiscounted, IsLeafMalformed, IsLeafOf, LeavesCount, LeavesRead}
use Rattle.zeb_register.specs.PlainRows.{register_front}
use Rattle.zeb_register.specs.Sql.{HasRow}
use Rattle.zeb_register.specs.Store.{blocks_tree}

-- the row of `blocks` that a leaf of the key's register is
abbrev pub leaf_row : ℤ → Key → Row → Row
leaf_row db key leaf = register_front db key.index key.register ++ leaf

-- Two stores' tables differ in one leaf of the key's register alone: each has one with the same own key, whatever stands behind it, and apart from
-- these two they have the same rows of `blocks`.
pub record DifferInLeaf (db : ℤ) (key : Key) (leaf other : Row) (one two : Trees) : Type 0 where
  pub one_has : IsLeafOf one db key leaf
  pub two_has : IsLeafOf two db key other
  pub own : own_key leaf ≡ own_key other
  pub others : (row : Row) → row ≢ leaf_row db key leaf → row ≢ leaf_row db key other → HasRow one blocks_tree row ↔ HasRow two blocks_tree row

-- the row is a leaf that covers the unit: the block of its key in which its record lies
abbrev pub CoversUnit : Trees → Row → ℤ → Key → ℕ → Type 0
CoversUnit trees row db key sysno =
    (leaf : Row) × (row ≡ leaf_row db key leaf) × Covers (IsLeafOf trees db key) (leaf_key key.term (sysno / 256)) leaf

-- the row is a leaf that covers some unit of the key
abbrev pub CoversSome : Trees → Row → ℤ → Key → Type 0
CoversSome trees row db key = (sysno : ℕ) × CoversUnit trees row db key sysno

-- each unit that the row doesn't cover reads alike and is malformed alike, and each key of which it covers none counts alike and is miscounted alike
pub record AreAlikeBeside (row : Row) (one two : Trees) : Type 0 where
  pub reads : (db : ℤ) (key : Key) (sysno : ℕ) → ¬ CoversUnit one row db key sysno → (places : List Place) → LeavesRead one db key sysno places ↔ LeavesRead two db key sysno places
  pub malformed : (db : ℤ) (key : Key) (sysno : ℕ) → ¬ CoversUnit one row db key sysno → IsLeafMalformed one db key sysno ↔ IsLeafMalformed two db key sysno
  pub counts : (db : ℤ) (key : Key) → ¬ CoversSome one row db key → (records : ℕ) → LeavesCount one db key records ↔ LeavesCount two db key records
  pub miscounted : (db : ℤ) (key : Key) → ¬ CoversSome one row db key → AreLeavesMiscounted one db key ↔ AreLeavesMiscounted two db key
