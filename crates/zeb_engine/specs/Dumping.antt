-- A dump on any tables of a store.
use Rattle.sqlite.specs.State.{State}
use Rattle.sqlite.specs.Tree.{Trees}
use Rattle.sqlite_rules.specs.Lists.{Has}
use Rattle.std.specs.List.{flat_map}
use Rattle.std.specs.List.Sorted.{IsStrictlySortedBy}
use Rattle.std.specs.Ordering.{nat_cmp}
use Rattle.std.specs.Prelude.{◌≡◌, ◌<◌, ◌^◌, List, Result, pos, ℕ, ℤ}
use Rattle.zeb_change.specs.Base.{Kept}
use Rattle.zeb_change.specs.Conditions.{Conditions}
use Rattle.zeb_change.specs.declared.refusals.Refusal.{Refusal}
use Rattle.zeb_engine.specs.Answers.{Answer, dumped}
use Rattle.zeb_engine.specs.Asking.{IsSaidOrMissed, OfDatabase}
use Rattle.zeb_engine.specs.Causes.{OnlyLooks}
use Rattle.zeb_engine.specs.Hidden.{HidesOf, UnlessHidden}
use Rattle.zeb_engine.specs.Readiness.{GoesByTexts}
use Rattle.zeb_engine.specs.declared.replies.Reply.{Reply}
use Rattle.zeb_register.specs.Kept.{AreReadable, IsNumberOf}
use Rattle.zeb_register.specs.Store.{HasRecord}

-- a record of it: it has a number below 0 or an identifier that isn't UTF-8
abbrev pub HidesRecords : (name : List ℕ) → Trees → Type 0
HidesRecords name trees = HidesOf (λ id. ¬ AreReadable trees id) name trees

-- These are records of the database, one for each number of 0 or more that has one and that a column stores, in the order of their numbers.
pub record AreRecordsOf (trees : Trees) (db : ℤ) (records : List Kept) : Type 0 where
  pub rising : IsStrictlySortedBy (λ (a b : Kept). nat_cmp a.sysno b.sysno) records
  pub kept : (k : Kept) → Has records k → HasRecord trees db (pos k.sysno) k.ident k.bytes
  pub each : (n : ℕ) → n < 2 ^ 63 → IsNumberOf trees db (pos n) → (k : Kept) × Has records k × (k.sysno ≡ n)

-- these are the bytes of such records
abbrev pub JoinsRecords : Trees → ℤ → List ℕ → Type 0
JoinsRecords trees db bytes = (records : List Kept) × AreRecordsOf trees db records × (bytes ≡ flat_map (λ kept. kept.bytes) records)

-- a dump answers the bytes of records of the database, one for each number of 0 or more that has one and that a
-- column stores, in the order of their numbers
abbrev pub DumpTells : Trees → OfDatabase
DumpTells trees db last answer = (bytes : List ℕ) × JoinsRecords trees db bytes × (answer ≡ dumped bytes)

-- on any tables a dump is refused for want of the database, or answered by the bytes of its records
abbrev pub DumpOver : (name : List ℕ) → Trees → Answer → Type 0
DumpOver name trees = IsSaidOrMissed (DumpTells trees) name trees

-- what a dump does on any tables of a store: it changes nothing, goes by the texts of the store, and of a ready register tells damage
-- only where the last number of its database or one of its records can't be read
pub record DumpDoes (c : Conditions) (name : List ℕ) (old new : State) (answer : Result Reply Refusal) : Type 0 where
  pub looks : OnlyLooks old new answer
  pub ready : GoesByTexts c.version c.profile old answer
  -- it is refused as damage only where the row of the name or a record of the database can't be read
  pub told : UnlessHidden c.version c.profile (DumpOver name) (HidesRecords name) old answer
