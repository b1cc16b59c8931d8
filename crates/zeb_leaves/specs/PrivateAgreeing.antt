-- What only the contracts of private functions speak of; no public clause reaches it: the rows of `blocks` of a database, in the order of
-- their keys, beside the postings that are expected of it.
use Rattle.std.specs.Prelude.{◌≡◌, ◌≢◌, ◌⊎◌, ◌↔◌, ◌≤◌, ◌++◌, ℕ, ℤ, pos, Bool, IsTrue, List, [], ◌∷◌, Option, Some, None, length, map}
use Rattle.std.specs.List.Sorted.{IsStrictlySortedBy}
use Rattle.std.specs.declared.cmp.Ordering.TheVariants.{Greater, Less}
use Rattle.sqlite.specs.declared.types.Value.TheVariants.{Blob, Int, Text}
use Rattle.sqlite.specs.Order.{Row, column, row_cmp}
use Rattle.sqlite.specs.State.{IsUnchanged, State}
use Rattle.sqlite.specs.Tree.{Trees}
use Rattle.sqlite_rules.specs.Lists.{Has}
use Rattle.zeb_blocks.specs.declared.postings.Posting.{Posting}
use Rattle.zeb_keys.specs.Registers.{register_code}
use Rattle.zeb_keys.specs.declared.keys.Key.{Key}
use Rattle.zeb_leaf.specs.Leaves.{leaf_bytes}
use Rattle.zeb_leaf.specs.declared.entries.Entry.{Entry}
use Rattle.zeb_leaves.specs.LeafSizes.{most_leaf_bytes}
use Rattle.zeb_leaves.specs.declared.agreeing_rows.ShownLeaf.{ShownLeaf}
use Rattle.zeb_register.specs.Agreeing.{IsListedId}
use Rattle.zeb_register.specs.Covering.{ShowsEntries, leaf_key}
use Rattle.zeb_register.specs.Expected.{key_posting_order}
use Rattle.zeb_register.specs.HeldLeaves.{IsLeafAlone}
use Rattle.zeb_register.specs.Occurring.{key_in}
use Rattle.zeb_register.specs.PackedBlocks.{part_in}
use Rattle.zeb_register.specs.PrivateRowExpected.{IsPair, list_under, with_key}
use Rattle.zeb_register.specs.Readings.{PartReads, SaysPart}
use Rattle.zeb_register.specs.Sql.{IsListOf}
use Rattle.zeb_register.specs.Store.{IsRest, IsStore, blocks_tree}
use Rattle.zeb_register.specs.declared.catalog.ListedDatabase.{ListedDatabase}
use Rattle.zeb_register.specs.declared.expected.ExpectedDatabase.{ExpectedDatabase}
use Rattle.zeb_register.specs.declared.expected.KeyPosting.{KeyPosting}

-- ---- a leaf as a row shows it

-- its own key, with its register, and its entries
pub record Leaf : Type 0 where
  pub key : Key
  pub block : ℕ
  pub entries : List Entry

-- the columns behind the register, and those behind the database
abbrev pub leaf_shown : Key → ℕ → List ℕ → Row
leaf_shown key block bytes = Text key.term ∷ Int (pos block) ∷ Blob bytes ∷ []

abbrev pub rest_shown : Key → ℕ → List ℕ → Row
rest_shown key block bytes = Int (pos key.index) ∷ Int (pos (register_code key.register)) ∷ leaf_shown key block bytes

-- the row, behind its database, shows the leaf
pub record ShowsLeaf (row : Row) (leaf : Leaf) : Type 0 where
  pub bytes : List ℕ
  pub is : row ≡ rest_shown leaf.key leaf.block bytes
  pub shown : ShowsEntries (leaf_shown leaf.key leaf.block bytes) leaf.entries

abbrev pub own_of : Leaf → Row
own_of leaf = leaf_key leaf.key.term leaf.block

abbrev pub entry_key : Entry → Row
entry_key e = leaf_key e.term e.block

-- no entry is below the leaf's own key, and several take at most 3,000 bytes
pub record IsWhole (leaf : Leaf) : Type 0 where
  pub from : (e : Entry) → Has leaf.entries e → row_cmp (own_of leaf) (entry_key e) ≢ Greater
  pub small : 2 ≤ length leaf.entries → length (leaf_bytes leaf.entries) ≤ most_leaf_bytes

-- ---- one leaf behind the other

abbrev pub IsBeside : Key → Key → Type 0
IsBeside k l = (k.index ≡ l.index) × (k.register ≡ l.register)

-- the leaf has the least key
abbrev pub IsFirst : Leaf → Type 0
IsFirst leaf = (leaf.key.term ≡ []) × (leaf.block ≡ 0)

-- both are of one register, and each entry of the first is below the second
pub record EndsBefore (before leaf : Leaf) : Type 0 where
  pub beside : IsBeside before.key leaf.key
  pub ends : (e : Entry) → Has before.entries e → row_cmp (entry_key e) (own_of leaf) ≡ Less

-- the leaf may come behind the one before it: in its register where that ends before it, else as the first of its own
abbrev pub Follows : Option Leaf → Leaf → Type 0
Follows None leaf = IsFirst leaf
Follows (Some before) leaf = EndsBefore before leaf ⊎ ((¬ IsBeside before.key leaf.key) × IsFirst leaf)

-- ---- leaves beside postings

-- the key of an entry's term in the register of the leaf
abbrev pub key_of : Key → Entry → Key
key_of key e = key_in key.index key.register e.term

-- each entry says the postings that stand at the front of those that are left
abbrev pub TakeEntries : Key → List Entry → (postings rest : List KeyPosting) → Type 0
TakeEntries key [] postings rest = postings ≡ rest
TakeEntries key (e ∷ entries) postings rest =
    (part : List Posting) × (mid : List KeyPosting) × SaysPart e part × (postings ≡ map (with_key (key_of key e)) part ++ mid) × TakeEntries key entries mid rest

-- the row is a leaf that may come here, and takes its postings from the front
pub record TakesLeaf (before : Option Leaf) (row : Row) (leaf : Leaf) (postings rest : List KeyPosting) : Type 0 where
  pub shows : ShowsLeaf row leaf
  pub whole : IsWhole leaf
  pub follows : Follows before leaf
  pub takes : TakeEntries leaf.key leaf.entries postings rest

-- the rows are leaves, one behind the other, and take the postings
abbrev pub AreWalked : Option Leaf → List Row → List KeyPosting → Type 0
AreWalked before [] postings = postings ≡ []
AreWalked before (row ∷ rows) postings =
    (leaf : Leaf) × (rest : List KeyPosting) × TakesLeaf before row leaf postings rest × AreWalked (Some leaf) rows rest

-- ---- what the leaves of a database are to hold

module _ (Rests : Row → Type 0) where
  -- the leaves of the register of a key, by the rows behind the database
  abbrev pub LeavesIn : Key → Row → Type 0
  LeavesIn key leaf =
      Rests (Int (pos key.index) ∷ Int (pos (register_code key.register)) ∷ leaf) × (block : ℕ) × (column leaf 1 ≡ Int (pos block))

  -- they hold these postings, and nothing else
  pub record HoldsPostings (postings : List KeyPosting) : Type 0 where
    pub each : (row : Row) → Rests row → (key : Key) × (block : ℕ) × (bytes : List ℕ) × (row ≡ rest_shown key block bytes)
    pub alone : (key : Key) (leaf : Row) → LeavesIn key leaf → IsLeafAlone (LeavesIn key) leaf
    pub reads : (key : Key) (block : ℕ) → PartReads (LeavesIn key) key.term block (part_in block (list_under key postings))

-- ---- leaves that were read

abbrev pub leaf_of : ShownLeaf → Leaf
leaf_of leaf = record { key = key_in leaf.index leaf.register leaf.term; block = leaf.block; entries = leaf.entries.items }

abbrev pub before_of : Option ShownLeaf → Option Leaf
before_of None = None
before_of (Some leaf) = Some (leaf_of leaf)

-- nothing is changed, and the answer tells whether a walk over the rows of the database takes the postings
abbrev pub ReadsLeaves : ℤ → List KeyPosting → Bool → State → State → Type 0
ReadsLeaves db postings agree old new =
    IsUnchanged old new
    × (IsStore old → (rows : List Row) × IsListOf (IsRest blocks_tree (Int db ∷ []) old.now.trees) rows × (IsTrue agree ↔ AreWalked None rows postings))

-- ---- whole tables

-- the leaves under the id hold these postings, and nothing else
abbrev pub HasLeaves : ℤ → List KeyPosting → Trees → Type 0
HasLeaves id postings trees = HoldsPostings (IsRest blocks_tree (Int id ∷ []) trees) postings

-- where none of the databases has the id, its leaves hold none
abbrev pub IsEmptyBeside : List ListedDatabase → Trees → ℤ → Type 0
IsEmptyBeside listed trees id = ¬ IsListedId listed id → HasLeaves id [] trees

abbrev pub OthersAreEmpty : List ListedDatabase → Trees → Type 0
OthersAreEmpty listed trees = (id : ℤ) → IsEmptyBeside listed trees id

-- each of the databases has under its id leaves that hold its postings
abbrev pub EachHasLeaves : List ListedDatabase → List ExpectedDatabase → Trees → Type 0
EachHasLeaves listed databases trees =
    (one : ListedDatabase) (database : ExpectedDatabase) → IsPair listed databases one database → HasLeaves one.id.0 database.postings.items trees

abbrev pub PostingsRise : List ExpectedDatabase → Type 0
PostingsRise databases = (database : ExpectedDatabase) → Has databases database → IsStrictlySortedBy key_posting_order database.postings.items
