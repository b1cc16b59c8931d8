-- How much a call counts of the rows of the packed tables, and of leaves: the counts are said, and not what was read and written.
use Rattle.std.specs.Prelude.{◌≡◌, ◌⊎◌, ◌+◌, ◌-◌, ◌*◌, ◌≤◌, ◌<◌, ◌^◌, ℕ, length}
use Rattle.sqlite.specs.Tree.{Trees}
use Rattle.zeb_register.specs.Formats.{Format, packed_blocks, packed_leaves, plain_rows}
use Rattle.zeb_register.specs.Store.{blocks_tree}
use Rattle.zeb_register.specs.declared.registers.Work.{Work}

-- a count rises by so much, or stands at its greatest value where that is above it
abbrev pub Rises : ℕ → ℕ → ℕ → Type 0
Rises by old new = (new ≡ old + by) ⊎ ((2 ^ 64 ≤ old + by) × (new ≡ 2 ^ 64 - 1))

-- each of the four counts of work rises by so much, or is capped
pub record Works (dict_read dict_written block_read block_written : ℕ) (old new : Work) : Type 0 where
  pub reads_terms : Rises dict_read old.dict_read new.dict_read
  pub writes_terms : Rises dict_written old.dict_written new.dict_written
  pub reads_blocks : Rises block_read old.block_read new.block_read
  pub writes_blocks : Rises block_written old.block_written new.block_written

-- each count of work is a number of its type
pub record AreInRange (work : Work) : Type 0 where
  pub dict_read : work.dict_read < 2 ^ 64
  pub dict_written : work.dict_written < 2 ^ 64
  pub block_read : work.block_read < 2 ^ 64
  pub block_written : work.block_written < 2 ^ 64

-- ---- leaves

-- a count rises by so much at most
abbrev pub RisesWithin : ℕ → ℕ → ℕ → Type 0
RisesWithin most old new = (by : ℕ) × (by ≤ most) × Rises by old new

-- the table of leaves has so many rows more
abbrev pub HasMoreLeaves : ℕ → (old new : Trees) → Type 0
HasMoreLeaves more old new = length (new blocks_tree) ≡ length (old blocks_tree) + more

-- Of so many changes of a record's places under a key at most as many leaves count as read, as written at most as many and those that come, and no
-- row of `dict` counts. Where no leaf counts as written, and the count wasn't at its greatest value, none is changed.
pub record WorksOnLeaves (changes : ℕ) (old new : Trees) (was is : Work) : Type 0 where
  pub reads_terms : is.dict_read ≡ was.dict_read
  pub writes_terms : is.dict_written ≡ was.dict_written
  pub reads_leaves : RisesWithin changes was.block_read is.block_read
  pub more : ℕ
  pub comes : HasMoreLeaves more old new
  pub writes_leaves : RisesWithin (changes + more) was.block_written is.block_written
  pub unwritten : is.block_written ≡ was.block_written → (was.block_written ≡ 2 ^ 64 - 1) ⊎ (new blocks_tree ≡ old blocks_tree)

-- ---- in each format

-- what so many changes of a record's places under a key count: in plain rows and in packed blocks each of the four counts rises by the layout's
-- work of a row for each change; in leaves they rise as leaves are read and written
abbrev pub works_for : Format → (row_work changes : ℕ) → (old new : Trees) → Work → Work → Type 0
works_for plain_rows row_work changes old new = Works (row_work * changes) (row_work * changes) (row_work * changes) (row_work * changes)
works_for packed_blocks row_work changes old new = Works (row_work * changes) (row_work * changes) (row_work * changes) (row_work * changes)
works_for packed_leaves row_work changes old new = WorksOnLeaves changes old new

-- the layout is that of plain rows, which counts nothing
abbrev pub CountsNothing : Format → (row_work : ℕ) → Type 0
CountsNothing format row_work = (format ≡ plain_rows) × (row_work ≡ 0)
