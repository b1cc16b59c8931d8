-- What only the contracts of private functions speak of; no public clause reaches it.
-- The six tables, with the statements on a table as a whole.
use Rattle.std.specs.Prelude.{◌≡◌, ℕ, List, []}
use Rattle.std.specs.List.{AllByRecursion}
use Rattle.sqlite.specs.Schema.{Schema}
use Rattle.sqlite.specs.State.{State}
use Rattle.zeb_register.specs.declared.agreeing.Table.{Table}
use Rattle.zeb_register.specs.declared.agreeing.Table.TheVariants as keyed
use Rattle.zeb_register.specs.declared.statements.whole.TheConstants.{CLEAR_RECORDS, CLEAR_POSTINGS, CLEAR_BLOCKS, CLEAR_DICT, WIPE_META, WIPE_DATABASES, WIPE_RECORDS, WIPE_POSTINGS, WIPE_BLOCKS, WIPE_DICT}
use Rattle.zeb_register.specs.declared.tables.StoreTable.{StoreTable}
use Rattle.zeb_register.specs.declared.tables.StoreTable.TheVariants.{Meta, Databases, Records, Postings, Blocks, Dict}
use Rattle.zeb_register.specs.declared.tables.TheConstants.{CREATE_META, CREATE_DATABASES, CREATE_RECORDS, CREATE_POSTINGS, CREATE_BLOCKS, CREATE_DICT}
use Rattle.zeb_register.specs.Store.{meta_tree, databases_tree, records_tree, postings_tree, blocks_tree, dict_tree}
use Rattle.zeb_register.specs.Tables.{no_schema, with_meta, with_databases, with_records, with_postings, with_blocks, store_schema}

-- the number of the table's tree
abbrev pub tree_at : StoreTable → ℕ
tree_at Meta = meta_tree
tree_at Databases = databases_tree
tree_at Records = records_tree
tree_at Postings = postings_tree
tree_at Blocks = blocks_tree
tree_at Dict = dict_tree

-- the text that makes the table where it is absent
abbrev pub create_text : StoreTable → List ℕ
create_text Meta = CREATE_META.now
create_text Databases = CREATE_DATABASES.now
create_text Records = CREATE_RECORDS.now
create_text Postings = CREATE_POSTINGS.now
create_text Blocks = CREATE_BLOCKS.now
create_text Dict = CREATE_DICT.now

-- the text that takes every row of it
abbrev pub wipe_text : StoreTable → List ℕ
wipe_text Meta = WIPE_META.now
wipe_text Databases = WIPE_DATABASES.now
wipe_text Records = WIPE_RECORDS.now
wipe_text Postings = WIPE_POSTINGS.now
wipe_text Blocks = WIPE_BLOCKS.now
wipe_text Dict = WIPE_DICT.now

-- the text that takes the rows of a database
abbrev pub clear_text : Table → List ℕ
clear_text keyed.Records = CLEAR_RECORDS.now
clear_text keyed.Postings = CLEAR_POSTINGS.now
clear_text keyed.Blocks = CLEAR_BLOCKS.now
clear_text keyed.Dict = CLEAR_DICT.now

-- the schema before it is made, and after
abbrev pub schema_before : StoreTable → Schema
schema_before Meta = no_schema
schema_before Databases = with_meta
schema_before Records = with_databases
schema_before Postings = with_records
schema_before Blocks = with_postings
schema_before Dict = with_blocks

abbrev pub schema_after : StoreTable → Schema
schema_after Meta = with_meta
schema_after Databases = with_databases
schema_after Records = with_records
schema_after Postings = with_postings
schema_after Blocks = with_blocks
schema_after Dict = store_schema

-- a database has this schema, and no row
abbrev pub HasEmpty : Schema → State → Type 0
HasEmpty schema s = (s.now.schema ≡ schema) × AllByRecursion (λ t. s.now.trees t.tree ≡ []) schema.tables
