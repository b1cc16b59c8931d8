-- The statements that make the tables.
use Rattle.zeb_register.proofs.Cited.{IsPlain, command_of, statement_of, created, CreateTable, Nothing, table_defined_by, lacks_sequence, Schema, State, Executes, IsUnchanged, subst, ◌≡◌, ℕ, List, [], Ok, refl, false, IsTrue, Table, store_schema, meta_table, databases_table, records_table, postings_table, blocks_table, dict_table, HasEmpty, create_text, schema_after, schema_before, KeepsTables, StoreTable, Meta, Databases, IsMade}
use Rattle.sqlite.specs.Listing.{understood}
use Rattle.sqlite_tied.specs.Compute.{everything}
use Rattle.zeb_register.specs.declared.tables.StoreTable.TheVariants.{Records, Postings, Blocks, Dict}
use Rattle.zeb_register.proofs.CreateTable.{creates, spares}
use Rattle.zeb_register.proofs.CreateKeepsTables.{IsCreate, create_keeps}

-- what the text makes of a schema, and that it does nothing where the tables are there
record Makes (before after : Schema) (table : Table) (sql : List ℕ) : Type 0 where
  is : command_of (understood before sql) ≡ CreateTable
  text : statement_of sql (understood before sql) ≡ sql
  defined : table_defined_by sql ≡ Ok table
  plain : IsPlain (understood before sql)
  uncounted : lacks_sequence (created before table) ≡ false
  made : created before table ≡ after
  there : command_of (understood store_schema sql) ≡ Nothing
  plain_there : IsPlain (understood store_schema sql)
  creates : IsCreate sql

-- the table without its tree
abbrev form_of : StoreTable → Table
form_of Meta = meta_table
form_of Databases = databases_table
form_of Records = records_table
form_of Postings = postings_table
form_of Blocks = blocks_table
form_of Dict = dict_table

makes : (t : StoreTable) → Makes (schema_before t) (schema_after t) (form_of t) (create_text t)
unfolding understood everything
makes Meta = record { is = refl; text = refl; defined = refl; plain = (refl, refl); uncounted = refl; made = refl; there = refl; plain_there = (refl, refl); creates = refl }
makes Databases = record { is = refl; text = refl; defined = refl; plain = (refl, refl); uncounted = refl; made = refl; there = refl; plain_there = (refl, refl); creates = refl }
makes Records = record { is = refl; text = refl; defined = refl; plain = (refl, refl); uncounted = refl; made = refl; there = refl; plain_there = (refl, refl); creates = refl }
makes Postings = record { is = refl; text = refl; defined = refl; plain = (refl, refl); uncounted = refl; made = refl; there = refl; plain_there = (refl, refl); creates = refl }
makes Blocks = record { is = refl; text = refl; defined = refl; plain = (refl, refl); uncounted = refl; made = refl; there = refl; plain_there = (refl, refl); creates = refl }
makes Dict = record { is = refl; text = refl; defined = refl; plain = (refl, refl); uncounted = refl; made = refl; there = refl; plain_there = (refl, refl); creates = refl }

module _ (t : StoreTable) (old new : State) (count : ℕ) (ran : Executes (create_text t) [] old new (Ok count)) where
  pub table_made : HasEmpty (schema_before t) old → IsTrue old.in_transaction → IsMade (schema_after t) new
  table_made was inside =
      let m = makes t in
      subst (λ s. IsMade s new) m.made (creates (schema_before t) (form_of t) (create_text t) m.is m.text m.defined m.plain m.uncounted old new count was.0 was.1 inside ran)

  pub table_there : old.now.schema ≡ store_schema → IsUnchanged old new
  table_there has = let m = makes t in spares store_schema (create_text t) m.there m.plain_there old new count has ran

  pub table_kept : KeepsTables old.now new.now
  table_kept = create_keeps (create_text t) (makes t).creates old new count ran
