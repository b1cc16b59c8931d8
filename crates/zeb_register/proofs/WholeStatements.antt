-- The statements that take the rows of a whole table, or of a database in one, each with what it is compiled to.
use Rattle.zeb_register.proofs.Cited.{IsPlain, command_of, Delete, Row, State, Executes, Int, Has, ◌≡◌, true, ℕ, ℤ, List, [], ◌∷◌, refl, Ok, inl, Table, Keyed, StoreTable, Meta, Databases, tree_of, Empties, clear_text, tree_at, wipe_text, Loses, Changes, IsOfDatabase, IsStore, meta_table, store_schema}
use Rattle.sqlite.specs.Listing.{understood}
use Rattle.sqlite_tied.specs.Compute.{everything}
use Rattle.zeb_register.specs.declared.agreeing.Table.TheVariants as keyed
use Rattle.zeb_register.specs.declared.tables.StoreTable.TheVariants.{Records, Postings, Blocks, Dict}
use Rattle.zeb_register.proofs.DatabaseStatements.{databases, databases_static}
use Rattle.zeb_register.proofs.PostingStatements.{blocks, blocks_static, dict, dict_static, postings, postings_static}
use Rattle.zeb_register.proofs.RecordStatements.{records, records_static}
use Rattle.zeb_register.proofs.StatementForms.{Condition, alone, equals, no_limit, reading, shows}
use Rattle.zeb_register.proofs.TextStatements.{meta_static}
use Rattle.zeb_register.proofs.ValueKinds.{IsPlainTable, are_fit}
use Rattle.zeb_register.proofs.Writes.{LosesRows, changed_so, deletes, loses}

-- a text that takes the rows that meet the conditions
record Takes (at : ℕ) (table : Table) (wheres : List Condition) (sql : List ℕ) : Type 0 where
  static : IsPlainTable store_schema at table
  is : command_of (understood store_schema sql) ≡ Delete at (alone (reading table.tree wheres (shows (0 ∷ [])) [] no_limit))
  plain : IsPlain (understood store_schema sql)

-- ---- every row

gone : (rows : List Row) → ((r : Row) → ¬ Has rows r) → rows ≡ []
gone [] none = refl
gone (r ∷ rows) none = absurd (none r (inl refl))

emptied : (at : ℕ) (table : Table) (sql : List ℕ) → Takes at table [] sql → (old new : State) (count : ℕ) → IsStore old → Executes sql [] old new (Ok count) → Changes table.tree Empties old new
emptied at table sql it old new count store ran =
    changed_so store_schema table.tree (LosesRows [] []) Empties old new (λ each. gone (new.now.trees table.tree) (λ r h. ((each r).0 h).1 tt))
    (deletes store_schema at table it.static sql [] [] it.is it.plain refl old new count store ran)

wipes_meta : Takes 0 meta_table [] (wipe_text Meta)
unfolding understood everything
wipes_meta = record { static = meta_static; is = refl; plain = (refl, refl) }

wipes_databases : Takes 1 databases [] (wipe_text Databases)
unfolding understood everything
wipes_databases = record { static = databases_static; is = refl; plain = (refl, refl) }

wipes_records : Takes 2 records [] (wipe_text Records)
unfolding understood everything
wipes_records = record { static = records_static; is = refl; plain = (refl, refl) }

wipes_postings : Takes 3 postings [] (wipe_text Postings)
unfolding understood everything
wipes_postings = record { static = postings_static; is = refl; plain = (refl, refl) }

wipes_blocks : Takes 4 blocks [] (wipe_text Blocks)
unfolding understood everything
wipes_blocks = record { static = blocks_static; is = refl; plain = (refl, refl) }

wipes_dict : Takes 5 dict [] (wipe_text Dict)
unfolding understood everything
wipes_dict = record { static = dict_static; is = refl; plain = (refl, refl) }

pub wiped : (t : StoreTable) (old new : State) (count : ℕ) → IsStore old → Executes (wipe_text t) [] old new (Ok count) → Changes (tree_at t) Empties old new
wiped Meta = emptied 0 meta_table (wipe_text Meta) wipes_meta
wiped Databases = emptied 1 databases (wipe_text Databases) wipes_databases
wiped Records = emptied 2 records (wipe_text Records) wipes_records
wiped Postings = emptied 3 postings (wipe_text Postings) wipes_postings
wiped Blocks = emptied 4 blocks (wipe_text Blocks) wipes_blocks
wiped Dict = emptied 5 dict (wipe_text Dict) wipes_dict

-- ---- those of a database

abbrev in_base : List Condition
in_base = equals 1 0 ∷ []

lost : (at : ℕ) (table : Table) (sql : List ℕ) → Takes at table in_base sql → ((db : ℤ) → are_fit table (Int db ∷ []) in_base ≡ true) → (db : ℤ) (old new : State) (count : ℕ) → IsStore old → Executes sql (Int db ∷ []) old new (Ok count)
    → Changes table.tree (Loses (IsOfDatabase db)) old new
lost at table sql it fit db old new count store ran =
    loses store_schema table.tree old new (Int db ∷ []) in_base (IsOfDatabase db) (λ id columns. (λ m. m.0, λ p. (p, tt)))
    (deletes store_schema at table it.static sql (Int db ∷ []) in_base it.is it.plain (fit db) old new count store ran)

clears_records : Takes 2 records in_base (clear_text keyed.Records)
unfolding understood everything
clears_records = record { static = records_static; is = refl; plain = (refl, refl) }

clears_postings : Takes 3 postings in_base (clear_text keyed.Postings)
unfolding understood everything
clears_postings = record { static = postings_static; is = refl; plain = (refl, refl) }

clears_blocks : Takes 4 blocks in_base (clear_text keyed.Blocks)
unfolding understood everything
clears_blocks = record { static = blocks_static; is = refl; plain = (refl, refl) }

clears_dict : Takes 5 dict in_base (clear_text keyed.Dict)
unfolding understood everything
clears_dict = record { static = dict_static; is = refl; plain = (refl, refl) }

pub cleared : (t : Keyed) (db : ℤ) (old new : State) (count : ℕ) → IsStore old → Executes (clear_text t) (Int db ∷ []) old new (Ok count) → Changes (tree_of t) (Loses (IsOfDatabase db)) old new
cleared keyed.Records = lost 2 records (clear_text keyed.Records) clears_records (λ db. refl)
cleared keyed.Postings = lost 3 postings (clear_text keyed.Postings) clears_postings (λ db. refl)
cleared keyed.Blocks = lost 4 blocks (clear_text keyed.Blocks) clears_blocks (λ db. refl)
cleared keyed.Dict = lost 5 dict (clear_text keyed.Dict) clears_dict (λ db. refl)
