-- What a create makes and a drop takes, by the rows that each writes: what is said of them on any tables.
use Rattle.zeb_engine.proofs.Cited.{ℕ, ℤ, pos, List, Some, None, Result, Ok, Err, refl, ap, inl, inr, Bor, Database, State, TakesWhole, IsStore, IsDatabaseOf, Format, Content, IsWithout, holds_in, one_name, Refusal, Reply, DbName, name_bytes, refused, reply_answer, done, why_of, CountedAnswers, CreateOver, DropOver, HidesDatabase, TellsUnlessHidden, DropsDatabase, OnAccepted, MakesDatabase, CreatesDatabase, DropsNamed, TakesRows, WriteDoes, AreStores}
use Rattle.zeb_register.specs.declared.catalog.Database as catalog
use Rattle.zeb_engine.specs.declared.writes.Write.TheVariants as write
use Rattle.zeb_engine.proofs.HiddenRows.{misses_hidden}

are_store : (s : State) → AreStores s.now → IsStore s
are_store s are = record { is = are.is; sound = are.sound; keyed = are.keyed }

-- ---- the rows of a database that is taken

pub rows_taken : (format : Format) (id : ℤ) (old new : State) → TakesWhole id old new → ((before after : Content) → holds_in format old.now.trees before → IsWithout id before after → holds_in format new.now.trees after)
    → TakesRows format id old.now new.now
rows_taken format id old new taken contents = record {
  store = record { is = taken.store.is; sound = taken.store.sound; keyed = taken.store.keyed };
  databases = taken.databases;
  records = taken.records;
  postings = taken.postings;
  blocks = taken.blocks;
  dict = taken.dict;
  texts = taken.texts;
  contents = contents;
}

taken_whole : (format : Format) (id : ℤ) (old new : State) → TakesRows format id old.now new.now → TakesWhole id old new
taken_whole format id old new taken = record {
  store = are_store new taken.store;
  databases = taken.databases;
  records = taken.records;
  postings = taken.postings;
  blocks = taken.blocks;
  dict = taken.dict;
  texts = taken.texts;
}

-- ---- behind the look for the name

pub create_so : (format : Format) (name : Bor DbName) (old new : Database) → IsDatabaseOf old.trees (name_bytes name.now) None → (result : Result Reply Refusal) → WriteDoes format (write.Create name) old new result
    → CreatesDatabase (name_bytes name.now) old new result
create_so format name old new none (Ok told) does = (none, does.0, does.1)
create_so format name old new none (Err refusal) (inl failed) = inl failed
create_so format name old new none (Err refusal) (inr damaged) = absurd damaged.1

pub drop_so : (format : Format) (name : Bor DbName) (found : catalog.Database) (old new : Database) → IsDatabaseOf old.trees (name_bytes name.now) (Some found) → (result : Result Reply Refusal)
    → WriteDoes format (write.Drop name found.id) old new result → DropsNamed format (name_bytes name.now) old new result
drop_so format name found old new row (Ok told) does = (found, row, does.0, does.1)
drop_so format name found old new row (Err refusal) (inl failed) = inl failed
drop_so format name found old new row (Err refusal) (inr damaged) = absurd damaged.1

-- ---- what is said of any tables

module _ (name : List ℕ) (old new : State) where
  pub creates_told : (result : Result Reply Refusal) → CreatesDatabase name old.now new.now result → TellsUnlessHidden (CreateOver name) (HidesDatabase name) old.now.trees result
  creates_told (Ok told) does = inl (inl (does.0, ap reply_answer does.1))
  creates_told (Err refusal) (inl failed) = inr (inr failed)
  creates_told (Err refusal) (inr (inl there)) =
      let found = there.1.0 in inl (inr (found.id.0, pos found.last, there.1.1, ((found.last, refl), ap (λ (r : Refusal). refused (why_of r)) there.0)))
  creates_told (Err refusal) (inr (inr damaged)) = inr (inl (ap Err damaged.0, damaged.1))

  pub creates_makes : (result : Result Reply Refusal) → (IsStore old → CreatesDatabase name old.now new.now result) → OnAccepted (MakesDatabase name) old new result
  creates_makes (Ok told) does store = let made = (does store).2 in record { store = are_store new made.1.store; id = made.0; databases = made.1.rows; others = made.1.others }
  creates_makes (Err refusal) does store = tt

  module _ (format : Format) where
    pub drops_told : (result : Result Reply Refusal) → DropsNamed format name old.now new.now result → TellsUnlessHidden (DropOver name) (HidesDatabase name) old.now.trees result
    drops_told (Ok told) does = let found = does.0 in inl (inr (found.id.0, pos found.last, does.1, ((found.last, refl), ap reply_answer does.2)))
    drops_told (Err refusal) does = misses_hidden (CountedAnswers done) name (HidesDatabase name) old.now.trees (λ hides. hides) refusal does

    pub drops_takes : (result : Result Reply Refusal) → (IsStore old → DropsNamed format name old.now new.now result) → OnAccepted (DropsDatabase name) old new result
    drops_takes (Ok told) does store =
        let did = does store in
        record {
          id = did.0.id.0;
          last = pos did.0.last;
          there = did.1;
          none = λ i l there. let was = (did.3.databases i name l).0 there in was.1 (one_name old i did.0.id.0 name l (pos did.0.last) store was.0 did.1);
          taken = taken_whole format did.0.id.0 old new did.3;
        }
    drops_takes (Err refusal) does store = tt
