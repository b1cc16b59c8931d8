-- What a change finds kept under the identifiers of its records, and what it leaves, step by step.
use Rattle.zeb_engine.proofs.Cited.{◌≡◌, ◌≢◌, ◌↔◌, ◌⊎◌, ◌∙◌, ℕ, ℤ, pos, List, [], ◌∷◌, Option, Some, None, Result, Ok, Err, arith, inl, inr, refl, sym, subst, subst₂, flat_map, Int, Database, Row, State, Trees, Split, Directive, Format, one_format, version_of, ChangesNothing, IsDatabaseOf, PutsDatabase, KeepsBeside, KeepsRowsBeside, keeps_malformed, HasRow, Changes, HasDatabase, HasRecord, IsStore, blocks_tree, databases_tree, dict_tree, meta_tree, postings_tree, store_same, malformed_same, malformed_then, one_last, Refusal, Kind, Update, Limits, AllFindWhole, FirstFindsWhole, IsUpTo, KeepsAside, KeepsWhole, LosesWholeAlone, PassesOn, splits_of, LosesNamedAlone, NamesAny, passed_error, files_find, StaysOpen, AreFewRecords, EachFindsWhole, ElderOver, EldersOver, HasNumbersTo, IsOrBecomes, LeavesRows, LosesNamedOver, LosesWhole, BeginsWith, IsMissedFor, last_of}
use Rattle.zeb_register.specs.declared.catalog.Database as catalog
use Rattle.zeb_engine.proofs.ChangeSteps.{kept_records, kept_registers, kept_texts}
use Rattle.zeb_engine.proofs.OverTables.{IsFew}

-- what is said of tables is said of those that calls which only looked left as they were
pub said_after : (Says : Trees → Type 0) (old mid : State) → ChangesNothing old mid → StaysOpen old mid → (IsStore mid → Says mid.now.trees) → IsStore old → Says old.now.trees
said_after Says old mid nothing opened told store =
    let same = nothing opened.1 in
    subst (λ (d : Database). Says d.trees) same.1 (told (store_same old mid same.1 store))

-- what the tables know of the name, with which a change begins
pub begins_at : (kind : Kind) (trees : Trees) (name : List ℕ) (found : Option catalog.Database) → BeginsWith kind trees name found → IsDatabaseOf trees name found
begins_at kind trees name None is = is.0
begins_at kind trees name (Some database) is = is

pub begins_with : (kind : Kind) (trees : Trees) (name : List ℕ) (found : Option catalog.Database) → kind ≡ Update → IsDatabaseOf trees name found → BeginsWith kind trees name found
begins_with kind trees name None update is = (is, update)
begins_with kind trees name (Some database) update is = is

-- the id of the row that is put is the one that was found, or a new one
pub becomes : (kind : Kind) (name : List ℕ) (old mid : State) (id : ℤ) (found : Option catalog.Database) → Changes databases_tree (PutsDatabase id name (pos (last_of found))) old mid
    → BeginsWith kind old.now.trees name found → IsOrBecomes kind old.now.trees name id (last_of found)
becomes kind name old mid id None put is = inr (is.1, is.0, refl)
becomes kind name old mid id (Some database) put is = inl (subst (λ (n : ℤ). HasDatabase old.now.trees n name (pos database.last)) (put.rows.kept database.id.0 (pos database.last) is) is)

-- where the numbers are ones that it can have given, each is up to the last
pub up_to : (last : ℕ) (trees : Trees) (id : ℤ) → HasNumbersTo last trees id → (sysno : ℤ) (ident bytes : List ℕ) → HasRecord trees id sysno ident bytes → IsUpTo last sysno
up_to last trees id numbers sysno ident bytes there = λ n is. (numbers n ident bytes (subst (λ (z : ℤ). HasRecord trees id z ident bytes) is there)).1

-- what is said of the database by the id that its row gets and by its last number, where it was found, is said of the one that has the name
pub found_says : (name : List ℕ) (old mid : State) (id : ℤ) (Says : ℤ → ℕ → Type 0) (found : Option catalog.Database) → IsStore old → Changes databases_tree (PutsDatabase id name (pos (last_of found))) old mid
    → IsDatabaseOf old.now.trees name found → Says id (last_of found) → (i l : ℤ) → HasDatabase old.now.trees i name l → (given : ℕ) × (l ≡ pos given) × Says i given
found_says name old mid id Says None store put none said i l there = absurd (none i l there)
found_says name old mid id Says (Some database) store put is said i l there =
    let found : database.id.0 ≡ id = put.rows.kept database.id.0 (pos database.last) is in
    let same : i ≡ id = put.rows.kept i l there in
    let one = one_last old store id name name l (pos database.last) (subst (λ (n : ℤ). HasDatabase old.now.trees n name l) same there)
    (subst (λ (n : ℤ). HasDatabase old.now.trees n name (pos database.last)) found is) in
    (database.last, one.1, subst (λ (n : ℤ). Says n database.last) (sym same) said)

module _ (profile : List Directive) where
  -- what is found goes by the rows of records alone
  same_records : {T : Type 0} (old mid : Trees) (id : ℤ) (splits : List Split) (result : Result T Refusal) → mid 4 ≡ old 4 → FirstFindsWhole profile mid id splits result → FirstFindsWhole profile old id splits result
  same_records old mid id splits result same = subst (λ (rows : List Row). FirstFindsWhole profile (λ tree. rows) id splits result) same

  module _ (name : List ℕ) (texts : List (List ℕ)) where
    -- a refusal as damage or by a failure
    pub few_elder : {T : Type 0} (trees : Trees) (why : Refusal) (result : Result T Refusal) → result ≡ Err why → IsFew why → ElderOver profile name texts trees result
    few_elder trees why result told few id last there =
        λ bytes is ident whole named. passed_error (KeepsWhole profile trees id ident) why result told (inr few)

    -- a database that is there isn't missed
    pub missed_elder : (T : Type 0) (kind : Kind) (trees : Trees) (why : Refusal) → IsMissedFor kind trees name why → ElderOver {T = T} profile name texts trees (Err why)
    missed_elder T kind trees why (inl none) = λ id last there. absurd (none.1 id last there)
    missed_elder T kind trees why (inr (inl damaged)) = few_elder {T = T} trees why (Err why) refl (inl damaged.0)
    missed_elder T kind trees why (inr (inr failed)) = few_elder {T = T} trees why (Err why) refl (inr failed)

    -- once it is found whole, whatever comes goes by it
    pub found_elder : {T X : Type 0} (trees : Trees) (x : X) (result : Result T Refusal) → ElderOver profile name texts trees (Ok x) → ElderOver profile name texts trees result
    found_elder trees x result found id last there = files_find profile trees id result (splits_of texts) (found id last there)

    -- the row of its database is written before the records, and keeps its id
    pub put_elder : {T : Type 0} (old mid : State) (id last : ℤ) (result : Result T Refusal) → Changes databases_tree (PutsDatabase id name last) old mid → FirstFindsWhole profile mid.now.trees id (splits_of texts) result
        → ElderOver profile name texts old.now.trees result
    put_elder old mid id last result put found i l there =
        subst (λ (db : ℤ). FirstFindsWhole profile old.now.trees db (splits_of texts) result) (sym (put.rows.kept i l there))
        (same_records old.now.trees mid.now.trees id (splits_of texts) result (kept_records id name last old mid put) found)

    -- ---- each record

    -- the row of its database, which was found, is written before the records
    pub put_elders : (limits : Limits) {T : Type 0} (old mid : State) (id : ℤ) (found : Option catalog.Database) (x : T) → IsStore old → Changes databases_tree (PutsDatabase id name (pos (last_of found))) old mid
        → IsDatabaseOf old.now.trees name found → HasNumbersTo (last_of found) old.now.trees id → AllFindWhole profile (last_of found) mid.now.trees id (splits_of texts) → AreFewRecords limits texts
        → EldersOver {T = T} profile limits name texts old.now.trees (Ok x)
    put_elders limits old mid id found x store put is numbers whole few =
        let last = last_of found in
        let before = subst (λ (rows : List Row). AllFindWhole profile last (λ tree. rows) id (splits_of texts)) (kept_records id name (pos last) old mid put) whole in
        let each : EachFindsWhole profile texts old.now.trees id = λ split among slice here ident named sysno bytes there.
        before split among slice here ident named.0 named.1 sysno bytes there (up_to last old.now.trees id numbers sysno ident bytes there) in
        (few, found_says name old mid id (λ i given. EachFindsWhole profile texts old.now.trees i) found store put is each)

-- ---- what is kept after

-- a database's row stands beside those of the registers
put_malformed : (format : Format) (id : ℤ) (name : List ℕ) (last : ℤ) (old new : State) → Changes databases_tree (PutsDatabase id name last) old new → keeps_malformed format old.now.trees new.now.trees
put_malformed format id name last old new put =
    malformed_same format old.now.trees new.now.trees (put.others.1.1.1.1.0 (λ e. absurd (omega (arith, e)))) (put.others.1.1.1.1.1.0 (λ e. absurd (omega (arith, e))))

-- a table of the registers that only rows of one database were changed of
beside_still : (front : Row) (tree : ℕ) (old mid now new : Trees) → mid tree ≡ old tree → new tree ≡ now tree → KeepsBeside front tree mid now → KeepsBeside front tree old new
beside_still front tree old mid now new before behind keeps row differs =
    subst₂ (λ (a b : List Row). HasRow (λ t. b) tree row ↔ HasRow (λ t. a) tree row) before (sym behind) (keeps row differs)

-- The row of a database is put twice, and the databases stay between: this is one put.
module _ (name : List ℕ) (id again : ℤ) (last after : ℕ) (old mid now new : Trees) (put : PutsDatabase id name (pos last) databases_tree old mid) (still : now databases_tree ≡ mid databases_tree)
    (kept : PutsDatabase again name (pos after) databases_tree now new) where
  there_still : (i l : ℤ) (n : List ℕ) → HasDatabase mid i n l → HasDatabase now i n l
  there_still i l n = subst (λ (rows : List Row). HasDatabase (λ tree. rows) i n l) (sym still)

  was_there : (i l : ℤ) (n : List ℕ) → HasDatabase now i n l → HasDatabase mid i n l
  was_there i l n = subst (λ (rows : List Row). HasDatabase (λ tree. rows) i n l) still

  same_id : id ≡ again
  same_id = kept.kept id (pos last) (there_still id (pos last) name ((put.each id name (pos last)).1 (inr (refl, refl, refl))))

  put_first : (i l : ℤ) (n : List ℕ) → n ≢ name → (HasDatabase old i n l × (n ≢ name)) ⊎ ((i ≡ id) × (n ≡ name) × (l ≡ pos last)) → HasDatabase old i n l × (n ≢ name)
  put_first i l n differs (inl was) = was
  put_first i l n differs (inr is) = absurd (differs is.1)

  then_each : (i l : ℤ) (n : List ℕ) → (HasDatabase now i n l × (n ≢ name)) ⊎ ((i ≡ again) × (n ≡ name) × (l ≡ pos after)) → (HasDatabase old i n l × (n ≢ name)) ⊎ ((i ≡ id) × (n ≡ name) × (l ≡ pos after))
  then_each i l n (inl other) = inl (put_first i l n other.1 ((put.each i n l).0 (was_there i l n other.0)))
  then_each i l n (inr is) = inr (is.0 ∙ sym same_id, is.1, is.2)

  each_then : (i l : ℤ) (n : List ℕ) → (HasDatabase old i n l × (n ≢ name)) ⊎ ((i ≡ id) × (n ≡ name) × (l ≡ pos after)) → (HasDatabase now i n l × (n ≢ name)) ⊎ ((i ≡ again) × (n ≡ name) × (l ≡ pos after))
  each_then i l n (inl other) = inl (there_still i l n ((put.each i n l).1 (inl other)), other.1)
  each_then i l n (inr is) = inr (is.0 ∙ same_id, is.1, is.2)

  pub put_twice : PutsDatabase id name (pos after) databases_tree old new
  put_twice = record {
    each = λ i n l. (λ there. then_each i l n ((kept.each i n l).0 there), λ there. (kept.each i n l).1 (each_then i l n there));
    kept = put.kept;
    own = put.own;
  }

module _ (format : Format) (profile : List Directive) (kind : Kind) (name : List ℕ) (old mid now new : State) (id : ℤ) where
  -- a part of a change goes by the rows of records alone
  rows_pass : (last after : ℕ) → PassesOn format profile id last after mid now → mid.now.trees 4 ≡ old.now.trees 4 → now.now.trees 4 ≡ new.now.trees 4
      → LosesWholeAlone profile last id old.now.trees new.now.trees × KeepsAside id old.now.trees new.now.trees
  rows_pass last after passes before behind =
      subst₂ (λ (a b : List Row). LosesWholeAlone profile last id (λ tree. a) (λ tree. b) × KeepsAside id (λ tree. a) (λ tree. b)) before behind (passes.each, passes.aside)

  -- the row of its database is written before the records and after them
  pub put_leaves : (found : Option catalog.Database) (after : ℕ) → Changes databases_tree (PutsDatabase id name (pos (last_of found))) old mid → BeginsWith kind old.now.trees name found
      → HasNumbersTo (last_of found) old.now.trees id → PassesOn format profile id (last_of found) after mid now → (again : ℤ) → Changes databases_tree (PutsDatabase again name (pos after)) now new
      → LeavesRows (version_of format) profile kind name old.now.trees new
  put_leaves found after put is numbers passes again kept =
      let last = last_of found in
      let left = rows_pass last after passes (kept_records id name (pos last) old mid put) (sym (kept_records again name (pos after) now new kept)) in
      let begun = put_malformed format id name (pos last) old mid put in
      let ended = put_malformed format again name (pos after) now new kept in
      let before = kept_registers id name (pos last) old mid put in
      let behind = kept_registers again name (pos after) now new kept in
      record {
        store = kept.layout;
        id = id;
        last = last;
        after = after;
        was = becomes kind name old mid id found put is;
        numbers = numbers;
        rises = passes.rises;
        databases = put_twice name id again last after old.now.trees mid.now.trees now.now.trees new.now.trees put.rows passes.names.1 kept.rows;
        loses = λ sysno ident bytes there. left.0 sysno ident bytes there (up_to last old.now.trees id numbers sysno ident bytes there);
        aside = left.1;
        beside = record {
          postings = beside_still (Int id ∷ []) postings_tree old.now.trees mid.now.trees now.now.trees new.now.trees before.0 behind.0 passes.beside.postings;
          blocks = beside_still (Int id ∷ []) blocks_tree old.now.trees mid.now.trees now.now.trees new.now.trees before.1 behind.1 passes.beside.blocks;
          dict = beside_still (Int id ∷ []) dict_tree old.now.trees mid.now.trees now.now.trees new.now.trees before.2 behind.2 passes.beside.dict;
        };
        texts = kept_texts again name (pos after) now new kept ∙ passes.names.0 ∙ kept_texts id name (pos last) old mid put;
        malformed = λ other same. subst (λ (f : Format). keeps_malformed f old.now.trees new.now.trees) (one_format format other same)
            (malformed_then format old.now.trees mid.now.trees new.now.trees begun (malformed_then format mid.now.trees now.now.trees new.now.trees passes.malformed ended));
      }

  -- what it has lost has identifiers of the files' records
  pub put_named : (texts : List (List ℕ)) (found : Option catalog.Database) (after : ℕ) → Changes databases_tree (PutsDatabase id name (pos (last_of found))) old mid → HasNumbersTo (last_of found) old.now.trees id
      → LosesNamedAlone profile (last_of found) id (splits_of texts) mid.now.trees now.now.trees → (again : ℤ) → Changes databases_tree (PutsDatabase again name (pos after)) now new
      → LosesNamedOver profile name texts old.now.trees new.now.trees
  put_named texts found after put numbers named again kept i l there =
      let last = last_of found in
      let left = subst₂ (λ (a b : List Row). LosesNamedAlone profile last id (splits_of texts) (λ tree. a) (λ tree. b)) (kept_records id name (pos last) old mid put) (sym (kept_records again name (pos after) now new kept)) named in
      subst (λ (n : ℤ). (sysno : ℤ) (ident bytes : List ℕ) → HasRecord old.now.trees n sysno ident bytes → HasRecord new.now.trees n sysno ident bytes ⊎ NamesAny profile (flat_map (λ (split : Split). split.slices) (splits_of texts)) ident)
      (sym (put.rows.kept i l there)) (λ sysno ident bytes was. left sysno ident bytes was (up_to last old.now.trees id numbers sysno ident bytes was))

-- of tables that a commit left as they were
pub leaves_same : (version : List ℕ) (profile : List Directive) (kind : Kind) (name : List ℕ) (old : Trees) (mid new : State) → new.now ≡ mid.now → LeavesRows version profile kind name old mid → LeavesRows version profile kind name old new
leaves_same version profile kind name old mid new same left = record {
  store = store_same mid new same left.store;
  id = left.id;
  last = left.last;
  after = left.after;
  was = left.was;
  numbers = left.numbers;
  rises = left.rises;
  databases = subst (λ (d : Database). PutsDatabase left.id name (pos left.after) databases_tree old d.trees) (sym same) left.databases;
  loses = subst (λ (d : Database). LosesWhole profile left.id old d.trees) (sym same) left.loses;
  aside = subst (λ (d : Database). KeepsAside left.id old d.trees) (sym same) left.aside;
  beside = subst (λ (d : Database). KeepsRowsBeside (Int left.id ∷ []) old d.trees) (sym same) left.beside;
  texts = subst (λ (d : Database). d.trees meta_tree ≡ old meta_tree) (sym same) left.texts;
  malformed = λ format is. subst (λ (d : Database). keeps_malformed format old d.trees) (sym same) (left.malformed format is);
}
