-- The numbers of a database's records, which a change looks at first.
use Rattle.zeb_engine.proofs.Cited.{◌≡◌, ◌∙◌, ◌+◌, ◌≤◌, ◌<◌, ℕ, ℤ, pos, List, Option, Some, None, Result, Ok, Err, OnOk, IfErr, IfOk, IsTrue, IsUtf8, refl, sym, subst, arith, Contains, Database, Row, State, KeepsCommit, Trees, RegFault, Record, OnlyReads, Format, PutsDatabase, AreStores, IsFirstFrom, IsStore, Changes, HasRecord, blocks_tree, databases_tree, registers_stay, store_schema, KeepsOthers, store_same, IsDatabaseName, Kind, Kept, AreSessions, Conditions, Holdings, IsImage, HasNumbersTo, MayBeginUnder, last_of, AreGiven, AreWellNumbered, IsMisnumbered, PutsRow}
use Rattle.zeb_register.specs.declared.catalog.Database as catalog
use Rattle.zeb_register.specs.declared.RegFault.TheVariants as register
use Rattle.zeb_engine.proofs.ChangeSteps.{IsBegun, begun}

-- ---- refusals

-- damage comes of what is wrong
pub damage_wrong : {T : Type 0} (result : Result T RegFault) (Wrong : Type 0) → IfErr result (λ fault. (fault ≡ register.Damaged) × Wrong) → result ≡ Err register.Damaged → Wrong
damage_wrong (Ok x) Wrong is told = absurd (cc)
damage_wrong (Err why) Wrong is told = is.1

-- ---- what was found

module _ (trees : Trees) (id : ℤ) (last next : ℕ) (next_is : next ≡ last + 1) where
  pub numbers_told : (first above : Option Record) → IsFirstFrom trees id 0 first → IsFirstFrom trees id next above → AreGiven first above → HasNumbersTo last trees id
  numbers_told first (Some found) least more given = absurd given
  numbers_told None None least more given = λ n ident bytes there. let low : n < 0 = least n (ident, bytes, there) in absurd (omega (arith, low))
  numbers_told (Some found) None least more given = λ n ident bytes there.
      let one : found.sysno ≤ n = least.2 n (ident, bytes, there) (omega arith) in
      let few : n < next = more n (ident, bytes, there) in
      let from : 1 ≤ found.sysno = given in
      (omega (arith, one, from), omega (arith, few, next_is))

  -- numbers that can have been given are found so
  pub numbers_given : (first above : Option Record) → IsFirstFrom trees id 0 first → IsFirstFrom trees id next above → HasNumbersTo last trees id → AreGiven first above
  numbers_given first (Some found) least more numbers = let few = (numbers found.sysno _ _ more.0).1 in let from = more.1 in absurd (omega (arith, few, from, next_is))
  numbers_given None None least more numbers = tt
  numbers_given (Some found) None least more numbers = (numbers found.sysno _ _ least.0).0

-- an accepted look tells it
pub numbers_on : {T : Type 0} (result : Result T RegFault) (Given Told : Type 0) → (Given → Told) → OnOk result Given → OnOk result Told
numbers_on (Ok x) Given Told so given = so given
numbers_on (Err why) Given Told so given = tt

-- ---- by the rows of records alone

pub numbered_same : (last : ℕ) (old new : Trees) (id : ℤ) → new 4 ≡ old 4 → HasNumbersTo last new id → HasNumbersTo last old id
numbered_same last old new id same = subst (λ (rows : List Row). HasNumbersTo last (λ tree. rows) id) same

-- ---- a call that only reads behind others

pub reads_then : (a b c : State) → OnlyReads a b → OnlyReads b c → OnlyReads a c
reads_then a b c one two = record { was_open = one.was_open; is_open = two.is_open; now_is = two.now_is ∙ one.now_is; committed_is = two.committed_is ∙ one.committed_is; mode = two.mode }

pub reads_keep : (a b : State) → OnlyReads a b → KeepsCommit a b
reads_keep a b reads = record { was_open = λ _. reads.was_open; committed = λ _. reads.committed_is }

pub kept_still : (a : State) → KeepsCommit a a
kept_still a = record { was_open = λ o. o; committed = λ _. refl }

pub if_done : {T : Type 0} (result : Result T RegFault) (Done : Type 0) → Done → IfOk result (λ _. Done)
if_done (Ok x) Done done = done
if_done (Err why) Done done = tt

-- a row that was written is there still
pub changed_still : (tree : ℕ) (Rows : ℕ → Trees → Trees → Type 0) (a b c : State) → Changes tree Rows a b → OnlyReads b c → IsTrue a.in_transaction → Changes tree Rows a c
changed_still tree Rows a b c done reads inside = record {
  layout = store_same b c reads.now_is done.layout;
  mode = reads.mode ∙ sym inside;
  rows = subst (λ (d : Database). Rows tree a.now.trees d.trees) (sym reads.now_is) done.rows;
  others = subst (λ (d : Database). KeepsOthers store_schema tree a.now.trees d.trees) (sym reads.now_is) done.others;
}

-- ---- the row of a database, by the tables alone

-- a connection that shows these tables
abbrev pub showing : State → Database → State
showing s tables = record s { now = tables }

pub shown_store : (s : State) (tables : Database) → AreStores tables → IsStore (showing s tables)
shown_store s tables are = record { is = are.is; sound = are.sound; keyed = are.keyed }

pub row_put : (old new : State) (id : ℤ) (name : List ℕ) (last : ℕ) → Changes databases_tree (PutsDatabase id name (pos last)) old new → PutsRow id name last old.now new.now
row_put old new id name last put = record { store = record { is = put.layout.is; sound = put.layout.sound; keyed = put.layout.keyed }; rows = put.rows; others = put.others }

pub put_row : (s : State) (old new : Database) (id : ℤ) (name : List ℕ) (last : ℕ) → PutsRow id name last old new
    → Changes databases_tree (PutsDatabase id name (pos last)) (showing s old) (showing s new)
put_row s old new id name last put = record { layout = shown_store s new put.store; mode = refl; rows = put.rows; others = put.others }

-- blocks and leaves are as they were
pub put_blocks : {id : ℤ} {name : List ℕ} {last : ℕ} (old new : Database) → PutsRow id name last old new → new.trees blocks_tree ≡ old.trees blocks_tree
put_blocks old new put = put.others.1.1.1.1.0 (λ e. absurd (omega (arith, e)))

-- ---- of an image

-- the records of the database have numbers that it has given
pub begun_numbered : (format : Format) (c : Conditions) (kind : Kind) (name : List ℕ) (before : Holdings) (id : ℤ) (last : ℕ) (mid : State) → IsBegun format c kind name before id last mid → AreWellNumbered last mid.now.trees id
begun_numbered format c kind name before id last mid b =
    let base = b.are.each b.start b.there in
    let lists = b.image.lists in
    let few = base.few in
    let last_is : last ≡ b.start.last = b.last_is in
    let its : lists.records_of id ≡ b.start.records = subst (λ (i : ℤ). lists.records_of i ≡ b.start.records) (sym b.its_id) (lists.of_base b.start b.there) in
    let kept : (sysno : ℤ) (ident bytes : List ℕ) → HasRecord mid.now.trees id sysno ident bytes → (kept : Kept) × Contains b.start.records kept × (sysno ≡ pos kept.sysno) × (ident ≡ kept.ident) =
    λ sysno ident bytes there.
    let found = (lists.kept id sysno ident bytes).0 there in
    (found.0, subst (λ (l : List Kept). Contains l found.0) its found.1, found.2, found.3) in
    record {
      numbers = λ n ident bytes there.
          let found = kept (pos n) ident bytes there in
          let is : pos n ≡ pos found.0.sysno = found.2 in
          let same : n ≡ found.0.sysno = cc in
          let one = base.from_one found.0 found.1 in
          let most = base.to_last found.0 found.1 in
          (omega (arith, same, one), omega (arith, same, most, last_is));
      readable = λ sysno ident bytes there.
          let found = kept sysno ident bytes there in
          ((found.0.sysno, found.2), subst IsUtf8 (sym found.3) (base.sound found.0 found.1).text);
      stored = omega (arith, few, last_is);
    }

-- so it isn't refused for its numbers
pub begins_sound : (format : Format) (c : Conditions) (session : AreSessions format c) (kind : Kind) (name : List ℕ) (is_name : IsDatabaseName name) (before : Holdings) (s : State) → IsImage s.now.trees before
    → (found : Option catalog.Database) → MayBeginUnder kind name found c s.now.trees before → IsMisnumbered name (last_of found) s.now → ⊥
begins_sound format c session kind name is_name before s image found known wrong =
    wrong.unsound (begun_numbered format c kind name before wrong.id (last_of found) (showing s wrong.now)
    (begun format (registers_stay format) c session kind name is_name before (showing s s.now) (showing s wrong.now) image wrong.id found known (put_row s s.now wrong.now wrong.id name (last_of found) wrong.put)))
