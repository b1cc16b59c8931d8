-- What a crash leaves, by what a transaction was given to commit.
use Rattle.zeb_engine.proofs.Cited.{◌≡◌, ◌⊎◌, ◌∙◌, true, Result, Ok, Err, IfErr, OnOk, inl, inr, arith, refl, sym, ap, subst, IsTrue, Trees, Ghosts, Database, IsDatabase, State, HasCleanDisk, IsLive, IsUnchanged, Opens, Survives, Held, state, Schema, lists_once, catalog_tree, survives_then, GoesOn, IsStore, IsEmptyStore, no_schema, store_schema, Reply, Refusal, StaysOpen, Answer, reply_answer, IsFailure, Conditions, Accepts, Bears, KeepsDisk, IsStoreDisk, Stands, Leaves, CommitsBy, CommitsCommand, MayCommit, CommitsAdopted, Endures, IsEmptyDisk, Command, Init, Create, Drop, Change, Reindex, Upgrade, Commits, CommitsTables, Holdings, IsImage, Keeps, Ends, Outcome, EnduresRefusal, IsDurable, LeavesNoMore, ServesBy, Always, Format}
use Rattle.zeb_engine.specs.declared.replies.Reply.TheVariants as reply
use Rattle.zeb_change.specs.declared.refusals.Refusal.TheVariants as refusal

-- ---- disks and stores

pub store_disk : (s : State) → IsStore s → IsStoreDisk s.now.trees
store_disk s store = record { sound = subst (λ (schema : Schema). IsDatabase (record { schema = schema; trees = s.now.trees })) store.is store.sound; keyed = store.keyed }

-- a connection that finds such a disk shows a store: a list of objects has one schema
pub opened_store : (s : State) → IsLive s → Opens s → IsStoreDisk s.now.trees → IsStore s
opened_store s live opens disk =
    let found = (live opens.is_open).0 in
    record { is = lists_once (s.now.trees catalog_tree) s.now.schema store_schema found.lists disk.sound.lists; sound = found; keyed = disk.keyed }

-- what a connection shows that finds a disk which stands for holdings
pub opened_bears : (s : State) (held : Holdings) → IsLive s → Opens s → Stands s.now.trees held → Bears s held
opened_bears s held live opens (inl stands) = inl (λ is_open. ((opened_store s live opens stands.0, stands.1), sym opens.clean))
opened_bears s held live opens (inr bare) =
    inr (lists_once (s.now.trees catalog_tree) s.now.schema no_schema ((live opens.is_open).0).lists bare.0.lists, bare.1)

pub keeps_stand : (s : State) (held : Holdings) → IsTrue s.is_open → Keeps s held → Stands s.now.trees held
keeps_stand s held is_open keeps = let at = (keeps is_open).0 in inl (store_disk s at.0, at.1)

-- an accepted command answers no failure
pub no_failure : (answer : Reply) → IsFailure (reply_answer answer) → ⊥
no_failure reply.Done failed = failed
no_failure _ failed = failed

-- it is accepted, whatever it answers
pub reply_accepts : (answer : Reply) → Accepts (reply_answer answer)
reply_accepts reply.Done why is = absurd cc
reply_accepts _ why is = absurd cc

-- ---- what survives

pub survives_as : (old new : State) (P Q : Trees → Type 0) → (HasCleanDisk new → (db : Trees) → P db → Q db) → Survives old new P → Survives old new Q
survives_as old new P Q so it = record {
  clean = it.clean;
  shield = it.shield;
  counts = it.counts;
  limit = it.limit;
  closes = it.closes;
  crash = λ clean db left. elim (it.crash clean db left) [ inl was ↦ inl was | inr made ↦ inr (so clean db made) ];
}

pub survives_both : (old new : State) (P Q : Trees → Type 0) → Survives old new P → Survives old new Q → Survives old new (λ db. P db × Q db)
survives_both old new P Q one other = record {
  clean = one.clean;
  shield = one.shield;
  counts = one.counts;
  limit = one.limit;
  closes = one.closes;
  crash = λ clean db left. elim (one.crash clean db left) [
    | inl was ↦ inl was
    | inr made ↦ elim (other.crash clean db left) [ inl was ↦ inl was | inr too ↦ inr (made, too) ]
  ];
}

-- what a command commits, an accepted step of it leaves
commits_step : (format : Format) (c : Conditions) (command : Command) (old : State) (db : Trees) → MayCommit format c command old db → CommitsCommand c command old db
commits_step format c Init old db made = made
commits_step format c (Create name) old db made = made
commits_step format c (Drop name) old db made = made
commits_step format c (Change kind name files) old db made = made
commits_step format c Reindex old db made = made.0
commits_step format c Upgrade old db made = made
commits_step format c _ old db made = absurd made

pub survives_step : (format : Format) (c : Conditions) (command : Command) (old new : State) → Survives old new (MayCommit format c command old) → Survives old new (CommitsCommand c command old)
survives_step format c command old new survives = survives_as old new _ _ (λ clean db. commits_step format c command old db) survives

-- `inside` is the connection as the transaction begins
pub survives_inside : {S : Type 0} (g : Ghosts S) (old inside : Held S) (new : State) (P : Trees → Type 0) → inside ≡ record old { in_transaction = true } → Survives (state g inside) new P → Survives (state g old) new P
survives_inside g old inside new P begins it =
    let began = subst (λ (held : Held _). Survives (state g held) new P) begins it in
    record { clean = began.clean; shield = began.shield; counts = began.counts; limit = began.limit; closes = began.closes; crash = began.crash }

-- after a call that commits nothing
pub survives_after : (old mid new : State) (P Q : Trees → Type 0) → Survives old mid (λ _. ⊥) → Survives mid new P → (HasCleanDisk new → (db : Trees) → P db → Q db) → Survives old new Q
survives_after old mid new P Q first second so = survives_then old mid new (λ _. ⊥) P Q (λ _ db none. absurd none) so first second

-- the work of a transaction, and its commit
pub commit_survives : {S : Type 0} (g : Ghosts S) (old inside : Held S) (mid new : State) (P : Trees → Type 0) → inside ≡ record old { in_transaction = true } → Survives (state g inside) mid (λ _. ⊥)
    → Survives mid new (λ db. db ≡ mid.now.trees) → (HasCleanDisk new → (db : Trees) → db ≡ mid.now.trees → P db) → Survives (state g old) new P
commit_survives g old inside mid new P begins work commits so =
    survives_inside g old inside new P begins (survives_after (state g inside) mid new (λ db. db ≡ mid.now.trees) P work commits so)

-- ---- a crash after a command

module _ (Told : Holdings → Answer → Holdings → Type 0) (old new : State) where
  endures_refusal : (why : Refusal) → EnduresRefusal old new why
      → ((before : Holdings) → Keeps old before → Leaves old before → (db : Trees) → new.may_leave db
      → Stands db before ⊎ ((answer : Answer) × (later : Holdings) × Told before answer later × Stands db later))
      → Endures Told old new (Err why)
  endures_refusal refusal.Store no_more either = either
  endures_refusal _ no_more either = λ before leaves db left. leaves db (no_more (λ is. cc) db left)

  pub endures : (result : Result Reply Refusal) → HasCleanDisk new → IsDurable new → OnOk result (StaysOpen old new) → IfErr result (EnduresRefusal old new) → Survives old new (CommitsBy Told old)
      → ServesBy Told old new result → Endures Told old new result
  endures (Ok answer) clean durable opened no_more survives serves = λ before keeps leaves.
      let served = serves before keeps in elim served.1 [
        | inl told ↦ (served.0, told, λ db left. subst (λ (trees : Trees). Stands trees served.0) (sym (durable opened.1 db left)) (keeps_stand new served.0 opened.1 served.2))
        | inr failed ↦ absurd (no_failure answer failed.0)
      ]
  endures (Err why) clean durable opened no_more survives serves =
      endures_refusal why no_more (λ before keeps leaves db left. elim (survives.crash clean db left) [
        | inl was ↦ inl (leaves db was)
        | inr made ↦ let done = made before keeps in inr (done.0, done.1, done.2, done.4)
      ])

  -- a command that leaves what is held, and the disk as it was
  pub endures_still : (result : Result Reply Refusal) → LeavesNoMore old new → ((before later : Holdings) (answer : Answer) → Told before answer later → later ≡ before) → ServesBy Told old new result
      → Endures Told old new result
  endures_still (Ok answer) no_more still serves = λ before keeps leaves.
      let served = serves before keeps in elim served.1 [
        | inl told ↦ (served.0, told, λ db left. subst (Stands db) (sym (still before served.0 (reply_answer answer) told)) (leaves db (no_more db left)))
        | inr failed ↦ absurd (no_failure answer failed.0)
      ]
  endures_still (Err why) no_more still serves = endures_refusal why (λ other. no_more) (λ before keeps leaves db left. inl (leaves db (no_more db left)))

-- what is committed is what the outcome says
pub ends_commit : (does : Holdings → Outcome) (old new : State) → Survives old new (Commits Always does old) → Survives old new (CommitsBy (λ before. Ends (does before)) old)
ends_commit does old new survives =
    survives_as old new (Commits Always does old) (CommitsBy (λ before. Ends (does before)) old)
    (λ clean db made before keeps. let done = made before (λ _. tt) keeps in ((does before).0, (does before).1, (refl, refl), done.0, done.1)) survives

-- ---- a store that is taken over

empty_disk : (s : State) → IsEmptyStore s → IsEmptyDisk s.now.trees
empty_disk s empty = let none = empty.2 in (store_disk s empty.0, (none.0, none.1.0, none.1.1.0), (none.1.1.1.0, none.1.1.1.1.0, none.1.1.1.1.1.0))

pub tables_commit : {S : Type 0} (g : Ghosts S) (old inside : Held S) (mid : State) → inside ≡ record old { in_transaction = true } → GoesOn (state g inside) mid
    → ((state g inside).now.schema ≡ store_schema → IsUnchanged (state g inside) mid) → ((state g inside).now.schema ≡ no_schema → IsEmptyStore mid) → (db : Trees) → db ≡ mid.now.trees → CommitsTables (state g old) db
tables_commit g old inside mid begins on there made db is =
    let goes_on = subst (λ (held : Held _). GoesOn (state g held) mid) begins on in
    let stays = subst (λ (held : Held _). (state g held).now.schema ≡ store_schema → IsUnchanged (state g held) mid) begins there in
    let makes = subst (λ (held : Held _). (state g held).now.schema ≡ no_schema → IsEmptyStore mid) begins made in
    (goes_on.was_open, λ store. is ∙ ap (λ (d : Database). d.trees) (stays store.is).0.now_is, λ none. subst IsEmptyDisk (sym is) (empty_disk mid (makes none)))

pub adopted_commits : (old : State) (db : Trees) → CommitsTables old db → CommitsAdopted old db
adopted_commits old db commits before (inl keeps) =
    subst (λ (trees : Trees). Stands trees before) (sym (commits.1 (keeps commits.0).0.0)) (keeps_stand old before commits.0 keeps)
adopted_commits old db commits before (inr none) =
    let empty = commits.2 none.0 in inl (empty.0, subst (IsImage db) (sym none.1) (empty.1, empty.2))

pub adopted_keeps : (old new : State) → HasCleanDisk new → Survives old new (CommitsAdopted old) → KeepsDisk old new
adopted_keeps old new clean survives before bears leaves db left = elim (survives.crash clean db left) [ inl was ↦ leaves db was | inr made ↦ made before bears ]

-- so a transaction that makes the absent tables commits these alone
pub tables_survive : {S : Type 0} (g : Ghosts S) (old inside : Held S) (mid : State) (end given : Held S) → end ≡ given → inside ≡ record old { in_transaction = true }
    → Survives (state g inside) mid (λ _. ⊥) → Survives mid (state g end) (λ db. db ≡ mid.now.trees) → (HasCleanDisk mid → GoesOn (state g inside) mid)
    → (HasCleanDisk mid → (state g inside).now.schema ≡ store_schema → IsUnchanged (state g inside) mid) → (HasCleanDisk mid → (state g inside).now.schema ≡ no_schema → IsEmptyStore mid)
    → Survives (state g old) (state g given) (CommitsTables (state g old))
tables_survive g old inside mid end given same begins work commits on there made =
    subst (λ (h : Held _). Survives (state g old) (state g h) (CommitsTables (state g old))) same
    (commit_survives g old inside mid (state g end) (CommitsTables (state g old)) begins work commits (λ clean db is.
    let first : HasCleanDisk mid = omega (arith, commits.clean) in
    tables_commit g old inside mid begins (on first) (there first) (made first) db is))
