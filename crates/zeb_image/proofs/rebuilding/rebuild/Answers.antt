use Rattle.zeb_image.proofs.Cited.{◌≡◌, ◌∙◌, ◌+◌, ◌++◌, ◌∷◌, ℤ, [], pos, IsTrue, List, Result, Err, map, take, drop, suc, inl, inr, refl, sym, ap, subst, arith, rules, string_bytes, map-append, take_more, take_all, split_at, Database, state, HasCleanDisk, State, Has, has_either, has_right, Directive, ListedDatabase, RegFault, Damaged, GoesOn, OnlyReads, AreDatabases, Format, holds_in, HasDatabase, IsStore, KeepsLists, store_same, registers_empty, Continues, keeps_then, goes_on, kept_then, HoldsSuch, LacksDatabase, AreReadableLists, AreSound, AreSoundIn, Rebuilds}
use Rattle.zeb_register.proofs.Answered.{damage_of}
use Rattle.zeb_image.proofs.RebuiltImages.{id_in, listed_id, listed_there, lists_readable, lists_sound, new_id, readable_databases, rebuilt, same_databases}
use Rattle.zeb_image.proofs.RebuiltPostings.{ArePostedIn, more_posted, new_lacks, nothing_posted, posted_still, readable_still, sound_still, sound_then}
use Rattle.zeb_image.proofs.rebuilding.rebuild.Given as given
use Rattle.zeb_image.proofs.rebuilding.rebuild.Goals.{After-database_post}
use Rattle.zeb_image.proofs.rebuilding.rebuild.Goals as goal

read_then : (old mid new : State) → GoesOn old mid → OnlyReads mid new → GoesOn old new
read_then old mid new one two = record { was_open = one.was_open; is_open = two.is_open; now_is = refl; committed_is = two.committed_is ∙ one.committed_is; mode = two.mode }

fault_same : (fault : RegFault) (result : Result (Unit {0}) RegFault) → result ≡ Err fault → result ≡ Err Damaged → fault ≡ Damaged
fault_same fault result is told = let both : ◌≡◌ {A = Result (Unit {0}) RegFault} (Err fault) (Err Damaged) = sym is ∙ told in cc

goes_further : (old mid new : State) → GoesOn old mid → Continues mid new → GoesOn old new
goes_further old mid new one two =
    let is_open = two.stays_open one.is_open in
    record { was_open = one.was_open; is_open = is_open; now_is = refl; committed_is = two.kept.committed is_open ∙ one.committed_is; mode = two.mode }

pub loop-database-init : goal.loop-database-init
loop-database-init g c =
    let old = state g.S.Store c.args.tx.now.conn.now in
    let wiped = state g.S.Store c.registers_wipe.new.tx.conn.now in
    let new = state g.S.Store c.databases_inside.new.tx.conn.now in
    let clean_wiped = λ (clean : HasCleanDisk new). (let e : HasCleanDisk wiped = omega (arith, c.databases_inside.ensures.found.looks.call.crash.clean) in e) in
    record {
      same = search rules;
      crash = search rules;
      goes_on = λ clean mode.
          let on = (c.in_ok-registers_wipe.ensures.call.does.ok (clean_wiped clean) mode).0 in
          read_then old wiped new on (c.in_ok-databases.ensures.found.looks.call.ok clean on.mode);
      kept = λ clean mode store.
          let done = c.in_ok-registers_wipe.ensures.call.does.ok (clean_wiped clean) mode in
          let read = c.in_ok-databases.ensures.found.looks.call.ok clean done.0.mode in
          (store_same wiped new read.now_is (done.1 store).0, subst (λ (db : Database). KeepsLists old.now.trees db.trees) (sym read.now_is) (done.1 store).2);
      listed = λ clean mode store.
          let done = c.in_ok-registers_wipe.ensures.call.does.ok (clean_wiped clean) mode in
          same_databases old.now.trees wiped.now.trees (done.1 store).2 _ (subst (AreDatabases wiped.now.trees) (sym c.deref-database-items.ensures.value) (c.in_ok-databases.ensures.found.looks.finds clean done.0.mode (done.1 store).0));
      checked = λ clean mode store d there. absurd there;
      posted = λ clean mode store.
          let done = c.in_ok-registers_wipe.ensures.call.does.ok (clean_wiped clean) mode in
          let read = c.in_ok-databases.ensures.found.looks.call.ok clean done.0.mode in
          record {
            content = λ _ _. [];
            held = subst (λ (db : Database). holds_in g.L.Layout.format db.trees (λ _ _. [])) (sym read.now_is) (registers_empty g.L.Layout.format wiped.now.trees (done.1 store).1);
            storable = λ db key p there. absurd there;
            is = nothing_posted c.args.profile.now old.now.trees;
          };
    }

-- the next database is in the list, and nothing of it is posted
record IsNextBase (format : Format) (profile : List Directive) (ids : List ℤ) (item : ListedDatabase) (old now : State) : Type 0 where
  on : GoesOn old now
  kept : IsStore now × KeepsLists old.now.trees now.now.trees
  there : HasDatabase old.now.trees item.id.0 (string_bytes item.name) (pos item.last)
  fresh : ¬ Has ids item.id.0
  such : HoldsSuch format now.now.trees (ArePostedIn profile old.now.trees ids)
  lacks : LacksDatabase item.id.0 such.content

next_listed : (g : given.Over) (c : After-database_post g) → HasCleanDisk (state g.S.Store c.database_post.new.tx.conn.now) → IsTrue (state g.S.Store c.args.tx.now.conn.now).in_transaction
    → IsStore (state g.S.Store c.args.tx.now.conn.now)
    → IsNextBase g.L.Layout.format c.args.profile.now (map id_in (take c.loop-database.database-index c.deref-database-items.result.now)) c.database-item.result
    (state g.S.Store c.args.tx.now.conn.now) (state g.S.Store c.loop-database.tx.conn.now)
next_listed g c clean mode store =
    let old = state g.S.Store c.args.tx.now.conn.now in
    let items = c.deref-database-items.result.now in
    let index = c.loop-database.database-index in
    let item = c.database-item.result in
    let done = take index items in
    let clean_now : HasCleanDisk (state g.S.Store c.loop-database.tx.conn.now) = omega (arith, c.database_post.ensures.inside.does.crash.clean) in
    let are = c.loop-database.invariant.listed clean_now mode store in
    let such = c.loop-database.invariant.posted clean_now mode store in
    let split : items ≡ done ++ item ∷ drop (suc index) items = split_at items index item c.loop-database-test.true ∙ ap (λ x. done ++ x ∷ drop (suc index) items) (sym c.database-item.is) in
    let here : Has items item = subst (λ l. Has l item) (sym split) (has_right done (item ∷ drop (suc index) items) item (inl refl)) in
    let fresh = new_id old store items are done (drop (suc index) items) item split in
    record {
      on = c.loop-database.invariant.goes_on clean_now mode;
      kept = c.loop-database.invariant.kept clean_now mode store;
      there = listed_there old store items are item here;
      fresh = fresh;
      such = such;
      lacks = new_lacks c.args.profile.now old.now.trees (map id_in done) such.content such.is item.id.0 fresh;
    }

pub loop-database-preserved : goal.loop-database-preserved
loop-database-preserved g c =
    let old = state g.S.Store c.args.tx.now.conn.now in
    let now = state g.S.Store c.loop-database.tx.conn.now in
    let new = state g.S.Store c.database_post.new.tx.conn.now in
    let profile = c.args.profile.now in
    let items = c.deref-database-items.result.now in
    let index = c.loop-database.database-index in
    let item = c.database-item.result in
    let done = take index items in
    let clean_now = λ (clean : HasCleanDisk new). (let e : HasCleanDisk now = omega (arith, c.database_post.ensures.inside.does.crash.clean) in e) in
    let more : take (index + 1) items ≡ done ++ item ∷ [] = take_more items index item c.loop-database-test.true ∙ ap (λ x. done ++ x ∷ []) (sym c.database-item.is) in
    record {
      same = search rules;
      crash = search rules;
      goes_on = λ clean mode.
          let on = c.loop-database.invariant.goes_on (clean_now clean) mode in
          goes_further old now new on (c.in_ok-database_post.ensures.inside.does.stays clean on.mode);
      kept = λ clean mode store.
          let kept = c.loop-database.invariant.kept (clean_now clean) mode store in
          let then_kept = c.in_ok-database_post.ensures.posts clean (c.loop-database.invariant.goes_on (clean_now clean) mode).mode kept.0 in
          (then_kept.0, keeps_then old.now.trees now.now.trees new.now.trees kept.1 then_kept.1);
      listed = λ clean mode store. c.loop-database.invariant.listed (clean_now clean) mode store;
      checked = λ clean mode store d there.
          let on = c.loop-database.invariant.goes_on (clean_now clean) mode in
          let kept = c.loop-database.invariant.kept (clean_now clean) mode store in
          let here = sound_still old.now.trees now.now.trees kept.1 profile item.id.0 (c.in_ok-database_post.ensures.posts clean on.mode kept.0).2 in
          elim (has_either done (item ∷ []) d (subst (λ l. Has l d) more there)) [
            | inl before ↦ c.loop-database.invariant.checked (clean_now clean) mode store d before
            | inr last ↦ elim last [ inl same ↦ subst (λ (x : ListedDatabase). AreSoundIn profile old.now.trees x.id.0) (sym same) here | inr none ↦ absurd none ]
          ];
      posted = λ clean mode store.
          let base = next_listed g (goal.at.loop-database-preserved g c).After-database_post clean mode store in
          let such = base.such in
          let then_such = (c.in_ok-database_post.ensures.posts clean base.on.mode base.kept.0).3 such.content such.held such.storable base.lacks in
          let ids : map id_in (take (index + 1) items) ≡ map id_in done ++ item.id.0 ∷ [] = ap (map id_in) more ∙ map-append id_in done (item ∷ []) in
          record {
            content = then_such.content;
            held = then_such.held;
            storable = then_such.storable;
            is = subst (λ l. ArePostedIn profile old.now.trees l then_such.content) (sym ids)
                (more_posted profile old.now.trees (map id_in done) such.content such.is item.id.0 base.fresh then_such.content
                (posted_still old.now.trees now.now.trees base.kept.1 profile item.id.0 such.content then_such.content then_such.is));
          };
    }

pub returns-clause-rebuilds : goal.returns-clause-rebuilds
returns-clause-rebuilds g c clean mode store =
    let old = state g.S.Store c.args.tx.now.conn.now in
    let new = state g.S.Store c.loop-database.tx.conn.now in
    let profile = c.args.profile.now in
    let items = c.deref-database-items.result.now in
    let index = c.loop-database.database-index in
    let all : take index items ≡ items = take_all index items (omega (arith, c.loop-database-test.false, c.loop-database.auto.database-index-end)) in
    let kept = c.loop-database.invariant.kept clean mode store in
    let are = c.loop-database.invariant.listed clean mode store in
    let such = c.loop-database.invariant.posted clean mode store in
    let posted = subst (λ l. ArePostedIn profile old.now.trees (map id_in l) such.content) all such.is in
    record {
      built = (
        kept.0,
        kept.1,
        λ bases these sound. rebuilt profile old.now.trees bases these g.L.Layout.format new.now.trees kept.1 (map id_in items) (listed_id old store items are) such.content such.held posted,
      );
      checked = λ id name last there.
          let it = (are.each id name last).0 there in
          subst (AreSoundIn profile old.now.trees) (sym it.2) (c.loop-database.invariant.checked clean mode store it.0 (subst (λ l. Has l it.0) (sym all) it.1));
      damaged = λ told. absurd cc;
      honest = λ told. absurd cc;
    }

-- where damage is told of no sound lists that can be read, it is told of none of databases that can be held
refused_so : (format : Format) (profile : List Directive) (old new : State) (fault : RegFault) (result : Result (Unit {0}) RegFault) → result ≡ Err fault
    → (result ≡ Err Damaged → AreReadableLists old.now.trees → ¬ AreSound profile old.now.trees) → Rebuilds format profile old new result
refused_so format profile old new fault result is damaged =
    let lists = old.now.trees in
    record {
      built = rw is tt;
      checked = rw is tt;
      damaged = damaged;
      honest = λ told bases these are. damaged told (lists_readable profile lists bases these are) (lists_sound profile lists bases these are);
    }

-- what can be read is read
pub returns-in_err-databases-clause-rebuilds : goal.returns-in_err-databases-clause-rebuilds
returns-in_err-databases-clause-rebuilds g c clean mode store =
    let old = state g.S.Store c.args.tx.now.conn.now in
    let wiped = state g.S.Store c.registers_wipe.new.tx.conn.now in
    let new = state g.S.Store c.databases_inside.new.tx.conn.now in
    let clean_wiped : HasCleanDisk wiped = omega (arith, c.databases_inside.ensures.found.looks.call.crash.clean) in
    let done = c.in_ok-registers_wipe.ensures.call.does.ok clean_wiped mode in
    refused_so g.L.Layout.format c.args.profile.now old new c.in_err-databases.field-0.0 c.from_residual-in_err-databases.result (search rules) (λ told readable sound.
    let fault : c.databases_inside.result ≡ Err Damaged = search rules in
    damage_of _ _ _ (c.databases_inside.ensures.found.looks.finds clean done.0.mode (done.1 store).0) fault (readable_databases old.now.trees wiped.now.trees (done.1 store).2 readable.databases))

-- the database has no posting yet, and so one of its records isn't sound
pub returns-in_err-database_post-clause-rebuilds : goal.returns-in_err-database_post-clause-rebuilds
returns-in_err-database_post-clause-rebuilds g c clean mode store =
    let base = next_listed g (goal.at.returns-in_err-database_post-clause-rebuilds g c).After-database_post clean mode store in
    let old = state g.S.Store c.args.tx.now.conn.now in
    let now = state g.S.Store c.loop-database.tx.conn.now in
    let new = state g.S.Store c.database_post.new.tx.conn.now in
    let profile = c.args.profile.now in
    let item = c.database-item.result in
    let failed = c.in_err-database_post.field-0.0 in
    let result = c.from_residual-in_err-database_post.result in
    let passed : result ≡ Err failed = search rules in
    refused_so g.L.Layout.format profile old new failed result passed (λ told readable sound.
    c.in_err-database_post.ensures.posts clean base.on.mode base.kept.0 (fault_same failed result passed told) base.such.content base.such.held base.such.storable base.lacks
    (readable_still old.now.trees now.now.trees base.kept.1 item.id.0 (readable.records item.id.0 (string_bytes item.name) (pos item.last) base.there), sound_then old.now.trees now.now.trees base.kept.1 profile item.id.0 (sound item.id.0 (string_bytes item.name) (pos item.last) base.there)))

pub returns-in_err-database_post-clause-call : goal.returns-in_err-database_post-clause-call
returns-in_err-database_post-clause-call g c = record {
  same = search rules;
  does =
      let old = state g.S.Store c.args.tx.now.conn.now in
      let now = state g.S.Store c.loop-database.tx.conn.now in
      let told : c.from_residual-in_err-database_post.result ≡ Err c.in_err-database_post.field-0.0 = search rules in
      record {
        ok = λ clean mode. rw told tt;
        err = λ clean mode.
            let clean_now : HasCleanDisk now = omega (arith, c.database_post.ensures.inside.does.crash.clean) in
            let on = c.loop-database.invariant.goes_on clean_now mode in
            rw told (kept_then old now (state g.S.Store c.database_post.new.tx.conn.now) (goes_on old now on) (c.in_err-database_post.ensures.inside.does.stays clean on.mode));
        crash = search rules;
      };
}
