use Rattle.zeb_image.proofs.Cited.{◌≡◌, ℕ, ℤ, IsTrue, pos, Some, None, Result, Ok, Err, OnOk, refl, sym, ap, subst, arith, rules, string_bytes, Database, state, HasCleanDisk, State, Survives, Trees, OnlyReads, Content, IsStorable, holds_in, IsFirstFrom, IsStore, KeepsLists, Damaged, Record, store_same, one_number, Continues, StaysInside, WillHold, OccursIn, keeps_then, held_whole, will_begin, continues_then, kept_then, kept_of, IsRecordPosted, LacksDatabase, WillHoldSuch, PostsDatabase, AreSoundIn, AreReadable, RegFault, Format, Directive, List}
use Rattle.zeb_image.proofs.RebuiltPostings.{IsPostedBelow, all_posted, all_sound, first_lacks, first_still, next_posted, next_sound, none_posted, readable_still}
use Rattle.zeb_image.proofs.rebuilding.database_post.Given as given
use Rattle.zeb_image.proofs.rebuilding.database_post.Goals.{After-write_where_full}
use Rattle.zeb_image.proofs.rebuilding.database_post.Goals as goal

read_on : (old new : State) → OnlyReads old new → Continues old new
read_on old new on = record {
  kept = record { was_open = λ _. on.was_open; committed = λ _. on.committed_is };
  mode = on.mode;
  stays_open = λ _. on.is_open;
}

-- the next record is asked for in a state on the way
record Asked (old now mid : State) : Type 0 where
  clean : HasCleanDisk now
  was : Continues old now
  on : OnlyReads now mid
  goes : Continues old mid

asked : (old now mid : State) → HasCleanDisk mid → Survives now mid (λ _. ⊥) → (HasCleanDisk now → Continues old now) → (HasCleanDisk mid → IsTrue now.in_transaction → OnlyReads now mid) → Asked old now mid
asked old now mid clean_mid crash stays reads =
    let clean : HasCleanDisk now = omega (arith, crash.clean) in
    let was = stays clean in
    let on = reads clean_mid was.mode in
    record { clean = clean; was = was; on = on; goes = continues_then old now mid was (read_on now mid on) }

-- what follows where a call is accepted of which two things are said
ok_both : {T E : Type 0} (result : Result T E) (One Two Three : Type 0) → (One → Two → Three) → OnOk result One → OnOk result Two → OnOk result Three
ok_both (Ok value) One Two Three so one two = so one two
ok_both (Err fault) One Two Three so one two = one

stays_then : {T E : Type 0} (old mid new : State) (result : Result T E) → Continues old mid → StaysInside mid new result → StaysInside old new result
stays_then old mid new (Ok value) one two = continues_then old mid new one two
stays_then old mid new (Err fault) one two = kept_then old mid new one two

-- the two sides of what is said of a call
posts_by : (format : Format) (profile : List Directive) (id : ℤ) (old new : State) (result : Result (Unit {0}) RegFault) → OnOk result (PostsDatabase format profile id old new (Ok tt))
    → (result ≡ Err Damaged → (before : Content) → holds_in format old.now.trees before → IsStorable before → LacksDatabase id before → ¬ (AreReadable old.now.trees id × AreSoundIn profile old.now.trees id))
    → PostsDatabase format profile id old new result
posts_by format profile id old new (Ok tt) done harm = done
posts_by format profile id old new (Err fault) done harm = λ is. harm (ap Err is)

same_lists : (lists : Trees) (old new : State) → new.now ≡ old.now → KeepsLists lists old.now.trees → KeepsLists lists new.now.trees
same_lists lists old new same keeps = subst (λ (db : Database). KeepsLists lists db.trees) (sym same) keeps

pub loop-turn-init : goal.loop-turn-init
loop-turn-init g c = record {
  same = refl;
  crash = search rules;
  stays = search rules;
  small = omega arith;
  kept = λ clean mode store. (store, (refl, refl, refl));
  checked = λ clean mode store n ident bytes low there. absurd (omega (arith, low));
  posted = λ clean mode store before had storable lacks.
      record { content = before; held = will_begin g.L.Layout.format _ c.args.db.0 c.new-pending.result before c.new-pending.ensures had storable; storable = storable; is = none_posted c.args.profile.now _ c.args.db.0 before lacks };
}

-- ---- the next record

asked_next : (g : given.Over) (c : After-write_where_full g) → HasCleanDisk (state g.S.Store c.write_where_full.new.tx.conn.now) → IsTrue (state g.S.Store c.args.tx.now.conn.now).in_transaction
    → Asked (state g.S.Store c.args.tx.now.conn.now) (state g.S.Store c.loop-turn.tx.conn.now) (state g.S.Store c.record_from_inside.new.tx.conn.now)
asked_next g c clean mode =
    let now = state g.S.Store c.loop-turn.tx.conn.now in
    let mid = state g.S.Store c.record_from_inside.new.tx.conn.now in
    let clean_mid : HasCleanDisk mid = omega (arith, c.write_where_full.ensures.call.does.crash.clean) in
    asked (state g.S.Store c.args.tx.now.conn.now) now mid clean_mid c.record_from_inside.ensures.found.looks.call.crash (λ clean_now. c.loop-turn.invariant.stays clean_now mode) c.in_ok-record.ensures.found.looks.call.ok

-- it is the first from a number on that the lists keep
record IsNext (id : ℤ) (next : ℕ) (found : Record) (old now mid : State) : Type 0 where
  at : Asked old now mid
  kept : IsStore now × KeepsLists old.now.trees now.now.trees
  store : IsStore mid
  first : IsFirstFrom old.now.trees id next (Some found)

next_read : (g : given.Over) (c : After-write_where_full g) → HasCleanDisk (state g.S.Store c.write_where_full.new.tx.conn.now) → IsTrue (state g.S.Store c.args.tx.now.conn.now).in_transaction
    → IsStore (state g.S.Store c.args.tx.now.conn.now)
    → IsNext c.args.db.0 c.loop-turn.next c.in-Some.record (state g.S.Store c.args.tx.now.conn.now) (state g.S.Store c.loop-turn.tx.conn.now) (state g.S.Store c.record_from_inside.new.tx.conn.now)
next_read g c clean mode store =
    let now = state g.S.Store c.loop-turn.tx.conn.now in
    let mid = state g.S.Store c.record_from_inside.new.tx.conn.now in
    let clean_mid : HasCleanDisk mid = omega (arith, c.write_where_full.ensures.call.does.crash.clean) in
    let at = asked_next g c clean mode in
    let kept = c.loop-turn.invariant.kept at.clean mode store in
    let value = subst (IsFirstFrom now.now.trees c.args.db.0 c.loop-turn.next) c.in-Some.is ((c.in_ok-record.ensures.found.looks.finds clean_mid at.was.mode kept.0).small (omega (arith, c.loop-turn.invariant.small))) in
    record {
      at = at;
      kept = kept;
      store = store_same now mid at.on.now_is kept.0;
      first = first_still (state g.S.Store c.args.tx.now.conn.now).now.trees now.now.trees kept.1 c.args.db.0 c.loop-turn.next (Some c.in-Some.record) value;
    }

-- what was noted before it, and what is noted with it
then_noted : (g : given.Over) (c : After-write_where_full g) → HasCleanDisk (state g.S.Store c.write_where_full.new.tx.conn.now) → IsTrue (state g.S.Store c.args.tx.now.conn.now).in_transaction
    → IsStore (state g.S.Store c.args.tx.now.conn.now)
    → (before : Content) → holds_in g.L.Layout.format (state g.S.Store c.args.tx.now.conn.now).now.trees before → IsStorable before → LacksDatabase c.args.db.0 before
    → (such : WillHoldSuch g.L.Layout.format (state g.S.Store c.loop-turn.tx.conn.now).now.trees c.args.db.0 c.loop-turn.pending
    (IsPostedBelow c.args.profile.now (state g.S.Store c.args.tx.now.conn.now).now.trees c.args.db.0 c.loop-turn.next before))
    × WillHoldSuch g.L.Layout.format (state g.S.Store c.record_from_inside.new.tx.conn.now).now.trees c.args.db.0 c.record_note.new.pending
    (IsRecordPosted c.args.db.0 c.in-Some.record.sysno (OccursIn c.args.profile.now (kept_of c.in-Some.record)) such.content)
then_noted g c clean mode store before had storable lacks =
    let read = next_read g c clean mode store in
    let id = c.args.db.0 in
    let such = c.loop-turn.invariant.posted read.at.clean mode store before had storable lacks in
    let held = subst (λ (db : Database). WillHold g.L.Layout.format db.trees id c.loop-turn.pending such.content) (sym read.at.on.now_is) such.held in
    let none = first_lacks c.args.profile.now (state g.S.Store c.args.tx.now.conn.now).now.trees id c.loop-turn.next before such.content such.is c.in-Some.record read.first in
    (such, c.in_ok-record_note.ensures.posted g.L.Layout.format (state g.S.Store c.record_from_inside.new.tx.conn.now).now.trees id such.content held such.storable none)

pub loop-turn-preserved : goal.loop-turn-preserved
loop-turn-preserved g c =
    let full = (goal.at.loop-turn-preserved g c).After-write_where_full in
    let old = state g.S.Store c.args.tx.now.conn.now in
    let mid = state g.S.Store c.record_from_inside.new.tx.conn.now in
    let new = state g.S.Store c.write_where_full.new.tx.conn.now in
    let id = c.args.db.0 in
    let profile = c.args.profile.now in
    let found = c.in-Some.record in
    record {
      same = search rules;
      crash = search rules;
      stays = λ clean mode.
          let at = asked_next g full clean mode in
          continues_then old mid new at.goes (c.in_ok-write_where_full.ensures.call.does.stays clean at.goes.mode);
      small = omega (arith, c.in_ok-record_note.ensures.number);
      kept = λ clean mode store.
          let read = next_read g full clean mode store in
          let settled = c.in_ok-write_where_full.ensures.call.does.written clean read.at.on.mode read.store in
          (settled.0, keeps_then old.now.trees mid.now.trees new.now.trees (same_lists old.now.trees (state g.S.Store c.loop-turn.tx.conn.now) mid read.at.on.now_is read.kept.1) settled.1);
      checked = λ clean mode store.
          let read = next_read g full clean mode store in
          next_sound profile old.now.trees id c.loop-turn.next (c.loop-turn.invariant.checked read.at.clean mode store) found read.first (one_number old store id (pos found.sysno)) c.in_ok-record_note.ensures.sound;
      posted = λ clean mode store before had storable lacks.
          let read = next_read g full clean mode store in
          let both = then_noted g full clean mode store before had storable lacks in
          record {
            content = both.1.content;
            held = ((c.in_ok-write_where_full.ensures.call.does.written clean read.at.on.mode read.store).2 both.1.content both.1.storable both.1.held).0;
            storable = both.1.storable;
            is = next_posted profile old.now.trees id c.loop-turn.next before both.0.content both.0.is found read.first (one_number old store id (pos found.sysno)) both.1.content both.1.is;
          };
    }

-- ---- behind the last record

pub returns-in_default-clause-inside : goal.returns-in_default-clause-inside
returns-in_default-clause-inside g c = record {
  same = search rules;
  does = record {
    stays = λ clean mode.
        let old = state g.S.Store c.args.tx.now.conn.now in
        let now = state g.S.Store c.loop-turn.tx.conn.now in
        let mid = state g.S.Store c.record_from_inside.new.tx.conn.now in
        let at = asked old now mid (omega (arith, c.write_pending.ensures.call.does.crash.clean)) c.record_from_inside.ensures.found.looks.call.crash (λ clean_now. c.loop-turn.invariant.stays clean_now mode) c.in_ok-record.ensures.found.looks.call.ok in
        stays_then old mid (state g.S.Store c.write_pending.new.tx.conn.now) c.write_pending.result at.goes (c.write_pending.ensures.call.does.stays clean at.goes.mode);
    crash = search rules;
  };
}

-- what is noted is the content that the registers hold then
pub returns-in_default-clause-posts : goal.returns-in_default-clause-posts
returns-in_default-clause-posts g c clean mode store =
    let old = state g.S.Store c.args.tx.now.conn.now in
    let now = state g.S.Store c.loop-turn.tx.conn.now in
    let mid = state g.S.Store c.record_from_inside.new.tx.conn.now in
    let new = state g.S.Store c.write_pending.new.tx.conn.now in
    let format = g.L.Layout.format in
    let id = c.args.db.0 in
    let clean_mid : HasCleanDisk mid = omega (arith, c.write_pending.ensures.call.does.crash.clean) in
    let at = asked old now mid clean_mid c.record_from_inside.ensures.found.looks.call.crash (λ clean_now. c.loop-turn.invariant.stays clean_now mode) c.in_ok-record.ensures.found.looks.call.ok in
    let kept = c.loop-turn.invariant.kept at.clean mode store in
    let there = store_same now mid at.on.now_is kept.0 in
    let value = subst (IsFirstFrom now.now.trees id c.loop-turn.next) c.in_default.is ((c.in_ok-record.ensures.found.looks.finds clean_mid at.was.mode kept.0).small (omega (arith, c.loop-turn.invariant.small))) in
    let none = first_still old.now.trees now.now.trees kept.1 id c.loop-turn.next None value in
    let sound = all_sound c.args.profile.now old.now.trees id c.loop-turn.next (c.loop-turn.invariant.checked at.clean mode store) none in
    posts_by format c.args.profile.now id old new c.write_pending.result
    (ok_both c.write_pending.result _ _ _ (λ settled all. (
      settled.0,
      keeps_then old.now.trees mid.now.trees new.now.trees (same_lists old.now.trees now mid at.on.now_is kept.1) settled.1,
      sound,
      λ before had storable lacks.
          let such = c.loop-turn.invariant.posted at.clean mode store before had storable lacks in
          let held = subst (λ (db : Database). WillHold format db.trees id c.loop-turn.pending such.content) (sym at.on.now_is) such.held in
          record {
            content = such.content;
            held = held_whole format new.now.trees id c.write_pending.new.pending such.content all (settled.2 such.content such.storable held).0;
            storable = such.storable;
            is = all_posted c.args.profile.now old.now.trees id c.loop-turn.next before such.content such.is none;
          },
    )) (c.write_pending.ensures.call.does.written clean at.on.mode there) c.write_pending.ensures.all)
    (λ told before had storable lacks fine.
    let such = c.loop-turn.invariant.posted at.clean mode store before had storable lacks in
    let held = subst (λ (db : Database). WillHold format db.trees id c.loop-turn.pending such.content) (sym at.on.now_is) such.held in
    c.write_pending.ensures.call.does.honest clean at.on.mode there told such.content such.storable held)

-- ---- before it

-- what can be read is read
pub returns-in_err-record-clause-posts : goal.returns-in_err-record-clause-posts
returns-in_err-record-clause-posts g c clean mode store =
    let old = state g.S.Store c.args.tx.now.conn.now in
    let now = state g.S.Store c.loop-turn.tx.conn.now in
    let clean_now : HasCleanDisk now = omega (arith, c.record_from_inside.ensures.found.looks.call.crash.clean) in
    let was = c.loop-turn.invariant.stays clean_now mode in
    let kept = c.loop-turn.invariant.kept clean_now mode store in
    let told : c.from_residual.result ≡ Err c.in_err-record.field-0.0 = search rules in
    rw told (λ is before had storable lacks fine. c.in_err-record.ensures.found.looks.finds clean was.mode kept.0 is (readable_still old.now.trees now.now.trees kept.1 c.args.db.0 fine.0))

-- a record that isn't sound
pub returns-in_err-record_note-clause-posts : goal.returns-in_err-record_note-clause-posts
returns-in_err-record_note-clause-posts g c clean mode store =
    let now = state g.S.Store c.loop-turn.tx.conn.now in
    let found = c.in-Some.record in
    let clean_now : HasCleanDisk now = omega (arith, c.record_from_inside.ensures.found.looks.call.crash.clean) in
    let was = c.loop-turn.invariant.stays clean_now mode in
    let kept = c.loop-turn.invariant.kept clean_now mode store in
    let value = subst (IsFirstFrom now.now.trees c.args.db.0 c.loop-turn.next) c.in-Some.is ((c.in_ok-record.ensures.found.looks.finds clean was.mode kept.0).small (omega (arith, c.loop-turn.invariant.small))) in
    let first = first_still (state g.S.Store c.args.tx.now.conn.now).now.trees now.now.trees kept.1 c.args.db.0 c.loop-turn.next (Some found) value in
    let told : c.from_residual-in_err-record_note.result ≡ Err c.in_err-record_note.field-0.0 = search rules in
    rw told (λ is before had storable lacks fine. c.in_err-record_note.ensures.damaged (ap Err is) (fine.1 found.sysno (string_bytes found.ident) found.bytes.items first.0))

-- the registers hold what the noted changes say
pub returns-in_err-write_where_full-clause-posts : goal.returns-in_err-write_where_full-clause-posts
returns-in_err-write_where_full-clause-posts g c clean mode store =
    let full = (goal.at.returns-in_err-write_where_full-clause-posts g c).After-write_where_full in
    let told : c.from_residual-in_err-write_where_full.result ≡ Err c.in_err-write_where_full.field-0.0 = search rules in
    rw told (λ is before had storable lacks fine.
    let read = next_read g full clean mode store in
    let noted = (then_noted g full clean mode store before had storable lacks).1 in
    c.in_err-write_where_full.ensures.call.does.honest clean read.at.on.mode read.store (ap Err is) noted.content noted.storable noted.held)
