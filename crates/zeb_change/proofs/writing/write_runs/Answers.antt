use Rattle.zeb_change.proofs.Cited.{◌≡◌, ◌∙◌, List, Ok, Err, Result, OnOk, AllZip, ap, arith, map, refl, rules, subst, sym, state, HasCleanDisk, RegFault, IsStore, Key, KeyNotes, key_order, changes_among, IsStrictlySortedBy, TakenKey, DoKeysRise, IsTakenFrom, WritesNotes}
use Rattle.zeb_register.proofs.CallsInTurn.{quiet_then}
use Rattle.zeb_change.proofs.CostLemmas.{due_noted, due_nothing, due_written}
use Rattle.zeb_change.proofs.NotedChanges.{count_both}
use Rattle.zeb_change.proofs.TakenKeys.{fewer_left, none_of, some_of, taken_rise}
use Rattle.zeb_change.proofs.TransactionLemmas.{continues_then, goes_on}
use Rattle.zeb_change.proofs.WrittenNotes.{first_refused, nothing_written, then_written}
use Rattle.zeb_change.proofs.writing.write_runs.Goals as goal

pub loop-taken-init : goal.loop-taken-init
loop-taken-init g c =
    let trees = (state g.S.Store c.args.tx.now.conn.now).now.trees in
    record {
      same = refl;
      crash = search rules;
      stays = search rules;
      store = λ clean mode store. store;
      leads = λ clean mode store end result writes. writes;
      due = λ clean mode store. due_noted g.L.Layout.format g.L.Layout.row_work 0 trees trees c.args.work.now c.args.pending.now c.args.pending.now refl (omega arith);
      no_work = λ none. refl;
    }

pub write_run-requires : goal.write_run-requires
write_run-requires g c =
    let taken = c.in_ok-taken.taken in
    let out = c.in_ok-taken.ensures.taken in
    let some = some_of taken.items taken.len (omega (arith, taken.ok.0)) (sym c.if-is_empty.ensures) in
    record {
      rising = subst (λ (l : List TakenKey). IsStrictlySortedBy key_order (map (λ (one : TakenKey). one.key) l)) (sym c.deref.ensures.value)
          (taken_rise out.entries taken.items out.each c.take_run.new.self.notes.entries (subst DoKeysRise out.first (out.rising some)));
    }

pub loop-taken-smaller : goal.loop-taken-smaller
loop-taken-smaller g c =
    let taken = c.in_ok-taken.taken in
    fewer_left taken.items c.loop-taken.pending c.take_run.new.self c.in_ok-taken.ensures.taken (some_of taken.items taken.len (omega (arith, taken.ok.0)) (sym c.if-is_empty.ensures))

pub loop-taken-preserved : goal.loop-taken-preserved
loop-taken-preserved g c =
    let format = g.L.Layout.format in
    let first = state g.S.Store c.args.tx.now.conn.now in
    let mid = state g.S.Store c.loop-taken.tx.conn.now in
    let last = state g.S.Store c.write_run.new.tx.conn.now in
    let so_far = c.loop-taken.invariant in
    let taken = c.in_ok-taken.taken in
    let out = c.in_ok-taken.ensures.taken in
    let left = c.take_run.new.self.notes.entries in
    let some = some_of taken.items taken.len (omega (arith, taken.ok.0)) (sym c.if-is_empty.ensures) in
    let from = subst (AllZip IsTakenFrom out.entries) (sym c.deref.ensures.value) out.each in
    record {
      same = search rules;
      crash = quiet_then first mid last so_far.crash c.write_run.ensures.call.does.crash;
      stays = λ clean mode.
          let was : HasCleanDisk mid = omega (arith, c.write_run.ensures.call.does.crash.clean) in
          let stays = so_far.stays was mode in
          continues_then first mid last stays (goes_on mid last (c.in_ok-write_run.ensures.call.does.ok clean stays.mode));
      store = λ clean mode store.
          let was : HasCleanDisk mid = omega (arith, c.write_run.ensures.call.does.crash.clean) in
          (c.in_ok-write_run.ensures.rows out.entries from clean (so_far.stays was mode).mode (so_far.store was mode store)).0;
      leads = λ clean mode store end result writes.
          let was : HasCleanDisk mid = omega (arith, c.write_run.ensures.call.does.crash.clean) in
          let put = (c.in_ok-write_run.ensures.rows out.entries from clean (so_far.stays was mode).mode (so_far.store was mode store)).1 in
          so_far.leads was mode store end result (subst (λ (es : List (Key × KeyNotes)). WritesNotes format c.args.db.0 es mid.now.trees end result) (sym out.first)
          (then_written format c.args.db.0 out.entries left (subst DoKeysRise out.first (out.rising some)) mid.now.trees last.now.trees put end result writes));
      due = λ clean mode store.
          let was : HasCleanDisk mid = omega (arith, c.write_run.ensures.call.does.crash.clean) in
          due_written format g.L.Layout.row_work (changes_among out.entries) first.now.trees mid.now.trees last.now.trees c.args.work.now c.loop-taken.work c.write_run.new.work
          c.args.pending.now c.loop-taken.pending c.take_run.new.self c.counts_are_numbers.ensures (so_far.due was mode store)
          (c.in_ok-write_run.ensures.work out.entries from clean (so_far.stays was mode).mode (so_far.store was mode store)) (ap changes_among out.first ∙ count_both out.entries left);
      no_work = λ none. c.write_run.ensures.no_work none ∙ so_far.no_work none;
    }

pub returns-then-is_empty-clause-rows : goal.returns-then-is_empty-clause-rows
returns-then-is_empty-clause-rows g c clean mode store =
    let mid = state g.S.Store c.loop-taken.tx.conn.now in
    let taken = c.in_ok-taken.taken in
    let none = c.in_ok-taken.ensures.none (none_of taken.items taken.len (omega (arith, taken.ok.0)) (sym c.if-is_empty.ensures)) in (
      c.loop-taken.invariant.store clean mode store,
      c.loop-taken.invariant.leads clean mode store mid.now.trees (Ok tt) (nothing_written g.L.Layout.format c.args.db.0 c.loop-taken.pending.notes.entries mid.now.trees none.0),
    )

pub returns-then-is_empty-clause-all : goal.returns-then-is_empty-clause-all
returns-then-is_empty-clause-all g c =
    let taken = c.in_ok-taken.taken in
    let none = c.in_ok-taken.ensures.none (none_of taken.items taken.len (omega (arith, taken.ok.0)) (sym c.if-is_empty.ensures)) in
    let first = (state g.S.Store c.args.tx.now.conn.now).now.trees in
    let last = (state g.S.Store c.loop-taken.tx.conn.now).now.trees in (
      none.1,
      λ clean mode store.
          due_nothing g.L.Layout.format g.L.Layout.row_work 0 first last c.args.work.now c.loop-taken.work c.args.pending.now c.loop-taken.pending c.take_run.new.self none.0 none.1
          (c.loop-taken.invariant.due clean mode store),
    )

pub returns-in_err-write_run-clause-rows : goal.returns-in_err-write_run-clause-rows
returns-in_err-write_run-clause-rows g c clean mode store =
    let format = g.L.Layout.format in
    let db = c.args.db.0 in
    let first = state g.S.Store c.args.tx.now.conn.now in
    let mid = state g.S.Store c.loop-taken.tx.conn.now in
    let last = state g.S.Store c.write_run.new.tx.conn.now in
    let so_far = c.loop-taken.invariant in
    let taken = c.in_ok-taken.taken in
    let out = c.in_ok-taken.ensures.taken in
    let left = c.take_run.new.self.notes.entries in
    let fault = c.in_err-write_run.field-0.0 in
    let told : c.from_residual-in_err-write_run.result ≡ Err fault = search rules in
    let some = some_of taken.items taken.len (omega (arith, taken.ok.0)) (sym c.if-is_empty.ensures) in
    let from = subst (AllZip IsTakenFrom out.entries) (sym c.deref.ensures.value) out.each in
    let was : HasCleanDisk mid = omega (arith, c.write_run.ensures.call.does.crash.clean) in
    let refused = (c.in_err-write_run.ensures.rows out.entries from clean (so_far.stays was mode).mode (so_far.store was mode store)).1 in
    let all = first_refused format db out.entries left (subst DoKeysRise out.first (out.rising some)) mid.now.trees fault refused in
    let writes = so_far.leads was mode store last.now.trees (Err fault) (subst (λ (es : List (Key × KeyNotes)). WritesNotes format db es mid.now.trees last.now.trees (Err fault)) (sym out.first) all) in
    subst (λ (r : Result (Unit {0}) RegFault). OnOk r (IsStore last) × WritesNotes format db c.args.pending.now.notes.entries first.now.trees last.now.trees r) (sym told) (tt, writes)
