use Rattle.zeb_register.proofs.Cited.{unchanged_then, HasGiven, state, Row, HasCleanDisk, Int, rules, ◌≡◌, ◌∙◌, ◌↔◌, ◌++◌, List, [], ◌∷◌, Bool, false, not, Ok, Err, ◌<◌, ◌≤◌, nat_eq, refl, sym, ap, subst, w64, to_z, of_z, arith, to_z-of_z, Decides-eqb, err_from_is_err_and, Error, Reading, IsReasonedError, IsInOrder, Fits, ReadsRests, rests_text, size_of}
use Rattle.sqlite.specs.State.{Shown}
use Rattle.zeb_register.proofs.Calls.{IsSilent, nothing, quiet, store_same}
use Rattle.zeb_register.proofs.Causes.{may_after}
use Rattle.zeb_register.proofs.CallsInTurn.{quiet_then}
use Rattle.zeb_register.proofs.RowReads.{begun_silent, failed_nothing, fits_none, rests_refused, rests_silent, same_nothing, tells_broken, tells_whole, one_further}
use Rattle.zeb_register.proofs.YesNoAnswers.{told_so}
use Rattle.zeb_register.proofs.read_beside.rests_agree.Goals as goal
use Rattle.zeb_register.proofs.read_beside.rests_agree.Goals.{else-rows-test, then-rows-test+in_ok-row+in-Some+in-Some-row_end+else-turn-size}

pub returns-in_err-rows-clause-call : goal.returns-in_err-rows-clause-call
returns-in_err-rows-clause-call g c =
    let old = state g.S.Store c.args.conn.now in
    let new = state g.S.Store c.query.follows.lender-at-none in
    let held = rw c.in_err-rows.was at c.query.follows.holds-at-none in
    let silent = subst IsSilent (sym c.rests_text.ensures) (rests_silent c.args.table) in
    record {
      idle = held.mode;
      ok = λ clean. search rules;
      same = λ clean. nothing {A = Bool} (λ _. []) c.rests_text.result.now _ old new (Err c.in_err-rows.field-0.0) c.is_autocommit-idle.result silent c.is_autocommit-idle.ensures.value c.is_autocommit-idle.ensures.settled tt (held.err clean);
      crash = quiet _ _ _ _ silent held.survives;
    }

pub rows-init : goal.rows-init
rows-init g c =
    let made = c.in_ok-rows.ensures in
    let silent = subst IsSilent (sym c.rests_text.ensures) (rests_silent c.args.table) in
    record {
      name = refl;
      idle = made.mode;
      crash = quiet _ _ _ _ silent made.survives;
      within = omega arith;
      turns = omega arith;
      given = λ clean.
          let begun = begun_silent g.S.Store _ _ silent c.args.conn.now _ (made.begun clean) in
          let given : HasGiven g.S.Store (rests_text c.args.table) (Int c.args.db ∷ []) c.in_ok-rows.rows.conn.now [] = simp (c.rests_text.ensures, c.params-to_sql.ensures, to_z-of_z, c.ranges.db) at begun.0 in
          (begun.1, ([], subst (λ d. HasGiven g.S.Store (rests_text c.args.table) (Int d ∷ []) c.in_ok-rows.rows.conn.now []) (sym (to_z-of_z {w = w64} {z = c.args.db} c.ranges.db)) given, λ order more. (λ h. h, λ h. h)));
    }

pub returns-in_err-row-clause-call : goal.returns-in_err-row-clause-call
returns-in_err-row-clause-call g c =
    let old = state g.S.Store c.args.conn.now in
    let mid = state g.S.Store c.rows.rows.conn.now in
    let now = state g.S.Store c.next.follows.lender-at-none.conn.now in
    let inv = c.rows.invariant in
    let moved = c.next.follows.holds-at-none in
    let it : Reading old now c.from_residual-in_err-row.result (ReadsRests c.args.table c.args.db c.args.database.now) = record {
      idle = λ i. moved.mode (inv.idle i);
      ok = λ clean. search rules;
      same = λ clean i.
          let first = inv.given (omega (arith, moved.survives.clean)) in
          failed_nothing old mid now c.in_err-row.field-0.0 first.0 (rw c.in_err-row.was at (moved.kept clean)) (c.is_autocommit-idle.ensures.settled (c.is_autocommit-idle.ensures.value ∙ ap not i));
      crash = quiet_then old mid now inv.crash moved.survives;
    } in
    search rules

pub returns-in_default-clause-call : goal.returns-in_default-clause-call
returns-in_default-clause-call g c =
    let old = state g.S.Store c.args.conn.now in
    let mid = state g.S.Store c.rows.rows.conn.now in
    let now = state g.S.Store c.next.follows.lender-at-none.conn.now in
    let inv = c.rows.invariant in
    let moved = c.next.follows.holds-at-none in
    let after = λ (clean : HasCleanDisk now). unchanged_then old mid now (inv.given (omega (arith, moved.survives.clean))).0 (rw c.in_ok-row.was at (moved.same clean)) in
    let it : Reading {A = Bool} {E = Error} old now (Ok (nat_eq c.rows.at c.size_of-size.result)) (ReadsRests c.args.table c.args.db c.args.database.now) = record {
      idle = λ i. moved.mode (inv.idle i);
      ok = λ clean. (
        after clean,
        λ store.
            let first = inv.given (omega (arith, moved.survives.clean)) in
            let shown = subst (λ d. Shown (rests_text c.args.table) (Int d ∷ []) mid now first.1.0) (to_z-of_z {w = w64} {z = c.args.db} c.ranges.db) ((rw (c.in_ok-row.was, c.in_default.is) at (moved.ok clean)) (rests_text c.args.table) (Int (to_z w64 (of_z w64 c.args.db)) ∷ []) first.1.0 first.1.1) in
            let end = fits_none c.args.table c.args.database.now c.rows.at inv.within in
            tells_whole g.S.Store c.args.table c.args.database.now c.args.db old store c.rows.rows.conn.now first.0 now first.1.0 c.rows.at (nat_eq c.rows.at c.size_of-size.result) shown first.1.2
            (told_so (c.rows.at ≡ c.size_of-size.result) (Fits c.args.table c.args.database.now [] c.rows.at) (nat_eq c.rows.at c.size_of-size.result) (subst (λ n. (c.rows.at ≡ n) ↔ Fits c.args.table c.args.database.now [] c.rows.at) (sym c.size_of-size.ensures) end) (Decides-eqb c.rows.at c.size_of-size.result)),
      );
      same = λ clean i. same_nothing old now (after clean);
      crash = quiet_then old mid now inv.crash moved.survives;
    } in
    search rules

pub returns-in_default-row_end-clause-call : goal.returns-in_default-row_end-clause-call
returns-in_default-row_end-clause-call g c =
    let old = state g.S.Store c.args.conn.now in
    let mid = state g.S.Store c.rows.rows.conn.now in
    let held = c.next.follows.lender-at-none.conn.now in
    let now = state g.S.Store held in
    let inv = c.rows.invariant in
    let moved = c.next.follows.holds-at-none in
    let after = λ (clean : HasCleanDisk now). unchanged_then old mid now (inv.given (omega (arith, moved.survives.clean))).0 (rw c.in_ok-row.was at (moved.same clean)) in
    let none : IsInOrder c.args.database.now → (more : List Row) → ¬ Fits c.args.table c.args.database.now (c.in-Some.row.now ∷ more) c.rows.at = rw c.in_default-row_end.is at c.row_end.ensures.fits in
    let it : Reading {A = Bool} {E = Error} old now (Ok false) (ReadsRests c.args.table c.args.db c.args.database.now) = record {
      idle = λ i. moved.mode (inv.idle i);
      ok = λ clean. (
        after clean,
        λ store.
            let first = inv.given (omega (arith, moved.survives.clean)) in
            let has = subst (λ d. HasGiven g.S.Store (rests_text c.args.table) (Int d ∷ []) held (first.1.0 ++ c.in-Some.row.now ∷ [])) (to_z-of_z {w = w64} {z = c.args.db} c.ranges.db) ((rw (c.in_ok-row.was, c.in-Some.is) at (moved.ok clean)) (rests_text c.args.table) (Int (to_z w64 (of_z w64 c.args.db)) ∷ []) first.1.0 first.1.1) in
            tells_broken g.S.Store c.args.table c.args.database.now c.args.db old store held (after clean) first.1.0 c.in-Some.row.now c.rows.at has first.1.2 none,
      );
      same = λ clean i. same_nothing old now (after clean);
      crash = quiet_then old mid now inv.crash moved.survives;
    } in
    search rules

pub rows-preserved : goal.rows-preserved
rows-preserved g c =
    let old = state g.S.Store c.args.conn.now in
    let mid = state g.S.Store c.rows.rows.conn.now in
    let now = state g.S.Store c.next.follows.lender-at-none.conn.now in
    let inv = c.rows.invariant in
    let moved = c.next.follows.holds-at-none in
    let further : (c.rows.at < c.in-Some-row_end.end) × (c.in-Some-row_end.end ≤ size_of c.args.table c.args.database.now) = rw c.in-Some-row_end.is at c.row_end.ensures.further in
    let fits : IsInOrder c.args.database.now → (more : List Row) → Fits c.args.table c.args.database.now (c.in-Some.row.now ∷ more) c.rows.at ↔ Fits c.args.table c.args.database.now more c.in-Some-row_end.end = rw c.in-Some-row_end.is at c.row_end.ensures.fits in
    record {
      name = moved.same_reference ∙ inv.name;
      idle = λ i. moved.mode (inv.idle i);
      crash = quiet_then old mid now inv.crash moved.survives;
      within = further.1;
      turns = omega (arith, inv.turns, further.0);
      given = λ clean.
          let first = inv.given (omega (arith, moved.survives.clean)) in
          let has = (rw (c.in_ok-row.was, c.in-Some.is) at (moved.ok clean)) (rests_text c.args.table) (Int (to_z w64 (of_z w64 c.args.db)) ∷ []) first.1.0 first.1.1 in (
            unchanged_then old mid now first.0 (rw c.in_ok-row.was at (moved.same clean)),
            (first.1.0 ++ c.in-Some.row.now ∷ [], has, λ order more. one_further c.args.table c.args.database.now first.1.0 c.in-Some.row.now more c.rows.at c.in-Some-row_end.end (first.1.2 order) (fits order more)),
          );
    }

pub returns-clause-call : goal.returns-clause-call
returns-clause-call g c = elim c.rows-test.branch [
  | else-rows-test w ↦ absurd (omega (arith, w.rows-test.false, c.rows.auto._turn-end))
  | then-rows-test+in_ok-row+in-Some+in-Some-row_end+else-turn-size w ↦
      let further : (c.rows.at < w.in-Some-row_end.end) × (w.in-Some-row_end.end ≤ size_of c.args.table c.args.database.now) = rw w.in-Some-row_end.is at w.row_end.ensures.further in
      absurd (omega (arith, c.rows.invariant.turns, further.0, further.1, c.size_of-size.ensures, w.if-turn-size.false))
]

pub returns-in_err-rows-clause-refused : goal.returns-in_err-rows-clause-refused
returns-in_err-rows-clause-refused g c =
    let old = state g.S.Store c.args.conn.now in
    let new = state g.S.Store c.query.follows.lender-at-none in
    let held = rw c.in_err-rows.was at c.query.follows.holds-at-none in
    let is = err_from_is_err_and c.from_residual.result c.from_residual.ensures.1 in
    let it : IsReasonedError old new c.from_residual.result = rw (is.1, is.2) (λ clean store told. rests_refused c.args.table c.args.db old new c.in_err-rows.field-0.0 store (search rules) (simp (c.rests_text.ensures, c.params-to_sql.ensures, to_z-of_z, c.ranges.db) at (held.err clean))) in
    it

pub returns-in_err-row-clause-refused : goal.returns-in_err-row-clause-refused
returns-in_err-row-clause-refused g c =
    let old = state g.S.Store c.args.conn.now in
    let mid = state g.S.Store c.rows.rows.conn.now in
    let now = state g.S.Store c.next.follows.lender-at-none.conn.now in
    let inv = c.rows.invariant in
    let moved = c.next.follows.holds-at-none in
    let is = err_from_is_err_and c.from_residual-in_err-row.result c.from_residual-in_err-row.ensures.1 in
    let it : IsReasonedError old now c.from_residual-in_err-row.result = rw (is.1, is.2) (λ clean store told.
    let first = inv.given (omega (arith, moved.survives.clean)) in
    let failed = (rw c.in_err-row.was at (moved.err clean)) (rests_text c.args.table) (Int (to_z w64 (of_z w64 c.args.db)) ∷ []) first.1.0 first.1.1 in
    may_after old mid now inv.crash (λ _. first.0.0.is_open) (λ _. rests_refused c.args.table (to_z w64 (of_z w64 c.args.db)) mid now c.in_err-row.field-0.0 (store_same old mid first.0.0.now_is store) (search rules) failed)) in
    search rules
