use Rattle.zeb_leaves.proofs.Cited.{state, rules, Bool, false, Err, Memory, RegFault, Reading, IsReasonedError, Int, ◌≡◌, ◌∙◌, ◌↔◌, ◌≤◌, List, [], ◌∷◌, Ok, None, nat_eq, length, drop, refl, ap, arith, to_z-of_z, not, sym, w64, Decides-eqb, Leaf, ReadsLeaves, TakesLeaf, before_of, leaf_of, leaf_shown, shown_rises, drop_none, drop_over, KeyPosting}
use Rattle.zeb_leaves.proofs.WalkCalls.{Breaks, GoesOn, text, walk_breaks, walk_broken, walk_further, walk_refused, walk_silent, walk_whole}
use Rattle.zeb_leaves.proofs.RowWalks.{of_id, query_failed, query_refused, row_failed, row_given, row_refused, rows_over, walk_begun, walk_ended, walk_failed}
use Rattle.zeb_register.proofs.YesNoAnswers.{told_so}
use Rattle.zeb_leaves.proofs.agreeing_walk.leaves_walked.Goals as goal

pub returns-in_err-rows-clause-call : goal.returns-in_err-rows-clause-call
returns-in_err-rows-clause-call g c =
    query_failed g.S.Store text _ c.args.conn.now c.query.follows.lender-at-none c.in_err-rows.field-0.0 _ _ c.from_residual.result (ReadsLeaves c.args.db c.args.postings.now) walk_silent
    (λ i. c.is_autocommit-idle.ensures.settled (c.is_autocommit-idle.ensures.value ∙ ap not i)) c.in_err-rows.was c.query.follows.holds-at-none c.from_residual.ensures.1

pub rows-init : goal.rows-init
rows-init g c =
    let made = c.in_ok-rows.ensures in
    record {
      name = refl;
      within = omega arith;
      rising = tt;
      walk = of_id g.S.Store text (sym (to_z-of_z {w = w64} {z = c.args.db} c.ranges.db)) (simp (c.params-to_sql.ensures, to_z-of_z, c.ranges.db) at
          (walk_begun g.S.Store text _ c.args.conn.now (λ given. GoesOn c.args.postings.now given None c.args.postings.now) c.in_ok-rows.rows.conn.now walk_silent made.mode made.survives made.begun (λ more. (λ h. h, λ h. h))));
    }

pub returns-in_err-row-clause-call : goal.returns-in_err-row-clause-call
returns-in_err-row-clause-call g c =
    let it : Reading (state g.S.Store c.args.conn.now) (state g.S.Store c.next.follows.lender-at-none.conn.now) c.from_residual-in_err-row.result (ReadsLeaves c.args.db c.args.postings.now) =
    row_failed g.S.Store text (Int c.args.db ∷ []) c.args.conn.now _ c.rows.rows c.next.follows.lender-at-none (of_id g.S.Store text (to_z-of_z {w = w64} {z = c.args.db} c.ranges.db) c.rows.invariant.walk) _ c.next.follows.holds-at-none c.in_err-row.field-0.0 _ c.from_residual-in_err-row.result
    (ReadsLeaves c.args.db c.args.postings.now) c.in_err-row.was (λ i. c.is_autocommit-idle.ensures.settled (c.is_autocommit-idle.ensures.value ∙ ap not i)) c.from_residual-in_err-row.ensures.1 in
    search rules

pub returns-in_default-clause-call : goal.returns-in_default-clause-call
returns-in_default-clause-call g c =
    let postings = c.args.postings.now in
    let left = drop c.rows.at postings in
    let answer = nat_eq c.rows.at (length postings) in
    let end : (c.rows.at ≡ length postings) ↔ (left ≡ []) = (λ whole. drop_over postings c.rows.at (omega (arith, whole)), λ none. let e = drop_none postings c.rows.at none in omega (arith, e, c.rows.invariant.within)) in
    let it : Reading {A = Bool} {E = RegFault} (state g.S.Store c.args.conn.now) (state g.S.Store c.next.follows.lender-at-none.conn.now) (Ok answer) (ReadsLeaves c.args.db c.args.postings.now) =
    rows_over g.S.Store text (Int c.args.db ∷ []) c.args.conn.now _ c.rows.rows c.next.follows.lender-at-none (of_id g.S.Store text (to_z-of_z {w = w64} {z = c.args.db} c.ranges.db) c.rows.invariant.walk) _ c.next.follows.holds-at-none (Ok answer) (ReadsLeaves c.args.db postings)
    (c.in_ok-row.was ∙ ap Ok c.in_default.is)
    (λ before after given shown so. (
      after,
      λ store. walk_whole g.S.Store postings c.args.db _ store c.rows.rows.conn.now before _ given (before_of c.rows.before) left answer shown so
          (told_so (c.rows.at ≡ length postings) (left ≡ []) answer end (Decides-eqb c.rows.at (length postings))),
    )) in
    search rules

pub returns-in_default-2-clause-call : goal.returns-in_default-2-clause-call
returns-in_default-2-clause-call g c =
    let postings = c.args.postings.now in
    let left = drop c.rows.at postings in
    let now = c.next.follows.lender-at-none in
    let row = c.in-Some.row in
    let none : (leaf : Leaf) (rest : List KeyPosting) → ¬ TakesLeaf (before_of c.rows.before) row.now leaf left rest = rw c.in_default-2.is at (c.in_ok-taken.ensures c.rows.invariant.rising) in
    let it : Reading {A = Bool} {E = RegFault} (state g.S.Store c.args.conn.now) (state g.S.Store now.conn.now) (Ok false) (ReadsLeaves c.args.db c.args.postings.now) =
    walk_ended g.S.Store text (Int c.args.db ∷ []) c.args.conn.now (Breaks postings) now.conn.now _ (ReadsLeaves c.args.db postings)
    (row_given g.S.Store text (Int c.args.db ∷ []) c.args.conn.now _ c.rows.rows now (of_id g.S.Store text (to_z-of_z {w = w64} {z = c.args.db} c.ranges.db) c.rows.invariant.walk) _ c.next.follows.holds-at-none (Breaks postings) row (c.in_ok-row.was ∙ ap Ok c.in-Some.is)
    (λ given so. walk_breaks postings given row.now (before_of c.rows.before) left so none))
    (λ same given has breaks. (same, λ store. walk_broken g.S.Store postings c.args.db _ store now.conn.now same given has breaks)) in
    search rules

pub returns-in_err-taken-clause-call : goal.returns-in_err-taken-clause-call
returns-in_err-taken-clause-call g c =
    let it : Reading (state g.S.Store c.args.conn.now) (state g.S.Store c.next.follows.lender-at-none.conn.now) c.from_residual-in_err-taken.result (ReadsLeaves c.args.db c.args.postings.now) =
    walk_failed g.S.Store text (Int c.args.db ∷ []) c.args.conn.now (λ given. Unit {0}) c.next.follows.lender-at-none.conn.now _ c.from_residual-in_err-taken.result (ReadsLeaves c.args.db c.args.postings.now)
    (row_given g.S.Store text (Int c.args.db ∷ []) c.args.conn.now _ c.rows.rows c.next.follows.lender-at-none (of_id g.S.Store text (to_z-of_z {w = w64} {z = c.args.db} c.ranges.db) c.rows.invariant.walk) _ c.next.follows.holds-at-none (λ given. Unit {0}) c.in-Some.row (c.in_ok-row.was ∙ ap Ok c.in-Some.is)
    (λ given so. tt)) c.from_residual-in_err-taken.ensures.1 in
    search rules

pub rows-preserved : goal.rows-preserved
rows-preserved g c =
    let inv = c.rows.invariant in
    let moved = c.next.follows.holds-at-none in
    let postings = c.args.postings.now in
    let row = c.in-Some.row in
    let leaf = leaf_of c.in-Some-2.taken.leaf in
    let left = drop c.rows.at postings in
    let rest = drop c.in-Some-2.taken.end postings in
    let taken : (c.in-Some-2.taken.end ≤ length postings) × TakesLeaf (before_of c.rows.before) row.now leaf left rest = rw c.in-Some-2.is at (c.in_ok-taken.ensures inv.rising) in
    record {
      name = moved.same_reference ∙ inv.name;
      within = taken.0;
      rising = shown_rises (leaf_shown leaf.key leaf.block taken.1.shows.bytes) leaf.entries taken.1.shows.shown;
      walk = of_id g.S.Store text (sym (to_z-of_z {w = w64} {z = c.args.db} c.ranges.db)) (row_given g.S.Store text (Int c.args.db ∷ []) c.args.conn.now _ c.rows.rows c.next.follows.lender-at-none (of_id g.S.Store text (to_z-of_z {w = w64} {z = c.args.db} c.ranges.db) inv.walk) _ moved _ row (c.in_ok-row.was ∙ ap Ok c.in-Some.is)
          (λ given so. walk_further postings given row.now (before_of c.rows.before) leaf left rest so taken.1));
    }

pub returns-clause-call : goal.returns-clause-call
returns-clause-call g c =
    let it : Reading {A = Bool} {E = RegFault} (state g.S.Store c.args.conn.now) (state g.S.Store c.rows.rows.conn.now) (Err Memory) (ReadsLeaves c.args.db c.args.postings.now) =
    walk_ended g.S.Store text (Int c.args.db ∷ []) c.args.conn.now _ c.rows.rows.conn.now _ (ReadsLeaves c.args.db c.args.postings.now) (of_id g.S.Store text (to_z-of_z {w = w64} {z = c.args.db} c.ranges.db) c.rows.invariant.walk) (λ same given has so. tt) in
    search rules

pub returns-in_err-rows-clause-refused : goal.returns-in_err-rows-clause-refused
returns-in_err-rows-clause-refused g c =
    let held = rw c.in_err-rows.was at c.query.follows.holds-at-none in
    query_refused g.S.Store text (Int c.args.db ∷ []) c.args.conn.now c.query.follows.lender-at-none c.in_err-rows.field-0.0 c.from_residual.result (walk_refused c.args.db)
    (λ clean. simp (c.params-to_sql.ensures, to_z-of_z, c.ranges.db) at (held.err clean)) c.from_residual.ensures.1

pub returns-in_err-row-clause-refused : goal.returns-in_err-row-clause-refused
returns-in_err-row-clause-refused g c =
    let it : IsReasonedError (state g.S.Store c.args.conn.now) (state g.S.Store c.next.follows.lender-at-none.conn.now) c.from_residual-in_err-row.result =
    row_refused g.S.Store text (Int c.args.db ∷ []) c.args.conn.now _ c.rows.rows c.next.follows.lender-at-none (of_id g.S.Store text (to_z-of_z {w = w64} {z = c.args.db} c.ranges.db) c.rows.invariant.walk) _ c.next.follows.holds-at-none c.in_err-row.field-0.0 c.from_residual-in_err-row.result
    (walk_refused c.args.db) c.in_err-row.was c.from_residual-in_err-row.ensures.1 in
    search rules
