use Rattle.zeb_leaves.proofs.Cited.{◌≡◌, ◌∙◌, ℕ, List, subst, state, sum_by, IsLeafOf, IsUncovered, leaf_key, AreSpanLeaves, SomeShowsNoKey}
use Rattle.zeb_leaf.specs.declared.entries.Held.{Held}
use Rattle.zeb_leaf_rows.proofs.OnlyLeaf.{below_above}
use Rattle.zeb_register.proofs.LooksInTurn.{found_refused, looks_handed, looks_so}
use Rattle.zeb_leaves.proofs.KeyCalls.{held_counted, uncovered_lacking, unread_lacking}
use Rattle.zeb_leaves.proofs.key_reads.key_count.Goals as goal

pub span_leaves-requires : goal.span_leaves-requires
span_leaves-requires g c = rw (c.as_str.ensures.value, c.in_ok-end.ensures) (below_above c.as_str-term.result.now)

pub returns-in_err-rows : goal.returns-in_err-rows
returns-in_err-rows g c =
    let key = c.args.key.now in
    let Leaves = IsLeafOf (state g.S.Store c.args.conn.now).now.trees c.args.db.0 key in
    looks_handed _ _ _ c.from_residual-in_err-rows.result _ _ _ _ c.in_err-rows.ensures c.from_residual-in_err-rows.ensures.1 (λ store uncovered.
    uncovered_lacking Leaves key.term (subst (λ (t : List ℕ). IsUncovered Leaves (leaf_key t 0)) c.as_str-term.ensures uncovered))

pub returns-in_err-held : goal.returns-in_err-held
returns-in_err-held g c =
    let s = state g.S.Store c.args.conn.now in
    let key = c.args.key.now in
    let rows = c.in_ok-rows.rows.items in
    found_refused _ _ _ c.in_err-held.field-0.0 c.from_residual-in_err-held.result _ _ _ _ c.in_ok-rows.ensures c.from_residual-in_err-held.ensures.1 (λ store found told.
    let are = subst (λ (t : List ℕ). AreSpanLeaves (IsLeafOf s.now.trees c.args.db.0 key) t t rows) c.as_str-term.ensures (found c.as_str-term.result.now (c.as_str.ensures.value ∙ c.in_ok-end.ensures)) in
    unread_lacking s store c.args.db.0 key rows are (subst SomeShowsNoKey c.deref.ensures.value (c.in_err-held.ensures told)))

pub returns : goal.returns
returns g c =
    let s = state g.S.Store c.args.conn.now in
    let key = c.args.key.now in
    let rows = c.in_ok-rows.rows.items in
    let records = c.in_ok-records_said.field-0 in
    looks_so _ _ _ _ _ _ _ _ c.in_ok-rows.ensures (λ store found.
    let are = subst (λ (t : List ℕ). AreSpanLeaves (IsLeafOf s.now.trees c.args.db.0 key) t t rows) c.as_str-term.ensures (found c.as_str-term.result.now (c.as_str.ensures.value ∙ c.in_ok-end.ensures)) in
    let shows = rw (c.deref.ensures.value, c.as_bytes.ensures.value, c.as_bytes-2.ensures.value, c.as_str-2.ensures.value, c.in_ok-end.ensures, c.as_str-term.ensures) at c.in_ok-held.ensures in
    held_counted s store c.args.db.0 key rows are c.in_ok-held.held.items shows records (subst (λ (h : List Held). records ≡ sum_by (λ (one : Held). one.records) h) c.deref-2.ensures.value c.in_ok-records_said.ensures.ok))
