use Rattle.zeb_leaves.proofs.Cited.{◌≡◌, ◌∙◌, ℕ, List, false, ap, subst, state, nat_cmp, nat_list_cmp_total, slice_cmp, tied_itself, is_lt, SayAll, SomeSaysNone, SomeShowsNoKey, up_to, IsBetween}
use Rattle.zeb_leaf.specs.declared.entries.Held.{Held}
use Rattle.zeb_register.proofs.LooksInTurn.{found_refused, looks_handed, looks_so}
use Rattle.zeb_leaves.proofs.SpanCalls.{listed_between, said_in_turn, uncovered_between, unsaid_between, unshown_between}
use Rattle.zeb_leaves.proofs.between.ordered_between.Goals as goal

-- a text that isn't above the last stands from itself to the last
itself_between : (first last : List ℕ) → is_lt (slice_cmp nat_cmp last first) ≡ false → IsBetween first last first
itself_between first last up = (ap is_lt (tied_itself nat_list_cmp_total first), up)

pub span_leaves-requires : goal.span_leaves-requires
span_leaves-requires g c = rw (c.as_str.ensures.value, c.in_ok-end.ensures) ((up_to c.args.last.now c.args.first.now).1 c.requires)

pub returns-in_err-rows-clause-units : goal.returns-in_err-rows-clause-units
returns-in_err-rows-clause-units g c =
    let first = c.args.first.now in
    let last = c.args.last.now in
    looks_handed _ _ _ c.from_residual-in_err-rows.result _ _ _ _ c.in_err-rows.ensures c.from_residual-in_err-rows.ensures.1 (λ store.
    uncovered_between (state g.S.Store c.args.conn.now) store c.args.at first last (itself_between first last c.requires))

pub returns-in_err-held-clause-units : goal.returns-in_err-held-clause-units
returns-in_err-held-clause-units g c =
    let first = c.args.first.now in
    let last = c.args.last.now in
    found_refused _ _ _ c.in_err-held.field-0.0 c.from_residual-in_err-held.result _ _ _ _ c.in_ok-rows.ensures c.from_residual-in_err-held.ensures.1 (λ store found told.
    let are = found last (c.as_str.ensures.value ∙ c.in_ok-end.ensures) in
    unshown_between (state g.S.Store c.args.conn.now) store c.args.at first last (itself_between first last c.requires) c.in_ok-rows.rows.items are (subst SomeShowsNoKey c.deref.ensures.value (c.in_err-held.ensures told)))

pub returns-in_err-postings_said-clause-units : goal.returns-in_err-postings_said-clause-units
returns-in_err-postings_said-clause-units g c =
    let first = c.args.first.now in
    let last = c.args.last.now in
    found_refused _ _ _ c.in_err-postings_said.field-0.0 c.from_residual-in_err-postings_said.result _ _ _ _ c.in_ok-rows.ensures c.from_residual-in_err-postings_said.ensures.1 (λ store found told.
    let are = found last (c.as_str.ensures.value ∙ c.in_ok-end.ensures) in
    let shows = rw (c.deref.ensures.value, c.as_bytes.ensures.value, c.as_bytes-2.ensures.value, c.as_str-2.ensures.value, c.in_ok-end.ensures) at c.in_ok-held.ensures in
    unsaid_between (state g.S.Store c.args.conn.now) store c.args.at first last (itself_between first last c.requires) c.in_ok-rows.rows.items are c.in_ok-held.held.items shows (subst SomeSaysNone c.deref-2.ensures.value (c.in_err-postings_said.ensures told)))

pub returns-clause-units : goal.returns-clause-units
returns-clause-units g c =
    let first = c.args.first.now in
    let last = c.args.last.now in
    let list = c.in_ok-postings_said.field-0.items in
    looks_so _ _ _ _ _ _ _ _ c.in_ok-rows.ensures (λ store found.
    let are = found last (c.as_str.ensures.value ∙ c.in_ok-end.ensures) in
    let shows = rw (c.deref.ensures.value, c.as_bytes.ensures.value, c.as_bytes-2.ensures.value, c.as_str-2.ensures.value, c.in_ok-end.ensures) at c.in_ok-held.ensures in
    listed_between (state g.S.Store c.args.conn.now) store c.args.at first last (itself_between first last c.requires) c.in_ok-rows.rows.items are c.in_ok-held.held.items shows list (subst (λ (h : List Held). SayAll h list) c.deref-2.ensures.value c.in_ok-postings_said.ensures))

pub returns-clause-turn : goal.returns-clause-turn
returns-clause-turn g c clean store =
    let first = c.args.first.now in
    let last = c.args.last.now in
    let list = c.in_ok-postings_said.field-0.items in
    let are = c.in_ok-rows.ensures.finds clean store last (c.as_str.ensures.value ∙ c.in_ok-end.ensures) in
    let shows = rw (c.deref.ensures.value, c.as_bytes.ensures.value, c.as_bytes-2.ensures.value, c.as_str-2.ensures.value, c.in_ok-end.ensures) at c.in_ok-held.ensures in
    said_in_turn (state g.S.Store c.args.conn.now) store c.args.at first last (itself_between first last c.requires) c.in_ok-rows.rows.items are c.in_ok-held.held.items shows list (subst (λ (h : List Held). SayAll h list) c.deref-2.ensures.value c.in_ok-postings_said.ensures)
