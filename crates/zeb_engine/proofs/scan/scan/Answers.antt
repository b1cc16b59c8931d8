use Rattle.zeb_engine.proofs.Cited.{rules, pos, List, ℕ, sym, subst, inl, inr, state, Trees, Directive, scan_value, query_value, Format, holds_in, query_refusal, register_refusal, name_bytes, Around, OfDatabase, HidesPlanned, HidesTerms, ScanOver, ScanTells, TellsAround, clean_before}
use Rattle.zeb_engine.proofs.AskingInTurn.{asks_fail, asks_handed, asks_none, asks_on, asks_stopped}
use Rattle.zeb_engine.proofs.HiddenRows.{hidden_read}
use Rattle.zeb_engine.proofs.ListedDatabases.{fault_or_damage}
use Rattle.zeb_engine.proofs.OverTables.{missed_over, or_fails, plan_scanned, query_over, terms_scanned}
use Rattle.zeb_engine.proofs.ReadsInTurn.{query_asked, shown_still}
use Rattle.zeb_engine.proofs.StoreCauses.{query_caused}
use Rattle.zeb_engine.proofs.scan.scan.Goals as goal

-- what is told of any tables, and which damage of them
abbrev tells : Format → List Directive → Around → Trees → OfDatabase
tells format profile asked = ScanTells format profile asked.query.now asked.number asked.position

abbrev hides : Format → List Directive → (name : List ℕ) → Around → Trees → Type 0
hides format profile name asked = HidesTerms format profile name asked.query.now asked.number asked.position

pub returns-in_err-query-clause-asks : goal.returns-in_err-query-clause-asks
returns-in_err-query-clause-asks g c =
    let fault = c.in_err-query.field-0.0 in
    let s = state g.S.Store c.args.connection.now in
    let name = name_bytes c.args.name.now in
    asks_none c.requires.idle (query_refusal fault) (query_caused s s fault) (query_asked fault) (search rules) (λ store.
    query_over (tells g.L.Layout.format c.args.profile.now c.args.around s.now.trees) name (hides g.L.Layout.format c.args.profile.now name c.args.around) s.now.trees c.args.around.query.now fault c.in_err-query.ensures.faulty)

pub returns-in_err-database-clause-asks : goal.returns-in_err-database-clause-asks
returns-in_err-database-clause-asks g c =
    let refusal = c.in_err-database.field-0.0 in
    let trees = (state g.S.Store c.args.connection.now).now.trees in
    let name = name_bytes c.args.name.now in
    asks_handed refusal c.in_err-database.ensures (search rules) (λ store missed.
    missed_over (tells g.L.Layout.format c.args.profile.now c.args.around trees) name (hides g.L.Layout.format c.args.profile.now name c.args.around) trees c.args.around.query.now c.in_ok-query.ensures.readable (λ hidden. (hidden.0, inl hidden.1)) refusal missed)

pub returns-in_err-plan-clause-asks : goal.returns-in_err-plan-clause-asks
returns-in_err-plan-clause-asks g c =
    let fault = c.in_err-plan.field-0.0 in
    let old = state g.S.Store c.args.connection.now in
    let trees = old.now.trees in
    let database = c.in_ok-database.database in
    let name = name_bytes c.args.name.now in
    let text = c.args.around.query.now in
    asks_stopped c.in_ok-database.ensures (query_refusal fault) (query_caused old (state g.S.Store c.existing_database.new.connection) fault) (query_asked fault) (search rules) (λ store found.
    or_fails (tells g.L.Layout.format c.args.profile.now c.args.around trees) name (hides g.L.Layout.format c.args.profile.now name c.args.around) trees text c.in_ok-query.ensures.readable database.id.0 (pos database.last) found (query_refusal fault)
    (plan_scanned c.args.profile.now text (query_value c.in_ok-query.query) c.in_ok-query.ensures.spelled (TellsAround g.L.Layout.format trees database.id.0) c.args.around.number c.args.around.position fault c.in_err-plan.ensures.planned))

pub returns-in_err-entries-clause-asks : goal.returns-in_err-entries-clause-asks
returns-in_err-entries-clause-asks g c =
    let format = g.L.Layout.format in
    let profile = c.args.profile.now in
    let trees = (state g.S.Store c.args.connection.now).now.trees in
    let name = name_bytes c.args.name.now in
    let around = c.args.around in
    let text = around.query.now in
    let database = c.in_ok-database.database in
    let fault = c.in_err-entries.field-0.0 in
    asks_fail c.in_ok-database.ensures c.in_err-entries.ensures (search rules) (λ store found hidden.
    hidden_read text c.in_ok-query.ensures.readable (ScanOver format profile name text around.number around.position) (λ t id. HidesPlanned format profile text around.number around.position t id) name trees database.id.0 (pos database.last) found (register_refusal fault)
    (fault_or_damage (HidesPlanned format profile text around.number around.position trees database.id.0) fault (λ is. (scan_value c.in_ok-plan.plan, (query_value c.in_ok-query.query, c.in_ok-query.ensures.spelled, c.in_ok-plan.ensures.planned), hidden is))))

pub returns-clause-asks : goal.returns-clause-asks
returns-clause-asks g c =
    let trees = (state g.S.Store c.args.connection.now).now.trees in
    let around = c.args.around in
    let database = c.in_ok-database.database in
    asks_on c.in_ok-database.ensures c.in_ok-entries.ensures (λ store found told.
    inl (inl (
      c.in_ok-query.ensures.readable,
      inr (
        database.id.0,
        pos database.last,
        found,
        terms_scanned c.args.profile.now around.query.now (query_value c.in_ok-query.query) c.in_ok-query.ensures.spelled (TellsAround g.L.Layout.format trees database.id.0) around.number around.position (scan_value c.in_ok-plan.plan) c.in_ok-plan.ensures.planned
            c.in_ok-entries.entries.items told,
      ),
    )))

pub returns-clause-work : goal.returns-clause-work
returns-clause-work g c = (
  λ none. c.terms_around.ensures.no_work none,
  λ clean store content held.
      let first = clean_before (state g.S.Store c.existing_database.new.connection) (state g.S.Store c.terms_around.new.connection) c.terms_around.ensures.call.crash clean in
      let at = shown_still g.S.Store c.args.connection.now c.existing_database.new.connection c.in_ok-database.database c.in_ok-database.ensures.reads first store in
      c.in_ok-entries.ensures.work clean at.0 content (subst (λ (t : Trees). holds_in g.L.Layout.format t content) (sym at.1) held),
)
