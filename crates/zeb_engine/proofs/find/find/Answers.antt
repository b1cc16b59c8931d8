use Rattle.zeb_engine.proofs.Cited.{rules, ◌≡◌, ◌<◌, ◌^◌, ℕ, pos, List, Vec, Global, Bor, length, map, Err, Ok, subst, sym, inl, inr, refl, string_bytes, state, Trees, Has, Directive, plan_value, query_value, Format, holds_in, has_ident_in, PlanFinds, Question, OfDatabase, Hit, AreShown, FindOver, FindTells, HidesFind, HidesOne, HidesPlan, asked_of, name_bytes, query_refusal, register_refusal, Meets, clean_before}
use Rattle.zeb_search.proofs.SearchesInTurn.{searches_behind, searches_handed_behind}
use Rattle.zeb_engine.proofs.AskingInTurn.{Uncounted, asks_end, asks_fail, asks_handed, asks_none, asks_on, asks_stopped, through_searched}
use Rattle.zeb_engine.proofs.FindAnswers.{met_view}
use Rattle.zeb_engine.proofs.HiddenRows.{hidden_read}
use Rattle.zeb_engine.proofs.ListedDatabases.{fault_or_damage}
use Rattle.zeb_engine.proofs.OverTables.{missed_over, numbers_found, or_fails, past_found, plan_found, query_over}
use Rattle.zeb_engine.proofs.ReadsInTurn.{query_asked, shown_still}
use Rattle.zeb_engine.proofs.StoreCauses.{query_caused}
use Rattle.zeb_engine.proofs.find.find.Goals as goal

-- which damage is told of the rows that a find asks for, and what is told of them
abbrev hides : Format → List Directive → (name : List ℕ) → Question → Trees → Type 0
hides format profile name asked = HidesFind format profile name asked.query.now asked.first asked.count

abbrev tells : Format → List Directive → Question → Trees → OfDatabase
tells format profile asked = FindTells format profile asked.query.now asked.first asked.count

-- the hits that are asked for
abbrev Asked : List ℕ → Bor (List ℕ) → Type 0
Asked wanted asked = asked.now ≡ wanted

pub returns-in_err-query-clause-asks : goal.returns-in_err-query-clause-asks
returns-in_err-query-clause-asks g c =
    let fault = c.in_err-query.field-0.0 in
    let s = state g.S.Store c.args.connection.now in
    let name = name_bytes c.args.name.now in
    asks_none c.requires.idle (query_refusal fault) (query_caused s s fault) (query_asked fault) (search rules) (λ store.
    query_over (tells g.L.Layout.format c.args.profile.now c.args.question s.now.trees) name (hides g.L.Layout.format c.args.profile.now name c.args.question) s.now.trees c.args.question.query.now fault c.in_err-query.ensures.faulty)

pub returns-in_err-database-clause-asks : goal.returns-in_err-database-clause-asks
returns-in_err-database-clause-asks g c =
    let refusal = c.in_err-database.field-0.0 in
    let trees = (state g.S.Store c.args.connection.now).now.trees in
    let name = name_bytes c.args.name.now in
    asks_handed refusal c.in_err-database.ensures (search rules) (λ store missed.
    missed_over (tells g.L.Layout.format c.args.profile.now c.args.question trees) name (hides g.L.Layout.format c.args.profile.now name c.args.question) trees c.args.question.query.now c.in_ok-query.ensures.readable (λ hidden. (hidden.0, inl hidden.1)) refusal missed)

pub returns-in_err-plan-clause-asks : goal.returns-in_err-plan-clause-asks
returns-in_err-plan-clause-asks g c =
    let fault = c.in_err-plan.field-0.0 in
    let old = state g.S.Store c.args.connection.now in
    let trees = old.now.trees in
    let database = c.in_ok-database.database in
    let question = c.args.question in
    let name = name_bytes c.args.name.now in
    asks_stopped c.in_ok-database.ensures (query_refusal fault) (query_caused old (state g.S.Store c.existing_database.new.connection) fault) (query_asked fault) (search rules) (λ store found.
    or_fails (tells g.L.Layout.format c.args.profile.now question trees) name (hides g.L.Layout.format c.args.profile.now name question) trees question.query.now c.in_ok-query.ensures.readable database.id.0 (pos database.last) found (query_refusal fault)
    (plan_found c.args.profile.now question.query.now (query_value c.in_ok-query.query) c.in_ok-query.ensures.spelled (has_ident_in trees database.id.0) (PlanFinds g.L.Layout.format trees database.id.0) question.first question.count fault c.in_err-plan.ensures.planned))

pub returns-in_err-hits-clause-asks : goal.returns-in_err-hits-clause-asks
returns-in_err-hits-clause-asks g c =
    let format = g.L.Layout.format in
    let profile = c.args.profile.now in
    let question = c.args.question in
    let text = question.query.now in
    let trees = (state g.S.Store c.args.connection.now).now.trees in
    let database = c.in_ok-database.database in
    let fault = c.in_err-hits.field-0.0 in
    asks_fail c.in_ok-database.ensures c.in_err-hits.ensures (search rules) (λ store found hidden.
    hidden_read text c.in_ok-query.ensures.readable (FindOver format profile (name_bytes c.args.name.now) text question.first question.count) (HidesPlan format profile text question.first question.count) (name_bytes c.args.name.now) trees
    database.id.0 (pos database.last) found (register_refusal fault)
    (fault_or_damage (HidesPlan format profile text question.first question.count trees database.id.0) fault
    (λ is. (plan_value c.in_ok-plan.plan, (query_value c.in_ok-query.query, c.in_ok-query.ensures.spelled, c.in_ok-plan.ensures.planned), inl (hidden is)))))

pub returns-in_err-asked-clause-asks : goal.returns-in_err-asked-clause-asks
returns-in_err-asked-clause-asks g c =
    let format = g.L.Layout.format in
    let trees = (state g.S.Store c.args.connection.now).now.trees in
    let database = c.in_ok-database.database in
    let question = c.args.question in
    let name = name_bytes c.args.name.now in
    let refusal = c.in_err-asked.field-0.0 in
    let met = subst (λ (l : List ℕ). Meets Asked (asked_of l question.first question.count) (Err refusal)) c.deref.ensures.value c.in_err-asked.ensures.asked in
    asks_end c.in_ok-database.ensures c.in_ok-hits.ensures refusal (λ store is. absurd (c.in_err-asked.ensures.unstored is)) (search rules) (search rules) (λ store found finds.
    or_fails (tells format c.args.profile.now question trees) name (hides format c.args.profile.now name question) trees question.query.now c.in_ok-query.ensures.readable database.id.0 (pos database.last) found refusal
    (past_found c.args.profile.now question.query.now (query_value c.in_ok-query.query) c.in_ok-query.ensures.spelled (has_ident_in trees database.id.0) (PlanFinds format trees database.id.0) question.first question.count
    (plan_value c.in_ok-plan.plan) c.in_ok-plan.ensures.planned c.in_ok-hits.hits.items finds Asked refusal met))

pub returns-in_err-shown-clause-asks : goal.returns-in_err-shown-clause-asks
returns-in_err-shown-clause-asks g c =
    let format = g.L.Layout.format in
    let profile = c.args.profile.now in
    let question = c.args.question in
    let text = question.query.now in
    let name = name_bytes c.args.name.now in
    let trees = (state g.S.Store c.args.connection.now).now.trees in
    let database = c.in_ok-database.database in
    let plan = plan_value c.in_ok-plan.plan in
    let hits = c.in_ok-hits.hits.items in
    let asked = c.in_ok-asked.asked in
    let fault = c.in_err-shown.field-0.0 in
    let met = subst (λ (l : List ℕ). Meets Asked (asked_of l question.first question.count) (Ok asked)) c.deref.ensures.value c.in_ok-asked.ensures.asked in
    let said = met_view (λ (x : Bor (List ℕ)). x.now) (asked_of hits question.first question.count) asked met in
    asks_fail c.in_ok-database.ensures (searches_handed_behind {B = Unit {0}} {E = λ trees. PlanFinds format trees database.id.0 plan hits × (((n : ℕ) → Has asked.now n → n < 2 ^ 63) → HidesOne trees database.id.0 asked.now)} {G = λ (t : Trees) (none : Unit {0}). ⊥} {K = Uncounted} {r = Err fault}
    c.in_ok-hits.ensures (through_searched _ c.in_err-shown.ensures) refl (λ store finds hidden. (finds, hidden))) (search rules) (λ store found hidden.
    hidden_read text c.in_ok-query.ensures.readable (FindOver format profile name text question.first question.count) (HidesPlan format profile text question.first question.count) name trees
    database.id.0 (pos database.last) found (register_refusal fault)
    (fault_or_damage (HidesPlan format profile text question.first question.count trees database.id.0) fault
    (λ is. (plan, (query_value c.in_ok-query.query, c.in_ok-query.ensures.spelled, c.in_ok-plan.ensures.planned), inr (hits, asked.now, (hidden is).0, said, (hidden is).1)))))

pub returns-clause-asks : goal.returns-clause-asks
returns-clause-asks g c =
    let format = g.L.Layout.format in
    let trees = (state g.S.Store c.args.connection.now).now.trees in
    let database = c.in_ok-database.database in
    let question = c.args.question in
    let numbers = c.in_ok-hits.hits.items in
    let asked = c.in_ok-asked.asked in
    let shown = c.in_ok-shown.shown in
    let met = subst (λ (l : List ℕ). Meets Asked (asked_of l question.first question.count) (Ok asked)) c.deref.ensures.value c.in_ok-asked.ensures.asked in
    let said = met_view (λ (x : Bor (List ℕ)). x.now) (asked_of numbers question.first question.count) asked met in
    let counted : c.len.result ≡ length numbers = search rules in
    asks_on c.in_ok-database.ensures (searches_behind {E = λ trees. ⊥} {G = λ (t : Trees) (hits : Vec Hit Global). PlanFinds format t database.id.0 (plan_value c.in_ok-plan.plan) numbers × AreShown (has_ident_in t database.id.0) asked.now (map (λ hit. (hit.sysno, string_bytes hit.ident)) hits.items)} {K = Uncounted} {z = shown} c.in_ok-hits.ensures (through_searched _ c.in_ok-shown.ensures) (λ store finds shows. (finds, shows)) (λ content has finds shows counts more. tt)) (λ store found both.
    rw counted (inl (inl (
      c.in_ok-query.ensures.readable,
      inr (
        database.id.0,
        pos database.last,
        found,
        numbers_found c.args.profile.now question.query.now (query_value c.in_ok-query.query) c.in_ok-query.ensures.spelled (has_ident_in trees database.id.0) (PlanFinds format trees database.id.0) question.first question.count
            (plan_value c.in_ok-plan.plan) c.in_ok-plan.ensures.planned numbers both.0 asked.now said (map (λ hit. (hit.sysno, string_bytes hit.ident)) shown.items) both.1,
      ),
    ))))

pub returns-clause-work : goal.returns-clause-work
returns-clause-work g c = (
  λ none. c.hits.ensures.no_work none,
  λ clean store content held.
      let clean2 = clean_before (state g.S.Store c.hits.new.connection) (state g.S.Store c.show.new.connection) c.show.ensures.call.crash clean in
      let clean1 = clean_before (state g.S.Store c.existing_database.new.connection) (state g.S.Store c.hits.new.connection) c.hits.ensures.call.crash clean2 in
      let at = shown_still g.S.Store c.args.connection.now c.existing_database.new.connection c.in_ok-database.database c.in_ok-database.ensures.reads clean1 store in
      let counted = c.in_ok-hits.ensures.work clean2 at.0 content (subst (λ (t : Trees). holds_in g.L.Layout.format t content) (sym at.1) held) in (
        plan_value c.in_ok-plan.plan,
        (query_value c.in_ok-query.query, c.in_ok-query.ensures.spelled, c.in_ok-plan.ensures.planned),
        (c.in_ok-database.database.id.0, pos c.in_ok-database.database.last, c.in_ok-database.ensures.tables clean1 store, counted.0, counted.1, counted.2, counted.3, counted.4),
      ),
)
