use Rattle.zeb_engine.proofs.Cited.{rules, ◌*◌, length, state, posted, scan_value, before_held, from_held, Content, Work, Works}
use Rattle.zeb_search.proofs.SearchesInTurn.{as_searched, searches_behind, searches_failed_behind, searches_handed, searches_handed_behind}
use Rattle.zeb_engine.proofs.AskedReads.{around_reads}
use Rattle.zeb_engine.proofs.AskingInTurn.{Uncounted}
use Rattle.zeb_engine.proofs.ScanAnswers.{around_told, before_hides, from_hides}
use Rattle.zeb_engine.proofs.scan.terms_around.Goals as goal

pub returns-in_err-first : goal.returns-in_err-first
returns-in_err-first g c =
    let trees = (state g.S.Store c.args.connection.now).now.trees in
    searches_handed (as_searched {C = Uncounted} c.in_err-first.ensures.units c.terms_before.ensures.no_work tt) c.from_residual.ensures.1 (λ store hidden.
    before_hides g.L.Layout.format trees c.args.database.0 (scan_value c.args.plan.now) c.args.around.now.number c.args.around.now.position c.as_str-start.result.now c.as_str-start.ensures.value c.saturating_sub-below.result (search rules) hidden)

pub returns-in_err-rest : goal.returns-in_err-rest
returns-in_err-rest g c =
    let trees = (state g.S.Store c.args.connection.now).now.trees in
    searches_handed_behind (as_searched {C = Uncounted} c.in_ok-first.ensures.units c.terms_before.ensures.no_work (λ clean store content has. tt)) (as_searched {C = Uncounted} c.in_err-rest.ensures.units c.terms_from.ensures.no_work tt)
    c.from_residual-in_err-rest.ensures.1 (λ store found hidden.
    from_hides g.L.Layout.format trees c.args.database.0 (scan_value c.args.plan.now) c.args.around.now.number c.args.around.now.position c.as_str-start.result.now c.as_str-start.ensures.value c.saturating_sub-from.result (search rules) hidden)

pub returns-in_err-joined : goal.returns-in_err-joined
returns-in_err-joined g c =
    searches_failed_behind (as_searched {C = Uncounted} c.in_ok-first.ensures.units c.terms_before.ensures.no_work (λ clean store content has. tt)) (as_searched {C = Uncounted} c.in_ok-rest.ensures.units c.terms_from.ensures.no_work (λ clean store content has. tt))
    c.from_residual-in_err-joined.ensures.1

pub returns : goal.returns
returns g c =
    let format = g.L.Layout.format in
    let row_work = g.L.Layout.row_work in
    let trees = (state g.S.Store c.args.connection.now).now.trees in
    let db = c.args.database.0 in
    let plan = scan_value c.args.plan.now in
    let around = c.args.around.now in
    let start = c.as_str-start.result.now in
    let below = c.saturating_sub-below.result in
    let from = c.saturating_sub-from.result in
    let first = c.in_ok-first.first.items in
    let rest = c.in_ok-rest.rest.items in
    searches_behind (as_searched {C = λ (content : Content) (before after : Work). Works (row_work * length first) 0 0 0 before after} c.in_ok-first.ensures.units c.terms_before.ensures.no_work (λ clean store content has. c.in_ok-first.ensures.work))
    (as_searched {C = λ (content : Content) (before after : Work). Works (row_work * length rest) 0 0 0 before after} c.in_ok-rest.ensures.units c.terms_from.ensures.no_work (λ clean store content has. c.in_ok-rest.ensures.work))
    (λ store before behind. around_told format trees db plan around.number around.position start below from first rest c.in_ok-joined.field-0.items c.as_str-start.ensures.value (search rules) (search rules) before behind c.in_ok-joined.ensures)
    (λ content has before behind reads_first reads_rest least most.
    around_reads (posted content db) plan.index plan.register start row_work around.number around.position below from first rest c.args.work.now c.terms_before.new.work c.terms_from.new.work (search rules) (search rules) least most
    (before_held format trees db plan.index plan.register content has start below first before) (from_held format trees db plan.index plan.register content has start from rest behind) reads_first reads_rest)
