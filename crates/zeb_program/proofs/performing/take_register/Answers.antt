use Rattle.zeb_program.proofs.Cited.{None, unopened_refusal, places_of, whole_but}
use Rattle.std.proofs.Math.Path.{fun_ext}
use Rattle.zeb_program.proofs.ResultValues.{ok_is_no_err}
use Rattle.zeb_program.proofs.OpeningLemmas.{fails_opening, opening_fault, taken_store}
use Rattle.zeb_program.proofs.performing.take_register.Goals as goal

pub returns-in-Ok-clause-opened : goal.returns-in-Ok-clause-opened
returns-in-Ok-clause-opened g c =
    taken_store (places_of g.P.Store.Store g.P.Paths c.args.paths.now c.store-opened.new.self) c.args.profile c.store_path.result.now c.store-opened.result c.in-Ok.session.connection _
    c.store_path.ensures c.store-opened.ensures.given c.in-Ok.ensures.keeps c.in-Ok.ensures.unopened (λ failed. ok_is_no_err c.in-Ok.session (None, unopened_refusal failed.cause) _)

pub returns-in-Err-clause-failed : goal.returns-in-Err-clause-failed
returns-in-Err-clause-failed g c =
    let at = places_of g.P.Store.Store g.P.Paths c.args.paths.now c.store-opened.new.self in
    opening_fault at c.args.profile c.in-Err.refusal (whole_but c.or-cause.result) c.refused_opening.result
    (fails_opening _ at c.args.profile c.store_path.result.now c.store-opened.result c.in-Err.back c.in-Err.refusal c.opening_cause-cause.result c.let_go.result c.or-cause.result c.store_path.ensures c.store-opened.ensures.given c.store-opened.ensures.refused c.in-Err.ensures.unopened
    c.opening_cause-cause.ensures.other c.opening_cause-cause.ensures.failed c.or-cause.ensures c.in-Err.ensures.refused c.let_go.ensures.told c.let_go.ensures.none)
    c.refused_opening.ensures.fault c.refused_opening.ensures.cause c.refused_opening.ensures.closed

pub returns-in-Ok-clause-told : goal.returns-in-Ok-clause-told
returns-in-Ok-clause-told g c = fun_ext c.store-opened.ensures.told

pub returns-in-Err-clause-told : goal.returns-in-Err-clause-told
returns-in-Err-clause-told g c = fun_ext c.store-opened.ensures.told
