use Rattle.zeb_program.proofs.Cited.{◌≡◌, rules, subst, sym, Err, IfErr, conditions, IsOpeningFault, format_of, places_of, untold, AreScriptConditions, packed_blocks, version_of}
use Rattle.zeb_program.proofs.LayoutLemmas.{conditions_in, looked_at, looked_over}
use Rattle.zeb_program.proofs.OpeningLemmas.{opening_fault}
use Rattle.zeb_program.proofs.performing.open_register.Goals as goal

pub returns-in_err-session-clause-failed : goal.returns-in_err-session-clause-failed
returns-in_err-session-clause-failed g c =
    let is : c.from_residual.result ≡ Err c.in_err-session.field-0.0 = search rules in
    let at = places_of g.P.Store.Store g.P.Paths c.args.paths.now c.take_register.new.paths in
    subst (λ r. IfErr r (λ it. IsOpeningFault at c.args.profile it.failure.fault it.failure.cause it.closed)) (sym is) c.in_err-session.ensures.failed

pub returns-in-Ok-clause-under : goal.returns-in-Ok-clause-under
returns-in-Ok-clause-under g c =
    let before = c.in_ok-session.session in
    let same = c.layout_of.ensures.under in
    conditions_in (format_of c.in-Ok.layout) c.args.profile c.layout_of.new.session.profile c.layout_of.new.session.limits
    (subst (λ p. AreScriptConditions c.args.profile (conditions (version_of packed_blocks) p c.layout_of.new.session.limits)) (sym same.0)
    (subst (λ l. AreScriptConditions c.args.profile (conditions (version_of packed_blocks) before.profile l)) (sym same.1) c.in_ok-session.ensures.under))

pub returns-in-Ok-clause-opened : goal.returns-in-Ok-clause-opened
returns-in-Ok-clause-opened g c =
    let takes = c.in_ok-session.ensures.opened in
    ((takes.0, takes.1, looked_over g.P.Store.Store takes.0 c.in_ok-session.session.connection c.layout_of.new.session.connection c.layout_of.result takes.2 c.layout_of.ensures.looked), c.in-Ok.ensures.told)

pub returns-in-Err-clause-failed : goal.returns-in-Err-clause-failed
returns-in-Err-clause-failed g c =
    let at = places_of g.P.Store.Store g.P.Paths c.args.paths.now c.take_register.new.paths in
    let takes = c.in_ok-session.ensures.opened in
    let last = c.layout_of.new.session.connection in
    opening_fault at c.args.profile c.in-Err.refusal c.close_register.result c.refused_opening.result
    (untold c.close_register.result takes.0 c.in_ok-session.session.connection last takes.1 c.in-Err.ensures.failed
    (looked_at g.P.Store.Store takes.0 c.in_ok-session.session.connection last c.in-Err.refusal takes.2 c.in-Err.ensures.looked) c.close_register.ensures)
    c.refused_opening.ensures.fault c.refused_opening.ensures.cause c.refused_opening.ensures.closed
