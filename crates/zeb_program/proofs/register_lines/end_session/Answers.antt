use Rattle.zeb_program.proofs.Cited.{◌≡◌, ◌∙◌, ap, refl, rules, subst, sym, Err, Ok, ClosesBelow, closing_lines, greater, Status, []}
use Rattle.zeb_program.proofs.StatusLemmas.{max_greater}
use Rattle.zeb_program.proofs.register_lines.end_session.Goals as goal

pub returns : goal.returns
returns g c =
    let Leaves = g.P.Paths.leaves c.args.paths.now in
    let closed = c.close_register.result in
    let answered = c.in_ok-answered.field-0 in (
      closing_lines closed,
      subst (λ it. ClosesBelow g.P.Store.Store Leaves c.args.session.connection [] (closing_lines closed) it (Ok c.max.result)) (sym c.in_ok-answered.was) (
        closed,
        ap Ok (c.max.ensures ∙ max_greater answered c.tell_closed-closed.result ∙ ap (λ (s : Status). greater answered s) c.tell_closed-closed.ensures.status),
        (c.close_register.ensures, refl),
      ),
      c.tell_closed-closed.ensures.told,
    )

pub returns-in_err-answered : goal.returns-in_err-answered
returns-in_err-answered g c =
    let Leaves = g.P.Paths.leaves c.args.paths.now in
    let closed = c.close_register.result in
    let is : c.from_residual.result ≡ Err c.in_err-answered.field-0.0 = search rules in (
      closing_lines closed,
      subst (λ it. ClosesBelow g.P.Store.Store Leaves c.args.session.connection [] (closing_lines closed) it c.from_residual.result) (sym c.in_err-answered.was) (closed, is, (c.close_register.ensures, refl)),
      c.tell_closed-closed.ensures.told,
    )
