use Rattle.zeb_program.proofs.Cited.{◌≡◌, ◌∙◌, ◌++◌, ap, refl, rules, subst, sym, Err, IsFaultStatus, MatchResult, Shows, TellsNamed, TellsUnanswered, ⊤, greater, leaving_lines, Sends, Status, string_bytes}
use Rattle.zeb_program.proofs.SinkLemmas.{sends_then}
use Rattle.zeb_program.proofs.StatusLemmas.{fault_greater, max_greater}
use Rattle.zeb_program.proofs.failures.tell_unanswered.Goals as goal

pub returns-clause-told : goal.returns-clause-told
returns-clause-told g c =
    let first = c.in_ok-told.field-0 in
    let left = c.tell_left-left.ensures.told in
    sends_then c.args.output.now c.tell_task_failure-told.new.output c.tell_left-left.new.output _ (λ more. more ≡ leaving_lines c.args.closed) _
    (λ lines more named is. (
      first,
      lines,
      c.in_ok-told.ensures.status,
      c.max.ensures ∙ max_greater first c.tell_left-left.result ∙ ap (λ (s : Status). greater first s) c.tell_left-left.ensures.status,
      named,
      ap (λ it. lines ++ it) is,
    ))
    c.in_ok-told.ensures.told (leaving_lines c.args.closed, refl, left)

pub returns-clause-status : goal.returns-clause-status
returns-clause-status g c =
    let first = c.in_ok-told.field-0 in
    subst (λ s. IsFaultStatus s) (sym (c.max.ensures ∙ max_greater first c.tell_left-left.result ∙ ap (λ (s : Status). greater first s) c.tell_left-left.ensures.status))
    (fault_greater first c.args.closed c.in_ok-told.ensures.status)

pub returns-in_err-told-clause-told : goal.returns-in_err-told-clause-told
returns-in_err-told-clause-told g c =
    let is : c.from_residual.result ≡ Err c.in_err-told.field-0.0 = search rules in
    let failure = c.args.failure.now in
    let told = g.P.Paths.tells c.args.paths.now (string_bytes c.args.config) in
    let silent = subst (λ r. Sends c.args.output.now c.tell_task_failure-told.new.output (λ bytes. Shows (TellsNamed told c.args.config failure.fault failure.cause) ⊤ bytes r)) c.in_err-told.was c.tell_task_failure-told.ensures.told in
    sends_then c.args.output.now c.tell_task_failure-told.new.output c.tell_left-left.new.output _ (λ more. more ≡ leaving_lines c.args.closed) _
    (λ bytes more none same. subst (λ r. MatchResult r (TellsUnanswered told c.args.config failure.fault failure.cause c.args.closed (bytes ++ more)) (λ error. bytes ++ more ≡ leaving_lines c.args.closed)) (sym is) (ap (λ it. it ++ more) none.0 ∙ same))
    silent (leaving_lines c.args.closed, refl, c.tell_left-left.ensures.told)
