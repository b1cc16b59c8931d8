use Rattle.zeb_program.proofs.Cited.{◌≡◌, false, true, refl, rules, inl, inr, Err, ExplainsFailure, ExplainsRun, nothing_met, places_of, paths_of, unread, performed, ServesUnder, Performs}
use Rattle.zeb_program.proofs.WordRunLemmas.{begun_or, gives_closed, gives_for, on_nothing, without_store, why_for}
use Rattle.zeb_program.proofs.performing.perform.Goals as goal

pub returns-in-Err-clause-performs : goal.returns-in-Err-clause-performs
returns-in-Err-clause-performs g c =
    let at = places_of g.P.Store.Store g.P.Paths c.args.paths.now c.args.paths.now in
    without_store (Performs at c.args.choice c.args.config c.args.task.now) (ExplainsRun at c.args.config c.args.task.now) c.without_store.result (Err c.in-Err.failure) c.without_store.ensures.told c.without_store.ensures.closed
    (unread refl c.in-Err.ensures.read refl) (inl (c.in-Err.ensures.read, c.in-Err.ensures.explains))

pub perform_in_register-requires : goal.perform_in_register-requires
perform_in_register-requires g c =
    let uses : c.uses_store.result ≡ true = search rules in
    begun_or _ _ c.begins.result (c.uses_store.ensures.used uses) c.begins.ensures.begins

pub returns-then-uses_store-clause-performs : goal.returns-then-uses_store-clause-performs
returns-then-uses_store-clause-performs g c =
    let at = places_of g.P.Store.Store g.P.Paths c.args.paths.now c.perform_in_register.new.paths in
    gives_closed c.perform_in_register.result (ServesUnder at c.args.choice c.in-Ok.profile c.args.task.now) (Performs at c.args.choice c.args.config c.args.task.now) (ExplainsFailure at.sees at.explains (paths_of c.args.task.now))
    (ExplainsRun at c.args.config c.args.task.now) (λ closed answer serves. performed c.in-Ok.profile c.in-Ok.ensures.read serves) (λ met failure told. inr ((c.in-Ok.profile, c.in-Ok.ensures.read), told)) c.perform_in_register.ensures.serves

pub returns-clause-performs : goal.returns-clause-performs
returns-clause-performs g c =
    let unused : c.uses_store.result ≡ false = search rules in
    let no = c.uses_store.ensures.unused unused in
    let at = places_of g.P.Store.Store g.P.Paths c.args.paths.now c.args.paths.now in
    without_store (Performs at c.args.choice c.args.config c.args.task.now) (ExplainsRun at c.args.config c.args.task.now) c.without_store-2.result c.perform_on_nothing.result c.without_store-2.ensures.told c.without_store-2.ensures.closed
    (gives_for c.perform_on_nothing.result _ (Performs at c.args.choice c.args.config c.args.task.now nothing_met)
    (λ answer serves. performed c.in-Ok.profile c.in-Ok.ensures.read
    (on_nothing at c.args.choice c.in-Ok.profile c.args.task.now (g.P.Paths.tells c.args.paths.now) answer refl no.0 (c.begins.ensures.other no.1) refl serves)) c.perform_on_nothing.ensures.serves)
    (why_for c.perform_on_nothing.result _ _ (λ failure told. inr ((c.in-Ok.profile, c.in-Ok.ensures.read), told)) c.perform_on_nothing.ensures.explains)
