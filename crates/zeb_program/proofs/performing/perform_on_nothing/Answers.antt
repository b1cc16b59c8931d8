use Rattle.zeb_program.proofs.Cited.{file_state, refl, telling_of, ServesOnNothing, IsOwnOr, packed_blocks}
use Rattle.zeb_program.proofs.MemoryLemmas.{always_clean}
use Rattle.zeb_program.proofs.WarningLemmas.{warns_of}
use Rattle.zeb_program.proofs.WordRunLemmas.{gives_for, served_nothing}
use Rattle.zeb_program.proofs.performing.perform_on_nothing.Goals as goal
use Rattle.zeb_engine.specs.Sessions.{conditions_in}

pub returns-clause-serves : goal.returns-clause-serves
returns-clause-serves g c =
    let session = c.in_ok-session.session in
    let done = c.carry_out-served.ensures.done in
    let own = done.0 in
    let k = conditions_in packed_blocks session in
    let last = c.carry_out-served.new.session.connection in
    let at = telling_of g.P.Paths c.args.paths.now in
    gives_for c.told_of.result (λ answer. IsOwnOr answer own) (ServesOnNothing (g.P.Paths.tells c.args.paths.now) at c.args.profile c.args.task.now)
    (λ answer. served_nothing at c.args.profile c.args.task.now k (file_state session.connection) (file_state last) own answer
    c.in_ok-session.ensures.under c.in_ok-session.ensures.empty (always_clean (λ _. refl) last) done.2) (c.told_of.ensures.gives own done.1)

pub returns-clause-warns : goal.returns-clause-warns
returns-clause-warns g c =
    let tells = g.P.Paths.tells c.args.paths.now in
    let at = telling_of g.P.Paths c.args.paths.now in
    warns_of tells at c.args.task.now c.carry_out-served.result c.told_of.result c.told_of.ensures.warns c.told_of.ensures.warned c.carry_out-served.ensures.unmarked c.carry_out-served.ensures.below
