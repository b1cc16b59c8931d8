use Rattle.zeb_program.proofs.Cited.{state, IfErr, OnErr, GivesAnswer, ServesOver, IsUnread, ChangesNothing}
use Rattle.zeb_program.proofs.OverLemmas.{as_given, given_read, given_refused, gives}
use Rattle.zeb_program.proofs.tasks.ask.Goals as goal
use Rattle.zeb_engine.specs.Sessions.{conditions_in}

pub returns-clause-over : goal.returns-clause-over
returns-clause-over g c = λ clean.
    let k = conditions_in g.L.Layout.format c.args.session.now in
    let Over = ServesOver g.L.Layout.format k c.args.command.now (state g.S.Store c.args.session.now.connection) (state g.S.Store c.command.new.self.connection) in
    as_given (GivesAnswer Over) c.command.result c.as_told.result c.as_told.ensures
    (gives Over c.command.result (c.command.ensures.step clean, c.command.ensures.tables clean, c.command.ensures.lasts, c.command.ensures.holds.0.durable clean))

pub returns-clause-refused : goal.returns-clause-refused
returns-clause-refused g c = λ clean.
    let Same = ChangesNothing (state g.S.Store c.args.session.now.connection) (state g.S.Store c.command.new.self.connection) in
    as_given (λ it. OnErr it Same) c.command.result c.as_told.result c.as_told.ensures (given_refused Same c.command.result (c.command.ensures.tables clean).refused)

pub returns-clause-read : goal.returns-clause-read
returns-clause-read g c = as_given (λ it. IfErr it (λ why. ¬ IsUnread why)) c.command.result c.as_told.result c.as_told.ensures (given_read c.command.result)
