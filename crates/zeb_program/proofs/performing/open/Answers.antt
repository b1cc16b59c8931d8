use Rattle.zeb_program.proofs.Cited.{refl, format_of, places_of, not_read}
use Rattle.zeb_program.proofs.WordRunLemmas.{opens_under, stops_so}
use Rattle.zeb_program.proofs.performing.open.Goals as goal
use Rattle.zeb_engine.specs.Sessions.{conditions_in}

pub returns-in-Ok-clause-opened : goal.returns-in-Ok-clause-opened
returns-in-Ok-clause-opened g c = opens_under (places_of g.P.Store.Store g.P.Paths c.args.paths.now c.open_register.new.paths) c.args.config c.in-Ok.profile c.open_register.result (λ it. it.0.connection) (λ it. format_of it.1) (λ it. conditions_in (format_of it.1) it.0) c.in-Ok.ensures.read c.open_register.ensures.under c.open_register.ensures.opened

pub returns-in-Ok-clause-failed : goal.returns-in-Ok-clause-failed
returns-in-Ok-clause-failed g c = stops_so (places_of g.P.Store.Store g.P.Paths c.args.paths.now c.open_register.new.paths) c.args.config c.in-Ok.profile c.open_register.result c.in-Ok.ensures.read c.open_register.ensures.failed

pub returns-in-Err-clause-failed : goal.returns-in-Err-clause-failed
returns-in-Err-clause-failed g c = not_read refl c.in-Err.ensures.read c.in-Err.ensures.explains
