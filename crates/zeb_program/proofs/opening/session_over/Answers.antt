-- What adopting the store says, of what is given on.
use Rattle.zeb_program.proofs.Cited.{refl, Some, Held, state, HasCleanDisk, Ghosts, Store, AdoptLasts, TakesOpen}
use Rattle.zeb_engine.specs.Taking.{TakesOver}
use Rattle.zeb_program.proofs.OpenedStores.{opened_store}
use Rattle.zeb_program.proofs.ResultValues.{both_so, given_err, holds_of, narrowed_fault, narrowed_so}
use Rattle.zeb_program.proofs.opening.session_over.Goals as goal

is_taken : {S : Type 0} (store : Ghosts S) (opened taken : Held S) → (HasCleanDisk (state store taken) → TakesOver (state store opened) (state store taken)) × AdoptLasts (state store opened) (state store taken)
    → HasCleanDisk (state store taken) → TakesOpen store opened taken
is_taken store opened taken both clean =
    (record { keeps = (both.0 clean).keeps; store = λ is. opened_store _ _ is.0 is.1 ((both.0 clean).there is.1); lasts = both.1 }, (both.0 clean).stays.1)

pub returns-in-Ok-clause-other : goal.returns-in-Ok-clause-other
returns-in-Ok-clause-other g c =
    holds_of c.args.opened c.in-Ok.connection _ c.in-Ok.is (λ others. given_err c.adopt.result c.taken_over.result c.in-Ok.connection Store (c.adopt.ensures.other others) c.taken_over.ensures)

pub returns-in-Ok-clause-keeps : goal.returns-in-Ok-clause-keeps
returns-in-Ok-clause-keeps g c =
    holds_of c.args.opened c.in-Ok.connection _ c.in-Ok.is (narrowed_so c.adopt.result c.taken_over.result (λ back. (Some back.0, back.1)) _ _ (λ session. is_taken g.S.Store c.in-Ok.connection session.connection) (both_so c.adopt.result _ _ _ c.adopt.ensures.taken c.adopt.ensures.lasts) c.taken_over.ensures)

pub returns-in-Ok-clause-refused : goal.returns-in-Ok-clause-refused
returns-in-Ok-clause-refused g c =
    holds_of c.args.opened c.in-Ok.connection _ c.in-Ok.is (narrowed_fault c.adopt.result c.taken_over.result (λ back. (Some back.0, back.1)) _ _ (λ back said. (back.0, refl, (said.1, said.2))) c.adopt.ensures.refused c.taken_over.ensures)
