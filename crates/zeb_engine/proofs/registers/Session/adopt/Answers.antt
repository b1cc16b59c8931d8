use Rattle.zeb_engine.proofs.Cited.{◌∙◌, rules, not, sym, ap, IsTrue, Database, state, StaysOpen, ChangesNothing, EnduresRefusal, MakesTables}
use Rattle.zeb_engine.proofs.CommitCrashes.{adopted_commits, adopted_keeps, survives_as}
use Rattle.zeb_engine.proofs.TakenStores.{bears_keeps, has_own, reopens}
use Rattle.zeb_engine.proofs.registers.Session.adopt.Goals as goal

pub returns-clause-taken : goal.returns-clause-taken
returns-clause-taken g c clean =
    let old = state g.S.Store c.args.connection in
    let now = c.make_absent_tables.new.connection in
    let new = state g.S.Store now in
    let idle : IsTrue c.is_autocommit-settled.result = c.is_autocommit-settled.ensures.value ∙ ap not c.make_absent_tables.ensures.commanded.idle in
    let opened : StaysOpen old new = c.in_default.ensures.commanded.call.accepted clean in
    let makes : MakesTables old new = c.in_default.ensures.makes clean in
    let keeps = bears_keeps old new opened makes in
    record {
      ours = has_own old new opened c.in_default.ensures.takes makes;
      stays = opened;
      durable = λ is_open db left. g.met.S.Store.settled now.store db is_open left ∙ ap (λ (d : Database). d.trees) (sym (c.is_autocommit-settled.ensures.settled idle is_open));
      there = makes.there;
      rows = makes.rows;
      keeps = keeps;
      reopened = reopens old new keeps;
    }

pub returns-clause-lasts : goal.returns-clause-lasts
returns-clause-lasts g c =
    let old = state g.S.Store c.args.connection in
    let new = state g.S.Store c.make_absent_tables.new.connection in
    let survives = survives_as old new _ _ (λ clean db made. adopted_commits old db made) c.make_absent_tables.ensures.survives in
    record { survives = survives; crash = λ clean. adopted_keeps old new clean survives }

pub returns-in-Err-clause-lasts : goal.returns-in-Err-clause-lasts
returns-in-Err-clause-lasts g c =
    let old = state g.S.Store c.args.connection in
    let new = state g.S.Store c.make_absent_tables.new.connection in
    let survives = survives_as old new _ _ (λ clean db made. adopted_commits old db made) c.make_absent_tables.ensures.survives in
    record { survives = survives; crash = λ clean. adopted_keeps old new clean survives }

pub returns-in-Err-clause-refused : goal.returns-in-Err-clause-refused
returns-in-Err-clause-refused g c =
    let old = state g.S.Store c.args.connection in
    let new = state g.S.Store c.make_absent_tables.new.connection in (
      c.make_absent_tables.ensures.commanded.idle,
      search rules,
      λ clean.
          let nothing : ChangesNothing old new = search rules in
          let endures : EnduresRefusal old new c.in-Err.refusal = search rules in
          record { nothing = nothing; endures = endures },
    )
