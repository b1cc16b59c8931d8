use Rattle.zeb_engine.proofs.Cited.{◌∙◌, rules, sym, ap, IsTrue, Database, state, name_bytes, TakesFiles}
use Rattle.zeb_engine.proofs.CommitCrashes.{endures, survives_as}
use Rattle.zeb_engine.proofs.registers.Session.update_from.Goals as goal
use Rattle.zeb_engine.specs.Sessions.{conditions_in}

pub returns-clause-step : goal.returns-clause-step
returns-clause-step g c clean = c.change_from-answer.ensures.done.step clean

pub returns-clause-tables : goal.returns-clause-tables
returns-clause-tables g c clean = c.change_from-answer.ensures.done.does clean

pub returns-clause-faults : goal.returns-clause-faults
returns-clause-faults g c = c.change_from-answer.ensures.done.faults

pub returns-clause-holds : goal.returns-clause-holds
returns-clause-holds g c =
    let end = c.change_from-answer.new.self.connection in
    let idle : IsTrue c.is_autocommit-settled.result = search rules in (
      record {
        call = c.change_from-answer.ensures.done.call;
        durable = λ clean is_open db left. g.met.S.Store.settled end.store db is_open left ∙ ap (λ (d : Database). d.trees) (sym (c.is_autocommit-settled.ensures.settled idle is_open));
      },
      c.change_from-answer.ensures.under,
    )

pub returns-clause-lasts : goal.returns-clause-lasts
returns-clause-lasts g c =
    let k = conditions_in g.L.Layout.format c.args.self.now in
    let old = state g.S.Store c.args.self.now.connection in
    let end = c.change_from-answer.new.self.connection in
    let idle : IsTrue c.is_autocommit-settled.result = search rules in
    let did = c.change_from-answer.ensures.done in
    record {
      survives = did.survives;
      crash = λ clean texts told fine.
          endures (TakesFiles k c.args.kind (name_bytes c.args.database.now) texts) old (state g.S.Store end) c.change_from-answer.result clean
          (λ is_open db left. g.met.S.Store.settled end.store db is_open left ∙ ap (λ (d : Database). d.trees) (sym (c.is_autocommit-settled.ensures.settled idle is_open)))
          (did.call.accepted clean) (did.call.endures clean)
          (survives_as old (state g.S.Store end) _ _ (λ late db made. made texts told fine) did.survives)
          (did.step clean texts told fine);
    }

pub returns-clause-counts : goal.returns-clause-counts
returns-clause-counts g c = c.change_from-answer.ensures.done.counts
