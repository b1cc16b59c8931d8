use Rattle.zeb_engine.proofs.Cited.{◌∙◌, rules, sym, ap, IsTrue, Database, state}
use Rattle.zeb_engine.proofs.CommitCrashes.{survives_step}
use Rattle.zeb_engine.proofs.RunCrashes.{did_endures}
use Rattle.zeb_engine.proofs.CommandedConnections.{did, did_refuse}
use Rattle.zeb_engine.proofs.NoDamageAnswered.{command_honest}
use Rattle.zeb_engine.proofs.registers.Session.command.Goals as goal
use Rattle.zeb_engine.specs.Sessions.{conditions_in}

pub returns-clause-step : goal.returns-clause-step
returns-clause-step g c clean = c.carry_out-answer.ensures.done.step clean

pub returns-clause-tables : goal.returns-clause-tables
returns-clause-tables g c clean =
    let k = conditions_in g.L.Layout.format c.args.self.now in
    let old = state g.S.Store c.args.self.now.connection in
    let end = c.carry_out-answer.new.self.connection in
    let new = state g.S.Store end in
    let idle : IsTrue c.is_autocommit-settled.result = search rules in
    let done = c.carry_out-answer.ensures.done in
    record {
      refused = did_refuse c.args.command.now old new c.carry_out-answer.result clean (did g.S.Store c.args.command.now c.args.self.now.connection end c.carry_out-answer.result done.call);
      does = done.does clean (λ is_open. sym (c.is_autocommit-settled.ensures.settled idle is_open));
      honest = λ is before keeps. command_honest k old new c.carry_out-answer.result is before keeps c.args.command.now (done.step clean);
    }

pub returns-clause-answers : goal.returns-clause-answers
returns-clause-answers g c = c.carry_out-answer.ensures.done.answers

pub returns-clause-holds : goal.returns-clause-holds
returns-clause-holds g c =
    let end = c.carry_out-answer.new.self.connection in
    let idle : IsTrue c.is_autocommit-settled.result = search rules in (
      record {
        call = c.carry_out-answer.ensures.done.call;
        durable = λ clean is_open db left. g.met.S.Store.settled end.store db is_open left ∙ ap (λ (d : Database). d.trees) (sym (c.is_autocommit-settled.ensures.settled idle is_open));
      },
      c.carry_out-answer.ensures.under,
    )

pub returns-clause-lasts : goal.returns-clause-lasts
returns-clause-lasts g c =
    let k = conditions_in g.L.Layout.format c.args.self.now in
    let end = c.carry_out-answer.new.self.connection in
    let idle : IsTrue c.is_autocommit-settled.result = search rules in
    let done = c.carry_out-answer.ensures.done in
    record {
      survives = done.survives;
      crash = λ clean.
          did_endures k c.args.command.now (state g.S.Store c.args.self.now.connection) (state g.S.Store end) c.carry_out-answer.result clean
          (λ is_open db left. g.met.S.Store.settled end.store db is_open left ∙ ap (λ (d : Database). d.trees) (sym (c.is_autocommit-settled.ensures.settled idle is_open)))
          (did g.S.Store c.args.command.now c.args.self.now.connection end c.carry_out-answer.result done.call)
          (survives_step g.L.Layout.format k c.args.command.now (state g.S.Store c.args.self.now.connection) (state g.S.Store end) done.survives) (done.step clean);
    }

pub returns-clause-counts : goal.returns-clause-counts
returns-clause-counts g c = c.carry_out-answer.ensures.done.counts
