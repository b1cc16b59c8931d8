use Rattle.zeb_engine.proofs.Cited.{◌≡◌, ◌∙◌, ◌++◌, ◌∷◌, ◌+◌, [], rules, arith, sym, ap, ap₂, map, take, subst, subst₂, AllByRecursion, IsErr, take_more, map-append, state, HasCleanDisk, Survives, survives_then, take_whole, answer_of, conditions, CommitsCommand, CommitsOne, CommandTurns, EnduresRun, FindOpen, InTurn, Runs, ServesCommand, version_of, Database, IsTrue}
use Rattle.zeb_engine.proofs.CommitCrashes.{survives_step}
use Rattle.zeb_engine.proofs.RunCommits.{carries, commits_earlier, commits_latest}
use Rattle.zeb_engine.proofs.RunCrashes.{crash_more}
use Rattle.zeb_engine.proofs.RunLemmas.{one_turn_more, open_before, open_more, refused_more, runs_more}
use Rattle.zeb_engine.proofs.CommandedConnections.{did, did_endure, did_refuse}
use Rattle.zeb_engine.proofs.registers.Session.run_all.Goals as goal
use Rattle.zeb_engine.specs.Sessions.{conditions_in}

pub loop-command-preserved : goal.loop-command-preserved
loop-command-preserved g c =
    let index = c.loop-command.command-index in
    let all = c.args.commands.now in
    let item = c.command-item.result in
    let answers = map answer_of c.loop-command.answers.items in
    let of = conditions (version_of g.L.Layout.format) in
    let k = of c.args.self.now.profile c.args.self.now.limits in
    let old = state g.S.Store c.args.self.now.connection in
    let now = state g.S.Store c.loop-command.self.connection in
    let next = state g.S.Store c.command.new.self.connection in
    let same = c.loop-command.invariant.under in
    let it = did g.S.Store item c.loop-command.self.connection c.command.new.self.connection c.command.result c.command.ensures.holds.0.call in
    let last : take (index + 1) all ≡ take index all ++ item ∷ [] = take_more all index item c.loop-command-test.true ∙ ap (λ x. take index all ++ x ∷ []) (sym c.command-item.is) in
    record {
      count = search rules;
      room = search rules;
      under = (c.command.ensures.holds.1.0 ∙ same.0, c.command.ensures.holds.1.1 ∙ same.1);
      survives =
          let served = λ (clean : HasCleanDisk next). subst₂ (λ p l. ServesCommand (of p l) item now next c.command.result) same.0 same.1 (c.command.ensures.step clean) in
          let took = subst₂ (λ p l. Survives now next (CommitsCommand (of p l) item now)) same.0 same.1
          (survives_step g.L.Layout.format (of c.loop-command.self.profile c.loop-command.self.limits) item now next c.command.ensures.lasts.survives) in
          subst₂ (λ commands told. Survives old next (CommitsOne k commands told old)) (sym last) (sym (ap (map answer_of) c.push_reserved.ensures.items ∙ map-append answer_of _ _))
          (survives_then old now next _ _ _ (λ _. commits_earlier k old now (take index all) answers item c.command.result)
          (λ clean db. commits_latest k old now (take index all) answers item c.command.result db (c.loop-command.invariant.run (omega (arith, c.command.ensures.lasts.survives.clean))))
          c.loop-command.invariant.survives (carries k item now next c.command.result served (λ clean. did_endure item now next c.command.result clean it) took));
      refused = λ clean all.
          let was = c.loop-command.invariant.refused (omega (arith, c.command.ensures.lasts.survives.clean)) in
          refused_more old now next c.loop-command.answers.items c.command.result was (did_refuse item now next c.command.result clean it) (subst (AllByRecursion IsErr) c.push_reserved.ensures.items all);
      turns = λ clean.
          let was = c.loop-command.invariant.turns (omega (arith, c.command.ensures.lasts.survives.clean)) in
          let Does = CommandTurns g.L.Layout.format g.L.Layout.row_work g.L.Layout.block_rows k in
          let work = c.command.new.self.work in
          let under : of c.loop-command.self.profile c.loop-command.self.limits ≡ k = ap₂ of same.0 same.1 in
          let does : CommandTurns g.L.Layout.format g.L.Layout.row_work g.L.Layout.block_rows (of c.loop-command.self.profile c.loop-command.self.limits) item c.command.result now next work = record {
            step = c.command.ensures.step clean;
            tables = c.command.ensures.tables clean;
            answers = c.command.ensures.answers;
            counts = c.command.ensures.counts;
          } in
          subst₂ (λ commands results. InTurn g.S.Store Does commands results c.args.self.now.connection c.args.self.now.work c.command.new.self.connection work) (sym last) (sym c.push_reserved.ensures.items)
          (one_turn_more g.S.Store Does c.args.self.now.connection c.loop-command.self.connection c.command.new.self.connection c.args.self.now.work c.loop-command.self.work work item c.command.result
          (subst (λ conditions. CommandTurns g.L.Layout.format g.L.Layout.row_work g.L.Layout.block_rows conditions item c.command.result now next work) under does) (take index all) c.loop-command.answers.items was);
      was_open = λ clean.
          open_before old now next item c.command.result clean (c.loop-command.invariant.was_open (omega (arith, c.command.ensures.lasts.survives.clean))) it;
      «open» = λ clean.
          let early : HasCleanDisk now = omega (arith, c.command.ensures.lasts.survives.clean) in
          subst₂ (λ commands results. FindOpen commands results old next) (sym last) (sym c.push_reserved.ensures.items)
          (open_more old now next item c.command.result clean (c.loop-command.invariant.was_open early) it (take index all) c.loop-command.answers.items (c.loop-command.invariant.«open» early));
      crash = λ clean.
          let early : HasCleanDisk now = omega (arith, c.command.ensures.lasts.survives.clean) in
          let was = c.loop-command.invariant.run early in
          let served = subst₂ (λ p l. ServesCommand (conditions (version_of g.L.Layout.format) p l) item now next c.command.result) same.0 same.1 (c.command.ensures.step clean) in
          let survives = subst₂ (λ p l. Survives now next (CommitsCommand (of p l) item now)) same.0 same.1
          (survives_step g.L.Layout.format (of c.loop-command.self.profile c.loop-command.self.limits) item now next c.command.ensures.lasts.survives) in
          let more = runs_more k old now next (take index all) answers item c.command.result was served in
          subst₂ (λ commands told. EnduresRun k commands told old next) (sym last) (sym (ap (map answer_of) c.push_reserved.ensures.items ∙ map-append answer_of _ _))
          (crash_more k old now next (take index all) answers item c.command.result was more served clean (c.command.ensures.holds.0.durable clean) it survives
          (c.loop-command.invariant.crash early));
      run = λ clean.
          let was = c.loop-command.invariant.run (omega (arith, c.command.ensures.lasts.survives.clean)) in
          let served = subst₂ (λ p l. ServesCommand (conditions (version_of g.L.Layout.format) p l) item now next c.command.result) same.0 same.1 (c.command.ensures.step clean) in
          let more = runs_more k old now next (take index all) answers item c.command.result was served in
          subst₂ (λ commands told. Runs k commands told old next) (sym last) (sym (ap (map answer_of) c.push_reserved.ensures.items ∙ map-append answer_of _ _)) more;
    }

pub returns-clause-run : goal.returns-clause-run
returns-clause-run g c clean =
    let k = conditions_in g.L.Layout.format c.args.self.now in
    let whole : take c.loop-command.command-index c.args.commands.now ≡ c.args.commands.now = take_whole c.args.commands.now c.loop-command.command-index (omega arith) in
    subst (λ commands. Runs k commands (map answer_of c.loop-command.answers.items) (state g.S.Store c.args.self.now.connection) (state g.S.Store c.loop-command.self.connection)) whole
    (c.loop-command.invariant.run clean)

pub returns-clause-turns : goal.returns-clause-turns
returns-clause-turns g c clean =
    let whole : take c.loop-command.command-index c.args.commands.now ≡ c.args.commands.now = take_whole c.args.commands.now c.loop-command.command-index (omega arith) in
    subst (λ commands. InTurn g.S.Store (CommandTurns g.L.Layout.format g.L.Layout.row_work g.L.Layout.block_rows (conditions_in g.L.Layout.format c.args.self.now))
    commands c.loop-command.answers.items c.args.self.now.connection c.args.self.now.work c.loop-command.self.connection c.loop-command.self.work) whole
    (c.loop-command.invariant.turns clean)

pub returns-clause-holds : goal.returns-clause-holds
returns-clause-holds g c =
    let end = c.loop-command.self.connection in
    let idle : IsTrue c.is_autocommit-settled.result = search rules in
    let whole : take c.loop-command.command-index c.args.commands.now ≡ c.args.commands.now = take_whole c.args.commands.now c.loop-command.command-index (omega arith) in (
      λ clean. record {
        durable = λ is_open db left. g.met.S.Store.settled end.store db is_open left ∙ ap (λ (d : Database). d.trees) (sym (c.is_autocommit-settled.ensures.settled idle is_open));
        asked = subst (λ commands. FindOpen commands c.loop-command.answers.items (state g.S.Store c.args.self.now.connection) (state g.S.Store end)) whole (c.loop-command.invariant.«open» clean);
        refused = c.loop-command.invariant.refused clean;
      },
      c.loop-command.invariant.under,
    )

pub returns-clause-lasts : goal.returns-clause-lasts
returns-clause-lasts g c =
    let k = conditions_in g.L.Layout.format c.args.self.now in
    let old = state g.S.Store c.args.self.now.connection in
    let new = state g.S.Store c.loop-command.self.connection in
    let whole : take c.loop-command.command-index c.args.commands.now ≡ c.args.commands.now = take_whole c.args.commands.now c.loop-command.command-index (omega arith) in
    record {
      survives = subst (λ commands. Survives old new (CommitsOne k commands (map answer_of c.loop-command.answers.items) old)) whole c.loop-command.invariant.survives;
      crash = λ clean. subst (λ commands. EnduresRun k commands (map answer_of c.loop-command.answers.items) old new) whole (c.loop-command.invariant.crash clean);
    }
