use Rattle.zeb_engine.proofs.Cited.{◌∙◌, ℕ, List, codes, MatchResult, IsTrue, rules, sym, ap, subst, Database, state, RefusesText, TellsText}
use Rattle.zeb_engine.proofs.CommandedConnections.{reads_command}
use Rattle.zeb_engine.proofs.registers.Session.keeps_layout.Goals as goal

pub returns-clause-tells : goal.returns-clause-tells
returns-clause-tells g c clean store =
    let trees = (state g.S.Store c.args.self.now.connection).now.trees in
    subst (λ (text : List ℕ). MatchResult c.keeps_text-answer.result (TellsText (codes "version") text trees) (RefusesText (codes "version") trees)) c.version.ensures ((c.keeps_text-answer.ensures.looks.look clean).told store)

pub returns-clause-looks : goal.returns-clause-looks
returns-clause-looks g c clean = let look = c.keeps_text-answer.ensures.looks.look clean in record { nothing = look.same; caused = look.caused }

pub returns-clause-holds : goal.returns-clause-holds
returns-clause-holds g c =
    let end = c.keeps_text-answer.new.connection in
    let look = c.keeps_text-answer.ensures.looks.look in
    let idle : IsTrue c.is_autocommit-settled.result = search rules in (
      record {
        call = reads_command (state g.S.Store c.args.self.now.connection) (state g.S.Store end) c.keeps_text-answer.result (λ clean. (look clean).found) (λ clean. (look clean).same) c.keeps_text-answer.ensures.looks.crash;
        durable = λ clean is_open db left. g.met.S.Store.settled end.store db is_open left ∙ ap (λ (d : Database). d.trees) (sym (c.is_autocommit-settled.ensures.settled idle is_open));
      },
      search rules,
    )
