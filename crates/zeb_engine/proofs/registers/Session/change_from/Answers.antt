use Rattle.zeb_engine.proofs.Cited.{◌≡◌, ◌∙◌, Err, OnOk, refl, rules, arith, subst₂, state, Database, HasCleanDisk, name_bytes, splits_of, Work, Costs, no_work, ElderOver, EldersOver, LeavesRows, LosesNamedOver, ReasonsOver, NeverUnready, version_of, changed_by_files, turned}
use Rattle.zeb_engine.proofs.CommandsDone.{faulty_done}
use Rattle.zeb_engine.proofs.CommitCrashes.{survives_after}
use Rattle.zeb_engine.proofs.Readers.{named_or_none}
use Rattle.zeb_engine.proofs.ReadyCommands.{ends_serve}
use Rattle.zeb_engine.proofs.ReadyDone.{commanded_after, held_behind, texts_after, unready_readers}
use Rattle.zeb_engine.proofs.ServesLemmas.{on_ok}
use Rattle.zeb_engine.proofs.ChangeElders.{said_after}
use Rattle.zeb_engine.proofs.DatabaseChanges as law
use Rattle.zeb_engine.proofs.registers.Session.change_from.Goals as goal
use Rattle.zeb_engine.specs.Sessions.{conditions_in}

pub returns-in_err-check_readers-clause-done : goal.returns-in_err-check_readers-clause-done
returns-in_err-check_readers-clause-done g c =
    let told : c.from_residual.result ≡ Err c.in_err-check_readers.field-0.0 = search rules in
    let fresh : c.default-self.result ≡ no_work = search rules in
    rw told (faulty_done g.S.Store g.R.Source.remaining g.R.Source.may_fail g.R.Source.has_failed g.L.Layout.format g.L.Layout.row_work (conditions_in g.L.Layout.format c.args.self.now) c.args.kind (name_bytes c.args.database.now) c.args.self.now.connection c.args.readers.now c.in_err-check_readers.field-0.0 c.in_err-check_readers.ensures.named c.default-self.result fresh (search rules))

pub returns-in_err-check_ready-clause-done : goal.returns-in_err-check_ready-clause-done
returns-in_err-check_ready-clause-done g c =
    let told : c.from_residual-in_err-check_ready.result ≡ Err c.in_err-check_ready.field-0.0 = search rules in
    let fresh : c.default-self.result ≡ no_work = search rules in
    rw told (unready_readers g.L.Layout.format g.L.Layout.row_work g.L.Layout.block_rows c.args.self.now.limits c.in_err-check_ready.ensures.looks g.R.Source.remaining g.R.Source.may_fail g.R.Source.has_failed c.args.readers.now c.in_ok-check_readers.ensures.none c.args.kind (name_bytes c.args.database.now) c.default-self.result fresh)

pub returns-clause-done : goal.returns-clause-done
returns-clause-done g c =
    let held = c.args.self.now in
    let name = name_bytes c.args.database.now in
    let k = conditions_in g.L.Layout.format held in
    let old = state g.S.Store held.connection in
    let mid = state g.S.Store c.check_ready.new.connection in
    let end = c.change_database.new.connection in
    let new = state g.S.Store end in
    let answer = c.change_database.result in
    let looked = c.in_ok-check_ready.ensures.looks in
    let did = c.change_database.ensures in
    let sound = c.is_of_some_text.ensures in
    let fresh : c.default-self.result ≡ no_work = search rules in
    let first : HasCleanDisk new → HasCleanDisk mid = λ clean. omega (arith, did.transacts.survives.clean) in
    record {
      call = commanded_after looked end first answer did.commanded.call;
      survives = survives_after old mid new _ _ looked.reads.crash did.transacts.survives (λ clean db made texts told fine before keeps.
          let outcome = turned k (changed_by_files k c.args.kind name (splits_of texts)) in
          let at = held_behind looked end first held.limits clean before keeps in
          let done = law.commits _ _ _ mid _ sound at.2.1 texts told db made before (λ _. (at.0, at.1)) at.3 in
          ((outcome before).0, (outcome before).1, (refl, refl), done.0, done.1));
      step = λ clean texts told fine. ends_serve (turned k (changed_by_files k c.args.kind name (splits_of texts))) old new answer (λ before fits keeps.
          let at = held_behind looked end first held.limits clean before keeps in
          law.serves _ _ _ mid _ sound at.2.1 texts told new answer did.commanded.call did.transacts fine clean before (λ _. (at.0, at.1)) at.3);
      does = λ clean.
          let nothing = looked.reads.same (first clean) in
          let opened = looked.reads.opened (first clean) in
          let rows = did.transacts.rows clean in
          record {
            ready = λ store.
                texts_after looked end first answer (said_after (λ trees. NeverUnready answer) old mid nothing opened (λ there. law.told_ready _ _ _ mid _ new.now answer (rows there)) store) clean store;
            told = λ texts told fine store is.
                said_after (λ trees. ElderOver held.profile name texts trees answer × EldersOver held.profile held.limits name texts trees answer × ReasonsOver held.profile c.args.kind held.limits name texts trees answer) old mid nothing opened
                (λ there. (
                  law.elder _ _ _ mid _ new.now answer (rows there) texts told fine,
                  law.elders _ _ _ mid _ new.now there answer (rows there) texts told,
                  law.reasons _ _ _ mid _ new.now answer (rows there) texts told fine,
                )) store;
            leaves = said_after (λ trees. OnOk answer (LeavesRows (version_of g.L.Layout.format) held.profile c.args.kind name trees new)) old mid nothing opened (λ there. law.leaves _ _ _ mid _ new.now new refl answer (rows there));
            loses = λ texts told. said_after (λ trees. OnOk answer (LosesNamedOver held.profile name texts trees new.now.trees)) old mid nothing opened (λ there. law.named _ _ _ mid _ new.now answer (rows there) texts told);
            honest = λ is before keeps.
                let at = held_behind looked end first held.limits clean before keeps in
                let shown = (at.3 at.2.1).0 in
                law.honest _ _ _ mid _ new.now sound before shown.1 at.0 at.1 answer (rows shown.0) is;
          };
      faults = record { sound = named_or_none g.R.Source.has_failed c.change_database.new.readers answer (did.faults.failed c.in_ok-check_readers.ensures.none); fault = did.faults.fault; able = did.faults.able };
      counts = record {
        costs = λ clean texts told. on_ok answer _ _ (λ works before keeps.
            let at = held_behind looked end first held.limits clean before keeps in
            let same = (looked.reads.same (first clean) at.2.1).1 in
            subst₂ (λ (work : Work) (shown : Database). Costs g.L.Layout.format g.L.Layout.row_work k c.args.kind name texts work c.change_database.new.work shown.trees new.now.trees before) fresh same
            (works before at.2.1 (at.0, at.1) at.3)) (law.costs _ _ _ mid _ new clean answer did.transacts sound texts told);
        none = λ none. did.no_work none ∙ fresh;
      };
    }
