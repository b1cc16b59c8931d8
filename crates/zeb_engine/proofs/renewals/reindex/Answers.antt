use Rattle.zeb_engine.proofs.Cited.{◌≡◌, List, Ok, Err, IsUtf8, refl, rules, ap, arith, inl, inr, sym, subst, option_map, Database, Trees, state, HasCleanDisk, canonical_text, pattern_text, version_of, IsStore, store_same, conditions, AreSessions, Base, Holdings, Reply, TellsSound, WriteDoes, reindexed, ruled}
use Rattle.zeb_engine.specs.declared.writes.Write.TheVariants as write
use Rattle.zeb_engine.proofs.ChangeNumbers.{showing}
use Rattle.zeb_engine.proofs.CommandedConnections.{commanded_then, reads_command}
use Rattle.zeb_engine.proofs.CommandsDone.{nothing_commits, unread_as}
use Rattle.zeb_engine.proofs.CommitCrashes.{ends_commit, survives_after, survives_both}
use Rattle.zeb_engine.proofs.ReadyCommands.{ends_serve}
use Rattle.zeb_engine.proofs.ReindexedTables.{commits_after_look, leaves_settled, remade_after}
use Rattle.zeb_engine.proofs.RenewalAnswers.{rule_met, rule_unserved}
use Rattle.zeb_engine.proofs.ReadsInTurn.{asked_unread}
use Rattle.zeb_engine.proofs.RenewalWork.{reindex_commits, reindex_leads, reindex_leaves, reindex_sound, reindex_told}
use Rattle.zeb_engine.proofs.ServesLemmas.{keeps_still}
use Rattle.zeb_engine.proofs.TransactedOutcomes.{LeadsOn, RefusesAs, rows_commit, rows_serve}
use Rattle.zeb_engine.proofs.TurnedOutcomes.{Leads}
use Rattle.zeb_engine.proofs.renewals.reindex.Goals as goal

pub returns-in_err-check_rule-clause-done : goal.returns-in_err-check_rule-clause-done
returns-in_err-check_rule-clause-done g c limits =
    let k = conditions (version_of g.L.Layout.format) c.args.profile.now limits in
    let old = state g.S.Store c.args.connection.now in
    let mid = state g.S.Store c.check_rule.new.connection in
    let why = c.in_err-check_rule.field-0.0 in
    let look = c.in_err-check_rule.ensures.looks.look in
    let told : c.from_residual.result ≡ Err why = search rules in
    rw told (record {
      call = reads_command old mid (Err why) (λ clean. tt) (λ clean. (look clean).same) c.check_rule.ensures.looks.crash;
      survives = nothing_commits old mid _ c.check_rule.ensures.looks.crash;
      step = λ clean. ends_serve (reindexed k) old mid (Err why) (rule_unserved k c.is_of_some_text.ensures (pattern_text c.identifier_rule-rule.result.now) (ap (option_map pattern_text) c.identifier_rule-rule.ensures) old mid why (look clean));
      does = λ clean settled. record { told = λ store. inl ((look clean).told store); leaves = tt };
      answers = unread_as why c.in_err-check_rule.ensures.unread;
      counts = record { counted = refl; none = λ _. refl };
    })

pub returns-clause-done : goal.returns-clause-done
returns-clause-done g c limits =
    let format = g.L.Layout.format in
    let profile = c.args.profile.now in
    let k = conditions (version_of format) profile limits in
    let old = state g.S.Store c.args.connection.now in
    let mid = state g.S.Store c.check_rule.new.connection in
    let new = state g.S.Store c.transact.new.connection in
    let answer = c.transact.result in
    let did = c.transact.ensures.transacts in
    let sound = c.is_of_some_text.ensures in
    let session : AreSessions format k = record { version_is = refl; sound = sound } in
    let Does = WriteDoes format (write.Reindex c.args.alloc c.args.profile) in
    let Ruled = λ (trees : Trees) (before : Holdings). (bases : List Base) × (ruled k before ≡ Ok bases) in
    let first : HasCleanDisk new → HasCleanDisk mid = λ clean. omega (arith, did.survives.clean) in
    let look = λ (clean : HasCleanDisk new). c.in_ok-check_rule.ensures.looks.look (first clean) in
    let still = λ (clean : HasCleanDisk new). let it = look clean in (it.same it.found.1).1 in
    let readable : IsUtf8 (version_of format) × IsUtf8 (canonical_text profile) = (subst IsUtf8 c.version-version.ensures c.version-version.utf8, subst IsUtf8 c.text-text.ensures c.text-text.utf8) in
    let known = λ (clean : HasCleanDisk new). rule_met k sound (pattern_text c.identifier_rule-rule.result.now) (ap (option_map pattern_text) c.identifier_rule-rule.ensures) old mid (look clean) in
    let rows = λ (clean : HasCleanDisk new) (store : IsStore mid). did.rows clean store in
    let leads : LeadsOn Does Ruled (reindexed k) mid = λ before store image fits next told does.
    subst (λ (r : Reply). Leads (showing mid next) r (reindexed k before)) (sym does.0) (reindex_leads format k session mid before image fits.0 fits.1 readable.1 next does.1.1) in
    let refuses : RefusesAs Does Ruled (reindexed k) mid = λ before image fits next refusal does.
    elim does [ inl failed ↦ inl failed | inr damaged ↦ absurd (reindex_sound format k session mid before image fits.0 fits.1 damaged.1) ] in
    record {
      call = commanded_then old mid new answer first c.check_rule.ensures.looks.crash (λ clean. (c.in_ok-check_rule.ensures.looks.look clean).found) (λ clean. (c.in_ok-check_rule.ensures.looks.look clean).same) c.transact.ensures.commanded.call;
      survives = survives_both old new _ _ (ends_commit (reindexed k) old new (survives_after old mid new _ _ c.check_rule.ensures.looks.crash did.survives (λ clean db made before fits keeps.
          rows_commit Does Ruled (reindexed k) mid leads (look clean).found.1 db made before (λ _. known clean before keeps) (keeps_still before old mid (look clean).same keeps))))
          (survives_after old mid new _ _ c.check_rule.ensures.looks.crash did.survives (λ clean db made. commits_after_look format profile readable sound old mid (still clean) (look clean).told db (reindex_commits format c.args.alloc c.args.profile mid db made)));
      step = λ clean. ends_serve (reindexed k) old new answer (λ before fits keeps.
          rows_serve Does Ruled (reindexed k) mid leads (look clean).found.1 refuses new answer c.transact.ensures.commanded.call did clean before (λ _. known clean before keeps) (keeps_still before old mid (look clean).same keeps));
      does = λ clean settled. record {
        told = λ store. inr ((look clean).told store, subst (λ (d : Database). TellsSound profile d.trees answer) (still clean) (reindex_told format c.args.alloc c.args.profile mid new answer (rows clean (store_same old mid (still clean) store))));
        leaves = leaves_settled format profile answer old new settled (remade_after format profile readable sound old mid (still clean) (look clean).told answer new (reindex_leaves format c.args.alloc c.args.profile mid new answer (rows clean)));
      };
      answers = asked_unread answer c.transact.ensures.few;
      counts = record { counted = refl; none = λ _. refl };
    }
