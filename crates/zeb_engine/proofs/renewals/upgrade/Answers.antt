use Rattle.zeb_engine.proofs.Cited.{◌≡◌, ◌∙◌, true, false, Result, Ok, Err, IsTrue, IsUtf8, inl, inr, refl, rules, sym, ap, subst, arith, state, clean_before, IsSettled, IsStore, List, Trees, AreSessions, Base, Holdings, Keeps, WriteDoes, Always, HasCleanDisk, earlier_version, version_of, nothing_then, quiet_then, store_same, conditions, StaysOpen, UpgradeLeaves, Standing, FindsStanding, IsLook, RefusesUpgrade, Refusal, Reply, Done, register_refusal, upgradable, upgraded}
use Rattle.zeb_change.specs.declared.refusals.Refusal.TheVariants as refusal
use Rattle.zeb_engine.specs.declared.writes.Write.TheVariants as write
use Rattle.zeb_engine.proofs.ChangeNumbers.{showing}
use Rattle.zeb_engine.proofs.CheckAnswers.{tells_none, told_image}
use Rattle.zeb_engine.proofs.CommandedConnections.{commanded_then, reads_command}
use Rattle.zeb_engine.proofs.CommandsDone.{nothing_commits, unread_as, upgrade_done}
use Rattle.zeb_engine.proofs.CommitCrashes.{survives_after}
use Rattle.zeb_engine.proofs.ListedDatabases.{fault_fails}
use Rattle.zeb_engine.proofs.ReadyTexts.{fault_reads}
use Rattle.zeb_engine.proofs.RenewalAnswers.{damage_unserved, earlier_leaves, earlier_met, earlier_tells, layout_unserved, own_not_earlier, own_serves, own_unrefused}
use Rattle.zeb_engine.proofs.ReadsInTurn.{asked_unread}
use Rattle.zeb_engine.proofs.RenewalSteps.{earlier_taken}
use Rattle.zeb_engine.proofs.RenewalWork.{upgrade_leads, upgrade_sound}
use Rattle.zeb_engine.proofs.ServesLemmas.{keeps_still, on_ok}
use Rattle.zeb_engine.proofs.TransactedOutcomes.{LeadsOn, RefusesAs, rows_commit, rows_serve}
use Rattle.zeb_engine.proofs.TurnedOutcomes.{Leads}
use Rattle.zeb_engine.proofs.renewals.upgrade.Goals as goal

pub returns-in_err-standing-clause-done : goal.returns-in_err-standing-clause-done
returns-in_err-standing-clause-done g c limits =
    let own = version_of g.L.Layout.format in
    let profile = c.args.profile.now in
    let k = conditions own profile limits in
    let begun = c.args.connection.now in
    let old = state g.S.Store begun in
    let mid = state g.S.Store c.check_layout.new.connection in
    let quiet = c.check_layout.ensures.looks.crash in
    let why = c.in_err-standing.field-0.0 in
    let look = c.in_err-standing.ensures.looks.look in
    let told : c.from_residual.result ≡ Err why = search rules in
    rw told (upgrade_done g.S.Store g.L.Layout.format g.L.Layout.row_work g.L.Layout.block_rows k begun c.check_layout.new.connection (Err why) (reads_command old mid (Err why) (λ clean. tt) (λ clean. (look clean).same) quiet) (nothing_commits old mid _ quiet)
    (λ clean. layout_unserved k old mid why (look clean)) (λ clean. record {
      told = λ store. inl ((look clean).told store);
      stays = λ store texts. ((look clean).same, inr (own_unrefused own profile old store texts (subst IsUtf8 c.version-version.ensures c.version-version.utf8) (subst IsUtf8 c.text-text.ensures c.text-text.utf8) why ((look clean).told store)));
      leaves = tt;
    }) (unread_as why c.in_err-standing.ensures.unread))

pub returns-in-Upgraded-clause-done : goal.returns-in-Upgraded-clause-done
returns-in-Upgraded-clause-done g c limits =
    let own = version_of g.L.Layout.format in
    let profile = c.args.profile.now in
    let k = conditions own profile limits in
    let begun = c.args.connection.now in
    let old = state g.S.Store begun in
    let mid = state g.S.Store c.check_layout.new.connection in
    let quiet = c.check_layout.ensures.looks.crash in
    let look = λ (clean : HasCleanDisk mid). subst (λ (s : Standing). IsLook (FindsStanding own profile) (RefusesUpgrade own profile) old mid (Ok s)) c.in-Upgraded.is (c.in_ok-standing.ensures.looks.look clean) in
    upgrade_done g.S.Store g.L.Layout.format g.L.Layout.row_work g.L.Layout.block_rows k begun c.check_layout.new.connection (Ok Done) (reads_command old mid (Ok Done) (λ clean. (look clean).found) (λ clean. (look clean).same) quiet) (nothing_commits old mid _ quiet)
    (λ clean. own_serves k old mid (look clean)) (λ clean. record {
      told = λ store. inr (inl ((look clean).told store, refl));
      stays = λ store texts. ((look clean).same, inl refl);
      leaves = λ store. store_same old mid ((look clean).same (look clean).found.1).1 store;
    }) (λ file is. cc)

-- ---- a register of an earlier layout, so of no other

pub returns-in_err-is_earlier_image-in-Before-clause-done : goal.returns-in_err-is_earlier_image-in-Before-clause-done
returns-in_err-is_earlier_image-in-Before-clause-done g c limits =
    let own = version_of g.L.Layout.format in
    let profile = c.args.profile.now in
    let k = conditions own profile limits in
    let begun = c.args.connection.now in
    let old = state g.S.Store begun in
    let mid = state g.S.Store c.check_layout.new.connection in
    let quiet = c.check_layout.ensures.looks.crash in
    let late = state g.S.Store c.is_earlier_image.new.connection in
    let image = c.in_err-is_earlier_image-in-Before.ensures in
    let first = clean_before mid late image.call.crash in
    let look = λ (clean : HasCleanDisk late). subst (λ (s : Standing). IsLook (FindsStanding own profile) (RefusesUpgrade own profile) old mid (Ok s)) c.in-Before.is (c.in_ok-standing.ensures.looks.look (first clean)) in
    let same = λ (clean : HasCleanDisk late). nothing_then old mid late (look clean).same (image.call.same clean c.check_layout.ensures.looks.idle) in
    let fault = c.in_err-is_earlier_image-in-Before.field-0.0 in
    let answer : Result Reply Refusal = Err (register_refusal fault) in
    let told : c.from_residual-in_err-is_earlier_image-in-Before.result ≡ answer = search rules in
    let failed = fault_fails fault (λ is. image.honest (ap Err is)) in
    let still = quiet_then old mid late quiet image.call.crash in
    rw told (upgrade_done g.S.Store g.L.Layout.format g.L.Layout.row_work g.L.Layout.block_rows k begun c.is_earlier_image.new.connection answer (reads_command old late answer (λ clean. tt) same still) (nothing_commits old late _ still)
    (λ clean before fits keeps. inr (failed, keeps_still before old late (same clean) keeps)) (λ clean. record {
      told = λ store. let texts = (look clean).told store in inr (inr (earlier_version c.in-Before.earlier, texts.1, texts.0, inr (inr failed)));
      stays = λ store texts. absurd (own_not_earlier own profile old store texts c.in-Before.earlier ((look clean).told store));
      leaves = tt;
    }) (fault_reads fault))

pub returns-then-branch-clause-done : goal.returns-then-branch-clause-done
returns-then-branch-clause-done g c limits =
    let own = version_of g.L.Layout.format in
    let profile = c.args.profile.now in
    let k = conditions own profile limits in
    let begun = c.args.connection.now in
    let old = state g.S.Store begun in
    let mid = state g.S.Store c.check_layout.new.connection in
    let quiet = c.check_layout.ensures.looks.crash in
    let late = state g.S.Store c.is_earlier_image.new.connection in
    let image = c.in_ok-is_earlier_image-in-Before.ensures in
    let first = clean_before mid late image.call.crash in
    let look = λ (clean : HasCleanDisk late). subst (λ (s : Standing). IsLook (FindsStanding own profile) (RefusesUpgrade own profile) old mid (Ok s)) c.in-Before.is (c.in_ok-standing.ensures.looks.look (first clean)) in
    let same = λ (clean : HasCleanDisk late). nothing_then old mid late (look clean).same (image.call.same clean c.check_layout.ensures.looks.idle) in
    let end = c.transact.new.connection in
    let new = state g.S.Store end in
    let answer = c.transact.result in
    let did = c.transact.ensures.transacts in
    let it = c.in_ok-is_earlier_image-in-Before.field-0 in
    let yes : IsTrue it = search rules in
    let idle : IsTrue c.is_autocommit-settled.result = search rules in
    let second : HasCleanDisk new → HasCleanDisk late = λ clean. omega (arith, did.survives.clean) in
    let opened = λ (clean : HasCleanDisk late). ((image.call.ok clean).1 yes).0.is_open in
    let session : AreSessions g.L.Layout.format k = record { version_is = refl; sound = c.is_of_some_text.ensures } in
    let Does = WriteDoes g.L.Layout.format (write.Upgrade c.args.alloc c.args.profile) in
    let Fit = λ (trees : Trees) (before : Holdings). (bases : List Base) × (upgradable k before ≡ Ok bases) in
    let leads : LeadsOn Does Fit (upgraded k) late = λ before store image fits next told does.
    subst (λ (r : Reply). Leads (showing late next) r (upgraded k before)) (sym does.0) (upgrade_leads g.L.Layout.format k session late before image fits.0 fits.1 (subst IsUtf8 c.version-version.ensures c.version-version.utf8) next does.1) in
    let refuses : RefusesAs Does Fit (upgraded k) late = λ before image fits next refusal does.
    elim does [ inl failed ↦ inl failed | inr damaged ↦ absurd (upgrade_sound g.L.Layout.format k session late before image fits.0 fits.1 damaged.1) ] in
    let of : HasCleanDisk late → (before : Holdings) → Keeps old before → (bases : List Base) × (upgradable k before ≡ Ok bases) = λ seen before keeps.
    let met = earlier_met k old mid c.in-Before.earlier (look seen) before keeps in (met.0, met.2) in
    let serves = λ (clean : HasCleanDisk new) (before : Holdings) (fits : IsTrue old.is_open → Always old.now.trees before) (keeps : Keeps old before).
    let seen = second clean in rows_serve Does Fit (upgraded k) late leads (opened seen) refuses new answer c.transact.ensures.commanded.call did clean before (λ _. of seen before keeps) (keeps_still before old late (same seen) keeps) in
    let told = λ (clean : HasCleanDisk late) (store : IsStore old). let still = ((look clean).same (look clean).found.1).1 in told_image k (earlier_version c.in-Before.earlier) old mid still it (image.value clean (store_same old mid still store)) yes in
    let settled : IsSettled old = λ is_open. sym (c.is_autocommit-settled.ensures.settled idle is_open) in
    upgrade_done g.S.Store g.L.Layout.format g.L.Layout.row_work g.L.Layout.block_rows k begun end answer (commanded_then old late new answer second (quiet_then old mid late quiet image.call.crash) (λ clean. ((look clean).found.0, opened clean)) same c.transact.ensures.commanded.call)
    (survives_after old late new _ _ (quiet_then old mid late quiet image.call.crash) did.survives (λ clean db made before fits keeps. let seen = second clean in rows_commit Does Fit (upgraded k) late leads (opened seen) db made before (λ _. of seen before keeps) (keeps_still before old late (same seen) keeps)))
    serves (λ clean. record {
      told = λ store. let texts = (look (second clean)).told store in inr (inr (earlier_version c.in-Before.earlier, texts.1, texts.0, earlier_tells k old store (earlier_version c.in-Before.earlier) (earlier_taken (earlier_version c.in-Before.earlier) own texts.1) settled (told (second clean) store) new answer (serves clean)));
      stays = λ store texts. absurd (own_not_earlier own profile old store texts c.in-Before.earlier ((look (second clean)).told store));
      leaves = on_ok answer (StaysOpen late new) (UpgradeLeaves old new) (λ stays store. let texts = (look (second clean)).told store in earlier_leaves k old store (earlier_version c.in-Before.earlier) (earlier_taken (earlier_version c.in-Before.earlier) own texts.1) settled (told (second clean) store) new answer stays.1 (serves clean)) (c.transact.ensures.commanded.call.accepted clean);
    }) (asked_unread answer c.transact.ensures.few)

pub returns-else-branch-clause-done : goal.returns-else-branch-clause-done
returns-else-branch-clause-done g c limits =
    let own = version_of g.L.Layout.format in
    let profile = c.args.profile.now in
    let k = conditions own profile limits in
    let begun = c.args.connection.now in
    let old = state g.S.Store begun in
    let mid = state g.S.Store c.check_layout.new.connection in
    let quiet = c.check_layout.ensures.looks.crash in
    let late = state g.S.Store c.is_earlier_image.new.connection in
    let image = c.in_ok-is_earlier_image-in-Before.ensures in
    let first = clean_before mid late image.call.crash in
    let look = λ (clean : HasCleanDisk late). subst (λ (s : Standing). IsLook (FindsStanding own profile) (RefusesUpgrade own profile) old mid (Ok s)) c.in-Before.is (c.in_ok-standing.ensures.looks.look (first clean)) in
    let same = λ (clean : HasCleanDisk late). nothing_then old mid late (look clean).same (image.call.same clean c.check_layout.ensures.looks.idle) in
    let it = c.in_ok-is_earlier_image-in-Before.field-0 in
    let no : it ≡ false = search rules in
    let answer : Result Reply Refusal = Err refusal.Damaged in
    let still = quiet_then old mid late quiet image.call.crash in
    upgrade_done g.S.Store g.L.Layout.format g.L.Layout.row_work g.L.Layout.block_rows k begun c.is_earlier_image.new.connection answer (reads_command old late answer (λ clean. tt) same still) (nothing_commits old late _ still)
    (λ clean. damage_unserved k old mid late c.in-Before.earlier (look clean) (λ store shown. let is = (image.value clean store).1 shown in let e : true ≡ false = sym is ∙ no in cc)) (λ clean. record {
      told = λ store.
          let texts = (look clean).told store in
          let there = ((look clean).same (look clean).found.1).1 in
          inr (inr (earlier_version c.in-Before.earlier, texts.1, texts.0, tells_none k (earlier_version c.in-Before.earlier) old mid there it (image.value clean (store_same old mid there store)) texts.0 no));
      stays = λ store texts. absurd (own_not_earlier own profile old store texts c.in-Before.earlier ((look clean).told store));
      leaves = tt;
    }) (λ file is. cc)
