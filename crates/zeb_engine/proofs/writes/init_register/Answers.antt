use Rattle.zeb_engine.proofs.Cited.{◌≡◌, ◌∙◌, ℕ, List, Some, Result, Ok, Err, OnOk, IfErr, Bor, rules, refl, sym, subst, inl, inr, ap, string_bytes, option_map, Database, State, HasCleanDisk, Directive, pattern_text, identifier_pattern, state, IsStore, Refusal, Reply, IsFailing, why_of, NoReadFault, Conditions, conditions, Holdings, Outcome, Always, Serves, IsSettled, Commanded, Transacts, AreOf, WriteDoes, InitLeaves, Format, version_of, initialised}
use Rattle.zeb_engine.specs.declared.writes.Write.TheVariants as write
use Rattle.zeb_change.specs.declared.refusals.Refusal.TheVariants as refusal
use Rattle.zeb_engine.proofs.CommandsDone.{unbegun_init}
use Rattle.zeb_engine.proofs.ChangeNumbers.{shown_store, showing}
use Rattle.zeb_engine.proofs.CommitCrashes.{ends_commit, survives_as, survives_both}
use Rattle.zeb_engine.proofs.ReadyCommands.{ends_serve}
use Rattle.zeb_engine.proofs.ServesLemmas.{keeps_still}
use Rattle.zeb_engine.proofs.TransactedOutcomes.{LeadsOn, rows_accept, rows_commit}
use Rattle.zeb_engine.proofs.WriteSteps.{init_leads}
use Rattle.zeb_engine.proofs.TurnedOutcomes.{Leads}
use Rattle.zeb_engine.proofs.writes.init_register.Goals as goal

-- accepted, the connection was open; refused, it failed
init_serves : (Does : (old new : Database) → Result Reply Refusal → Type 0) (outcome : Holdings → Outcome) (s new : State) → LeadsOn Does Always outcome s → (result : Result Reply Refusal) → Commanded s new result
    → Transacts Does s new result → IfErr result (λ refusal. IsFailing (why_of refusal)) → HasCleanDisk new → Serves Always outcome s new result
init_serves Does outcome s new leads (Ok told) call did few clean before fits keeps = rows_accept Does Always outcome s leads (call.accepted clean).0 new told did clean before fits keeps
init_serves Does outcome s new leads (Err refusal) call did few clean before fits keeps = inr (few, keeps_still before s new (call.refused clean) keeps)

init_leaves : (format : Format) (profile : Bor (List Directive)) (pattern : Bor (List ℕ)) (c : Conditions) → AreOf (version_of format) profile.now pattern.now c → (s new : State) → IsSettled new → (result : Result Reply Refusal)
    → (IsStore s → WriteDoes format (write.Init profile pattern) s.now new.now result) → OnOk result (InitLeaves c s new)
init_leaves format profile pattern c of s new settled (Ok told) does = λ store is_open. let left = (does store).1 in ((shown_store new new.now left.store, left.image c of), settled is_open)
init_leaves format profile pattern c of s new settled (Err refusal) does = tt

failing_unread : (r : Result Reply Refusal) → IfErr r (λ refusal. IsFailing (why_of refusal)) → NoReadFault r
failing_unread r few file is = elim (subst (λ (q : Result Reply Refusal). IfErr q (λ refusal. IsFailing (why_of refusal))) is few) [ inl e ↦ absurd cc | inr e ↦ absurd cc ]

pub returns-in_err-pattern-clause-done : goal.returns-in_err-pattern-clause-done
returns-in_err-pattern-clause-done g c limits =
    let told : c.from_residual.result ≡ Err refusal.Memory = search rules in
    rw told (unbegun_init g.S.Store g.L.Layout.format g.L.Layout.row_work g.L.Layout.block_rows (conditions (version_of g.L.Layout.format) c.args.profile.now limits) c.args.connection.now (search rules))

pub returns-clause-done : goal.returns-clause-done
returns-clause-done g c limits =
    let version = version_of g.L.Layout.format in
    let k = conditions version c.args.profile.now limits in
    let old = state g.S.Store c.args.connection.now in
    let new = state g.S.Store c.transact.new.connection in
    let answer = c.transact.result in
    let did = c.transact.ensures.transacts in
    let call = c.transact.ensures.commanded.call in
    let few : IfErr answer (λ refusal. IsFailing (why_of refusal)) = c.transact.ensures.few in
    let spelled : string_bytes c.in_ok-pattern.pattern ≡ pattern_text c.identifier_rule.result.now = search rules in
    let lent : c.as_str.result.now ≡ string_bytes c.in_ok-pattern.pattern = search rules in
    let pattern : option_map pattern_text (identifier_pattern c.args.profile.now) ≡ Some c.as_str.result.now = ap (option_map pattern_text) c.identifier_rule.ensures ∙ ap Some (sym (lent ∙ spelled)) in
    let of : AreOf version c.args.profile.now c.as_str.result.now k = record { version_is = refl; profile_is = refl; pattern_is = pattern; sound = c.is_of_some_text.ensures } in
    let Does = WriteDoes g.L.Layout.format (write.Init c.args.profile c.as_str.result) in
    let leads : LeadsOn Does Always (initialised k) old = λ before store image fits next told does.
    subst (λ (r : Reply). Leads (showing old next) r (initialised k before)) (sym does.0) (init_leads g.L.Layout.format k c.as_str.result.now of old next does.1 before) in
    record {
      call = call;
      survives = ends_commit (initialised k) old new (survives_as old new _ _ (λ clean db made. rows_commit Does Always (initialised k) old leads made.0 db made.1) (survives_both old new _ _ c.transact.ensures.opened did.survives));
      step = λ clean. ends_serve (initialised k) old new answer (init_serves Does (initialised k) old new leads answer call did few clean);
      does = λ clean settled. init_leaves g.L.Layout.format c.args.profile c.as_str.result k of old new settled answer (did.rows clean);
      answers = (failing_unread answer few, few);
      counts = record { counted = refl; none = λ _. refl };
    }
