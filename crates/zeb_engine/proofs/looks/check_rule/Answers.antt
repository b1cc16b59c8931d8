use Rattle.zeb_engine.proofs.Cited.{◌≡◌, ◌∙◌, codes, string_bytes, not, true, false, Some, Ok, Err, rules, arith, sym, ap, subst, option_map, bytes_eq, state, pattern_text, identifier_pattern, version_of, IdentifierRuleChanged, OldFormat, RefusesVersion, TellsText, IsReadyToReindex, KeepsText, RefusesReindex}
use Rattle.zeb_engine.proofs.TextLooks.{look_settles, one_readable, pattern_as_rule, rule_differs, text_ends, text_settles}
use Rattle.zeb_engine.proofs.Ready.{texts_agree, texts_differ}
use Rattle.zeb_engine.proofs.ReadyTexts.{other_text}
use Rattle.zeb_engine.proofs.looks.check_rule.Goals as goal

pub returns-then-ne-clause-looks : goal.returns-then-ne-clause-looks
returns-then-ne-clause-looks g c = record {
  idle = search rules;
  look = λ clean.
      let old = state g.S.Store c.args.connection.now in
      let own = version_of g.L.Layout.format in
      let profile = c.args.profile.now in
      let found = c.in_ok-version.version in
      let tested : c.ne.result ≡ not (bytes_eq c.as_str.result.now c.version.result.now) = search rules in
      let differs = texts_differ c.ne.result c.as_str.result.now c.version.result.now (string_bytes found) own tested c.if-ne.true (search rules) c.version.ensures in
      look_settles {X = Unit {0}} (λ trees version. KeepsText trees (codes "version") (string_bytes version)) (λ trees x. IsReadyToReindex own profile trees) RefusesVersion (RefusesReindex own profile) old (state g.S.Store c.kept_version.new.connection)
      found (c.in_ok-version.ensures.looks.look clean) (Err OldFormat) (λ store is. absurd cc) (λ store kept. ((string_bytes found, kept), other_text old store (codes "version") (string_bytes found) own kept differs, one_readable old store (codes "version") found kept));
  crash = search rules;
}

pub returns-in_err-keeps_text-clause-looks : goal.returns-in_err-keeps_text-clause-looks
returns-in_err-keeps_text-clause-looks g c = record {
  idle = search rules;
  look = λ clean.
      let own = version_of g.L.Layout.format in
      let found = c.in_ok-version.version in
      let tested : c.ne.result ≡ not (bytes_eq c.as_str.result.now c.version.result.now) = search rules in
      let same = texts_agree c.ne.result c.as_str.result.now c.version.result.now (string_bytes found) own tested c.if-ne.false (search rules) c.version.ensures in
      let trees = (state g.S.Store c.args.connection.now).now.trees in
      let why = c.in_err-keeps_text.field-0.0 in
      let told : c.from_residual-in_err-keeps_text.result ≡ Err why = search rules in
      rw told (text_ends (state g.S.Store c.args.connection.now) (state g.S.Store c.kept_version.new.connection) (state g.S.Store c.keeps_text.new.connection) found c.kept_version.ensures.looks.crash (omega (arith, c.keeps_text.ensures.looks.crash.clean)) c.in_ok-version.ensures.looks.look
      (codes "identifier") c.as_str-2.result.now (λ trees x. IsReadyToReindex own c.args.profile.now trees) (RefusesReindex own c.args.profile.now)
      why (λ kept is. pattern_as_rule own c.args.profile.now trees (subst (KeepsText trees (codes "version")) same kept) why is) (c.in_err-keeps_text.ensures.looks.look clean));
  crash = search rules;
}

pub returns-clause-looks : goal.returns-clause-looks
returns-clause-looks g c = record {
  idle = search rules;
  look = λ clean.
      let own = version_of g.L.Layout.format in
      let profile = c.args.profile.now in
      let found = c.in_ok-version.version in
      let text = c.as_str-2.result.now in
      let tested : c.ne.result ≡ not (bytes_eq c.as_str.result.now c.version.result.now) = search rules in
      let same = texts_agree c.ne.result c.as_str.result.now c.version.result.now (string_bytes found) own tested c.if-ne.false (search rules) c.version.ensures in
      let trees = (state g.S.Store c.args.connection.now).now.trees in
      let no : c.in_ok-keeps_text.field-0 ≡ false = search rules in
      let spelled : string_bytes c.in_ok-pattern.pattern ≡ pattern_text c.identifier_rule.result.now = search rules in
      let lent : text ≡ string_bytes c.in_ok-pattern.pattern = search rules in
      let pattern : option_map pattern_text (identifier_pattern profile) ≡ Some text = ap (option_map pattern_text) c.identifier_rule.ensures ∙ ap Some (sym (lent ∙ spelled)) in
      text_settles (state g.S.Store c.args.connection.now) (state g.S.Store c.kept_version.new.connection) (state g.S.Store c.keeps_text.new.connection) found c.kept_version.ensures.looks.crash (omega (arith, c.keeps_text.ensures.looks.crash.clean)) c.in_ok-version.ensures.looks.look
      (codes "identifier") text (λ trees x. IsReadyToReindex own profile trees) (RefusesReindex own profile)
      c.in_ok-keeps_text.field-0 (c.in_ok-keeps_text.ensures.looks.look clean) (Err IdentifierRuleChanged) (λ store is. absurd cc)
      (λ kept tells. rule_differs own profile trees text pattern (subst (KeepsText trees (codes "version")) same kept) (subst (TellsText (codes "identifier") text trees) no tells));
  crash = search rules;
}

pub returns-then-branch-clause-looks : goal.returns-then-branch-clause-looks
returns-then-branch-clause-looks g c = record {
  idle = search rules;
  look = λ clean.
      let own = version_of g.L.Layout.format in
      let profile = c.args.profile.now in
      let found = c.in_ok-version.version in
      let text = c.as_str-2.result.now in
      let tested : c.ne.result ≡ not (bytes_eq c.as_str.result.now c.version.result.now) = search rules in
      let same = texts_agree c.ne.result c.as_str.result.now c.version.result.now (string_bytes found) own tested c.if-ne.false (search rules) c.version.ensures in
      let trees = (state g.S.Store c.args.connection.now).now.trees in
      let yes : c.in_ok-keeps_text.field-0 ≡ true = search rules in
      let spelled : string_bytes c.in_ok-pattern.pattern ≡ pattern_text c.identifier_rule.result.now = search rules in
      let lent : text ≡ string_bytes c.in_ok-pattern.pattern = search rules in
      let pattern : option_map pattern_text (identifier_pattern profile) ≡ Some text = ap (option_map pattern_text) c.identifier_rule.ensures ∙ ap Some (sym (lent ∙ spelled)) in
      text_settles (state g.S.Store c.args.connection.now) (state g.S.Store c.kept_version.new.connection) (state g.S.Store c.keeps_text.new.connection) found c.kept_version.ensures.looks.crash (omega (arith, c.keeps_text.ensures.looks.crash.clean)) c.in_ok-version.ensures.looks.look
      (codes "identifier") text (λ trees x. IsReadyToReindex own profile trees) (RefusesReindex own profile)
      c.in_ok-keeps_text.field-0 (c.in_ok-keeps_text.ensures.looks.look clean) (Ok tt) (λ store. tt)
      (λ kept tells. record { has_version = subst (KeepsText trees (codes "version")) same kept; has_rule = (text, pattern, tells.0.0 yes); readable = tells.1 });
  crash = search rules;
}
